use Rattle.std.proofs.Common.{◌∙◌}
use Rattle.lent_history.proofs.Protected.{restarts}
use Rattle.lent_history.proofs.recording.restart.Goals as goal

pub returns : goal.returns
returns c =
    restarts c.args.hart.now c.args.events.now c.used-used.result c.to_word-hart.result c.from_word.result c.entries_after-entries.result c.put_entries.new.places
    c.used-used.ensures c.from_word.ensures (c.to_word-hart.ensures ∙ c.satp_at-satp.ensures) c.entries_after-entries.ensures.entries
    c.entries_after-entries.ensures.count c.put_entries.ensures
