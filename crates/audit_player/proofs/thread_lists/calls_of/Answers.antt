use Rattle.std.proofs.Common.{◌≡◌, Some, ap, sym, ◌∙◌}
use Rattle.std.specs.Option.{option_map}
use Rattle.script_language.specs.ThreadScript.{calls_of}
use Rattle.audit_player.proofs.LentLists.{calls_declared}
use Rattle.audit_player.specs.ThreadLists.{or_no_lines}
use Rattle.audit_player.proofs.thread_lists.calls_of.Goals as goal

pub returns-in-Some : goal.returns-in-Some
returns-in-Some c =
    let s = c.args.script.now in
    let there : calls_of s.lists c.args.number ≡ Some c.in-Some.calls.now = sym c.calls.ensures ∙ ap (option_map (λ calls. calls.now)) c.in-Some.is in
    record { declared = calls_declared s.images s.lists s.lists c.args.number c.in-Some.calls.now c.requires.playable.lists there; is = sym (ap or_no_lines there) }
