use Rattle.std.proofs.Common.{subst, sym}
use Rattle.std.specs.Prelude.{All}
use Rattle.script_reader.specs.ThreadsPlayable.{IsDeclaredLine}
use Rattle.audit_player.proofs.LentLists.{few_lists}
use Rattle.audit_player.proofs.thread_lists.lend_lists.Goals as goal

pub lend_list-requires : goal.lend_list-requires
lend_list-requires c =
    let s = c.args.script.now in
    record { declared = (s.lists, subst (λ images. All (IsDeclaredLine images s.lists) c.calls_of.result.now) (sym c.images-images.ensures) c.calls_of.ensures.declared, few_lists s.images s.lists s.lists c.requires.playable.lists) }
