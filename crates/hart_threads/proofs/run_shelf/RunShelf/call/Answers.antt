-- What the search left open of `call`.
use Rattle.std.proofs.Common.{ap, List, subst, ◌∙◌}
use Rattle.file_shelf.specs.Histories.{HistoryReplays}
use Rattle.hart_threads.proofs.Reaching.{first_same, lent_turn}
use Rattle.process_model.specs.Files.{File}
use Rattle.process_model.specs.PageMoves.{files_after}
use Rattle.hart_threads.proofs.run_shelf.RunShelf.call.Goals as goal

pub returns-clause-over : goal.returns-clause-over
returns-clause-over g c =
    let a = c.args.self.now.shelf in
    let is = c.args.self.now.first in
    lent_turn g.B.RunBrand.table g.W.RunFiles.files c.args.tracked c.turn.result c.args.slot a c.turn.new.shelf
    (record { moves = a.history; right = subst (λ (fs : List File). HistoryReplays fs a.history) is c.replays.ensures.right; are = c.replays.ensures.files ∙ ap (λ (fs : List File). files_after fs a.history) is }) c.turn.ensures.turned c.turn.ensures.files

pub invariant_of-self : goal.invariant_of-self
invariant_of-self g c = record { first = first_same c.args.tracked c.turn.result c.args.self.now.shelf c.turn.new.shelf c.turn.ensures.files ∙ c.args.self.now.first }
