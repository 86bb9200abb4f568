-- What the search left open of `call`.
use Rattle.std.proofs.Common.{List, subst}
use Rattle.hart_threads.proofs.Reaching.{free_turn}
use Rattle.run_roster.specs.FilesOfRun.{HasGoneOver}
use Rattle.process_model.specs.Files.{File}
use Rattle.hart_threads.proofs.hart.HartThread.call.Goals as goal

pub returns-then-needs_files-clause-over : goal.returns-then-needs_files-clause-over
returns-then-needs_files-clause-over g c = subst (λ (fs : List File). HasGoneOver fs c.args.tracked c.call.result) c.args.self.now.of_files c.call.ensures.over

pub returns-else-needs_files-clause-over : goal.returns-else-needs_files-clause-over
returns-else-needs_files-clause-over g c =
    free_turn g.B.Plan.files c.args.tracked (λ need. let yes = c.needs_files.ensures.1 need in let no = c.if-needs_files.false in cc) g.B.RunBrand.table c.next_call.result c.args.slot c.next_call.ensures.turned
