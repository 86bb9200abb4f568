use Rattle.std.proofs.Common.{◌&&◌, ◌-◌, ap, ◌∙◌, ℕ, Some, nat_eq, if◌then◌else◌}
use Rattle.mmu.specs.Fencing.{of_end}
use Rattle.mmu.proofs.Recording.{on_ok}
use Rattle.mmu.proofs.fences.Fences.add_space.Goals as goal

pub returns-clause-ends : goal.returns-clause-ends
returns-clause-ends c = λ s epoch.
    (on_ok c.insert.result _ (c.insert.ensures.succeeds c.requires.room.1) c.insert.ensures.updates).0 (s, epoch)
    ∙ ap (λ (n : ℕ). if nat_eq c.args.asid s && nat_eq n epoch then Some (c.args.number - 1) else of_end c.args.self.now s epoch) c.of_space-last.ensures
