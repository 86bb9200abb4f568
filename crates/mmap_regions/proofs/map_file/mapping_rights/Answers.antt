use Rattle.std.proofs.Common.{ℕ, Bool, not, ◌∙◌}
use Rattle.std.specs.Prelude.{bit_and, ◌==◌}
use Rattle.mmap_regions.proofs.Protections.{AreRights, bit_is, set_in_turn}
use Rattle.mmap_regions.proofs.map_file.mapping_rights.Goals as goal
use Rattle.mmap_regions.proofs.map_file.mapping_rights.Goals.{After-set-3}

abbrev test : ℕ → ℕ → Bool
test protection bits = not (bit_and protection bits == 0)

rights : (c : After-set-3) → AreRights (test c.args.protection 3) (test c.args.protection 2) (test c.args.protection 4) c.set-3.new.self.0
rights c = set_in_turn _ _ _ _ _ _ _ (c.empty-rights.ensures tt) (c.set.ensures tt) (c.set-2.ensures tt) (c.set-3.ensures tt)

pub returns-clause-writes : goal.returns-clause-writes
returns-clause-writes c = (rights c).writing ∙ bit_is c.args.protection 1

pub returns-clause-executes : goal.returns-clause-executes
returns-clause-executes c = (rights c).executing ∙ bit_is c.args.protection 2
