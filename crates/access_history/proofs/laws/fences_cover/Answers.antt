use Rattle.access_history.proofs.Covering.{no_pointer, not_global, under_after}
use Rattle.access_history.proofs.FullFence.{covered_after}
use Rattle.access_history.proofs.laws.fences_cover.Goals as goal

pub returns : goal.returns
returns c = record { forgets = covered_after; pointer = no_pointer; page = λ x f va h past a s r covered. covered.1.1; global = not_global; walks = under_after }
