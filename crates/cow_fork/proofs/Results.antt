-- A lemma (`err_told`): a statement that holds in any case holds of a result that is an error.
use Rattle.std.proofs.Common.{Result, Ok, Err}
use Rattle.std.specs.Prelude.{IfErr}

pub err_told : {A E : Type 0} (r : Result A E) (P : Type 0) → P → IfErr r (λ _. P)
err_told (Ok a) P is = tt
err_told (Err e) P is = is
