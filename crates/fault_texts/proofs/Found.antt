-- Lemmas: a value that is not there is no value that is there; and limits.
use Rattle.std.proofs.Common.{◌≡◌, Bool, true, false, Option, Some, None, Result, Ok, Err, refl, ◌∙◌}
use Rattle.std.specs.Prelude.{IfOk, IsSome, is_none, is_some}
use Rattle.script_language.specs.ReadLines.{in_limits}
use Rattle.script_language.specs.declared.script.Cause.TheVariants as cause
use Rattle.script_language.specs.declared.script.Item.{Item}

pub some_there_is : {X : Type 0} (o : Option X) → is_none o ≡ false → IsSome o
some_there_is None e = absurd cc
some_there_is (Some x) e = refl

limit_false : (b : Bool) (x : Item) → in_limits b x ≡ Err cause.Limits → b ≡ false
limit_false true x e = absurd cc
limit_false false x e = refl

pub limit_found : {X : Type 0} (o : Option X) (b : Bool) (x : Item) → is_none o ≡ b → in_limits b x ≡ Err cause.Limits → IsSome o
limit_found o b x is e = some_there_is o (is ∙ limit_false b x e)

pub none_if : {X E : Type 0} (r : Result (Option X) E) (b : Bool) → IfOk r (λ o. is_none o ≡ b) → b ≡ false → IfOk r IsSome
none_if (Ok o) b h e = some_there_is o (h ∙ e)
none_if (Err x) b h e = tt

pub some_if : {X E : Type 0} (r : Result (Option X) E) (b : Bool) → IfOk r (λ o. is_some o ≡ b) → b ≡ true → IfOk r IsSome
some_if (Ok o) b h e = h ∙ e
some_if (Err x) b h e = tt
