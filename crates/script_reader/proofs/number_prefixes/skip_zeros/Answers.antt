use Rattle.std.proofs.Common.{ℕ, List, ◌∷◌, refl, subst}
use Rattle.script_reader.specs.NumberPrefixes.{IsNumberPrefix}
use Rattle.script_reader.proofs.PrefixNumbers.{front_goes_on, zeros_go_on}
use Rattle.script_reader.proofs.number_prefixes.skip_zeros.Goals as goal

pub zeros-preserved : goal.zeros-preserved
zeros-preserved c =
    let text = c.args.text.now in
    let after = c.in-Some-split_first.after.now in
    let here : IsNumberPrefix 16 text (c.in-Some-split_first.byte.now ∷ after) 0 = subst (λ (r : List ℕ). IsNumberPrefix 16 text r 0) c.in-Some-split_first.ensures.cases.0 c.zeros.invariant in
    let zero : IsNumberPrefix 16 text (48 ∷ after) 0 = subst (λ (b : ℕ). IsNumberPrefix 16 text (b ∷ after) 0) c.if-byte-ne48.false here in
    front_goes_on 16 48 0 0 text after refl zero

pub fours-preserved : goal.fours-preserved
fours-preserved c =
    let text = c.args.text.now in
    zeros_go_on text c.in-Some.after.now (subst (λ (r : List ℕ). IsNumberPrefix 16 text r 0) c.in-Some.ensures c.fours.invariant)
