use Rattle.std.proofs.Common.{◌≡◌, ◌+◌, ◌-◌, ◌<◌, ◌∙◌, arith, inl, inr, ap, sym, slice_index}
use Rattle.std.proofs.lemmas.Bool.{cases_lt}
use Rattle.frame_store.proofs.Words.{index-part}
use Rattle.frame_store.proofs.zeros.zeros_in_front.Goals as goal

pub groups-preserved : goal.groups-preserved
groups-preserved c = record {
  within = omega (arith, c.groups-test.true);
  zeros = λ i less. elim (cases_lt i c.groups.at) [
    | inl before ↦ c.groups.invariant.zeros i before
    | inr from ↦
        let k = i - c.groups.at in
        let at : c.groups.at + k ≡ i = omega (arith, from) in
        let low : k < c.groups.at + 8 - c.groups.at = omega (arith, from, less) in
        let zero = c.are_zeros.ensures.0 c.if-are_zeros.true k (omega (arith, from, less)) in
        ap (slice_index c.args.words.now) (sym at) ∙ (sym (index-part c.args.words.now c.groups.at (c.groups.at + 8 - c.groups.at) k low) ∙ zero)
  ];
}
