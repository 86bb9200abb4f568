-- Lemma: the first seat of a store holds the trampoline's frame (`HoldsTrampoline`), as building a space needs.
use Rattle.std.proofs.Common.{◌≡◌, ℕ, ap, refl, subst, sym, ◌∙◌}
use Rattle.frame_store.specs.Holds.{hold_of-empty, hold_of-with_hold_other, hold_of-with_hold_same}
use Rattle.frame_store.specs.View.{Hold, View, empty_view, opening_view, sole_hold}
use Rattle.address_space.specs.Agreement.{HoldsTrampoline}

pub opens : {size : ℕ} (v : View) → v ≡ opening_view size → HoldsTrampoline v
opens {size} v is = subst HoldsTrampoline (sym is) (record {
  once = ap (λ (h : Hold). h.references) (hold_of-with_hold_same 0 sole_hold (empty_view size));
  others = λ f other. ap (λ (h : Hold). h.references) (hold_of-with_hold_other 0 sole_hold (empty_view size) f other ∙ hold_of-empty size f);
  credits = refl;
})
