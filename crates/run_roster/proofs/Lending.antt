-- Lemmas on splitting a seat off the kernel's: what the kernel's keeps (`Lends`), that the new one holds frame 0 or nothing,
-- that nothing is left once frame 0 is released, and that both are at one table.
use Rattle.std.proofs.Common.{◌≡◌, ℕ, zero, suc, ◌-◌, ◌==◌, false, cond, ap, refl, subst, sym, ◌∙◌, List, [], ◌∷◌, arith, Result, Ok, Err}
use Rattle.std.specs.Prelude.{IfErr, IfOk}
use Rattle.atomic_table.specs.Seated.{TableId}
use Rattle.address_space.specs.Agreement.{HoldsTrampoline}
use Rattle.address_space.specs.Steps.{IsBare}
use Rattle.frame_store.specs.Holds.{hold_of-empty, hold_of-frames, hold_of-with_hold_other, hold_of-with_hold_same, hold_of-without_hold_other, hold_of-without_hold_same}
use Rattle.frame_store.specs.Laws.{IsAnchored, IsDry, KeepsSeats}
use Rattle.frame_store.specs.SeatOpening.{opened, opener}
use Rattle.frame_store.specs.View.{Hold, View, empty_view, hold_of, read_full, references, released, with_hold, without_hold}
use Rattle.shared_frames.specs.SeatsOfTable.{AllFit, FitsIn, fits_still, view_of}
use Rattle.shared_frames.specs.declared.seat.SharedSeat.{SharedSeat}
use Rattle.run_roster.specs.Starts.{Lends}

-- lending

pub lends_opener : (v w : View) → w ≡ opener v → Lends v w
lends_opener v w is =
    let here = hold_of-with_hold_same 0 (record (hold_of v 0) { sole = false }) v in
    subst (Lends v) (sym is) (record {
      size = refl;
      credits = refl;
      trampoline = ap (λ (h : Hold). h.references) here;
      words = ap (λ (h : Hold). h.words) here;
      others = λ f ne. hold_of-with_hold_other 0 (record (hold_of v 0) { sole = false }) v f ne;
    })

pub lends_full : (v w : View) → w ≡ read_full v → Lends v w
lends_full v w is = subst (Lends v) (sym is) (record {
  size = refl;
  credits = refl;
  trampoline = ap (λ (h : Hold). h.references) (hold_of-frames (read_full v) v refl 0);
  words = ap (λ (h : Hold). h.words) (hold_of-frames (read_full v) v refl 0);
  others = λ f ne. hold_of-frames (read_full v) v refl f;
})

pub lends_on : (u v w : View) → Lends u v → Lends v w → Lends u w
lends_on u v w a b = record {
  size = b.size ∙ a.size;
  credits = b.credits ∙ a.credits;
  trampoline = b.trampoline ∙ a.trampoline;
  words = b.words ∙ a.words;
  others = λ f ne. b.others f ne ∙ a.others f ne;
}

-- a seat that holds frame 0 once and nothing else

pub opened_ready : (v w : View) → w ≡ opened v → HoldsTrampoline w
opened_ready v w is = subst HoldsTrampoline (sym is) (record {
  once = ap (λ (h : Hold). h.references) (hold_of-with_hold_same 0 record { references = 1; sole = false; words = (hold_of v 0).words } (empty_view v.size));
  others = λ f other. ap (λ (h : Hold). h.references) (hold_of-with_hold_other 0 record { references = 1; sole = false; words = (hold_of v 0).words } (empty_view v.size) f other ∙ hold_of-empty v.size f);
  credits = refl;
})

pub ready_still : (n : ℕ) (v w : View) → IsDry n v w → HoldsTrampoline v → HoldsTrampoline w
ready_still n v w dry ready = record {
  once = ap (λ (h : Hold). h.references) (hold_of-frames w v dry.frames 0) ∙ ready.once;
  others = λ f ne. ap (λ (h : Hold). h.references) (hold_of-frames w v dry.frames f) ∙ ready.others f ne;
  credits = dry.credits ∙ ready.credits;
}

last_one : (v : View) → references v 0 ≡ 1 → released 0 v ≡ without_hold 0 v
last_one v is = ap (λ n. cond (n == 1) (without_hold 0 v) (with_hold 0 (record (hold_of v 0) { references = references v 0 - 1 }) v)) is

-- nothing is left of it once frame 0 is let go

released_bare : (v : View) → HoldsTrampoline v → IsBare (released 0 v)
released_bare v ready = subst IsBare (sym (last_one v ready.once)) (record { none = none; credits = ready.credits })
  where
    none : (f : ℕ) → references (without_hold 0 v) f ≡ 0
    none zero = ap (λ (h : Hold). h.references) (hold_of-without_hold_same 0 v)
    none (suc f) = ap (λ (h : Hold). h.references) (hold_of-without_hold_other 0 v (suc f) (λ e. cc)) ∙ ready.others (suc f) (λ e. cc)

pub stripped_bare : (v w : View) → HoldsTrampoline v → w ≡ released 0 v → IsBare w
stripped_bare v w ready is = subst IsBare (sym is) (released_bare v ready)

pub stripped_tallies : (v w : View) → HoldsTrampoline v → w ≡ released 0 v → w.tallies ≡ v.tallies
stripped_tallies v w ready is = ap (λ (u : View). u.tallies) (is ∙ last_one v ready.once)

pub released_anchored : (v : View) → HoldsTrampoline v → IsAnchored (released 0 v)
released_anchored v ready f held = absurd (let none = (released_bare v ready).none f in omega (arith, none, held))

-- a seat that holds nothing

pub empty_bare : (size : ℕ) (w : View) → w ≡ empty_view size → IsBare w
empty_bare size w is = subst IsBare (sym is) (record { none = λ f. ap (λ (h : Hold). h.references) (hold_of-empty size f); credits = refl })

pub empty_anchored : (size : ℕ) → IsAnchored (empty_view size)
empty_anchored size f held = absurd (let none : references (empty_view size) f ≡ 0 = ap (λ (h : Hold). h.references) (hold_of-empty size f) in omega (arith, none, held))

-- tables

-- two seats at a table where there was one
pub fits_both : (z a b : TableId) (s t u : SharedSeat) → a ≡ z → ((others : List SharedSeat) → AllFit a (s ∷ others) → AllFit b (t ∷ u ∷ others)) → FitsIn z s → (b ≡ z) × (FitsIn z t × FitsIn z u)
fits_both z a b s t u is kept fits =
    let here : FitsIn a s = subst (λ y. FitsIn y s) (sym is) fits in
    let after = kept (s ∷ []) (here, (here, tt)) in
    let same : b ≡ z = sym (after.1.1.0).0 ∙ here.0 ∙ is in
    (same, (subst (λ y. FitsIn y t) same after.0, subst (λ y. FitsIn y u) same after.1.0))

-- a seat that was opened, or the count of frame 0 was full
module _ {E : Type 0} (z b : TableId) (s t : SharedSeat) (fits : FitsIn z s) where
  abbrev Opens : Result SharedSeat E → Type 0
  Opens r = IfOk r (λ _. view_of t ≡ opener (view_of s)) × IfOk r (λ u. view_of u ≡ opened (view_of s)) × IfErr r (λ _. view_of t ≡ read_full (view_of s))
      × IfOk r (λ u. (others : List SharedSeat) → AllFit z (s ∷ others) → AllFit b (t ∷ u ∷ others)) × IfErr r (λ _. KeepsSeats AllFit z s b t)

  pub opens_seat : (r : Result SharedSeat E) → Opens r → IfOk r (λ u. FitsIn z u × HoldsTrampoline (view_of u))
  opens_seat (Ok u) o = ((fits_both z z b s t u refl o.3 fits).1.1, opened_ready _ _ o.1)
  opens_seat (Err e) o = tt

  pub opens_lends : (r : Result SharedSeat E) → Opens r → Lends (view_of s) (view_of t)
  opens_lends (Ok u) o = lends_opener _ _ o.0
  opens_lends (Err e) o = lends_full _ _ o.2

  pub opens_looks : (r : Result SharedSeat E) → Opens r → IfOk r (λ _. (view_of t).tallies.looks ≡ (view_of s).tallies.looks)
  opens_looks (Ok u) o = ap (λ (v : View). v.tallies.looks) o.0
  opens_looks (Err e) o = tt

  pub opens_fresh : (r : Result SharedSeat E) → Opens r → IfOk r (λ u. (view_of u).tallies.claims ≡ 0)
  opens_fresh (Ok u) o = ap (λ (v : View). v.tallies.claims) o.1
  opens_fresh (Err e) o = tt

  pub opens_store : (r : Result SharedSeat E) → Opens r → b ≡ z
  opens_store (Ok u) o = (fits_both z z b s t u refl o.3 fits).0
  opens_store (Err e) o = (fits_still z z b s t refl o.4 fits).0

  pub opens_fits : (r : Result SharedSeat E) → Opens r → FitsIn z t
  opens_fits (Ok u) o = (fits_both z z b s t u refl o.3 fits).1.0
  opens_fits (Err e) o = (fits_still z z b s t refl o.4 fits).1

-- a seat where another name of its table is wanted
pub fits_at : (a z : TableId) (s : SharedSeat) → a ≡ z → FitsIn z s → FitsIn a s
fits_at a z s is fits = subst (λ (y : TableId). FitsIn y s) (sym is) fits
