-- Lemmas for an empty seat split off a process's seat: both are at the one table, a process's seat holds frame 0, and a space
-- whose seat has an equal view is the process that it was.
use Rattle.std.proofs.Common.{◌≡◌, ℕ, List, [], ◌∷◌, ap, refl, sym, subst, ◌∙◌, arith}
use Rattle.atomic_table.specs.Seated.{TableId}
use Rattle.address_space.specs.Agreement.{body_of, IsSpace}
use Rattle.address_space.specs.Steps.{IsBare}
use Rattle.address_space.specs.declared.space.Space.{Space}
use Rattle.address_space.proofs.Owned.{anchored}
use Rattle.frame_store.specs.Holds.{hold_of-empty}
use Rattle.frame_store.specs.Laws.{IsAnchored}
use Rattle.frame_store.specs.View.{Hold, IsHeld, View, empty_view, references}
use Rattle.process_model.specs.Process.{Process}
use Rattle.shared_frames.specs.SeatsOfTable.{AllFit, FitsIn, view_of}
use Rattle.shared_frames.specs.declared.seat.SharedSeat.{SharedSeat}
use Rattle.table_walk.specs.Tables.{Tables}

pub empty_anchored : (size : ℕ) → IsAnchored (empty_view size)
empty_anchored size f held = absurd (let none : references (empty_view size) f ≡ 0 = ap (λ (h : Hold). h.references) (hold_of-empty size f) in omega (arith, none, held))

-- an empty seat holds no frame and has none reserved
pub empty_bare : (size : ℕ) (w : View) → w ≡ empty_view size → IsBare w
empty_bare size w is = subst IsBare (sym is) (record { none = λ f. ap (λ (h : Hold). h.references) (hold_of-empty size f); credits = refl })

-- two seats at a table where there was one
pub fits_both : (z a b : TableId) (s t u : SharedSeat) → a ≡ z → ((others : List SharedSeat) → AllFit a (s ∷ others) → AllFit b (t ∷ u ∷ others)) → FitsIn z s → (b ≡ z) × (FitsIn z t × FitsIn z u)
fits_both z a b s t u is kept fits =
    let here : FitsIn a s = subst (λ y. FitsIn y s) (sym is) fits in
    let after = kept (s ∷ []) (here, (here, tt)) in
    let same : b ≡ z = sym (after.1.1.0).0 ∙ here.0 ∙ is in
    (same, (subst (λ y. FitsIn y t) same after.0, subst (λ y. FitsIn y u) same after.1.0))

-- each process holds frame 0
pub holds_code : (x : Space SharedSeat) → (t : Tables) × (p : Process) × IsSpace (body_of view_of x) t p → IsHeld (view_of x.seat) 0
holds_code x s = anchored (view_of x.seat) _ _ _ s.0 s.1 s.2.stands

-- a space whose seat knows the same is the same process
pub body_still : (x y : Space SharedSeat) → view_of y.seat ≡ view_of x.seat → y.root ≡ x.root → y.trapframe ≡ x.trapframe → y.layout ≡ x.layout → (t : Tables) (p : Process) → IsSpace (body_of view_of x) t p → IsSpace (body_of view_of y) t p
body_still x y view root trapframe layout t p is = rw view (rw root (rw trapframe (rw layout is)))

pub fits_there : (a z : TableId) (s : SharedSeat) → a ≡ z → FitsIn a s → FitsIn z s
fits_there a z s is fits = subst (λ (y : TableId). FitsIn y s) is fits
