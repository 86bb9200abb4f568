-- Predicates: how many words a table of n frames has (`IsSized`), a seat is at a table (`FitsIn`), all seats of a list are
-- (`AllFit`, the invariant of the stores `SharedAccess` and `SharedSupply`). Laws: seats may be in any order; a seat at the
-- table may make a call or be joined, and is at the table afterwards, also after a split; held frames exist.
use Rattle.std.proofs.Common.{refl, sym, subst, ◌∙◌, arith}
use Rattle.std.specs.Prelude.{◌≡◌, ℕ, ◌+◌, ◌*◌, ◌<◌, ◌≤◌, List, [], ◌∷◌, ◌++◌, IsTrue}
use Rattle.atomic_table.specs.Seated.{TableId}
use Rattle.frame_store.specs.View.{View, Hold, hold_of, IsHeld, empty_view}
use Rattle.frame_store.specs.Laws.{IsSeatOf, KeepsSeats}
use Rattle.frame_store.specs.Holds.{hold_of-empty}
use Rattle.shared_frames.specs.declared.seat.SharedSeat.{SharedSeat}
use Rattle.process_model.specs.declared.limits.TheConstants.{MOST_FRAMES, MOST_SHARED_FRAMES}

-- a table with this many words has n frames, 1 to 256: 513 words for each, and one for the free count
abbrev pub IsSized : ℕ → ℕ → Type 0
IsSized words n = (words ≡ 513 * n + 1) × (n ≤ MOST_SHARED_FRAMES) × (1 ≤ n)

-- the words of a held frame f are among this many words of the table, and only a held frame has the sole-holder flag
abbrev pub FrameFits : ℕ → ℕ → Hold → Type 0
FrameFits words f h = (0 < h.references → 513 * f + 513 < words) × (IsTrue h.sole → 0 < h.references)

-- each hold of the view is so. The table's invariant implies this; said of a seat alone, it lets a call know that the words
-- of its frames exist before it makes its step
abbrev pub IsWithin : ℕ → View → Type 0
IsWithin words v = (f : ℕ) → FrameFits words f (hold_of v f)

-- the number of frames in the view is that of the table
abbrev pub IsOfSize : ℕ → View → Type 0
IsOfSize words v = IsSized words v.size

-- the view of a seat
abbrev pub view_of : SharedSeat → View
view_of s = s.seat.me.0

-- the seat is at the table with this identity, and its view fits the number of words there
abbrev pub FitsIn : TableId → SharedSeat → Type 0
FitsIn table s = (s.seat.table_id ≡ table) × IsWithin table.words (view_of s) × IsOfSize table.words (view_of s)

-- each seat of the list is so: this is the invariant (`rule`) of the stores `SharedAccess` and `SharedSupply`
abbrev pub AllFit : TableId → List SharedSeat → Type 0
AllFit table [] = Unit {0}
AllFit table (s ∷ ss) = FitsIn table s × AllFit table ss

-- the order of the seats does not matter
pub to_front : (table : TableId) (xs : List SharedSeat) (a : SharedSeat) (ys : List SharedSeat) → AllFit table (xs ++ a ∷ ys) → AllFit table (a ∷ xs ++ ys)
to_front table [] a ys h = h
to_front table (x ∷ xs) a ys h = let t = to_front table xs a ys h.1 in (t.0, (h.0, t.1))

pub to_back : (table : TableId) (xs : List SharedSeat) (a : SharedSeat) (ys : List SharedSeat) → AllFit table (a ∷ xs ++ ys) → AllFit table (xs ++ a ∷ ys)
to_back table [] a ys h = h
to_back table (x ∷ xs) a ys h = (h.1.0, to_back table xs a ys (h.0, h.1.1))

no_frame : (words size : ℕ) → IsWithin words (empty_view size)
no_frame words size f = subst (FrameFits words f) (sym (hold_of-empty size f)) ((λ q. absurd (omega arith)), (λ q. absurd (cc)))

-- A call that keeps all seats keeps the table, and its seat is at it afterwards. For callers that name the table z
pub fits_still : (z a b : TableId) (s t : SharedSeat) → a ≡ z → KeepsSeats AllFit a s b t → FitsIn z s → (b ≡ z) × FitsIn z t
fits_still z a b s t is kept fits =
    let size : ℕ = (view_of s).size in
    let other : SharedSeat = record s { seat = record s.seat { table_id = a; me = (empty_view size, []) }; no_slot = refl } in
    let here : FitsIn a s = subst (λ y. FitsIn y s) (sym is) fits in
    let same : b ≡ z = sym (kept (other ∷ []) (here, ((refl, no_frame a.words size, here.2), tt))).1.0.0 ∙ is in
    (same, subst (λ y. FitsIn y t) same (kept [] (subst (λ y. FitsIn y s) (sym is) fits, tt)).0)

-- a seat may make a call of a store that has the seat's table
pub may_step : (z a : TableId) (s : SharedSeat) → a ≡ z → FitsIn z s → IsSeatOf AllFit a s
may_step z a s is fits = ([], (subst (λ y. FitsIn y s) (sym is) fits, tt))

-- after a split both seats are at the table
pub fits_parted : (z a b : TableId) (s t u : SharedSeat) → a ≡ z → b ≡ a
    → ((others : List SharedSeat) → AllFit a (s ∷ others) → AllFit b (t ∷ u ∷ others)) → FitsIn z s → FitsIn z t × FitsIn z u
fits_parted z a b s t u is same kept fits =
    let both = kept [] (subst (λ y. FitsIn y s) (sym is) fits, tt) in
    (subst (λ y. FitsIn y t) (same ∙ is) both.0, subst (λ y. FitsIn y u) (same ∙ is) both.1.0)

-- two seats at a table may be joined, and the joined seat is at it
pub may_join : (z a : TableId) (s u : SharedSeat) → a ≡ z → FitsIn z s → FitsIn z u → (others : List SharedSeat) × AllFit a (s ∷ u ∷ others)
may_join z a s u is first second = ([], (subst (λ y. FitsIn y s) (sym is) first, (subst (λ y. FitsIn y u) (sym is) second, tt)))

pub fits_joined : (z a b : TableId) (s u t : SharedSeat) → a ≡ z → b ≡ a
    → ((others : List SharedSeat) → AllFit a (s ∷ u ∷ others) → AllFit b (t ∷ others)) → FitsIn z s → FitsIn z u → FitsIn z t
fits_joined z a b s u t is same kept first second =
    subst (λ y. FitsIn y t) (same ∙ is) (kept [] (subst (λ y. FitsIn y s) (sym is) first, (subst (λ y. FitsIn y u) (sym is) second, tt))).0

-- a table has at most 1,024 frames, and a held frame is one of them
pub held_within : (table : TableId) (s : SharedSeat) (ss : List SharedSeat) → AllFit table (s ∷ ss) → ((view_of s).size ≤ MOST_FRAMES)
    × ((f : ℕ) → IsHeld (view_of s) f → f < (view_of s).size)
held_within table s ss fit =
    let sized = (fit.0).2 in
    (omega (arith, sized.1), λ f held. let place = ((fit.0).1 f).0 held in omega (arith, place, sized.0))
