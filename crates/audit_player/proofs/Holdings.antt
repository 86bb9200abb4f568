-- Lemmas: the kernel's seat (its capability at the frame store) takes its frames one by one: it begins with frame 0 and
-- credits, holds one frame more for each credit claimed (`HoldsOnce`), and after lending frame 0 holds as many.
use Rattle.std.proofs.Common.{◌≡◌, inl, inr, ℕ, zero, suc, ◌+◌, ◌-◌, ◌*◌, ◌<◌, ◌≤◌, refl, sym, ap, subst, ◌∙◌, arith}
use Rattle.std.proofs.lemmas.Bool.Decides.{eqb_tells}
use Rattle.frame_store.specs.Laws.{IsDry}
use Rattle.frame_store.specs.View.{View, Hold, references, claimed, sole_hold, opening_view, empty_view, spent}
use Rattle.frame_store.specs.Holds.{hold_of-with_hold_same, hold_of-with_hold_other, hold_of-frames, hold_of-empty}
use Rattle.shared_frames.specs.SeatsOfTable.{FitsIn, IsWithin, view_of}
use Rattle.shared_frames.specs.declared.seat.SharedSeat.{SharedSeat}
use Rattle.atomic_table.specs.Seated.{TableId}
use Rattle.shared_frames.specs.Invariant.{one_at_zero}
use Rattle.shared_frames.specs.Totals.{held_frames}
use Rattle.run_roster.specs.Starts.{Lends}
use Rattle.audit_player.specs.KernelFrames.{GainsCredits, HoldsOnce}

-- views with the same references hold as many frames
pub same_held : (n : ℕ) (v w : View) → ((f : ℕ) → f < n → references w f ≡ references v f) → held_frames n w ≡ held_frames n v
same_held zero v w same = refl
same_held (suc n) v w same =
    let here : 1 - one_at_zero (references w n) ≡ 1 - one_at_zero (references v n) = ap (λ (k : ℕ). 1 - one_at_zero k) (same n (omega arith)) in
    let below : held_frames n w ≡ held_frames n v = same_held n v w (λ f lt. same f (omega (arith, lt))) in
    omega (arith, here, below)

-- a frame that was not held is one more
one_more : (n : ℕ) (v w : View) (g : ℕ) → g < n → references v g ≡ 0 → references w g ≡ 1 → ((f : ℕ) → (f ≡ g → ⊥) → references w f ≡ references v f) → held_frames n w ≡ held_frames n v + 1
one_more zero v w g lt none one other = absurd (omega (arith, lt))
one_more (suc n) v w g lt none one other = elim (eqb_tells n g) as (λ _. held_frames (suc n) w ≡ held_frames (suc n) v + 1) [
  | inl t ↦ here t.1
  | inr t ↦ below t.1 (λ less. one_more n v w g less none one other)
]
  where
    here : n ≡ g → held_frames (suc n) w ≡ held_frames (suc n) v + 1
    here is =
        let was : 1 - one_at_zero (references v n) ≡ 0 = ap (λ (k : ℕ). 1 - one_at_zero k) (ap (references v) is ∙ none) in
        let now : 1 - one_at_zero (references w n) ≡ 1 = ap (λ (k : ℕ). 1 - one_at_zero k) (ap (references w) is ∙ one) in
        let rest : held_frames n w ≡ held_frames n v = same_held n v w (λ f lt. other f (λ e. omega (arith, lt, e, is))) in
        omega (arith, was, now, rest)

    below : (n ≡ g → ⊥) → (g < n → held_frames n w ≡ held_frames n v + 1) → held_frames (suc n) w ≡ held_frames (suc n) v + 1
    below apart more =
        let same : 1 - one_at_zero (references w n) ≡ 1 - one_at_zero (references v n) = ap (λ (k : ℕ). 1 - one_at_zero k) (other n apart) in
        let rest : held_frames n w ≡ held_frames n v + 1 = more (omega (arith, lt, apart)) in
        omega (arith, same, rest)

-- a refused reservation leaves what is held
pub still_held : (n : ℕ) (v w : View) → w.size ≡ v.size → IsDry n v w → GainsCredits 0 v w
still_held n v w size dry = record { size = size; frames = dry.frames; credits = dry.credits ∙ omega arith }

pub kept_twice : (v w x : View) → GainsCredits 0 v w → GainsCredits 0 w x → GainsCredits 0 v x
kept_twice v w x one two = record { size = two.size ∙ one.size; frames = two.frames ∙ one.frames; credits = omega (arith, one.credits, two.credits) }

-- two seats at one table know as many frames
pub sizes_agree : (table : TableId) (s t : SharedSeat) → FitsIn table s → FitsIn table t → (view_of t).size ≡ (view_of s).size
sizes_agree table s t one two = omega (arith, one.2.0, two.2.0)

-- the first seat holds the trampoline's frame
opening_references : (size f : ℕ) → (f ≡ 0 → ⊥) → references (opening_view size) f ≡ 0
opening_references size f apart = ap (λ (h : Hold). h.references) (hold_of-with_hold_other 0 sole_hold (empty_view size) f apart ∙ hold_of-empty size f)

opening_trampoline : (size : ℕ) → references (opening_view size) 0 ≡ 1
opening_trampoline size = ap (λ (h : Hold). h.references) (hold_of-with_hold_same 0 sole_hold (empty_view size))

empty_held : (n size : ℕ) → held_frames n (empty_view size) ≡ 0
empty_held zero size = refl
empty_held (suc n) size =
    let none : 1 - one_at_zero (references (empty_view size) n) ≡ 0 = ap (λ (h : Hold). 1 - one_at_zero h.references) (hold_of-empty size n) in
    let rest : held_frames n (empty_view size) ≡ 0 = empty_held n size in
    omega (arith, none, rest)

opening_held : (n size : ℕ) → 1 ≤ n → held_frames n (opening_view size) ≡ 1
opening_held n size some =
    let more : held_frames n (opening_view size) ≡ held_frames n (empty_view size) + 1 = one_more n (empty_view size) (opening_view size) 0 (omega (arith, some)) (ap (λ (h : Hold). h.references) (hold_of-empty size 0)) (opening_trampoline size)
    (λ f apart. opening_references size f apart ∙ sym (ap (λ (h : Hold). h.references) (hold_of-empty size f))) in
    omega (arith, more, empty_held n size)

at_most : (v : View) → ((f : ℕ) → (f ≡ 0 → ⊥) → references v f ≡ 0) → references v 0 ≡ 1 → (f : ℕ) → references v f ≤ 1
at_most v none one f = elim (eqb_tells f 0) as (λ _. references v f ≤ 1) [
  | inl t ↦ subst (λ (g : ℕ). references v g ≤ 1) (sym t.1) (omega (arith, one))
  | inr t ↦ omega (arith, none f t.1)
]

-- the first seat with credits
pub begins_held : (n size : ℕ) (v : View) → 1 ≤ size → GainsCredits n (opening_view size) v → HoldsOnce 1 n v
begins_held n size v some gains =
    let same : (f : ℕ) → references v f ≡ references (opening_view size) f = λ f. ap (λ (h : Hold). h.references) (hold_of-frames v (opening_view size) gains.frames f) in
    record {
      frames = ap (λ (k : ℕ). held_frames k v) gains.size ∙ same_held size (opening_view size) v (λ f lt. same f) ∙ opening_held size size some;
      once = at_most v (λ f apart. same f ∙ opening_references size f apart) (same 0 ∙ opening_trampoline size);
      trampoline = same 0 ∙ opening_trampoline size;
      credits = gains.credits ∙ omega arith;
    }

-- one frame more, for a credit
pub one_more_held : (k n f : ℕ) (v w : View) → HoldsOnce k (suc n) v → references v f ≡ 0 → f < v.size → w ≡ claimed f v → HoldsOnce (k + 1) n w
one_more_held k n f v w holds fresh within is = subst (HoldsOnce (k + 1) n) (sym is) (record {
  frames = one_more v.size v (claimed f v) f within fresh here other ∙ ap (λ (m : ℕ). m + 1) holds.frames;
  once = λ g. elim (eqb_tells g f) as (λ _. references (claimed f v) g ≤ 1) [
    | inl t ↦ subst (λ (q : ℕ). references (claimed f v) q ≤ 1) (sym t.1) (omega (arith, here))
    | inr t ↦ omega (arith, other g t.1, holds.once g)
  ];
  trampoline = other 0 (λ e. not_both holds.trampoline (ap (references v) e ∙ fresh)) ∙ holds.trampoline;
  credits = omega (arith, holds.credits);
})
  where
    taken : View
    taken = record v { credits = v.credits - 1; tallies = spent 1 v.tallies }

    here : references (claimed f v) f ≡ 1
    here = ap (λ (h : Hold). h.references) (hold_of-with_hold_same f sole_hold taken)

    other : (g : ℕ) → (g ≡ f → ⊥) → references (claimed f v) g ≡ references v g
    other g apart = ap (λ (h : Hold). h.references) (hold_of-with_hold_other f sole_hold taken g apart ∙ hold_of-frames taken v refl g)

    not_both : references v 0 ≡ 1 → references v 0 ≡ 0 → ⊥
    not_both one none = omega (arith, one, none)

-- a frame that was claimed has its place at the table
pub place_of_claimed : (words size n f : ℕ) (v w : View) → w ≡ claimed f v → IsWithin words w → words ≡ 513 * n + 1 → size ≡ n → f < size
place_of_claimed words size n f v w is within sized same =
    let taken : View = record v { credits = v.credits - 1; tallies = spent 1 v.tallies } in
    let one : references w f ≡ 1 = ap (λ (x : View). references x f) is ∙ ap (λ (h : Hold). h.references) (hold_of-with_hold_same f sole_hold taken) in
    let place = (within f).0 (omega (arith, one)) in
    omega (arith, place, sized, same)

-- the kernel begins with the trampoline's frame
pub kernel_begins : (table : TableId) (s t : SharedSeat) (n size : ℕ) → view_of s ≡ opening_view size → FitsIn table s → GainsCredits n (view_of s) (view_of t) → HoldsOnce 1 n (view_of t)
kernel_begins table s t n size is fits gains =
    let some : 1 ≤ size = subst (λ (v : View). 1 ≤ v.size) is fits.2.2 in
    begins_held n size (view_of t) some (subst (λ (v : View). GainsCredits n v (view_of t)) is gains)

-- and takes one frame more for each credit
pub kernel_takes : (table : TableId) (s t : SharedSeat) (taken count f : ℕ) → taken < count → HoldsOnce taken (count - taken) (view_of s) → references (view_of s) f ≡ 0 → view_of t ≡ claimed f (view_of s) → FitsIn table s → FitsIn table t
    → HoldsOnce (taken + 1) (count - (taken + 1)) (view_of t)
kernel_takes table s t taken count f more holds fresh is one two =
    let n : ℕ = count - (taken + 1) in
    let spare : count - taken ≡ suc n = omega (arith, more) in
    one_more_held taken n f (view_of s) (view_of t) (subst (λ (m : ℕ). HoldsOnce taken m (view_of s)) spare holds) fresh (place_of_claimed table.words (view_of s).size (view_of t).size f (view_of s) (view_of t) is two.1 two.2.0 (sym (sizes_agree table s t one two))) is

-- a seat that lent its frames holds as many
pub still_kernel : (count : ℕ) (v w : View) → HoldsOnce count 0 v → Lends v w → held_frames w.size w ≡ count
still_kernel count v w holds lends =
    let same : (f : ℕ) → references w f ≡ references v f = λ f. elim (eqb_tells f 0) as (λ _. references w f ≡ references v f) [
      | inl t ↦ subst (λ (g : ℕ). references w g ≡ references v g) (sym t.1) lends.trampoline
      | inr t ↦ ap (λ (h : Hold). h.references) (lends.others f t.1)
    ] in
    ap (λ (n : ℕ). held_frames n w) lends.size ∙ same_held v.size v w (λ f lt. same f) ∙ holds.frames
