-- What is true of each sound history, in the words of the search.
use Rattle.std.specs.Prelude.{◌≡◌, ℕ, ◌≤◌, ◌<◌, ◌-◌, ◌==◌, Bool, true, false, drop, Option, if◌then◌else◌, List, [], ◌∷◌, length, map, slice_index_or}
use Rattle.std.proofs.Common.{zero, suc, sym, ap, subst, refl, inl, inr, ◌∙◌, get_or, arith}
use Rattle.std.specs.List.{Contains, list_any}
use Rattle.std.specs.Option.{unwrap_or}
use Rattle.std.proofs.lemmas.Bool.{and_from, and_parts, eq-eqb, eqb-true, or_cases, or_left, false≢true}
use Rattle.sv39_entry.specs.Satp.{asid}
use Rattle.access_history.specs.History.{satp_at}
use Rattle.access_history.specs.declared.event.Event.{Event}
use Rattle.access_history.specs.declared.event.Event.TheVariants.{Store, WriteSatp, WritePmp, Fence}
use Rattle.std.specs.Prelude.{None, Some}
use Rattle.access_judge.specs.Log.{use_of}
use Rattle.access_judge.specs.Search.{AreUses, IsUnfenced, IsUse, Use, begins, epoch_end, fences_address, fences_space, space_fence, stores, until, writes_pmp, writes_satp}
use Rattle.mmu.specs.Fencing.{ended, of_end}
use Rattle.mmu.specs.Recorded.{IsSound, covers, events_of, is_unfenced, is_used, past_satp, present, uses_of, was_used}
use Rattle.mmu.specs.declared.history.History.{History}
use Rattle.mmu.specs.declared.uses.Used.{Used}

unfenced : (h : List Event) → is_unfenced h ≡ true → IsUnfenced h
unfenced [] is = begins
unfenced (Store p i w ∷ h) is = stores p i w (unfenced h is)
unfenced (WriteSatp w ∷ h) is = writes_satp w (unfenced h is)
unfenced (WritePmp n e ∷ h) is = writes_pmp n e (unfenced h is)
unfenced (Fence (Some a) s ∷ h) is = fences_address a s (unfenced h is)
unfenced (Fence None (Some s) ∷ h) is = fences_space s (unfenced h is)
unfenced (Fence None None ∷ h) is = absurd (false≢true is)

pub sound_unfenced : (h : History) → IsSound h → IsUnfenced (events_of h)
sound_unfenced h s = unfenced (events_of h) s.unfenced

-- what is not known to have ended goes on
ended_or : (h : List Event) (space epoch : ℕ) → unwrap_or (ended h space epoch) (length h) ≡ epoch_end h space epoch
ended_or [] space epoch = choose (0 == epoch) where
  choose : (b : Bool) → unwrap_or (if b then None else Some zero) zero ≡ zero
  choose true = refl
  choose false = refl
ended_or (e ∷ h) space epoch = choose (space_fence (e ∷ h) space == epoch) where
  choose : (b : Bool) → unwrap_or (if b then None else Some (if b then suc (length h) else epoch_end h space epoch)) (suc (length h))
      ≡ (if b then suc (length h) else epoch_end h space epoch)
  choose true = refl
  choose false = refl

-- satp had a word with its epoch at a moment
abbrev WasUsed : ℕ → List Event → Used → Type 0
WasUsed satp h u = (k : ℕ) × (k ≤ length h) × (satp_at satp (until h k) ≡ u.satp) × (space_fence (until h k) (asid u.satp) ≡ u.epoch)

until_all : (h : List Event) → until h (length h) ≡ h
until_all h = let none : length h - length h ≡ zero = omega arith in ap (λ (n : ℕ). drop n h) none

until_older : (e : Event) (h : List Event) (k : ℕ) → k ≤ length h → until (e ∷ h) k ≡ until h k
until_older e h k low = let one : suc (length h) - k ≡ suc (length h - k) = omega (arith, low) in ap (λ (n : ℕ). drop n (e ∷ h)) one

used_now : (satp : ℕ) (h : List Event) (u : Used) → is_used satp h u ≡ true → WasUsed satp h u
used_now satp h u is =
    let parts = and_parts _ _ is in (
      length h,
      omega arith,
      ap (satp_at satp) (until_all h) ∙ eqb-true (satp_at satp h) u.satp parts.0,
      ap (λ (g : List Event). space_fence g (asid u.satp)) (until_all h) ∙ eqb-true (space_fence h (asid u.satp)) u.epoch parts.1,
    )

used_then : (satp : ℕ) (h : List Event) (u : Used) → was_used satp h u ≡ true → WasUsed satp h u
used_then satp [] u is = used_now satp [] u is
used_then satp (e ∷ h) u is = elim (or_cases (is_used satp (e ∷ h) u) (was_used satp h u) is) [
  | inl now ↦ used_now satp (e ∷ h) u now
  | inr before ↦
      let up = used_then satp h u before in
      let low = up.1 in (
        up.0,
        omega (arith, low),
        ap (satp_at satp) (until_older e h up.0 low) ∙ up.2,
        ap (λ (g : List Event). space_fence g (asid u.satp)) (until_older e h up.0 low) ∙ up.3,
      )
]

is_use : (h : History) → IsSound h → (w : Used) → was_used h.first_satp (events_of h) w ≡ true → IsUse h.first_satp (events_of h) (use_of (past_satp h w))
is_use h s w had =
    let was = used_then h.first_satp (events_of h) w had in (
      ap (λ (o : Option ℕ). unwrap_or o (length (events_of h))) (subst (λ (n : ℕ). of_end h.fences (asid w.satp) n ≡ ended (events_of h) (asid w.satp) n) was.3
          (s.fences.ends.each (asid w.satp) was.0 was.1))
          ∙ ended_or (events_of h) (asid w.satp) w.epoch,
      was,
    )

-- each of the words was had
all_used : (h : History) → IsSound h → (us : List Used) → ((k : ℕ) (d : Used) → k < length us → was_used h.first_satp (events_of h) (slice_index_or us k d) ≡ true)
    → (u : Use) (k : ℕ) → k < length (map use_of (map (past_satp h) us)) → get_or (map use_of (map (past_satp h) us)) k u ≡ u
    → IsUse h.first_satp (events_of h) u
all_used h s [] all u k less is = absurd (omega (arith, less))
all_used h s (w ∷ us) all u zero less is = subst (IsUse h.first_satp (events_of h)) is (is_use h s w (all 0 w (omega arith)))
all_used h s (w ∷ us) all u (suc k) less is = all_used h s us (λ j d l. all (suc j) d (omega (arith, l))) u k (omega (arith, less)) is

-- one that passes a test
some_use : (h : History) (test : Used → Bool) (us : List Used) → list_any test us ≡ true
    → (w : Used) × Contains (map use_of (map (past_satp h) us)) (use_of (past_satp h w)) × (test w ≡ true)
some_use h test [] is = absurd (false≢true is)
some_use h test (w ∷ us) is = elim (or_cases (test w) (list_any test us) is) [
  | inl one ↦ (w, (0, omega arith, refl), one)
  | inr rest ↦ let there = some_use h test us rest in (there.0, (suc there.1.0, (let less = there.1.1 in omega (arith, less)), there.1.2), there.2)
]

each_use : (h : History) (us : List Used) (k : ℕ) → list_any (covers h.first_satp (events_of h) k) us ≡ true
    → (u : Use) × Contains (map use_of (map (past_satp h) us)) u × (u.satp ≡ satp_at h.first_satp (until (events_of h) k))
    × (u.epoch ≡ space_fence (until (events_of h) k) (asid (satp_at h.first_satp (until (events_of h) k))))
each_use h us k is =
    let there = some_use h (covers h.first_satp (events_of h) k) us is in
    let parts = and_parts _ _ there.2 in
    (use_of (past_satp h there.0), there.1, eqb-true there.0.satp _ parts.0, eqb-true there.0.epoch _ parts.1)

now_used : (satp : ℕ) (h : List Event) (u : Used) → is_used satp h u ≡ true → was_used satp h u ≡ true
now_used satp [] u is = is
now_used satp (e ∷ h) u is = or_left (is_used satp (e ∷ h) u) (was_used satp h u) is

is_present : (h : History) → IsSound h → is_used h.first_satp (events_of h) (present h) ≡ true
is_present h s = and_from _ _ (eq-eqb _ h.satp (sym s.satps.now)) (eq-eqb _ h.epoch (sym s.satps.epoch_now))

pub satps_are_uses : (h : History) → IsSound h → AreUses h.first_satp (events_of h) (uses_of h)
satps_are_uses h s = record {
  only = λ u has. all_used h s (present h ∷ h.uses.past.items) all u has.0 has.1 has.2;
  each = λ k le. each_use h (present h ∷ h.uses.past.items) k (s.satps.each k le);
}
  where
    all : (k : ℕ) (d : Used) → k < length (present h ∷ h.uses.past.items)
        → was_used h.first_satp (events_of h) (slice_index_or (present h ∷ h.uses.past.items) k d) ≡ true
    all zero d less = now_used h.first_satp (events_of h) (present h) (is_present h s)
    all (suc k) d less = s.satps.only k d (omega (arith, less))
