-- What is true of each history: it has no fence of everything (`history_unfenced`), until a moment it is that of as many places (`history_until`), and its
-- uses of satp are all (`uses_are_uses`).
use Rattle.std.specs.Prelude.{◌≡◌, ℕ, zero, suc, Bool, true, false, ◌+◌, ◌-◌, ◌<◌, ◌≤◌, List, [], ◌∷◌, drop, length, map, slice_get, slice_index_or, Option, None, Some, if◌then◌else◌}
use Rattle.std.proofs.Common.{arith, ap, subst, refl, ◌∙◌, inl, inr}
use Rattle.std.proofs.lemmas.Bool.{cases_lt}
use Rattle.std.specs.List.{Contains}
use Rattle.sv39_entry.specs.Satp.{asid}
use Rattle.access_history.specs.History.{satp_at}
use Rattle.access_history.specs.declared.event.Event.{Event}
use Rattle.access_history.specs.declared.event.Event.TheVariants.{Store, WriteSatp, WritePmp, Fence}
use Rattle.access_judge.specs.Search.{AreUses, IsUnfenced, IsUse, Use, begins, fences_address, fences_space, space_fence, stores, until, writes_pmp, writes_satp}
use Rattle.lent_history.specs.Events.{event_at, event_or, history}
use Rattle.lent_history.specs.Scans.{ends, ends_use, use_at}
use Rattle.lent_history.specs.declared.event.LentEvent.{LentEvent}

pub history_length : (es : List LentEvent) (n : ℕ) → length (history es n) ≡ n
history_length es zero = refl
history_length es (suc n) = ap suc (history_length es n)

history_drop : (es : List LentEvent) (d k m : ℕ) → m ≡ d + k → drop d (history es m) ≡ history es k
history_drop es zero k m is = let same : m ≡ k = omega (arith, is) in ap (history es) same
history_drop es (suc d) k zero is = absurd (omega (arith, is))
history_drop es (suc d) k (suc m) is = history_drop es d k m (omega (arith, is))

pub history_until : (es : List LentEvent) (n k : ℕ) → k ≤ n → until (history es n) k ≡ history es k
history_until es n k le =
    ap (λ (m : ℕ). drop (m - k) (history es n)) (history_length es n)
    ∙ history_drop es (n - k) k n (omega (arith, le))

-- ---- no fence of everything

either : (b : Bool) (x y : Event) (h : List Event) → IsUnfenced (x ∷ h) → IsUnfenced (y ∷ h) → IsUnfenced ((if b then x else y) ∷ h)
either true x y h first second = first
either false x y h first second = second

unfenced_one : (o : Option LentEvent) (h : List Event) → IsUnfenced h → IsUnfenced (event_or o ∷ h)
unfenced_one None h un = writes_pmp _ _ un
unfenced_one (Some e) h un =
    either _ _ _ h (stores _ _ _ un)
    (either _ _ _ h (writes_satp _ un) (either _ _ _ h (writes_pmp _ _ un) (either _ _ _ h (fences_address _ _ un) (fences_space _ un))))

pub history_unfenced : (es : List LentEvent) (n : ℕ) → IsUnfenced (history es n)
history_unfenced es zero = begins
history_unfenced es (suc n) = unfenced_one (slice_get es n) (history es n) (history_unfenced es n)

pub not_full : (h : List Event) → IsUnfenced (Fence None None ∷ h) → ⊥
not_full h un = elim un [ ]

-- ---- the uses of satp

mapped : {A B : Type 0} (f : A → B) (xs : List A) (y : B) → Contains (map f xs) y → (x : A) × Contains xs x × (f x ≡ y)
mapped f [] y (k, lt, is) = absurd (omega (arith, lt))
mapped f (x ∷ xs) y (zero, lt, is) = (x, (0, omega arith, refl), is)
mapped f (x ∷ xs) y (suc k, lt, is) =
    let up = mapped f xs y (k, omega (arith, lt), is) in
    (up.0, (suc up.1.0, (let less = up.1.1 in omega (arith, less)), up.1.2), up.2)

mapping : {A B : Type 0} (f : A → B) (xs : List A) (x : A) → Contains xs x → Contains (map f xs) (f x)
mapping f [] x (k, lt, is) = absurd (omega (arith, lt))
mapping f (w ∷ ws) x (zero, lt, is) = (zero, omega arith, ap f is)
mapping f (w ∷ ws) x (suc k, lt, is) =
    let up = mapping f ws x (k, omega (arith, lt), is) in
    (suc up.0, (let less = up.1 in omega (arith, less)), up.2)

module _ (satp : ℕ) (es : List LentEvent) where
  -- the moments of the uses: now, and those before events that may end one
  abbrev moments : ℕ → List ℕ
  moments n = n ∷ ends es n

  is_use : (n m : ℕ) → m ≤ n → IsUse satp (history es n) (use_at satp es n m)
  is_use n m le =
      let same = history_until es n m le in
      let long = history_length es n in
      (refl, (m, omega (arith, le, long), ap (satp_at satp) same, ap (λ (h : List Event). space_fence h (asid (satp_at satp (history es m)))) same))

  ended : (n k m : ℕ) → k < length (ends es n) → slice_index_or (ends es n) k m ≡ m → m < n
  ended zero k m lt is = absurd (omega (arith, lt))
  ended (suc n) k m lt is = go (λ k lt is. let found = ended n k m lt is in omega (arith, found)) (ends_use (event_at es n)) k lt is
    where
      go : ((k : ℕ) → k < length (ends es n) → slice_index_or (ends es n) k m ≡ m → m < suc n) → (b : Bool) (k : ℕ)
          → k < length (if b then n ∷ ends es n else ends es n) → slice_index_or (if b then n ∷ ends es n else ends es n) k m ≡ m → m < suc n
      go further true zero lt is = omega (arith, is)
      go further true (suc k) lt is = further k (omega (arith, lt)) is
      go further false k lt is = further k lt is

  past : (n m : ℕ) → Contains (moments n) m → m ≤ n
  past n m (zero, lt, is) = omega (arith, is)
  past n m (suc k, lt, is) = let less = ended n k m (omega (arith, lt)) is in omega (arith, less)

  only : (n : ℕ) (u : Use) → Contains (map (use_at satp es n) (moments n)) u → IsUse satp (history es n) u
  only n u has =
      let from = mapped (use_at satp es n) (moments n) u has in
      subst (IsUse satp (history es n)) from.2 (is_use n from.0 (past n from.0 from.1))

  -- satp, and the last fence of its ASID, are at one moment as at another
  abbrev Same : ℕ → ℕ → Type 0
  Same k m = (satp_at satp (history es m) ≡ satp_at satp (history es k))
      × (space_fence (history es m) (asid (satp_at satp (history es m))) ≡ space_fence (history es k) (asid (satp_at satp (history es k))))

  unended : (e : Event) (h : List Event) → ends_use e ≡ false
      → (satp_at satp (e ∷ h) ≡ satp_at satp h) × ((s : ℕ) → space_fence (e ∷ h) s ≡ space_fence h s)
  unended (Store p i w) h ne = (refl, λ s. refl)
  unended (WriteSatp w) h ne = absurd (cc)
  unended (WritePmp n e) h ne = (refl, λ s. refl)
  unended (Fence None s) h ne = absurd (cc)
  unended (Fence (Some a) s) h ne = (refl, λ s. refl)

  next : (n k : ℕ) (b : Bool) → ends_use (event_at es n) ≡ b → (m : ℕ) × Contains (moments n) m × Same k m
      → (m : ℕ) × Contains (suc n ∷ (if b then n ∷ ends es n else ends es n)) m × Same k m
  next n k true is (m, (i, lt, at), same) = (m, (suc i, omega (arith, lt), at), same)
  next n k false is (m, (zero, lt, at), same) =
      let more = unended (event_at es n) (history es n) is in
      let satps : satp_at satp (history es (suc n)) ≡ satp_at satp (history es n) = more.0 in
      let fences = ap (λ (w : ℕ). space_fence (history es (suc n)) (asid w)) more.0 ∙ more.1 (asid (satp_at satp (history es n))) in
      let words = ap (λ (j : ℕ). satp_at satp (history es j)) at in
      let epochs = ap (λ (j : ℕ). space_fence (history es j) (asid (satp_at satp (history es j)))) at in
      (suc n, (0, omega arith, refl), (satps ∙ words ∙ same.0, fences ∙ epochs ∙ same.1))
  next n k false is (m, (suc i, lt, at), same) = (m, (suc i, lt, at), same)

  now : (n : ℕ) → (m : ℕ) × Contains (moments n) m × Same n m
  now n = (n, (0, omega arith, refl), (refl, refl))

  covered : (n k : ℕ) → k ≤ n → (m : ℕ) × Contains (moments n) m × Same k m
  covered zero zero le = now zero
  covered zero (suc k) le = absurd (omega (arith, le))
  covered (suc n) k le = elim (cases_lt n k) as (λ _. (m : ℕ) × Contains (moments (suc n)) m × Same k m) [
    | inl last ↦ let same : suc n ≡ k = omega (arith, last, le) in subst (λ (k : ℕ). (m : ℕ) × Contains (moments (suc n)) m × Same k m) same (now (suc n))
    | inr before ↦ next n k (ends_use (event_at es n)) refl (covered n k before)
  ]

  each : (n k : ℕ) → k ≤ length (history es n) → (u : Use) × Contains (map (use_at satp es n) (moments n)) u
      × (u.satp ≡ satp_at satp (until (history es n) k)) × (u.epoch ≡ space_fence (until (history es n) k) (asid (satp_at satp (until (history es n) k))))
  each n k le =
      let long = history_length es n in
      let low : k ≤ n = omega (arith, le, long) in
      let found = covered n k low in
      rw (history_until es n k low) (use_at satp es n found.0, mapping (use_at satp es n) (moments n) found.0 found.1, found.2.0, found.2.1)

  pub uses_are_uses : (n : ℕ) → AreUses satp (history es n) (map (use_at satp es n) (n ∷ ends es n))
  uses_are_uses n = record { only = only n; each = each n }
