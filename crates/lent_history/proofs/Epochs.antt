-- Lemmas of the end of an epoch of an ASID: the moment before its next fence, or now.
use Rattle.std.proofs.Common.{◌≡◌, ℕ, zero, suc, ◌+◌, ◌<◌, ◌≤◌, true, false, List, [], ◌∷◌, length, Some, None, refl, ap, sym, subst, ◌∙◌, inl, inr, arith, add-one}
use Rattle.std.proofs.lemmas.Bool.{cases_eq, eq-eqb, ne_eqb}
use Rattle.access_history.specs.declared.event.Event.{Event}
use Rattle.access_history.specs.declared.event.Event.TheVariants.{Store, WriteSatp, WritePmp, Fence}
use Rattle.access_judge.specs.Search.{epoch_end, space_fence}
use Rattle.lent_history.specs.Events.{event_at, history}
use Rattle.lent_history.specs.Laws.{history_length}
use Rattle.lent_history.specs.Scans.{is_space_fence}
use Rattle.lent_history.specs.declared.event.LentEvent.{LentEvent}

space_low : (h : List Event) (n : ℕ) → space_fence h n ≤ length h
space_low [] n = omega arith
space_low (Store p i w ∷ h) n = let low = space_low h n in omega (arith, low)
space_low (WriteSatp w ∷ h) n = let low = space_low h n in omega (arith, low)
space_low (WritePmp k e ∷ h) n = let low = space_low h n in omega (arith, low)
space_low (Fence (Some a) t ∷ h) n = let low = space_low h n in omega (arith, low)
space_low (Fence None None ∷ h) n = omega arith
space_low (Fence None (Some t) ∷ h) n = let low = space_low h n in elim (cases_eq t n) [
  | inl here ↦ rw (eq-eqb t n here) (omega arith)
  | inr other ↦ rw (ne_eqb t n other) (omega (arith, low))
]

more : (e : Event) (h : List Event) (n : ℕ) → space_fence h n ≤ space_fence (e ∷ h) n
more (Store p i w) h n = omega arith
more (WriteSatp w) h n = omega arith
more (WritePmp k e) h n = omega arith
more (Fence (Some a) t) h n = omega arith
more (Fence None None) h n = let low = space_low h n in omega (arith, low)
more (Fence None (Some t)) h n = let low = space_low h n in elim (cases_eq t n) [
  | inl here ↦ rw (eq-eqb t n here) (omega (arith, low))
  | inr other ↦ rw (ne_eqb t n other) (omega arith)
]

fence_is : (e : Event) (h : List Event) (n : ℕ) → is_space_fence e n ≡ true → space_fence (e ∷ h) n ≡ suc (length h)
fence_is (Store p i w) h n is = cc
fence_is (WriteSatp w) h n is = cc
fence_is (WritePmp k e) h n is = cc
fence_is (Fence (Some a) t) h n is = cc
fence_is (Fence None None) h n is = refl
fence_is (Fence None (Some t)) h n is = rw is refl

fence_none : (e : Event) (h : List Event) (n : ℕ) → is_space_fence e n ≡ false → space_fence (e ∷ h) n ≡ space_fence h n
fence_none (Store p i w) h n is = refl
fence_none (WriteSatp w) h n is = refl
fence_none (WritePmp k e) h n is = refl
fence_none (Fence (Some a) t) h n is = refl
fence_none (Fence None None) h n is = cc
fence_none (Fence None (Some t)) h n is = rw is refl

-- an event that is no fence of the ASID
pub no_fence : (es : List LentEvent) (k space : ℕ) (e : Event) → e ≡ event_at es k → is_space_fence e space ≡ false
    → space_fence (history es (k + 1)) space ≡ space_fence (history es k) space
no_fence es k space e at is =
    ap (λ (m : ℕ). space_fence (history es m) space) (add-one k)
    ∙ fence_none (event_at es k) (history es k) space (subst (λ (d : Event). is_space_fence d space ≡ false) at is)

-- where the epoch is the present one, it ends now
now_by : (h : List Event) (space epoch : ℕ) → space_fence h space ≡ epoch → epoch_end h space epoch ≡ length h
now_by [] space epoch same = refl
now_by (e ∷ h) space epoch same = rw (eq-eqb (space_fence (e ∷ h) space) epoch same) refl

pub end_now : (es : List LentEvent) (n space epoch : ℕ) → space_fence (history es n) space ≡ epoch → n ≡ epoch_end (history es n) space epoch
end_now es n space epoch same = sym (now_by (history es n) space epoch same ∙ history_length es n)

-- after a fence of the ASID the last one is that or a later one
later : (es : List LentEvent) (k n space : ℕ) → k < n → is_space_fence (event_at es k) space ≡ true → suc k ≤ space_fence (history es n) space
later es k zero space lt is = absurd (omega (arith, lt))
later es k (suc n) space lt is = elim (cases_eq k n) [
  | inl last ↦
      let here = subst (λ (m : ℕ). is_space_fence (event_at es m) space ≡ true) last is in
      let fence = fence_is (event_at es n) (history es n) space here in
      let long = history_length es n in
      omega (arith, fence, long, last)
  | inr before ↦
      let up = later es k n space (omega (arith, lt, before)) is in
      let grows = more (event_at es n) (history es n) space in
      omega (arith, up, grows)
]

-- an epoch ends right before the next fence of its ASID
pub end_at_fence : (es : List LentEvent) (k n space epoch : ℕ) → k < n → is_space_fence (event_at es k) space ≡ true
    → space_fence (history es k) space ≡ epoch → k ≡ epoch_end (history es n) space epoch
end_at_fence es k zero space epoch lt is same = absurd (omega (arith, lt))
end_at_fence es k (suc n) space epoch lt is same =
    let last = later es k (suc n) space lt is in
    let low = space_low (history es k) space in
    let long = history_length es k in
    let apart = ne_eqb (space_fence (history es (suc n)) space) epoch (λ equal. absurd (omega (arith, last, low, long, same, equal))) in
    rw apart (before (λ further. end_at_fence es k n space epoch further is same))
  where
    before : (k < n → k ≡ epoch_end (history es n) space epoch) → k ≡ epoch_end (history es n) space epoch
    before up = elim (cases_eq k n) [
      | inl here ↦ subst (λ (m : ℕ). k ≡ epoch_end (history es m) space epoch) here (end_now es k space epoch same)
      | inr further ↦ up (omega (arith, lt, further))
    ]
