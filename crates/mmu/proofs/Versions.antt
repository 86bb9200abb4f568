-- The versions of a word, by the word and the last store to it.
use Rattle.std.proofs.Common.{◌≡◌, inl, inr, ℕ, zero, suc, ◌≤◌, Bool, ◌&&◌, nat_eq, Option, None, Some, List, [], ◌∷◌, length, refl, ap, sym, ◌∙◌, subst, arith}
use Rattle.std.proofs.lemmas.Bool.{cases_Bool, eqb-true, eq-eqb, ne_eqb, eqb-false, cond-true, cond-false}
use Rattle.std.proofs.lemmas.Option.{none-some}
use Rattle.access_history.specs.History.{Memory, memory_at}
use Rattle.access_history.specs.declared.event.Event.{Event}
use Rattle.access_history.specs.declared.event.Event.TheVariants.{Store, WriteSatp, WritePmp, Fence}
use Rattle.access_judge.specs.Log.{versions_before}
use Rattle.access_judge.specs.Search.{Version, first_version, until, versions, versions_until}
use Rattle.mmu.specs.Recorded.{last_store}
use Rattle.mmu.proofs.Moments.{length-until, until-until, until_more, until_now}

pub flipped : (a b : ℕ) → nat_eq a b ≡ nat_eq b a
flipped a b = elim (cases_Bool (nat_eq a b)) [
  | inl alike ↦ alike ∙ sym (eq-eqb b a (sym (eqb-true a b alike)))
  | inr apart ↦ apart ∙ sym (ne_eqb b a (λ e. eqb-false a b apart (sym e)))
]

pub last_bound : (h : List Event) (p i : ℕ) → last_store h p i ≤ length h
last_bound [] p i = omega arith
last_bound (Store q j w ∷ h) p i = let low = last_bound h p i in elim (cases_Bool (nat_eq q p && nat_eq j i)) [
  | inl here ↦ rw here (omega arith)
  | inr other ↦ rw other (omega (arith, low))
]
last_bound (WriteSatp w ∷ h) p i = let low = last_bound h p i in omega (arith, low)
last_bound (WritePmp n e ∷ h) p i = let low = last_bound h p i in omega (arith, low)
last_bound (Fence a s ∷ h) p i = let low = last_bound h p i in omega (arith, low)

before_more : (m : Memory) (e : Event) (h : List Event) (p i s : ℕ) → s ≤ length h → versions_before m (e ∷ h) p i s ≡ versions_before m h p i s
before_more m e h p i zero le = refl
before_more m e h p i (suc s) le = ap (λ (g : List Event). versions m g p i) (until_more e h s (omega (arith, le)))

abbrev Gives : Memory → List Event → ℕ → ℕ → ℕ → Option ℕ → Type 0
Gives m h last p i None = versions_until last m h p i ≡ []
Gives m h last p i (Some w) = versions_until last m h p i ≡ record { word = w; last = last } ∷ versions_before m h p i (last_store h p i)

at_first : (m : Memory) (last p i : ℕ) (o : Option ℕ) → m p i ≡ o → Gives m [] last p i o
at_first m last p i None is = ap (first_version last) is
at_first m last p i (Some w) is = ap (first_version last) is

-- an event that is no store to the word
on : (m : Memory) (e : Event) (h : List Event) (last p i : ℕ) (o : Option ℕ) → versions_until last m (e ∷ h) p i ≡ versions_until last m h p i
    → last_store (e ∷ h) p i ≡ last_store h p i → Gives m h last p i o → Gives m (e ∷ h) last p i o
on m e h last p i None same _ is = same ∙ is
on m e h last p i (Some w) same since is =
    same ∙ is ∙ ap (λ (vs : List Version). record { word = w; last = last } ∷ vs)
    (sym (before_more m e h p i (last_store h p i) (last_bound h p i)) ∙ ap (versions_before m (e ∷ h) p i) (sym since))

pub given : (m : Memory) (h : List Event) (last p i : ℕ) → Gives m h last p i (memory_at m h p i)
given m [] last p i = at_first m last p i (m p i) refl
given m (WriteSatp w ∷ h) last p i = on m (WriteSatp w) h last p i (memory_at m h p i) refl refl (given m h last p i)
given m (WritePmp n e ∷ h) last p i = on m (WritePmp n e) h last p i (memory_at m h p i) refl refl (given m h last p i)
given m (Fence a s ∷ h) last p i = on m (Fence a s) h last p i (memory_at m h p i) refl refl (given m h last p i)
given m (Store q j w ∷ h) last p i =
    let sides : (nat_eq p q && nat_eq i j) ≡ (nat_eq q p && nat_eq j i) =
    ap (λ (b : Bool). b && nat_eq i j) (flipped p q) ∙ ap (λ (b : Bool). nat_eq q p && b) (flipped i j) in
    elim (cases_Bool (nat_eq q p && nat_eq j i)) [
      | inl here ↦ rw (sides, here, here) (ap (λ (g : List Event). record { word = w; last = last } ∷ versions m g p i)
          (sym (until_more (Store q j w) h (length h) (omega arith) ∙ until_now h (length h) (omega arith))))
      | inr other ↦ rw (sides, other) (on m (Store q j w) h last p i (memory_at m h p i) (cond-false _ _ _ other) (cond-false _ _ _ other) (given m h last p i))
    ]

-- at a moment
pub versions_then : (m : Memory) (h : List Event) (k p i : ℕ) → k ≤ length h → memory_at m (until h k) p i ≡ None → versions m (until h k) p i ≡ []
versions_then m h k p i le none =
    subst (λ (o : Option ℕ). Gives m (until h k) (length (until h k)) p i o) none (given m (until h k) (length (until h k)) p i)

before_until : (m : Memory) (h : List Event) (k p i s : ℕ) → k ≤ length h → s ≤ k → versions_before m (until h k) p i s ≡ versions_before m h p i s
before_until m h k p i zero le less = refl
before_until m h k p i (suc s) le less = ap (λ (g : List Event). versions m g p i) (until-until h k s (omega (arith, less)) le)

pub version_then : (m : Memory) (h : List Event) (k p i w : ℕ) → k ≤ length h → memory_at m (until h k) p i ≡ Some w
    → (last_store (until h k) p i ≤ k)
    × (versions m (until h k) p i ≡ record { word = w; last = k } ∷ versions_before m h p i (last_store (until h k) p i))
version_then m h k p i w le some =
    let long = length-until h k le in
    let bound = last_bound (until h k) p i in
    let low : last_store (until h k) p i ≤ k = omega (arith, long, bound) in
    let all = subst (λ (o : Option ℕ). Gives m (until h k) (length (until h k)) p i o) some (given m (until h k) (length (until h k)) p i) in (
      low,
      all ∙ ap (λ (n : ℕ). record { word = w; last = n } ∷ versions_before m (until h k) p i (last_store (until h k) p i)) long
          ∙ ap (λ (vs : List Version). record { word = w; last = k } ∷ vs) (before_until m h k p i (last_store (until h k) p i) le low),
    )

-- a word that is outside memory was never stored
pub none_stored : (m : Memory) (h : List Event) (p i : ℕ) → memory_at m h p i ≡ None → last_store h p i ≡ 0
none_stored m [] p i is = refl
none_stored m (WriteSatp w ∷ h) p i is = none_stored m h p i is
none_stored m (WritePmp n e ∷ h) p i is = none_stored m h p i is
none_stored m (Fence a s ∷ h) p i is = none_stored m h p i is
none_stored m (Store q j w ∷ h) p i is =
    let sides : (nat_eq p q && nat_eq i j) ≡ (nat_eq q p && nat_eq j i) =
    ap (λ (b : Bool). b && nat_eq i j) (flipped p q) ∙ ap (λ (b : Bool). nat_eq q p && b) (flipped i j) in
    elim (cases_Bool (nat_eq q p && nat_eq j i)) [
      | inl here ↦ absurd (none-some w (sym is ∙ cond-true _ _ _ (sides ∙ here)))
      | inr other ↦ cond-false _ _ _ other ∙ none_stored m h p i (sym (cond-false _ _ _ (sides ∙ other)) ∙ is)
    ]
