use Rattle.std.proofs.Common.{◌≡◌, ℕ, ◌<◌, ◌≤◌, ◌-◌, ◌^◌, inl, inr, true, false, List, length, ap, sym, subst, ◌∙◌, arith}
use Rattle.std.proofs.lemmas.Bool.{and_from, and_left, and_right, cond-false, lt-ltb, le-ltb}
use Rattle.access_history.specs.declared.event.Event.{Event}
use Rattle.access_judge.specs.Search.{until}
use Rattle.mmu.specs.Changing.{changes_at}
use Rattle.mmu.specs.Recorded.{IsSound, events_of, first_of, is_place, last_store, number_at}
use Rattle.mmu.specs.declared.history.History.{History}
use Rattle.mmu.proofs.Moments.{until_now}
use Rattle.mmu.proofs.Searching.{after_bound, since_after, since_before, since_low}
use Rattle.mmu.proofs.Versions.{none_stored}
use Rattle.mmu.proofs.history.History.next_change.Goals as goal

zero_le : (n : ℕ) → 0 ≤ n
zero_le n = omega arith

le_refl : (n : ℕ) → n ≤ n
le_refl n = omega arith

none_outside : (h : History) → IsSound h → (p i k : ℕ) → is_place p i ≡ false → last_store (events_of h) p i ≤ k
none_outside h s p i k outside =
    let none = sym (s.stores.words p i (length (events_of h))) ∙ cond-false _ _ _ outside in
    let zeroed = none_stored (first_of h.memory h.changes) (until (events_of h) (length (events_of h))) p i none in
    let same = ap (λ (g : List Event). last_store g p i) (until_now (events_of h) (length (events_of h)) (omega arith)) in
    omega (arith, zeroed, same)

inside : (p i : ℕ) → p < 2 ^ 52 → i < 512 → is_place p i ≡ true
inside p i low less = and_from _ _ (lt-ltb p _ low) (lt-ltb i _ less)

pub returns-in-Some : goal.returns-in-Some
returns-in-Some c =
    let h = c.args.self.now in
    let cs = changes_at h.changes (number_at c.args.ppn c.args.index) in
    let change = c.in-Some.change in
    let place = inside c.args.ppn c.args.index c.if-ppn.false c.if-index-ge512.false in
    let is = sym c.around-after.ensures.after ∙ c.in-Some.is in
    let bound = after_bound cs c.args.moment (length (events_of h)) change (c.requires.stores.bound _) is in (
      bound.0,
      bound.1,
      sym (c.requires.stores.since c.args.ppn c.args.index change.number place) ∙ since_after cs 0 c.args.moment change (c.requires.stores.order _) is bound.0,
      subst (λ (n : ℕ). n ≤ c.args.moment) (c.requires.stores.since c.args.ppn c.args.index (change.number - 1) place)
          (since_before cs 0 c.args.moment change (zero_le c.args.moment) is bound.0),
    )

pub returns-in-None : goal.returns-in-None
returns-in-None c =
    let h = c.args.self.now in
    let place = inside c.args.ppn c.args.index c.if-ppn.false c.if-index-ge512.false in
    let cs = changes_at h.changes (number_at c.args.ppn c.args.index) in
    let all = length (events_of h) in
    subst (λ (n : ℕ). n ≤ c.args.moment)
    (c.requires.stores.since c.args.ppn c.args.index all place ∙ ap (λ (g : List Event). last_store g c.args.ppn c.args.index) (until_now (events_of h) all (le_refl all)))
    (since_low cs 0 c.args.moment all (zero_le c.args.moment) (sym c.around-after.ensures.after ∙ c.in-None.is))

pub returns-then-ppn : goal.returns-then-ppn
returns-then-ppn c = none_outside c.args.self.now c.requires c.args.ppn c.args.index c.args.moment (elim c.then-ppn.either [
  | inl high ↦ and_left _ _ (le-ltb c.args.ppn _ high)
  | inr low ↦ and_right _ _ (le-ltb c.args.index _ low.1)
])
