-- Lemmas: which slots a call names as changed (`AreMarked`): none if it is refused or a process ended, the slot whose process
-- it set if its leaves changed, and the slot in which one started or was forked.
use Rattle.std.proofs.Common.{◌≡◌, ℕ, Bool, true, false, Option, None, Some, List, refl, ap, sym, ◌∙◌, inl, inr}
use Rattle.std.specs.Prelude.{◌==◌, ◌&&◌, ◌||◌, slice_get, slice_set}
use Rattle.std.proofs.lemmas.Bool.{cases_eq, eq-eqb, ne_eqb}
use Rattle.std.proofs.lemmas.Option.{slice_get_within}
use Rattle.frame_store.specs.Seats.{place_set_other, place_set_same, places_apart}
use Rattle.process_model.specs.Process.{Process}
use Rattle.process_model.specs.Stale.{is_changed}
use Rattle.process_model.specs.World.{has_slot, StepOutcome, refuses, World}
use Rattle.process_model.specs.declared.reply.Refusal.{Refusal}
use Rattle.hart_machine.specs.Marks.{AreMarked, slot_if}
use Rattle.process_laws.specs.Words.{changed_at}
use Rattle.hart_machine.proofs.StepShapes.{refused_quiet, same_at}

pub refused_as : (w : World) (o : StepOutcome) (e : Refusal) → o ≡ refuses w e → AreMarked w o None None
refused_as w o e is n = ap (λ (v : StepOutcome). changed_at (slice_get w.slots n) (slice_get (v.world).slots n)) is ∙ refused_quiet w e n

-- one place is another
pub set_at : (xs : List (Option Process)) (s n : ℕ) (p : Option Process) (q : Process) → slice_get xs s ≡ Some p → changed_at (slice_get xs n) (slice_get (slice_set xs s (Some q)) n) ≡ (s == n && is_changed p (Some q))
set_at xs s n p q at = elim (cases_eq n s) [
  | inl same ↦
      ap (λ o. changed_at o (slice_get (slice_set xs s (Some q)) n)) (ap (slice_get xs) same ∙ at)
      ∙ ap (changed_at (Some p)) (ap (slice_get (slice_set xs s (Some q))) same ∙ place_set_same xs s (Some q) (slice_get_within xs s p at))
      ∙ ap (λ (b : Bool). b && is_changed p (Some q)) (sym (eq-eqb s n (sym same)))
  | inr apart ↦
      ap (changed_at (slice_get xs n)) (place_set_other xs s n (Some q) apart) ∙ same_at (slice_get xs n)
      ∙ ap (λ (b : Bool). b && is_changed p (Some q)) (sym (ne_eqb s n (λ e. apart (sym e))))
]

if_slot : (s n : ℕ) (b : Bool) → (s == n && b) ≡ (has_slot n (slot_if s b) || false)
if_slot s n true = with_true (s == n) where
  with_true : (c : Bool) → (c && true) ≡ (c || false)
  with_true true = refl
  with_true false = refl
if_slot s n false = with_false (s == n) where
  with_false : (c : Bool) → (c && false) ≡ false
  with_false true = refl
  with_false false = refl

-- the process of a slot is another, by a call that tells whether a leaf of it changed
pub set_marks : (w : World) (o : StepOutcome) (s : ℕ) (p q : Process) (b : Bool) → slice_get w.slots s ≡ Some (Some p) → (o.world).slots ≡ slice_set w.slots s (Some q) → b ≡ is_changed (Some p) (Some q) → AreMarked w o (slot_if s b) None
set_marks w o s p q b at slots tells n =
    ap (λ xs. changed_at (slice_get w.slots n) (slice_get xs n)) slots ∙ set_at w.slots s n (Some p) q at ∙ ap (λ (c : Bool). s == n && c) (sym tells) ∙ if_slot s n b

-- the process of a slot ended
pub gone_marks : (w : World) (o : StepOutcome) (s : ℕ) (p : Process) → slice_get w.slots s ≡ Some (Some p) → (o.world).slots ≡ slice_set w.slots s None → AreMarked w o None None
gone_marks w o s p at slots n = ap (λ xs. changed_at (slice_get w.slots n) (slice_get xs n)) slots ∙ elim (cases_eq n s) [
  | inl same ↦
      ap (λ a. changed_at a (slice_get (slice_set w.slots s None) n)) (ap (slice_get w.slots) same ∙ at)
      ∙ ap (changed_at (Some (Some p))) (ap (slice_get (slice_set w.slots s None)) same ∙ place_set_same w.slots s None (slice_get_within w.slots s (Some p) at))
  | inr apart ↦ ap (changed_at (slice_get w.slots n)) (place_set_other w.slots s n None apart) ∙ same_at (slice_get w.slots n)
]

-- a process begins in a slot
pub born_marks : (w : World) (o : StepOutcome) (s : ℕ) (q : Process) → slice_get w.slots s ≡ Some None → (o.world).slots ≡ slice_set w.slots s (Some q) → AreMarked w o None (Some s)
born_marks w o s q at slots n = ap (λ xs. changed_at (slice_get w.slots n) (slice_get xs n)) slots ∙ set_at w.slots s n None q at ∙ with_true (s == n) where
  with_true : (c : Bool) → (c && true) ≡ c
  with_true true = refl
  with_true false = refl

-- the process of a slot is another, and one begins in an empty slot
pub fork_marks : (w : World) (o : StepOutcome) (s e : ℕ) (p q c : Process) (b : Bool) → slice_get w.slots s ≡ Some (Some p) → slice_get w.slots e ≡ Some None
    → (o.world).slots ≡ slice_set (slice_set w.slots s (Some q)) e (Some c) → b ≡ is_changed (Some p) (Some q) → AreMarked w o (slot_if s b) (Some e)
fork_marks w o s e p q c b at empty slots tells n =
    let between = slice_set w.slots s (Some q) in
    let there : slice_get between e ≡ Some None = place_set_other w.slots s e (Some q) (places_apart w.slots s e p at empty) ∙ empty in
    ap (λ xs. changed_at (slice_get w.slots n) (slice_get xs n)) slots ∙ elim (cases_eq n e) [
      | inl same ↦
          ap (λ x. changed_at x (slice_get (slice_set between e (Some c)) n)) (ap (slice_get w.slots) same ∙ empty)
          ∙ ap (changed_at (Some None)) (ap (slice_get (slice_set between e (Some c))) same ∙ place_set_same between e (Some c) (slice_get_within between e None there))
          ∙ sym (either (has_slot n (slot_if s b)) (e == n) (eq-eqb e n (sym same)))
      | inr apart ↦
          ap (changed_at (slice_get w.slots n)) (place_set_other between e n (Some c) apart) ∙ set_at w.slots s n (Some p) q at ∙ ap (λ (d : Bool). s == n && d) (sym tells)
          ∙ if_slot s n b ∙ ap (λ (d : Bool). has_slot n (slot_if s b) || d) (sym (ne_eqb e n (λ f. apart (sym f))))
    ] where
      either : (x y : Bool) → y ≡ true → (x || y) ≡ true
      either true y is = refl
      either false y is = is
