-- Lemmas: each TLB after an eviction, after an instruction of kernel entry or return, after a fill, and after any other step
-- is what `BuffersAre` says; and from that it follows that only fills add entries (`only_fills_add`).
use Rattle.std.proofs.Common.{◌≡◌, ◌⊎◌, ℕ, zero, suc, ◌==◌, ◌&&◌, Bool, true, false, not, get_or, Option, None, Some, option_map, List, [], ◌∷◌, refl, ap, sym, subst, ◌∙◌, inl, inr, arith, if◌then◌else◌}
use Rattle.std.specs.Prelude.{Contains, remove, slice_get, slice_set}
use Rattle.std.specs.Vec.{with_item}
use Rattle.std.proofs.lemmas.Bool.{cases_eq, eqb-true, eq-eqb}
use Rattle.std.proofs.lemmas.Bool.Decides.{nat_tests}
use Rattle.std.proofs.lemmas.Option.{same_Some}
use Rattle.hart_tlb.specs.declared.entry.TlbEntry.{TlbEntry}
use Rattle.process_model.specs.Harts.{present_asid}
use Rattle.process_model.specs.Steps.{is_refused}
use Rattle.process_model.specs.declared.reply.Reply.{Reply}
use Rattle.process_model.specs.declared.reply.ScalarReply.TheVariants.{Done, Filled}
use Rattle.process_model.specs.declared.reply.Reply.TheVariants.{Scalar}
use Rattle.process_model.specs.declared.step.Step.{Step}
use Rattle.process_model.specs.declared.step.Step.TheVariants as step
use Rattle.table_walk.specs.Tables.{Tables}
use Rattle.hart_machine.specs.Buffers.{buffer_after, BuffersAre, HasEntry, is_about, OnlyFillsAdd, SameBuffers, WasFilled}
use Rattle.hart_machine.specs.Harts.{advanced, hart_of, with_entry}
use Rattle.hart_machine.specs.Tables.{tables_of, present_table}
use Rattle.hart_machine.specs.WalkEntries.{entry_for}
use Rattle.hart_machine.specs.declared.hart.Hart.{Hart}
use Rattle.hart_machine.specs.declared.machine.Machine.{Machine}
use Rattle.hart_machine.specs.declared.translation.SatpTable.{SatpTable}
use Rattle.hart_machine.proofs.AccessingEntries.{same_hart}
use Rattle.hart_machine.proofs.Entries.{in_remove}
use Rattle.hart_machine.proofs.Fills.{in_newest}
use Rattle.hart_machine.proofs.HartSteps.{in_fenced}

abbrev buffer_at : List Hart → ℕ → Option (List TlbEntry)
buffer_at hs k = option_map (λ (x : Hart). x.buffer) (slice_get hs k)

-- the buffer, or another where so chosen
abbrev buffer_if : Bool → (Hart → List TlbEntry) → Option Hart → Option (List TlbEntry)
buffer_if b f o = option_map (λ (z : Hart). if b then f z else z.buffer) o

after_zero : (k : ℕ) → false ≡ (0 == suc k)
after_zero k = grind (arith, nat_tests)

before_suc : (h : ℕ) → false ≡ (suc h == 0)
before_suc h = grind (arith, nat_tests)

of_next : (h k : ℕ) → (h == k) ≡ (suc h == suc k)
of_next h k = elim (cases_eq h k) [
  | inl same ↦ eq-eqb h k same ∙ sym (eq-eqb (suc h) (suc k) (ap suc same))
  | inr apart ↦ grind (arith, nat_tests, apart)
]

-- the hart that was read becomes one with another buffer
set_is : (hs : List Hart) (h : ℕ) (x y : Hart) → x ≡ get_or hs h x → (f : Hart → List TlbEntry) → y.buffer ≡ f x → (k : ℕ)
    → buffer_at (slice_set hs h y) k ≡ option_map (λ (z : Hart). if h == k then f z else z.buffer) (slice_get hs k)
set_is [] h x y read f made k = refl
set_is (z ∷ hs) zero x y read f made zero = ap Some (made ∙ ap f read)
set_is (z ∷ hs) zero x y read f made (suc k) = ap (λ (b : Bool). buffer_if b f (slice_get hs k)) (after_zero k)
set_is (z ∷ hs) (suc h) x y read f made zero = ap (λ (b : Bool). buffer_if b f (Some z)) (before_suc h)
set_is (z ∷ hs) (suc h) x y read f made (suc k) = set_is hs h x y read f made k ∙ ap (λ (b : Bool). buffer_if b f (slice_get hs k)) (of_next h k)

and_false : (a b : Bool) → b ≡ false → (a && b) ≡ false
and_false true b is = is
and_false false b is = refl

and_right : (a b : Bool) → (a && b) ≡ true → b ≡ true
and_right true b is = is
and_right false b is = absurd (cc)

module _ (m n : Machine) (tables : ℕ → Tables) (kernel : Tables) where
  -- a step that is about no buffer leaves each
  pub same_are : (s : Step) (reply : Reply) → ((h : ℕ) → is_about s h ≡ false) → SameBuffers m n → BuffersAre m n tables kernel s reply
  same_are s reply apart same h = same h ∙ sym (ap (λ (b : Bool). option_map (λ (x : Hart). if b then buffer_after m.kernel.scheme m.policy tables kernel s x else x.buffer) (slice_get m.harts.items h)) (and_false (not (is_refused reply)) (is_about s h) (apart h)))

  -- what is told of a step is told of the one that it is
  pub are_of : (reply : Reply) {s t : Step} → t ≡ s → BuffersAre m n tables kernel s reply → BuffersAre m n tables kernel t reply
  are_of reply is are = subst (λ (s : Step). BuffersAre m n tables kernel s reply) (sym is) are

-- the hart that was read becomes another
module _ (m : Machine) (h : ℕ) (x y : Hart) (read : x ≡ get_or m.harts.items h x) (tables : ℕ → Tables) (kernel : Tables) where
  abbrev changed : Machine
  changed = record m { harts = with_item m.harts h y }

  pub evicted_are : (n : ℕ) → y.buffer ≡ remove x.buffer n → BuffersAre m changed tables kernel (step.Evict h n) (Scalar Done)
  evicted_are n made = set_is m.harts.items h x y read (buffer_after m.kernel.scheme m.policy tables kernel (step.Evict h n)) made

  pub advanced_are : y ≡ advanced m.policy x → BuffersAre m changed tables kernel (step.Next h) (Scalar Done)
  advanced_are made = set_is m.harts.items h x y read (buffer_after m.kernel.scheme m.policy tables kernel (step.Next h)) (ap (λ (u : Hart). u.buffer) made)

  -- a fill by the table that satp has
  pub filled_are : (z : Hart) → slice_get m.harts.items h ≡ Some z → (t : SatpTable) → t ≡ present_table z → (a i : ℕ) → i ≡ present_asid m.policy (hart_of x) → y ≡ with_entry x (entry_for m.kernel.scheme (tables_of tables kernel t) i a)
      → (n : ℕ) → BuffersAre m changed tables kernel (step.Fill h a) (Scalar (Filled n))
  filled_are z at t present a i tagged made n = set_is m.harts.items h x y read (buffer_after m.kernel.scheme m.policy tables kernel (step.Fill h a)) (ap (λ (u : Hart). u.buffer) made
      ∙ ap (λ (j : ℕ). (with_entry x (entry_for m.kernel.scheme (tables_of tables kernel t) j a)).buffer) tagged ∙ ap (λ (u : SatpTable). (with_entry x (entry_for m.kernel.scheme (tables_of tables kernel u) (present_asid m.policy (hart_of x)) a)).buffer) satp) where
        satp : t ≡ present_table x
        satp = present ∙ ap present_table (sym (same_hart m.harts.items h z x read at))

-- a step of which each buffer is told adds none but by a fill
module _ (old : Machine) (tables : ℕ → Tables) (kernel : Tables) (h : ℕ) (x : Hart) (at : slice_get old.harts.items h ≡ Some x) (e : TlbEntry) where
  abbrev Told : Step → Type 0
  Told s = HasEntry old h e ⊎ WasFilled old tables kernel s h e

  was_there : Contains x.buffer e → HasEntry old h e
  was_there there = (x.buffer, ap (option_map (λ (u : Hart). u.buffer)) at, there)

  by_step : (s : Step) → is_about s h ≡ true → Contains (buffer_after old.kernel.scheme old.policy tables kernel s x) e → Told s
  by_step (step.Fill k a) about there = elim (in_newest x.buffer (entry_for old.kernel.scheme (tables_of tables kernel (present_table x)) (present_asid old.policy (hart_of x)) a) e there) [
    | inl old ↦ inl (was_there old)
    | inr is ↦ inr (a, x, ap (λ n. step.Fill n a) (eqb-true k h about), at, is)
  ]
  by_step (step.Evict k n) about there = inl (was_there (in_remove x.buffer n e there))
  by_step (step.Next k) about there = inl (was_there (in_fenced old.policy x e there))
  by_step s about there = absurd (cc)

  by_reply : (s : Step) (b : Bool) → (b ≡ true → is_about s h ≡ true) → Contains (if b then buffer_after old.kernel.scheme old.policy tables kernel s x else x.buffer) e → Told s
  by_reply s true about there = by_step s (about refl) there
  by_reply s false about there = inl (was_there there)

pub only_fills_add : (old new : Machine) (tables : ℕ → Tables) (kernel : Tables) (s : Step) (reply : Reply) → BuffersAre old new tables kernel s reply → OnlyFillsAdd old new tables kernel s
only_fills_add old new tables kernel s reply are h e (es, in_new, there) = go (slice_get old.harts.items h) refl (sym (are h) ∙ in_new) where
  go : (o : Option Hart) → slice_get old.harts.items h ≡ o → option_map (λ (x : Hart). if not (is_refused reply) && is_about s h then buffer_after old.kernel.scheme old.policy tables kernel s x else x.buffer) o ≡ Some es
      → HasEntry old h e ⊎ WasFilled old tables kernel s h e
  go None at is = absurd (cc)
  go (Some x) at is = by_reply old tables kernel h x at e s (not (is_refused reply) && is_about s h) (and_right (not (is_refused reply)) (is_about s h)) (subst (λ (l : List TlbEntry). Contains l e) (sym (same_Some _ es is)) there)
