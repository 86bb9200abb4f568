-- Lemmas about copyin and copyout: a copy that ends after its first k bytes, all or fewer, leaves the same world (the
-- model's whole state) as a copy of just these k bytes.
use Rattle.std.proofs.Common.{◌≡◌, ℕ, zero, suc, ◌+◌, ◌≤◌, refl, sym, ap, ◌∙◌, arith, Option, None, Some, List, [], ◌∷◌, length, take, Bor}
use Rattle.std.specs.Prelude.{fold, map, nat_le, Result, Ok, Err, zip}
use Rattle.std.proofs.lemmas.Bool.{le-leb, leb-true}
use Rattle.std.proofs.lemmas.List.{length-take, length_push}
use Rattle.process_laws.proofs.CopyFrames.{in_goes, in_next, out_goes, out_next}
use Rattle.process_laws.proofs.CopyStops.{Goes}
use Rattle.process_laws.proofs.Copying.{InRan, OutRan}
use Rattle.process_laws.proofs.Running.{has_it, hart_runs, process_runs, step_reply}
use Rattle.process_laws.specs.Words.{copied, IsOnHart}
use Rattle.process_model.specs.Environment.{Environment, Progress}
use Rattle.process_model.specs.Bytes.{numbers_from}
use Rattle.process_model.specs.Calls.{copy_in_outcome, copy_out_outcome}
use Rattle.process_model.specs.Copies.{Copied, copied_in, copied_out, copy_begun, in_reply, one_in, one_out, out_reply, reached_in}
use Rattle.process_model.specs.Harts.{Hart}
use Rattle.process_model.specs.Process.{Process, without_pending}
use Rattle.process_model.specs.Service.{environment_of, initial_progress, with_progress}
use Rattle.process_model.specs.Stale.{changed_slots, with_stale, with_stale_slots}
use Rattle.process_model.specs.Steps.{plain_step, step}
use Rattle.process_model.specs.World.{always, can_call, StepOutcome, with_its_process, World}
use Rattle.process_model.specs.declared.config.Policy.{Policy}
use Rattle.process_model.specs.declared.config.Policy.TheVariants.{Full, Asid}
use Rattle.process_model.specs.declared.step.Step.{Step}
use Rattle.process_model.specs.declared.step.Step.TheVariants.{CopyIn, CopyOut}
use Rattle.sv39_entry.specs.declared.access.Access.{Access}
use Rattle.sv39_entry.specs.declared.access.Access.TheVariants as access
use Rattle.sv39_entry.specs.declared.rule.Rule.{Rule}
use Rattle.process_model.specs.declared.limits.TheConstants.{LONGEST_COPY}

-- ---- so many addresses

record Front {X : Type 0} (next : Copied → X → Copied) (c : Copied) (xs : List X) : Type 0 where
  many : ℕ
  few : many ≤ length xs
  long : length (fold next c xs).bytes ≡ length c.bytes + many
  same : (fold next c (take many xs)).progress ≡ (fold next c xs).progress

module _ {X : Type 0} (kind : Access) (at : X → ℕ) (done : Copied → X → Progress → Copied) (next : Environment → Copied → X → Copied) (is : Goes kind at done next) (a : Environment)
    (grows : (c : Copied) (x : X) (g : Progress) → length (done c x g).bytes ≡ length c.bytes + 1) where
  stays_all : (xs : List X) (c : Copied) (r : Rule) → c.stop ≡ Some r → fold (next a) c xs ≡ c
  stays_all [] c r e = refl
  stays_all (x ∷ xs) c r e = ap (λ (d : Copied). fold (next a) d xs) (is.stays a c x r e) ∙ stays_all xs c r e

  module _ (x : X) (xs : List X) (c : Copied) (none : c.stop ≡ None) (later : (d : Copied) → d.stop ≡ None → Front (next a) d xs) where
    front_by : (r : Result Progress Rule) → reached_in a kind c.progress (at x) ≡ r → Front (next a) c (x ∷ xs)
    front_by (Err r) e =
        let stopped : Copied = record c { stop = Some r } in
        let last : fold (next a) c (x ∷ xs) ≡ stopped = ap (λ (d : Copied). fold (next a) d xs) (is.stops a c x r none e) ∙ stays_all xs stopped r refl in
        let bytes = ap (λ (d : Copied). length d.bytes) last in
        record { many = 0; few = omega arith; long = omega (arith, bytes); same = ap (λ (d : Copied). d.progress) (sym last) }
    front_by (Ok g) e =
        let on = is.goes a c x g none e in
        let rest = later (done c x g) (is.goes_on c x g) in
        let few = rest.few in
        let long = rest.long in
        let one = grows c x g in
        let bytes = ap (λ (d : Copied). length (fold (next a) d xs).bytes) on in
        record {
          many = suc rest.many;
          few = omega (arith, few);
          long = omega (arith, bytes, long, one);
          same = ap (λ (d : Copied). (fold (next a) d (take rest.many xs)).progress) on ∙ rest.same ∙ ap (λ (d : Copied). (fold (next a) d xs).progress) (sym on);
        }

  fronts : (xs : List X) (c : Copied) → c.stop ≡ None → Front (next a) c xs
  fronts [] c none = record { many = 0; few = omega arith; long = omega arith; same = refl }
  fronts (x ∷ xs) c none = front_by x xs c none (λ d stop. fronts xs d stop) (reached_in a kind c.progress (at x)) refl

numbers_front : (n i at : ℕ) → i ≤ n → take i (numbers_from at n) ≡ numbers_from at i
numbers_front n zero at few = refl
numbers_front zero (suc i) at few = absurd (omega (arith, few))
numbers_front (suc n) (suc i) at few = ap (λ ns. at ∷ ns) (numbers_front n i (at + 1) (omega (arith, few)))

numbers_long : (n at : ℕ) → length (numbers_from at n) ≡ n
numbers_long zero at = refl
numbers_long (suc n) at = ap suc (numbers_long n (at + 1))

places_front : (bs : List ℕ) (i at : ℕ) → take i (zip (numbers_from at (length bs)) bs) ≡ zip (numbers_from at (length (take i bs))) (take i bs)
places_front bs zero at = refl
places_front [] (suc i) at = refl
places_front (b ∷ bs) (suc i) at = ap (λ xs. (at, b) ∷ xs) (places_front bs i (at + 1))

-- ---- copies

module _ (a : Environment) (g : Progress) (address : ℕ) where
  in_front : (n : ℕ) → let c = copied_in a g address n in (length c.bytes ≤ n) × ((copied_in a g address (length c.bytes)).progress ≡ c.progress)
  unfolding copied_in
  in_front n =
      let f = fronts access.Load (λ at. at) (λ c at g. one_in c at (Ok g)) in_next in_goes a (λ c at g. length_push c.bytes _) (numbers_from address n) (copy_begun g) refl in
      let long = f.long in
      let few = f.few in
      let all = numbers_long n address in
      let k : length (fold (in_next a) (copy_begun g) (numbers_from address n)).bytes ≡ f.many = omega (arith, long) in (
        omega (arith, k, few, all),
        ap (λ i. (fold (in_next a) (copy_begun g) (numbers_from address i)).progress) k ∙ ap (λ ns. (fold (in_next a) (copy_begun g) ns).progress) (sym (numbers_front n f.many address (omega (arith, few, all)))) ∙ f.same,
      )

  out_front : (bs : List ℕ) → let c = copied_out a g address bs in (copied_out a g address (take (length c.bytes) bs)).progress ≡ c.progress
  unfolding copied_out
  out_front bs =
      let places = zip (numbers_from address (length bs)) bs in
      let f = fronts access.Store (λ x. x.0) (λ c x g. one_out c x.0 x.1 (Ok g)) out_next out_goes a (λ c x g. length_push c.bytes x.1) places (copy_begun g) refl in
      let long = f.long in
      let k : length (fold (out_next a) (copy_begun g) places).bytes ≡ f.many = omega (arith, long) in
      ap (λ i. (fold (out_next a) (copy_begun g) (zip (numbers_from address (length (take i bs))) (take i bs))).progress) k
      ∙ ap (λ xs. (fold (out_next a) (copy_begun g) xs).progress) (sym (places_front bs f.many address)) ∙ f.same

-- ---- worlds

marks_same : (policy : Policy) (w : World) (o u : StepOutcome) → o.world ≡ u.world → (with_stale_slots policy w o).world ≡ (with_stale_slots policy w u).world
marks_same Full w o u e = e
marks_same Asid w o u e = ap (λ (v : World). record v { harts = map (with_stale (changed_slots 0 w.slots v.slots)) v.harts }) e

step_same : (w : World) (x y : Step) → (plain_step w x).world ≡ (plain_step w y).world → (step w x).world ≡ (step w y).world
unfolding step
step_same w x y e = marks_same w.policy w (plain_step w x) (plain_step w y) e

copied_of_in : (bs : List ℕ) (o : Option Rule) → copied (in_reply bs o) ≡ length bs
copied_of_in bs None = refl
copied_of_in bs (Some r) = refl

pub copied_of_out : (bs : List ℕ) (o : Option Rule) → copied (out_reply bs o) ≡ length bs
copied_of_out bs None = refl
copied_of_out bs (Some r) = refl

module _ (w : World) (h s : ℕ) (p : Process) (on : IsOnHart w h s p) (address : ℕ) where
  abbrev begin : Progress
  begin = initial_progress w (without_pending p)

  pub in_front_world : (n : ℕ) → InRan w h s p address n → (step w (CopyIn h address n)).world ≡ (step w (CopyIn h address (copied (step w (CopyIn h address n)).reply))).world
  in_front_world n ran =
      let c = copied_in (environment_of w s) begin address n in
      let f = in_front (environment_of w s) begin address n in
      let k = length c.bytes in
      let some = f.0 in
      let most = leb-true n LONGEST_COPY ran.fits in
      let call = λ (hart : Hart) (s : ℕ) (p : Process). copy_in_outcome w s (copied_in (environment_of w s) (initial_progress w (without_pending p)) address k) in
      let goes : plain_step w (CopyIn h address k) ≡ copy_in_outcome w s (copied_in (environment_of w s) begin address k) =
      hart_runs w h (nat_le k LONGEST_COPY) (can_call w) always (λ hart. with_its_process w hart (call hart)) ran.hart ran.there (le-leb k LONGEST_COPY (omega (arith, some, most))) ran.can refl
      ∙ process_runs w ran.hart (call ran.hart) s p (has_it w h s ran.hart on.there ran.there) on.lives in
      let told : copied (step w (CopyIn h address n)).reply ≡ k = ap copied (step_reply w (CopyIn h address n) ∙ ap (λ (o : StepOutcome). o.reply) ran.is) ∙ copied_of_in c.bytes c.stop in
      step_same w (CopyIn h address n) (CopyIn h address k) (ap (λ (o : StepOutcome). o.world) ran.is ∙ ap (with_progress w s) (sym f.1) ∙ ap (λ (o : StepOutcome). o.world) (sym goes))
      ∙ ap (λ i. (step w (CopyIn h address i)).world) (sym told)

  pub out_front_world : (bytes front : Bor (List ℕ)) → OutRan w h s p address bytes → front.now ≡ take (copied (step w (CopyOut h address bytes)).reply) bytes.now
      → (step w (CopyOut h address bytes)).world ≡ (step w (CopyOut h address front)).world
  out_front_world bytes front ran are =
      let c = copied_out (environment_of w s) begin address bytes.now in
      let k = length c.bytes in
      let told : copied (step w (CopyOut h address bytes)).reply ≡ k = ap copied (step_reply w (CopyOut h address bytes) ∙ ap (λ (o : StepOutcome). o.reply) ran.is) ∙ copied_of_out c.bytes c.stop in
      let same : front.now ≡ take k bytes.now = are ∙ ap (λ i. take i bytes.now) told in
      let short = length-take k bytes.now in
      let long : length front.now ≡ length (take k bytes.now) = ap length same in
      let most = leb-true (length bytes.now) LONGEST_COPY ran.fits in
      let call = λ (hart : Hart) (s : ℕ) (p : Process). copy_out_outcome w s (copied_out (environment_of w s) (initial_progress w (without_pending p)) address front.now) in
      let goes : plain_step w (CopyOut h address front) ≡ copy_out_outcome w s (copied_out (environment_of w s) begin address front.now) =
      hart_runs w h (nat_le (length front.now) LONGEST_COPY) (can_call w) always (λ hart. with_its_process w hart (call hart)) ran.hart ran.there (le-leb (length front.now) LONGEST_COPY (omega (arith, long, short, most))) ran.can refl
      ∙ process_runs w ran.hart (call ran.hart) s p (has_it w h s ran.hart on.there ran.there) on.lives in
      let progress : (copied_out (environment_of w s) begin address front.now).progress ≡ c.progress = ap (λ bs. (copied_out (environment_of w s) begin address bs).progress) same ∙ out_front (environment_of w s) begin address bytes.now in
      step_same w (CopyOut h address bytes) (CopyOut h address front) (ap (λ (o : StepOutcome). o.world) ran.is ∙ ap (with_progress w s) (sym progress) ∙ ap (λ (o : StepOutcome). o.world) (sym goes))
