-- Lemma: after a copyout the page of each byte that was copied is resident for a store (`out_ready`): it was made so when the
-- byte was reached, and stays so while other pages are made resident and bytes are put.
use Rattle.std.proofs.Common.{◌≡◌, ℕ, true, ◌+◌, ◌<◌, inl, inr, refl, sym, ap, subst, ◌∙◌, arith, Option, None, Some, List, [], ◌∷◌, length, Bor}
use Rattle.std.specs.Prelude.{fold, Result, Ok, Err, zip}
use Rattle.std.proofs.lemmas.Bool.{cases_eq, cases_lt}
use Rattle.std.proofs.lemmas.List.{length_push}
use Rattle.std.proofs.lemmas.Option.{same_Some}
use Rattle.process_laws.proofs.Copying.{none_and_some, OutRan}
use Rattle.process_laws.proofs.CopyFronts.{copied_of_out}
use Rattle.process_laws.proofs.HeldBytes.{none_some}
use Rattle.process_laws.proofs.Running.{set_lives, step_process, step_reply}
use Rattle.process_laws.specs.Words.{byte, copied, IsOnHart, IsResident}
use Rattle.process_model.specs.Bytes.{numbers_from}
use Rattle.process_model.specs.Copies.{Copied, copied_out, copy_begun, next_out, one_out, reached_in, with_byte_on}
use Rattle.process_model.specs.Environment.{Environment, Progress}
use Rattle.process_model.specs.Insertion.{inserted_other}
use Rattle.process_model.specs.PageMap.{get}
use Rattle.process_model.specs.Process.{Page, Process, without_pending}
use Rattle.process_model.specs.Regions.{region_at}
use Rattle.process_model.specs.Residence.{is_resident, is_resident_page, region_on, stored}
use Rattle.process_model.proofs.ResidenceLaws.{reached_serves, stays_resident}
use Rattle.process_model.specs.Service.{environment_of, initial_progress}
use Rattle.process_model.specs.Steps.{step}
use Rattle.process_model.specs.World.{StepOutcome, process_in, World}
use Rattle.process_model.specs.declared.step.Step.TheVariants.{CopyOut}
use Rattle.sv39_entry.specs.Address.{page_of}
use Rattle.sv39_entry.specs.declared.access.Access.TheVariants as access
use Rattle.sv39_entry.specs.declared.rule.Rule.{Rule}

abbrev Stands : Process → ℕ → Type 0
Stands q page = is_resident q access.Store page ≡ true

-- a byte that is put leaves each page resident
byte_on_stands : (q : Process) (at b page : ℕ) (o : Option Page) → get q.settled (page_of at) ≡ o → Stands q page → Stands (with_byte_on q at b o) page
byte_on_stands q at b page None e f = f
byte_on_stands q at b page (Some x) e f = elim (cases_eq page (page_of at)) [
  | inl same ↦ subst (Stands (with_byte_on q at b (Some x))) (sym same) (stays_resident access.Store (page_of at) x (stored x _ (b ∷ [])).bytes q e (subst (Stands q) same f))
  | inr apart ↦ ap (is_resident_page access.Store (region_on q page)) (inserted_other (page_of at) _ q.settled page apart) ∙ f
]

-- and so does an address that is reached
reach_stands : (a : Environment) (f g : Progress) (at page : ℕ) → reached_in a access.Store f at ≡ Ok g → Stands f.process page → Stands g.process page
reach_stands a f g at page is was =
    let k = reached_serves a access.Store f g at is in
    elim (cases_eq page (page_of at)) [
      | inl same ↦ subst (Stands g.process) (sym same) k.resident
      | inr apart ↦ ap (λ rs. is_resident_page access.Store (region_at rs page) (get (g.process).settled page)) k.regions ∙ ap (is_resident_page access.Store (region_on f.process page)) (k.others page apart) ∙ was
    ]

-- so far: the next address is `next`
record SoFar (address next : ℕ) (c : Copied) : Type 0 where
  there : (i : ℕ) → i < length c.bytes → Stands ((c.progress).process) (page_of (address + i))
  along : c.stop ≡ None → next ≡ address + length c.bytes

module _ (a : Environment) (address : ℕ) where
  one_far : (at b : ℕ) (c : Copied) (r : Result Progress Rule) → SoFar address at c → c.stop ≡ None → reached_in a access.Store c.progress at ≡ r → SoFar address (at + 1) (one_out c at b r)
  one_far at b c (Err r) f none is = record { there = f.there; along = λ e. absurd (none_some (sym e)) }
  one_far at b c (Ok g) f none is =
      let more = length_push c.bytes b in
      let long = f.along none in
      let put = λ (page : ℕ). byte_on_stands g.process at b page (get (g.process).settled (page_of at)) refl in
      record {
        there = λ i l. elim (cases_lt i (length c.bytes)) [
          | inl less ↦ put (page_of (address + i)) (reach_stands a c.progress g at (page_of (address + i)) is (f.there i less))
          | inr ge ↦
              let here : at ≡ address + i = omega (arith, l, ge, more, long) in
              put (page_of (address + i)) (subst (λ k. Stands g.process (page_of k)) here (reached_serves a access.Store c.progress g at is).resident)
        ];
        along = λ _. omega (arith, more, long);
      }

  next_far : (at b : ℕ) (c : Copied) (o : Option Rule) → c.stop ≡ o → SoFar address at c → SoFar address (at + 1) (next_out a c (at, b) o)
  next_far at b c (Some r) e f = record { there = f.there; along = λ is. absurd (none_and_some is e) }
  next_far at b c None e f = one_far at b c (reached_in a access.Store c.progress at) f e refl

  all_far : (bs : List ℕ) (at : ℕ) (c : Copied) → SoFar address at c → SoFar address (at + length bs) (fold (λ c x. next_out a c x c.stop) c (zip (numbers_from at (length bs)) bs))
  all_far [] at c f = subst (λ k. SoFar address k c) (omega arith) f
  all_far (b ∷ bs) at c f =
      subst (λ k. SoFar address k (fold (λ c x. next_out a c x c.stop) c (zip (numbers_from at (length (b ∷ bs))) (b ∷ bs)))) (omega arith)
      (all_far bs (at + 1) (next_out a c (at, b) c.stop) (next_far at b c c.stop refl f))

  copy_far : (g : Progress) (bs : List ℕ) → SoFar address (address + length bs) (copied_out a g address bs)
  unfolding copied_out
  copy_far g bs = all_far bs address (copy_begun g) (record { there = λ i l. absurd (omega (arith, l)); along = λ _. omega arith })

-- the page of each byte that was copied is resident for a store
pub out_ready : (w : World) (h s address : ℕ) (bytes : Bor (List ℕ)) (p : Process) → IsOnHart w h s p → OutRan w h s p address bytes
    → (q : Process) (i : ℕ) → i < copied (step w (CopyOut h address bytes)).reply → process_in (step w (CopyOut h address bytes)).world s ≡ Some q → IsResident q (byte access.Store (address + i))
out_ready w h s address bytes p on ran q i less there =
    let x = CopyOut h address bytes in
    let c = copied_out (environment_of w s) (initial_progress w (without_pending p)) address bytes.now in
    let told : copied (step w x).reply ≡ length c.bytes = ap copied (step_reply w x ∙ ap (λ (o : StepOutcome). o.reply) ran.is) ∙ copied_of_out c.bytes c.stop in
    let is : (c.progress).process ≡ q = same_Some _ q (sym (set_lives w.slots s p ((c.progress).process) on.lives) ∙ sym (ap (λ (o : StepOutcome). process_in o.world s) ran.is) ∙ sym (step_process w x s) ∙ there) in
    subst (λ (z : Process). Stands z (page_of (address + i))) is ((copy_far (environment_of w s) address (initial_progress w (without_pending p)) bytes.now).there i (omega (arith, less, told)))
