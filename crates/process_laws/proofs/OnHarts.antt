-- Lemmas by which a claim about outcomes is proved of any step on a hart: if it holds of each refusal and of what the step
-- runs for its process, then it holds of the step; for any hart step, kernel calls, and user accesses (that fault, or are
-- answered within one page).
use Rattle.std.proofs.Common.{◌≡◌, ℕ, Bool, true, false, cond, ◌+◌, ◌%◌, ◌≤◌, ◌⊎◌, refl, ap, ◌∙◌, arith, inl, inr, Option, None, Some}
use Rattle.std.specs.Prelude.{slice_get}
use Rattle.std.proofs.lemmas.Bool.{eqb-true}
use Rattle.std.proofs.lemmas.Bool.Decides.{nat_tests}
use Rattle.sv39_entry.specs.Address.{page_of}
use Rattle.sv39_entry.specs.declared.access.Access.{Access}
use Rattle.sv39_entry.specs.declared.rule.Rule.{Rule}
use Rattle.sv39_entry.specs.declared.rule.Rule.TheVariants as rule
use Rattle.process_model.specs.Bytes.{is_width}
use Rattle.process_model.specs.PageMap.{get}
use Rattle.process_model.specs.Regions.{is_aligned, first_rule, copy_rule}
use Rattle.process_model.specs.Process.{Process, Page, regions}
use Rattle.process_model.specs.Residence.{access_answer}
use Rattle.process_model.specs.Harts.{Hart}
use Rattle.process_model.specs.World.{World, StepOutcome, refuses, process_in, can_call, always, common_refusal, unless_refused, on_hart_at, on_hart, with_process_of, with_slot_of, with_its_process, kernel_call}
use Rattle.process_model.specs.Service.{Answer, AccessRequest, faulted, answered, if_resident, if_settled, access_outcome, unless_denied, access_step}
use Rattle.process_model.specs.declared.phase.Phase.{Phase}
use Rattle.process_model.specs.declared.reply.Refusal.{Refusal}
use Rattle.process_model.specs.declared.reply.Refusal.TheVariants.{Impossible}
use Rattle.process_laws.specs.Moments.{slot_at, slot_on}

abbrev pub asks : Access → ℕ → ℕ → ℕ → AccessRequest
asks access address width value = record { access = access; address = address; width = width; value = value }

-- what an access comes to, is good where a fault is and an answer is

module _ (Good : Answer → Type 0) (x : AccessRequest) (p : Process) where
  abbrev IsGoodOn : Page → Type 0
  IsGoodOn page = Good (answered p x (access_answer x.access page (x.address % 4096) x.width x.value))

  resident_good : (page : Page) (b : Bool) → ((cause : ℕ) → Good (faulted p x cause)) → IsGoodOn page → Good (if_resident p x page b)
  resident_good page true fails f = f
  resident_good page false fails f = fails _

  settled_good : (o : Option Page) → get p.settled (page_of x.address) ≡ o → ((cause : ℕ) → Good (faulted p x cause)) → ((page : Page) → get p.settled (page_of x.address) ≡ Some page → IsGoodOn page) → Good (if_settled p x o)
  settled_good None e fails f = fails _
  settled_good (Some page) e fails f = resident_good page _ fails (f page e)

  pub granted_good : (o : Option Rule) → ((cause : ℕ) → Good (faulted p x cause)) → ((page : Page) → get p.settled (page_of x.address) ≡ Some page → o ≡ None → IsGoodOn page) → Good (unless_denied p x o)
  granted_good (Some r) fails f = fails _
  granted_good None fails f = settled_good (get p.settled (page_of x.address)) refl fails (λ page e. f page e refl)

-- an aligned access stays in its page

aligned_fits : (w address : ℕ) → (w ≡ 1) ⊎ ((w ≡ 2) ⊎ ((w ≡ 4) ⊎ (w ≡ 8))) → address % w ≡ 0 → address % 4096 + w ≤ 4096
aligned_fits w address (inl one) e = omega arith
aligned_fits w address (inr (inl two)) e = let f = rw two at e in omega (arith, f)
aligned_fits w address (inr (inr (inl four))) e = let f = rw four at e in omega (arith, f)
aligned_fits w address (inr (inr (inr eight))) e = let f = rw eight at e in omega (arith, f)

widths : (w : ℕ) → is_width w ≡ true → (w ≡ 1) ⊎ ((w ≡ 2) ⊎ ((w ≡ 4) ⊎ (w ≡ 8)))
widths w e = grind (arith, nat_tests)

-- an aligned access stays in its page
access_fits : (w address : ℕ) → is_width w ≡ true → is_aligned address w ≡ true → address % 4096 + w ≤ 4096
access_fits w address e f = aligned_fits w address (widths w e) (eqb-true (address % w) 0 f)

if_aligned : (b : Bool) (o : Option Rule) (r : Rule) → cond b o (Some r) ≡ None → b ≡ true
if_aligned true o r e = refl
if_aligned false o r e = cc

-- so does one that no rule denies
granted_fits : (p : Process) (access : Access) (address w : ℕ) → is_width w ≡ true → first_rule p.scheme (regions p) access address w ≡ None → address % 4096 + w ≤ 4096
granted_fits p access address w e f = access_fits w address e (if_aligned (is_aligned address w) (copy_rule p.scheme (regions p) access address) rule.Misaligned f)

-- facts of an outcome
module _ (w : World) (Good : StepOutcome → Type 0) (quiet : (r : Refusal) → Good (refuses w r)) where
  if_not_refused : (run : Hart → StepOutcome) (hart : Hart) (o : Option Refusal) → Good (run hart) → Good (unless_refused w run hart o)
  if_not_refused run hart (Some r) f = quiet r
  if_not_refused run hart None f = f

  if_proper : (h : ℕ) (proper : Bool) (possible entry : Hart → Bool) (run : Hart → StepOutcome) (hart : Hart) → (proper ≡ true → Good (run hart)) → Good (unless_refused w run hart (common_refusal hart proper possible entry))
  if_proper h false possible entry run hart f = quiet _
  if_proper h true possible entry run hart f = if_not_refused run hart _ (f refl)

  at_hart : (h : ℕ) (proper : Bool) (possible entry : Hart → Bool) (run : Hart → StepOutcome) (o : Option Hart) → slice_get w.harts h ≡ o → ((hart : Hart) → slice_get w.harts h ≡ Some hart → proper ≡ true → Good (run hart))
      → Good (on_hart_at w proper possible entry run o)
  at_hart h proper possible entry run None e f = quiet _
  at_hart h proper possible entry run (Some hart) e f = if_proper h proper possible entry run hart (f hart e)

  pub on_hart_good : (h : ℕ) (proper : Bool) (possible entry : Hart → Bool) (run : Hart → StepOutcome) → ((hart : Hart) → slice_get w.harts h ≡ Some hart → proper ≡ true → Good (run hart)) → Good (on_hart w h proper possible entry run)
  unfolding on_hart
  on_hart_good h proper possible entry run f = at_hart h proper possible entry run (slice_get w.harts h) refl f

  -- what is proper runs where it is possible
  pub on_hart_can : (h : ℕ) (possible entry : Hart → Bool) (run : Hart → StepOutcome) → ((hart : Hart) → slice_get w.harts h ≡ Some hart → possible hart ≡ true → Good (run hart)) → Good (on_hart w h true possible entry run)
  unfolding on_hart
  on_hart_can h possible entry run f = at (slice_get w.harts h) refl
    where
      by : (hart : Hart) (b : Bool) → possible hart ≡ b → slice_get w.harts h ≡ Some hart → Good (unless_refused w run hart (common_refusal hart true possible entry))
      by hart true can e = if_not_refused run hart _ (f hart e can)
      by hart false can e = rw can (quiet (Impossible hart.phase))

      at : (o : Option Hart) → slice_get w.harts h ≡ o → Good (on_hart_at w true possible entry run o)
      at None e = quiet _
      at (Some hart) e = by hart (possible hart) refl e

  if_process : (phase : Phase) (run : ℕ → Process → StepOutcome) (t : ℕ) (o : Option Process) → process_in w t ≡ o → ((p : Process) → process_in w t ≡ Some p → Good (run t p)) → Good (with_process_of w phase run t o)
  if_process phase run t None e f = quiet _
  if_process phase run t (Some p) e f = f p e

  if_slot : (phase : Phase) (run : ℕ → Process → StepOutcome) (o : Option ℕ) → ((t : ℕ) (p : Process) → o ≡ Some t → process_in w t ≡ Some p → Good (run t p)) → Good (with_slot_of w phase run o)
  if_slot phase run None f = quiet _
  if_slot phase run (Some t) f = if_process phase run t (process_in w t) refl (λ p. f t p refl)

  pub its_good : (h : ℕ) (hart : Hart) (run : ℕ → Process → StepOutcome) → slice_get w.harts h ≡ Some hart → ((t : ℕ) (p : Process) → slot_on w h ≡ Some t → process_in w t ≡ Some p → Good (run t p)) → Good (with_its_process w hart run)
  unfolding with_its_process
  its_good h hart run e f = if_slot hart.phase run hart.slot (λ t p is. f t p (ap slot_at e ∙ is))

  pub kernel_good : (h : ℕ) (proper : Bool) (run : Hart → ℕ → Process → StepOutcome) → ((hart : Hart) (t : ℕ) (p : Process) → slot_on w h ≡ Some t → process_in w t ≡ Some p → Good (run hart t p)) → Good (kernel_call w h proper run)
  kernel_good h proper run f = on_hart_good h proper (can_call w) always _ (λ hart is _. its_good h hart (run hart) is (f hart))

  -- accesses

  pub access_there : (h : ℕ) (access : Access) (address width value : ℕ) (via : Option ℕ)
      → ((hart : Hart) (t : ℕ) (p : Process) (cause : ℕ) → process_in w t ≡ Some p → slot_on w h ≡ Some t → slice_get w.harts h ≡ Some hart → Good (access_outcome w h hart t (faulted p (asks access address width value) cause)))
      → ((hart : Hart) (t : ℕ) (p : Process) (page : Page) → process_in w t ≡ Some p → slot_on w h ≡ Some t → get p.settled (page_of address) ≡ Some page → address % 4096 + width ≤ 4096
      → Good (access_outcome w h hart t (answered p (asks access address width value) (access_answer access page (address % 4096) width value))))
      → Good (access_step w h access address width value via)
  access_there h access address width value via fails f = on_hart_good h (is_width width) _ _ _ (λ hart is proper. its_good h hart _ is
      (λ t p on here. granted_good (λ x. Good (access_outcome w h hart t x)) (asks access address width value) p _ (λ cause. fails hart t p cause here on is)
      (λ page e granted. f hart t p page here on e (granted_fits p access address width proper granted))))

  pub access_good : (h : ℕ) (access : Access) (address width value : ℕ) (via : Option ℕ)
      → ((hart : Hart) (t : ℕ) (p : Process) (cause : ℕ) → process_in w t ≡ Some p → slot_on w h ≡ Some t → Good (access_outcome w h hart t (faulted p (asks access address width value) cause)))
      → ((hart : Hart) (t : ℕ) (p : Process) (page : Page) → process_in w t ≡ Some p → slot_on w h ≡ Some t → get p.settled (page_of address) ≡ Some page → address % 4096 + width ≤ 4096
      → Good (access_outcome w h hart t (answered p (asks access address width value) (access_answer access page (address % 4096) width value))))
      → Good (access_step w h access address width value via)
  access_good h access address width value via fails f = access_there h access address width value via (λ hart t p cause here on is. fails hart t p cause here on) f
