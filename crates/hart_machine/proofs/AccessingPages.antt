-- Lemmas on a user access in the model: what replies it has, that each page keeps its copy number (which names one copy of a
-- page in memory), and which access is pending after it.
use Rattle.std.proofs.Common.{◌≡◌, ℕ, zero, suc, ◌<◌, ◌%◌, ◌⊎◌, cond, Bool, true, false, IsTrue, Option, None, Some, refl, ap, sym, subst, ◌∙◌, inl, inr, arith}
use Rattle.std.proofs.lemmas.Bool.{cases_eq, eq-eqb, ne_eqb}
use Rattle.std.proofs.lemmas.Option.{same_Some}
use Rattle.std.specs.Cmp.{nat_cmp_total, unsigned_tied}
use Rattle.std.specs.FinMap.Entries.{find, find-put}
use Rattle.std.specs.Ordering.{eq_by_cmp, nat_cmp}
use Rattle.process_model.specs.Bytes.{is_width}
use Rattle.process_model.specs.PageMap as pages
use Rattle.process_model.specs.Process.{Page, Process, regions}
use Rattle.process_model.specs.Regions.{first_rule}
use Rattle.process_model.specs.Residence.{access_answer, with_page}
use Rattle.process_model.specs.Service.{Answer, AccessRequest, faulted, if_resident, if_settled, unless_denied, user_access}
use Rattle.process_model.specs.declared.reply.Reply.{Reply}
use Rattle.process_model.specs.declared.reply.ScalarReply.TheVariants.{Fault, Stored, Value}
use Rattle.process_model.specs.declared.reply.Reply.TheVariants.{Scalar}
use Rattle.sv39_entry.specs.Address.{page_of}
use Rattle.sv39_entry.specs.declared.access.Access.{Access}
use Rattle.sv39_entry.specs.declared.access.Access.TheVariants.{Fetch, Load, Store}
use Rattle.sv39_entry.specs.declared.rule.Rule.{Rule}
use Rattle.hart_machine.specs.Accesses.{pending_after}
use Rattle.hart_machine.specs.SlotProcesses.{HasPageBytes}
use Rattle.hart_machine.proofs.ProcessSteps.{HasCopies}

-- a page in the place of another one with its copy number

module _ (p : Process) (k : ℕ) (old new : Page) (is : pages.get p.settled k ≡ Some old) (same : new.copy ≡ old.copy) where
  pub has_copies : HasCopies (with_page p k new) p
  has_copies n a there = go (cases_eq n k) (sym (find-put nat_cmp nat_cmp_total n k new p.settled.entries) ∙ there) where
    go : (n ≡ k) ⊎ (n ≡ k → ⊥) → cond (eq_by_cmp nat_cmp n k) (Some new) (find nat_cmp n p.settled.entries) ≡ Some a
        → (b : Page) × (pages.get p.settled n ≡ Some b) × (b.copy ≡ a.copy)
    go (inl at) found = (old, ap (pages.get p.settled) at ∙ is, sym same ∙ ap (λ (z : Page). z.copy) (same_Some new a (rw (unsigned_tied n k, eq-eqb n k at) at found)))
    go (inr apart) found = (a, rw (unsigned_tied n k, ne_eqb n k apart) at found, refl)

has_own : (p : Process) → HasCopies p p
has_own p n a there = (a, there, refl)

-- what an access answers, and what its process has pending then
abbrev pub IsAnswer : Reply → Type 0
IsAnswer r = ((cause : ℕ) × (r ≡ Scalar (Fault cause))) ⊎ (((x : ℕ) × (r ≡ Scalar (Value x))) ⊎ (r ≡ Scalar Stored))

copy_stays : (access : Access) (s : Page) (offset width value : ℕ) → ((access_answer access s offset width value).1).copy ≡ s.copy
copy_stays Store s offset width value = refl
copy_stays Load s offset width value = refl
copy_stays Fetch s offset width value = refl

answers_so : (access : Access) (s : Page) (offset width value : ℕ) → ((x : ℕ) × ((access_answer access s offset width value).0 ≡ Scalar (Value x))) ⊎ ((access_answer access s offset width value).0 ≡ Scalar Stored)
answers_so Store s offset width value = inr refl
answers_so Load s offset width value = inl (_, refl)
answers_so Fetch s offset width value = inl (_, refl)

module _ (p : Process) (x : AccessRequest) where
  record IsSo (z : Answer) : Type 0 where
    answers : IsAnswer z.reply
    has : HasCopies z.process p
    waits : z.process.pending ≡ pending_after x z.reply

  so_faulted : (cause : ℕ) → IsSo (faulted p x cause)
  so_faulted cause = record { answers = inl (_, refl); has = has_own p; waits = refl }

  nothing_waits : (r : Reply) → ((y : ℕ) × (r ≡ Scalar (Value y))) ⊎ (r ≡ Scalar Stored) → None ≡ pending_after x r
  nothing_waits r (inl value) = rw value.1 refl
  nothing_waits r (inr stored) = rw stored refl

  so_resident : (s : Page) → pages.get p.settled (page_of x.address) ≡ Some s → (b : Bool) → IsSo (if_resident p x s b)
  so_resident s is true =
      let answer : Reply × Page = access_answer x.access s (x.address % 4096) x.width x.value in
      let so = answers_so x.access s (x.address % 4096) x.width x.value in
      record {
        answers = inr so;
        has = has_copies p (page_of x.address) s answer.1 is (copy_stays x.access s (x.address % 4096) x.width x.value);
        waits = nothing_waits answer.0 so;
      }
  so_resident s is false = so_faulted _

  so_settled : (o : Option Page) → pages.get p.settled (page_of x.address) ≡ o → IsSo (if_settled p x o)
  so_settled None is = so_faulted _
  so_settled (Some s) is = so_resident s is _

  so_denied : (o : Option Rule) → IsSo (unless_denied p x o)
  so_denied (Some r) = so_faulted _
  so_denied None = so_settled (pages.get p.settled (page_of x.address)) refl

  so : IsSo (user_access p x)
  so = so_denied (first_rule p.scheme (regions p) x.access x.address x.width)

  pub access_answers : IsAnswer (user_access p x).reply
  access_answers = so.answers

  pub access_has_copies : HasCopies (user_access p x).process p
  access_has_copies = so.has

  pub access_pending : ((user_access p x).process).pending ≡ pending_after x (user_access p x).reply
  access_pending = so.waits

  width_some : (width : ℕ) → IsTrue (is_width width) → 0 < width
  width_some zero h = absurd (cc)
  width_some (suc n) h = omega arith

  pub access_wide : IsTrue (is_width x.width) → HasPageBytes (user_access p x).process.pending
  access_wide width = subst HasPageBytes (sym so.waits) (elim so.answers [
    | inl fault ↦ rw fault.1 (width_some x.width width)
    | inr answer ↦ elim answer [ inl value ↦ rw value.1 tt | inr stored ↦ rw stored tt ]
  ])
