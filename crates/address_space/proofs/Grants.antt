-- Lemma `grants`: in a space that is a process, the walk of a user access finds a leaf that permits it if and only if no rule
-- (reason for denial) of the regions denies it, alignment aside, and its page is resident.
use Rattle.std.proofs.Common.{◌≡◌, ℕ, ◌%◌, Bool, Option, None, Some, true, false, refl, ap, sym, ◌∙◌, inl, inr}
use Rattle.std.specs.Prelude.{◌↔◌}
use Rattle.process_model.specs.PageMap as pages
use Rattle.process_model.specs.Process.{Page, Process, regions}
use Rattle.process_model.specs.Regions.{copy_rule}
use Rattle.process_model.specs.Residence.{access_answer, is_resident, is_resident_page, region_on}
use Rattle.process_model.specs.Service.{Answer, AccessRequest, faulted, if_resident, if_settled, unless_denied}
use Rattle.process_model.specs.declared.reply.Reply.{Reply}
use Rattle.process_model.specs.declared.reply.ScalarReply.TheVariants.{Fault}
use Rattle.process_model.specs.declared.reply.Reply.TheVariants.{Scalar}
use Rattle.sv39_entry.specs.Address.{page_of}
use Rattle.sv39_entry.specs.Causes.{page_fault_cause}
use Rattle.sv39_entry.specs.declared.access.Access.{Access}
use Rattle.sv39_entry.specs.declared.access.Access.TheVariants.{Fetch, Load, Store}
use Rattle.sv39_entry.specs.declared.access.Mode.TheVariants.{User}
use Rattle.table_walk.specs.Leaves.{walk_answer}
use Rattle.table_walk.specs.Tables.{Tables}
use Rattle.address_space.specs.Accesses.{gives_leaf}
use Rattle.address_space.specs.Agreement.{Body, IsSpace}
use Rattle.address_space.proofs.Users.{walked_by_user}

abbrev is_fault : Reply → Bool
is_fault (Scalar (Fault cause)) = true
is_fault _ = false

no_fault : (access : Access) (s : Page) (offset width value : ℕ) → is_fault (access_answer access s offset width value).0 ≡ false
no_fault Fetch s offset width value = refl
no_fault Load s offset width value = refl
no_fault Store s offset width value = refl

-- an access that goes through is no fault
goes_on : (p : Process) (x : AccessRequest) (cause : ℕ) (o : Option Page) → is_resident_page x.access (region_on p (page_of x.address)) o ≡ true → if_settled p x o ≡ faulted p x cause → ⊥
goes_on p x cause None resident fails = absurd (cc)
goes_on p x cause (Some s) resident fails =
    let through : if_resident p x s true ≡ faulted p x cause = ap (if_resident p x s) (sym resident) ∙ fails in
    let same = ap (λ (a : Answer). is_fault a.reply) through in
    let never = no_fault x.access s (x.address % 4096) x.width x.value in
    cc

module _ (x : Body) (t : Tables) (p : Process) (access : Access) (address : ℕ) (space : IsSpace x t p) where
  abbrev request : AccessRequest
  request = record { access = access; address = address; width = 1; value = 0 }

  pub grants : (gives_leaf (walk_answer p.scheme t address access User) ≡ true) ↔ ((copy_rule p.scheme (regions p) access address ≡ None) × (is_resident p access (page_of address) ≡ true))
  grants = elim (walked_by_user x.view x.trapframe t p space.stands.shows request) [
    | inl goes ↦ (
      (λ _. (goes.3, ap (is_resident_page access (region_on p (page_of address))) goes.2 ∙ goes.4)),
      (λ _. ap gives_leaf goes.5),
    )
    | inr fails ↦ (
      (λ leaf. absurd (let none = ap gives_leaf fails.0 in cc)),
      (λ granted. absurd (goes_on p request (page_fault_cause access) (pages.get p.settled (page_of address)) granted.1 (ap (unless_denied p request) (sym granted.0) ∙ fails.1))),
    )
  ]
