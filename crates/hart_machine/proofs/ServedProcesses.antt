-- Lemmas for serving a fault of the process in a slot: its pending access in the model, that no file changes, and the rule of
-- the result: none if it was served, else the one that denies the access, or `NoFrame`.
use Rattle.std.proofs.Common.{◌≡◌, ℕ, ◌<◌, ◌⊎◌, Option, None, Some, List, true, refl, ap, sym, subst, ◌∙◌, inl, inr}
use Rattle.std.proofs.lemmas.Option.{same_Some}
use Rattle.fault_rules.specs.MadeResident.{moves_for, moves_from}
use Rattle.fault_rules.specs.Serves.{IsEnd, served_moves}
use Rattle.fault_rules.specs.declared.service.Served.{Served}
use Rattle.fault_rules.specs.declared.service.Served.TheVariants as served
use Rattle.process_model.specs.Files.{File}
use Rattle.process_model.specs.PageMap.{get}
use Rattle.process_model.specs.PageMoves.{files_after}
use Rattle.process_model.specs.Process as model
use Rattle.process_model.specs.Process.{Page, Process}
use Rattle.process_model.specs.Regions.{file, image, Region, Source, zeros}
use Rattle.process_model.specs.Residence.{region_on}
use Rattle.process_model.specs.World.{is_unserved_access}
use Rattle.sv39_entry.specs.declared.rule.Rule.{Rule}
use Rattle.sv39_entry.specs.declared.rule.Rule.TheVariants.{NoFrame}
use Rattle.table_walk.specs.Tables.{Tables}
use Rattle.hart_machine.specs.ServeEffect.{rule_of}
use Rattle.hart_machine.specs.SlotProcesses.{HasPageBytes, IsSlotProcess, pending_of}
use Rattle.hart_machine.specs.declared.slot_process.Pending.{Pending}
use Rattle.hart_machine.specs.declared.slot_process.SlotProcess.{SlotProcess}

-- what is read changes no file

reads_of : (fs : List File) (s : Source) (at : ℕ) → files_after fs (moves_from fs s at) ≡ fs
reads_of fs zeros at = refl
reads_of fs image at = refl
reads_of fs (file n offset) at = refl

reads_for : (fs : List File) (r : Option Region) (o : Option Page) (page : ℕ) → files_after fs (moves_for fs r o page) ≡ fs
reads_for fs None o page = refl
reads_for fs (Some r) None page = reads_of fs r.source _
reads_for fs (Some r) (Some s) page = refl

pub only_reads : (fs : List File) (p : Process) (page : ℕ) (o : Option Rule) → files_after fs (served_moves fs p page o) ≡ fs
only_reads fs p page None = reads_for fs (region_on p page) (get p.settled page) page
only_reads fs p page (Some r) = refl

-- a process with an access that waits

pub something_waits : (o : Option Pending) → is_unserved_access (pending_of o) ≡ true → o ≡ None → ⊥
something_waits None waits none = cc
something_waits (Some z) waits none = cc

module _ (x : SlotProcess) (z : Pending) (waiting : x.pending ≡ Some z) where
  abbrev pub in_model : model.Pending
  in_model = record { access = z.access; address = z.va.0; width = z.width; served = z.served }

  pub it_is : (t : Tables) (p : Process) (a : model.Pending) → IsSlotProcess x t p → p.pending ≡ Some a → in_model ≡ a
  it_is t p a slot_process is = same_Some in_model a (sym (ap pending_of waiting) ∙ sym slot_process.pending ∙ is)

  pub has_bytes : (t : Tables) (p : Process) → IsSlotProcess x t p → 0 < z.width
  has_bytes t p slot_process = subst HasPageBytes (slot_process.pending ∙ ap pending_of waiting) slot_process.wide

  module _ (t : Tables) (p : Process) (slot_process : IsSlotProcess x t p) (r : Served) (ended : IsEnd (rule_of p in_model) r) where
    -- what was answered tells whether a rule denies the access

    pub allowed : r ≡ served.Ready → rule_of p in_model ≡ None
    allowed ready = go (rule_of p in_model) refl where
      go : (o : Option Rule) → rule_of p in_model ≡ o → o ≡ None
      go None e = refl
      go (Some rule) e = absurd (let told = subst (λ (o : Option Rule). IsEnd o r) e ended in let both : served.Ready ≡ served.Ended rule = sym ready ∙ told in cc)

    pub why : (rule : Rule) → r ≡ served.Ended rule → (P : Type 0) → (rule_of p in_model ≡ None → rule ≡ NoFrame → P) → (rule_of p in_model ≡ Some rule) ⊎ ((rule_of p in_model ≡ None) × (rule ≡ NoFrame) × P)
    why rule is P short = go (rule_of p in_model) refl where
      go : (o : Option Rule) → rule_of p in_model ≡ o → (o ≡ Some rule) ⊎ ((o ≡ None) × (rule ≡ NoFrame) × P)
      go None e = let dry = subst (λ (o : Option Rule). IsEnd o r) e ended rule is in inr (refl, dry, short e dry)
      go (Some s) e = let told = subst (λ (o : Option Rule). IsEnd o r) e ended in inl (let both : served.Ended s ≡ served.Ended rule = sym told ∙ is in cc)
