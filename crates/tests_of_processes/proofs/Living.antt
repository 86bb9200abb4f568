-- Lemmas on the space of a story (test case): it still agrees with some process of the model (`IsAlive`) after it was read,
-- changed to another process, resized, unmapped or served.
use Rattle.std.proofs.Common.{◌≡◌, ℕ, ℤ, refl, List, None, Option, Some, Result, Ok, Err}
use Rattle.std.specs.Prelude.{IfErr, IfOk}
use Rattle.frame_store.specs.View.{View}
use Rattle.process_model.specs.Files.{File}
use Rattle.process_model.specs.Process.{Process, regions}
use Rattle.process_model.specs.Regions.{first_rule}
use Rattle.process_model.specs.declared.reply.Refusal.{Refusal}
use Rattle.sv39_entry.specs.Address.{page_of}
use Rattle.sv39_entry.specs.declared.access.Access.{Access}
use Rattle.sv39_entry.specs.declared.frame.FrameNo.{FrameNo}
use Rattle.sv39_entry.specs.declared.rule.Rule.{Rule}
use Rattle.table_walk.specs.Tables.{Tables}
use Rattle.address_space.specs.Agreement.{Body, body, IsSpace, IsAlive}
use Rattle.address_space.specs.Layouts.{Layout}
use Rattle.fault_rules.proofs.Allowed.{can_reside}
use Rattle.fault_rules.specs.MadeResident.{HasMadeResident}
use Rattle.fault_rules.specs.Serves.{DoesNothing, IsEnd}
use Rattle.fault_rules.specs.declared.service.Served.{Served}
use Rattle.fault_rules.specs.declared.service.Served.TheVariants.{Ended, Ready, Unserved}
use Rattle.lazy_growth.specs.SbrkEffect.{Resizes}
use Rattle.lazy_growth.specs.declared.size_error.SizeError.{SizeError}
use Rattle.mmap_regions.specs.MunmapEffect.{Unmaps}

-- a space that became another process
pub alive_as : (x y : Body) (other : Process → Process) → ((t : Tables) (p : Process) → IsSpace x t p → IsSpace y t (other p)) → IsAlive x → IsAlive y
alive_as x y other becomes alive = (alive.0, other alive.1, becomes alive.0 alive.1 alive.2)

-- an access that is served is denied by no rule
granted : (o : Option Rule) → IsEnd o Ready → o ≡ None
granted None is = refl
granted (Some rule) is = absurd (cc)

module _ (v w : View) (root root_after trapframe trapframe_after : FrameNo) (l m : Layout) where
  -- a space that was only read
  pub space_still : w ≡ v → root_after ≡ root → trapframe_after ≡ trapframe → m ≡ l
      → (t : Tables) (p : Process) → IsSpace (body v root.0 trapframe.0 l) t p → IsSpace (body w root_after.0 trapframe_after.0 m) t p
  space_still view root_is trapframe_is layout t p agrees = rw (view, root_is, trapframe_is, layout) agrees

  pub alive_still : w ≡ v → root_after ≡ root → trapframe_after ≡ trapframe → m ≡ l → IsAlive (body v root.0 trapframe.0 l) → IsAlive (body w root_after.0 trapframe_after.0 m)
  alive_still view root_is trapframe_is layout alive = (alive.0, alive.1, space_still view root_is trapframe_is layout alive.0 alive.1 alive.2)

  -- a space of which sbrk was asked
  pub alive_resized : (delta : ℤ) (r : Result ℕ SizeError)
      → IfOk r (λ _. (t : Tables) (p : Process) → IsSpace (body v root.0 trapframe.0 l) t p → Resizes (body w root_after.0 trapframe_after.0 m) t p delta)
      → IfErr r (λ _. w ≡ v) → root_after ≡ root → trapframe_after ≡ trapframe → IfErr r (λ _. m ≡ l)
      → IsAlive (body v root.0 trapframe.0 l) → IsAlive (body w root_after.0 trapframe_after.0 m)
  alive_resized delta (Ok _) resized view root_is trapframe_is layout alive = let made = resized alive.0 alive.1 alive.2 in (made.tables, made.process, made.agrees)
  alive_resized delta (Err _) resized view root_is trapframe_is layout alive = alive_still view root_is trapframe_is layout alive

  -- a space of which munmap was asked
  pub alive_unmapped : (before after : List File) (address len : ℕ) (r : Result (Unit {0}) Refusal)
      → IfOk r (λ _. (t : Tables) (p : Process) → IsSpace (body v root.0 trapframe.0 l) t p → Unmaps (body w root_after.0 trapframe_after.0 m) t p before after address len)
      → IfErr r (λ _. w ≡ v) → root_after ≡ root → trapframe_after ≡ trapframe → IfErr r (λ _. m ≡ l)
      → IsAlive (body v root.0 trapframe.0 l) → IsAlive (body w root_after.0 trapframe_after.0 m)
  alive_unmapped before after address len (Ok _) unmapped view root_is trapframe_is layout alive = let made = unmapped alive.0 alive.1 alive.2 in (made.tables, (made.what).process, made.agrees)
  alive_unmapped before after address len (Err _) unmapped view root_is trapframe_is layout alive = alive_still view root_is trapframe_is layout alive

  -- a space of which a fault was served
  pub alive_served : (files : List File) (access : Access) (address width : ℕ) (IsCount : ℕ → ℕ → Type 0) (r : Served)
      → ((t : Tables) (p : Process) → IsSpace (body v root.0 trapframe.0 l) t p → IsEnd (first_rule p.scheme (regions p) access address width) r)
      → (r ≡ Ready → HasMadeResident (body v root.0 trapframe.0 l) (body w root_after.0 trapframe_after.0 m) files access (page_of address) IsCount)
      → ((rule : Rule) → r ≡ Ended rule → (t : Tables) (p : Process) → IsSpace (body v root.0 trapframe.0 l) t p → IsSpace (body w root_after.0 trapframe_after.0 m) t p)
      → (DoesNothing r → w ≡ v) → root_after ≡ root → trapframe_after ≡ trapframe → m ≡ l
      → IsAlive (body v root.0 trapframe.0 l) → IsAlive (body w root_after.0 trapframe_after.0 m)
  alive_served files access address width IsCount Ready ended ready whole view root_is trapframe_is layout alive =
      let none = granted (first_rule (alive.1).scheme (regions alive.1) access address width) (ended alive.0 alive.1 alive.2) in
      let made = ready refl alive.0 alive.1 (can_reside _ alive.0 alive.1 access address width alive.2 none) in
      (made.0, _, made.2.agrees 0)
  alive_served files access address width IsCount (Ended rule) ended ready whole view root_is trapframe_is layout alive =
      (alive.0, alive.1, whole rule refl alive.0 alive.1 alive.2)
  alive_served files access address width IsCount (Unserved e) ended ready whole view root_is trapframe_is layout alive =
      alive_still (view (λ is. cc, λ is. cc)) root_is trapframe_is layout alive
