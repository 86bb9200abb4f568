use Rattle.std.proofs.Common.{◌≡◌, ◌↔◌, ℕ, true, subst, ◌∙◌, ◌≤◌, ◌+◌, List, None, Some, arith, refl, sym}
use Rattle.std.proofs.lemmas.Bool.{le-leb}
use Rattle.address_space.specs.Accesses.{IsGranted}
use Rattle.hart_machine.proofs.slot_process.SlotProcess.residence.Goals as goal
use Rattle.process_model.specs.Regions.{copy_rule, Region}
use Rattle.process_model.specs.Process.{regions}
use Rattle.sv39_entry.specs.Schemes.{maxva, of_scheme}
use Rattle.sv39_entry.specs.declared.scheme.Scheme.{Scheme}
use Rattle.sv39_entry.specs.declared.access.Access.{Access}
use Rattle.sv39_entry.specs.declared.rule.Rule.TheVariants.{BeyondMax}

pub is_resident-next-requires-clause-ready : goal.is_resident-next-requires-clause-ready
is_resident-next-requires-clause-ready c = rw c.is_resident-first.ensures.same c.requires.ready

pub returns-in-Some-clause-next : goal.returns-in-Some-clause-next
returns-in-Some-clause-next c = λ t p slot_process.
    subst (λ (a : ℕ). (c.is_resident-next.result ≡ true) ↔ IsGranted p c.args.access a) c.in-Some.ensures.1
    (c.is_resident-next.ensures.granted t p (rw c.is_resident-first.ensures.same slot_process))

-- an address that no word holds is beyond all that a process has
past : (z : Scheme) (rs : List Region) (access : Access) (a : ℕ) → maxva z ≤ a → copy_rule z rs access a ≡ None → ⊥
past z rs access a high none =
    let beyond : copy_rule z rs access a ≡ Some BeyondMax = rw (le-leb (maxva z) a high) refl in
    let both = sym beyond ∙ none in cc

pub returns-in-None-clause-next : goal.returns-in-None-clause-next
returns-in-None-clause-next c = λ t p slot_process. (
  (λ never. absurd cc),
  (λ granted. absurd (past p.scheme (regions p) c.args.access (c.args.va.0 + 4096) (omega (arith, of_scheme p.scheme, c.in-None.ensures)) granted.0)),
)
