-- Laws: if no rule of the regions denies an access, its page can be made resident, `can_reside`; and the rule that denies an
-- access is never NoFrame, `denied_otherwise`.
use Rattle.std.proofs.Common.{◌≡◌, ℕ, Bool, true, false, refl, subst, List, [], ◌∷◌, Option, None, Some}
use Rattle.std.specs.Prelude.{if◌then◌else◌}
use Rattle.std.proofs.lemmas.Option.{same_Some}
use Rattle.address_space.specs.Agreement.{Body, IsSpace}
use Rattle.fault_rules.specs.MadeResident.{CanMakeResident}
use Rattle.process_model.specs.Bytes.{first_true}
use Rattle.process_model.proofs.GrantLaws.{none_true}
use Rattle.process_model.specs.Process.{Process, regions}
use Rattle.process_model.specs.Regions.{copy_rule, copy_tests, first_rule, is_aligned, lacks_right, Region, region_at, right_rule}
use Rattle.sv39_entry.specs.Address.{page_of}
use Rattle.sv39_entry.specs.declared.access.Access.{Access}
use Rattle.sv39_entry.specs.declared.access.Access.TheVariants as access
use Rattle.sv39_entry.specs.declared.rule.Rule.{Rule}
use Rattle.sv39_entry.specs.declared.rule.Rule.TheVariants as rule
use Rattle.sv39_entry.specs.declared.scheme.Scheme.{Scheme}
use Rattle.table_walk.specs.Tables.{Tables}

aligned_copy : (b : Bool) (o : Option Rule) → (if b then o else Some rule.Misaligned) ≡ None → o ≡ None
aligned_copy true o is = is
aligned_copy false o is = absurd (cc)

pub can_reside : (x : Body) (t : Tables) (p : Process) (a : Access) (address width : ℕ) → IsSpace x t p
    → first_rule p.scheme (regions p) a address width ≡ None → CanMakeResident x t p a (page_of address)
can_reside x t p a address width space none =
    let tests = none_true (copy_tests p.scheme (regions p) a address)
    (aligned_copy (is_aligned address width) (copy_rule p.scheme (regions p) a address) none) in
    go (region_at (regions p) (page_of address)) refl tests.1.1.1.1.0
  where
    go : (o : Option Region) → region_at (regions p) (page_of address) ≡ o → lacks_right a (region_at (regions p) (page_of address)) ≡ false
        → CanMakeResident x t p a (page_of address)
    go None is right = absurd (let lacks = subst (λ o. lacks_right a o ≡ false) is right in cc)
    go (Some r) is right = record { agrees = space; region = r; in_region = is; right = subst (λ o. lacks_right a o ≡ false) is right }

-- `first_rule` never denies an access by NoFrame

abbrev NeverTells : Rule → List (Bool × Rule) → Type 0
NeverTells r [] = Unit {0}
NeverTells r (t ∷ ts) = (t.1 ≡ r → ⊥) × NeverTells r ts

first_tells : (r : Rule) (ts : List (Bool × Rule)) → NeverTells r ts → first_true ts ≡ Some r → ⊥
first_tells r [] never is = cc
first_tells r ((true, x) ∷ ts) never is = never.0 (same_Some x r is)
first_tells r ((false, x) ∷ ts) never is = first_tells r ts never.1 is

right_tells : (a : Access) → right_rule a ≡ rule.NoFrame → ⊥
right_tells access.Fetch is = cc
right_tells access.Load is = cc
right_tells access.Store is = cc

pub denied_otherwise : (z : Scheme) (rs : List Region) (a : Access) (address width : ℕ) → first_rule z rs a address width ≡ Some rule.NoFrame → ⊥
denied_otherwise z rs a address width = go (is_aligned address width)
  where
    never : NeverTells rule.NoFrame (copy_tests z rs a address)
    never = (λ is. cc, (λ is. cc, (λ is. cc, (λ is. cc, (right_tells a, tt)))))

    go : (b : Bool) → (if b then copy_rule z rs a address else Some rule.Misaligned) ≡ Some rule.NoFrame → ⊥
    go true is = first_tells rule.NoFrame (copy_tests z rs a address) never is
    go false is = cc
