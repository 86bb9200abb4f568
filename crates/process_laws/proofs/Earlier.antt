-- Lemmas: `first_rule` gives a rule if and only if that rule denies the access and none with a smaller number does
-- (`IsFirst`); if it gives none, no rule denies the access.
use Rattle.std.proofs.Common.{◌≡◌, ℕ, ◌<◌, Option, None, Some, List, refl, sym, ap, ◌∙◌, arith}
use Rattle.std.proofs.lemmas.Grind.{common_steps}
use Rattle.std.specs.Prelude.{◌==◌, if◌then◌else◌}
use Rattle.sv39_entry.specs.declared.scheme.Scheme.{Scheme}
use Rattle.sv39_entry.specs.declared.scheme.Scheme.TheVariants.{Sv39, Sv48}
use Rattle.process_model.specs.Regions.{Region, first_rule}
use Rattle.process_laws.specs.RuleDenials.{Denies, IsFirst}
use Rattle.sv39_entry.specs.RuleText.{rule_number}
use Rattle.sv39_entry.specs.declared.access.Access.{Access}
use Rattle.sv39_entry.specs.declared.rule.Rule.{Rule}
use Rattle.sv39_entry.specs.declared.rule.Rule.TheVariants as rule

-- the rule with a number
abbrev rule_with : ℕ → Rule
rule_with n =
    if n == 1 then rule.Misaligned else if n == 2 then rule.BeyondMax else if n == 3 then rule.KernelPage else if n == 4 then rule.GuardPage
    else if n == 5 then rule.NoRegion else if n == 6 then rule.NoRead else if n == 7 then rule.NoWrite else if n == 8 then rule.NoExec else rule.NoFrame

is_with_its_number : (r : Rule) → rule_with (rule_number r) ≡ r
is_with_its_number rule.Misaligned = refl
is_with_its_number rule.BeyondMax = refl
is_with_its_number rule.KernelPage = refl
is_with_its_number rule.GuardPage = refl
is_with_its_number rule.NoRegion = refl
is_with_its_number rule.NoRead = refl
is_with_its_number rule.NoWrite = refl
is_with_its_number rule.NoExec = refl
is_with_its_number rule.NoFrame = refl

by39 : (rs : List Region) (access : Access) (address width : ℕ) (r : Rule) → first_rule Sv39 rs access address width ≡ Some r → IsFirst Sv39 rs access address width r
by39 rs access address width r e = grind (arith, common_steps)

by48 : (rs : List Region) (access : Access) (address width : ℕ) (r : Rule) → first_rule Sv48 rs access address width ≡ Some r → IsFirst Sv48 rs access address width r
by48 rs access address width r e = grind (arith, common_steps)

by_scheme : (z : Scheme) (rs : List Region) (access : Access) (address width : ℕ) (r : Rule) → first_rule z rs access address width ≡ Some r → IsFirst z rs access address width r
by_scheme Sv39 = by39
by_scheme Sv48 = by48

module _ (z : Scheme) (rs : List Region) (access : Access) (address width : ℕ) where
  pub answered_is_first : (r : Rule) → first_rule z rs access address width ≡ Some r → IsFirst z rs access address width r
  answered_is_first r e = by_scheme z rs access address width r e

  pub granted_is_denied_by_none : (r : Rule) → first_rule z rs access address width ≡ None → Denies z rs access address width r → ⊥
  granted_is_denied_by_none r e d = grind (arith, common_steps)

  -- of two first ones neither is before the other
  same_first : (r s : Rule) → IsFirst z rs access address width r → IsFirst z rs access address width s → r ≡ s
  same_first r s f g =
      let not_before : rule_number r < rule_number s → ⊥ = λ h. g.first r h f.denies in
      let not_after : rule_number s < rule_number r → ⊥ = λ h. f.first s h g.denies in
      let same : rule_number r ≡ rule_number s = omega (arith, not_before, not_after) in
      sym (is_with_its_number r) ∙ ap rule_with same ∙ is_with_its_number s

  first_is : (o : Option Rule) (r : Rule) → first_rule z rs access address width ≡ o → IsFirst z rs access address width r → o ≡ Some r
  first_is None r e f = absurd (granted_is_denied_by_none r e f.denies)
  first_is (Some s) r e f = ap Some (same_first s r (answered_is_first s e) f)

  pub first_is_answered : (r : Rule) → IsFirst z rs access address width r → first_rule z rs access address width ≡ Some r
  first_is_answered r f = first_is (first_rule z rs access address width) r refl f
