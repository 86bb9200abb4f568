-- Lemmas: an error of `grant` is the rule that denies the access, and without an error no rule denies it; and functions that
-- return the rule or the refusal of an outcome of `serve`.
use Rattle.std.proofs.Common.{◌≡◌, refl, Option, None, Some, Err}
use Rattle.address_space.specs.Layouts.{granted_unless}
use Rattle.fault_rules.specs.declared.service.Served.{Served}
use Rattle.fault_rules.specs.declared.service.Served.TheVariants as served
use Rattle.process_model.specs.declared.reply.Refusal.{Refusal}
use Rattle.process_model.specs.declared.reply.Refusal.TheVariants.{Memory}
use Rattle.sv39_entry.specs.declared.rule.Rule.{Rule}
use Rattle.sv39_entry.specs.declared.rule.Rule.TheVariants.{NoFrame}

pub denied_by : (o : Option Rule) (r : Rule) → granted_unless o ≡ Err r → o ≡ Some r
denied_by None r is = absurd (cc)
denied_by (Some x) r is = cc

pub denied_by_none : (o : Option Rule) → ((r : Rule) → granted_unless o ≡ Err r → ⊥) → o ≡ None
denied_by_none None none = refl
denied_by_none (Some x) none = absurd (none x refl)

abbrev pub rule_in : Served → Rule
rule_in (served.Ended rule) = rule
rule_in _ = NoFrame

abbrev pub refusal_in : Served → Refusal
refusal_in (served.Unserved refusal) = refusal
refusal_in _ = Memory
