-- Definitions: the number (1 to 9) and the name of each rule that denies a user access or a kernel copy (`Rule`), and the
-- text of both, as replies print it.
use Rattle.std.specs.Prelude.{ℕ, List, ◌++◌, codes}
use Rattle.std.specs.Fmt.{decimal}
use Rattle.sv39_entry.specs.declared.rule.Rule.{Rule}
use Rattle.sv39_entry.specs.declared.rule.Rule.TheVariants as rule

abbrev pub rule_number : Rule → ℕ
rule_number rule.Misaligned = 1
rule_number rule.BeyondMax = 2
rule_number rule.KernelPage = 3
rule_number rule.GuardPage = 4
rule_number rule.NoRegion = 5
rule_number rule.NoRead = 6
rule_number rule.NoWrite = 7
rule_number rule.NoExec = 8
rule_number rule.NoFrame = 9

abbrev pub rule_name : Rule → List ℕ
rule_name rule.Misaligned = codes "Misaligned"
rule_name rule.BeyondMax = codes "BeyondMax"
rule_name rule.KernelPage = codes "KernelPage"
rule_name rule.GuardPage = codes "GuardPage"
rule_name rule.NoRegion = codes "NoRegion"
rule_name rule.NoRead = codes "NoRead"
rule_name rule.NoWrite = codes "NoWrite"
rule_name rule.NoExec = codes "NoExec"
rule_name rule.NoFrame = codes "NoFrame"

abbrev pub rule_text : Rule → List ℕ
rule_text r = decimal (rule_number r) ++ codes " " ++ rule_name r
