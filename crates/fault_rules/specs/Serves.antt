-- Predicates about the outcome of `serve`, the service of a fault: an end by the rule that denies the access (`IsEnd`), one
-- by which nothing changes (`DoesNothing`), whether it is `Ready` (`is_ready`); and the pages of files that it reads
-- (`served_moves`).
use Rattle.std.specs.Prelude.{◌≡◌, ◌≢◌, ℕ, Bool, false, true, List, [], Option, None, Some}
use Rattle.fault_rules.specs.MadeResident.{resident_reads}
use Rattle.fault_rules.specs.declared.service.Served.{Served}
use Rattle.fault_rules.specs.declared.service.Served.TheVariants as served
use Rattle.process_model.specs.Files.{File}
use Rattle.process_model.specs.PageMoves.{PageMove}
use Rattle.process_model.specs.Process.{Process}
use Rattle.sv39_entry.specs.declared.rule.Rule.{Rule}
use Rattle.sv39_entry.specs.declared.rule.Rule.TheVariants.{NoFrame}

-- if a rule denies the access, the outcome is an end by the first such rule; if none does, an end is by NoFrame
abbrev pub IsEnd : Option Rule → Served → Type 0
IsEnd (Some rule) r = r ≡ served.Ended rule
IsEnd None r = (rule : Rule) → r ≡ served.Ended rule → rule ≡ NoFrame

-- the outcome is neither Ready nor an end by NoFrame: the access is denied, or a page of a file was not promised
abbrev pub DoesNothing : Served → Type 0
DoesNothing r = (r ≢ served.Ready) × (r ≢ served.Ended NoFrame)

-- whether the outcome is Ready
abbrev pub is_ready : Served → Bool
is_ready served.Ready = true
is_ready _ = false

-- the pages of files that are read: none for an access that a rule denies
abbrev pub served_moves : List File → Process → ℕ → Option Rule → List PageMove
served_moves files p page None = resident_reads files p page
served_moves files p page (Some rule) = []
