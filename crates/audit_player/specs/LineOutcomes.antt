-- Relations for playing on a machine: reply and machine are those of a model's outcome (`GivesOutcome`); for a line after
-- `boot`, the model's answer was appended to the text, and the machine is in the world after that line (`AppendsLine`).
use Rattle.std.specs.Prelude.{◌≡◌, ℕ, List, ◌++◌}
use Rattle.script_language.specs.Text.{LineResult}
use Rattle.process_model.specs.World.{StepOutcome}
use Rattle.process_model.specs.declared.reply.Reply.{Reply}
use Rattle.hart_machine.specs.BufferEntries.{IsInWorld}
use Rattle.hart_machine.specs.declared.machine.Machine.{Machine}

-- the reply is that of the outcome, and the machine is in the outcome's world
abbrev pub GivesOutcome : Machine → Reply → StepOutcome → Type 0
GivesOutcome m reply o = (reply ≡ o.reply) × IsInWorld m o.world

-- the answer of the model's line was appended to the text, and the machine is in the world after that line
abbrev pub AppendsLine : Machine → List ℕ → List ℕ → LineResult → Type 0
AppendsLine m before after p = (after ≡ before ++ p.text) × IsInWorld m p.world
