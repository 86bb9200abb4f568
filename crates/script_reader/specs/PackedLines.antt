-- The script line after `boot` that a packed line of `Commands` means (`unpacked`) and that a `CommandView` shows (`shown`);
-- predicates on a packed line: its place is among the lines kept whole (`IsWithin`), it means a line by itself (`Says`).
use Rattle.std.specs.Prelude.{◌≡◌, ◌<◌, ℕ, List, slice_index_or}
use Rattle.script_language.specs.declared.script.Command.{Command}
use Rattle.script_language.specs.declared.script.Command.TheVariants as command
use Rattle.process_model.specs.declared.step.Step.TheVariants as step
use Rattle.script_reader.specs.declared.commands.PackedCommand.{PackedCommand}
use Rattle.script_reader.specs.declared.commands.PackedCommand.TheVariants as packed
use Rattle.script_reader.specs.declared.commands.CommandView.{CommandView}
use Rattle.script_reader.specs.declared.commands.CommandView.TheVariants as shows

-- the line that a packed one means, if these lines are kept whole; for a place past them it is `audit`
abbrev pub unpacked : List Command → PackedCommand → Command
unpacked whole (packed.Switch hart slot) = command.One (step.Switch hart slot)
unpacked whole (packed.Fill hart address) = command.One (step.Fill hart address)
unpacked whole (packed.Fetch hart via address) = command.One (step.Fetch hart address via)
unpacked whole (packed.Load width hart via address) = command.One (step.Load hart address width via)
unpacked whole (packed.Store width hart via address value) = command.One (step.Store hart address width value via)
unpacked whole (packed.CopyIn hart count address) = command.One (step.CopyIn hart address count)
unpacked whole (packed.Exec hart image) = command.Exec hart image
unpacked whole (packed.On hart slot) = command.On hart slot
unpacked whole (packed.Enter hart) = command.Enter hart
unpacked whole (packed.Leave hart) = command.Leave hart
unpacked whole (packed.Fix hart) = command.Fix hart
unpacked whole (packed.Whole place) = slice_index_or whole place command.Audit

-- a packed line that has a place has one below `count`, the number of lines kept whole
abbrev pub IsWithin : ℕ → PackedCommand → Type 0
IsWithin count (packed.Whole place) = place < count
IsWithin count p = Unit {0}

-- p has no place, and means this line, whatever lines are kept whole
pub record Says (p : PackedCommand) (line : Command) : Type 0 where
  pub alone : IsWithin 0 p
  pub says : (whole : List Command) → unpacked whole p ≡ line

-- the line that a view shows
abbrev pub shown : CommandView → Command
shown (shows.Step s) = command.One s
shown (shows.Made line) = line
shown (shows.Kept line) = line.now
