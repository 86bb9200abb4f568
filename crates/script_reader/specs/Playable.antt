-- Predicates that hold of each script that the reader accepts (`IsPlayable`): its configuration can boot (`CanBoot`), it has
-- at most 16 files, which keep their limits (`FitsFile`), and what its lines name is declared, with at most 256 bytes in a
-- `copyout` or a `show` (`IsDeclared`). So only a step can still be refused.
use Rattle.std.specs.Prelude.{◌<◌, ◌≤◌, List, Option, None, Some, length, IsTrue, All}
use Rattle.process_model.specs.declared.limits.TheConstants.{LONGEST_COPY, MOST_FILES}
use Rattle.process_model.specs.Frames.{can_boot}
use Rattle.process_model.specs.Files.{fits_file}
use Rattle.script_language.specs.Script.{Draft, Script}
use Rattle.process_model.specs.declared.config.Config.{Config}
use Rattle.process_model.specs.declared.file.FileText.{FileText}
use Rattle.script_language.specs.declared.declarations.OwnedImage.{OwnedImage}
use Rattle.script_language.specs.declared.script.Command.{Command}
use Rattle.script_language.specs.declared.script.Command.TheVariants as command
use Rattle.script_language.specs.declared.script.Item.{Item}
use Rattle.script_language.specs.declared.script.Item.TheVariants as item

-- the image or the file that the line names was declared; a `copyout` has, and a `show` asks for, at
-- most `LONGEST_COPY` bytes
abbrev pub IsDeclared : List FileText → List OwnedImage → Command → Type 0
IsDeclared files images (command.Start n) = n < length images
IsDeclared files images (command.Exec h n) = n < length images
IsDeclared files images (command.CopyOut h a bytes) = length bytes ≤ LONGEST_COPY
IsDeclared files images (command.Show n offset count) = (n < length files) × (count ≤ LONGEST_COPY)
IsDeclared files images c = Unit {0}

abbrev pub CanBoot : Config → Type 0
CanBoot c = IsTrue (can_boot c.scheme c.harts c.frames c.slots)

abbrev pub FitsFile : FileText → Type 0
FitsFile f = IsTrue (fits_file f)

-- an item fits the lines before it: a file keeps its limits, a machine can boot, what a command names is declared
abbrev pub FitsItem : Draft → Item → Type 0
FitsItem d (item.File f) = FitsFile f
FitsItem d (item.Image i) = Unit {0}
FitsItem d (item.Boot c) = CanBoot c
FitsItem d (item.Command c) = IsDeclared d.files d.images c

abbrev pub CanBootIf : Option Config → Type 0
CanBootIf None = Unit {0}
CanBootIf (Some c) = CanBoot c

-- what holds of the lines so far
pub record IsSound (d : Draft) : Type 0 where
  pub boots : CanBootIf d.config
  pub few : length d.files ≤ MOST_FILES
  pub files : All FitsFile d.files
  pub commands : All (IsDeclared d.files d.images) d.commands

pub record IsPlayable (s : Script) : Type 0 where
  pub boots : CanBoot s.config
  pub few : length s.files ≤ MOST_FILES
  pub files : All FitsFile s.files
  pub commands : All (IsDeclared s.files s.images) s.commands
