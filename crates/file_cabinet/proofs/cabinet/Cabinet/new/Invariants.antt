use Rattle.std.proofs.Common.{◌≡◌, map, take}
use Rattle.process_model.specs.Files.{file_of}
use Rattle.file_cabinet.proofs.cabinet.Cabinet.new.Given as goal

-- so many files are made
abbrev pub invariant-loop-text : goal.invariant-loop-text
invariant-loop-text l = l.held.items ≡ map file_of (take l.text-index l.files)
