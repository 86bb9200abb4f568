use Rattle.std.proofs.Common.{◌≡◌, true, take}
use Rattle.script_language.specs.ReadLines.{is_ascii}
use Rattle.fault_texts.proofs.explaining.not_ascii.Given as goal

-- the bytes so far are ASCII
abbrev pub invariant-bytes : goal.invariant-bytes
invariant-bytes l = is_ascii (take l.place l.line) ≡ true
