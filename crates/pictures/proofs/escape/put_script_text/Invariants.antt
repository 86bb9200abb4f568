use Rattle.std.proofs.Common.{flat_map}
use Rattle.pictures.specs.Escaped.{script_escape}
use Rattle.text_builder.specs.Texts.{Appends}
use Rattle.pictures.proofs.escape.put_script_text.Given as goal

-- the characters so far were put, each as in a script
abbrev pub invariant-characters : goal.invariant-characters
invariant-characters l = Appends l.initial.out l.out (flat_map script_escape l.yielded)
