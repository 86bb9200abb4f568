use Rattle.std.proofs.Common.{flat_map}
use Rattle.pictures.specs.Escaped.{escape}
use Rattle.text_builder.specs.Texts.{Appends}
use Rattle.pictures.proofs.escape.put_escaped.Given as goal

-- the characters so far were put, each escaped
abbrev pub invariant-characters : goal.invariant-characters
invariant-characters l = Appends l.initial.out l.out (flat_map escape l.yielded)
