use Rattle.std.specs.Prelude.{IfSome, IsSome}
use Rattle.script_language.specs.Fields.{command_table, row_among}
use Rattle.fault_texts.proofs.near_words.nearest_word.Given as goal

-- the nearest of the rows so far is a word
abbrev pub invariant-rows : goal.invariant-rows
invariant-rows l = IfSome l.nearest (λ text. IsSome (row_among command_table text.now))
