use Rattle.std.proofs.Common.{◌≡◌, drop}
use Rattle.script_language.specs.Lines.{fields_of}
use Rattle.usertest_text.proofs.table.after_words.Given as goal

-- the words that were passed are the first ones
abbrev pub invariant-words : goal.invariant-words
invariant-words l = fields_of l.rest ≡ drop l._index (fields_of l.text)
