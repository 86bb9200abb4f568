use Rattle.std.proofs.Common.{◌∙◌, ap, drop, ℕ, List}
use Rattle.std.proofs.lemmas.List.{drop-drop}
use Rattle.script_language.specs.Lines.{fields_of}
use Rattle.usertest_text.proofs.table.after_words.Goals as goal

pub words-preserved : goal.words-preserved
words-preserved c = c.after_word-rest.ensures
    ∙ (ap (λ (fields : List (List ℕ)). drop 1 fields) c.words.invariant ∙ drop-drop 1 c.words._index (fields_of c.args.text.now))
