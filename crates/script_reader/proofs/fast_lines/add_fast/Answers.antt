use Rattle.std.proofs.Common.{◌∙◌, ap, arith, sym}
use Rattle.std.proofs.lemmas.Bool.{le-leb}
use Rattle.script_language.specs.Lines.{fields_of}
use Rattle.script_language.specs.declared.limits.TheConstants.{LONGEST_LINE}
use Rattle.script_reader.proofs.FastLineSteps.{line_added}
use Rattle.script_reader.proofs.WordPrefixes.{word_cut}
use Rattle.script_reader.specs.FastWords.{letters}
use Rattle.script_reader.proofs.fast_lines.add_fast.Goals as goal

pub returns-clause-added : goal.returns-clause-added
returns-clause-added c =
    line_added c.args.draft.now c.add_word.new.draft c.args.line.now (letters c.in_ok-word.word) c.in_ok-word.fields.now c.add_word.result
    (ap fields_of c.in_ok-word.ensures ∙ word_cut c.in_ok-word.word c.in_ok-word.fields.now (sym c.is_end.ensures ∙ c.if-not-is_end.false))
    (sym c.takes_commands.ensures ∙ c.if-not-takes_commands.false) (le-leb _ LONGEST_LINE (omega (arith, c.if-line-gt-LONGEST_LINE.false))) c.requires c.add_word.ensures.added
