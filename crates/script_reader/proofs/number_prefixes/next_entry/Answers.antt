use Rattle.script_reader.proofs.PrefixNumbers.{entry_said}
use Rattle.script_reader.proofs.number_prefixes.next_entry.Goals as goal

pub returns-in-Some : goal.returns-in-Some
returns-in-Some c = entry_said c.args.line.now c.skip_blanks-text.result.now c.in-Some.digits.now c.decimal_digits.result c.in-Some.ensures c.skip_blanks-text.ensures c.decimal_digits.ensures
