use Rattle.script_reader.proofs.PrefixNumbers.{decimal_said, hexadecimal_said}
use Rattle.script_reader.proofs.number_prefixes.any_number.Goals as goal

pub returns-in-Some : goal.returns-in-Some
returns-in-Some c = hexadecimal_said c.args.line.now c.skip_blanks-text.result.now c.in-Some.digits.now c.hexadecimal_prefix.result c.in-Some.ensures c.skip_blanks-text.ensures c.hexadecimal_prefix.ensures

pub returns-in-None : goal.returns-in-None
returns-in-None c = decimal_said c.args.line.now c.skip_blanks-text.result.now c.decimal_prefix.result c.skip_blanks-text.ensures c.decimal_prefix.ensures
