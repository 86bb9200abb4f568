use Rattle.std.proofs.Common.{Some}
use Rattle.script_reader.proofs.PrefixNumbers.{decimal_said, hexadecimal_said}
use Rattle.script_reader.proofs.number_prefixes.next_address.Goals as goal

pub returns-in-Some : goal.returns-in-Some
returns-in-Some c = hexadecimal_said c.args.line.now c.behind_blank-text.result.now c.in-Some.digits.now c.hexadecimal_prefix.result c.in-Some.ensures c.behind_blank-text.ensures c.hexadecimal_prefix.ensures

pub returns-in-Some-decimal_prefix : goal.returns-in-Some-decimal_prefix
returns-in-Some-decimal_prefix c = decimal_said c.args.line.now c.behind_blank-text.result.now (Some c.in-Some-decimal_prefix.found) c.behind_blank-text.ensures c.in-Some-decimal_prefix.ensures
