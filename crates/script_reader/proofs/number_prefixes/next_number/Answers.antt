use Rattle.std.proofs.Common.{Some}
use Rattle.script_reader.proofs.PrefixNumbers.{decimal_said}
use Rattle.script_reader.proofs.number_prefixes.next_number.Goals as goal

pub returns-in-Some : goal.returns-in-Some
returns-in-Some c = decimal_said c.args.line.now c.behind_blank.result.now (Some c.in-Some.found) c.behind_blank.ensures c.in-Some.ensures
