use Rattle.std.proofs.Common.{◌*◌, ◌∙◌, arith}
use Rattle.std.proofs.lemmas.Nat.{one_shl}
use Rattle.table_dumps.proofs.Pages.{nine_bits, power_some, power_up}
use Rattle.table_dumps.proofs.listing.pages_of.Goals as goal

pub returns-clause-value : goal.returns-clause-value
returns-clause-value c = one_shl (9 * c.args.level) 64 (omega arith) ∙ nine_bits c.args.level

pub returns-clause-few : goal.returns-clause-few
returns-clause-few c =
    let is = one_shl (9 * c.args.level) 64 (omega arith) ∙ nine_bits c.args.level in
    let up = power_up c.args.level 4 c.requires in
    omega (arith, is, up)

pub returns-clause-some : goal.returns-clause-some
returns-clause-some c =
    let is = one_shl (9 * c.args.level) 64 (omega arith) ∙ nine_bits c.args.level in
    let some = power_some c.args.level in
    omega (arith, is, some)
