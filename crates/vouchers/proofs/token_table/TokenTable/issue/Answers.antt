-- What the search left open of `issue`.
use Rattle.std.proofs.Common.{◌∙◌, arith, sym}
use Rattle.vouchers.proofs.Steps.{gives}
use Rattle.vouchers.proofs.token_table.TokenTable.issue.Goals as goal

pub split_seat-requires : goal.split_seat-requires
split_seat-requires g c = (c.requires.issuer ∙ sym c.self.view_is, omega (arith, c.self.invariant), gives c.self.inside.table.shared.key _ _ _ c.args.issuer.now.keeps)
