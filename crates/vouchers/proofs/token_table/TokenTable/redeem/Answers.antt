-- What the search left open of `redeem`.
use Rattle.std.proofs.Common.{◌∙◌, arith, ap, sym, refl, inl, subst}
use Rattle.vouchers.specs.Entries.{Has, View, took}
use Rattle.atomic_table.specs.Table.{Me, step}
use mathlib.Core.Option.{none}
use Rattle.vouchers.specs.IssuerInvariant.{AllIn}
use Rattle.vouchers.proofs.Steps.{takes, learns}
use Rattle.vouchers.proofs.token_table.TokenTable.redeem.Goals as goal

pub join_seat-requires : goal.join_seat-requires
join_seat-requires c = (c.requires.issuer ∙ sym c.self.view_is, c.requires.token ∙ sym c.self.view_is, c.args.token.no_slot, omega (arith, c.self.invariant), takes c.self.inside.table.shared.key _ _ _ _ _ c.args.issuer.now.keeps c.requires.one.1)

pub load-requires : goal.load-requires
load-requires c = (c.join_seat.ensures.0 ∙ (c.requires.issuer ∙ sym c.self.view_is), omega (arith, c.self.invariant), learns c.self.inside.table.shared.key c.self.inside.table.shared.table_id.slots _ _ (step c.self.inside.table.shared.table_id.slots 0 0 0 none))

pub returns-clause-listed : goal.returns-clause-listed
returns-clause-listed c e is =
    let v = c.args.issuer.now.seat.me.0 in
    let w = c.args.token.seat.me.0 in
    let told : AllIn (took v w).back (took v w).before = subst (λ (u : View). AllIn u.back u.before) (ap (λ (m : Me (Unit {0}) View). m.0) c.join_seat.ensures.2) c.load.ensures.2.1 in
    told e (subst (Has e) (sym is) (inl refl))
