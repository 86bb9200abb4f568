-- What the search left open of `withdraw`.
use Rattle.std.proofs.Common.{◌≡◌, ◌∙◌, ap, [], arith, length, refl}
use Rattle.vouchers.specs.Entries.{nameless, without}
use Rattle.vouchers.specs.Lists.{length-without}
use Rattle.vouchers.specs.IssuerSeats.{given_of}
use Rattle.run_roster.proofs.Rosters.{rostered_withdraw}
use Rattle.run_roster.proofs.Slotting.{taken_less}
use Rattle.run_roster.proofs.roster.Roster.withdraw.Goals as goal

pub invariant_of-self : goal.invariant_of-self
invariant_of-self g c =
    let i = c.self.invariant in
    let e = c.redeem.ensures.given nameless c.requires.slot in
    let n : length (given_of c.redeem.new.issuer) ≡ length (without nameless (given_of c.self.inside.issuer)) = ap length e in
    let had = c.redeem.ensures.listed nameless c.requires.slot in
    let l = length-without nameless (given_of c.self.inside.issuer) had in (
      c.redeem.ensures.issuer ∙ c.requires.token_table,
      omega (arith, i.1, n, l),
      (λ here. let was = i.2 here in (was.0, was.1, rw e (rostered_withdraw g.B.Plan.plan _ (given_of c.self.inside.issuer) was.0 had was.2), was.3)),
      omega (arith, i.3, n, l),
      i.4,
      rw e (taken_less g.F.StartOutcomes.slots g.F.StartOutcomes.taken nameless (given_of c.self.inside.issuer) i.5),
      i.6,
      omega (arith, i.7),
    )
