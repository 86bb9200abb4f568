-- What the search left open of `close`.
use Rattle.std.proofs.Common.{subst, ℕ, arith}
use Rattle.vouchers.specs.IssuerSeats.{given_of}
use Rattle.run_roster.specs.RosterState.{IsRostered}
use Rattle.run_roster.proofs.Rosters.{all_back}
use Rattle.run_roster.proofs.roster.Roster.close.Goals as goal

pub returns-clause-back : goal.returns-clause-back
returns-clause-back g c =
    let i = c.self.invariant in
    let was = i.2 c.if-self.false in
    rw c.replace.ensures.value (all_back g.B.RunBrand.table g.B.Plan.files g.B.Plan.lists g.B.Plan.plan (given_of c.self.inside.issuer) was.0 _ (omega (arith, i.1, c.if-self-gt0.false)) was.1 (subst (λ (n : ℕ). IsRostered g.B.Plan.plan n (given_of c.self.inside.issuer) was.0) (omega (arith, c.if-self-gt0-2.false)) was.2))

pub returns-clause-settled : goal.returns-clause-settled
returns-clause-settled g c = rw c.replace.ensures.value (c.self.invariant.2 c.if-self.false).3
