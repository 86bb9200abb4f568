-- What the search left open of `admit`.
use Rattle.std.proofs.Common.{◌≡◌, ◌+◌, ◌∙◌, [], ap, arith, length, rules}
use Rattle.vouchers.specs.Entries.{nameless}
use Rattle.vouchers.specs.IssuerSeats.{given_of}
use Rattle.run_roster.proofs.Rosters.{rostered_admit}
use Rattle.run_roster.proofs.Slotting.{taken_more}
use Rattle.run_roster.proofs.roster.Roster.admit.Goals as goal

pub invariant_of-self : goal.invariant_of-self
invariant_of-self g c =
    let i = c.self.invariant in
    let l = c.reserve.ensures.len in
    let m = c.reserve.ensures.capacity in
    rw c.reserve.ensures.items (i.0, i.1, i.2, omega (arith, i.3, l, m), i.4, i.5, i.6, i.7)

pub invariant_of-self-2 : goal.invariant_of-self-2
invariant_of-self-2 g c =
    let i = c.self.invariant in
    let l = c.reserve.ensures.len in
    let m = c.in-Ok.ensures.ok in
    let n : length (given_of c.issue.new.issuer) ≡ length (given_of c.self.inside.issuer) + 1 = ap length c.issue.ensures.given ∙ omega arith in
    rw c.reserve.ensures.items (
      c.issue.ensures.issuer ∙ c.requires.token_table,
      omega (arith, i.1, n),
      (λ here. let was = i.2 here in (was.0, was.1, rw c.issue.ensures.given (rostered_admit g.B.Plan.plan _ (given_of c.self.inside.issuer) was.0 was.2), was.3)),
      omega (arith, i.3, l, m),
      i.4,
      rw c.issue.ensures.given (taken_more g.F.StartOutcomes.slots g.F.StartOutcomes.taken nameless (given_of c.self.inside.issuer) (λ j is. absurd (cc)) i.5),
      i.6,
      search rules,
    )
