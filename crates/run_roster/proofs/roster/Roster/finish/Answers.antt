-- What the search left open of `finish`.
use Rattle.std.proofs.Common.{◌≡◌, ◌∙◌, [], ◌∷◌, ◌++◌, ap, sym, arith, length, refl}
use Rattle.std.proofs.lemmas.List.Elements.{All-push}
use Rattle.vouchers.specs.Entries.{without}
use Rattle.vouchers.specs.Lists.{length-without}
use Rattle.vouchers.specs.IssuerSeats.{given_of}
use Rattle.run_roster.proofs.Rosters.{each_push, rostered_finish}
use Rattle.run_roster.proofs.Slotting.{began_settled, taken_less}
use Rattle.run_roster.specs.Settled.{MatchesSlots}
use Rattle.run_roster.proofs.roster.Roster.finish.Goals as goal

pub invariant_of-self : goal.invariant_of-self
invariant_of-self g c =
    let i = c.self.invariant in
    let f = c.args.finished in
    let slots = g.F.StartOutcomes.slots in
    let taken = g.F.StartOutcomes.taken in
    let full = g.F.StartOutcomes.full in
    let free = g.F.StartOutcomes.free in
    let life = c.requires.back.0 in
    let holds = c.requires.back.1 in
    let e = c.redeem.ensures.given life holds in
    let mine = c.redeem.ensures.listed life holds in
    let n : length (given_of c.redeem.new.issuer) ≡ length (without life (given_of c.self.inside.issuer)) = ap length e in
    let l = length-without life (given_of c.self.inside.issuer) mine in
    let v = c.push_reserved.ensures.len in
    let w = c.push_reserved.ensures.capacity in
    rw c.push_reserved.ensures.items (
      c.redeem.ensures.issuer ∙ c.requires.token_table,
      omega (arith, i.1, n, l),
      (λ here.
          let was = i.2 here in (
            was.0 ++ life ∷ [],
            each_push g.B.RunBrand.table g.B.Plan.files g.B.Plan.lists g.B.Plan.plan was.0 _ life f was.1 c.requires.back.3,
            rw e (rostered_finish _ was.0 life g.B.Plan.plan _ mine c.requires.back.2 was.2),
            All-push (MatchesSlots g.B.Plan.plan slots taken full free) _ f was.3 (began_settled g.B.Plan.plan slots taken full free f c.requires.back.4 (λ j is. i.5 life j mine (sym c.requires.back.3.name ∙ is))),
          )),
      omega (arith, i.3, i.1, n, l, v, w),
      i.4,
      rw e (taken_less slots taken life (given_of c.self.inside.issuer) i.5),
      i.6,
      omega (arith, i.7),
    )
