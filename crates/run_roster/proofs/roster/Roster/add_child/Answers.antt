-- What the search left open of `add_child`.
use Rattle.std.proofs.Common.{◌∙◌, [], ap, refl}
use Rattle.vouchers.specs.Entries.{entry, nameless}
use Rattle.run_roster.proofs.Rosters.{born_length, rostered_born}
use Rattle.run_roster.specs.Births.{began, births_of}
use Rattle.run_roster.proofs.Slotting.{taken_born}
use Rattle.run_roster.proofs.roster.Roster.add_child.Goals as goal

pub invariant_of-self : goal.invariant_of-self
invariant_of-self g c =
    let i = c.self.invariant in
    let p = c.args.parent.now in
    let y = c.args.child.now in
    let birth = c.requires.birth in
    let e1 = c.redeem.ensures.given nameless c.requires.slot in
    let had = c.redeem.ensures.listed nameless c.requires.slot in
    let e2 = c.redeem-2.ensures.given (entry p.name (began p) birth.before) birth.holds in
    let mine = c.redeem-2.ensures.listed (entry p.name (began p) birth.before) birth.holds in
    let n = born_length p.name y.name (began p) (began y) birth.before (births_of p.journal) (births_of y.journal) _ _ _ _ _ e1 had e2 mine birth.name birth.journal (ap births_of birth.none) c.issue-young.ensures.given c.issue-old.ensures.given in (
      c.issue-old.ensures.issuer ∙ c.requires.token_table,
      n ∙ i.1,
      (λ here.
          let was = i.2 here in
          (was.0, was.1, rostered_born p.name y.name (began p) (began y) birth.before (births_of p.journal) (births_of y.journal) _ _ _ _ _ e1 had e2 mine birth.name birth.journal (ap births_of birth.none) c.issue-young.ensures.given c.issue-old.ensures.given g.B.Plan.plan _ was.0 birth.named was.2, was.3)),
      i.3,
      i.4,
      taken_born p.name y.name (began p) (began y) birth.before (births_of p.journal) (births_of y.journal) _ _ _ _ _ e1 e2 mine birth.name birth.named c.issue-young.ensures.given c.issue-old.ensures.given g.F.StartOutcomes.slots g.F.StartOutcomes.taken i.5,
      i.6,
      i.7,
    )

pub returns-clause-view : goal.returns-clause-view
returns-clause-view g c = rw (← c.self.view_is) refl
