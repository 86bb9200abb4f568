-- What the search left open of `start`.
use Rattle.std.proofs.Common.{◌≡◌, ◌+◌, ◌-◌, ◌<◌, ◌∙◌, sym, ap, subst, ℕ, [], ◌∷◌, Some, arith, length, refl}
use Rattle.std.specs.Prelude.{slice_get}
use Rattle.vouchers.specs.IssuerSeats.{given_of}
use Rattle.run_roster.proofs.Rosters.{rostered_start}
use Rattle.run_roster.specs.Names.{first_of}
use Rattle.run_roster.proofs.Slotting.{taken_more}
use Rattle.run_roster.specs.RosterView.{RosterView}
use Rattle.run_roster.specs.Slots.{IsTaken}
use Rattle.hart_calls.specs.ProcessCodes.{code_of}
use Rattle.vouchers.specs.Entries.{birth, entry}
use Rattle.run_roster.proofs.roster.Roster.start.Goals as goal

pub invariant_of-self : goal.invariant_of-self
invariant_of-self g c =
    let i = c.self.invariant in
    let v_is = ap (λ (v : RosterView). v.left) c.self.view_is in
    let out_is = ap (λ (v : RosterView). v.out) c.self.view_is in
    let slots_is = ap (λ (v : RosterView). v.slots) c.self.view_is in
    let free = c.requires.free in
    let starts = g.B.Plan.plan in
    let l : 0 < c.self.inside.left = let r = c.requires.left in omega (arith, r, v_is) in
    let s = c.requires.list.0 in
    let named : c.args.name.now ≡ (length starts - c.self.inside.left) ∷ [] = c.requires.name ∙ ap (λ (k : ℕ). (length starts - k) ∷ []) (sym v_is) in
    let at : slice_get starts (length starts - c.self.inside.left) ≡ Some s = ap (λ (k : ℕ). slice_get starts (length starts - k)) v_is ∙ c.requires.list.1 in
    let n : length (given_of c.issue.new.issuer) ≡ length (given_of c.self.inside.issuer) + 1 = ap length c.issue.ensures.given ∙ omega arith in (
      c.issue.ensures.issuer ∙ c.requires.token_table,
      omega (arith, i.1, n),
      (λ here.
          let was = i.2 here in
          (was.0, was.1, rw c.issue.ensures.given (rostered_start starts _ _ s (omega (arith, l, i.4)) at (code_of c.args.opening.now.state) c.args.name.now c.args.list (given_of c.self.inside.issuer) was.0 named c.requires.list.2 was.2), was.3)),
      omega (arith, i.3, l),
      omega (arith, i.4),
      rw c.issue.ensures.given (taken_more g.F.StartOutcomes.slots g.F.StartOutcomes.taken (entry c.args.name.now (birth c.args.list (code_of c.args.opening.now.state)) []) (given_of c.self.inside.issuer) (λ j is. subst (λ (k : ℕ). IsTaken g.F.StartOutcomes.slots g.F.StartOutcomes.taken k) (ap first_of (sym c.requires.name ∙ is)) c.requires.taken) i.5),
      i.6,
      omega (arith, free, out_is, slots_is),
    )

pub returns-clause-view : goal.returns-clause-view
returns-clause-view g c = rw (← c.self.view_is) refl
