-- What the search left open of `refuse`.
use Rattle.std.proofs.Common.{◌≡◌, ◌-◌, ◌<◌, ◌∙◌, sym, ap, ℕ, [], ◌∷◌, ◌++◌, Some, length, arith, refl}
use Rattle.std.proofs.lemmas.List.Elements.{All-push}
use Rattle.std.specs.Prelude.{slice_get}
use Rattle.vouchers.specs.Entries.{birth, entry}
use Rattle.run_roster.proofs.Rosters.{each_push, rostered_refuse}
use Rattle.run_roster.specs.RosterView.{RosterView}
use Rattle.run_roster.specs.Settled.{MatchesSlots}
use Rattle.run_roster.proofs.roster.Roster.refuse.Goals as goal

pub invariant_of-self : goal.invariant_of-self
invariant_of-self g c =
    let i = c.self.invariant in
    let v_is = ap (λ (v : RosterView). v.left) c.self.view_is in
    let starts = g.B.Plan.plan in
    let l : 0 < c.self.inside.left = let r = c.requires.left in omega (arith, r, v_is) in
    let f = c.args.unstarted in
    let s = c.requires.refused.0 in
    let o = c.requires.refused.1 in
    let named : f.name.items ≡ (length starts - c.self.inside.left) ∷ [] = c.requires.name ∙ ap (λ (k : ℕ). (length starts - k) ∷ []) (sym v_is) in
    let at : slice_get starts (length starts - c.self.inside.left) ≡ Some s = ap (λ (k : ℕ). slice_get starts (length starts - k)) v_is ∙ c.requires.refused.2 in
    let v = c.push_reserved.ensures.len in
    let w = c.push_reserved.ensures.capacity in
    rw c.push_reserved.ensures.items (
      i.0,
      i.1,
      (λ here.
          let was = i.2 here in (
            was.0 ++ entry f.name.items (birth s.list o) [] ∷ [],
            each_push g.B.RunBrand.table g.B.Plan.files g.B.Plan.lists starts was.0 _ _ f was.1 c.requires.refused.3,
            rostered_refuse starts _ _ s (omega (arith, l, i.4)) at o f.name.items named _ was.0 was.2,
            All-push (MatchesSlots g.B.Plan.plan g.F.StartOutcomes.slots g.F.StartOutcomes.taken g.F.StartOutcomes.full g.F.StartOutcomes.free) _ f was.3 c.requires.settled,
          )),
      omega (arith, i.3, l, v, w),
      omega (arith, i.4),
      i.5,
      i.6,
      i.7,
    )
