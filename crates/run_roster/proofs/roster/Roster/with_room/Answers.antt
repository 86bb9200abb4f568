-- What the search left open of `with_room`.
use Rattle.std.proofs.Common.{◌≡◌, ◌-◌, [], ap, length, arith}
use Rattle.std.proofs.lemmas.List.Elements.{All-nil}
use Rattle.run_roster.proofs.Rosters.{rostered_none}
use Rattle.run_roster.specs.Settled.{MatchesSlots}
use Rattle.run_roster.proofs.roster.Roster.with_room.Goals as goal

pub invariant_of-result : goal.invariant_of-result
invariant_of-result g c =
    let starts = g.B.Plan.plan in
    let room = c.requires.room in
    let count = c.requires.starts in
    let none : length starts - c.args.starts ≡ 0 = omega (arith, count) in (
      c.requires.at,
      ap length c.requires.none,
      (λ here. ([], rw c.requires.none_ended tt, rostered_none starts _ _ none c.requires.none, rw c.requires.none_ended (All-nil (MatchesSlots g.B.Plan.plan g.F.StartOutcomes.slots g.F.StartOutcomes.taken g.F.StartOutcomes.full g.F.StartOutcomes.free)))),
      omega (arith, room),
      omega (arith, count),
      rw c.requires.none (λ l i h is. absurd h),
      c.requires.slots,
      omega arith,
    )
