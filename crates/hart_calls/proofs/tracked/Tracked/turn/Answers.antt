use Rattle.std.proofs.Common.{◌∙◌, sym}
use Rattle.hart_calls.proofs.Parting.{fork_filed}
use Rattle.hart_calls.proofs.Roomy.{ended_same, filed_same, goes_same, on_same, over_same, turned_same}
use Rattle.hart_calls.proofs.tracked.Tracked.turn.Goals as goal

pub returns-in_default-clause-turned : goal.returns-in_default-clause-turned
returns-in_default-clause-turned g c = over_same _ _ c.with_entry.ensures.same _ _ c.cut-in_default.ensures.over

pub returns-in_default-with_room-clause-turned : goal.returns-in_default-with_room-clause-turned
returns-in_default-with_room-clause-turned g c =
    over_same _ _ c.with_entry.ensures.same _ _ (over_same _ _ c.with_room.ensures.same _ _ c.cut-in_default-with_room.ensures.over)

pub returns-in-Exit-clause-turned : goal.returns-in-Exit-clause-turned
returns-in-Exit-clause-turned g c = over_same _ _ c.with_entry.ensures.same _ _ c.exit.ensures.over

pub returns-in-Exit-clause-files : goal.returns-in-Exit-clause-files
returns-in-Exit-clause-files g c = ended_same _ _ c.with_entry.ensures.same c.exit.result c.args.shelf.now c.exit.new.shelf c.exit.ensures.files

pub returns-in-Fork-clause-turned : goal.returns-in-Fork-clause-turned
returns-in-Fork-clause-turned g c = goes_same _ _ c.with_entry.ensures.same c.fork-tracked.result.0 c.fork-tracked.result.1 c.args.slot c.fork-tracked.ensures.goes

pub returns-in-Fork-clause-files : goal.returns-in-Fork-clause-files
returns-in-Fork-clause-files g c =
    on_same _ _ c.with_entry.ensures.same c.fork-tracked.result.0 c.args.shelf.now c.args.shelf.now
    (fork_filed _ c.fork-tracked.result.0 c.fork-tracked.result.1 c.args.slot c.in-Fork.list (sym c.next.ensures ∙ c.in-Fork.is) c.fork-tracked.ensures.goes c.args.shelf.now)

pub returns : goal.returns
returns g c = record {
  store = c.plain_call.ensures.store;
  turned = turned_same _ _ c.with_entry.ensures.same _ c.plain_call.result c.args.slot (turned_same _ _ c.with_room.ensures.same _ c.plain_call.result c.args.slot c.plain_call.ensures.turned);
  files = filed_same _ _ c.with_entry.ensures.same c.plain_call.result c.args.shelf.now c.plain_call.new.shelf (filed_same _ _ c.with_room.ensures.same c.plain_call.result c.args.shelf.now c.plain_call.new.shelf c.plain_call.ensures.files);
}
