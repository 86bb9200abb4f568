-- What the search left open of `run_in`.
use Rattle.std.proofs.Common.{◌≡◌, ◌∙◌, All, false, List, subst, sym, true}
use Rattle.atomic_table.specs.Seated.{TableId}
use Rattle.hart_threads.proofs.Settling.{all_full, all_pooled, all_slotted}
use Rattle.run_roster.specs.StartEffects.{any_full, AreStartResults, slots_of}
use Rattle.run_roster.specs.Settled.{MatchesSlots}
use Rattle.run_roster.specs.Slots.{HasReadFull}
use Rattle.process_model.specs.declared.call.Start.{Start}
use Rattle.shared_frames.specs.SeatsOfTable.{view_of}
use Rattle.hart_threads.proofs.run.run_in.Goals as goal

pub run_made-requires-clause-made : goal.run_made-requires-clause-made
run_made-requires-clause-made g c = λ _ _. subst (λ (t : TableId). AreStartResults t c.args.slots c.args.starts.now 0 0 c.make_all.new.all.items) c.requires.frames c.make_all.ensures.made

pub returns-clause-slots : goal.returns-clause-slots
returns-clause-slots g c = all_slotted c.args.starts.now c.args.slots (slots_of c.make_all.new.all.items) (any_full c.make_all.new.all.items) c.args.free c.run_made.result.items (subst (λ (plan : List Start). All (MatchesSlots plan c.args.slots (slots_of c.make_all.new.all.items) (any_full c.make_all.new.all.items) c.args.free) c.run_made.result.items) (sym c.requires.of_starts) c.run_made.ensures.settled)

pub returns-clause-starts : goal.returns-clause-starts
returns-clause-starts g c alone = all_pooled c.args.starts.now c.args.slots (slots_of c.make_all.new.all.items) (any_full c.make_all.new.all.items) c.args.free c.run_made.result.items (subst (λ (plan : List Start). All (MatchesSlots plan c.args.slots (slots_of c.make_all.new.all.items) (any_full c.make_all.new.all.items) c.args.free) c.run_made.result.items) (sym c.requires.of_starts) c.run_made.ensures.settled)
    (λ full. let h = c.make_all.ensures.full full in absurd (let no : true ≡ false = sym alone ∙ h.0 in cc))

pub returns-clause-full : goal.returns-clause-full
returns-clause-full g c =
    let items = c.make_all.new.all.items in
    all_full g.B.Plan.plan c.args.slots (slots_of items) (any_full items) c.args.free c.run_made.result.items c.run_made.ensures.settled (HasReadFull (view_of c.args.kernel.now) (view_of c.make_all.new.kernel)) (λ full. (c.make_all.ensures.full full).1)
