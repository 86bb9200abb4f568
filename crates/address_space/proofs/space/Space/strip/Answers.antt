use Rattle.std.proofs.Common.{◌∙◌, arith, sym}
use Rattle.frame_store.specs.Laws.{fits_after}
use Rattle.table_walk.specs.Tables.{Tables}
use Rattle.address_space.specs.SpaceTeardown.{DropsRun, IsStripped}
use Rattle.address_space.proofs.DroppedLeaf.{takes_then}
use Rattle.address_space.proofs.EndingSteps.{below, emptied, emptied_of_scheme}
use Rattle.address_space.proofs.space.Space.strip.Given as given
use Rattle.address_space.proofs.space.Space.strip.Goals as goal
use Rattle.address_space.proofs.space.Space.strip.Goals.{After-drop_run, After-release_emptied}

module _ (g : given.Over) (c : After-drop_run g) where
  dropped : (u : Tables) × DropsRun (g.S.FrameSeat.view c.args.self.seat) (g.S.FrameSeat.view c.drop_run.new.seat) c.args.self.root.0 c.args.self.trapframe.0 c.requires.ready.0 u c.requires.ready.1 0 c.end-end.result
  dropped = let r = c.requires.ready in rw c.page.ensures.number at (c.drop_run.ensures.dropped c.args.self.trapframe.0 r.0 r.1 (r.2.lays.scheme ∙ sym c.scheme-scheme.ensures) r.2.stands)

module _ (g : given.Over) (c : After-release_emptied g) where
  stripped : (u : Tables) × DropsRun (g.S.FrameSeat.view c.args.self.seat) (g.S.FrameSeat.view c.drop_run.new.seat) c.args.self.root.0 c.args.self.trapframe.0 c.requires.ready.0 u c.requires.ready.1 0 c.end-end.result
      × IsStripped (g.S.FrameSeat.view c.drop_run.new.seat) (g.S.FrameSeat.view c.release_emptied.new.seat) c.args.self.trapframe.0
  stripped =
      let r = c.requires.ready in
      let far = rw c.page.ensures.number at (c.drop_run.ensures.dropped c.args.self.trapframe.0 r.0 r.1 (r.2.lays.scheme ∙ sym c.scheme-scheme.ensures) r.2.stands) in
      (far.0, far.1, c.release_emptied.ensures.strips c.args.self.trapframe.0 far.0 (emptied_of_scheme (r.2.lays.scheme ∙ sym c.scheme-scheme.ensures) (emptied _ c.args.self.root.0 _ far.0 r.1 c.end-end.result (below r.0 r.1 r.2 c.end-end.result (c.end-end.ensures.end r.1 r.2.lays r.2.sound.order)) far.1.stands)))

pub drop_run-requires-clause-low : goal.drop_run-requires-clause-low
drop_run-requires-clause-low g c = let r = c.requires.ready in rw (r.2.lays.scheme ∙ sym c.scheme-scheme.ensures) at (c.end-end.ensures.low r.1 r.2.lays r.2.sound.order)

pub drop_run-requires-clause-ready : goal.drop_run-requires-clause-ready
drop_run-requires-clause-ready g c = let r = c.requires.ready in (c.args.self.trapframe.0, r.0, r.1, r.2.lays.scheme ∙ sym c.scheme-scheme.ensures, r.2.stands)

pub release_emptied-requires-clause-fits : goal.release_emptied-requires-clause-fits
release_emptied-requires-clause-fits g c = fits_after g.F.FrameAccess.invariant c.drop_run.ensures.keeps c.requires.fits

pub release_emptied-requires-clause-emptied : goal.release_emptied-requires-clause-emptied
release_emptied-requires-clause-emptied g c =
    let r = c.requires.ready in
    let far = dropped g (goal.at.release_emptied-requires-clause-emptied g c).After-drop_run in
    (c.args.self.trapframe.0, far.0, emptied_of_scheme (r.2.lays.scheme ∙ sym c.scheme-scheme.ensures) (emptied _ c.args.self.root.0 _ far.0 r.1 c.end-end.result (below r.0 r.1 r.2 c.end-end.result (c.end-end.ensures.end r.1 r.2.lays r.2.sound.order)) far.1.stands))

pub returns-clause-holds : goal.returns-clause-holds
returns-clause-holds g c = (stripped g (goal.at.returns-clause-holds g c).After-release_emptied).2.holds

pub returns-clause-saved : goal.returns-clause-saved
returns-clause-saved g c = let s = stripped g (goal.at.returns-clause-saved g c).After-release_emptied in s.2.saved ∙ s.1.saved

pub returns-clause-credits : goal.returns-clause-credits
returns-clause-credits g c = let s = stripped g (goal.at.returns-clause-credits g c).After-release_emptied in s.2.credits ∙ s.1.credits

pub returns-clause-tallies : goal.returns-clause-tallies
returns-clause-tallies g c = let s = stripped g (goal.at.returns-clause-tallies g c).After-release_emptied in takes_then _ _ _ s.1.takes s.2.takes

pub returns-clause-keeps : goal.returns-clause-keeps
returns-clause-keeps g c others r = c.release_emptied.ensures.keeps others (c.drop_run.ensures.keeps others r)

pub returns-clause-free : goal.returns-clause-free
returns-clause-free g c alone =
    let first = c.drop_run.ensures.free alone in
    let second = c.release_emptied.ensures.free alone in
    omega (arith, first, second)
