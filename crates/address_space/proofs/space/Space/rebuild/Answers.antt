use Rattle.std.proofs.Common.{◌≡◌, ◌∙◌, ℕ, ◌*◌, ◌/◌, subst, sym, arith}
use Rattle.frame_store.specs.Laws.{fits_after}
use Rattle.table_walk.specs.Tables.{Tables}
use Rattle.address_space.specs.SpaceTeardown.{DropsRun, IsStripped}
use Rattle.address_space.specs.Parts.{tree_need}
use Rattle.address_space.proofs.BuildWhole.{agrees_whole, can_open, credits_left, saved_whole, stands_bare, takes_whole}
use Rattle.address_space.proofs.DroppedLeaf.{takes_after, takes_then}
use Rattle.address_space.proofs.EndingSteps.{emptied, emptied_of_scheme}
use Rattle.address_space.proofs.space.Space.rebuild.Given as given
use Rattle.address_space.proofs.space.Space.rebuild.Goals as goal
use Rattle.address_space.proofs.space.Space.rebuild.Goals.{After-drop_run, After-release_emptied}
use Rattle.sv39_entry.specs.Schemes.{trapframe_page}
use Rattle.sv39_entry.specs.declared.scheme.Scheme.{Scheme}

-- ---- the old tree goes

-- the number of TRAPFRAME's page, by the scheme of the process
end_at : {x z : Scheme} (number page address : ℕ) → x ≡ z → number ≡ page → page ≡ address / 4096 → address ≡ 4096 * trapframe_page z → number ≡ trapframe_page x
end_at {x} {z} number page address same number_is page_is address_is = subst (λ y. number ≡ trapframe_page y) (sym same) (omega (arith, number_is, page_is, address_is))

module _ (g : given.Over) (c : After-drop_run g) where
  dropped : (u : Tables) × DropsRun (g.S.FrameSeat.view c.args.self.now.seat) (g.S.FrameSeat.view c.drop_run.new.seat) c.args.self.now.root.0 c.args.self.now.trapframe.0 c.requires.ready.0 u c.requires.ready.1 0 (trapframe_page c.requires.ready.1.scheme)
  dropped =
      let r = c.requires.ready in
      let same = r.2.0 ∙ sym c.scheme-scheme.ensures in
      rw (c.page.ensures.number, end_at _ _ _ same c.number.ensures.value c.page-2.ensures.number c.trapframe.ensures) at c.drop_run.ensures.dropped c.args.self.now.trapframe.0 r.0 r.1 same r.2.1

module _ (g : given.Over) (c : After-release_emptied g) where
  far : (u : Tables) × DropsRun (g.S.FrameSeat.view c.args.self.now.seat) (g.S.FrameSeat.view c.drop_run.new.seat) c.args.self.now.root.0 c.args.self.now.trapframe.0 c.requires.ready.0 u c.requires.ready.1 0 (trapframe_page c.requires.ready.1.scheme)
  far =
      let r = c.requires.ready in
      let same = r.2.0 ∙ sym c.scheme-scheme.ensures in
      rw (c.page.ensures.number, end_at _ _ _ same c.number.ensures.value c.page-2.ensures.number c.trapframe.ensures) at c.drop_run.ensures.dropped c.args.self.now.trapframe.0 r.0 r.1 same r.2.1

  stripped : IsStripped (g.S.FrameSeat.view c.drop_run.new.seat) (g.S.FrameSeat.view c.release_emptied.new.seat) c.args.self.now.trapframe.0
  stripped =
      let r = c.requires.ready in
      let same = r.2.0 ∙ sym c.scheme-scheme.ensures in
      c.release_emptied.ensures.strips c.args.self.now.trapframe.0 far.0
      (emptied_of_scheme same (emptied _ c.args.self.now.root.0 _ far.0 r.1 (trapframe_page r.1.scheme) r.2.1.shows.low far.1.stands))

  credits : (g.S.FrameSeat.view c.release_emptied.new.seat).credits ≡ tree_need c.args.self.now.layout.scheme c.args.parts.now
  credits = stripped.credits ∙ far.1.credits ∙ c.requires.credits

pub release_emptied-requires-clause-fits : goal.release_emptied-requires-clause-fits
release_emptied-requires-clause-fits g c = fits_after g.F.FrameAccess.invariant c.drop_run.ensures.keeps c.requires.fits

pub release_emptied-requires-clause-emptied : goal.release_emptied-requires-clause-emptied
release_emptied-requires-clause-emptied g c =
    let r = c.requires.ready in
    let run = dropped g (goal.at.release_emptied-requires-clause-emptied g c).After-drop_run in
    (c.args.self.now.trapframe.0, run.0, emptied_of_scheme (r.2.0 ∙ sym c.scheme-scheme.ensures) (emptied _ c.args.self.now.root.0 _ run.0 r.1 (trapframe_page r.1.scheme) r.2.1.shows.low run.1.stands))

-- ---- and the new one comes

pub open_tables-self-requires-clause-fits : goal.open_tables-self-requires-clause-fits
open_tables-self-requires-clause-fits g c =
    fits_after g.F.FrameAccess.invariant c.release_emptied.ensures.keeps (fits_after g.F.FrameAccess.invariant c.drop_run.ensures.keeps c.requires.fits)

pub open_tables-self-requires-clause-ready : goal.open_tables-self-requires-clause-ready
open_tables-self-requires-clause-ready g c =
    let at = (goal.at.open_tables-self-requires-clause-ready g c).After-release_emptied in
    rw c.scheme-scheme.ensures (can_open c.args.self.now.layout.scheme c.args.parts.now _ _ (stripped g at).holds (credits g at))

pub fill_parts-requires-clause-fits : goal.fill_parts-requires-clause-fits
fill_parts-requires-clause-fits g c =
    fits_after g.F.FrameAccess.invariant c.open_tables-self.ensures.keeps
    (fits_after g.F.FrameAccess.invariant c.release_emptied.ensures.keeps (fits_after g.F.FrameAccess.invariant c.drop_run.ensures.keeps c.requires.fits))

pub fill_parts-requires-clause-ready : goal.fill_parts-requires-clause-ready
fill_parts-requires-clause-ready g c =
    let at = (goal.at.fill_parts-requires-clause-ready g c).After-release_emptied in
    let opened = rw c.scheme-scheme.ensures at c.open_tables-self.ensures.opened in
    rw c.scheme-scheme.ensures (c.args.self.now.trapframe.0, opened.0, stands_bare c.args.self.now.layout.scheme c.args.parts.now _ _ (stripped g at).holds (credits g at) _ _ opened.0 opened.1)

pub fill_parts-requires-clause-credits : goal.fill_parts-requires-clause-credits
fill_parts-requires-clause-credits g c =
    let at = (goal.at.fill_parts-requires-clause-credits g c).After-release_emptied in
    let opened = rw c.scheme-scheme.ensures at c.open_tables-self.ensures.opened in
    rw c.scheme-scheme.ensures (credits_left c.args.self.now.layout.scheme c.args.parts.now _ _ (stripped g at).holds (credits g at) _ _ opened.0 opened.1)

pub returns-clause-built : goal.returns-clause-built
returns-clause-built g c =
    let at = (goal.at.returns-clause-built g c).After-release_emptied in
    let holds = (stripped g at).holds in
    let opened = rw c.scheme-scheme.ensures at c.open_tables-self.ensures.opened in
    let bare = stands_bare c.args.self.now.layout.scheme c.args.parts.now _ _ holds (credits g at) _ _ opened.0 opened.1 in
    let filled = (rw c.scheme-scheme.ensures at c.fill_parts.ensures.filled) c.args.self.now.trapframe.0 opened.0 bare in (
      filled.0,
      agrees_whole c.args.self.now.layout.scheme c.args.parts.now _ _ holds (credits g at) _ _ opened.0 opened.1 _ filled.0 filled.1 c.requires.parts c.new-self.result
          (c.new-self.ensures.scheme ∙ c.scheme-scheme.ensures) c.new-self.ensures.parts c.new-self.ensures.mappings c.new-self.ensures.heap_base c.new-self.ensures.size,
      filled.1.after.alone,
    )

pub returns-clause-saved : goal.returns-clause-saved
returns-clause-saved g c =
    let at = (goal.at.returns-clause-saved g c).After-release_emptied in
    let holds = (stripped g at).holds in
    let opened = rw c.scheme-scheme.ensures at c.open_tables-self.ensures.opened in
    let bare = stands_bare c.args.self.now.layout.scheme c.args.parts.now _ _ holds (credits g at) _ _ opened.0 opened.1 in
    let filled = (rw c.scheme-scheme.ensures at c.fill_parts.ensures.filled) c.args.self.now.trapframe.0 opened.0 bare in
    saved_whole c.args.self.now.layout.scheme c.args.parts.now _ _ holds (credits g at) _ _ opened.0 opened.1 _ filled.0 filled.1 ∙ (stripped g at).saved ∙ (far g at).1.saved

pub returns-clause-takes : goal.returns-clause-takes
returns-clause-takes g c =
    let at = (goal.at.returns-clause-takes g c).After-release_emptied in
    let holds = (stripped g at).holds in
    let opened = rw c.scheme-scheme.ensures at c.open_tables-self.ensures.opened in
    let bare = stands_bare c.args.self.now.layout.scheme c.args.parts.now _ _ holds (credits g at) _ _ opened.0 opened.1 in
    let filled = (rw c.scheme-scheme.ensures at c.fill_parts.ensures.filled) c.args.self.now.trapframe.0 opened.0 bare in
    takes_after _ _ _ (tree_need c.args.self.now.layout.scheme c.args.parts.now) (takes_then _ _ _ (far g at).1.takes (stripped g at).takes)
    (takes_whole c.args.self.now.layout.scheme c.args.parts.now _ _ holds (credits g at) _ _ opened.0 opened.1 _ filled.0 filled.1)

pub returns-clause-keeps : goal.returns-clause-keeps
returns-clause-keeps g c others r =
    c.fill_parts.ensures.keeps others (c.open_tables-self.ensures.keeps others (c.release_emptied.ensures.keeps others (c.drop_run.ensures.keeps others r)))

pub drop_run-requires-clause-ready : goal.drop_run-requires-clause-ready
drop_run-requires-clause-ready g c = let r = c.requires.ready in (c.args.self.now.trapframe.0, r.0, r.1, r.2.0 ∙ sym c.scheme-scheme.ensures, r.2.1)

pub new-self-requires-clause-low : goal.new-self-requires-clause-low
new-self-requires-clause-low g c = rw c.scheme-scheme.ensures c.requires.parts.low
