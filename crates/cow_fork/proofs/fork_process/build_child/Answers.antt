use Rattle.std.proofs.Common.{◌≡◌, ℕ, ◌<◌, ap, ◌∙◌, arith, List, [], ◌∷◌, ◌++◌, length, map, subst, sym}
use Rattle.std.proofs.lemmas.List.{length-map, map-append}
use Rattle.frame_store.specs.Laws.{fits_after}
use Rattle.frame_store.specs.View.{IsHeld, View}
use Rattle.process_model.specs.Process.{Process}
use Rattle.sv39_entry.specs.declared.frame.FrameNo.{FrameNo}
use Rattle.table_walk.specs.Tables.{Tables}
use Rattle.table_walk.specs.LowPages.{tables_of_scheme}
use Rattle.address_space.specs.Agreement.{body_of}
use Rattle.address_space.specs.Layouts.{LaysOut}
use Rattle.cow_fork.specs.Children.{CopiesTree}
use Rattle.cow_fork.specs.Forks.{CanDivide, HasChild}
use Rattle.cow_fork.specs.TableList.{CanList, ListsTables, IsLed, IsEdged}
use Rattle.cow_fork.proofs.Building.{can_copy, can_list, claimed_once, claimed_other, claimed_sole, claimed_spends, claims_sole, divide_anchored, has_child, room_for_own, settled_below, tables_edged, tables_led}
use Rattle.cow_fork.proofs.fork_process.build_child.Given as given
use Rattle.cow_fork.proofs.fork_process.build_child.Goals as goal
use Rattle.cow_fork.proofs.fork_process.build_child.Goals.{After-copy_tree-root}

pub claim-trapframe-requires-clause-anchored : goal.claim-trapframe-requires-clause-anchored
claim-trapframe-requires-clause-anchored g c = let r = c.requires.ready in divide_anchored r.0 _ r.1 r.2 _ _ r.3

pub fill_frame-requires-clause-fits : goal.fill_frame-requires-clause-fits
fill_frame-requires-clause-fits g c = fits_after g.F.FrameAccess.invariant c.claim-trapframe.ensures.keeps c.requires.fits

pub fill_frame-requires-clause-sole : goal.fill_frame-requires-clause-sole
fill_frame-requires-clause-sole g c = claims_sole _ _ c.claim-trapframe.result.0 c.claim-trapframe.ensures.view

pub push-requires : goal.push-requires
push-requires g c =
    let r = c.requires.ready in
    let fits = fits_after g.F.FrameAccess.invariant c.fill_frame.ensures.keeps (fits_after g.F.FrameAccess.invariant c.claim-trapframe.ensures.keeps c.requires.fits) in
    let law = g.met.F.FrameAccess.within _ _ fits.0 fits.1 in
    let few = room_for_own r.0 _ r.1 r.2 _ (map (λ (f : FrameNo). f.0) c.args.frames.now.items) r.3 _ _ c.claim-trapframe.result.0 c.claim-trapframe.ensures.fresh c.claim-trapframe.ensures.view c.fill_frame.ensures.others
    (λ f held. let low = law.1 f held in omega (arith, low, law.0)) in
    let less : length c.args.frames.now.items < 1024 = omega (arith, few, length-map c.args.frames.now.items (λ (f : FrameNo). f.0)) in
    (omega arith, less)

pub copy_tree-root-requires-clause-fits : goal.copy_tree-root-requires-clause-fits
copy_tree-root-requires-clause-fits g c =
    fits_after g.F.FrameAccess.invariant c.fill_frame.ensures.keeps (fits_after g.F.FrameAccess.invariant c.claim-trapframe.ensures.keeps c.requires.fits)

pub copy_tree-root-requires-clause-ready : goal.copy_tree-root-requires-clause-ready
copy_tree-root-requires-clause-ready g c =
    let r = c.requires.ready in
    (r.1, r.2, can_copy r.0 _ r.1 r.2 _ _ r.3 _ _ c.claim-trapframe.result.0 c.claim-trapframe.ensures.fresh c.claim-trapframe.ensures.view c.fill_frame.ensures.others)

pub list_tables-requires-clause-fits : goal.list_tables-requires-clause-fits
list_tables-requires-clause-fits g c =
    fits_after g.F.FrameAccess.invariant c.copy_tree-root.ensures.keeps
    (fits_after g.F.FrameAccess.invariant c.fill_frame.ensures.keeps (fits_after g.F.FrameAccess.invariant c.claim-trapframe.ensures.keeps c.requires.fits))

-- as far as the child's tables are there

module _ (g : given.Over) (c : After-copy_tree-root g) where
  longer : map (λ (f : FrameNo). f.0) c.push.new.self.items ≡ map (λ (f : FrameNo). f.0) c.args.frames.now.items ++ c.claim-trapframe.result.0 ∷ []
  longer = ap (map (λ (f : FrameNo). f.0)) c.push.ensures.items ∙ map-append (λ (f : FrameNo). f.0) c.args.frames.now.items (c.claim-trapframe.result ∷ [])

  module _ (v : View) (t : Tables) (p : Process) (can : CanDivide v (body_of g.S.FrameSeat.view c.args.space.now) t p c.args.settled.now (map (λ f. f.0) c.args.frames.now.items)) where
    tree : (u : Tables) × CopiesTree (g.S.FrameSeat.view c.fill_frame.new.seat) (g.S.FrameSeat.view c.copy_tree-root.new.space.seat) t u p c.copy_tree-root.result.0 c.claim-trapframe.result.0
    tree = c.copy_tree-root.ensures.copied t p (can_copy v _ t p _ _ can _ _ c.claim-trapframe.result.0 c.claim-trapframe.ensures.fresh c.claim-trapframe.ensures.view c.fill_frame.ensures.others)

    listing : ((f : ℕ) → IsHeld (g.S.FrameSeat.view c.copy_tree-root.new.space.seat) f → f < 1024) → CanList (tree.0) (map (λ f. f.0) c.args.frames.now.items ++ c.claim-trapframe.result.0 ∷ [])
    listing within =
        let old = c.claim-trapframe.ensures in
        let fill = c.fill_frame.ensures.others in
        can_list v _ _ _ _ _ _ t tree.0 p c.copy_tree-root.result.0 c.claim-trapframe.result.0 (map (λ f. f.0) c.args.frames.now.items) can.space can.more can.going old.fresh
        (claimed_once _ _ _ c.claim-trapframe.result.0 old.fresh old.view fill) (claimed_sole _ _ _ c.claim-trapframe.result.0 old.fresh old.view fill)
        (claimed_other _ _ _ c.claim-trapframe.result.0 old.fresh old.view fill) tree.1 within

    built : (M : List ℕ) → ListsTables tree.0 (map (λ f. f.0) c.args.frames.now.items ++ c.claim-trapframe.result.0 ∷ []) M
        → HasChild v (g.S.FrameSeat.view c.copy_tree-root.new.space.seat) t tree.0 p c.copy_tree-root.result.0 c.claim-trapframe.result.0 M
    built M listed =
        let old = c.claim-trapframe.ensures in
        let fill = c.fill_frame.ensures.others in
        let spends = claimed_spends _ _ _ c.claim-trapframe.result.0 old.fresh old.view fill in
        has_child v _ _ _ _ _ _ t tree.0 p c.copy_tree-root.result.0 c.claim-trapframe.result.0 (map (λ f. f.0) c.args.frames.now.items) can.space can.more can.going old.fresh
        (claimed_once _ _ _ c.claim-trapframe.result.0 old.fresh old.view fill) (claimed_sole _ _ _ c.claim-trapframe.result.0 old.fresh old.view fill)
        (claimed_other _ _ _ c.claim-trapframe.result.0 old.fresh old.view fill) tree.1 M listed spends.0 spends.1 can.credits can.tallies

  within_now : (f : ℕ) → IsHeld (g.S.FrameSeat.view c.copy_tree-root.new.space.seat) f → f < 1024
  within_now f held =
      let fits = fits_after g.F.FrameAccess.invariant c.copy_tree-root.ensures.keeps
      (fits_after g.F.FrameAccess.invariant c.fill_frame.ensures.keeps (fits_after g.F.FrameAccess.invariant c.claim-trapframe.ensures.keeps c.requires.fits)) in
      let law = g.met.F.FrameAccess.within _ _ fits.0 fits.1 in
      let low = law.1 f held in
      omega (arith, low, law.0)

pub list_tables-requires-clause-ready : goal.list_tables-requires-clause-ready
list_tables-requires-clause-ready g c =
    let r = c.requires.ready in
    let at = (goal.at.list_tables-requires-clause-ready g c).After-copy_tree-root in
    let copied = tree g at r.0 r.1 r.2 r.3 in
    let lays : LaysOut _ r.2 = rw c.copy_tree-root.ensures.place.layout r.3.space.lays in
    let same = lays.scheme ∙ sym c.scheme-scheme.ensures in (
      copied.0,
      tables_of_scheme same copied.1.tables,
      subst (λ z. IsLed z copied.0) same (tables_led _ _ r.1 copied.0 r.2 _ _ copied.1 r.3.space.stands.shows.low),
      rw (longer g at) (listing g at r.0 r.1 r.2 r.3 (within_now g at)),
      subst (λ z. IsEdged z copied.0 c.end-end.result) same
          (tables_edged _ _ r.1 copied.0 r.2 _ _ copied.1 r.3.space.stands.shows.low c.end-end.result (c.end-end.ensures.low r.2 lays r.3.space.sound.order)
          (settled_below r.1 r.2 r.3.space c.end-end.result (c.end-end.ensures.end r.2 lays r.3.space.sound.order))),
    )

pub returns-clause-built : goal.returns-clause-built
returns-clause-built g c v t p can =
    let at = (goal.at.returns-clause-built g c).After-copy_tree-root in
    let copied = tree g at v t p can in
    let lays : LaysOut _ p = rw c.copy_tree-root.ensures.place.layout can.space.lays in
    let same = lays.scheme ∙ sym c.scheme-scheme.ensures in
    let led = subst (λ z. IsLed z copied.0) same (tables_led _ _ t copied.0 p _ _ copied.1 can.space.stands.shows.low) in
    let edged = subst (λ z. IsEdged z copied.0 c.end-end.result) same
    (tables_edged _ _ t copied.0 p _ _ copied.1 can.space.stands.shows.low c.end-end.result (c.end-end.ensures.low p lays can.space.sound.order)
    (settled_below t p can.space c.end-end.result (c.end-end.ensures.end p lays can.space.sound.order))) in
    let listed = c.list_tables.ensures.listed copied.0 (tables_of_scheme same copied.1.tables) led (rw (longer g at) (listing g at v t p can (within_now g at))) edged in
    (copied.0, rw c.list_tables.ensures.view (built g at v t p can _ (rw (longer g at) at listed)))

pub returns-clause-keeps : goal.returns-clause-keeps
returns-clause-keeps g c others r =
    c.list_tables.ensures.keeps others (c.copy_tree-root.ensures.keeps others (c.fill_frame.ensures.keeps others (c.claim-trapframe.ensures.keeps others r)))

pub returns-clause-free : goal.returns-clause-free
returns-clause-free g c alone =
    ap g.F.FrameAccess.free c.list_tables.ensures.same ∙ c.copy_tree-root.ensures.free alone ∙ c.fill_frame.ensures.free alone ∙ c.claim-trapframe.ensures.free alone
