use Rattle.std.proofs.Common.{arith, ◌<◌}
use Rattle.frame_store.specs.Laws.{fits_after}
use Rattle.process_model.specs.PageMap as pages
use Rattle.table_walk.specs.Tables.{leaf_node, with_leaf}
use Rattle.table_walk.specs.LowPages.{maps_low, maps_for, tables_of_scheme}
use Rattle.address_space.specs.Agreement.{no_extra}
use Rattle.address_space.specs.ProcessLeaves.{bytes_known, page_backed}
use Rattle.address_space.proofs.AddingFrames.{Comes, claimed_comes, come_held, come_tables, filled_comes}
use Rattle.address_space.proofs.AddingPages.{adds}
use Rattle.address_space.proofs.BuildSoles.{soles_stay}
use Rattle.address_space.proofs.Owned.{anchored}
use Rattle.address_space.proofs.pages.add_page.Given as given
use Rattle.address_space.proofs.pages.add_page.Goals as goal
use Rattle.address_space.proofs.pages.add_page.Goals.{After-fill_frame}
use Rattle.sv39_entry.specs.Schemes.{page_limit, of_scheme}

comes : (g : given.Over) (c : After-fill_frame g) → Comes (g.F.Seat.FrameSeat.view c.args.seat.now) (g.F.Seat.FrameSeat.view c.fill_frame.new.seat) c.claim-frame.result.0
comes g c = filled_comes _ _ _ _ (claimed_comes _ _ _ c.claim-frame.ensures.fresh c.claim-frame.ensures.view) c.fill_frame.ensures.others

pub claim-frame-requires-clause-anchored : goal.claim-frame-requires-clause-anchored
claim-frame-requires-clause-anchored g c = anchored _ c.args.root.0 c.requires.ready.0 no_extra c.requires.ready.1 c.requires.ready.2 c.requires.ready.4.stands

pub fill_frame-requires-clause-fits : goal.fill_frame-requires-clause-fits
fill_frame-requires-clause-fits g c = fits_after g.F.FrameAccess.invariant c.claim-frame.ensures.keeps c.requires.fits

pub fill_frame-requires-clause-sole : goal.fill_frame-requires-clause-sole
fill_frame-requires-clause-sole g c = (claimed_comes _ _ _ c.claim-frame.ensures.fresh c.claim-frame.ensures.view).sole

pub map-requires-clause-fits : goal.map-requires-clause-fits
map-requires-clause-fits g c = fits_after g.F.FrameAccess.invariant c.fill_frame.ensures.keeps (fits_after g.F.FrameAccess.invariant c.claim-frame.ensures.keeps c.requires.fits)

pub map-requires-clause-anchored : goal.map-requires-clause-anchored
map-requires-clause-anchored g c =
    let after = (goal.at.map-requires-clause-anchored g c).After-fill_frame in
    let ready = c.requires.ready in
    come_held _ _ _ (comes g after) 0 (anchored _ c.args.root.0 ready.0 no_extra ready.1 ready.2 ready.4.stands)

pub map-requires-clause-tables : goal.map-requires-clause-tables
map-requires-clause-tables g c =
    let come = comes g (goal.at.map-requires-clause-tables g c).After-fill_frame in
    let ready = c.requires.ready in
    (ready.1, come_tables _ _ _ come c.args.root.0 ready.1 (tables_of_scheme ready.3 ready.4.stands.tables), omega (arith, ready.5, come.spends.credits))

pub map-requires-clause-backed : goal.map-requires-clause-backed
map-requires-clause-backed g c =
    let come = comes g (goal.at.map-requires-clause-backed g c).After-fill_frame in
    page_backed _ _ _ _ _ _ c.leaf.ensures.leaf (bytes_known _ _ _ c.fill_frame.ensures.bytes) (λ writes. come.sole)

pub returns-clause-added : goal.returns-clause-added
returns-clause-added g c trapframe t p same can =
    let come = comes g (goal.at.returns-clause-added g c).After-fill_frame in
    let low : c.args.page < page_limit p.scheme = let below = can.low in omega (arith, below, of_scheme p.scheme) in
    let x = maps_low p.scheme _ _ _ _ c.args.page _ _ low (maps_for p.scheme c.args.scheme _ _ _ _ _ _ same (c.map.ensures.tables t (come_tables _ _ _ come c.args.root.0 t (tables_of_scheme same can.stands.tables)))) in (
      with_leaf x.0 (leaf_node c.args.page) c.leaf.result,
      c.claim-frame.result.0,
      adds _ _ trapframe t p c.args.page _ can _ _ x.0 c.leaf.result _ c.args.bytes.now come c.fill_frame.ensures.bytes (rw c.is_dirty_from_start.ensures at c.leaf.ensures.leaf) x.1 x.2 x.3
          (c.missing_is_growth.ensures.grown p.scheme t x.0 (pages.keys p.tabled) c.args.page can.stands.tabled x.1),
    )

pub returns-clause-keeps : goal.returns-clause-keeps
returns-clause-keeps g c = λ others r. c.map.ensures.keeps others (c.fill_frame.ensures.keeps others (c.claim-frame.ensures.keeps others r))

pub returns-clause-soles : goal.returns-clause-soles
returns-clause-soles g c =
    let come = comes g (goal.at.returns-clause-soles g c).After-fill_frame in
    let ready = c.requires.ready in
    let x = c.map.ensures.tables ready.1 (come_tables _ _ _ come c.args.root.0 ready.1 (tables_of_scheme ready.3 ready.4.stands.tables)) in
    soles_stay _ _ _ _ c.args.root.0 _ _ _ ready.1 x.0 come x.2 x.3
