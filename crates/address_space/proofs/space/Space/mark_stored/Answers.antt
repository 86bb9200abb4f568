use Rattle.std.proofs.Common.{refl, ap, sym, ◌∙◌, ℕ, ◌≡◌}
use Rattle.std.specs.Prelude.{option_map}
use Rattle.frame_store.specs.Laws.{fits_after}
use Rattle.address_space.specs.Layouts.{region_of}
use Rattle.address_space.specs.ProcessLeaves.{page_backed}
use Rattle.address_space.proofs.Marks.{mark_frame, mark_known, mark_leafy, mark_sole, mark_some, marks}
use Rattle.address_space.proofs.space.Space.mark_stored.Goals as goal
use Rattle.address_space.proofs.space.Space.mark_stored.Goals.{After-protect}
use Rattle.address_space.proofs.LowLeaves.{settled_number, number_of_scheme, last_of_scheme}
use Rattle.address_space.specs.Agreement.{Body}
use Rattle.address_space.specs.Steps.{CanWrite}
use Rattle.table_walk.specs.Tables.{walk_leaf, leaf_node, Tables}
use Rattle.table_walk.specs.LowPages.{tables_of_scheme}
use Rattle.process_model.specs.Process.{Process, Page}

-- the number of the page's leaf
number_is : {x : Body} {t : Tables} {p : Process} {page : ℕ} {s : Page} → CanWrite x t p page s → walk_leaf p.scheme page ≡ leaf_node page
number_is {x} {t} {p} {page} {s} can = settled_number _ _ t p page s can.read.agrees.stands.shows can.read.settled

pub unreachable-requires : goal.unreachable-requires
unreachable-requires g c =
    let can = c.requires.ready.3 in
    let found = rw c.number.ensures.value at (c.region_at.ensures c.requires.ready.1 can.read.agrees.lays) in
    let none = ap (option_map region_of) c.in_default.is in
    cc (found, none, can.in_region)

pub unreachable-requires-in_default-frame_of : goal.unreachable-requires-in_default-frame_of
unreachable-requires-in_default-frame_of g c =
    let can = c.requires.ready.3 in
    let same = can.read.agrees.lays.scheme ∙ sym c.scheme-scheme.ensures in
    let some = mark_some can c.frame_of.result (rw (number_of_scheme c.args.page same (number_is can)) at (c.frame_of.ensures.frame c.requires.ready.0 (tables_of_scheme same can.read.agrees.stands.tables))) in
    cc (some, c.in_default-frame_of.is)

pub leaf-leaf-requires : goal.leaf-leaf-requires
leaf-leaf-requires g c =
    let r = c.requires.ready in
    let at = sym (rw c.number.ensures.value at (c.region_at.ensures r.1 r.3.read.agrees.lays)) ∙ ap (option_map region_of) c.in-Some.is in
    record { leafy = mark_leafy r.3 _ at }

pub protect-requires-clause-fits : goal.protect-requires-clause-fits
protect-requires-clause-fits g c = fits_after g.F.FrameAccess.invariant c.frame_of.ensures.keeps c.requires.fits

pub protect-requires-clause-mapped : goal.protect-requires-clause-mapped
protect-requires-clause-mapped g c =
    let r = c.requires.ready in
    let stands = r.3.read.agrees.stands in
    let shown = stands.shows.settled c.args.page r.2 r.3.read.settled in
    let same = r.3.read.agrees.lays.scheme ∙ sym c.scheme-scheme.ensures in
    (r.0, tables_of_scheme same (rw c.frame_of.ensures.view stands.tables), rw (number_of_scheme c.args.page same (number_is r.3), shown.mapped) refl)

pub protect-requires-clause-backed : goal.protect-requires-clause-backed
protect-requires-clause-backed g c =
    let r = c.requires.ready in
    let same_scheme = r.3.read.agrees.lays.scheme ∙ sym c.scheme-scheme.ensures in
    let same = mark_frame r.3 _ _ (rw (number_of_scheme c.args.page same_scheme (number_is r.3)) at (c.frame_of.ensures.frame r.0 (tables_of_scheme same_scheme r.3.read.agrees.stands.tables))) c.in-Some-frame_of.is in
    rw c.frame_of.ensures.view (page_backed _ _ _ _ _ _ (rw same at c.leaf-leaf.ensures.leaf) (mark_known r.3) (λ writes. mark_sole r.3))

pub returns-clause-marked : goal.returns-clause-marked
returns-clause-marked g c t p s can =
    let at = sym (rw c.number.ensures.value at (c.region_at.ensures p can.read.agrees.lays)) ∙ ap (option_map region_of) c.in-Some.is in
    let same_scheme = can.read.agrees.lays.scheme ∙ sym c.scheme-scheme.ensures in
    let tables = tables_of_scheme same_scheme can.read.agrees.stands.tables in
    let same = c.frame_of.ensures.view in (
      _,
      marks can _ at _ _ c.frame_of.result (rw (number_of_scheme c.args.page same_scheme (number_is can)) at (c.frame_of.ensures.frame t tables)) c.in-Some-frame_of.is _ c.leaf-leaf.ensures.leaf
          (tables_of_scheme (sym same_scheme) (rw (number_of_scheme c.args.page same_scheme (number_is can)) at ((rw same at (c.protect.ensures.tables t)) tables)).0)
          (λ x table. (rw same at (c.protect.ensures.word t x)) tables (last_of_scheme t c.args.page same_scheme table)),
    )

pub returns-clause-keeps : goal.returns-clause-keeps
returns-clause-keeps g c = λ others r. c.protect.ensures.keeps others (c.frame_of.ensures.keeps others r)

pub returns-clause-counts : goal.returns-clause-counts
returns-clause-counts g c alone f = c.protect.ensures.counts alone f ∙ ap (λ x. g.F.FrameAccess.count x f) c.frame_of.ensures.same

pub frame_of-requires-clause-held : goal.frame_of-requires-clause-held
frame_of-requires-clause-held g c =
    let agrees = c.requires.ready.3.read.agrees in
    (c.requires.ready.0, tables_of_scheme (agrees.lays.scheme ∙ sym c.scheme-scheme.ensures) agrees.stands.tables)
