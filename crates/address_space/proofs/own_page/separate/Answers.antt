use Rattle.std.proofs.Common.{refl, arith, ◌∙◌, sym}
use Rattle.frame_store.specs.Laws.{fits_after}
use Rattle.address_space.specs.ProcessLeaves.{bytes_known, page_backed}
use Rattle.address_space.proofs.Owned.{anchored}
use Rattle.address_space.proofs.OwningSteps.{part_anchored, part_apart, part_bytes, part_copied, part_done, part_held, part_sole, part_yet}
use Rattle.address_space.proofs.Writing.{words_sole}
use Rattle.address_space.proofs.own_page.separate.Goals as goal
use Rattle.address_space.proofs.LowLeaves.{settled_number, number_of_scheme, last_of_scheme}
use Rattle.table_walk.specs.LowPages.{tables_of_scheme}

pub claim-own-requires-clause-anchored : goal.claim-own-requires-clause-anchored
claim-own-requires-clause-anchored g c = let r = c.requires.ready in anchored _ _ r.0 _ r.1 r.2 r.5.stands

pub copy_frame-requires-clause-fits : goal.copy_frame-requires-clause-fits
copy_frame-requires-clause-fits g c = fits_after g.F.FrameAccess.invariant c.claim-own.ensures.keeps c.requires.fits

pub copy_frame-requires-clause-held : goal.copy_frame-requires-clause-held
copy_frame-requires-clause-held g c =
    part_yet c.requires.ready.5 _ c.claim-own.ensures.fresh _ c.claim-own.ensures.view

pub copy_frame-requires-clause-known : goal.copy_frame-requires-clause-known
copy_frame-requires-clause-known g c = let r = c.requires.ready in ((r.3).bytes, part_bytes r.5 _ c.claim-own.ensures.fresh _ c.claim-own.ensures.view)

pub copy_frame-requires-clause-sole : goal.copy_frame-requires-clause-sole
copy_frame-requires-clause-sole g c = part_sole c.requires.ready.5 _ c.claim-own.ensures.fresh _ c.claim-own.ensures.view

pub copy_frame-requires-clause-apart : goal.copy_frame-requires-clause-apart
copy_frame-requires-clause-apart g c = part_apart c.requires.ready.5 _ c.claim-own.ensures.fresh

pub protect-requires-clause-fits : goal.protect-requires-clause-fits
protect-requires-clause-fits g c =
    let rule = g.F.FrameAccess.invariant in
    fits_after rule c.copy_frame.ensures.keeps (fits_after rule c.claim-own.ensures.keeps c.requires.fits)

pub protect-requires-clause-mapped : goal.protect-requires-clause-mapped
protect-requires-clause-mapped g c =
    let r = c.requires.ready in
    let stands = part_copied r.5 _ c.claim-own.ensures.fresh _ c.claim-own.ensures.view _ c.copy_frame.ensures.others c.copy_frame.ensures.bytes in
    (r.1, tables_of_scheme r.4 stands.tables, rw (number_of_scheme c.args.page r.4 (settled_number _ _ r.1 r.2 c.args.page r.3 r.5.stands.shows r.5.settled), r.5.on.1) refl)

pub protect-requires-clause-backed : goal.protect-requires-clause-backed
protect-requires-clause-backed g c =
    let r = c.requires.ready in
    let bytes = c.copy_frame.ensures.bytes (r.3).bytes (part_bytes r.5 _ c.claim-own.ensures.fresh _ c.claim-own.ensures.view) in
    let sole = part_sole r.5 _ c.claim-own.ensures.fresh _ c.claim-own.ensures.view in
    page_backed _ _ _ _ _ _ c.leaf.ensures.leaf (bytes_known _ _ _ bytes) (λ writes. words_sole _ _ _ c.copy_frame.ensures.others _ sole)

pub release-requires-clause-fits : goal.release-requires-clause-fits
release-requires-clause-fits g c =
    let rule = g.F.FrameAccess.invariant in
    fits_after rule c.protect.ensures.keeps (fits_after rule c.copy_frame.ensures.keeps (fits_after rule c.claim-own.ensures.keeps c.requires.fits))

pub release-requires-clause-held : goal.release-requires-clause-held
release-requires-clause-held g c =
    let r = c.requires.ready in
    let stands = part_copied r.5 _ c.claim-own.ensures.fresh _ c.claim-own.ensures.view _ c.copy_frame.ensures.others c.copy_frame.ensures.bytes in
    let one = part_held r.5 _ c.claim-own.ensures.fresh _ c.claim-own.ensures.view _ c.copy_frame.ensures.others c.copy_frame.ensures.bytes
    _ _ (rw r.5.kept at c.leaf.ensures.leaf) (tables_of_scheme (sym r.4) (rw (number_of_scheme c.args.page r.4 (settled_number _ _ r.1 r.2 c.args.page r.3 r.5.stands.shows r.5.settled)) at (c.protect.ensures.tables r.1 (tables_of_scheme r.4 stands.tables))).0) (λ x at. c.protect.ensures.word r.1 x (tables_of_scheme r.4 stands.tables) (last_of_scheme r.1 c.args.page r.4 at)) in
    omega (arith, one)

pub release-requires-clause-anchored : goal.release-requires-clause-anchored
release-requires-clause-anchored g c =
    let r = c.requires.ready in
    let stands = part_copied r.5 _ c.claim-own.ensures.fresh _ c.claim-own.ensures.view _ c.copy_frame.ensures.others c.copy_frame.ensures.bytes in
    part_anchored r.5 _ c.claim-own.ensures.fresh _ c.claim-own.ensures.view _ c.copy_frame.ensures.others c.copy_frame.ensures.bytes
    _ _ (rw r.5.kept at c.leaf.ensures.leaf) (tables_of_scheme (sym r.4) (rw (number_of_scheme c.args.page r.4 (settled_number _ _ r.1 r.2 c.args.page r.3 r.5.stands.shows r.5.settled)) at (c.protect.ensures.tables r.1 (tables_of_scheme r.4 stands.tables))).0) (λ x at. c.protect.ensures.word r.1 x (tables_of_scheme r.4 stands.tables) (last_of_scheme r.1 c.args.page r.4 at))

pub returns-clause-separated : goal.returns-clause-separated
returns-clause-separated g c trapframe t p s same can =
    let stands = part_copied can _ c.claim-own.ensures.fresh _ c.claim-own.ensures.view _ c.copy_frame.ensures.others c.copy_frame.ensures.bytes in (
      _,
      _,
      part_done can _ c.claim-own.ensures.fresh _ c.claim-own.ensures.view _ c.copy_frame.ensures.others c.copy_frame.ensures.bytes
          _ _ (rw can.kept at c.leaf.ensures.leaf) (tables_of_scheme (sym same) (rw (number_of_scheme c.args.page same (settled_number _ _ t p c.args.page s can.stands.shows can.settled)) at (c.protect.ensures.tables t (tables_of_scheme same stands.tables))).0) (λ x at. c.protect.ensures.word t x (tables_of_scheme same stands.tables) (last_of_scheme t c.args.page same at))
          _ c.release.ensures.view,
    )

pub returns-clause-keeps : goal.returns-clause-keeps
returns-clause-keeps g c = λ others r.
    c.release.ensures.keeps others (c.protect.ensures.keeps others (c.copy_frame.ensures.keeps others (c.claim-own.ensures.keeps others r)))

pub returns-clause-free : goal.returns-clause-free
returns-clause-free g c alone =
    let shared = c.args.shared.0 in
    let claimed = (c.claim-own.ensures.counts alone).apart shared (part_apart c.requires.ready.5 _ c.claim-own.ensures.fresh) in
    let same = c.protect.ensures.counts alone shared ∙ c.copy_frame.ensures.counts alone shared ∙ claimed in
    let free = c.protect.ensures.free alone ∙ c.copy_frame.ensures.free alone ∙ c.claim-own.ensures.free alone in
    rw (same, free) at (c.release.ensures.free alone)
