use Rattle.std.proofs.Common.{◌≡◌, ℕ, Some, ◌&&◌, false, true, refl, ap, sym, arith, ◌∙◌}
use Rattle.std.specs.Prelude.{is_ok, option_map}
use Rattle.std.proofs.lemmas.Result.{err_from_is_err_and}
use Rattle.frame_store.specs.Laws.{fits_after}
use Rattle.process_model.proofs.OrderLaws.{leafy_at}
use Rattle.process_model.specs.Process.{Page, Process, regions}
use Rattle.process_model.specs.Regions.{region_at}
use Rattle.table_walk.specs.Tables.{Tables, walk_leaf, leaf_node}
use Rattle.table_walk.specs.LowPages.{tables_of_scheme}
use Rattle.address_space.specs.Agreement.{body_of, is_dirty_page, Body}
use Rattle.address_space.specs.Layouts.{region_of}
use Rattle.address_space.specs.ProcessLeaves.{page_backed}
use Rattle.address_space.specs.Steps.{CanOwn}
use Rattle.address_space.proofs.OwningCounts.{exact_kept, exact_parted, exact_refused, free_kept, free_parted, free_refused, look_at, own_frame, own_kept, own_known, own_one, own_part, own_parted, own_sole, own_some, own_stands, own_stays_dirty, refused_agrees, refused_dry}
use Rattle.address_space.proofs.space.Space.own.Given as given
use Rattle.address_space.proofs.space.Space.own.Goals as goal
use Rattle.address_space.proofs.space.Space.own.Goals.{After-from_residual, After-look-sole, In-Some-frame_of}
use Rattle.address_space.proofs.LowLeaves.{settled_number, number_of_scheme, last_of_scheme}

-- the number of the page's leaf
number_is : {x : Body} {t : Tables} {p : Process} {page : ℕ} {s : Page} {f : ℕ} → CanOwn x t p page s f → walk_leaf p.scheme page ≡ leaf_node page
number_is {x} {t} {p} {page} {s} can = settled_number _ _ t p page s can.agrees.stands.shows can.settled

-- what was found

frame_is : (g : given.Over) (c : In-Some-frame_of g) (t : Tables) (p : Process) (s : Page) (f : ℕ)
    → CanOwn (body_of g.S.FrameSeat.view c.args.self.now) t p c.args.page s f
    → c.in-Some-frame_of.shared.0 ≡ f
frame_is g c t p s f can = own_frame can c.frame_of.result _ (rw (number_of_scheme c.args.page (can.agrees.lays.scheme ∙ sym c.scheme-scheme.ensures) (number_is can)) at (c.frame_of.ensures.frame t (tables_of_scheme (can.agrees.lays.scheme ∙ sym c.scheme-scheme.ensures) can.agrees.stands.tables))) c.in-Some-frame_of.is

region_is : (g : given.Over) (c : In-Some-frame_of g) (t : Tables) (p : Process) (s : Page) (f : ℕ)
    → CanOwn (body_of g.S.FrameSeat.view c.args.self.now) t p c.args.page s f
    → region_at (regions p) c.args.page ≡ Some (region_of c.in-Some.region)
region_is g c t p s f can = sym (rw c.number.ensures.value at (c.region_at.ensures p can.agrees.lays)) ∙ ap (option_map region_of) c.in-Some.is

-- what the leaf's D comes to in a new leaf
dirty_is : (g : given.Over) (c : In-Some-frame_of g) (t : Tables) (p : Process) (s : Page) (f : ℕ)
    → CanOwn (body_of g.S.FrameSeat.view c.args.self.now) t p c.args.page s f
    → (c.in-Some-frame_of.dirty && (region_of c.in-Some.region).writes) ≡ is_dirty_page (region_of c.in-Some.region) s
dirty_is g c t p s f can =
    own_stays_dirty can c.frame_of.result _ (rw (number_of_scheme c.args.page (can.agrees.lays.scheme ∙ sym c.scheme-scheme.ensures) (number_is can)) at (c.frame_of.ensures.frame t (tables_of_scheme (can.agrees.lays.scheme ∙ sym c.scheme-scheme.ensures) can.agrees.stands.tables))) c.in-Some-frame_of.is
    (region_of c.in-Some.region) (region_is g c t p s f can)

pub leaf-requires : goal.leaf-requires
leaf-requires g c =
    let r = c.requires.ready in
    let at = sym (rw c.number.ensures.value at (c.region_at.ensures r.1 r.4.agrees.lays)) ∙ ap (option_map region_of) c.in-Some.is in
    record { leafy = leafy_at r.1 r.4.agrees.sound.order c.args.page _ at }

counted : (g : given.Over) (c : After-look-sole g) → g.F.FrameAccess.alone → (f : ℕ) → c.in-Some-frame_of.shared.0 ≡ f → c.look-sole.result ≡ g.F.FrameAccess.count c.args.store.now f
counted g c alone f is =
    c.look-sole.ensures.exact alone ∙ ap (λ x. g.F.FrameAccess.count x c.in-Some-frame_of.shared.0) c.frame_of.ensures.same ∙ ap (g.F.FrameAccess.count c.args.store.now) is

pub unreachable-requires : goal.unreachable-requires
unreachable-requires g c =
    let can = c.requires.ready.4 in
    let found = rw c.number.ensures.value at (c.region_at.ensures c.requires.ready.1 can.agrees.lays) in
    let none = ap (option_map region_of) c.in_default.is in
    cc (found, none, can.in_region)

pub unreachable-requires-in_default-frame_of : goal.unreachable-requires-in_default-frame_of
unreachable-requires-in_default-frame_of g c =
    let can = c.requires.ready.4 in
    let some = own_some can c.frame_of.result (rw (number_of_scheme c.args.page (can.agrees.lays.scheme ∙ sym c.scheme-scheme.ensures) (number_is can)) at (c.frame_of.ensures.frame c.requires.ready.0 (tables_of_scheme (can.agrees.lays.scheme ∙ sym c.scheme-scheme.ensures) can.agrees.stands.tables))) in
    cc (some, c.in_default-frame_of.is)

pub look-sole-requires-clause-fits : goal.look-sole-requires-clause-fits
look-sole-requires-clause-fits g c = fits_after g.F.FrameAccess.invariant c.frame_of.ensures.keeps c.requires.fits

pub look-sole-requires-clause-held : goal.look-sole-requires-clause-held
look-sole-requires-clause-held g c =
    let r = c.requires.ready in
    let at = goal.at.look-sole-requires-clause-held g c in
    let one = own_one r.4 in
    rw (c.frame_of.ensures.view, frame_is g at.In-Some-frame_of r.0 r.1 r.2 r.3 r.4) (omega (arith, one))

pub protect-requires-clause-fits : goal.protect-requires-clause-fits
protect-requires-clause-fits g c =
    let rule = g.F.FrameAccess.invariant in
    fits_after rule c.look-sole.ensures.keeps (fits_after rule c.frame_of.ensures.keeps c.requires.fits)

pub protect-requires-clause-mapped : goal.protect-requires-clause-mapped
protect-requires-clause-mapped g c =
    let r = c.requires.ready in
    let at = (goal.at.protect-requires-clause-mapped g c).In-Some-frame_of in
    let look = look_at _ _ _ _ _ _ c.frame_of.ensures.view c.look-sole.ensures.view (frame_is g at r.0 r.1 r.2 r.3 r.4) in
    let same = r.4.agrees.lays.scheme ∙ sym c.scheme-scheme.ensures in
    (r.0, tables_of_scheme same (own_stands r.4 _ _ look _ (region_is g at r.0 r.1 r.2 r.3 r.4)).tables, rw (number_of_scheme c.args.page same (number_is r.4), r.4.on.1) refl)

pub protect-requires-clause-backed : goal.protect-requires-clause-backed
protect-requires-clause-backed g c =
    let r = c.requires.ready in
    let at = (goal.at.protect-requires-clause-backed g c).In-Some-frame_of in
    let is = frame_is g at r.0 r.1 r.2 r.3 r.4 in
    let look = look_at _ _ _ _ _ _ c.frame_of.ensures.view c.look-sole.ensures.view is in
    let region = region_is g at r.0 r.1 r.2 r.3 r.4 in
    page_backed _ _ _ _ _ _ (rw is at c.leaf.ensures.leaf) (own_known r.4 _ _ look _ region) (λ writes. own_sole r.4 _ _ look _ region c.if-sole.true)

-- the page keeps its frame

pub returns-then-sole-clause-owned : goal.returns-then-sole-clause-owned
returns-then-sole-clause-owned g c t p s f can =
    let at = (goal.at.returns-then-sole-clause-owned g c).In-Some-frame_of in
    let is = frame_is g at t p s f can in
    let look = look_at _ _ _ _ _ _ c.frame_of.ensures.view c.look-sole.ensures.view is in
    let stands = own_stands can _ _ look _ (region_is g at t p s f can) in
    let same = can.agrees.lays.scheme ∙ sym c.scheme-scheme.ensures in (
      _,
      f,
      c.look-sole.result,
      own_kept can _ _ look _ (region_is g at t p s f can) c.if-sole.true _ _ (rw (is, dirty_is g at t p s f can) at c.leaf.ensures.leaf) (tables_of_scheme (sym same) (rw (number_of_scheme c.args.page same (number_is can)) at (c.protect.ensures.tables t (tables_of_scheme same stands.tables))).0)
          (λ x table. c.protect.ensures.word t x (tables_of_scheme same stands.tables) (last_of_scheme t c.args.page same table)),
      λ alone. counted g (goal.at.returns-then-sole-clause-owned g c).After-look-sole alone f is,
    )

pub returns-then-sole-clause-exact : goal.returns-then-sole-clause-exact
returns-then-sole-clause-exact g c alone t p s f can =
    let at = goal.at.returns-then-sole-clause-exact g c in
    exact_kept _ _ (sym (counted g at.After-look-sole alone f (frame_is g at.In-Some-frame_of t p s f can)) ∙ c.if-sole.true)

pub returns-then-sole-clause-free : goal.returns-then-sole-clause-free
returns-then-sole-clause-free g c alone t p s f can =
    let at = goal.at.returns-then-sole-clause-free g c in
    free_kept _ _ _ (sym (counted g at.After-look-sole alone f (frame_is g at.In-Some-frame_of t p s f can)) ∙ c.if-sole.true)
    (c.protect.ensures.free alone ∙ ap g.F.FrameAccess.free (c.look-sole.ensures.same ∙ c.frame_of.ensures.same))

pub returns-then-sole-clause-keeps : goal.returns-then-sole-clause-keeps
returns-then-sole-clause-keeps g c = λ others r. c.protect.ensures.keeps others (c.look-sole.ensures.keeps others (c.frame_of.ensures.keeps others r))

-- no frame is free

pub reserve-requires : goal.reserve-requires
reserve-requires g c =
    let rule = g.F.FrameAccess.invariant in
    record { fits = fits_after rule c.look-sole.ensures.keeps (fits_after rule c.frame_of.ensures.keeps c.requires.fits) }

failed : (g : given.Over) (c : After-from_residual g) → is_ok c.from_residual.result ≡ false
failed g c = let p = err_from_is_err_and c.from_residual.result c.from_residual.ensures.1 in rw p.1 refl

pub returns-in_err-reserve-clause-whole : goal.returns-in_err-reserve-clause-whole
returns-in_err-reserve-clause-whole g c =
    let p = err_from_is_err_and c.from_residual.result c.from_residual.ensures.1 in
    rw p.1 (λ t p agrees. refused_agrees _ _ _ _ _ _ _ _ t p (rw c.frame_of.ensures.view at c.look-sole.ensures.view) c.in_err-reserve.ensures.err agrees)

pub returns-in_err-reserve-clause-dry : goal.returns-in_err-reserve-clause-dry
returns-in_err-reserve-clause-dry g c =
    let p = err_from_is_err_and c.from_residual.result c.from_residual.ensures.1 in
    rw p.1 (refused_dry _ _ _ _ _ (rw c.frame_of.ensures.view at c.look-sole.ensures.view) c.in_err-reserve.ensures.err c.requires.ready.4.agrees.credits c.if-sole.false)

pub returns-in_err-reserve-clause-exact : goal.returns-in_err-reserve-clause-exact
returns-in_err-reserve-clause-exact g c alone t p s f can =
    let at = goal.at.returns-in_err-reserve-clause-exact g c in
    let count = counted g at.After-look-sole alone f (frame_is g at.In-Some-frame_of t p s f can) in
    exact_refused _ _ _ (failed g c) (λ one. c.if-sole.false (count ∙ one))
    (λ enough. let given = (c.in_err-reserve.ensures.exact alone).1 (rw (c.look-sole.ensures.same, c.frame_of.ensures.same) enough) in cc)

pub returns-in_err-reserve-clause-free : goal.returns-in_err-reserve-clause-free
returns-in_err-reserve-clause-free g c alone t p s f can =
    let store = ap g.F.FrameAccess.free (c.look-sole.ensures.same ∙ c.frame_of.ensures.same) in
    free_refused _ _ _ _ (failed g c) (omega (arith, c.in_err-reserve.ensures.free alone, store))

pub returns-in_err-reserve-clause-keeps : goal.returns-in_err-reserve-clause-keeps
returns-in_err-reserve-clause-keeps g c = λ others r. c.reserve.ensures.keeps others (c.look-sole.ensures.keeps others (c.frame_of.ensures.keeps others r))

-- the page gets another frame

pub separate-requires-clause-fits : goal.separate-requires-clause-fits
separate-requires-clause-fits g c =
    let rule = g.F.FrameAccess.invariant in
    fits_after rule c.reserve.ensures.keeps (fits_after rule c.look-sole.ensures.keeps (fits_after rule c.frame_of.ensures.keeps c.requires.fits))

pub separate-requires-clause-ready : goal.separate-requires-clause-ready
separate-requires-clause-ready g c =
    let r = c.requires.ready in
    let at = goal.at.separate-requires-clause-ready g c in
    let is = frame_is g at.In-Some-frame_of r.0 r.1 r.2 r.3 r.4 in
    let look = look_at _ _ _ _ _ _ c.frame_of.ensures.view c.look-sole.ensures.view is in (
      c.args.self.now.trapframe.0,
      r.0,
      r.1,
      r.2,
      r.4.agrees.lays.scheme ∙ sym c.scheme-scheme.ensures,
      rw is (own_part r.4 _ _ look _ (region_is g at.In-Some-frame_of r.0 r.1 r.2 r.3 r.4) c.if-sole.false _ c.in_ok-reserve.ensures.ok _ (dirty_is g at.In-Some-frame_of r.0 r.1 r.2 r.3 r.4)),
    )

pub returns-clause-owned : goal.returns-clause-owned
returns-clause-owned g c t p s f can =
    let at = goal.at.returns-clause-owned g c in
    let is = frame_is g at.In-Some-frame_of t p s f can in
    let look = look_at _ _ _ _ _ _ c.frame_of.ensures.view c.look-sole.ensures.view is in
    let region = region_is g at.In-Some-frame_of t p s f can in
    let ready = own_part can _ _ look _ region c.if-sole.false _ c.in_ok-reserve.ensures.ok _ (dirty_is g at.In-Some-frame_of t p s f can) in
    let parts = c.separate.ensures.separated c.args.self.now.trapframe.0 t p s (can.agrees.lays.scheme ∙ sym c.scheme-scheme.ensures) (rw is ready) in (
      parts.0,
      parts.1,
      c.look-sole.result,
      own_parted can _ _ look _ region c.if-sole.false _ c.in_ok-reserve.ensures.ok _ _ _ parts.2,
      λ alone. counted g at.After-look-sole alone f is,
    )

pub returns-clause-exact : goal.returns-clause-exact
returns-clause-exact g c alone t p s f can =
    let at = goal.at.returns-clause-exact g c in
    let count = counted g at.After-look-sole alone f (frame_is g at.In-Some-frame_of t p s f can) in
    exact_parted _ _ (λ one. c.if-sole.false (count ∙ one)) (rw (c.look-sole.ensures.same, c.frame_of.ensures.same) at ((c.in_ok-reserve.ensures.exact alone).0 (refl {a = true})))

pub returns-clause-free : goal.returns-clause-free
returns-clause-free g c alone t p s f can =
    let at = goal.at.returns-clause-free g c in
    let is = frame_is g at.In-Some-frame_of t p s f can in
    let count = counted g at.After-look-sole alone f is in
    let store = c.look-sole.ensures.same ∙ c.frame_of.ensures.same in
    let same = c.reserve.ensures.counts alone c.in-Some-frame_of.shared.0 ∙ ap (λ x. g.F.FrameAccess.count x c.in-Some-frame_of.shared.0) store
    ∙ ap (g.F.FrameAccess.count c.args.store.now) is in
    let free = ap g.F.FrameAccess.free store in
    free_parted _ _ _ _ _ (λ one. c.if-sole.false (count ∙ one)) same (omega (arith, c.in_ok-reserve.ensures.free alone, free)) (c.separate.ensures.free alone)

pub returns-clause-keeps : goal.returns-clause-keeps
returns-clause-keeps g c = λ others r.
    c.separate.ensures.keeps others (c.reserve.ensures.keeps others (c.look-sole.ensures.keeps others (c.frame_of.ensures.keeps others r)))

pub frame_of-requires-clause-held : goal.frame_of-requires-clause-held
frame_of-requires-clause-held g c =
    let agrees = c.requires.ready.4.agrees in
    (c.requires.ready.0, tables_of_scheme (agrees.lays.scheme ∙ sym c.scheme-scheme.ensures) agrees.stands.tables)
