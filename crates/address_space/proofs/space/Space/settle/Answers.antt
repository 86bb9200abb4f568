use Rattle.std.proofs.Common.{◌+◌, ℕ, refl, sym, ap, ◌∙◌, arith, option_map, subst, ◌≡◌}
use Rattle.frame_store.specs.Laws.{fits_after}
use Rattle.process_model.specs.Process.{regions, Process}
use Rattle.process_model.specs.Regions.{region_at}
use Rattle.address_space.specs.Layouts.{region_of}
use Rattle.address_space.proofs.AddingReserved.{agrees_still, can_add, if_err, need_is, none_taken, not_enough, reserved_credits, runs_dry, settles}
use Rattle.address_space.proofs.space.Space.settle.Given as given
use Rattle.address_space.proofs.space.Space.settle.Goals as goal
use Rattle.address_space.proofs.space.Space.settle.Goals.{After-missing_tables-missing}
use Rattle.address_space.specs.Steps.{CanSettle}
use Rattle.address_space.specs.Agreement.{body_of}
use Rattle.table_walk.specs.Tables.{HasTables, missing, Tables}
use Rattle.table_walk.specs.LowPages.{tables_of_scheme}

-- how many tables are missing, by the scheme of the process
few_is : (g : given.Over) (c : After-missing_tables-missing g) (t : Tables) (p : Process) → CanSettle (body_of g.S.FrameSeat.view c.args.self.now) t p c.args.page
    → c.missing_tables-missing.result ≡ missing p.scheme t c.args.page
few_is g c t p can =
    let same = can.agrees.lays.scheme ∙ sym c.scheme-scheme.ensures in
    subst (λ z. c.missing_tables-missing.result ≡ missing z t c.args.page) (sym same)
    (c.missing_tables-missing.ensures.missing t (subst (λ z. HasTables z (g.S.FrameSeat.view c.args.self.now.seat) c.args.self.now.root.0 t) same can.agrees.stands.tables))

pub unreachable-requires : goal.unreachable-requires
unreachable-requires g c =
    let can = c.requires.ready.2 in
    let found = rw c.number.ensures.value at (c.region_at.ensures c.requires.ready.1 can.agrees.lays) in
    let none = ap (option_map region_of) c.in_default.is in
    cc (found, none, can.in_region)

pub reserve-requires : goal.reserve-requires
reserve-requires g c = record { fits = fits_after g.F.FrameAccess.invariant c.missing_tables-missing.ensures.keeps c.requires.fits }

pub returns-in_err-reserve-clause-dry : goal.returns-in_err-reserve-clause-dry
returns-in_err-reserve-clause-dry g c = if_err _ _
    (runs_dry _ _ _ _ c.missing_tables-missing.ensures.view c.in_err-reserve.ensures.err c.args.self.now.root.0 c.args.self.now.trapframe.0 c.args.self.now.layout c.args.page
    (c.missing_is_growth.ensures.missing c.args.self.now.layout.scheme) (λ t has. ap (λ (n : ℕ). 1 + n) (rw c.scheme-scheme.ensures at (c.missing_tables-missing.ensures.missing t) has)))

pub returns-in_err-reserve-clause-whole : goal.returns-in_err-reserve-clause-whole
returns-in_err-reserve-clause-whole g c = if_err _ _
    (agrees_still _ _ _ _ c.missing_tables-missing.ensures.view c.in_err-reserve.ensures.err c.args.self.now.root.0 c.args.self.now.trapframe.0 c.args.self.now.layout)

pub returns-in_err-reserve-clause-exact : goal.returns-in_err-reserve-clause-exact
returns-in_err-reserve-clause-exact g c a t p can =
    let few = few_is g (goal.at.returns-in_err-reserve-clause-exact g c).After-missing_tables-missing t p can in
    let need = need_is _ _ _ _ t p c.args.page can (c.missing_is_growth.ensures.missing p.scheme) in
    not_enough _ _ _ _ _ c.from_residual.ensures.0 (ap (λ (n : ℕ). 1 + n) few ∙ sym need) (ap g.F.FrameAccess.free c.missing_tables-missing.ensures.same) (c.in_err-reserve.ensures.exact a).1

pub returns-in_err-reserve-clause-free : goal.returns-in_err-reserve-clause-free
returns-in_err-reserve-clause-free g c a t p can =
    none_taken _ _ _ _ _ c.from_residual.ensures.0 (c.in_err-reserve.ensures.free a) (ap g.F.FrameAccess.free c.missing_tables-missing.ensures.same)

pub returns-in_err-reserve-clause-keeps : goal.returns-in_err-reserve-clause-keeps
returns-in_err-reserve-clause-keeps g c = λ others r. c.reserve.ensures.keeps others (c.missing_tables-missing.ensures.keeps others r)

pub add_page-requires-clause-fits : goal.add_page-requires-clause-fits
add_page-requires-clause-fits g c = fits_after g.F.FrameAccess.invariant c.reserve.ensures.keeps (fits_after g.F.FrameAccess.invariant c.missing_tables-missing.ensures.keeps c.requires.fits)

pub add_page-requires-clause-ready : goal.add_page-requires-clause-ready
add_page-requires-clause-ready g c =
    let t = c.requires.ready.0 in
    let p = c.requires.ready.1 in
    let can = c.requires.ready.2 in
    let few = few_is g (goal.at.add_page-requires-clause-ready g c).After-missing_tables-missing t p can in
    let credits = reserved_credits _ _ _ _ t p c.args.page can _ _ _ c.missing_tables-missing.ensures.view c.in_ok-reserve.ensures.ok in
    let at = c.region_at.ensures p can.agrees.lays ∙ ap (region_at (regions p)) c.number.ensures.value in (
      c.args.self.now.trapframe.0,
      t,
      p,
      can.agrees.lays.scheme ∙ sym c.scheme-scheme.ensures,
      can_add _ _ _ _ t p c.args.page can _ _ _ c.missing_tables-missing.ensures.view c.in_ok-reserve.ensures.ok _ _ at (ap (option_map region_of) c.in-Some.is),
      omega (arith, few, credits, ap (λ z. missing z t c.args.page) (can.agrees.lays.scheme ∙ sym c.scheme-scheme.ensures)),
    )

pub returns-clause-settled : goal.returns-clause-settled
returns-clause-settled g c t p can =
    let few = few_is g (goal.at.returns-clause-settled g c).After-missing_tables-missing t p can in
    let at = c.region_at.ensures p can.agrees.lays ∙ ap (region_at (regions p)) c.number.ensures.value in
    let add = can_add _ _ _ _ t p c.args.page can _ _ _ c.missing_tables-missing.ensures.view c.in_ok-reserve.ensures.ok _ _ at (ap (option_map region_of) c.in-Some.is) in
    let x = c.add_page.ensures.added c.args.self.now.trapframe.0 t p (can.agrees.lays.scheme ∙ sym c.scheme-scheme.ensures) add in (
      x.0,
      x.1,
      settles _ _ _ _ t p c.args.page can _ _ _ c.missing_tables-missing.ensures.view c.in_ok-reserve.ensures.ok _ x.0 c.args.bytes.now x.1
          (ap (λ (n : ℕ). 1 + n) few) (need_is _ _ _ _ t p c.args.page can (c.missing_is_growth.ensures.missing p.scheme)) x.2,
    )

pub returns-clause-exact : goal.returns-clause-exact
returns-clause-exact g c a t p can =
    let few = few_is g (goal.at.returns-clause-exact g c).After-missing_tables-missing t p can in
    let need = need_is _ _ _ _ t p c.args.page can (c.missing_is_growth.ensures.missing p.scheme) in
    let free = ap g.F.FrameAccess.free c.missing_tables-missing.ensures.same in
    (λ ok. let enough = (c.in_ok-reserve.ensures.exact a).0 ok in omega (arith, few, need, free, enough), λ le. refl)

pub returns-clause-free : goal.returns-clause-free
returns-clause-free g c a t p can =
    let few = few_is g (goal.at.returns-clause-free g c).After-missing_tables-missing t p can in
    let need = need_is _ _ _ _ t p c.args.page can (c.missing_is_growth.ensures.missing p.scheme) in
    let free = ap g.F.FrameAccess.free c.missing_tables-missing.ensures.same in
    let left = c.in_ok-reserve.ensures.free a in
    c.add_page.ensures.free a ∙ omega (arith, few, need, free, left)

pub returns-clause-keeps : goal.returns-clause-keeps
returns-clause-keeps g c = λ others r. c.add_page.ensures.keeps others (c.reserve.ensures.keeps others (c.missing_tables-missing.ensures.keeps others r))

pub missing_tables-missing-requires-clause-held : goal.missing_tables-missing-requires-clause-held
missing_tables-missing-requires-clause-held g c =
    let agrees = c.requires.ready.2.agrees in
    (c.requires.ready.0, tables_of_scheme (agrees.lays.scheme ∙ sym c.scheme-scheme.ensures) agrees.stands.tables)
