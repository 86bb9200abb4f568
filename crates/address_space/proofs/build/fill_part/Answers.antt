use Rattle.std.proofs.Common.{◌≡◌, ◌+◌, ◌-◌, refl, ◌∙◌, arith, ap}
use Rattle.frame_store.specs.Laws.{fits_after}
use Rattle.process_model.specs.ImageProcess.{page_run}
use Rattle.address_space.specs.Parts.{with_pages}
use Rattle.address_space.proofs.BuildPages.{bytes_behind, bytes_here, same_scheme}
use Rattle.address_space.proofs.BuildSteps.{can_add, enough_left, fills_none, next_fills, place}
use Rattle.address_space.proofs.build.fill_part.Goals as goal
use Rattle.sv39_entry.specs.Schemes.{trapframe_page, of_scheme}

pub pages-init : goal.pages-init
pages-init g c =
    let none : c.args.part.now.region.first - c.args.part.now.region.first ≡ 0 = omega arith in
    record {
      rest = rw none refl;
      filled = λ trapframe t p same can. (t, rw none (fills_none _ c.args.root.0 trapframe t p c.args.part.now can));
      keeps = λ others r. r;
      free = λ a. refl;
    }

pub add_page-requires-clause-fits : goal.add_page-requires-clause-fits
add_page-requires-clause-fits g c = fits_after g.F.FrameAccess.invariant c.pages.invariant.keeps c.requires.fits

pub add_page-requires-clause-ready : goal.add_page-requires-clause-ready
add_page-requires-clause-ready g c =
    let here = place _ c.args.part.now.region.pages _ _ c.pages-test.true c.pages.auto.number c.page-page.ensures.number in
    let r = c.requires.ready in
    let so_far = c.pages.invariant.filled r.0 r.1 r.2 r.3 r.4 in (
      r.0,
      so_far.0,
      with_pages r.2 (page_run c.args.part.now.region.first c.args.part.now.bytes.now (c.pages.number - c.args.part.now.region.first)),
      same_scheme (page_run c.args.part.now.region.first c.args.part.now.bytes.now (c.pages.number - c.args.part.now.region.first)) r.2 ∙ r.3,
      can_add _ c.args.root.0 r.0 r.1 r.2 c.args.part.now r.4 _ here.0 _ so_far.0 so_far.1 c.page-page.result here.1,
      rw (same_scheme (page_run c.args.part.now.region.first c.args.part.now.bytes.now (c.pages.number - c.args.part.now.region.first)) r.2 ∙ r.3) at
          (enough_left _ c.args.root.0 r.0 r.1 r.2 c.args.part.now r.4 _ here.0 _ so_far.0 so_far.1 c.page-page.result here.1 (c.missing_is_growth.ensures.missing _) r.5),
    )

pub pages-preserved : goal.pages-preserved
pages-preserved g c =
    let i = c.pages.invariant in
    let here = place _ c.args.part.now.region.pages _ _ c.pages-test.true c.pages.auto.number c.page-page.ensures.number in
    let k = c.pages.number - c.args.part.now.region.first in
    let next : c.pages.number + 1 - c.args.part.now.region.first ≡ k + 1 = omega (arith, c.pages.auto.number) in
    let whole = c.args.part.now.bytes.now in
    let bytes = bytes_here k c.min.result c.pages.rest.now whole i.rest c.min.ensures c.split_at.result.0.now c.split_at.ensures.front in
    let behind = bytes_behind k c.min.result c.pages.rest.now whole i.rest c.min.ensures c.split_at.result.1.now c.split_at.ensures.back in
    record {
      rest = rw next behind;
      filled = λ trapframe t p same can.
          let so_far = i.filled trapframe t p same can in
          let can_now = can_add _ c.args.root.0 trapframe t p c.args.part.now can k here.0 _ so_far.0 so_far.1 c.page-page.result here.1 in
          let added = c.add_page.ensures.added trapframe so_far.0 (with_pages p (page_run c.args.part.now.region.first whole k)) (same_scheme (page_run c.args.part.now.region.first whole k) p ∙ same) can_now in (
            added.0,
            rw next (next_fills _ c.args.root.0 trapframe t p c.args.part.now can k here.0 _ so_far.0 so_far.1 c.page-page.result here.1
                (c.missing_is_growth.ensures.missing _) _ added.0 c.split_at.result.0.now added.1 bytes added.2 c.add_page.ensures.soles),
          );
      keeps = λ others r. c.add_page.ensures.keeps others (i.keeps others r);
      free = λ a. c.add_page.ensures.free a ∙ i.free a;
    }

pub returns-clause-filled : goal.returns-clause-filled
returns-clause-filled g c trapframe t p same can =
    let so_far = c.pages.invariant.filled trapframe t p same can in
    let all : c.pages.number - c.args.part.now.region.first ≡ c.args.part.now.region.pages = omega (arith, c.pages-test.false, c.pages.auto.number, c.pages.auto.number-end) in
    (so_far.0, rw all at so_far.1)

pub returns-clause-keeps : goal.returns-clause-keeps
returns-clause-keeps g c = c.pages.invariant.keeps

pub returns-clause-free : goal.returns-clause-free
returns-clause-free g c = c.pages.invariant.free

-- all pages lie below TRAPFRAME's
pub overflow_add-number-end : goal.overflow_add-number-end
overflow_add-number-end g c =
    let r = c.requires.ready in
    let low = r.4.low in
    omega (arith, low, ap trapframe_page r.3, of_scheme c.args.scheme)

pub overflow_mul-number : goal.overflow_mul-number
overflow_mul-number g c =
    let r = c.requires.ready in
    let low = r.4.low in
    omega (arith, low, ap trapframe_page r.3, of_scheme c.args.scheme, c.pages-test.true)
