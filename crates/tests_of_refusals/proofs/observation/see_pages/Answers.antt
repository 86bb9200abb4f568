use Rattle.address_space.specs.SpacesInCalls.{space_in_call}
use Rattle.frame_store.specs.Laws.{fits_after}
use Rattle.tests_of_refusals.proofs.Living.{alive_still, space_still}
use Rattle.tests_of_refusals.proofs.observation.see_pages.Goals as goal

pub next_settled-requires-clause-fits : goal.next_settled-requires-clause-fits
next_settled-requires-clause-fits g c = fits_after g.F.FrameAccess.invariant c.pages.invariant.keeps c.requires.fits

pub next_settled-requires-clause-ready : goal.next_settled-requires-clause-ready
next_settled-requires-clause-ready g c = let alive = c.pages.invariant.alive in (alive.0, alive.1, space_in_call alive.2)

pub page_bytes-requires-clause-fits : goal.page_bytes-requires-clause-fits
page_bytes-requires-clause-fits g c = fits_after g.F.FrameAccess.invariant c.next_settled.ensures.keeps (fits_after g.F.FrameAccess.invariant c.pages.invariant.keeps c.requires.fits)

pub page_bytes-requires-clause-ready : goal.page_bytes-requires-clause-ready
page_bytes-requires-clause-ready g c =
    let alive = c.pages.invariant.alive in
    let read = c.in-Some.ensures in
    let found = (read.page alive.0 alive.1 (space_in_call alive.2)).3 in
    let still = space_still _ _ _ _ _ _ _ _ read.reads.view read.reads.root read.reads.trapframe read.reads.layout alive.0 alive.1 alive.2 in
    (alive.0, alive.1, found.page, record { standing = space_in_call still; settled = found.settled })

pub returns-in_default-clause-alive : goal.returns-in_default-clause-alive
returns-in_default-clause-alive g c =
    let read = c.next_settled.ensures in alive_still _ _ _ _ _ _ _ _ read.reads.view read.reads.root read.reads.trapframe read.reads.layout c.pages.invariant.alive

pub returns-in_default-clause-keeps : goal.returns-in_default-clause-keeps
returns-in_default-clause-keeps g c others r = c.next_settled.ensures.keeps others (c.pages.invariant.keeps others r)

pub returns-in_err-push-clause-alive : goal.returns-in_err-push-clause-alive
returns-in_err-push-clause-alive g c =
    let read = c.next_settled.ensures in
    let told = c.page_bytes.ensures in
    alive_still _ _ _ _ _ _ _ _ told.reads.view told.reads.root told.reads.trapframe told.reads.layout (alive_still _ _ _ _ _ _ _ _ read.reads.view read.reads.root read.reads.trapframe read.reads.layout c.pages.invariant.alive)

pub returns-in_err-push-clause-keeps : goal.returns-in_err-push-clause-keeps
returns-in_err-push-clause-keeps g c others r = c.page_bytes.ensures.keeps others (c.next_settled.ensures.keeps others (c.pages.invariant.keeps others r))

pub returns-in_err-extend_from_slice-clause-alive : goal.returns-in_err-extend_from_slice-clause-alive
returns-in_err-extend_from_slice-clause-alive g c =
    let read = c.next_settled.ensures in
    let told = c.page_bytes.ensures in
    alive_still _ _ _ _ _ _ _ _ told.reads.view told.reads.root told.reads.trapframe told.reads.layout (alive_still _ _ _ _ _ _ _ _ read.reads.view read.reads.root read.reads.trapframe read.reads.layout c.pages.invariant.alive)

pub returns-in_err-extend_from_slice-clause-keeps : goal.returns-in_err-extend_from_slice-clause-keeps
returns-in_err-extend_from_slice-clause-keeps g c others r = c.page_bytes.ensures.keeps others (c.next_settled.ensures.keeps others (c.pages.invariant.keeps others r))

pub pages-preserved : goal.pages-preserved
pages-preserved g c =
    let read = c.next_settled.ensures in
    let told = c.page_bytes.ensures in
    record {
      alive =
          alive_still _ _ _ _ _ _ _ _ told.reads.view told.reads.root told.reads.trapframe told.reads.layout (alive_still _ _ _ _ _ _ _ _ read.reads.view read.reads.root read.reads.trapframe read.reads.layout c.pages.invariant.alive);
      keeps = λ others r. c.page_bytes.ensures.keeps others (c.next_settled.ensures.keeps others (c.pages.invariant.keeps others r));
    }
