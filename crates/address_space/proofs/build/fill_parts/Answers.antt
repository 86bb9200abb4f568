use Rattle.std.proofs.Common.{refl, ◌∙◌, take}
use Rattle.std.proofs.lemmas.List.{take_all}
use Rattle.frame_store.specs.Laws.{fits_after}
use Rattle.address_space.specs.Parts.{bare_process, pages_of, with_pages}
use Rattle.address_space.proofs.BuildParts.{can_fill, fills_bare, part_enough, part_fills}
use Rattle.address_space.proofs.build.fill_parts.Goals as goal
use Rattle.address_space.proofs.BuildPages.{same_scheme}

pub parts-init : goal.parts-init
parts-init g c = record {
  filled = λ trapframe t stands. (t, fills_bare c.args.scheme _ c.args.root.0 trapframe c.args.parts.now c.requires.parts t stands);
  keeps = λ others r. r;
  free = λ a. refl;
}

pub fill_part-requires-clause-fits : goal.fill_part-requires-clause-fits
fill_part-requires-clause-fits g c = fits_after g.F.FrameAccess.invariant c.parts.invariant.keeps c.requires.fits

pub fill_part-requires-clause-ready : goal.fill_part-requires-clause-ready
fill_part-requires-clause-ready g c =
    let r = c.requires.ready in
    let so_far = c.parts.invariant.filled r.0 r.1 r.2 in (
      r.0,
      so_far.0,
      with_pages (bare_process c.args.scheme c.args.parts.now) (pages_of (take c.parts.part-index c.args.parts.now)),
      same_scheme (pages_of (take c.parts.part-index c.args.parts.now)) (bare_process c.args.scheme c.args.parts.now),
      can_fill c.args.scheme _ c.args.root.0 r.0 c.args.parts.now c.requires.parts c.parts.part-index _ c.parts-test.true _ so_far.0 so_far.1,
      part_enough c.args.scheme _ c.args.root.0 r.0 c.args.parts.now c.requires.parts c.parts.part-index _ c.parts-test.true _ so_far.0 so_far.1 c.requires.credits,
    )

pub parts-preserved : goal.parts-preserved
parts-preserved g c =
    let i = c.parts.invariant in
    record {
      filled = λ trapframe t stands.
          let so_far = i.filled trapframe t stands in
          let before = with_pages (bare_process c.args.scheme c.args.parts.now) (pages_of (take c.parts.part-index c.args.parts.now)) in
          let can = can_fill c.args.scheme _ c.args.root.0 trapframe c.args.parts.now c.requires.parts c.parts.part-index _ c.parts-test.true _ so_far.0 so_far.1 in
          let more = c.fill_part.ensures.filled trapframe so_far.0 before (same_scheme (pages_of (take c.parts.part-index c.args.parts.now)) (bare_process c.args.scheme c.args.parts.now)) can in
          (more.0, part_fills c.args.scheme _ c.args.root.0 trapframe c.args.parts.now c.requires.parts c.parts.part-index _ c.parts-test.true _ so_far.0 so_far.1 _ more.0 more.1);
      keeps = λ others r. c.fill_part.ensures.keeps others (i.keeps others r);
      free = λ a. c.fill_part.ensures.free a ∙ i.free a;
    }

pub returns-clause-filled : goal.returns-clause-filled
returns-clause-filled g c trapframe t stands =
    let so_far = c.parts.invariant.filled trapframe t stands in
    (so_far.0, rw (take_all c.parts.part-index c.args.parts.now c.parts-test.false) at so_far.1)

pub returns-clause-keeps : goal.returns-clause-keeps
returns-clause-keeps g c = c.parts.invariant.keeps

pub returns-clause-free : goal.returns-clause-free
returns-clause-free g c = c.parts.invariant.free
