use Rattle.std.proofs.Common.{◌+◌, ◌-◌, ◌<◌, ap, sym, refl, ◌∙◌, length, arith}
use Rattle.address_space.specs.Layouts.{region_of}
use Rattle.frame_store.specs.Laws.{fits_after}
use Rattle.address_space.specs.SpacesInCalls.{space_in_call}
use Rattle.mmap_regions.specs.Runs.{run_of}
use Rattle.mmap_regions.proofs.Moves.{none_written, run_begins}
use Rattle.mmap_regions.proofs.Walking.{goes_on_clean, none_of, one_more, over, some_of}
use Rattle.mmap_regions.proofs.dirty_pages.count_run.Goals as goal
use Rattle.mmap_regions.proofs.dirty_pages.count_run.Goals.{then-found, else-found}
use Rattle.address_space.specs.Agreement.{same_body}

pub returns-then-is_none-clause-count : goal.returns-then-is_none-clause-count
returns-then-is_none-clause-count g c t p space run =
    sym (ap length (none_written (region_of c.args.run.now.mapping) c.args.run.now.first (sym c.file.ensures ∙ none_of c.file.result c.if-is_none.ensures) c.args.run.now.end p.settled.entries))

pub pages-init : goal.pages-init
pages-init g c =
    let from = c.number-from.ensures.value in
    let order = c.requires.ready.3.order in
    record {
      after = omega (arith, from);
      within = omega (arith, from, order);
      few = omega (arith, from);
      root = refl;
      trapframe = refl;
      layout = refl;
      view = refl;
      same = refl;
      keeps = λ others r. r;
      kept = λ t p space. tt;
      count = λ t p space run. rw from (sym (ap length (run_begins p (region_of c.args.run.now.mapping) c.args.run.now.first)));
    }

pub next_settled_with_last-requires-clause-fits : goal.next_settled_with_last-requires-clause-fits
next_settled_with_last-requires-clause-fits g c = fits_after g.F.FrameAccess.invariant c.pages.invariant.keeps c.requires.fits

pub next_settled_with_last-requires-clause-ready : goal.next_settled_with_last-requires-clause-ready
next_settled_with_last-requires-clause-ready g c =
    let r = c.requires.ready in
    let i = c.pages.invariant in
    let body = same_body g.S.FrameSeat.view c.pages.space c.args.space.now i.view i.root i.trapframe i.layout in
    (r.0, r.1, space_in_call (rw body r.2), i.kept r.0 r.1 r.2)

pub pages-smaller : goal.pages-smaller
pages-smaller g c =
    let r = c.requires.ready in
    let i = c.pages.invariant in
    let body = same_body g.S.FrameSeat.view c.pages.space c.args.space.now i.view i.root i.trapframe i.layout in
    let next = rw c.in-Some.is at c.next_settled_with_last.ensures.page r.0 r.1 (space_in_call (rw body r.2)) (i.kept r.0 r.1 r.2) in
    let number = c.number-from-in-Some.ensures.value in
    let less : c.args.run.now.end - (c.number-from-in-Some.result + 1) < c.args.run.now.end - c.pages.from = omega (arith, next.0, next.1, number) in
    less

pub pages-preserved : goal.pages-preserved
pages-preserved g c =
    let r = c.requires.ready in
    let i = c.pages.invariant in
    let body = same_body g.S.FrameSeat.view c.pages.space c.args.space.now i.view i.root i.trapframe i.layout in
    let near = rw c.in-Some.is at c.next_settled_with_last.ensures.page r.0 r.1 (space_in_call (rw body r.2)) (i.kept r.0 r.1 r.2) in
    let number = c.number-from-in-Some.ensures.value in
    let after = i.after in
    record {
      after = omega (arith, after, near.0, number);
      within = omega (arith, near.1, number);
      few = elim c.if-found.branch [
        | then-found w ↦ let is = w.count-is in omega (arith, is, i.few, near.0, number)
        | else-found w ↦ let is = w.count-is in omega (arith, is, i.few, near.0, number)
      ];
      root = c.next_settled_with_last.ensures.reads.root ∙ i.root;
      trapframe = c.next_settled_with_last.ensures.reads.trapframe ∙ i.trapframe;
      layout = c.next_settled_with_last.ensures.reads.layout ∙ i.layout;
      view = c.next_settled_with_last.ensures.reads.view ∙ i.view;
      same = c.next_settled_with_last.ensures.reads.same ∙ i.same;
      keeps = λ others s. c.next_settled_with_last.ensures.keeps others (i.keeps others s);
      kept = λ t p space. c.next_settled_with_last.ensures.kept t p (space_in_call (rw body space)) (i.kept t p space);
      count = λ t p space run.
          let next = rw c.in-Some.is at c.next_settled_with_last.ensures.page t p (space_in_call (rw body space)) (i.kept t p space) in
          let file = some_of c.file.result c.if-is_none.ensures in
          let at = sym c.file.ensures ∙ file.1 in
          rw number (elim c.if-found.branch [
            | then-found w ↦ w.count-is ∙ ap (λ n. n + 1) (i.count t p space run) ∙ sym (one_more t p (run_of c.args.run.now) run c.pages.from c.in-Some.found next i.after file.0.0 file.0.1 at w.if-found.true)
            | else-found w ↦ w.count-is ∙ i.count t p space run ∙ sym (ap length (goes_on_clean t p (run_of c.args.run.now) run c.pages.from c.in-Some.found next i.after file.0.0 file.0.1 at w.if-found.false))
          ]);
    }

pub returns-clause-count : goal.returns-clause-count
returns-clause-count g c t p space run =
    let i = c.pages.invariant in
    let body = same_body g.S.FrameSeat.view c.pages.space c.args.space.now i.view i.root i.trapframe i.layout in
    let next = rw c.in_default.is at c.next_settled_with_last.ensures.page t p (space_in_call (rw body space)) (i.kept t p space) in
    i.count t p space run ∙ sym (ap length (over t p (run_of c.args.run.now) run c.pages.from next i.after i.within))

pub returns-clause-keeps : goal.returns-clause-keeps
returns-clause-keeps g c others r = c.next_settled_with_last.ensures.keeps others (c.pages.invariant.keeps others r)
