use Rattle.std.proofs.Common.{◌+◌, ◌≤◌, ap, subst, ◌∙◌, length, arith}
use Rattle.std.proofs.lemmas.List.{length-append}
use Rattle.std.proofs.lemmas.Result.{IfErr-weaker, IfOk-weaker}
use Rattle.address_space.specs.Agreement.{body_of, IsSpace, same_body}
use Rattle.frame_store.specs.Laws.{fits_after}
use Rattle.mmap_regions.proofs.Places.{blank, mapping_at, row_before}
use Rattle.mmap_regions.proofs.Wholes.{all_before, as_many, moves_before, one_further, still_within, whole_run}
use Rattle.mmap_regions.specs.Runs.{IsRunOf, moves_in, run_of}
use Rattle.process_model.specs.Bytes.{pages_for}
use Rattle.sv39_entry.specs.Schemes.{of_scheme, trapframe_page}
use Rattle.mmap_regions.proofs.dirty_pages.promise_write_back.Goals as goal

pub bounds-mappings-i : goal.bounds-mappings-i
bounds-mappings-i g c =
    still_within c.args.space.now.layout c.mappings.result.now c.mappings-i-end.result.now (c.mappings.ensures ∙ ap (λ l. l.mappings) c.runs.invariant.layout) c.mappings-i-end.ensures c.runs.i c.runs-test.true

pub whole-run-requires : goal.whole-run-requires
whole-run-requires g c =
    let r = c.requires.ready in
    let is = c.mappings.ensures ∙ ap (λ l. l.mappings) c.runs.invariant.layout in
    let within = still_within c.args.space.now.layout c.mappings.result.now c.mappings-i-end.result.now is c.mappings-i-end.ensures c.runs.i c.runs-test.true in
    let at = mapping_at r.1 c.mappings.result.now c.args.space.now.layout c.runs.i blank is r.2.lays within in
    let low = (whole_run r.1 r.2.sound.order c.runs.i _ at).low in
    record { low = omega (arith, low, of_scheme r.1.scheme) }

pub count_run-pages-requires-clause-fits : goal.count_run-pages-requires-clause-fits
count_run-pages-requires-clause-fits g c = fits_after g.F.FrameAccess.invariant c.runs.invariant.keeps c.requires.fits

pub count_run-pages-requires-clause-ready : goal.count_run-pages-requires-clause-ready
count_run-pages-requires-clause-ready g c =
    let r = c.requires.ready in
    let i = c.runs.invariant in
    let body = same_body g.S.FrameSeat.view c.runs.space c.args.space.now i.view i.root i.trapframe i.layout in
    let is = c.mappings.ensures ∙ ap (λ l. l.mappings) i.layout in
    let within = still_within c.args.space.now.layout c.mappings.result.now c.mappings-i-end.result.now is c.mappings-i-end.ensures c.runs.i c.runs-test.true in
    let at = mapping_at r.1 c.mappings.result.now c.args.space.now.layout c.runs.i blank is r.2.lays within in
    (r.0, r.1, rw body r.2, rw c.whole-run.ensures (whole_run r.1 r.2.sound.order c.runs.i _ at))

pub overflow_add-pages : goal.overflow_add-pages
overflow_add-pages g c =
    let r = c.requires.ready in
    let i = c.runs.invariant in
    let is = c.mappings.ensures ∙ ap (λ l. l.mappings) i.layout in
    let within = still_within c.args.space.now.layout c.mappings.result.now c.mappings-i-end.result.now is c.mappings-i-end.ensures c.runs.i c.runs-test.true in
    let at = mapping_at r.1 c.mappings.result.now c.args.space.now.layout c.runs.i blank is r.2.lays within in
    let low = (whole_run r.1 r.2.sound.order c.runs.i _ at).low in
    let first = ap (λ x. x.first) c.whole-run.ensures in
    let end = ap (λ x. x.end) c.whole-run.ensures in
    let one = c.count_run-pages.ensures.few in
    let so_far = i.few r.0 r.1 r.2 _ at in
    omega (arith, first, end, low, one, so_far, of_scheme r.1.scheme)

pub runs-preserved : goal.runs-preserved
runs-preserved g c =
    let i = c.runs.invariant in
    let n = c.count_run-pages.ensures in
    let body = same_body g.S.FrameSeat.view c.runs.space c.args.space.now i.view i.root i.trapframe i.layout in
    let is = c.mappings.ensures ∙ ap (λ l. l.mappings) i.layout in
    let within = still_within c.args.space.now.layout c.mappings.result.now c.mappings-i-end.result.now is c.mappings-i-end.ensures c.runs.i c.runs-test.true in
    let first = ap (λ x. x.first) c.whole-run.ensures in
    let end = ap (λ x. x.end) c.whole-run.ensures in
    let one = n.few in
    record {
      few = λ t p space m there.
          let at = mapping_at p c.mappings.result.now c.args.space.now.layout c.runs.i blank is space.lays within in
          let behind = row_before (pages_for p.size) (trapframe_page p.scheme) c.runs.i (c.runs.i + 1) p.mappings _ m space.sound.order.above at there (omega arith) in
          let so_far = i.few t p space _ at in
          omega (arith, first, end, one, so_far, behind);
      root = n.reads.root ∙ i.root;
      trapframe = n.reads.trapframe ∙ i.trapframe;
      layout = n.reads.layout ∙ i.layout;
      view = n.reads.view ∙ i.view;
      same = n.reads.same ∙ i.same;
      keeps = λ others s. n.keeps others (i.keeps others s);
      counted = λ t p space.
          let at = mapping_at p c.mappings.result.now c.args.space.now.layout c.runs.i blank is space.lays within in
          let run : IsRunOf p (run_of c.whole-run.result) = rw c.whole-run.ensures (whole_run p space.sound.order c.runs.i _ at) in
          let here : IsSpace (body_of g.S.FrameSeat.view c.runs.space) t p = rw body space in
          let more = n.count t p here run in
          let all = ap length (one_further p c.runs.i _ at) ∙ length-append (moves_before p c.runs.i) _ in
          let so_far = i.counted t p space in
          let same = ap (λ x. length (moves_in p x)) c.whole-run.ensures in
          omega (arith, more, all, so_far, same);
    }

pub returns-clause-promised : goal.returns-clause-promised
returns-clause-promised g c =
    IfOk-weaker c.promise.result _ _ (λ x promised t p space.
    let last = as_many p c.args.space.now.layout c.mappings-i-end.result.now c.mappings-i-end.ensures space.lays in
    let past = c.runs-test.false in
    let all = all_before p c.runs.i (omega (arith, last, past)) in
    subst (λ n. n ≤ g.C.Files.room c.promise.new.self) (c.runs.invariant.counted t p space ∙ ap length all) promised) c.promise.ensures.promised

pub returns-clause-refused : goal.returns-clause-refused
returns-clause-refused g c =
    IfErr-weaker c.promise.result _ _ (λ e refused t p space.
    let last = as_many p c.args.space.now.layout c.mappings-i-end.result.now c.mappings-i-end.ensures space.lays in
    let past = c.runs-test.false in
    let all = all_before p c.runs.i (omega (arith, last, past)) in
    subst (λ n. g.C.Files.can_refuse c.args.files.now n e) (c.runs.invariant.counted t p space ∙ ap length all) refused) c.promise.ensures.refused
