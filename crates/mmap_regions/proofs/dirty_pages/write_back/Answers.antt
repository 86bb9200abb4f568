use Rattle.std.proofs.Common.{ap, subst, refl, ◌∙◌, length, arith}
use Rattle.std.proofs.lemmas.List.{length-append}
use Rattle.address_space.specs.Agreement.{body_of, no_extra, same_body}
use Rattle.address_space.specs.SpacesInCalls.{IsSpaceInCall}
use Rattle.frame_store.specs.Laws.{fits_after}
use Rattle.mmap_regions.specs.Runs.{IsRunOf, moves_in, MappedRun, run_of}
use Rattle.mmap_regions.proofs.Places.{blank, mapping_at}
use Rattle.mmap_regions.proofs.Wholes.{all_before, as_many, moves_before, one_further, one_of_all, still_within, whole_run}
use Rattle.process_model.specs.PageMoves.{all_is_written, files_after}
use Rattle.sv39_entry.specs.Schemes.{of_scheme}
use Rattle.mmap_regions.proofs.dirty_pages.write_back.Goals as goal

pub runs-init : goal.runs-init
runs-init g c = record {
  root = refl;
  trapframe = refl;
  layout = refl;
  view = refl;
  same = refl;
  keeps = λ others r. r;
  moves = λ t p space. g.met.C.Files.stays c.args.files.now;
  rest = λ t p space. omega arith;
}

pub bounds-mappings-i : goal.bounds-mappings-i
bounds-mappings-i g c =
    still_within c.args.space.now.layout c.mappings.result.now c.mappings-i-end.result.now (c.mappings.ensures ∙ ap (λ l. l.mappings) c.runs.invariant.layout) c.mappings-i-end.ensures c.runs.i c.runs-test.true

pub whole-run-requires : goal.whole-run-requires
whole-run-requires g c =
    let r = c.requires.ready in
    let is = c.mappings.ensures ∙ ap (λ l. l.mappings) c.runs.invariant.layout in
    let within = still_within c.args.space.now.layout c.mappings.result.now c.mappings-i-end.result.now is c.mappings-i-end.ensures c.runs.i c.runs-test.true in
    let at = mapping_at r.1 c.mappings.result.now c.args.space.now.layout c.runs.i blank is r.2.lays within in
    let low = (whole_run r.1 r.2.sound.order c.runs.i _ at).low in
    record { low = omega (arith, low, of_scheme r.1.scheme) }

pub write_run-requires-clause-fits : goal.write_run-requires-clause-fits
write_run-requires-clause-fits g c = fits_after g.F.FrameAccess.invariant c.runs.invariant.keeps c.requires.fits

pub write_run-requires-clause-ready : goal.write_run-requires-clause-ready
write_run-requires-clause-ready g c =
    let r = c.requires.ready in
    let i = c.runs.invariant in
    let body = same_body g.S.FrameSeat.view c.runs.space c.args.space.now i.view i.root i.trapframe i.layout in
    let is = c.mappings.ensures ∙ ap (λ l. l.mappings) i.layout in
    let within = still_within c.args.space.now.layout c.mappings.result.now c.mappings-i-end.result.now is c.mappings-i-end.ensures c.runs.i c.runs-test.true in
    let at = mapping_at r.1 c.mappings.result.now c.args.space.now.layout c.runs.i blank is r.2.lays within in
    let one = one_of_all r.1 c.runs.i _ at in
    let rest = i.rest r.0 r.1 r.2 in
    let promised = r.3 in
    let same = ap (λ x. length (moves_in r.1 x)) c.whole-run.ensures in
    (r.0, r.1, rw body r.2, rw c.whole-run.ensures (whole_run r.1 r.2.sound.order c.runs.i _ at), omega (arith, one, rest, promised, same))

pub runs-preserved : goal.runs-preserved
runs-preserved g c =
    let i = c.runs.invariant in
    let n = c.write_run.ensures in
    let body = same_body g.S.FrameSeat.view c.runs.space c.args.space.now i.view i.root i.trapframe i.layout in
    let is = c.mappings.ensures ∙ ap (λ l. l.mappings) i.layout in
    let within = still_within c.args.space.now.layout c.mappings.result.now c.mappings-i-end.result.now is c.mappings-i-end.ensures c.runs.i c.runs-test.true in
    record {
      root = n.reads.root ∙ i.root;
      trapframe = n.reads.trapframe ∙ i.trapframe;
      layout = n.reads.layout ∙ i.layout;
      view = n.reads.view ∙ i.view;
      same = n.reads.same ∙ i.same;
      keeps = λ others s. n.keeps others (i.keeps others s);
      moves = λ t p space.
          let at = mapping_at p c.mappings.result.now c.args.space.now.layout c.runs.i blank is space.lays within in
          let run : IsRunOf p (run_of c.whole-run.result) = rw c.whole-run.ensures (whole_run p space.sound.order c.runs.i _ at) in
          let here : IsSpaceInCall (body_of g.S.FrameSeat.view c.runs.space) t p no_extra = rw body space in
          let more = subst (λ (x : MappedRun). g.C.Files.becomes c.runs.files (moves_in p x) c.write_run.new.files) c.whole-run.ensures (n.moves t p here run) in
          rw (one_further p c.runs.i _ at) (g.met.C.Files.goes_on c.args.files.now c.runs.files c.write_run.new.files _ _ (i.moves t p space) more);
      rest = λ t p space.
          let at = mapping_at p c.mappings.result.now c.args.space.now.layout c.runs.i blank is space.lays within in
          let run : IsRunOf p (run_of c.whole-run.result) = rw c.whole-run.ensures (whole_run p space.sound.order c.runs.i _ at) in
          let here : IsSpaceInCall (body_of g.S.FrameSeat.view c.runs.space) t p no_extra = rw body space in
          let left = n.rest t p here run in
          let all = ap length (one_further p c.runs.i _ at) ∙ length-append (moves_before p c.runs.i) _ in
          let so_far = i.rest t p space in
          let same = ap (λ x. length (moves_in p x)) c.whole-run.ensures in
          omega (arith, left, all, so_far, same);
    }

pub returns-clause-moves : goal.returns-clause-moves
returns-clause-moves g c t p space =
    let last = as_many p c.args.space.now.layout c.mappings-i-end.result.now c.mappings-i-end.ensures space.lays in
    let past = c.runs-test.false in
    subst (λ ms. g.C.Files.becomes c.args.files.now ms c.runs.files) (all_before p c.runs.i (omega (arith, last, past))) (c.runs.invariant.moves t p space)

pub returns-clause-written : goal.returns-clause-written
returns-clause-written g c t p space =
    let last = as_many p c.args.space.now.layout c.mappings-i-end.result.now c.mappings-i-end.ensures space.lays in
    let past = c.runs-test.false in
    g.met.C.Files.comes_to c.args.files.now c.runs.files _ (c.runs.invariant.moves t p space)
    ∙ ap (files_after (g.C.Files.files c.args.files.now)) (all_before p c.runs.i (omega (arith, last, past)))
    ∙ all_is_written p (g.C.Files.files c.args.files.now)
