use Rattle.std.proofs.Common.{ap, sym, subst, ◌∙◌, inl, inr, Err, length, arith}
use Rattle.std.proofs.lemmas.Result.{err_from_is_err_and}
use Rattle.std.specs.Prelude.{option_map}
use Rattle.address_space.specs.Agreement.{body_of, IsSpace, same_body}
use Rattle.address_space.specs.Layouts.{region_of}
use Rattle.frame_store.specs.Laws.{fits_after}
use Rattle.address_space.specs.SpacesInCalls.{space_in_call}
use Rattle.mmap_regions.proofs.Leaving.{asked, drops_asked, refused, relaid_as, run_of_mapping}
use Rattle.mmap_regions.specs.Runs.{run_of}
use Rattle.mmap_regions.specs.MunmapEffect.{requested_moves}
use Rattle.process_model.specs.Mappings.{unmapped_from}
use Rattle.process_model.specs.PageMoves.{run_is_written}
use Rattle.sv39_entry.specs.Schemes.{trapframe_page}
use Rattle.mmap_regions.proofs.unmap_range.munmap.Goals as goal

pub returns-in_err-run-clause-refused : goal.returns-in_err-run-clause-refused
returns-in_err-run-clause-refused g c =
    let told = err_from_is_err_and c.from_residual.result c.from_residual.ensures.1 in
    rw told.1 (λ t p space. inl (refused p c.args.address c.args.length c.in_err-run.field-0.0 (sym (c.in_err-run.ensures p space.lays space.sound.order)) (g.C.Files.files c.args.files.now) ∙ ap Err (sym told.2)))

pub returns-in_err-run-clause-files_stay : goal.returns-in_err-run-clause-files_stay
returns-in_err-run-clause-files_stay g c =
    let told = err_from_is_err_and c.from_residual.result c.from_residual.ensures.1 in
    rw told.1 (g.met.C.Files.stays _)

pub count_run-pages-requires-clause-ready : goal.count_run-pages-requires-clause-ready
count_run-pages-requires-clause-ready g c =
    let r = c.requires.ready in
    let is = asked r.1 c.args.address c.args.length (run_of c.in_ok-run.run') (sym (c.in_ok-run.ensures r.1 r.2.lays r.2.sound.order)) in
    (r.0, r.1, r.2, run_of_mapping r.1 c.args.address c.args.length (run_of c.in_ok-run.run') is r.2.sound.order)

pub returns-in_err-promise-clause-refused : goal.returns-in_err-promise-clause-refused
returns-in_err-promise-clause-refused g c =
    let told = err_from_is_err_and c.from_residual-in_err-promise.result c.from_residual-in_err-promise.ensures.1 in
    rw told.1 (λ t p space.
    let ok = sym (c.in_ok-run.ensures p space.lays space.sound.order) in
    let is = asked p c.args.address c.args.length (run_of c.in_ok-run.run') ok in
    let run = run_of_mapping p c.args.address c.args.length (run_of c.in_ok-run.run') is space.sound.order in
    let many = c.count_run-pages.ensures.count t p space run ∙ sym (ap (λ o. length (requested_moves p o)) ok) in
    inr (
      _,
      is.is (g.C.Files.files c.args.files.now),
      c.in_err-promise.field-0.0,
      subst (λ n. g.C.Files.can_refuse c.args.files.now n c.in_err-promise.field-0.0) many c.in_err-promise.ensures.refused,
      told.2,
    ))

pub write_run-requires-clause-fits : goal.write_run-requires-clause-fits
write_run-requires-clause-fits g c = fits_after g.F.FrameAccess.invariant c.count_run-pages.ensures.keeps c.requires.fits

pub write_run-requires-clause-ready : goal.write_run-requires-clause-ready
write_run-requires-clause-ready g c =
    let r = c.requires.ready in
    let n = c.count_run-pages.ensures in
    let is = asked r.1 c.args.address c.args.length (run_of c.in_ok-run.run') (sym (c.in_ok-run.ensures r.1 r.2.lays r.2.sound.order)) in
    let run = run_of_mapping r.1 c.args.address c.args.length (run_of c.in_ok-run.run') is r.2.sound.order in
    let body = same_body g.S.FrameSeat.view c.count_run-pages.new.space c.args.space.now n.reads.view n.reads.root n.reads.trapframe n.reads.layout in
    let promised = c.in_ok-promise.ensures.promised in
    let count = n.count r.0 r.1 r.2 run in
    (r.0, r.1, space_in_call (rw body r.2), run, omega (arith, promised, count))

pub drop_pages-requires-clause-fits : goal.drop_pages-requires-clause-fits
drop_pages-requires-clause-fits g c = fits_after g.F.FrameAccess.invariant c.write_run.ensures.keeps (fits_after g.F.FrameAccess.invariant c.count_run-pages.ensures.keeps c.requires.fits)

pub drop_pages-requires-clause-ready : goal.drop_pages-requires-clause-ready
drop_pages-requires-clause-ready g c =
    let r = c.requires.ready in
    let n = c.count_run-pages.ensures in
    let w = c.write_run.ensures in
    let body = same_body g.S.FrameSeat.view c.count_run-pages.new.space c.args.space.now n.reads.view n.reads.root n.reads.trapframe n.reads.layout in
    let again = same_body g.S.FrameSeat.view c.write_run.new.space c.count_run-pages.new.space w.reads.view w.reads.root w.reads.trapframe w.reads.layout in
    (r.0, r.1, rw (again, body) r.2)

pub drop_pages-requires-clause-low : goal.drop_pages-requires-clause-low
drop_pages-requires-clause-low g c =
    let r = c.requires.ready in
    let is = asked r.1 c.args.address c.args.length (run_of c.in_ok-run.run') (sym (c.in_ok-run.ensures r.1 r.2.lays r.2.sound.order)) in
    let run = run_of_mapping r.1 c.args.address c.args.length (run_of c.in_ok-run.run') is r.2.sound.order in
    let to = run.to in
    let low = run.low in
    let order = run.order in
    let same = ap trapframe_page (r.2.lays.scheme ∙ sym (ap (λ l. l.scheme) (c.write_run.ensures.reads.layout ∙ c.count_run-pages.ensures.reads.layout))) in
    omega (arith, order, to, low, same)

pub left-requires-clause-run : goal.left-requires-clause-run
left-requires-clause-run g c =
    let r = c.requires.ready in
    let is = asked r.1 c.args.address c.args.length (run_of c.in_ok-run.run') (sym (c.in_ok-run.ensures r.1 r.2.lays r.2.sound.order)) in
    (r.1, run_of_mapping r.1 c.args.address c.args.length (run_of c.in_ok-run.run') is r.2.sound.order)

pub left-requires-clause-whole : goal.left-requires-clause-whole
left-requires-clause-whole g c =
    let r = c.requires.ready in
    (asked r.1 c.args.address c.args.length (run_of c.in_ok-run.run') (sym (c.in_ok-run.ensures r.1 r.2.lays r.2.sound.order))).whole

pub returns-clause-unmapped : goal.returns-clause-unmapped
returns-clause-unmapped g c t p space =
    let n = c.count_run-pages.ensures in
    let w = c.write_run.ensures in
    let is = asked p c.args.address c.args.length (run_of c.in_ok-run.run') (sym (c.in_ok-run.ensures p space.lays space.sound.order)) in
    let run = run_of_mapping p c.args.address c.args.length (run_of c.in_ok-run.run') is space.sound.order in
    let body = same_body g.S.FrameSeat.view c.count_run-pages.new.space c.args.space.now n.reads.view n.reads.root n.reads.trapframe n.reads.layout in
    let again = same_body g.S.FrameSeat.view c.write_run.new.space c.count_run-pages.new.space w.reads.view w.reads.root w.reads.trapframe w.reads.layout in
    let counted : IsSpace (body_of g.S.FrameSeat.view c.count_run-pages.new.space) t p = rw body space in
    let here : IsSpace (body_of g.S.FrameSeat.view c.write_run.new.space) t p = rw (again, body) space in
    let dropped = c.drop_pages.ensures.dropped t p here in
    let laws = g.met.C.Files in
    let moved = laws.goes_on _ _ _ _ _ c.in_ok-promise.ensures.same (w.moves t p (space_in_call counted) run) in
    record {
      what = unmapped_from (g.C.Files.files c.args.files.now) p (region_of c.in_ok-run.run'.mapping) c.in_ok-run.run'.first c.in_ok-run.run'.end;
      is = is.is (g.C.Files.files c.args.files.now);
      tables = dropped.0;
      agrees = relaid_as p c.args.address c.args.length (run_of c.in_ok-run.run') is space.sound.order (option_map region_of c.left.result) c.left.ensures _ _ dropped.0 dropped.1 c.replace_mapping.ensures.agrees;
      drops = drops_asked p c.args.address c.args.length (run_of c.in_ok-run.run') is t dropped.0 dropped.2;
      files = laws.comes_to _ _ _ moved ∙ run_is_written (g.C.Files.files c.args.files.now) p (region_of c.in_ok-run.run'.mapping) c.in_ok-run.run'.first c.in_ok-run.run'.end;
    }

pub returns-clause-moves : goal.returns-clause-moves
returns-clause-moves g c t p space =
    let n = c.count_run-pages.ensures in
    let w = c.write_run.ensures in
    let ok = sym (c.in_ok-run.ensures p space.lays space.sound.order) in
    let is = asked p c.args.address c.args.length (run_of c.in_ok-run.run') ok in
    let run = run_of_mapping p c.args.address c.args.length (run_of c.in_ok-run.run') is space.sound.order in
    let body = same_body g.S.FrameSeat.view c.count_run-pages.new.space c.args.space.now n.reads.view n.reads.root n.reads.trapframe n.reads.layout in
    let counted : IsSpace (body_of g.S.FrameSeat.view c.count_run-pages.new.space) t p = rw body space in
    let moved = g.met.C.Files.goes_on _ _ _ _ _ c.in_ok-promise.ensures.same (w.moves t p (space_in_call counted) run) in
    subst (λ ms. g.C.Files.becomes c.args.files.now ms c.write_run.new.files) (sym (ap (requested_moves p) ok)) moved

pub returns-clause-keeps : goal.returns-clause-keeps
returns-clause-keeps g c others s = rw c.replace_mapping.ensures.seat (c.drop_pages.ensures.keeps others (c.write_run.ensures.keeps others (c.count_run-pages.ensures.keeps others s)))
