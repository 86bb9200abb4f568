use Rattle.std.proofs.Common.{◌≡◌, [], ◌∷◌, ◌<◌, ap, arith, length, refl, sym, subst, ◌∙◌, Err}
use Rattle.std.proofs.lemmas.Option.{same_Some}
use Rattle.std.proofs.lemmas.Result.{err_from_is_err_and}
use Rattle.address_space.specs.Agreement.{body_of}
use Rattle.address_space.specs.Layouts.{region_of}
use Rattle.fault_rules.specs.MadeResident.{CanMakeResident, resident_reads}
use Rattle.fault_rules.proofs.FirstResidence.{first_moves}
use Rattle.fault_rules.proofs.Services.{made_ready, ran_dry, refused}
use Rattle.fault_rules.proofs.Sources.{file_begins, file_moves, padded_whole}
use Rattle.process_model.specs.Files.{file_page}
use Rattle.process_model.specs.PageMoves.{page_read}
use Rattle.process_model.specs.Process.{Process}
use Rattle.table_walk.specs.Tables.{Tables}
use Rattle.fault_rules.proofs.residence.settle_from_file.Given as given
use Rattle.fault_rules.proofs.residence.settle_from_file.Goals as goal
use Rattle.fault_rules.proofs.residence.settle_from_file.Goals.{Start}

-- what is read for the page
reads : (g : given.Over) (c : Start g) (t : Tables) (p : Process) → CanMakeResident (body_of g.S.FrameSeat.view c.args.space.now) t p c.args.access c.args.page
    → page_read c.args.file c.args.at (file_page (g.C.Files.files c.args.files.now) c.args.file c.args.at) ∷ [] ≡ resident_reads (g.C.Files.files c.args.files.now) p c.args.page
reads g c t p can =
    let s = c.requires.source in
    let files = g.C.Files.files c.args.files.now in
    let is = same_Some _ _ (sym (c.requires.region t p can.agrees) ∙ can.in_region) in
    sym (file_moves files (region_of c.args.region.now) c.args.file s.0 c.args.at c.args.page s.1 s.2)
    ∙ first_moves can (c.requires.unsettled t p can.agrees) files (region_of c.args.region.now) c.args.page is refl

pub returns-in_err-promise : goal.returns-in_err-promise
returns-in_err-promise g c =
    let at = (goal.at.returns-in_err-promise g c).Start in
    let told = err_from_is_err_and c.from_residual.result c.from_residual.ensures.1 in
    record {
      served = refused _ _ _ _ _ c.requires.ready _ _ (told.1 ∙ ap Err told.2) c.in_err-promise.ensures.refused (λ t p can. subst (λ ms. 0 < length ms) (reads g at t p can) (omega arith))
          (record { layout = refl; view = refl; store = refl }) c.promise.ensures.same (record { root = refl; trapframe = refl; layout = refl }) (λ others r. r);
    }

pub returns-in_err-settle_bytes : goal.returns-in_err-settle_bytes
returns-in_err-settle_bytes g c =
    let at = (goal.at.returns-in_err-settle_bytes g c).Start in
    let same = g.met.C.Files.comes_to _ _ _ c.in_ok-promise.ensures.same in
    let moved = rw same at (g.met.C.Files.goes_on _ _ _ _ _ c.in_ok-promise.ensures.same c.in-Some.ensures.moves) in
    let told = err_from_is_err_and c.from_residual-in_err-settle_bytes.result c.from_residual-in_err-settle_bytes.ensures.1 in
    let settled = c.in_err-settle_bytes.ensures in
    record {
      served = ran_dry _ _ _ _ _ c.requires.ready _ (told.1 ∙ ap Err told.2) settled.dry settled.whole
          (λ t p can. subst (λ ms. g.C.Files.becomes c.args.files.now ms c.promise.new.self) (reads g at t p can) moved) settled.short settled.free settled.place settled.keeps;
    }

pub returns-in-Some : goal.returns-in-Some
returns-in-Some g c =
    let at = (goal.at.returns-in-Some g c).Start in
    let s = c.requires.source in
    let files = g.C.Files.files c.args.files.now in
    let same = g.met.C.Files.comes_to _ _ _ c.in_ok-promise.ensures.same in
    let moved = rw same at (g.met.C.Files.goes_on _ _ _ _ _ c.in_ok-promise.ensures.same c.in-Some.ensures.moves) in
    let begins = rw same at c.in-Some.ensures.bytes in
    let settled = c.in_ok-settle_bytes.ensures in
    record {
      served = made_ready _ _ _ _ _ c.requires.ready _ refl
          (settled.resident files (begins ∙ sym (file_begins files (region_of c.args.region.now) c.args.file s.0 c.args.at c.args.page s.1 s.2)))
          (λ t p can. subst (λ ms. g.C.Files.becomes c.args.files.now ms c.promise.new.self) (reads g at t p can) moved) (λ alone t p shared can told. settled.enough alone t p shared can told refl) settled.free settled.place settled.keeps;
    }

pub returns-in_err-settle_bytes-2 : goal.returns-in_err-settle_bytes-2
returns-in_err-settle_bytes-2 g c =
    let at = (goal.at.returns-in_err-settle_bytes-2 g c).Start in
    let same = g.met.C.Files.comes_to _ _ _ c.in_ok-promise.ensures.same in
    let moved = rw same at (g.met.C.Files.goes_on _ _ _ _ _ c.in_ok-promise.ensures.same c.read_page.ensures.moves) in
    let told = err_from_is_err_and c.from_residual-in_err-settle_bytes-2.result c.from_residual-in_err-settle_bytes-2.ensures.1 in
    let settled = c.in_err-settle_bytes-2.ensures in
    record {
      served = ran_dry _ _ _ _ _ c.requires.ready _ (told.1 ∙ ap Err told.2) settled.dry settled.whole
          (λ t p can. subst (λ ms. g.C.Files.becomes c.args.files.now ms c.read_page.new.self) (reads g at t p can) moved) settled.short settled.free settled.place settled.keeps;
    }

pub returns : goal.returns
returns g c =
    let at = (goal.at.returns g c).Start in
    let s = c.requires.source in
    let files = g.C.Files.files c.args.files.now in
    let same = g.met.C.Files.comes_to _ _ _ c.in_ok-promise.ensures.same in
    let moved = rw same at (g.met.C.Files.goes_on _ _ _ _ _ c.in_ok-promise.ensures.same c.read_page.ensures.moves) in
    let begins = rw same at c.read_page.ensures.bytes in
    let settled = c.in_ok-settle_bytes-2.ensures in
    record {
      served = made_ready _ _ _ _ _ c.requires.ready _ refl
          (settled.resident files (padded_whole c.read_page.new.bytes c.read_page.array_long ∙ begins ∙ sym (file_begins files (region_of c.args.region.now) c.args.file s.0 c.args.at c.args.page s.1 s.2)))
          (λ t p can. subst (λ ms. g.C.Files.becomes c.args.files.now ms c.read_page.new.self) (reads g at t p can) moved) (λ alone t p shared can told. settled.enough alone t p shared can told refl) settled.free settled.place settled.keeps;
    }
