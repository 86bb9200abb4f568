use Rattle.std.proofs.Common.{◌≡◌, ◌+◌, ◌∙◌, None, ap, refl, sym}
use Rattle.std.specs.Prelude.{Err}
use Rattle.std.proofs.lemmas.Result.{err_from_is_err_and}
use Rattle.address_space.proofs.PendingAccess.{agrees_pending}
use Rattle.hart_machine.proofs.MarkedCalls.{munmap_changes, munmap_keeps}
use Rattle.hart_machine.proofs.Released.{ceil, tells}
use Rattle.hart_machine.proofs.Watched.{same_tenant}
use Rattle.process_model.specs.Bytes.{pages_for}
use Rattle.process_model.specs.Process.{without_pending}
use Rattle.sv39_entry.specs.Address.{page_of}
use Rattle.hart_machine.proofs.Mapping.{refused_by_model}
use Rattle.hart_machine.proofs.slot_process.SlotProcess.munmap.Goals as goal

pub munmap-requires-clause-fits : goal.munmap-requires-clause-fits
munmap-requires-clause-fits c = let h = c.has_settled-released.ensures in rw (h.frames, h.same) c.requires.fits

pub munmap-requires-clause-ready : goal.munmap-requires-clause-ready
munmap-requires-clause-ready c = let r = c.requires.ready in (r.0, r.1, rw c.has_settled-released.ensures.same r.2.agrees)

pub returns-in_err-munmap-clause-refused : goal.returns-in_err-munmap-clause-refused
returns-in_err-munmap-clause-refused c =
    let told = err_from_is_err_and c.from_residual.result c.from_residual.ensures.1 in
    rw told.1 (λ t p slot_process. refused_by_model _ _ _ _ _ (c.in_err-munmap.ensures.refused t p (rw c.has_settled-released.ensures.same slot_process.agrees)) ∙ ap Err (sym told.2))

pub returns-in_err-munmap-clause-stays : goal.returns-in_err-munmap-clause-stays
returns-in_err-munmap-clause-stays c =
    let told = err_from_is_err_and c.from_residual.result c.from_residual.ensures.1 in
    let x = c.has_settled-released.new.self in
    let e = c.munmap.ensures in
    let r = c.in_err-munmap.ensures in
    rw told.1 (same_tenant x c.munmap.new.space r.stays.view e.root e.trapframe r.stays.layout ∙ c.has_settled-released.ensures.same)

pub returns-clause-unmapped : goal.returns-clause-unmapped
returns-clause-unmapped c = λ t p slot_process.
    let same = c.has_settled-released.ensures.same in
    let u = c.in_ok-munmap.ensures.unmapped t p (rw same slot_process.agrees) in
    record {
      what = u.what;
      is = u.is;
      tables = u.tables;
      slot_process = record {
        agrees = agrees_pending _ _ _ _ _ u.what.process u.agrees None;
        framed = rw (c.munmap.ensures.trapframe, same) slot_process.framed;
        pending = refl;
        wide = tt;
      };
      drops = u.drops;
      files = u.files;
    }

pub returns-clause-changed : goal.returns-clause-changed
returns-clause-changed c = λ t p slot_process u is.
    let h = c.has_settled-released in
    let files = c.args.files.now in
    let address = c.args.address in
    let len = c.args.length in
    let first : c.number-first.result ≡ page_of address = c.number-first.ensures.value ∙ c.page.ensures.number in
    let end : c.number-first.result + c.div_ceil.result ≡ page_of address + pages_for len = λ i. first i + (c.div_ceil.ensures ∙ ceil len) i in
    tells p (without_pending u.process) (page_of address) (page_of address + pages_for len) c.number-first.result (c.number-first.result + c.div_ceil.result) first end
    (munmap_changes files p address len u is) (munmap_keeps files p address len u is)
    h.result (λ b. h.ensures.some b t p slot_process) (λ b. h.ensures.none b t p slot_process)

pub returns-clause-keeps : goal.returns-clause-keeps
returns-clause-keeps c others r = let h = c.has_settled-released.ensures in c.munmap.ensures.keeps others (rw (h.frames, h.same) r)
