use Rattle.std.proofs.Common.{◌∙◌, refl, subst, sym}
use Rattle.std.proofs.lemmas.Result.{err_from_is_err_and}
use Rattle.process_model.specs.ImageProcess.{process_of}
use Rattle.hart_machine.proofs.Executes.{for_frames}
use Rattle.hart_machine.proofs.slot_process.SlotProcess.exec.Goals as goal
use Rattle.address_space.specs.Agreement.{IsSpace, body_of}

pub returns-in_err-exec-clause-dry : goal.returns-in_err-exec-clause-dry
returns-in_err-exec-clause-dry c =
    let told = err_from_is_err_and c.from_residual.result c.from_residual.ensures.1 in
    let r = c.requires.ready in
    let e = c.in_err-exec.ensures in
    let only = for_frames _ (e.refused r.0 r.1 r.2.agrees) in
    rw told.1 (told.2 ∙ only, e.short tt only)

pub returns-in_err-exec-clause-whole : goal.returns-in_err-exec-clause-whole
returns-in_err-exec-clause-whole c =
    let told = err_from_is_err_and c.from_residual.result c.from_residual.ensures.1 in
    rw told.1 (λ t p slot_process. record {
      agrees = c.in_err-exec.ensures.whole t p slot_process.agrees;
      framed = rw c.exec.ensures.trapframe slot_process.framed;
      pending = slot_process.pending;
      wide = slot_process.wide;
    })

pub returns-clause-executed : goal.returns-clause-executed
unfolding process_of
returns-clause-executed c = λ t p slot_process.
    let e = c.in_ok-exec.ensures in
    record {
      tables = e.replaced.0;
      slot_process = λ fresh. record {
        agrees = subst (λ k. IsSpace (body_of (λ v. v) c.exec.new.space) e.replaced.0 (process_of k fresh c.args.image.now.loads)) (c.requires.scheme ∙ sym slot_process.agrees.lays.scheme) (e.replaced.1 fresh);
        framed = rw c.exec.ensures.trapframe slot_process.framed;
        pending = refl;
        wide = tt;
      };
      alone = e.replaced.2;
      files = e.written t p slot_process.agrees;
    }
