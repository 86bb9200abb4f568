use Rattle.std.proofs.Common.{◌≡◌, ◌∙◌, Result, Ok, Err, ap, refl, subst, sym}
use Rattle.std.specs.Prelude.{IfOk}
use Rattle.address_space.specs.Agreement.{body_of}
use Rattle.address_space.specs.Parts.{OwnsAlone}
use Rattle.exec_segments.specs.Loads.{JudgedLoads, loads_in}
use Rattle.hart_calls.proofs.Answered.{came_bad, came_exec}
use Rattle.hart_calls.proofs.calls.exec.Goals as goal
use Rattle.process_model.specs.Images.{image_loads}
use Rattle.process_model.specs.declared.image.BadImage.{BadImage}
use Rattle.sv39_entry.specs.declared.scheme.Scheme.{Scheme}

-- an image that was judged for a scheme has it
of_scheme : (r : Result JudgedLoads BadImage) (i : JudgedLoads) (z : Scheme) → r ≡ Ok i → IfOk r (λ j. j.scheme ≡ z) → i.scheme ≡ z
of_scheme r i z is told = subst (λ (s : Result JudgedLoads BadImage). IfOk s (λ j. j.scheme ≡ z)) is told

pub exec-requires-clause-scheme : goal.exec-requires-clause-scheme
exec-requires-clause-scheme g c = of_scheme c.judged.result c.in-Ok.image c.scheme-scheme.result c.in-Ok.is c.judged.ensures.scheme ∙ c.scheme-scheme.ensures

pub returns-in-Ok-clause-call_result : goal.returns-in-Ok-clause-call_result
returns-in-Ok-clause-call_result g c = λ t p space.
    let e = c.exec.ensures in
    let same = space.lays.scheme ∙ sym c.scheme-scheme.ensures in
    let judged = of_scheme c.judged.result c.in-Ok.image c.scheme-scheme.result c.in-Ok.is c.judged.ensures.scheme in
    rw c.done.ensures (came_exec (body_of g.S.FrameSeat.view c.args.space.now) (body_of g.S.FrameSeat.view c.exec.new.space) _ _ _ _ _ t p c.args.image c.in-Ok.image.loads (subst (λ (z : Scheme). image_loads z c.args.image ≡ Ok c.in-Ok.image.loads) (sym same) (sym c.judged.ensures.loads ∙ ap loads_in c.in-Ok.is)) (λ n e could. (g.met.C.Files.asks c.args.files.now n e could, (c.args.files.now, e, g.met.C.Files.stays c.args.files.now, could, refl))) (OwnsAlone (g.S.FrameSeat.view c.exec.new.space.seat)) c.in-Ok.image.scheme (same ∙ sym judged) c.exec.result e.replaced e.moves e.refused e.dry e.promised e.whole e.files_stay space)

pub returns-in-Err-clause-call_result : goal.returns-in-Err-clause-call_result
returns-in-Err-clause-call_result g c = rw c.scalar.ensures (λ t p space.
    let same = space.lays.scheme ∙ sym c.scheme-scheme.ensures in
    came_bad (body_of g.S.FrameSeat.view c.args.space.now) (body_of g.S.FrameSeat.view c.args.space.now) (g.C.Files.files c.args.files.now) _ (g.C.Files.can_refuse c.args.files.now) _ _ t p c.args.image c.in-Err.part (subst (λ (z : Scheme). image_loads z c.args.image ≡ Err c.in-Err.part) (sym same) (sym c.judged.ensures.loads ∙ ap loads_in c.in-Err.is)) space (g.met.C.Files.stays c.args.files.now))
