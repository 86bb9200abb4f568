-- What the search left open of `frames_for`.
use Rattle.std.proofs.Common.{ap, ◌∙◌}
use Rattle.run_roster.specs.StartFrames.{loads_need}
use Rattle.process_model.specs.Frames.{start_need}
use Rattle.sv39_entry.specs.declared.scheme.Scheme.{Scheme}
use Rattle.run_roster.proofs.seats.frames_for.Goals as goal

pub returns-in-Ok : goal.returns-in-Ok
returns-in-Ok c = c.start_frames.ensures ∙ (ap (λ (z : Scheme). start_need z c.in-Ok.image.loads) c.in-Ok.ensures.scheme ∙ ap loads_need c.in-Ok.ensures.loads)

pub returns-in-Err : goal.returns-in-Err
returns-in-Err c = ap loads_need c.in-Err.ensures.loads
