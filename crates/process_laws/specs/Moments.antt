-- `Moment`: a record of one step of a run, its reply, and the worlds (the model's whole state) before and after it. Then the
-- moments that the model makes of a step and of a list of steps (`moment_of`, `moments_from`), and the slot of the process on
-- a hart (`slot_on`).
use Rattle.std.specs.Prelude.{ℕ, Option, None, Some, List, [], ◌∷◌, slice_get}
use Rattle.process_model.specs.Harts.{Hart}
use Rattle.process_model.specs.Steps.{step}
use Rattle.process_model.specs.World.{World}
use Rattle.process_model.specs.declared.reply.Reply.{Reply}
use Rattle.process_model.specs.declared.step.Step.{Step}

-- one step of a run, with its reply and the worlds before and after it
pub record Moment : Type 0 where
  pub before : World
  pub step : Step
  pub reply : Reply
  pub after : World

-- the moment of step x in world w, with the reply of the model
abbrev pub moment_of : World → Step → Moment
moment_of w x = let o = step w x in record { before = w; step = x; reply = o.reply; after = o.world }

-- the moments of a run from world w on, the newest first, and after them those of the past
abbrev pub moments_from : List Moment → World → List Step → List Moment
moments_from past w [] = past
moments_from past w (x ∷ xs) = let m = moment_of w x in moments_from (m ∷ past) m.after xs

-- the slot of the process on a hart, if it has one

abbrev pub slot_at : Option Hart → Option ℕ
slot_at None = None
slot_at (Some hart) = hart.slot

abbrev pub slot_on : World → ℕ → Option ℕ
slot_on w h = slot_at (slice_get w.harts h)
