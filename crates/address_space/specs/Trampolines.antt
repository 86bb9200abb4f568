-- A law: a seat that holds the trampoline's frame once, no other frame and no credits, is still such a one after a
-- reservation was refused.
use Rattle.std.proofs.Common.{ℕ, ap, ◌∙◌}
use Rattle.frame_store.specs.Holds.{hold_of-frames}
use Rattle.frame_store.specs.Laws.{IsDry}
use Rattle.frame_store.specs.View.{Hold, View}
use Rattle.address_space.specs.Agreement.{HoldsTrampoline}

-- a seat whose reservation was refused holds what it held
pub dry_holds : (n : ℕ) (v w : View) → IsDry n v w → HoldsTrampoline v → HoldsTrampoline w
dry_holds n v w dry holds = record {
  once = ap (λ (h : Hold). h.references) (hold_of-frames w v dry.frames 0) ∙ holds.once;
  others = λ f apart. ap (λ (h : Hold). h.references) (hold_of-frames w v dry.frames f) ∙ holds.others f apart;
  credits = dry.credits ∙ holds.credits;
}
