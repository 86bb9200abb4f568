use Rattle.std.proofs.Common.{◌≡◌, ℕ, zero, suc, false, None, [], refl, ap, ◌∙◌, map}
use Rattle.std.specs.Prelude.{replicate}
use Rattle.std.proofs.Math.Path.{fun_ext}
use Rattle.process_model.specs.declared.phase.Phase.TheVariants as phase
use Rattle.hart_machine.specs.Harts.{key_of}
use Rattle.hart_machine.specs.Slots.{marks_of}
use Rattle.hart_machine.proofs.hart.Hart.idle.Goals as goal
use Rattle.process_model.specs.declared.limits.TheConstants.{MOST_SLOTS}

none_marked : (k n : ℕ) → marks_of (replicate k false) n ≡ false
none_marked zero n = refl
none_marked (suc k) zero = refl
none_marked (suc k) (suc n) = none_marked k n

pub returns : goal.returns
returns c =
    let keys : map key_of c.new.result ≡ [] = ap (map key_of) c.new.ensures in
    let marks : marks_of c.empty.result ≡ (λ (n : ℕ). false) = ap marks_of c.empty.ensures ∙ fun_ext (none_marked MOST_SLOTS) in
    λ i. record { phase = phase.Idle; slot = None; keys = keys i; stale = marks i }
