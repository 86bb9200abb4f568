use Rattle.std.proofs.Common.{arith, refl, sym, subst}
use Rattle.address_space.specs.Agreement.{body_of, IsSpace}
use Rattle.process_model.specs.Process.{Process}
use Rattle.shared_frames.specs.SeatsOfTable.{view_of}
use Rattle.hart_calls.proofs.tracked.Tracked.new.Goals as goal

pub invariant_of-result : goal.invariant_of-result
invariant_of-result g c =
    rw c.new.ensures.items (
      c.requires.fits,
      (c.requires.agrees.0, subst (λ (p : Process). IsSpace (body_of view_of c.args.space.value) c.requires.agrees.0 p) (sym c.begun-present.ensures) c.requires.agrees.1),
      c.begun-present.ensures,
      c.requires.named,
      c.requires.there,
      omega arith,
      refl,
    )
