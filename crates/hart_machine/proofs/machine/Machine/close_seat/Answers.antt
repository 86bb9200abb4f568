use Rattle.std.proofs.Common.{◌≡◌, ap, ◌∙◌, sym, subst}
use Rattle.frame_store.specs.Holds.{size-released}
use Rattle.frame_store.specs.Laws.{IsAnchored}
use Rattle.frame_store.specs.View.{View, released}
use Rattle.hart_machine.proofs.StartSeats.{closed_anchored, closed_kernel}
use Rattle.hart_machine.proofs.machine.Machine.close_seat.Goals as goal

pub release-requires-clause-anchored : goal.release-requires-clause-anchored
release-requires-clause-anchored c = subst (λ (u : View). IsAnchored (released 0 u)) (sym c.join.ensures.view) (closed_anchored c.args.self.now.kernel.seat c.args.seat c.requires.code c.requires.seat)

pub returns-clause-kernel : goal.returns-clause-kernel
returns-clause-kernel c = closed_kernel c.args.self.now.kernel.seat c.args.seat c.requires.code c.requires.seat c.release.new.seat (subst (λ (u : View). c.release.new.seat ≡ released 0 u) c.join.ensures.view c.release.ensures.view) c.args.self.now.kernel.scheme c.args.self.now.kernel.root.0

pub returns-clause-size : goal.returns-clause-size
returns-clause-size c = ap (λ (v : View). v.size) c.release.ensures.view ∙ size-released 0 _ ∙ ap (λ (v : View). v.size) c.join.ensures.view
