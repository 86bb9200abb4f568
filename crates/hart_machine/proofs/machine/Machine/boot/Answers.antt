use Rattle.std.proofs.Common.{[], ap, refl, subst, sym, ◌∙◌}
use Rattle.address_space.specs.Agreement.{HoldsTrampoline}
use Rattle.frame_store.specs.Plain.{kept_size}
use Rattle.frame_store.specs.View.{View}
use Rattle.hart_machine.proofs.BootWorld.{boots_in, few_slots}
use Rattle.hart_machine.proofs.StartedSeats.{opening_holds}
use Rattle.hart_machine.proofs.machine.Machine.boot.Goals as goal

pub build-requires-clause-opening : goal.build-requires-clause-opening
build-requires-clause-opening c = subst (λ (v : View). HoldsTrampoline v) (sym c.in_ok-frames.ensures.seat) (opening_holds c.args.config.frames)

pub returns-clause-booted : goal.returns-clause-booted
returns-clause-booted c =
    let built = c.in-Ok.ensures.built in
    let opened = c.in_ok-frames.ensures in
    let sized = kept_size _ _ _ _ [] c.in-Ok.ensures.keeps opened.invariant ∙ ap (λ (v : View). v.size) opened.seat in
    boots_in _ c.args.config c.args.files refl c.in-Ok.ensures.scheme (few_slots c.args.config (sym c.is_bootable.ensures ∙ c.if-not-is_bootable.false)) sized built.0 built.1 built.2 (c.in-Ok.ensures.keeps [] c.in_ok-frames.ensures.invariant) c.in_ok-slots.ensures.slots
    c.in_ok-harts.ensures.harts refl
