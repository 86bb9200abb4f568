use Rattle.std.proofs.Common.{◌≡◌, ◌↔◌, ◌∙◌, ap, not, subst, sym, true}
use Rattle.address_space.specs.Layouts.{region_of}
use Rattle.address_space.specs.declared.space.Space.{Space}
use Rattle.hart_calls.specs.Track.{Track}
use Rattle.hart_calls.specs.TurnCases.{HasMapping}
use Rattle.hart_calls.proofs.There.{has_mapping_is}
use Rattle.shared_frames.specs.declared.seat.SharedSeat.{SharedSeat}
use Rattle.hart_calls.proofs.tracked.Tracked.has_mapping.Goals as goal

pub returns : goal.returns
returns g c =
    let lays = c.self.invariant.1.1.lays in
    subst (λ (t : Track). (not c.is_empty.result ≡ true) ↔ HasMapping t.state.mappings) c.self.view_is
    (has_mapping_is region_of c.mappings.result.now c.self.inside.parts.present.state.mappings c.is_empty.result c.is_empty.ensures (c.mappings.ensures ∙ ap (λ (s : Space SharedSeat). s.layout.mappings) c.deref.ensures ∙ sym lays.mappings))
