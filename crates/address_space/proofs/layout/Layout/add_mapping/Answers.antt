use Rattle.std.proofs.Common.{◌≡◌, map, ap, ◌∙◌, arith}
use Rattle.std.proofs.lemmas.List.{length-map}
use Rattle.std.specs.Prelude.{insert}
use Rattle.address_space.specs.Layouts.{region_of}
use Rattle.address_space.proofs.MappingLists.{mapping_added, places_up_to, room_within}
use Rattle.address_space.proofs.layout.Layout.add_mapping.Goals as goal
use Rattle.address_space.proofs.layout.Layout.add_mapping.Goals.{After-count_up_to-place}

place_is : (c : After-count_up_to-place) → c.count_up_to-place.result ≡ places_up_to c.args.mapping.first c.self.inside.mappings.items
place_is c = c.count_up_to-place.ensures ∙ ap (places_up_to c.args.mapping.first) c.as_slice.ensures.value

pub insert-requires : goal.insert-requires
insert-requires c =
    let place = place_is (goal.at.insert-requires c).After-count_up_to-place in
    let few = rw (← c.self.view_is) at c.requires.few in
    let same = length-map c.self.inside.mappings.items region_of in
    let within = room_within c.self.inside.mappings.items c.args.mapping.first in
    (omega arith, (omega (arith, place, within), omega (arith, few, same)))

pub returns-clause-mappings : goal.returns-clause-mappings
returns-clause-mappings c =
    let place = place_is (goal.at.returns-clause-mappings c).After-count_up_to-place in
    rw (← c.self.view_is)
    (ap (map region_of) (c.insert.ensures.items ∙ ap (λ k. insert c.self.inside.mappings.items k c.args.mapping) place)
    ∙ mapping_added c.self.inside.mappings.items c.args.mapping)
