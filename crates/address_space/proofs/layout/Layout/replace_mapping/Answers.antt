use Rattle.std.proofs.Common.{◌≡◌, ◌<◌, length, length-set, map, slice_set, ap, sym, ◌∙◌, arith}
use Rattle.std.specs.List.{refill}
use Rattle.std.specs.Prelude.{remove}
use Rattle.address_space.specs.Layouts.{region_of}
use Rattle.address_space.proofs.MappingLists.{mapping_changed, mapping_gone, all_refilled, none_begins, place_within, places_before}
use Rattle.address_space.proofs.layout.Layout.replace_mapping.Goals as goal
use Rattle.address_space.proofs.layout.Layout.replace_mapping.Goals.{After-count_others-place, Else-place-len}

place_is : (c : After-count_others-place) → c.count_others-place.result ≡ places_before c.args.first c.self.inside.mappings.items
place_is c = c.count_others-place.ensures ∙ ap (places_before c.args.first) c.as_slice.ensures.value

pub returns-then-place-len-clause-mappings : goal.returns-then-place-len-clause-mappings
returns-then-place-len-clause-mappings c =
    let place = place_is (goal.at.returns-then-place-len-clause-mappings c).After-count_others-place in
    rw (← c.self.view_is) (none_begins c.self.inside.mappings.items c.args.first _ (sym place ∙ c.if-place-len.true ∙ c.len.ensures.value))

pub remove-requires : goal.remove-requires
remove-requires c =
    let place = place_is (goal.at.remove-requires c).After-count_others-place in
    let within = place_within c.self.inside.mappings.items c.args.first in
    (omega arith, omega (arith, c.if-place-len.false, c.len.ensures.value, place, within))

pub returns-in_default-clause-mappings : goal.returns-in_default-clause-mappings
returns-in_default-clause-mappings c =
    let place = place_is (goal.at.returns-in_default-clause-mappings c).After-count_others-place in
    let within = place_within c.self.inside.mappings.items c.args.first in
    let less : places_before c.args.first c.self.inside.mappings.items < length c.self.inside.mappings.items = omega (arith, c.if-place-len.false, c.len.ensures.value, place, within) in
    rw (← c.self.view_is, c.in_default.is)
    (ap (map region_of) (c.remove.ensures.items ∙ ap (remove c.self.inside.mappings.items) place) ∙ mapping_gone c.self.inside.mappings.items c.args.first less)

pub offset_bounds-deref_mut-place : goal.offset_bounds-deref_mut-place
offset_bounds-deref_mut-place c =
    let place = place_is (goal.at.offset_bounds-deref_mut-place c).After-count_others-place in
    let within = place_within c.self.inside.mappings.items c.args.first in
    omega (arith, place, within, c.len.ensures.value, c.len.ensures.fits)

pub bounds-deref_mut-place : goal.bounds-deref_mut-place
bounds-deref_mut-place c =
    let place = place_is (goal.at.bounds-deref_mut-place c).After-count_others-place in
    let within = place_within c.self.inside.mappings.items c.args.first in
    rw c.deref_mut.ensures.value (omega (arith, c.if-place-len.false, c.len.ensures.value, place, within))

pub returns-clause-mappings : goal.returns-clause-mappings
returns-clause-mappings c =
    let place = place_is (goal.at.returns-clause-mappings c).After-count_others-place in
    let items = c.self.inside.mappings.items in
    let within = place_within items c.args.first in
    let less : places_before c.args.first items < length items = omega (arith, c.if-place-len.false, c.len.ensures.value, place, within) in
    let written = ap (λ xs. slice_set xs c.count_others-place.result c.in-Some.region) c.deref_mut.ensures.value ∙ ap (λ k. slice_set items k c.in-Some.region) place in
    rw (← c.self.view_is, c.in-Some.is)
    (ap (map region_of) (ap (refill (length items) items) written ∙ all_refilled items _ (length-set items (places_before c.args.first items) c.in-Some.region))
    ∙ mapping_changed items c.args.first c.in-Some.region less)
