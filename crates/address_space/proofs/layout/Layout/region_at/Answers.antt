use Rattle.std.proofs.Common.{◌∙◌, map, option_map, sym, ap}
use Rattle.process_model.specs.Regions as model
use Rattle.address_space.specs.Layouts.{Layout, region_of}
use Rattle.address_space.proofs.Found.{heap_found, mapping_found, part_found}
use Rattle.address_space.proofs.layout.Layout.region_at.Goals as goal

pub returns-in-Some : goal.returns-in-Some
returns-in-Some c p l =
    let parts = l.parts ∙ sym (ap (λ (v : Layout). v.parts) c.self.view_is) in
    let slice = ap (λ items. model.region_at (map region_of items) c.args.page) (sym c.deref.ensures.0) in
    part_found p _ c.args.page parts _ (slice ∙ sym c.find_region.ensures ∙ ap (option_map region_of) c.in-Some.is)

pub returns-then-holds_page : goal.returns-then-holds_page
returns-then-holds_page c p l =
    let parts = l.parts ∙ sym (ap (λ (v : Layout). v.parts) c.self.view_is) in
    let slice = ap (λ items. model.region_at (map region_of items) c.args.page) (sym c.deref.ensures.0) in
    heap_found p _ c.args.page parts (slice ∙ sym c.find_region.ensures ∙ ap (option_map region_of) c.in_default.is) _ (c.heap-heap.ensures p l)
    (sym c.holds_page.ensures ∙ c.if-holds_page.true)

pub returns : goal.returns
returns c p l =
    let parts = l.parts ∙ sym (ap (λ (v : Layout). v.parts) c.self.view_is) in
    let mappings = l.mappings ∙ sym (ap (λ (v : Layout). v.mappings) c.self.view_is) in
    let slice = ap (λ items. model.region_at (map region_of items) c.args.page) (sym c.deref.ensures.0) in
    let rest = ap (λ items. model.region_at (map region_of items) c.args.page) c.deref-2.ensures.0 in
    mapping_found p _ c.args.page parts (slice ∙ sym c.find_region.ensures ∙ ap (option_map region_of) c.in_default.is) _ (c.heap-heap.ensures p l) _
    (sym c.holds_page.ensures ∙ c.if-holds_page.false) (c.find_region-2.ensures ∙ rest ∙ ap (λ rs. model.region_at rs c.args.page) (sym mappings))
