use Rattle.std.proofs.Common.{◌≡◌, [], ap, map, sym, ◌∙◌, subst, ◌<◌, ◌≤◌, arith}
use Rattle.address_space.specs.Layouts.{Layout, region_of}
use Rattle.process_model.specs.Bytes.{pages_for}
use Rattle.process_model.proofs.ReleaseLaws.{pages_for_is}
use Rattle.address_space.proofs.RegionEnds.{below_heap, below_mappings, heap_low, no_regions}
use Rattle.address_space.proofs.layout.Layout.end.Goals as goal
use Rattle.sv39_entry.specs.Schemes.{trapframe_page}

pub returns-then-is_empty-clause-low : goal.returns-then-is_empty-clause-low
returns-then-is_empty-clause-low c p l order =
    let size : p.size ≡ c.self.inside.size = l.size ∙ sym (ap (λ (v : Layout). v.size) c.self.view_is) in
    let end : c.div_ceil.result ≡ pages_for p.size = c.div_ceil.ensures ∙ pages_for_is c.self.inside.size ∙ ap pages_for (sym size) in
    rw end (heap_low p order)

pub returns-then-is_empty-clause-end : goal.returns-then-is_empty-clause-end
returns-then-is_empty-clause-end c p l order n r is =
    let size : p.size ≡ c.self.inside.size = l.size ∙ sym (ap (λ (v : Layout). v.size) c.self.view_is) in
    let end : c.div_ceil.result ≡ pages_for p.size = c.div_ceil.ensures ∙ pages_for_is c.self.inside.size ∙ ap pages_for (sym size) in
    let list : p.mappings ≡ map region_of c.self.inside.mappings.items = l.mappings ∙ sym (ap (λ (v : Layout). v.mappings) c.self.view_is) in
    let none : map region_of c.self.inside.mappings.items ≡ [] = no_regions c.self.inside.mappings.items (sym c.is_empty.ensures ∙ c.if-is_empty.true) in
    rw end (below_heap p order (list ∙ none) n r is)

pub returns-else-is_empty-clause-end : goal.returns-else-is_empty-clause-end
returns-else-is_empty-clause-end c p l order n r is =
    let same : p.scheme ≡ c.self.inside.scheme = l.scheme ∙ sym (ap (λ (v : Layout). v.scheme) c.self.view_is) in
    let place : n < trapframe_page c.self.inside.scheme = subst (λ z. n < trapframe_page z) same (below_mappings p order n r is) in
    omega (arith, place, c.number.ensures.value, c.page.ensures.number, c.trapframe.ensures)

pub returns-else-is_empty-clause-low : goal.returns-else-is_empty-clause-low
returns-else-is_empty-clause-low c p l order =
    let same : p.scheme ≡ c.self.inside.scheme = l.scheme ∙ sym (ap (λ (v : Layout). v.scheme) c.self.view_is) in
    subst (λ z. c.number.result ≤ trapframe_page z) (sym same) (omega (arith, c.number.ensures.value, c.page.ensures.number, c.trapframe.ensures))
