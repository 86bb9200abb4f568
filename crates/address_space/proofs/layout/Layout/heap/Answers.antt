use Rattle.std.proofs.Common.{◌≡◌, refl, sym, ap, ◌∙◌}
use Rattle.address_space.specs.Layouts.{Layout}
use Rattle.process_model.proofs.ReleaseLaws.{pages_for_is}
use Rattle.address_space.proofs.layout.Layout.heap.Goals as goal

pub returns : goal.returns
returns c p l =
    let base : p.heap_base ≡ c.self.inside.heap_base = l.heap_base ∙ sym (ap (λ (v : Layout). v.heap_base) c.self.view_is) in
    let size : p.size ≡ c.self.inside.size = l.size ∙ sym (ap (λ (v : Layout). v.size) c.self.view_is) in
    rw (base, size, c.saturating_sub.ensures, c.div_ceil.ensures, c.insert.ensures tt, pages_for_is c.self.inside.size) refl
