use Rattle.std.proofs.Common.{sym, ◌∙◌}
use Rattle.address_space.proofs.Relaid.{relaid}
use Rattle.address_space.proofs.space.Space.set_size.Goals as goal

pub returns-clause-agrees : goal.returns-clause-agrees
returns-clause-agrees g c t p agrees can =
    let set = c.set_size.ensures in
    let lays = agrees.lays in
    relaid _ _ _ _ _ t p _ agrees can
    (record { parts = lays.parts ∙ sym set.parts; mappings = lays.mappings ∙ sym set.mappings; heap_base = lays.heap_base ∙ sym set.heap_base; size = sym set.size; scheme = lays.scheme ∙ sym set.scheme })
