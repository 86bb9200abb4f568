use Rattle.std.proofs.Common.{ap, sym, ◌∙◌}
use Rattle.std.specs.Prelude.{option_map, option_to_list}
use Rattle.process_model.specs.Mappings.{with_instead}
use Rattle.address_space.specs.Layouts.{region_of}
use Rattle.address_space.proofs.Relaid.{relaid}
use Rattle.address_space.proofs.space.Space.replace_mapping.Goals as goal

pub returns-clause-agrees : goal.returns-clause-agrees
returns-clause-agrees g c t p agrees can =
    let set = c.replace_mapping.ensures in
    let lays = agrees.lays in
    relaid _ _ _ _ _ t p _ agrees can record {
      parts = lays.parts ∙ sym set.parts;
      mappings = ap (λ xs. with_instead xs c.args.first (option_to_list (option_map region_of c.args.rest))) lays.mappings ∙ sym set.mappings;
      heap_base = lays.heap_base ∙ sym set.heap_base;
      size = lays.size ∙ sym set.size;
      scheme = lays.scheme ∙ sym set.scheme;
    }
