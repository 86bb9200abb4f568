use Rattle.std.proofs.Common.{arith}
use Rattle.process_model.specs.Frames.{three_sizes, two_sizes}
use Rattle.address_space.specs.Parts.{numbers_of}
use Rattle.address_space.proofs.frame_need.frames_needed.Goals as goal

pub returns-in-Sv39 : goal.returns-in-Sv39
returns-in-Sv39 c =
    let tables = two_sizes c.args.scheme (numbers_of c.args.parts.now) c.in-Sv39.is in
    omega (arith, tables, c.page_count.ensures.count, c.tables_of_parts.ensures.count, c.tables_of_parts-2.ensures.count)

pub returns-in-Sv48 : goal.returns-in-Sv48
returns-in-Sv48 c =
    let tables = three_sizes c.args.scheme (numbers_of c.args.parts.now) c.in-Sv48.is in
    omega (arith, tables, c.page_count.ensures.count, c.tables_of_parts.ensures.count, c.tables_of_parts-2.ensures.count, c.tables_of_parts-in-Sv48.ensures.count)
