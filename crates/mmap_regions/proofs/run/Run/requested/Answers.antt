use Rattle.std.proofs.Common.{◌+◌, arith}
use Rattle.mmap_regions.proofs.Around.{around_low, found_around}
use Rattle.sv39_entry.specs.Schemes.{of_scheme}
use Rattle.mmap_regions.proofs.run.Run.requested.Goals as goal

pub overflow_mul-end : goal.overflow_mul-end
overflow_mul-end c =
    let r = c.requires.order in
    let around = found_around r.0 c.args.layout.now c.mappings.result.now c.number-2.result (c.number.result + c.div_ceil.result) c.mapping_around.result c.in-Some.mapping r.1 c.mappings.ensures c.mapping_around.ensures c.in-Some.is in
    let low = around_low r.0 _ _ _ r.2 around in
    omega (arith, low.0, low.1, of_scheme r.0.scheme)
