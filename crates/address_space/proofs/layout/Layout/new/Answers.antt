use Rattle.std.proofs.Common.{◌+◌, ap, sym, ◌∙◌, length}
use Rattle.std.proofs.lemmas.List.{length_push}
use Rattle.address_space.proofs.NeededParts.{last_more, region_more}
use Rattle.address_space.proofs.layout.Layout.new.Goals as goal

pub parts-preserved : goal.parts-preserved
parts-preserved c =
    let i = c.parts.invariant in
    record {
      list = region_more c.args.parts.now c.parts.part-index _ c.parts-test.true c.parts.list.items c.push.new.self.items c.push.ensures.items i.list;
      count = ap length c.push.ensures.items ∙ length_push c.parts.list.items _ ∙ ap (λ n. n + 1) i.count;
      last = sym (last_more c.args.parts.now c.parts.part-index _ c.parts-test.true);
      low = c.requires.low c.parts.part-index _ c.parts-test.true;
    }
