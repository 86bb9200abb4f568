use Rattle.std.proofs.Common.{◌∙◌, arith}
use Rattle.address_space.proofs.KernelFrames.{same_references}
use Rattle.address_space.proofs.KernelTables.{reserved}
use Rattle.address_space.proofs.kernel.KernelTable.build.Goals as goal

pub new_root-root-requires-clause-once : goal.new_root-root-requires-clause-once
new_root-root-requires-clause-once g c = same_references _ _ _ c.in_default.ensures.ok 0 ∙ c.requires.opening.once

pub new_root-root-requires-clause-bare : goal.new_root-root-requires-clause-bare
new_root-root-requires-clause-bare g c f other = same_references _ _ _ c.in_default.ensures.ok f ∙ c.requires.opening.others f other

pub map_stacks-requires-clause-ready : goal.map_stacks-requires-clause-ready
map_stacks-requires-clause-ready g c =
    let root = c.new_root-root.ensures in
    let had = reserved c.args.scheme _ _ _ c.args.frames c.args.slots c.in_default.ensures.ok c.need.ensures (omega (arith, c.requires.some_frames)) c.requires.opening.credits in
    let spent = root.spends.credits in
    (root.mapped.0, root.mapped.1, omega (arith, had, spent))

pub map_frames-requires-clause-ready : goal.map_frames-requires-clause-ready
map_frames-requires-clause-ready g c =
    let root = c.new_root-root.ensures in
    let stacks = c.map_stacks.ensures.mapped root.mapped.0 root.mapped.1 in
    let had = reserved c.args.scheme _ _ _ c.args.frames c.args.slots c.in_default.ensures.ok c.need.ensures (omega (arith, c.requires.some_frames)) c.requires.opening.credits in
    let spent = root.spends.credits in
    let more = c.map_stacks.ensures.spends.credits in
    (stacks.0, stacks.1, stacks.2, omega (arith, had, spent, more))

pub returns-clause-built : goal.returns-clause-built
returns-clause-built g c =
    let root = c.new_root-root.ensures in
    let stacks = c.map_stacks.ensures.mapped root.mapped.0 root.mapped.1 in
    let frames = c.map_frames.ensures.mapped stacks.0 stacks.1 stacks.2 in
    let had = reserved c.args.scheme _ _ _ c.args.frames c.args.slots c.in_default.ensures.ok c.need.ensures (omega (arith, c.requires.some_frames)) c.requires.opening.credits in
    let spent = root.spends.credits in
    let more = c.map_stacks.ensures.spends.credits in
    let last = c.map_frames.ensures.spends.credits in (
      stacks.0,
      frames.0,
      record {
        maps = frames.1;
        stacked = stacks.3;
        few_frames = c.requires.few_frames;
        few_slots = c.requires.few_slots;
        credits = omega (arith, had, spent, more, last);
      },
    )
