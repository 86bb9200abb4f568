use Rattle.std.proofs.Common.{◌∙◌}
use Rattle.address_space.proofs.BuildWhole.{agrees_whole, can_open, credits_left, saved_whole, stands_bare, takes_whole}
use Rattle.address_space.proofs.space.Space.build_reserved.Goals as goal

pub open_tables-root-requires-clause-ready : goal.open_tables-root-requires-clause-ready
open_tables-root-requires-clause-ready g c = can_open c.args.scheme c.args.parts.now _ _ c.requires.seat c.requires.credits

pub fill_parts-requires-clause-ready : goal.fill_parts-requires-clause-ready
fill_parts-requires-clause-ready g c =
    let opened = c.open_tables-root.ensures.opened in
    (c.args.trapframe.0, opened.0, stands_bare c.args.scheme c.args.parts.now _ _ c.requires.seat c.requires.credits _ _ opened.0 opened.1)

pub fill_parts-requires-clause-credits : goal.fill_parts-requires-clause-credits
fill_parts-requires-clause-credits g c =
    let opened = c.open_tables-root.ensures.opened in
    credits_left c.args.scheme c.args.parts.now _ _ c.requires.seat c.requires.credits _ _ opened.0 opened.1

pub returns-clause-built : goal.returns-clause-built
returns-clause-built g c =
    let opened = c.open_tables-root.ensures.opened in
    let bare = stands_bare c.args.scheme c.args.parts.now _ _ c.requires.seat c.requires.credits _ _ opened.0 opened.1 in
    let filled = c.fill_parts.ensures.filled c.args.trapframe.0 opened.0 bare in (
      filled.0,
      agrees_whole c.args.scheme c.args.parts.now _ _ c.requires.seat c.requires.credits _ _ opened.0 opened.1 _ filled.0 filled.1 c.requires.parts c.new.result
          c.new.ensures.scheme c.new.ensures.parts c.new.ensures.mappings c.new.ensures.heap_base c.new.ensures.size,
      filled.1.after.alone,
    )

pub returns-clause-saved : goal.returns-clause-saved
returns-clause-saved g c =
    let opened = c.open_tables-root.ensures.opened in
    let bare = stands_bare c.args.scheme c.args.parts.now _ _ c.requires.seat c.requires.credits _ _ opened.0 opened.1 in
    let filled = c.fill_parts.ensures.filled c.args.trapframe.0 opened.0 bare in
    saved_whole c.args.scheme c.args.parts.now _ _ c.requires.seat c.requires.credits _ _ opened.0 opened.1 _ filled.0 filled.1

pub returns-clause-takes : goal.returns-clause-takes
returns-clause-takes g c =
    let opened = c.open_tables-root.ensures.opened in
    let bare = stands_bare c.args.scheme c.args.parts.now _ _ c.requires.seat c.requires.credits _ _ opened.0 opened.1 in
    let filled = c.fill_parts.ensures.filled c.args.trapframe.0 opened.0 bare in
    takes_whole c.args.scheme c.args.parts.now _ _ c.requires.seat c.requires.credits _ _ opened.0 opened.1 _ filled.0 filled.1

pub returns-clause-free : goal.returns-clause-free
returns-clause-free g c = λ a. c.fill_parts.ensures.free a ∙ c.open_tables-root.ensures.free a

pub returns-clause-keeps : goal.returns-clause-keeps
returns-clause-keeps g c = λ others r. c.fill_parts.ensures.keeps others (c.open_tables-root.ensures.keeps others r)
