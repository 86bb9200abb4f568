use Rattle.std.proofs.Common.{◌≤◌, ◌*◌, ◌-◌, [], ap, arith, sym, ◌∙◌, refl}
use Rattle.frame_store.specs.Laws.{fits_after}
use Rattle.frame_store.specs.Plain.{PlainStateInvariant}
use Rattle.frame_store.specs.View.{View}
use Rattle.tests_of_tables.proofs.TableSteps.{enough_left, enough_now, of_ok, reserved_held, same_view}
use Rattle.table_walk.specs.LeafBacking.{kernel_backed}
use Rattle.table_walk.specs.SameFrames.{same_held, same_tables}
use Rattle.tests_of_tables.proofs.walks.mapped.Goals as goal

pub new_table-root-requires-clause-fits : goal.new_table-root-requires-clause-fits
new_table-root-requires-clause-fits c = fits_after PlainStateInvariant c.reserve-reserved.ensures.keeps ([], c.in_ok-frames.ensures.invariant)

pub new_table-root-requires-clause-anchored : goal.new_table-root-requires-clause-anchored
new_table-root-requires-clause-anchored c =
    let reserved = of_ok _ (sym c.is_ok.ensures.value ∙ c.if-prove.false) c.reserve-reserved.ensures.ok in
    reserved_held _ _ 20 c.in_ok-frames.ensures.seat reserved

pub leave_words-requires-clause-fits : goal.leave_words-requires-clause-fits
leave_words-requires-clause-fits c = fits_after PlainStateInvariant c.new_table-root.ensures.keeps (fits_after PlainStateInvariant c.reserve-reserved.ensures.keeps ([], c.in_ok-frames.ensures.invariant))

pub leave_words-requires-clause-credit : goal.leave_words-requires-clause-credit
leave_words-requires-clause-credit c =
    let reserved = of_ok _ (sym c.is_ok.ensures.value ∙ c.if-prove.false) c.reserve-reserved.ensures.ok in
    let had = ap (λ (v : View). v.credits) reserved in
    let spent = ap (λ (v : View). v.credits) c.new_table-root.ensures.view in
    omega (arith, had, spent)

pub map-requires-clause-fits : goal.map-requires-clause-fits
map-requires-clause-fits c = ([], c.missing_tables.ensures.keeps [] c.loop-index.invariant.rule)

pub map-requires-clause-leaf : goal.map-requires-clause-leaf
map-requires-clause-leaf c = c.leaf-leaf.ensures.made.readable refl

pub loop-index-init : goal.loop-index-init
loop-index-init c =
    let reserved = of_ok _ (sym c.is_ok.ensures.value ∙ c.if-prove.false) c.reserve-reserved.ensures.ok in
    let opened = ap (λ (v : View). v.credits) c.in_ok-frames.ensures.seat in
    let had = ap (λ (v : View). v.credits) reserved in
    let root = c.new_table-root.ensures in
    let spent = ap (λ (v : View). v.credits) root.view in
    let left = c.leave_words.ensures in
    record {
      rule = left.keeps [] (root.keeps [] (c.reserve-reserved.ensures.keeps [] c.in_ok-frames.ensures.invariant));
      anchored = same_held _ _ 0 (left.kept 0 root.anchored) root.anchored;
      tables = (_, same_tables _ _ _ _ (λ k f at. left.kept f ((root.root c.args.scheme).own k f at).0) (root.root c.args.scheme), omega (arith, opened, had, spent, left.credits));
    }

pub map-requires-clause-tables : goal.map-requires-clause-tables
map-requires-clause-tables c =
    let i = c.loop-index.invariant in
    let view = c.missing_tables.ensures.view in
    let same = ap (λ (v : View). v.credits) view in
    let enough : 3 * (5 - c.loop-index.index) ≤ c.missing_tables.new.seat.credits = rw same i.tables.2 in
    (i.tables.0, same_view _ _ _ _ view i.tables.1, enough_now c.args.scheme c.missing_tables.new.seat i.tables.0 c.page-in-loop-index.result c.loop-index.index (omega (arith, c.loop-index-test.true)) enough)

pub map-requires-clause-backed : goal.map-requires-clause-backed
map-requires-clause-backed c = kernel_backed _ _ c.leaf-leaf.ensures.made.for_user

pub loop-index-preserved : goal.loop-index-preserved
loop-index-preserved c =
    let i = c.loop-index.invariant in
    let view = c.missing_tables.ensures.view in
    let same = ap (λ (v : View). v.credits) view in
    let enough : 3 * (5 - c.loop-index.index) ≤ c.missing_tables.new.seat.credits = rw same i.tables.2 in
    let after = c.map.ensures.tables i.tables.0 (same_view _ _ _ _ view i.tables.1) in
    record {
      rule = c.map.ensures.keeps [] (c.missing_tables.ensures.keeps [] i.rule);
      anchored = c.map.ensures.anchored;
      tables = (_, after.2, enough_left c.args.scheme _ _ _ _ _ _ after.3 enough);
    }
