use Rattle.std.proofs.Common.{◌<◌, ◌+◌, ◌-◌, arith, sym}
use Rattle.frame_store.specs.Laws.{fits_after}
use Rattle.address_space.proofs.DroppedPages.{any_may_drop, dropped_all, dropped_next, dropped_none, tables_yet}
use Rattle.address_space.proofs.teardown.drop_run.Goals as goal
use Rattle.sv39_entry.specs.Schemes.{of_scheme}
use Rattle.table_walk.specs.LastTables.{last_of_tables}

pub pages-init : goal.pages-init
pages-init g c =
    let from = c.number-from.ensures.value in
    record {
      after = omega (arith, from);
      within = omega (arith, from);
      dropped = λ trapframe t p same s. rw from (dropped_none _ c.args.root.0 trapframe t p c.args.first s);
      kept = λ trapframe t p same s. tt;
      keeps = λ others r. r;
      free = λ alone. omega arith;
    }

pub drop_first-requires-clause-fits : goal.drop_first-requires-clause-fits
drop_first-requires-clause-fits g c = fits_after g.F.FrameAccess.invariant c.pages.invariant.keeps c.requires.fits

pub drop_first-requires-clause-ready : goal.drop_first-requires-clause-ready
drop_first-requires-clause-ready g c =
    let r = c.requires.ready in
    let far = c.pages.invariant.dropped r.0 r.1 r.2 r.3 r.4 in (
      far.0,
      tables_yet _ c.args.root.0 r.0 r.1 r.2 _ c.args.first c.pages.from c.args.end far c.args.scheme r.3,
      any_may_drop _ c.args.root.0 r.0 r.1 r.2 _ c.args.first c.pages.from c.args.end far c.args.scheme r.3 c.requires.low,
      last_of_tables c.args.scheme r.1 far.0 c.pages.last far.1.drops.tables (c.pages.invariant.kept r.0 r.1 r.2 r.3 r.4),
    )

pub overflow_add-from : goal.overflow_add-from
overflow_add-from g c =
    let r = c.requires.ready in
    let far = c.pages.invariant.dropped r.0 r.1 r.2 r.3 r.4 in
    let may = any_may_drop _ c.args.root.0 r.0 r.1 r.2 _ c.args.first c.pages.from c.args.end far c.args.scheme r.3 c.requires.low in
    let still = last_of_tables c.args.scheme r.1 far.0 c.pages.last far.1.drops.tables (c.pages.invariant.kept r.0 r.1 r.2 r.3 r.4) in
    let before = ((c.in-Some.ensures.dropped far.0 (tables_yet _ c.args.root.0 r.0 r.1 r.2 _ c.args.first c.pages.from c.args.end far c.args.scheme r.3) may still).1).1 in
    let low = c.requires.low in
    omega (arith, before, low, of_scheme c.args.scheme)

pub pages-smaller : goal.pages-smaller
pages-smaller g c =
    let r = c.requires.ready in
    let far = c.pages.invariant.dropped r.0 r.1 r.2 r.3 r.4 in
    let may = any_may_drop _ c.args.root.0 r.0 r.1 r.2 _ c.args.first c.pages.from c.args.end far c.args.scheme r.3 c.requires.low in
    let still = last_of_tables c.args.scheme r.1 far.0 c.pages.last far.1.drops.tables (c.pages.invariant.kept r.0 r.1 r.2 r.3 r.4) in
    let found = (c.in-Some.ensures.dropped far.0 (tables_yet _ c.args.root.0 r.0 r.1 r.2 _ c.args.first c.pages.from c.args.end far c.args.scheme r.3) may still).1 in
    let near = found.0 in
    let before = found.1 in
    let less : c.args.end - (c.in-Some.page + 1) < c.args.end - c.pages.from = omega (arith, near, before) in
    less

pub pages-preserved : goal.pages-preserved
pages-preserved g c =
    let i = c.pages.invariant in
    let r = c.requires.ready in
    let far = i.dropped r.0 r.1 r.2 r.3 r.4 in
    let may = any_may_drop _ c.args.root.0 r.0 r.1 r.2 _ c.args.first c.pages.from c.args.end far c.args.scheme r.3 c.requires.low in
    let still = last_of_tables c.args.scheme r.1 far.0 c.pages.last far.1.drops.tables (c.pages.invariant.kept r.0 r.1 r.2 r.3 r.4) in
    let found = (c.in-Some.ensures.dropped far.0 (tables_yet _ c.args.root.0 r.0 r.1 r.2 _ c.args.first c.pages.from c.args.end far c.args.scheme r.3) may still).1 in
    let near = found.0 in
    let before = found.1 in
    let after = i.after in
    record {
      after = omega (arith, after, near);
      within = omega (arith, before);
      dropped = λ trapframe t p same s.
          let far = i.dropped trapframe t p same s in
          let may = any_may_drop _ c.args.root.0 trapframe t p _ c.args.first c.pages.from c.args.end far c.args.scheme same c.requires.low in
          let still = last_of_tables c.args.scheme t far.0 c.pages.last far.1.drops.tables (i.kept trapframe t p same s) in
          let gone = c.in-Some.ensures.dropped far.0 (tables_yet _ c.args.root.0 trapframe t p _ c.args.first c.pages.from c.args.end far c.args.scheme same) may still in
          dropped_next _ c.args.root.0 trapframe t p _ c.args.first c.pages.from c.args.end far c.args.scheme same _ _ gone.1 c.requires.low i.after _ gone.2;
      kept = λ trapframe t p same s.
          let far = i.dropped trapframe t p same s in
          let may = any_may_drop _ c.args.root.0 trapframe t p _ c.args.first c.pages.from c.args.end far c.args.scheme same c.requires.low in
          let still = last_of_tables c.args.scheme t far.0 c.pages.last far.1.drops.tables (i.kept trapframe t p same s) in
          let yet = c.in-Some.ensures.kept far.0 (tables_yet _ c.args.root.0 trapframe t p _ c.args.first c.pages.from c.args.end far c.args.scheme same) may still in
          last_of_tables c.args.scheme far.0 t c.drop_first.new.last (sym far.1.drops.tables) yet;
      keeps = λ others r. c.in-Some.ensures.keeps others (i.keeps others r);
      free = λ alone.
          let still = i.free alone in
          let less = c.in-Some.ensures.free alone in
          omega (arith, still, less);
    }

pub returns-clause-dropped : goal.returns-clause-dropped
returns-clause-dropped g c trapframe t p same s =
    let i = c.pages.invariant in
    let far = i.dropped trapframe t p same s in
    let may = any_may_drop _ c.args.root.0 trapframe t p _ c.args.first c.pages.from c.args.end far c.args.scheme same c.requires.low in
    let still = last_of_tables c.args.scheme t far.0 c.pages.last far.1.drops.tables (i.kept trapframe t p same s) in
    let none = c.in_default.ensures.dropped far.0 (tables_yet _ c.args.root.0 trapframe t p _ c.args.first c.pages.from c.args.end far c.args.scheme same) may still in
    rw none.1 (dropped_all _ c.args.root.0 trapframe t p _ c.args.first c.pages.from c.args.end far i.within none.0)

pub returns-clause-keeps : goal.returns-clause-keeps
returns-clause-keeps g c others r = c.in_default.ensures.keeps others (c.pages.invariant.keeps others r)

pub returns-clause-free : goal.returns-clause-free
returns-clause-free g c alone =
    let still = c.pages.invariant.free alone in
    let less = c.in_default.ensures.free alone in
    omega (arith, still, less)

pub drop_first-requires-clause-low : goal.drop_first-requires-clause-low
drop_first-requires-clause-low g c = omega (arith, c.requires.low, of_scheme c.args.scheme)
