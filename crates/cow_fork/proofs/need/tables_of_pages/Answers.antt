use Rattle.std.proofs.Common.{◌≡◌, ℕ, ◌+◌, ◌/◌, ◌<◌, ◌≤◌, ◌∷◌, List, drop, length, ap, subst, sym, ◌∙◌, arith, ◌*◌}
use Rattle.std.specs.Prelude.{slice_index_or}
use Rattle.std.proofs.lemmas.List.{at_drop_all, at_drop_more}
use Rattle.address_space.specs.SettledLists.{AreSettled, AreUnsettled}
use Rattle.address_space.specs.declared.settled_pages.SettledPage.{SettledPage}
use Rattle.process_model.specs.Process.{Process}
use Rattle.sv39_entry.specs.Schemes.{trampoline_page, trapframe_page, edge_at}
use Rattle.sv39_entry.specs.declared.scheme.Scheme.{Scheme}
use Rattle.table_walk.specs.Tables.{Tables}
use Rattle.cow_fork.proofs.Counting.{counts_more, counts_none, in_table, next_table, none_left, same_table, still_near, top_counted, top_new}
use Rattle.cow_fork.proofs.need.tables_of_pages.Goals as goal
use Rattle.cow_fork.proofs.need.tables_of_pages.Goals.{then-needed-table, else-needed-table}

-- the next page of the list is the next settled one
listed : (t : Tables) (p : Process) (first : ℕ) (settled : List SettledPage) (i : ℕ) (x : SettledPage) → i < length settled → x ≡ slice_index_or settled i x
    → AreSettled t p first (trapframe_page p.scheme) (drop i settled) → AreSettled t p first (trapframe_page p.scheme) (x ∷ drop (i + 1) settled)
listed t p first settled i x lt is left =
    subst (AreSettled t p first (trapframe_page p.scheme)) (at_drop_more (λ l. l) settled i x lt ∙ ap (λ (b : SettledPage). b ∷ drop (i + 1) settled) (sym is)) left

-- what is known by the scheme that code has is known by that of the process
top_of : {x y : Scheme} → x ≡ y → (pages : ℕ) → trampoline_page y / pages ≡ trapframe_page y / pages → trampoline_page x / pages ≡ trapframe_page x / pages
top_of {x} {y} same pages top = subst (λ z. trampoline_page z / pages ≡ trapframe_page z / pages) (sym same) top

below_top : {x y : Scheme} → x ≡ y → (pages page address table : ℕ) → page ≡ address / 4096 → address ≡ 4096 * trapframe_page y → page / pages < table
    → trapframe_page x / pages < table
below_top same pages page address table is at less = rw (edge_at same page address is at) at less

up_to_top : {x y : Scheme} → x ≡ y → (pages page address table : ℕ) → page ≡ address / 4096 → address ≡ 4096 * trapframe_page y → table ≤ page / pages
    → table ≤ trapframe_page x / pages
up_to_top same pages page address table is at le = rw (edge_at same page address is at) at le

pub pages-init : goal.pages-init
pages-init c = record {
  few = omega arith;
  counted = λ t p are. (0, omega arith, omega arith, counts_none c.args.pages p.settled, are);
}

pub pages-preserved : goal.pages-preserved
pages-preserved c =
    let few = c.pages.invariant.few in
    let x = c.page-item.result in
    let number : c.number.result / c.args.pages ≡ x.page / c.args.pages = ap (λ n. n / c.args.pages) c.number.ensures.value in
    elim c.if-needed-table.branch [
      | then-needed-table w ↦ record {
        few = omega (arith, few, w.count-is);
        counted = λ t p are.
            let i = c.pages.invariant.counted t p are in
            let left = listed t p i.0 c.args.settled.now c.pages.page-index x c.pages-test.true c.page-item.is i.4 in
            let above : c.pages.table ≤ x.page / c.args.pages = omega (arith, number, w.if-needed-table.true) in
            let next = next_table c.args.pages c.requires.some t p c.pages.count c.pages.table i.3 i.0 i.1 x left.0 above in
            let near = still_near c.args.pages c.requires.some t p c.pages.count c.pages.table i.3 x next in
            rw (w.count-is, w.table-is, number)
            (x.page + 1, in_table c.args.pages x.page c.requires.some, near, counts_more c.args.pages c.requires.some t p c.pages.count c.pages.table i.3 x next, left.1);
      }
      | else-needed-table w ↦ record {
        few = omega (arith, few, w.count-is);
        counted = λ t p are.
            let i = c.pages.invariant.counted t p are in
            let left = listed t p i.0 c.args.settled.now c.pages.page-index x c.pages-test.true c.page-item.is i.4 in
            let below : x.page / c.args.pages < c.pages.table = omega (arith, number, w.if-needed-table.false) in
            rw (w.count-is, w.table-is)
            (x.page + 1, same_table c.args.pages c.requires.some t p c.pages.count c.pages.table i.3 i.0 i.1 x.page below, i.2, i.3, left.1);
      }
    ]

pub returns-then-table-number-clause-count : goal.returns-then-table-number-clause-count
returns-then-table-number-clause-count c t p same low are =
    let i = c.pages.invariant.counted t p are in
    let last : AreUnsettled p i.0 (trapframe_page p.scheme) = subst (AreSettled t p i.0 (trapframe_page p.scheme)) (at_drop_all (λ l. l) c.args.settled.now c.pages.page-index c.pages-test.false) i.4 in
    let none = none_left c.args.pages c.requires.some t p c.pages.count c.pages.table i.3 i.0 i.1 last in
    let top = top_of same c.args.pages c.requires.top in
    let less = below_top same c.args.pages c.page.result c.trapframe.result.0 c.pages.table c.page.ensures.number c.trapframe.ensures (rw c.number-2.ensures.value at c.if-table-number.true) in
    top_counted c.args.pages c.requires.some t p c.pages.count c.pages.table i.3 none low i.2 top less

pub returns-else-table-number-clause-count : goal.returns-else-table-number-clause-count
returns-else-table-number-clause-count c t p same low are =
    let i = c.pages.invariant.counted t p are in
    let last : AreUnsettled p i.0 (trapframe_page p.scheme) = subst (AreSettled t p i.0 (trapframe_page p.scheme)) (at_drop_all (λ l. l) c.args.settled.now c.pages.page-index c.pages-test.false) i.4 in
    let none = none_left c.args.pages c.requires.some t p c.pages.count c.pages.table i.3 i.0 i.1 last in
    let top = top_of same c.args.pages c.requires.top in
    let le = up_to_top same c.args.pages c.page.result c.trapframe.result.0 c.pages.table c.page.ensures.number c.trapframe.ensures (rw c.number-2.ensures.value at c.if-table-number.false) in
    top_new c.args.pages c.requires.some t p c.pages.count c.pages.table i.3 none low i.2 top le
