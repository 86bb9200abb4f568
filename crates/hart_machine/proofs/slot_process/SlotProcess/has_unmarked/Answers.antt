use Rattle.std.proofs.Common.{◌≡◌, ℕ, ◌+◌, ◌<◌, ◌∷◌, List, drop, length, slice_index_or, refl, ap, subst, sym, ◌∙◌, arith}
use Rattle.std.specs.Prelude.{not, ◌&&◌}
use Rattle.std.proofs.lemmas.List.{at_drop_all, at_drop_more}
use Rattle.address_space.specs.SettledLists.{AreSettled, AreUnsettled}
use Rattle.address_space.specs.declared.settled_pages.SettledPage.{SettledPage}
use Rattle.process_model.specs.Process.{grants_write, Process}
use Rattle.table_walk.specs.Tables.{Tables}
use Rattle.hart_machine.proofs.Watched.{all_marked, marked_further, some_unmarked}
use Rattle.hart_machine.proofs.slot_process.SlotProcess.has_unmarked.Goals as goal
use Rattle.sv39_entry.specs.Schemes.{trapframe_page}

-- the next page of the list is the next settled one
listed : (t : Tables) (p : Process) (first : ℕ) (settled : List SettledPage) (i : ℕ) (x : SettledPage) → i < length settled → x ≡ slice_index_or settled i x
    → AreSettled t p first (trapframe_page p.scheme) (drop i settled) → AreSettled t p first (trapframe_page p.scheme) (x ∷ drop (i + 1) settled)
listed t p first settled i x lt is left =
    subst (AreSettled t p first (trapframe_page p.scheme)) (at_drop_more (λ l. l) settled i x lt ∙ ap (λ (b : SettledPage). b ∷ drop (i + 1) settled) (sym is)) left

pub pages-init : goal.pages-init
pages-init c = record { marked = λ t p slot_process are. (0, (λ n s there less grants. absurd (omega (arith, less))), are) }

pub pages-preserved : goal.pages-preserved
pages-preserved c = record {
  marked = λ t p slot_process are.
      let i = c.pages.invariant.marked t p slot_process are in
      let x = c.page-item.result in
      let left = listed t p i.0 c.args.settled.now c.pages.page-index x c.pages-test.true c.page-item.is i.2 in
      let is = sym (c.is_unmarked.ensures t p slot_process ∙ ap (λ (k : ℕ). not x.cow && grants_write p k) c.number.ensures.value) ∙ c.if-is_unmarked.false in
      (x.page + 1, marked_further t p i.0 (trapframe_page p.scheme) x left.0 is i.1, left.1);
}

pub returns-then-is_unmarked-clause-some : goal.returns-then-is_unmarked-clause-some
returns-then-is_unmarked-clause-some c = λ told t p slot_process are.
    let i = c.pages.invariant.marked t p slot_process are in
    let x = c.page-item.result in
    let left = listed t p i.0 c.args.settled.now c.pages.page-index x c.pages-test.true c.page-item.is i.2 in
    let is = sym (c.is_unmarked.ensures t p slot_process ∙ ap (λ (k : ℕ). not x.cow && grants_write p k) c.number.ensures.value) ∙ c.if-is_unmarked.true in
    some_unmarked t p i.0 (trapframe_page p.scheme) x left.0 is

pub returns-clause-none : goal.returns-clause-none
returns-clause-none c = λ told t p slot_process are.
    let i = c.pages.invariant.marked t p slot_process are in
    let none : AreUnsettled p i.0 (trapframe_page p.scheme) = subst (AreSettled t p i.0 (trapframe_page p.scheme)) (at_drop_all (λ l. l) c.args.settled.now c.pages.page-index c.pages-test.false) i.2 in
    all_marked t p i.0 (trapframe_page p.scheme) slot_process.agrees.stands.shows.low refl none i.1
