-- Lemmas for sbrk: an empty range of pages releases none; what the model says of a size that is refused, granted, or grows;
-- and once the pages above the new end are dropped, the space becomes the process with the new size (`resizes`).
use Rattle.std.proofs.Common.{◌≡◌, ℕ, ℤ, pos, ◌+ℤ◌, ◌≤ℤ◌, Bool, true, false, cond, ◌||◌, ◌<◌, ◌≤◌, T, ap, ◌∙◌, refl, arith, Some, Ok, Err, List, [], ◌∷◌}
use Rattle.std.specs.Prelude.{filter, nat_abs, nat_le, nat_lt}
use Rattle.std.specs.FinMap.Entries.{is_sorted}
use Rattle.std.specs.Ordering.{is_le, nat_cmp}
use Rattle.std.proofs.lemmas.Bool.Decides.{nat_tests}
use Rattle.std.proofs.lemmas.Int.{ints}
use lib.Dec.{T_prop}
use mathlib.Core.HLevel.{Σ_prop_path}
use Rattle.address_space.specs.Agreement.{Body, IsSpace}
use Rattle.address_space.specs.SpaceTeardown.{Drops}
use Rattle.address_space.specs.Steps.{CanReplaceLayout, HasReplacedLayout, sized}
use Rattle.lazy_growth.proofs.SizeRefusals.{heap_low}
use Rattle.lazy_growth.specs.SbrkEffect.{Resizes}
use Rattle.lazy_growth.specs.SbrkResults.{IsNewSize}
use Rattle.process_model.specs.Bytes.{pages_for}
use Rattle.process_model.specs.Heap.{resized, resized_unless, sbrk_result, size_refusal, wanted_size, without_pages}
use Rattle.process_model.specs.Order.{HasOrder}
use Rattle.process_model.proofs.OrderLaws.{resized_order, sized_order}
use Rattle.process_model.specs.PageMap.{only, PageMap}
use Rattle.process_model.proofs.PageRegions.{region_resized}
use Rattle.process_model.specs.Process.{Process}
use Rattle.process_model.specs.Regions.{is_guard_kind, is_shared_kind}
use Rattle.process_model.proofs.ReleaseLaws.{was_settled}
use Rattle.process_model.specs.declared.reply.Refusal.{Refusal}
use Rattle.sv39_entry.specs.Schemes.{trapframe_page}
use Rattle.table_walk.specs.Tables.{Tables}

-- no page goes where the run is empty

module _ {X : Type 0} where
  same_pages : (m n : PageMap X) → m.entries ≡ n.entries → m ≡ n
  same_pages m n e =
      let pairs : ◌≡◌ {A = (es : List (ℕ × X)) × T (is_sorted nat_cmp es)} (m.entries, m.sorted) (n.entries, n.sorted) = Σ_prop_path (λ es. T_prop _) e in
      λ i. record { entries = (pairs i).0; sorted = (pairs i).1 }

  module _ (test : ℕ → Bool) (always : (n : ℕ) → test n ≡ true) where
    all_kept : (es : List (ℕ × X)) → filter (λ (e : ℕ × X). test e.0) es ≡ es
    all_kept [] = refl
    all_kept (e ∷ es) = ap (λ b. cond b (e ∷ filter (λ (x : ℕ × X). test x.0) es) (filter (λ (x : ℕ × X). test x.0) es)) (always e.0) ∙ ap (λ xs. e ∷ xs) (all_kept es)

    only_all : (m : PageMap X) → only test m ≡ m
    only_all m = same_pages (only test m) m (all_kept m.entries)

-- a page is not above another, or it is

pub not_above : (a b : ℕ) (test : Bool) → test ≡ is_le (nat_cmp a b) → test ≡ true → a ≤ b
not_above a b test is holds = grind (arith, nat_tests)

pub above : (a b : ℕ) (test : Bool) → test ≡ is_le (nat_cmp a b) → test ≡ false → b < a
above a b test is fails = grind (arith, nat_tests)

outside : (first end n : ℕ) → end ≤ first → (nat_lt n first || nat_le end n) ≡ true
outside first end n le = grind (arith, le)

pub none_goes : (p : Process) (first end : ℕ) → end ≤ first → without_pages p first end ≡ p
none_goes p first end le = ap (λ pages. record p { settled = pages }) (only_all (λ n. nat_lt n first || nat_le end n) (λ n. outside first end n le) p.settled)

pub none_dropped : (t : Tables) (first end : ℕ) → end ≤ first → Drops t t first end
none_dropped t first end le = record {
  tables = refl;
  gone = λ n from to. absurd (omega (arith, from, to, le));
  others = λ k apart. refl;
}

-- what the model says

pub refused : (p : Process) (delta : ℤ) (r : Refusal) → size_refusal p (wanted_size p delta) ≡ Some r → sbrk_result p delta ≡ Err r
unfolding sbrk_result
refused p delta r is = ap (resized_unless p (nat_abs (wanted_size p delta))) is

pub granted : (p : Process) (delta : ℤ) (size : ℕ) → IsNewSize p delta size → sbrk_result p delta ≡ Ok (resized p size)
unfolding sbrk_result
granted p delta size is = ap (λ wanted. resized_unless p (nat_abs wanted) (size_refusal p wanted)) is.wanted ∙ ap (resized_unless p size) is.granted

pub grows : (p : Process) (delta : ℤ) (size : ℕ) → IsNewSize p delta size → pos 0 ≤ℤ delta → pages_for p.size ≤ pages_for size
grows p delta size is up =
    let sum : pos p.size +ℤ delta ≡ pos size = is.wanted in
    let le : p.size ≤ size = omega (arith, ints) in
    omega (arith, le)

-- the regions, where the pages above the new end are gone

module _ (p : Process) (delta : ℤ) (size : ℕ) (is : IsNewSize p delta size) (order : HasOrder 0 p) where
  pub resized_low : pages_for size ≤ trapframe_page p.scheme
  resized_low = heap_low (sized p size) (sized_order 0 p (pos size) is.granted order)

  abbrev pub released : Process
  released = without_pages p (pages_for size) (pages_for p.size)

  can_relay : CanReplaceLayout released (resized p size)
  can_relay = record {
    scheme = refl;
    settled = refl;
    tabled = refl;
    order = resized_order 0 p (pos size) is.granted order;
    leaves = λ n s x at in_region.
        let out = (was_settled p (pages_for size) (pages_for p.size) n s at).1 in
        let found = region_resized 0 p (pos size) n x order is.granted out in_region in (
          found.0,
          found.1,
          record {
            reads = found.2.reads;
            writes = found.2.writes;
            executes = found.2.executes;
            guard = ap is_guard_kind found.2.kind;
            shared = ap is_shared_kind found.2.kind;
          },
        );
  }

  pub resizes : (x y : Body) (t u : Tables) (first end : ℕ) → first ≡ pages_for size → end ≡ pages_for p.size → IsSpace x u (without_pages p first end) → Drops t u first end
      → HasReplacedLayout x y (λ q. sized q size) → Resizes y t p delta
  resizes x y t u first end from to space drops relaid = record {
    process = resized p size;
    is = granted p delta size is;
    tables = u;
    agrees = relaid u released (rw (from, to) at space) can_relay;
    drops = rw (from, to) at drops;
  }
