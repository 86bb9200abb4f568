use Rattle.std.proofs.Common.{◌≡◌, ℕ, suc, ◌+◌, ◌-◌, ◌*◌, ◌^◌, ◌<◌, None, Some, refl, ap, sym, subst, ◌∙◌, arith, rules}
use Rattle.frame_store.specs.Laws.{IsSeatOf}
use Rattle.std.specs.FinMap.{get}
use Rattle.sv39_entry.specs.declared.scheme.Scheme.{Scheme}
use Rattle.table_walk.specs.TableChanges.{HasEntry, IsTableAt}
use Rattle.table_walk.specs.Tables.{HasTables, Tables}
use Rattle.table_walk.specs.Places.{HasNoLeaves, IsFirstLeaf}
use Rattle.table_walk.proofs.Next.{bare_all, bare_more, bare_none, bare_skip, entry_here, first_more, no_table, last_index, leaf_word, past_index, same_places, table_child, fits_word, up_to}
use Rattle.table_walk.specs.Nodes.{power_next, power_some}
use Rattle.table_walk.proofs.leaves.+leaves.Goals as goal

-- ---- below an index

pub next_at-returns-then-level-eq0-clause-leaf : goal.next_at-returns-then-level-eq0-clause-leaf
next_at-returns-then-level-eq0-clause-leaf g u c s root k i t has e =
    let low = rw c.if-level-eq0.true at e.at in
    let one : ◌≡◌ {A = ℕ} 1 (512 ^ c.args.level) = ap (λ (x : ℕ). 512 ^ x) (sym c.if-level-eq0.true) in
    let some = c.requires.some in
    let leaf = leaf_word _ root t has.known k e.frame i c.args.word e.table low.0 e.in_table e.read c.args.from (rw (← one) at c.requires.within) (λ nil. omega (arith, some, nil)) in
    up_to t (k * 512 + i) (512 ^ c.args.level) c.args.from c.args.end (Some (0, c.args.word))
    (subst (λ (w : ℕ). IsFirstLeaf t (k * 512 + i) w c.args.from (Some (0, c.args.word))) one leaf)

pub next_at-returns-in_err-next-clause-leaf : goal.next_at-returns-in_err-next-clause-leaf
next_at-returns-in_err-next-clause-leaf g u c s root k i t has e =
    let below = table_child k c.args.level i e.at c.requires.low e.in_table c.if-level-eq0.false in
    let level : suc (c.args.level - 1) ≡ c.args.level = omega (arith, c.if-level-eq0.false) in
    let width : 512 ^ suc (c.args.level - 1) ≡ 512 ^ c.args.level = ap (λ (x : ℕ). 512 ^ x) level in
    let none : get t.tables (k * 512 + i) ≡ None = sym (c.in_err-next.ensures _ _ root k e.frame i t has e.table e.in_table below.0 e.read) in
    let high = (has.known.below k e.frame e.table).0 in
    let bare = no_table _ root t has.known (k * 512 + i) (c.args.level - 1) c.args.from (omega (arith, high)) none in
    rw c.from_residual.ensures
    (up_to t (k * 512 + i) (512 ^ c.args.level) c.args.from c.args.end None (subst (λ (w : ℕ). HasNoLeaves t (k * 512 + i) w c.args.from w) width bare))

pub next_at-next_below-requires : goal.next_at-next_below-requires
next_at-next_below-requires g u c =
    let h = c.requires.held in
    let e = h.6 in
    let below = table_child h.2 c.args.level h.3 e.at c.requires.low e.in_table c.if-level-eq0.false in
    let held : (s : Scheme) × (root k : ℕ) × (t : Tables) × HasTables s (g.F.Seat.FrameSeat.view c.args.seat.now) root t × (get t.tables k ≡ Some c.in_ok-next.next.0) × IsTableAt k (c.args.level - 1) =
    (h.0, h.1, h.2 * 512 + h.3, h.4, h.5, sym (c.in_ok-next.ensures _ _ h.1 h.2 e.frame h.3 h.4 h.5 e.table e.in_table below.0 e.read), below.1) in
    search (rules, held)

pub next_at-returns-clause-leaf : goal.next_at-returns-clause-leaf
next_at-returns-clause-leaf g u c s root k i t has e =
    let below = table_child k c.args.level i e.at c.requires.low e.in_table c.if-level-eq0.false in
    let level : suc (c.args.level - 1) ≡ c.args.level = omega (arith, c.if-level-eq0.false) in
    let leaf = c.next_below.ensures.leaf s root (k * 512 + i) t has (sym (c.in_ok-next.ensures _ _ root k e.frame i t has e.table e.in_table below.0 e.read)) below.1 in
    same_places t (k * 512 + i) (512 ^ suc (c.args.level - 1)) (512 ^ c.args.level) c.args.from c.args.end c.next_below.result (ap (λ (x : ℕ). 512 ^ x) level) leaf

-- ---- index by index

pub next_below-indices-init : goal.next_below-indices-init
next_below-indices-init g u c = record {
  view = refl;
  same = refl;
  keeps = λ others r. r;
  on = omega arith;
  bare = λ s root k t has there is. bare_none t k (512 * 512 ^ c.args.level) c.args.from _ c.args.end (omega arith);
}

pub next_below-next_at-next-requires : goal.next_below-next_at-next-requires
next_below-next_at-next-requires g u c =
    let i = c.indices.invariant in
    let h = c.requires.held in
    let n = c.in_ok-index.ensures.word in
    let index = c.in_ok-index.index in
    let fits : IsSeatOf g.F.FrameAccess.invariant c.next_entry.new.store c.next_entry.new.seat =
    (c.requires.fits.0, c.next_entry.ensures.keeps c.requires.fits.0 (i.keeps c.requires.fits.0 c.requires.fits.1)) in
    let most = last_index c.index_of-last.result c.min-stop.result c.args.end (512 ^ c.args.level) (power_some c.args.level)
    (rw c.index_places-width.ensures.value at c.min-stop.ensures) c.index_of-last.ensures in
    let entry = entry_here _ _ h.3 h.2 c.args.table.0 c.args.level index c.in_ok-index.word c.next_entry.ensures.view h.5 h.6 (omega (arith, most, n.1)) n.4 in
    let held : (s : Scheme) × (root k j : ℕ) × (t : Tables) × HasTables s (g.F.Seat.FrameSeat.view c.next_entry.new.seat) root t
    × HasEntry (g.F.Seat.FrameSeat.view c.next_entry.new.seat) t k c.args.level j c.in_ok-index.word =
    (h.0, h.1, h.2, index, h.3, rw (c.next_entry.ensures.view, i.view) h.4, entry) in
    let some : 0 < c.in_ok-index.word = omega (arith, n.3) in
    let past = past_index c.indices.at (512 ^ c.args.level) index (power_some c.args.level) (rw c.index_of.ensures at n.0) in
    let place = rw c.index_places-width.ensures.value at c.saturating_sub-place.ensures in
    let within : c.saturating_sub-place.result < 512 ^ c.args.level = omega (arith, place, past, power_some c.args.level) in
    search (rules, fits, held, some, within)

pub next_below-overflow_add-result : goal.next_below-overflow_add-result
next_below-overflow_add-result g u c =
    let h = c.requires.held in
    let n = c.in_ok-index.ensures.word in
    let index = c.in_ok-index.index in
    let most = last_index c.index_of-last.result c.min-stop.result c.args.end (512 ^ c.args.level) (power_some c.args.level)
    (rw c.index_places-width.ensures.value at c.min-stop.ensures) c.index_of-last.ensures in
    let small : index < 512 = omega (arith, most, n.1) in
    let entry = entry_here _ _ h.3 h.2 c.args.table.0 c.args.level index c.in_ok-index.word c.next_entry.ensures.view h.5 h.6 small n.4 in
    let leaf = c.in-Some.ensures.leaf h.0 h.1 h.2 index h.3 (rw (c.next_entry.ensures.view, c.indices.invariant.view) h.4) entry in
    let fits = fits_word c.index_places-width.result index c.in-Some.found c.index_places-width.ensures.few small (rw c.index_places-width.ensures.value leaf.1) in
    omega (arith, fits)

pub next_below-returns-in_err-index-clause-leaf : goal.next_below-returns-in_err-index-clause-leaf
next_below-returns-in_err-index-clause-leaf g u c s root k t has at is =
    let i = c.indices.invariant in
    let width = 512 ^ c.args.level in
    let last = c.index_of-last.result + 1 in
    let zeros = rw (c.index_of.ensures, i.view) at c.in_err-index.ensures.word in
    let stop = rw c.index_places-width.ensures.value at c.min-stop.ensures in
    let most = last_index c.index_of-last.result c.min-stop.result c.args.end width (power_some c.args.level) stop c.index_of-last.ensures in
    let skip = bare_skip _ root t has k c.args.table.0 c.args.level at is c.requires.low last c.indices.at zeros most c.args.from c.args.end (i.bare s root k t has at is) in
    rw c.from_residual.ensures (bare_all t k c.args.level c.args.from last c.indices.at c.min-stop.result c.args.end stop (ap (λ (x : ℕ). x + 1) c.index_of-last.ensures) skip)

pub next_below-returns-in-Some-clause-leaf : goal.next_below-returns-in-Some-clause-leaf
next_below-returns-in-Some-clause-leaf g u c s root k t has at is =
    let i = c.indices.invariant in
    let value = c.index_places-width.ensures.value in
    let width = 512 ^ c.args.level in
    let n = c.in_ok-index.ensures.word in
    let index = c.in_ok-index.index in
    let zeros = rw (c.index_of.ensures, i.view) at n.2 in
    let most = last_index c.index_of-last.result c.min-stop.result c.args.end width (power_some c.args.level) (rw value at c.min-stop.ensures) c.index_of-last.ensures in
    let small : index < 512 = omega (arith, most, n.1) in
    let skip = bare_skip _ root t has k c.args.table.0 c.args.level at is c.requires.low index c.indices.at zeros (omega (arith, small)) c.args.from c.args.end (i.bare s root k t has at is) in
    let entry = entry_here _ _ t k c.args.table.0 c.args.level index c.in_ok-index.word c.next_entry.ensures.view at is small n.4 in
    let here = rw (c.saturating_sub-place.ensures, value) at (c.in-Some.ensures.leaf s root k index t (rw (c.next_entry.ensures.view, i.view) has) entry) in
    let first = first_more t k width c.args.from index (c.indices.at - index * width) c.args.end (c.in-Some.found, c.in-Some.leaf) skip (omega (arith, i.on)) small here in
    let found : ℕ × ℕ = (index * width + c.in-Some.found, c.in-Some.leaf) in
    rw value (same_places t k (512 * width) (512 ^ suc c.args.level) c.args.from c.args.end (Some found) (sym (power_next c.args.level)) first)

pub next_below-indices-preserved : goal.next_below-indices-preserved
next_below-indices-preserved g u c =
    let i = c.indices.invariant in
    let value = c.index_places-width.ensures.value in
    let width = 512 ^ c.args.level in
    let n = c.in_ok-index.ensures.word in
    let index = c.in_ok-index.index in
    let zeros = rw (c.index_of.ensures, i.view) at n.2 in
    let most = last_index c.index_of-last.result c.min-stop.result c.args.end width (power_some c.args.level) (rw value at c.min-stop.ensures) c.index_of-last.ensures in
    let small : index < 512 = omega (arith, most, n.1) in
    let near = rw c.index_of.ensures at n.0 in
    let past = past_index c.indices.at c.index_places-width.result index c.index_places-width.ensures.some (rw value near) in
    record {
      view = c.next_at-next.ensures.view ∙ c.next_entry.ensures.view ∙ i.view;
      same = c.next_at-next.ensures.same ∙ c.next_entry.ensures.same ∙ i.same;
      keeps = λ others r. c.next_at-next.ensures.keeps others (c.next_entry.ensures.keeps others (i.keeps others r));
      on = omega (arith, i.on, past);
      bare = λ s root k t has at is.
          let skip = bare_skip _ root t has k c.args.table.0 c.args.level at is c.requires.low index c.indices.at zeros (omega (arith, small)) c.args.from c.args.end (i.bare s root k t has at is) in
          let entry = entry_here _ _ t k c.args.table.0 c.args.level index c.in_ok-index.word c.next_entry.ensures.view at is small n.4 in
          let here = rw (c.saturating_sub-place.ensures, value) at (c.in_default.ensures.leaf s root k index t (rw (c.next_entry.ensures.view, i.view) has) entry) in
          rw value (bare_more t k width c.args.from index (c.indices.at - index * width) c.args.end skip here);
    }

pub next_below-returns-clause-leaf : goal.next_below-returns-clause-leaf
next_below-returns-clause-leaf g u c s root k t has at is n le lt to =
    let i = c.indices.invariant in
    let next = power_next c.args.level in
    let stop = rw c.index_places-width.ensures.value at c.min-stop.ensures in
    rw next (i.bare s root k t has at is n le (omega (arith, next, stop, c.indices-test.false, lt, to)) to)
