use Rattle.std.proofs.Common.{◌≡◌, ℕ, ◌+◌, ◌-◌, ◌*◌, ◌<◌, Some, inl, inr, refl, ap, sym, subst, ◌∙◌, arith, rules}
use Rattle.std.proofs.lemmas.Bool.{cases_lt}
use Rattle.std.specs.FinMap.{get}
use Rattle.frame_store.specs.Laws.{IsSeatOf, fits_after}
use Rattle.sv39_entry.specs.declared.scheme.Scheme.{Scheme}
use Rattle.table_walk.specs.TableChanges.{IsTableAt}
use Rattle.table_walk.specs.Tables.{HasTables, Tables}
use Rattle.table_walk.specs.TableRelease.{AreLast}
use Rattle.table_walk.proofs.Next.{table_child, zeros_none}
use Rattle.table_walk.proofs.Shed.{above_sole, at_index, index_anchored, index_held, lets_index, lets_last, lets_next, lets_none, some_level, still_last}
use Rattle.table_walk.proofs.release.+release.Goals as goal

-- ---- the table at an index

pub release_at-child-requires-clause-held : goal.release_at-child-requires-clause-held
release_at-child-requires-clause-held g u c =
    let h = c.requires.bare in
    (h.0, h.1, h.2, h.3, h.4, h.6, (table_child h.2 c.args.level c.args.index h.7 c.requires.low c.requires.in_table (some_level c.args.level c.requires.above)).0)

pub release_at-release_below-requires : goal.release_at-release_below-requires
release_at-release_below-requires g u c =
    let h = c.requires.bare in
    let below = table_child h.2 c.args.level c.args.index h.7 c.requires.low c.requires.in_table (some_level c.args.level c.requires.above) in
    let fits : IsSeatOf g.F.FrameAccess.invariant c.child.new.store c.child.new.seat = fits_after g.F.FrameAccess.invariant c.child.ensures.keeps c.requires.fits in
    let bare : (s : Scheme) × (root k : ℕ) × (t : Tables) × HasTables s (g.F.Seat.FrameSeat.view c.child.new.seat) root t × AreLast (g.F.Seat.FrameSeat.view c.child.new.seat) t × (get t.tables k ≡ Some c.in-Some.next.0) × IsTableAt k (c.args.level - 1) =
    (h.0, h.1, h.2 * 512 + c.args.index, h.3, rw c.child.ensures.view h.4, rw c.child.ensures.view h.5, sym (c.in-Some.ensures.child h.0 h.1 h.2 h.3 h.4 h.6 below.0), below.1) in
    search (rules, fits, bare)

pub release_at-store-requires-clause-sole : goal.release_at-store-requires-clause-sole
release_at-store-requires-clause-sole g u c =
    let h = c.requires.bare in
    let at = at_index _ _ _ _ h.1 h.2 _ _ c.args.index _ h.3 c.child.ensures.view h.4 h.5 h.6 h.7 c.requires.low c.requires.above c.requires.in_table (c.in-Some.ensures.child h.0) (c.release_below.ensures.below h.0) in
    above_sole _ _ _ _ _ _ _ _ at

pub release_at-release-requires-clause-held : goal.release_at-release-requires-clause-held
release_at-release-requires-clause-held g u c =
    let h = c.requires.bare in
    let at = at_index _ _ _ _ h.1 h.2 _ _ c.args.index _ h.3 c.child.ensures.view h.4 h.5 h.6 h.7 c.requires.low c.requires.above c.requires.in_table (c.in-Some.ensures.child h.0) (c.release_below.ensures.below h.0) in
    rw c.store.ensures.view (index_held _ _ _ _ _ _ _ _ at)

pub release_at-release-requires-clause-anchored : goal.release_at-release-requires-clause-anchored
release_at-release-requires-clause-anchored g u c =
    let h = c.requires.bare in
    let at = at_index _ _ _ _ h.1 h.2 _ _ c.args.index _ h.3 c.child.ensures.view h.4 h.5 h.6 h.7 c.requires.low c.requires.above c.requires.in_table (c.in-Some.ensures.child h.0) (c.release_below.ensures.below h.0) in
    rw c.store.ensures.view (index_anchored _ _ _ _ _ _ _ _ at)

pub release_at-returns-in-Some-clause-here : goal.release_at-returns-in-Some-clause-here
release_at-returns-in-Some-clause-here g u c s root k t has last at is =
    let at = at_index _ _ _ _ root k _ _ c.args.index _ t c.child.ensures.view has last at is c.requires.low c.requires.above c.requires.in_table (c.in-Some.ensures.child s) (c.release_below.ensures.below s) in
    rw (c.release.ensures.view, c.store.ensures.view) (lets_index _ _ _ _ _ _ _ _ at)

pub release_at-returns-in_default-clause-here : goal.release_at-returns-in_default-clause-here
release_at-returns-in_default-clause-here g u c s root k t has last at is =
    let child = table_child k c.args.level c.args.index is c.requires.low c.requires.in_table (some_level c.args.level c.requires.above) in
    (t, rw c.child.ensures.view (lets_none _ root k t has), sym (c.child.ensures.child s root k t has at child.0) ∙ rw c.in_default.is refl)

-- ---- the tables below a table

pub release_below-returns-then-level-eq0-clause-below : goal.release_below-returns-then-level-eq0-clause-below
release_below-returns-then-level-eq0-clause-below g u c s root k t has last at is =
    lets_last _ root k c.args.table.0 t has (subst (IsTableAt k) c.if-level-eq0.true is)

pub release_below-indices-init : goal.release_below-indices-init
release_below-indices-init g u c =
    let e = c.next_entry-index.ensures in
    record {
      low = e.low;
      keeps = λ others r. e.keeps others r;
      free = λ alone. (let same = ap g.F.FrameAccess.free e.same in omega (arith, same));
      below = λ s root k t has last at is. (
        t,
        rw e.view (lets_none _ root k t has),
        λ i less. zeros_none _ root t has k c.args.table.0 c.args.level at is c.requires.low c.if-level-eq0.false 0 _ e.zeros i (omega arith) less e.low,
      );
    }

pub release_below-release_at-requires : goal.release_below-release_at-requires
release_below-release_at-requires g u c =
    let i = c.indices.invariant in
    let h = c.requires.bare in
    let so_far = i.below h.0 h.1 h.2 h.3 h.4 h.5 h.6 h.7 in
    let fits : IsSeatOf g.F.FrameAccess.invariant c.indices.store c.indices.seat = fits_after g.F.FrameAccess.invariant i.keeps c.requires.fits in
    let some : 0 < c.args.level = omega (arith, c.if-level-eq0.false) in
    let bare : (s : Scheme) × (root k : ℕ) × (t : Tables) × HasTables s (g.F.Seat.FrameSeat.view c.indices.seat) root t × AreLast (g.F.Seat.FrameSeat.view c.indices.seat) t × (get t.tables k ≡ Some c.args.table.0) × IsTableAt k c.args.level =
    (h.0, h.1, h.2, so_far.0, so_far.1.tables, still_last _ _ h.1 h.2 h.3 so_far.0 so_far.1 h.5, so_far.1.stay h.2 _ (omega arith) h.6, h.7) in
    search (rules, fits, some, bare)

pub release_below-next_entry-index-requires-in-indices-clause-held : goal.release_below-next_entry-index-requires-in-indices-clause-held
release_below-next_entry-index-requires-in-indices-clause-held g u c =
    let h = c.requires.bare in
    let so_far = c.indices.invariant.below h.0 h.1 h.2 h.3 h.4 h.5 h.6 h.7 in
    let here =
    c.release_at.ensures.here h.0 h.1 h.2 so_far.0 so_far.1.tables (still_last _ _ h.1 h.2 h.3 so_far.0 so_far.1 h.5) (so_far.1.stay h.2 _ (omega arith) h.6) h.7 in
    let next = lets_next _ _ _ h.1 h.2 c.indices.index h.3 h.4 so_far here in
    (next.1.tables.own h.2 _ (next.1.stay h.2 _ (omega arith) h.6)).0

pub release_below-indices-preserved : goal.release_below-indices-preserved
release_below-indices-preserved g u c =
    let i = c.indices.invariant in
    let e = c.next_entry-index-in-indices.ensures in
    record {
      low = e.low;
      keeps = λ others r. e.keeps others (c.release_at.ensures.keeps others (i.keeps others r));
      free = λ alone. (let first = i.free alone in let next = c.release_at.ensures.free alone in let same = ap g.F.FrameAccess.free e.same in omega (arith, first, next, same));
      below = λ s root k t has last at is.
          let so_far = i.below s root k t has last at is in
          let next =
          lets_next _ _ _ root k c.indices.index t has so_far (c.release_at.ensures.here s root k so_far.0 so_far.1.tables (still_last _ _ root k t so_far.0 so_far.1 last) (so_far.1.stay k _ (omega arith) at) is) in (
            next.0,
            rw e.view next.1,
            λ j less. elim (cases_lt j (c.indices.index + 1)) [
              | inl before ↦ next.2 j before
              | inr after ↦
                  zeros_none _ root next.0 next.1.tables k c.args.table.0 c.args.level (next.1.stay k _ (omega arith) at) is c.requires.low c.if-level-eq0.false (c.indices.index + 1) _ e.zeros j (omega (arith, after)) less e.low
            ],
          );
    }

pub release_below-returns-clause-below : goal.release_below-returns-clause-below
release_below-returns-clause-below g u c s root k t has last at is =
    let all : c.indices.index ≡ 512 = omega (arith, c.indices-test.false, c.indices.invariant.low) in
    rw all at (c.indices.invariant.below s root k t has last at is)

pub release_below-returns-clause-keeps : goal.release_below-returns-clause-keeps
release_below-returns-clause-keeps g u c = c.indices.invariant.keeps

pub release_below-returns-clause-free : goal.release_below-returns-clause-free
release_below-returns-clause-free g u c = c.indices.invariant.free
