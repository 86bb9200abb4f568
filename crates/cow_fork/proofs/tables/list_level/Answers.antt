use Rattle.std.proofs.Common.{◌≡◌, ◌+◌, ◌-◌, ◌/◌, ◌^◌, ◌<◌, Some, ap, sym, ◌∙◌, arith, length}
use Rattle.std.specs.FinMap.{get}
use Rattle.table_walk.specs.Tables.{HasTables, node, Tables}
use Rattle.cow_fork.proofs.Listing.{from_low, goes_up, length_numbers, level_done, map_push, one_more, room, some, still_near, table_there}
use Rattle.cow_fork.proofs.tables.list_level.Given as given
use Rattle.cow_fork.proofs.tables.list_level.Goals as goal
use Rattle.cow_fork.proofs.tables.list_level.Goals.{In-Some-table_at}
use Rattle.sv39_entry.specs.Schemes.{of_scheme}

pub first_page-requires-clause-held : goal.first_page-requires-clause-held
first_page-requires-clause-held g c = let r = c.requires.ready in let i = c.tables.invariant in (r.0, rw i.view r.2.tables)

pub overflow_mul-table : goal.overflow_mul-table
overflow_mul-table g c =
    let r = c.requires.ready in
    let i = c.tables.invariant in
    let low = from_low c.args.scheme _ _ r.0 r.1 _ c.args.depth c.args.pages c.tables.table c.requires.deep c.requires.size (i.listed r.0 r.1 r.2 r.3) i.near in
    omega (arith, low, of_scheme c.args.scheme)

pub first_page-requires-clause-low : goal.first_page-requires-clause-low
first_page-requires-clause-low g c =
    let r = c.requires.ready in
    let i = c.tables.invariant in
    from_low c.args.scheme _ _ r.0 r.1 _ c.args.depth c.args.pages c.tables.table c.requires.deep c.requires.size (i.listed r.0 r.1 r.2 r.3) i.near

pub first_page-requires-clause-edge : goal.first_page-requires-clause-edge
first_page-requires-clause-edge g c = c.requires.ready.3.low

pub table_at-requires-clause-held : goal.table_at-requires-clause-held
table_at-requires-clause-held g c =
    let r = c.requires.ready in
    let same = c.in-Some.ensures.view ∙ c.tables.invariant.view in
    (r.0, rw same r.2.tables)

pub unreachable-requires : goal.unreachable-requires
unreachable-requires g c =
    let r = c.requires.ready in
    let i = c.tables.invariant in
    let next = c.in-Some.ensures.page r.0 (rw i.view r.2.tables) r.3 in
    let there = table_there c.args.scheme _ _ r.0 r.1 _ c.args.depth c.args.pages c.tables.table c.requires.deep c.requires.size (i.listed r.0 r.1 r.2 r.3) c.in-Some.page next in
    let same = c.in-Some.ensures.view ∙ i.view in
    let told = rw c.in_default-table_at.is at c.table_at.ensures.table r.0 (rw same r.2.tables) in
    let found = there.1 in
    cc (told, found)

-- the frame of the table found
frame_is : (g : given.Over) (c : In-Some-table_at g) (t : Tables) → HasTables c.args.scheme (g.S.FrameSeat.view c.args.seat.now) c.args.root.0 t
    → get t.tables (node c.args.scheme c.in-Some.page c.args.depth) ≡ Some c.in-Some-table_at.frame.0
frame_is g c t h =
    let same = c.in-Some.ensures.view ∙ c.tables.invariant.view in
    sym (rw c.in-Some-table_at.is at c.table_at.ensures.table t (rw same h))

pub push-requires : goal.push-requires
push-requires g c =
    let r = c.requires.ready in
    let i = c.tables.invariant in
    let next = c.in-Some.ensures.page r.0 (rw i.view r.2.tables) r.3 in
    let law = g.met.F.FrameAccess.within _ _ c.requires.fits.0 c.requires.fits.1 in
    let free = room c.args.scheme _ _ r.0 r.1 _ c.args.depth c.args.pages c.tables.table c.requires.deep c.requires.size (i.listed r.0 r.1 r.2 r.3) c.in-Some.page next _
    (frame_is g (goal.at.push-requires g c).In-Some-table_at r.0 r.2.tables)
    (λ f held. let low = law.1 f held in let most = law.0 in omega (arith, low, most)) in
    let same = length_numbers c.tables.frames.items in
    let less : length c.tables.frames.items < 1024 = omega (arith, free, same) in
    (omega arith, less)

pub nonzero_div-table : goal.nonzero_div-table
nonzero_div-table g c =
    let r = c.requires.ready in
    let i = c.tables.invariant in
    some c.args.scheme _ _ r.0 r.1 _ c.args.depth c.args.pages c.tables.table c.requires.deep c.requires.size (i.listed r.0 r.1 r.2 r.3)

pub tables-smaller : goal.tables-smaller
tables-smaller g c =
    let r = c.requires.ready in
    let i = c.tables.invariant in
    let s = i.listed r.0 r.1 r.2 r.3 in
    let next = c.in-Some.ensures.page r.0 (rw i.view r.2.tables) r.3 in
    let up = goes_up c.args.scheme _ _ r.0 r.1 _ c.args.depth c.args.pages c.tables.table c.requires.deep c.requires.size s c.in-Some.page next in
    let near = still_near c.args.scheme _ _ r.0 r.1 _ c.args.depth c.args.pages c.tables.table c.requires.deep c.requires.size s c.in-Some.page next in
    let number = ap (λ n. n / c.args.pages) c.number.ensures.value in
    let less : 512 ^ c.args.depth - (c.number.result / c.args.pages + 1) < 512 ^ c.args.depth - c.tables.table = omega (arith, up, near, number) in
    less

pub tables-preserved : goal.tables-preserved
tables-preserved g c =
    let r = c.requires.ready in
    let i = c.tables.invariant in
    let first = c.in-Some.ensures.page r.0 (rw i.view r.2.tables) r.3 in
    let low = still_near c.args.scheme _ _ r.0 r.1 _ c.args.depth c.args.pages c.tables.table c.requires.deep c.requires.size (i.listed r.0 r.1 r.2 r.3) c.in-Some.page first in
    let number = ap (λ n. n / c.args.pages) c.number.ensures.value in
    let pushed = c.push.ensures.items in
    record {
      near = omega (arith, low, number);
      view = c.in-Some-table_at.ensures.view ∙ c.in-Some.ensures.view ∙ i.view;
      same = c.in-Some-table_at.ensures.same ∙ c.in-Some.ensures.same ∙ i.same;
      keeps = λ others s. c.in-Some-table_at.ensures.keeps others (c.in-Some.ensures.keeps others (i.keeps others s));
      listed = λ t L s edged.
          let next = c.in-Some.ensures.page t (rw i.view s.tables) edged in
          let at = frame_is g (goal.at.tables-preserved g c).In-Some-table_at t s.tables in
          rw (c.number.ensures.value, pushed, map_push c.tables.frames.items c.in-Some-table_at.frame)
          (one_more c.args.scheme _ _ t L _ c.args.depth c.args.pages c.tables.table c.requires.deep c.requires.size (i.listed t L s edged) c.in-Some.page next _ at);
    }

pub returns-clause-listed : goal.returns-clause-listed
returns-clause-listed g c t L s edged =
    let i = c.tables.invariant in
    let none = c.in_default.ensures.page t (rw i.view s.tables) edged in
    level_done c.args.scheme _ _ t L _ c.args.depth c.args.pages c.tables.table c.requires.deep c.requires.size (i.listed t L s edged) none i.near
