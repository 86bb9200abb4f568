use Rattle.std.proofs.Common.{ℕ, [], subst}
use Rattle.table_walk.specs.LeafBacking.{kernel_backed}
use Rattle.table_walk.specs.HeldMemory.{held_memory}
use Rattle.table_walk.specs.Tables.{walk_leaf, without_leaf}
use Rattle.table_walk.specs.Walk.{IsAt}
use Rattle.tests_of_tables.proofs.TableSteps.{found_leaf, same_view}
use Rattle.tests_of_tables.proofs.walks.changed.Goals as goal

pub unmap-again-requires-clause-fits : goal.unmap-again-requires-clause-fits
unmap-again-requires-clause-fits c = ([], c.unmap-leaf.ensures.keeps [] c.in_ok-frames.ensures.invariant)

pub unmap-again-requires-clause-held : goal.unmap-again-requires-clause-held
unmap-again-requires-clause-held c =
    let t = c.in_ok-frames.ensures.tables in
    (_, (c.unmap-leaf.ensures.tables t.0 t.1).0)

pub next_leaf_before-next-requires-clause-fits : goal.next_leaf_before-next-requires-clause-fits
next_leaf_before-next-requires-clause-fits c = ([], c.unmap-again.ensures.keeps [] (c.unmap-leaf.ensures.keeps [] c.in_ok-frames.ensures.invariant))

pub next_leaf_before-next-requires-clause-held : goal.next_leaf_before-next-requires-clause-held
next_leaf_before-next-requires-clause-held c =
    let t = c.in_ok-frames.ensures.tables in
    (_, (c.unmap-again.ensures.tables _ (c.unmap-leaf.ensures.tables t.0 t.1).0).0)

pub protect-requires-clause-fits : goal.protect-requires-clause-fits
protect-requires-clause-fits c = ([], c.next_leaf_before-next.ensures.keeps [] (c.unmap-again.ensures.keeps [] (c.unmap-leaf.ensures.keeps [] c.in_ok-frames.ensures.invariant)))

pub protect-requires-clause-mapped : goal.protect-requires-clause-mapped
protect-requires-clause-mapped c =
    let t = c.in_ok-frames.ensures.tables in
    let has = (c.unmap-again.ensures.tables _ (c.unmap-leaf.ensures.tables t.0 t.1).0).0 in
    let u = without_leaf (without_leaf t.0 (walk_leaf c.args.scheme c.page.result)) (walk_leaf c.args.scheme c.page-2.result) in
    (u, same_view _ _ _ _ c.next_leaf_before-next.ensures.view has, found_leaf c.args.scheme u _ _ _ _ c.in-Some.is (c.next_leaf_before-next.ensures.leaf u has))

pub protect-requires-clause-backed : goal.protect-requires-clause-backed
protect-requires-clause-backed c = kernel_backed _ _ c.leaf-new.ensures.made.for_user

pub lookup-first-requires : goal.lookup-first-requires
lookup-first-requires c k table low at =
    let t = c.in_ok-frames.ensures.tables in
    let had = (c.unmap-again.ensures.tables _ (c.unmap-leaf.ensures.tables t.0 t.1).0).0 in
    let has = (c.protect.ensures.tables _ (same_view _ _ _ _ c.next_leaf_before-next.ensures.view had)).0 in
    let rule = c.protect.ensures.keeps [] (c.next_leaf_before-next.ensures.keeps [] (c.unmap-again.ensures.keeps [] (c.unmap-leaf.ensures.keeps [] c.in_ok-frames.ensures.invariant))) in
    (([], rule), c.walks_of_tables.ensures.readable c.args.scheme _ _ 512 _ has k table low (subst (λ (r : ℕ). IsAt c.args.scheme (held_memory c.protect.new.seat) r 512 k table) c.ppn.ensures at))

pub lookup-second-requires : goal.lookup-second-requires
lookup-second-requires c k table low at =
    let t = c.in_ok-frames.ensures.tables in
    let had = (c.unmap-again.ensures.tables _ (c.unmap-leaf.ensures.tables t.0 t.1).0).0 in
    let has = (c.protect.ensures.tables _ (same_view _ _ _ _ c.next_leaf_before-next.ensures.view had)).0 in
    let rule = c.protect.ensures.keeps [] (c.next_leaf_before-next.ensures.keeps [] (c.unmap-again.ensures.keeps [] (c.unmap-leaf.ensures.keeps [] c.in_ok-frames.ensures.invariant))) in
    let stays = c.lookup-first.ensures.stays in
    (([], stays.4 [] rule), c.walks_of_tables.ensures.readable c.args.scheme _ _ 262144 _ (same_view _ _ _ _ stays.3 has) k table low (subst (λ (r : ℕ). IsAt c.args.scheme (held_memory c.lookup-first.new.words.seat.now) r 262144 k table) c.ppn-2.ensures at))
