use Rattle.std.proofs.Common.{◌<◌, sym, arith, ◌≡◌}
use Rattle.address_space.proofs.DroppedLeaf.{anchored_yet, drops_leaf, frame_named, held_yet}
use Rattle.address_space.proofs.DroppedPages.{has_leaf}
use Rattle.address_space.proofs.teardown.drop_leaf.Goals as goal
use Rattle.table_walk.specs.Nodes.{low_leaf}
use Rattle.table_walk.specs.Tables.{leaf_node, walk_leaf}

pub release-requires-clause-held : goal.release-requires-clause-held
release-requires-clause-held g c =
    let r = c.requires.ready in
    let high = c.if-end-number.false in
    let number = c.number.ensures.value in
    let before : c.args.page < c.args.end = omega (arith, high, number) in
    let same : walk_leaf c.args.scheme c.args.page ≡ leaf_node c.args.page = low_leaf c.args.scheme c.args.page (omega (arith, before, c.requires.low)) in
    let leaf = sym (rw same at (c.in-Some.ensures.leaf r.0 r.1 r.3)) in
    let d = r.2 before (has_leaf r.0 _ _ leaf) in
    let names = frame_named c.in-Some.leaf _ _ c.in-Some-from_ppn.frame c.ppn.ensures.value c.from_ppn.ensures c.in-Some-from_ppn.is in
    held_yet _ _ c.args.root.0 r.0 c.args.page _ _ d leaf names (rw same at (c.unmap_with_last.ensures.tables r.0 r.1 r.3)).1

pub release-requires-clause-anchored : goal.release-requires-clause-anchored
release-requires-clause-anchored g c =
    let r = c.requires.ready in
    let high = c.if-end-number.false in
    let number = c.number.ensures.value in
    let before : c.args.page < c.args.end = omega (arith, high, number) in
    let same : walk_leaf c.args.scheme c.args.page ≡ leaf_node c.args.page = low_leaf c.args.scheme c.args.page (omega (arith, before, c.requires.low)) in
    let leaf = sym (rw same at (c.in-Some.ensures.leaf r.0 r.1 r.3)) in
    let d = r.2 before (has_leaf r.0 _ _ leaf) in
    let names = frame_named c.in-Some.leaf _ _ c.in-Some-from_ppn.frame c.ppn.ensures.value c.from_ppn.ensures c.in-Some-from_ppn.is in
    anchored_yet _ _ c.args.root.0 r.0 c.args.page _ _ d leaf names (rw same at (c.unmap_with_last.ensures.tables r.0 r.1 r.3)).1

pub returns-clause-dropped : goal.returns-clause-dropped
returns-clause-dropped g c t h may k =
    let high = c.if-end-number.false in
    let number = c.number.ensures.value in
    let before : c.args.page < c.args.end = omega (arith, high, number) in
    let same : walk_leaf c.args.scheme c.args.page ≡ leaf_node c.args.page = low_leaf c.args.scheme c.args.page (omega (arith, before, c.requires.low)) in
    let leaf = sym (rw same at (c.in-Some.ensures.leaf t h k)) in
    let some = has_leaf t _ _ leaf in
    let d = may before some in
    let names = frame_named c.in-Some.leaf _ _ c.in-Some-from_ppn.frame c.ppn.ensures.value c.from_ppn.ensures c.in-Some-from_ppn.is in
    let unmapped = rw same at (c.unmap_with_last.ensures.tables t h k) in
    (before, some, drops_leaf _ _ c.args.root.0 t c.args.page _ _ d leaf names unmapped.1 _ unmapped.0 c.release.ensures.view)
