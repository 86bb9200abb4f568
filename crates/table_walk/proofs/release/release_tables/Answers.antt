use Rattle.table_walk.specs.TableChanges.{IsTableAt}
use Rattle.table_walk.specs.Tables.{root_node}
use Rattle.table_walk.proofs.Shed.{LetsGoTo, all_gone, all_tallies, others_same, root_anchored, root_held, root_level}
use Rattle.table_walk.proofs.release.release_tables.Given as given
use Rattle.table_walk.proofs.release.release_tables.Goals as goal
use Rattle.table_walk.proofs.release.release_tables.Goals.{After-release_below}

-- the root alone is left
below : (g : given.Over) (c : After-release_below g)
    → LetsGoTo c.args.scheme (g.F.Seat.FrameSeat.view c.args.seat.now) (g.F.Seat.FrameSeat.view c.release_below.new.seat) c.args.root.0 (root_node c.args.scheme) c.requires.bare.0 512
below g c =
    let h = c.requires.bare in
    let at : IsTableAt (root_node c.args.scheme) c.top_level.result = rw c.top_level.ensures.value (root_level c.args.scheme) in
    c.release_below.ensures.below c.args.scheme c.args.root.0 (root_node c.args.scheme) h.0 h.1 h.2 h.1.known.rooted at

pub release-requires-clause-held : goal.release-requires-clause-held
release-requires-clause-held g c =
    let h = c.requires.bare in
    root_held _ _ c.args.root.0 h.0 h.1 h.2 (below g (goal.at.release-requires-clause-held g c).After-release_below)

pub release-requires-clause-anchored : goal.release-requires-clause-anchored
release-requires-clause-anchored g c =
    let h = c.requires.bare in
    root_anchored _ _ c.args.root.0 h.0 h.1 h.2 (below g (goal.at.release-requires-clause-anchored g c).After-release_below)

pub returns-clause-gone : goal.returns-clause-gone
returns-clause-gone g c t has k f at =
    let h = c.requires.bare in
    rw c.release.ensures.view (all_gone _ _ c.args.root.0 h.0 h.1 h.2 (below g (goal.at.returns-clause-gone g c).After-release_below) t has k f at)

pub returns-clause-others : goal.returns-clause-others
returns-clause-others g c t has f not =
    let h = c.requires.bare in
    rw c.release.ensures.view (others_same _ _ c.args.root.0 h.0 h.1 h.2 (below g (goal.at.returns-clause-others g c).After-release_below) t has f not)

pub returns-clause-tallies : goal.returns-clause-tallies
returns-clause-tallies g c =
    let h = c.requires.bare in
    rw c.release.ensures.view (all_tallies _ _ c.args.root.0 h.0 h.1 h.2 (below g (goal.at.returns-clause-tallies g c).After-release_below))

pub release_below-requires-clause-bare : goal.release_below-requires-clause-bare
release_below-requires-clause-bare g c =
    let h = c.requires.bare in
    let at : IsTableAt (root_node c.args.scheme) c.top_level.result = rw c.top_level.ensures.value (root_level c.args.scheme) in
    (c.args.scheme, c.args.root.0, root_node c.args.scheme, h.0, h.1, h.2, h.1.known.rooted, at)
