use Rattle.std.proofs.Common.{◌≡◌, ◌+◌, ◌-◌, arith}
use Rattle.frame_store.specs.StoredRuns.{many_none}
use Rattle.shared_frames.proofs.many_words.clear.Goals as goal

pub groups-init : goal.groups-init
groups-init c =
    let none : c.args.first - c.args.first ≡ 0 = omega arith in
    record {
      fits = c.requires.fits;
      sole = c.requires.sole;
      from = omega arith;
      low = c.requires.in_page;
      view = rw none (many_none _ _ _ _ c.requires.sole);
    }

pub groups-preserved : goal.groups-preserved
groups-preserved c =
    let i = c.groups.invariant in
    let next : c.groups.index + 8 - c.args.first ≡ c.groups.index - c.args.first + 8 = omega (arith, i.from) in
    record {
      fits = c.clear_group.ensures.fits;
      sole = c.clear_group.ensures.sole;
      from = omega (arith, i.from);
      low = omega (arith, i.low, c.groups-test.true);
      view = rw next (c.clear_group.ensures.view _ c.args.first (c.groups.index - c.args.first) (omega (arith, i.from)) i.view);
    }
