use Rattle.std.proofs.Common.{◌≡◌, ◌+◌, ◌*◌, arith}
use Rattle.frame_store.specs.StoredRuns.{many_none}
use Rattle.shared_frames.proofs.many_words.copy.Goals as goal

pub groups-init : goal.groups-init
groups-init c = record {
  fits = c.requires.fits;
  held = c.requires.held;
  sole = c.requires.sole;
  view = many_none _ _ _ _ c.requires.sole;
}

pub groups-preserved : goal.groups-preserved
groups-preserved c =
    let next : 4 * (c.groups.group + 1) ≡ 4 * c.groups.group + 4 = omega arith in
    record {
      fits = c.copy_group.ensures.fits;
      held = c.copy_group.ensures.held;
      sole = c.copy_group.ensures.sole;
      view = rw next (c.copy_group.ensures.view _ c.requires.known c.groups.invariant.view);
    }
