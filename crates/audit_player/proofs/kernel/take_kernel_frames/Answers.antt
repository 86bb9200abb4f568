use Rattle.std.proofs.Common.{◌-◌, rules}
use Rattle.shared_frames.specs.SeatsOfTable.{fits_still}
use Rattle.audit_player.proofs.Holdings.{kernel_begins, kernel_takes}
use Rattle.audit_player.proofs.kernel.take_kernel_frames.Goals as goal

pub taking-init : goal.taking-init
taking-init g c = record {
  table = search rules;
  fits = search rules;
  holds = kernel_begins c.args.frames.now.table c.args.seat.now c.reserve.new.seat (c.args.count - 1) c.args.frames.now.frames c.requires.opening c.requires.fits c.reserve.ensures.gains;
}

pub taking-preserved : goal.taking-preserved
taking-preserved g c =
    let i = c.taking.invariant in
    let still = fits_still c.args.frames.now.table c.taking.store c.claim.new.self c.taking.seat c.claim.new.seat i.table c.claim.ensures.keeps i.fits in
    record {
      table = still.0;
      fits = still.1;
      holds = kernel_takes c.args.frames.now.table c.taking.seat c.claim.new.seat c.taking.counter c.args.count c.claim.result.0 c.taking-test.true i.holds c.claim.ensures.fresh c.claim.ensures.view i.fits still.1;
    }
