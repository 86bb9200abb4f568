use Rattle.shared_frames.specs.SeatsOfTable.{fits_still}
use Rattle.audit_player.proofs.Holdings.{kept_twice, still_held, sizes_agree}
use Rattle.audit_player.proofs.kernel.reserve.Goals as goal

pub returns-in_default-clause-store : goal.returns-in_default-clause-store
returns-in_default-clause-store g c = (fits_still c.args.store.now c.trying.store c.reserve.new.self c.trying.seat c.reserve.new.seat c.trying.invariant.table c.reserve.ensures.keeps c.trying.invariant.fits).0

pub returns-in_default-clause-fits : goal.returns-in_default-clause-fits
returns-in_default-clause-fits g c = (fits_still c.args.store.now c.trying.store c.reserve.new.self c.trying.seat c.reserve.new.seat c.trying.invariant.table c.reserve.ensures.keeps c.trying.invariant.fits).1

pub trying-preserved : goal.trying-preserved
trying-preserved g c =
    let still = fits_still c.args.store.now c.trying.store c.reserve.new.self c.trying.seat c.reserve.new.seat c.trying.invariant.table c.reserve.ensures.keeps c.trying.invariant.fits in
    record {
      goes_on = tt;
      ends = tt;
      table = still.0;
      fits = still.1;
      gains = kept_twice _ _ _ c.trying.invariant.gains (still_held c.args.count _ _ (sizes_agree c.args.store.now c.trying.seat c.reserve.new.seat c.trying.invariant.fits still.1) c.in-Err.ensures.err);
    }
