use Rattle.shared_frames.specs.SeatsOfTable.{fits_still, view_of}
use Rattle.audit_player.proofs.SoleHolder.{keeps_held, keeps_then, looked_keeps, looked_sole}
use Rattle.audit_player.proofs.kernel.look_until_sole.Goals as goal

pub returns-then-look-eq1-clause-fits : goal.returns-then-look-eq1-clause-fits
returns-then-look-eq1-clause-fits g c = (fits_still c.args.store.now c.looking.store c.look.new.self c.looking.seat c.look.new.seat c.looking.invariant.table c.look.ensures.keeps c.looking.invariant.fits).1

pub returns-then-look-eq1-clause-keeps : goal.returns-then-look-eq1-clause-keeps
returns-then-look-eq1-clause-keeps g c = keeps_then 0 (view_of c.args.seat.now) (view_of c.looking.seat) (view_of c.look.new.seat) c.looking.invariant.keeps (looked_keeps c.look.result (view_of c.looking.seat) (view_of c.look.new.seat) c.look.ensures.view)

pub returns-then-look-eq1-clause-sole : goal.returns-then-look-eq1-clause-sole
returns-then-look-eq1-clause-sole g c = looked_sole c.look.result (view_of c.looking.seat) (view_of c.look.new.seat) c.look.ensures.view c.if-look-eq1.true

pub looking-preserved : goal.looking-preserved
looking-preserved g c =
    let i = c.looking.invariant in
    let still = fits_still c.args.store.now c.looking.store c.look.new.self c.looking.seat c.look.new.seat i.table c.look.ensures.keeps i.fits in
    let looked = looked_keeps c.look.result (view_of c.looking.seat) (view_of c.look.new.seat) c.look.ensures.view in
    record {
      goes_on = tt;
      ends = tt;
      table = still.0;
      fits = still.1;
      held = keeps_held 0 (view_of c.looking.seat) (view_of c.look.new.seat) looked i.held;
      keeps = keeps_then 0 (view_of c.args.seat.now) (view_of c.looking.seat) (view_of c.look.new.seat) i.keeps looked;
    }
