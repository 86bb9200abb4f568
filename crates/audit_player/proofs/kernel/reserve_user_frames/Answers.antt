use Rattle.shared_frames.specs.SeatsOfTable.{view_of}
use Rattle.audit_player.proofs.SoleHolder.{gains_keep, gains_sole, keeps_then}
use Rattle.audit_player.proofs.kernel.reserve_user_frames.Goals as goal

pub returns-clause-keeps : goal.returns-clause-keeps
returns-clause-keeps g c = keeps_then c.args.count (view_of c.args.seat.now) (view_of c.look_until_sole.new.seat) (view_of c.reserve.new.seat) c.look_until_sole.ensures.keeps (gains_keep c.args.count (view_of c.look_until_sole.new.seat) (view_of c.reserve.new.seat) c.reserve.ensures.gains)

pub returns-clause-sole : goal.returns-clause-sole
returns-clause-sole g c = gains_sole c.args.count (view_of c.look_until_sole.new.seat) (view_of c.reserve.new.seat) c.reserve.ensures.gains c.look_until_sole.ensures.sole
