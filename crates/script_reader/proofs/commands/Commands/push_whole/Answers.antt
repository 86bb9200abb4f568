use Rattle.std.proofs.Common.{arith, ◌≡◌, length}
use Rattle.script_reader.proofs.Unpacking.{whole_pushed}
use Rattle.script_reader.proofs.commands.Commands.push_whole.Goals as goal

pub returns-clause-pushed : goal.returns-clause-pushed
returns-clause-pushed c =
    let was = c.self.inside in
    let place : c.len-place.result ≡ length was.whole.items = omega (arith, c.len-place.ensures) in
    rw (← c.self.view_is) (whole_pushed was.whole.items c.push.new.self.items was.packed.items c.push_reserved.new.self.items c.len-place.result c.args.line place c.in_ok-push.ensures.items (rw c.in_ok-reserve.ensures.items at c.push_reserved.ensures.items) c.self.invariant)
