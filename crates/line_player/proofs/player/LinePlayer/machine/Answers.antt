use Rattle.line_player.proofs.Still.{in_world}
use Rattle.line_player.proofs.player.LinePlayer.machine.Goals as goal

pub returns-in-Some-clause-world : goal.returns-in-Some-clause-world
returns-in-Some-clause-world c s has = in_world c.args.self.now.machine s.world c.in-Some.machine c.in-Some.is has.machine
