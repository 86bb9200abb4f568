use Rattle.walk_lines.proofs.Wide.{filled}
use Rattle.walk_lines.proofs.lines.WideDisplay.fmt.Goals as goal

pub returns-clause-writes : goal.returns-clause-writes
returns-clause-writes g c =
    let writes = rw (c.laid_out.ensures, c.in_radix.ensures) at c.write.ensures.writes in
    rw (← filled) writes
