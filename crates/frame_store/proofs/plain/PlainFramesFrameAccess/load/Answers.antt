use Rattle.std.proofs.Common.{arith}
use Rattle.std.proofs.lemmas.Grind.{common_steps}
use Rattle.frame_store.proofs.plain.PlainFramesFrameAccess.load.Goals as goal

pub returns-clause-known : goal.returns-clause-known
returns-clause-known c = λ w e. let k = (c.requires.fits.1.agrees.0 c.args.frame.0).known c.args.index w e in grind (arith, common_steps, k.1)
