use Rattle.std.proofs.Common.{arith}
use Rattle.sv39_entry.proofs.Made.{pointer_read}
use Rattle.sv39_entry.proofs.entry.Entry.pointer.Goals as goal

pub returns-clause-made : goal.returns-clause-made
returns-clause-made c = rw (c.ppn.ensures, c.bits.ensures tt) (pointer_read c.args.frame.0 (omega arith))
