use Rattle.std.proofs.Common.{[], None, refl, Some}
use Rattle.fault_rules.specs.PageService.{moment}
use Rattle.user_copy.specs.Runs.{runs}
use Rattle.hart_machine.specs.CopyEffect.{moment_of, plain_store}
use Rattle.hart_machine.proofs.StillThere.{still_there, trapframe_in}
use Rattle.hart_machine.proofs.CopiedRuns.{never_in}
use Rattle.hart_machine.proofs.slot_process.SlotProcess.copy_bytes_in.Goals as goal

pub returns-in-Ok-clause-copied : goal.returns-in-Ok-clause-copied
returns-in-Ok-clause-copied c = record { bytes = c.in-Ok.bytes.items; stop = None; told = refl; copies = c.in-Ok.ensures.copied; quiet = refl }

pub returns-in-Denied-clause-copied : goal.returns-in-Denied-clause-copied
returns-in-Denied-clause-copied c = record { bytes = c.in-Err.short.bytes.items; stop = Some c.in-Denied.rule; told = refl; copies = rw c.in-Denied.is at c.in-Err.ensures.copied; quiet = refl }

pub unreachable-requires : goal.unreachable-requires
unreachable-requires c = never_in _ _ _ _ _ _ (rw c.in-Unpromised.is at c.in-Err.ensures.copied)

pub returns-in-Ok-clause-trapframe : goal.returns-in-Ok-clause-trapframe
returns-in-Ok-clause-trapframe c =
    trapframe_in plain_store (runs c.args.va.0 c.args.count) (moment_of c.args.self.now c.args.frames.now c.args.files.now) (moment c.copy_in.new.space c.copy_in.new.store c.copy_in.new.files) [] c.in-Ok.bytes.items None c.in-Ok.ensures.copied

pub returns-in-Ok-clause-still : goal.returns-in-Ok-clause-still
returns-in-Ok-clause-still c = still_there c.args.self.now c.copy_in.new.space (returns-in-Ok-clause-trapframe c) c.copy_in.ensures.copies.space

pub returns-in-Denied-clause-trapframe : goal.returns-in-Denied-clause-trapframe
returns-in-Denied-clause-trapframe c =
    trapframe_in plain_store (runs c.args.va.0 c.args.count) (moment_of c.args.self.now c.args.frames.now c.args.files.now) (moment c.copy_in.new.space c.copy_in.new.store c.copy_in.new.files) [] c.in-Err.short.bytes.items (Some c.in-Err.short.rule) c.in-Err.ensures.copied

pub returns-in-Denied-clause-still : goal.returns-in-Denied-clause-still
returns-in-Denied-clause-still c = still_there c.args.self.now c.copy_in.new.space (returns-in-Denied-clause-trapframe c) c.copy_in.ensures.copies.space
