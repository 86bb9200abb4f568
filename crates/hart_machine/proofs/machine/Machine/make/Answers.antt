use Rattle.std.proofs.Common.{◌∙◌, ℤ, None, ap, refl, rules, subst, sym, w32, w64}
use Rattle.std.proofs.lemmas.Int.{to_z-of_z}
use mir.Val.{SFits}
use Rattle.address_space.specs.declared.user_access.AccessRequest.{AccessRequest}
use Rattle.process_model.specs.declared.reply.Reply.TheVariants.{Scalar}
use Rattle.process_model.specs.ScalarReplies.{is_scalar}
use Rattle.process_model.specs.Service.{access_step}
use Rattle.process_model.specs.Steps.{plain_step}
use Rattle.process_model.specs.declared.step.Step.TheVariants as step
use Rattle.hart_machine.specs.Marks.{AreMarked}
use Rattle.hart_machine.specs.Worlds.{KeepsTables, IsModelOutcome}
use Rattle.hart_machine.proofs.BufferChanges.{are_of, same_are}
use Rattle.hart_machine.proofs.KeptTables.{same_places, same_tables}
use Rattle.hart_machine.proofs.StepShapes.{exit_quiet}
use Rattle.hart_machine.proofs.StepsMade.{keeps_by, made_by, marked_by, quiet_marks}
use Rattle.hart_machine.proofs.machine.Machine.make.Goals as goal

pub returns-in-Start-clause-made : goal.returns-in-Start-clause-made
returns-in-Start-clause-made c w buffered =
    (made_by c.start.new.self (Scalar c.start.result.reply) w (step.Start c.in-Start.image) _ c.in-Start.is (c.start.ensures.made w (buffered.world)))

pub returns-in-Start-clause-changed : goal.returns-in-Start-clause-changed
returns-in-Start-clause-changed c w buffered =
    marked_by w (step.Start c.in-Start.image) _ c.in-Start.is c.start.result.changed c.start.result.born (c.start.ensures.changed w (buffered.world))

pub returns-in-Start-clause-tables : goal.returns-in-Start-clause-tables
returns-in-Start-clause-tables c w buffered =
    keeps_by c.args.self.now c.start.new.self w (step.Start c.in-Start.image) _ c.in-Start.is (c.start.ensures.tables w (buffered.world))

pub returns-in-Start-clause-each_buffer : goal.returns-in-Start-clause-each_buffer
returns-in-Start-clause-each_buffer c w buffered =
    (are_of c.args.self.now c.start.new.self (buffered.world).tables (buffered.world).kernel (Scalar c.start.result.reply) c.in-Start.is (same_are c.args.self.now c.start.new.self (buffered.world).tables (buffered.world).kernel (step.Start c.in-Start.image) (Scalar c.start.result.reply) (λ h. refl) c.start.ensures.buffers))

pub returns-in-Switch-clause-made : goal.returns-in-Switch-clause-made
returns-in-Switch-clause-made c w buffered =
    rw c.without_change.ensures (made_by c.switch.new.self (Scalar c.switch.result) w (step.Switch c.in-Switch.hart c.in-Switch.slot) _ c.in-Switch.is (c.switch.ensures.made w (buffered.world)))

pub returns-in-Switch-clause-changed : goal.returns-in-Switch-clause-changed
returns-in-Switch-clause-changed c w buffered = rw c.without_change.ensures (quiet_marks w (step.Switch c.in-Switch.hart c.in-Switch.slot) _ c.in-Switch.is refl)

pub returns-in-Switch-clause-tables : goal.returns-in-Switch-clause-tables
returns-in-Switch-clause-tables c w buffered =
    keeps_by c.args.self.now c.switch.new.self w (step.Switch c.in-Switch.hart c.in-Switch.slot) _ c.in-Switch.is (same_places c.args.self.now c.switch.new.self _ _ c.switch.ensures.places)

pub returns-in-Switch-clause-each_buffer : goal.returns-in-Switch-clause-each_buffer
returns-in-Switch-clause-each_buffer c w buffered =
    rw c.without_change.ensures (are_of c.args.self.now c.switch.new.self (buffered.world).tables (buffered.world).kernel (Scalar c.switch.result) c.in-Switch.is (same_are c.args.self.now c.switch.new.self (buffered.world).tables (buffered.world).kernel (step.Switch c.in-Switch.hart c.in-Switch.slot) (Scalar c.switch.result) (λ h. refl) c.switch.ensures.buffers))

pub returns-in-Trap-clause-made : goal.returns-in-Trap-clause-made
returns-in-Trap-clause-made c w buffered =
    rw c.without_change-in-Trap.ensures (made_by c.trap.new.self (Scalar c.trap.result) w (step.Trap c.in-Trap.hart) _ c.in-Trap.is (c.trap.ensures.made w (buffered.world)))

pub returns-in-Trap-clause-changed : goal.returns-in-Trap-clause-changed
returns-in-Trap-clause-changed c w buffered = rw c.without_change-in-Trap.ensures (quiet_marks w (step.Trap c.in-Trap.hart) _ c.in-Trap.is refl)

pub returns-in-Trap-clause-tables : goal.returns-in-Trap-clause-tables
returns-in-Trap-clause-tables c w buffered =
    keeps_by c.args.self.now c.trap.new.self w (step.Trap c.in-Trap.hart) _ c.in-Trap.is (same_tables c.args.self.now c.trap.new.self _ _ c.trap.ensures.same_tables)

pub returns-in-Trap-clause-each_buffer : goal.returns-in-Trap-clause-each_buffer
returns-in-Trap-clause-each_buffer c w buffered =
    rw c.without_change-in-Trap.ensures (are_of c.args.self.now c.trap.new.self (buffered.world).tables (buffered.world).kernel (Scalar c.trap.result) c.in-Trap.is (same_are c.args.self.now c.trap.new.self (buffered.world).tables (buffered.world).kernel (step.Trap c.in-Trap.hart) (Scalar c.trap.result) (λ h. refl) c.trap.ensures.buffers))

pub returns-in-Next-clause-made : goal.returns-in-Next-clause-made
returns-in-Next-clause-made c w buffered =
    rw c.without_change-in-Next.ensures (made_by c.next.new.self (Scalar c.next.result) w (step.Next c.in-Next.hart) _ c.in-Next.is (c.next.ensures.made w (buffered.world)))

pub returns-in-Next-clause-changed : goal.returns-in-Next-clause-changed
returns-in-Next-clause-changed c w buffered = rw c.without_change-in-Next.ensures (quiet_marks w (step.Next c.in-Next.hart) _ c.in-Next.is refl)

pub returns-in-Next-clause-tables : goal.returns-in-Next-clause-tables
returns-in-Next-clause-tables c w buffered =
    keeps_by c.args.self.now c.next.new.self w (step.Next c.in-Next.hart) _ c.in-Next.is (same_places c.args.self.now c.next.new.self _ _ c.next.ensures.places)

pub returns-in-Next-clause-each_buffer : goal.returns-in-Next-clause-each_buffer
returns-in-Next-clause-each_buffer c w buffered =
    rw c.without_change-in-Next.ensures (are_of c.args.self.now c.next.new.self (buffered.world).tables (buffered.world).kernel (Scalar c.next.result) c.in-Next.is (c.next.ensures.entries w buffered.world))

pub returns-in-Fill-clause-made : goal.returns-in-Fill-clause-made
returns-in-Fill-clause-made c w buffered =
    rw c.without_change-in-Fill.ensures (made_by c.fill.new.self (Scalar c.fill.result) w (step.Fill c.in-Fill.hart c.in-Fill.address) _ c.in-Fill.is (c.fill.ensures.made w (buffered.world)))

pub returns-in-Fill-clause-changed : goal.returns-in-Fill-clause-changed
returns-in-Fill-clause-changed c w buffered = rw c.without_change-in-Fill.ensures (quiet_marks w (step.Fill c.in-Fill.hart c.in-Fill.address) _ c.in-Fill.is refl)

pub returns-in-Fill-clause-tables : goal.returns-in-Fill-clause-tables
returns-in-Fill-clause-tables c w buffered =
    keeps_by c.args.self.now c.fill.new.self w (step.Fill c.in-Fill.hart c.in-Fill.address) _ c.in-Fill.is (same_places c.args.self.now c.fill.new.self _ _ c.fill.ensures.places)

pub returns-in-Fill-clause-each_buffer : goal.returns-in-Fill-clause-each_buffer
returns-in-Fill-clause-each_buffer c w buffered =
    rw c.without_change-in-Fill.ensures (are_of c.args.self.now c.fill.new.self (buffered.world).tables (buffered.world).kernel (Scalar c.fill.result) c.in-Fill.is (c.fill.ensures.entries w buffered.world))

pub returns-in-Evict-clause-made : goal.returns-in-Evict-clause-made
returns-in-Evict-clause-made c w buffered =
    rw c.without_change-in-Evict.ensures (made_by c.evict.new.self (Scalar c.evict.result) w (step.Evict c.in-Evict.hart c.in-Evict.entry) _ c.in-Evict.is (c.evict.ensures.made w (buffered.world)))

pub returns-in-Evict-clause-changed : goal.returns-in-Evict-clause-changed
returns-in-Evict-clause-changed c w buffered = rw c.without_change-in-Evict.ensures (quiet_marks w (step.Evict c.in-Evict.hart c.in-Evict.entry) _ c.in-Evict.is refl)

pub returns-in-Evict-clause-tables : goal.returns-in-Evict-clause-tables
returns-in-Evict-clause-tables c w buffered =
    keeps_by c.args.self.now c.evict.new.self w (step.Evict c.in-Evict.hart c.in-Evict.entry) _ c.in-Evict.is (same_places c.args.self.now c.evict.new.self _ _ c.evict.ensures.places)

pub returns-in-Evict-clause-each_buffer : goal.returns-in-Evict-clause-each_buffer
returns-in-Evict-clause-each_buffer c w buffered =
    rw c.without_change-in-Evict.ensures (are_of c.args.self.now c.evict.new.self (buffered.world).tables (buffered.world).kernel (Scalar c.evict.result) c.in-Evict.is (c.evict.ensures.entries w buffered.world))

pub returns-in-Fetch-clause-made : goal.returns-in-Fetch-clause-made
returns-in-Fetch-clause-made c w buffered =
    rw c.without_change-in-Fetch.ensures (made_by c.access.new.self (Scalar c.access.result) w (step.Fetch c.in-Fetch.hart c.in-Fetch.address c.in-Fetch.via) _ c.in-Fetch.is (subst (λ (a : AccessRequest). IsModelOutcome c.access.new.self (Scalar c.access.result) (access_step w c.in-Fetch.hart a.access a.va.0 a.width a.value c.in-Fetch.via)) c.new.ensures (c.access.ensures.made w (buffered))))

pub returns-in-Fetch-clause-changed : goal.returns-in-Fetch-clause-changed
returns-in-Fetch-clause-changed c w buffered = rw c.without_change-in-Fetch.ensures (quiet_marks w (step.Fetch c.in-Fetch.hart c.in-Fetch.address c.in-Fetch.via) _ c.in-Fetch.is refl)

pub returns-in-Fetch-clause-tables : goal.returns-in-Fetch-clause-tables
returns-in-Fetch-clause-tables c w buffered =
    keeps_by c.args.self.now c.access.new.self w (step.Fetch c.in-Fetch.hart c.in-Fetch.address c.in-Fetch.via) _ c.in-Fetch.is (same_tables c.args.self.now c.access.new.self _ _ c.access.ensures.same_tables)

pub returns-in-Fetch-clause-each_buffer : goal.returns-in-Fetch-clause-each_buffer
returns-in-Fetch-clause-each_buffer c w buffered =
    rw c.without_change-in-Fetch.ensures (are_of c.args.self.now c.access.new.self (buffered.world).tables (buffered.world).kernel (Scalar c.access.result) c.in-Fetch.is (same_are c.args.self.now c.access.new.self (buffered.world).tables (buffered.world).kernel (step.Fetch c.in-Fetch.hart c.in-Fetch.address c.in-Fetch.via) (Scalar c.access.result) (λ h. refl) c.access.ensures.buffers))

pub returns-in-Load-clause-made : goal.returns-in-Load-clause-made
returns-in-Load-clause-made c w buffered =
    rw c.without_change-in-Load.ensures (made_by c.access-in-Load.new.self (Scalar c.access-in-Load.result) w (step.Load c.in-Load.hart c.in-Load.address c.in-Load.width c.in-Load.via) _ c.in-Load.is (subst (λ (a : AccessRequest). IsModelOutcome c.access-in-Load.new.self (Scalar c.access-in-Load.result) (access_step w c.in-Load.hart a.access a.va.0 a.width a.value c.in-Load.via)) c.new-in-Load.ensures (c.access-in-Load.ensures.made w (buffered))))

pub returns-in-Load-clause-changed : goal.returns-in-Load-clause-changed
returns-in-Load-clause-changed c w buffered = rw c.without_change-in-Load.ensures (quiet_marks w (step.Load c.in-Load.hart c.in-Load.address c.in-Load.width c.in-Load.via) _ c.in-Load.is refl)

pub returns-in-Load-clause-tables : goal.returns-in-Load-clause-tables
returns-in-Load-clause-tables c w buffered =
    keeps_by c.args.self.now c.access-in-Load.new.self w (step.Load c.in-Load.hart c.in-Load.address c.in-Load.width c.in-Load.via) _ c.in-Load.is (same_tables c.args.self.now c.access-in-Load.new.self _ _ c.access-in-Load.ensures.same_tables)

pub returns-in-Load-clause-each_buffer : goal.returns-in-Load-clause-each_buffer
returns-in-Load-clause-each_buffer c w buffered =
    rw c.without_change-in-Load.ensures (are_of c.args.self.now c.access-in-Load.new.self (buffered.world).tables (buffered.world).kernel (Scalar c.access-in-Load.result) c.in-Load.is (same_are c.args.self.now c.access-in-Load.new.self (buffered.world).tables (buffered.world).kernel (step.Load c.in-Load.hart c.in-Load.address c.in-Load.width c.in-Load.via) (Scalar c.access-in-Load.result) (λ h. refl) c.access-in-Load.ensures.buffers))

pub returns-in-Store-clause-made : goal.returns-in-Store-clause-made
returns-in-Store-clause-made c w buffered =
    rw c.without_change-in-Store.ensures (made_by c.access-in-Store.new.self (Scalar c.access-in-Store.result) w (step.Store c.in-Store.hart c.in-Store.address c.in-Store.width c.in-Store.value c.in-Store.via) _ c.in-Store.is (subst (λ (a : AccessRequest). IsModelOutcome c.access-in-Store.new.self (Scalar c.access-in-Store.result) (access_step w c.in-Store.hart a.access a.va.0 a.width a.value c.in-Store.via)) c.new-in-Store.ensures (c.access-in-Store.ensures.made w (buffered))))

pub returns-in-Store-clause-changed : goal.returns-in-Store-clause-changed
returns-in-Store-clause-changed c w buffered = rw c.without_change-in-Store.ensures (quiet_marks w (step.Store c.in-Store.hart c.in-Store.address c.in-Store.width c.in-Store.value c.in-Store.via) _ c.in-Store.is refl)

pub returns-in-Store-clause-tables : goal.returns-in-Store-clause-tables
returns-in-Store-clause-tables c w buffered =
    keeps_by c.args.self.now c.access-in-Store.new.self w (step.Store c.in-Store.hart c.in-Store.address c.in-Store.width c.in-Store.value c.in-Store.via) _ c.in-Store.is (same_tables c.args.self.now c.access-in-Store.new.self _ _ c.access-in-Store.ensures.same_tables)

pub returns-in-Store-clause-each_buffer : goal.returns-in-Store-clause-each_buffer
returns-in-Store-clause-each_buffer c w buffered =
    rw c.without_change-in-Store.ensures (are_of c.args.self.now c.access-in-Store.new.self (buffered.world).tables (buffered.world).kernel (Scalar c.access-in-Store.result) c.in-Store.is (same_are c.args.self.now c.access-in-Store.new.self (buffered.world).tables (buffered.world).kernel (step.Store c.in-Store.hart c.in-Store.address c.in-Store.width c.in-Store.value c.in-Store.via) (Scalar c.access-in-Store.result) (λ h. refl) c.access-in-Store.ensures.buffers))

pub returns-in-TrampolineFetch-clause-made : goal.returns-in-TrampolineFetch-clause-made
returns-in-TrampolineFetch-clause-made c w buffered =
    rw c.without_change-in-TrampolineFetch.ensures (made_by c.fetch_trampoline.new.self (Scalar c.fetch_trampoline.result) w (step.TrampolineFetch c.in-TrampolineFetch.hart c.in-TrampolineFetch.offset c.in-TrampolineFetch.via) _ c.in-TrampolineFetch.is (c.fetch_trampoline.ensures.made w (buffered)))

pub returns-in-TrampolineFetch-clause-changed : goal.returns-in-TrampolineFetch-clause-changed
returns-in-TrampolineFetch-clause-changed c w buffered = rw c.without_change-in-TrampolineFetch.ensures (quiet_marks w (step.TrampolineFetch c.in-TrampolineFetch.hart c.in-TrampolineFetch.offset c.in-TrampolineFetch.via) _ c.in-TrampolineFetch.is refl)

pub returns-in-TrampolineFetch-clause-tables : goal.returns-in-TrampolineFetch-clause-tables
returns-in-TrampolineFetch-clause-tables c w buffered =
    keeps_by c.args.self.now c.fetch_trampoline.new.self w (step.TrampolineFetch c.in-TrampolineFetch.hart c.in-TrampolineFetch.offset c.in-TrampolineFetch.via) _ c.in-TrampolineFetch.is (same_places c.args.self.now c.fetch_trampoline.new.self _ _ c.fetch_trampoline.ensures.places)

pub returns-in-TrampolineFetch-clause-each_buffer : goal.returns-in-TrampolineFetch-clause-each_buffer
returns-in-TrampolineFetch-clause-each_buffer c w buffered =
    rw c.without_change-in-TrampolineFetch.ensures (are_of c.args.self.now c.fetch_trampoline.new.self (buffered.world).tables (buffered.world).kernel (Scalar c.fetch_trampoline.result) c.in-TrampolineFetch.is (same_are c.args.self.now c.fetch_trampoline.new.self (buffered.world).tables (buffered.world).kernel (step.TrampolineFetch c.in-TrampolineFetch.hart c.in-TrampolineFetch.offset c.in-TrampolineFetch.via) (Scalar c.fetch_trampoline.result) (λ h. refl) c.fetch_trampoline.ensures.buffers))

pub returns-in-Serve-clause-made : goal.returns-in-Serve-clause-made
returns-in-Serve-clause-made c w buffered =
    (made_by c.serve.new.self (Scalar c.serve.result.reply) w (step.Serve c.in-Serve.hart) _ c.in-Serve.is (c.serve.ensures.made w (buffered.world)))

pub returns-in-Serve-clause-changed : goal.returns-in-Serve-clause-changed
returns-in-Serve-clause-changed c w buffered =
    marked_by w (step.Serve c.in-Serve.hart) _ c.in-Serve.is c.serve.result.changed c.serve.result.born (c.serve.ensures.changed w (buffered.world))

pub returns-in-Serve-clause-tables : goal.returns-in-Serve-clause-tables
returns-in-Serve-clause-tables c w buffered =
    keeps_by c.args.self.now c.serve.new.self w (step.Serve c.in-Serve.hart) _ c.in-Serve.is (c.serve.ensures.tables w (buffered.world))

pub returns-in-Serve-clause-each_buffer : goal.returns-in-Serve-clause-each_buffer
returns-in-Serve-clause-each_buffer c w buffered =
    (are_of c.args.self.now c.serve.new.self (buffered.world).tables (buffered.world).kernel (Scalar c.serve.result.reply) c.in-Serve.is (same_are c.args.self.now c.serve.new.self (buffered.world).tables (buffered.world).kernel (step.Serve c.in-Serve.hart) (Scalar c.serve.result.reply) (λ h. refl) c.serve.ensures.buffers))

pub returns-in-Fork-clause-made : goal.returns-in-Fork-clause-made
returns-in-Fork-clause-made c w buffered =
    (made_by c.fork.new.self (Scalar c.fork.result.reply) w (step.Fork c.in-Fork.hart) _ c.in-Fork.is (c.fork.ensures.made w (buffered.world)))

pub returns-in-Fork-clause-changed : goal.returns-in-Fork-clause-changed
returns-in-Fork-clause-changed c w buffered =
    marked_by w (step.Fork c.in-Fork.hart) _ c.in-Fork.is c.fork.result.changed c.fork.result.born (c.fork.ensures.changed w (buffered.world))

pub returns-in-Fork-clause-tables : goal.returns-in-Fork-clause-tables
returns-in-Fork-clause-tables c w buffered =
    keeps_by c.args.self.now c.fork.new.self w (step.Fork c.in-Fork.hart) _ c.in-Fork.is (c.fork.ensures.tables w (buffered.world))

pub returns-in-Fork-clause-each_buffer : goal.returns-in-Fork-clause-each_buffer
returns-in-Fork-clause-each_buffer c w buffered =
    (are_of c.args.self.now c.fork.new.self (buffered.world).tables (buffered.world).kernel (Scalar c.fork.result.reply) c.in-Fork.is (same_are c.args.self.now c.fork.new.self (buffered.world).tables (buffered.world).kernel (step.Fork c.in-Fork.hart) (Scalar c.fork.result.reply) (λ h. refl) c.fork.ensures.buffers))

pub returns-in-Exec-clause-made : goal.returns-in-Exec-clause-made
returns-in-Exec-clause-made c w buffered =
    (made_by c.exec.new.self (Scalar c.exec.result.reply) w (step.Exec c.in-Exec.hart c.in-Exec.image) _ c.in-Exec.is (c.exec.ensures.made w (buffered.world)))

pub returns-in-Exec-clause-changed : goal.returns-in-Exec-clause-changed
returns-in-Exec-clause-changed c w buffered =
    marked_by w (step.Exec c.in-Exec.hart c.in-Exec.image) _ c.in-Exec.is c.exec.result.changed c.exec.result.born (c.exec.ensures.changed w (buffered.world))

pub returns-in-Exec-clause-tables : goal.returns-in-Exec-clause-tables
returns-in-Exec-clause-tables c w buffered =
    keeps_by c.args.self.now c.exec.new.self w (step.Exec c.in-Exec.hart c.in-Exec.image) _ c.in-Exec.is (c.exec.ensures.tables w (buffered.world))

pub returns-in-Exec-clause-each_buffer : goal.returns-in-Exec-clause-each_buffer
returns-in-Exec-clause-each_buffer c w buffered =
    (are_of c.args.self.now c.exec.new.self (buffered.world).tables (buffered.world).kernel (Scalar c.exec.result.reply) c.in-Exec.is (same_are c.args.self.now c.exec.new.self (buffered.world).tables (buffered.world).kernel (step.Exec c.in-Exec.hart c.in-Exec.image) (Scalar c.exec.result.reply) (λ h. refl) c.exec.ensures.buffers))

pub returns-in-Sbrk-clause-made : goal.returns-in-Sbrk-clause-made
returns-in-Sbrk-clause-made c w buffered =
    let fits : SFits w64 c.in-Sbrk.delta = search rules in
    (made_by c.sbrk.new.self (Scalar c.sbrk.result.reply) w (step.Sbrk c.in-Sbrk.hart c.in-Sbrk.delta) _ c.in-Sbrk.is (subst (λ (z : ℤ). IsModelOutcome c.sbrk.new.self (Scalar c.sbrk.result.reply) (plain_step w (step.Sbrk c.in-Sbrk.hart z))) (to_z-of_z w64 c.in-Sbrk.delta fits) (c.sbrk.ensures.made w (buffered.world))))

pub returns-in-Sbrk-clause-changed : goal.returns-in-Sbrk-clause-changed
returns-in-Sbrk-clause-changed c w buffered =
    let fits : SFits w64 c.in-Sbrk.delta = search rules in
    marked_by w (step.Sbrk c.in-Sbrk.hart c.in-Sbrk.delta) _ c.in-Sbrk.is c.sbrk.result.changed c.sbrk.result.born (subst (λ (z : ℤ). AreMarked w (plain_step w (step.Sbrk c.in-Sbrk.hart z)) c.sbrk.result.changed c.sbrk.result.born) (to_z-of_z w64 c.in-Sbrk.delta fits) (c.sbrk.ensures.changed w (buffered.world)))

pub returns-in-Sbrk-clause-tables : goal.returns-in-Sbrk-clause-tables
returns-in-Sbrk-clause-tables c w buffered =
    let fits : SFits w64 c.in-Sbrk.delta = search rules in
    keeps_by c.args.self.now c.sbrk.new.self w (step.Sbrk c.in-Sbrk.hart c.in-Sbrk.delta) _ c.in-Sbrk.is (subst (λ (z : ℤ). KeepsTables c.args.self.now c.sbrk.new.self w.slots (plain_step w (step.Sbrk c.in-Sbrk.hart z)).world.slots) (to_z-of_z w64 c.in-Sbrk.delta fits) (c.sbrk.ensures.tables w (buffered.world)))

pub returns-in-Sbrk-clause-each_buffer : goal.returns-in-Sbrk-clause-each_buffer
returns-in-Sbrk-clause-each_buffer c w buffered =
    (are_of c.args.self.now c.sbrk.new.self (buffered.world).tables (buffered.world).kernel (Scalar c.sbrk.result.reply) c.in-Sbrk.is (same_are c.args.self.now c.sbrk.new.self (buffered.world).tables (buffered.world).kernel (step.Sbrk c.in-Sbrk.hart c.in-Sbrk.delta) (Scalar c.sbrk.result.reply) (λ h. refl) c.sbrk.ensures.buffers))

pub returns-in-Mmap-clause-made : goal.returns-in-Mmap-clause-made
returns-in-Mmap-clause-made c w buffered =
    rw c.without_change-in-Mmap.ensures (made_by c.mmap.new.self (Scalar c.mmap.result) w (step.Mmap c.in-Mmap.hart c.in-Mmap.length c.in-Mmap.protection c.in-Mmap.flags c.in-Mmap.file) _ c.in-Mmap.is (c.mmap.ensures.made w (buffered.world)))

pub returns-in-Mmap-clause-changed : goal.returns-in-Mmap-clause-changed
returns-in-Mmap-clause-changed c w buffered = rw c.without_change-in-Mmap.ensures (quiet_marks w (step.Mmap c.in-Mmap.hart c.in-Mmap.length c.in-Mmap.protection c.in-Mmap.flags c.in-Mmap.file) _ c.in-Mmap.is refl)

pub returns-in-Mmap-clause-tables : goal.returns-in-Mmap-clause-tables
returns-in-Mmap-clause-tables c w buffered =
    keeps_by c.args.self.now c.mmap.new.self w (step.Mmap c.in-Mmap.hart c.in-Mmap.length c.in-Mmap.protection c.in-Mmap.flags c.in-Mmap.file) _ c.in-Mmap.is (same_tables c.args.self.now c.mmap.new.self _ _ c.mmap.ensures.same_tables)

pub returns-in-Mmap-clause-each_buffer : goal.returns-in-Mmap-clause-each_buffer
returns-in-Mmap-clause-each_buffer c w buffered =
    rw c.without_change-in-Mmap.ensures (are_of c.args.self.now c.mmap.new.self (buffered.world).tables (buffered.world).kernel (Scalar c.mmap.result) c.in-Mmap.is (same_are c.args.self.now c.mmap.new.self (buffered.world).tables (buffered.world).kernel (step.Mmap c.in-Mmap.hart c.in-Mmap.length c.in-Mmap.protection c.in-Mmap.flags c.in-Mmap.file) (Scalar c.mmap.result) (λ h. refl) c.mmap.ensures.buffers))

pub returns-in-Munmap-clause-made : goal.returns-in-Munmap-clause-made
returns-in-Munmap-clause-made c w buffered =
    (made_by c.munmap.new.self (Scalar c.munmap.result.reply) w (step.Munmap c.in-Munmap.hart c.in-Munmap.address c.in-Munmap.length) _ c.in-Munmap.is (c.munmap.ensures.made w (buffered.world)))

pub returns-in-Munmap-clause-changed : goal.returns-in-Munmap-clause-changed
returns-in-Munmap-clause-changed c w buffered =
    marked_by w (step.Munmap c.in-Munmap.hart c.in-Munmap.address c.in-Munmap.length) _ c.in-Munmap.is c.munmap.result.changed c.munmap.result.born (c.munmap.ensures.changed w (buffered.world))

pub returns-in-Munmap-clause-tables : goal.returns-in-Munmap-clause-tables
returns-in-Munmap-clause-tables c w buffered =
    keeps_by c.args.self.now c.munmap.new.self w (step.Munmap c.in-Munmap.hart c.in-Munmap.address c.in-Munmap.length) _ c.in-Munmap.is (c.munmap.ensures.tables w (buffered.world))

pub returns-in-Munmap-clause-each_buffer : goal.returns-in-Munmap-clause-each_buffer
returns-in-Munmap-clause-each_buffer c w buffered =
    (are_of c.args.self.now c.munmap.new.self (buffered.world).tables (buffered.world).kernel (Scalar c.munmap.result.reply) c.in-Munmap.is (same_are c.args.self.now c.munmap.new.self (buffered.world).tables (buffered.world).kernel (step.Munmap c.in-Munmap.hart c.in-Munmap.address c.in-Munmap.length) (Scalar c.munmap.result.reply) (λ h. refl) c.munmap.ensures.buffers))

pub returns-in-CopyOut-clause-made : goal.returns-in-CopyOut-clause-made
returns-in-CopyOut-clause-made c w buffered =
    (made_by c.copy_out.new.self (Scalar c.copy_out.result.reply) w (step.CopyOut c.in-CopyOut.hart c.in-CopyOut.address c.in-CopyOut.bytes) _ c.in-CopyOut.is (c.copy_out.ensures.made w (buffered.world)))

pub returns-in-CopyOut-clause-changed : goal.returns-in-CopyOut-clause-changed
returns-in-CopyOut-clause-changed c w buffered =
    marked_by w (step.CopyOut c.in-CopyOut.hart c.in-CopyOut.address c.in-CopyOut.bytes) _ c.in-CopyOut.is c.copy_out.result.changed c.copy_out.result.born (c.copy_out.ensures.changed w (buffered.world))

pub returns-in-CopyOut-clause-tables : goal.returns-in-CopyOut-clause-tables
returns-in-CopyOut-clause-tables c w buffered =
    keeps_by c.args.self.now c.copy_out.new.self w (step.CopyOut c.in-CopyOut.hart c.in-CopyOut.address c.in-CopyOut.bytes) _ c.in-CopyOut.is (c.copy_out.ensures.tables w (buffered.world))

pub returns-in-CopyOut-clause-each_buffer : goal.returns-in-CopyOut-clause-each_buffer
returns-in-CopyOut-clause-each_buffer c w buffered =
    (are_of c.args.self.now c.copy_out.new.self (buffered.world).tables (buffered.world).kernel (Scalar c.copy_out.result.reply) c.in-CopyOut.is (same_are c.args.self.now c.copy_out.new.self (buffered.world).tables (buffered.world).kernel (step.CopyOut c.in-CopyOut.hart c.in-CopyOut.address c.in-CopyOut.bytes) (Scalar c.copy_out.result.reply) (λ h. refl) c.copy_out.ensures.buffers))

pub returns-in-Exit-clause-made : goal.returns-in-Exit-clause-made
returns-in-Exit-clause-made c w buffered =
    let fits : SFits w32 c.in-Exit.status = search rules in
    rw c.without_change-in-Exit.ensures (made_by c.exit.new.self (Scalar c.exit.result) w (step.Exit c.in-Exit.hart c.in-Exit.status) _ c.in-Exit.is (subst (λ (z : ℤ). IsModelOutcome c.exit.new.self (Scalar c.exit.result) (plain_step w (step.Exit c.in-Exit.hart z))) (to_z-of_z w32 c.in-Exit.status fits) (c.exit.ensures.made w (buffered.world))))

pub returns-in-Exit-clause-changed : goal.returns-in-Exit-clause-changed
returns-in-Exit-clause-changed c w buffered =
    rw c.without_change-in-Exit.ensures (marked_by w (step.Exit c.in-Exit.hart c.in-Exit.status) _ c.in-Exit.is None None (λ n. exit_quiet w c.in-Exit.hart c.in-Exit.status n))

pub returns-in-Exit-clause-tables : goal.returns-in-Exit-clause-tables
returns-in-Exit-clause-tables c w buffered =
    let fits : SFits w32 c.in-Exit.status = search rules in
    keeps_by c.args.self.now c.exit.new.self w (step.Exit c.in-Exit.hart c.in-Exit.status) _ c.in-Exit.is (subst (λ (z : ℤ). KeepsTables c.args.self.now c.exit.new.self w.slots (plain_step w (step.Exit c.in-Exit.hart z)).world.slots) (to_z-of_z w32 c.in-Exit.status fits) (c.exit.ensures.tables w (buffered.world)))

pub returns-in-Exit-clause-each_buffer : goal.returns-in-Exit-clause-each_buffer
returns-in-Exit-clause-each_buffer c w buffered =
    rw c.without_change-in-Exit.ensures (are_of c.args.self.now c.exit.new.self (buffered.world).tables (buffered.world).kernel (Scalar c.exit.result) c.in-Exit.is (same_are c.args.self.now c.exit.new.self (buffered.world).tables (buffered.world).kernel (step.Exit c.in-Exit.hart c.in-Exit.status) (Scalar c.exit.result) (λ h. refl) c.exit.ensures.buffers))

pub unreachable-requires : goal.unreachable-requires
unreachable-requires c = let both = sym c.requires.scalar ∙ ap is_scalar c.in-CopyIn.is in cc
