use Rattle.std.proofs.Common.{◌≤◌, ap, List, ℕ, of_z, refl, rules, SFits, subst, to_z, w64, ℤ}
use Rattle.std.proofs.lemmas.Int.{to_z-of_z}
use Rattle.std.proofs.lemmas.Result.{IfErr-weaker}
use Rattle.address_space.specs.Accesses.{request_of}
use Rattle.address_space.specs.Agreement.{body_of}
use Rattle.hart_calls.specs.ReplyCases.{size_or_refused}
use Rattle.hart_calls.specs.CallKinds.{HasRoomFor, IsPlainCall}
use Rattle.hart_calls.specs.CallResults.{IsCallResult, RefusesPromise}
use Rattle.process_model.specs.PageMoves.{PageMove}
use Rattle.hart_calls.proofs.There.{no_room}
use Rattle.hart_calls.proofs.Answered.{came_mapped, came_sbrk, came_unmap}
use Rattle.process_model.specs.declared.call.Call.{Call}
use Rattle.process_model.specs.declared.call.Call.TheVariants as call
use Rattle.sv39_entry.specs.declared.frame.FrameNo.{FrameNo}
use Rattle.hart_calls.proofs.calls.make.Goals as goal

pub returns-in-Fetch-clause-call_result : goal.returns-in-Fetch-clause-call_result
returns-in-Fetch-clause-call_result g c = rw c.in-Fetch.is (c.access.ensures.call_result (call.Fetch c.in-Fetch.address) (ap request_of c.new.ensures))

pub returns-in-Load-clause-call_result : goal.returns-in-Load-clause-call_result
returns-in-Load-clause-call_result g c = rw c.in-Load.is (c.access-in-Load.ensures.call_result (call.Load c.in-Load.address c.in-Load.width) (ap request_of c.new-in-Load.ensures))

pub returns-in-Store-clause-call_result : goal.returns-in-Store-clause-call_result
returns-in-Store-clause-call_result g c = rw c.in-Store.is (c.access-in-Store.ensures.call_result (call.Store c.in-Store.address c.in-Store.width c.in-Store.value) (ap request_of c.new-in-Store.ensures))

pub returns-in-Exec-clause-call_result : goal.returns-in-Exec-clause-call_result
returns-in-Exec-clause-call_result g c = rw c.in-Exec.is c.exec.ensures.call_result

pub returns-in-Some-clause-call_result : goal.returns-in-Some-clause-call_result
returns-in-Some-clause-call_result g c = rw c.in-CopyIn.is c.copy_in.ensures.call_result

pub returns-in-CopyOut-clause-call_result : goal.returns-in-CopyOut-clause-call_result
returns-in-CopyOut-clause-call_result g c = rw c.in-CopyOut.is c.copy_out.ensures.call_result

pub returns-in-Sbrk-clause-call_result : goal.returns-in-Sbrk-clause-call_result
returns-in-Sbrk-clause-call_result g c =
    let fits : SFits w64 c.in-Sbrk.delta = search rules in
    rw (c.in-Sbrk.is, c.sized.ensures) (λ t p space.
    let e = c.sbrk.ensures in
    let x = body_of g.S.FrameSeat.view c.args.space.now in
    let y = body_of g.S.FrameSeat.view c.sbrk.new.space in
    let files = g.C.Files.files c.args.files.now in
    subst (λ (z : ℤ). IsCallResult x y files (λ (moves : List PageMove). g.C.Files.becomes c.args.files.now moves c.args.files.now) (RefusesPromise g.C.Files.becomes g.C.Files.can_refuse c.args.files.now) (λ (n : ℕ). n ≤ g.C.Files.room c.args.files.now) p (call.Sbrk z) (size_or_refused c.sbrk.result)) (to_z-of_z w64 c.in-Sbrk.delta fits)
    (came_sbrk x y files (λ (moves : List PageMove). g.C.Files.becomes c.args.files.now moves c.args.files.now) (g.C.Files.can_refuse c.args.files.now) (RefusesPromise g.C.Files.becomes g.C.Files.can_refuse c.args.files.now) _ t p (to_z w64 (of_z w64 c.in-Sbrk.delta)) c.sbrk.result e.answer e.resized (IfErr-weaker c.sbrk.result _ _ (λ e stays. stays.layout) e.stays) (IfErr-weaker c.sbrk.result _ _ (λ e stays. stays.view) e.stays)
    (ap (λ (f : FrameNo). f.0) e.root) (ap (λ (f : FrameNo). f.0) e.trapframe) (g.met.C.Files.stays c.args.files.now) space))

pub returns-in-Mmap-clause-call_result : goal.returns-in-Mmap-clause-call_result
returns-in-Mmap-clause-call_result g c = rw (c.in-Mmap.is, c.mapped.ensures) (λ t p space.
    let e = c.mmap.ensures in
    came_mapped (body_of g.S.FrameSeat.view c.args.space.now) (body_of g.S.FrameSeat.view c.mmap.new.space) (g.C.Files.files c.args.files.now) _ (g.C.Files.can_refuse c.args.files.now) (RefusesPromise g.C.Files.becomes g.C.Files.can_refuse c.args.files.now) _ t p c.in-Mmap.length c.in-Mmap.protection c.in-Mmap.flags c.in-Mmap.file c.mmap.result
    (e.answer t p space) (e.agrees t p space) (g.met.C.Files.stays c.args.files.now))

pub returns-in-Munmap-clause-call_result : goal.returns-in-Munmap-clause-call_result
returns-in-Munmap-clause-call_result g c = rw (c.in-Munmap.is, c.done.ensures) (λ t p space.
    let e = c.munmap.ensures in
    came_unmap (body_of g.S.FrameSeat.view c.args.space.now) (body_of g.S.FrameSeat.view c.munmap.new.space) (g.C.Files.files c.args.files.now) _ (g.C.Files.can_refuse c.args.files.now) (RefusesPromise g.C.Files.becomes g.C.Files.can_refuse c.args.files.now) _ t p (λ n e could. (g.met.C.Files.asks c.args.files.now n e could, (c.args.files.now, e, g.met.C.Files.stays c.args.files.now, could, refl))) c.in-Munmap.address c.in-Munmap.length (g.C.Files.files c.munmap.new.files) c.munmap.result
    e.unmapped e.moves e.refused e.files_stay (IfErr-weaker c.munmap.result _ _ (λ e stays. stays.layout) e.stays) (IfErr-weaker c.munmap.result _ _ (λ e stays. stays.view) e.stays) (ap (λ (f : FrameNo). f.0) e.root) (ap (λ (f : FrameNo). f.0) e.trapframe) space)

pub unreachable-requires : goal.unreachable-requires
unreachable-requires g c =
    no_room c.args.room c.in_default.is (subst (λ (k : Call). HasRoomFor k c.args.room) c.in-CopyIn.is c.requires.room)

pub unreachable-requires-in-Exit : goal.unreachable-requires-in-Exit
unreachable-requires-in-Exit g c = subst IsPlainCall c.in-Exit.is c.requires.plain

pub unreachable-requires-in-Fork : goal.unreachable-requires-in-Fork
unreachable-requires-in-Fork g c = subst IsPlainCall c.in-Fork.is c.requires.plain
