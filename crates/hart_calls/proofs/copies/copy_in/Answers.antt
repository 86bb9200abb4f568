use Rattle.std.proofs.Common.{◌≤◌, length, None, Some, arith}
use Rattle.fault_rules.specs.PageService.{moment, store_model}
use Rattle.hart_calls.specs.CallResults.{RefusesPromise}
use Rattle.hart_calls.proofs.CopiedResults.{left_in, stopped_in, too_long_in, whole_in}
use Rattle.hart_calls.proofs.CopiedIn.{ends_in}
use Rattle.process_model.specs.declared.limits.TheConstants.{LONGEST_COPY}
use Rattle.user_copy.specs.declared.short.Stop.TheVariants.{Denied, Unpromised}
use Rattle.hart_calls.proofs.copies.copy_in.Goals as goal

pub returns-then-count-gt-LONGEST_COPY-clause-call_result : goal.returns-then-count-gt-LONGEST_COPY-clause-call_result
returns-then-count-gt-LONGEST_COPY-clause-call_result g c = rw c.scalar.ensures (λ t p space.
    too_long_in _ _ (g.C.Files.files c.args.files.now) _ (RefusesPromise g.C.Files.becomes g.C.Files.can_refuse c.args.files.now) _ p c.args.va.0 c.args.count (omega (arith, c.if-count-gt-LONGEST_COPY.true)) (t, space) (g.met.C.Files.stays c.args.files.now))

pub returns-in-Ok-clause-call_result : goal.returns-in-Ok-clause-call_result
returns-in-Ok-clause-call_result g c = rw c.long.ensures (λ t p space.
    let n = c.in-Ok.ensures in
    let small : c.args.count ≤ LONGEST_COPY = omega (arith, c.if-count-gt-LONGEST_COPY.false) in
    let l = store_model g.S.FrameSeat.view g.F.FrameAccess.invariant g.F.FrameAccess.alone g.F.FrameAccess.free g.F.FrameAccess.count g.C.Files.files g.C.Files.becomes g.C.Files.can_refuse in
    let end = ends_in l g.met.C.Files.goes_on g.met.C.Files.comes_to (moment c.args.space.now c.args.store.now c.args.files.now) p t space (g.met.C.Files.stays c.args.files.now) c.args.va.0 c.args.count small
    (moment c.copy_in.new.space c.copy_in.new.store c.copy_in.new.files) c.in-Ok.bytes.items None n.copied in
    whole_in _ _ (g.C.Files.files c.args.files.now) _ (RefusesPromise g.C.Files.becomes g.C.Files.can_refuse c.args.files.now) _ p c.args.va.0 c.args.count small end.progress c.in-Ok.bytes.items end.is end.after end.moves)

pub returns-in-Denied-clause-call_result : goal.returns-in-Denied-clause-call_result
returns-in-Denied-clause-call_result g c = rw c.long-in-Denied.ensures (λ t p space.
    let n = c.in-Err.ensures in
    let small : c.args.count ≤ LONGEST_COPY = omega (arith, c.if-count-gt-LONGEST_COPY.false) in
    let l = store_model g.S.FrameSeat.view g.F.FrameAccess.invariant g.F.FrameAccess.alone g.F.FrameAccess.free g.F.FrameAccess.count g.C.Files.files g.C.Files.becomes g.C.Files.can_refuse in
    let end = ends_in l g.met.C.Files.goes_on g.met.C.Files.comes_to (moment c.args.space.now c.args.store.now c.args.files.now) p t space (g.met.C.Files.stays c.args.files.now) c.args.va.0 c.args.count small
    (moment c.copy_in.new.space c.copy_in.new.store c.copy_in.new.files) c.in-Err.short.bytes.items (Some (Denied c.in-Denied.rule)) (rw c.in-Denied.is at n.copied) in
    stopped_in _ _ (g.C.Files.files c.args.files.now) _ (RefusesPromise g.C.Files.becomes g.C.Files.can_refuse c.args.files.now) _ p c.args.va.0 c.args.count small end.progress c.in-Err.short.bytes.items c.in-Denied.rule end.is end.after end.moves end.dry)

pub returns-in-Unpromised-clause-call_result : goal.returns-in-Unpromised-clause-call_result
returns-in-Unpromised-clause-call_result g c = λ t p space.
    let n = c.in-Err.ensures in
    let small : c.args.count ≤ LONGEST_COPY = omega (arith, c.if-count-gt-LONGEST_COPY.false) in
    let files = g.C.Files.files c.args.files.now in
    let l = store_model g.S.FrameSeat.view g.F.FrameAccess.invariant g.F.FrameAccess.alone g.F.FrameAccess.free g.F.FrameAccess.count g.C.Files.files g.C.Files.becomes g.C.Files.can_refuse in
    let end = ends_in l g.met.C.Files.goes_on g.met.C.Files.comes_to (moment c.args.space.now c.args.store.now c.args.files.now) p t space (g.met.C.Files.stays c.args.files.now) c.args.va.0 c.args.count small
    (moment c.copy_in.new.space c.copy_in.new.store c.copy_in.new.files) c.in-Err.short.bytes.items (Some (Unpromised c.in-Unpromised.refusal)) (rw c.in-Unpromised.is at n.copied) in
    let call_result = left_in _ _ files _ (RefusesPromise g.C.Files.becomes g.C.Files.can_refuse c.args.files.now) _ p c.args.va.0 c.args.count small end.progress end.bytes (length c.in-Err.short.bytes.items) c.in-Unpromised.refusal end.is end.after end.moves end.less end.unpromised end.of_file end.told in
    rw n.done call_result
