use Rattle.std.proofs.Common.{◌≤◌, length, None, Some, arith}
use Rattle.fault_rules.specs.PageService.{moment, store_model}
use Rattle.hart_calls.specs.CallResults.{RefusesPromise}
use Rattle.hart_calls.proofs.CopiedResults.{left_out, stopped_out, too_long_out, whole_out}
use Rattle.hart_calls.proofs.CopiedOut.{ends_out}
use Rattle.process_model.specs.declared.limits.TheConstants.{LONGEST_COPY}
use Rattle.user_copy.specs.declared.short.Stop.TheVariants.{Denied, Unpromised}
use Rattle.hart_calls.proofs.copies.copy_out.Goals as goal

pub returns-then-bytes-gt-LONGEST_COPY-clause-call_result : goal.returns-then-bytes-gt-LONGEST_COPY-clause-call_result
returns-then-bytes-gt-LONGEST_COPY-clause-call_result g c = rw c.scalar.ensures (λ t p space.
    too_long_out _ _ (g.C.Files.files c.args.files.now) _ (RefusesPromise g.C.Files.becomes g.C.Files.can_refuse c.args.files.now) _ p c.args.va.0 c.args.bytes (omega (arith, c.if-bytes-gt-LONGEST_COPY.true)) (t, space) (g.met.C.Files.stays c.args.files.now))

pub returns-in-Ok-clause-call_result : goal.returns-in-Ok-clause-call_result
returns-in-Ok-clause-call_result g c = rw c.scalar-in-Ok.ensures (λ t p space.
    let n = c.in-Ok.ensures in
    let small : length c.args.bytes.now ≤ LONGEST_COPY = omega (arith, c.if-bytes-gt-LONGEST_COPY.false) in
    let l = store_model g.S.FrameSeat.view g.F.FrameAccess.invariant g.F.FrameAccess.alone g.F.FrameAccess.free g.F.FrameAccess.count g.C.Files.files g.C.Files.becomes g.C.Files.can_refuse in
    let end = ends_out l g.met.C.Files.goes_on g.met.C.Files.comes_to (moment c.args.space.now c.args.store.now c.args.files.now) p t space (g.met.C.Files.stays c.args.files.now) c.args.va.0 c.args.bytes.now small
    (moment c.copy_out.new.space c.copy_out.new.store c.copy_out.new.files) (length c.args.bytes.now) None n.copied in
    let e = end.2 in
    whole_out _ _ (g.C.Files.files c.args.files.now) _ (RefusesPromise g.C.Files.becomes g.C.Files.can_refuse c.args.files.now) _ p c.args.va.0 c.args.bytes small e.progress end.0 (length c.args.bytes.now) end.1 e.is e.after e.moves)

pub returns-in-Denied-clause-call_result : goal.returns-in-Denied-clause-call_result
returns-in-Denied-clause-call_result g c = rw c.scalar-in-Denied.ensures (λ t p space.
    let n = c.in-Err.ensures in
    let small : length c.args.bytes.now ≤ LONGEST_COPY = omega (arith, c.if-bytes-gt-LONGEST_COPY.false) in
    let l = store_model g.S.FrameSeat.view g.F.FrameAccess.invariant g.F.FrameAccess.alone g.F.FrameAccess.free g.F.FrameAccess.count g.C.Files.files g.C.Files.becomes g.C.Files.can_refuse in
    let end = ends_out l g.met.C.Files.goes_on g.met.C.Files.comes_to (moment c.args.space.now c.args.store.now c.args.files.now) p t space (g.met.C.Files.stays c.args.files.now) c.args.va.0 c.args.bytes.now small
    (moment c.copy_out.new.space c.copy_out.new.store c.copy_out.new.files) c.in-Err.short.done (Some (Denied c.in-Denied.rule)) (rw c.in-Denied.is at n.copied) in
    let e = end.2 in
    stopped_out _ _ (g.C.Files.files c.args.files.now) _ (RefusesPromise g.C.Files.becomes g.C.Files.can_refuse c.args.files.now) _ p c.args.va.0 c.args.bytes small e.progress end.0 c.in-Err.short.done c.in-Denied.rule end.1 e.is e.after e.moves e.dry)

pub returns-in-Unpromised-clause-call_result : goal.returns-in-Unpromised-clause-call_result
returns-in-Unpromised-clause-call_result g c = λ t p space.
    let n = c.in-Err.ensures in
    let small : length c.args.bytes.now ≤ LONGEST_COPY = omega (arith, c.if-bytes-gt-LONGEST_COPY.false) in
    let l = store_model g.S.FrameSeat.view g.F.FrameAccess.invariant g.F.FrameAccess.alone g.F.FrameAccess.free g.F.FrameAccess.count g.C.Files.files g.C.Files.becomes g.C.Files.can_refuse in
    let end = ends_out l g.met.C.Files.goes_on g.met.C.Files.comes_to (moment c.args.space.now c.args.store.now c.args.files.now) p t space (g.met.C.Files.stays c.args.files.now) c.args.va.0 c.args.bytes.now small
    (moment c.copy_out.new.space c.copy_out.new.store c.copy_out.new.files) c.in-Err.short.done (Some (Unpromised c.in-Unpromised.refusal)) (rw c.in-Unpromised.is at n.copied) in
    left_out _ _ (g.C.Files.files c.args.files.now) _ (RefusesPromise g.C.Files.becomes g.C.Files.can_refuse c.args.files.now) _ p c.args.va.0 c.args.bytes small end.progress end.bytes c.in-Err.short.done c.in-Unpromised.refusal end.is end.after end.moves end.less end.unpromised end.of_file end.told
