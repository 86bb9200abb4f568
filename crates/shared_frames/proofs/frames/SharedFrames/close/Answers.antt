use Rattle.std.proofs.Common.{◌≡◌, ◌+◌, ◌-◌, ◌∙◌, sym, ap, subst, arith}
use Rattle.std.specs.Slots.{slots_items}
use Rattle.shared_frames.specs.Pool.{Pool}
use Rattle.shared_frames.specs.Invariant.{zero_counts}
use Rattle.shared_frames.specs.Totals.{AreTotals, held_frames}
use Rattle.shared_frames.proofs.Ends.{final, last_totals, totals, at_get}
use Rattle.shared_frames.proofs.Zeros.{zero_counts-le}
use Rattle.shared_frames.proofs.frames.SharedFrames.close.Goals as goal

pub word-trampoline-requires : goal.word-trampoline-requires
word-trampoline-requires c = (let s = c.self.invariant.1 in let n = c.close_with-closed.ensures.counts in omega (arith, s, n.0), c.close_with-closed.ensures.values.0)

pub overflow_sub-result : goal.overflow_sub-result
overflow_sub-result c = let b = zero_counts-le (slots_items c.close_with-closed.result.words) c.self.inside.frames in let e = c.count_free-free.ensures in omega (arith, b, e)

pub returns-clause-totals : goal.returns-clause-totals
returns-clause-totals c =
    let ws = slots_items c.close_with-closed.result.words in
    let free : c.count_free-free.result ≡ zero_counts ws c.self.inside.table.shared.key = c.count_free-free.ensures ∙ ap (zero_counts ws) c.self.invariant.0 in
    let read = at_get ws 1 c.word-trampoline.result c.word-trampoline.ensures in
    let all = totals c.self.inside.table.shared.key ws _ _ _ _ _ c.close_with-closed.ensures.values.2 free read in
    let n = sym c.self.invariant.0 ∙ ap (λ (p : Pool). p.frames) c.self.view_is in
    subst (λ m. AreTotals m c.args.seat.seat.me.0 c.count_free-free.result c.word-trampoline.result) n all

pub returns-clause-all : goal.returns-clause-all
returns-clause-all c =
    let b = zero_counts-le (slots_items c.close_with-closed.result.words) c.self.inside.frames in
    let e = c.count_free-free.ensures in
    let n = ap (λ (p : Pool). p.frames) c.self.view_is in
    omega (arith, b, e, n)

pub returns-clause-alone : goal.returns-clause-alone
returns-clause-alone c own =
    let e = c.count_free-free.ensures in
    let ws = slots_items c.close_with-closed.result.words in
    let v = c.args.seat.seat.me.0 in
    let all = final c.self.inside.table.shared.key ws (slots_items c.close_with-closed.result.slots) c.args.seat.seat.id v c.close_with-closed.ensures.values.2 (at_get ws 1 c.word-trampoline.result c.word-trampoline.ensures ∙ own) in
    let here : zero_counts ws c.self.inside.frames + held_frames c.self.inside.frames v ≡ c.self.inside.frames = subst (λ n. zero_counts ws n + held_frames n v ≡ n) (sym c.self.invariant.0) all in
    let is : c.self.inside.frames - c.count_free-free.result ≡ held_frames c.self.inside.frames v = omega (arith, e, here) in
    is ∙ ap (λ (p : Pool). held_frames p.frames v) c.self.view_is

pub returns-clause-last : goal.returns-clause-last
returns-clause-last c sole full = last_totals _ _ _ _ (returns-clause-totals c) sole full
