use Rattle.std.proofs.Common.{◌≡◌, ℕ, ◌+◌, ◌-◌, ◌≤◌, ◌<◌, arith, sym, slice_index, length, inl, inr}
use Rattle.std.specs.Prelude.{max, min}
use Rattle.std.proofs.lemmas.Grind.{common_steps}
use Rattle.frame_store.proofs.Runs.{zeros_by_part}
use Rattle.frame_store.proofs.memory.Memory.next.Goals as goal

pub learn-requires-clause-zeros : goal.learn-requires-clause-zeros
learn-requires-clause-zeros c =
    let low : c.index.result.now ≡ slice_index c.self.inside.lows.items c.args.frame.0 = grind (arith, common_steps, c.index.ensures) in
    let high : c.index-2.result.now ≡ slice_index c.self.inside.highs.items c.args.frame.0 = grind (arith, common_steps, c.index-2.ensures) in
    let from_is : c.max-from.result ≡ max c.args.first (slice_index c.self.inside.lows.items c.args.frame.0) = rw low at c.max-from.ensures in
    let to_is : c.min-to.result ≡ min c.args.last (slice_index c.self.inside.highs.items c.args.frame.0) = rw high at c.min-to.ensures in
    let room = rw (← c.self.view_is) at c.requires.room in
    let part = c.in-Some.ensures in
    let full : c.min-to.result ≤ c.max-from.result + c.zeros_in_front-zeros.result = omega (arith, c.if-zeros-part.true, part.long, c.if-to-from.false) in
    rw (← c.self.view_is) (zeros_by_part _ _ _ c.in-Some.part.now c.args.frame.0 c.self.invariant room c.args.first c.args.last c.max-from.result c.min-to.result c.zeros_in_front-zeros.result from_is to_is c.requires.in_page part.words c.zeros_in_front-zeros.ensures.zeros
    c.args.last (omega arith) (inr full))

pub returns-then-zeros-part-clause-word : goal.returns-then-zeros-part-clause-word
returns-then-zeros-part-clause-word c =
    let low : c.index.result.now ≡ slice_index c.self.inside.lows.items c.args.frame.0 = grind (arith, common_steps, c.index.ensures) in
    let high : c.index-2.result.now ≡ slice_index c.self.inside.highs.items c.args.frame.0 = grind (arith, common_steps, c.index-2.ensures) in
    let from_is : c.max-from.result ≡ max c.args.first (slice_index c.self.inside.lows.items c.args.frame.0) = rw low at c.max-from.ensures in
    let to_is : c.min-to.result ≡ min c.args.last (slice_index c.self.inside.highs.items c.args.frame.0) = rw high at c.min-to.ensures in
    let room = rw (← c.self.view_is) at c.requires.room in
    let part = c.in-Some.ensures in
    let full : c.min-to.result ≤ c.max-from.result + c.zeros_in_front-zeros.result = omega (arith, c.if-zeros-part.true, part.long, c.if-to-from.false) in
    rw (← c.self.view_is) (zeros_by_part _ _ _ c.in-Some.part.now c.args.frame.0 c.self.invariant room c.args.first c.args.last c.max-from.result c.min-to.result c.zeros_in_front-zeros.result from_is to_is c.requires.in_page part.words c.zeros_in_front-zeros.ensures.zeros
    c.args.last (omega arith) (inr full))

pub learn-requires-2-clause-zeros : goal.learn-requires-2-clause-zeros
learn-requires-2-clause-zeros c =
    let low : c.index.result.now ≡ slice_index c.self.inside.lows.items c.args.frame.0 = grind (arith, common_steps, c.index.ensures) in
    let high : c.index-2.result.now ≡ slice_index c.self.inside.highs.items c.args.frame.0 = grind (arith, common_steps, c.index-2.ensures) in
    let from_is : c.max-from.result ≡ max c.args.first (slice_index c.self.inside.lows.items c.args.frame.0) = rw low at c.max-from.ensures in
    let to_is : c.min-to.result ≡ min c.args.last (slice_index c.self.inside.highs.items c.args.frame.0) = rw high at c.min-to.ensures in
    let room = rw (← c.self.view_is) at c.requires.room in
    let part = c.in-Some.ensures in
    let z = c.zeros_in_front-zeros.ensures in
    rw (← c.self.view_is) (zeros_by_part _ _ _ c.in-Some.part.now c.args.frame.0 c.self.invariant room c.args.first c.args.last c.max-from.result c.min-to.result c.zeros_in_front-zeros.result from_is to_is c.requires.in_page part.words z.zeros
    (c.max-from.result + c.zeros_in_front-zeros.result) (omega (arith, z.within, part.long, to_is, c.if-to-from.false)) (inl (omega arith)))

pub returns-clause-word : goal.returns-clause-word
returns-clause-word c =
    let low : c.index.result.now ≡ slice_index c.self.inside.lows.items c.args.frame.0 = grind (arith, common_steps, c.index.ensures) in
    let high : c.index-2.result.now ≡ slice_index c.self.inside.highs.items c.args.frame.0 = grind (arith, common_steps, c.index-2.ensures) in
    let from_is : c.max-from.result ≡ max c.args.first (slice_index c.self.inside.lows.items c.args.frame.0) = rw low at c.max-from.ensures in
    let to_is : c.min-to.result ≡ min c.args.last (slice_index c.self.inside.highs.items c.args.frame.0) = rw high at c.min-to.ensures in
    let room = rw (← c.self.view_is) at c.requires.room in
    let part = c.in-Some.ensures in
    let z = c.zeros_in_front-zeros.ensures in
    let zeros : ℕ = c.zeros_in_front-zeros.result in
    let less : zeros < length c.in-Some.part.now = omega (arith, z.within, c.if-zeros-part.false) in
    let within : zeros < c.min-to.result - c.max-from.result = omega (arith, less, part.long) in (
      record {
        from = omega (arith, from_is);
        before = omega (arith, within, to_is);
        some = z.some less;
        is = rw (← c.self.view_is) (sym (part.words zeros within));
      },
      rw (← c.self.view_is) (zeros_by_part _ _ _ c.in-Some.part.now c.args.frame.0 c.self.invariant room c.args.first c.args.last c.max-from.result c.min-to.result zeros from_is to_is c.requires.in_page part.words z.zeros
          (c.max-from.result + zeros) (omega (arith, within, to_is)) (inl (omega arith))),
    )
