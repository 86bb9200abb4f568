use Rattle.std.proofs.Common.{◌≡◌, ℕ, ◌+◌, ◌-◌, ◌*◌, ◌≤◌, arith, length, take, drop, slice_index, ap, sym, ◌∙◌}
use Rattle.std.proofs.lemmas.List.{get_or_past}
use Rattle.frame_store.proofs.Turned.{frame_there, word_of_frame}
use Rattle.frame_store.proofs.Words.{index-part}
use Rattle.frame_store.proofs.frame_words.FrameWords.part.Goals as goal

pub block_of-start-requires : goal.block_of-start-requires
block_of-start-requires c = frame_there _ _ c.args.frame.0 (rw (← c.self.view_is) at c.requires.room)

pub returns-then-len-start-clause-zeros : goal.returns-then-len-start-clause-zeros
returns-then-len-start-clause-zeros c none i from less =
    let there = frame_there _ _ c.args.frame.0 (rw (← c.self.view_is) at c.requires.room) in
    let past : length c.self.inside.list.items ≤ 512 * (c.self.inside.frames - 1 - c.args.frame.0) + i
    = omega (arith, c.if-len-start.true, c.len.ensures, c.self.inside.list.ok.0, c.block_of-start.ensures, c.self.invariant.2) in
    rw (← c.self.view_is) (word_of_frame _ _ c.args.frame.0 i there less ∙ get_or_past _ _ 0 past)

pub returns-clause-words : goal.returns-clause-words
returns-clause-words c i less =
    let there = frame_there _ _ c.args.frame.0 (rw (← c.self.view_is) at c.requires.room) in
    let a : ℕ = 512 * c.block_of-start.result + c.args.from in
    let n : ℕ = 512 * c.block_of-start.result + c.args.to - a in
    let at : a + i ≡ 512 * (c.self.inside.frames - 1 - c.args.frame.0) + (c.args.from + i) = omega (arith, c.block_of-start.ensures) in
    rw (← c.self.view_is) (
    ap (λ ws. slice_index (take n (drop a ws)) i) c.deref.ensures.value
    ∙ index-part c.self.inside.list.items a n i (omega (arith, less)) ∙ ap (slice_index c.self.inside.list.items) at
    ∙ sym (word_of_frame _ _ c.args.frame.0 (c.args.from + i) there (omega (arith, less, c.requires.in_page)))
    )
