use Rattle.std.proofs.Common.{◌≡◌, ◌+◌, ◌-◌, ◌*◌, ◌≤◌, arith, length, slice_index, ap, sym, ◌∙◌}
use Rattle.std.proofs.lemmas.Grind.{common_steps}
use Rattle.std.proofs.lemmas.List.{get_or_past}
use Rattle.frame_store.proofs.Turned.{frame_there, word_of_frame}
use Rattle.frame_store.proofs.frame_words.FrameWords.word.Goals as goal

pub block_of-start-requires : goal.block_of-start-requires
block_of-start-requires c = frame_there _ _ c.args.frame.0 (rw (← c.self.view_is) at c.requires.room)

pub returns-then-len-start : goal.returns-then-len-start
returns-then-len-start c =
    let there = frame_there _ _ c.args.frame.0 (rw (← c.self.view_is) at c.requires.room) in
    let past : length c.self.inside.list.items ≤ 512 * (c.self.inside.frames - 1 - c.args.frame.0) + c.args.index
    = omega (arith, c.if-len-start.true, c.len.ensures, c.self.inside.list.ok.0, c.block_of-start.ensures, c.self.invariant.2) in
    rw (← c.self.view_is) (sym (word_of_frame _ _ c.args.frame.0 c.args.index there c.requires.in_page ∙ get_or_past _ _ 0 past))

pub returns : goal.returns
returns c =
    let there = frame_there _ _ c.args.frame.0 (rw (← c.self.view_is) at c.requires.room) in
    let here : c.index.result.now ≡ slice_index c.self.inside.list.items (512 * c.block_of-start.result + c.args.index) = grind (arith, common_steps, c.index.ensures) in
    rw (← c.self.view_is) (here ∙ ap (λ b. slice_index c.self.inside.list.items (512 * b + c.args.index)) c.block_of-start.ensures ∙ sym (word_of_frame _ _ c.args.frame.0 c.args.index there c.requires.in_page))
