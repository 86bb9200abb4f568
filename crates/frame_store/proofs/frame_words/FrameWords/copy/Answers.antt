use Rattle.std.proofs.Common.{◌≡◌, ℕ, ◌+◌, ◌-◌, ◌*◌, ◌<◌, ◌≤◌, ◌++◌, arith, length, take, drop, slice_index, sym, List}
use Rattle.std.proofs.lemmas.Grind.{common_steps}
use Rattle.frame_store.specs.ZeroWords.{by_frame}
use Rattle.frame_store.proofs.Overwritten.{puts_same}
use Rattle.frame_store.proofs.Turned.{frame_there, puts_by_frame, same_by_frame, word_of_frame}
use Rattle.frame_store.proofs.frame_words.FrameWords.copy.Goals as goal

-- what is written back is the words as they were left
back : (items new : List ℕ) (len : ℕ) → length new ≡ length items → len ≡ length items → take len (new ++ drop (length new) items) ≡ new
back items new len long full = grind (arith, common_steps)

pub block_of-here-requires : goal.block_of-here-requires
block_of-here-requires c = frame_there _ _ c.args.from.0 (rw (← c.self.view_is) at c.requires.from)

pub block_of-there-requires : goal.block_of-there-requires
block_of-there-requires c = frame_there _ _ c.args.to.0 (rw (← c.self.view_is) at c.requires.to)

pub copy_block-requires-clause-apart : goal.copy_block-requires-clause-apart
copy_block-requires-clause-apart c same =
    let from = frame_there _ _ c.args.from.0 (rw (← c.self.view_is) at c.requires.from) in
    let to = frame_there _ _ c.args.to.0 (rw (← c.self.view_is) at c.requires.to) in
    c.requires.apart (omega (arith, same, c.block_of-here.ensures, c.block_of-there.ensures, from, to))

pub returns : goal.returns
returns c =
    let from = frame_there _ _ c.args.from.0 (rw (← c.self.view_is) at c.requires.from) in
    let to = frame_there _ _ c.args.to.0 (rw (← c.self.view_is) at c.requires.to) in
    let list = c.reach.new.list.items in
    let n = c.self.inside.frames in
    let put = rw (c.as_mut_slice.ensures.value, c.block_of-here.ensures, c.block_of-there.ensures) at c.copy_block.ensures in
    let full : c.reach.new.list.len ≡ length list = c.reach.new.list.ok.0 in
    let word : (q : ℕ) → 0 ≤ q → q < 0 + 512 → slice_index list (512 * (n - 1 - c.args.from.0) + q) ≡ slice_index (by_frame n list) (512 * c.args.from.0 + q)
    = λ q _ less. sym (word_of_frame n list c.args.from.0 q from (omega (arith, less))) in
    let copied = puts_same _ _ (n - 1 - c.args.to.0) 0 512 _ (λ i. slice_index (by_frame n list) (512 * c.args.from.0 + i)) word put in
    rw (back _ _ _ put.long full, ← c.self.view_is, ← (same_by_frame n c.self.inside.list.items list c.reach.ensures.same))
    (puts_by_frame n list _ c.args.to.0 0 512 (λ i. slice_index (by_frame n list) (512 * c.args.from.0 + i)) to (omega arith) copied)
