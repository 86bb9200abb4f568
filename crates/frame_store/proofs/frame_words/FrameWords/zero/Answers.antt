use Rattle.std.proofs.Common.{◌≡◌, ℕ, ◌+◌, ◌-◌, ◌*◌, ◌≤◌, arith, length, take, drop, slice_index, ap, refl, ◌∙◌}
use Rattle.std.proofs.lemmas.List.{get_or_past}
use Rattle.frame_store.proofs.Overwritten.{part_put, puts_same}
use Rattle.frame_store.proofs.Turned.{frame_there, puts_by_frame, word_of_frame}
use Rattle.frame_store.proofs.Words.{index-zeros, length-part}
use Rattle.frame_store.proofs.frame_words.FrameWords.zero.Goals as goal

pub block_of-start-requires : goal.block_of-start-requires
block_of-start-requires c = frame_there _ _ c.args.frame.0 (rw (← c.self.view_is) at c.requires.room)

pub returns-then-len-start : goal.returns-then-len-start
returns-then-len-start c =
    let there = frame_there _ _ c.args.frame.0 (rw (← c.self.view_is) at c.requires.room) in
    record {
      long = refl;
      inside = λ q least below.
          let past : length c.self.inside.list.items ≤ 512 * (c.self.inside.frames - 1 - c.args.frame.0) + q
          = omega (arith, c.if-len-start.true, c.len.ensures, c.self.inside.list.ok.0, c.block_of-start.ensures, c.self.invariant.2) in
          rw (← c.self.view_is) (word_of_frame _ _ c.args.frame.0 q there (omega (arith, below, c.requires.in_page, c.requires.low)) ∙ get_or_past _ _ 0 past);
      outside = λ p apart. refl;
    }

pub returns : goal.returns
returns c =
    let there = frame_there _ _ c.args.frame.0 (rw (← c.self.view_is) at c.requires.room) in
    let list = c.self.inside.list.items in
    let b : ℕ = c.block_of-start.result in
    let a : ℕ = 512 * b + c.args.from in
    let n : ℕ = 512 * b + c.args.to - a in
    let value = c.deref_mut.ensures.value in
    let full : c.self.inside.list.len ≡ length list = c.self.inside.list.ok.0 in
    let room : a + n ≤ length list = omega (arith, full, c.if-len-start.false, c.len.ensures, c.requires.low, c.requires.in_page) in
    let long : length c.fill.new.self ≡ n = c.fill.ensures.len ∙ ap (λ ws. length (take n (drop a ws))) value ∙ length-part list a n room in
    let zeros : (k : ℕ) → slice_index c.fill.new.self k ≡ 0 = λ k. ap (λ ws. slice_index ws k) (c.fill.ensures.after (λ y e. e)) ∙ index-zeros _ k in
    let put = part_put list c.fill.new.self b c.args.from (c.args.to - c.args.from) a n c.self.inside.list.len room long full refl (omega arith) in
    let blank = puts_same _ _ b c.args.from (c.args.to - c.args.from) _ (λ _. 0) (λ q _ _. zeros (q - c.args.from)) put in
    rw (← c.self.view_is, value) (puts_by_frame c.self.inside.frames list _ c.args.frame.0 c.args.from (c.args.to - c.args.from) (λ _. 0) there (omega (arith, c.requires.low, c.requires.in_page)) (rw (← c.block_of-start.ensures) blank))
