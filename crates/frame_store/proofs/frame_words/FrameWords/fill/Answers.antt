use Rattle.std.proofs.Common.{◌≡◌, ℕ, ◌+◌, ◌-◌, ◌*◌, ◌/◌, ◌<◌, ◌≤◌, arith, length, take, drop, slice_index, ap, ◌∙◌}
use Rattle.std.specs.Int.{from_le_bytes, w64}
use Rattle.frame_store.proofs.Overwritten.{front_put, part_put, puts_same}
use Rattle.frame_store.proofs.Turned.{frame_there, puts_by_frame, same_by_frame}
use Rattle.frame_store.proofs.Words.{index-part, length-part}
use Rattle.frame_store.proofs.frame_words.FrameWords.fill.Goals as goal

pub block_of-start-requires : goal.block_of-start-requires
block_of-start-requires c = frame_there _ _ c.args.frame.0 (rw (← c.self.view_is) at c.requires.room)

pub returns : goal.returns
returns c =
    let there = frame_there _ _ c.args.frame.0 (rw (← c.self.view_is) at c.requires.room) in
    let list = c.reach.new.list.items in
    let b : ℕ = c.block_of-start.result in
    let a : ℕ = 512 * b in
    let n : ℕ = 512 * b + 512 - a in
    let m : ℕ = length c.args.bytes.now / 8 in
    let few : m ≤ 512 = omega (arith, c.requires.in_page) in
    let value = c.deref_mut.ensures.value in
    let full : c.reach.new.list.len ≡ length list = c.reach.new.list.ok.0 in
    let room : a + n ≤ length list = omega (arith, c.reach.ensures.long) in
    let long : length c.put_words.new.words ≡ n = c.put_words.ensures.len ∙ ap (λ ws. length (take n (drop a ws))) value ∙ length-part list a n room in
    let part = part_put list c.put_words.new.words b 0 512 a n c.reach.new.list.len room long full (omega arith) (omega arith) in
    let put = puts_same _ _ b 0 512 _ (slice_index c.put_words.new.words) (λ q _ _. let same : q - 0 ≡ q = omega arith in ap (slice_index c.put_words.new.words) same) part in
    let behind : (i : ℕ) → m ≤ i → i < 512 → slice_index c.put_words.new.words i ≡ slice_index list (512 * b + i)
    = λ i more less. c.put_words.ensures.behind i more ∙ ap (λ ws. slice_index (take n (drop a ws)) i) value ∙ index-part list a n i (omega (arith, less)) in
    let filled = front_put list _ c.put_words.new.words b m (λ i. from_le_bytes w64 (take 8 (drop (8 * i) c.args.bytes.now))) few c.put_words.ensures.front behind put in
    rw (← c.self.view_is, ← (same_by_frame c.self.inside.frames c.self.inside.list.items list c.reach.ensures.same), value)
    (puts_by_frame c.self.inside.frames list _ c.args.frame.0 0 m (λ i. from_le_bytes w64 (take 8 (drop (8 * i) c.args.bytes.now))) there (omega (arith, few)) (rw (← c.block_of-start.ensures) filled))
