use Rattle.std.proofs.Common.{◌+◌, ◌-◌, ◌*◌, ◌<◌, arith, length, ap, ◌∙◌}
use Rattle.std.specs.Prelude.{slice_set}
use Rattle.frame_store.proofs.Turned.{frame_there, same_by_frame, set_by_frame}
use Rattle.frame_store.proofs.frame_words.FrameWords.put.Goals as goal

pub block_of-start-requires : goal.block_of-start-requires
block_of-start-requires c = frame_there _ _ c.args.frame.0 (rw (← c.self.view_is) at c.requires.room)

pub returns : goal.returns
returns c =
    let there = frame_there _ _ c.args.frame.0 (rw (← c.self.view_is) at c.requires.room) in
    let long : 512 * (c.self.inside.frames - 1 - c.args.frame.0) + c.args.index < length c.reach.new.list.items = omega (arith, c.reach.ensures.long, c.block_of-start.ensures, c.requires.in_page) in
    rw (← c.self.view_is, c.block_of-start.ensures) (
    set_by_frame c.self.inside.frames c.reach.new.list.items c.args.frame.0 c.args.index c.args.value there c.requires.in_page long
    ∙ ap (λ ws. slice_set ws (512 * c.args.frame.0 + c.args.index) c.args.value) (same_by_frame c.self.inside.frames _ _ c.reach.ensures.same)
    )
