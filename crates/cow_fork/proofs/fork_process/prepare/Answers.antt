use Rattle.std.proofs.Common.{◌∙◌}
use Rattle.cow_fork.proofs.Reserving.{anchored_still, back_again, held_reserved, prepared}
use Rattle.cow_fork.proofs.fork_process.prepare.Goals as goal

pub share_frames-requires-clause-anchored : goal.share_frames-requires-clause-anchored
share_frames-requires-clause-anchored g c = anchored_still _ _ _ c.in_ok-reserve.ensures.ok c.requires.anchored

pub share_frames-requires-clause-held : goal.share_frames-requires-clause-held
share_frames-requires-clause-held g c f some = held_reserved _ _ _ c.in_ok-reserve.ensures.ok f (c.requires.held f some)

pub release_all-requires-clause-more : goal.release_all-requires-clause-more
release_all-requires-clause-more g c = (g.S.FrameSeat.view c.reserve.new.seat, rw c.as_slice.ensures.value c.share_frames.ensures.more)

pub returns-in-Err-clause-back : goal.returns-in-Err-clause-back
returns-in-Err-clause-back g c _ =
    back_again _ _ c.args.need c.in_ok-reserve.ensures.ok _ _
    (c.release_all.ensures.back _ (rw c.as_slice.ensures.value c.share_frames.ensures.more))
    (c.release_all.ensures.credits ∙ c.share_frames.ensures.credits) (c.release_all.ensures.tallies ∙ c.in-Err.ensures.looked) c.give_back.ensures.view

pub returns-clause-prepared : goal.returns-clause-prepared
returns-clause-prepared g c = prepared _ _ c.args.need c.in_ok-reserve.ensures.ok _ _ _ c.requires.credits c.share_frames.ensures.more c.in_default.ensures.all c.share_frames.ensures.credits c.in_default.ensures.tallies
