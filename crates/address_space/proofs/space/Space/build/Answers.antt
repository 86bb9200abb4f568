use Rattle.address_space.proofs.AddingFrames.{Comes, claimed_comes, filled_comes}
use Rattle.address_space.proofs.BuildWhole.{credits_then, holds_trapframe, may_claim, takes_all, zero_held}
use Rattle.address_space.proofs.space.Space.build.Given as given
use Rattle.address_space.proofs.space.Space.build.Goals as goal
use Rattle.address_space.proofs.space.Space.build.Goals.{After-fill_frame}

comes : (g : given.Over) (c : After-fill_frame g) → Comes (g.S.FrameSeat.view c.reserve.new.seat) (g.S.FrameSeat.view c.fill_frame.new.seat) c.claim-trapframe.result.0
comes g c = filled_comes _ _ _ _ (claimed_comes _ _ _ c.claim-trapframe.ensures.fresh c.claim-trapframe.ensures.view) c.fill_frame.ensures.others

pub claim-trapframe-requires-clause-credit : goal.claim-trapframe-requires-clause-credit
claim-trapframe-requires-clause-credit g c =
    let reserved = rw c.in_default.is at c.reserve.ensures.ok in
    may_claim c.args.scheme c.args.parts.now _ _ _ c.requires.seat reserved c.frames_needed.ensures

pub claim-trapframe-requires-clause-anchored : goal.claim-trapframe-requires-clause-anchored
claim-trapframe-requires-clause-anchored g c =
    let reserved = rw c.in_default.is at c.reserve.ensures.ok in
    zero_held c.args.scheme c.args.parts.now _ _ _ c.requires.seat reserved c.frames_needed.ensures

pub fill_frame-requires-clause-sole : goal.fill_frame-requires-clause-sole
fill_frame-requires-clause-sole g c = (claimed_comes _ _ _ c.claim-trapframe.ensures.fresh c.claim-trapframe.ensures.view).sole

pub build_reserved-requires-clause-seat : goal.build_reserved-requires-clause-seat
build_reserved-requires-clause-seat g c =
    let reserved = rw c.in_default.is at c.reserve.ensures.ok in
    holds_trapframe c.args.scheme c.args.parts.now _ _ _ c.requires.seat reserved c.frames_needed.ensures _ _ (comes g (goal.at.build_reserved-requires-clause-seat g c).After-fill_frame)

pub build_reserved-requires-clause-credits : goal.build_reserved-requires-clause-credits
build_reserved-requires-clause-credits g c =
    let reserved = rw c.in_default.is at c.reserve.ensures.ok in
    credits_then c.args.scheme c.args.parts.now _ _ _ c.requires.seat reserved c.frames_needed.ensures _ _ (comes g (goal.at.build_reserved-requires-clause-credits g c).After-fill_frame)

pub returns-clause-takes : goal.returns-clause-takes
returns-clause-takes g c =
    let reserved = rw c.in_default.is at c.reserve.ensures.ok in
    takes_all c.args.scheme c.args.parts.now _ _ _ c.requires.seat reserved c.frames_needed.ensures _ _ (comes g (goal.at.returns-clause-takes g c).After-fill_frame) _ c.build_reserved.ensures.takes
