use Rattle.std.proofs.Common.{refl, arith}
use Rattle.tests_of_frames.proofs.SeatSteps.{reserve-wider, claim-wider, share-wider, given-wider, claims_two, shares_first, releases_first, releases_second}
use Rattle.tests_of_frames.proofs.shared_words.round.Goals as goal

pub returns-in_err-reserve-clause-base : goal.returns-in_err-reserve-clause-base
returns-in_err-reserve-clause-base g c = reserve-wider _ _ _ _ c.reserve.ensures.ok c.reserve.ensures.err 0 c.requires.base

pub claim-first-requires-clause-anchored : goal.claim-first-requires-clause-anchored
claim-first-requires-clause-anchored g c = reserve-wider _ _ _ _ c.reserve.ensures.ok c.reserve.ensures.err 0 c.requires.base

pub claim-second-requires-clause-anchored : goal.claim-second-requires-clause-anchored
claim-second-requires-clause-anchored g c = claim-wider _ _ _ c.claim-first.ensures.view 0 (reserve-wider _ _ _ _ c.reserve.ensures.ok c.reserve.ensures.err 0 c.requires.base)

pub share-requires-clause-held : goal.share-requires-clause-held
share-requires-clause-held g c =
    let base = reserve-wider _ _ _ _ c.reserve.ensures.ok c.reserve.ensures.err 0 c.requires.base in
    let r = claims_two _ _ _ _ _ base c.claim-first.ensures.fresh c.claim-first.ensures.view c.claim-second.ensures.fresh c.claim-second.ensures.view in
    omega (arith, r.first)

pub returns-in_err-share-clause-base : goal.returns-in_err-share-clause-base
returns-in_err-share-clause-base g c =
    let base = reserve-wider _ _ _ _ c.reserve.ensures.ok c.reserve.ensures.err 0 c.requires.base in
    let r = claims_two _ _ _ _ _ base c.claim-first.ensures.fresh c.claim-first.ensures.view c.claim-second.ensures.fresh c.claim-second.ensures.view in
    share-wider _ _ _ _ c.share.ensures.ok c.share.ensures.err 0 r.base

pub release-requires-clause-held : goal.release-requires-clause-held
release-requires-clause-held g c =
    let base = reserve-wider _ _ _ _ c.reserve.ensures.ok c.reserve.ensures.err 0 c.requires.base in
    let r = claims_two _ _ _ _ _ base c.claim-first.ensures.fresh c.claim-first.ensures.view c.claim-second.ensures.fresh c.claim-second.ensures.view in
    let s = shares_first _ _ _ _ _ _ r c.in_ok-share.ensures.ok in
    omega (arith, s.first)

pub release-requires-clause-anchored : goal.release-requires-clause-anchored
release-requires-clause-anchored g c = λ _ _.
    let base = reserve-wider _ _ _ _ c.reserve.ensures.ok c.reserve.ensures.err 0 c.requires.base in
    let r = claims_two _ _ _ _ _ base c.claim-first.ensures.fresh c.claim-first.ensures.view c.claim-second.ensures.fresh c.claim-second.ensures.view in
    let s = shares_first _ _ _ _ _ _ r c.in_ok-share.ensures.ok in
    (releases_first _ _ _ _ _ _ s refl).base

pub release-requires-2-clause-held : goal.release-requires-2-clause-held
release-requires-2-clause-held g c =
    let base = reserve-wider _ _ _ _ c.reserve.ensures.ok c.reserve.ensures.err 0 c.requires.base in
    let r = claims_two _ _ _ _ _ base c.claim-first.ensures.fresh c.claim-first.ensures.view c.claim-second.ensures.fresh c.claim-second.ensures.view in
    let s = shares_first _ _ _ _ _ _ r c.in_ok-share.ensures.ok in
    let t = releases_first _ _ _ _ _ _ s c.release.ensures.view in
    omega (arith, t.second)

pub release-requires-2-clause-anchored : goal.release-requires-2-clause-anchored
release-requires-2-clause-anchored g c = λ _ _.
    let base = reserve-wider _ _ _ _ c.reserve.ensures.ok c.reserve.ensures.err 0 c.requires.base in
    let r = claims_two _ _ _ _ _ base c.claim-first.ensures.fresh c.claim-first.ensures.view c.claim-second.ensures.fresh c.claim-second.ensures.view in
    let s = shares_first _ _ _ _ _ _ r c.in_ok-share.ensures.ok in
    let t = releases_first _ _ _ _ _ _ s c.release.ensures.view in
    (releases_second _ _ _ _ _ _ t refl).base

pub release-requires-3-clause-held : goal.release-requires-3-clause-held
release-requires-3-clause-held g c =
    let base = reserve-wider _ _ _ _ c.reserve.ensures.ok c.reserve.ensures.err 0 c.requires.base in
    let r = claims_two _ _ _ _ _ base c.claim-first.ensures.fresh c.claim-first.ensures.view c.claim-second.ensures.fresh c.claim-second.ensures.view in
    let s = shares_first _ _ _ _ _ _ r c.in_ok-share.ensures.ok in
    let t = releases_first _ _ _ _ _ _ s c.release.ensures.view in
    let u = releases_second _ _ _ _ _ _ t c.release-2.ensures.view in
    omega (arith, u.first)

pub release-requires-3-clause-anchored : goal.release-requires-3-clause-anchored
release-requires-3-clause-anchored g c = λ _ _.
    let base = reserve-wider _ _ _ _ c.reserve.ensures.ok c.reserve.ensures.err 0 c.requires.base in
    let r = claims_two _ _ _ _ _ base c.claim-first.ensures.fresh c.claim-first.ensures.view c.claim-second.ensures.fresh c.claim-second.ensures.view in
    let s = shares_first _ _ _ _ _ _ r c.in_ok-share.ensures.ok in
    let t = releases_first _ _ _ _ _ _ s c.release.ensures.view in
    let u = releases_second _ _ _ _ _ _ t c.release-2.ensures.view in
    (releases_first _ _ _ _ _ _ u refl).base

pub returns-clause-base : goal.returns-clause-base
returns-clause-base g c =
    let base = reserve-wider _ _ _ _ c.reserve.ensures.ok c.reserve.ensures.err 0 c.requires.base in
    let r = claims_two _ _ _ _ _ base c.claim-first.ensures.fresh c.claim-first.ensures.view c.claim-second.ensures.fresh c.claim-second.ensures.view in
    let s = shares_first _ _ _ _ _ _ r c.in_ok-share.ensures.ok in
    let t = releases_first _ _ _ _ _ _ s c.release.ensures.view in
    let u = releases_second _ _ _ _ _ _ t c.release-2.ensures.view in
    given-wider _ _ _ c.give_back.ensures.view 0 (releases_first _ _ _ _ _ _ u c.release-3.ensures.view).base
