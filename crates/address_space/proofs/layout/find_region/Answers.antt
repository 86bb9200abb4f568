use Rattle.std.proofs.Common.{◌≡◌, ◌+◌, ◌∙◌, suc, sym, arith}
use Rattle.address_space.proofs.Found.{met, none_left, passed}
use Rattle.address_space.proofs.layout.find_region.Goals as goal

pub returns-then-holds_page : goal.returns-then-holds_page
returns-then-holds_page c = sym (c.loop-region.invariant ∙ met c.args.regions.now c.loop-region.region-index c.args.page _ c.loop-region-test.true (sym c.holds_page.ensures ∙ c.if-holds_page.true))

pub loop-region-preserved : goal.loop-region-preserved
loop-region-preserved c =
    let next : c.loop-region.region-index + 1 ≡ suc c.loop-region.region-index = omega arith in
    c.loop-region.invariant ∙ rw next (passed c.args.regions.now c.loop-region.region-index c.args.page _ c.loop-region-test.true (sym c.holds_page.ensures ∙ c.if-holds_page.false))

pub returns : goal.returns
returns c = sym (c.loop-region.invariant ∙ none_left c.args.regions.now c.loop-region.region-index c.args.page c.loop-region-test.false)
