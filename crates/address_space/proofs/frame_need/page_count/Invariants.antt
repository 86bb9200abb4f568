use Rattle.address_space.proofs.NeededParts.{CountsPages}
use Rattle.address_space.proofs.frame_need.page_count.Given as goal

-- the pages of so many parts are counted
abbrev pub invariant-parts : goal.invariant-parts
invariant-parts l = CountsPages l.fn.scheme l.fn.parts l.part-index l.count
