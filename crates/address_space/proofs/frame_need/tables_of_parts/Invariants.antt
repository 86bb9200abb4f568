use Rattle.address_space.proofs.NeededParts.{CountsTables}
use Rattle.address_space.proofs.frame_need.tables_of_parts.Given as goal

-- the tables of so many parts are counted, and their numbers are below `counted`
abbrev pub invariant-parts : goal.invariant-parts
invariant-parts l = CountsTables l.fn.scheme l.pages l.fn.parts l.part-index l.count l.counted
