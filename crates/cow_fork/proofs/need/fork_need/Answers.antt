use Rattle.std.proofs.Common.{arith, ◌∙◌}
use Rattle.process_model.specs.PageMap.{keys}
use Rattle.process_model.specs.Frames.{three_sizes, two_sizes}
use Rattle.cow_fork.proofs.need.fork_need.Goals as goal

pub returns-in-Sv39 : goal.returns-in-Sv39
returns-in-Sv39 c = record {
  need = λ t p same low are.
      let upper = c.tables_of_pages-upper.ensures.count t p same low are in
      let lower = c.tables_of_pages-lower.ensures.count t p same low are in
      let tables = two_sizes p.scheme (keys p.settled) (same ∙ c.in-Sv39.is) in
      omega (arith, upper, lower, tables);
}

pub returns-in-Sv48 : goal.returns-in-Sv48
returns-in-Sv48 c = record {
  need = λ t p same low are.
      let upper = c.tables_of_pages-upper.ensures.count t p same low are in
      let lower = c.tables_of_pages-lower.ensures.count t p same low are in
      let most = c.tables_of_pages.ensures.count t p same low are in
      let tables = three_sizes p.scheme (keys p.settled) (same ∙ c.in-Sv48.is) in
      omega (arith, upper, lower, most, tables);
}
