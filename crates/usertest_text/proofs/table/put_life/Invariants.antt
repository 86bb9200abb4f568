use Rattle.std.proofs.Common.{◌≡◌, ◌++◌, map, take}
use Rattle.std.specs.List.{flat_map}
use Rattle.usertest_text.specs.Table.{row_text}
use Rattle.usertest_text.proofs.table.put_life.Given as goal

-- the rows so far were appended
abbrev pub invariant-rows : goal.invariant-rows
invariant-rows l = l.out.items ≡ l.fn.out.items ++ flat_map (row_text (map (λ it. it.items) l.answers)) (take l.row-index l.life.rows.items)
