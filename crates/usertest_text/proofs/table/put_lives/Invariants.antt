use Rattle.std.proofs.Common.{◌≡◌, ◌++◌, map, take}
use Rattle.std.specs.List.{flat_map}
use Rattle.usertest_text.specs.Table.{life_text}
use Rattle.usertest_text.proofs.table.put_lives.Given as goal

-- the functions so far were appended
abbrev pub invariant-lives : goal.invariant-lives
invariant-lives l = l.out.items ≡ l.fn.out.items ++ flat_map (life_text (map (λ it. it.items) l.answers)) (take l.life-index l.lives)
