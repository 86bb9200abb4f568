use Rattle.std.proofs.Common.{◌+◌}
use Rattle.frame_store.specs.ZeroWords.{IdleIn}
use Rattle.frame_store.proofs.memory.Memory.next_busy.Given as goal

-- the words before a place of the part are idle
abbrev pub invariant-words : goal.invariant-words
invariant-words l = IdleIn l.self l.fn.frame.0 l.first (l.from + l.place)
