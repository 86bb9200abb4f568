use Rattle.std.proofs.Common.{◌-◌, ◌↔◌, IsTrue}
use Rattle.sv39_entry.specs.Address.{page_of}
use Rattle.sv39_entry.specs.Schemes.{top_level}
use Rattle.table_walk.specs.Walk.{IsAt}
use Rattle.table_walk.proofs.Ways.{HasMark}
use Rattle.table_walk.proofs.find.lookup_from.Given as goal

-- the walk has come to the table of this level
abbrev pub invariant-levels : goal.invariant-levels
invariant-levels g l = record {
  stays : g.M.Words.stays l.fn.words l.words;
  way : IsAt l.fn.scheme (g.M.Words.memory l.fn.words) l.root (page_of l.fn.va.0) ((top_level l.fn.scheme) - l.level) l.table;
  marked : IsTrue l.global ↔ HasMark l.fn.scheme (g.M.Words.memory l.fn.words) l.root (page_of l.fn.va.0) ((top_level l.fn.scheme) - l.level);
}
