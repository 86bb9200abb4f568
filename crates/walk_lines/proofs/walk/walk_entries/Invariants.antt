use Rattle.std.proofs.Common.{◌-◌}
use Rattle.sv39_entry.specs.Address.{page_of}
use Rattle.sv39_entry.specs.Schemes.{top_level}
use Rattle.table_walk.specs.Walk.{IsAt}
use Rattle.walk_lines.proofs.Entries.{AreFirst}
use Rattle.walk_lines.proofs.walk.walk_entries.Given as goal

-- the words above this level were read, and the walk has come to this table
abbrev pub invariant-levels : goal.invariant-levels
invariant-levels g l = record {
  stays : g.M.Words.stays l.fn.words l.words;
  way : IsAt l.fn.scheme (g.M.Words.memory l.fn.words) l.fn.root (page_of l.fn.va.0) (top_level l.fn.scheme - l.level) l.table;
  first : AreFirst l.fn.scheme (g.M.Words.memory l.fn.words) l.fn.root (page_of l.fn.va.0) l.entries.items (top_level l.fn.scheme - l.level);
}
