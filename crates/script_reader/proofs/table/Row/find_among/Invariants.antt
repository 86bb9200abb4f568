use Rattle.std.proofs.Common.{◌≡◌, drop, map}
use Rattle.script_language.specs.Fields.{row_among}
use Rattle.script_reader.specs.Rows.{seen}
use Rattle.script_reader.proofs.table.Row.find_among.Given as goal

abbrev pub invariant-loop-row : goal.invariant-loop-row
invariant-loop-row l = row_among (map seen (drop l.row-index l.rows)) l.text ≡ row_among (map seen l.rows) l.text
