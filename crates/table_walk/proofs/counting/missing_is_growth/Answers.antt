use Rattle.table_walk.proofs.Counted.{first_missing, first_tables, grown_tables, missing_growth, none_missing, same_tables}
use Rattle.table_walk.proofs.counting.missing_is_growth.Goals as goal

pub returns : goal.returns
returns c = record {
  missing = missing_growth;
  grown = grown_tables;
  missing_first = first_missing;
  first = first_tables;
  none = none_missing;
  same = same_tables;
}
