-- `IsLastTable`: the last table on the way to a page, kept from one call to the next (`LastTable`), still is that table. A
-- lemma: changes of leaves alone keep it so; and a lemma for equal schemes.
use Rattle.std.specs.Prelude.{◌≡◌, Option, None, Some, IfSome}
use Rattle.std.proofs.Common.{ap, subst, ◌∙◌}
use Rattle.std.specs.FinMap.{get}
use Rattle.sv39_entry.specs.declared.scheme.Scheme.{Scheme}
use Rattle.table_walk.specs.Tables.{Tables, last_table}
use Rattle.table_walk.specs.declared.last_table.LastTable.{LastTable}

-- what was kept, if anything, is the frame of the last table on the way to its page
abbrev pub IsLastTable : Scheme → Tables → Option LastTable → Type 0
IsLastTable s t last = IfSome last (λ x. get t.tables (last_table s x.page) ≡ Some x.frame.0)

-- it is so by each record with the same tables
pub last_of_tables : (s : Scheme) (t u : Tables) (last : Option LastTable) → u.tables ≡ t.tables → IsLastTable s t last → IsLastTable s u last
last_of_tables s t u None same is = is
last_of_tables s t u (Some x) same is = ap (λ tables. get tables (last_table s x.page)) same ∙ is

-- by one scheme it is so as by an equal one
pub last_of_scheme : {x y : Scheme} (t : Tables) (last : Option LastTable) → x ≡ y → IsLastTable x t last → IsLastTable y t last
last_of_scheme t last same is = subst (λ z. IsLastTable z t last) same is
