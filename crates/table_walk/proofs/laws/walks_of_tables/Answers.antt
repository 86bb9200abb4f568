use Rattle.table_walk.proofs.Walks.{global, inside, readable, walk}
use Rattle.table_walk.proofs.laws.walks_of_tables.Goals as goal

pub returns : goal.returns
returns c = record {
  leaves = λ s v root page leaf level t h. walk v root t h page leaf level;
  global = λ s v root page leaf t h is. global v root t h page leaf is;
  inside = λ s v root page t h. inside v root t h page;
  readable = λ s v root page t h. readable v root t h page;
}
