-- When a search of the words that a place had may stop.
use Rattle.std.specs.Prelude.{◌≡◌, ℕ, ◌<◌, true, None}
use Rattle.walk_rules.specs.Kinds.{kind_in}
use Rattle.sv39_entry.specs.declared.entry.Kind.TheVariants.{Leaf}
use Rattle.access_history.specs.Permits.{Past}
use Rattle.access_judge.specs.Judging.{index_at}
use Rattle.access_judge.specs.Search.{Stand, address_fence, is_kind}
use Rattle.access_judge.specs.declared.question.Question.{Question}

-- in a last table, at the address's own place, a leaf that memory had until a moment, and a later fence for the address in each address space: the
-- fence covers each older word of the place too, a leaf by itself, and an invalid one since it became this leaf
pub record HidesOlder (a : Question) (p : Past) (s : Stand) (index word last : ℕ) : Type 0 where
  pub level : s.level ≡ 0
  pub own : index ≡ index_at a s
  pub leaf : is_kind (kind_in a.extensions 0 word) Leaf ≡ true
  pub fenced : last < address_fence p.first.satp p.events 12 a.request.va.0 None
