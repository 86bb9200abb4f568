-- The search part by part, as the code goes through it: what each part says.
use Rattle.std.specs.Prelude.{◌≡◌, ℕ, Bool, true, false, ◌+◌, ◌*◌, ◌/◌, ◌^◌, ◌<◌, ◌==◌, ◌&&◌, ◌||◌, ◌≤◌, not, Option, None, Some, List, [], ◌∷◌, ◌++◌, length, if◌then◌else◌}
use Rattle.std.specs.List.{flat_map, range_with_len}
use Rattle.sv39_entry.specs.Address.{page_of, vpn}
use Rattle.walk_rules.specs.Addresses.{top_of}
use Rattle.access_history.specs.Permits.{Past}
use Rattle.access_history.specs.Held.{read_of}
use Rattle.access_history.specs.declared.outcome.Outcome.{Outcome}
use Rattle.access_judge.specs.Search.{Found, Item, Stand, Use, Version, below_of, ended, found_by, is_kind, is_of_epoch, is_pointer, place_says, root_at, said, search, until, update_says, updated_behind, versions}
use Rattle.sv39_entry.specs.declared.entry.Kind.TheVariants.{Leaf}
use Rattle.walk_rules.specs.Kinds.{is_napot, kind_in}
use Rattle.access_judge.specs.declared.sink.Step.{Step}
use Rattle.access_judge.specs.declared.question.Question.{Question}
use Rattle.access_judge.specs.declared.question.Table.{Table}

abbrev pub stand_of : Table → Stand
stand_of t = record { level = t.level; table = t.ppn; asid = t.asid; global = t.global; epoch = t.epoch; last = t.last }

abbrev pub found_of : Step → Found
found_of s = record { read = read_of s.level s.ppn s.entry s.asid s.global; last = s.last }

-- a table of a walk, at a moment that was
pub record IsTable (p : Past) (t : Table) : Type 0 where
  pub level : t.level ≤ 4
  pub ppn : t.ppn < 2 ^ 44
  pub last : t.last ≤ length p.events

pub record IsStep (p : Past) (s : Step) : Type 0 where
  pub level : s.level ≤ 4
  pub ppn : s.ppn < 2 ^ 44
  pub last : s.last ≤ length p.events

-- what an item of the search says
unfoldable pub item_says : Question → Past → Item → List Outcome
item_says a p i = said a.extensions p a.request a.mode i

-- from a table on
unfoldable pub table_says : Question → Past → Stand → List Outcome
table_says a p s = flat_map (said a.extensions p a.request a.mode) (search a.extensions p.first p.events a.request.va.0 s.level s)

-- below a pointer
unfoldable pub pointer_says : Question → Past → Stand → Found → List Outcome
pointer_says a p s c = table_says a p (below_of p.events s c.read)

unfoldable pub step_says : Question → Past → Stand → Found → List Outcome
step_says a p s c = if is_pointer a.extensions c then pointer_says a p s c else item_says a p (ended c)

-- a PTE counts if no fence of the ASID came after it; in the group of a NAPOT leaf, only if it is one
abbrev pub counts : Question → Stand → Bool → Found → Bool
counts a s napot c = (not napot || (is_napot 0 c.read.word && is_kind (kind_in a.extensions 0 c.read.word) Leaf)) && is_of_epoch s c

unfoldable pub word_says : Question → Past → Stand → Bool → Version → List Outcome
word_says a p s napot v = if counts a s napot (found_by s v) then step_says a p s (found_by s v) else []

-- each word that a place had
unfoldable pub words_say : Question → Past → Stand → Bool → List Version → List Outcome
words_say a p s napot vs = flat_map (word_says a p s napot) vs

abbrev pub versions_of : Past → Stand → ℕ → List Version
versions_of p s index = versions p.first.memory (until p.events s.last) s.table index

-- the group of 16 PTEs from an index on
unfoldable pub group_says : Question → Past → Stand → ℕ → List Outcome
group_says a p s first = flat_map (λ n. words_say a p s true (versions_of p s (first + n))) (range_with_len 0 16)

abbrev pub index_at : Question → Stand → ℕ
index_at a s = vpn (page_of a.request.va.0) s.level

unfoldable pub entries_say : Question → Past → Stand → List Outcome
entries_say a p s =
    words_say a p s false (versions_of p s (index_at a s))
    ++ (if a.extensions.svnapot && s.level == 0 then group_says a p s (vpn (page_of a.request.va.0) 0 / 16 * 16) else [])

-- from the root of a use of satp
unfoldable pub root_says : Question → Past → Use → List Outcome
root_says a p u = flat_map (table_says a p) (root_at a.request.va.0 u (top_of u.satp))

-- the table at a stand, of one level less
pub record IsBelowTable (p : Past) (s : Stand) (level : ℕ) (t : Table) : Type 0 where
  pub stand : s ≡ stand_of t
  pub table : IsTable p t
  pub less : t.level + 1 ≡ level

-- the table at the only stand of a list, of a moment; or none, and the list is empty
abbrev pub IsRootTable : List Stand → ℕ → Option Table → Type 0
IsRootTable ss last None = ss ≡ []
IsRootTable ss last (Some t) = (ss ≡ stand_of t ∷ []) × (t.level ≤ 4) × (t.ppn < 2 ^ 44) × (t.last ≡ last)

-- ---- a leaf with the words that it may have by updates

unfoldable pub update_says_of : Question → Past → Found → ℕ → List Outcome
update_says_of a p c w = update_says a.extensions p a.request a.mode c w

-- by a newer word that a place had, and the older ones
unfoldable pub behind_say : Question → Past → Found → ℕ → List Version → List Outcome
behind_say a p c new vs = flat_map (update_says_of a p c) (updated_behind c.last c.read.word new vs)

unfoldable pub place_says_of : Question → Past → Found → ℕ → List Outcome
place_says_of a p c index = place_says a.extensions p a.request a.mode c index

-- by each place of a group of 16 from an index on
unfoldable pub group_says_since : Question → Past → Found → ℕ → List Outcome
group_says_since a p c first = flat_map (λ n. place_says_of a p c (first + n)) (range_with_len 0 16)
