-- Lemmas: the numbers of the page tables that some pages need are a list without repeats, as long as `tables_needed`; a
-- number is in it if and only if its table is on the way to one of these pages, to TRAMPOLINE or to TRAPFRAME.
use Rattle.std.proofs.Common.{◌≡◌, ℕ, zero, suc, ◌+◌, ◌-◌, ◌/◌, ◌^◌, ◌<◌, ◌≤◌, inl, inr, refl, sym, subst, ap, ◌∙◌, arith, List, [], ◌∷◌, ◌++◌, map, length, ◌*◌}
use Rattle.std.specs.Prelude.{All}
use Rattle.std.proofs.lemmas.Bool.{cases_eq}
use Rattle.std.proofs.lemmas.List.{length-append, length-map}
use Rattle.process_model.specs.Frames.{tables_needed, three_sizes, two_sizes}
use Rattle.process_model.specs.PageMap.{count, keys, numbers}
use Rattle.sv39_entry.specs.Schemes.{of_scheme, page_limit, top_level, trampoline_page, trapframe_page}
use Rattle.sv39_entry.specs.declared.scheme.Scheme.{Scheme}
use Rattle.sv39_entry.specs.declared.scheme.Scheme.TheVariants.{Sv39, Sv48}
use Rattle.table_walk.specs.Nodes.{above_root, in_level, node_at, power_next, power_some, power_up, root_some}
use Rattle.table_walk.specs.Tables.{first_leaf, node, root_node}
use Rattle.hart_machine.proofs.NumberLists.{Among, among_back, among_front, among_map, among_parts, Distinct, distinct_append, distinct_map, mapped_from}
use Rattle.hart_machine.proofs.KeySets.{keys_distinct, length_keys, numbers_have, numbers_have_only, of_all}

-- the two pages that each process has are always among them
abbrev pub all_of : Scheme → List ℕ → List ℕ
all_of z pages = trampoline_page z ∷ trapframe_page z ∷ pages

-- for how many pages a table is that stands so many levels below the root
abbrev pub size : Scheme → ℕ → ℕ
size z depth = 512 ^ suc (top_level z - depth)

-- the first number of that level
abbrev pub first_number : Scheme → ℕ → ℕ
first_number z depth = 512 ^ (above_root z + depth)

-- the upper parts of the pages' numbers
abbrev pub uppers : Scheme → ℕ → List ℕ → List ℕ
uppers z depth pages = keys (numbers (map (λ n. n / size z depth) (all_of z pages)))

-- the tables of a level, and those of all levels below the root down to it
abbrev pub level_numbers : Scheme → ℕ → List ℕ → List ℕ
level_numbers z depth pages = map (λ x. first_number z depth + x) (uppers z depth pages)

abbrev pub lower_numbers : Scheme → List ℕ → ℕ → List ℕ
lower_numbers z pages zero = []
lower_numbers z pages (suc depth) = lower_numbers z pages depth ++ level_numbers z (suc depth) pages

abbrev pub table_numbers : Scheme → List ℕ → List ℕ
table_numbers z pages = root_node z ∷ lower_numbers z pages (top_level z)

-- a level has as many as its upper parts
level_long : (z : Scheme) (depth : ℕ) (pages : List ℕ) → length (level_numbers z depth pages) ≡ count (numbers (map (λ n. n / size z depth) (all_of z pages)))
level_long z depth pages = length-map (uppers z depth pages) (λ x. first_number z depth + x) ∙ length_keys (numbers (map (λ n. n / size z depth) (all_of z pages)))

lower_long : (z : Scheme) (depth : ℕ) (pages : List ℕ) → length (lower_numbers z pages (suc depth)) ≡ length (lower_numbers z pages depth) + length (level_numbers z (suc depth) pages)
lower_long z depth pages = length-append (lower_numbers z pages depth) (level_numbers z (suc depth) pages)

pub tables_long : (z : Scheme) (pages : List ℕ) → length (table_numbers z pages) ≡ tables_needed z pages
tables_long Sv39 pages =
    omega (arith, lower_long Sv39 1 pages, lower_long Sv39 0 pages, level_long Sv39 1 pages, level_long Sv39 2 pages, two_sizes Sv39 pages refl)
tables_long Sv48 pages =
    omega (
      arith,
      lower_long Sv48 2 pages,
      lower_long Sv48 1 pages,
      lower_long Sv48 0 pages,
      level_long Sv48 1 pages,
      level_long Sv48 2 pages,
      level_long Sv48 3 pages,
      three_sizes Sv48 pages refl,
    )

-- the numbers of the next level
next_number : (z : Scheme) (depth : ℕ) → first_number z (suc depth) ≡ 512 * first_number z depth
next_number z depth = let more : above_root z + suc depth ≡ suc (above_root z + depth) = omega arith in rw more (power_next (above_root z + depth))

module _ (z : Scheme) (pages : List ℕ) (low : All (λ n. n < trapframe_page z) pages) where
  small : (x : ℕ) → Among x (all_of z pages) → x < page_limit z
  small x (inl e) = omega (arith, e, of_scheme z)
  small x (inr (inl e)) = omega (arith, e, of_scheme z)
  small x (inr (inr i)) = let below = of_all (λ n. n < trapframe_page z) x pages low i in omega (arith, below, of_scheme z)

  -- each upper part is that of a page
  upper_of : (depth x : ℕ) → Among x (uppers z depth pages) → (n : ℕ) × Among n (all_of z pages) × (x ≡ n / size z depth)
  upper_of depth x i = mapped_from (λ n. n / size z depth) x (all_of z pages) (numbers_have_only (map (λ n. n / size z depth) (all_of z pages)) x i)

  has_upper : (depth n : ℕ) → Among n (all_of z pages) → Among (n / size z depth) (uppers z depth pages)
  has_upper depth n i = numbers_have (map (λ n. n / size z depth) (all_of z pages)) (n / size z depth) (among_map (λ n. n / size z depth) n (all_of z pages) i)

  -- which way a number of a level has
  way_of_level : (k depth : ℕ) → depth ≤ top_level z → Among k (level_numbers z depth pages) → (page : ℕ) × Among page (all_of z pages) × (k ≡ node z page depth)
  way_of_level k depth deep i =
      let x = mapped_from (λ x. first_number z depth + x) k (uppers z depth pages) i in
      let n = upper_of depth x.0 x.1 in
      let is = node_at z n.0 depth deep (small n.0 n.1) in
      (n.0, n.1, x.2 ∙ ap (λ m. first_number z depth + m) n.2 ∙ sym is)

  way_of_lower : (k depth : ℕ) → depth ≤ top_level z → Among k (lower_numbers z pages depth)
      → (page d : ℕ) × Among page (all_of z pages) × (d ≤ depth) × (k ≡ node z page d)
  way_of_lower k zero deep i = absurd i
  way_of_lower k (suc depth) deep i = elim (among_parts k (lower_numbers z pages depth) (level_numbers z (suc depth) pages) i) [
    | inl j ↦ (let way = way_of_lower k depth (omega (arith, deep)) j in (way.0, way.1, way.2, (let less = way.3 in omega (arith, less)), way.4))
    | inr j ↦ (let way = way_of_level k (suc depth) deep j in (way.0, suc depth, way.1, omega arith, way.2))
  ]

  pub way_of : (k : ℕ) → Among k (table_numbers z pages) → (page depth : ℕ) × Among page (all_of z pages) × (depth ≤ top_level z) × (k ≡ node z page depth)
  way_of k (inl e) = (trampoline_page z, 0, inl refl, omega arith, e)
  way_of k (inr i) = way_of_lower k (top_level z) (omega arith) i

  in_lower : (k page d depth : ℕ) → Among page (all_of z pages) → 0 < d → d ≤ depth → depth ≤ top_level z → k ≡ node z page d → Among k (lower_numbers z pages depth)
  in_lower k page d zero i some shallow deep is = absurd (omega (arith, some, shallow))
  in_lower k page d (suc depth) i some shallow deep is = elim (cases_eq d (suc depth)) [
    | inl same ↦ (
        let here : k ≡ first_number z (suc depth) + page / size z (suc depth) = is ∙ ap (node z page) same ∙ node_at z page (suc depth) deep (small page i) in
        among_back k (lower_numbers z pages depth) (level_numbers z (suc depth) pages)
        (subst (λ m. Among m (level_numbers z (suc depth) pages)) (sym here)
        (among_map (λ x. first_number z (suc depth) + x) (page / size z (suc depth)) (uppers z (suc depth) pages) (has_upper (suc depth) page i))))
    | inr apart ↦ among_front k (lower_numbers z pages depth) (level_numbers z (suc depth) pages)
        (in_lower k page d depth i some (omega (arith, shallow, apart)) (omega (arith, deep)) is)
  ]

  pub way_in : (k page depth : ℕ) → Among page (all_of z pages) → depth ≤ top_level z → k ≡ node z page depth → Among k (table_numbers z pages)
  way_in k page zero i shallow is = inl is
  way_in k page (suc depth) i shallow is = inr (in_lower k page (suc depth) (top_level z) i (omega arith) shallow (omega arith) is)

  -- the numbers of a level lie together
  level_range : (k depth : ℕ) → depth ≤ top_level z → Among k (level_numbers z depth pages) → (first_number z depth ≤ k) × (k < 2 * first_number z depth)
  level_range k depth deep j =
      let x = mapped_from (λ x. first_number z depth + x) k (uppers z depth pages) j in
      let n = upper_of depth x.0 x.1 in
      let few = in_level z n.0 depth deep (small n.0 n.1) in
      let room = power_up depth (above_root z + depth) (omega arith) in
      let number = x.2 in let upper = n.2 in
      (omega (arith, number), omega (arith, few, room, number, upper))

  lower_range : (k depth : ℕ) → depth ≤ top_level z → Among k (lower_numbers z pages depth) → (first_number z 1 ≤ k) × (k < 2 * first_number z depth)
  lower_range k zero deep i = absurd i
  lower_range k (suc depth) deep i = elim (among_parts k (lower_numbers z pages depth) (level_numbers z (suc depth) pages) i) [
    | inl j ↦ (let range = lower_range k depth (omega (arith, deep)) j in let next = next_number z depth in (range.0, (let high = range.1 in omega (arith, high, next))))
    | inr j ↦ (
        let range = level_range k (suc depth) deep j in
        let up = power_up (above_root z + 1) (above_root z + suc depth) (omega arith) in
        ((let from = range.0 in omega (arith, from, up)), range.1))
  ]

  pub table_range : (k : ℕ) → Among k (table_numbers z pages) → k < first_leaf
  table_range k (inl e) =
      let up = power_up (above_root z) 3 (omega (arith, of_scheme z)) in
      omega (arith, e, up)
  table_range k (inr i) =
      let range = lower_range k (top_level z) (omega arith) i in
      let all : above_root z + top_level z ≡ 3 = omega (arith, of_scheme z) in
      let high : k < 2 * 512 ^ 3 = rw all at range.1 in
      omega (arith, high)

  level_distinct : (depth : ℕ) → Distinct (level_numbers z depth pages)
  level_distinct depth =
      distinct_map (λ x. first_number z depth + x) (uppers z depth pages) (λ a b i j e. omega (arith, e)) (keys_distinct (numbers (map (λ n. n / size z depth) (all_of z pages))))

  lower_distinct : (depth : ℕ) → depth ≤ top_level z → Distinct (lower_numbers z pages depth)
  lower_distinct zero deep = tt
  lower_distinct (suc depth) deep =
      distinct_append (lower_numbers z pages depth) (level_numbers z (suc depth) pages) (lower_distinct depth (omega (arith, deep))) (level_distinct (suc depth))
      (λ q i j.
      let before = (lower_range q depth (omega (arith, deep)) i).1 in
      let from = (level_range q (suc depth) deep j).0 in
      let next = next_number z depth in
      let some = power_some (above_root z + depth) in
      absurd (omega (arith, before, from, next, some)))

  pub tables_distinct : Distinct (table_numbers z pages)
  tables_distinct = (
    (λ i.
        let from = (lower_range (root_node z) (top_level z) (omega arith) i).0 in
        let next = next_number z 0 in
        let first : above_root z + 0 ≡ above_root z = omega arith in
        let some = root_some z in
        absurd (omega (arith, from, rw first at next, some))),
    lower_distinct (top_level z) (omega arith),
  )
