-- Lemmas about the numbers of page tables and leaves (`node` in `Tables`): bounds that keep each depth, and the leaves,
-- apart; the number of the table above, and the index in it; and the numbers of a page's tables and leaf by its page number.
use Rattle.std.proofs.Common.{◌≡◌, ℕ, zero, suc, ◌+◌, ◌-◌, ◌*◌, ◌/◌, ◌%◌, ◌^◌, ◌<◌, ◌≤◌, arith, inl, inr, rules, ap}
use Rattle.std.proofs.lemmas.Bool.{cases_eq, cases_lt}
use Rattle.sv39_entry.specs.Address.{vpn}
use Rattle.sv39_entry.specs.Schemes.{low_page, of_scheme, page_limit, top_level}
use Rattle.sv39_entry.specs.declared.scheme.Scheme.{Scheme}
use Rattle.sv39_entry.specs.declared.scheme.Scheme.TheVariants.{Sv39, Sv48}
use Rattle.table_walk.specs.Tables.{first_leaf, last_table, leaf_node, node, root_node, walk_leaf}

pub vpn_low : (page level : ℕ) → vpn page level < 512
vpn_low page level = omega arith

-- the numbers of each depth are apart from those of the others: powers of 512 bound them
pub power_next : (k : ℕ) → 512 ^ suc k ≡ 512 * 512 ^ k
power_next k = search rules

pub power_some : (k : ℕ) → 1 ≤ 512 ^ k
power_some zero = omega arith
power_some (suc k) = let below = power_some k in let next = power_next k in omega (arith, below, next)

pub power_up : (j k : ℕ) → j ≤ k → 512 ^ j ≤ 512 ^ k
power_up j zero le = let same : j ≡ 0 = omega arith in rw same (omega arith)
power_up j (suc k) le = elim (cases_eq j (suc k)) [
  | inl same ↦ rw same (omega arith)
  | inr ne ↦ let below = power_up j k (omega (arith, ne)) in let next = power_next k in omega (arith, below, next)
]

-- how many levels of a tree of four are above the root of a scheme
abbrev pub above_root : Scheme → ℕ
above_root s = 3 - top_level s

pub root_some : (s : Scheme) → 1 ≤ root_node s
root_some s = power_some (3 - top_level s)

pub root_few : (s : Scheme) → root_node s ≤ 512
root_few Sv39 = omega arith
root_few Sv48 = omega arith

pub node_from : (s : Scheme) (page k : ℕ) → 512 ^ (above_root s + k) ≤ node s page k
node_from s page zero = let same : above_root s + 0 ≡ above_root s = omega arith in rw same (omega arith)
node_from s page (suc k) =
    let above = node_from s page k in
    let next = power_next (above_root s + k) in
    let more : above_root s + suc k ≡ suc (above_root s + k) = omega arith in
    rw more (omega (arith, above, next))

pub node_below : (s : Scheme) (page k : ℕ) → node s page k < 2 * 512 ^ (above_root s + k)
node_below s page zero = let same : above_root s + 0 ≡ above_root s = omega arith in let some = power_some (above_root s) in rw same (omega (arith, some))
node_below s page (suc k) =
    let above = node_below s page k in
    let next = power_next (above_root s + k) in
    let low = vpn_low page (top_level s - k) in
    let more : above_root s + suc k ≡ suc (above_root s + k) = omega arith in
    rw more (omega (arith, above, next, low))

-- a table on the way to a page is at one depth
pub one_depth : (s : Scheme) (page other j k : ℕ) → node s page j ≡ node s other k → j ≡ k
one_depth s page other j k same = elim (cases_lt j k) [
  | inl less ↦ absurd (
      let far = power_up (suc (above_root s + j)) (above_root s + k) (omega (arith, less)) in
      let next = power_next (above_root s + j) in
      let high = node_below s page j in
      let low = node_from s other k in
      let some = power_some (above_root s + j) in
      omega (arith, far, next, high, low, some, same))
  | inr more ↦ elim (cases_eq j k) [
    | inl is ↦ is
    | inr ne ↦ absurd (
        let far = power_up (suc (above_root s + k)) (above_root s + j) (omega (arith, ne, more)) in
        let next = power_next (above_root s + k) in
        let high = node_below s other k in
        let low = node_from s page j in
        let some = power_some (above_root s + k) in
        omega (arith, far, next, high, low, some, same))
  ]
]

-- no table below the root has the root's number
pub not_root : (s : Scheme) (page k : ℕ) → node s page (suc k) ≡ root_node s → ⊥
not_root s page k same = let depths = one_depth s page page (suc k) zero same in omega (arith, depths)

-- the numbers of tables are below those of leaves
pub table_number : (s : Scheme) (page k : ℕ) → k ≤ top_level s → node s page k < first_leaf
table_number s page k low =
    let few = (of_scheme s).few_levels in
    let far = power_up (suc (above_root s + k)) 4 (omega (arith, low, few)) in
    let next = power_next (above_root s + k) in
    let high = node_below s page k in
    let some = power_some (above_root s + k) in
    omega (arith, far, next, high, some)

pub leaf_number : (s : Scheme) (page : ℕ) → first_leaf ≤ walk_leaf s page
leaf_number s page =
    let few = (of_scheme s).few_levels in
    let all : above_root s + suc (top_level s) ≡ 4 = omega (arith, few) in
    rw all at (node_from s page (suc (top_level s)))

-- the table that points to a node, and the index at which it does
pub above : (s : Scheme) (page k : ℕ) → node s page (suc k) / 512 ≡ node s page k
above s page k = let low = vpn_low page (top_level s - k) in omega (arith, low)

pub index : (s : Scheme) (page k : ℕ) → node s page (suc k) % 512 ≡ vpn page (top_level s - k)
index s page k = let low = vpn_low page (top_level s - k) in omega (arith, low)

-- the leaf that a walk of a page may find is that of the page number without its upper bits
pub walk_leaf_is : (s : Scheme) (page : ℕ) → walk_leaf s page ≡ leaf_node (low_page s page)
walk_leaf_is Sv39 page = omega arith
walk_leaf_is Sv48 page = omega arith

pub low_leaf : (s : Scheme) (page : ℕ) → page < page_limit s → walk_leaf s page ≡ leaf_node page
low_leaf Sv39 page low = omega (arith, low)
low_leaf Sv48 page low = omega (arith, low)

-- the number of the table that is d levels below the root on the way to page n
pub node_at : (s : Scheme) (n d : ℕ) → d ≤ top_level s → n < page_limit s → node s n d ≡ 512 ^ (above_root s + d) + n / 512 ^ suc (top_level s - d)
node_at Sv39 n zero deep low = omega (arith, low)
node_at Sv39 n (suc zero) deep low = omega (arith, low)
node_at Sv39 n (suc (suc zero)) deep low = omega (arith, low)
node_at Sv39 n (suc (suc (suc d))) deep low = absurd (omega (arith, deep))
node_at Sv48 n zero deep low = omega (arith, low)
node_at Sv48 n (suc zero) deep low = omega (arith, low)
node_at Sv48 n (suc (suc zero)) deep low = omega (arith, low)
node_at Sv48 n (suc (suc (suc zero))) deep low = omega (arith, low)
node_at Sv48 n (suc (suc (suc (suc d)))) deep low = absurd (omega (arith, deep))

pub in_level : (s : Scheme) (n d : ℕ) → d ≤ top_level s → n < page_limit s → n / 512 ^ suc (top_level s - d) < 512 ^ d
in_level Sv39 n zero deep low = omega (arith, low)
in_level Sv39 n (suc zero) deep low = omega (arith, low)
in_level Sv39 n (suc (suc zero)) deep low = omega (arith, low)
in_level Sv39 n (suc (suc (suc d))) deep low = absurd (omega (arith, deep))
in_level Sv48 n zero deep low = omega (arith, low)
in_level Sv48 n (suc zero) deep low = omega (arith, low)
in_level Sv48 n (suc (suc zero)) deep low = omega (arith, low)
in_level Sv48 n (suc (suc (suc zero))) deep low = omega (arith, low)
in_level Sv48 n (suc (suc (suc (suc d)))) deep low = absurd (omega (arith, deep))

-- the number of a page's leaf, by that of the last table on the way to it
pub walk_leaf_step : (s : Scheme) (page : ℕ) → last_table s page * 512 + vpn page 0 ≡ walk_leaf s page
walk_leaf_step s page =
    let last : 0 ≡ top_level s - top_level s = omega arith in
    ap (λ (level : ℕ). last_table s page * 512 + vpn page level) last

-- the number of the root, times 512 for each level, is where the numbers of leaves begin
pub root_power : (s : Scheme) → root_node s * 512 ^ suc (top_level s) ≡ first_leaf
root_power Sv39 = omega arith
root_power Sv48 = omega arith

-- two pages with one leaf are one page
pub one_page : (m n : ℕ) → leaf_node m ≡ leaf_node n → m ≡ n
one_page m n same = omega (arith, same)
