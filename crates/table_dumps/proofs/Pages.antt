-- Lemmas about page numbers: the pages of a page table entry and of a table, and the indices of a page.
use Rattle.std.proofs.Common.{◌≡◌, inl, inr, ℕ, zero, suc, ◌+◌, ◌-◌, ◌*◌, ◌/◌, ◌%◌, ◌^◌, ◌<◌, ◌≤◌, refl, ap, sym, ◌∙◌, arith, rules}
use Rattle.std.proofs.Math.Nat.{div-div-eq-div-mul, mul-le-mul_right, mul-mod_left}
use Rattle.std.proofs.lemmas.Bool.{cases_eq}
use Rattle.std.proofs.lemmas.Nat.{div-add-mod', div-mul-add, pow-add}
use Rattle.sv39_entry.specs.Address.{vpn}

pub power_next : (k : ℕ) → 512 ^ suc k ≡ 512 * 512 ^ k
power_next k = search rules

pub power_some : (k : ℕ) → 1 ≤ 512 ^ k
power_some zero = omega arith
power_some (suc k) = let below = power_some k in let next = power_next k in omega (arith, below, next)

pub power_up : (j k : ℕ) → j ≤ k → 512 ^ j ≤ 512 ^ k
power_up j zero le = let same : j ≡ 0 = omega arith in rw same (omega arith)
power_up j (suc k) le = elim (cases_eq j (suc k)) [
  | inl same ↦ rw same (omega arith)
  | inr ne ↦ let below = power_up j k (omega (arith, ne)) in let next = power_next k in omega (arith, below, next)
]

pub nine_bits : (k : ℕ) → 2 ^ (9 * k) ≡ 512 ^ k
nine_bits zero = refl
nine_bits (suc k) =
    let more : 9 * suc k ≡ 9 + 9 * k = omega arith in
    ap (λ (x : ℕ). 2 ^ x) more ∙ pow-add 2 9 (9 * k) ∙ ap (λ (x : ℕ). 512 * x) (nine_bits k) ∙ sym (power_next k)

-- the pages of an index are among those of its table
pub index_inside : (i width : ℕ) → i < 512 → i * width + width ≤ 512 * width
index_inside i width low = let row = mul-le-mul_right {m = suc i} {n = 512} width low in omega (arith, row)

-- those of a table below a pointer are the pointer's
pub room_below : (first i level limit : ℕ) → i < 512 → (level ≡ 0 → ⊥) → first + 512 * 512 ^ level ≤ limit → first + i * 512 ^ level + 512 * 512 ^ (level - 1) ≤ limit
room_below first i level limit low some room =
    let inside = index_inside i (512 ^ level) low in
    let level_is : suc (level - 1) ≡ level = omega (arith, some) in
    let width : 512 ^ level ≡ 512 * 512 ^ (level - 1) = ap (λ (x : ℕ). 512 ^ x) (sym level_is) ∙ power_next (level - 1) in
    omega (arith, inside, width, room)

pub vpn_is : (page level : ℕ) → vpn page level ≡ page / 512 ^ level % 512
vpn_is page level = ap (λ (x : ℕ). page / x % 512) (nine_bits level)

-- the number of a page table entry's page at one level, by that at the level below
pub one_up : (page level : ℕ) → page / 512 ^ suc level ≡ page / 512 ^ level / 512
one_up page level =
    let turned : 512 ^ suc level ≡ 512 ^ level * 512 = omega (arith, power_next level) in
    ap (λ x. page / x) turned ∙ sym (div-div-eq-div-mul page (512 ^ level) 512)

-- the pages of an index of a table at a level
module _ (first level i : ℕ) (even : first % 512 ^ suc level ≡ 0) (low : i < 512) where
  from_is : first + i * 512 ^ level ≡ (first / 512 ^ suc level * 512 + i) * 512 ^ level
  from_is =
      let whole = div-add-mod' first (512 ^ suc level) in
      let next : first / 512 ^ suc level * 512 ^ suc level ≡ first / 512 ^ suc level * (512 * 512 ^ level) = ap (λ x. first / 512 ^ suc level * x) (power_next level) in
      omega (arith, whole, next, even)

  module _ (page : ℕ) (after : first + i * 512 ^ level ≤ page) (before : page < first + i * 512 ^ level + 512 ^ level) where
    pub row : page / 512 ^ level ≡ first / 512 ^ suc level * 512 + i
    row =
        let is : page ≡ (first / 512 ^ suc level * 512 + i) * 512 ^ level + (page - (first + i * 512 ^ level)) = omega (arith, from_is, after) in
        ap (λ x. x / 512 ^ level) is ∙ div-mul-add (first / 512 ^ suc level * 512 + i) (512 ^ level) (page - (first + i * 512 ^ level)) (omega (arith, after, before))

    pub index_is : vpn page level ≡ i
    index_is = vpn_is page level ∙ ap (λ x. x % 512) row ∙ (omega (arith, low))

    pub same_table_pages : first / 512 ^ suc level ≡ page / 512 ^ suc level
    same_table_pages =
        let up = one_up page level in
        let there = row in
        omega (arith, up, there, low)

    pub first_is : page / 512 ^ level * 512 ^ level ≡ first + i * 512 ^ level
    first_is = ap (λ x. x * 512 ^ level) row ∙ sym from_is

  pub even_from : (first + i * 512 ^ level) % 512 ^ level ≡ 0
  even_from = ap (λ x. x % 512 ^ level) from_is ∙ mul-mod_left (first / 512 ^ suc level * 512 + i) (512 ^ level)
