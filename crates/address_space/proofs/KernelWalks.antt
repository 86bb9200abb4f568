-- Lemma `kernel_walks`: an access in supervisor mode, translated by the kernel's table in the frames that its seat holds, has
-- the outcome `kernel_walk`. Before it, lemmas on the words of its leaves and on addresses.
use Rattle.std.proofs.Common.{◌≡◌, ℕ, ◌+◌, ◌-◌, ◌*◌, ◌/◌, ◌%◌, ◌^◌, ◌<◌, true, false, List, Option, None, Some, inl, inr, refl, ap, sym, ◌∙◌, arith, ◌⊎◌}
use Rattle.std.specs.FinMap.{get}
use Rattle.std.specs.Prelude.{◌↔◌, ◌==◌, is_some}
use Rattle.std.proofs.lemmas.Bool.{cases_Bool, cond_both, eqb-true, le-leb, lt-ltb, or_cases}
use Rattle.frame_store.specs.View.{View}
use Rattle.sv39_entry.specs.Address.{page_of}
use Rattle.sv39_entry.specs.Causes.{page_fault_cause}
use Rattle.sv39_entry.specs.Frame.{frame_at, ppn_of}
use Rattle.sv39_entry.specs.Rights.{grants}
use Rattle.sv39_entry.specs.Word.{leaf_word, permits, ppn}
use Rattle.sv39_entry.specs.declared.access.Access.{Access}
use Rattle.sv39_entry.specs.declared.access.Access.TheVariants.{Fetch, Load, Store}
use Rattle.sv39_entry.specs.declared.access.Mode.TheVariants.{Supervisor}
use Rattle.sv39_entry.specs.declared.scheme.Scheme.TheVariants.{Sv39, Sv48}
use Rattle.sv39_entry.specs.Schemes.{is_canonical, low_canonical, low_page, page_limit, trampoline_page}
use Rattle.sv39_entry.specs.declared.scheme.Scheme.{Scheme}
use Rattle.table_walk.specs.HeldMemory.{held_memory}
use Rattle.table_walk.specs.Tables.{Tables, walk_leaf}
use Rattle.table_walk.specs.Memory.{Extent, has_byte, physical_address}
use Rattle.table_walk.specs.Walk.{Finds, FindsLeaf, LeavesMemory, Maps, Translates}
use Rattle.table_walk.specs.declared.walk.Found.TheVariants as found
use Rattle.table_walk.specs.declared.walk.Walk.TheVariants as walk
use Rattle.table_walk.specs.Nodes.{walk_leaf_is}
use Rattle.address_space.specs.Agreement.{code_rights, data_rights}
use Rattle.address_space.specs.Kernel.{IsKernelTable, kernel_leaf, kernel_page, kernel_walk, walk_to}
use Rattle.address_space.proofs.KernelPages.{above_none, IsOfKernel, of_kernel, page_low}

-- ---- the words of leaves

-- a mode's rights depend on the lowest bits
permits_low : (access : Access) (x c : ℕ) → permits Supervisor access (x * 1024 + c) ≡ permits Supervisor access c
permits_low Fetch x c =
    let user : (x * 1024 + c) / 2 ^ 4 % 2 ≡ c / 2 ^ 4 % 2 = omega arith in
    let right : (x * 1024 + c) / 2 ^ 3 % 2 ≡ c / 2 ^ 3 % 2 = omega arith in
    let accessed : (x * 1024 + c) / 2 ^ 6 % 2 ≡ c / 2 ^ 6 % 2 = omega arith in
    rw (user, right, accessed) refl
permits_low Load x c =
    let user : (x * 1024 + c) / 2 ^ 4 % 2 ≡ c / 2 ^ 4 % 2 = omega arith in
    let right : (x * 1024 + c) / 2 ^ 1 % 2 ≡ c / 2 ^ 1 % 2 = omega arith in
    let accessed : (x * 1024 + c) / 2 ^ 6 % 2 ≡ c / 2 ^ 6 % 2 = omega arith in
    rw (user, right, accessed) refl
permits_low Store x c =
    let user : (x * 1024 + c) / 2 ^ 4 % 2 ≡ c / 2 ^ 4 % 2 = omega arith in
    let right : (x * 1024 + c) / 2 ^ 2 % 2 ≡ c / 2 ^ 2 % 2 = omega arith in
    let accessed : (x * 1024 + c) / 2 ^ 6 % 2 ≡ c / 2 ^ 6 % 2 = omega arith in
    let dirty : (x * 1024 + c) / 2 ^ 7 % 2 ≡ c / 2 ^ 7 % 2 = omega arith in
    rw (user, right, accessed, dirty) refl

-- 75 and 199 are the flags of code and of data
code_permits : (access : Access) → permits Supervisor access 75 ≡ grants code_rights access
code_permits Fetch = refl
code_permits Load = refl
code_permits Store = refl

data_permits : (access : Access) → permits Supervisor access 199 ≡ grants data_rights access
data_permits Fetch = refl
data_permits Load = refl
data_permits Store = refl

leaf_permits : (p : ℕ × ℕ) (access : Access) → IsOfKernel p → permits Supervisor access (leaf_word p.0 p.1 false false true) ≡ grants p.1 access
leaf_permits p access known = elim known.1 [
  | inl code ↦ rw code (permits_low access (ppn_of p.0) 75 ∙ code_permits access)
  | inr plain ↦ rw plain (permits_low access (ppn_of p.0) 199 ∙ data_permits access)
]

leaf_ppn : (p : ℕ × ℕ) → IsOfKernel p → ppn (leaf_word p.0 p.1 false false true) ≡ ppn_of p.0
leaf_ppn p known = elim known.1 [
  | inl code ↦ rw code (omega (arith, known.0))
  | inr plain ↦ rw plain (omega (arith, known.0))
]

frame_there : (f : ℕ) → f < 2 ^ 16 → is_some (frame_at (ppn_of f)) ≡ true
frame_there f small = rw (le-leb 0x80000 (ppn_of f) (omega arith), lt-ltb (ppn_of f) (0x80000 + 2 ^ 16) (omega (arith, small))) refl

-- ---- addresses

page_low_is : (z : Scheme) (page : ℕ) → low_page z page < page_limit z
page_low_is Sv39 page = omega arith
page_low_is Sv48 page = omega arith

-- a canonical address is in the lower half, or its page is above the trampoline, and so is the page of its indices
halves : (z : Scheme) (a : ℕ) → is_canonical z a ≡ true → (low_page z (page_of a) ≡ page_of a) ⊎ ((trampoline_page z < low_page z (page_of a)) × (trampoline_page z < page_of a))
halves Sv39 a canonical = elim (or_cases (a / 2 ^ 38 == 0) (a / 2 ^ 38 == 2 ^ 26 - 1) canonical) [
  | inl low ↦ (let zero = eqb-true (a / 2 ^ 38) 0 low in inl (omega (arith, zero)))
  | inr high ↦ (let ones = eqb-true (a / 2 ^ 38) (2 ^ 26 - 1) high in inr (omega (arith, ones), omega (arith, ones)))
]
halves Sv48 a canonical = elim (or_cases (a / 2 ^ 47 == 0) (a / 2 ^ 47 == 2 ^ 17 - 1) canonical) [
  | inl low ↦ (let zero = eqb-true (a / 2 ^ 47) 0 low in inl (omega (arith, zero)))
  | inr high ↦ (let ones = eqb-true (a / 2 ^ 47) (2 ^ 17 - 1) high in inr (omega (arith, ones), omega (arith, ones)))
]

-- ---- walks

abbrev pub extent : Extent
extent ppn index = is_some (frame_at ppn)

module _ (z : Scheme) (v : View) (root frames slots : ℕ) (stacks : List ℕ) (t : Tables) (built : IsKernelTable z v root frames slots stacks t)
    (found_leaves : (page leaf level : ℕ) → Maps z (held_memory v) (ppn_of root) page leaf level ↔ (level ≡ 0) × (get t.leaves (walk_leaf z page) ≡ Some leaf))
    (inside : (page : ℕ) → LeavesMemory z (held_memory v) (ppn_of root) page → ⊥) (address : ℕ) (access : Access) where
  any_leaf : get t.leaves (walk_leaf z (page_of address)) ≡ kernel_leaf (kernel_page z frames stacks (low_page z (page_of address)))
  any_leaf = ap (get t.leaves) (walk_leaf_is z (page_of address)) ∙ built.maps.leaves (low_page z (page_of address)) (page_low_is z (page_of address))

  -- pages of the upper half have the numbers of pages above the trampoline
  leaf_here : is_canonical z address ≡ true → get t.leaves (walk_leaf z (page_of address)) ≡ kernel_leaf (kernel_page z frames stacks (page_of address))
  leaf_here canonical = elim (halves z address canonical) [
    | inl low ↦ any_leaf ∙ ap (λ n. kernel_leaf (kernel_page z frames stacks n)) low
    | inr high ↦
        any_leaf ∙ ap kernel_leaf (above_none z frames stacks (low_page z (page_of address)) built.few_frames high.0)
        ∙ ap kernel_leaf (sym (above_none z frames stacks (page_of address) built.few_frames high.1))
  ]

  nothing : kernel_page z frames stacks (page_of address) ≡ None → Finds z (held_memory v) (ppn_of root) address found.NoLeaf
  nothing is = elim (cases_Bool (is_canonical z address)) [
    | inl canonical ↦ inr ((λ leaf level maps. (let there = ((found_leaves (page_of address) leaf level).0 maps).1 in let none = leaf_here canonical ∙ ap kernel_leaf is in cc)), inside (page_of address))
    | inr not_canonical ↦ inl not_canonical
  ]

  module _ (p : ℕ × ℕ) (is : kernel_page z frames stacks (page_of address) ≡ Some p) where
    known : IsOfKernel p
    known = of_kernel z frames stacks (page_of address) built.few_frames (λ slot f at. (built.maps.holds.stack slot f at).2) p is

    canonical_here : is_canonical z address ≡ true
    canonical_here =
        low_canonical z address (page_low z frames stacks (page_of address) built.few_frames p is)

    finds : FindsLeaf z (held_memory v) (ppn_of root) address (leaf_word p.0 p.1 false false true) 0
    finds = (canonical_here, (found_leaves (page_of address) (leaf_word p.0 p.1 false false true) 0).1 (refl, leaf_here canonical_here ∙ ap kernel_leaf is))

    place : 4096 * ppn_of p.0 + address % 2 ^ 12 ≡ physical_address (leaf_word p.0 p.1 false false true) 0 address
    place = rw (leaf_ppn p known) (omega arith)

    byte_there : has_byte extent (4096 * ppn_of p.0 + address % 2 ^ 12) ≡ true
    byte_there = let page : (4096 * ppn_of p.0 + address % 2 ^ 12) / 4096 ≡ ppn_of p.0 = omega arith in rw page (frame_there p.0 known.0)

    something : Translates z (held_memory v) extent (ppn_of root) address access Supervisor (walk_to address access (Some p))
    something = cond_both (grants p.1 access) (walk.Leaf (leaf_word p.0 p.1 false false true) 0 (4096 * ppn_of p.0 + address % 2 ^ 12)) (walk.PageFault (page_fault_cause access))
        (Translates z (held_memory v) extent (ppn_of root) address access Supervisor)
        (λ granted. (finds, leaf_permits p access known ∙ granted, place, byte_there))
        (λ denied. (refl, inr (leaf_word p.0 p.1 false false true, 0, finds, leaf_permits p access known ∙ denied)))

  walks_to : (o : Option (ℕ × ℕ)) → kernel_page z frames stacks (page_of address) ≡ o → Translates z (held_memory v) extent (ppn_of root) address access Supervisor (walk_to address access o)
  walks_to None is = (refl, inl (nothing is))
  walks_to (Some p) is = something p is

  pub kernel_walks : Translates z (held_memory v) extent (ppn_of root) address access Supervisor (kernel_walk z frames stacks address access)
  kernel_walks = walks_to (kernel_page z frames stacks (page_of address)) refl
