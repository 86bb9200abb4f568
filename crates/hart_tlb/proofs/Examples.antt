-- Worked examples of the definitions, which the checker computes, with a leaf of a superpage of 512 pages at 0x200000, one
-- of a single page, and none: what fences remove, which accesses an entry serves and their outcomes, which entry a fill
-- drops, and which numbers match.
use Rattle.std.proofs.Common.{◌≡◌, ℕ, Bool, true, false, Option, None, Some, [], ◌∷◌, refl}
use Rattle.sv39_entry.specs.declared.access.Access.TheVariants.{Fetch, Load}
use Rattle.sv39_entry.specs.declared.access.Mode.TheVariants.{User}
use Rattle.table_walk.specs.declared.walk.Walk.TheVariants as walk
use Rattle.hart_tlb.specs.Buffer.{matching_numbers, newest_entries}
use Rattle.hart_tlb.specs.Entries.{is_fenced, matches}
use Rattle.table_walk.specs.Leaves.{answer, Leaf}
use Rattle.hart_tlb.specs.declared.entry.TlbEntry.{TlbEntry}

abbrev large_leaf : Option Leaf
large_leaf = Some (record { word = 0x200800d7; level = 1 })

abbrev small_leaf : Option Leaf
small_leaf = Some (record { word = 0x200800d7; level = 0 })

-- address space 7
abbrev entry_of : ℕ → Option Leaf → Bool → TlbEntry
entry_of page leaf global = record { page = page; asid = 7; global = global; leaf = leaf }

pub pages_of_a_superpage_go_together : is_fenced (Some (record { 0 = 0x201000 })) None (entry_of 0x234 large_leaf false) ≡ true
pages_of_a_superpage_go_together = refl

pub the_next_superpage_stays : is_fenced (Some (record { 0 = 0x401000 })) None (entry_of 0x234 large_leaf false) ≡ false
the_next_superpage_stays = refl

pub the_next_page_stays : is_fenced (Some (record { 0 = 0x235000 })) None (entry_of 0x234 small_leaf false) ≡ false
the_next_page_stays = refl

pub no_leaf_goes_at_each_address : is_fenced (Some (record { 0 = 0x401000 })) (Some 7) (entry_of 0x234 None false) ≡ true
no_leaf_goes_at_each_address = refl

pub another_space_stays : is_fenced (Some (record { 0 = 0x234000 })) (Some 8) (entry_of 0x234 small_leaf false) ≡ false
another_space_stays = refl

pub global_stays_under_its_space : is_fenced None (Some 7) (entry_of 0x234 large_leaf true) ≡ false
global_stays_under_its_space = refl

pub global_goes_with_all : is_fenced None None (entry_of 0x234 large_leaf true) ≡ true
global_goes_with_all = refl

pub global_serves_each_space : matches 0x234567 8 (entry_of 0x234 large_leaf true) ≡ true
global_serves_each_space = refl

pub entry_serves_one_page : matches 0x235567 7 (entry_of 0x234 large_leaf true) ≡ false
entry_serves_one_page = refl

pub load_is_answered : answer large_leaf 0x234567 Load User ≡ walk.Leaf 0x200800d7 1 0x80234567
load_is_answered = refl

pub fetch_is_not_allowed : answer large_leaf 0x234567 Fetch User ≡ walk.PageFault 12
fetch_is_not_allowed = refl

pub oldest_goes :
    newest_entries 2 (entry_of 1 None false ∷ entry_of 2 None false ∷ entry_of 3 None false ∷ []) ≡ entry_of 2 None false ∷ entry_of 3 None false ∷ []
oldest_goes = refl

pub numbers_in_order : matching_numbers (entry_of 1 None false ∷ entry_of 2 None false ∷ entry_of 1 large_leaf true ∷ []) 0x1000 7 ≡ 0 ∷ 2 ∷ []
numbers_in_order = refl
