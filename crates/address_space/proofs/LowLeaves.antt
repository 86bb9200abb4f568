-- Lemmas: for a page up to TRAMPOLINE, as every settled page (one in memory) is, the leaf that a walk finds has the page's
-- own number (`leaf_node`). Also lemmas that move facts from one of two equal schemes to the other.
use Rattle.std.proofs.Common.{◌≡◌, ℕ, ◌≤◌, Some, arith, subst, sym, ◌<◌}
use Rattle.std.specs.FinMap.{get}
use Rattle.frame_store.specs.View.{View}
use Rattle.process_model.specs.PageMap as pages
use Rattle.process_model.specs.Process.{Page, Process}
use Rattle.table_walk.specs.Nodes.{low_leaf}
use Rattle.table_walk.specs.Tables.{leaf_node, Tables, walk_leaf, last_table}
use Rattle.address_space.specs.Agreement.{ShowsPages}
use Rattle.sv39_entry.specs.Schemes.{trampoline_page, of_scheme, trapframe_page}
use Rattle.sv39_entry.specs.declared.scheme.Scheme.{Scheme}

-- the numbers of pages up to the trampoline's
pub up_number : (z : Scheme) (page : ℕ) → page ≤ trampoline_page z → walk_leaf z page ≡ leaf_node page
up_number z page low = low_leaf z page (omega (arith, low, of_scheme z))

-- and of a settled page
pub settled_number : (v : View) (trapframe : ℕ) (t : Tables) (p : Process) (page : ℕ) (s : Page) → ShowsPages v trapframe t p → pages.get p.settled page ≡ Some s
    → walk_leaf p.scheme page ≡ leaf_node page
settled_number v trapframe t p page s shows settled = let low = shows.low page s settled in up_number p.scheme page (omega (arith, low, of_scheme p.scheme))

-- what is known by the scheme of a process is known by that which code has: the number of a page's leaf, and the table that
-- it is in
pub number_of_scheme : {x y : Scheme} (page : ℕ) {n : ℕ} → x ≡ y → walk_leaf x page ≡ n → walk_leaf y page ≡ n
number_of_scheme {x} {y} page {n} same number = subst (λ z. walk_leaf z page ≡ n) same number

pub last_of_scheme : {x y : Scheme} (t : Tables) (page : ℕ) {f : ℕ} → x ≡ y → get t.tables (last_table x page) ≡ Some f → get t.tables (last_table y page) ≡ Some f
last_of_scheme {x} {y} t page {f} same at = subst (λ z. get t.tables (last_table z page) ≡ Some f) same at

pub below_trapframe : {x y : Scheme} {page : ℕ} → x ≡ y → page < trapframe_page y → page < trapframe_page x
below_trapframe {x} {y} {page} same low = subst (λ z. page < trapframe_page z) (sym same) low

pub up_to_trapframe : {x y : Scheme} {page : ℕ} → x ≡ y → page ≤ trapframe_page y → page ≤ trapframe_page x
up_to_trapframe {x} {y} {page} same low = subst (λ z. page ≤ trapframe_page z) (sym same) low

-- the number of the leaf of a page below TRAPFRAME, by the scheme that code has
pub number_is : {x y : Scheme} (page : ℕ) → x ≡ y → page < trapframe_page x → walk_leaf y page ≡ leaf_node page
number_is {x} page same low = number_of_scheme page same (up_number x page (omega (arith, low, of_scheme x)))
