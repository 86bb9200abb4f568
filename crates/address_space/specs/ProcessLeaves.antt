-- Laws of the leaves of a process in memory: each names a frame with a number below 2^16, and none has G. Laws of when a
-- page's leaf may be written to a table (`page_backed`): the seat knows every word of the leaf's frame, and is its sole
-- holder if the leaf has W.
use Rattle.std.proofs.Common.{◌≡◌, ℕ, ◌-◌, ◌+◌, ◌^◌, ◌<◌, ◌&&◌, nat_le, nat_lt, not, Bool, List, true, false, Some, refl, ap, sym, subst, ◌∙◌, inl, inr, arith}
use Rattle.std.proofs.lemmas.Option.{same_Some}
use Rattle.std.specs.Prelude.{is_some}
use Rattle.std.specs.FinMap.{get}
use Rattle.frame_bytes.specs.Contents.{HasBytes}
use Rattle.frame_store.specs.View.{AllKnown, IsSole, or_zero, View}
use Rattle.process_model.specs.Process.{Process}
use Rattle.process_model.specs.Regions.{Region}
use Rattle.sv39_entry.specs.Address.{has}
use Rattle.sv39_entry.specs.Frame.{frame_at, ppn_of}
use Rattle.sv39_entry.specs.Word.{ppn}
use Rattle.sv39_entry.specs.declared.frame.FrameNo.{FrameNo}
use Rattle.sv39_entry.specs.Schemes.{trampoline_page, trapframe_page}
use Rattle.table_walk.specs.LeafBacking.{IsBacked}
use Rattle.table_walk.specs.Leaves.{LeavesAreLocal, LeavesAreThere}
use Rattle.table_walk.specs.Tables.{Tables, leaf_node, walk_leaf}
use Rattle.address_space.specs.Agreement.{HasKernelLeaf, IsPageLeaf, IsShown, ShowsPages}

-- each number below 2^16 is that of a frame
pub frame_is : (f : ℕ) → f < 2 ^ 16 → frame_at (ppn_of f) ≡ Some (record { 0 = f })
frame_is f small =
    let low : nat_le 524288 (524288 + f) ≡ true = grind arith in
    let high : nat_lt (524288 + f) (524288 + 2 ^ 16) ≡ true = grind (arith, small) in
    let back : 524288 + f - 524288 ≡ f = omega arith in
    rw (low, high, back) refl

-- a page's leaf may be written to a table (`IsBacked`) if every word of its frame is known, and the seat is the frame's sole
-- holder if the leaf has W

pub bytes_known : (v : View) (f : ℕ) (bytes : List ℕ) → HasBytes v f bytes → AllKnown v f
bytes_known v f bytes has i low = has.words i low ∙ ap (λ o. Some (or_zero o)) (sym (has.words i low))

pub page_backed : (v : View) (w f : ℕ) (r : Region) (mark dirty : Bool) → IsPageLeaf w f r mark dirty → AllKnown v f
    → ((r.writes && not mark) ≡ true → IsSole v f) → IsBacked v w
page_backed v w f r mark dirty made known sole =
    let named : (g : FrameNo) → frame_at (ppn w) ≡ Some g → f ≡ g.0
    = λ g at. ap (λ (x : FrameNo). x.0) (same_Some (record { 0 = f }) g (sym (frame_is f made.small) ∙ sym (ap frame_at made.names) ∙ at)) in
    record {
      known = λ user g at. subst (AllKnown v) (named g at) known;
      sole = λ user writes g at. subst (IsSole v) (named g at) (sole (sym made.write ∙ writes));
    }

-- the leaf names a frame, and has no G
abbrev pub IsUsable : ℕ → Type 0
IsUsable w = (is_some (frame_at (ppn w)) ≡ true) × (has w 5 ≡ false)

pub usable : (w f : ℕ) → f < 2 ^ 16 → ppn w ≡ ppn_of f → has w 5 ≡ false → IsUsable w
usable w f small names local = (ap is_some (ap frame_at names ∙ frame_is f small), local)

module _ (v : View) (trapframe : ℕ) (t : Tables) (p : Process) (shows : ShowsPages v trapframe t p) (small : trapframe < 2 ^ 16) where
  of_kernel : (page f rights k w : ℕ) → f < 2 ^ 16 → HasKernelLeaf t page f rights → k ≡ leaf_node page → get t.leaves k ≡ Some w → IsUsable w
  of_kernel page f rights k w low leaf same found =
      let is : leaf.0 ≡ w = same_Some leaf.0 w (sym leaf.1 ∙ ap (get t.leaves) (sym same) ∙ found) in
      subst IsUsable is (usable leaf.0 f low leaf.2.names leaf.2.global)

  each_leaf : (k w : ℕ) → get t.leaves k ≡ Some w → IsUsable w
  each_leaf k w found = elim (shows.only k w found) [
    | inl same ↦ of_kernel (trampoline_page p.scheme) 0 _ k w (omega arith) shows.on_trampoline same found
    | inr more ↦ elim more [
      | inl same ↦ of_kernel (trapframe_page p.scheme) trapframe _ k w small shows.on_trapframe same found
      | inr page ↦
          let shown : IsShown v t p page.0 page.1 = shows.settled page.0 page.1 page.3 in
          let is : shown.leaf ≡ w = same_Some shown.leaf w (sym shown.mapped ∙ ap (get t.leaves) (sym page.2) ∙ found) in
          subst IsUsable is (usable shown.leaf shown.frame shown.made.small shown.made.names shown.made.global)
    ]
  ]

  pub process_there : LeavesAreThere p.scheme t
  process_there page w found = (each_leaf (walk_leaf p.scheme page) w found).0

  pub process_local : LeavesAreLocal p.scheme t
  process_local page w found = (each_leaf (walk_leaf p.scheme page) w found).1
