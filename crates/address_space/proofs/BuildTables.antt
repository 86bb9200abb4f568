-- Lemmas for `open_tables`, the first tables of a space: an empty root, then TRAMPOLINE's leaf over frame 0, then TRAPFRAME's
-- leaf. What the seat owns after each, the result (`opens`), and the credits spent.
use Rattle.std.proofs.Common.{◌≡◌, ◌+◌, ℕ, true, false, ◌-◌, ◌≤◌, ◌⊎◌, Some, None, inl, inr, refl, ap, sym, ◌∙◌, arith, [], ◌∷◌}
use Rattle.std.proofs.lemmas.Bool.{cases_eq}
use Rattle.std.proofs.lemmas.Option.{same_Some}
use Rattle.std.specs.FinMap.{empty, get, get-empty}
use Rattle.std.specs.Ordering.{nat_cmp}
use Rattle.std.specs.Prelude.{Contains}
use Rattle.frame_store.specs.Holds.{hold_of-with_hold_other, hold_of-with_hold_same}
use Rattle.frame_store.specs.Tallies.{spent_is, spent_on}
use Rattle.frame_store.specs.View.{Hold, View, claimed, hold_of, IsHeld, IsSole, references, with_hold}
use Rattle.process_model.specs.Frames.{tables_needed}
use Rattle.process_model.specs.PageMap as pages
use Rattle.process_model.specs.Process.{Page, Process}
use Rattle.sv39_entry.specs.Address.{has}
use Rattle.sv39_entry.specs.Word.{IsLeafOf, ppn}
use Rattle.table_walk.specs.TableCounts.{AreTablesOf}
use Rattle.table_walk.specs.Tables.{bare_root, blank_hold, ChangesTables, HasTables, Tables, IsGrown, leaf_node, missing, with_leaf, root_node}
use Rattle.table_walk.specs.Keys.{insert_other, insert_same, is_none}
use Rattle.sv39_entry.specs.Schemes.{top_level, trampoline_page, trapframe_page, of_scheme}
use Rattle.sv39_entry.specs.declared.scheme.Scheme.{Scheme}
use Rattle.sv39_entry.specs.declared.scheme.Scheme.TheVariants.{Sv39, Sv48}
use Rattle.address_space.specs.Agreement.{HasKernelLeaf, NamesFrame, no_extra, one_extra, OwnsFrames, ShowsPages, IsInMemory, code_rights, data_rights}
use Rattle.address_space.specs.Parts.{CanOpen, OpensSpace, OwnsAlone}
use Rattle.address_space.specs.Steps.{SpendsCredits}
use Rattle.address_space.proofs.AddingFrames.{f_same, leaf_owns, still_held, still_unnamed}
use Rattle.address_space.proofs.Owned.{apart_by, both_of, claimed_other, one_else, one_ppn, one_here, same_references, same_sole}

-- ---- the root

bare_table : (z : Scheme) (root k f : ℕ) → get (bare_root z root).tables k ≡ Some f → (k ≡ root_node z) × (f ≡ root)
bare_table z root k f at = elim (cases_eq k (root_node z)) [
  | inl is ↦ (is, sym (same_Some root f (sym (insert_same empty (root_node z) root k is) ∙ at)))
  | inr ne ↦ absurd (let none = sym (insert_other empty (root_node z) root k ne ∙ get-empty {X = ℕ} nat_cmp k) ∙ at in cc)
]

bare_leaf : (z : Scheme) (root k y : ℕ) → get (bare_root z root).leaves k ≡ Some y → ⊥
bare_leaf z root k y at = let none = sym (get-empty {X = ℕ} nat_cmp k) ∙ at in cc

bare_name : (z : Scheme) (root f k : ℕ) → NamesFrame (bare_root z root) f k → (k ≡ root_node z) × (f ≡ root)
bare_name z root f k (inl table) = bare_table z root k f table
bare_name z root f k (inr (y, leaf, names)) = absurd (bare_leaf z root k y leaf)

module _ (z : Scheme) (v w : View) (root trapframe : ℕ) (can : CanOpen z v trapframe) (fresh : references v root ≡ 0) (is : w ≡ with_hold root blank_hold (claimed root v)) where
  other_hold : (f : ℕ) → (f ≡ root → ⊥) → hold_of w f ≡ hold_of v f
  other_hold f apart = ap (λ (u : View). hold_of u f) is ∙ hold_of-with_hold_other root blank_hold (claimed root v) f apart ∙ claimed_other root f v apart

  root_held : references w root ≡ 1
  root_held = ap (λ (u : View). references u root) is ∙ ap (λ (h : Hold). h.references) (hold_of-with_hold_same root blank_hold (claimed root v))

  not_zero : 0 ≡ root → ⊥
  not_zero same = apart_by v root 0 fresh (let one = can.holds.code in omega (arith, one)) same

  not_trapframe : trapframe ≡ root → ⊥
  not_trapframe same = apart_by v root trapframe fresh (let one = can.holds.saved in omega (arith, one)) same

  other_count : (f : ℕ) → references v f ≡ both_of trapframe 0 f
  other_count f = elim (cases_eq f 0) [
    | inl zero ↦
        let here = one_here 0 f zero in
        let none = one_else trapframe f (λ same. can.holds.apart (sym same ∙ zero)) in
        let one : references v f ≡ 1 = ap (references v) zero ∙ can.holds.code in
        omega (arith, here, none, one)
    | inr some ↦ elim (cases_eq f trapframe) [
      | inl saved ↦
          let here = one_here trapframe f saved in
          let none = one_else 0 f some in
          let one : references v f ≡ 1 = ap (references v) saved ∙ can.holds.saved in
          omega (arith, here, none, one)
      | inr apart ↦
          let first = one_else 0 f some in
          let second = one_else trapframe f apart in
          let none = can.holds.others f some apart in
          omega (arith, first, second, none)
    ]
  ]

  pub zero_unnamed : (k : ℕ) → NamesFrame (bare_root z root) 0 k → ⊥
  zero_unnamed k names = not_zero (bare_name z root 0 k names).1

  pub trapframe_unnamed : (k : ℕ) → NamesFrame (bare_root z root) trapframe k → ⊥
  trapframe_unnamed k names = not_trapframe (bare_name z root trapframe k names).1

  pub trapframe_as_was : hold_of w trapframe ≡ hold_of v trapframe
  trapframe_as_was = other_hold trapframe not_trapframe

  pub trapframe_yet : IsHeld w trapframe
  trapframe_yet = let one = can.holds.saved in let same = same_references v w trapframe trapframe_as_was in omega (arith, one, same)

  pub root_owns : OwnsFrames w (bare_root z root) (both_of trapframe 0)
  root_owns = record {
    once = λ f j k first second. (bare_name z root f j first).0 ∙ sym (bare_name z root f k second).0;
    named = λ f k names.
        let is = (bare_name z root f k names).1 in
        let one : references w f ≡ 1 = ap (references w) is ∙ root_held in
        let zero = one_else 0 f (λ same. not_zero (sym same ∙ is)) in
        let saved = one_else trapframe f (λ same. not_trapframe (sym same ∙ is)) in
        omega (arith, one, zero, saved);
    bare = λ f free.
        let apart : f ≡ root → ⊥ = λ same. free (root_node z) (inl (insert_same empty (root_node z) root (root_node z) refl ∙ ap Some (sym same))) in
        same_references v w f (other_hold f apart) ∙ other_count f;
    writable = λ f n y leaf names writes. absurd (bare_leaf z root n y leaf);
  }

  pub root_spends : SpendsCredits v w 1
  root_spends = record {
    credits = ap (λ (u : View). u.credits) is;
    tallies = ap (λ (u : View). u.tallies) is;
  }

-- ---- TRAMPOLINE, over a frame that all processes share

pub record HasTrampoline (z : Scheme) (w : View) (root trapframe : ℕ) (t : Tables) : Type 0 where
  pub tables : HasTables z w root t
  pub owns : OwnsFrames w t (one_extra trapframe)
  pub free : (k : ℕ) → NamesFrame t trapframe k → ⊥
  pub leaf : HasKernelLeaf t (trampoline_page z) 0 code_rights
  pub only : (k y : ℕ) → get t.leaves k ≡ Some y → k ≡ leaf_node (trampoline_page z)
  pub tabled : AreTablesOf z t []

module _ (z : Scheme) (v w : View) (root trapframe x n : ℕ) (u : Tables) (o : OwnsFrames v (bare_root z root) (both_of trapframe 0)) (zero_free : (k : ℕ) → NamesFrame (bare_root z root) 0 k → ⊥)
    (bare : HasTables z v root (bare_root z root)) (grown : IsGrown z (bare_root z root) u (trampoline_page z) (top_level z))
    (tables : HasTables z w root (with_leaf u (leaf_node (trampoline_page z)) x)) (changes : ChangesTables v w (bare_root z root) u n)
    (made : IsLeafOf x 0 code_rights false false true) where
  abbrev after : Tables
  after = with_leaf u (leaf_node (trampoline_page z)) x

  no_leaf : get (bare_root z root).leaves (leaf_node (trampoline_page z)) ≡ None
  no_leaf = is_none (get (bare_root z root).leaves (leaf_node (trampoline_page z))) (bare_leaf z root (leaf_node (trampoline_page z)))

  one_leaf : (k y : ℕ) → get after.leaves k ≡ Some y → k ≡ leaf_node (trampoline_page z)
  one_leaf k y leaf = elim (cases_eq k (leaf_node (trampoline_page z))) [
    | inl here ↦ here
    | inr apart ↦ absurd (bare_leaf z root k y (ap (λ leaves. get leaves k) (sym grown.leaves) ∙ sym (insert_other u.leaves (leaf_node (trampoline_page z)) x k apart) ∙ leaf))
  ]

  not_written : has x 2 ≡ true → IsSole v 0
  not_written writes = absurd (let both = sym made.write ∙ writes in cc)

  -- the trapframe's frame waits
  module _ (apart : trapframe ≡ 0 → ⊥) (held : IsHeld v trapframe) (free : (k : ℕ) → NamesFrame (bare_root z root) trapframe k → ⊥) where
    pub trampoline_saved : hold_of w trapframe ≡ hold_of v trapframe
    trampoline_saved = still_held v w (bare_root z root) u n root (trampoline_page z) x 0 (both_of trapframe 0) (one_extra trapframe) o zero_free (λ g. refl) bare grown changes tables made.names no_leaf not_written trapframe apart held free

    pub has_trampoline : AreTablesOf z u [] → HasTrampoline z w root trapframe after
    has_trampoline are = record {
      tables = tables;
      owns = leaf_owns v w (bare_root z root) u n root (trampoline_page z) x 0 (both_of trapframe 0) (one_extra trapframe) o zero_free (λ g. refl) bare grown changes tables made.names no_leaf not_written;
      free = still_unnamed v w (bare_root z root) u n root (trampoline_page z) x 0 (both_of trapframe 0) (one_extra trapframe) o zero_free (λ g. refl) bare grown changes tables made.names no_leaf not_written trapframe apart held free;
      leaf = (x, insert_same u.leaves (leaf_node (trampoline_page z)) x (leaf_node (trampoline_page z)) refl, made);
      only = one_leaf;
      tabled = are;
    }

-- ---- and TRAPFRAME

kernel_apart : (z : Scheme) → leaf_node (trapframe_page z) ≡ leaf_node (trampoline_page z) → ⊥
kernel_apart z same = omega (arith, same, of_scheme z)

pub trapframe_shares : (z : Scheme) → Contains ((trampoline_page z) ∷ (trapframe_page z) ∷ []) (trapframe_page z)
trapframe_shares z = (1, omega arith, refl)

-- TRAMPOLINE's tables beside the root
pub top_missing : (z : Scheme) (root : ℕ) → missing z (bare_root z root) (trampoline_page z) ≡ tables_needed z [] - 1 → missing z (bare_root z root) (trampoline_page z) ≡ top_level z
unfolding tables_needed
top_missing Sv39 root law = law
top_missing Sv48 root law = law

module _ (z : Scheme) (v w : View) (root x f n : ℕ) (t u : Tables) (before : HasTrampoline z v root f t) (sole : IsSole v f) (grown : IsGrown z t u (trapframe_page z) (top_level z))
    (tables : HasTables z w root (with_leaf u (leaf_node (trapframe_page z)) x)) (changes : ChangesTables v w t u n)
    (made : IsLeafOf x f data_rights false false true) (are : AreTablesOf z u []) where
  unmapped : get t.leaves (leaf_node (trapframe_page z)) ≡ None
  unmapped = is_none (get t.leaves (leaf_node (trapframe_page z))) (λ y leaf. kernel_apart z (before.only (leaf_node (trapframe_page z)) y leaf))

  abbrev last : Tables
  last = with_leaf u (leaf_node (trapframe_page z)) x

  keeps : (k : ℕ) → (k ≡ leaf_node (trapframe_page z) → ⊥) → get last.leaves k ≡ get t.leaves k
  keeps k apart = insert_other u.leaves (leaf_node (trapframe_page z)) x k apart ∙ ap (λ leaves. get leaves k) grown.leaves

  here : get last.leaves (leaf_node (trapframe_page z)) ≡ Some x
  here = insert_same u.leaves (leaf_node (trapframe_page z)) x (leaf_node (trapframe_page z)) refl

  pub frame_same : hold_of w f ≡ hold_of v f
  frame_same = f_same v w t u n root (trapframe_page z) x f (one_extra f) no_extra before.owns before.free (λ g. omega arith) before.tables grown changes tables made.names unmapped (λ _. sole)

  pub opens_owns : OwnsFrames w last no_extra
  opens_owns = leaf_owns v w t u n root (trapframe_page z) x f (one_extra f) no_extra before.owns before.free (λ g. omega arith) before.tables grown changes tables made.names unmapped (λ _. sole)

  two_leaves : (k y : ℕ) → get last.leaves k ≡ Some y → ((k ≡ leaf_node (trampoline_page z)) × (get t.leaves k ≡ Some y)) ⊎ ((k ≡ leaf_node (trapframe_page z)) × (y ≡ x))
  two_leaves k y leaf = elim (cases_eq k (leaf_node (trapframe_page z))) [
    | inl is ↦ inr (is, same_Some y x (sym leaf ∙ insert_same u.leaves (leaf_node (trapframe_page z)) x k is))
    | inr apart ↦ let old = sym (keeps k apart) ∙ leaf in inl (before.only k y old, old)
  ]

  opens_alone : OwnsAlone w last
  opens_alone g k (inl table) other = (tables.own k g table).1
  opens_alone g k (inr (y, leaf, names)) other = elim (two_leaves k y leaf) [
    | inl old ↦
        let first = before.leaf in
        let same : y ≡ first.0 = same_Some y first.0 (sym (rw old.0 at old.1) ∙ first.1) in
        absurd (other (one_ppn g 0 (sym names ∙ ap ppn same ∙ first.2.names)))
    | inr new ↦ rw (one_ppn g f (sym names ∙ ap ppn new.1 ∙ made.names)) (same_sole v w f frame_same sole)
  ]

  module _ (p : Process) (schemed : p.scheme ≡ z) (settled : p.settled ≡ pages.empty Page) (tabled : p.tabled ≡ pages.empty (Unit {0})) where
    none_settled : (k : ℕ) (s : Page) → pages.get p.settled k ≡ Some s → ⊥
    none_settled k s found = let none = rw settled at found in cc

    opens_shows : ShowsPages w f last p
    opens_shows = record {
      on_trampoline = rw schemed (before.leaf.0, keeps (leaf_node (trampoline_page z)) (λ same. kernel_apart z (sym same)) ∙ before.leaf.1, before.leaf.2);
      on_trapframe = rw schemed (x, here, made);
      settled = λ k s found. absurd (none_settled k s found);
      only = λ k y leaf. rw schemed (elim (two_leaves k y leaf) [ inl old ↦ inl old.0 | inr new ↦ inr (inl new.0) ]);
      low = λ k s found. absurd (none_settled k s found);
    }

    opens_stands : IsInMemory w root f no_extra last p
    opens_stands = record {
      tables = rw schemed tables;
      owns = opens_owns;
      shows = opens_shows;
      tabled = rw (schemed, tabled) are;
      tabled_low = rw tabled (λ i d less. absurd (omega (arith, less)));
    }

  pub opens : (o : View) → hold_of v f ≡ hold_of o f → SpendsCredits o w (1 + top_level z) → OpensSpace z o w root f last
  opens o saved spends = record { stands = opens_stands; alone = opens_alone; saved = frame_same ∙ saved; spends = spends }

-- ---- what it takes: the root, and the tables below it
pub open_spends : (z : Scheme) (o a v w : View) (t u t2 u2 : Tables) (m n : ℕ) → SpendsCredits o a 1 → m ≡ top_level z → ChangesTables a v t u m → n ≡ 0 → ChangesTables v w t2 u2 n → SpendsCredits o w (1 + top_level z)
open_spends z o a v w t u t2 u2 m n first two second none last = record {
  credits = omega (arith, first.credits, two, second.credits, none, last.credits);
  tallies = spent_is o.tallies w.tallies (1 + m + n) (1 + top_level z) (omega (arith, two, none))
      (spent_on o.tallies v.tallies w.tallies (1 + m) n (spent_on o.tallies a.tallies v.tallies 1 m first.tallies second.tallies) last.tallies);
}

-- the credits that each of the two takes are there
pub first_enough : (z : Scheme) (o v : View) (root page : ℕ) → page ≡ (trampoline_page z) → missing z (bare_root z root) (trampoline_page z) ≡ top_level z → SpendsCredits o v 1 → 1 + top_level z ≤ o.credits → missing z (bare_root z root) page ≤ v.credits
first_enough z o v root page is two spent enough =
    let same = ap (missing z (bare_root z root)) is in
    omega (arith, same, two, spent.credits, enough)

pub second_enough : (z : Scheme) (credits : ℕ) (t : Tables) (page : ℕ) → page ≡ (trapframe_page z) → missing z t (trapframe_page z) ≡ 0 → missing z t page ≤ credits
second_enough z credits t page is none = let same = ap (missing z t) is in omega (arith, same, none)
