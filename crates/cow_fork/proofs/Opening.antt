-- Lemmas for `open_tables`: page tables made of credits (reserved frames; `Makes`), and the child's first tables: the root,
-- and those on the way to TRAMPOLINE and TRAPFRAME (`opens`).
use Rattle.std.proofs.Common.{◌≡◌, ◌⊎◌, ℕ, ◌+◌, ◌-◌, ◌≤◌, false, true, if◌then◌else◌, Some, inl, inr, refl, ap, sym, subst, ◌∙◌, arith, [], ◌∷◌}
use Rattle.std.proofs.lemmas.Bool.{cases_eq}
use Rattle.std.proofs.lemmas.Option.{same_Some}
use Rattle.std.specs.FinMap.{empty, FinMap, get, get-empty}
use Rattle.std.specs.Ordering.{nat_cmp}
use Rattle.std.specs.Prelude.{Contains}
use Rattle.frame_store.specs.Holds.{hold_of-frames, hold_of-with_hold_other, hold_of-with_hold_same}
use Rattle.frame_store.specs.Tallies.{spent_is, spent_on}
use Rattle.frame_store.specs.View.{claimed, Hold, hold_of, IsHeld, references, sole_hold, spent, View, with_hold}
use Rattle.process_model.specs.Frames.{tables_needed}
use Rattle.process_model.specs.Process.{Process}
use Rattle.process_model.proofs.ValueSets.{none_in}
use Rattle.sv39_entry.specs.Word.{IsLeafOf}
use Rattle.table_walk.specs.TableCounts.{AreTablesOf}
use Rattle.table_walk.specs.Keys.{insert_other, insert_same}
use Rattle.table_walk.specs.Tables.{bare_root, blank_hold, ChangesTables, HasTables, IsGrown, leaf_node, missing, Tables, with_leaf, root_node}
use Rattle.sv39_entry.specs.Schemes.{top_level, trampoline_page, trapframe_page, of_scheme}
use Rattle.sv39_entry.specs.declared.scheme.Scheme.{Scheme}
use Rattle.address_space.specs.Agreement.{code_rights, data_rights}
use Rattle.cow_fork.specs.Children.{CanOpen, CopiesPages}
use Rattle.cow_fork.proofs.NeededTables.{first_needed}

-- ---- tables of a seat that began without them

-- so many credits became tables; of each frame that is none of them the seat has what it had
pub record Makes (o w : View) (tables : FinMap nat_cmp ℕ) (n : ℕ) : Type 0 where
  pub fresh : (k f : ℕ) → get tables k ≡ Some f → (references o f ≡ 0) × (references w f ≡ 1)
  pub same : (f : ℕ) → ((k : ℕ) → get tables k ≡ Some f → ⊥) → hold_of w f ≡ hold_of o f
  pub credits : w.credits ≡ o.credits - n
  pub tallies : w.tallies ≡ spent n o.tallies

pub makes_more : (z : Scheme) (o v w : View) (t u : Tables) (page depth m n : ℕ) → Makes o v t.tables n → IsGrown z t u page depth → ChangesTables v w t u m → Makes o w u.tables (n + m)
makes_more z o v w t u page depth m n so_far grown changes = record {
  fresh = λ k f at. elim (grown.new k f at) [
    | inl old ↦ (let was = so_far.fresh k f old in (was.0, changes.old k f old ∙ was.1))
    | inr new ↦ (
        let now = changes.new k f at new.0 in
        elim (cases_eq (references o f) 0) [
          | inl none ↦ (none, now.1)
          | inr some ↦ absurd (
              let kept : references v f ≡ references o f = ap (λ (h : Hold). h.references) (so_far.same f (λ j there. some (so_far.fresh j f there).0)) in
              some (sym kept ∙ now.0))
        ])
  ];
  same = λ f off. changes.apart f off ∙ so_far.same f (λ k at. off k (grown.kept k f at));
  credits = omega (arith, so_far.credits, changes.credits);
  tallies = spent_on o.tallies v.tallies w.tallies n m so_far.tallies changes.tallies;
}

-- what was held before still is
pub held_beside : (o w : View) (tables : FinMap nat_cmp ℕ) (n f : ℕ) → Makes o w tables n → IsHeld o f → IsHeld w f
held_beside o w tables n f makes held =
    let kept : references w f ≡ references o f = ap (λ (h : Hold). h.references) (makes.same f (λ k at. let none = (makes.fresh k f at).0 in omega (arith, none, held))) in
    omega (arith, kept, held)

-- ---- the root

bare_table : (z : Scheme) (root k f : ℕ) → get (bare_root z root).tables k ≡ Some f → f ≡ root
bare_table z root k f at = elim (cases_eq k (root_node z)) [
  | inl is ↦ sym (same_Some root f (sym (insert_same empty (root_node z) root k is) ∙ at))
  | inr ne ↦ absurd (let none = sym (insert_other empty (root_node z) root k ne ∙ get-empty {X = ℕ} nat_cmp k) ∙ at in cc)
]

bare_leaf : (z : Scheme) (root k y : ℕ) → get (bare_root z root).leaves k ≡ Some y → ⊥
bare_leaf z root k y at = let none = sym (get-empty {X = ℕ} nat_cmp k) ∙ at in cc

claimed_other : (f g : ℕ) (v : View) → (g ≡ f → ⊥) → hold_of (claimed f v) g ≡ hold_of v g
claimed_other f g v apart =
    let u : View = record v { credits = v.credits - 1; tallies = spent 1 v.tallies } in
    hold_of-with_hold_other f sole_hold u g apart ∙ hold_of-frames u v refl g

pub makes_root : (z : Scheme) (o w : View) (root : ℕ) → references o root ≡ 0 → w ≡ with_hold root blank_hold (claimed root o) → Makes o w (bare_root z root).tables 1
makes_root z o w root none is = record {
  fresh = λ k f at.
      let here = bare_table z root k f at in (
        ap (references o) here ∙ none,
        ap (references w) here ∙ ap (λ (u : View). references u root) is ∙ ap (λ (h : Hold). h.references) (hold_of-with_hold_same root blank_hold (claimed root o)),
      );
  same = λ f off.
      let apart : f ≡ root → ⊥ = λ same. off (root_node z) (insert_same empty (root_node z) root (root_node z) refl ∙ ap Some (sym same)) in
      ap (λ (u : View). hold_of u f) is ∙ hold_of-with_hold_other root blank_hold (claimed root o) f apart ∙ claimed_other root f o apart;
  credits = ap (λ (u : View). u.credits) is;
  tallies = ap (λ (u : View). u.tallies) is;
}

-- ---- and the two pages of the kernel

pub top_missing : (z : Scheme) (root page : ℕ) → page ≡ trampoline_page z → missing z (bare_root z root) (trampoline_page z) ≡ tables_needed z [] - 1
    → missing z (bare_root z root) page ≡ top_level z
top_missing z root page is law = let same = ap (missing z (bare_root z root)) is in let first = first_needed z in omega (arith, same, law, first)

pub first_enough : (z : Scheme) (o v : View) (root trapframe page : ℕ) → CanOpen z o trapframe → Makes o v (bare_root z root).tables 1
    → missing z (bare_root z root) page ≡ top_level z → missing z (bare_root z root) page ≤ v.credits
first_enough z o v root trapframe page can makes top = omega (arith, can.credits, makes.credits, top)

pub second_enough : (z : Scheme) (credits : ℕ) (t : Tables) (page : ℕ) → page ≡ trapframe_page z → missing z t (trapframe_page z) ≡ 0 → missing z t page ≤ credits
second_enough z credits t page is none = let same = ap (missing z t) is in omega (arith, same, none)

pub trapframe_shares : (z : Scheme) → Contains (trampoline_page z ∷ trapframe_page z ∷ []) (trapframe_page z)
trapframe_shares z = (1, omega arith, refl)

kernel_apart : (z : Scheme) → leaf_node (trampoline_page z) ≡ leaf_node (trapframe_page z) → ⊥
kernel_apart z same = omega (arith, same, of_scheme z)

module _ (z : Scheme) (o a v w : View) (root trapframe x y : ℕ) (s u : Tables) (can : CanOpen z o trapframe) (first : Makes o a (bare_root z root).tables 1)
    (grown : IsGrown z (bare_root z root) s (trampoline_page z) (top_level z)) (changes : ChangesTables a v (bare_root z root) s (missing z (bare_root z root) (trampoline_page z)))
    (two : missing z (bare_root z root) (trampoline_page z) ≡ top_level z) (code : IsLeafOf x 0 code_rights false false true) where
  abbrev with_code : Tables
  with_code = with_leaf s (leaf_node (trampoline_page z)) x

  abbrev with_both : Tables
  with_both = with_leaf u (leaf_node (trapframe_page z)) y

  module _ (grown_on : IsGrown z with_code u (trapframe_page z) (top_level z)) (changes_on : ChangesTables v w with_code u (missing z with_code (trapframe_page z)))
      (none : missing z with_code (trapframe_page z) ≡ 0) (tables : HasTables z w root with_both) (saved : IsLeafOf y trapframe data_rights false false true) (are : AreTablesOf z u []) where
    makes_all : Makes o w u.tables (1 + missing z (bare_root z root) (trampoline_page z) + missing z with_code (trapframe_page z))
    makes_all = makes_more z o v w with_code u (trapframe_page z) (top_level z) (missing z with_code (trapframe_page z)) (1 + missing z (bare_root z root) (trampoline_page z))
        (makes_more z o a v (bare_root z root) s (trampoline_page z) (top_level z) (missing z (bare_root z root) (trampoline_page z)) 1 first grown changes) grown_on changes_on

    three : 1 + missing z (bare_root z root) (trampoline_page z) + missing z with_code (trapframe_page z) ≡ tables_needed z []
    three = let needed = first_needed z in omega (arith, two, none, needed)

    passed : (k : ℕ) → (k ≡ leaf_node (trapframe_page z) → ⊥) → get with_both.leaves k ≡ get with_code.leaves k
    passed k apart = insert_other u.leaves (leaf_node (trapframe_page z)) y k apart ∙ ap (λ leaves. get leaves k) grown_on.leaves

    only_two : (k m : ℕ) → get with_both.leaves k ≡ Some m → (k ≡ leaf_node (trampoline_page z)) ⊎ (k ≡ leaf_node (trapframe_page z))
    only_two k m at = elim (cases_eq k (leaf_node (trapframe_page z))) [
      | inl second ↦ inr second
      | inr not_second ↦ elim (cases_eq k (leaf_node (trampoline_page z))) [
        | inl is ↦ inl is
        | inr apart ↦ (
            let was : get with_code.leaves k ≡ get (bare_root z root).leaves k =
            insert_other s.leaves (leaf_node (trampoline_page z)) x k apart ∙ ap (λ leaves. get leaves k) grown.leaves in
            absurd (bare_leaf z root k m (sym was ∙ sym (passed k not_second) ∙ at)))
      ]
    ]

    pub opens : (t : Tables) (p : Process) → p.scheme ≡ z → CopiesPages o w t with_both p root trapframe 0 []
    opens t p same = rw same (record {
      tables = tables;
      on_trampoline = (x, passed (leaf_node (trampoline_page z)) (kernel_apart z) ∙ insert_same s.leaves (leaf_node (trampoline_page z)) x (leaf_node (trampoline_page z)) refl, code);
      on_trapframe = (y, insert_same u.leaves (leaf_node (trapframe_page z)) y (leaf_node (trapframe_page z)) refl, saved);
      settled = λ n page at below. absurd (omega (arith, below));
      only = λ k m at. elim (only_two k m at) [ inl is ↦ inl is | inr is ↦ inr (inl is) ];
      all = λ n page at below. absurd (omega (arith, below));
      there = λ n h. absurd (none_in n h);
      tabled = are;
      fresh = makes_all.fresh;
      same = makes_all.same;
      credits = subst (λ n. w.credits ≡ o.credits - n) three makes_all.credits;
      tallies = spent_is o.tallies w.tallies _ (tables_needed z []) three makes_all.tallies;
    })
