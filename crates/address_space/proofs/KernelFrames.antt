-- Lemmas on what the kernel's seat holds, `HoldsKernel`: after an empty root is made, after a frame is claimed for a stack,
-- after tables are added. Also lemmas that sum up the credits spent.
use Rattle.std.proofs.Common.{◌≡◌, ℕ, ◌+◌, ◌^◌, ◌<◌, ◌⊎◌, List, [], ◌∷◌, ◌++◌, length, Option, None, Some, inl, inr, refl, ap, sym, subst, ◌∙◌, arith}
use Rattle.std.specs.FinMap.{FinMap, empty, get, get-empty}
use Rattle.std.specs.Ordering.{nat_cmp}
use Rattle.std.proofs.lemmas.Bool.{cases_eq}
use Rattle.std.proofs.lemmas.Option.{same_Some, slice_get_within}
use Rattle.frame_store.specs.Holds.{hold_of-frames, hold_of-with_hold_other, hold_of-with_hold_same}
use Rattle.frame_store.specs.Tallies.{spent_none, spent_on}
use Rattle.frame_store.specs.View.{Hold, View, claimed, hold_of, IsHeld, references, sole_hold, with_credits, with_hold}
use Rattle.table_walk.specs.Tables.{bare_root, blank_hold, ChangesTables, HasTables, Tables, root_node}
use Rattle.table_walk.specs.Keys.{insert_other, insert_same}
use Rattle.table_walk.specs.SameFrames.{same_tables}
use Rattle.address_space.specs.Kernel.{HoldsKernel}
use Rattle.address_space.specs.Steps.{SpendsCredits}
use Rattle.address_space.proofs.KernelPages.{get_before, get_last}
use Rattle.sv39_entry.specs.declared.scheme.Scheme.{Scheme}

-- ---- credits that are spent

pub spends_none : (v : View) → SpendsCredits v v 0
spends_none v = record { credits = omega arith; tallies = spent_none v.tallies }

pub spends_on : (u v w : View) (m n : ℕ) → SpendsCredits u v m → SpendsCredits v w n → SpendsCredits u w (m + n)
spends_on u v w m n first second =
    let one = first.credits in
    let two = second.credits in
    record { credits = omega (arith, one, two); tallies = spent_on u.tallies v.tallies w.tallies m n first.tallies second.tallies }

pub spends_claim : (f : ℕ) (v w : View) → w ≡ claimed f v → SpendsCredits v w 1
spends_claim f v w is = subst (λ u. SpendsCredits v u 1) (sym is) (record { credits = refl; tallies = refl })

pub spends_tables : (v w : View) (t u : Tables) (n : ℕ) → ChangesTables v w t u n → SpendsCredits v w n
spends_tables v w t u n changes = record { credits = changes.credits; tallies = changes.tallies }

pub spends_is : (v w : View) (m n : ℕ) → m ≡ n → SpendsCredits v w m → SpendsCredits v w n
spends_is v w m n is spends = subst (SpendsCredits v w) is spends

-- ---- what is held

-- credits leave every reference
pub same_references : (n : ℕ) (v w : View) → w ≡ with_credits n v → (f : ℕ) → references w f ≡ references v f
same_references n v w is f = ap (λ (u : View). references u f) is ∙ ap (λ (h : Hold). h.references) (hold_of-frames (with_credits n v) v refl f)

pub code_held : (v : View) (stacks : List ℕ) (tables : FinMap nat_cmp ℕ) → HoldsKernel v stacks tables → IsHeld v 0
code_held v stacks tables holds = let once = holds.code in omega (arith, once)

-- ---- a frame is claimed

module _ (f : ℕ) (v w : View) (is : w ≡ claimed f v) where
  claimed_here : hold_of w f ≡ sole_hold
  claimed_here = ap (λ u. hold_of u f) is ∙ hold_of-with_hold_same f sole_hold _

  claimed_other : (g : ℕ) → (g ≡ f → ⊥) → hold_of w g ≡ hold_of v g
  claimed_other g apart = ap (λ u. hold_of u g) is ∙ hold_of-with_hold_other f sole_hold _ g apart ∙ hold_of-frames _ v refl g

  module _ (fresh : references v f ≡ 0) where
    pub not_claimed : (g : ℕ) → references v g ≡ 1 → g ≡ f → ⊥
    not_claimed g once e = let none : references v g ≡ 0 = ap (references v) e ∙ fresh in omega (arith, none, once)

    pub tables_stay : {z : Scheme} (root : ℕ) (t : Tables) → HasTables z v root t → HasTables z w root t
    tables_stay root t has = same_tables v w root t (λ k g at. claimed_other g (λ e. let none : references v g ≡ 0 = ap (references v) e ∙ fresh in let held = (has.own k g at).0 in omega (arith, none, held))) has

    pub once_still : (g : ℕ) → references v g ≡ 1 → references w g ≡ 1
    once_still g once = ap (λ (h : Hold). h.references) (claimed_other g (not_claimed g once)) ∙ once

    pub more_stacks : (stacks : List ℕ) (tables : FinMap nat_cmp ℕ) → f < 2 ^ 16 → HoldsKernel v stacks tables → HoldsKernel w (stacks ++ f ∷ []) tables
    more_stacks stacks tables small holds = record {
      code = once_still 0 holds.code;
      stack = λ slot g at. elim (cases_eq slot (length stacks)) [
        | inl e ↦
            let same : f ≡ g = same_Some f g (sym (get_last stacks f slot e) ∙ at) in
            let here : hold_of w g ≡ sole_hold = ap (hold_of w) (sym same) ∙ claimed_here in
            (ap (λ (h : Hold). h.references) here, ap (λ (h : Hold). h.sole) here, subst (λ n. n < 2 ^ 16) same small)
        | inr ne ↦
            let old = holds.stack slot g (sym (get_before stacks f slot ne) ∙ at) in
            (once_still g old.0, ap (λ (h : Hold). h.sole) (claimed_other g (not_claimed g old.0)) ∙ old.1, old.2)
      ];
      table = λ k g at. once_still g (holds.table k g at);
      bare = λ g no_code no_stack no_table.
          let other : g ≡ f → ⊥ = λ e. no_stack (length stacks) (get_last stacks f (length stacks) refl ∙ ap Some (sym e)) in
          ap (λ (h : Hold). h.references) (claimed_other g other)
          ∙ holds.bare g no_code (λ slot at. no_stack slot (get_before stacks f slot (λ e. let less = slice_get_within stacks slot g at in omega (arith, e, less)) ∙ at)) no_table;
      stacks_apart = λ i j g at also. elim (cases_eq i (length stacks)) [
        | inl e ↦ elim (cases_eq j (length stacks)) [
          | inl d ↦ e ∙ sym d
          | inr d ↦ absurd (
              let same : g ≡ f = same_Some g f (sym at ∙ get_last stacks f i e) in
              not_claimed g (holds.stack j g (sym (get_before stacks f j d) ∙ also)).0 same)
        ]
        | inr e ↦ elim (cases_eq j (length stacks)) [
          | inl d ↦ absurd (
              let same : g ≡ f = same_Some g f (sym also ∙ get_last stacks f j d) in
              not_claimed g (holds.stack i g (sym (get_before stacks f i e) ∙ at)).0 same)
          | inr d ↦ holds.stacks_apart i j g (sym (get_before stacks f i e) ∙ at) (sym (get_before stacks f j d) ∙ also)
        ]
      ];
      stack_no_table = λ slot k g at table. elim (cases_eq slot (length stacks)) [
        | inl e ↦ not_claimed g (holds.table k g table) (same_Some g f (sym at ∙ get_last stacks f slot e))
        | inr e ↦ holds.stack_no_table slot k g (sym (get_before stacks f slot e) ∙ at) table
      ];
      stack_no_code = λ slot g at zero. elim (cases_eq slot (length stacks)) [
        | inl e ↦ not_claimed 0 holds.code (sym zero ∙ same_Some g f (sym at ∙ get_last stacks f slot e))
        | inr e ↦ holds.stack_no_code slot g (sym (get_before stacks f slot e) ∙ at) zero
      ];
      table_no_code = holds.table_no_code;
    }

-- ---- tables are added

old_or_new : (f : ℕ) (o p : Option ℕ) → ((g : ℕ) → o ≡ Some g → p ≡ Some g) → p ≡ Some f → (o ≡ Some f) ⊎ (o ≡ None)
old_or_new f None p kept is = inr refl
old_or_new f (Some g) p kept is = inl (sym (kept g refl) ∙ is)

module _ (v w : View) (stacks : List ℕ) (t u : Tables) (n : ℕ) (holds : HoldsKernel v stacks t.tables) (changes : ChangesTables v w t u n)
    (kept : (k f : ℕ) → get t.tables k ≡ Some f → get u.tables k ≡ Some f) where
  which : (k f : ℕ) → get u.tables k ≡ Some f → (get t.tables k ≡ Some f) ⊎ (get t.tables k ≡ None)
  which k f at = old_or_new f (get t.tables k) (get u.tables k) (kept k) at

  -- what was held and no table is no new table
  no_table : (f : ℕ) → references v f ≡ 1 → ((k : ℕ) → get t.tables k ≡ Some f → ⊥) → (k : ℕ) → get u.tables k ≡ Some f → ⊥
  no_table f once untabled k at = elim (which k f at) [
    | inl old ↦ untabled k old
    | inr new ↦ (let none = (changes.new k f at new).0 in omega (arith, none, once))
  ]

  still : (f : ℕ) → references v f ≡ 1 → ((k : ℕ) → get t.tables k ≡ Some f → ⊥) → hold_of w f ≡ hold_of v f
  still f once untabled = changes.apart f (no_table f once untabled)

  no_code : (k : ℕ) → get t.tables k ≡ Some 0 → ⊥
  no_code k at = holds.table_no_code k 0 at refl

  pub more_tables : HoldsKernel w stacks u.tables
  more_tables = record {
    code = ap (λ (h : Hold). h.references) (still 0 holds.code no_code) ∙ holds.code;
    stack = λ slot f at.
        let own = holds.stack slot f at in
        let same = still f own.0 (λ k. holds.stack_no_table slot k f at) in
        (ap (λ (h : Hold). h.references) same ∙ own.0, ap (λ (h : Hold). h.sole) same ∙ own.1, own.2);
    table = λ k f at. elim (which k f at) [
      | inl old ↦ changes.old k f old ∙ holds.table k f old
      | inr new ↦ (changes.new k f at new).1
    ];
    bare = λ f not_code not_stack not_table.
        ap (λ (h : Hold). h.references) (changes.apart f not_table) ∙ holds.bare f not_code not_stack (λ k at. not_table k (kept k f at));
    stacks_apart = holds.stacks_apart;
    stack_no_table = λ slot k f at. no_table f (holds.stack slot f at).0 (λ j. holds.stack_no_table slot j f at) k;
    stack_no_code = holds.stack_no_code;
    table_no_code = λ k f at zero. no_table 0 holds.code no_code k (at ∙ ap Some zero);
  }

-- ---- an empty root is made

module _ (z : Scheme) (root : ℕ) (v w : View) (is : w ≡ with_hold root blank_hold (claimed root v)) (fresh : references v root ≡ 0) (once : references v 0 ≡ 1)
    (none : (f : ℕ) → (f ≡ 0 → ⊥) → references v f ≡ 0) where
  root_here : references w root ≡ 1
  root_here = ap (λ (h : Hold). h.references) (ap (λ u. hold_of u root) is ∙ hold_of-with_hold_same root blank_hold _)

  root_other : (g : ℕ) → (g ≡ root → ⊥) → references w g ≡ references v g
  root_other g apart = ap (λ (h : Hold). h.references) (ap (λ u. hold_of u g) is ∙ hold_of-with_hold_other root blank_hold _ g apart ∙ claimed_other root v (claimed root v) refl g apart)

  root_no_code : root ≡ 0 → ⊥
  root_no_code e = let gone : references v 0 ≡ 0 = ap (references v) (sym e) ∙ fresh in omega (arith, gone, once)

  the_root : (k f : ℕ) → get (bare_root z root).tables k ≡ Some f → f ≡ root
  the_root k f at = elim (cases_eq k (root_node z)) [
    | inl e ↦ same_Some f root (sym at ∙ insert_same empty (root_node z) root k e)
    | inr ne ↦ absurd (let gone = sym at ∙ insert_other empty (root_node z) root k ne ∙ get-empty {X = ℕ} nat_cmp k in cc)
  ]

  pub holds_root : HoldsKernel w [] (bare_root z root).tables
  holds_root = record {
    code = root_other 0 (λ e. root_no_code (sym e)) ∙ once;
    stack = λ slot f at. absurd (cc);
    table = λ k f at. ap (references w) (the_root k f at) ∙ root_here;
    bare = λ f no_code no_stack no_table.
        let other : f ≡ root → ⊥ = λ e. no_table (root_node z) (insert_same empty (root_node z) root (root_node z) refl ∙ ap Some (sym e)) in
        root_other f other ∙ none f no_code;
    stacks_apart = λ i j f at also. absurd (cc);
    stack_no_table = λ slot k f at table. cc;
    stack_no_code = λ slot f at zero. cc;
    table_no_code = λ k f at zero. root_no_code (sym (the_root k f at) ∙ zero);
  }

  pub spends_root : SpendsCredits v w 1
  spends_root = subst (λ u. SpendsCredits v u 1) (sym is) (record { credits = refl; tallies = refl })
