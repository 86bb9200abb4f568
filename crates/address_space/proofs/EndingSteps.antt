-- Lemmas on the end of a space whose pages are gone: TRAPFRAME's leaf is removed, then TRAMPOLINE's, and then the tables are
-- released (`strips`); at last the frames of these two pages are released, and the seat holds none (`is_bare`).
use Rattle.std.proofs.Common.{◌≡◌, ℕ, ◌<◌, ◌⊎◌, None, Some, refl, ap, sym, ◌∙◌, inl, inr, arith, subst}
use Rattle.std.specs.Prelude.{[]}
use Rattle.std.proofs.lemmas.Bool.{cases_eq}
use Rattle.std.specs.FinMap.{get}
use Rattle.frame_store.specs.Laws.{IsAnchored}
use Rattle.frame_store.specs.View.{Hold, View, hold_of, IsHeld, IsSole, not_held, references, released}
use Rattle.process_model.specs.Heap.{without_pages}
use Rattle.process_model.specs.PageMap as pages
use Rattle.process_model.specs.Process.{Page, Process, regions}
use Rattle.process_model.specs.Regions.{Region, region_at}
use Rattle.sv39_entry.specs.Word.{ppn}
use Rattle.sv39_entry.specs.Frame.{ppn_of}
use Rattle.sv39_entry.specs.Schemes.{trampoline_page, trapframe_page, of_scheme}
use Rattle.sv39_entry.specs.declared.scheme.Scheme.{Scheme}
use Rattle.table_walk.specs.Tables.{ChangesTables, HasTables, Tables, leaf_node, without_leaf}
use Rattle.table_walk.specs.Keys.{is_none, remove_other}
use Rattle.table_walk.specs.TableRelease.{AreLast, SameTallies}
use Rattle.address_space.specs.Agreement.{Body, HoldsTrapframe, NamesFrame, no_extra, one_extra, OwnsFrames, IsInMemory}
use Rattle.address_space.specs.SpaceTeardown.{IsEmptied, IsStripped}
use Rattle.address_space.specs.SpacesInCalls.{IsSpaceInCall}
use Rattle.address_space.specs.Steps.{IsBare, TakesFrames}
use Rattle.address_space.proofs.DroppedLeaf.{changes_take, leaf_goes, left, released_credits, released_takes, takes_none, takes_then, unmapped}
use Rattle.process_model.proofs.ReleaseLaws.{was_settled}
use Rattle.address_space.proofs.Owned.{both_of, no_table, one_else, one_here, released_here, released_other, same_references, same_sole}
use Rattle.table_walk.specs.Nodes.{one_page}

-- what is known by the scheme of a process is known by that which code has
pub emptied_of_scheme : {x y : Scheme} {v : View} {root trapframe : ℕ} {t : Tables} → x ≡ y → IsEmptied x v root trapframe t → IsEmptied y v root trapframe t
emptied_of_scheme {x} {y} {v} {root} {trapframe} {t} same emptied = subst (λ z. IsEmptied z v root trapframe t) same emptied

-- each settled page is one of a region
pub below : {x : Body} (t : Tables) (p : Process) → IsSpaceInCall x t p no_extra → (end : ℕ) → ((n : ℕ) (r : Region) → region_at (regions p) n ≡ Some r → n < end)
    → (n : ℕ) (s : Page) → pages.get p.settled n ≡ Some s → n < end
below t p space end no_region n s is = let shown = space.stands.shows.settled n s is in no_region n shown.region shown.in_region

-- no page is settled
module _ (v : View) (root trapframe : ℕ) (u : Tables) (p : Process) (end : ℕ) (all : (n : ℕ) (s : Page) → pages.get p.settled n ≡ Some s → n < end)
    (a : IsInMemory v root trapframe no_extra u (without_pages p 0 end)) where
  two_left : (k w : ℕ) → get u.leaves k ≡ Some w → (k ≡ leaf_node (trampoline_page p.scheme)) ⊎ (k ≡ leaf_node (trapframe_page p.scheme))
  two_left k w leaf = elim (a.shows.only k w leaf) as (λ _. (k ≡ leaf_node (trampoline_page p.scheme)) ⊎ (k ≡ leaf_node (trapframe_page p.scheme))) [
    | inl trampoline ↦ inl trampoline
    | inr rest ↦ elim rest as (λ _. (k ≡ leaf_node (trampoline_page p.scheme)) ⊎ (k ≡ leaf_node (trapframe_page p.scheme))) [
      | inl frame ↦ inr frame
      | inr there ↦ absurd (
          let was = was_settled p 0 end there.0 there.1 there.3 in
          let low = all there.0 there.1 was.0 in
          elim was.1 as (λ _. ⊥) [
            | inl before ↦ omega (arith, before)
            | inr after ↦ omega (arith, after, low)
          ])
    ]
  ]

  pub emptied : IsEmptied p.scheme v root trapframe u
  emptied = record {
    tables = a.tables;
    owns = a.owns;
    on_trampoline = a.shows.on_trampoline;
    on_trapframe = a.shows.on_trapframe;
    only = two_left;
  }

-- `w` is the view after TRAPFRAME's leaf went, `m` after TRAMPOLINE's
module _ {z : Scheme} (v w m : View) (root trapframe : ℕ) (t : Tables) (a : IsEmptied z v root trapframe t) where
  abbrev first : Tables
  first = without_leaf t (leaf_node (trapframe_page z))

  abbrev second : Tables
  second = without_leaf first (leaf_node (trampoline_page z))

  leaves_apart : leaf_node (trampoline_page z) ≡ leaf_node (trapframe_page z) → ⊥
  leaves_apart same = omega (arith, one_page (trampoline_page z) (trapframe_page z) same, of_scheme z)

  apart : trapframe ≡ 0 → ⊥
  apart same =
      let code = a.on_trampoline in
      let saved = a.on_trapframe in
      leaves_apart (a.owns.once 0 (leaf_node (trampoline_page z)) (leaf_node (trapframe_page z)) (inr (code.0, code.1, code.2.names)) (inr (saved.0, saved.1, saved.2.names ∙ ap ppn_of same)))

  module _ (c : ChangesTables v w t t 0) (has : HasTables z w root (without_leaf t (leaf_node (trapframe_page z))))
      (d : ChangesTables w m (without_leaf t (leaf_node (trapframe_page z))) (without_leaf t (leaf_node (trapframe_page z))) 0) where
    one_waits : OwnsFrames w first (one_extra trapframe)
    one_waits = let on = a.on_trapframe in unmapped v w root t (leaf_node (trapframe_page z)) on.0 trapframe a.tables a.owns on.1 on.2.names c

    last : (x : ℕ) × (get first.leaves (leaf_node (trampoline_page z)) ≡ Some x) × (ppn x ≡ ppn_of 0)
    last = let on = a.on_trampoline in (on.0, remove_other t.leaves (leaf_node (trapframe_page z)) (leaf_node (trampoline_page z)) leaves_apart ∙ on.1, on.2.names)

    two_wait : OwnsFrames m second (both_of trapframe 0)
    two_wait = leaf_goes w root first (leaf_node (trampoline_page z)) last.0 0 has (one_extra trapframe) one_waits last.1 last.2 m d (both_of trapframe 0) (λ g. refl)

    none_left : (n : ℕ) → get second.leaves n ≡ None
    none_left n = is_none _ (λ x leaf.
        let below = left first (leaf_node (trampoline_page z)) n x leaf in
        let above = left t (leaf_node (trapframe_page z)) n x below.0 in
        elim (a.only n x above.0) as (λ _. ⊥) [
          | inl trampoline ↦ below.1 trampoline
          | inr frame ↦ above.1 frame
        ])

    -- the two frames are no tables
    zero_no_table : (k : ℕ) → get t.tables k ≡ Some 0 → ⊥
    zero_no_table = let on = a.on_trampoline in no_table v t root no_extra a.tables a.owns (leaf_node (trampoline_page z)) on.0 0 on.1 on.2.names

    saved_no_table : (k : ℕ) → get t.tables k ≡ Some trapframe → ⊥
    saved_no_table = let on = a.on_trapframe in no_table v t root no_extra a.tables a.owns (leaf_node (trapframe_page z)) on.0 trapframe on.1 on.2.names

    no_names : (f : ℕ) → ((k : ℕ) → get t.tables k ≡ Some f → ⊥) → (k : ℕ) → NamesFrame second f k → ⊥
    no_names f none k (inl table) = none k table
    no_names f none k (inr leaf) = let gone = none_left k in let there = leaf.1 in cc

    table_once : (k f : ℕ) → get t.tables k ≡ Some f → references m f ≡ 1
    table_once k f table =
        let one = two_wait.named f k (inl table) in
        let zero = one_else 0 f (λ same. zero_no_table k (table ∙ ap Some same)) in
        let saved = one_else trapframe f (λ same. saved_no_table k (table ∙ ap Some same)) in
        omega (arith, one, zero, saved)

    zero_once : references m 0 ≡ 1
    zero_once =
        let count = two_wait.bare 0 (no_names 0 zero_no_table) in
        let here = one_here 0 0 refl in
        let none = one_else trapframe 0 (λ same. apart (sym same)) in
        omega (arith, count, here, none)

    pub are_last : AreLast m (without_leaf (without_leaf t (leaf_node (trapframe_page z))) (leaf_node (trampoline_page z)))
    are_last = record {
      bare = none_left;
      once = table_once;
      anchored = let one = zero_once in omega (arith, one);
      apart = zero_no_table;
    }

    -- the tables are gone
    module _ (e : View)
        (gone : (k f : ℕ) → get t.tables k ≡ Some f → hold_of e f ≡ not_held)
        (others : (f : ℕ) → ((k : ℕ) → get t.tables k ≡ Some f → ⊥) → hold_of e f ≡ hold_of m f)
        (tallies : SameTallies m e) where
      as_was : hold_of e trapframe ≡ hold_of v trapframe
      as_was = others trapframe saved_no_table ∙ d.apart trapframe saved_no_table ∙ c.apart trapframe saved_no_table

      saved_once : references e trapframe ≡ 1
      saved_once = let on = a.on_trapframe in same_references v e trapframe as_was ∙ a.owns.named trapframe (leaf_node (trapframe_page z)) (inr (on.0, on.1, on.2.names))

      saved_sole : IsSole e trapframe
      saved_sole =
          let on = a.on_trapframe in
          same_sole v e trapframe as_was (a.owns.writable trapframe (leaf_node (trapframe_page z)) on.0 on.1 on.2.names on.2.write)

      -- nothing else is held
      none_else : (f : ℕ) → (f ≡ 0 → ⊥) → (f ≡ trapframe → ⊥) → references e f ≡ 0
      none_else f some other = elim (cases_eq (references e f) 0) [
        | inl none ↦ none
        | inr held ↦
            let bare : (k : ℕ) → get t.tables k ≡ Some f → ⊥ = λ k table. held (ap (λ (h : Hold). h.references) (gone k f table)) in
            let count = two_wait.bare f (no_names f bare) in
            let zero = one_else 0 f some in
            let saved = one_else trapframe f other in
            let same = same_references m e f (others f bare) in
            omega (arith, count, zero, saved, same)
      ]

      pub strips : IsStripped v e trapframe
      strips =
          let unmapped_first = changes_take v w t t c in
          let both = takes_then v w m unmapped_first (changes_take w m _ _ d) in
          record {
            holds = record {
              code = same_references m e 0 (others 0 zero_no_table) ∙ zero_once;
              saved = saved_once;
              sole = saved_sole;
              apart = apart;
              others = none_else;
            };
            saved = as_was;
            credits = let one = c.credits in let two = d.credits in let three = tallies.credits in omega (arith, one, two, three);
            takes = takes_then v m e both (takes_none m e tallies.tallies);
          }

-- ---- the last two frames go

module _ (v w : View) (trapframe : ℕ) (h : HoldsTrapframe v trapframe) (is : w ≡ released trapframe v) where
  pub saved_held : IsHeld v trapframe
  saved_held = let one = h.saved in omega (arith, one)

  other : (f : ℕ) → (f ≡ trapframe → ⊥) → hold_of w f ≡ hold_of v f
  other f apart = ap (λ u. hold_of u f) is ∙ released_other trapframe f v h.saved apart

  code_once : references w 0 ≡ 1
  code_once = same_references v w 0 (other 0 (λ same. h.apart (sym same))) ∙ h.code

  pub code_held : IsHeld w 0
  code_held = let one = code_once in omega (arith, one)

  pub anchored_first : IsAnchored w
  anchored_first f held = code_held

  only_code : (f : ℕ) → (f ≡ 0 → ⊥) → references w f ≡ 0
  only_code f some = elim (cases_eq f trapframe) [
    | inl same ↦ rw same (ap (λ u. references u trapframe) is ∙ released_here trapframe v h.saved)
    | inr apart ↦ same_references v w f (other f apart) ∙ h.others f some apart
  ]

  module _ (x : View) (end : x ≡ released 0 w) where
    none_held : (f : ℕ) → references x f ≡ 0
    none_held f = elim (cases_eq f 0) [
      | inl zero ↦ rw zero (ap (λ u. references u 0) end ∙ released_here 0 w code_once)
      | inr some ↦ ap (λ u. references u f) end ∙ same_references w (released 0 w) f (released_other 0 f w code_once some) ∙ only_code f some
    ]

    pub anchored_last : IsAnchored x
    anchored_last f held = absurd (let none = none_held f in omega (arith, none, held))

    pub is_bare : v.credits ≡ 0 → IsBare x
    is_bare none = record {
      none = none_held;
      credits =
          ap (λ (u : View). u.credits) end ∙ released_credits 0 w code_once
          ∙ ap (λ (u : View). u.credits) is ∙ released_credits trapframe v h.saved ∙ none;
    }

    pub takes_last : (u : View) → TakesFrames u v 0 [] → TakesFrames u x 0 []
    takes_last u takes =
        let first = takes_then u v w takes (rw is (released_takes trapframe v h.saved)) in
        takes_then u w x first (rw end (released_takes 0 w code_once))
