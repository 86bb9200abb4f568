-- Lemmas: frame 0 and the frames of the settled pages (those in memory) are exactly the frames that a fork shares, each
-- listed once (`going_settled`), page by page; the parent's seat holds each.
use Rattle.std.proofs.Common.{◌≡◌, ℕ, ◌+◌, ◌<◌, ◌≤◌, ap, sym, subst, ◌∙◌, inl, inr, List, [], ◌∷◌, ◌++◌, length, Some, None, arith}
use Rattle.std.proofs.lemmas.Bool.{cases_eq, cases_lt}
use Rattle.std.proofs.lemmas.List.{append_assoc, append-nil}
use Rattle.std.proofs.lemmas.Option.{same_Some}
use Rattle.std.specs.FinMap.{get}
use Rattle.frame_store.specs.View.{IsHeld, references}
use Rattle.process_model.specs.PageMap as pages
use Rattle.process_model.specs.Process.{Page, Process}
use Rattle.sv39_entry.specs.Frame.{ppn_of}
use Rattle.sv39_entry.specs.Word.{ppn}
use Rattle.sv39_entry.specs.Schemes.{trampoline_page, trapframe_page, of_scheme}
use Rattle.table_walk.specs.Tables.{leaf_node, Tables}
use Rattle.address_space.specs.Agreement.{Body, IsFrameOfPage, IsSpace, NamesFrame, no_extra, OwnsFrames, ShowsPages}
use Rattle.address_space.specs.SettledLists.{AreSettled, IsNextSettled}
use Rattle.address_space.specs.declared.settled_pages.SettledPage.{SettledPage}
use Rattle.cow_fork.specs.Occurrences.{times}
use Rattle.cow_fork.specs.ForkReferences.{AreToShare, frames_of, IsToShare}
use Rattle.cow_fork.proofs.Pigeons.{few}
use Rattle.cow_fork.proofs.Releasing.{times_other, times_same}
use Rattle.table_walk.specs.Nodes.{one_page}

-- the last of a list

pub times_last_same : (f : ℕ) (L : List ℕ) → times f (L ++ f ∷ []) ≡ times f L + 1
times_last_same f [] = let one = times_same f [] in omega (arith, one)
times_last_same f (g ∷ L) = let rest = times_last_same f L in omega (arith, rest)

pub times_last_other : (f g : ℕ) (L : List ℕ) → (g ≡ f → ⊥) → times f (L ++ g ∷ []) ≡ times f L
times_last_other f g [] apart = times_other f g [] apart
times_last_other f g (h ∷ L) apart = let rest = times_last_other f g L apart in omega (arith, rest)

module _ (x : Body) (t : Tables) (p : Process) (is : IsSpace x t p) where
  abbrev owns : OwnsFrames x.view t no_extra
  owns = is.stands.owns

  abbrev shows : ShowsPages x.view x.trapframe t p
  shows = is.stands.shows

  on_names : (n f : ℕ) → IsFrameOfPage t n f → NamesFrame t f (leaf_node n)
  on_names n f on = inr (on.0, on.1, on.2)

  code_named : NamesFrame t 0 (leaf_node (trampoline_page p.scheme))
  code_named = let leaf = shows.on_trampoline in inr (leaf.0, leaf.1, leaf.2.names)

  -- a frame that goes is held
  pub going_held : (bound f : ℕ) → IsToShare t p bound f → IsHeld x.view f
  going_held bound f (inl code) = let one = owns.named 0 _ code_named in let same = ap (λ k. references x.view k) code in omega (arith, one, same)
  going_held bound f (inr page) = let one = owns.named f _ (on_names page.0 f page.4) in omega (arith, one)

  -- the frame of a page that is not gone through is not listed
  not_going : (n f bound : ℕ) (s : Page) → pages.get p.settled n ≡ Some s → bound ≤ n → IsFrameOfPage t n f → IsToShare t p bound f → ⊥
  not_going n f bound s there above on (inl code) =
      let same = owns.once 0 (leaf_node n) (leaf_node (trampoline_page p.scheme)) (subst (λ g. NamesFrame t g (leaf_node n)) code (on_names n f on)) code_named in
      let low = shows.low n s there in
      let apart = one_page n (trampoline_page p.scheme) same in
      omega (arith, apart, low, of_scheme p.scheme)
  not_going n f bound s there above on (inr other) =
      let same = owns.once f (leaf_node n) (leaf_node other.0) (on_names n f on) (on_names other.0 f other.4) in
      let apart = one_page n other.0 same in
      let below = other.2 in
      omega (arith, apart, below, above)

  pub going_none : AreToShare t p 0 (0 ∷ [])
  going_none f = elim (cases_eq f 0) [
    | inl same ↦ inl (ap (λ k. times k (0 ∷ [])) same ∙ times_same 0 [], inl same)
    | inr apart ↦ inr (times_other f 0 [] (λ e. apart (sym e)), go apart)
  ] where
    go : {f : ℕ} → (f ≡ 0 → ⊥) → IsToShare t p 0 f → ⊥
    go apart (inl code) = apart code
    go apart (inr page) = let none = page.2 in omega (arith, none)

  module _ (from : ℕ) (L : List ℕ) (going : AreToShare t p from L) (a : SettledPage) (next : IsNextSettled t p from (trapframe_page p.scheme) (Some a)) where
    abbrev s : Page
    s = (next.3).page

    not_listed : times (a.frame).0 L ≡ 0
    not_listed = elim (going (a.frame).0) [
      | inl there ↦ absurd (not_going a.page (a.frame).0 from s (next.3).settled next.0 (next.3).on there.1)
      | inr none ↦ none.0
    ]

    -- a page that is gone through from one bound to the next is this one
    still : (f : ℕ) → (f ≡ (a.frame).0 → ⊥) → (IsToShare t p from f → ⊥) → IsToShare t p (a.page + 1) f → ⊥
    still f apart none (inl code) = none (inl code)
    still f apart none (inr page) = elim (cases_lt page.0 from) [
      | inl below ↦ none (inr (page.0, page.1, below, page.3, page.4))
      | inr above ↦ elim (cases_lt page.0 a.page) [
        | inl between ↦ (let gone = next.2 page.0 (omega (arith, above)) between in let there = page.3 in cc)
        | inr last ↦ (
            let low = page.2 in
            let same : page.0 ≡ a.page = omega (arith, last, low) in
            let on = (next.3).on in
            let other = page.4 in
            let word = same_Some on.0 other.0 (sym on.1 ∙ ap (λ n. get t.leaves (leaf_node n)) (sym same) ∙ other.1) in
            let named : ppn_of f ≡ ppn_of (a.frame).0 = sym other.2 ∙ ap ppn (sym word) ∙ on.2 in
            apart (omega (arith, named)))
      ]
    ]

    more : (f : ℕ) → IsToShare t p from f → IsToShare t p (a.page + 1) f
    more f (inl code) = inl code
    more f (inr page) = inr (page.0, page.1, (let below = page.2 in let up = next.0 in omega (arith, below, up)), page.3, page.4)

    pub going_more : AreToShare t p (a.page + 1) (L ++ (a.frame).0 ∷ [])
    going_more f = elim (cases_eq f (a.frame).0) [
      | inl same ↦ inl (
        (let none = not_listed in let last = times_last_same (a.frame).0 L in ap (λ k. times k (L ++ (a.frame).0 ∷ [])) same ∙ omega (arith, none, last)),
        inr (a.page, s, (let up = next.0 in omega arith), (next.3).settled, subst (IsFrameOfPage t a.page) (sym same) (next.3).on),
      )
      | inr apart ↦ (let rest = times_last_other f (a.frame).0 L (λ e. apart (sym e)) in elim (going f) [
        | inl there ↦ inl (rest ∙ there.0, more f there.1)
        | inr none ↦ inr (rest ∙ none.0, still f apart none.1)
      ])
    ]

  -- there is room for one more
  pub going_few : (bound : ℕ) (L : List ℕ) → AreToShare t p bound L → ((f : ℕ) → IsHeld x.view f → f < 1024) → length L ≤ 1024
  going_few bound L going within = few 1024 L
      (λ f. elim (going f) [ inl there ↦ (let one = there.0 in omega (arith, one)) | inr none ↦ (let zero_ = none.0 in omega (arith, zero_)) ])
      (λ f some. elim (going f) [ inl there ↦ within f (going_held bound f there.1) | inr none ↦ absurd (let zero_ = none.0 in omega (arith, zero_, some)) ])

  -- no page is left
  pub going_all : (from : ℕ) (L : List ℕ) → AreToShare t p from L → IsNextSettled t p from (trapframe_page p.scheme) None → AreToShare t p (trapframe_page p.scheme) L
  going_all from L going none f = elim (going f) [
    | inl there ↦ inl (
      there.0,
      elim there.1 [
        | inl code ↦ inl code
        | inr page ↦ inr (page.0, page.1, shows.low page.0 page.1 page.3, page.3, page.4)
      ],
    )
    | inr left ↦ inr (
      left.0,
      λ is. left.1 (elim is [
        | inl code ↦ inl code
        | inr page ↦ inr (page.0, page.1, below page.0 page.1 page.2 page.3, page.3, page.4)
      ]),
    )
  ] where
    below : (n : ℕ) (s : Page) → n < (trapframe_page p.scheme) → pages.get p.settled n ≡ Some s → n < from
    below n s low there = elim (cases_lt n from) [ inl less ↦ less | inr late ↦ absurd (let gone = none n late low in cc) ]

  -- the settled pages, one after another
  going_on : (from : ℕ) (L : List ℕ) (list : List SettledPage) → AreToShare t p from L → AreSettled t p from (trapframe_page p.scheme) list → AreToShare t p (trapframe_page p.scheme) (L ++ frames_of list)
  going_on from L [] going none = subst (AreToShare t p (trapframe_page p.scheme)) (sym (append-nil L)) (going_all from L going none)
  going_on from L (a ∷ list) going next =
      subst (AreToShare t p (trapframe_page p.scheme)) (append_assoc L ((a.frame).0 ∷ []) (frames_of list))
      (going_on (a.page + 1) (L ++ (a.frame).0 ∷ []) list (going_more from L going a next.0) next.1)

  pub going_settled : (list : List SettledPage) → AreSettled t p 0 (trapframe_page p.scheme) list → AreToShare t p (trapframe_page p.scheme) (0 ∷ frames_of list)
  going_settled list settled = going_on 0 (0 ∷ []) list going_none settled
