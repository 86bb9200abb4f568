-- Lemmas for `list_tables`: the first page from a number on that has a leaf; the numbers of the tables of a level; one more
-- table listed, a level done, and at the end all tables, each once (`all_listed`); and that the list has room.
use Rattle.std.proofs.Common.{◌≡◌, ℕ, zero, suc, ◌+◌, ◌-◌, ◌*◌, ◌/◌, ◌^◌, ◌<◌, ◌≤◌, inl, inr, refl, ap, sym, ◌∙◌, arith, length, List, [], ◌∷◌, ◌++◌, map, Some, None}
use Rattle.std.specs.FinMap.{get}
use Rattle.std.specs.Prelude.{◌==◌, if◌then◌else◌}
use Rattle.std.proofs.lemmas.Bool.{cases_eq, cases_lt, eq-eqb, ne_eqb}
use Rattle.std.proofs.lemmas.List.{length-append}
use Rattle.std.proofs.lemmas.Nat.{le-div}
use Rattle.std.proofs.lemmas.Option.{same_Some}
use Rattle.std.proofs.Math.Nat.{le-div_iff_mul-le}
use Rattle.frame_store.specs.View.{IsHeld, View}
use Rattle.process_model.proofs.ValueSets.{div_up}
use Rattle.sv39_entry.specs.declared.frame.FrameNo.{FrameNo}
use Rattle.table_walk.specs.TableChanges.{IsNextLeafBefore, places}
use Rattle.table_walk.specs.Nodes.{above, above_root, low_leaf, node_below, node_from, not_root, power_next, power_some, power_up, root_power, in_level, node_at}
use Rattle.table_walk.specs.Tables.{HasTables, leaf_node, node, Tables, root_node}
use Rattle.sv39_entry.specs.Schemes.{of_scheme, page_limit, top_level, trampoline_page, trapframe_page}
use Rattle.sv39_entry.specs.declared.scheme.Scheme.{Scheme}
use Rattle.sv39_entry.specs.declared.scheme.Scheme.TheVariants.{Sv39, Sv48}
use Rattle.cow_fork.specs.Occurrences.{times}
use Rattle.cow_fork.specs.TableList.{CanList, IsEdged, IsFirstPage, IsLed, IsListing, ListsTables}
use Rattle.cow_fork.proofs.Pigeons.{few}

-- ---- the first page that has a leaf

leaf_place : (z : Scheme) (n : ℕ) → leaf_node n ≡ root_node z * places (top_level z) + n
leaf_place z n = let all = root_power z in omega (arith, all)

all_places : (z : Scheme) → places (top_level z) ≡ page_limit z
all_places Sv39 = refl
all_places Sv48 = refl

pub no_page : (z : Scheme) (t : Tables) (from end : ℕ) → IsNextLeafBefore z t from (trampoline_page z + 1) None → IsEdged z t end → IsFirstPage z t from None
no_page z t from end bare edged n late low = elim (cases_lt (trampoline_page z) n) [
  | inl above ↦ edged.above n above low
  | inr below ↦ ap (get t.leaves) (leaf_place z n) ∙ bare n late (omega (arith, below))
]

pub page_before : (z : Scheme) (t : Tables) (from end page w : ℕ) → IsNextLeafBefore z t from end (Some (page, w)) → IsFirstPage z t from (Some page)
page_before z t from end page w found =
    let next = found.1 in (
      next.0,
      (let low = next.1 in omega (arith, low, all_places z)),
      (w, ap (get t.leaves) (leaf_place z page) ∙ next.2),
      λ n late before. ap (get t.leaves) (leaf_place z n) ∙ next.3 n late before,
    )

pub page_at_edge : (z : Scheme) (t : Tables) (from end : ℕ) → IsNextLeafBefore z t from end None → IsEdged z t end → from ≤ trapframe_page z
    → IsFirstPage z t from (Some (trapframe_page z))
page_at_edge z t from end bare edged late = (
  late,
  omega (arith, of_scheme z),
  edged.there,
  λ n after before. elim (cases_lt n end) [
    | inl less ↦ ap (get t.leaves) (leaf_place z n) ∙ bare n after less
    | inr more ↦ edged.bare n (omega (arith, more)) before
  ],
)

-- ---- numbers of tables

few_at : (z : Scheme) (n d : ℕ) → d ≤ top_level z → n ≤ 512 ^ d → n * places (top_level z - d) ≤ page_limit z
few_at Sv39 n zero deep low = omega (arith, low)
few_at Sv39 n (suc zero) deep low = omega (arith, low)
few_at Sv39 n (suc (suc zero)) deep low = omega (arith, low)
few_at Sv39 n (suc (suc (suc d))) deep low = absurd (omega (arith, deep))
few_at Sv48 n zero deep low = omega (arith, low)
few_at Sv48 n (suc zero) deep low = omega (arith, low)
few_at Sv48 n (suc (suc zero)) deep low = omega (arith, low)
few_at Sv48 n (suc (suc (suc zero))) deep low = omega (arith, low)
few_at Sv48 n (suc (suc (suc (suc d)))) deep low = absurd (omega (arith, deep))

-- the numbers of the next level
next_level : (z : Scheme) (d : ℕ) → 512 ^ (above_root z + suc d) ≡ 512 * 512 ^ (above_root z + d)
next_level z d = let more : above_root z + suc d ≡ suc (above_root z + d) = omega arith in rw more (power_next (above_root z + d))

-- a level has no more tables than numbers
level_room : (z : Scheme) (d : ℕ) → 512 ^ d ≤ 512 ^ (above_root z + d)
level_room z d = power_up d (above_root z + d) (omega arith)

-- the numbers of a level belong to its tables alone
same_depth : (z : Scheme) (k n e d : ℕ) → k ≡ node z n e → 512 ^ (above_root z + d) ≤ k → k < 512 ^ (above_root z + suc d) → e ≡ d
same_depth z k n e d is from to = elim (cases_lt e d) [
  | inl less ↦ absurd (
      let far = power_up (above_root z + suc e) (above_root z + d) (omega (arith, less)) in
      let next = next_level z e in
      let high = node_below z n e in
      let some = power_some (above_root z + e) in
      omega (arith, far, next, high, some, is, from))
  | inr more ↦ elim (cases_eq e d) [
    | inl same ↦ same
    | inr apart ↦ absurd (
        let far = power_up (above_root z + suc d) (above_root z + e) (omega (arith, more, apart)) in
        let low = node_from z n e in
        omega (arith, far, low, is, to))
  ]
]

-- ---- lists that get one more

times_push : (f g : ℕ) (L : List ℕ) → times f (L ++ g ∷ []) ≡ times f L + (if g == f then 1 else 0)
times_push f g [] = omega arith
times_push f g (x ∷ L) = let rest = times_push f g L in omega (arith, rest)

push_same : (f : ℕ) (L : List ℕ) → times f (L ++ f ∷ []) ≡ times f L + 1
push_same f L = rw (eq-eqb f f refl) at (times_push f f L)

push_other : (f g : ℕ) (L : List ℕ) → (f ≡ g → ⊥) → times f (L ++ g ∷ []) ≡ times f L
push_other f g L apart = let more = rw (ne_eqb g f (λ e. apart (sym e))) at (times_push f g L) in omega (arith, more)

pub map_push : (xs : List FrameNo) (x : FrameNo) → map (λ (f : FrameNo). f.0) (xs ++ x ∷ []) ≡ map (λ (f : FrameNo). f.0) xs ++ x.0 ∷ []
map_push [] x = refl
map_push (y ∷ xs) x = ap (λ (ns : List ℕ). y.0 ∷ ns) (map_push xs x)

pub length_numbers : (xs : List FrameNo) → length (map (λ (f : FrameNo). f.0) xs) ≡ length xs
length_numbers [] = refl
length_numbers (x ∷ xs) = ap suc (length_numbers xs)

-- ---- tables above a table

module _ (z : Scheme) (v : View) (root : ℕ) (t : Tables) (h : HasTables z v root t) (page : ℕ) where
  parent_there : (k f : ℕ) → get t.tables (node z page (suc k)) ≡ Some f → (g : ℕ) × (get t.tables (node z page k) ≡ Some g)
  parent_there k f at = elim (h.known.hung _ f at) [
    | inl is ↦ absurd (not_root z page k is)
    | inr p ↦ (p.0, rw (above z page k) at p.1)
  ]

  there_from : (j e f : ℕ) → get t.tables (node z page (e + j)) ≡ Some f → (g : ℕ) × (get t.tables (node z page e) ≡ Some g)
  there_from zero e f at = let same : e + 0 ≡ e = omega arith in (f, rw same at at)
  there_from (suc j) e f at =
      let more : e + suc j ≡ suc (e + j) = omega arith in
      let p = parent_there (e + j) f (rw more at at) in
      there_from j e p.0 p.1

  -- those on the way to a leaf are all there
  pub way_there : (d w : ℕ) → d ≤ top_level z → page < page_limit z → get t.leaves (leaf_node page) ≡ Some w → (g : ℕ) × (get t.tables (node z page d) ≡ Some g)
  way_there d w deep low leaf =
      let hung = (h.known.leaf_hung _ w (ap (get t.leaves) (low_leaf z page low) ∙ leaf)).2 in
      let whole : d + (top_level z - d) ≡ top_level z = omega (arith, deep) in
      there_from (top_level z - d) d hung.0 (rw whole (rw (above z page (top_level z)) at hung.1))

-- ---- the tables of a level, from one on

module _ (z : Scheme) (v : View) (root : ℕ) (t : Tables) (L M : List ℕ) (d pages table : ℕ) (deep : d ≤ top_level z) (size : pages ≡ places (top_level z - d))
    (s : IsListing z v root t (512 ^ (above_root z + d) + table) L M) where
  pub some : 0 < pages
  some = let more = power_some (suc (top_level z - d)) in omega (arith, more, size)

  number_at : (n : ℕ) → n < page_limit z → node z n d ≡ 512 ^ (above_root z + d) + n / pages
  number_at n low = rw size (node_at z n d deep low)

  -- one that is not listed yet is on the way to a leaf at or behind it
  late : (k f : ℕ) → get t.tables k ≡ Some f → 512 ^ (above_root z + d) + table ≤ k → k < 512 ^ (above_root z + suc d)
      → (n w : ℕ) × (n < page_limit z) × (table * pages ≤ n) × (k ≡ 512 ^ (above_root z + d) + n / pages) × (get t.leaves (leaf_node n) ≡ Some w)
  late k f at from to =
      let l = s.led k f at in
      let depth = same_depth z k l.0 l.1 d l.5 (omega (arith, from)) to in
      let number : k ≡ 512 ^ (above_root z + d) + l.0 / pages = l.5 ∙ ap (node z l.0) depth ∙ number_at l.0 l.4 in
      (l.0, l.2, l.4, (le-div_iff_mul-le some).0 (omega (arith, number, from)), number, l.6)

  pub level_done : IsFirstPage z t (table * pages) None → table ≤ 512 ^ d → IsListing z v root t (512 ^ (above_root z + suc d)) L M
  level_done none near = record {
    tables = s.tables;
    led = s.led;
    can = s.can;
    listed = λ f. elim (s.listed f) [
      | inl p ↦ inl (p.0, (let next = next_level z d in let room = level_room z d in let low = p.1 in omega (arith, next, room, low, near)), p.2, p.3)
      | inr q ↦ inr (
        (λ k low at. elim (cases_lt k (512 ^ (above_root z + d) + table)) [
          | inl before ↦ q.0 k before at
          | inr after ↦ (let l = late k f at (omega (arith, after)) low in let gone = none l.0 l.3 l.2 in let there = l.5 in cc)
        ]),
        q.1,
      )
    ];
  }

  pub from_low : table ≤ 512 ^ d → table * pages ≤ page_limit z
  from_low near = rw size (few_at z table d deep near)

  -- the next page that has a leaf
  module _ (page : ℕ) (x : IsFirstPage z t (table * pages) (Some page)) where
    number : node z page d ≡ 512 ^ (above_root z + d) + page / pages
    number = number_at page x.1

    pub goes_up : table < page / pages + 1
    goes_up = let up = le-div table page pages some x.0 in omega (arith, up)

    pub still_near : page / pages + 1 ≤ 512 ^ d
    still_near = let low : page / pages < 512 ^ d = rw size (in_level z page d deep x.1) in omega (arith, low)

    pub table_there : (g : ℕ) × (get t.tables (node z page d) ≡ Some g)
    table_there = way_there z v root t s.tables page d x.2.0 deep x.1 x.2.1

    module _ (f : ℕ) (at : get t.tables (node z page d) ≡ Some f) where
      unlisted : times f M ≡ 0
      unlisted = elim (s.listed f) [
        | inl p ↦ absurd (
            let same = s.tables.known.apart p.0 (node z page d) f p.2 at in
            let is = number in
            let up = goes_up in
            let low = p.1 in
            omega (arith, same, is, up, low))
        | inr q ↦ q.1 ∙ s.can.other (node z page d) f at
      ]

      -- between the last that is listed and this one there is none
      only : (k g : ℕ) → get t.tables k ≡ Some g → 512 ^ (above_root z + d) + table ≤ k → k < 512 ^ (above_root z + d) + (page / pages + 1) → g ≡ f
      only k g there from to =
          let next = next_level z d in
          let room = level_room z d in
          let near = still_near in
          let l = late k g there from (omega (arith, next, room, near, to)) in
          let behind : page ≤ l.0 = elim (cases_lt l.0 page) [
            | inl before ↦ absurd (let gone = x.3 l.0 l.3 before in let leaf = l.5 in cc)
            | inr after ↦ omega (arith, after)
          ] in
          let over = div_up pages some page l.0 behind in
          let same : k ≡ node z page d = let here = l.4 in let is = number in omega (arith, here, is, over, to) in
          same_Some g f (sym there ∙ ap (get t.tables) same ∙ at)

      pub one_more : IsListing z v root t (512 ^ (above_root z + d) + (page / pages + 1)) L (M ++ f ∷ [])
      one_more = record {
        tables = s.tables;
        led = s.led;
        can = s.can;
        listed = λ g. elim (cases_eq g f) [
          | inl same ↦ inl (
            node z page d,
            (let is = number in omega (arith, is)),
            rw same at,
            rw same (let none = unlisted in let one = push_same f M in omega (arith, none, one)),
          )
          | inr apart ↦ (let still = push_other g f M apart in elim (s.listed g) [
            | inl p ↦ inl (p.0, (let up = goes_up in let low = p.1 in omega (arith, up, low)), p.2, still ∙ p.3)
            | inr q ↦ inr (
              (λ k low there. elim (cases_lt k (512 ^ (above_root z + d) + table)) [
                | inl before ↦ q.0 k before there
                | inr after ↦ apart (only k g there (omega (arith, after)) low)
              ]),
              still ∙ q.1,
            )
          ])
        ];
      }

      -- the list has room
      module _ (small : (g : ℕ) → IsHeld v g → g < 1024) where
        once : (g : ℕ) → times g (M ++ f ∷ []) ≤ 1
        once g = elim (one_more.listed g) [
          | inl p ↦ (let one = p.3 in omega (arith, one))
          | inr q ↦ (let same = q.1 in let most = s.can.once g in omega (arith, same, most))
        ]

        low : (g : ℕ) → 0 < times g (M ++ f ∷ []) → g < 1024
        low g more = elim (one_more.listed g) [
          | inl p ↦ small g (s.tables.own p.0 g p.2).0
          | inr q ↦ s.can.low g (let same = q.1 in omega (arith, same, more))
        ]

        pub room : length M < 1024
        room = let most = few 1024 (M ++ f ∷ []) once low in let longer = length-append M (f ∷ []) in omega (arith, most, longer)

-- ---- all the levels

module _ (z : Scheme) (v : View) (root : ℕ) (t : Tables) (L : List ℕ) where
  pub none_listed : HasTables z v root t → IsLed z t → CanList t L → IsListing z v root t (512 ^ (above_root z + 0)) L L
  none_listed h led can = record {
    tables = h;
    led = led;
    can = can;
    listed = λ f. inr ((λ k low at. let from = (h.known.below k f at).0 in let first : above_root z + 0 ≡ above_root z = omega arith in let under = rw first at low in omega (arith, from, under)), refl);
  }

  pub all_listed : (M : List ℕ) → IsListing z v root t (512 ^ (above_root z + suc (top_level z))) L M → ListsTables t L M
  all_listed M s f = elim (s.listed f) [
    | inl p ↦ inl (p.0, p.2, p.3)
    | inr q ↦ inr ((λ k at. let all : above_root z + suc (top_level z) ≡ 4 = omega (arith, of_scheme z) in q.0 k (rw all (s.tables.known.below k f at).1) at), q.1)
  ]
