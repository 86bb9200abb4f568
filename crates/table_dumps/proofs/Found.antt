-- Lemmas: the list of the page table entries of a table and of those below it (`listed`) has exactly the valid ones that walks read there, in order
-- (`HasAll`).
use Rattle.std.proofs.Common.{◌≡◌, inl, inr, ℕ, zero, suc, ◌+◌, ◌-◌, ◌*◌, ◌/◌, ◌%◌, ◌^◌, ◌<◌, ◌≤◌, refl, ap, sym, subst, ◌∙◌, arith, Option, None, Some, List, [], ◌∷◌, ◌++◌, All, AllPairs, Contains}
use Rattle.std.proofs.Math.Nat.{zero-mod}
use Rattle.std.proofs.lemmas.Bool.{cases_eq, cases_lt}
use Rattle.std.proofs.lemmas.List.Elements.{All-append, All-cons, All-head, All-nil, All-tail, All-weaker, Contains-append_left, Contains-append_right}
use Rattle.std.proofs.lemmas.List.Kept.{AllPairs-cons}
use Rattle.std.proofs.lemmas.Option.{same_Some}
use Rattle.sv39_entry.specs.Address.{vpn}
use Rattle.sv39_entry.specs.Word.{ppn}
use Rattle.sv39_entry.specs.declared.entry.Kind.{Kind}
use Rattle.sv39_entry.specs.declared.entry.Kind.TheVariants.{Invalid, Leaf, Pointer}
use Rattle.walk_rules.specs.Kinds.{kind_in}
use Rattle.walk_rules.specs.declared.extensions.Extensions.{Extensions}
use Rattle.access_history.specs.History.{Memory}
use Rattle.access_history.specs.Walks.{IsWay}
use Rattle.table_dumps.specs.Below.{by_kind, by_word, in_turn, listed, listed_at}
use Rattle.table_dumps.specs.Listings.{entry_read, IsBefore, IsListing, IsValid, IsValidEntry, page_limit, Reads}
use Rattle.table_dumps.specs.declared.listing.ValidEntry.{ValidEntry}
use Rattle.table_dumps.proofs.Listed.{all_of_none, all_of_table, next_one, none_yet}
use Rattle.table_dumps.proofs.Pages.{even_from, first_is, index_inside, index_is, one_up, power_next, power_some, same_table_pages, vpn_is}
use Rattle.table_dumps.proofs.Ways.{down, Ends, goes_on, same_table}

-- ---- pairs of a list

module _ {X : Type 0} (R : X → X → Type 0) where
  pub later : (x : X) (xs : List X) → AllPairs R (x ∷ xs) → All (R x) xs
  later x xs pairs = λ k d low. pairs 0 (suc k) d (omega arith) (omega (arith, low))

  pub rest : (x : X) (xs : List X) → AllPairs R (x ∷ xs) → AllPairs R xs
  rest x xs pairs = λ i j d less low. pairs (suc i) (suc j) d (omega (arith, less)) (omega (arith, low))

  no_pairs : AllPairs R []
  no_pairs = λ i j d less low. absurd (omega (arith, low))

  pairs_both : (P Q : X → Type 0) → ((x y : X) → P x → Q y → R x y) → (xs ys : List X) → All P xs → All Q ys → AllPairs R xs → AllPairs R ys → AllPairs R (xs ++ ys)
  pairs_both P Q cross [] ys p q first second = second
  pairs_both P Q cross (x ∷ xs) ys p q first second =
      AllPairs-cons R x (xs ++ ys) (All-append (R x) xs ys (later x xs first) (All-weaker Q (R x) (λ y here. cross x y (All-head P x xs p) here) ys q))
      (pairs_both P Q cross xs ys (All-tail P x xs p) q (rest x xs first) second)

pub contains_head : {X : Type 0} (x : X) (xs : List X) → Contains (x ∷ xs) x
contains_head x xs = (0, omega arith, refl)

pub contains_tail : {X : Type 0} (x y : X) (xs : List X) → Contains xs y → Contains (x ∷ xs) y
contains_tail x y xs has = Contains-append_right (x ∷ []) xs y has

-- an entry of the pages from one on up to another, below a level
pub record IsWithin (from to n : ℕ) (e : ValidEntry) : Type 0 where
  pub after : from ≤ e.page
  pub before : e.page < to
  pub ends : e.page + 512 ^ e.level ≤ to
  pub level : e.level < n

-- what a leaf maps ends before what comes later
abbrev pub IsApart : Extensions → ValidEntry → ValidEntry → Type 0
IsApart x d e = kind_in x d.level d.word ≡ Leaf → d.page + 512 ^ d.level ≤ e.page

module _ (x : Extensions) (m : Memory) (root top : ℕ) where
  -- pages with the same indices so far have the same tables
  same_way : (p q k t : ℕ) → k ≤ suc top → p / 512 ^ (suc top - k) ≡ q / 512 ^ (suc top - k) → IsWay x m root p top k t → IsWay x m root q top k t
  same_way p q zero t low same at = at
  same_way p q (suc k) t low same at =
      let j = top - k in
      let less : suc top - suc k ≡ j = omega arith in
      let more : suc top - k ≡ suc j = omega (arith, low) in
      let here : p / 512 ^ j ≡ q / 512 ^ j = rw less at same in
      let up : p / 512 ^ suc j ≡ q / 512 ^ suc j = one_up p j ∙ ap (λ x. x / 512) here ∙ sym (one_up q j) in
      let index : vpn p j ≡ vpn q j = vpn_is p j ∙ ap (λ x. x % 512) here ∙ sym (vpn_is q j) in
      (at.0, at.1, same_way p q k at.0 (omega (arith, low)) (rw more up) at.2, rw (← index) at.3, at.4, at.5)

  -- a table, and those below it: its number of levels, and its first page
  pub record IsTableOf (n first table : ℕ) : Type 0 where
    pub low : n ≤ suc top
    pub way : IsWay x m root first top (suc top - n) table
    pub even : first % 512 ^ n ≡ 0
    pub within : first + 512 ^ n ≤ page_limit top

  -- the list has the valid entries of the pages from one on up to another, below a level, in order
  pub record HasAll (from to n : ℕ) (es : List ValidEntry) : Type 0 where
    pub each : All (IsValidEntry x m root top) es
    pub inside : All (IsWithin from to n) es
    pub all : (page level word : ℕ) → from ≤ page → page < to → level < n → (r : Reads x m root top page level word) → IsValid x level word → Contains es (entry_read page level r.table word)
    pub order : AllPairs IsBefore es
    pub apart : AllPairs (IsApart x) es

  has_none : (from to n : ℕ) → ((page level word : ℕ) → from ≤ page → page < to → level < n → Reads x m root top page level word → IsValid x level word → ⊥) → HasAll from to n []
  has_none from to n not = record {
    each = All-nil (IsValidEntry x m root top);
    inside = All-nil (IsWithin from to n);
    all = λ page level word after before low r valid. absurd (not page level word after before low r valid);
    order = no_pairs IsBefore;
    apart = no_pairs (IsApart x);
  }

  has_both : (from mid to n : ℕ) (xs ys : List ValidEntry) → from ≤ mid → mid ≤ to → HasAll from mid n xs → HasAll mid to n ys → HasAll from to n (xs ++ ys)
  has_both from mid to n xs ys up on first second = record {
    each = All-append (IsValidEntry x m root top) xs ys first.each second.each;
    inside = All-append (IsWithin from to n) xs ys (All-weaker (IsWithin from mid n) (IsWithin from to n) (λ e h. record { after = h.after; before = omega (arith, h.before, on); ends = omega (arith, h.ends, on); level = h.level }) xs first.inside)
        (All-weaker (IsWithin mid to n) (IsWithin from to n) (λ e h. record { after = omega (arith, h.after, up); before = h.before; ends = h.ends; level = h.level }) ys second.inside);
    all = λ page level word after before low r valid.
        elim (cases_lt page mid) as (λ _. Contains (xs ++ ys) (entry_read page level r.table word)) [
          | inl less ↦ Contains-append_left xs ys _ (first.all page level word after less low r valid)
          | inr more ↦ Contains-append_right xs ys _ (second.all page level word more before low r valid)
        ];
    order = pairs_both IsBefore (IsWithin from mid n) (IsWithin mid to n) (λ d e p q. inl (omega (arith, p.before, q.after))) xs ys first.inside second.inside first.order second.order;
    apart = pairs_both (IsApart x) (IsWithin from mid n) (IsWithin mid to n) (λ d e p q leaf. omega (arith, p.ends, q.after)) xs ys first.inside second.inside first.apart second.apart;
  }

  has_in_turn : (f : ℕ → List ValidEntry) (first width n : ℕ) → ((i : ℕ) → i < 512 → HasAll (first + i * width) (first + i * width + width) n (f i))
      → (k : ℕ) → k ≤ 512 → HasAll first (first + k * width) n (in_turn f k)
  has_in_turn f first width n each zero low = rw (none_yet f) (has_none first (first + 0 * width) n (λ page level word after before less r valid. omega (arith, after, before)))
  has_in_turn f first width n each (suc k) low =
      let next : first + suc k * width ≡ first + k * width + width = omega arith in
      rw (next_one f, next) (has_both first (first + k * width) (first + k * width + width) n (in_turn f k) (f k) (omega arith) (omega arith) (has_in_turn f first width n each k (omega (arith, low))) (each k (omega (arith, low))))

  -- one index of a table
  module _ (level first table i : ℕ) (here : IsTableOf (suc level) first table) (low : i < 512) where
    width_some : 0 < 512 ^ level
    width_some = let some = power_some level in omega (arith, some)

    way_at : (page : ℕ) → first + i * 512 ^ level ≤ page → page < first + i * 512 ^ level + 512 ^ level → IsWay x m root page top (top - level) table
    way_at page after before =
        let less : suc top - suc level ≡ top - level = omega arith in
        let back : suc top - (top - level) ≡ suc level = omega (arith, here.low) in
        let same = same_table_pages first level i here.even low page after before in
        same_way first page (top - level) table (omega arith) (rw back same) (rw less at here.way)

    -- what a walk reads at this level
    read_at : (page word : ℕ) → first + i * 512 ^ level ≤ page → page < first + i * 512 ^ level + 512 ^ level → (r : Reads x m root top page level word) → (table ≡ r.table) × (m table i ≡ Some word)
    read_at page word after before r =
        let same = same_table x m root top page (top - level) table r.table (way_at page after before) r.way in
        let index = index_is first level i here.even low page after before in
        (same, ap (λ t. m t i) same ∙ ap (m r.table) (sym index) ∙ r.read)

    -- a walk reads nothing below a word that ends it
    ends_at : Ends x level (m table i) → (page lower word : ℕ) → first + i * 512 ^ level ≤ page → page < first + i * 512 ^ level + 512 ^ level → lower < level → Reads x m root top page lower word → ⊥
    ends_at ends page lower word after before less r =
        let back : top - (top - level) ≡ level = omega (arith, here.low) in
        let index : vpn page (top - (top - level)) ≡ i = ap (vpn page) back ∙ index_is first level i here.even low page after before in
        goes_on x m root top page (top - lower) (top - level) table r.table (m table i) r.way (way_at page after before) (omega (arith, less, here.low)) (ap (m table) index) (subst (λ l. Ends x l (m table i)) (sym back) ends)

    limit_at : first + i * 512 ^ level + 512 ^ level ≤ page_limit top
    limit_at =
        let row = index_inside i (512 ^ level) low in
        let next = power_next level in
        let within = here.within in
        omega (arith, row, next, within)

    valid_at : (word : ℕ) → m table i ≡ Some word → IsValid x level word → IsValidEntry x m root top (record { level = level; table = table; index = i; page = first + i * 512 ^ level; word = word })
    valid_at word read valid =
        let some = width_some in
        let limit = limit_at in
        record {
          low = omega (arith, here.low);
          way = way_at (first + i * 512 ^ level) (omega arith) (omega (arith, some));
          index = sym (index_is first level i here.even low (first + i * 512 ^ level) (omega arith) (omega (arith, some)));
          read = read;
          valid = valid;
          first = even_from first level i here.even low;
          within = omega (arith, some, limit);
        }

    -- the table that a pointer leads to
    table_at : (word : ℕ) → m table i ≡ Some word → kind_in x level word ≡ Pointer → IsTableOf level (first + i * 512 ^ level) (ppn word)
    table_at word read kind =
        let some = width_some in
        let valid = valid_at word read (λ invalid. absurd cc) in
        let reads : Reads x m root top (first + i * 512 ^ level) level word = record { low = valid.low; table = table; way = valid.way; read = ap (m table) (sym valid.index) ∙ read } in
        record {
          low = omega (arith, here.low);
          way = down x m root top (first + i * 512 ^ level) level word reads kind;
          even = even_from first level i here.even low;
          within = limit_at;
        }

    abbrev entry_at : ℕ → ValidEntry
    entry_at word = record { level = level; table = table; index = i; page = first + i * 512 ^ level; word = word }

    -- a walk of one of these pages reads this entry
    same_entry : (page found word : ℕ) → first + i * 512 ^ level ≤ page → page < first + i * 512 ^ level + 512 ^ level → (r : Reads x m root top page level found) → m table i ≡ Some word
        → entry_at word ≡ entry_read page level r.table found
    same_entry page found word after before r read =
        let at = read_at page found after before r in
        let words : word ≡ found = same_Some word found (sym read ∙ at.1) in
        let index = index_is first level i here.even low page after before in
        let pages = first_is first level i here.even low page after before in
        λ j. record { level = level; table = at.0 j; index = sym index j; page = sym pages j; word = words j }

    this_one : (word : ℕ) (below : List ValidEntry) (page lower found : ℕ) → lower ≡ level → first + i * 512 ^ level ≤ page → page < first + i * 512 ^ level + 512 ^ level
        → (r : Reads x m root top page lower found) → m table i ≡ Some word → Contains (entry_at word ∷ below) (entry_read page lower r.table found)
    this_one word below page lower found same after before r read =
        subst (λ (l : ℕ). (y : Reads x m root top page l found) → Contains (entry_at word ∷ below) (entry_read page l y.table found)) (sym same)
        (λ y. subst (λ (e : ValidEntry). Contains (entry_at word ∷ below) e) (same_entry page found word after before y read) (contains_head (entry_at word) below)) r

    -- the entry of a word that is valid, before those below it
    has_more : (word : ℕ) (below : List ValidEntry) → m table i ≡ Some word → IsValid x level word → HasAll (first + i * 512 ^ level) (first + i * 512 ^ level + 512 ^ level) level below
        → All (IsApart x (entry_at word)) below
        → HasAll (first + i * 512 ^ level) (first + i * 512 ^ level + 512 ^ level) (suc level) (record { level = level; table = table; index = i; page = first + i * 512 ^ level; word = word } ∷ below)
    has_more word below read valid has far =
        let from = first + i * 512 ^ level in
        let to = first + i * 512 ^ level + 512 ^ level in
        let e : ValidEntry = record { level = level; table = table; index = i; page = from; word = word } in
        let some = width_some in
        record {
          each = All-cons (IsValidEntry x m root top) e below (valid_at word read valid) has.each;
          inside = All-cons (IsWithin from to (suc level)) e below (record { after = omega arith; before = omega (arith, some); ends = omega arith; level = omega arith })
              (All-weaker (IsWithin from to level) (IsWithin from to (suc level)) (λ d h. record { after = h.after; before = h.before; ends = h.ends; level = omega (arith, h.level) }) below has.inside);
          all = λ page lower found after before less r ok.
              elim (cases_eq lower level) as (λ _. Contains (e ∷ below) (entry_read page lower r.table found)) [
                | inl same ↦ this_one word below page lower found same after before r read
                | inr other ↦ contains_tail e _ below (has.all page lower found after before (omega (arith, less, other)) r ok)
              ];
          order = AllPairs-cons IsBefore e below (All-weaker (IsWithin from to level) (IsBefore e) (λ d h. before_below d h) below has.inside) has.order;
          apart = AllPairs-cons (IsApart x) e below far has.apart;
        }
      where
        before_below : (d : ValidEntry) → IsWithin (first + i * 512 ^ level) (first + i * 512 ^ level + 512 ^ level) level d
            → IsBefore (record { level = level; table = table; index = i; page = first + i * 512 ^ level; word = word }) d
        before_below d h = elim (cases_eq (first + i * 512 ^ level) d.page) as (λ _. IsBefore (record { level = level; table = table; index = i; page = first + i * 512 ^ level; word = word }) d) [
          | inl same ↦ inr (same, h.level)
          | inr other ↦ inl (omega (arith, other, h.after))
        ]

    -- a word that is not valid is no entry, and has none below it
    has_nothing : ((word : ℕ) → m table i ≡ Some word → IsValid x level word → ⊥) → HasAll (first + i * 512 ^ level) (first + i * 512 ^ level + 512 ^ level) (suc level) []
    has_nothing not = has_none (first + i * 512 ^ level) (first + i * 512 ^ level + 512 ^ level) (suc level) (λ page lower found after before less r ok.
        elim (cases_eq lower level) as (λ _. ⊥) [
          | inl same ↦ not found (read_at page found after before (subst (λ (l : ℕ). Reads x m root top page l found) same r)).1 (subst (λ (l : ℕ). IsValid x l found) same ok)
          | inr other ↦ ends_at (λ w is pointer. not w is (λ invalid. absurd cc)) page lower found after before (omega (arith, less, other)) r
        ])

    -- the entries of this index, by its word
    has_kind : (word : ℕ) → m table i ≡ Some word → (k : Kind) → kind_in x level word ≡ k
        → (IsTableOf level (first + i * 512 ^ level) (ppn word) → HasAll (first + i * 512 ^ level) (first + i * 512 ^ level + 512 ^ level) level (listed x m level (first + i * 512 ^ level) (ppn word)))
        → HasAll (first + i * 512 ^ level) (first + i * 512 ^ level + 512 ^ level) (suc level) (by_kind k (entry_at word) (listed x m level (first + i * 512 ^ level) (ppn word)))
    has_kind word read Invalid kind below = has_nothing (λ w is ok. ok (ap (kind_in x level) (same_Some w word (sym is ∙ read)) ∙ kind))
    has_kind word read Leaf kind below =
        has_more word [] read (λ invalid. absurd cc)
        (has_none (first + i * 512 ^ level) (first + i * 512 ^ level + 512 ^ level) level (λ page lower found after before less r ok.
        ends_at (λ w is pointer. (let other : Leaf ≡ Pointer = sym kind ∙ ap (kind_in x level) (same_Some word w (sym read ∙ is)) ∙ pointer in absurd cc)) page lower found after before less r))
        (All-nil (IsApart x (entry_at word)))
    has_kind word read Pointer kind below =
        let from = first + i * 512 ^ level in
        let has = below (table_at word read kind) in
        has_more word (listed x m level from (ppn word)) read (λ invalid. absurd cc) has
        (All-weaker (IsWithin from (from + 512 ^ level) level) (IsApart x (entry_at word)) (λ d h leaf. (let other : Leaf ≡ Pointer = sym leaf ∙ kind in absurd cc)) (listed x m level from (ppn word)) has.inside)

    has_word : (o : Option ℕ) → m table i ≡ o
        → ((word : ℕ) → IsTableOf level (first + i * 512 ^ level) (ppn word) → HasAll (first + i * 512 ^ level) (first + i * 512 ^ level + 512 ^ level) level (listed x m level (first + i * 512 ^ level) (ppn word)))
        → HasAll (first + i * 512 ^ level) (first + i * 512 ^ level + 512 ^ level) (suc level) (by_word x (listed x m level (first + i * 512 ^ level)) level table i (first + i * 512 ^ level) o)
    has_word None is below = has_nothing (λ w read ok. absurd cc)
    has_word (Some word) is below = has_kind word is (kind_in x level word) refl (below word)

  has_listed : (n first table : ℕ) → IsTableOf n first table → HasAll first (first + 512 ^ n) n (listed x m n first table)
  has_listed zero first table here = rw all_of_none (has_none first (first + 512 ^ 0) 0 (λ page level word after before less r ok. absurd (omega (arith, less))))
  has_listed (suc n) first table here =
      let next = power_next n in
      rw (all_of_table, next) (has_in_turn (listed_at x m n first table) first (512 ^ n) (suc n)
      (λ i low. has_word n first table i here low (m table i) refl (λ word below. has_listed n (first + i * 512 ^ n) (ppn word) below))
      512 (omega arith))

  the_root : IsTableOf (suc top) 0 root
  the_root =
      let none : suc top - suc top ≡ 0 = omega arith in
      record {
        low = omega arith;
        way = rw none refl;
        even = zero-mod (512 ^ suc top);
        within = omega arith;
      }

  pub has_all : HasAll 0 (page_limit top) (suc top) (listed x m (suc top) 0 root)
  has_all =
      let end : 0 + 512 ^ suc top ≡ page_limit top = omega arith in
      subst (λ n. HasAll 0 n (suc top) (listed x m (suc top) 0 root)) end (has_listed (suc top) 0 root the_root)

  pub is_listing : IsListing x m root top (listed x m (suc top) 0 root)
  is_listing =
      let has = has_all in
      record {
        each = has.each;
        all = λ page level word low r valid. (let top = r.low in has.all page level word (omega arith) (omega (arith, low)) (omega (arith, top)) r valid);
        order = has.order;
      }
