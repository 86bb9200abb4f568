-- Lemmas: what the work of a step inside one process does to its frames. It adds a page table only with a settled page and
-- removes none; each settled page keeps its copy number, which names one copy of a page in memory, or gets a new one
-- (`Reworks`). This holds for a page that is settled or taken over, for a kernel copy, for released pages, and for a fork's
-- parent. Then of processes that begin: all pages of a process of an image are new (`IsAnew`), and a child has its parent's
-- (`child_shares`).
use Rattle.std.proofs.Common.{◌≡◌, ◌⊎◌, ℕ, Bool, true, false, cond, not, ◌&&◌, ◌||◌, ◌+◌, ◌%◌, ◌≤◌, inl, inr, refl, sym, ap, subst, ◌∙◌, arith, List, [], ◌∷◌, Option, None, Some, length, map}
use Rattle.std.specs.Prelude.{fold, is_some, option_map, Result, Ok, Err, zip}
use Rattle.std.specs.Ordering.{eq_by_cmp, nat_cmp}
use Rattle.std.specs.Cmp.{nat_cmp_total}
use Rattle.std.specs.FinMap.Entries.{find, find-put}
use Rattle.std.proofs.lemmas.Bool.{cases_eq, false≢true}
use Rattle.std.proofs.lemmas.Option.{same_Some}
use Rattle.process_laws.proofs.Fresh.{row_of}
use Rattle.process_laws.proofs.Granting.{region_there}
use Rattle.process_laws.proofs.HeldBytes.{none_some}
use Rattle.process_laws.proofs.LookUps.{found_inserted, found_only}
use Rattle.process_laws.specs.FrameNeeds.{has_tables, is_settled, SharesFrames}
use Rattle.process_laws.specs.Pages.{has_cow_mark, has_mark}
use Rattle.process_model.specs.Bytes.{numbers_from}
use Rattle.process_model.specs.Copies.{Copied, copied_in, copied_out, copy_begun, next_in, next_out, one_in, one_out, with_byte_on, reached_in}
use Rattle.process_model.proofs.EachValue.{found_each}
use Rattle.process_model.specs.Environment.{Environment, is_shared_by, Progress, resident_at, resident_at_address, unless_dry, unless_resident}
use Rattle.process_model.specs.Files.{File}
use Rattle.process_model.specs.Heap.{without_pages}
use Rattle.process_model.specs.ImageProcess.{image_pages, numbered, process_of}
use Rattle.process_model.specs.Images.{LoadSegment}
use Rattle.process_model.specs.Insertion.{inserted_here, inserted_other}
use Rattle.process_model.specs.PageMap.{contains, each_value, from_list, get, numbers, PageMap}
use Rattle.process_model.specs.Process.{grants_write, Page, Process, regions}
use Rattle.process_model.specs.Regions.{copy_rule, Region, keeps_stores, lacks_right, region_at}
use Rattle.process_model.specs.Residence.{can_complete, child_of, child_page, initial_page, leaves_mark, made_resident_from, marked, marked_page, region_on, settled_anew, stored, taken_over, taken_over_unless, with_page, is_resident, is_resident_page}
use Rattle.process_model.proofs.ResidenceLaws.{reached_parts, reached_serves}
use Rattle.sv39_entry.specs.Address.{page_of}
use Rattle.sv39_entry.specs.declared.access.Access.{Access}
use Rattle.sv39_entry.specs.declared.access.Access.TheVariants as access
use Rattle.sv39_entry.specs.declared.rule.Rule.{Rule}
use Rattle.sv39_entry.specs.declared.scheme.Scheme.{Scheme}

-- ---- one page

-- page y, which was o before, was settled, or lost its copy-on-write mark
abbrev IsParted : Option Page → Page → Type 0
IsParted o y = (o ≡ None) ⊎ ((x : Page) × (o ≡ Some x) × (x.cow ≡ true) × (y.cow ≡ false))

-- where page y of a process came from, which was o before: its copy number is n or above, and it was settled or lost its
-- copy-on-write mark; or it is that of o, and if the copy-on-write mark went, or bytes changed, nobody shares it
pub data Came (n : ℕ) (shared : ℕ → Bool) (o : Option Page) (y : Page) : Type 0 where
  fresh : n ≤ y.copy → IsParted o y → Came n shared o y
  kept : (x : Page) → o ≡ Some x → y.copy ≡ x.copy → (x.cow ≡ true → (y.cow ≡ true) ⊎ (shared x.copy ≡ false)) → (y.bytes ≡ x.bytes) ⊎ (shared x.copy ≡ false) → Came n shared o y

pub record Reworks (n : ℕ) (shared : ℕ → Bool) (p q : Process) : Type 0 where
  pub tables : (page : ℕ) → has_tables q page ≡ (has_tables p page || (is_settled q page && not (is_settled p page)))
  pub copies : (page : ℕ) (y : Page) → get q.settled page ≡ Some y → Came n shared (get p.settled page) y

-- and no page goes, and no copy-on-write mark comes
pub record Grows (n : ℕ) (shared : ℕ → Bool) (p q : Process) : Type 0 where
  pub reworks : Reworks n shared p q
  pub grows : (page : ℕ) → is_settled p page ≡ true → is_settled q page ≡ true
  pub marks : (page : ℕ) → has_cow_mark q page ≡ true → has_cow_mark p page ≡ true

tables_same : (t b c : Bool) → (b ≡ true → c ≡ true) → t ≡ (t || (b && not c))
tables_same true b c e = refl
tables_same false true true e = refl
tables_same false true false e = absurd (let no = e refl in cc)
tables_same false false c e = refl

two_growths : (t u v a b c : Bool) → u ≡ (t || (b && not a)) → v ≡ (u || (c && not b)) → (a ≡ true → b ≡ true) → (b ≡ true → c ≡ true) → v ≡ (t || (c && not a))
two_growths true true true a b c e f g h = refl
two_growths true true false a b c e f g h = absurd cc
two_growths true false v a b c e f g h = absurd cc
two_growths false u v true true true e f g h = f ∙ ap (λ z. z || false) e
two_growths false u v true true false e f g h = absurd (let no = h refl in cc)
two_growths false u v true false c e f g h = absurd (let no = g refl in cc)
two_growths false u v false true true e f g h = f ∙ ap (λ z. z || false) e
two_growths false u v false true false e f g h = absurd (let no = h refl in cc)
two_growths false u v false false c e f g h = f ∙ ap (λ z. z || (c && true)) e

-- in two steps: no copy-on-write mark comes in either
came_on : (n : ℕ) (shared : ℕ → Bool) (o u : Option Page) (y z : Page) → u ≡ Some y → (y.cow ≡ true → (v : Page) → o ≡ Some v → v.cow ≡ true) → (z.cow ≡ true → y.cow ≡ true) → Came n shared o y → Came n shared u z → Came n shared o z
came_on n shared o u y z there up down f (Came.fresh le (inl none)) = absurd (none_some (sym none ∙ there))
came_on n shared o u y z there up down f (Came.fresh le (inr t)) = Came.fresh le (by o refl)
  where
    by : (a : Option Page) → o ≡ a → IsParted o z
    by None e = inl e
    by (Some v) e = let same : t.0 ≡ y = same_Some t.0 y (sym t.1 ∙ there) in inr (v, e, up (ap (λ (x : Page). x.cow) (sym same) ∙ t.2) v e, t.3)
came_on n shared o u y z there up down (Came.fresh le parted) (Came.kept x is same mark bytes) =
    let at : x ≡ y = same_Some x y (sym is ∙ there) in
    let copy : z.copy ≡ y.copy = same ∙ ap (λ (v : Page). v.copy) at in
    Came.fresh (omega (arith, copy, le)) (elim parted [
      | inl none ↦ inl none
      | inr t ↦ inr (t.0, t.1, t.2, unmarked z.cow refl t.3)
    ])
  where
    unmarked : (b : Bool) → z.cow ≡ b → y.cow ≡ false → z.cow ≡ false
    unmarked false e none = e
    unmarked true e none = absurd (false≢true (sym none ∙ down e))
came_on n shared o u y z there up down (Came.kept v was alike went were) (Came.kept x is same mark bytes) =
    let at : x ≡ y = same_Some x y (sym is ∙ there) in
    let copy : x.copy ≡ v.copy = ap (λ (v : Page). v.copy) at ∙ alike in
    Came.kept v was (same ∙ copy) (λ e. elim (went e) [
      | inl still ↦ elim (mark (ap (λ (v : Page). v.cow) at ∙ still)) [
        | inl now ↦ inl now
        | inr alone ↦ inr (ap shared (sym copy) ∙ alone)
      ]
      | inr alone ↦ inr alone
    ]) (elim bytes [
      | inl now ↦ elim were [
        | inl old ↦ inl (now ∙ ap (λ (v : Page). v.bytes) at ∙ old)
        | inr alone ↦ inr alone
      ]
      | inr alone ↦ inr (ap shared (sym copy) ∙ alone)
    ])

settled_at : {A : Type 0} (o : Option A) → is_some o ≡ true → (x : A) × (o ≡ Some x)
settled_at None e = absurd cc
settled_at (Some x) e = (x, refl)

module _ (n : ℕ) (shared : ℕ → Bool) where
  grows_on : (p q r : Process) → Grows n shared p q → Grows n shared q r → Grows n shared p r
  grows_on p q r f g = record {
    reworks = record {
      tables = λ page. two_growths (has_tables p page) (has_tables q page) (has_tables r page) (is_settled p page) (is_settled q page) (is_settled r page) (f.reworks.tables page) (g.reworks.tables page) (f.grows page) (g.grows page);
      copies = λ page z there. by page z there (g.reworks.copies page z there);
    };
    grows = λ page e. g.grows page (f.grows page e);
    marks = λ page e. f.marks page (g.marks page e);
  }
    where
      from : (page : ℕ) (z x : Page) → get r.settled page ≡ Some z → get q.settled page ≡ Some x → Came n shared (get q.settled page) z → Came n shared (get p.settled page) z
      from page z x there is came = came_on n shared (get p.settled page) (get q.settled page) x z is
          (λ e v was. ap (has_mark (λ x. x.cow)) (sym was) ∙ f.marks page (ap (has_mark (λ x. x.cow)) is ∙ e))
          (λ e. ap (has_mark (λ x. x.cow)) (sym is) ∙ g.marks page (ap (has_mark (λ x. x.cow)) there ∙ e)) (f.reworks.copies page x is) came

      gone_before : (page : ℕ) (o : Option Page) → get p.settled page ≡ o → get q.settled page ≡ None → get p.settled page ≡ None
      gone_before page None e none = e
      gone_before page (Some v) e none = absurd (let no : true ≡ false = sym (f.grows page (ap is_some e)) ∙ ap is_some none in cc)

      by : (page : ℕ) (z : Page) → get r.settled page ≡ Some z → Came n shared (get q.settled page) z → Came n shared (get p.settled page) z
      by page z there (Came.fresh le (inl none)) = Came.fresh le (inl (gone_before page (get p.settled page) refl none))
      by page z there (Came.fresh le (inr t)) = from page z t.0 there t.1 (Came.fresh le (inr t))
      by page z there (Came.kept x is same mark bytes) = from page z x there is (Came.kept x is same mark bytes)

  pub same_came : (x : Page) → Came n shared (Some x) x
  same_came x = Came.kept _ refl refl (λ e. inl e) (inl refl)

  pub still : (p : Process) → Grows n shared p p
  still p = record {
    reworks = record { tables = λ page. tables_same (has_tables p page) (is_settled p page) (is_settled p page) (λ e. e); copies = λ page y there. Came.kept _ there refl (λ e. inl e) (inl refl) };
    grows = λ page e. e;
    marks = λ page e. e;
  }

  -- a mark is that of a settled page
  marked_at : (o : Option Page) → has_mark (λ x. x.cow) o ≡ true → (z : Page) × (o ≡ Some z) × (z.cow ≡ true)
  marked_at None e = absurd cc
  marked_at (Some z) e = (z, refl, e)

  -- a settled page is put again
  pub put_grows : (p : Process) (at : ℕ) (x y : Page) → get p.settled at ≡ Some x → Came n shared (Some x) y → (y.cow ≡ true → x.cow ≡ true) → Grows n shared p (with_page p at y)
  put_grows p at x y there came still_marked =
      let q = with_page p at y in
      let found : (page : ℕ) (z : Page) → get q.settled page ≡ Some z → Came n shared (get p.settled page) z = λ page z e. elim (found_inserted p.settled at page y z e) [
        | inl here ↦ subst (λ (o : Option Page). Came n shared o z) (sym (ap (get p.settled) here.0 ∙ there)) (subst (Came n shared (Some x)) here.1 came)
        | inr was ↦ subst (λ (o : Option Page). Came n shared o z) (sym was) (same_came z)
      ] in
      record {
        reworks = record {
          tables = λ page. tables_same (has_tables p page) (is_settled q page) (is_settled p page) (λ e. let z = settled_at (get q.settled page) e in elim (found_inserted p.settled at page y z.0 z.1) [
            | inl here ↦ ap is_some (ap (get p.settled) here.0 ∙ there)
            | inr was ↦ ap is_some was
          ]);
          copies = found;
        };
        grows = λ page e. elim (cases_eq page at) [
          | inl same ↦ ap is_some (inserted_here at y p.settled page same)
          | inr apart ↦ ap is_some (inserted_other at y p.settled page apart) ∙ e
        ];
        marks = λ page e. let z = marked_at (get q.settled page) e in elim (found_inserted p.settled at page y z.0 z.1) [
          | inl here ↦ ap (has_mark (λ x. x.cow)) (ap (get p.settled) here.0 ∙ there) ∙ still_marked (ap (λ (v : Page). v.cow) here.1 ∙ z.2)
          | inr was ↦ ap (has_mark (λ x. x.cow)) was ∙ z.2
        ];
      }

  -- a page of p that may be written, and has no copy-on-write mark, is on no other process's frame
  abbrev pub Lone : Process → Type 0
  Lone p = (page : ℕ) (x : Page) → get p.settled page ≡ Some x → grants_write p page ≡ true → x.cow ≡ false → shared x.copy ≡ false

  -- such a page has other bytes
  pub put_on : (p g : Process) (at : ℕ) (x y : Page) → Lone p → Grows n shared p g → get g.settled at ≡ Some x → y.copy ≡ x.copy → x.cow ≡ false → y.cow ≡ false → grants_write p at ≡ true → Grows n shared p (with_page g at y)
  put_on p g at x y lone f there copy none bare grants = record {
    reworks = record {
      tables = λ page. f.reworks.tables page ∙ ap (λ b. has_tables p page || (b && not (is_settled p page))) (sym (stays page));
      copies = λ page z e. elim (found_inserted g.settled at page y z e) [
        | inl here ↦ subst (λ (v : Page). Came n shared (get p.settled page) v) here.1 (subst (λ k. Came n shared (get p.settled k) y) (sym here.0) (by (f.reworks.copies at x there)))
        | inr was ↦ f.reworks.copies page z was
      ];
    };
    grows = λ page e. stays page ∙ f.grows page e;
    marks = λ page e. let z = marked_at (get (with_page g at y).settled page) e in elim (found_inserted g.settled at page y z.0 z.1) [
      | inl here ↦ absurd (false≢true (sym bare ∙ ap (λ (v : Page). v.cow) here.1 ∙ z.2))
      | inr was ↦ f.marks page (ap (has_mark (λ x. x.cow)) was ∙ z.2)
    ];
  }
    where
      stays : (page : ℕ) → is_settled (with_page g at y) page ≡ is_settled g page
      stays page = elim (cases_eq page at) [
        | inl same ↦ ap is_some (inserted_here at y g.settled page same) ∙ sym (ap is_some (ap (get g.settled) same ∙ there))
        | inr apart ↦ ap is_some (inserted_other at y g.settled page apart)
      ]

      lone_by : (v : Page) → get p.settled at ≡ Some v → (v.cow ≡ true → (x.cow ≡ true) ⊎ (shared v.copy ≡ false)) → (b : Bool) → v.cow ≡ b → shared v.copy ≡ false
      lone_by v was went true e = elim (went e) [ inl now ↦ absurd (false≢true (sym none ∙ now)) | inr alone ↦ alone ]
      lone_by v was went false e = lone at v was grants e

      by : Came n shared (get p.settled at) x → Came n shared (get p.settled at) y
      by (Came.fresh le (inl new)) = Came.fresh (omega (arith, copy, le)) (inl new)
      by (Came.fresh le (inr t)) = Came.fresh (omega (arith, copy, le)) (inr (t.0, t.1, t.2, bare))
      by (Came.kept v was alike went were) = let alone = lone_by v was went v.cow refl in Came.kept v was (copy ∙ alike) (λ _. inr alone) (inr alone)

  -- a page is settled
  or_true : (b : Bool) → true ≡ (b || (true && not false))
  or_true true = refl
  or_true false = refl

  anew_grows : (files : List File) (fresh : ℕ) (p : Process) (kind : Access) (at : ℕ) → n ≤ fresh → get p.settled at ≡ None → Grows n shared p (settled_anew files fresh p kind at)
  anew_grows files number p kind at le none =
      let x : Page = record { bytes = initial_page files p at; copy = number; cow = false; dirty = leaves_mark kind (region_on p at) } in
      let q = settled_anew files number p kind at in
      record {
        reworks = record {
          tables = λ page. elim (cases_eq page at) [
            | inl same ↦
                let had : has_tables q page ≡ true = ap is_some (inserted_here at tt p.tabled page same) in
                let now : is_settled q page ≡ true = ap is_some (inserted_here at x p.settled page same) in
                let was : is_settled p page ≡ false = ap is_some (ap (get p.settled) same ∙ none) in
                had ∙ or_true (has_tables p page) ∙ sym (ap (λ b. has_tables p page || (b && not (is_settled p page))) now ∙ ap (λ b. has_tables p page || (true && not b)) was)
            | inr apart ↦
                let had : has_tables q page ≡ has_tables p page = ap is_some (inserted_other at tt p.tabled page apart) in
                let now : is_settled q page ≡ is_settled p page = ap is_some (inserted_other at x p.settled page apart) in
                had ∙ tables_same (has_tables p page) (is_settled q page) (is_settled p page) (λ e. sym now ∙ e)
          ];
          copies = λ page z e. elim (found_inserted p.settled at page x z e) [
            | inl here ↦ Came.fresh (let copy : x.copy ≡ z.copy = ap (λ (v : Page). v.copy) here.1 in omega (arith, copy, le)) (inl (ap (get p.settled) here.0 ∙ none))
            | inr was ↦ subst (λ (o : Option Page). Came n shared o z) (sym was) (same_came z)
          ];
        };
        grows = λ page e. elim (cases_eq page at) [
          | inl same ↦ ap is_some (inserted_here at x p.settled page same)
          | inr apart ↦ ap is_some (inserted_other at x p.settled page apart) ∙ e
        ];
        marks = λ page e. let z = marked_at (get q.settled page) e in elim (found_inserted p.settled at page x z.0 z.1) [
          | inl here ↦ absurd (false≢true (ap (λ (v : Page). v.cow) here.1 ∙ z.2))
          | inr was ↦ ap (has_mark (λ x. x.cow)) was ∙ z.2
        ];
      }

  -- a page is taken over
  over_came : (fresh : ℕ) (r : Option Region) (x : Page) → n ≤ fresh → Came n shared (Some x) (taken_over fresh (shared x.copy) r x)
  over_came number r x le = by x.cow (shared x.copy) refl refl
    where
      by : (f s : Bool) → x.cow ≡ f → shared x.copy ≡ s → Came n shared (Some x) (taken_over number (shared x.copy) r x)
      by true true e is = Came.fresh (rw (e, is) le) (inr (x, refl, e, refl))
      by true false e is = Came.kept _ refl (rw (e, is) refl) (λ _. inr is) (inl refl)
      by false s e is = Came.kept _ refl (rw e refl) (λ f. absurd (false≢true (sym e ∙ f))) (inl refl)

  over_grows : (fresh : ℕ) (p : Process) (at : ℕ) (x : Page) (b : Bool) → n ≤ fresh → get p.settled at ≡ Some x → Grows n shared p (taken_over_unless fresh (shared x.copy) p at x b)
  over_grows number p at x true le there = still p
  over_grows number p at x false le there = put_grows p at x (taken_over number (shared x.copy) (region_on p at) x) there (over_came number (region_on p at) x le) (λ e. absurd (false≢true e))

  made_grows : (a : Environment) (fresh : ℕ) (p : Process) (kind : Access) (at : ℕ) (o : Option Page) → ((copy : ℕ) → a.others_have copy ≡ shared copy) → n ≤ fresh → get p.settled at ≡ o
      → Grows n shared p (made_resident_from a.files fresh (is_shared_by a.others_have o) p kind at o)
  made_grows a number p kind at None same le e = anew_grows a.files number p kind at le e
  made_grows a number p kind at (Some x) same le e = subst (λ b. Grows n shared p (taken_over_unless number b p at x (can_complete kind (region_on p at) x))) (sym (same x.copy)) (over_grows number p at x _ le e)

  -- whatever is reached, and the counter does not fall

  pub data GrowsIfOk (p : Process) : Result Progress Rule → Type 0 where
    stopped : {r : Rule} → GrowsIfOk p (Err r)
    came : {g : Progress} → Grows n shared p g.process → n ≤ g.fresh → GrowsIfOk p (Ok g)

  module _ (a : Environment) (same : (copy : ℕ) → a.others_have copy ≡ shared copy) where
    dry_grows : (kind : Access) (at : ℕ) (g : Progress) (need : ℕ) (b : Bool) → n ≤ g.fresh → GrowsIfOk g.process (unless_dry a kind at g need b)
    dry_grows kind at g need true le = stopped
    dry_grows kind at g need false le = came (made_grows a g.fresh g.process kind at (get (g.process).settled at) same le refl) (omega (arith, le))

    unless_grows : (kind : Access) (at : ℕ) (g : Progress) (b : Bool) → n ≤ g.fresh → GrowsIfOk g.process (unless_resident a kind at g b)
    unless_grows kind at g true le = came (still g.process) le
    unless_grows kind at g false le = dry_grows kind at g _ _ le

    page_grows : (kind : Access) (at : ℕ) (g : Progress) → n ≤ g.fresh → GrowsIfOk g.process (resident_at a kind at g)
    unfolding resident_at
    page_grows kind at g le = unless_grows kind at g _ le

    pub reached_grows : (kind : Access) (address : ℕ) (g : Progress) (o : Option Rule) → n ≤ g.fresh → GrowsIfOk g.process (resident_at_address a kind address g o)
    reached_grows kind address g None le = page_grows kind (page_of address) g le
    reached_grows kind address g (Some r) le = stopped

    module _ (p : Process) where
      pub record Far (c : Copied) : Type 0 where
        pub far : Grows n shared p (c.progress).process
        later : n ≤ (c.progress).fresh

      one_in_far : (c : Copied) (at : ℕ) (r : Result Progress Rule) → Far c → GrowsIfOk (c.progress).process r → Far (one_in c at r)
      one_in_far c at (Err r) f stopped = record { far = f.far; later = f.later }
      one_in_far c at (Ok g) f (came h le) = record { far = grows_on p (c.progress).process g.process f.far h; later = le }

      next_in_far : (c : Copied) (at : ℕ) (o : Option Rule) → Far c → Far (next_in a c at o)
      next_in_far c at (Some r) f = f
      next_in_far c at None f = one_in_far c at _ f (reached_grows access.Load at c.progress (copy_rule ((c.progress).process).scheme (regions (c.progress).process) access.Load at) f.later)

      all_in_far : (ns : List ℕ) (c : Copied) → Far c → Far (fold (λ c at. next_in a c at c.stop) c ns)
      all_in_far [] c f = f
      all_in_far (m ∷ ns) c f = all_in_far ns (next_in a c m c.stop) (next_in_far c m c.stop f)

      -- a copy to the process, whose regions stay
      pub record FarOut (c : Copied) : Type 0 where
        pub far : Grows n shared p (c.progress).process
        later : n ≤ (c.progress).fresh
        alike : regions (c.progress).process ≡ regions p

      module _ (lone : Lone p) where
        granted_there : (q : Process) (at : ℕ) → regions q ≡ regions p → copy_rule q.scheme (regions q) access.Store at ≡ None → grants_write p (page_of at) ≡ true
        granted_there q at alike none =
            let r = region_there q.scheme (regions q) access.Store at none in
            let has : region_at (regions p) (page_of at) ≡ Some r.0 = ap (λ rs. region_at rs (page_of at)) (sym alike) ∙ r.1 in
            ap (λ o. not (lacks_right access.Store o)) has ∙ ap (λ b. not (not b)) r.2

        unmarked_there : (q : Process) (page : ℕ) (x : Page) → get q.settled page ≡ Some x → is_resident q access.Store page ≡ true → x.cow ≡ false
        unmarked_there q page x there resident = by x.cow (x.dirty || not (keeps_stores (region_on q page))) (ap (is_resident_page access.Store (region_on q page)) (sym there) ∙ resident)
          where
            by : (a b : Bool) → (not a && b) ≡ true → a ≡ false
            by true b e = absurd cc
            by false b e = refl

        put_byte : (c : Copied) (at b : ℕ) (g : Progress) → FarOut c → reached_in a access.Store c.progress at ≡ Ok g → Grows n shared (c.progress).process g.process → (o : Option Page) → get (g.process).settled (page_of at) ≡ o → Grows n shared p (with_byte_on g.process at b o)
        put_byte c at b g f is h None e = grows_on p (c.progress).process g.process f.far h
        put_byte c at b g f is h (Some x) e =
            put_on p g.process (page_of at) x (stored x (at % 4096) (b ∷ [])) lone (grows_on p (c.progress).process g.process f.far h) e refl
            (unmarked_there g.process (page_of at) x e (reached_serves a access.Store c.progress g at is).resident) (unmarked_there g.process (page_of at) x e (reached_serves a access.Store c.progress g at is).resident)
            (granted_there (c.progress).process at f.alike (reached_parts a access.Store c.progress g at is).0)

        one_out_far : (c : Copied) (at b : ℕ) (r : Result Progress Rule) → FarOut c → reached_in a access.Store c.progress at ≡ r → GrowsIfOk (c.progress).process r → FarOut (one_out c at b r)
        one_out_far c at b (Err r) f is stopped = record { far = f.far; later = f.later; alike = f.alike }
        one_out_far c at b (Ok g) f is (came h le) = record {
          far = put_byte c at b g f is h (get (g.process).settled (page_of at)) refl;
          later = le;
          alike = kept_regions (get (g.process).settled (page_of at)) ∙ (reached_serves a access.Store c.progress g at is).regions ∙ f.alike;
        }
          where
            kept_regions : (o : Option Page) → regions (with_byte_on g.process at b o) ≡ regions g.process
            kept_regions None = refl
            kept_regions (Some x) = refl

        next_out_far : (c : Copied) (x : ℕ × ℕ) (o : Option Rule) → FarOut c → FarOut (next_out a c x o)
        next_out_far c x (Some r) f = f
        next_out_far c x None f = one_out_far c x.0 x.1 (reached_in a access.Store c.progress x.0) f refl (reached_grows access.Store x.0 c.progress (copy_rule ((c.progress).process).scheme (regions (c.progress).process) access.Store x.0) f.later)

        all_out_far : (xs : List (ℕ × ℕ)) (c : Copied) → FarOut c → FarOut (fold (λ c x. next_out a c x c.stop) c xs)
        all_out_far [] c f = f
        all_out_far (x ∷ xs) c f = all_out_far xs (next_out a c x c.stop) (next_out_far c x c.stop f)

        pub out_far : (g : Progress) (address : ℕ) (bytes : List ℕ) → Grows n shared p g.process → n ≤ g.fresh → regions g.process ≡ regions p → FarOut (copied_out a g address bytes)
        unfolding copied_out
        out_far g address bytes far later alike = all_out_far (zip (numbers_from address (length bytes)) bytes) (copy_begun g) (record { far = far; later = later; alike = alike })

      pub in_far : (g : Progress) (address count : ℕ) → Grows n shared p g.process → n ≤ g.fresh → Far (copied_in a g address count)
      unfolding copied_in
      in_far g address count far later = all_in_far (numbers_from address count) (copy_begun g) (record { far = far; later = later })

  -- pages go
  pub released_reworks : (p q : Process) (first end : ℕ) → q.settled ≡ (without_pages p first end).settled → q.tabled ≡ p.tabled → Reworks n shared p q
  released_reworks p q first end is tabled =
      let sub : (page : ℕ) (y : Page) → get q.settled page ≡ Some y → get p.settled page ≡ Some y = λ page y e. found_only _ p.settled page y (ap (λ (m : PageMap Page). get m page) (sym is) ∙ e) in
      record {
        tables = λ page. ap (λ m. contains m page) tabled ∙ tables_same (has_tables p page) (is_settled q page) (is_settled p page) (λ e. let z = settled_at (get q.settled page) e in ap is_some (sub page z.0 z.1));
        copies = λ page y e. Came.kept _ (sub page y e) refl (λ e. inl e) (inl refl);
      }

  -- a fork's parent
  pub marked_reworks : (p : Process) → Reworks n shared p (marked p)
  marked_reworks p = record {
    tables = λ page. tables_same (has_tables p page) (is_settled (marked p) page) (is_settled p page) (λ e.
        let z = settled_at (get (marked p).settled page) e in
        let y = found_each (marked_page p) p.settled page z.0 z.1 in
        ap is_some y.1);
    copies = λ page z e.
        let y = found_each (marked_page p) p.settled page z e in
        Came.kept _ y.1 (ap (λ (v : Page). v.copy) (sym y.2)) (λ f. inl (ap (λ (v : Page). v.cow) (sym y.2) ∙ or_more y.0.cow (grants_write p page) f)) (inl (ap (λ (v : Page). v.bytes) (sym y.2)));
  }
    where
      or_more : (a b : Bool) → a ≡ true → (a || b) ≡ true
      or_more true b e = refl
      or_more false b e = absurd cc

-- ---- processes that begin

pub record IsAnew (n : ℕ) (q : Process) : Type 0 where
  pub tables : (page : ℕ) → has_tables q page ≡ is_settled q page
  pub above : (page : ℕ) (x : Page) → get q.settled page ≡ Some x → n ≤ x.copy

put_both : {A B : Type 0} (k key : ℕ) (x : A) (y : B) (es : List (ℕ × A)) (fs : List (ℕ × B)) → is_some (find nat_cmp k es) ≡ is_some (find nat_cmp k fs) → (b : Bool) → is_some (cond b (Some x) (find nat_cmp k es)) ≡ is_some (cond b (Some y) (find nat_cmp k fs))
put_both k key x y es fs e true = refl
put_both k key x y es fs e false = e

image_tables : (fresh : ℕ) (es : List (ℕ × List ℕ)) (page : ℕ) → contains (numbers (map (λ (e : ℕ × List ℕ). e.0) es)) page ≡ is_some (get (from_list (numbered fresh es)) page)
image_tables number [] page = refl
image_tables number (e ∷ es) page =
    let x : Page = record { bytes = e.1; copy = number; cow = false; dirty = false } in
    let ns = numbers (map (λ (e : ℕ × List ℕ). e.0) es) in
    let m = from_list (numbered (number + 1) es) in
    ap is_some (find-put nat_cmp nat_cmp_total page e.0 tt ns.entries)
    ∙ put_both page e.0 tt x ns.entries m.entries (image_tables (number + 1) es page) (eq_by_cmp nat_cmp page e.0)
    ∙ sym (ap is_some (find-put nat_cmp nat_cmp_total page e.0 x m.entries))

pub image_anew : (z : Scheme) (n : ℕ) (ls : List LoadSegment) → IsAnew n (process_of z n ls)
unfolding process_of
image_anew z n ls = record {
  tables = image_tables n (image_pages ls);
  above = (row_of n (n + length (image_pages ls)) (image_pages ls) refl).above;
}

-- a child

keys_tables : (es : List (ℕ × Page)) (f : ℕ → Page → Page) (page : ℕ) → contains (numbers (map (λ (e : ℕ × Page). e.0) es)) page ≡ is_some (find nat_cmp page es)
keys_tables [] f page = refl
keys_tables (e ∷ es) f page =
    let ns = numbers (map (λ (e : ℕ × Page). e.0) es) in
    ap is_some (find-put nat_cmp nat_cmp_total page e.0 tt ns.entries) ∙ put_both page e.0 tt e.1 ns.entries es (keys_tables es f page) (eq_by_cmp nat_cmp page e.0)

copy_cond : (b : Bool) (x y : Page) (o u : Option Page) → x.copy ≡ y.copy → option_map (λ (z : Page). z.copy) o ≡ option_map (λ (z : Page). z.copy) u
    → option_map (λ (z : Page). z.copy) (cond b (Some x) o) ≡ option_map (λ (z : Page). z.copy) (cond b (Some y) u)
copy_cond true x y o u e f = ap Some e
copy_cond false x y o u e f = f

each_copies : (f : ℕ → Page → Page) → ((k : ℕ) (x : Page) → (f k x).copy ≡ x.copy) → (es : List (ℕ × Page)) (page : ℕ) → option_map (λ (z : Page). z.copy) (find nat_cmp page (each_value f es)) ≡ option_map (λ (z : Page). z.copy) (find nat_cmp page es)
each_copies f same [] page = refl
each_copies f same (e ∷ es) page = copy_cond (eq_by_cmp nat_cmp page e.0) (f e.0 e.1) e.1 (find nat_cmp page (each_value f es)) (find nat_cmp page es) (same e.0 e.1) (each_copies f same es page)

pub child_shares : (p : Process) → SharesFrames p (child_of p)
child_shares p = record {
  tables = keys_tables p.settled.entries (child_page p);
  copies = each_copies (child_page p) (λ k x. refl) p.settled.entries;
}
