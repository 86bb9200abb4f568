-- `Further`: a process after a change that keeps its regions, size, heap base and dirty marks (D) and adds no copy-on-write
-- mark (left by a fork: copy first), and that removes copy-on-write marks or adds dirty marks only on given pages. Lemmas:
-- answered accesses, page-fault service and kernel copies change a process in no other way.
use Rattle.std.proofs.Common.{◌≡◌, ◌⊎◌, ◌<◌, ℕ, suc, Bool, true, false, ◌||◌, ◌+◌, ◌%◌, inl, inr, refl, sym, ap, subst, ◌∙◌, arith, List, [], ◌∷◌, length, Option, None, Some}
use Rattle.std.specs.Prelude.{fold, Result, Ok, Err, zip}
use Rattle.std.proofs.lemmas.Bool.{cases_eq}
use Rattle.std.proofs.lemmas.Bool.Decides.{nat_tests}
use Rattle.process_laws.proofs.Givens.{mark_at}
use Rattle.process_laws.specs.Pages.{has_cow_mark, has_some_of, has_dirty_mark, is_store}
use Rattle.process_model.specs.Environment.{Environment, Progress, resident_at_address, resident_at, unless_dry, unless_resident}
use Rattle.process_model.specs.Bytes.{numbers_from}
use Rattle.process_model.specs.Copies.{Copied, copied_in, copied_out, copy_begun, next_in, next_out, one_in, one_out, with_byte_on}
use Rattle.process_model.specs.Files.{File}
use Rattle.process_model.specs.Insertion.{inserted_here, inserted_other}
use Rattle.process_model.specs.PageMap.{get}
use Rattle.process_model.specs.Process.{Page, Process, regions}
use Rattle.process_model.specs.Regions.{copy_rule, Region}
use Rattle.process_model.specs.Residence.{access_answer, can_complete, initial_page, leaves_mark, made_resident_from, region_on, settled_anew, stored, taken_over, taken_over_unless, with_page}
use Rattle.sv39_entry.specs.Address.{page_of}
use Rattle.sv39_entry.specs.declared.access.Access.{Access}
use Rattle.sv39_entry.specs.declared.access.Access.TheVariants as access
use Rattle.sv39_entry.specs.declared.rule.Rule.{Rule}

-- The regions, among them the mappings, the size and the heap's base are the same, no page has a copy-on-write mark anew, and
-- none lost its dirty mark; only those that may have a dirty mark anew, or lost their copy-on-write mark
pub record Further (may : ℕ → Bool) (p q : Process) : Type 0 where
  pub same : regions q ≡ regions p
  pub maps : q.mappings ≡ p.mappings
  pub size : q.size ≡ p.size
  pub base : q.heap_base ≡ p.heap_base
  pub kept : (page : ℕ) → has_cow_mark p page ≡ true → (has_cow_mark q page ≡ true) ⊎ (may page ≡ true)
  pub forked : (page : ℕ) → has_cow_mark q page ≡ true → has_cow_mark p page ≡ true
  pub stored : (page : ℕ) → has_dirty_mark p page ≡ true → has_dirty_mark q page ≡ true
  pub anew : (page : ℕ) → has_dirty_mark q page ≡ true → (has_dirty_mark p page ≡ true) ⊎ (may page ≡ true)

further_on : (may : ℕ → Bool) (p q r : Process) → Further may p q → Further may q r → Further may p r
further_on may p q r f g = record {
  same = g.same ∙ f.same;
  maps = g.maps ∙ f.maps;
  size = g.size ∙ f.size;
  base = g.base ∙ f.base;
  kept = λ page e. elim (f.kept page e) [ inl there ↦ g.kept page there | inr here ↦ inr here ];
  forked = λ page e. f.forked page (g.forked page e);
  stored = λ page e. g.stored page (f.stored page e);
  anew = λ page e. elim (g.anew page e) [ inl was ↦ f.anew page was | inr here ↦ inr here ];
}

-- a page that is put again
put_further : (may : ℕ → Bool) (p : Process) (n : ℕ) (x y : Page) → get p.settled n ≡ Some x → (y.cow ≡ true → x.cow ≡ true) → (x.dirty ≡ true → y.dirty ≡ true)
    → (y.dirty ≡ true → (x.dirty ≡ true) ⊎ (may n ≡ true)) → (x.cow ≡ true → (y.cow ≡ true) ⊎ (may n ≡ true)) → Further may p (with_page p n y)
put_further may p n x y there fork store goes keep = record {
  same = refl;
  maps = refl;
  size = refl;
  base = refl;
  kept = λ page e. elim (cases_eq page n) [
    | inl same ↦ elim (keep (sym (mark_at (λ z. z.cow) (get p.settled page) (Some x) (ap (get p.settled) same ∙ there)) ∙ e)) [
      | inl still ↦ inl (mark_at (λ z. z.cow) (get (with_page p n y).settled page) (Some y) (inserted_here n y p.settled page same) ∙ still)
      | inr here ↦ inr (ap may same ∙ here)
    ]
    | inr apart ↦ inl (mark_at (λ z. z.cow) (get (with_page p n y).settled page) (get p.settled page) (inserted_other n y p.settled page apart) ∙ e)
  ];
  forked = λ page e. elim (cases_eq page n) [
    | inl same ↦ mark_at (λ z. z.cow) (get p.settled page) (Some x) (ap (get p.settled) same ∙ there) ∙ fork (sym (mark_at (λ z. z.cow) (get (with_page p n y).settled page) (Some y) (inserted_here n y p.settled page same)) ∙ e)
    | inr apart ↦ sym (mark_at (λ z. z.cow) (get (with_page p n y).settled page) (get p.settled page) (inserted_other n y p.settled page apart)) ∙ e
  ];
  stored = λ page e. elim (cases_eq page n) [
    | inl same ↦ mark_at (λ z. z.dirty) (get (with_page p n y).settled page) (Some y) (inserted_here n y p.settled page same) ∙ store (sym (mark_at (λ z. z.dirty) (get p.settled page) (Some x) (ap (get p.settled) same ∙ there)) ∙ e)
    | inr apart ↦ mark_at (λ z. z.dirty) (get (with_page p n y).settled page) (get p.settled page) (inserted_other n y p.settled page apart) ∙ e
  ];
  anew = λ page e. elim (cases_eq page n) [
    | inl same ↦ elim (goes (sym (mark_at (λ z. z.dirty) (get (with_page p n y).settled page) (Some y) (inserted_here n y p.settled page same)) ∙ e)) [
      | inl was ↦ inl (mark_at (λ z. z.dirty) (get p.settled page) (Some x) (ap (get p.settled) same ∙ there) ∙ was)
      | inr here ↦ inr (ap may same ∙ here)
    ]
    | inr apart ↦ inl (sym (mark_at (λ z. z.dirty) (get (with_page p n y).settled page) (get p.settled page) (inserted_other n y p.settled page apart)) ∙ e)
  ];
}

pub answer_further : (may : ℕ → Bool) (p : Process) (n : ℕ) (x : Page) (kind : Access) (offset width value : ℕ) → get p.settled n ≡ Some x → Further may p (with_page p n (access_answer kind x offset width value).1)
answer_further may p n x access.Fetch offset width value there = put_further may p n x x there (λ e. e) (λ e. e) (λ e. inl e) (λ e. inl e)
answer_further may p n x access.Load offset width value there = put_further may p n x x there (λ e. e) (λ e. e) (λ e. inl e) (λ e. inl e)
answer_further may p n x access.Store offset width value there = put_further may p n x _ there (λ e. e) (λ e. e) (λ e. inl e) (λ e. inl e)

pub still : (may : ℕ → Bool) (p : Process) → Further may p p
still may p = record { same = refl; maps = refl; size = refl; base = refl; kept = λ page e. inl e; forked = λ page e. e; stored = λ page e. e; anew = λ page e. inl e }

leaves_store : (kind : Access) (r : Option Region) → leaves_mark kind r ≡ true → is_store kind ≡ true
leaves_store access.Fetch r e = absurd cc
leaves_store access.Load r e = absurd cc
leaves_store access.Store r e = refl

anew_further : (may : ℕ → Bool) (files : List File) (fresh : ℕ) (p : Process) (kind : Access) (page : ℕ) → get p.settled page ≡ None → (is_store kind ≡ true → may page ≡ true) → Further may p (settled_anew files fresh p kind page)
anew_further may files fresh p kind page none goes =
    let new : Page = record { bytes = initial_page files p page; copy = fresh; cow = false; dirty = leaves_mark kind (region_on p page) } in
    record {
      same = refl;
      maps = refl;
      size = refl;
      base = refl;
      kept = λ at e. elim (cases_eq at page) [
        | inl same ↦ absurd (let no : true ≡ false = sym e ∙ mark_at (λ z. z.cow) (get p.settled at) None (ap (get p.settled) same ∙ none) in cc)
        | inr apart ↦ inl (mark_at (λ z. z.cow) (get (settled_anew files fresh p kind page).settled at) (get p.settled at) (inserted_other page new p.settled at apart) ∙ e)
      ];
      forked = λ at e. elim (cases_eq at page) [
        | inl same ↦ absurd (let no : true ≡ false = sym e ∙ mark_at (λ z. z.cow) (get (settled_anew files fresh p kind page).settled at) (Some new) (inserted_here page new p.settled at same) in cc)
        | inr apart ↦ sym (mark_at (λ z. z.cow) (get (settled_anew files fresh p kind page).settled at) (get p.settled at) (inserted_other page new p.settled at apart)) ∙ e
      ];
      stored = λ at e. elim (cases_eq at page) [
        | inl same ↦ absurd (let no : true ≡ false = sym e ∙ mark_at (λ z. z.dirty) (get p.settled at) None (ap (get p.settled) same ∙ none) in cc)
        | inr apart ↦ mark_at (λ z. z.dirty) (get (settled_anew files fresh p kind page).settled at) (get p.settled at) (inserted_other page new p.settled at apart) ∙ e
      ];
      anew = λ at e. elim (cases_eq at page) [
        | inl same ↦ inr (ap may same ∙ goes (leaves_store kind (region_on p page) (sym (mark_at (λ z. z.dirty) (get (settled_anew files fresh p kind page).settled at) (Some new) (inserted_here page new p.settled at same)) ∙ e)))
        | inr apart ↦ inl (sym (mark_at (λ z. z.dirty) (get (settled_anew files fresh p kind page).settled at) (get p.settled at) (inserted_other page new p.settled at apart)) ∙ e)
      ];
    }

or_more : (a b : Bool) → a ≡ true → (a || b) ≡ true
or_more true b e = refl
or_more false b e = absurd cc

over_further : (may : ℕ → Bool) (fresh : ℕ) (shared : Bool) (p : Process) (page : ℕ) (x : Page) (b : Bool) → get p.settled page ≡ Some x → (b ≡ false → may page ≡ true) → Further may p (taken_over_unless fresh shared p page x b)
over_further may fresh shared p page x true there goes = still may p
over_further may fresh shared p page x false there goes = put_further may p page x (taken_over fresh shared (region_on p page) x) there (λ e. absurd cc) (or_more x.dirty _) (λ e. inr (goes refl)) (λ e. inr (goes refl))

-- only a store is held back
held_store : (kind : Access) (r : Option Region) (x : Page) → can_complete kind r x ≡ false → is_store kind ≡ true
held_store access.Fetch r x e = absurd cc
held_store access.Load r x e = absurd cc
held_store access.Store r x e = refl

made_further : (may : ℕ → Bool) (files : List File) (fresh : ℕ) (shared : Bool) (p : Process) (kind : Access) (page : ℕ) (o : Option Page) → get p.settled page ≡ o → (is_store kind ≡ true → may page ≡ true)
    → Further may p (made_resident_from files fresh shared p kind page o)
made_further may files fresh shared p kind page None e goes = anew_further may files fresh p kind page e goes
made_further may files fresh shared p kind page (Some x) e goes = over_further may fresh shared p page x _ e (λ held. goes (held_store kind (region_on p page) x held))

-- whatever is reached

pub data FurtherIfOk (may : ℕ → Bool) (p : Process) : Result Progress Rule → Type 0 where
  stopped : {r : Rule} → FurtherIfOk may p (Err r)
  came : {g : Progress} → Further may p g.process → FurtherIfOk may p (Ok g)

module _ (may : ℕ → Bool) (a : Environment) (g : Progress) (kind : Access) where
  dry_further : (page need : ℕ) (b : Bool) → (is_store kind ≡ true → may page ≡ true) → FurtherIfOk may g.process (unless_dry a kind page g need b)
  dry_further page need true goes = stopped
  dry_further page need false goes = came (made_further may a.files g.fresh _ g.process kind page _ refl goes)

  unless_further : (page : ℕ) (b : Bool) → (is_store kind ≡ true → may page ≡ true) → FurtherIfOk may g.process (unless_resident a kind page g b)
  unless_further page true goes = came (still may g.process)
  unless_further page false goes = dry_further page _ _ goes

  at_further : (page : ℕ) → (is_store kind ≡ true → may page ≡ true) → FurtherIfOk may g.process (resident_at a kind page g)
  unfolding resident_at
  at_further page goes = unless_further page _ goes

  pub reached_further : (address : ℕ) (o : Option Rule) → (is_store kind ≡ true → may (page_of address) ≡ true) → FurtherIfOk may g.process (resident_at_address a kind address g o)
  reached_further address None goes = at_further (page_of address) goes
  reached_further address (Some r) goes = stopped

-- copies

byte_further : (may : ℕ → Bool) (q : Process) (at b : ℕ) (o : Option Page) → get q.settled (page_of at) ≡ o → Further may q (with_byte_on q at b o)
byte_further may q at b None e = still may q
byte_further may q at b (Some x) e = put_further may q (page_of at) x (stored x (at % 4096) (b ∷ [])) e (λ e. e) (λ e. e) (λ e. inl e) (λ e. inl e)

abbrev AllMay : (ℕ → Bool) → List (ℕ × ℕ) → Type 0
AllMay may [] = Unit {0}
AllMay may (x ∷ xs) = (may (page_of x.0) ≡ true) × AllMay may xs

module _ (may : ℕ → Bool) (a : Environment) (p : Process) where
  abbrev Far : Copied → Type 0
  Far c = Further may p (c.progress).process

  one_in_far : (c : Copied) (at : ℕ) (r : Result Progress Rule) → Far c → FurtherIfOk may (c.progress).process r → Far (one_in c at r)
  one_in_far c at (Err r) f stopped = f
  one_in_far c at (Ok g) f (came h) = further_on may p (c.progress).process g.process f h

  next_in_far : (c : Copied) (at : ℕ) (o : Option Rule) → Far c → Far (next_in a c at o)
  next_in_far c at (Some r) f = f
  next_in_far c at None f = one_in_far c at _ f (reached_further may a c.progress access.Load at (copy_rule ((c.progress).process).scheme (regions (c.progress).process) access.Load at) (λ e. absurd cc))

  all_in_far : (ns : List ℕ) (c : Copied) → Far c → Far (fold (λ c at. next_in a c at c.stop) c ns)
  all_in_far [] c f = f
  all_in_far (n ∷ ns) c f = all_in_far ns (next_in a c n c.stop) (next_in_far c n c.stop f)

  one_out_far : (c : Copied) (at b : ℕ) (r : Result Progress Rule) → Far c → FurtherIfOk may (c.progress).process r → Far (one_out c at b r)
  one_out_far c at b (Err r) f stopped = f
  one_out_far c at b (Ok g) f (came h) =
      let o = get (g.process).settled (page_of at) in
      further_on may p g.process (with_byte_on g.process at b o) (further_on may p (c.progress).process g.process f h) (byte_further may g.process at b o refl)

  next_out_far : (c : Copied) (x : ℕ × ℕ) (o : Option Rule) → may (page_of x.0) ≡ true → Far c → Far (next_out a c x o)
  next_out_far c x (Some r) goes f = f
  next_out_far c x None goes f = one_out_far c x.0 x.1 _ f (reached_further may a c.progress access.Store x.0 (copy_rule ((c.progress).process).scheme (regions (c.progress).process) access.Store x.0) (λ e. goes))

  all_out_far : (xs : List (ℕ × ℕ)) (c : Copied) → AllMay may xs → Far c → Far (fold (λ c x. next_out a c x c.stop) c xs)
  all_out_far [] c goes f = f
  all_out_far (x ∷ xs) c goes f = all_out_far xs (next_out a c x c.stop) goes.1 (next_out_far c x c.stop goes.0 f)

pub copied_in_far : (a : Environment) (g : Progress) (address n : ℕ) → Further (λ page. false) g.process ((copied_in a g address n).progress).process
unfolding copied_in
copied_in_far a g address n = all_in_far (λ page. false) a g.process (numbers_from address n) (copy_begun g) (still (λ page. false) g.process)

-- the pages of a copy's addresses
places_may : (may : ℕ → Bool) (at : ℕ) (bs : List ℕ) → ((i : ℕ) → i < length bs → may (page_of (at + i)) ≡ true) → AllMay may (zip (numbers_from at (length bs)) bs)
places_may may at [] each = tt
places_may may at (b ∷ bs) each = (
  subst (λ n. may (page_of n) ≡ true) (let none : at + 0 ≡ at = omega arith in none) (each 0 (omega arith)),
  places_may may (at + 1) bs (λ i less. subst (λ n. may (page_of n) ≡ true) (let next : at + suc i ≡ at + 1 + i = omega arith in next) (each (suc i) (omega (arith, less)))),
)

in_its_pages : (address n i : ℕ) → i < n → has_some_of address n (page_of (address + i)) ≡ true
in_its_pages address n i less = grind (arith, nat_tests, less)

pub copied_out_far : (a : Environment) (g : Progress) (address : ℕ) (bytes : List ℕ) → Further (has_some_of address (length bytes)) g.process ((copied_out a g address bytes).progress).process
unfolding copied_out
copied_out_far a g address bytes =
    let may = has_some_of address (length bytes) in
    all_out_far may a g.process (zip (numbers_from address (length bytes)) bytes) (copy_begun g) (places_may may address bytes (in_its_pages address (length bytes))) (still may g.process)
