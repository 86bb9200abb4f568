-- Lemmas on which calls change the leaves of a process in the model: sbrk and munmap if and only if they release a settled
-- page (one in memory); making a page resident if and only if it was not; fork if and only if a page that may be written has
-- no copy-on-write mark (the next store takes it over); exec always; mmap and user accesses never.
use Rattle.std.proofs.Common.{◌≡◌, ℕ, ℤ, suc, Bool, true, false, ◌+◌, ◌<◌, ◌≤◌, inl, inr, refl, ap, sym, subst, ◌∙◌, arith, List, [], ◌∷◌, ◌++◌, Option, None, Some, Result, Ok}
use Rattle.std.specs.Prelude.{drop, flat_map, not, nat_abs, nat_lt, option_map, ◌&&◌, ◌||◌, ◌%◌, ◌==◌}
use Rattle.std.proofs.lemmas.Bool.{cases_lt}
use Rattle.std.proofs.lemmas.Option.{same_Some}
use Rattle.process_model.specs.Bytes.{padded, pages_for}
use Rattle.process_model.proofs.EachValue.{each_answer, each_there}
use Rattle.process_model.specs.Files.{File}
use Rattle.process_model.specs.Heap.{resized, resized_unless, sbrk_result, size_refusal, wanted_size, without_pages}
use Rattle.process_model.specs.Images.{LoadSegment, end_of_loads}
use Rattle.process_model.specs.Insertion.{inserted_here}
use Rattle.process_model.specs.ImageProcess.{load_pages, numbered, page_run, process_of}
use Rattle.process_model.specs.Mappings.{Mapped, Unmapped, leaves_hole, map_refusal, mapped, mapped_unless, mapping_around, unmapped, unmapped_from, unmapped_if, unmapped_in, unmapped_unless}
use Rattle.hart_machine.proofs.ChangedSlots.{changed, same_settled, sign, sign_changes, sign_of, signs_after_put, signs_stay}
use Rattle.process_model.specs.PageMap.{PageMap, from_list, get}
use Rattle.process_model.specs.Process.{Page, Pending, Process, grants_write, regions, without_pending}
use Rattle.process_model.specs.Regions.{Region, first_rule, keeps_stores}
use Rattle.process_model.proofs.ReleaseLaws.{run_goes, still_settled, was_settled}
use Rattle.process_model.specs.Residence.{access_answer, can_complete, initial_page, is_resident, is_resident_page, leaves_mark, made_resident, made_resident_from, marked, marked_page, region_on, taken_over, taken_over_unless}
use Rattle.process_model.specs.Service.{Answer, AccessRequest, if_resident, if_settled, unless_denied, user_access}
use Rattle.sv39_entry.specs.Address.{page_of}
use Rattle.sv39_entry.specs.declared.access.Access.{Access}
use Rattle.sv39_entry.specs.declared.access.Access.TheVariants.{Fetch, Load, Store}
use Rattle.sv39_entry.specs.declared.rule.Rule.{Rule}
use Rattle.sv39_entry.specs.declared.scheme.Scheme.{Scheme}
use Rattle.process_model.specs.declared.reply.Refusal.{Refusal}

-- a page that is settled and one that is not have other signs
none_apart : (x y : Option Page) (s : Page) → x ≡ None → y ≡ Some s → sign_of x ≡ sign_of y → ⊥
none_apart x y s none there same =
    let both : ◌≡◌ {A = Option (ℕ × Bool × Bool)} None (Some (sign s)) = sym (ap sign_of none) ∙ same ∙ ap sign_of there in
    cc

-- two settled pages have the signs of both
both_there : (x y : Option Page) (s t : Page) → x ≡ Some s → y ≡ Some t → sign_of x ≡ sign_of y → sign s ≡ sign t
both_there x y s t left right same = same_Some (sign s) (sign t) (sym (ap sign_of left) ∙ same ∙ ap sign_of right)

-- ---- a run of pages is released

module _ (p q : Process) (first end : ℕ) (is : q.settled ≡ (without_pages p first end).settled) where
  -- a settled page of the run goes
  pub run_changes : (n : ℕ) (s : Page) → get p.settled n ≡ Some s → first ≤ n → n < end → changed p q ≡ true
  run_changes n s there from to = sign_changes p q n (λ same.
      none_apart (get q.settled n) (get p.settled n) s (ap (λ (m : PageMap Page). get m n) is ∙ run_goes p first end n from to) there (sym same))

  -- where none is in the run, nothing changes
  module _ (none : (n : ℕ) (s : Page) → get p.settled n ≡ Some s → first ≤ n → n < end → ⊥) where
    stays : (n : ℕ) (o : Option Page) → get p.settled n ≡ o → get (without_pages p first end).settled n ≡ o
    stays n (Some s) there = elim (cases_lt n first) [
      | inl before ↦ still_settled p first end n s there (inl before)
      | inr from ↦ elim (cases_lt n end) [
        | inl within ↦ absurd (none n s there from within)
        | inr after ↦ still_settled p first end n s there (inr after)
      ]
    ]
    stays n None there = nothing (get (without_pages p first end).settled n) refl
      where
        nothing : (o : Option Page) → get (without_pages p first end).settled n ≡ o → o ≡ None
        nothing None e = refl
        nothing (Some s) e = absurd (let was = (was_settled p first end n s e).0 in let both : None ≡ Some s = sym there ∙ was in cc)

    pub run_keeps : changed p q ≡ false
    run_keeps = signs_stay p q (λ n. ap sign_of (sym (stays n (get p.settled n) refl) ∙ sym (ap (λ (m : PageMap Page). get m n) is)))

-- ---- sbrk

same_process : (p q : Process) → ◌≡◌ {A = Result Process Refusal} (Ok p) (Ok q) → p ≡ q
same_process p q is = cc

-- the pages above the new size go
pub sbrk_settled : (p q : Process) (delta : ℤ) → sbrk_result p delta ≡ Ok q → q.settled ≡ (without_pages p (pages_for q.size) (pages_for p.size)).settled
unfolding sbrk_result
sbrk_settled p q delta is = by (size_refusal p (wanted_size p delta)) is
  where
    by : (o : Option Refusal) → resized_unless p (nat_abs (wanted_size p delta)) o ≡ Ok q → q.settled ≡ (without_pages p (pages_for q.size) (pages_for p.size)).settled
    by None e =
        subst (λ (r : Process). r.settled ≡ (without_pages p (pages_for r.size) (pages_for p.size)).settled)
        (same_process (resized p (nat_abs (wanted_size p delta))) q e) refl
    by (Some r) e = absurd cc

module _ (p q : Process) (delta : ℤ) (is : sbrk_result p delta ≡ Ok q) where
  pub sbrk_changes : (n : ℕ) (s : Page) → get p.settled n ≡ Some s → pages_for q.size ≤ n → n < pages_for p.size → changed p (without_pending q) ≡ true
  sbrk_changes = run_changes p (without_pending q) (pages_for q.size) (pages_for p.size) (sbrk_settled p q delta is)

  pub sbrk_keeps : ((n : ℕ) (s : Page) → get p.settled n ≡ Some s → pages_for q.size ≤ n → n < pages_for p.size → ⊥) → changed p (without_pending q) ≡ false
  sbrk_keeps = run_keeps p (without_pending q) (pages_for q.size) (pages_for p.size) (sbrk_settled p q delta is)

-- ---- munmap

same_unmapped : (u v : Unmapped) → ◌≡◌ {A = Result Unmapped Refusal} (Ok u) (Ok v) → u ≡ v
same_unmapped u v is = cc

module _ (files : List File) (p : Process) (u : Unmapped) (first end : ℕ) where
  abbrev RunGoes : Type 0
  RunGoes = (u.process).settled ≡ (without_pages p first end).settled

  released_unless : (m : Region) (b : Bool) → unmapped_unless files p m first end b ≡ Ok u → RunGoes
  released_unless m true is = absurd cc
  released_unless m false is = ap (λ (v : Unmapped). (v.process).settled) (sym (same_unmapped (unmapped_from files p m first end) u is))

  released_in : (o : Option Region) → unmapped_in files p first end o ≡ Ok u → RunGoes
  released_in None is = absurd cc
  released_in (Some m) is = released_unless m (leaves_hole m first end) is

  released_if : (b : Bool) → unmapped_if files p first end b ≡ Ok u → RunGoes
  released_if false is = absurd cc
  released_if true is = released_in (mapping_around p.mappings first end) is

module _ (files : List File) (p : Process) (address len : ℕ) (u : Unmapped) (is : unmapped files p address len ≡ Ok u) where
  -- the pages of the run go
  pub munmap_settled : (u.process).settled ≡ (without_pages p (page_of address) (page_of address + pages_for len)).settled
  unfolding unmapped
  munmap_settled = released_if files p u (page_of address) (page_of address + pages_for len) (address % 4096 == 0 && nat_lt 0 len) is

  pub munmap_changes : (n : ℕ) (s : Page) → get p.settled n ≡ Some s → page_of address ≤ n → n < page_of address + pages_for len → changed p (without_pending u.process) ≡ true
  munmap_changes = run_changes p (without_pending u.process) (page_of address) (page_of address + pages_for len) munmap_settled

  pub munmap_keeps : ((n : ℕ) (s : Page) → get p.settled n ≡ Some s → page_of address ≤ n → n < page_of address + pages_for len → ⊥) → changed p (without_pending u.process) ≡ false
  munmap_keeps = run_keeps p (without_pending u.process) (page_of address) (page_of address + pages_for len) munmap_settled

-- ---- a page is made resident

-- a page that is taken over loses the copy-on-write mark or gets the dirty mark
marks_apart : (fork stored keeps : Bool) → (not fork && (stored || not keeps)) ≡ false → fork ≡ false → stored ≡ (stored || keeps) → ⊥
marks_apart true stored keeps goes clear same = cc
marks_apart false true keeps goes clear same = cc
marks_apart false false true goes clear same = cc
marks_apart false false false goes clear same = cc

taken_apart : (access : Access) (r : Option Region) (fresh : ℕ) (shared : Bool) (s : Page) → can_complete access r s ≡ false → sign s ≡ sign (taken_over fresh shared r s) → ⊥
taken_apart Fetch r fresh shared s goes same = cc
taken_apart Load r fresh shared s goes same = cc
taken_apart Store r fresh shared s goes same = marks_apart s.cow s.dirty (keeps_stores r) goes (ap (λ t. t.1) same) (ap (λ t. t.2) same)

module _ (files : List File) (fresh : ℕ) (shared : Bool) (p : Process) (access : Access) (page : ℕ) where
  resident_from : (o : Option Page) → is_resident_page access (region_on p page) o ≡ true → (made_resident_from files fresh shared p access page o).settled ≡ p.settled
  resident_from None resident = absurd cc
  resident_from (Some s) resident = ap (λ b. (taken_over_unless fresh shared p page s b).settled) resident

  -- a resident page stays as it is
  pub resident_settled : is_resident p access page ≡ true → (made_resident files fresh shared p access page).settled ≡ p.settled
  resident_settled resident = resident_from (get p.settled page) resident

  pub resident_keeps : (x : Option Pending) → is_resident p access page ≡ true → changed p (record (made_resident files fresh shared p access page) { pending = x }) ≡ false
  resident_keeps x resident = same_settled p (record (made_resident files fresh shared p access page) { pending = x }) (resident_settled resident)

  made_from : (o : Option Page) → get p.settled page ≡ o → is_resident_page access (region_on p page) o ≡ false
      → sign_of (get p.settled page) ≡ sign_of (get (made_resident_from files fresh shared p access page o).settled page) → ⊥
  made_from None there resident same =
      let s : Page = record { bytes = initial_page files p page; copy = fresh; cow = false; dirty = leaves_mark access (region_on p page) } in
      none_apart (get p.settled page) (get (made_resident_from files fresh shared p access page None).settled page) s there (inserted_here page s p.settled page refl) same
  made_from (Some s) there resident same =
      let t = taken_over fresh shared (region_on p page) s in
      let is : get (made_resident_from files fresh shared p access page (Some s)).settled page ≡ Some t = ap (λ b. get (taken_over_unless fresh shared p page s b).settled page) resident ∙ inserted_here page t p.settled page refl in
      taken_apart access (region_on p page) fresh shared s resident (both_there _ _ s t there is same)

  -- one that is not resident gets another sign
  pub made_apart : is_resident p access page ≡ false → sign_of (get p.settled page) ≡ sign_of (get (made_resident files fresh shared p access page).settled page) → ⊥
  made_apart resident = made_from (get p.settled page) refl resident

  pub resident_changes : (x : Option Pending) → is_resident p access page ≡ false → changed p (record (made_resident files fresh shared p access page) { pending = x }) ≡ true
  resident_changes x resident = sign_changes p (record (made_resident files fresh shared p access page) { pending = x }) page (made_apart resident)

-- ---- fork, for the parent

fork_apart : (fork grants : Bool) → grants ≡ true → fork ≡ false → fork ≡ (fork || grants) → ⊥
fork_apart true grants g clear same = cc
fork_apart false true g clear same = cc
fork_apart false false g clear same = cc

fork_same : (fork grants : Bool) → (grants ≡ true → fork ≡ true) → fork ≡ (fork || grants)
fork_same true grants has = refl
fork_same false true has = has refl
fork_same false false has = refl

module _ (p : Process) where
  -- a page that grants writing gets the copy-on-write mark
  pub fork_changes : (n : ℕ) (s : Page) → get p.settled n ≡ Some s → grants_write p n ≡ true → s.cow ≡ false → changed p (marked p) ≡ true
  fork_changes n s there grants clear = sign_changes p (marked p) n (λ same.
      let is = both_there (get p.settled n) (get (marked p).settled n) s (marked_page p n s) there (each_there (marked_page p) p.settled n s there) same in
      fork_apart s.cow (grants_write p n) grants clear (ap (λ t. t.1) is))

  -- where every such page has it, nothing changes
  pub fork_keeps : ((n : ℕ) (s : Page) → get p.settled n ≡ Some s → grants_write p n ≡ true → s.cow ≡ true) → changed p (marked p) ≡ false
  fork_keeps has = signs_stay p (marked p) (λ n. by n (get p.settled n) refl ∙ ap sign_of (sym (each_answer (marked_page p) p.settled n)))
    where
      by : (n : ℕ) (o : Option Page) → get p.settled n ≡ o → sign_of (get p.settled n) ≡ sign_of (option_map (marked_page p n) (get p.settled n))
      by n None there = rw there refl
      by n (Some s) there =
          rw there (ap (λ (b : Bool). let t : Option (ℕ × Bool × Bool) = Some (s.copy, b, s.dirty) in t) (fork_same s.cow (grants_write p n) (has n s there)))

-- a flag that says whether there is a page without the mark tells whether a leaf changes
pub tells_marks : (p : Process) (b : Bool) → (b ≡ true → (n : ℕ) × (s : Page) × (get p.settled n ≡ Some s) × (grants_write p n ≡ true) × (s.cow ≡ false))
    → (b ≡ false → (n : ℕ) (s : Page) → get p.settled n ≡ Some s → grants_write p n ≡ true → s.cow ≡ true) → b ≡ changed p (marked p)
tells_marks p true some none = let x = some refl in sym (fork_changes p x.0 x.1 x.2 x.3 x.4)
tells_marks p false some none = sym (fork_keeps p (none refl))

-- ---- mmap

same_mapped : (m n : Mapped) → ◌≡◌ {A = Result Mapped Refusal} (Ok m) (Ok n) → m ≡ n
same_mapped m n is = cc

module _ (files : List File) (p : Process) (len protection flags n : ℕ) (m : Mapped) (is : mapped files p len protection flags n ≡ Ok m) where
  mapped_by : (r : Region) (o : Option Refusal) → mapped_unless p r o ≡ Ok m → (m.process).settled ≡ p.settled
  mapped_by r None e = ap (λ (v : Mapped). (v.process).settled) (sym (same_mapped _ m e))
  mapped_by r (Some x) e = absurd cc

  pub mmap_settled : (m.process).settled ≡ p.settled
  unfolding mapped
  mmap_settled = mapped_by _ (map_refusal files p len protection flags n) is

  pub mmap_keeps : changed p (without_pending m.process) ≡ false
  mmap_keeps = same_settled p (without_pending m.process) mmap_settled

-- ---- accesses of the user

module _ (p : Process) (a : AccessRequest) where
  abbrev SignsStay : Answer → Type 0
  SignsStay x = (n : ℕ) → sign_of (get p.settled n) ≡ sign_of (get (x.process).settled n)

  answer_sign : (access : Access) (s : Page) (offset width value : ℕ) → sign (access_answer access s offset width value).1 ≡ sign s
  answer_sign Fetch s offset width value = refl
  answer_sign Load s offset width value = refl
  answer_sign Store s offset width value = refl

  resident_signs : (s : Page) (b : Bool) → get p.settled (page_of a.address) ≡ Some s → SignsStay (if_resident p a s b)
  resident_signs s true there n =
      let x = access_answer a.access s (a.address % 4096) a.width a.value in
      signs_after_put p.settled (page_of a.address) s x.1 there (answer_sign a.access s (a.address % 4096) a.width a.value) n
  resident_signs s false there n = refl

  settled_signs : (o : Option Page) → get p.settled (page_of a.address) ≡ o → SignsStay (if_settled p a o)
  settled_signs None there n = refl
  settled_signs (Some s) there n = resident_signs s (can_complete a.access (region_on p (page_of a.address)) s) there n

  denied_signs : (o : Option Rule) → SignsStay (unless_denied p a o)
  denied_signs (Some r) n = refl
  denied_signs None n = settled_signs (get p.settled (page_of a.address)) refl n

  -- they change no leaf
  pub access_keeps : changed p (user_access p a).process ≡ false
  access_keeps = signs_stay p (user_access p a).process (denied_signs (first_rule p.scheme (regions p) a.access a.address a.width))

-- ---- exec

module _ (p : Process) (fresh : ℕ) (below : (n : ℕ) (a : Page) → get p.settled n ≡ Some a → a.copy < fresh) where
  -- a page with the first new copy number is another one
  new_apart : (n : ℕ) (o x : Option Page) (s : Page) → get p.settled n ≡ o → x ≡ Some s → s.copy ≡ fresh → sign_of o ≡ sign_of x → ⊥
  new_apart n None x s was there is same = none_apart None x s refl there same
  new_apart n (Some a) x s was there is same =
      let copies : a.copy ≡ s.copy = ap (λ t. t.0) (both_there (Some a) x a s refl there same) in
      let less = below n a was in
      omega (arith, copies, less, is)

  first_is_new : (q : Process) (e : ℕ × List ℕ) (es : List (ℕ × List ℕ)) → q.settled ≡ from_list (numbered fresh (e ∷ es)) → changed p q ≡ true
  first_is_new q e es is =
      let s : Page = record { bytes = e.1; copy = fresh; cow = false; dirty = false } in
      let there : get q.settled e.0 ≡ Some s = ap (λ (m : PageMap Page). get m e.0) is ∙ inserted_here e.0 s (from_list (numbered (fresh + 1) es)) e.0 refl in
      sign_changes p q e.0 (new_apart e.0 (get p.settled e.0) (get q.settled e.0) s refl there refl)

  -- all pages have new numbers, and there is at least one
  run_is_new : (q : Process) (xs : List (ℕ × List ℕ)) (first : ℕ) (bytes : List ℕ) (n : ℕ) → q.settled ≡ from_list (numbered fresh (xs ++ page_run first bytes (suc n))) → changed p q ≡ true
  run_is_new q [] first bytes n is = first_is_new q (first, padded 4096 bytes) (page_run (first + 1) (drop 4096 bytes) n) is
  run_is_new q (e ∷ es) first bytes n is = first_is_new q e (es ++ page_run first bytes (suc n)) is

-- exec gives new copy numbers
pub exec_changes : (scheme : Scheme) (p : Process) (fresh : ℕ) (ls : List LoadSegment) → ((n : ℕ) (a : Page) → get p.settled n ≡ Some a → a.copy < fresh) → changed p (process_of scheme fresh ls) ≡ true
unfolding process_of
exec_changes scheme p fresh ls below = run_is_new p fresh below (process_of scheme fresh ls) (flat_map load_pages ls) (end_of_loads 0 ls) [] 1 refl
