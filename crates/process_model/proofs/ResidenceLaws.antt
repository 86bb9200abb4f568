-- Laws of making a page resident: it is resident afterwards, and making it so again changes nothing; regions and other pages
-- stay (`SettlesPage`, `ServesPage`); it stays resident when its bytes change. Also what holds of an address that a kernel
-- copy reaches (`reached_in`): every address of its page is then granted, and reached without a change.
use Rattle.std.proofs.Common.{◌≡◌, ℕ, Bool, true, false, not, ◌||◌, ◌+◌, ◌%◌, inl, inr, refl, ap, sym, subst, ◌∙◌, arith, List, Option, None, Some, Result, Ok}
use Rattle.std.specs.Prelude.{nat_le, if◌then◌else◌}
use Rattle.std.proofs.lemmas.Bool.{cases_lt, eq-eqb, le-leb, lt-leb}
use Rattle.process_model.specs.Environment.{Environment, Progress, is_shared_page, need_at, resident_at_address, resident_at, unless_dry, unless_resident}
use Rattle.process_model.specs.Copies.{reached_in}
use Rattle.process_model.specs.Files.{File}
use Rattle.process_model.specs.Insertion.{inserted_here, inserted_other}
use Rattle.process_model.specs.PageMap.{get}
use Rattle.process_model.specs.Process.{Page, Process, heap_of, regions}
use Rattle.process_model.specs.Regions.{Region, copy_rule, first_rule, keeps_stores}
use Rattle.process_model.specs.Residence.{can_complete, is_resident, is_resident_page, leaves_mark, made_resident, made_resident_from}
use Rattle.process_model.specs.Residence.{initial_page, region_on, settled_anew, taken_over, taken_over_unless, with_page}
use Rattle.sv39_entry.specs.Address.{page_of}
use Rattle.sv39_entry.specs.Schemes.{maxva, of_scheme}
use Rattle.sv39_entry.specs.declared.access.Access.{Access}
use Rattle.sv39_entry.specs.declared.access.Access.TheVariants.{Fetch, Load, Store}
use Rattle.sv39_entry.specs.declared.rule.Rule.{Rule}
use Rattle.sv39_entry.specs.declared.scheme.Scheme.{Scheme}
use Rattle.sv39_entry.specs.declared.rule.Rule.TheVariants.{Misaligned}

-- ---- what changes in a process when one of its pages is made resident

-- in q the page is settled and resident, and the rest is as it was in p; of the tabled pages nothing is said
pub record SettlesPage (access : Access) (page : ℕ) (p q : Process) : Type 0 where
  pub scheme : q.scheme ≡ p.scheme
  pub parts : q.parts ≡ p.parts
  pub mappings : q.mappings ≡ p.mappings
  pub heap_base : q.heap_base ≡ p.heap_base
  pub heap : heap_of q ≡ heap_of p
  pub size : q.size ≡ p.size
  pub pending : q.pending ≡ p.pending
  pub regions : regions q ≡ regions p
  pub others : (n : ℕ) → (n ≡ page → ⊥) → get q.settled n ≡ get p.settled n
  pub settled : (s : Page) × (get q.settled page ≡ Some s)
  pub resident : is_resident q access page ≡ true

-- an access to a page that was just settled for it can complete
new_goes : (access : Access) (r : Option Region) (bytes : List ℕ) (copy : ℕ)
    → can_complete access r (record { bytes = bytes; copy = copy; cow = false; dirty = leaves_mark access r }) ≡ true
new_goes Fetch r bytes copy = refl
new_goes Load r bytes copy = refl
new_goes Store r bytes copy = either (keeps_stores r)
  where
    either : (b : Bool) → (b || not b) ≡ true
    either true = refl
    either false = refl

-- an access to a page that was just taken over can complete
taken_goes : (access : Access) (r : Option Region) (fresh : ℕ) (shared : Bool) (s : Page) → can_complete access r (taken_over fresh shared r s) ≡ true
taken_goes Fetch r fresh shared s = refl
taken_goes Load r fresh shared s = refl
taken_goes Store r fresh shared s = either s.dirty (keeps_stores r)
  where
    either : (b c : Bool) → ((b || c) || not c) ≡ true
    either true true = refl
    either true false = refl
    either false true = refl
    either false false = refl

-- a page is inserted at which the access can complete
put_settles : (access : Access) (page : ℕ) (p : Process) (s : Page) → can_complete access (region_on p page) s ≡ true
    → SettlesPage access page p (with_page p page s)
put_settles access page p s goes = record {
  scheme = refl;
  parts = refl;
  mappings = refl;
  heap_base = refl;
  heap = refl;
  size = refl;
  pending = refl;
  regions = refl;
  others = λ n apart. inserted_other page s p.settled n apart;
  settled = (s, inserted_here page s p.settled page refl);
  resident = ap (is_resident_page access (region_on p page)) (inserted_here page s p.settled page refl) ∙ goes;
}

anew_settles : (files : List File) (fresh : ℕ) (access : Access) (page : ℕ) (p : Process) → SettlesPage access page p (settled_anew files fresh p access page)
anew_settles files fresh access page p =
    let r = region_on p page in
    let s : Page = record { bytes = initial_page files p page; copy = fresh; cow = false; dirty = leaves_mark access r } in
    let put = put_settles access page p s (new_goes access r s.bytes fresh) in
    record {
      scheme = refl;
      parts = refl;
      mappings = refl;
      heap_base = refl;
      heap = refl;
      size = refl;
      pending = refl;
      regions = refl;
      others = put.others;
      settled = put.settled;
      resident = put.resident;
    }

-- the page is resident already
there_settles : (access : Access) (page : ℕ) (p : Process) (s : Page) → get p.settled page ≡ Some s
    → can_complete access (region_on p page) s ≡ true → SettlesPage access page p p
there_settles access page p s there goes = record {
  scheme = refl;
  parts = refl;
  mappings = refl;
  heap_base = refl;
  heap = refl;
  size = refl;
  pending = refl;
  regions = refl;
  others = λ n apart. refl;
  settled = (s, there);
  resident = ap (is_resident_page access (region_on p page)) there ∙ goes;
}

module _ (files : List File) (fresh : ℕ) (shared : Bool) (access : Access) (page : ℕ) (p : Process) where
  taken_settles : (s : Page) (b : Bool) → get p.settled page ≡ Some s → can_complete access (region_on p page) s ≡ b
      → SettlesPage access page p (taken_over_unless fresh shared p page s b)
  taken_settles s true there goes = there_settles access page p s there goes
  taken_settles s false there goes =
      put_settles access page p (taken_over fresh shared (region_on p page) s) (taken_goes access (region_on p page) fresh shared s)

  from_settles : (o : Option Page) → get p.settled page ≡ o → SettlesPage access page p (made_resident_from files fresh shared p access page o)
  from_settles None there = anew_settles files fresh access page p
  from_settles (Some s) there = taken_settles s (can_complete access (region_on p page) s) there refl

  pub made_settles : SettlesPage access page p (made_resident files fresh shared p access page)
  made_settles = from_settles (get p.settled page) refl

-- ---- pages made resident in the middle of a call

-- making a resident page resident changes nothing
pub resident_again : (a : Environment) (access : Access) (page : ℕ) (g : Progress) → is_resident g.process access page ≡ true
    → resident_at a access page g ≡ Ok g
unfolding resident_at
resident_again a access page g resident = ap (unless_resident a access page g) resident

-- the page is resident in h, whose process is otherwise that of g, and making it resident once more changes nothing
pub record ServesPage (a : Environment) (access : Access) (page : ℕ) (g h : Progress) : Type 0 where
  pub change : SettlesPage access page g.process h.process
  pub open change use *
  pub again : resident_at a access page h ≡ Ok h

same_progress : (g h : Progress) → ◌≡◌ {A = Result Progress Rule} (Ok g) (Ok h) → g ≡ h
same_progress g h is = cc

module _ (a : Environment) (access : Access) (page : ℕ) (g h : Progress) where
  serves : SettlesPage access page g.process h.process → ServesPage a access page g h
  serves change = record { change = change; again = resident_again a access page h change.resident }

  -- a resident page is settled
  found : (o : Option Page) → get g.process.settled page ≡ o → is_resident_page access (region_on g.process page) o ≡ true
      → SettlesPage access page g.process g.process
  found None there resident = absurd (cc)
  found (Some s) there resident = there_settles access page g.process s there resident

  after_dry : (need : ℕ) (b : Bool) → unless_dry a access page g need b ≡ Ok h → SettlesPage access page g.process h.process
  after_dry need true is = absurd (cc)
  after_dry need false is =
      let made = made_settles a.files g.fresh (is_shared_page a g.process page) access page g.process in
      subst (λ (k : Progress). SettlesPage access page g.process k.process) (same_progress _ h is) made

  after_test : (b : Bool) → is_resident g.process access page ≡ b → unless_resident a access page g b ≡ Ok h → SettlesPage access page g.process h.process
  after_test true resident is =
      subst (λ (k : Progress). SettlesPage access page g.process k.process) (same_progress g h is) (found (get g.process.settled page) refl resident)
  after_test false resident is = let need = need_at a access page g.process in after_dry need (a.is_dry page (g.taken + need)) is

  -- h after a page of g was made resident: the page is resident, and nothing else changed (`ServesPage`)
  pub made_serves : resident_at a access page g ≡ Ok h → ServesPage a access page g h
  unfolding resident_at
  made_serves is = serves (after_test (is_resident g.process access page) refl is)

-- ---- a page stays resident when its bytes change

same_goes : (access : Access) (r : Option Region) (s : Page) (bs : List ℕ) → can_complete access r (record s { bytes = bs }) ≡ can_complete access r s
same_goes Fetch r s bs = refl
same_goes Load r s bs = refl
same_goes Store r s bs = refl

module _ (access : Access) (page : ℕ) (s : Page) (bs : List ℕ) where
  pub stays_resident : (p : Process) → get p.settled page ≡ Some s → is_resident p access page ≡ true
      → is_resident (with_page p page (record s { bytes = bs })) access page ≡ true
  stays_resident p there resident =
      let through = is_resident_page access (region_on p page) in
      ap through (inserted_here page (record s { bytes = bs }) p.settled page refl) ∙ same_goes access (region_on p page) s bs
      ∙ sym (ap through there) ∙ resident

  pub stays : (a : Environment) (g : Progress) → get g.process.settled page ≡ Some s → is_resident g.process access page ≡ true
      → let g' = record g { process = with_page g.process page (record s { bytes = bs }) } in resident_at a access page g' ≡ Ok g'
  stays a g there resident =
      resident_again a access page (record g { process = with_page g.process page (record s { bytes = bs }) }) (stays_resident g.process there resident)

-- ---- addresses of one page

same_beyond : (s : Scheme) (x y : ℕ) → page_of x ≡ page_of y → nat_le (maxva s) x ≡ nat_le (maxva s) y
same_beyond s x y same =
    let facts = of_scheme s in
    elim (cases_lt x (maxva s)) [
      | inl below ↦ lt-leb (maxva s) x below ∙ sym (lt-leb (maxva s) y (omega (arith, same, below, facts)))
      | inr above ↦ le-leb (maxva s) x above ∙ sym (le-leb (maxva s) y (omega (arith, same, above, facts)))
    ]

-- addresses of one page are denied by one rule, or none of them is denied
pub same_rule : (s : Scheme) (rs : List Region) (access : Access) (x y : ℕ) → page_of x ≡ page_of y → copy_rule s rs access x ≡ copy_rule s rs access y
same_rule s rs access x y same = rw (same_beyond s x y same, same) refl

-- a byte is never misaligned
pub no_alignment : (s : Scheme) (rs : List Region) (access : Access) (address : ℕ) → first_rule s rs access address 1 ≡ copy_rule s rs access address
no_alignment s rs access address =
    let none : address % 1 ≡ 0 = omega arith in
    ap (λ b. if b then copy_rule s rs access address else Some Misaligned) (eq-eqb (address % 1) 0 none)

module _ (a : Environment) (access : Access) (g : Progress) where
  -- if an address is reached, no rule denies it, and its page is made resident
  pub reached_parts : (h : Progress) (x : ℕ) → reached_in a access g x ≡ Ok h
      → (copy_rule g.process.scheme (regions g.process) access x ≡ None) × (resident_at a access (page_of x) g ≡ Ok h)
  reached_parts h x is = go (copy_rule g.process.scheme (regions g.process) access x) refl is
    where
      go : (o : Option Rule) → copy_rule g.process.scheme (regions g.process) access x ≡ o → resident_at_address a access x g o ≡ Ok h
          → (o ≡ None) × (resident_at a access (page_of x) g ≡ Ok h)
      go None rule at = (refl, at)
      go (Some r) rule at = absurd (cc)

  -- the page of an address that is reached is resident afterwards, and nothing else changed (`ServesPage`)
  pub reached_serves : (h : Progress) (x : ℕ) → reached_in a access g x ≡ Ok h → ServesPage a access (page_of x) g h
  reached_serves h x is = made_serves a access (page_of x) g h (reached_parts h x is).1

  -- an address that no rule denies, on a resident page, is reached without a change
  pub reached_at_once : (x : ℕ) → copy_rule g.process.scheme (regions g.process) access x ≡ None → resident_at a access (page_of x) g ≡ Ok g
      → reached_in a access g x ≡ Ok g
  reached_at_once x rule is = ap (resident_at_address a access x g) rule ∙ is

-- after an address x was reached, every address y of its page is granted and reached without a change
module _ (a : Environment) (access : Access) (g h : Progress) (x y : ℕ) (is : reached_in a access g x ≡ Ok h) (same : page_of y ≡ page_of x) where
  pub granted_again : copy_rule h.process.scheme (regions h.process) access y ≡ None
  granted_again =
      same_rule h.process.scheme (regions h.process) access y x same
      ∙ ap (λ rs. copy_rule h.process.scheme rs access x) (reached_serves a access g h x is).regions
      ∙ ap (λ s. copy_rule s (regions g.process) access x) (reached_serves a access g h x is).scheme
      ∙ (reached_parts a access g h x is).0

  pub reached_again : reached_in a access h y ≡ Ok h
  reached_again = reached_at_once a access h y granted_again (ap (λ page. resident_at a access page h) same ∙ (reached_serves a access g h x is).again)
