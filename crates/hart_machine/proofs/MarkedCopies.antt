-- Lemmas on kernel copies in the model: a flag that tells whether a page became resident (its access then succeeds without a
-- fault) also tells whether the process's leaves changed (`copied_in_told`, `copied_out_told`); regions and scheme stay.
use Rattle.std.proofs.Common.{◌≡◌, ◌⊎◌, ℕ, zero, suc, Bool, true, false, not, ◌+◌, ◌<◌, ◌≤◌, inl, inr, refl, ap, sym, subst, ◌∙◌, arith, List, [], ◌∷◌, length, Option, None, Some, Result, Ok, Err}
use Rattle.std.specs.Prelude.{zip, ◌&&◌, ◌||◌, ◌%◌}
use Rattle.std.proofs.lemmas.Bool.{cases_eq, true≢false}
use Rattle.std.proofs.lemmas.Option.{same_Some}
use Rattle.address_space.specs.Accesses.{IsGranted}
use Rattle.process_model.specs.Environment.{Environment, Progress}
use Rattle.process_model.specs.Bytes.{numbers_from}
use Rattle.process_model.specs.Copies.{Copied, copied_in, copied_out, copy_begun, next_in, next_out, one_in, one_out, reached_in, with_byte, with_byte_on}
use Rattle.process_model.proofs.CopyRuns.{more_in, more_out}
use Rattle.hart_machine.proofs.ChangedSlots.{changed, sign, sign_changes, sign_of, signs_after_put, signs_stay}
use Rattle.process_model.specs.PageMap.{get}
use Rattle.process_model.specs.Process.{Page, Process, regions}
use Rattle.process_model.proofs.ResidenceLaws.{reached_parts, reached_serves, resident_again, same_rule}
use Rattle.process_model.specs.Regions.{copy_rule, Region, keeps_stores, region_at}
use Rattle.process_model.specs.Residence.{can_complete, is_resident, is_resident_page, region_on, stored}
use Rattle.sv39_entry.specs.Address.{page_of}
use Rattle.sv39_entry.specs.declared.access.Access.{Access}
use Rattle.sv39_entry.specs.declared.access.Access.TheVariants as access
use Rattle.sv39_entry.specs.declared.rule.Rule.{Rule}
use Rattle.hart_machine.specs.Marks.{TellsResidence}

-- ---- whether a page is resident follows from its region and its sign

goes_by_sign : (kind : Access) (r : Option Region) (s t : Page) → sign s ≡ sign t → can_complete kind r s ≡ can_complete kind r t
goes_by_sign access.Fetch r s t same = refl
goes_by_sign access.Load r s t same = refl
goes_by_sign access.Store r s t same = ap (λ (x : ℕ × Bool × Bool). not x.1 && (x.2 || not (keeps_stores r))) same

page_by_sign : (kind : Access) (r : Option Region) (o x : Option Page) → sign_of o ≡ sign_of x → is_resident_page kind r o ≡ is_resident_page kind r x
page_by_sign kind r None None same = refl
page_by_sign kind r None (Some t) same = absurd cc
page_by_sign kind r (Some s) None same = absurd cc
page_by_sign kind r (Some s) (Some t) same = goes_by_sign kind r s t (same_Some (sign s) (sign t) same)

pub resident_by_sign : (kind : Access) (p q : Process) (k : ℕ) → regions q ≡ regions p → sign_of (get p.settled k) ≡ sign_of (get q.settled k) → is_resident p kind k ≡ is_resident q kind k
resident_by_sign kind p q k same signs =
    page_by_sign kind (region_on p k) (get p.settled k) (get q.settled k) signs ∙ ap (λ rs. is_resident_page kind (region_at rs k) (get q.settled k)) (sym same)

same_progress : (g h : Progress) → ◌≡◌ {A = Result Progress Rule} (Ok g) (Ok h) → g ≡ h
same_progress g h is = cc

-- ---- what holds all along a copy

-- no rule denies the accesses of a page
abbrev pub MayReach : Access → Process → ℕ → Type 0
MayReach kind p k = (x : ℕ) × (page_of x ≡ k) × (copy_rule p.scheme (regions p) kind x ≡ None)

-- the rules of a process that has the scheme and the regions of another
same_rules : (kind : Access) (p q : Process) (x : ℕ) → q.scheme ≡ p.scheme → regions q ≡ regions p → copy_rule q.scheme (regions q) kind x ≡ copy_rule p.scheme (regions p) kind x
same_rules kind p q x scheme same = ap (λ k. copy_rule k (regions q) kind x) scheme ∙ ap (λ rs. copy_rule p.scheme rs kind x) same

-- of the process p where it has become q: its regions stay, and each page has its sign still, or was not resident and is, and is one of
-- those that the copy comes to, which no rule denies
record Comes (kind : Access) (R : ℕ → Type 0) (p q : Process) : Type 0 where
  regions : regions q ≡ regions p
  scheme : q.scheme ≡ p.scheme
  each : (k : ℕ) → (sign_of (get p.settled k) ≡ sign_of (get q.settled k)) ⊎ ((is_resident p kind k ≡ false) × (is_resident q kind k ≡ true) × R k × MayReach kind p k)

module _ (a : Environment) (kind : Access) (R : ℕ → Type 0) (p : Process) where
  begins : Comes kind R p p
  begins = record { regions = refl; scheme = refl; each = λ k. inl refl }

  -- other bytes leave signs and residence
  keeps : (q r : Process) → r.scheme ≡ q.scheme → regions r ≡ regions q → ((k : ℕ) → sign_of (get q.settled k) ≡ sign_of (get r.settled k)) → Comes kind R p q → Comes kind R p r
  keeps q r schemed same signs comes = record {
    regions = same ∙ comes.regions;
    scheme = schemed ∙ comes.scheme;
    each = λ k. elim (comes.each k) [
      | inl sign ↦ inl (sign ∙ signs k)
      | inr went ↦ inr (went.0, sym (resident_by_sign kind q r k same (signs k)) ∙ went.1, went.2, went.3)
    ];
  }

  -- an address is reached
  module _ (g h : Progress) (x : ℕ) (here : R (page_of x)) (is : reached_in a kind g x ≡ Ok h) (comes : Comes kind R p g.process) where
    was_not : is_resident g.process kind (page_of x) ≡ false → is_resident p kind (page_of x) ≡ false
    was_not now = elim (comes.each (page_of x)) [
      | inl sign ↦ resident_by_sign kind p g.process (page_of x) comes.regions sign ∙ now
      | inr went ↦ went.0
    ]

    by_residence : (b : Bool) → is_resident g.process kind (page_of x) ≡ b → Comes kind R p h.process
    by_residence true now =
        let same : g ≡ h = same_progress g h (sym (resident_again a kind (page_of x) g now) ∙ (reached_parts a kind g h x is).1) in
        subst (λ (i : Progress). Comes kind R p i.process) same comes
    by_residence false now =
        let serves = reached_serves a kind g h x is in
        record {
          regions = serves.regions ∙ comes.regions;
          scheme = serves.scheme ∙ comes.scheme;
          each = λ k. elim (cases_eq k (page_of x)) [
            | inl same ↦ inr (ap (is_resident p kind) same ∙ was_not now, ap (is_resident h.process kind) same ∙ serves.resident, subst R (sym same) here, (x, sym same, sym (same_rules kind p g.process x comes.scheme comes.regions) ∙ (reached_parts a kind g h x is).0))
            | inr apart ↦ elim (comes.each k) [
              | inl sign ↦ inl (sign ∙ ap sign_of (sym (serves.others k apart)))
              | inr went ↦ inr (went.0, sym (resident_by_sign kind g.process h.process k serves.regions (ap sign_of (sym (serves.others k apart)))) ∙ went.1, went.2, went.3)
            ]
          ];
        }

    reaches : Comes kind R p h.process
    reaches = by_residence (is_resident g.process kind (page_of x)) refl

-- ---- along the addresses

module _ (a : Environment) (R : ℕ → Type 0) (p : Process) where
  abbrev ComesIn : Copied → Type 0
  ComesIn c = Comes access.Load R p (c.progress).process

  one_comes_in : (c : Copied) (x : ℕ) (o : Result Progress Rule) → reached_in a access.Load c.progress x ≡ o → R (page_of x) → ComesIn c → ComesIn (one_in c x o)
  one_comes_in c x (Err r) is here comes = comes
  one_comes_in c x (Ok h) is here comes = reaches a access.Load R p c.progress h x here is comes

  next_comes_in : (c : Copied) (x : ℕ) (o : Option Rule) → R (page_of x) → ComesIn c → ComesIn (next_in a c x o)
  next_comes_in c x (Some r) here comes = comes
  next_comes_in c x None here comes = one_comes_in c x (reached_in a access.Load c.progress x) refl here comes

  more_comes_in : (n x : ℕ) (c : Copied) → ((y : ℕ) → x ≤ y → y < x + n → R (page_of y)) → ComesIn c → ComesIn (more_in a c (numbers_from x n))
  more_comes_in zero x c all comes = comes
  more_comes_in (suc n) x c all comes =
      more_comes_in n (x + 1) (next_in a c x c.stop) (λ y from to. all y (omega arith) (omega arith)) (next_comes_in c x c.stop (all x (omega arith) (omega arith)) comes)

  abbrev ComesOut : Copied → Type 0
  ComesOut c = Comes access.Store R p (c.progress).process

  byte_regions : (q : Process) (x b : ℕ) (o : Option Page) → regions (with_byte_on q x b o) ≡ regions q
  byte_regions q x b None = refl
  byte_regions q x b (Some s) = refl

  byte_scheme : (q : Process) (x b : ℕ) (o : Option Page) → (with_byte_on q x b o).scheme ≡ q.scheme
  byte_scheme q x b None = refl
  byte_scheme q x b (Some s) = refl

  byte_signs : (q : Process) (x b : ℕ) (o : Option Page) → get q.settled (page_of x) ≡ o → (k : ℕ) → sign_of (get q.settled k) ≡ sign_of (get (with_byte_on q x b o).settled k)
  byte_signs q x b None there k = refl
  byte_signs q x b (Some s) there k = signs_after_put q.settled (page_of x) s (stored s (x % 4096) (b ∷ [])) there refl k

  -- a byte is put where the address is reached
  put_comes : (q : Process) (x b : ℕ) → Comes access.Store R p q → Comes access.Store R p (with_byte q x b)
  put_comes q x b comes =
      keeps a access.Store R p q (with_byte q x b) (byte_scheme q x b (get q.settled (page_of x))) (byte_regions q x b (get q.settled (page_of x))) (byte_signs q x b (get q.settled (page_of x)) refl) comes

  one_comes_out : (c : Copied) (x b : ℕ) (o : Result Progress Rule) → reached_in a access.Store c.progress x ≡ o → R (page_of x) → ComesOut c → ComesOut (one_out c x b o)
  one_comes_out c x b (Err r) is here comes = comes
  one_comes_out c x b (Ok h) is here comes = put_comes h.process x b (reaches a access.Store R p c.progress h x here is comes)

  next_comes_out : (c : Copied) (x b : ℕ) (o : Option Rule) → R (page_of x) → ComesOut c → ComesOut (next_out a c (x, b) o)
  next_comes_out c x b (Some r) here comes = comes
  next_comes_out c x b None here comes = one_comes_out c x b (reached_in a access.Store c.progress x) refl here comes

  more_comes_out : (bytes : List ℕ) (x : ℕ) (c : Copied) → ((y : ℕ) → x ≤ y → y < x + length bytes → R (page_of y)) → ComesOut c → ComesOut (more_out a c (zip (numbers_from x (length bytes)) bytes))
  more_comes_out [] x c all comes = comes
  more_comes_out (b ∷ bytes) x c all comes =
      more_comes_out bytes (x + 1) (next_out a c (x, b) c.stop) (λ y from to. all y (omega arith) (omega arith)) (next_comes_out c x b c.stop (all x (omega arith) (omega arith)) comes)

-- ---- what that tells of marks

-- the page of an address, and the next one
abbrev pub IsNear : ℕ → ℕ → Type 0
IsNear address k = (k ≡ page_of address) ⊎ (k ≡ page_of address + 1)

is_not : (b : Bool) → (b ≡ true → ⊥) → b ≡ false
is_not true never = absurd (never refl)
is_not false never = refl

module _ (kind : Access) (R : ℕ → Type 0) (p q : Process) (comes : Comes kind R p q) where
  -- a page that was not resident and is has another sign
  comes_changes : (k : ℕ) → is_resident p kind k ≡ false → is_resident q kind k ≡ true → changed p q ≡ true
  comes_changes k was is = sign_changes p q k (λ same. true≢false (sym is ∙ sym (resident_by_sign kind p q k comes.regions same) ∙ was))

  -- where there is none, every page has its sign
  comes_keeps : ((k : ℕ) → R k → MayReach kind p k → is_resident q kind k ≡ true → is_resident p kind k ≡ true) → changed p q ≡ false
  comes_keeps none = signs_stay p q (λ k. elim (comes.each k) [
    | inl sign ↦ sign
    | inr went ↦ absurd (true≢false (sym (none k went.2 went.3 went.1) ∙ went.0))
  ])

  -- a page that was resident is
  comes_stays : (k : ℕ) → is_resident p kind k ≡ true → is_resident q kind k ≡ true
  comes_stays k was = elim (comes.each k) [
    | inl sign ↦ sym (resident_by_sign kind p q k comes.regions sign) ∙ was
    | inr went ↦ went.1
  ]

  module _ (address : ℕ) (near : (k : ℕ) → R k → IsNear address k) where
    -- a flag that tells residence at the two pages tells whether a leaf changed
    told_by : (flag : Bool) → TellsResidence flag p q kind address → flag ≡ changed p q
    told_by true tells = sym (elim (tells.some refl).1 [
      | inl lost ↦
          let granted = lost.0 in
          absurd (lost.1 (same_rules kind p q (tells.some refl).0 comes.scheme comes.regions ∙ granted.0, comes_stays (page_of (tells.some refl).0) granted.1))
      | inr gained ↦
          let granted = gained.1 in
          comes_changes (page_of (tells.some refl).0)
          (is_not _ (λ was. gained.0 (sym (same_rules kind p q (tells.some refl).0 comes.scheme comes.regions) ∙ granted.0, was))) granted.1
    ])
    told_by false tells = sym (comes_keeps (λ k here may resident. elim (near k here) [
      | inl at ↦ (at_page k may resident address (sym at) (tells.none refl address (inl refl))).1
      | inr at ↦ (at_page k may resident (address + 4096) (omega (arith, at)) (tells.none refl (address + 4096) (inr refl))).1
    ])) where
      at_page : (k : ℕ) → MayReach kind p k → is_resident q kind k ≡ true → (x : ℕ) → page_of x ≡ k → (IsGranted q kind x → IsGranted p kind x)
          → (copy_rule p.scheme (regions p) kind x ≡ None) × (is_resident p kind k ≡ true)
      at_page k may resident x at was =
          let rule = same_rule p.scheme (regions p) kind x may.0 (at ∙ sym may.1) ∙ may.2 in
          let granted = was (same_rules kind p q x comes.scheme comes.regions ∙ rule, ap (is_resident q kind) at ∙ resident) in
          (granted.0, ap (is_resident p kind) (sym at) ∙ granted.1)

-- a copy of at most a page's worth of bytes comes to at most two pages

near : (address n : ℕ) → n ≤ 4096 → (y : ℕ) → address ≤ y → y < address + n → IsNear address (page_of y)
near address n most y from to = elim (cases_eq (page_of y) (page_of address)) [
  | inl same ↦ inl same
  | inr apart ↦ inr (omega (arith, most, from, to, apart))
]

module _ (a : Environment) (g : Progress) (address : ℕ) where
  module _ (n : ℕ) (most : n ≤ 4096) where
    abbrev after_in : Process
    after_in = ((copied_in a g address n).progress).process

    comes_in : Comes access.Load (IsNear address) g.process after_in
    unfolding copied_in
    comes_in = more_comes_in a (IsNear address) g.process n address (copy_begun g) (near address n most) (begins a access.Load (IsNear address) g.process)

    -- the regions stay
    pub copied_in_regions : regions after_in ≡ regions g.process
    copied_in_regions = comes_in.regions

    pub copied_in_scheme : after_in.scheme ≡ g.process.scheme
    copied_in_scheme = comes_in.scheme

    -- a flag that tells residence tells whether a leaf changed
    pub copied_in_told : (flag : Bool) → TellsResidence flag g.process after_in access.Load address → flag ≡ changed g.process after_in
    copied_in_told = told_by access.Load (IsNear address) g.process after_in comes_in address (λ k here. here)

  module _ (bytes : List ℕ) (most : length bytes ≤ 4096) where
    abbrev after_out : Process
    after_out = ((copied_out a g address bytes).progress).process

    comes_out : Comes access.Store (IsNear address) g.process after_out
    unfolding copied_out
    comes_out = more_comes_out a (IsNear address) g.process bytes address (copy_begun g) (near address (length bytes) most) (begins a access.Store (IsNear address) g.process)

    -- the same of copies to the process
    pub copied_out_regions : regions after_out ≡ regions g.process
    copied_out_regions = comes_out.regions

    pub copied_out_scheme : after_out.scheme ≡ g.process.scheme
    copied_out_scheme = comes_out.scheme

    pub copied_out_told : (flag : Bool) → TellsResidence flag g.process after_out access.Store address → flag ≡ changed g.process after_out
    copied_out_told = told_by access.Store (IsNear address) g.process after_out comes_out address (λ k here. here)
