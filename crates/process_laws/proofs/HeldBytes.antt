-- `held`: the byte of a settled page at an address of the process in a slot of a world. Lemmas: what a world holds after one
-- slot is set or emptied (`Puts`), and that an address that is reached has its page settled and no other byte changed.
use Rattle.std.proofs.Common.{◌≡◌, ◌≢◌, ℕ, zero, suc, Bool, true, false, cond, ◌&&◌, ◌==◌, ◌+◌, ◌<◌, refl, sym, ap, ◌∙◌, arith, inl, inr, List, [], ◌∷◌, length, Option, None, Some}
use Rattle.std.specs.Prelude.{slice_get, slice_set, Result, Ok, Err}
use Rattle.std.proofs.lemmas.Bool.{cases_eq, eq-eqb, ne_eqb, false≢true}
use Rattle.std.proofs.lemmas.Option.{same_Some}
use Rattle.sv39_entry.specs.Address.{page_of}
use Rattle.sv39_entry.specs.declared.access.Access.{Access}
use Rattle.sv39_entry.specs.declared.rule.Rule.{Rule}
use Rattle.process_model.specs.PageMap.{get}
use Rattle.process_model.specs.Process.{Process, Page}
use Rattle.process_model.specs.Regions.{Region}
use Rattle.process_model.specs.Files.{File}
use Rattle.process_model.specs.Residence.{is_resident_page, is_resident, region_on}
use Rattle.process_model.specs.Environment.{Environment, Progress, unless_dry, unless_resident, resident_at, resident_at_address}
use Rattle.process_model.specs.World.{World, flat, process_in, has_slot, lowest_free}
use Rattle.process_laws.specs.Moments.{slot_on}
use Rattle.process_laws.proofs.PageBytes.{contents, AllSized, byte_in, SettlesPage, stays_settled, resident_settles}

pub none_some : {A : Type 0} {x : A} → None ≡ Some x → ⊥
none_some e = cc

abbrev pub byte_held : Option Process → ℕ → Option ℕ
byte_held None a = None
byte_held (Some p) a = byte_in p.settled a

-- the byte of the settled page of the process in slot s at address a
abbrev pub held : World → ℕ → ℕ → Option ℕ
held w s a = byte_held (process_in w s) a

pub record Sized (w : World) : Type 0 where
  pub pages : (s : ℕ) (p : Process) → process_in w s ≡ Some p → AllSized p.settled

-- v has this in slot t, and else what w has
pub record Puts (w : World) (t : ℕ) (o : Option Process) (v : World) : Type 0 where
  pub here : process_in v t ≡ o
  pub others : (s : ℕ) → t ≢ s → process_in v s ≡ process_in w s

set_here : {A : Type 0} (xs : List A) (i : ℕ) (x : A) → i < length xs → slice_get (slice_set xs i x) i ≡ Some x
set_here [] i x l = absurd (omega arith)
set_here (y ∷ ys) zero x l = refl
set_here (y ∷ ys) (suc i) x l = set_here ys i x (omega arith)

set_other : {A : Type 0} (xs : List A) (i j : ℕ) (x : A) → i ≢ j → slice_get (slice_set xs i x) j ≡ slice_get xs j
set_other [] i j x ne = refl
set_other (y ∷ ys) zero zero x ne = absurd (ne refl)
set_other (y ∷ ys) zero (suc j) x ne = refl
set_other (y ∷ ys) (suc i) zero x ne = refl
set_other (y ∷ ys) (suc i) (suc j) x ne = set_other ys i j x (λ e. ne (ap suc e))

slot_there : (slots : List (Option Process)) (t : ℕ) (p : Process) → flat (slice_get slots t) ≡ Some p → t < length slots
slot_there [] t p e = cc
slot_there (o ∷ slots) zero p e = omega arith
slot_there (o ∷ slots) (suc t) p e = let rest : t < length slots = slot_there slots t p e in omega arith

-- a process stands in a slot that is there
pub in_range : (w : World) (t : ℕ) (p : Process) → process_in w t ≡ Some p → t < length w.slots
in_range w t p e = slot_there w.slots t p e

-- so does a free slot
pub free_there : (slots : List (Option Process)) (n t : ℕ) → lowest_free n slots ≡ Some t → t < n + length slots
free_there [] n t e = cc
free_there (None ∷ slots) n t e = let same : n ≡ t = same_Some n t e in omega arith
free_there (Some p ∷ slots) n t e = let rest : t < n + 1 + length slots = free_there slots (n + 1) t e in omega arith

pub set_puts : (w v : World) (t : ℕ) (o : Option Process) → t < length w.slots → v.slots ≡ slice_set w.slots t o → Puts w t o v
set_puts w v t o l e = record {
  here = ap (λ slots. flat (slice_get slots t)) e ∙ ap flat (set_here w.slots t o l);
  others = λ s ne. ap (λ slots. flat (slice_get slots s)) e ∙ ap flat (set_other w.slots t s o ne);
}

-- what is held afterwards
pub held_put : (w v : World) (t : ℕ) (o : Option Process) → Puts w t o v → (s a : ℕ) → held v s a ≡ cond (t == s) (byte_held o a) (held w s a)
held_put w v t o f s a = elim (cases_eq t s) [
  | inl same ↦ ap (λ n. held v n a) (sym same) ∙ ap (λ q. byte_held q a) f.here ∙ sym (ap (λ b. cond b (byte_held o a) (held w s a)) (eq-eqb t s same))
  | inr ne ↦ ap (λ q. byte_held q a) (f.others s ne) ∙ sym (ap (λ b. cond b (byte_held o a) (held w s a)) (ne_eqb t s ne))
]

sized_put : (w v : World) (t : ℕ) (o : Option Process) → Puts w t o v → ((q : Process) → o ≡ Some q → AllSized q.settled) → Sized w → Sized v
sized_put w v t o f g k = record {
  pages = λ s p e. elim (cases_eq t s) [
    | inl same ↦ g p (sym f.here ∙ ap (process_in v) same ∙ e)
    | inr ne ↦ k.pages s p (sym (f.others s ne) ∙ e)
  ];
}

sized_at : (p q : Process) → AllSized p.settled → Some p ≡ Some q → AllSized q.settled
sized_at p q s e = record { size = λ n bs is. s.size n bs (ap (λ r. contents r.settled n) (same_Some p q e) ∙ is) }

pub sized_process : (w v : World) (t : ℕ) (p : Process) → Puts w t (Some p) v → AllSized p.settled → Sized w → Sized v
sized_process w v t p f s k = sized_put w v t (Some p) f (λ q e. sized_at p q s e) k

pub sized_gone : (w v : World) (t : ℕ) → Puts w t None v → Sized w → Sized v
sized_gone w v t f k = sized_put w v t None f (λ q e. cc) k

-- the same, in the words of what is known after a step

pub told_put : (w v : World) (h t : ℕ) (o : Option Process) (X : ℕ → ℕ → Option ℕ) → slot_on w h ≡ Some t → Puts w t o v → ((a : ℕ) → byte_held o a ≡ X t a)
    → (s a : ℕ) → held v s a ≡ cond (has_slot s (slot_on w h)) (X s a) (held w s a)
told_put w v h t o X on f told s a = held_put w v t o f s a
    ∙ elim (cases_eq t s) [
      | inl same ↦ ap (λ b. cond b (byte_held o a) (held w s a)) (eq-eqb t s same) ∙ told a ∙ ap (λ n. X n a) same ∙ sym (ap (λ b. cond b (X s a) (held w s a)) (eq-eqb t s same))
      | inr ne ↦ ap (λ b. cond b (byte_held o a) (held w s a)) (ne_eqb t s ne) ∙ sym (ap (λ b. cond b (X s a) (held w s a)) (ne_eqb t s ne))
    ]
    ∙ ap (λ u. cond (has_slot s u) (X s a) (held w s a)) (sym on)

within_slot : {A : Type 0} (b c : Bool) (x y : A) → cond b (cond c x y) y ≡ cond (b && c) x y
within_slot true c x y = refl
within_slot false c x y = refl

pub told_where : (w v : World) (h t : ℕ) (o : Option Process) (c : ℕ → ℕ → Bool) (X : ℕ → ℕ → Option ℕ) → slot_on w h ≡ Some t → Puts w t o v → ((a : ℕ) → byte_held o a ≡ cond (c t a) (X t a) (held w t a))
    → (s a : ℕ) → held v s a ≡ cond (has_slot s (slot_on w h) && c s a) (X s a) (held w s a)
told_where w v h t o c X on f told s a = told_put w v h t o (λ n b. cond (c n b) (X n b) (held w n b)) on f told s a ∙ within_slot (has_slot s (slot_on w h)) (c s a) (X s a) (held w s a)

pub told_same : (w v : World) (t : ℕ) (o : Option Process) → Puts w t o v → ((a : ℕ) → byte_held o a ≡ held w t a) → (s a : ℕ) → held v s a ≡ held w s a
told_same w v t o f told s a = elim (cases_eq t s) [
  | inl same ↦ ap (λ n. held v n a) (sym same) ∙ ap (λ q. byte_held q a) f.here ∙ told a ∙ ap (λ n. held w n a) same
  | inr ne ↦ ap (λ q. byte_held q a) (f.others s ne)
]

-- an address that is reached has its page settled, and nothing else changes
pub data Reaches (files : List File) (page : ℕ) (p : Process) : Result Progress Rule → Type 0 where
  stopped : {r : Rule} → Reaches files page p (Err r)
  came : {g : Progress} → SettlesPage files page p g.process → Reaches files page p (Ok g)

there_page : (access : Access) (r : Option Region) (o : Option Page) → is_resident_page access r o ≡ true → (x : Page) × (o ≡ Some x)
there_page access r None e = absurd (false≢true e)
there_page access r (Some x) e = (x, refl)

module _ (a : Environment) (g : Progress) (sized : AllSized (g.process).settled) (access : Access) (page : ℕ) where
  dry_reaches : (need : ℕ) (b : Bool) → Reaches a.files page g.process (unless_dry a access page g need b)
  dry_reaches need true = stopped
  dry_reaches need false = came (resident_settles a.files g.fresh _ g.process access page sized)

  resident_reaches : (b : Bool) → is_resident g.process access page ≡ b → Reaches a.files page g.process (unless_resident a access page g b)
  resident_reaches true e = let x = there_page access (region_on g.process page) (get (g.process).settled page) e in came (stays_settled a.files g.process page x.0 x.1 sized)
  resident_reaches false e = dry_reaches _ _

pub reached_reaches : (a : Environment) (access : Access) (address : ℕ) (g : Progress) (o : Option Rule) → AllSized (g.process).settled → Reaches a.files (page_of address) g.process (resident_at_address a access address g o)
unfolding resident_at
reached_reaches a access address g (Some r) sized = stopped
reached_reaches a access address g None sized = resident_reaches a g sized access (page_of address) (is_resident g.process access (page_of address)) refl
