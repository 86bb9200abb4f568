-- Lemma: making the page of an address resident in the middle of a kernel copy has the result that it has at the beginning of
-- one in the world as it is by then; only the number of frames taken differs (`shifted`).
use Rattle.std.proofs.Common.{◌≡◌, ℕ, ◌+◌, Bool, true, false, refl, ap, sym, ◌∙◌, arith, Option, None, Some, Result, Ok, Err}
use Rattle.std.specs.Prelude.{nat_lt}
use Rattle.std.proofs.lemmas.Bool.{le-ltb, lt-ltb, ltb-false, ltb-true}
use Rattle.process_model.specs.Environment.{Environment, is_shared_by, is_shared_page, need_at, Progress, resident_at_address, resident_at, unless_dry, unless_resident}
use Rattle.process_model.specs.PageMap.{get}
use Rattle.process_model.specs.Process.{Page, Process}
use Rattle.process_model.specs.Residence.{is_resident, made_resident}
use Rattle.sv39_entry.specs.Address.{page_of}
use Rattle.sv39_entry.specs.declared.access.Access.{Access}
use Rattle.sv39_entry.specs.declared.rule.Rule.{Rule}

-- fewer are free than are needed, where as many were taken before
pub lt_shift : (free need more : ℕ) → nat_lt free (0 + need) ≡ nat_lt (free + more) (more + need)
lt_shift free need more = by (nat_lt free (0 + need)) refl
  where
    by : (b : Bool) → nat_lt free (0 + need) ≡ b → nat_lt free (0 + need) ≡ nat_lt (free + more) (more + need)
    by true is = let less = ltb-true free (0 + need) is in is ∙ sym (lt-ltb (free + more) (more + need) (omega (arith, less)))
    by false is = let most = ltb-false free (0 + need) is in is ∙ sym (le-ltb (free + more) (more + need) (omega (arith, most)))

-- a call that took so many frames before
abbrev pub later : ℕ → Progress → Progress
later more h = record h { taken = more + h.taken }

abbrev pub shifted : ℕ → Result Progress Rule → Result Progress Rule
shifted more (Ok h) = Ok (later more h)
shifted more (Err r) = Err r

module _ (x y : Environment) (files : x.files ≡ y.files) (others : (c : ℕ) → x.others_have c ≡ y.others_have c) (more : ℕ)
    (dry : (page need : ℕ) → x.is_dry page (0 + need) ≡ y.is_dry page (more + need)) (p : Process) (fresh : ℕ) (access : Access) where
  abbrev first : Progress
  first = record { process = p; fresh = fresh; taken = 0 }

  abbrev second : Progress
  second = record { process = p; fresh = fresh; taken = more }

  second_is : second ≡ later more first
  second_is = ap (λ (n : ℕ). let g : Progress = record { process = p; fresh = fresh; taken = n } in g) (omega arith)

  shares : (page : ℕ) → is_shared_page x p page ≡ is_shared_page y p page
  shares page = by (get p.settled page)
    where
      by : (o : Option Page) → is_shared_by x.others_have o ≡ is_shared_by y.others_have o
      by None = refl
      by (Some s) = others s.copy

  needs : (page : ℕ) → need_at x access page p ≡ need_at y access page p
  needs page = rw (shares page) refl

  made : (page need : ℕ) (b : Bool) → unless_dry y access page second need b ≡ shifted more (unless_dry x access page first need b)
  made page need true = refl
  made page need false =
      rw (shares page, files) (ap (λ (n : ℕ). let r : Result Progress Rule = Ok (record { process = made_resident y.files fresh (is_shared_page y p page) p access page; fresh = fresh + 1; taken = n }) in r) (omega arith))

  resides : (page : ℕ) (b : Bool) → unless_resident y access page second b ≡ shifted more (unless_resident x access page first b)
  resides page true = ap Ok second_is
  resides page false =
      let need = need_at x access page p in
      ap (λ (n : ℕ). unless_dry y access page second n (y.is_dry page (more + n))) (sym (needs page)) ∙ ap (unless_dry y access page second need) (sym (dry page need)) ∙ made page need (x.is_dry page (0 + need))

  pub reached_later : (address : ℕ) (o : Option Rule) → resident_at_address y access address second o ≡ shifted more (resident_at_address x access address first o)
  unfolding resident_at
  reached_later address None = resides (page_of address) (is_resident p access (page_of address))
  reached_later address (Some r) = refl
