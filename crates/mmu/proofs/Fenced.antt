-- Fences: the last one of an address by the last ones with each rs2 (`by_exact`), and what one more leaves.
use Rattle.std.proofs.Common.{◌≡◌, inl, inr, ℕ, suc, ◌≤◌, ◌/◌, ◌^◌, max, Bool, true, false, ◌&&◌, nat_eq, Option, None, Some, List, [], ◌∷◌, length, if◌then◌else◌, refl, ap, sym, ◌∙◌, subst, arith}
use Rattle.std.specs.Option.{option_eq}
use Rattle.std.proofs.lemmas.Bool.{and_right, cases_Bool, cases_lt, cond-true, cond-false, eq-eqb, eqb-true, ne_eqb}
use Rattle.sv39_entry.specs.declared.address.Va.{Va}
use Rattle.walk_rules.specs.Addresses.{top_of}
use Rattle.access_history.specs.History.{satp_at}
use Rattle.access_history.specs.declared.event.Event.{Event}
use Rattle.access_history.specs.declared.event.Event.TheVariants.{Store, WriteSatp, WritePmp, Fence}
use Rattle.access_judge.specs.Log.{IsReach}
use Rattle.access_judge.specs.Search.{address_fence, epoch_end, is_address_under, is_for, space_fence, until}
use Rattle.mmu.specs.Fencing.{ended, exact_fence, is_exact, of_end, of_key, of_space, with_none}
use Rattle.mmu.specs.Recorded.{AreEnds, AreFences}
use Rattle.mmu.specs.declared.fences.Fences.{Fences}
use Rattle.mmu.proofs.Going.{ends_on}
use Rattle.mmu.proofs.Moments.{length-until, until_more, until_now}

pub exact_bound : (satp : ℕ) (h : List Event) (bits page : ℕ) (s : Option ℕ) → exact_fence satp h bits page s ≤ length h
exact_bound satp [] bits page s = omega arith
exact_bound satp (Store p i w ∷ h) bits page s = let low = exact_bound satp h bits page s in omega (arith, low)
exact_bound satp (WriteSatp w ∷ h) bits page s = let low = exact_bound satp h bits page s in omega (arith, low)
exact_bound satp (WritePmp n e ∷ h) bits page s = let low = exact_bound satp h bits page s in omega (arith, low)
exact_bound satp (Fence None t ∷ h) bits page s = let low = exact_bound satp h bits page s in omega (arith, low)
exact_bound satp (Fence (Some a) t ∷ h) bits page s =
    let low = exact_bound satp h bits page s in
    elim (cases_Bool (is_exact satp h bits page s a.0 t)) [
      | inl here ↦ subst (λ (n : ℕ). n ≤ suc (length h)) (sym (cond-true _ _ _ here)) (omega arith)
      | inr other ↦ subst (λ (n : ℕ). n ≤ suc (length h)) (sym (cond-false _ _ _ other)) (omega (arith, low))
    ]

-- the later of two, where one is the latest of all
latest : (n a b : ℕ) → a ≤ n → b ≤ n → (max (suc n) b ≡ suc n) × (max a (suc n) ≡ suc n)
latest n a b le less = (omega (arith, le, less), omega (arith, le, less))

go : (n : ℕ) (b : Bool) (t s : Option ℕ) (old : Option ℕ → ℕ) (all : ℕ) → ((r : Option ℕ) → old r ≤ n) → with_none old s ≡ all
    → with_none (λ r. if b && option_eq nat_eq t r then suc n else old r) s ≡ (if b && is_for t s then suc n else all)
go n false t None old all low is = is
go n false t (Some s) old all low is = is
go n true None None old all low is = refl
go n true (Some t) None old all low is = is
go n true None (Some s) old all low is = (latest n (old None) (old (Some s)) (low None) (low (Some s))).0
go n true (Some t) (Some s) old all low is = elim (cases_Bool (nat_eq t s)) [
  | inl same ↦ subst (λ (b : Bool). max (old None) (if b then suc n else old (Some s)) ≡ (if b then suc n else all)) (sym same)
      (latest n (old None) (old (Some s)) (low None) (low (Some s))).1
  | inr other ↦ subst (λ (b : Bool). max (old None) (if b then suc n else old (Some s)) ≡ (if b then suc n else all)) (sym other) is
]

pub by_exact : (satp : ℕ) (h : List Event) (bits va : ℕ) (s : Option ℕ) → with_none (exact_fence satp h bits (va / 2 ^ bits)) s ≡ address_fence satp h bits va s
by_exact satp [] bits va None = refl
by_exact satp [] bits va (Some s) = refl
by_exact satp (Store p i w ∷ h) bits va None = by_exact satp h bits va None
by_exact satp (Store p i w ∷ h) bits va (Some s) = by_exact satp h bits va (Some s)
by_exact satp (WriteSatp w ∷ h) bits va None = by_exact satp h bits va None
by_exact satp (WriteSatp w ∷ h) bits va (Some s) = by_exact satp h bits va (Some s)
by_exact satp (WritePmp n e ∷ h) bits va None = by_exact satp h bits va None
by_exact satp (WritePmp n e ∷ h) bits va (Some s) = by_exact satp h bits va (Some s)
by_exact satp (Fence None t ∷ h) bits va None = by_exact satp h bits va None
by_exact satp (Fence None t ∷ h) bits va (Some s) = by_exact satp h bits va (Some s)
by_exact satp (Fence (Some a) t ∷ h) bits va s =
    go (length h) (is_address_under (top_of (satp_at satp h)) a.0 && nat_eq (a.0 / 2 ^ bits) (va / 2 ^ bits)) t s (exact_fence satp h bits (va / 2 ^ bits))
    (address_fence satp h bits va s) (exact_bound satp h bits (va / 2 ^ bits)) (by_exact satp h bits va s)

space_low : (h : List Event) (n : ℕ) → space_fence h n ≤ length h
space_low [] n = omega arith
space_low (Store p i w ∷ h) n = let low = space_low h n in omega (arith, low)
space_low (WriteSatp w ∷ h) n = let low = space_low h n in omega (arith, low)
space_low (WritePmp k e ∷ h) n = let low = space_low h n in omega (arith, low)
space_low (Fence (Some a) t ∷ h) n = let low = space_low h n in omega (arith, low)
space_low (Fence None None ∷ h) n = omega arith
space_low (Fence None (Some t) ∷ h) n = let low = space_low h n in elim (cases_Bool (nat_eq t n)) [
  | inl here ↦ rw here (omega arith)
  | inr other ↦ rw other (omega (arith, low))
]

-- ---- until when a fence of an ASID was the last one

same_ends : (f f' : Fences) (h : List Event) → ((n m : ℕ) → of_end f' n m ≡ of_end f n m) → AreEnds f h → AreEnds f' h
same_ends f f' h same s = record {
  each = λ n k le. same n (space_fence (until h k) n) ∙ s.each n k le;
  none = λ n m late. same n m ∙ s.none n m late;
}

-- a fence of the ASID ends the one that was its last
module _ (f f' : Fences) (h : List Event) (a : ℕ)
    (ends : (n m : ℕ) → of_end f' n m ≡ (if nat_eq a n && nat_eq (space_fence h a) m then Some (length h) else of_end f n m)) (s : AreEnds f h) where
  abbrev e : Event
  e = Fence None (Some a)

  -- of another ASID
  other_space : (n m : ℕ) → nat_eq a n ≡ false → of_end f n m ≡ ended h n m → of_end f' n m ≡ ended (e ∷ h) n m
  other_space n m apart is = ends n m ∙ rw apart is ∙ still where
    choose : (b : Bool) → (if b then None else Some (epoch_end h n m)) ≡ (if b then None else Some (if b then suc (length h) else epoch_end h n m))
    choose true = refl
    choose false = refl

    still : ended h n m ≡ ended (e ∷ h) n m
    still = rw apart (choose (nat_eq (space_fence h n) m))

  -- of this one, up to the fence
  same_space : (m : ℕ) → m ≤ length h → of_end f a m ≡ ended h a m → of_end f' a m ≡ ended (e ∷ h) a m
  same_space m low is =
      let whole = eq-eqb a a refl in
      let past = ne_eqb (suc (length h)) m (λ same. absurd (omega (arith, same, low))) in
      let last : (space_fence h a ≡ m) → length h ≡ epoch_end h a m = λ same. end_now h a m same in
      elim (cases_Bool (nat_eq (space_fence h a) m)) [
        | inl now ↦
            let here = ap (λ (k : ℕ). Some k) (last (eqb-true (space_fence h a) m now)) in
            ends a m ∙ rw (whole, now, past) here
        | inr earlier ↦ ends a m ∙ rw (whole, earlier, past) (rw earlier at is)
      ]
    where
      end_now : (g : List Event) (n m : ℕ) → space_fence g n ≡ m → length g ≡ epoch_end g n m
      end_now [] n m same = refl
      end_now (d ∷ g) n m same = rw (eq-eqb (space_fence (d ∷ g) n) m same) refl

  ends_by : AreEnds f' (e ∷ h)
  ends_by = record {
    each = λ n k le. elim (cases_lt (length h) k) [
      | inl late ↦
          let whole = until_now (e ∷ h) k (omega (arith, late)) in
          subst (λ (g : List Event). of_end f' n (space_fence g n) ≡ ended (e ∷ h) n (space_fence g n)) (sym whole) (at_now n)
      | inr low ↦
          let at = until_more e h k low in
          let bound = past_low k n low in
          subst (λ (g : List Event). of_end f' n (space_fence g n) ≡ ended (e ∷ h) n (space_fence g n)) (sym at) (before n (space_fence (until h k) n) bound (s.each n k low))
    ];
    none = λ n m late.
        let low = space_low h a in
        let apart : (nat_eq a n && nat_eq (space_fence h a) m) ≡ false = and_right _ _ (ne_eqb (space_fence h a) m (λ same. absurd (omega (arith, same, low, late)))) in
        ends n m ∙ rw apart (s.none n m (omega (arith, late)));
  } where
    before : (n m : ℕ) → m ≤ length h → of_end f n m ≡ ended h n m → of_end f' n m ≡ ended (e ∷ h) n m
    before n m low is = elim (cases_Bool (nat_eq a n)) [
      | inr apart ↦ other_space n m apart is
      | inl same ↦
          let own : a ≡ n = eqb-true a n same in
          subst (λ (i : ℕ). of_end f' i m ≡ ended (e ∷ h) i m) own (same_space m low (subst (λ (i : ℕ). of_end f i m ≡ ended h i m) (sym own) is))
    ]

    past_low : (k n : ℕ) → k ≤ length h → space_fence (until h k) n ≤ length h
    past_low k n le = let low = space_low (until h k) n in let long = length-until h k le in omega (arith, low, long, le)

    now_of : (n : ℕ) → nat_eq a n ≡ false → of_end f n (space_fence h n) ≡ ended h n (space_fence h n)
    now_of n apart = subst (λ (g : List Event). of_end f n (space_fence g n) ≡ ended h n (space_fence g n)) (until_now h (length h) (omega arith)) (s.each n (length h) (omega arith))

    at_own : of_end f' a (space_fence (e ∷ h) a) ≡ ended (e ∷ h) a (space_fence (e ∷ h) a)
    at_own =
        let whole = eq-eqb a a refl in
        let low = space_low h a in
        let beyond = and_right (nat_eq a a) (nat_eq (space_fence h a) (suc (length h))) (ne_eqb (space_fence h a) (suc (length h)) (λ is. absurd (omega (arith, is, low)))) in
        let none : of_end f' a (suc (length h)) ≡ None = ends a (suc (length h)) ∙ rw beyond (s.none a (suc (length h)) (omega arith)) in
        let is : ended (e ∷ h) a (suc (length h)) ≡ None = rw (whole, eq-eqb (suc (length h)) (suc (length h)) refl) refl in
        let last : space_fence (e ∷ h) a ≡ suc (length h) = rw whole refl in
        subst (λ (m : ℕ). of_end f' a m ≡ ended (e ∷ h) a m) (sym last) (none ∙ sym is)

    at_now : (n : ℕ) → of_end f' n (space_fence (e ∷ h) n) ≡ ended (e ∷ h) n (space_fence (e ∷ h) n)
    at_now n = elim (cases_Bool (nat_eq a n)) [
      | inr apart ↦
          let same : space_fence (e ∷ h) n ≡ space_fence h n = rw apart refl in
          subst (λ (m : ℕ). of_end f' n m ≡ ended (e ∷ h) n m) (sym same) (other_space n (space_fence h n) apart (now_of n apart))
      | inl same ↦ subst (λ (i : ℕ). of_end f' i (space_fence (e ∷ h) i) ≡ ended (e ∷ h) i (space_fence (e ∷ h) i)) (eqb-true a n same) at_own
    ]

-- an address fence with one more key
pub fenced_address : (f f' : Fences) (satp : ℕ) (h : List Event) (va : Va) (s : Option ℕ) → is_address_under (top_of (satp_at satp h)) va.0 ≡ true
    → ((n : ℕ) → of_space f' n ≡ of_space f n) → ((n m : ℕ) → of_end f' n m ≡ of_end f n m)
    → ((b page : ℕ) (r : Option ℕ) → IsReach b → of_key f' b page r ≡ (if nat_eq (va.0 / 2 ^ b) page && option_eq nat_eq s r then suc (length h) else of_key f b page r))
    → AreFences f satp h → AreFences f' satp (Fence (Some va) s ∷ h)
fenced_address f f' satp h va s valid spaces ends keys are = record {
  spaces = λ n. spaces n ∙ are.spaces n;
  ends = same_ends f f' (Fence (Some va) s ∷ h) ends (ends_on f (Fence (Some va) s) h (λ n. refl) are.ends);
  addresses = λ b page r reach. keys b page r reach
      ∙ ap (λ (n : ℕ). if nat_eq (va.0 / 2 ^ b) page && option_eq nat_eq s r then suc (length h) else n) (are.addresses b page r reach)
      ∙ ap (λ (t : Bool). if t && nat_eq (va.0 / 2 ^ b) page && option_eq nat_eq s r then suc (length h) else exact_fence satp h b page r) (sym valid);
}

-- an address fence that has no valid address
pub fenced_nothing : (f f' : Fences) (satp : ℕ) (h : List Event) (va : Va) (s : Option ℕ) → is_address_under (top_of (satp_at satp h)) va.0 ≡ false
    → ((n : ℕ) → of_space f' n ≡ of_space f n) → ((n m : ℕ) → of_end f' n m ≡ of_end f n m)
    → ((b page : ℕ) (r : Option ℕ) → of_key f' b page r ≡ of_key f b page r)
    → AreFences f satp h → AreFences f' satp (Fence (Some va) s ∷ h)
fenced_nothing f f' satp h va s invalid spaces ends keys are = record {
  spaces = λ n. spaces n ∙ are.spaces n;
  ends = same_ends f f' (Fence (Some va) s ∷ h) ends (ends_on f (Fence (Some va) s) h (λ n. refl) are.ends);
  addresses = λ b page r reach. keys b page r ∙ are.addresses b page r reach
      ∙ ap (λ (t : Bool). if t && nat_eq (va.0 / 2 ^ b) page && option_eq nat_eq s r then suc (length h) else exact_fence satp h b page r) (sym invalid);
}

-- a fence of an ASID
pub fenced_space : (f f' : Fences) (satp : ℕ) (h : List Event) (s : ℕ)
    → ((n : ℕ) → of_space f' n ≡ (if nat_eq s n then suc (length h) else of_space f n))
    → ((n m : ℕ) → of_end f' n m ≡ (if nat_eq s n && nat_eq (of_space f s) m then Some (length h) else of_end f n m)) → ((b page : ℕ) (r : Option ℕ) → of_key f' b page r ≡ of_key f b page r)
    → AreFences f satp h → AreFences f' satp (Fence None (Some s) ∷ h)
fenced_space f f' satp h s spaces ends keys are = record {
  spaces = λ n. spaces n ∙ ap (λ (m : ℕ). if nat_eq s n then suc (length h) else m) (are.spaces n);
  ends = ends_by f f' h s (λ n m. ends n m ∙ ap (λ (k : ℕ). if nat_eq s n && nat_eq k m then Some (length h) else of_end f n m) (are.spaces s)) are.ends;
  addresses = λ b page r reach. keys b page r ∙ are.addresses b page r reach;
}

pub with_alike : (f g : Option ℕ → ℕ) → ((r : Option ℕ) → f r ≡ g r) → (s : Option ℕ) → with_none f s ≡ with_none g s
with_alike f g same None = same None
with_alike f g same (Some s) = ap (λ (n : ℕ). max n (f (Some s))) (same None) ∙ ap (max (g None)) (same (Some s))
