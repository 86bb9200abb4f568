-- Lemmas: the invariant of a token table (`IsIssuerInvariant`) holds of a new issuer alone (`begins`), and is kept as a token
-- is issued (`gives`) and as one is redeemed (`takes`); a load of the table's word keeps it and shows that the entries
-- redeemed last were on the issuer's list before (`learns`).
use Rattle.std.proofs.Common.{◌≡◌, ◌≢◌, inl, inr, ⊎_elim, ℕ, zero, suc, ◌+◌, ◌<◌, ◌≤◌, Bool, true, false, cond, List, [], ◌∷◌, ◌++◌, set, refl, sym, ap, ◌∙◌, subst, arith}
use mathlib.Core.Option.{some, some-injective, some-ne-none}
use lib.ListN.{get_elem?}
use Rattle.atomic_table.specs.Table.{Me, Step, keeps, Allows, Splits, Joins}
use Rattle.atomic_table.proofs.Lists.{at_snoc, at_set, set_else, set_again}
use Rattle.vouchers.specs.Entries.{TokenEntry, View, same, without, minus, Has, gave, took, voucher_view, spent_view, keeper_view}
use Rattle.vouchers.specs.Lists.{same_is, same_self, tells}
use Rattle.vouchers.specs.IssuerInvariant.{weigh, total, AllIn, IsIssuerInvariant, Kept, Learns}

module _ (g : View → ℕ) where
  total-set : (vs : List View) (id : ℕ) (v w : View) → get_elem? vs id ≡ some v → total g (set vs id w) + g v ≡ total g vs + g w
  total-set [] id v w e = absurd (some-ne-none v (sym e))
  total-set (x ∷ xs) zero v w e = let is : g x ≡ g v = ap g (some-injective x v e) in omega arith
  total-set (x ∷ xs) (suc id) v w e = let r = total-set xs id v w e in omega arith

  total-snoc : (vs : List View) (w : View) → total g (vs ++ w ∷ []) ≡ total g vs + g w
  total-snoc [] w = omega arith
  total-snoc (x ∷ xs) w = let r = total-snoc xs w in omega arith

  total-one : (vs : List View) (id : ℕ) (v : View) → get_elem? vs id ≡ some v → g v ≤ total g vs
  total-one [] id v e = absurd (some-ne-none v (sym e))
  total-one (x ∷ xs) zero v e = let is : g x ≡ g v = ap g (some-injective x v e) in omega arith
  total-one (x ∷ xs) (suc id) v e = let r = total-one xs id v e in omega arith

  total-none : (vs : List View) → ((j : ℕ) (u : View) → get_elem? vs j ≡ some u → g u ≡ 0) → total g vs ≡ 0
  total-none [] all = refl
  total-none (x ∷ xs) all = let h = all 0 x refl in let r = total-none xs (λ j u e. all (suc j) u e) in omega (arith, h, r)

  -- where each other view has none, one view has all
  total-lone : (vs : List View) (id : ℕ) (v : View) → get_elem? vs id ≡ some v → ((j : ℕ) (u : View) → j ≢ id → get_elem? vs j ≡ some u → g u ≡ 0) → total g vs ≡ g v
  total-lone [] id v at others = absurd (some-ne-none v (sym at))
  total-lone (x ∷ xs) zero v at others = let is : g x ≡ g v = ap g (some-injective x v at) in let r = total-none xs (λ j u e. others (suc j) u (λ q. omega arith) e) in omega (arith, is, r)
  total-lone (x ∷ xs) (suc id) v at others =
      let h = others 0 x (λ q. omega arith) refl in
      let r = total-lone xs id v at (λ j u ne e. others (suc j) u (λ q. ne (omega arith)) e) in
      omega (arith, h, r)

-- how often an entry stands in a list
abbrev is_entry : TokenEntry → TokenEntry → ℕ
is_entry e x = cond (same e x) 1 0

pub counted_has : (e : TokenEntry) (xs : List TokenEntry) → 0 < weigh (is_entry e) xs → Has e xs
counted_has e [] h = absurd (omega arith)
counted_has e (x ∷ xs) h = elim (tells (same e x)) as (λ _. Has e (x ∷ xs)) [
  | inl t ↦ inl (same_is e x t)
  | inr t ↦ inr (counted_has e xs (let q = subst (λ (b : Bool). 0 < cond b 1 0 + weigh (is_entry e) xs) t h in omega (arith, q)))
]

-- an entry that is taken out weighs that much less
weigh-without : (h : TokenEntry → ℕ) (e : TokenEntry) (xs : List TokenEntry) → 0 < weigh (is_entry e) xs → weigh h (without e xs) + h e ≡ weigh h xs
weigh-without h e [] lt = absurd (omega arith)
weigh-without h e (x ∷ xs) lt = elim (tells (same e x)) as (λ _. weigh h (without e (x ∷ xs)) + h e ≡ weigh h (x ∷ xs)) [
  | inl t ↦ (let is : h e ≡ h x = ap h (same_is e x t) in rw t (omega (arith, is)))
  | inr t ↦ (let r = weigh-without h e xs (let q = subst (λ (b : Bool). 0 < cond b 1 0 + weigh (is_entry e) xs) t lt in omega (arith, q)) in rw t (omega (arith, r)))
]

pub begins : IsIssuerInvariant (keeper_view ∷ [])
begins = record {
  seat = 0;
  issuer = λ id v at k. first id v at;
  others = λ id v at k. none id v at;
  balanced = λ h. refl;
  told = λ id v at. told id v at;
}
  where
    first : (id : ℕ) (v : View) → get_elem? (keeper_view ∷ []) id ≡ some v → id ≡ 0
    first zero v at = refl
    first (suc id) v at = absurd (some-ne-none v (sym at))

    none : (id : ℕ) (v : View) → get_elem? (keeper_view ∷ []) id ≡ some v → v.given ≡ []
    none zero v at = sym (ap (λ (u : View). u.given) (some-injective keeper_view v at))
    none (suc id) v at = absurd (some-ne-none v (sym at))

    told : (id : ℕ) (v : View) → get_elem? (keeper_view ∷ []) id ≡ some v → AllIn v.back v.before
    told zero v at = subst (λ (u : View). AllIn u.back u.before) (some-injective keeper_view v at) (λ e no. absurd no)
    told (suc id) v at = absurd (some-ne-none v (sym at))

pub gives : (n id : ℕ) (e : TokenEntry) (v : View) → v.keeps ≡ true → Splits (Kept n) id v (gave e v) (voucher_view e)
gives n id e v marked s k at = record {
  seat = k.seat;
  issuer = λ j u there is. ⊎_elim
      (λ old. ⊎_elim (λ same. same.0 ∙ k.issuer id v at marked) (λ other. k.issuer j u other.1 is) (at_set s.views id j (gave e v) u old))
      (λ new. absurd (let no : false ≡ true = ap (λ (w : View). w.keeps) new ∙ is in cc))
      (at_snoc (set s.views id (gave e v)) (voucher_view e) u j there);
  others = λ j u there is. ⊎_elim
      (λ old. ⊎_elim (λ same. absurd (let no : true ≡ false = sym marked ∙ (ap (λ (w : View). w.keeps) same.1 ∙ is) in cc)) (λ other. k.others j u other.1 is) (at_set s.views id j (gave e v) u old))
      (λ new. sym (ap (λ (w : View). w.given) new))
      (at_snoc (set s.views id (gave e v)) (voucher_view e) u j there);
  balanced = λ h.
      let a = total-snoc (λ u. weigh h u.given) (set s.views id (gave e v)) (voucher_view e) in
      let b = total-set (λ u. weigh h u.given) s.views id v (gave e v) at in
      let c = total-snoc (λ u. weigh h u.held) (set s.views id (gave e v)) (voucher_view e) in
      let d = total-set (λ u. weigh h u.held) s.views id v (gave e v) at in
      let was = k.balanced h in
      omega (arith, a, b, c, d, was);
  told = λ j u there. ⊎_elim
      (λ old. ⊎_elim (λ same. subst (λ (w : View). AllIn w.back w.before) same.1 (k.told id v at)) (λ other. k.told j u other.1) (at_set s.views id j (gave e v) u old))
      (λ new. subst (λ (w : View). AllIn w.back w.before) new (λ x no. absurd no))
      (at_snoc (set s.views id (gave e v)) (voucher_view e) u j there);
}

-- who keeps has given just what is held
lone : (views : List View) (id : ℕ) (v : View) → IsIssuerInvariant views → get_elem? views id ≡ some v → v.keeps ≡ true → (h : TokenEntry → ℕ) → total (λ u. weigh h u.given) views ≡ weigh h v.given
lone views id v k at marked h = total-lone (λ u. weigh h u.given) views id v at (λ j u ne there. elim (tells u.keeps) as (λ _. weigh h u.given ≡ 0) [
  | inl t ↦ absurd (ne (k.issuer j u there t ∙ sym (k.issuer id v at marked)))
  | inr t ↦ ap (weigh h) (k.others j u there t)
])

has_alone : (e x : TokenEntry) → Has x (e ∷ []) → x ≡ e
has_alone e x (inl is) = is
has_alone e x (inr none) = absurd none

pub takes : (n id other : ℕ) (e : TokenEntry) (v w : View) → v.keeps ≡ true → w.held ≡ e ∷ [] → Joins (Kept n) id v other w (took v w) spent_view
takes n id other e v w marked held s k at ne there =
    let was : get_elem? s.views other ≡ some w = sym (set_else s.views id other (took v w) ne) ∙ there in
    let one : 0 < weigh (is_entry e) w.held = subst (λ (es : List TokenEntry). 0 < weigh (is_entry e) es) (sym held) (subst (λ (b : Bool). 0 < cond b 1 0 + 0) (sym (same_self e)) (omega arith)) in
    let all = total-one (λ u. weigh (is_entry e) u.held) s.views other w was in
    let sum = k.balanced (is_entry e) in
    let mine = lone s.views id v k at marked (is_entry e) in
    let listed : 0 < weigh (is_entry e) v.given = omega (arith, one, all, sum, mine) in
    let idle : w.keeps ≡ false = elim (tells w.keeps) as (λ _. w.keeps ≡ false) [ inl t ↦ absurd (ne (k.issuer other w was t ∙ sym (k.issuer id v at marked))) | inr t ↦ t ] in
    let changed : (j : ℕ) (u : View) → get_elem? (set (set s.views id (took v w)) other spent_view) j ≡ some u → (P : View → Type 0) → (j ≡ id → P (took v w)) → P spent_view → (get_elem? s.views j ≡ some u → P u) → P u = λ j u z P first second else. ⊎_elim
    (λ same. subst P same.1 second)
    (λ q. ⊎_elim (λ same. subst P same.1 (first same.0)) (λ r. else r.1) (at_set s.views id j (took v w) u q.1))
    (at_set (set s.views id (took v w)) other j spent_view u z) in
    let rest : minus v.given w.held ≡ without e v.given = ap (minus v.given) held in
    record {
      seat = k.seat;
      issuer = λ j u z is. changed j u z (λ u. u.keeps ≡ true → j ≡ k.seat) (λ same _. same ∙ k.issuer id v at marked) (λ no. absurd (cc)) (λ q. k.issuer j u q) is;
      others = λ j u z is. changed j u z (λ u. u.keeps ≡ false → u.given ≡ []) (λ _ no. absurd (let b : true ≡ false = sym marked ∙ no in cc)) (λ _. refl) (λ q. k.others j u q) is;
      balanced = λ h.
          let a = total-set (λ u. weigh h u.given) (set s.views id (took v w)) other w spent_view there in
          let b = total-set (λ u. weigh h u.given) s.views id v (took v w) at in
          let c = total-set (λ u. weigh h u.held) (set s.views id (took v w)) other w spent_view there in
          let d = total-set (λ u. weigh h u.held) s.views id v (took v w) at in
          let was_balanced = k.balanced h in
          let less = weigh-without h e v.given listed in
          let r = ap (weigh h) rest in
          let q = ap (weigh h) held in
          let none : weigh h w.given ≡ 0 = ap (weigh h) (k.others other w was idle) in
          omega (arith, a, b, c, d, was_balanced, less, r, q, none);
      told = λ j u z. changed j u z (λ u. AllIn u.back u.before) (λ _ x h. subst (λ y. Has y v.given) (sym (has_alone e x (subst (Has x) held h))) (counted_has e v.given listed)) (λ x no. absurd no) (λ q. k.told j u q);
    }

pub learns : (n slots id : ℕ) (m : Me (Unit {0}) View) (st : Step (Unit {0})) → Allows (Kept n) slots id m 0 (λ x. x) (Learns st m)
learns n slots id m st s k wide at small = (
  m.0,
  keeps,
  tt,
  subst IsIssuerInvariant (sym (set_again s.views id m.0 at)) k,
  (refl, k.told id m.0 at),
)
