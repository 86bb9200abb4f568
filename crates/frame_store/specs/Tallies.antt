-- Laws of `Tallies` (what a seat, an owner's capability at a frame store, has claimed and read since it was made): the
-- claims of calls in sequence add up (`spent`), and so do claims with the reference counts that were read (`taken`).
use Rattle.std.proofs.Common.{◌≡◌, ℕ, ◌+◌, List, [], ◌++◌, ap, sym, subst, ◌∙◌, arith, append_assoc}
use Rattle.std.proofs.lemmas.List.{append-nil}
use Rattle.frame_store.specs.View.{Tallies, spent, taken}

pub spent_none : (t : Tallies) → t ≡ spent 0 t
spent_none t = let is : t.claims ≡ t.claims + 0 = omega arith in ap (λ n. record t { claims = n }) is

pub spent_is : (a b : Tallies) (m n : ℕ) → m ≡ n → b ≡ spent m a → b ≡ spent n a
spent_is a b m n is first = subst (λ k. b ≡ spent k a) is first

pub spent_on : (a b c : Tallies) (m n : ℕ) → b ≡ spent m a → c ≡ spent n b → c ≡ spent (m + n) a
spent_on a b c m n first second = let is : a.claims + m + n ≡ a.claims + (m + n) = omega arith in second ∙ ap (spent n) first
    ∙ ap (λ k. record a { claims = k }) is

pub spent_taken : (a b : Tallies) (n : ℕ) → b ≡ spent n a → b ≡ taken n [] a
spent_taken a b n is = is ∙ ap (λ (l : List ℕ). record a { claims = a.claims + n; looks = l }) (sym (append-nil a.looks))

pub taken_none : (t : Tallies) → t ≡ taken 0 [] t
taken_none t = spent_taken t t 0 (spent_none t)

pub taken_on : (a b c : Tallies) (m n : ℕ) (xs ys : List ℕ) → b ≡ taken m xs a → c ≡ taken n ys b → c ≡ taken (m + n) (xs ++ ys) a
taken_on a b c m n xs ys first second =
    let is : a.claims + m + n ≡ a.claims + (m + n) = omega arith in
    second ∙ ap (taken n ys) first ∙ ap (λ k. record a { claims = k; looks = (a.looks ++ xs) ++ ys }) is
    ∙ ap (λ (l : List ℕ). record a { claims = a.claims + (m + n); looks = l }) (append_assoc a.looks xs ys)
