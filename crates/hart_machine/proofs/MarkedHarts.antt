-- Lemmas for `Machine::mark`: the harts of a list are marked as stale for a slot one after another, in the end all, and each
-- keeps its TLB.
use Rattle.std.proofs.Common.{◌≡◌, ℕ, zero, suc, ◌≤◌, length, map, Some, List, [], ◌∷◌, refl, ap, sym, ◌∙◌, arith}
use Rattle.std.specs.Prelude.{slice_get, slice_set}
use Rattle.std.proofs.lemmas.Option.{same_Some}
use Rattle.process_model.specs.Harts as model
use Rattle.hart_machine.specs.Harts.{hart_of, marked}
use Rattle.hart_machine.specs.declared.hart.Hart.{Hart}

-- the first so many harts are marked
abbrev pub marked_first : ℕ → ℕ → List model.Hart → List model.Hart
marked_first s zero xs = xs
marked_first s (suc i) [] = []
marked_first s (suc i) (x ∷ xs) = marked s x ∷ marked_first s i xs

head_is : {A : Type 0} (x y : A) (xs ys : List A) → (x ∷ xs) ≡ (y ∷ ys) → x ≡ y
head_is x y xs ys e = cc

tail_is : {A : Type 0} (x y : A) (xs ys : List A) → (x ∷ xs) ≡ (y ∷ ys) → xs ≡ ys
tail_is x y xs ys e = cc

-- one more
pub one_more : (s i : ℕ) (xs : List Hart) (zs : List model.Hart) (x y : Hart) → map hart_of xs ≡ marked_first s i zs → slice_get xs i ≡ Some x → hart_of y ≡ marked s (hart_of x) → map hart_of (slice_set xs i y) ≡ marked_first s (suc i) zs
one_more s i [] zs x y so at is = absurd (cc)
one_more s zero (a ∷ xs) [] x y so at is = absurd (cc)
one_more s (suc i) (a ∷ xs) [] x y so at is = absurd (cc)
one_more s zero (a ∷ xs) (z ∷ zs) x y so at is =
    let here : hart_of y ≡ marked s z = is ∙ ap (λ (v : Hart). marked s (hart_of v)) (sym (same_Some a x at)) ∙ ap (marked s) (head_is (hart_of a) z (map hart_of xs) zs so) in
    let rest = tail_is (hart_of a) z (map hart_of xs) zs so in
    λ j. here j ∷ rest j
one_more s (suc i) (a ∷ xs) (z ∷ zs) x y so at is =
    let rest = one_more s i xs zs x y (tail_is (hart_of a) (marked s z) (map hart_of xs) (marked_first s i zs) so) at is in
    let here = head_is (hart_of a) (marked s z) (map hart_of xs) (marked_first s i zs) so in
    λ j. here j ∷ rest j

-- in the end all are
pub all_marked : (s i : ℕ) (zs : List model.Hart) → length zs ≤ i → marked_first s i zs ≡ map (marked s) zs
all_marked s zero [] low = refl
all_marked s zero (z ∷ zs) low = absurd (omega (arith, low))
all_marked s (suc i) [] low = refl
all_marked s (suc i) (z ∷ zs) low = ap (λ xs. marked s z ∷ xs) (all_marked s i zs (omega (arith, low)))

-- and each keeps its buffer
pub same_buffer : {A : Type 0} (f : Hart → A) (i : ℕ) (xs : List Hart) (zs : List A) (x y : Hart) → map f xs ≡ zs → slice_get xs i ≡ Some x → f y ≡ f x → map f (slice_set xs i y) ≡ zs
same_buffer f i [] zs x y so at is = absurd (cc)
same_buffer f i (a ∷ xs) [] x y so at is = absurd (cc)
same_buffer f zero (a ∷ xs) (z ∷ zs) x y so at is =
    let here : f y ≡ z = is ∙ ap f (sym (same_Some a x at)) ∙ head_is (f a) z (map f xs) zs so in
    let rest = tail_is (f a) z (map f xs) zs so in
    λ j. here j ∷ rest j
same_buffer f (suc i) (a ∷ xs) (z ∷ zs) x y so at is =
    let rest = same_buffer f i xs zs x y (tail_is (f a) z (map f xs) zs so) at is in
    let here = head_is (f a) z (map f xs) zs so in
    λ j. here j ∷ rest j
