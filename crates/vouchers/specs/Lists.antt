-- Laws of lists of entries (each describes an unfinished process), for the crates above: the test `same` is true if and
-- only if two entries are equal; what is in a list without the first occurrence of an entry (`without`), and how long it
-- is; what is in two lists appended.
use base.Stored.{Gv, gcons, gnil, gnum}
use Rattle.std.proofs.Common.{◌≡◌, ◌⊎◌, inl, inr, ℕ, ◌+◌, ◌==◌, Bool, true, false, cond, List, [], ◌∷◌, ◌++◌, length, refl, sym, ap, ◌∙◌, subst, arith}
use Rattle.std.specs.Prelude.{◌&&◌}
use Rattle.std.proofs.lemmas.Bool.Decides.{eqb_tells}
use Rattle.vouchers.specs.Entries.{Birth, birth, TokenEntry, entry, same, same_birth, same_births, same_name, same_opening, without, Has}

name_is : (xs ys : List ℕ) → same_name xs ys ≡ true → xs ≡ ys
name_is [] [] e = refl
name_is [] (y ∷ ys) e = absurd (cc)
name_is (x ∷ xs) [] e = absurd (cc)
name_is (x ∷ xs) (y ∷ ys) e = elim (eqb_tells x y) as (λ _. x ∷ xs ≡ y ∷ ys) [
  | inl t ↦ rw t.1 (ap (λ zs. y ∷ zs) (name_is xs ys (rw (← ap (λ b. b && same_name xs ys) t.0) e)))
  | inr t ↦ absurd (let no : false ≡ true = sym (ap (λ b. b && same_name xs ys) t.0) ∙ e in cc)
]

both : (x y : Bool) → x && y ≡ true → (x ≡ true) × (y ≡ true)
both true y e = (refl, e)
both false y e = absurd (let no : false ≡ true = e in cc)

opening_is : (a b : Gv) → same_opening a b ≡ true → a ≡ b
opening_is gnil gnil e = refl
opening_is (gnum m) (gnum n) e = elim (eqb_tells m n) as (λ _. gnum m ≡ gnum n) [
  | inl t ↦ ap gnum t.1
  | inr t ↦ absurd (let no : false ≡ true = sym t.0 ∙ e in cc)
]
opening_is (gcons a b) (gcons c d) e =
    let two = both (same_opening a c) (same_opening b d) e in
    ap (λ (x : Gv). gcons x b) (opening_is a c two.0) ∙ ap (λ (y : Gv). gcons c y) (opening_is b d two.1)
opening_is gnil (gnum n) e = absurd (cc)
opening_is gnil (gcons c d) e = absurd (cc)
opening_is (gnum m) gnil e = absurd (cc)
opening_is (gnum m) (gcons c d) e = absurd (cc)
opening_is (gcons a b) gnil e = absurd (cc)
opening_is (gcons a b) (gnum n) e = absurd (cc)

birth_is : (a b : Birth) → same_birth a b ≡ true → a ≡ b
birth_is a b e = elim (eqb_tells a.list b.list) as (λ _. a ≡ b) [
  | inl t ↦
      (let rest : same_opening a.opening b.opening ≡ true = sym (ap (λ (q : Bool). q && same_opening a.opening b.opening) t.0) ∙ e in
      parts_are t.1 (opening_is a.opening b.opening rest))
  | inr t ↦ absurd (let no : false ≡ true = sym (ap (λ (q : Bool). q && same_opening a.opening b.opening) t.0) ∙ e in cc)
]
  where
    parts_are : a.list ≡ b.list → a.opening ≡ b.opening → birth a.list a.opening ≡ birth b.list b.opening
    parts_are l o = ap (λ k. birth k a.opening) l ∙ ap (λ g. birth b.list g) o

births_are : (xs ys : List Birth) → same_births xs ys ≡ true → xs ≡ ys
births_are [] [] e = refl
births_are [] (y ∷ ys) e = absurd (cc)
births_are (x ∷ xs) [] e = absurd (cc)
births_are (x ∷ xs) (y ∷ ys) e =
    let two = both (same_birth x y) (same_births xs ys) e in
    ap (λ (b : Birth). b ∷ xs) (birth_is x y two.0) ∙ ap (λ (bs : List Birth). y ∷ bs) (births_are xs ys two.1)

pub same_is : (a b : TokenEntry) → same a b ≡ true → a ≡ b
same_is a b e =
    let one = both (same_birth a.birth b.birth) (same_births a.children b.children && same_name a.name b.name) e in
    let two = both (same_births a.children b.children) (same_name a.name b.name) one.1 in
    entry_is (name_is a.name b.name two.1) (birth_is a.birth b.birth one.0) (births_are a.children b.children two.0)
  where
    entry_is : a.name ≡ b.name → a.birth ≡ b.birth → a.children ≡ b.children → entry a.name a.birth a.children ≡ entry b.name b.birth b.children
    entry_is n l h = ap (λ m. entry m a.birth a.children) n ∙ (ap (λ k. entry b.name k a.children) l ∙ ap (λ k. entry b.name b.birth k) h)

number_same : (n : ℕ) → (n == n) ≡ true
number_same n = elim (eqb_tells n n) as (λ _. (n == n) ≡ true) [
  | inl t ↦ t.0
  | inr t ↦ absurd (t.1 refl)
]

name_same : (xs : List ℕ) → same_name xs xs ≡ true
name_same [] = refl
name_same (x ∷ xs) = rw (number_same x) (name_same xs)

opening_same : (a : Gv) → same_opening a a ≡ true
opening_same gnil = refl
opening_same (gnum n) = number_same n
opening_same (gcons a b) = rw (opening_same a) (opening_same b)

birth_same : (b : Birth) → same_birth b b ≡ true
birth_same b = rw (number_same b.list) (opening_same b.opening)

births_same : (xs : List Birth) → same_births xs xs ≡ true
births_same [] = refl
births_same (x ∷ xs) = rw (birth_same x) (births_same xs)

pub same_self : (a : TokenEntry) → same a a ≡ true
same_self a = rw (birth_same a.birth) (rw (births_same a.children) (name_same a.name))

pub tells : (b : Bool) → (b ≡ true) ⊎ (b ≡ false)
tells true = inl refl
tells false = inr refl

-- what is in the list without e was in the list
pub without_had : (e x : TokenEntry) (xs : List TokenEntry) → Has x (without e xs) → Has x xs
without_had e x [] h = h
without_had e x (y ∷ ys) h = elim (tells (same e y)) as (λ _. Has x (y ∷ ys)) [
  | inl t ↦ inr (subst (λ b. Has x (cond b ys (y ∷ without e ys))) t h)
  | inr t ↦ later (without_had e x ys) (subst (λ b. Has x (cond b ys (y ∷ without e ys))) t h)
]
  where
    later : (Has x (without e ys) → Has x ys) → Has x (y ∷ without e ys) → Has x (y ∷ ys)
    later rest (inl is) = inl is
    later rest (inr r) = inr (rest r)

-- what was in the list is e, or is in the list without e
pub had_without : (e x : TokenEntry) (xs : List TokenEntry) → Has x xs → (x ≡ e) ⊎ Has x (without e xs)
had_without e x [] h = absurd h
had_without e x (y ∷ ys) h = elim (tells (same e y)) as (λ _. (x ≡ e) ⊎ Has x (without e (y ∷ ys))) [
  | inl t ↦ subst (λ b. (x ≡ e) ⊎ Has x (cond b ys (y ∷ without e ys))) (sym t) (taken t h)
  | inr t ↦ subst (λ b. (x ≡ e) ⊎ Has x (cond b ys (y ∷ without e ys))) (sym t) (passed (had_without e x ys) h)
]
  where
    taken : same e y ≡ true → Has x (y ∷ ys) → (x ≡ e) ⊎ Has x ys
    taken t (inl is) = inl (is ∙ sym (same_is e y t))
    taken t (inr r) = inr r

    further : (x ≡ e) ⊎ Has x (without e ys) → (x ≡ e) ⊎ Has x (y ∷ without e ys)
    further (inl is) = inl is
    further (inr r) = inr (inr r)

    passed : (Has x ys → (x ≡ e) ⊎ Has x (without e ys)) → Has x (y ∷ ys) → (x ≡ e) ⊎ Has x (y ∷ without e ys)
    passed rest (inl is) = inr (inl is)
    passed rest (inr r) = further (rest r)

pub length-without : (e : TokenEntry) (xs : List TokenEntry) → Has e xs → length (without e xs) + 1 ≡ length xs
length-without e [] h = absurd h
length-without e (y ∷ ys) h = elim (tells (same e y)) as (λ _. length (without e (y ∷ ys)) + 1 ≡ length (y ∷ ys)) [
  | inl t ↦ rw t (omega arith)
  | inr t ↦ rw t (there (length-without e ys) h t)
]
  where
    there : (Has e ys → length (without e ys) + 1 ≡ length ys) → Has e (y ∷ ys) → same e y ≡ false → length (y ∷ without e ys) + 1 ≡ length (y ∷ ys)
    there rest (inl is) t = absurd (let no : true ≡ false = sym (same_self e) ∙ (ap (same e) is ∙ t) in cc)
    there rest (inr r) t = let k = rest r in omega (arith, k)

-- what is in two lists that are appended
pub has_left : (x : TokenEntry) (xs ys : List TokenEntry) → Has x xs → Has x (xs ++ ys)
has_left x [] ys h = absurd h
has_left x (z ∷ zs) ys (inl is) = inl is
has_left x (z ∷ zs) ys (inr r) = inr (has_left x zs ys r)

pub has_right : (x : TokenEntry) (xs ys : List TokenEntry) → Has x ys → Has x (xs ++ ys)
has_right x [] ys h = h
has_right x (z ∷ zs) ys h = inr (has_right x zs ys h)

pub has_either : (x : TokenEntry) (xs ys : List TokenEntry) → Has x (xs ++ ys) → Has x xs ⊎ Has x ys
has_either x [] ys h = inr h
has_either x (z ∷ zs) ys (inl is) = inl (inl is)
has_either x (z ∷ zs) ys (inr r) = further (has_either x zs ys r)
  where
    further : Has x zs ⊎ Has x ys → Has x (z ∷ zs) ⊎ Has x ys
    further (inl h) = inl (inr h)
    further (inr h) = inr h
