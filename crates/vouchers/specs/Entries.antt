-- Records. `TokenEntry`, the entry of a token: an unfinished process, by its name, how it began (`Birth`: its list of calls
-- and its first process) and how the children began that it has named. `View`, the ghost state of an issuer or a token.
-- Functions: equality of entries, the list without some (`without`, `minus`), membership (`Has`), and the views at first,
-- after a token is issued, and after one is redeemed.
use base.Stored.{Gv, gcons, gnil, gnum}
use Rattle.std.specs.Prelude.{◌≡◌, ◌⊎◌, ℕ, ◌==◌, ◌&&◌, Bool, true, false, cond, List, [], ◌∷◌, refl}
use Rattle.std.specs.Coded.{Coded, code_by, coded×, coded_ℕ, coded_bool, coded_list}
use denote.Struct.Codes.{itself}

-- how a process began
pub record Birth : Type 0 where
  -- the number of the list of calls that it runs
  pub list : ℕ
  -- the process of the model that it began as, by its code: processes with one code are one
  pub opening : Gv

abbrev pub birth : ℕ → Gv → Birth
birth list opening = record { list = list; opening = opening }

-- an unfinished process, as its token and the issuer's list name it
pub record TokenEntry : Type 0 where
  pub name : List ℕ
  pub birth : Birth
  -- how the children began that it has named, in order
  pub children : List Birth

abbrev pub entry : List ℕ → Birth → List Birth → TokenEntry
entry name birth children = record { name = name; birth = birth; children = children }

-- an entry without a name
abbrev pub nameless : TokenEntry
nameless = entry [] (birth 0 gnil) []

abbrev pub birth_code : Coded Birth
birth_code = code_by (ℕ × Gv) (coded× coded_ℕ itself) (λ b. (b.list, b.opening)) (λ p. record { list = p.0; opening = p.1 }) (λ _. refl)

abbrev pub entry_code : Coded TokenEntry
entry_code = code_by (List ℕ
    × (Birth × List Birth)) (coded× (coded_list coded_ℕ) (coded× birth_code (coded_list birth_code))) (λ e.
    (e.name, (e.birth, e.children))) (λ p. record { name = p.0; birth = p.1.0; children = p.1.1 }) (λ _. refl)

-- The view of an issuer or a token. `keeps`: it is an issuer's. `given`: the issuer's list, of entries issued and not
-- redeemed. `held`: the entry that a token holds
pub record View : Type 0 where
  pub keeps : Bool
  pub given : List TokenEntry
  pub held : List TokenEntry
  -- the entries redeemed last, and the issuer's list before that
  pub back : List TokenEntry
  pub before : List TokenEntry

abbrev pub view_code : Coded View
view_code = code_by (Bool
    × (List TokenEntry × (List TokenEntry
    × (List TokenEntry × List TokenEntry))))
    (coded× coded_bool (coded× (coded_list entry_code) (coded× (coded_list entry_code) (coded× (coded_list entry_code) (coded_list entry_code)))))
    (λ v. (v.keeps, (v.given, (v.held, (v.back, v.before))))) (λ p. record {
      keeps = p.0;
      given = p.1.0;
      held = p.1.1.0;
      back = p.1.1.1.0;
      before = p.1.1.1.1;
    }) (λ _. refl)

-- equality of names, of codes, of births and of entries, as a test
abbrev pub same_name : List ℕ → List ℕ → Bool
same_name [] [] = true
same_name [] (y ∷ ys) = false
same_name (x ∷ xs) [] = false
same_name (x ∷ xs) (y ∷ ys) = (x == y) && same_name xs ys

abbrev pub same_opening : Gv → Gv → Bool
same_opening gnil gnil = true
same_opening (gnum m) (gnum n) = m == n
same_opening (gcons a b) (gcons c d) = same_opening a c && same_opening b d
same_opening a b = false

abbrev pub same_birth : Birth → Birth → Bool
same_birth a b = (a.list == b.list) && same_opening a.opening b.opening

abbrev pub same_births : List Birth → List Birth → Bool
same_births [] [] = true
same_births [] (y ∷ ys) = false
same_births (x ∷ xs) [] = false
same_births (x ∷ xs) (y ∷ ys) = same_birth x y && same_births xs ys

abbrev pub same : TokenEntry → TokenEntry → Bool
same a b = same_birth a.birth b.birth && (same_births a.children b.children && same_name a.name b.name)

-- the list without the first occurrence of e
abbrev pub without : TokenEntry → List TokenEntry → List TokenEntry
without e [] = []
without e (x ∷ xs) = cond (same e x) xs (x ∷ without e xs)

-- the first list without one occurrence of each entry of the second
abbrev pub minus : List TokenEntry → List TokenEntry → List TokenEntry
minus xs [] = xs
minus xs (e ∷ es) = minus (without e xs) es

-- e is in the list
abbrev pub Has : TokenEntry → List TokenEntry → Type 0
Has e [] = ⊥
Has e (x ∷ xs) = (e ≡ x) ⊎ Has e xs

-- the view of a new issuer, of a token for e, and of a token that was redeemed
abbrev pub keeper_view : View
keeper_view = record { keeps = true; given = []; held = []; back = []; before = [] }

abbrev pub voucher_view : TokenEntry → View
voucher_view e = record { keeps = false; given = []; held = e ∷ []; back = []; before = [] }

abbrev pub spent_view : View
spent_view = record { keeps = false; given = []; held = []; back = []; before = [] }

-- the issuer's view after it has issued a token for e, and after it has redeemed a token with the view w
abbrev pub gave : TokenEntry → View → View
gave e v = record { keeps = v.keeps; given = e ∷ v.given; held = v.held; back = v.back; before = v.before }

abbrev pub took : View → View → View
took v w = record { keeps = v.keeps; given = minus v.given w.held; held = v.held; back = w.held; before = v.given }
