-- Lemmas on the page tables that the kernel's pages need: how many are missing for the trampoline, a stack (none) and each
-- further frame, and which there are after each of these is mapped. Also how many credits a build of the table begins with.
use Rattle.std.proofs.Common.{◌≡◌, ℕ, zero, suc, ◌+◌, ◌-◌, ◌<◌, ◌≤◌, Bool, true, false, ◌||◌, List, [], ◌∷◌, Option, None, Some, inl, inr, refl, ap, sym, ◌∙◌, arith}
use Rattle.std.specs.Prelude.{◌==◌, is_some, if◌then◌else◌}
use Rattle.std.specs.FinMap.{empty, get, get-empty}
use Rattle.std.specs.Ordering.{nat_cmp}
use Rattle.std.proofs.lemmas.Bool.{cases_Bool, cases_eq, cases_lt, eq-eqb, le-ltb, lt-ltb, ne_eqb}
use Rattle.std.proofs.lemmas.Bool.Decides.{nat_tests}
use Rattle.frame_store.specs.View.{View, with_credits}
use Rattle.process_model.specs.Frames.{kernel_frames}
use Rattle.sv39_entry.specs.Schemes.{top_level, trampoline_page}
use Rattle.sv39_entry.specs.declared.scheme.Scheme.{Scheme}
use Rattle.sv39_entry.specs.declared.scheme.Scheme.TheVariants.{Sv39, Sv48}
use Rattle.table_walk.specs.Tables.{bare_root, IsGrown, missing, missing_to, node, root_node, Tables}
use Rattle.table_walk.specs.Keys.{insert_other, insert_same, is_none}
use Rattle.address_space.specs.Kernel.{direct_tables, first_direct, is_among, is_kernel_table, stack_page, way, way_to}

-- ---- the tables on a way

-- how many of some numbers a test does not hold of
abbrev fails_of : (ℕ → Bool) → List ℕ → ℕ
fails_of test [] = 0
fails_of test (n ∷ ns) = fails_of test ns + (if test n then 0 else 1)

-- so many of a page's tables are missing where the test tells which are there
missing_way : (z : Scheme) (t : Tables) (test : ℕ → Bool) → ((k : ℕ) → is_some (get t.tables k) ≡ test k) → (page k : ℕ) → missing_to z t page k ≡ fails_of test (way_to z page k)
missing_way z t test tells page zero = refl
missing_way z t test tells page (suc k) =
    ap (λ (b : Bool). missing_to z t page k + (if b then 0 else 1)) (tells (node z page (suc k)))
    ∙ ap (λ (n : ℕ). n + (if test (node z page (suc k)) then 0 else 1)) (missing_way z t test tells page k)

same_fails : (f g : ℕ → Bool) → ((k : ℕ) → f k ≡ g k) → (ns : List ℕ) → fails_of f ns ≡ fails_of g ns
same_fails f g same [] = refl
same_fails f g same (n ∷ ns) = rw (same n, same_fails f g same ns) refl

missing_is : (z : Scheme) (t : Tables) (test : ℕ → Bool) → ((k : ℕ) → is_some (get t.tables k) ≡ test k) → (page : ℕ) (ns : List ℕ) → way z page ≡ ns → missing z t page ≡ fails_of test ns
missing_is z t test tells page ns same = missing_way z t test tells page (top_level z) ∙ ap (fails_of test) same

there : {A : Type 0} (o : Option A) → is_some o ≡ true → (x : A) × (o ≡ Some x)
there None some = absurd (cc)
there (Some x) some = (x, refl)

on_way : (z : Scheme) (page i k : ℕ) → i < k → is_among (node z page (suc i)) (way_to z page k) ≡ true
on_way z page i zero less = absurd (omega (arith, less))
on_way z page i (suc k) less = elim (cases_eq i k) [
  | inl same ↦ rw same (rw (eq-eqb (node z page (suc k)) (node z page (suc k)) refl) refl)
  | inr ne ↦ elim (node z page (suc i) == node z page (suc k)) as (λ b. (b || is_among (node z page (suc i)) (way_to z page k)) ≡ true) [ true ↦ refl | false ↦ on_way z page i k (omega (arith, less, ne)) ]
]

of_way : (z : Scheme) (page k n : ℕ) → is_among n (way_to z page k) ≡ true → (i : ℕ) × (i ≤ k) × (n ≡ node z page i)
of_way z page zero n is = absurd (cc)
of_way z page (suc k) n is = elim (cases_eq n (node z page (suc k))) [
  | inl same ↦ (suc k, omega arith, same)
  | inr ne ↦ let rest = of_way z page k n (rw (ne_eqb n (node z page (suc k)) ne) at is) in (rest.0, omega (arith, rest.1), rest.2)
]

module _ (z : Scheme) (t u : Tables) (page : ℕ) (grown : IsGrown z t u page (top_level z)) (root : is_some (get t.tables (root_node z)) ≡ true) where
  -- a table that is new stands on the way, and is not the root
  new_among : (n i : ℕ) → i ≤ top_level z → n ≡ node z page i → get t.tables n ≡ None → is_among n (way z page) ≡ true
  new_among n zero low is none = absurd (let gone : is_some (get t.tables (root_node z)) ≡ false = ap (λ (k : ℕ). is_some (get t.tables k)) (sym is) ∙ ap is_some none in cc)
  new_among n (suc i) low is none = ap (λ (k : ℕ). is_among k (way z page)) is ∙ on_way z page i (top_level z) (omega (arith, low))

  new_numbers : (n : ℕ) → is_some (get t.tables n) ≡ false → (b : Bool) → is_among n (way z page) ≡ b → is_some (get u.tables n) ≡ b
  new_numbers n old true among =
      let at = of_way z page (top_level z) n among in
      let whole = grown.whole at.0 at.1 in
      ap is_some (ap (get u.tables) at.2 ∙ whole.1)
  new_numbers n old false among =
      ap is_some (is_none (get u.tables n) (λ f at. elim (grown.new n f at) [
        | inl was ↦ (let some = ap is_some was in cc)
        | inr new ↦ (let set = new_among n new.1.0 new.1.1 new.1.2 new.0 in cc)
      ]))

  -- so the tables are those that were there, and those of the way
  grown_numbers : (n : ℕ) → is_some (get u.tables n) ≡ (is_some (get t.tables n) || is_among n (way z page))
  grown_numbers n = elim (cases_Bool (is_some (get t.tables n))) [
    | inl old ↦ (let f = there (get t.tables n) old in rw old (ap is_some (grown.kept n f.0 f.1)))
    | inr new ↦ rw new (new_numbers n new (is_among n (way z page)) refl)
  ]

-- ---- the ways of the kernel's pages

two : (a b c d : ℕ) → a ≡ c → b ≡ d → ◌≡◌ {A = List ℕ} (a ∷ b ∷ []) (c ∷ d ∷ [])
two a b c d p q = ap (λ n. n ∷ b ∷ []) p ∙ ap (λ n. c ∷ n ∷ []) q

three : (a b c d e f : ℕ) → a ≡ d → b ≡ e → c ≡ f → ◌≡◌ {A = List ℕ} (a ∷ b ∷ c ∷ []) (d ∷ e ∷ f ∷ [])
three a b c d e f p q r = ap (λ n. n ∷ b ∷ c ∷ []) p ∙ ap (λ ns. d ∷ ns) (two b c e f q r)

-- the stacks share the trampoline's way
stack_way : (z : Scheme) (slot : ℕ) → slot < 64 → way z (stack_page z slot) ≡ way z (trampoline_page z)
stack_way Sv39 slot less = two _ _ _ _ (omega (arith, less)) (omega (arith, less))
stack_way Sv48 slot less = three _ _ _ _ _ _ (omega (arith, less)) (omega (arith, less)) (omega (arith, less))

-- and the frames of two megabytes have one
low_way : (z : Scheme) (i : ℕ) → i < 512 → way z (first_direct + i) ≡ way z first_direct
low_way Sv39 i less = two _ _ _ _ (omega (arith, less)) (omega (arith, less))
low_way Sv48 i less = three _ _ _ _ _ _ (omega (arith, less)) (omega (arith, less)) (omega (arith, less))

high_way : (z : Scheme) (i : ℕ) → 512 ≤ i → i < 1024 → way z (first_direct + i) ≡ way z (first_direct + 512)
high_way Sv39 i more less = two _ _ _ _ (omega (arith, more, less)) (omega (arith, more, less))
high_way Sv48 i more less = three _ _ _ _ _ _ (omega (arith, more, less)) (omega (arith, more, less)) (omega (arith, more, less))

-- ---- the tables that are there

-- those of so many frames
abbrev pub HasNumbers : Scheme → Tables → ℕ → Type 0
HasNumbers z t frames = (k : ℕ) → is_some (get t.tables k) ≡ is_kernel_table z frames k

-- what a test includes adds nothing to it
absorbed : (x y : Bool) → (y ≡ true → x ≡ true) → (x || y) ≡ x
absorbed true y known = refl
absorbed false true known = sym (known refl)
absorbed false false known = refl

-- one of the tests of a number holds
second_of : (a b c d : Bool) → b ≡ true → (a || b || c || d) ≡ true
second_of true b c d is = refl
second_of false b c d is = rw is refl

third_of : (a b c d : Bool) → c ≡ true → (a || b || c || d) ≡ true
third_of true b c d is = refl
third_of false true c d is = refl
third_of false false c d is = rw is refl

fourth_of : (a b c d : Bool) → d ≡ true → (a || b || c || d) ≡ true
fourth_of true b c d is = refl
fourth_of false true c d is = refl
fourth_of false false true d is = refl
fourth_of false false false d is = is

root_there : (z : Scheme) (t : Tables) (frames : ℕ) → HasNumbers z t frames → is_some (get t.tables (root_node z)) ≡ true
root_there z t frames numbers = numbers (root_node z) ∙ rw (eq-eqb (root_node z) (root_node z) refl) refl

-- ---- stacks

-- the trampoline's way is there before any frame
trampoline_there : (z : Scheme) → fails_of (is_kernel_table z 0) (way z (trampoline_page z)) ≡ 0
trampoline_there Sv39 = refl
trampoline_there Sv48 = refl

module _ (z : Scheme) (t : Tables) (numbers : HasNumbers z t 0) where
  pub stack_missing : (slot : ℕ) → slot < 64 → missing z t (stack_page z slot) ≡ 0
  stack_missing slot less = missing_is z t (is_kernel_table z 0) numbers (stack_page z slot) (way z (trampoline_page z)) (stack_way z slot less) ∙ trampoline_there z

  pub stack_numbers : (u : Tables) (slot : ℕ) → slot < 64 → IsGrown z t u (stack_page z slot) (top_level z) → HasNumbers z u 0
  stack_numbers u slot less grown k =
      grown_numbers z t u (stack_page z slot) grown (root_there z t 0 numbers) k
      ∙ ap (λ ns. is_some (get t.tables k) || is_among k ns) (stack_way z slot less)
      ∙ ap (λ x. x || is_among k (way z (trampoline_page z))) (numbers k)
      ∙ absorbed (is_kernel_table z 0 k) (is_among k (way z (trampoline_page z))) (second_of (k == root_node z) (is_among k (way z (trampoline_page z))) false false)

-- ---- the trampoline, on a bare root

one_table : (z : Scheme) (root k : ℕ) → is_some (get (bare_root z root).tables k) ≡ (k == root_node z)
one_table z root k = elim (cases_eq k (root_node z)) [
  | inl e ↦ rw (eq-eqb k (root_node z) e) (ap is_some (insert_same empty (root_node z) root k e))
  | inr ne ↦ rw (ne_eqb k (root_node z) ne) (ap is_some (insert_other empty (root_node z) root k ne ∙ get-empty {X = ℕ} nat_cmp k))
]

bare_way : (z : Scheme) → fails_of (λ k. k == root_node z) (way z (trampoline_page z)) ≡ top_level z
bare_way Sv39 = refl
bare_way Sv48 = refl

pub trampoline_missing : (z : Scheme) (root : ℕ) → missing z (bare_root z root) (trampoline_page z) ≡ top_level z
trampoline_missing z root = missing_is z (bare_root z root) (λ k. k == root_node z) (one_table z root) (trampoline_page z) (way z (trampoline_page z)) refl ∙ bare_way z

last_none : (x y : Bool) → (x || y) ≡ (x || y || false || false)
last_none true y = refl
last_none false true = refl
last_none false false = refl

pub trampoline_numbers : (z : Scheme) (root : ℕ) (u : Tables) → IsGrown z (bare_root z root) u (trampoline_page z) (top_level z) → HasNumbers z u 0
trampoline_numbers z root u grown k =
    grown_numbers z (bare_root z root) u (trampoline_page z) grown (one_table z root (root_node z) ∙ eq-eqb (root_node z) (root_node z) refl) k
    ∙ ap (λ x. x || is_among k (way z (trampoline_page z))) (one_table z root k) ∙ last_none (k == root_node z) (is_among k (way z (trampoline_page z)))

-- ---- frames

-- with the first frame the tests of its way are added, and with the one after two megabytes those of its own
first_tables : (x y w : Bool) → ((x || y || false || false) || w) ≡ (x || y || w || false)
first_tables true y w = refl
first_tables false true w = refl
first_tables false false true = refl
first_tables false false false = refl

next_table : (x y v w : Bool) → ((x || y || v || false) || w) ≡ (x || y || v || w)
next_table true y v w = refl
next_table false true v w = refl
next_table false false true w = refl
next_table false false false w = refl

-- the tests of the numbers where some frames are mapped, and not more than 512, and where more are
some_low : (z : Scheme) (i : ℕ) → 0 < i → i ≤ 512 → (k : ℕ) → is_kernel_table z i k ≡ is_kernel_table z 1 k
some_low z i more low k = rw (lt-ltb 0 i more, le-ltb 512 i low) refl

some_high : (z : Scheme) (i : ℕ) → 512 < i → (k : ℕ) → is_kernel_table z i k ≡ is_kernel_table z 513 k
some_high z i more k = rw (lt-ltb 0 i (omega (arith, more)), lt-ltb 512 i more) refl

-- how many tables of a frame's way are missing, by how many frames are mapped
none_there : (z : Scheme) → fails_of (is_kernel_table z 0) (way z first_direct) ≡ top_level z
none_there Sv39 = refl
none_there Sv48 = refl

low_there : (z : Scheme) → fails_of (is_kernel_table z 1) (way z first_direct) ≡ 0
low_there Sv39 = refl
low_there Sv48 = refl

last_missing : (z : Scheme) → fails_of (is_kernel_table z 512) (way z (first_direct + 512)) ≡ 1
last_missing Sv39 = refl
last_missing Sv48 = refl

high_there : (z : Scheme) → fails_of (is_kernel_table z 513) (way z (first_direct + 512)) ≡ 0
high_there Sv39 = refl
high_there Sv48 = refl

-- fewer frames need no more tables
pub fewer_tables : (z : Scheme) (i j : ℕ) → i ≤ j → direct_tables z i ≤ direct_tables z j
fewer_tables Sv39 i j le = grind (arith, nat_tests)
fewer_tables Sv48 i j le = grind (arith, nat_tests)

-- the root, the tables for the trampoline, the stacks, and the tables of the frames
kernel_need : (z : Scheme) (frames slots : ℕ) → 0 < frames → kernel_frames z frames slots - 1 ≡ 1 + top_level z + (slots + direct_tables z frames)
kernel_need Sv39 frames slots some = grind (arith, nat_tests)
kernel_need Sv48 frames slots some = grind (arith, nat_tests)

-- the first frame, one of the first two megabytes, the first of the second, and another of those
direct_first : (z : Scheme) → direct_tables z 1 ≡ top_level z + direct_tables z 0
direct_first Sv39 = refl
direct_first Sv48 = refl

direct_middle : (z : Scheme) → direct_tables z 513 ≡ 1 + direct_tables z 512
direct_middle Sv39 = refl
direct_middle Sv48 = refl

direct_low : (z : Scheme) (i : ℕ) → 0 < i → i < 512 → direct_tables z (i + 1) ≡ direct_tables z i
direct_low Sv39 i some low = grind (arith, nat_tests)
direct_low Sv48 i some low = grind (arith, nat_tests)

direct_high : (z : Scheme) (i : ℕ) → 512 < i → direct_tables z (i + 1) ≡ direct_tables z i
direct_high Sv39 i high = grind (arith, nat_tests)
direct_high Sv48 i high = grind (arith, nat_tests)

-- so many credits there are once they are reserved
pub reserved : (z : Scheme) (v w : View) (n frames slots : ℕ) → w ≡ with_credits n v → n ≡ kernel_frames z frames slots - 1 → 0 < frames → v.credits ≡ 0
    → w.credits ≡ 1 + top_level z + (slots + direct_tables z frames)
reserved z v w n frames slots is need some none =
    let credits = ap (λ (u : View). u.credits) is in
    let parts = kernel_need z frames slots some in
    omega (arith, credits, need, parts, none)

-- the next frame is the first, one of the first two megabytes, the first of the second, or another of those
module _ (z : Scheme) (t : Tables) (i : ℕ) (numbers : HasNumbers z t i) (less : i < 1024) where
  missing_low : 0 < i → i < 512 → missing z t (first_direct + i) ≡ 0
  missing_low some low =
      missing_is z t (is_kernel_table z 1) (λ k. numbers k ∙ some_low z i some (omega (arith, low)) k) (first_direct + i) (way z first_direct) (low_way z i low) ∙ low_there z

  missing_middle : i ≡ 512 → missing z t (first_direct + i) ≡ 1
  missing_middle is =
      missing_is z t (is_kernel_table z 512) (λ k. numbers k ∙ ap (λ n. is_kernel_table z n k) is) (first_direct + i) (way z (first_direct + 512)) (high_way z i (omega (arith, is)) less) ∙ last_missing z

  missing_high : 512 < i → missing z t (first_direct + i) ≡ 0
  missing_high high =
      missing_is z t (is_kernel_table z 513) (λ k. numbers k ∙ some_high z i high k) (first_direct + i) (way z (first_direct + 512)) (high_way z i (omega (arith, high)) less) ∙ high_there z

  missing_none : i ≡ 0 → missing z t (first_direct + i) ≡ top_level z
  missing_none is =
      missing_is z t (is_kernel_table z 0) (λ k. numbers k ∙ ap (λ n. is_kernel_table z n k) is) (first_direct + i) (way z first_direct) (low_way z i (omega (arith, is))) ∙ none_there z

  pub frame_missing : missing z t (first_direct + i) + direct_tables z i ≡ direct_tables z (i + 1)
  frame_missing = elim (cases_eq i 0) [
    | inl none ↦ rw none (let first = missing_none none in let step = direct_first z in omega (arith, rw none at first, step))
    | inr some ↦ elim (cases_lt i 512) [
      | inl low ↦ omega (arith, missing_low (omega (arith, some)) low, direct_low z i (omega (arith, some)) low)
      | inr high ↦ elim (cases_eq i 512) [
        | inl middle ↦ rw middle (let next = missing_middle middle in let step = direct_middle z in omega (arith, rw middle at next, step))
        | inr more ↦ omega (arith, missing_high (omega (arith, high, more)), direct_high z i (omega (arith, high, more)))
      ]
    ]
  ]

  module _ (u : Tables) (grown : IsGrown z t u (first_direct + i) (top_level z)) (k : ℕ) where
    grown_on : (ns : List ℕ) → way z (first_direct + i) ≡ ns → is_some (get u.tables k) ≡ (is_kernel_table z i k || is_among k ns)
    grown_on ns same =
        grown_numbers z t u (first_direct + i) grown (root_there z t i numbers) k
        ∙ ap (λ ms. is_some (get t.tables k) || is_among k ms) same ∙ ap (λ x. x || is_among k ns) (numbers k)

    abbrev low : Bool
    low = is_among k (way z first_direct)

    abbrev high : Bool
    high = is_among k (way z (first_direct + 512))

    abbrev top : Bool
    top = is_among k (way z (trampoline_page z))

    pub frame_numbers : is_some (get u.tables k) ≡ is_kernel_table z (i + 1) k
    frame_numbers = elim (cases_eq i 0) [
      | inl none ↦ grown_on (way z first_direct) (low_way z i (omega (arith, none))) ∙ rw none (first_tables (k == root_node z) top low)
      | inr some ↦ elim (cases_lt i 512) [
        | inl below ↦
            grown_on (way z first_direct) (low_way z i below) ∙ ap (λ x. x || low) (some_low z i (omega (arith, some)) (omega (arith, below)) k)
            ∙ absorbed (is_kernel_table z 1 k) low (third_of (k == root_node z) top low false) ∙ sym (some_low z (i + 1) (omega arith) (omega (arith, below)) k)
        | inr above ↦ elim (cases_eq i 512) [
          | inl middle ↦ grown_on (way z (first_direct + 512)) (high_way z i above less) ∙ rw middle (next_table (k == root_node z) top low high)
          | inr more ↦
              grown_on (way z (first_direct + 512)) (high_way z i above less) ∙ ap (λ x. x || high) (some_high z i (omega (arith, above, more)) k)
              ∙ absorbed (is_kernel_table z 513 k) high (fourth_of (k == root_node z) top low high) ∙ sym (some_high z (i + 1) (omega (arith, above)) k)
        ]
      ]
    ]
