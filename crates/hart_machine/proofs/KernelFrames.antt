-- Lemmas: the frames that the kernel's seat holds are frame 0, the stacks and the tables, as a list with one entry for each
-- reference, as many as the model counts (`HasKernel`, `kernel_has`).
use Rattle.std.proofs.Common.{◌≡◌, ℕ, zero, suc, ◌+◌, ◌<◌, ◌==◌, ◌⊎◌, Bool, true, false, cond, inl, inr, refl, ap, sym, ◌∙◌, arith, List, [], ◌∷◌, ◌++◌, length, Some}
use Rattle.std.specs.Prelude.{◌&&◌, ◌||◌, is_some, nat_le, nat_lt, slice_get}
use Rattle.std.specs.FinMap as finite
use Rattle.std.proofs.lemmas.Bool.{cases_lt, le-ltb, lt-ltb, eq-eqb}
use Rattle.std.proofs.lemmas.List.{length-append}
use Rattle.std.proofs.lemmas.Option.{same_Some}
use Rattle.frame_store.specs.View.{IsSole, View, references}
use Rattle.process_model.specs.Frames.{kernel_frames, first_frames}
use Rattle.sv39_entry.specs.declared.scheme.Scheme.TheVariants.{Sv39, Sv48}
use Rattle.sv39_entry.specs.Schemes.{trampoline_page}
use Rattle.sv39_entry.specs.declared.scheme.Scheme.{Scheme}
use Rattle.table_walk.specs.Tables.{Tables, root_node, last_table}
use Rattle.address_space.specs.Kernel.{first_direct, HoldsKernel, IsKernelTable, is_kernel_table, is_among, way}
use Rattle.hart_machine.proofs.NumberLists.{Among, among_back, among_front, among_parts, Distinct, distinct_append, times, times_among, times_are}
use Rattle.hart_machine.proofs.MatchedLists.{Matched, matched}
use Rattle.hart_machine.proofs.KeySets.{value}

-- the numbers of tables

-- behind two megabytes of frames one table more
abbrev behind : Scheme → ℕ
behind z = last_table z (first_direct + 512)

abbrev few_numbers : Scheme → List ℕ
few_numbers z = root_node z ∷ (way z (trampoline_page z) ++ way z first_direct)

abbrev numbers_by : Scheme → Bool → List ℕ
numbers_by z true = few_numbers z
numbers_by z false = few_numbers z ++ behind z ∷ []

abbrev are_distinct : List ℕ → Bool
are_distinct [] = true
are_distinct (k ∷ ks) = (times k ks == 0) && are_distinct ks

both_of : (a b : Bool) → (a && b) ≡ true → (a ≡ true) × (b ≡ true)
both_of true b e = (refl, e)
both_of false b e = absurd (cc)

same_of : (a b : ℕ) → (a == b) ≡ true → a ≡ b
same_of a b e = grind arith

distinct_by : (ks : List ℕ) → are_distinct ks ≡ true → Distinct ks
distinct_by [] e = tt
distinct_by (k ∷ ks) e =
    let two = both_of (times k ks == 0) (are_distinct ks) e in
    ((λ i. let some = times_among k ks i in let none = same_of (times k ks) 0 two.0 in absurd (omega (arith, some, none))), distinct_by ks two.1)

two_of : (a b : Bool) → (a || b) ≡ true → (a ≡ true) ⊎ (b ≡ true)
two_of true b t = inl refl
two_of false b t = inr t

four_of : (a b c d : Bool) → (a || b || c || d) ≡ true → (a ≡ true) ⊎ ((b ≡ true) ⊎ ((c ≡ true) ⊎ (d ≡ true)))
four_of true b c d t = inl refl
four_of false true c d t = inr (inl refl)
four_of false false true d t = inr (inr (inl refl))
four_of false false false true t = inr (inr (inr refl))
four_of false false false false t = absurd (cc)

second_of : (a b : Bool) → b ≡ true → (a || b) ≡ true
second_of true b t = refl
second_of false b t = t

third_of : (a b c d : Bool) → c ≡ true → (a || b || c || d) ≡ true
third_of true b c d t = refl
third_of false true c d t = refl
third_of false false true d t = refl
third_of false false false d t = absurd (cc)

last_of : (a b c d : Bool) → d ≡ true → (a || b || c || d) ≡ true
last_of true b c d t = refl
last_of false true c d t = refl
last_of false false true d t = refl
last_of false false false d t = t

middle_of : (a b c d : Bool) → b ≡ true → (a || b || c || d) ≡ true
middle_of true b c d t = refl
middle_of false true c d t = refl
middle_of false false c d t = absurd (cc)

-- members, and what the test of them tells
among_of : (k : ℕ) (ns : List ℕ) → is_among k ns ≡ true → Among k ns
among_of k [] t = absurd (cc)
among_of k (n ∷ ns) t = elim (two_of (k == n) (is_among k ns) t) [ inl here ↦ inl (same_of k n here) | inr later ↦ inr (among_of k ns later) ]

tells : (k : ℕ) (ns : List ℕ) → Among k ns → is_among k ns ≡ true
tells k [] i = absurd i
tells k (n ∷ ns) (inl e) = rw (eq-eqb k n e) refl
tells k (n ∷ ns) (inr i) = second_of (k == n) (is_among k ns) (tells k ns i)

-- of the way behind two megabytes all tables but the last are on the way to the first frame
shared : (z : Scheme) (k : ℕ) → Among k (way z (first_direct + 512)) → Among k (way z first_direct) ⊎ (k ≡ behind z)
shared Sv39 k (inl e) = inr e
shared Sv39 k (inr (inl e)) = inl (inr (inl e))
shared Sv39 k (inr (inr none)) = absurd none
shared Sv48 k (inl e) = inr e
shared Sv48 k (inr (inl e)) = inl (inr (inl e))
shared Sv48 k (inr (inr (inl e))) = inl (inr (inr (inl e)))
shared Sv48 k (inr (inr (inr none))) = absurd none

is_behind : (z : Scheme) → is_among (behind z) (way z (first_direct + 512)) ≡ true
is_behind Sv39 = refl
is_behind Sv48 = refl

-- the tests of the number of frames
record Tests (frames : ℕ) (few : Bool) : Type 0 where
  pub is : nat_le frames 512 ≡ few
  pub more : nat_lt 512 frames ≡ cond few false true

tests : (frames : ℕ) → (few : Bool) × Tests frames few
tests frames = elim (cases_lt 512 frames) [
  | inl more ↦ (false, record { is = grind (arith, more); more = lt-ltb 512 frames more })
  | inr few ↦ (true, record { is = grind (arith, few); more = le-ltb 512 frames few })
]

module _ (z : Scheme) (frames : ℕ) (some : 0 < frames) where
  there : nat_lt 0 frames ≡ true
  there = lt-ltb 0 frames some

  abbrev at_root : ℕ → Bool
  at_root k = k == root_node z

  abbrev to_top : ℕ → Bool
  to_top k = is_among k (way z (trampoline_page z))

  abbrev to_first : ℕ → Bool
  to_first k = nat_lt 0 frames && is_among k (way z first_direct)

  abbrev to_next : ℕ → Bool
  to_next k = nat_lt 512 frames && is_among k (way z (first_direct + 512))

  few_in : (few : Bool) (k : ℕ) → Among k (few_numbers z) → Among k (numbers_by z few)
  few_in true k i = i
  few_in false k i = among_front k (few_numbers z) (behind z ∷ []) i

  kernel_in : (few : Bool) → Tests frames few → (k : ℕ) → is_kernel_table z frames k ≡ true → Among k (numbers_by z few)
  kernel_in few t k is = elim (four_of (at_root k) (to_top k) (to_first k) (to_next k) is) [
    | inl a ↦ few_in few k (inl (same_of k _ a))
    | inr o ↦ elim o [
      | inl a ↦ few_in few k (inr (among_front k (way z (trampoline_page z)) (way z first_direct) (among_of k _ a)))
      | inr p ↦ elim p [
        | inl a ↦ few_in few k (on_first (among_of k _ (both_of (nat_lt 0 frames) (is_among k (way z first_direct)) a).1))
        | inr a ↦ (
            let two = both_of (nat_lt 512 frames) (is_among k (way z (first_direct + 512))) a in
            elim (shared z k (among_of k _ two.1)) [
              | inl upper ↦ few_in few k (on_first upper)
              | inr new ↦ last few (sym t.more ∙ two.0) new
            ])
      ]
    ]
  ] where
    on_first : Among k (way z first_direct) → Among k (few_numbers z)
    on_first i = inr (among_back k (way z (trampoline_page z)) (way z first_direct) i)

    last : (few : Bool) → cond few false true ≡ true → k ≡ behind z → Among k (numbers_by z few)
    last true e is = absurd (cc)
    last false e is = among_back k (few_numbers z) (behind z ∷ []) (inl is)

  in_few : (k : ℕ) → Among k (few_numbers z) → is_kernel_table z frames k ≡ true
  in_few k (inl e) = rw (eq-eqb k (root_node z) e) refl
  in_few k (inr i) = elim (among_parts k (way z (trampoline_page z)) (way z first_direct) i) [
    | inl j ↦ middle_of (at_root k) (to_top k) (to_first k) (to_next k) (tells k _ j)
    | inr j ↦ third_of (at_root k) (to_top k) (to_first k) (to_next k) (rw there (tells k _ j))
  ]

  in_kernel : (few : Bool) → Tests frames few → (k : ℕ) → Among k (numbers_by z few) → is_kernel_table z frames k ≡ true
  in_kernel true t k i = in_few k i
  in_kernel false t k i = elim (among_parts k (few_numbers z) (behind z ∷ []) i) [
    | inl j ↦ in_few k j
    | inr j ↦ elim j [
      | inl e ↦ last_of (at_root k) (to_top k) (to_first k) (to_next k) (rw (t.more, e) (is_behind z))
      | inr none ↦ absurd none
    ]
  ]

numbers_distinct : (z : Scheme) (few : Bool) → Distinct (numbers_by z few)
numbers_distinct Sv39 true = distinct_by (numbers_by Sv39 true) refl
numbers_distinct Sv39 false = distinct_by (numbers_by Sv39 false) refl
numbers_distinct Sv48 true = distinct_by (numbers_by Sv48 true) refl
numbers_distinct Sv48 false = distinct_by (numbers_by Sv48 false) refl

-- so many frames as boot takes
frames_by : (z : Scheme) (few : Bool) (slots : ℕ) → suc (slots + length (numbers_by z few)) ≡ first_frames z + cond few 0 1 + slots
frames_by Sv39 true slots = omega arith
frames_by Sv39 false slots = omega arith
frames_by Sv48 true slots = omega arith
frames_by Sv48 false slots = omega arith

-- stacks

among_slot : (f : ℕ) (stacks : List ℕ) → Among f stacks → (slot : ℕ) × (slice_get stacks slot ≡ Some f)
among_slot f [] i = absurd i
among_slot f (x ∷ xs) (inl e) = (0, ap (λ z. Some z) (sym e))
among_slot f (x ∷ xs) (inr i) = let old = among_slot f xs i in (suc old.0, old.1)

slot_among : (f slot : ℕ) (stacks : List ℕ) → slice_get stacks slot ≡ Some f → Among f stacks
slot_among f slot [] at = absurd (cc)
slot_among f zero (x ∷ xs) at = inl (sym (same_Some x f at))
slot_among f (suc slot) (x ∷ xs) at = inr (slot_among f slot xs at)

stacks_distinct : (stacks : List ℕ) → ((i j f : ℕ) → slice_get stacks i ≡ Some f → slice_get stacks j ≡ Some f → i ≡ j) → Distinct stacks
stacks_distinct [] apart = tt
stacks_distinct (x ∷ xs) apart = (
  (λ i. let old = among_slot x xs i in let same = apart 0 (suc old.0) x refl old.1 in absurd (omega (arith, same))),
  stacks_distinct xs (λ i j f at also. let same = apart (suc i) (suc j) f at also in omega (arith, same)),
)

-- the frames of the kernel

pub record HasKernel (z : Scheme) (v : View) (frames slots : ℕ) : Type 0 where
  -- stacks and tables
  pub own : List ℕ
  pub long : suc (length own) ≡ kernel_frames z frames slots
  pub lone : (f : ℕ) → Among f own → (references v f ≡ 1) × IsSole v f
  pub no_code : Among 0 own → ⊥
  pub all : (f : ℕ) → times f (0 ∷ own) ≡ references v f

module _ (z : Scheme) (v : View) (root frames slots : ℕ) (stacks : List ℕ) (t : Tables) (some : 0 < frames) (is : IsKernelTable z v root frames slots stacks t) where
  abbrev few : Bool
  few = (tests frames).0

  abbrev few_tests : Tests frames few
  few_tests = (tests frames).1

  abbrev holds : HoldsKernel v stacks t.tables
  holds = is.maps.holds

  abbrev IsTable : ℕ → ℕ → Type 0
  IsTable f k = finite.get t.tables k ≡ Some f

  tables : (fs : List ℕ) × Matched IsTable (numbers_by z few) fs
  tables = matched IsTable (numbers_by z few) (numbers_distinct z few) (λ k i. value (finite.get t.tables k) (is.maps.numbers k ∙ in_kernel z frames some few few_tests k i))
      (λ f g k _ at also. same_Some f g (sym at ∙ also)) (λ f j k _ _ at also. is.maps.tables.known.apart j k f at also)

  abbrev own : List ℕ
  own = stacks ++ tables.0

  table_in : (k f : ℕ) → IsTable f k → Among f tables.0
  table_in k f at = tables.1.has f k (kernel_in z frames some few few_tests k (sym (is.maps.numbers k) ∙ ap is_some at)) at

  lone : (f : ℕ) → Among f own → (references v f ≡ 1) × IsSole v f
  lone f i = elim (among_parts f stacks tables.0 i) [
    | inl j ↦ let slot = among_slot f stacks j in let held = holds.stack slot.0 f slot.1 in (held.0, held.1)
    | inr j ↦ let k = tables.1.of f j in (holds.table k.0 f k.2, (is.maps.tables.own k.0 f k.2).1)
  ]

  no_code : Among 0 own → ⊥
  no_code i = elim (among_parts 0 stacks tables.0 i) [
    | inl j ↦ let slot = among_slot 0 stacks j in holds.stack_no_code slot.0 0 slot.1 refl
    | inr j ↦ let k = tables.1.of 0 j in holds.table_no_code k.0 0 k.2 refl
  ]

  own_distinct : Distinct own
  own_distinct = distinct_append stacks tables.0 (stacks_distinct stacks holds.stacks_apart) tables.1.distinct (λ q i j.
      let slot = among_slot q stacks i in
      let k = tables.1.of q j in
      holds.stack_no_table slot.0 k.0 q slot.1 k.2)

  pub kernel_has : HasKernel z v frames slots
  kernel_has = record {
    own = own;
    long =
        let parts = length-append stacks tables.0 in
        let tables_long = tables.1.long in
        let stacks_long = is.stacked in
        let sum = frames_by z few slots in
        rw few_tests.is (omega (arith, parts, tables_long, stacks_long, sum));
    lone = lone;
    no_code = no_code;
    all = times_are (0 ∷ own) (references v) (no_code, own_distinct)
        (λ f i. elim i [
          | inl e ↦ ap (references v) e ∙ holds.code
          | inr j ↦ (lone f j).0
        ])
        (λ f far. holds.bare f (λ e. far (inl e)) (λ slot at. far (inr (among_front f stacks tables.0 (slot_among f slot stacks at)))) (λ k at. far (inr (among_back f stacks tables.0 (table_in k f at)))));
  }
