-- Lemmas: stores that make the words of a list into those of another, of one length, make the memory of the one into that of the other.
use Rattle.std.proofs.Common.{◌≡◌, ℕ, zero, suc, ◌+◌, ◌-◌, ◌*◌, ◌/◌, ◌%◌, ◌^◌, ◌<◌, ◌≤◌, ◌==◌, ◌&&◌, nat_lt, nat_le, Bool, true, false, refl, sym, ap, ◌∙◌, inl, inr, arith, Option, None, Some, List, [], ◌∷◌, ◌++◌, length, if◌then◌else◌}
use Rattle.std.proofs.lemmas.Bool.{cases_Bool, cases_lt, eq-eqb, eqb-true, false≢true, le-leb, le-ltb, lt-ltb}
use Rattle.std.proofs.lemmas.List.{append_assoc, length-append}
use Rattle.std.proofs.lemmas.Option.{same_Some}
use Rattle.std.specs.Prelude.{option_and_then, slice_get}
use Rattle.access_history.specs.History.{Memory, memory_at}
use Rattle.access_history.specs.declared.event.Event.{Event}
use Rattle.access_history.specs.declared.event.Event.TheVariants.{Store}
use Rattle.machine_laws.specs.MachineEvents.{stored, stores}
use Rattle.machine_laws.specs.MachineStates.{words_memory}
use Rattle.sv39_entry.specs.Frame.{frame_at, ppn_of}
use Rattle.sv39_entry.specs.declared.frame.FrameNo.{FrameNo}
use Rattle.table_walk.specs.Memory.{plain_memory}

-- a list with one element, and with another one in its place
pub at_place : {A : Type 0} (pre : List A) (x : A) (xs : List A) → slice_get (pre ++ x ∷ xs) (length pre) ≡ Some x
at_place [] x xs = refl
at_place (p ∷ pre) x xs = at_place pre x xs

pub other_place : {A : Type 0} (pre : List A) (a b : A) (xs : List A) (j : ℕ) → (j ≡ length pre → ⊥) → slice_get (pre ++ a ∷ xs) j ≡ slice_get (pre ++ b ∷ xs) j
other_place [] a b xs zero ne = absurd (ne refl)
other_place [] a b xs (suc j) ne = refl
other_place (p ∷ pre) a b xs zero ne = refl
other_place (p ∷ pre) a b xs (suc j) ne = other_place pre a b xs j (λ same. ne (ap suc same))

-- ---- frames and their numbers

pub frame_there : (f : ℕ) → f < 2 ^ 16 → frame_at (ppn_of f) ≡ Some (record { 0 = f })
frame_there f low =
    rw (le-leb 0x80000 (ppn_of f) (omega arith), lt-ltb (ppn_of f) (0x80000 + 2 ^ 16) (omega (arith, low))) (ap (λ (n : ℕ). Some (record { 0 = n })) (omega arith))

named_by : (a b : Bool) (ppn : ℕ) (frame : FrameNo) → (a ≡ true → 0x80000 ≤ ppn) → (if a && b then Some (record { 0 = ppn - 0x80000 }) else None) ≡ Some frame → ppn ≡ ppn_of frame.0
named_by true true ppn frame low is =
    let same : ppn - 0x80000 ≡ frame.0 = ap (λ (x : FrameNo). x.0) (same_Some (record { 0 = ppn - 0x80000 }) frame is) in
    let from = low refl in
    omega (arith, same, from)
named_by true false ppn frame low is = absurd (cc)
named_by false b ppn frame low is = absurd (cc)

leb-le : (a b : ℕ) → nat_le a b ≡ true → a ≤ b
leb-le a b is = elim (cases_lt b a) [
  | inl above ↦ absurd (let no : nat_le a b ≡ false = grind (arith, above) in false≢true (sym no ∙ is))
  | inr low ↦ low
]

pub named : (ppn : ℕ) (frame : FrameNo) → frame_at ppn ≡ Some frame → ppn ≡ ppn_of frame.0
named ppn frame is = named_by (nat_le 0x80000 ppn) (nat_lt ppn (0x80000 + 2 ^ 16)) ppn frame (leb-le 0x80000 ppn) is

-- the word in a frame
pub word_there : (words : List ℕ) (f i : ℕ) → f < 2 ^ 16 → i < 512 → words_memory words (ppn_of f) i ≡ slice_get words (f * 512 + i)
word_there words f i low small =
    rw (lt-ltb i 512 small) (ap (λ (o : Option FrameNo). option_and_then (λ frame. slice_get words (frame.0 * 512 + i)) o) (frame_there f low))

-- ---- one store

module _ (pre xs : List ℕ) (a b n : ℕ) (is : n ≡ length pre) (low : n < 2 ^ 25) where
  abbrev old : Memory
  old = words_memory (pre ++ a ∷ xs)

  abbrev new : Memory
  new = words_memory (pre ++ b ∷ xs)

  here : Some b ≡ new (ppn_of (n / 512)) (n % 512)
  here =
      let place : n / 512 * 512 + n % 512 ≡ length pre = omega (arith, is) in
      sym (word_there (pre ++ b ∷ xs) (n / 512) (n % 512) (omega (arith, low)) (omega arith) ∙ ap (slice_get (pre ++ b ∷ xs)) place ∙ at_place pre b xs)

  elsewhere_in : (ppn index : ℕ) → ((ppn ≡ ppn_of (n / 512)) → index ≡ n % 512 → ⊥) → index < 512 → (o : Option FrameNo)
      → ((frame : FrameNo) → o ≡ Some frame → ppn ≡ ppn_of frame.0)
      → option_and_then (λ (frame : FrameNo). slice_get (pre ++ a ∷ xs) (frame.0 * 512 + index)) o
      ≡ option_and_then (λ (frame : FrameNo). slice_get (pre ++ b ∷ xs) (frame.0 * 512 + index)) o
  elsewhere_in ppn index apart small None by = refl
  elsewhere_in ppn index apart small (Some frame) by =
      let from = by frame refl in
      other_place pre a b xs (frame.0 * 512 + index) (λ same.
      let whole : frame.0 * 512 + index ≡ n = same ∙ sym is in
      apart (omega (arith, from, whole, small)) (omega (arith, whole, small)))

  elsewhere_by : (ppn index : ℕ) → ((ppn ≡ ppn_of (n / 512)) → index ≡ n % 512 → ⊥) → (c : Bool) → nat_lt index 512 ≡ c
      → (if c then plain_memory (pre ++ a ∷ xs) ppn index else None) ≡ (if c then plain_memory (pre ++ b ∷ xs) ppn index else None)
  elsewhere_by ppn index apart false small = refl
  elsewhere_by ppn index apart true small = elsewhere_in ppn index apart (lt_of index 512 small) (frame_at ppn) (λ frame. named ppn frame) where
    lt_of : (j k : ℕ) → nat_lt j k ≡ true → j < k
    lt_of j k less = elim (cases_lt j k) [
      | inl below ↦ below
      | inr above ↦ absurd (false≢true (sym (le-ltb j k above) ∙ less))
    ]

  elsewhere : (ppn index : ℕ) → ((ppn ≡ ppn_of (n / 512)) → index ≡ n % 512 → ⊥) → old ppn index ≡ new ppn index
  elsewhere ppn index apart = elsewhere_by ppn index apart (nat_lt index 512) refl

  after_store : (ppn index : ℕ) → (if ppn == ppn_of (n / 512) && index == n % 512 then Some b else old ppn index) ≡ new ppn index
  after_store ppn index = elim (cases_Bool (ppn == ppn_of (n / 512))) [
    | inr far ↦ rw far (elsewhere ppn index (λ same _. false≢true (sym far ∙ eq-eqb ppn (ppn_of (n / 512)) same)))
    | inl near ↦ elim (cases_Bool (index == n % 512)) [
      | inr far ↦ rw (near, far) (elsewhere ppn index (λ _ same. false≢true (sym far ∙ eq-eqb index (n % 512) same)))
      | inl same ↦ rw (near, same) (here ∙ ap (λ (p : ℕ). new p (n % 512)) (sym (eqb-true ppn (ppn_of (n / 512)) near)) ∙ ap (new ppn) (sym (eqb-true index (n % 512) same)))
    ]
  ]

  stored_by : (f : Memory) (h : List Event) → memory_at f h ≡ old → (c : Bool) → (a == b) ≡ c
      → memory_at f (if c then h else Store (ppn_of (n / 512)) (n % 512) b ∷ h) ≡ new
  stored_by f h at true same = at ∙ ap (λ (x : ℕ). words_memory (pre ++ x ∷ xs)) (eqb-true a b same)
  stored_by f h at false apart =
      (λ t ppn index. if ppn == ppn_of (n / 512) && index == n % 512 then Some b else at t ppn index) ∙ (λ t ppn index. after_store ppn index t)

  pub memory_stored_one : (f : Memory) (h : List Event) → memory_at f h ≡ old → memory_at f (stored n a b h) ≡ new
  memory_stored_one f h at = stored_by f h at (a == b) refl

-- ---- all stores

pub moved : (pre xs : List ℕ) (a : ℕ) → words_memory ((pre ++ a ∷ []) ++ xs) ≡ words_memory (pre ++ a ∷ xs)
moved pre xs a = ap words_memory (append_assoc pre (a ∷ []) xs)

pub memory_stored : (f : Memory) (pre xs ys : List ℕ) (n : ℕ) (h : List Event) → n ≡ length pre → n + length xs ≤ 2 ^ 25 → length xs ≡ length ys
    → memory_at f h ≡ words_memory (pre ++ xs) → memory_at f (stores n xs ys h) ≡ words_memory (pre ++ ys)
memory_stored f pre [] [] n h is low long at = at
memory_stored f pre [] (b ∷ ys) n h is low long at = absurd (omega (arith, long))
memory_stored f pre (a ∷ xs) [] n h is low long at = absurd (omega (arith, long))
memory_stored f pre (a ∷ xs) (b ∷ ys) n h is low long at =
    let more : suc n ≡ length (pre ++ b ∷ []) = let long = length-append pre (b ∷ []) in omega (arith, long, is) in
    memory_stored f (pre ++ b ∷ []) xs ys (suc n) (stored n a b h) more (omega (arith, low)) (omega (arith, long))
    (memory_stored_one pre xs a b n is (omega (arith, low)) f h at ∙ sym (moved pre xs b)) ∙ moved pre ys b
