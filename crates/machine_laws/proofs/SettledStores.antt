-- Lemmas: stores outside the tables that a hart walks, and a write of satp that writes nothing, leave a page settled.
use Rattle.std.proofs.Common.{◌≡◌, ℕ, suc, ◌+◌, ◌*◌, ◌/◌, ◌%◌, ◌^◌, ◌<◌, ◌≤◌, ◌==◌, Bool, true, false, refl, sym, ap, subst, ◌∙◌, inl, inr, arith, Option, Some, List, [], ◌∷◌, ◌++◌, length, if◌then◌else◌}
use Rattle.std.proofs.lemmas.Bool.{and_left, cases_eq, eq-eqb, ne_eqb}
use Rattle.std.proofs.lemmas.List.{append_assoc, length-append}
use Rattle.std.proofs.lemmas.Option.{same_Some}
use Rattle.std.specs.FinMap.{get}
use Rattle.std.specs.Prelude.{slice_get}
use Rattle.access_history.specs.History.{First, Memory, memory_at, satp_at}
use Rattle.access_history.specs.declared.event.Event.{Event}
use Rattle.access_history.specs.declared.event.Event.TheVariants.{Store}
use Rattle.history_laws.specs.PlainWalks.{IsQuiet, IsSettled, quiet}
use Rattle.machine_laws.proofs.StoredWords.{at_place, memory_stored_one, moved, other_place, word_there}
use Rattle.machine_laws.proofs.TableWays.{table_at}
use Rattle.machine_laws.specs.MachineEvents.{satp_written, stored, stores}
use Rattle.machine_laws.specs.MachineStates.{words_memory}
use Rattle.sv39_entry.specs.Frame.{ppn_of}
use Rattle.sv39_entry.specs.Satp.{root_ppn}
use Rattle.sv39_entry.specs.Schemes.{top_level}
use Rattle.sv39_entry.specs.declared.scheme.Scheme.{Scheme}
use Rattle.table_walk.specs.Tables.{AreTables, Tables}
use Rattle.table_walk.specs.Walk.{IsAt}

other_by : (b : Bool) (w : ℕ) (o : Option ℕ) → b ≡ false → (if b then Some w else o) ≡ o
other_by b w o is = rw is refl

-- a store outside the walk's tables is quiet
quiet_store : (f : First) (s : Scheme) (page p i w : ℕ) (h : List Event)
    → ((k table : ℕ) → k ≤ top_level s → IsAt s (memory_at f.memory h) (root_ppn (satp_at f.satp h)) page k table → table ≡ p → ⊥) → IsQuiet f s page (Store p i w) h
quiet_store f s page p i w h elsewhere = record {
  satp = refl;
  words = λ k table low way. other_by _ w _ (and_left _ _ (ne_eqb table p (elsewhere k table low way)));
}

-- the words of the tables below a root, in words before and after
module _ (f : First) (s : Scheme) (page root : ℕ) (t : Tables) (olds news : List ℕ) (are : AreTables s (λ frame i. slice_get olds (frame * 512 + i)) root t)
    (same : (k frame i : ℕ) → get t.tables k ≡ Some frame → i < 512 → slice_get news (frame * 512 + i) ≡ slice_get olds (frame * 512 + i)) where
  -- between them: some words are those after, and the others those before
  abbrev HasTableWords : List ℕ → Type 0
  HasTableWords words = (k frame i : ℕ) → get t.tables k ≡ Some frame → i < 512 → slice_get words (frame * 512 + i) ≡ slice_get olds (frame * 512 + i)

  module _ (pre xs ys : List ℕ) (a b n : ℕ) (whole : news ≡ pre ++ b ∷ ys) (is : n ≡ length pre) (has : HasTableWords (pre ++ a ∷ xs)) where
    -- a word that is another is in no table
    apart : (k frame i : ℕ) → get t.tables k ≡ Some frame → i < 512 → frame * 512 + i ≡ length pre → a ≡ b
    apart k frame i at low place =
        let was : slice_get olds (frame * 512 + i) ≡ Some a = sym (has k frame i at low) ∙ ap (slice_get (pre ++ a ∷ xs)) place ∙ at_place pre a xs in
        let now : slice_get olds (frame * 512 + i) ≡ Some b = sym (same k frame i at low) ∙ ap (λ (words : List ℕ). slice_get words (frame * 512 + i)) whole
        ∙ ap (slice_get (pre ++ b ∷ ys)) place ∙ at_place pre b ys in
        same_Some a b (sym was ∙ now)

    still : HasTableWords (pre ++ b ∷ xs)
    still k frame i at low = elim (cases_eq (frame * 512 + i) (length pre)) [
      | inr other ↦ sym (other_place pre a b xs (frame * 512 + i) other) ∙ has k frame i at low
      | inl place ↦ ap (λ (word : ℕ). slice_get (pre ++ word ∷ xs) (frame * 512 + i)) (sym (apart k frame i at low place)) ∙ has k frame i at low
    ]

    module _ (h : List Event) (memory : memory_at f.memory h ≡ words_memory (pre ++ a ∷ xs)) (satp : root_ppn (satp_at f.satp h) ≡ ppn_of root) (settled : IsSettled f s page h) where
      way_there : (k table : ℕ) → k ≤ top_level s → IsAt s (memory_at f.memory h) (root_ppn (satp_at f.satp h)) page k table → (frame : ℕ) × (number : ℕ) × (get t.tables number ≡ Some frame) × (table ≡ ppn_of frame)
      way_there k table low way =
          let found = table_at s (λ frame i. slice_get olds (frame * 512 + i)) root t are (words_memory (pre ++ a ∷ xs))
          (λ number frame i at small. word_there (pre ++ a ∷ xs) frame i (are.below number frame at).2 small ∙ has number frame i at small) page k table low
          (subst (λ (m : Memory). IsAt s m (ppn_of root) page k table) memory (subst (λ (r : ℕ). IsAt s (memory_at f.memory h) r page k table) satp way)) in
          (found.0, _, found.1, found.2)

      settled_by : (c : Bool) → (a == b) ≡ c → IsSettled f s page (if c then h else Store (ppn_of (n / 512)) (n % 512) b ∷ h)
      settled_by true alike = settled
      settled_by false differ = quiet settled (quiet_store f s page (ppn_of (n / 512)) (n % 512) b h (λ k table low way there.
          let on = way_there k table low way in
          let frame : on.0 ≡ n / 512 = let named = on.3 in omega (arith, named, there) in
          let place : on.0 * 512 + n % 512 ≡ length pre = omega (arith, frame, is) in
          let alike = apart on.1 on.0 (n % 512) on.2 (omega arith) place in
          let no = ap (λ (word : ℕ). word == b) alike ∙ same_eqb b in cc)) where
            same_eqb : (x : ℕ) → (x == x) ≡ true
            same_eqb x = eq-eqb x x refl

      pub settled_one : IsSettled f s page (stored n a b h)
      settled_one = settled_by (a == b) refl

  satp_stored_one : (n a b : ℕ) (h : List Event) (c : Bool) → satp_at f.satp (if c then h else Store (ppn_of (n / 512)) (n % 512) b ∷ h) ≡ satp_at f.satp h
  satp_stored_one n a b h true = refl
  satp_stored_one n a b h false = refl

  pub settled_stores : (pre xs ys : List ℕ) (n : ℕ) (h : List Event) → news ≡ pre ++ ys → n ≡ length pre → n + length xs ≤ 2 ^ 25 → length xs ≡ length ys
      → HasTableWords (pre ++ xs) → memory_at f.memory h ≡ words_memory (pre ++ xs) → root_ppn (satp_at f.satp h) ≡ ppn_of root → IsSettled f s page h
      → IsSettled f s page (stores n xs ys h)
  settled_stores pre [] ys n h whole is low long has memory satp settled = settled
  settled_stores pre (a ∷ xs) [] n h whole is low long has memory satp settled = settled
  settled_stores pre (a ∷ xs) (b ∷ ys) n h whole is low long has memory satp settled =
      let more : suc n ≡ length (pre ++ b ∷ []) = let longer = length-append pre (b ∷ []) in omega (arith, longer, is) in
      let appended = append_assoc pre (b ∷ []) in
      settled_stores (pre ++ b ∷ []) xs ys (suc n) (stored n a b h) (whole ∙ sym (appended ys)) more (omega (arith, low)) (omega (arith, long))
      (subst HasTableWords (sym (appended xs)) (still pre xs ys a b n whole is has))
      (memory_stored_one pre xs a b n is (omega (arith, low)) f.memory h memory ∙ sym (moved pre xs b))
      (ap root_ppn (satp_stored_one n a b h (a == b)) ∙ satp)
      (settled_one pre xs ys a b n whole is has h memory satp settled)

-- a write of satp that changes nothing is none
pub settled_written : (f : First) (s : Scheme) (page a b : ℕ) (h : List Event) → b ≡ a → IsSettled f s page h → IsSettled f s page (satp_written a b h)
settled_written f s page a b h same settled = let alike = eq-eqb a b (sym same) in rw alike settled
