-- Lemmas on the words of lines: one that is found by a text has it (`found_has`), and each word is found by its text (`is_found`).
use Rattle.std.proofs.Common.{◌≡◌, ℕ, Bool, true, false, Option, None, Some, List, [], ◌∷◌, refl, ap, sym, ◌∙◌, if◌then◌else◌}
use Rattle.std.specs.Option.{IfNone, IfSome}
use Rattle.std.specs.Prelude.{bytes_eq}
use Rattle.std.proofs.lemmas.Slice.Eq.{bytes_eq-Decides}
use Rattle.mmu_requests.specs.Lines.{word_among, word_text}
use Rattle.mmu_requests.specs.declared.line_word.Word.{Word}
use Rattle.mmu_requests.specs.declared.line_word.Word.TheVariants as word

abbrev HasText : Option Word → List ℕ → Type 0
HasText found text = IfSome found (λ w. word_text w ≡ text)

chosen : (b : Bool) (w : Word) (rest : Option Word) (text : List ℕ) → (b ≡ true → word_text w ≡ text) → HasText rest text
    → HasText (if b then Some w else rest) text
chosen true w rest text has others = has refl
chosen false w rest text has others = others

among_has : (words : List Word) (text : List ℕ) → HasText (word_among words text) text
among_has [] text = tt
among_has (w ∷ words) text =
    chosen (bytes_eq (word_text w) text) w (word_among words text) text (bytes_eq-Decides (word_text w) text).0 (among_has words text)

abbrev every_word : List Word
every_word = word.Load ∷ word.Store ∷ word.Fetch ∷ word.Mem ∷ word.Satp ∷ word.Sfence ∷ word.Status ∷ word.Pmp ∷ word.Ram ∷ word.Reset ∷ word.Profile
    ∷ word.Version ∷ []

is_found : (w : Word) → word_among every_word (word_text w) ≡ Some w
is_found word.Version = refl
is_found word.Profile = refl
is_found word.Reset = refl
is_found word.Status = refl
is_found word.Pmp = refl
is_found word.Ram = refl
is_found word.Mem = refl
is_found word.Satp = refl
is_found word.Fetch = refl
is_found word.Load = refl
is_found word.Store = refl
is_found word.Sfence = refl

pub found_has : (text : List ℕ) (found : Option Word) → found ≡ word_among every_word text → HasText found text
found_has text found is = rw is (among_has every_word text)

pub none_has : (text : List ℕ) (found : Option Word) → found ≡ word_among every_word text → IfNone found ((w : Word) → word_text w ≡ text → ⊥)
none_has text (Some w) is = tt
none_has text None is = λ w has. let there = sym (is_found w) ∙ ap (word_among every_word) has ∙ sym is in absurd (cc)
