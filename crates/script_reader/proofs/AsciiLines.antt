-- Lemma: if a text is ASCII, so is each of its lines (`AreAscii`).
use Rattle.std.proofs.Common.{◌≡◌, ℕ, Bool, true, List, [], ◌∷◌, refl, inl, inr}
use Rattle.std.specs.List.{onto_first}
use Rattle.std.specs.Prelude.{◌&&◌, nat_lt}
use Rattle.std.proofs.lemmas.Bool.{and_parts, cases_Bool}
use Rattle.script_language.specs.Lines.{is_line_end, raw_lines}
use Rattle.script_language.specs.Script.{is_ascii}

abbrev pub AreAscii : List (List ℕ) → Type 0
AreAscii [] = Unit {0}
AreAscii (line ∷ lines) = (is_ascii line ≡ true) × AreAscii lines

both : (a b : Bool) → a ≡ true → b ≡ true → (a && b) ≡ true
both a b e f = rw (e, f) refl

onto : (b : ℕ) (lines : List (List ℕ)) → nat_lt b 128 ≡ true → AreAscii lines → AreAscii (onto_first b lines)
onto b [] low all = (both (nat_lt b 128) true low refl, tt)
onto b (line ∷ lines) low all = (both (nat_lt b 128) (is_ascii line) low all.0, all.1)

pub ascii_lines : (text : List ℕ) → is_ascii text ≡ true → AreAscii (raw_lines text)
ascii_lines [] e = tt
ascii_lines (b ∷ text) e =
    let parts = and_parts (nat_lt b 128) (is_ascii text) e in
    let rest = ascii_lines text parts.1 in
    elim (cases_Bool (is_line_end b)) [
      | inl is ↦ rw is (refl, rest)
      | inr isnt ↦ rw isnt (onto b (raw_lines text) parts.0 rest)
    ]
