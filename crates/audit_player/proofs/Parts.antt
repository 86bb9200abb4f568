-- Lemmas on bytes read and written in parts: two appended parts are one, the rest after each write is the text's rest, all
-- is written if nothing is left, two consumed parts are one, and each piece read brings a script nearer its end or its
-- limit.
use Rattle.std.proofs.Common.{◌≡◌, ◌≤◌, ℕ, zero, suc, refl, List, [], ◌++◌, ◌+◌, ◌-◌, ◌<◌, false, length, length-append, arith, take, drop, Option, None, Some, sym, ap, subst, ◌∙◌, append_assoc}
use Rattle.std.specs.Io.KnownBytes.{Appends, Consumes}
use Rattle.std.proofs.lemmas.List.{append-nil, length-take-le, take-append-drop}
use Rattle.std.specs.Prelude.{nat_lt}
use Rattle.std.proofs.lemmas.Bool.{ltb-false}
use Rattle.script_language.specs.declared.limits.TheConstants.{LONGEST_SCRIPT}
use Rattle.script_reader.specs.Reading.{HasRead, PieceReader}
use Rattle.audit_player.specs.InputOutput.{WroteUpTo}

-- nothing is a beginning of every text
pub appends_nothing : (known : Option (List ℕ)) → Appends known known []
appends_nothing None = tt
appends_nothing (Some xs) = sym (append-nil xs)

pub appends_more : (old mid new : Option (List ℕ)) (a b : List ℕ) → Appends old mid a → Appends mid new b → Appends old new (a ++ b)
appends_more None mid new a b p q = tt
appends_more (Some xs) None new a b p q = absurd p
appends_more (Some xs) (Some ys) None a b p q = absurd q
appends_more (Some xs) (Some ys) (Some zs) a b p q = q ∙ ap (λ (l : List ℕ). l ++ b) p ∙ append_assoc xs a b

-- what a further call wrote comes after
pub wrote_more : (old mid new : Option (List ℕ)) (text rest after : List ℕ) (n : ℕ) → WroteUpTo old mid text rest → Appends mid new (take n rest) → after ≡ drop n rest → WroteUpTo old new text after
wrote_more old mid new text rest after n w q e = (
  w.0 ++ take n rest,
  append_assoc w.0 (take n rest) after ∙ ap (λ (l : List ℕ). w.0 ++ (take n rest ++ l)) e ∙ ap (λ (l : List ℕ). w.0 ++ l) (take-append-drop n rest) ∙ w.1,
  appends_more old mid new w.0 (take n rest) w.2 q,
)

-- where nothing is left, all was written
pub wrote_all : (old new : Option (List ℕ)) (text rest : List ℕ) → rest ≡ [] → WroteUpTo old new text rest → Appends old new text
wrote_all old new text rest e w =
    let whole : w.0 ≡ text = sym (append-nil w.0) ∙ ap (λ (l : List ℕ). w.0 ++ l) (sym e) ∙ w.1 in
    subst (Appends old new) whole w.2

-- each piece brings a script nearer to its end
pub nearer : (bytes piece : List ℕ) (r s : PieceReader) → HasRead bytes r → HasRead (bytes ++ piece) s → 0 < length piece → nat_lt LONGEST_SCRIPT r.length ≡ false → LONGEST_SCRIPT + 1 - s.length < LONGEST_SCRIPT + 1 - r.length
nearer bytes piece r s h k some short = omega (arith, h.long, k.long, length-append bytes piece, some, ltb-false LONGEST_SCRIPT r.length short)

pub consumed_more : (old mid new : Option (List ℕ)) (a b : List ℕ) → Consumes old mid a → Consumes mid new b → Consumes old new (a ++ b)
consumed_more None mid new a b p q = tt
consumed_more (Some xs) None new a b p q = absurd p
consumed_more (Some xs) (Some ys) None a b p q = absurd q
consumed_more (Some xs) (Some ys) (Some zs) a b p q = p ∙ ap (λ (l : List ℕ). a ++ l) q ∙ sym (append_assoc a b zs)

not_none : (n : ℕ) → (n ≡ 0 → ⊥) → 0 < n
not_none zero some = absurd (some refl)
not_none (suc n) some = omega arith

pub piece_comes : (buffer : List ℕ) (n : ℕ) → n ≤ length buffer → (n ≡ 0 → ⊥) → 0 < length (take n buffer)
piece_comes buffer n within some = omega (arith, length-take-le n buffer within, not_none n some)
