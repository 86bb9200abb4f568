-- Lemma for `Commands`: a script line that is kept whole is appended to the list, and all packed lines keep their meaning.
use Rattle.std.proofs.Common.{◌≡◌, ℕ, List, [], ◌∷◌, ◌++◌, length, map, get_or, arith, refl, suc, sym, ap, ◌∙◌}
use Rattle.std.specs.Prelude.{All}
use Rattle.std.proofs.lemmas.List.{get_or_append_left, get_or_push, map_push}
use Rattle.script_language.specs.declared.script.Command.{Command}
use Rattle.script_language.specs.declared.script.Command.TheVariants.{Audit}
use Rattle.script_reader.specs.PackedLines.{unpacked, IsWithin}
use Rattle.script_reader.specs.declared.commands.PackedCommand.{PackedCommand}
use Rattle.script_reader.specs.declared.commands.PackedCommand.TheVariants as packed

same_with : (whole more : List Command) (p : PackedCommand) → IsWithin (length whole) p → unpacked (whole ++ more) p ≡ unpacked whole p
same_with whole more (packed.Switch h s) w = refl
same_with whole more (packed.Fill h a) w = refl
same_with whole more (packed.Fetch h v a) w = refl
same_with whole more (packed.Load b h v a) w = refl
same_with whole more (packed.Store b h v a x) w = refl
same_with whole more (packed.CopyIn h c a) w = refl
same_with whole more (packed.Exec h i) w = refl
same_with whole more (packed.On h s) w = refl
same_with whole more (packed.Enter h) w = refl
same_with whole more (packed.Leave h) w = refl
same_with whole more (packed.Fix h) w = refl
same_with whole more (packed.Whole k) w = get_or_append_left whole more Audit k w

all_same : (whole more : List Command) (ps : List PackedCommand) → All (IsWithin (length whole)) ps → map (unpacked (whole ++ more)) ps ≡ map (unpacked whole) ps
all_same whole more [] h = refl
all_same whole more (p ∷ ps) h =
    let one : unpacked (whole ++ more) p ≡ unpacked whole p = same_with whole more p (h 0 p (omega arith)) in
    let rest : map (unpacked (whole ++ more)) ps ≡ map (unpacked whole) ps = all_same whole more ps (λ k d lt. h (suc k) d (omega (arith, lt))) in
    rw (one, rest) refl

-- and one that is kept whole comes behind them
pub whole_pushed : (whole more : List Command) (ps qs : List PackedCommand) (place : ℕ) (line : Command) → place ≡ length whole → more ≡ whole ++ line ∷ [] → qs ≡ ps ++ packed.Whole place ∷ [] → All (IsWithin (length whole)) ps
    → map (unpacked more) qs ≡ map (unpacked whole) ps ++ line ∷ []
whole_pushed whole more ps qs place line at is e h =
    ap (map (unpacked more)) e ∙ map_push (unpacked more) ps (packed.Whole place)
    ∙ ap (λ (m : List Command). map (unpacked m) ps ++ get_or m place Audit ∷ []) is
    ∙ ap (λ (c : Command). map (unpacked (whole ++ line ∷ [])) ps ++ c ∷ []) (get_or_push whole line Audit place (sym at))
    ∙ ap (λ (cs : List Command). cs ++ line ∷ []) (all_same whole (line ∷ []) ps h)
