use Rattle.std.proofs.Common.{refl, sym, subst, ◌∙◌, arith}
use Rattle.std.specs.Prelude.{IsSome}
use Rattle.std.proofs.lemmas.Option.{slice_get-get_or}
use Rattle.frame_store.specs.View.{IsHeld, known_word}
use Rattle.frame_clients.specs.FilledFrames.{filled_holds, known_word-filled}
use Rattle.tests_of_frames.proofs.ClientSteps.{known_by_filling}
use Rattle.tests_of_frames.proofs.clients.filled_word.Goals as goal

pub read_word-requires-clause-held : goal.read_word-requires-clause-held
read_word-requires-clause-held g c = subst (λ v. IsHeld v c.in_ok-frame.frame.0) (sym c.in_ok-frame.ensures.ok) (filled_holds _ _ _)

pub read_word-requires-clause-known : goal.read_word-requires-clause-known
read_word-requires-clause-known g c =
    subst (λ v. IsSome (known_word v c.in_ok-frame.frame.0 c.args.index)) (sym c.in_ok-frame.ensures.ok)
    (subst IsSome (sym (known_word-filled _ _ _ _ ∙ slice_get-get_or c.args.words.now c.args.index 0 (omega arith))) refl)

pub returns-clause-word : goal.returns-clause-word
returns-clause-word g c = known_by_filling c.args.words.now c.args.index _ _ _ _ c.in_ok-frame.ensures.ok c.read_word.ensures.word
