use Rattle.std.proofs.Common.{◌≡◌, ℕ, ◌-◌, ◌*◌, ◌/◌, ◌∙◌, Option, Some, length, drop, take, ap, arith, length-drop}
use Rattle.std.proofs.lemmas.List.{take_all}
use Rattle.process_model.specs.Bytes.{number}
use Rattle.frame_bytes.specs.StoredWords.{changes_none, known_more}
use Rattle.frame_bytes.proofs.contents.fill_part.Goals as goal

pub returns-then-bytes-eq0-clause-others : goal.returns-then-bytes-eq0-clause-others
returns-then-bytes-eq0-clause-others g c = changes_none _ _ c.requires.sole

pub returns-clause-words : goal.returns-clause-words
returns-clause-words g c has =
    let bytes = c.args.bytes.now in
    let start : ℕ = 8 * (length bytes / 8) in
    let all : take (length bytes - start) (drop start bytes) ≡ drop start bytes = take_all (length bytes - start) (drop start bytes) (rw (length-drop start bytes) (omega arith)) in
    let word : ℕ → Option ℕ → Type 0 = λ q k. k ≡ Some (number (drop (8 * q) bytes) 8) in
    known_more _ _ _ _ _ c.store.ensures.view word has (ap (λ w. Some w) (c.last_word.ensures ∙ ap (λ bs. number bs 8) all))
