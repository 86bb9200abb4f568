use Rattle.std.proofs.Common.{◌≡◌, ◌∙◌, ap, sym, subst, ℕ, ◌+◌, List, [], ◌∷◌, ◌++◌, map, drop, Vec, Global}
use Rattle.std.proofs.lemmas.List.{drop_more, map-append}
use Rattle.std.specs.String.{string_bytes}
use Rattle.line_player.specs.PlayedLines.{next_answer, nothing_played}
use Rattle.usertest_rows.specs.declared.script.Line.{Line}
use Rattle.usertest_text.specs.Answers.{IsAnswered, answers_of, script_bytes}
use Rattle.usertest_text.proofs.Steps.{answers_more}
use Rattle.usertest_text.proofs.played.play.Goals as goal

-- the bytes of an answer
abbrev bytes_of : Vec ℕ Global → List ℕ
bytes_of answer = answer.items

pub lines-preserved : goal.lines-preserved
lines-preserved c =
    let (s, has, same) = c.lines.invariant in
    let all = c.args.lines.now in
    let place = c.lines.line-index in
    let line = c.line-item.result in
    let answer = c.in_ok-answer.answer in
    let bytes : c.as_bytes.result.now ≡ string_bytes line.text = c.as_bytes.ensures.value ∙ c.as_str.ensures.value in
    let it = subst (λ (b : List ℕ). IsAnswered c.answer_line.new.player answer.items (next_answer s b)) bytes (c.in_ok-answer.ensures.answered s has) in
    let after = (next_answer s (string_bytes line.text)).after in
    let split : drop place all ≡ line ∷ drop (place + 1) all =
    drop_more all place line c.lines-test.true ∙ ap (λ (l : Line). l ∷ drop (place + 1) all) (sym c.line-item.is) in
    let more : map bytes_of c.push.new.self.items ≡ map bytes_of c.lines.answers.items ++ answer.items ∷ [] =
    ap (λ (vs : List (Vec ℕ Global)). map bytes_of vs) c.in_ok-push.ensures.items ∙ map-append bytes_of c.lines.answers.items (answer ∷ []) in (
      after,
      it.after,
      ap (λ (ts : List (List ℕ)). ts ++ answers_of after (script_bytes (drop (place + 1) all))) more
          ∙ answers_more s all place line (map bytes_of c.lines.answers.items) answer.items (answers_of nothing_played (script_bytes all)) split it.text same,
    )
