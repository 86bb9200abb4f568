-- Lemmas: a player's answer is the model's (`answered_is`); one answer more (`answers_more`).
use Rattle.std.proofs.Common.{◌≡◌, ◌∙◌, ap, sym, ℕ, ◌+◌, List, [], ◌∷◌, ◌++◌, drop, append_assoc, Result, Ok, Err, Vec, Global}
use Rattle.std.specs.Prelude.{IfOk}
use Rattle.std.specs.String.{string_bytes}
use Rattle.line_player.specs.Answers.{Answers, HasPlayed, IsReply}
use Rattle.line_player.specs.PlayedLines.{Answer, Nothing, Played, Refused, Reply, Text, next_answer}
use Rattle.line_player.specs.declared.player.LinePlayer.{LinePlayer}
use Rattle.line_player.specs.declared.player.LineReply.{LineReply}
use Rattle.line_player.specs.declared.player.LineReply.TheVariants as reply
use Rattle.usertest_rows.specs.declared.script.Line.{Line}
use Rattle.usertest_text.specs.Answers.{IsAnswered, answers_of, script_bytes, text_of_reply}

is_text : (r : LineReply) (text : List ℕ) (p : Reply) → IsReply r text p → text ≡ text_of_reply p
is_text reply.Nothing text Nothing is = is
is_text reply.Nothing text (Text t) is = absurd is
is_text reply.Nothing text (Refused c) is = absurd is
is_text reply.Text text Nothing is = absurd is
is_text reply.Text text (Text t) is = is
is_text reply.Text text (Refused c) is = absurd is
is_text (reply.Refused c) text Nothing is = absurd is
is_text (reply.Refused c) text (Text t) is = absurd is
is_text (reply.Refused c) text (Refused d) is = is.1

pub answered_is : (x : LinePlayer) (r : LineReply) (a : Answer) (t : List ℕ) → t ≡ x.answer.items → Answers x r a → IsAnswered x t a
answered_is x r a t is answers = record { text = is ∙ is_text r x.answer.items a.reply answers.reply; after = answers.after }

-- what is kept of a line's answer
pub answered_if : {E : Type 0} (r : Result (Vec ℕ Global) E) (old new : LinePlayer) (line text : List ℕ) (said : LineReply)
    → ((s : Played) → HasPlayed old s → Answers new said (next_answer s line)) → text ≡ new.answer.items → IfOk r (λ v. v.items ≡ text)
    → IfOk r (λ v. (s : Played) → HasPlayed old s → IsAnswered new v.items (next_answer s line))
answered_if (Ok v) old new line text said answers is items = λ s has. answered_is new said (next_answer s line) v.items (items ∙ is) (answers s has)
answered_if (Err e) old new line text said answers is items = tt

-- the answers so far, and those to come, are all
pub answers_more : (s : Played) (all : List Line) (i : ℕ) (line : Line) (done : List (List ℕ)) (text : List ℕ) (total : List (List ℕ))
    → drop i all ≡ line ∷ drop (i + 1) all → text ≡ text_of_reply (next_answer s (string_bytes line.text)).reply
    → done ++ answers_of s (script_bytes (drop i all)) ≡ total
    → (done ++ text ∷ []) ++ answers_of (next_answer s (string_bytes line.text)).after (script_bytes (drop (i + 1) all)) ≡ total
answers_more s all i line done text total split is before =
    let rest = answers_of (next_answer s (string_bytes line.text)).after (script_bytes (drop (i + 1) all)) in
    append_assoc done (text ∷ []) rest
    ∙ (ap (λ (t : List ℕ). done ++ (t ∷ rest)) is ∙ (ap (λ (ls : List Line). done ++ answers_of s (script_bytes ls)) (sym split) ∙ before))
