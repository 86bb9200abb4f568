use Rattle.std.proofs.Common.{ℕ, ◌+◌, List, drop, map, Vec, ap, subst, sym, refl, ◌∙◌}
use Rattle.std.proofs.lemmas.List.{drop_more}
use Rattle.std.proofs.Math.ListN.{drop_of_length-le}
use Rattle.line_player.specs.Answers.{HasPlayed}
use Rattle.line_player.specs.PlayedLines.{nothing_played, next_answer, played_lines}
use Rattle.std.specs.Global.{Global}
use Rattle.lab_listeners.proofs.repl.replayed.Goals as goal

-- the bytes of lines
abbrev bytes_of : List (Vec ℕ Global) → List (List ℕ)
bytes_of lines = map (λ line. line.items) lines

pub lines-init : goal.lines-init
lines-init c = (nothing_played, c.in_ok-player.ensures.nothing, refl)

pub line-requires : goal.line-requires
line-requires c = record { played = (c.lines.invariant.0, c.lines.invariant.1) }

pub lines-preserved : goal.lines-preserved
lines-preserved c =
    let (s, has, same) = c.lines.invariant in
    let all = c.args.lines.now in
    let place = c.lines.line-index in (
      (next_answer s c.as_slice.result.now).after,
      (c.in_ok-line.ensures.answered s has).after,
      ap (λ line. played_lines (next_answer s line).after (bytes_of (drop (place + 1) all))) (c.as_slice.ensures.value ∙ ap (λ line. line.items) c.line-item.is)
          ∙ (sym (ap (λ rest. played_lines s (bytes_of rest)) (drop_more all place c.line-item.result c.lines-test.true)) ∙ same),
    )

pub returns : goal.returns
returns c =
    let (s, has, same) = c.lines.invariant in
    let all = c.args.lines.now in
    subst (λ played. HasPlayed c.lines.player played) (sym (ap (λ rest. played_lines s (bytes_of rest)) (drop_of_length-le all c.lines-test.false)) ∙ same) has
