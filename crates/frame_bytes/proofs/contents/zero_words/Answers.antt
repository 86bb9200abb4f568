use Rattle.std.proofs.Common.{◌*◌, ◌∙◌, inl, inr, Some, ap, sym, arith}
use Rattle.std.proofs.lemmas.Bool.{cases_lt}
use Rattle.frame_store.specs.StoredRuns.{many_at, many_beside}
use Rattle.frame_bytes.proofs.Writes.{past_end}
use Rattle.frame_bytes.proofs.contents.zero_words.Goals as goal

pub returns-clause-words : goal.returns-clause-words
returns-clause-words g c bytes short has i h = elim (cases_lt i c.args.first) [
  | inl before ↦ many_beside _ _ _ _ _ _ c.clear.ensures.view i (λ from below. omega (arith, before, from)) ∙ has i before
  | inr from ↦ many_at _ _ _ _ _ _ c.clear.ensures.view i from (omega (arith, from, h)) ∙ ap (λ w. Some w) (sym (past_end bytes (8 * i) (omega (arith, from, short))))
]

pub returns-clause-others : goal.returns-clause-others
returns-clause-others g c = (_, c.clear.ensures.view)
