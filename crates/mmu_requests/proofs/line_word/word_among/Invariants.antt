use Rattle.std.proofs.Common.{◌≡◌, drop}
use Rattle.mmu_requests.specs.Lines.{word_among}
use Rattle.mmu_requests.proofs.line_word.word_among.Given as goal

abbrev pub invariant-loop-word : goal.invariant-loop-word
invariant-loop-word l = word_among (drop l.word-index l.words) l.text ≡ word_among l.words l.text
