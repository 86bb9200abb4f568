use Rattle.mmu_requests.proofs.Words.{found_has, none_has}
use Rattle.mmu_requests.proofs.line_word.Word.of.Goals as goal

pub returns-clause-text : goal.returns-clause-text
returns-clause-text c = found_has c.args.text.now c.word_among.result c.word_among.ensures

pub returns-clause-none : goal.returns-clause-none
returns-clause-none c = none_has c.args.text.now c.word_among.result c.word_among.ensures
