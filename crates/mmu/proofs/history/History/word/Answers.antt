use Rattle.std.proofs.Common.{◌≡◌, true, false, Option, List, length, ap, sym, ◌∙◌, arith}
use Rattle.std.proofs.lemmas.Bool.{and_from, and_left, cond-false, cond-true, le-ltb, lt-ltb}
use Rattle.access_history.specs.History.{memory_at}
use Rattle.access_history.specs.declared.event.Event.{Event}
use Rattle.mmu.specs.Changing.{changes_at, word_before}
use Rattle.mmu.specs.Recorded.{events_of, first_of, is_place, number_at}
use Rattle.mmu.specs.Sparse.{is_zeroed, word_of}
use Rattle.mmu.specs.declared.changes.Change.{Change}
use Rattle.mmu.proofs.Moments.{until_now}
use Rattle.mmu.proofs.Searching.{after_none}
use Rattle.mmu.proofs.history.History.word.Goals as goal

pub returns-then-ppn : goal.returns-then-ppn
returns-then-ppn c =
    let h = c.args.self.now in
    let all = length (events_of h) in
    let outside : is_place c.args.ppn c.args.index ≡ false = and_left _ _ (le-ltb c.args.ppn _ c.if-ppn.true) in
    sym (cond-false _ _ _ outside)
    ∙ c.requires.sound.stores.words c.args.ppn c.args.index all
    ∙ ap (λ (g : List Event). memory_at (first_of h.memory h.changes) g c.args.ppn c.args.index) (until_now (events_of h) all (omega arith))

pub returns : goal.returns
returns c =
    let h = c.args.self.now in
    let n = number_at c.args.ppn c.args.index in
    let all = length (events_of h) in
    let inside : is_place c.args.ppn c.args.index ≡ true = and_from _ _ (lt-ltb c.args.ppn _ c.if-ppn.false) (lt-ltb c.args.index _ c.requires.in_frame) in
    c.get.ensures
    ∙ ap (λ (o : Option Change). word_before o (word_of h.memory n) (is_zeroed h.memory n)) (sym (after_none (changes_at h.changes n) all (c.requires.sound.stores.bound n)))
    ∙ sym (cond-true _ _ _ inside)
    ∙ c.requires.sound.stores.words c.args.ppn c.args.index all
    ∙ ap (λ (g : List Event). memory_at (first_of h.memory h.changes) g c.args.ppn c.args.index) (until_now (events_of h) all (omega arith))
