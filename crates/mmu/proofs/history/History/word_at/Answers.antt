use Rattle.std.proofs.Common.{◌≡◌, true, false, sym, ◌∙◌}
use Rattle.std.proofs.lemmas.Bool.{and_from, and_left, cond-true, cond-false, lt-ltb, le-ltb}
use Rattle.mmu.specs.Recorded.{events_of, is_place}
use Rattle.mmu.proofs.Versions.{version_then, versions_then}
use Rattle.mmu.proofs.history.History.word_at.Goals as goal

pub returns-then-ppn : goal.returns-then-ppn
returns-then-ppn c =
    let outside : is_place c.args.ppn c.args.index ≡ false = and_left _ _ (le-ltb c.args.ppn _ c.if-ppn.true) in
    versions_then _ (events_of c.args.self.now) c.args.moment c.args.ppn c.args.index c.requires.past
    (sym (c.requires.sound.stores.words c.args.ppn c.args.index c.args.moment) ∙ cond-false _ _ _ outside)

pub returns-in-Some : goal.returns-in-Some
returns-in-Some c =
    let inside : is_place c.args.ppn c.args.index ≡ true = and_from _ _ (lt-ltb c.args.ppn _ c.if-ppn.false) (lt-ltb c.args.index _ c.requires.in_frame) in
    let word = sym (c.requires.sound.stores.words c.args.ppn c.args.index c.args.moment) ∙ cond-true _ _ _ inside ∙ sym c.seen-since.ensures.word ∙ c.in-Some.is in
    let since = c.seen-since.ensures.since ∙ c.requires.sound.stores.since c.args.ppn c.args.index c.args.moment inside in
    rw since (version_then _ (events_of c.args.self.now) c.args.moment c.args.ppn c.args.index c.in-Some.word c.requires.past word)

pub returns-in-None : goal.returns-in-None
returns-in-None c =
    let inside : is_place c.args.ppn c.args.index ≡ true = and_from _ _ (lt-ltb c.args.ppn _ c.if-ppn.false) (lt-ltb c.args.index _ c.requires.in_frame) in
    let word = sym (c.requires.sound.stores.words c.args.ppn c.args.index c.args.moment) ∙ cond-true _ _ _ inside ∙ sym c.seen-since.ensures.word ∙ c.in-None.is in
    versions_then _ (events_of c.args.self.now) c.args.moment c.args.ppn c.args.index c.requires.past word
