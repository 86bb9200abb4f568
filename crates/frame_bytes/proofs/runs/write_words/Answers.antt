use Rattle.std.proofs.Common.{◌≡◌, ℕ, ◌*◌, ◌+◌, ◌-◌, ◌/◌, ◌<◌, ◌∙◌, List, length, take, drop, refl, subst, sym, arith}
use Rattle.frame_bytes.specs.StoredWords.{changes_none, changes_one, changes_both, changed_sole}
use Rattle.frame_bytes.specs.Contents.{HasBytes}
use Rattle.frame_bytes.proofs.Stored.{word_stored}
use Rattle.frame_bytes.proofs.Taken.{length-middle}
use Rattle.frame_bytes.proofs.Writes.{small_part, write_more, write_none}
use Rattle.frame_bytes.proofs.runs.write_words.Goals as goal

pub words-init : goal.words-init
words-init g c = record {
  fits = c.requires.fits;
  bytes = λ page has. subst (HasBytes _ c.args.frame.0) (sym (write_none page (8 * c.args.first))) has;
  others = changes_none _ _ c.requires.sole;
  keeps = λ others r. r;
  free = λ a. refl;
  counts = λ a f. refl;
}

pub store-requires-clause-sole : goal.store-requires-clause-sole
store-requires-clause-sole g c = changed_sole _ _ _ c.words.invariant.others _ c.requires.sole

pub words-preserved : goal.words-preserved
words-preserved g c =
    let i = c.words.invariant in
    let bytes : List ℕ = c.args.bytes.now in
    let first : ℕ = c.args.first in
    let place : ℕ = c.words.place in
    let start : ℕ = 8 * place in
    let some : place < length bytes / 8 = c.words-test.true in
    let eight : start + 8 - start ≡ 8 = omega arith in
    let next : 8 * (place + 1) ≡ start + 8 = omega arith in
    let at : (8 * first + start) / 8 ≡ first + place = omega arith in
    let long : length (take 8 (drop start bytes)) ≡ 8 = length-middle bytes start 8 (omega (arith, some)) in
    let word = rw eight at c.whole_word.ensures in
    record {
      fits = (i.fits.0, c.store.ensures.keeps i.fits.0 i.fits.1);
      bytes = λ page has.
          let more = write_more page bytes (8 * first) start 8 (omega (arith, has.length, c.requires.inside)) (omega (arith, some)) in
          let stored = word_stored c.args.frame.0 (8 * first + start) c.whole_word.result (take 8 (drop start bytes)) _ _ _ (i.bytes page has)
          (omega (arith, some, c.requires.inside)) (omega (arith, long)) long (small_part bytes start 8 (λ k. omega (arith, c.type_inv.bytes k))) word (rw at c.store.ensures.view) in
          rw (next, ← more) stored;
      others = changes_both _ _ _ _ i.others (changes_one _ _ _ _ _ c.store.ensures.view);
      keeps = λ others r. c.store.ensures.keeps others (i.keeps others r);
      free = λ a. c.store.ensures.free a ∙ i.free a;
      counts = λ a f. c.store.ensures.counts a f ∙ i.counts a f;
    }
