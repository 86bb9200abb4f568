use Rattle.std.proofs.Common.{◌≤◌, ◌+◌, ◌-◌, ◌++◌, ◌<◌, ℕ, [], true, refl, sym, ap, ◌∙◌, arith}
use Rattle.access_judge.specs.Judging.{found_of, stand_of, versions_of, word_says, words_say}
use Rattle.access_judge.specs.Search.{Version, found_by, until, versions}
use Rattle.access_judge.proofs.FencedOlder.{words_hide}
use Rattle.access_judge.proofs.Sifting.{sifts_as, sifts_kept, sifts_nothing, sifts_on, sifts_seen, sifts_told}
use Rattle.access_judge.proofs.TableSays.{table_goes, table_stops}
use Rattle.access_judge.proofs.Telling.{entries_with, entries_without, group_all, pointer_goes, range_more, step_ends, step_goes, word_goes, word_skips, words_end, words_go, words_stop}
use Rattle.access_judge.proofs.search.+walks.Goals as goal

pub search_below-returns : goal.search_below-returns
search_below-returns g t c =
    let a = c.args.question.now in let p = g.L.Log.past c.args.log.now in
    sifts_as
    (pointer_goes a p (stand_of c.args.table.now) (found_of c.args.step.now) (stand_of c.table_below-below.result) c.table_below-below.ensures.stand) c.search_once.ensures

pub search_once-returns-then-has : goal.search_once-returns-then-has
search_once-returns-then-has g t c =
    sifts_seen g.met.S.Sink.gains_again c.args.sink.now c.args.seen.now c.args.table.now (c.has.ensures (c.if-has.true))

pub search_once-returns : goal.search_once-returns
search_once-returns g t c =
    sifts_kept g.met.S.Sink.has_told c.add.new.self c.args.table.now c.search_table.ensures c.add.ensures

pub search_step-returns-then-is_pointer : goal.search_step-returns-then-is_pointer
search_step-returns-then-is_pointer g t c =
    let a = c.args.question.now in let p = g.L.Log.past c.args.log.now in
    sifts_as
    (step_goes a p (stand_of c.args.table.now) (found_of c.args.step.now) (sym c.is_pointer.ensures ∙ c.if-is_pointer.true)) c.search_below.ensures

pub search_step-returns-else-is_pointer : goal.search_step-returns-else-is_pointer
search_step-returns-else-is_pointer g t c =
    let a = c.args.question.now in let p = g.L.Log.past c.args.log.now in
    sifts_as
    (step_ends a p (stand_of c.args.table.now) (found_of c.args.step.now) (sym c.is_pointer.ensures ∙ c.if-is_pointer.false)) (sifts_told g.met.S.Sink.has_still c.args.seen.now c.judge.ensures)

pub search_word-returns-then-counts : goal.search_word-returns-then-counts
search_word-returns-then-counts g t c =
    let a = c.args.question.now in let p = g.L.Log.past c.args.log.now in
    let s = stand_of c.args.table.now in
    let v : Version = record { word = c.args.word; last = c.args.last } in
    let found = found_of c.step_of-step.result in
    let is = c.step_of-step.ensures.found ∙ ap (λ (w : ℕ). found_by s (record { word = w; last = c.args.last })) c.from_word.ensures in
    sifts_as
    (word_goes a p s c.args.napot v found is (sym c.counts.ensures ∙ c.if-counts.true))
    (sifts_on g.met.S.Sink.gains_on (sifts_told g.met.S.Sink.has_still c.args.seen.now c.note.ensures) c.search_step.ensures)

pub search_word-returns-else-counts : goal.search_word-returns-else-counts
search_word-returns-else-counts g t c =
    let a = c.args.question.now in let p = g.L.Log.past c.args.log.now in
    let s = stand_of c.args.table.now in
    let v : Version = record { word = c.args.word; last = c.args.last } in
    let is = c.step_of-step.ensures.found ∙ ap (λ (w : ℕ). found_by s (record { word = w; last = c.args.last })) c.from_word.ensures in
    sifts_as
    (word_skips a p s c.args.napot v (found_of c.step_of-step.result) is (sym c.counts.ensures ∙ c.if-counts.false))
    (sifts_nothing g.met.S.Sink.gains_nothing c.args.sink.now c.args.seen.now)

pub search_words-words-init : goal.search_words-words-init
search_words-words-init g t c = ([], c.requires.table.last, sifts_nothing g.met.S.Sink.gains_nothing c.args.sink.now c.args.seen.now, refl)

pub search_words-words-preserved : goal.search_words-words-preserved
search_words-words-preserved g t c =
    let a = c.args.question.now in let p = g.L.Log.past c.args.log.now in
    let s = stand_of c.args.table.now in
    let i = c.words.invariant in
    let v : Version = record { word = c.in-Some.version.word; last = c.words.moment } in
    let low : c.in-Some.version.since - 1 ≤ c.words.moment = omega (arith, c.in-Some.ensures.0) in
    let some : 0 < c.in-Some.version.since = omega arith in (
      i.0 ++ word_says a p s c.args.napot v,
      omega (arith, low, i.1),
      sifts_on g.met.S.Sink.gains_on i.2 c.search_word.ensures,
      words_go a p s c.args.napot v (versions p.first.memory (until p.events c.words.moment) c.args.table.now.ppn c.args.index) p.first.memory p.events c.args.table.now.ppn c.args.index
          c.in-Some.version.since i.0 (words_say a p s c.args.napot (versions_of p s c.args.index)) c.in-Some.ensures.1 some i.3,
    )

pub search_words-returns-then-version-eq0 : goal.search_words-returns-then-version-eq0
search_words-returns-then-version-eq0 g t c =
    let a = c.args.question.now in let p = g.L.Log.past c.args.log.now in
    let s = stand_of c.args.table.now in
    let i = c.words.invariant in
    let v : Version = record { word = c.in-Some.version.word; last = c.words.moment } in
    sifts_as
    (words_end a p s c.args.napot v (versions p.first.memory (until p.events c.words.moment) c.args.table.now.ppn c.args.index) p.first.memory p.events c.args.table.now.ppn c.args.index
    c.in-Some.version.since i.0 (words_say a p s c.args.napot (versions_of p s c.args.index)) c.in-Some.ensures.1 c.if-version-eq0.true i.3)
    (sifts_on g.met.S.Sink.gains_on i.2 c.search_word.ensures)

pub search_words-returns-then-hides_older : goal.search_words-returns-then-hides_older
search_words-returns-then-hides_older g t c =
    let a = c.args.question.now in let p = g.L.Log.past c.args.log.now in
    let s = stand_of c.args.table.now in
    let i = c.words.invariant in
    sifts_as
    (words_hide a p s c.args.napot c.args.index c.in-Some.version.word c.words.moment c.in-Some.version.since i.0
    (words_say a p s c.args.napot (versions_of p s c.args.index)) (c.hides_older.ensures c.if-hides_older.true) c.in-Some.ensures.0 i.1 c.in-Some.ensures.1 i.3)
    (sifts_on g.met.S.Sink.gains_on i.2 c.search_word.ensures)

pub search_words-returns : goal.search_words-returns
search_words-returns g t c =
    let a = c.args.question.now in let p = g.L.Log.past c.args.log.now in
    let s = stand_of c.args.table.now in
    let i = c.words.invariant in
    sifts_as
    (words_stop a p s c.args.napot (versions p.first.memory (until p.events c.words.moment) c.args.table.now.ppn c.args.index) i.0
    (words_say a p s c.args.napot (versions_of p s c.args.index)) c.in_default.ensures i.3)
    i.2

pub search_group-group-init : goal.search_group-group-init
search_group-group-init g t c = ([], sifts_nothing g.met.S.Sink.gains_nothing c.args.sink.now c.args.seen.now, refl)

pub search_group-group-preserved : goal.search_group-group-preserved
search_group-group-preserved g t c =
    let a = c.args.question.now in let p = g.L.Log.past c.args.log.now in
    let s = stand_of c.args.table.now in
    let says = λ (n : ℕ). words_say a p s true (versions_of p s (c.args.first + n)) in
    let i = c.group.invariant in (
      i.0 ++ says c.group.number,
      sifts_on g.met.S.Sink.gains_on i.1 c.search_words.ensures,
      range_more says c.group.number i.0 _ c.group-test.true i.2,
    )

pub search_group-returns : goal.search_group-returns
search_group-returns g t c =
    let a = c.args.question.now in let p = g.L.Log.past c.args.log.now in
    let i = c.group.invariant in
    sifts_as
    (group_all a p (stand_of c.args.table.now) c.args.first c.group.number i.0 c.group-test.false i.2) i.1

pub search_entries-returns-then-has_groups : goal.search_entries-returns-then-has_groups
search_entries-returns-then-has_groups g t c =
    let a = c.args.question.now in let p = g.L.Log.past c.args.log.now in
    let s = stand_of c.args.table.now in
    sifts_as
    (entries_with a p s c.index_in-index.result (sym c.has_groups.ensures ∙ c.if-has_groups.true) c.index_in-index.ensures.value)
    (sifts_on g.met.S.Sink.gains_on c.search_words.ensures c.search_group.ensures)

pub search_entries-returns-else-has_groups : goal.search_entries-returns-else-has_groups
search_entries-returns-else-has_groups g t c =
    let a = c.args.question.now in let p = g.L.Log.past c.args.log.now in
    sifts_as
    (entries_without a p (stand_of c.args.table.now) c.index_in-index.result (sym c.has_groups.ensures ∙ c.if-has_groups.false) c.index_in-index.ensures.value) c.search_words.ensures

pub search_table-returns-then-is_readable : goal.search_table-returns-then-is_readable
search_table-returns-then-is_readable g t c =
    let a = c.args.question.now in let p = g.L.Log.past c.args.log.now in
    sifts_as
    (table_goes a p (stand_of c.args.table.now) (sym c.is_readable.ensures ∙ c.if-is_readable.true))
    (sifts_on g.met.S.Sink.gains_on (sifts_told g.met.S.Sink.has_still c.args.seen.now c.tell_unread.ensures) c.search_entries.ensures)

pub search_table-returns-else-is_readable : goal.search_table-returns-else-is_readable
search_table-returns-else-is_readable g t c =
    let a = c.args.question.now in let p = g.L.Log.past c.args.log.now in
    sifts_as
    (table_stops a p (stand_of c.args.table.now) (sym c.is_readable.ensures ∙ c.if-is_readable.false)) (sifts_told g.met.S.Sink.has_still c.args.seen.now c.tell_unread.ensures)
