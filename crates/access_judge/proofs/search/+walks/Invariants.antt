use Rattle.std.proofs.Common.{◌≡◌, ◌≤◌, ◌+◌, ◌-◌, ◌*◌, true, ℕ, List, ◌++◌, length}
use Rattle.std.specs.List.{flat_map, range_with_len}
use Rattle.access_history.specs.declared.outcome.Outcome.{Outcome}
use Rattle.access_judge.specs.Judging.{stand_of, table_says, versions_of, words_say}
use Rattle.access_judge.specs.Search.{until, versions}
use Rattle.access_judge.specs.Sifting.{Sifts}
use Rattle.access_judge.proofs.search.+walks.Given as goal

abbrev pub decreases-search_below : goal.decreases-search_below
decreases-search_below g l = 8 * l.table.now.level + 1

abbrev pub decreases-search_once : goal.decreases-search_once
decreases-search_once g l = 8 * l.table.now.level + 8

abbrev pub decreases-search_step : goal.decreases-search_step
decreases-search_step g l = 8 * l.table.now.level + 2

abbrev pub decreases-search_word : goal.decreases-search_word
decreases-search_word g l = 8 * l.table.now.level + 3

abbrev pub decreases-search_words : goal.decreases-search_words
decreases-search_words g l = 8 * l.table.now.level + 4

abbrev pub decreases-search_group : goal.decreases-search_group
decreases-search_group g l = 8 * l.table.now.level + 5

abbrev pub decreases-search_entries : goal.decreases-search_entries
decreases-search_entries g l = 8 * l.table.now.level + 6

abbrev pub decreases-search_table : goal.decreases-search_table
decreases-search_table g l = 8 * l.table.now.level + 7

abbrev pub invariant-search_group-group : goal.invariant-search_group-group
invariant-search_group-group g l =
    let p = g.L.Log.past l.log in
    let says = λ (n : ℕ). words_say l.question p (stand_of l.table) true (versions_of p (stand_of l.table) (l.first + n)) in
    (done : List Outcome) × Sifts g.S.Sink.gains g.S.Sink.has (table_says l.question p) l.initial.sink l.initial.seen done l.sink l.seen
    × (done ++ flat_map says (range_with_len l.number (16 - l.number)) ≡ flat_map says (range_with_len 0 16))

abbrev pub invariant-search_words-words : goal.invariant-search_words-words
invariant-search_words-words g l =
    let p = g.L.Log.past l.log in
    let says = words_say l.question p (stand_of l.table) l.napot in
    (done : List Outcome) × (l.moment ≤ length p.events) × Sifts g.S.Sink.gains g.S.Sink.has (table_says l.question p) l.initial.sink l.initial.seen done l.sink l.seen
    × (done ++ says (versions p.first.memory (until p.events l.moment) l.table.ppn l.index) ≡ says (versions_of p (stand_of l.table) l.index))

abbrev pub decreases-search_words-words : goal.decreases-search_words-words
decreases-search_words-words g l = l.moment
