use Rattle.std.proofs.Common.{◌≡◌, ◌+◌, ◌-◌, ◌*◌, ◌^◌, ◌<◌, ◌≤◌, Err, OnOk, Some, ap, length, sym, subst, ◌∙◌, arith, rules}
use Rattle.std.proofs.lemmas.Result.{err_from_is_err_and}
use Rattle.sv39_entry.specs.Word.{ppn}
use Rattle.sv39_entry.specs.declared.entry.Kind.TheVariants.{Pointer}
use Rattle.walk_rules.specs.Kinds.{kind_in}
use Rattle.table_dumps.specs.Below.{listed_at}
use Rattle.table_dumps.specs.Dumps.{dump_memory}
use Rattle.table_dumps.specs.declared.listing.TheConstants.{MOST_PTES}
use Rattle.table_dumps.specs.declared.listing.SpaceError.TheVariants.{TooMany}
use Rattle.table_dumps.proofs.Listed.{all_of_table, appended, many_of_table, nothing_yet, pointer_above, pointer_lists}
use Rattle.table_dumps.proofs.Pages.{room_below}
use Rattle.table_dumps.proofs.listing.+listing.Goals as goal

pub list_entry-overflow_sub-level : goal.list_entry-overflow_sub-level
list_entry-overflow_sub-level t c =
    let kind : kind_in c.args.extensions c.args.level c.in-Some.word ≡ Pointer =
    ap (kind_in c.args.extensions c.args.level) (sym c.from_word-entry.ensures) ∙ sym c.kind.ensures ∙ c.in-Pointer.is in
    pointer_above c.args.extensions c.args.level c.in-Some.word kind

pub list_entry-list_table-requires : goal.list_entry-list_table-requires
list_entry-list_table-requires t c =
    let kind : kind_in c.args.extensions c.args.level c.in-Some.word ≡ Pointer =
    ap (kind_in c.args.extensions c.args.level) (sym c.from_word-entry.ensures) ∙ sym c.kind.ensures ∙ c.in-Pointer.is in
    let above : 1 ≤ c.args.level = pointer_above c.args.extensions c.args.level c.in-Some.word kind in
    let room : c.args.first + c.args.index * c.pages_of.result + 512 * 512 ^ (c.args.level - 1) ≤ 2 ^ 45 =
    rw c.pages_of.ensures.value (room_below c.args.first c.args.index c.args.level (2 ^ 45) c.requires.in_table (omega (arith, above)) c.requires.room) in
    search (rules, above, room)

pub list_entry-returns-in_ok-push-in-Pointer : goal.list_entry-returns-in_ok-push-in-Pointer
list_entry-returns-in_ok-push-in-Pointer t c =
    let m = dump_memory c.args.dump.now in
    let read : m c.args.table c.args.index ≡ Some c.in-Some.word = sym c.word.ensures.word ∙ c.in-Some.is in
    let kind : kind_in c.args.extensions c.args.level c.in-Some.word ≡ Pointer =
    ap (kind_in c.args.extensions c.args.level) (sym c.from_word-entry.ensures) ∙ sym c.kind.ensures ∙ c.in-Pointer.is in
    let page : c.args.first + c.args.index * c.pages_of.result ≡ c.args.first + c.args.index * 512 ^ c.args.level = rw c.pages_of.ensures.value in
    let number : c.ppn.result ≡ ppn c.in-Some.word = c.ppn.ensures.value ∙ ap ppn c.from_word-entry.ensures in
    let all = pointer_lists c.args.extensions m c.args.level c.args.first c.args.table c.args.index (c.args.first + c.args.index * c.pages_of.result) c.in-Some.word c.ppn.result
    c.args.entries.now.items c.push-in-Pointer.new.entries.items c.in_ok-push-in-Pointer.ensures.pushed page read kind number in
    record {
      listed = subst (λ es. OnOk c.list_table.result (c.list_table.new.entries.items ≡ es)) all c.list_table.ensures.listed;
      many = subst (λ es. c.list_table.result ≡ Err TooMany → MOST_PTES < length es) all c.list_table.ensures.many;
      tables = c.list_table.ensures.tables;
    }

pub list_table-indices-init : goal.list_table-indices-init
list_table-indices-init t c = nothing_yet (listed_at c.args.extensions (dump_memory c.args.dump.now) c.args.level c.args.first c.args.table) c.args.entries.now.items

pub list_table-indices-preserved : goal.list_table-indices-preserved
list_table-indices-preserved t c =
    let at_index = listed_at c.args.extensions (dump_memory c.args.dump.now) c.args.level c.args.first c.args.table in
    appended at_index c.indices.index c.args.entries.now.items c.indices.entries.items c.list_entry.new.entries.items c.indices.invariant c.in_ok-list_entry.ensures.listed

pub list_table-returns : goal.list_table-returns
list_table-returns t c =
    let last : c.indices.index ≡ 512 = omega (arith, c.indices-test.false) in
    record { listed = rw (all_of_table, ← last) c.indices.invariant; many = λ is. absurd cc; tables = λ is. absurd cc }

pub list_table-returns-in_err-list_entry-clause-many : goal.list_table-returns-in_err-list_entry-clause-many
list_table-returns-in_err-list_entry-clause-many t c = λ is.
    let at_index = listed_at c.args.extensions (dump_memory c.args.dump.now) c.args.level c.args.first c.args.table in
    let error = err_from_is_err_and c.from_residual.result c.from_residual.ensures.1 in
    let told = error.1 in
    let given = error.2 in
    let failed : c.in_err-list_entry.field-0.0 ≡ TooMany = cc in
    rw all_of_table (many_of_table at_index c.indices.index c.args.entries.now.items c.indices.entries.items MOST_PTES c.indices-test.true c.indices.invariant (c.in_err-list_entry.ensures.many (ap Err failed)))
