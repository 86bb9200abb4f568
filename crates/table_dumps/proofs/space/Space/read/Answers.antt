use Rattle.std.proofs.Common.{◌≡◌, ◌<◌, suc, ap, sym, ◌∙◌, Err, filter, length}
use Rattle.std.proofs.lemmas.Result.{err_from_is_err_and}
use Rattle.sv39_entry.specs.Satp.{root_ppn}
use Rattle.table_dumps.specs.Below.{listed}
use Rattle.table_dumps.specs.Dumps.{dump_memory}
use Rattle.table_dumps.specs.Leaves.{is_leaf}
use Rattle.table_dumps.specs.declared.listing.TheConstants.{MOST_PTES}
use Rattle.table_dumps.specs.declared.listing.SpaceError.TheVariants.{TooMany}
use Rattle.table_dumps.proofs.Found.{is_listing}
use Rattle.table_dumps.proofs.Mapped.{are_mappings}
use Rattle.table_dumps.proofs.space.Space.read.Goals as goal

pub returns-clause-entries : goal.returns-clause-entries
returns-clause-entries c =
    let m = dump_memory c.args.dump.now in
    let items : c.list_table.new.entries.items ≡ listed c.args.extensions m (suc c.in-Some.top) 0 (root_ppn c.args.satp) =
    rw (c.new-entries.ensures.items, c.ppn.ensures) at c.in_ok-list_table.ensures.listed in
    rw items (is_listing c.args.extensions m (root_ppn c.args.satp) c.in-Some.top)

pub returns-clause-mappings : goal.returns-clause-mappings
returns-clause-mappings c =
    let m = dump_memory c.args.dump.now in
    let items : c.list_table.new.entries.items ≡ listed c.args.extensions m (suc c.in-Some.top) 0 (root_ppn c.args.satp) =
    rw (c.new-entries.ensures.items, c.ppn.ensures) at c.in_ok-list_table.ensures.listed in
    let mappings : c.in_ok-mappings.mappings.items ≡ filter (is_leaf c.args.extensions) (listed c.args.extensions m (suc c.in-Some.top) 0 (root_ppn c.args.satp)) =
    c.in_ok-mappings.ensures ∙ ap (filter (is_leaf c.args.extensions)) (c.as_slice.ensures.value ∙ items) in
    rw mappings (are_mappings c.args.extensions m (root_ppn c.args.satp) c.in-Some.top)

pub returns-in_err-list_table-clause-too_many : goal.returns-in_err-list_table-clause-too_many
returns-in_err-list_table-clause-too_many c = λ is.
    let m = dump_memory c.args.dump.now in
    let error = err_from_is_err_and c.from_residual.result c.from_residual.ensures.1 in
    let told = error.1 in
    let given = error.2 in
    let failed : c.in_err-list_table.field-0.0 ≡ TooMany = cc in
    let many : MOST_PTES < length (listed c.args.extensions m (suc c.in-Some.top) 0 (root_ppn c.args.satp)) =
    rw (c.new-entries.ensures.items, c.ppn.ensures) at (c.in_err-list_table.ensures.many (ap Err failed)) in (
      c.in-Some.top,
      listed c.args.extensions m (suc c.in-Some.top) 0 (root_ppn c.args.satp),
      sym c.top_level.ensures.value ∙ c.in-Some.is,
      is_listing c.args.extensions m (root_ppn c.args.satp) c.in-Some.top,
      many,
    )
