use Rattle.std.proofs.Common.{◌≡◌, suc}
use Rattle.sv39_entry.specs.Schemes.{top_level}
use Rattle.walk_lines.specs.Below.{listed}
use Rattle.walk_lines.proofs.Found.{can_list_root, is_listing}
use Rattle.walk_lines.proofs.listing.table_entries.Goals as goal

pub list_table-requires-clause-readable : goal.list_table-requires-clause-readable
list_table-requires-clause-readable g c = rw c.top_level.ensures.value (can_list_root c.args.scheme _ c.args.root _ c.requires)

pub returns-clause-listing : goal.returns-clause-listing
returns-clause-listing g c =
    let m = g.M.Words.memory c.args.words.now in
    let items : c.list_table.new.entries.items ≡ listed m (suc (top_level c.args.scheme)) 0 c.args.root =
    rw (c.new-entries.ensures.items, c.top_level.ensures.value) at c.in_ok-list_table.ensures.listed in
    rw items (is_listing c.args.scheme m c.args.root)
