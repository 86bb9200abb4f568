-- An entry of a page table, as it is shown.
use Rattle.sv39_entry.specs.Word.{ppn}
use Rattle.sv39_entry.specs.declared.scheme.Scheme.{Scheme}
use Rattle.walk_lines.specs.Listings.{first_address}
use Rattle.walk_lines.specs.declared.listing.TableEntry.{TableEntry}
use Rattle.pictures.specs.declared.entries.EntryView.{EntryView}

abbrev pub entry_view : Scheme → TableEntry → EntryView
entry_view s e = record {
  level = e.level;
  table = record { 0 = e.table };
  index = e.index;
  address = record { 0 = first_address s e.page };
  flags = record { 0 = e.word };
  ppn = record { 0 = ppn e.word };
}
