-- The pages that are in frames, by the leaves of processes: the page of a leaf with its frame (`leaf_name`), and the page of a leaf if it is in a
-- frame (`name_in`).
use Rattle.std.specs.Prelude.{ℕ, ◌==◌, Option, None, Some, if◌then◌else◌}
use Rattle.sv39_entry.specs.Word.{kind_of, ppn}
use Rattle.sv39_entry.specs.declared.entry.Kind.{Kind}
use Rattle.sv39_entry.specs.declared.entry.Kind.TheVariants.{Invalid, Leaf, Pointer}
use Rattle.sv39_entry.specs.declared.scheme.Scheme.{Scheme}
use Rattle.walk_lines.specs.Listings.{first_address}
use Rattle.walk_lines.specs.declared.listing.TableEntry.{TableEntry}
use Rattle.pictures.specs.declared.names.LeafName.{LeafName}
use Rattle.pictures.specs.declared.names.PageName.{PageName}

-- by what its word is to a walk
abbrev pub name_by : Kind → ℕ → Scheme → TableEntry → Option LeafName
name_by Leaf slot s e = Some (record { ppn = ppn e.word; name = record { slot = slot; page = record { 0 = first_address s e.page } } })
name_by Pointer slot s e = None
name_by Invalid slot s e = None

-- none for an entry that is no leaf
unfoldable pub leaf_name : ℕ → Scheme → TableEntry → Option LeafName
leaf_name slot s e = name_by (kind_of e.word) slot s e

-- none for a leaf that leads to another frame
unfoldable pub name_in : ℕ → LeafName → Option PageName
name_in frame leaf = if leaf.ppn == frame then Some leaf.name else None
