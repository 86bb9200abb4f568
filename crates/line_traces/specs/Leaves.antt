-- The leaves that a line changed, by the lists of leaves before and after it (`leaf_changes`): those of which the page has no leaf after
-- it (`gone`), in the order of the first list, and then those of which the page had none before it, or another (`come`), in that of the second.
use Rattle.std.specs.Prelude.{ℕ, ◌==◌, ◌&&◌, ◌++◌, Bool, false, Option, None, Some, option_map, is_some, List, if◌then◌else◌}
use Rattle.std.specs.List.{filter_map, find}
use Rattle.sv39_entry.specs.declared.scheme.Scheme.{Scheme}
use Rattle.walk_lines.specs.Buffers.{leaf_line}
use Rattle.walk_lines.specs.Listings.{first_address}
use Rattle.walk_lines.specs.declared.buffers.LeafLine.{LeafLine}
use Rattle.walk_lines.specs.declared.listing.TableEntry.{TableEntry}
use Rattle.line_traces.specs.declared.leaves.LeafChange.{LeafChange}

-- the leaf of a page in a list of leaves
abbrev pub leaf_at : List TableEntry → ℕ → Option TableEntry
leaf_at leaves page = find (λ leaf. leaf.page == page) leaves

abbrev pub shown : TableEntry → LeafLine
shown leaf = leaf_line leaf.level leaf.word

-- there is a leaf, of the same level and with the same word as another
abbrev pub is_same : Option TableEntry → TableEntry → Bool
is_same None leaf = false
is_same (Some other) leaf = other.level == leaf.level && other.word == leaf.word

-- the change of the page of a leaf before a line, if there is no leaf of that page after it
unfoldable pub gone : Scheme → List TableEntry → TableEntry → Option LeafChange
gone scheme after leaf =
    if is_some (leaf_at after leaf.page) then None
    else Some (record { address = record { 0 = first_address scheme leaf.page }; before = Some (shown leaf); after = None })

-- the change of the page of a leaf after a line, if the leaf of that page before it was none or another
unfoldable pub come : Scheme → List TableEntry → TableEntry → Option LeafChange
come scheme before leaf =
    if is_same (leaf_at before leaf.page) leaf then None
    else Some (record {
      address = record { 0 = first_address scheme leaf.page };
      before = option_map shown (leaf_at before leaf.page);
      after = Some (shown leaf);
    })

abbrev pub leaf_changes : Scheme → List TableEntry → List TableEntry → List LeafChange
leaf_changes scheme before after = filter_map (gone scheme after) before ++ filter_map (come scheme before) after
