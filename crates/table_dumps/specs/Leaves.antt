-- Which page table entries (PTEs) of a list are leaves.
use Rattle.std.specs.Prelude.{Bool, true, false}
use Rattle.sv39_entry.specs.declared.entry.Kind.{Kind}
use Rattle.sv39_entry.specs.declared.entry.Kind.TheVariants as kind
use Rattle.walk_rules.specs.Kinds.{kind_in}
use Rattle.walk_rules.specs.declared.extensions.Extensions.{Extensions}
use Rattle.table_dumps.specs.declared.listing.ValidEntry.{ValidEntry}

abbrev pub is_leaf_kind : Kind → Bool
is_leaf_kind kind.Invalid = false
is_leaf_kind kind.Leaf = true
is_leaf_kind kind.Pointer = false

abbrev pub is_leaf : Extensions → ValidEntry → Bool
is_leaf x e = is_leaf_kind (kind_in x e.level e.word)
