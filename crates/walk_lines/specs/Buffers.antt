-- A leaf, and an entry of a TLB, as they are shown: addresses, words and page numbers in hexadecimal digits, flags by letters.
use Rattle.std.specs.Prelude.{ℕ, ◌*◌, ◌^◌, Option, option_map}
use Rattle.sv39_entry.specs.Word.{ppn}
use Rattle.table_walk.specs.Leaves.{Leaf}
use Rattle.hart_tlb.specs.declared.entry.TlbEntry.{TlbEntry}
use Rattle.walk_lines.specs.declared.buffers.BufferLine.{BufferLine}
use Rattle.walk_lines.specs.declared.buffers.LeafLine.{LeafLine}

abbrev pub leaf_line : ℕ → ℕ → LeafLine
leaf_line level word = record { level = level; word = record { 0 = word }; flags = record { 0 = word }; ppn = record { 0 = ppn word } }

abbrev pub buffer_line : ℕ → TlbEntry → BufferLine
buffer_line number e = record {
  number = number;
  page = record { 0 = e.page * 2 ^ 12 };
  asid = e.asid;
  global = e.global;
  leaf = option_map (λ (leaf : Leaf). leaf_line leaf.level leaf.word) e.leaf;
}
