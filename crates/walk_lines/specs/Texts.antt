-- How a word that a walk reads is printed: `flags_text`, the flags of a page table entry by letters, and `entry_text`, a
-- line. How a listing of page tables is printed: `title_text`, the line of the root, and `line_text`, that of an entry.
use Rattle.std.specs.Prelude.{ℕ, zero, suc, ◌-◌, ◌*◌, ◌%◌, ◌^◌, Bool, false, Option, Some, None, List, ◌++◌, length, replicate, codes, if◌then◌else◌}
use Rattle.std.specs.Fmt.{decimal, digits}
use Rattle.sv39_entry.specs.Address.{has}
use Rattle.sv39_entry.specs.Schemes.{top_level}
use Rattle.sv39_entry.specs.Word.{kind_of, ppn}
use Rattle.sv39_entry.specs.declared.entry.Kind.{Kind}
use Rattle.sv39_entry.specs.declared.entry.Kind.TheVariants as kind
use Rattle.sv39_entry.specs.declared.scheme.Scheme.{Scheme}
use Rattle.walk_lines.specs.Listings.{first_address}
use Rattle.walk_lines.specs.declared.listing.TableEntry.{TableEntry}
use Rattle.walk_lines.specs.declared.walk.WalkEntry.{WalkEntry}

abbrev pub hexadecimal : ℕ → List ℕ
hexadecimal n = codes "0x" ++ digits 16 false n

-- the letter of a flag that is set, else a dash
abbrev pub letter : Bool → List ℕ → List ℕ
letter set text = if set then text else codes "-"

-- V, R, W, X, U, G, A and D, bits 0 to 7 of a page table entry, and C, bit 8, by which the kernel marks copy-on-write
abbrev pub flags_text : ℕ → List ℕ
flags_text w =
    letter (has w 0) (codes "V")
    ++ (letter (has w 1) (codes "R") ++ (letter (has w 2) (codes "W") ++ (letter (has w 3) (codes "X") ++ (letter (has w 4) (codes "U")
    ++ (letter (has w 5) (codes "G") ++ (letter (has w 6) (codes "A") ++ (letter (has w 7) (codes "D") ++ letter (has w 8) (codes "C"))))))))

-- what the word says to the walk
abbrev pub text_of_kind : ℕ → Kind → List ℕ
text_of_kind w kind.Invalid = codes "no leaf"
text_of_kind w kind.Pointer = codes "table " ++ hexadecimal (ppn w)
text_of_kind w kind.Leaf = codes "leaf " ++ hexadecimal (ppn w)

abbrev pub meaning_text : ℕ → List ℕ
meaning_text w = text_of_kind w (kind_of w)

abbrev pub word_text : Option ℕ → List ℕ
word_text None = codes "outside the memory"
word_text (Some w) = hexadecimal w ++ (codes " " ++ (flags_text w ++ (codes " " ++ meaning_text w)))

abbrev pub entry_text : WalkEntry → List ℕ
entry_text e = codes "level "
    ++ (decimal e.level ++ (codes ": " ++ (hexadecimal e.table ++ (codes "[" ++ (decimal e.index ++ (codes "] = " ++ word_text e.word))))))

-- ---- a listing of page tables, as vmprint of MIT 6.1810 prints it (the page table lab of 2024)

-- a number below 2^64 as 16 hexadecimal digits, with zeros in front
abbrev pub wide_digits : ℕ → List ℕ
wide_digits n = replicate (16 - length (digits 16 false n)) 48 ++ digits 16 false n

abbrev pub wide_text : ℕ → List ℕ
wide_text n = codes "0x" ++ wide_digits n

-- the line of the root table, by its physical page number
abbrev pub title_text : ℕ → List ℕ
title_text root = codes "page table " ++ wide_text (root * 4096 % 2 ^ 64)

-- ` ..` once for the root's entries, and once more for each level below
abbrev pub dots : ℕ → List ℕ
dots zero = codes " .."
dots (suc depth) = codes " .." ++ dots depth

-- the line of an entry
abbrev pub line_text : Scheme → TableEntry → List ℕ
line_text s e = dots (top_level s - e.level)
    ++ (wide_text (first_address s e.page) ++ (codes ": pte " ++ (wide_text e.word ++ (codes " pa " ++ wide_text (ppn e.word * 4096)))))
