-- Definitions for satp (RISC-V Privileged Architecture, 4.1.11): the word made of MODE, ASID and the frame of a root table;
-- the fields of a word, MODE in bits 63 to 60, ASID in 59 to 44, PPN in 43 to 0, and the scheme of a MODE.
use Rattle.std.specs.Prelude.{ℕ, ◌+◌, ◌*◌, ◌/◌, ◌%◌, ◌^◌, ◌==◌, Option, None, Some, if◌then◌else◌}
use Rattle.sv39_entry.specs.Frame.{ppn_of}
use Rattle.sv39_entry.specs.declared.scheme.Scheme.{Scheme}
use Rattle.sv39_entry.specs.declared.scheme.Scheme.TheVariants.{Sv39, Sv48}

abbrev pub satp_word : ℕ → ℕ → ℕ → ℕ
satp_word mode asid root = mode * 2 ^ 60 + asid * 2 ^ 44 + ppn_of root

abbrev pub mode : ℕ → ℕ
mode w = w / 2 ^ 60

-- the scheme that MODE selects; None for Bare and for each mode that is not supported
abbrev pub scheme_of : ℕ → Option Scheme
scheme_of w = if mode w == 8 then Some Sv39 else (if mode w == 9 then Some Sv48 else None)

abbrev pub asid : ℕ → ℕ
asid w = w / 2 ^ 44 % 2 ^ 16

abbrev pub root_ppn : ℕ → ℕ
root_ppn w = w % 2 ^ 44
