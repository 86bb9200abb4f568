-- Tests that exec of the smallest ELF file cut to its first bytes is refused with BadImage Header, ProgramHeader or
-- Contents, by where the cut is, and the old process goes on each time. Scripts with their answers (`Plays`).
use Prim.Native.String.{String}
use Rattle.std.proofs.Common.{refl}
use Rattle.std.specs.Prelude.{ℕ, zero, ◌*◌, List, ◌++◌, codes, flat_map, map, take}
use Rattle.script_laws.proofs.ElfFiles.{elf_text, exec_goes_back, smallest, stored_before_exec}
use Rattle.script_laws.proofs.Playing.{Line, Plays, numbers_from, unanswered}

-- the first bytes of the file in hexadecimal, and "-" for none
abbrev front : ℕ → List ℕ
front zero = codes "-"
front bytes = take (2 * bytes) (elf_text smallest)

-- files cut to a number of bytes, one byte more each
abbrev fronts : ℕ → ℕ → List Line
fronts first count = map (λ bytes. unanswered (codes "elf " ++ front bytes)) (numbers_from first count)

-- exec of so many images, from the first on, is refused each time
abbrev each_refused : ℕ → ℕ → String → List Line
each_refused first count refusal = flat_map (λ n. exec_goes_back n refusal) (numbers_from first count)

-- cut at each byte: to 0, 1, .. 61 bytes, fewer than the header of 64
fronts_of_an_image : Plays (stored_before_exec (fronts 0 62) ++ each_refused 1 62 "refused 12 BadImage Header")
fronts_of_an_image = unfold Plays in refl

-- to 62, 63, .. 123 bytes: in the header, in the program header of 56 bytes, in the contents of 4
longer_fronts_of_an_image : Plays (stored_before_exec (fronts 62 62)
    ++ each_refused 1 2 "refused 12 BadImage Header"
    ++ each_refused 3 56 "refused 12 BadImage ProgramHeader"
    ++ each_refused 59 4 "refused 12 BadImage Contents")
longer_fronts_of_an_image = unfold Plays in refl

-- to 64, 65, .. 119 bytes
part_of_a_program_header : Plays (stored_before_exec (fronts 64 56) ++ each_refused 1 56 "refused 12 BadImage ProgramHeader")
part_of_a_program_header = unfold Plays in refl

-- to 120, .. 123 bytes
part_of_the_contents : Plays (stored_before_exec (fronts 120 4) ++ each_refused 1 4 "refused 12 BadImage Contents")
part_of_the_contents = unfold Plays in refl
