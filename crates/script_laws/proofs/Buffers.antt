-- Tests that no TLB entry filled under the kernel's table serves the process after the return, and that a buffer has 32
-- entries after 33 fills. Scripts with their answers (`Plays`), for 1 and 4 slots and two images.
use Rattle.std.proofs.Common.{refl, [], ◌∷◌}
use Rattle.std.specs.Prelude.{ℕ, List, ◌++◌, codes, map}
use Rattle.script_laws.proofs.Openings.{one_page_image, running, running_from, switched, switched_from}
use Rattle.script_laws.proofs.Playing.{Line, Plays, answered, numbered, numbers_from, ◌⇒◌}

-- an entry that was filled under the kernel's table is gone after the return
abbrev filled_in_the_return : List Line → List Line
filled_in_the_return opening = opening
    ++ "next 0" ⇒ "ok"
    ∷ "fill 0 0x1000" ⇒ "entry 0"
    ∷ "next 0" ⇒ "ok"
    ∷ "tramp 0 0" ⇒ "frame 0"
    ∷ "next 0" ⇒ "ok"
    ∷ "load 0 0x1000 1 @0" ⇒ "refused 20 NoEntry"
    ∷ "load 0 0x1000 1" ⇒ "value 0x0" ∷ []

entry_of_the_kernel : Plays (filled_in_the_return (switched_from (one_page_image ∷ []) "boot 1 64 1 full"))
entry_of_the_kernel = unfold Plays in refl

entry_of_the_kernel_on_four_slots : Plays (filled_in_the_return (switched_from (one_page_image ∷ []) "boot 1 64 4 full"))
entry_of_the_kernel_on_four_slots = unfold Plays in refl

entry_of_the_kernel_in_the_standard_image : Plays (filled_in_the_return (switched "boot 1 64 4 full"))
entry_of_the_kernel_in_the_standard_image = unfold Plays in refl

-- so many fills of one page, each into a new entry: 0, 1, ..
abbrev fills : ℕ → List Line
fills count = map (λ n. answered (codes "fill 0 0x1000") (numbered "entry " n)) (numbers_from 0 count)

-- the 33rd entry drives out the first
abbrev filled_33_times : List Line → List Line
filled_33_times opening = opening
    ++ fills 32
    ++ "fill 0 0x1000" ⇒ "entry 31"
    ∷ "evict 0 31" ⇒ "ok"
    ∷ "evict 0 31" ⇒ "refused 20 NoEntry" ∷ []

full_buffer : Plays (filled_33_times (running_from (one_page_image ∷ []) "boot 1 64 1 full"))
full_buffer = unfold Plays in refl

full_buffer_on_four_slots : Plays (filled_33_times (running_from (one_page_image ∷ []) "boot 1 64 4 full"))
full_buffer_on_four_slots = unfold Plays in refl

full_buffer_in_the_standard_image : Plays (filled_33_times (running "boot 1 64 4 full"))
full_buffer_in_the_standard_image = unfold Plays in refl
