-- Tests that the counts of frames have given values, by computation: what start, exec, fork and one heap page need, what the
-- kernel takes at boot and which sizes can boot; under Sv39 and Sv48. Equations, no scripts.
use Rattle.std.proofs.Common.{◌≡◌, refl, ℕ, true, false, List, [], ◌∷◌}
use Rattle.std.specs.Prelude.{Result, Ok, Err, Option, None, Some, pos}
use Rattle.process_model.specs.Frames.{start_need, exec_need, fork_need, settle_need, tables_needed, kernel_frames, can_boot}
use Rattle.process_model.specs.Heap.{sbrk_result}
use Rattle.process_model.specs.Images.{LoadSegment, segment_loads}
use Rattle.process_model.specs.ImageProcess.{process_of}
use Rattle.process_model.specs.Process.{Process}
use Rattle.sv39_entry.specs.declared.scheme.Scheme.TheVariants.{Sv39, Sv48}
use Rattle.process_model.specs.declared.image.BadImage.{BadImage}
use Rattle.process_model.specs.declared.image.Segment.{Segment}
use Rattle.process_model.specs.declared.reply.Refusal.{Refusal}

-- one page of text, two of data; guard and stack come after them
abbrev standard_image : List Segment
standard_image =
    record { address = 0; memory_size = 0x1000; writes = false; executes = true; bytes = 0x13 ∷ 0x05 ∷ 0 ∷ 0 ∷ [] }
    ∷ record { address = 0x1000; memory_size = 0x1800; writes = true; executes = false; bytes = [] } ∷ []

abbrev loads_or_none : Result (List LoadSegment) BadImage → List LoadSegment
loads_or_none (Ok ls) = ls
loads_or_none (Err e) = []

abbrev standard_loads : List LoadSegment
standard_loads = loads_or_none (segment_loads Sv39 standard_image)

abbrev standard_process : Process
standard_process = process_of Sv39 0 standard_loads

abbrev settle_need_after : Result Process Refusal → ℕ → Option ℕ
settle_need_after (Ok p) page = Some (settle_need p page)
settle_need_after (Err r) page = None

-- five tables, the trapframe and five pages
start_takes_eleven : start_need Sv39 standard_loads ≡ 11
start_takes_eleven = unfold segment_loads tables_needed in refl

exec_takes_ten : exec_need Sv39 standard_loads ≡ 10
exec_takes_ten = unfold segment_loads tables_needed in refl

-- five tables and the trapframe
fork_takes_six : fork_need standard_process ≡ 6
fork_takes_six = unfold segment_loads process_of tables_needed in refl

-- a page whose tables are there, one that needs the last table, and one that needs two
page_takes_one : settle_need_after (sbrk_result standard_process (pos 0x40000000)) 5 ≡ Some 1
page_takes_one = unfold segment_loads process_of tables_needed sbrk_result in refl

page_takes_two : settle_need_after (sbrk_result standard_process (pos 0x40000000)) 0x200 ≡ Some 2
page_takes_two = unfold segment_loads process_of tables_needed sbrk_result in refl

page_takes_three : settle_need_after (sbrk_result standard_process (pos 0x40000000)) 0x40000 ≡ Some 3
page_takes_three = unfold segment_loads process_of tables_needed sbrk_result in refl

-- a memory of more than 512 frames needs one more table in the kernel
kernel_takes_ten : kernel_frames Sv39 512 4 ≡ 10
kernel_takes_ten = refl

kernel_takes_eleven : kernel_frames Sv39 513 4 ≡ 11
kernel_takes_eleven = refl

-- under four levels there are two tables more for a process, and two for the kernel

abbrev tall_loads : List LoadSegment
tall_loads = loads_or_none (segment_loads Sv48 standard_image)

abbrev tall_process : Process
tall_process = process_of Sv48 0 tall_loads

start_takes_thirteen : start_need Sv48 tall_loads ≡ 13
start_takes_thirteen = unfold segment_loads tables_needed in refl

fork_takes_eight : fork_need tall_process ≡ 8
fork_takes_eight = unfold segment_loads process_of tables_needed in refl

page_takes_four : settle_need_after (sbrk_result tall_process (pos 0x400000000000)) 0x8000000 ≡ Some 4
page_takes_four = unfold segment_loads process_of tables_needed sbrk_result in refl

tall_kernel_takes_twelve : kernel_frames Sv48 512 4 ≡ 12
tall_kernel_takes_twelve = refl

fifty_six_slots_fit : can_boot Sv48 1 64 56 ≡ true
fifty_six_slots_fit = refl

fifty_seven_slots_do_not : can_boot Sv48 1 64 57 ≡ false
fifty_seven_slots_do_not = refl
