-- Lemmas: a machine's reference counts, frame by frame, are the references of the kernel and of the processes
-- (`count_kinds`), and their sum is the model's number of references (`references_are`).
use Rattle.std.proofs.Common.{◌≡◌, ℕ, ◌+◌, ◌<◌, sym, ◌∙◌, inl, inr, arith, List, ◌∷◌, ◌++◌, length, slice_index, ap}
use Rattle.std.specs.Prelude.{sum, sum_by}
use Rattle.std.proofs.lemmas.Bool.{cases_lt}
use Rattle.std.proofs.lemmas.List.{get_or_past, length-append}
use Rattle.process_model.specs.Frames.{kernel_frames, live, references_of}
use Rattle.process_model.specs.World.{World}
use Rattle.hart_machine.specs.Worlds.{IsWorldButBuffers}
use Rattle.hart_machine.specs.declared.machine.Machine.{Machine}
use Rattle.hart_machine.proofs.CountedLists.{sum_is}
use Rattle.hart_machine.proofs.KernelFrames.{HasKernel, kernel_has}
use Rattle.hart_machine.proofs.NumberLists.{times, times_append}
use Rattle.hart_machine.proofs.PlaceFrames.{HasAll, places_have, sum_kinds}

module _ (m : Machine) (w : World) (is : IsWorldButBuffers m w) where
  abbrev counts : List ℕ
  counts = m.frames.counts

  -- the kernel's seat tells how many frames there are
  pub sized : length counts ≡ w.frames
  sized = sym is.invariant.sizes.0 ∙ is.frames

  -- and it has frame 0, so that there is one
  some_frame : 0 < w.frames
  some_frame = elim (cases_lt 0 (length counts)) [
    | inl some ↦ omega (arith, some, sized)
    | inr none ↦ absurd (
        let past = get_or_past counts 0 0 none in
        let all = is.invariant.counted 0 in
        let code = is.of_kernel.maps.holds.code in
        omega (arith, past, all, code))
  ]

  pub kernel : HasKernel m.kernel.scheme m.kernel.seat w.frames (length w.slots)
  kernel = kernel_has m.kernel.scheme m.kernel.seat m.kernel.root.0 w.frames (length w.slots) is.stacks is.kernel some_frame is.of_kernel

  pub places : HasAll counts m.slots.items w.slots is.tables
  places = places_have m.frames.words counts m.slots.items w.slots is.tables is.places is.invariant.agrees.1

  -- each count, by kinds
  pub count_kinds : (f : ℕ) → times f (0 ∷ kernel.own) + times f places.code + times f places.own + times f places.pages ≡ slice_index counts f
  count_kinds f =
      let of_kernel = kernel.all f in
      let of_places = places.all f in
      let all = is.invariant.counted f in
      omega (arith, of_kernel, of_places, all)

  abbrev every : List ℕ
  every = (0 ∷ kernel.own) ++ (places.code ++ (places.own ++ places.pages))

  every_times : (f : ℕ) → times f every ≡ slice_index counts f
  every_times f =
      let parts = times_append f (0 ∷ kernel.own) (places.code ++ (places.own ++ places.pages)) in
      let others = times_append f places.code (places.own ++ places.pages) in
      let last = times_append f places.own places.pages in
      let all = count_kinds f in
      omega (arith, parts, others, last, all)

  pub references_are : sum counts ≡ kernel_frames w.scheme w.frames (length w.slots) + sum_by references_of (live w.slots)
  references_are =
      let listed = sum_is counts every every_times in
      let parts = length-append (0 ∷ kernel.own) (places.code ++ (places.own ++ places.pages)) in
      let others = length-append places.code (places.own ++ places.pages) in
      let last = length-append places.own places.pages in
      let kernel_long = kernel.long in
      let of_world = ap (λ k. kernel_frames k w.frames (length w.slots)) is.scheme in
      let code_long = places.code_long in
      let own_long = places.own_long in
      let pages_long = places.pages_long in
      let kinds = sum_kinds (live w.slots) in
      omega (arith, listed, parts, others, last, kernel_long, of_world, code_long, own_long, pages_long, kinds)
