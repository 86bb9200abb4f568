-- Lemma for the tests of `KernelTable`: a walk leaves the table as it was.
use Rattle.std.proofs.Common.{◌≡◌, ℕ, List}
use Rattle.frame_store.specs.View.{View}
use Rattle.sv39_entry.specs.declared.frame.FrameNo.{FrameNo}
use Rattle.sv39_entry.specs.declared.scheme.Scheme.{Scheme}
use Rattle.table_walk.specs.Tables.{Tables}
use Rattle.address_space.specs.Kernel.{IsKernelTable}

pub built_still : (z y : Scheme) (v w : View) (root after : FrameNo) (frames slots : ℕ) → w ≡ v → after ≡ root → y ≡ z
    → (stacks : List ℕ) × (t : Tables) × IsKernelTable z v root.0 frames slots stacks t → (stacks : List ℕ) × (t : Tables) × IsKernelTable y w after.0 frames slots stacks t
built_still z y v w root after frames slots view same scheme built = rw (view, same, scheme) built
