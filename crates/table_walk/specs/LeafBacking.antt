-- `IsBacked`: which leaves may be written to a page table. Of a leaf for the user (U), a seat knows all words of the frame
-- that it names, if it names one, and is its sole holder if the leaf permits stores (W). A lemma: each leaf for the kernel
-- alone is backed.
use Rattle.std.proofs.Common.{◌≡◌, ℕ, true, false, Some, sym, ◌∙◌}
use Rattle.frame_store.specs.View.{AllKnown, IsSole, View}
use Rattle.sv39_entry.specs.Address.{has}
use Rattle.sv39_entry.specs.Frame.{frame_at}
use Rattle.sv39_entry.specs.Word.{ppn}
use Rattle.sv39_entry.specs.declared.frame.FrameNo.{FrameNo}

-- The seat knows each word of the frame that a leaf for the user (U) names and, if the leaf permits stores (W), is the
-- frame's sole holder. A leaf for the kernel alone may name any frame: the kernel's own table has all of them.
pub record IsBacked (v : View) (leaf : ℕ) : Type 0 where
  pub known : has leaf 4 ≡ true → (f : FrameNo) → frame_at (ppn leaf) ≡ Some f → AllKnown v f.0
  pub sole : has leaf 4 ≡ true → has leaf 2 ≡ true → (f : FrameNo) → frame_at (ppn leaf) ≡ Some f → IsSole v f.0

-- a leaf for the kernel alone is backed
pub kernel_backed : (v : View) (leaf : ℕ) → has leaf 4 ≡ false → IsBacked v leaf
kernel_backed v leaf kernel = record {
  known = λ user f at. absurd (let both = sym kernel ∙ user in cc);
  sole = λ user writes f at. absurd (let both = sym kernel ∙ user in cc);
}
