-- Lemma: if what the processes hold (different copies of pages, and frames of their own) grows by a number of frames that
-- are free, the free count falls by exactly that number.
use Rattle.std.proofs.Common.{◌≡◌, ℕ, false, ◌+◌, ◌-◌, ◌≤◌, arith, List, Option, length}
use Rattle.std.specs.Prelude.{nat_lt, sum_by}
use Rattle.sv39_entry.specs.declared.scheme.Scheme.{Scheme}
use Rattle.process_model.specs.PageMap.{numbers, count}
use Rattle.process_model.specs.Process.{Process}
use Rattle.process_model.specs.Frames.{live, own_frames, free_frames, kernel_frames, copies_in}
use Rattle.process_laws.proofs.SetSizes.{length_keys}
use Rattle.process_laws.proofs.SlotSums.{all_copies}

left : (k c s n d t : ℕ) → n ≤ k - c - s → d + t ≡ c + s + n → (k - d - t) + n ≡ k - c - s
left k c s n d t h e = omega (h, e, arith)

not_dry : (a n : ℕ) → nat_lt a n ≡ false → n ≤ a
not_dry a n e = grind arith

-- how many different copy numbers there are
abbrev pub different : List (Option Process) → ℕ
different slots = count (numbers (all_copies slots))

-- the frames of processes grow by a need that is free, and the free ones shrink by it
pub spent : (z : Scheme) (frames need : ℕ) (before after : List (Option Process)) → length after ≡ length before
    → different after + sum_by own_frames (live after) ≡ different before + sum_by own_frames (live before) + need
    → nat_lt (free_frames z frames before) need ≡ false → free_frames z frames after + need ≡ free_frames z frames before
spent z frames need before after long grown wet =
    let room : need ≤ free_frames z frames before = not_dry (free_frames z frames before) need wet in
    let old : length (copies_in (live before)) ≡ different before = length_keys (numbers (all_copies before)) in
    let new : length (copies_in (live after)) ≡ different after = length_keys (numbers (all_copies after)) in
    rw (long, old, new) (left (frames - kernel_frames z frames (length before)) (different before) (sum_by own_frames (live before)) need (different after) (sum_by own_frames (live after)) (rw old at room) grown)
