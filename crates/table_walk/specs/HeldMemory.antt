-- The frames that a seat holds, as a memory for walks: its words are those that the seat knows (`held_memory`); which page
-- numbers may be read (`IsReadable`); and a lemma, in these each word is known exactly when the number is a frame's.
use Rattle.std.proofs.Common.{refl}
use Rattle.std.specs.Prelude.{is_some, None, Option, ◌≡◌, ℕ, ◌<◌, Some, IsSome, option_and_then}
use Rattle.frame_store.specs.View.{View, IsHeld, known_word}
use Rattle.sv39_entry.specs.Frame.{frame_at}
use Rattle.sv39_entry.specs.declared.frame.FrameNo.{FrameNo}
use Rattle.table_walk.specs.Memory.{Memory}

-- the words that a seat knows, by physical page number and index; None if that is no frame's page
-- number, or the word is not known
abbrev pub held_memory : View → Memory
held_memory v ppn index = option_and_then (λ frame. known_word v frame.0 index) (frame_at ppn)

-- a physical page number is readable: if it is that of a frame, the seat holds the frame and knows each of its words
abbrev pub IsReadable : View → ℕ → Type 0
IsReadable v ppn = (frame : FrameNo) → frame_at ppn ≡ Some frame → IsHeld v frame.0 × ((index : ℕ) → index < 512 → IsSome (known_word v frame.0 index))

-- in a readable frame, the words that are known are those that are inside the memory
known_by : (v : View) (index : ℕ) (o : Option FrameNo) → ((frame : FrameNo) → o ≡ Some frame → IsSome (known_word v frame.0 index))
    → is_some (option_and_then (λ frame. known_word v frame.0 index) o) ≡ is_some o
known_by v index None known = refl
known_by v index (Some frame) known = known frame refl

pub known_there : (v : View) (ppn index : ℕ) → IsReadable v ppn → index < 512 → is_some (held_memory v ppn index) ≡ is_some (frame_at ppn)
known_there v ppn index readable low = known_by v index (frame_at ppn) (λ frame is. (readable frame is).1 index low)
