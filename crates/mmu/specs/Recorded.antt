-- What a `History` is in the words of the definitions (`past_of`, `uses_of`), and that its indexes are true of its events (`IsSound`).
use Rattle.std.specs.Prelude.{◌≡◌, ℕ, suc, Bool, true, false, ◌+◌, ◌-◌, ◌*◌, ◌^◌, ◌==◌, ◌&&◌, ◌||◌, ◌<◌, ◌≤◌, nat_lt, Option, None, Some, List, [], ◌∷◌, length, map, reverse, slice_index_or, if◌then◌else◌}
use Rattle.std.specs.List.{list_any}
use Rattle.std.specs.Option.{unwrap_or}
use Rattle.sv39_entry.specs.Satp.{asid}
use Rattle.walk_rules.specs.declared.pmp.PmpEntry.{PmpEntry}
use Rattle.access_history.specs.History.{Memory, memory_at, pmp_at, pmps_at, satp_at}
use Rattle.access_history.specs.Permits.{Past}
use Rattle.access_history.specs.declared.event.Event.{Event}
use Rattle.access_history.specs.declared.event.Event.TheVariants.{Store, WriteSatp, WritePmp, Fence}
use Rattle.access_judge.specs.Log.{IsReach, use_of}
use Rattle.access_judge.specs.Search.{Use, space_fence, until}
use Rattle.access_judge.specs.declared.log.PastSatp.{PastSatp}
use Rattle.mmu.specs.Changing.{AreInOrder, changes_at, since_by, word_by}
use Rattle.mmu.specs.Fencing.{ended, exact_fence, of_end, of_key, of_space}
use Rattle.mmu.specs.Protecting.{any_by, entries_of}
use Rattle.mmu.specs.Sparse.{is_zeroed, word_of}
use Rattle.mmu.specs.declared.changes.Changes.{Changes}
use Rattle.mmu.specs.declared.fences.Fences.{Fences}
use Rattle.mmu.specs.declared.history.History.{History}
use Rattle.mmu.specs.declared.memory.SparseMemory.{SparseMemory}
use Rattle.mmu.specs.declared.protection.Protection.{Protection}
use Rattle.mmu.specs.declared.uses.Used.{Used}

-- the index of a word in a frame whose bytes have 64-bit addresses
abbrev pub is_place : ℕ → ℕ → Bool
is_place ppn index = nat_lt ppn (2 ^ 52) && nat_lt index 512

abbrev pub number_at : ℕ → ℕ → ℕ
number_at ppn index = ppn * 512 + index

-- the word at a moment
abbrev pub word_when : SparseMemory → Changes → ℕ → ℕ → ℕ → Option ℕ
word_when m c k ppn index =
    if is_place ppn index then word_by (changes_at c (number_at ppn index)) (word_of m (number_at ppn index)) (is_zeroed m (number_at ppn index)) k else None

abbrev pub first_of : SparseMemory → Changes → Memory
first_of m c ppn index = word_when m c 0 ppn index

abbrev pub events_of : History → List Event
events_of h = reverse h.events.items

abbrev pub past_of : History → Past
past_of h = record {
  first = record { memory = first_of h.memory h.changes; satp = h.first_satp; pmp = entries_of h.protection.first };
  events = events_of h;
}

-- satp as it is, with its epoch
abbrev pub present : History → Used
present h = record { satp = h.satp; epoch = h.epoch }

-- a word that satp had, and until when walks that began under it may go on
abbrev pub past_satp : History → Used → PastSatp
past_satp h u = record { satp = u.satp; epoch = u.epoch; last = unwrap_or (of_end h.fences (asid u.satp) u.epoch) (length (events_of h)) }

abbrev pub satps_of : History → List PastSatp
satps_of h = map (past_satp h) (present h ∷ h.uses.past.items)

abbrev pub uses_of : History → List Use
uses_of h = map use_of (satps_of h)

-- the number of the last store to a word
abbrev pub last_store : List Event → ℕ → ℕ → ℕ
last_store [] ppn index = 0
last_store (Store p i w ∷ h) ppn index = if p == ppn && i == index then suc (length h) else last_store h ppn index
last_store (WriteSatp w ∷ h) ppn index = last_store h ppn index
last_store (WritePmp n e ∷ h) ppn index = last_store h ppn index
last_store (Fence a s ∷ h) ppn index = last_store h ppn index

-- no event is a fence of everything
abbrev pub is_unfenced : List Event → Bool
is_unfenced [] = true
is_unfenced (Store p i w ∷ h) = is_unfenced h
is_unfenced (WriteSatp w ∷ h) = is_unfenced h
is_unfenced (WritePmp n e ∷ h) = is_unfenced h
is_unfenced (Fence (Some a) s ∷ h) = is_unfenced h
is_unfenced (Fence None (Some s) ∷ h) = is_unfenced h
is_unfenced (Fence None None ∷ h) = false

-- satp has a word, with its epoch
abbrev pub is_used : ℕ → List Event → Used → Bool
is_used satp h u = satp_at satp h == u.satp && space_fence h (asid u.satp) == u.epoch

-- satp has it now, or had it at a moment
abbrev pub was_used : ℕ → List Event → Used → Bool
was_used satp [] u = is_used satp [] u
was_used satp (e ∷ h) u = is_used satp (e ∷ h) u || was_used satp h u

-- what satp had at a moment is a word, with its epoch
abbrev pub covers : ℕ → List Event → ℕ → Used → Bool
covers satp h k u = u.satp == satp_at satp (until h k) && u.epoch == space_fence (until h k) (asid (satp_at satp (until h k)))

-- the changes of words are the stores among the events
pub record AreStores (m : SparseMemory) (c : Changes) (h : List Event) : Type 0 where
  pub order : (n : ℕ) → AreInOrder (changes_at c n)
  pub bound : (n k : ℕ) (d : _) → k < length (changes_at c n) → (slice_index_or (changes_at c n) k d).number ≤ length h
  pub words : (p i k : ℕ) → word_when m c k p i ≡ memory_at (first_of m c) (until h k) p i
  pub since : (p i k : ℕ) → is_place p i ≡ true → since_by 0 (changes_at c (number_at p i)) k ≡ last_store (until h k) p i

-- until when each fence of an ASID was the last one, and of a later one nothing
pub record AreEnds (f : Fences) (h : List Event) : Type 0 where
  pub each : (s k : ℕ) → k ≤ length h → of_end f s (space_fence (until h k) s) ≡ ended h s (space_fence (until h k) s)
  pub none : (s epoch : ℕ) → length h < epoch → of_end f s epoch ≡ None

pub record AreFences (f : Fences) (satp : ℕ) (h : List Event) : Type 0 where
  pub spaces : (s : ℕ) → of_space f s ≡ space_fence h s
  pub ends : AreEnds f h
  pub addresses : (bits page : ℕ) (s : Option ℕ) → IsReach bits → of_key f bits page s ≡ exact_fence satp h bits page s

pub record AreWrites (p : Protection) (h : List Event) : Type 0 where
  pub now : entries_of p.present ≡ pmp_at (entries_of p.first) h
  pub any : (test : List PmpEntry → Bool) (k : ℕ) → any_by test p k ≡ list_any test (pmps_at (entries_of p.first) (until h k))

pub record AreSatps (first satp epoch : ℕ) (past : List Used) (h : List Event) : Type 0 where
  pub now : satp ≡ satp_at first h
  pub epoch_now : epoch ≡ space_fence h (asid satp)
  pub only : (k : ℕ) (d : Used) → k < length past → was_used first h (slice_index_or past k d) ≡ true
  pub each : (k : ℕ) → k ≤ length h → list_any (covers first h k) (record { satp = satp; epoch = epoch } ∷ past) ≡ true

-- the indexes of a history are true of a list of events
pub record IsTrueOf (h : History) (events : List Event) : Type 0 where
  pub stores : AreStores h.memory h.changes events
  pub fences : AreFences h.fences h.first_satp events
  pub writes : AreWrites h.protection events
  pub satps : AreSatps h.first_satp h.satp h.epoch h.uses.past.items events
  pub unfenced : is_unfenced events ≡ true

abbrev pub IsSound : History → Type 0
IsSound h = IsTrueOf h (events_of h)

-- the number of the first store to a word after a moment, if there is one
abbrev pub IsNextStore : List Event → ℕ → ℕ → ℕ → Option ℕ → Type 0
IsNextStore h ppn index moment None = last_store h ppn index ≤ moment
IsNextStore h ppn index moment (Some n) =
    (moment < n) × (n ≤ length h) × (last_store (until h n) ppn index ≡ n) × (last_store (until h (n - 1)) ppn index ≤ moment)
