-- What one pass over the events keeps: what one more event makes of it (`.._after`), and of satp the moments at which a use of it may end (`ends`).
use Rattle.std.specs.Prelude.{ℕ, Bool, true, false, zero, suc, ◌/◌, ◌^◌, ◌==◌, ◌&&◌, Option, None, Some, List, [], ◌∷◌, if◌then◌else◌}
use Rattle.sv39_entry.specs.Satp.{asid}
use Rattle.walk_rules.specs.Addresses.{top_of}
use Rattle.access_history.specs.History.{satp_at}
use Rattle.access_history.specs.declared.event.Event.{Event}
use Rattle.access_history.specs.declared.event.Event.TheVariants.{Store, WriteSatp, WritePmp, Fence}
use Rattle.access_judge.specs.Search.{Use, epoch_end, is_address_under, is_for, space_fence}
use Rattle.access_judge.specs.declared.log.PastWord.{PastWord}
use Rattle.lent_history.specs.Events.{event_at, history}
use Rattle.lent_history.specs.declared.event.LentEvent.{LentEvent}

abbrev pub satp_after : Event → ℕ → ℕ
satp_after (Store p i w) satp = satp
satp_after (WriteSatp w) satp = w
satp_after (WritePmp n e) satp = satp
satp_after (Fence a s) satp = satp

abbrev pub space_fence_after : Event → ℕ → ℕ → ℕ → ℕ
space_fence_after (Store p i w) number space last = last
space_fence_after (WriteSatp w) number space last = last
space_fence_after (WritePmp n e) number space last = last
space_fence_after (Fence (Some a) s) number space last = last
space_fence_after (Fence None None) number space last = number
space_fence_after (Fence None (Some s)) number space last = if s == space then number else last

-- an address is valid under a word of satp
abbrev pub is_address : ℕ → ℕ → Bool
is_address satp va = is_address_under (top_of satp) va

abbrev pub address_fence_after : Event → ℕ → ℕ → ℕ → ℕ → Option ℕ → ℕ → ℕ
address_fence_after (Store p i w) satp number bits va space last = last
address_fence_after (WriteSatp w) satp number bits va space last = last
address_fence_after (WritePmp n e) satp number bits va space last = last
address_fence_after (Fence None s) satp number bits va space last = last
address_fence_after (Fence (Some a) s) satp number bits va space last =
    if is_address satp a.0 && a.0 / 2 ^ bits == va / 2 ^ bits && is_for s space then number else last

abbrev pub word_after : Event → ℕ → ℕ → ℕ → Option PastWord → Option PastWord
word_after (Store p i w) number ppn index last = if p == ppn && i == index then Some (record { word = w; since = number }) else last
word_after (WriteSatp w) number ppn index last = last
word_after (WritePmp n e) number ppn index last = last
word_after (Fence a s) number ppn index last = last

abbrev pub from_first : Option ℕ → Option PastWord
from_first None = None
from_first (Some w) = Some (record { word = w; since = 0 })

abbrev pub word_in : Option PastWord → Option ℕ
word_in None = None
word_in (Some v) = Some v.word

-- the word of a place in memory after the events in the first n places
abbrev pub word_at : List LentEvent → ℕ → ℕ → Option ℕ → ℕ → Option PastWord
word_at es ppn index first zero = from_first first
word_at es ppn index first (suc n) = word_after (event_at es n) (suc n) ppn index (word_at es ppn index first n)

-- satp, or the last fence of its ASID, may differ after the event
abbrev pub ends_use : Event → Bool
ends_use (Store p i w) = false
ends_use (WriteSatp w) = true
ends_use (WritePmp n e) = false
ends_use (Fence None s) = true
ends_use (Fence (Some a) s) = false

-- the moments before such events in the first n places, the last one first
abbrev pub ends : List LentEvent → ℕ → List ℕ
ends es zero = []
ends es (suc n) = if ends_use (event_at es n) then n ∷ ends es n else ends es n

-- a fence of each address of an ASID
abbrev pub is_space_fence : Event → ℕ → Bool
is_space_fence (Store p i w) space = false
is_space_fence (WriteSatp w) space = false
is_space_fence (WritePmp n e) space = false
is_space_fence (Fence (Some a) s) space = false
is_space_fence (Fence None None) space = true
is_space_fence (Fence None (Some s)) space = s == space

-- the use of satp as it is at a moment
abbrev pub use_at : ℕ → List LentEvent → ℕ → ℕ → Use
use_at satp es n k = record {
  satp = satp_at satp (history es k);
  epoch = space_fence (history es k) (asid (satp_at satp (history es k)));
  last = epoch_end (history es n) (asid (satp_at satp (history es k))) (space_fence (history es k) (asid (satp_at satp (history es k))));
}
