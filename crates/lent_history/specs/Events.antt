-- The events of a hart in a caller's array of plain numbers: what one place of it says (`event_in`), and the history of the first places (`history`).
use Rattle.std.specs.Prelude.{ℕ, zero, suc, ◌/◌, ◌%◌, ◌==◌, ◌&&◌, Option, None, Some, List, [], ◌∷◌, slice_get, if◌then◌else◌}
use Rattle.access_history.specs.declared.event.Event.{Event}
use Rattle.access_history.specs.declared.event.Event.TheVariants.{Store, WriteSatp, WritePmp, Fence}
use Rattle.lent_history.specs.declared.event.LentEvent.{LentEvent}

-- an ASID of 16 bits, if there is one
abbrev pub space_if : ℕ → ℕ → Option ℕ
space_if has asid = if has == 0 then None else Some (asid % 65536)

-- the event that a place says: each place says one
abbrev pub event_in : LentEvent → Event
event_in e =
    if e.kind == 0 then Store (e.key / 4096) (e.key % 4096 / 8) e.value
    else (if e.kind == 1 then WriteSatp e.value
    else (if e.kind == 2 then WritePmp e.key (record { config = e.other % 256; address = e.value })
    else (if e.kind == 3 then Fence (Some (record { 0 = e.key })) (space_if e.other e.value) else Fence None (Some (e.value % 65536)))))

-- an event that changes nothing, as there are at most 64 PMP entries
abbrev pub no_event : Event
no_event = WritePmp 64 (record { config = 0; address = 0 })

abbrev pub event_or : Option LentEvent → Event
event_or None = no_event
event_or (Some e) = event_in e

-- the event in place n
abbrev pub event_at : List LentEvent → ℕ → Event
event_at es n = event_or (slice_get es n)

-- the history of the events in the first n places, the newest first
abbrev pub history : List LentEvent → ℕ → List Event
history es zero = []
history es (suc n) = event_at es n ∷ history es n

-- the word before an event that is a store to a place in memory
abbrev pub word_before : LentEvent → ℕ → ℕ → Option ℕ
word_before e ppn index = if e.kind == 0 && e.key / 4096 == ppn && e.key % 4096 / 8 == index then Some e.other else None

abbrev pub word_before_or : Option LentEvent → ℕ → ℕ → Option ℕ
word_before_or None ppn index = None
word_before_or (Some e) ppn index = word_before e ppn index

abbrev pub or_else : Option ℕ → Option ℕ → Option ℕ
or_else (Some w) later = Some w
or_else None later = later

-- the word that a place in memory had before the first store to it among the events in the first n places
abbrev pub first_before : List LentEvent → ℕ → ℕ → ℕ → Option ℕ
first_before es zero ppn index = None
first_before es (suc n) ppn index = or_else (first_before es n ppn index) (word_before_or (slice_get es n) ppn index)
