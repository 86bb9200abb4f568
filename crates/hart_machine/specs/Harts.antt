-- The model's hart for one of the machine (`hart_of`). What happens to a hart, as functions: fences by policy, and the next
-- instruction of kernel entry or return (`fenced`, `advanced`); fills (`with_entry`); and stale marks, on the model's harts
-- (`marked`, `marked_harts`).
use Rattle.std.specs.Prelude.{◌-◌, ℕ, Bool, true, false, not, ◌+◌, ◌==◌, ◌||◌, Option, None, Some, List, [], ◌∷◌, ◌++◌, filter, length, map}
use Rattle.std.specs.Prelude.{min, slice_set, unwrap_or, if◌then◌else◌}
use Rattle.hart_tlb.specs.Buffer.{newest_entries}
use Rattle.hart_tlb.specs.Entries.{is_fenced}
use Rattle.hart_tlb.specs.declared.entry.TlbEntry.{TlbEntry}
use Rattle.process_model.specs.Harts as model
use Rattle.process_model.specs.declared.config.Policy.{Policy}
use Rattle.process_model.specs.declared.config.Policy.TheVariants.{Full, Asid}
use Rattle.process_model.specs.declared.phase.Phase.{Phase}
use Rattle.process_model.specs.declared.phase.Phase.TheVariants.{Leave2}
use Rattle.hart_machine.specs.Slots.{marks_of}
use Rattle.hart_machine.specs.declared.hart.Hart.{Hart}
use Rattle.process_model.specs.declared.limits.TheConstants.{BUFFER_SIZE}

abbrev pub key_of : TlbEntry → model.Key
key_of e = record { page = e.page; asid = e.asid }

-- phase, slot and stale marks are the hart's; the keys are page and ASID of its buffer entries
abbrev pub hart_of : Hart → model.Hart
hart_of h = record { phase = h.phase; slot = h.slot; keys = map key_of h.buffer; stale = marks_of h.stale }

-- fences

-- policy `full`: if the next instruction is a fence, the buffer is empty after it
abbrev pub emptied : Hart → Hart
emptied h = record h { buffer = if model.is_before_fence h.phase then [] else h.buffer }

-- policy `asid`: if the hart is marked for its slot, the last fence of the return removes the entries of that slot's ASID
-- that are not global, and clears the mark
abbrev pub cleaned_if : Hart → ℕ → Bool → Hart
cleaned_if h s true = record h { buffer = filter (λ e. not (is_fenced None (Some (s + 1)) e)) h.buffer; stale = slice_set h.stale s false }
cleaned_if h s false = h

abbrev pub cleaned_for : Hart → Option ℕ → Hart
cleaned_for h None = h
cleaned_for h (Some s) = cleaned_if h s (marks_of h.stale s)

abbrev pub is_before_user : Phase → Bool
is_before_user Leave2 = true
is_before_user _ = false

abbrev pub cleaned : Hart → Hart
cleaned h = if is_before_user h.phase then cleaned_for h h.slot else h

abbrev pub fenced : Policy → Hart → Hart
fenced Full h = emptied h
fenced Asid h = cleaned h

abbrev pub advanced : Policy → Hart → Hart
advanced policy h = record (fenced policy h) { phase = unwrap_or (model.next_phase h.phase) h.phase }

-- fills

-- an entry is added as the newest; a full buffer loses its oldest
abbrev pub with_entry : Hart → TlbEntry → Hart
with_entry h e = record h { buffer = newest_entries BUFFER_SIZE (h.buffer ++ e ∷ []) }

-- the number of the entry that is added next
abbrev pub next_number : List TlbEntry → ℕ
next_number es = min (length es) (BUFFER_SIZE - 1)

-- marks

-- the hart is marked for slot s: its buffer may hold stale entries of that slot's ASID
abbrev pub marked : ℕ → model.Hart → model.Hart
marked s x = record x { stale = λ n. s == n || x.stale n }

-- under policy `asid` each hart is marked for the slot, if there is one
abbrev pub marked_harts : Policy → Option ℕ → List model.Hart → List model.Hart
marked_harts Full slot xs = xs
marked_harts Asid None xs = xs
marked_harts Asid (Some s) xs = map (marked s) xs
