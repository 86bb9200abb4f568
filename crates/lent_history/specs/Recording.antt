-- What the calls that add an event leave: the history with one event more (`Adds`), or the hart begun anew after a fence of everything (`Restarts`).
use Rattle.std.specs.Prelude.{◌≡◌, ℕ, ◌+◌, ◌/◌, ◌%◌, ◌==◌, ◌&&◌, Bool, true, false, Option, None, Some, List, ◌∷◌, length, if◌then◌else◌}
use Rattle.sv39_entry.specs.declared.address.Va.{Va}
use Rattle.access_history.specs.History.{pmp_at, satp_at}
use Rattle.access_history.specs.declared.event.Event.{Event}
use Rattle.lent_history.specs.Events.{first_before, history, or_else}
use Rattle.lent_history.specs.Lent.{count_of, extensions_of, mask_space, pmp_of}
use Rattle.lent_history.specs.declared.event.LentEvent.{LentEvent}
use Rattle.lent_history.specs.declared.hart.LentHart.{LentHart}

-- the events of a hart, the newest first
abbrev pub history_of : LentHart → List LentEvent → List Event
history_of h es = history es (count_of h (length es))

abbrev pub is_full : LentHart → List LentEvent → Type 0
is_full h es = count_of h (length es) ≡ length es

abbrev pub with_count : LentHart → ℕ → LentHart
with_count h n = record {
  profile = h.profile;
  asid_bits = h.asid_bits;
  mstatus = h.mstatus;
  satp = h.satp;
  pmp_count = h.pmp_count;
  count = n;
  pmp = h.pmp;
}

-- a fence of every address and every ASID
abbrev pub is_everything : Option Va → Option ℕ → Bool
is_everything None None = true
is_everything None (Some s) = false
is_everything (Some a) s = false

-- a word at a physical address, and nowhere else
abbrev pub one_word : ℕ → ℕ → ℕ → ℕ → Option ℕ
one_word pa word ppn index = if pa / 4096 == ppn && pa % 4096 / 8 == index then Some word else None

abbrev pub no_word : ℕ → ℕ → Option ℕ
no_word ppn index = None

-- one event more. Of what was before the events only a word that is `before` this one may differ
pub record Adds (event : Event) (before : ℕ → ℕ → Option ℕ) (old : LentHart) (places : List LentEvent) (new : LentHart) (after : List LentEvent) : Type 0 where
  pub events : history_of new after ≡ event ∷ history_of old places
  pub hart : new ≡ with_count old (count_of old (length places) + 1)
  pub memory : (ppn index : ℕ) → first_before after (count_of new (length after)) ppn index
      ≡ or_else (first_before places (count_of old (length places)) ppn index) (before ppn index)

-- no events, and satp and PMP before them as they are now
pub record Restarts (old : LentHart) (events : List LentEvent) (new : LentHart) : Type 0 where
  pub count : new.count ≡ 0
  pub satp : new.satp ≡ satp_at old.satp (history_of old events)
  pub pmp : pmp_of new ≡ pmp_at (pmp_of old) (history_of old events)
  pub mstatus : new.mstatus ≡ old.mstatus
  pub extensions : extensions_of new ≡ extensions_of old
  pub spaces : (asid : ℕ) → mask_space new asid ≡ mask_space old asid
