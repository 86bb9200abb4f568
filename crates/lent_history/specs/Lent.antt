-- A hart in a caller's memory in the words of the definitions: what its numbers mean, and its past (`past_of`) with the uses of satp (`uses_of`).
use Rattle.std.specs.Prelude.{ℕ, ◌+◌, ◌-◌, ◌*◌, ◌/◌, ◌%◌, ◌^◌, ◌==◌, None, List, ◌∷◌, length, map, min, nat_le, nat_lt, slice_get, take, if◌then◌else◌}
use Rattle.walk_rules.specs.declared.extensions.AdScheme.{AdScheme}
use Rattle.walk_rules.specs.declared.extensions.AdScheme.TheVariants.{Svade, Svadu, Either}
use Rattle.walk_rules.specs.declared.extensions.Extensions.{Extensions}
use Rattle.walk_rules.specs.declared.pmp.PmpEntry.{PmpEntry}
use Rattle.walk_rules.specs.declared.status.Privilege.{Privilege}
use Rattle.walk_rules.specs.declared.status.Privilege.TheVariants.{User, Supervisor, Machine}
use Rattle.walk_rules.specs.declared.status.Status.{Status}
use Rattle.access_history.specs.History.{Memory}
use Rattle.access_history.specs.Permits.{Past}
use Rattle.access_judge.specs.Search.{Use}
use Rattle.lent_history.specs.Events.{first_before, history, or_else}
use Rattle.lent_history.specs.Scans.{ends, use_at}
use Rattle.lent_history.specs.declared.event.LentEvent.{LentEvent}
use Rattle.lent_history.specs.declared.hart.LentHart.{LentHart}
use Rattle.lent_history.specs.declared.hart.LentPmp.{LentPmp}

abbrev pub ad_of : ℕ → AdScheme
ad_of n = if n == 1 then Svade else (if n == 2 then Svadu else Either)

abbrev pub extensions_of : LentHart → Extensions
extensions_of h = record { svnapot = h.profile % 2 == 1; svpbmt = h.profile / 2 % 2 == 1; ad = ad_of (h.profile / 4 % 4) }

abbrev pub privilege_in : ℕ → Privilege
privilege_in n = if n == 0 then User else (if n == 1 then Supervisor else Machine)

-- the fields of mstatus: MPP is bits 12 and 11, MPRV 17, SUM 18, MXR 19
abbrev pub status_of : LentHart → Status
status_of h = record {
  sum = h.mstatus / 2 ^ 18 % 2 == 1;
  mxr = h.mstatus / 2 ^ 19 % 2 == 1;
  mprv = h.mstatus / 2 ^ 17 % 2 == 1;
  mpp = privilege_in (h.mstatus / 2 ^ 11 % 4);
}

-- how many of the places have events
abbrev pub count_of : LentHart → ℕ → ℕ
count_of h capacity = if nat_lt h.count capacity then h.count else capacity

-- the bits of an ASID that the hart has
abbrev pub mask_space : LentHart → ℕ → ℕ
mask_space h asid = if nat_lt h.asid_bits 16 then asid % 2 ^ h.asid_bits else asid

abbrev pub pmp_in : LentPmp → PmpEntry
pmp_in p = record { config = p.config % 256; address = p.address }

-- the PMP entries before the events
abbrev pub pmp_of : LentHart → List PmpEntry
pmp_of h = take (min h.pmp_count 64) (map pmp_in h.pmp)

-- a hart, its array of events, and the words of the frames from a physical page number on, 512 of each
pub record Lent : Type 0 where
  pub hart : LentHart
  pub events : List LentEvent
  pub base : ℕ
  pub words : List ℕ

-- how many places have events
abbrev pub used : Lent → ℕ
used l = count_of l.hart (length l.events)

-- the words that are lent, as memory is now
abbrev pub lent_words : ℕ → List ℕ → Memory
lent_words base words ppn index = if nat_le base ppn then slice_get words ((ppn - base) * 512 + index) else None

-- memory before the events: what the first store to a place says that it had before, or else the word that is lent
abbrev pub first_memory : Lent → Memory
first_memory l ppn index = or_else (first_before l.events (used l) ppn index) (lent_words l.base l.words ppn index)

abbrev pub past_of : Lent → Past
past_of l = record {
  first = record { memory = first_memory l; satp = l.hart.satp; pmp = pmp_of l.hart };
  events = history l.events (used l);
}

abbrev pub uses_of : Lent → List Use
uses_of l = map (use_at l.hart.satp l.events (used l)) (used l ∷ ends l.events (used l))
