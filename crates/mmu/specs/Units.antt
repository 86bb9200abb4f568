-- What the calls of a history come to, in the words of the definitions.
use Rattle.std.specs.Prelude.{ℕ, Bool, true, false, ◌&&◌, nat_le, nat_lt, Option, None, Some, List, [], ◌∷◌, if◌then◌else◌}
use Rattle.sv39_entry.specs.declared.address.Va.{Va}
use Rattle.walk_rules.specs.declared.pmp.PmpEntry.{PmpEntry}
use Rattle.access_history.specs.History.{pmp_at}
use Rattle.access_history.specs.Permits.{Past}
use Rattle.access_history.specs.declared.event.Event.{Event}
use Rattle.access_history.specs.declared.event.Event.TheVariants.{Fence}
use Rattle.access_judge.specs.Search.{restarted}
use Rattle.mmu.specs.Protecting.{entries_of, off_entries}
use Rattle.mmu.specs.Recorded.{is_place, number_at}
use Rattle.mmu.specs.Sparse.{word_of}
use Rattle.mmu.specs.Words.{or_zero}
use Rattle.mmu.specs.declared.history.History.{History}

-- one event more
abbrev pub happened : Event → Past → Past
happened e p = record { first = p.first; events = e ∷ p.events }

-- words are added to the memory: those from a number on, below another, that were not there at first were zero
abbrev pub with_run : ℕ → ℕ → Past → Past
with_run first end p = record {
  first = record {
    memory = λ ppn index. or_zero (is_place ppn index && (nat_le first (number_at ppn index) && nat_lt (number_at ppn index) end)) (p.first.memory ppn index);
    satp = p.first.satp;
    pmp = p.first.pmp;
  };
  events = p.events;
}

-- a new one: no memory, satp 0, and PMP entries that are OFF
abbrev pub fresh : ℕ → Past
fresh pmp_entries = record { first = record { memory = λ ppn index. None; satp = 0; pmp = off_entries pmp_entries }; events = [] }

-- a history that begins with memory, satp and PMP as they are
abbrev pub begun : History → Past
begun h = record {
  first = record {
    memory = λ ppn index. if is_place ppn index then word_of h.memory (number_at ppn index) else None;
    satp = h.satp;
    pmp = entries_of h.protection.present;
  };
  events = [];
}

-- SFENCE.VMA: one event more, but after a fence of everything the history begins anew
abbrev pub fenced : Option Va → Option ℕ → Past → Past
fenced None None p = restarted p
fenced None (Some s) p = happened (Fence None (Some s)) p
fenced (Some a) s p = happened (Fence (Some a) s) p

-- a fence is one of everything
abbrev pub is_whole : Option Va → Option ℕ → Bool
is_whole None None = true
is_whole None (Some s) = false
is_whole (Some a) s = false

-- the PMP entries as they are
abbrev pub pmp_now : Past → List PmpEntry
pmp_now p = pmp_at p.first.pmp p.events
