use Rattle.std.proofs.Common.{◌≡◌, ◌&&◌, ◌||◌, ℕ, Result, Ok, Err, OnErr, OnOk, leb, ltb, refl, ap}
use Rattle.std.specs.declared.alloc.AllocError.{AllocError}
use Rattle.access_history.specs.History.{Memory}
use Rattle.mmu.specs.Protecting.{entries_of}
use Rattle.mmu.specs.Recorded.{IsSound, events_of, past_of}
use Rattle.mmu.specs.Sparse.{is_zeroed, word_of}
use Rattle.mmu.specs.Units.{with_run}
use Rattle.mmu.specs.Words.{added}
use Rattle.mmu.specs.declared.history.History.{History}
use Rattle.mmu.specs.declared.memory.SparseMemory.{SparseMemory}
use Rattle.mmu.proofs.Beginning.{widened_first, widened_stores}
use Rattle.mmu.proofs.Recording.{past}
use Rattle.mmu.proofs.Storing.{alike_first, alike_stores}
use Rattle.mmu.proofs.history.History.add.Goals as goal

abbrev with_memory : History → SparseMemory → History
with_memory h m = record { memory = m; changes = h.changes; first_satp = h.first_satp; satp = h.satp; epoch = h.epoch; uses = h.uses; fences = h.fences; protection = h.protection; events = h.events }

parts : (h : History) (m : SparseMemory) (first end : ℕ) (r : Result (Unit {0}) AllocError) → IsSound h
    → OnOk r ((n : ℕ) → word_of m n ≡ added (word_of h.memory) first end n) → OnErr r ((n : ℕ) → word_of m n ≡ word_of h.memory n)
    → OnOk r ((n : ℕ) → is_zeroed m n ≡ ((leb first n && ltb n end) || is_zeroed h.memory n)) → OnErr r ((n : ℕ) → is_zeroed m n ≡ is_zeroed h.memory n)
    → IsSound (with_memory h m) × OnOk r (past_of (with_memory h m) ≡ with_run first end (past_of h)) × OnErr r (past_of (with_memory h m) ≡ past_of h)
parts h m first end (Ok x) s words _ zeroed _ = (
  record { stores = widened_stores h.memory m h.changes first end words zeroed (events_of h) s.stores; fences = s.fences; writes = s.writes; satps = s.satps; unfenced = s.unfenced },
  ap (λ (f : Memory). past f h.first_satp (entries_of h.protection.first) (events_of h)) (widened_first h.memory m h.changes first end words zeroed),
  tt,
)
parts h m first end (Err e) s _ words _ zeroed = (
  record { stores = alike_stores h.memory m h.changes h.changes words zeroed (λ n. refl) (events_of h) s.stores; fences = s.fences; writes = s.writes; satps = s.satps; unfenced = s.unfenced },
  tt,
  ap (λ (f : Memory). past f h.first_satp (entries_of h.protection.first) (events_of h)) (alike_first h.memory m h.changes h.changes words zeroed (λ n. refl)),
)

pub returns : goal.returns
returns c =
    let all = parts c.args.self.now c.add.new.self c.args.first c.args.end c.add.result c.requires c.add.ensures.ok c.add.ensures.err c.add.ensures.zeroed c.add.ensures.not_zeroed in
    record { sound = all.0; ok = all.1; err = all.2 }
