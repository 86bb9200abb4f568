-- The TLBs of a machine, and how a step changes them: no buffer (`SameBuffers`), no entry added but by a fill
-- (`OnlyFillsAdd`), and each buffer exactly (`BuffersAre`, by `buffer_after`, the buffer of the step's hart after it).
use Rattle.std.specs.Prelude.{◌≡◌, ◌⊎◌, ◌==◌, ◌&&◌, ℕ, Bool, false, not, Option, Some, List, [], ◌∷◌, ◌++◌, Contains, option_map, remove}
use Rattle.std.specs.Prelude.{slice_get, if◌then◌else◌}
use Rattle.hart_tlb.specs.Buffer.{newest_entries}
use Rattle.hart_tlb.specs.declared.entry.TlbEntry.{TlbEntry}
use Rattle.process_model.specs.Harts.{present_asid}
use Rattle.process_model.specs.Steps.{is_refused}
use Rattle.process_model.specs.declared.config.Policy.{Policy}
use Rattle.process_model.specs.declared.reply.Reply.{Reply}
use Rattle.process_model.specs.declared.step.Step.{Step}
use Rattle.process_model.specs.declared.step.Step.TheVariants as step
use Rattle.table_walk.specs.Tables.{Tables}
use Rattle.hart_machine.specs.Harts.{fenced, hart_of}
use Rattle.hart_machine.specs.Tables.{tables_of, present_table}
use Rattle.hart_machine.specs.WalkEntries.{entry_for}
use Rattle.hart_machine.specs.declared.hart.Hart.{Hart}
use Rattle.hart_machine.specs.declared.machine.Machine.{Machine}
use Rattle.sv39_entry.specs.declared.scheme.Scheme.{Scheme}
use Rattle.process_model.specs.declared.limits.TheConstants.{BUFFER_SIZE}

-- the entries of a hart's buffer, in the order of filling; `None` if there is no such hart
abbrev pub buffer_of : Machine → ℕ → Option (List TlbEntry)
buffer_of m h = option_map (λ x. x.buffer) (slice_get m.harts.items h)

-- there is such a hart, and its buffer has the entry
abbrev pub HasEntry : Machine → ℕ → TlbEntry → Type 0
HasEntry m h e = (es : List TlbEntry) × (buffer_of m h ≡ Some es) × Contains es e

-- no buffer changes
abbrev pub SameBuffers : Machine → Machine → Type 0
SameBuffers old new = (h : ℕ) → buffer_of new h ≡ buffer_of old h

-- the step is a fill on hart h, and the entry has what the page table in `satp` says of the page, under the ASID in `satp`
abbrev pub WasFilled : Machine → (ℕ → Tables) → Tables → Step → ℕ → TlbEntry → Type 0
WasFilled old tables kernel s h e =
    (address : ℕ) × (x : Hart) × (s ≡ step.Fill h address) × (slice_get old.harts.items h ≡ Some x)
    × (e ≡ entry_for old.kernel.scheme (tables_of tables kernel (present_table x)) (present_asid old.policy (hart_of x)) address)

-- each entry of each buffer was there before, or the step filled it: a hart may keep what a walk finds, and nothing else
-- (RISC-V Privileged Architecture 20211203, 4.2.1)
abbrev pub OnlyFillsAdd : Machine → Machine → (ℕ → Tables) → Tables → Step → Type 0
OnlyFillsAdd old new tables kernel s = (h : ℕ) (e : TlbEntry) → HasEntry new h e → HasEntry old h e ⊎ WasFilled old tables kernel s h e

-- whether the step may change the buffer of hart k: a fill, an eviction, or an instruction of kernel entry or return, on k
abbrev pub is_about : Step → ℕ → Bool
is_about (step.Fill h address) k = h == k
is_about (step.Evict h n) k = h == k
is_about (step.Next h) k = h == k
is_about s k = false

-- the buffer of the step's hart after the step (RISC-V Privileged Architecture 20211203, 4.2.1): a fill adds what the page
-- table in `satp` says of the page as the newest entry, under the ASID in `satp`, and a full buffer loses its oldest; an
-- eviction removes the entry with that number; an instruction of kernel entry or return that is a fence removes what it
-- covers, by the policy
abbrev pub buffer_after : Scheme → Policy → (ℕ → Tables) → Tables → Step → Hart → List TlbEntry
buffer_after z policy tables kernel (step.Fill h address) x =
    newest_entries BUFFER_SIZE (x.buffer ++ entry_for z (tables_of tables kernel (present_table x)) (present_asid policy (hart_of x)) address ∷ [])
buffer_after z policy tables kernel (step.Evict h n) x = remove x.buffer n
buffer_after z policy tables kernel (step.Next h) x = (fenced policy x).buffer
buffer_after z policy tables kernel s x = x.buffer

-- if the step is not refused, the buffer of its hart (`is_about`) becomes `buffer_after`; every other buffer, and each after
-- a refusal, is unchanged
abbrev pub BuffersAre : Machine → Machine → (ℕ → Tables) → Tables → Step → Reply → Type 0
BuffersAre old new tables kernel s reply =
    (h : ℕ) → buffer_of new h ≡ option_map (λ x. if not (is_refused reply)
    && is_about s h then buffer_after old.kernel.scheme old.policy tables kernel s x else x.buffer) (slice_get old.harts.items h)
