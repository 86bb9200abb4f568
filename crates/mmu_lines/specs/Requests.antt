-- What a request does to a reference MMU, and what is answered (`IsDone`).
use Rattle.std.specs.Prelude.{◌≡◌, ◌⊎◌, ⊤, ℕ, false, ◌/◌, ◌%◌, ◌^◌, ◌<◌, ◌≤◌, None, Option, Some, List, length, map, slice_get}
use Rattle.access_history.specs.Parts.{FaultsInPart, IsPartFault}
use Rattle.access_history.specs.Permits.{Past, Permits, satp_of}
use Rattle.access_history.specs.declared.event.Event.TheVariants as event
use Rattle.access_history.specs.declared.outcome.Outcome.{Outcome}
use Rattle.access_history.specs.declared.outcome.Request.{Request}
use Rattle.access_history.specs.declared.outcome.Update.{Update}
use Rattle.access_judge.specs.Search.{ArePermitted, is_address_under}
use Rattle.mmu.specs.Units.{fenced, happened, pmp_now, with_run}
use Rattle.mmu_requests.specs.Lines.{IsRequest, MakesNone}
use Rattle.mmu_requests.specs.declared.requests.Claim.{Claim}
use Rattle.mmu_requests.specs.declared.requests.Request.TheVariants as request
use Rattle.mmu_requests.specs.declared.requests.Request as lines
use Rattle.sv39_entry.specs.declared.address.Va.{Va}
use Rattle.walk_lines.specs.declared.numbers.Hex.{Hex}
use Rattle.walk_rules.specs.Addresses.{top_of}
use Rattle.walk_rules.specs.declared.pmp.PmpEntry.{PmpEntry}
use Rattle.mmu_lines.specs.Claims.{Tells}
use Rattle.mmu_lines.specs.States.{State, asked, begun, with_past, with_status}
use Rattle.mmu_lines.specs.Writes.{cut_asid, lock_of, satp_written}
use Rattle.mmu_reasons.specs.Answers.{IsError}
use Rattle.mmu_reasons.specs.declared.answers.Answer.{Answer}
use Rattle.mmu_reasons.specs.declared.answers.Answer.TheVariants as answer
use Rattle.mmu_reasons.specs.declared.answers.Lock.{Lock}
use Rattle.mmu_reasons.specs.declared.answers.Lock.TheVariants as lock
use Rattle.mmu_reasons.specs.declared.outcomes.OutcomeLine.{OutcomeLine}

abbrev pub hex : ℕ → Hex
hex n = record { 0 = n }

abbrev pub outcome_in : OutcomeLine → Outcome
outcome_in line = line.outcome

-- the lines show exactly the outcomes that the standard permits for an access
abbrev pub ShowPermitted : State → Request → List OutcomeLine → Type 0
ShowPermitted s q shown = ArePermitted s.profile.extensions s.past q (map outcome_in shown)

-- the PTE that the hart wrote is stored
abbrev pub stored : Option Update → Past → Past
stored None p = p
stored (Some u) p = happened (event.Store u.table u.index u.word) p

-- an access without an outcome of the client: the outcomes
abbrev pub IsListed : State → Request → State → Answer → Type 0
IsListed old q new (answer.Outcomes found) = (new ≡ old) × ShowPermitted old q found.items
IsListed old q new answer.Ok = ⊥
IsListed old q new answer.Version = ⊥
IsListed old q new (answer.Satp word) = ⊥
IsListed old q new (answer.Locked l) = ⊥
IsListed old q new (answer.NoEffect va) = ⊥
IsListed old q new (answer.Permitted line) = ⊥
IsListed old q new (answer.NotPermitted reason permitted) = ⊥
IsListed old q new (answer.Error column text) = ⊥

-- an access with an outcome of the client: it is permitted, and what its hart set is stored; or, where no word of a PTE narrows it, the
-- standard permits no outcome that the client may mean
abbrev pub IsJudged : State → Request → Claim → State → Answer → Type 0
IsJudged old q c new (answer.Permitted line) =
    Permits old.profile.extensions old.past q line.outcome × Tells c line.outcome × (new ≡ with_past (stored c.update old.past) old)
IsJudged old q c new (answer.NotPermitted reason permitted) =
    (c.by ≡ None → (o : Outcome) → Permits old.profile.extensions old.past q o → Tells c o → ⊥) × ShowPermitted old q permitted.items × (new ≡ old)
IsJudged old q c new answer.Ok = ⊥
IsJudged old q c new answer.Version = ⊥
IsJudged old q c new (answer.Satp word) = ⊥
IsJudged old q c new (answer.Locked l) = ⊥
IsJudged old q c new (answer.NoEffect va) = ⊥
IsJudged old q c new (answer.Outcomes found) = ⊥
IsJudged old q c new (answer.Error column text) = ⊥

-- the access of which an outcome of the client is judged: the whole, if no part of it may have such a fault; else a part that may
abbrev pub IsAskedOf : State → Request → Claim → Request → Type 0
IsAskedOf s q c r =
    ((r ≡ q) × ((o : Outcome) → Tells c o → FaultsInPart s.profile.extensions s.past q o → ⊥))
    ⊎ ((o : Outcome) × Tells c o × IsPartFault s.profile.extensions s.past q r o)

abbrev pub IsAnswered : State → Request → Option Claim → State → Answer → Type 0
IsAnswered old q None new a = IsListed old q new a
IsAnswered old q (Some c) new a = (r : Request) × IsAskedOf old q c r × IsJudged old r c new a

-- a write of satp: not made if the hart lacks the MODE
abbrev pub after_satp : Option ℕ → Past → Past
after_satp None p = p
after_satp (Some w) p = happened (event.WriteSatp w) p

-- a write of a PMP entry: not made of what is locked
abbrev pub kept_address : Option PmpEntry → PmpEntry → PmpEntry
kept_address None e = e
kept_address (Some old) e = record { config = e.config; address = old.address }

abbrev pub after_pmp : Lock → ℕ → PmpEntry → Past → Past
after_pmp lock.Nothing n e p = happened (event.WritePmp n e) p
after_pmp lock.Address n e p = happened (event.WritePmp n (kept_address (slice_get (pmp_now p) n) e)) p
after_pmp lock.All n e p = p

abbrev pub IsPmpWritten : State → ℕ → PmpEntry → State → Answer → Type 0
IsPmpWritten old n e new a =
    ((n < length (pmp_now old.past)) × (a ≡ answer.Locked (lock_of (pmp_now old.past) n))
    × (new ≡ with_past (after_pmp (lock_of (pmp_now old.past) n) n e old.past) old))
    ⊎ ((length (pmp_now old.past) ≤ n) × IsError a × (new ≡ old))

-- a fence's address is none under the MODE of satp
abbrev pub is_no_address : State → Option Va → Type 0
is_no_address s None = ⊥
is_no_address s (Some va) = is_address_under (top_of (satp_of s.past)) va.0 ≡ false

abbrev pub cut : State → Option ℕ → Option ℕ
cut s None = None
cut s (Some space) = Some (cut_asid s.profile space)

abbrev pub IsFenced : State → Option Va → Option ℕ → State → Answer → Type 0
IsFenced old va space new a =
    ((a ≡ answer.Ok) × (is_no_address old va → ⊥) × (new ≡ with_past (fenced va (cut old space) old.past) old))
    ⊎ (((address : Hex) × (a ≡ answer.NoEffect address)) × is_no_address old va × (new ≡ old))

-- what a request does, and what is answered to it
abbrev pub IsDone : State → lines.Request → State → Answer → Type 0
IsDone old request.Version new a = (new ≡ old) × (a ≡ answer.Version)
IsDone old (request.Profile p) new a = (new ≡ begun p) × (a ≡ answer.Ok)
IsDone old request.Reset new a = (new ≡ begun old.profile) × (a ≡ answer.Ok)
IsDone old (request.Status s) new a = (new ≡ with_status s old) × (a ≡ answer.Ok)
IsDone old (request.Pmp number entry) new a = IsPmpWritten old number entry new a
IsDone old (request.Ram address end) new a = (new ≡ with_past (with_run (address / 8) (end / 8) old.past) old) × (a ≡ answer.Ok)
IsDone old (request.Mem address word) new a =
    (new ≡ with_past (happened (event.Store (address / 4096) (address % 4096 / 8) word) old.past) old) × (a ≡ answer.Ok)
IsDone old (request.Satp word) new a =
    (new ≡ with_past (after_satp (satp_written old.profile word) old.past) old) × (a ≡ answer.Satp (hex (satp_of new.past)))
IsDone old (request.Access access va width m claim) new a = IsAnswered old (asked old.status access va width m) claim new a
IsDone old (request.Sfence va space) new a = IsFenced old va space new a

-- the answer to a line with these fields: that to its request; or it makes none, is answered as faulty, and the MMU is as it was
abbrev pub IsAnswer : List (List ℕ) → State → State → Answer → Type 0
IsAnswer fs old new a = ((r : lines.Request) × IsRequest fs r × IsDone old r new a) ⊎ (MakesNone fs × IsError a × (new ≡ old))

-- ---- what read_line promises of a request, and the judge asks for

-- a PTE has a place in a frame
abbrev pub IsPlaced : Option Update → Type 0
IsPlaced None = ⊤
IsPlaced (Some u) = (u.table < 2 ^ 44) × (u.index < 512)

abbrev pub IsPlacedIn : Option Claim → Type 0
IsPlacedIn None = ⊤
IsPlacedIn (Some c) = IsPlaced c.update

abbrev pub IsSound : lines.Request → Type 0
IsSound request.Version = ⊤
IsSound (request.Profile p) = ⊤
IsSound request.Reset = ⊤
IsSound (request.Status s) = ⊤
IsSound (request.Pmp number entry) = ⊤
IsSound (request.Ram address end) = ⊤
IsSound (request.Mem address word) = ⊤
IsSound (request.Satp word) = ⊤
IsSound (request.Access access va width m claim) = (1 ≤ width) × IsPlacedIn claim
IsSound (request.Sfence va space) = ⊤
