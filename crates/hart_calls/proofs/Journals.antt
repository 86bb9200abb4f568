-- Lemmas on journals (a process's calls with their replies): with one more entry a journal replays one step further; the
-- number of children named affects forks alone; plain replies name no child and end nothing; which page moves are reads;
-- evidence of a shortage outlasts the release of frames; counts of forks.
use Rattle.std.proofs.Common.{◌≡◌, ℕ, suc, ◌+◌, ◌≤◌, List, [], ◌∷◌, ◌++◌, length, refl, ap, subst, ◌∙◌, arith, drop}
use Rattle.std.proofs.lemmas.List.{append-nil}
use Rattle.address_space.specs.Steps.{TakesFrames}
use Rattle.frame_store.specs.View.{Tallies, View}
use Rattle.hart_calls.specs.CallKinds.{IsPlainCall, moves_read}
use Rattle.hart_calls.specs.CallResults.{at_stop, IsPlain}
use Rattle.hart_calls.specs.ShortageReports.{ReportsShortage, WasDry}
use Rattle.hart_calls.specs.Replay.{call_at, call_of, forked, forks, IsReplayStep, Replays}
use Rattle.hart_calls.specs.CallOutcomes.{reads_of, call_outcome, writes_of}
use Rattle.hart_calls.specs.TurnCases.{BySlot, LeavesRunning}
use Rattle.hart_calls.specs.Shortages.{frames_at, nothing, Shortage}
use Rattle.hart_calls.specs.declared.journal_entry.JournalEntry.{JournalEntry}
use Rattle.hart_calls.specs.declared.fork_slot.ForkSlot.{ForkSlot}
use Rattle.process_model.specs.Files.{File}
use Rattle.process_model.specs.PageMoves.{PageMove}
use Rattle.process_model.specs.Process.{Process}
use Rattle.process_model.specs.declared.call.Call.{Call}
use Rattle.process_model.specs.declared.call.Call.TheVariants as call
use Rattle.process_model.specs.declared.reply.Reply.{Reply}
use Rattle.process_model.specs.declared.reply.ScalarReply.TheVariants as scalar
use Rattle.process_model.specs.declared.reply.Reply.TheVariants as reply
use Rattle.sv39_entry.specs.Address.{page_of}
use Rattle.sv39_entry.specs.declared.rule.Rule.{Rule}
use Rattle.sv39_entry.specs.declared.rule.Rule.TheVariants as rule

pub replays_longer : (p : Process) (n k : ℕ) (calls : List Call) (es : List JournalEntry) (e : JournalEntry) (q r : Process) → Replays p n k calls es q → call_of e ≡ call_at calls (k + length es)
    → (files : List File) × IsReplayStep files (n + forks es) q e r → Replays p n k calls (es ++ e ∷ []) r
replays_longer p n k calls [] e q r replays next (files, leads) =
    let none : n + 0 ≡ n = omega arith in
    let here : k + 0 ≡ k = omega arith in (
      subst (λ (m : ℕ). call_of e ≡ call_at calls m) here next,
      (files, r, subst (λ (z : Process). IsReplayStep files n z e r) replays (subst (λ (m : ℕ). IsReplayStep files m q e r) none leads), refl),
    )
replays_longer p n k calls (x ∷ es) e q r (first, (fs, s, one, rest)) next (files, leads) =
    let many : n + (forked x.reply + forks es) ≡ n + forked x.reply + forks es = omega arith in
    let there : k + suc (length es) ≡ suc k + length es = omega arith in (
      first,
      (
        fs,
        s,
        one,
        replays_longer s (n + forked x.reply) (suc k) calls es e q r rest (subst (λ (m : ℕ). call_of e ≡ call_at calls m) there next)
            (files, subst (λ (m : ℕ). IsReplayStep files m q e r) many leads),
      ),
    )

-- from the beginning
pub one_longer : (p : Process) (calls : List Call) (es : List JournalEntry) (e : JournalEntry) (q r : Process) → Replays p 0 0 calls es q → call_of e ≡ call_at calls (length es)
    → (files : List File) × IsReplayStep files (forks es) q e r → Replays p 0 0 calls (es ++ e ∷ []) r
one_longer p calls es e q r replays next (files, leads) =
    let here : length es ≡ 0 + length es = omega arith in
    let many : forks es ≡ 0 + forks es = omega arith in
    replays_longer p 0 0 calls es e q r replays (subst (λ (m : ℕ). call_of e ≡ call_at calls m) here next) (files, subst (λ (m : ℕ). IsReplayStep files m q e r) many leads)

-- how many children were named is of account to a fork alone
pub same_told : (files : List File) (shortage : Shortage) (n : ℕ) (p : Process) (c : Call) → IsPlainCall c → call_outcome files shortage n p c ≡ call_outcome files shortage 0 p c
same_told files shortage n p (call.Fetch address) stays = refl
same_told files shortage n p (call.Load address width) stays = refl
same_told files shortage n p (call.Store address width value) stays = refl
same_told files shortage n p (call.Exec im) stays = refl
same_told files shortage n p (call.Sbrk delta) stays = refl
same_told files shortage n p (call.Mmap len protection flags f) stays = refl
same_told files shortage n p (call.Munmap address len) stays = refl
same_told files shortage n p (call.CopyIn address count) stays = refl
same_told files shortage n p (call.CopyOut address bytes) stays = refl
same_told files shortage n p (call.Exit status) stays = absurd stays
same_told files shortage n p (call.Fork list) stays = absurd stays

-- a plain answer names no child, and ends nothing

pub plain_forks : (r : Reply) → IsPlain r → forked r ≡ 0
plain_forks (reply.Scalar scalar.Done) is = refl
plain_forks (reply.Scalar (scalar.Started n)) is = refl
plain_forks (reply.Scalar (scalar.Forked n)) is = absurd is
plain_forks (reply.Scalar (scalar.Value n)) is = refl
plain_forks (reply.Scalar scalar.Stored) is = refl
plain_forks (reply.Scalar (scalar.Fault n)) is = refl
plain_forks (reply.Scalar (scalar.Filled n)) is = refl
plain_forks (reply.Scalar scalar.NothingFilled) is = refl
plain_forks (reply.Scalar (scalar.InFrame n)) is = refl
plain_forks (reply.Scalar scalar.Ready) is = refl
plain_forks (reply.Scalar (scalar.Ended r)) is = refl
plain_forks (reply.Scalar (scalar.OldSize n)) is = refl
plain_forks (reply.Scalar (scalar.MappedAt n)) is = refl
plain_forks (reply.CopiedIn b) is = refl
plain_forks (reply.Scalar (scalar.CopiedOut n)) is = refl
plain_forks (reply.ShortIn r b) is = refl
plain_forks (reply.Scalar (scalar.ShortOut r n)) is = refl
plain_forks (reply.Scalar (scalar.Exited n)) is = refl
plain_forks (reply.Scalar (scalar.Refused r)) is = refl

pub plain_goes : (r : Reply) → IsPlain r → LeavesRunning r
plain_goes (reply.Scalar scalar.Done) is = tt
plain_goes (reply.Scalar (scalar.Started n)) is = tt
plain_goes (reply.Scalar (scalar.Forked n)) is = tt
plain_goes (reply.Scalar (scalar.Value n)) is = tt
plain_goes (reply.Scalar scalar.Stored) is = tt
plain_goes (reply.Scalar (scalar.Fault n)) is = tt
plain_goes (reply.Scalar (scalar.Filled n)) is = tt
plain_goes (reply.Scalar scalar.NothingFilled) is = tt
plain_goes (reply.Scalar (scalar.InFrame n)) is = tt
plain_goes (reply.Scalar scalar.Ready) is = tt
plain_goes (reply.Scalar (scalar.Ended r)) is = is
plain_goes (reply.Scalar (scalar.OldSize n)) is = tt
plain_goes (reply.Scalar (scalar.MappedAt n)) is = tt
plain_goes (reply.CopiedIn b) is = tt
plain_goes (reply.Scalar (scalar.CopiedOut n)) is = tt
plain_goes (reply.ShortIn r b) is = tt
plain_goes (reply.Scalar (scalar.ShortOut r n)) is = tt
plain_goes (reply.Scalar (scalar.Exited n)) is = is
plain_goes (reply.Scalar (scalar.Refused r)) is = tt

pub no_slot : (s : ForkSlot) (c : Call) (r : Reply) → IsPlainCall c → BySlot s c r
no_slot s (call.Fetch address) r stays = tt
no_slot s (call.Load address width) r stays = tt
no_slot s (call.Store address width value) r stays = tt
no_slot s (call.Exec im) r stays = tt
no_slot s (call.Sbrk delta) r stays = tt
no_slot s (call.Mmap len protection flags f) r stays = tt
no_slot s (call.Munmap address len) r stays = tt
no_slot s (call.CopyIn address count) r stays = tt
no_slot s (call.CopyOut address bytes) r stays = tt
no_slot s (call.Exit status) r stays = absurd stays
no_slot s (call.Fork list) r stays = absurd stays

-- what it read, of the moves that it made

behind : {A : Type 0} (xs ys : List A) → drop (length xs) (xs ++ ys) ≡ ys
behind [] ys = refl
behind (x ∷ xs) ys = behind xs ys

pub only_reads : (files : List File) (shortage : Shortage) (p : Process) (c : Call) → moves_read c (reads_of files shortage p c ++ writes_of files shortage p c) ≡ reads_of files shortage p c
only_reads files shortage p (call.Fetch address) = append-nil _
only_reads files shortage p (call.Load address width) = append-nil _
only_reads files shortage p (call.Store address width value) = append-nil _
only_reads files shortage p (call.Exec im) = refl
only_reads files shortage p (call.Sbrk delta) = refl
only_reads files shortage p (call.Mmap len protection flags f) = refl
only_reads files shortage p (call.Munmap address len) = refl
only_reads files shortage p (call.CopyIn address count) = append-nil _
only_reads files shortage p (call.CopyOut address bytes) = append-nil _
only_reads files shortage p (call.Exit status) = refl
only_reads files shortage p (call.Fork list) = refl

pub read_since : (files : List File) (shortage : Shortage) (p : Process) (c : Call) (before after : List PageMove) → after ≡ before ++ (reads_of files shortage p c ++ writes_of files shortage p c)
    → moves_read c (drop (length before) after) ≡ reads_of files shortage p c
read_since files shortage p c before after is = ap (λ (ms : List PageMove). moves_read c (drop (length before) ms)) is ∙ ap (moves_read c) (behind before _) ∙ only_reads files shortage p c

-- the tallies of frames that were let go are as they were
module _ (v w z : View) (takes : TakesFrames w z 0 []) where
  was_later : (need met : ℕ) (counts : List ℕ) → WasDry v w need met counts → WasDry v z need met counts
  was_later need met counts dry =
      let zeros = ap (λ (t : Tallies). t.zeros) takes.tallies in
      let short = ap (λ (t : Tallies). t.short) takes.tallies in
      let claims = ap (λ (t : Tallies). t.claims) takes.tallies in
      let was_zeros = dry.zeros in
      let was_short = dry.short in
      let was_claims = dry.claims in
      record { zeros = omega (arith, zeros, was_zeros); short = omega (arith, short, was_short); claims = omega (arith, claims, was_claims); looks = ap (λ (t : Tallies). t.looks) takes.tallies ∙ append-nil w.tallies.looks ∙ dry.looks }

  module _ (files : List File) (p : Process) where
    later_frames : (c : Call) (page : ℕ) → ReportsShortage v w files p c (frames_at page) → ReportsShortage v z files p c (frames_at page)
    later_frames (call.Fetch address) page (count, counted, dry) = (count, counted, was_later _ _ _ dry)
    later_frames (call.Load address width) page (count, counted, dry) = (count, counted, was_later _ _ _ dry)
    later_frames (call.Store address width value) page (count, counted, dry) = (count, counted, was_later _ _ _ dry)
    later_frames (call.Exec im) page dry = tt
    later_frames (call.Sbrk delta) page dry = tt
    later_frames (call.Mmap len protection flags f) page dry = tt
    later_frames (call.Munmap address len) page dry = tt
    later_frames (call.CopyIn address n) page (before, count, first, counted, dry) = (before, count, first, counted, was_later _ _ _ dry)
    later_frames (call.CopyOut address bytes) page (before, count, first, counted, dry) = (before, count, first, counted, was_later _ _ _ dry)
    later_frames (call.Exit status) page dry = tt
    later_frames (call.Fork list) page dry = tt

    later_nothing : (c : Call) → ReportsShortage v z files p c nothing
    later_nothing (call.Fetch address) = tt
    later_nothing (call.Load address width) = tt
    later_nothing (call.Store address width value) = tt
    later_nothing (call.Exec im) = tt
    later_nothing (call.Sbrk delta) = tt
    later_nothing (call.Mmap len protection flags f) = tt
    later_nothing (call.Munmap address len) = tt
    later_nothing (call.CopyIn address count) = tt
    later_nothing (call.CopyOut address bytes) = tt
    later_nothing (call.Exit status) = tt
    later_nothing (call.Fork list) = tt

    pub later_stop : (c : Call) (r : Rule) (address : ℕ) → ReportsShortage v w files p c (at_stop r address) → ReportsShortage v z files p c (at_stop r address)
    later_stop c rule.Misaligned address dry = later_nothing c
    later_stop c rule.BeyondMax address dry = later_nothing c
    later_stop c rule.KernelPage address dry = later_nothing c
    later_stop c rule.GuardPage address dry = later_nothing c
    later_stop c rule.NoRegion address dry = later_nothing c
    later_stop c rule.NoRead address dry = later_nothing c
    later_stop c rule.NoWrite address dry = later_nothing c
    later_stop c rule.NoExec address dry = later_nothing c
    later_stop c rule.NoFrame address dry = later_frames c (page_of address) dry

-- how many children a journal names

pub forked_few : (r : Reply) → forked r ≤ 1
forked_few (reply.Scalar scalar.Done) = omega arith
forked_few (reply.Scalar (scalar.Started n)) = omega arith
forked_few (reply.Scalar (scalar.Forked n)) = omega arith
forked_few (reply.Scalar (scalar.Value n)) = omega arith
forked_few (reply.Scalar scalar.Stored) = omega arith
forked_few (reply.Scalar (scalar.Fault n)) = omega arith
forked_few (reply.Scalar (scalar.Filled n)) = omega arith
forked_few (reply.Scalar scalar.NothingFilled) = omega arith
forked_few (reply.Scalar (scalar.InFrame n)) = omega arith
forked_few (reply.Scalar scalar.Ready) = omega arith
forked_few (reply.Scalar (scalar.Ended r)) = omega arith
forked_few (reply.Scalar (scalar.OldSize n)) = omega arith
forked_few (reply.Scalar (scalar.MappedAt n)) = omega arith
forked_few (reply.CopiedIn b) = omega arith
forked_few (reply.Scalar (scalar.CopiedOut n)) = omega arith
forked_few (reply.ShortIn r b) = omega arith
forked_few (reply.Scalar (scalar.ShortOut r n)) = omega arith
forked_few (reply.Scalar (scalar.Exited n)) = omega arith
forked_few (reply.Scalar (scalar.Refused r)) = omega arith

pub forks_few : (es : List JournalEntry) → forks es ≤ length es
forks_few [] = omega arith
forks_few (e ∷ es) = let rest = forks_few es in let one = forked_few e.reply in omega (arith, rest, one)

pub forks_more : (es : List JournalEntry) (e : JournalEntry) → forks (es ++ e ∷ []) ≡ forks es + forked e.reply
forks_more [] e = omega arith
forks_more (x ∷ es) e = let rest = forks_more es e in omega (arith, rest)
