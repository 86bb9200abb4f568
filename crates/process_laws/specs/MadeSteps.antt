-- Part (g) of the headline: which steps are made, that is, not refused, and what the others are refused with (`CallReplies`).
-- `MakesOwn`: trampoline, trap and kernel calls of a process on its hart. `MakesSteps`: of all steps the kinds of replies, the
-- refusals, starts and switches.
use Rattle.std.specs.Prelude.{◌≡◌, ℕ, ℤ, false, true, Option, None, Some, slice_get}
use Rattle.process_laws.specs.Moments.{Moment, slot_on}
use Rattle.process_laws.specs.CallReplies.{ExecReply, ForkReply, has_refusals, MapReply, refusal_on, SizeReply, StartReply, UnmapReply}
use Rattle.process_laws.specs.Words.{Begins, IsInPhase, IsMade, IsOnHart, is_reply, hart_of_step, MayCall, hart_of}
use Rattle.process_model.specs.Harts.{next_phase}
use Rattle.process_model.specs.Process.{Process}
use Rattle.process_model.specs.World.{process_in}
use Rattle.process_model.specs.declared.image.Image.{Image}
use Rattle.process_model.specs.declared.phase.Phase.{Phase}
use Rattle.process_model.specs.declared.phase.Phase.TheVariants.{Enter0, Idle, Kernel, User}
use Rattle.process_model.specs.declared.reply.Refusal.{Refusal}
use Rattle.process_model.specs.declared.reply.ScalarReply.TheVariants.{Refused, Started, Exited, InFrame}
use Rattle.process_model.specs.declared.reply.Reply.TheVariants.{Scalar}
use Rattle.process_model.specs.declared.step.Step.TheVariants.{Exec, Exit, Fork, Munmap, Next, Sbrk, Start, Switch, Trap, Mmap, TrampolineFetch}

-- Of a process p, in slot s, on hart h:
pub record MakesOwn (m : Moment) (h s : ℕ) (p : Process) : Type 0 where
  -- Each instruction in the trampoline, on the way into the kernel and back into user mode, leads to the next phase; a trap, to
  -- the kernel's entry
  pub next : (phase after : Phase) → m.step ≡ Next h → IsMade m.reply → IsInPhase m.before h phase → next_phase phase ≡ Some after
      → IsOnHart m.after h s p × IsInPhase m.after h after
  pub trap : IsInPhase m.before h User → m.step ≡ Trap h → (slot_on m.after h ≡ Some s) × IsInPhase m.after h Enter0
  -- If the kernel may be called for p, then fork, exec, sbrk, mmap and munmap reply what their arguments and p's regions say
  -- (`CallReplies`): mmap maps pages as high as they fit, `sbrk 0 -1` on an empty heap answers `refused 13 BadSize`
  pub fork : MayCall m.before h p → m.step ≡ Fork h → ForkReply m.before m.reply
  pub exec : (image : Image) → MayCall m.before h p → m.step ≡ Exec h image → ExecReply m.before image m.reply
  pub sbrk : (delta : ℤ) → MayCall m.before h p → m.step ≡ Sbrk h delta → SizeReply p delta m.reply
  pub mmap : (len protection flags n : ℕ) → MayCall m.before h p → m.step ≡ Mmap h len protection flags n
      → MapReply (m.before).files p len protection flags n m.reply
  pub munmap : (address len : ℕ) → MayCall m.before h p → m.step ≡ Munmap h address len → UnmapReply p address len m.reply

-- Of all steps:
pub record MakesSteps (m : Moment) : Type 0 where
  -- Each reply is a refusal, or of its step's own kind (`is_reply`). An exit replies its status, and a fetch in the trampoline
  -- frame 0
  pub replies : is_reply m.step m.reply ≡ true
  pub exited : (h : ℕ) (status code : ℤ) → m.step ≡ Exit h status → m.reply ≡ Scalar (Exited code) → code ≡ status
  pub in_frame : (h offset n : ℕ) (via : Option ℕ) → m.step ≡ TrampolineFetch h offset via → m.reply ≡ Scalar (InFrame n) → n ≡ 0
  -- A step on a hart is refused with BadArgument, Impossible or NoEntry, the first that applies (`refusal_on`): `tramp 0 2`
  -- answers `refused 15 BadArgument` in every phase. If none applies, it is made, but for the refusals of the five calls above.
  -- A step of a process is made only on a hart that has one
  pub refused : (h : ℕ) (e : Refusal) → hart_of m.step ≡ Some h
      → refusal_on m.before m.step (slice_get (m.before).harts h) ≡ Some e → m.reply ≡ Scalar (Refused e)
  pub made : (h : ℕ) → hart_of m.step ≡ Some h → refusal_on m.before m.step (slice_get (m.before).harts h) ≡ None → has_refusals m.step ≡ false
      → (hart_of_step m.step ≡ Some h → (s : ℕ) × (p : Process) × IsOnHart m.before h s p) → IsMade m.reply
  pub hosted : (h : ℕ) → hart_of_step m.step ≡ Some h → IsMade m.reply → (s : ℕ) × (p : Process) × IsOnHart m.before h s p
  -- A start replies what `StartReply` says. The process has the image's pages, no mark, and an empty heap
  pub start : (image : Image) → m.step ≡ Start image → StartReply m.before image m.reply
  pub started : (image : Image) (s : ℕ) → m.step ≡ Start image → m.reply ≡ Scalar (Started s) → (p : Process) × (process_in m.after s ≡ Some p) × Begins m p
  -- A process to which a hart is switched is there on the hart, in the kernel. A switch to none leaves the hart idle
  pub switch : (h s : ℕ) (p : Process) → m.step ≡ Switch h (Some s) → IsMade m.reply → process_in m.before s ≡ Some p
      → IsOnHart m.after h s p × IsInPhase m.after h Kernel
  pub left : (h : ℕ) → m.step ≡ Switch h None → IsMade m.reply → (slot_on m.after h ≡ None) × IsInPhase m.after h Idle
