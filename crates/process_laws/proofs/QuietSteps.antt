-- Lemmas: the outcomes of sbrk, mmap and munmap say neither NoFrame nor that the call is Impossible (`IsCalm`); and no step
-- but start, service of a fault, fork, kernel copy and exec says NoFrame.
use Rattle.std.proofs.Common.{◌≡◌, ◌≢◌, ℕ, ℤ, Bool, true, false, not, refl, ap, ◌∙◌, Option, None, Some, List, [], ◌∷◌}
use Rattle.std.specs.Prelude.{slice_get}
use Rattle.process_laws.proofs.Running.{step_reply}
use Rattle.process_laws.proofs.Users.{told_reply}
use Rattle.process_laws.specs.Words.{takes_frames, is_no_frame_reply}
use Rattle.process_model.specs.Bytes.{first_true}
use Rattle.process_model.specs.Calls.{mapped_to, resized_to, unmapped_to}
use Rattle.process_model.specs.Files.{File}
use Rattle.process_model.specs.Harts.{Hart}
use Rattle.process_model.specs.Heap.{resized_unless, sbrk_result}
use Rattle.process_model.specs.Mappings.{mapped, mapped_unless, unmapped, unmapped_if, unmapped_in, unmapped_unless}
use Rattle.process_model.specs.Process.{Page, Process}
use Rattle.process_model.specs.Regions.{Region}
use Rattle.process_model.specs.Residence.{access_answer}
use Rattle.process_model.specs.Service.{access_step, Answer, AccessRequest, if_resident, if_settled, is_fault, access_outcome, unless_denied}
use Rattle.process_model.specs.Steps.{plain_step, step}
use Rattle.process_model.specs.World.{on_hart, on_hart_at, StepOutcome, process_in, unless_refused, with_its_process, with_process_of, with_slot_of, World}
use Rattle.process_model.specs.declared.image.Image.{Image}
use Rattle.process_model.specs.declared.phase.Phase.{Phase}
use Rattle.process_model.specs.declared.reply.Refusal.TheVariants.{BadArgument, BadSize, FileNotWritable, Impossible, MappingsFull, NoEntry, NoRoom}
use Rattle.process_model.specs.declared.reply.Reply.{Reply}
use Rattle.process_model.specs.declared.reply.ScalarReply.TheVariants.{Refused}
use Rattle.process_model.specs.declared.reply.Reply.TheVariants.{Scalar}
use Rattle.process_model.specs.declared.step.Step.{Step}
use Rattle.process_model.specs.declared.step.Step.TheVariants as step
use Rattle.sv39_entry.specs.declared.access.Access.{Access}
use Rattle.sv39_entry.specs.declared.access.Access.TheVariants as access
use Rattle.sv39_entry.specs.declared.rule.Rule.{Rule}

-- a reply that tells neither
pub record IsCalm (r : Reply) : Type 0 where
  pub silent : is_no_frame_reply r ≡ false
  pub possible : (phase : Phase) → r ≢ Scalar (Refused (Impossible phase))

-- ---- calls that change regions

module _ (w : World) (s : ℕ) where
  Calm : StepOutcome → Type 0
  Calm o = IsCalm o.reply

  size_calm : (p : Process) (n : ℕ) (a b : Bool) → Calm (resized_to w s p (resized_unless p n (first_true ((a, BadSize) ∷ (b, NoRoom) ∷ []))))
  unfolding Calm
  size_calm p n true b = record { silent = refl; possible = λ phase e. absurd cc }
  size_calm p n false true = record { silent = refl; possible = λ phase e. absurd cc }
  size_calm p n false false = record { silent = refl; possible = λ phase e. absurd cc }

  pub sbrk_calm : (p : Process) (delta : ℤ) → IsCalm (resized_to w s p (sbrk_result p delta)).reply
  unfolding Calm sbrk_result
  sbrk_calm p delta = size_calm p _ _ _

  map_calm : (p : Process) (r : Region) (a b c d : Bool) → Calm (mapped_to w s (mapped_unless p r (first_true ((a, BadArgument) ∷ (b, FileNotWritable) ∷ (c, MappingsFull) ∷ (d, NoRoom) ∷ []))))
  unfolding Calm
  map_calm p r true b c d = record { silent = refl; possible = λ phase e. absurd cc }
  map_calm p r false true c d = record { silent = refl; possible = λ phase e. absurd cc }
  map_calm p r false false true d = record { silent = refl; possible = λ phase e. absurd cc }
  map_calm p r false false false true = record { silent = refl; possible = λ phase e. absurd cc }
  map_calm p r false false false false = record { silent = refl; possible = λ phase e. absurd cc }

  pub mmap_calm : (p : Process) (files : List File) (len protection flags n : ℕ) → IsCalm (mapped_to w s (mapped files p len protection flags n)).reply
  unfolding Calm mapped
  mmap_calm p files len protection flags n = map_calm p _ _ _ _ _

  hole_calm : (files : List File) (p : Process) (m : Region) (first end : ℕ) (b : Bool) → Calm (unmapped_to w s (unmapped_unless files p m first end b))
  unfolding Calm
  hole_calm files p m first end true = record { silent = refl; possible = λ phase e. absurd cc }
  hole_calm files p m first end false = record { silent = refl; possible = λ phase e. absurd cc }

  around_calm : (files : List File) (p : Process) (first end : ℕ) (o : Option Region) → Calm (unmapped_to w s (unmapped_in files p first end o))
  unfolding Calm
  around_calm files p first end None = record { silent = refl; possible = λ phase e. absurd cc }
  around_calm files p first end (Some m) = hole_calm files p m first end _

  range_calm : (files : List File) (p : Process) (first end : ℕ) (b : Bool) → Calm (unmapped_to w s (unmapped_if files p first end b))
  unfolding Calm
  range_calm files p first end false = record { silent = refl; possible = λ phase e. absurd cc }
  range_calm files p first end true = around_calm files p first end _

  pub munmap_calm : (p : Process) (files : List File) (address len : ℕ) → IsCalm (unmapped_to w s (unmapped files p address len)).reply
  unfolding Calm unmapped
  munmap_calm p files address len = range_calm files p _ _ _

-- ---- steps that take no frame

abbrev Quiet : StepOutcome → Type 0
Quiet o = is_no_frame_reply o.reply ≡ false

module _ (w : World) where
  unless_quiet : (run : Hart → StepOutcome) (hart : Hart) (a b c : Bool) → Quiet (run hart) → Quiet (unless_refused w run hart (first_true ((not a, BadArgument) ∷ (not b, Impossible hart.phase) ∷ (not c, NoEntry) ∷ [])))
  unless_quiet run hart true true true f = f
  unless_quiet run hart true true false f = refl
  unless_quiet run hart true false c f = refl
  unless_quiet run hart false b c f = refl

  at_quiet : (proper : Bool) (possible entry : Hart → Bool) (run : Hart → StepOutcome) (o : Option Hart) → ((hart : Hart) → Quiet (run hart)) → Quiet (on_hart_at w proper possible entry run o)
  at_quiet proper possible entry run None f = refl
  at_quiet proper possible entry run (Some hart) f = unless_quiet run hart proper (possible hart) (entry hart) (f hart)

  on_quiet : (h : ℕ) (proper : Bool) (possible entry : Hart → Bool) (run : Hart → StepOutcome) → ((hart : Hart) → Quiet (run hart)) → Quiet (on_hart w h proper possible entry run)
  unfolding on_hart
  on_quiet h proper possible entry run f = at_quiet proper possible entry run (slice_get w.harts h) f

  of_quiet : (phase : Phase) (run : ℕ → Process → StepOutcome) (s : ℕ) (o : Option Process) → ((s : ℕ) (p : Process) → Quiet (run s p)) → Quiet (with_process_of w phase run s o)
  of_quiet phase run s None f = refl
  of_quiet phase run s (Some p) f = f s p

  slot_quiet : (phase : Phase) (run : ℕ → Process → StepOutcome) (o : Option ℕ) → ((s : ℕ) (p : Process) → Quiet (run s p)) → Quiet (with_slot_of w phase run o)
  slot_quiet phase run None f = refl
  slot_quiet phase run (Some s) f = of_quiet phase run s (process_in w s) f

  its_quiet : (hart : Hart) (run : ℕ → Process → StepOutcome) → ((s : ℕ) (p : Process) → Quiet (run s p)) → Quiet (with_its_process w hart run)
  unfolding with_its_process
  its_quiet hart run f = slot_quiet hart.phase run hart.slot f

  answer_quiet : (kind : Access) (page : Page) (offset width value : ℕ) → is_no_frame_reply (access_answer kind page offset width value).0 ≡ false
  answer_quiet access.Fetch page offset width value = refl
  answer_quiet access.Load page offset width value = refl
  answer_quiet access.Store page offset width value = refl

  resident_quiet : (a : AccessRequest) (p : Process) (page : Page) (b : Bool) → is_no_frame_reply (if_resident p a page b).reply ≡ false
  resident_quiet a p page true = answer_quiet a.access page _ a.width a.value
  resident_quiet a p page false = refl

  settled_quiet : (a : AccessRequest) (p : Process) (o : Option Page) → is_no_frame_reply (if_settled p a o).reply ≡ false
  settled_quiet a p None = refl
  settled_quiet a p (Some page) = resident_quiet a p page _

  denied_quiet : (a : AccessRequest) (p : Process) (o : Option Rule) → is_no_frame_reply (unless_denied p a o).reply ≡ false
  denied_quiet a p (Some r) = refl
  denied_quiet a p None = settled_quiet a p _

  told_quiet : (h : ℕ) (hart : Hart) (s : ℕ) (x : Answer) → is_no_frame_reply x.reply ≡ false → Quiet (access_outcome w h hart s x)
  told_quiet h hart s x e = ap is_no_frame_reply (told_reply w h hart s x (is_fault x.reply)) ∙ e

  access_quiet : (h : ℕ) (kind : Access) (address width value : ℕ) (via : Option ℕ) → Quiet (access_step w h kind address width value via)
  access_quiet h kind address width value via =
      on_quiet h _ _ _ _ (λ hart. its_quiet hart _ (λ s p. told_quiet h hart s _ (denied_quiet (record { access = kind; address = address; width = width; value = value }) p _)))

  plain_quiet : (x : Step) → takes_frames x ≡ false → ((h : ℕ) (image : Image) → x ≢ step.Exec h image) → Quiet (plain_step w x)
  plain_quiet (step.Start image) e not = absurd cc
  plain_quiet (step.Switch h slot) e not = on_quiet h _ _ _ _ (λ hart. refl)
  plain_quiet (step.Trap h) e not = on_quiet h _ _ _ _ (λ hart. its_quiet hart _ (λ s p. refl))
  plain_quiet (step.Next h) e not = on_quiet h _ _ _ _ (λ hart. refl)
  plain_quiet (step.Fill h address) e not = on_quiet h _ _ _ _ (λ hart. refl)
  plain_quiet (step.Evict h n) e not = on_quiet h _ _ _ _ (λ hart. refl)
  plain_quiet (step.Fetch h address via) e not = access_quiet h access.Fetch address 4 0 via
  plain_quiet (step.Load h address width via) e not = access_quiet h access.Load address width 0 via
  plain_quiet (step.Store h address width value via) e not = access_quiet h access.Store address width value via
  plain_quiet (step.TrampolineFetch h offset via) e not = on_quiet h _ _ _ _ (λ hart. refl)
  plain_quiet (step.Serve h) e not = absurd cc
  plain_quiet (step.Fork h) e not = absurd cc
  plain_quiet (step.Exec h image) e not = absurd (not h image refl)
  plain_quiet (step.Sbrk h delta) e not = on_quiet h _ _ _ _ (λ hart. its_quiet hart _ (λ s p. (sbrk_calm w s p delta).silent))
  plain_quiet (step.Mmap h len protection flags n) e not = on_quiet h _ _ _ _ (λ hart. its_quiet hart _ (λ s p. (mmap_calm w s p w.files len protection flags n).silent))
  plain_quiet (step.Munmap h address len) e not = on_quiet h _ _ _ _ (λ hart. its_quiet hart _ (λ s p. (munmap_calm w s p w.files address len).silent))
  plain_quiet (step.CopyIn h address n) e not = absurd cc
  plain_quiet (step.CopyOut h address bytes) e not = absurd cc
  plain_quiet (step.Exit h status) e not = on_quiet h _ _ _ _ (λ hart. its_quiet hart _ (λ s p. refl))

  pub untold : (x : Step) → takes_frames x ≡ false → ((h : ℕ) (image : Image) → x ≢ step.Exec h image) → is_no_frame_reply (step w x).reply ≡ false
  untold x e not = ap is_no_frame_reply (step_reply w x) ∙ plain_quiet x e not
