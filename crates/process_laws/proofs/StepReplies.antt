-- `Suits`, proved of every step: the reply is a refusal or of the step's own kind (`is_reply`), and the number of frames and
-- the translation scheme (Sv39 or Sv48) stay, and the policy of fences.
use Rattle.std.proofs.Common.{◌≡◌, ℕ, Bool, true, false, refl, Option, None, Some, List}
use Rattle.std.specs.Prelude.{Result, Ok, Err}
use Rattle.process_laws.proofs.OnHarts.{access_good, its_good, kernel_good, on_hart_good}
use Rattle.process_laws.specs.Words.{is_reply}
use Rattle.process_model.specs.Environment.{Progress}
use Rattle.process_model.specs.Calls.{forked, forked_unless, mapped_to, replaced, replaced_unless, resized_to, started, started_unless, unmapped_to}
use Rattle.process_model.specs.Copies.{Copied, copied_in, copied_out, in_reply, out_reply}
use Rattle.process_model.specs.Harts.{Hart}
use Rattle.process_model.specs.Images.{image_loads, LoadSegment}
use Rattle.process_model.specs.Mappings.{Mapped, Unmapped}
use Rattle.process_model.specs.Process.{Pending, Process, without_pending}
use Rattle.process_model.specs.Service.{environment_of, initial_progress, served, served_or_ended, with_progress}
use Rattle.process_model.specs.Stale.{with_stale_slots}
use Rattle.process_model.specs.Steps.{plain_step, step}
use Rattle.process_model.specs.World.{answers, free_slot, StepOutcome, refuses, World}
use Rattle.process_model.specs.declared.config.Policy.{Policy}
use Rattle.process_model.specs.declared.config.Policy.TheVariants.{Full, Asid}
use Rattle.process_model.specs.declared.image.BadImage.{BadImage}
use Rattle.process_model.specs.declared.image.Image.{Image}
use Rattle.process_model.specs.declared.reply.Refusal.{Refusal}
use Rattle.process_model.specs.declared.reply.Reply.{Reply}
use Rattle.process_model.specs.declared.step.Step.{Step}
use Rattle.process_model.specs.declared.step.Step.TheVariants as step_of
use Rattle.sv39_entry.specs.declared.access.Access.TheVariants as access
use Rattle.sv39_entry.specs.declared.rule.Rule.{Rule}

pub record Suits (w : World) (x : Step) (o : StepOutcome) : Type 0 where
  pub replies : is_reply x o.reply ≡ true
  pub memory : (o.world).frames ≡ w.frames
  pub scheme : (o.world).scheme ≡ w.scheme
  pub policy : (o.world).policy ≡ w.policy

module _ (w : World) where
  quiet : (x : Step) (r : Refusal) → Suits w x (refuses w r)
  quiet x r = record { replies = refl; memory = refl; scheme = refl; policy = refl }

  suits : (x : Step) (v : World) (r : Reply) → is_reply x r ≡ true → v.frames ≡ w.frames → v.scheme ≡ w.scheme → v.policy ≡ w.policy → Suits w x (answers v r)
  suits x v r is memory scheme policy = record { replies = is; memory = memory; scheme = scheme; policy = policy }

  image_suits : (image : Image) (s : ℕ) (ls : List LoadSegment) (b : Bool) → Suits w (step_of.Start image) (started_unless w s ls b)
  image_suits image s ls true = quiet _ _
  image_suits image s ls false = suits _ _ _ refl refl refl refl

  start_suits : (image : Image) (loads : Result (List LoadSegment) BadImage) (o : Option ℕ) → Suits w (step_of.Start image) (started w loads o)
  start_suits image loads None = quiet _ _
  start_suits image (Err b) (Some s) = quiet _ _
  start_suits image (Ok ls) (Some s) = image_suits image s ls _

  replace_suits : (h : ℕ) (image : Image) (s : ℕ) (p : Process) (ls : List LoadSegment) (b : Bool) → Suits w (step_of.Exec h image) (replaced_unless w s p ls b)
  replace_suits h image s p ls true = quiet _ _
  replace_suits h image s p ls false = suits _ _ _ refl refl refl refl

  exec_suits : (h : ℕ) (image : Image) (s : ℕ) (p : Process) (loads : Result (List LoadSegment) BadImage) → Suits w (step_of.Exec h image) (replaced w s p loads)
  exec_suits h image s p (Err b) = quiet _ _
  exec_suits h image s p (Ok ls) = replace_suits h image s p ls _

  child_suits : (h s : ℕ) (p : Process) (child : ℕ) (b : Bool) → Suits w (step_of.Fork h) (forked_unless w s p child b)
  child_suits h s p child true = quiet _ _
  child_suits h s p child false = suits _ _ _ refl refl refl refl

  fork_suits : (h s : ℕ) (p : Process) (o : Option ℕ) → Suits w (step_of.Fork h) (forked w s p o)
  fork_suits h s p None = quiet _ _
  fork_suits h s p (Some child) = child_suits h s p child _

  size_suits : (h s : ℕ) (p : Process) (delta : _) (r : Result Process Refusal) → Suits w (step_of.Sbrk h delta) (resized_to w s p r)
  size_suits h s p delta (Err r) = quiet _ r
  size_suits h s p delta (Ok q) = suits _ _ _ refl refl refl refl

  map_suits : (h s len protection flags n : ℕ) (r : Result Mapped Refusal) → Suits w (step_of.Mmap h len protection flags n) (mapped_to w s r)
  map_suits h s len protection flags n (Err r) = quiet _ r
  map_suits h s len protection flags n (Ok m) = suits _ _ _ refl refl refl refl

  unmap_suits : (h s address len : ℕ) (r : Result Unmapped Refusal) → Suits w (step_of.Munmap h address len) (unmapped_to w s r)
  unmap_suits h s address len (Err r) = quiet _ r
  unmap_suits h s address len (Ok u) = suits _ _ _ refl refl refl refl

  reach_suits : (h : ℕ) (hart : Hart) (s : ℕ) (p : Process) (a : Pending) (r : Result Progress Rule) → Suits w (step_of.Serve h) (served_or_ended w h hart s p a r)
  reach_suits h hart s p a (Err r) = suits _ _ _ refl refl refl refl
  reach_suits h hart s p a (Ok g) = suits _ _ _ refl refl refl refl

  serve_suits : (h : ℕ) (hart : Hart) (s : ℕ) (p : Process) (o : Option Pending) → Suits w (step_of.Serve h) (served w h hart s p o)
  serve_suits h hart s p None = quiet _ _
  serve_suits h hart s p (Some a) = reach_suits h hart s p a _

  in_suits : (h s address n : ℕ) (c : Copied) (o : Option Rule) → Suits w (step_of.CopyIn h address n) (answers (with_progress w s c.progress) (in_reply c.bytes o))
  in_suits h s address n c None = suits _ _ _ refl refl refl refl
  in_suits h s address n c (Some r) = suits _ _ _ refl refl refl refl

  out_suits : (h s address : ℕ) (bytes : _) (c : Copied) (o : Option Rule) → Suits w (step_of.CopyOut h address bytes) (answers (with_progress w s c.progress) (out_reply c.bytes o))
  out_suits h s address bytes c None = suits _ _ _ refl refl refl refl
  out_suits h s address bytes c (Some r) = suits _ _ _ refl refl refl refl

  plain_suits : (x : Step) → Suits w x (plain_step w x)
  plain_suits (step_of.Start image) = start_suits image (image_loads w.scheme image) (free_slot w)
  plain_suits (step_of.Switch h slot) = on_hart_good w (Suits w _) (quiet _) h true _ _ _ (λ hart is _. suits _ _ _ refl refl refl refl)
  plain_suits (step_of.Trap h) = on_hart_good w (Suits w _) (quiet _) h true _ _ _ (λ hart is _. its_good w (Suits w _) (quiet _) h hart _ is (λ t p on here. suits _ _ _ refl refl refl refl))
  plain_suits (step_of.Next h) = on_hart_good w (Suits w _) (quiet _) h true _ _ _ (λ hart is _. suits _ _ _ refl refl refl refl)
  plain_suits (step_of.Fill h address) = on_hart_good w (Suits w _) (quiet _) h true _ _ _ (λ hart is _. suits _ _ _ refl refl refl refl)
  plain_suits (step_of.Evict h n) = on_hart_good w (Suits w _) (quiet _) h true _ _ _ (λ hart is _. suits _ _ _ refl refl refl refl)
  plain_suits (step_of.Fetch h address via) =
      access_good w (Suits w _) (quiet _) h access.Fetch address 4 0 via (λ hart t p cause here on. suits _ _ _ refl refl refl refl) (λ hart t p page here on is fits. suits _ _ _ refl refl refl refl)
  plain_suits (step_of.Load h address width via) =
      access_good w (Suits w _) (quiet _) h access.Load address width 0 via (λ hart t p cause here on. suits _ _ _ refl refl refl refl) (λ hart t p page here on is fits. suits _ _ _ refl refl refl refl)
  plain_suits (step_of.Store h address width value via) =
      access_good w (Suits w _) (quiet _) h access.Store address width value via (λ hart t p cause here on. suits _ _ _ refl refl refl refl) (λ hart t p page here on is fits. suits _ _ _ refl refl refl refl)
  plain_suits (step_of.TrampolineFetch h offset via) = on_hart_good w (Suits w _) (quiet _) h _ _ _ _ (λ hart is _. suits _ _ _ refl refl refl refl)
  plain_suits (step_of.Serve h) = on_hart_good w (Suits w _) (quiet _) h true _ _ _ (λ hart is _. its_good w (Suits w _) (quiet _) h hart _ is (λ t p on here. serve_suits h hart t p p.pending))
  plain_suits (step_of.Fork h) = kernel_good w (Suits w _) (quiet _) h true _ (λ hart t p on here. fork_suits h t p (free_slot w))
  plain_suits (step_of.Exec h image) = kernel_good w (Suits w _) (quiet _) h true _ (λ hart t p on here. exec_suits h image t p (image_loads w.scheme image))
  plain_suits (step_of.Sbrk h delta) = kernel_good w (Suits w _) (quiet _) h true _ (λ hart t p on here. size_suits h t p delta _)
  plain_suits (step_of.Mmap h len protection flags n) = kernel_good w (Suits w _) (quiet _) h true _ (λ hart t p on here. map_suits h t len protection flags n _)
  plain_suits (step_of.Munmap h address len) = kernel_good w (Suits w _) (quiet _) h true _ (λ hart t p on here. unmap_suits h t address len _)
  plain_suits (step_of.CopyIn h address n) =
      kernel_good w (Suits w _) (quiet _) h _ _ (λ hart t p on here. let c = copied_in (environment_of w t) (initial_progress w (without_pending p)) address n in in_suits h t address n c c.stop)
  plain_suits (step_of.CopyOut h address bytes) =
      kernel_good w (Suits w _) (quiet _) h _ _ (λ hart t p on here. let c = copied_out (environment_of w t) (initial_progress w (without_pending p)) address bytes.now in out_suits h t address bytes c c.stop)
  plain_suits (step_of.Exit h status) = kernel_good w (Suits w _) (quiet _) h true _ (λ hart t p on here. suits _ _ _ refl refl refl refl)

  marks_suit : (policy : Policy) (x : Step) (o : StepOutcome) → Suits w x o → Suits w x (with_stale_slots policy w o)
  marks_suit Full x o k = k
  marks_suit Asid x o k = record { replies = k.replies; memory = k.memory; scheme = k.scheme; policy = k.policy }

  pub step_suits : (x : Step) → Suits w x (step w x)
  unfolding step
  step_suits x = marks_suit w.policy x (plain_step w x) (plain_suits x)
