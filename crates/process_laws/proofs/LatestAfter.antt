-- Lemma: what a step leaves at an address (`left_by`) depends on the earlier bytes at that address alone; used to pass from
-- the byte that a world holds to the latest byte that was left.
use Rattle.std.proofs.Common.{◌≡◌, ℕ, refl, Option, None, Some}
use Rattle.process_model.specs.World.{World}
use Rattle.process_model.specs.declared.reply.Reply.{Reply}
use Rattle.process_model.specs.declared.reply.ScalarReply.TheVariants as scalar
use Rattle.process_model.specs.declared.reply.Reply.TheVariants as reply
use Rattle.process_model.specs.declared.step.Step.{Step}
use Rattle.process_model.specs.declared.step.Step.TheVariants as step
use Rattle.process_laws.specs.Latest.{LatestBytes, left_by, of_slot}
use Rattle.process_laws.specs.Moments.{slot_on}

-- what is left follows from what was known before at the same address
module _ (w : World) (one two : LatestBytes) (s a : ℕ) (same : (t : ℕ) → one t a ≡ two t a) where
  parents : (u : Option ℕ) → of_slot one u a ≡ of_slot two u a
  parents None = refl
  parents (Some t) = same t

  pub left_same : (x : Step) (r : Reply) → left_by w x r one s a ≡ left_by w x r two s a
  left_same (step.Start image) (reply.Scalar (scalar.Started t)) = rw (same s)
  left_same (step.Exec h image) (reply.Scalar scalar.Done) = rw (same s)
  left_same (step.Fork h) (reply.Scalar (scalar.Forked t)) = simp (same s, parents (slot_on w h))
  left_same (step.Store h address width value via) (reply.Scalar scalar.Stored) = rw (same s)
  left_same (step.CopyOut h address bytes) (reply.Scalar (scalar.CopiedOut n)) = rw (same s)
  left_same (step.CopyOut h address bytes) (reply.Scalar (scalar.ShortOut r n)) = rw (same s)
  left_same (step.CopyIn h address n) (reply.CopiedIn bytes) = rw (same s)
  left_same (step.CopyIn h address n) (reply.ShortIn r bytes) = rw (same s)
  left_same (step.Serve h) (reply.Scalar scalar.Ready) = rw (same s)
  left_same (step.Sbrk h delta) (reply.Scalar (scalar.OldSize n)) = rw (same s)
  left_same (step.Munmap h address len) (reply.Scalar scalar.Done) = rw (same s)
  left_same (step.Serve h) (reply.Scalar (scalar.Ended r)) = rw (same s)
  left_same (step.Exit h status) (reply.Scalar (scalar.Exited code)) = rw (same s)
  left_same _ _ = same s
