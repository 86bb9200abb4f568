-- Lemma: a step whose reply is a refusal changes nothing: the world (the model's whole state) after it is the world before.
use Rattle.std.proofs.Common.{◌≡◌, ◌+◌, ℕ, Bool, true, false, not, refl, ap, ◌∙◌, Option, None, Some, List, [], ◌∷◌, map}
use Rattle.std.specs.Prelude.{Result, Ok, Err}
use Rattle.std.proofs.lemmas.Bool.{and_from, eq-eqb}
use Rattle.process_laws.proofs.OnHarts.{access_good, its_good, kernel_good, on_hart_good}
use Rattle.process_model.specs.Environment.{Progress}
use Rattle.process_model.specs.Calls.{forked, forked_unless, mapped_to, replaced, replaced_unless, resized_to, started, started_unless, unmapped_to}
use Rattle.process_model.specs.Copies.{Copied, copied_in, copied_out, in_reply, out_reply}
use Rattle.process_model.specs.Harts.{Hart}
use Rattle.process_model.specs.Images.{image_loads, LoadSegment}
use Rattle.process_model.specs.Mappings.{Mapped, Unmapped}
use Rattle.process_model.specs.Process.{Page, Pending, Process, without_pending}
use Rattle.process_model.specs.Service.{environment_of, initial_progress, served, served_or_ended, with_progress}
use Rattle.process_model.specs.Stale.{changed_slots, is_changed, same_leaf, same_leaves, same_mark, with_stale, with_stale_slots}
use Rattle.process_model.specs.Steps.{plain_step, step}
use Rattle.process_model.specs.World.{answers, free_slot, StepOutcome, World}
use Rattle.process_model.specs.declared.config.Policy.{Policy}
use Rattle.process_model.specs.declared.config.Policy.TheVariants.{Full, Asid}
use Rattle.process_model.specs.declared.image.BadImage.{BadImage}
use Rattle.process_model.specs.declared.reply.Refusal.{Refusal}
use Rattle.process_model.specs.declared.reply.ScalarReply.TheVariants.{Refused}
use Rattle.process_model.specs.declared.reply.Reply.TheVariants.{Scalar}
use Rattle.process_model.specs.declared.step.Step.{Step}
use Rattle.process_model.specs.declared.step.Step.TheVariants as step
use Rattle.sv39_entry.specs.declared.access.Access.TheVariants as access
use Rattle.sv39_entry.specs.declared.rule.Rule.{Rule}

-- ---- no mark follows

same_mark_here : (b : Bool) → same_mark b b ≡ true
same_mark_here true = refl
same_mark_here false = refl

same_leaf_here : (a : ℕ × Page) → same_leaf a a ≡ true
same_leaf_here a =
    and_from _ _ (and_from _ _ (and_from _ _ (eq-eqb a.0 a.0 refl) (eq-eqb (a.1).copy (a.1).copy refl)) (same_mark_here (a.1).cow)) (same_mark_here (a.1).dirty)

same_leaves_here : (xs : List (ℕ × Page)) → same_leaves xs xs ≡ true
same_leaves_here [] = refl
same_leaves_here (a ∷ rest) = and_from _ _ (same_leaf_here a) (same_leaves_here rest)

unchanged : (o : Option Process) → is_changed o o ≡ false
unchanged None = refl
unchanged (Some p) = ap not (same_leaves_here p.settled.entries)

none_changed : (n : ℕ) (slots : List (Option Process)) → changed_slots n slots slots ≡ []
none_changed n [] = refl
none_changed n (o ∷ slots) = rw (unchanged o) (none_changed (n + 1) slots)

none_stale : (harts : List Hart) → map (with_stale []) harts ≡ harts
none_stale [] = refl
none_stale (hart ∷ harts) = ap (λ hs. hart ∷ hs) (none_stale harts)

-- ---- each step

module _ (w : World) where
  Same : StepOutcome → Type 0
  Same o = (e : Refusal) → o.reply ≡ Scalar (Refused e) → o.world ≡ w

  quiet : (r : Refusal) → Same (record { reply = Scalar (Refused r); world = w })
  unfolding Same
  quiet r e f = refl

  image_same : (s : ℕ) (ls : List LoadSegment) (b : Bool) → Same (started_unless w s ls b)
  unfolding Same
  image_same s ls true = quiet _
  image_same s ls false = λ e f. absurd cc

  start_same : (loads : Result (List LoadSegment) BadImage) (o : Option ℕ) → Same (started w loads o)
  unfolding Same
  start_same loads None = quiet _
  start_same (Err b) (Some s) = quiet _
  start_same (Ok ls) (Some s) = image_same s ls _

  replace_same : (s : ℕ) (p : Process) (ls : List LoadSegment) (b : Bool) → Same (replaced_unless w s p ls b)
  unfolding Same
  replace_same s p ls true = quiet _
  replace_same s p ls false = λ e f. absurd cc

  exec_same : (s : ℕ) (p : Process) (loads : Result (List LoadSegment) BadImage) → Same (replaced w s p loads)
  unfolding Same
  exec_same s p (Err b) = quiet _
  exec_same s p (Ok ls) = replace_same s p ls _

  child_same : (s : ℕ) (p : Process) (child : ℕ) (b : Bool) → Same (forked_unless w s p child b)
  unfolding Same
  child_same s p child true = quiet _
  child_same s p child false = λ e f. absurd cc

  fork_same : (s : ℕ) (p : Process) (o : Option ℕ) → Same (forked w s p o)
  unfolding Same
  fork_same s p None = quiet _
  fork_same s p (Some child) = child_same s p child _

  size_same : (s : ℕ) (p : Process) (r : Result Process Refusal) → Same (resized_to w s p r)
  unfolding Same
  size_same s p (Err r) = quiet r
  size_same s p (Ok q) = λ e f. absurd cc

  map_same : (s : ℕ) (r : Result Mapped Refusal) → Same (mapped_to w s r)
  unfolding Same
  map_same s (Err r) = quiet r
  map_same s (Ok m) = λ e f. absurd cc

  unmap_same : (s : ℕ) (r : Result Unmapped Refusal) → Same (unmapped_to w s r)
  unfolding Same
  unmap_same s (Err r) = quiet r
  unmap_same s (Ok u) = λ e f. absurd cc

  in_same : (s : ℕ) (c : Copied) (o : Option Rule) → Same (answers (with_progress w s c.progress) (in_reply c.bytes o))
  unfolding Same
  in_same s c None = λ e f. absurd cc
  in_same s c (Some r) = λ e f. absurd cc

  out_same : (s : ℕ) (c : Copied) (o : Option Rule) → Same (answers (with_progress w s c.progress) (out_reply c.bytes o))
  unfolding Same
  out_same s c None = λ e f. absurd cc
  out_same s c (Some r) = λ e f. absurd cc

  reach_same : (h : ℕ) (hart : Hart) (s : ℕ) (p : Process) (a : Pending) (r : Result Progress Rule) → Same (served_or_ended w h hart s p a r)
  unfolding Same
  reach_same h hart s p a (Err r) = λ e f. absurd cc
  reach_same h hart s p a (Ok g) = λ e f. absurd cc

  serve_same : (h : ℕ) (hart : Hart) (s : ℕ) (p : Process) (o : Option Pending) → Same (served w h hart s p o)
  unfolding Same
  serve_same h hart s p None = quiet _
  serve_same h hart s p (Some a) = reach_same h hart s p a _

  plain_same : (x : Step) → Same (plain_step w x)
  unfolding Same
  plain_same (step.Start image) = start_same (image_loads w.scheme image) (free_slot w)
  plain_same (step.Switch h slot) = on_hart_good w Same quiet h true _ _ _ (λ hart is _ e f. absurd cc)
  plain_same (step.Trap h) = on_hart_good w Same quiet h true _ _ _ (λ hart is _. its_good w Same quiet h hart _ is (λ t p on here e f. absurd cc))
  plain_same (step.Next h) = on_hart_good w Same quiet h true _ _ _ (λ hart is _ e f. absurd cc)
  plain_same (step.Fill h address) = on_hart_good w Same quiet h true _ _ _ (λ hart is _ e f. absurd cc)
  plain_same (step.Evict h n) = on_hart_good w Same quiet h true _ _ _ (λ hart is _ e f. absurd cc)
  plain_same (step.Fetch h address via) = access_good w Same quiet h access.Fetch address 4 0 via (λ hart t p cause here on e f. absurd cc) (λ hart t p page here on is fits e f. absurd cc)
  plain_same (step.Load h address width via) = access_good w Same quiet h access.Load address width 0 via (λ hart t p cause here on e f. absurd cc) (λ hart t p page here on is fits e f. absurd cc)
  plain_same (step.Store h address width value via) = access_good w Same quiet h access.Store address width value via (λ hart t p cause here on e f. absurd cc) (λ hart t p page here on is fits e f. absurd cc)
  plain_same (step.TrampolineFetch h offset via) = on_hart_good w Same quiet h _ _ _ _ (λ hart is _ e f. absurd cc)
  plain_same (step.Serve h) = on_hart_good w Same quiet h true _ _ _ (λ hart is _. its_good w Same quiet h hart _ is (λ t p on here. serve_same h hart t p p.pending))
  plain_same (step.Fork h) = kernel_good w Same quiet h true _ (λ hart t p on here. fork_same t p (free_slot w))
  plain_same (step.Exec h image) = kernel_good w Same quiet h true _ (λ hart t p on here. exec_same t p (image_loads w.scheme image))
  plain_same (step.Sbrk h delta) = kernel_good w Same quiet h true _ (λ hart t p on here. size_same t p _)
  plain_same (step.Mmap h len protection flags n) = kernel_good w Same quiet h true _ (λ hart t p on here. map_same t _)
  plain_same (step.Munmap h address len) = kernel_good w Same quiet h true _ (λ hart t p on here. unmap_same t _)
  plain_same (step.CopyIn h address n) = kernel_good w Same quiet h _ _ (λ hart t p on here. let c = copied_in (environment_of w t) (initial_progress w (without_pending p)) address n in in_same t c c.stop)
  plain_same (step.CopyOut h address bytes) = kernel_good w Same quiet h _ _ (λ hart t p on here. let c = copied_out (environment_of w t) (initial_progress w (without_pending p)) address bytes.now in out_same t c c.stop)
  plain_same (step.Exit h status) = kernel_good w Same quiet h true _ (λ hart t p on here e f. absurd cc)

  marks_same : (policy : Policy) (o : StepOutcome) → Same o → Same (with_stale_slots policy w o)
  unfolding Same
  marks_same Full o same = same
  marks_same Asid o same = λ e f.
      let is : o.world ≡ w = same e f in
      let slots : changed_slots 0 w.slots (o.world).slots ≡ [] = ap (λ (v : World). changed_slots 0 w.slots v.slots) is ∙ none_changed 0 w.slots in
      ap (λ (ns : List ℕ). let v : World = record o.world { harts = map (with_stale ns) (o.world).harts } in v) slots ∙ ap (λ (hs : List Hart). let v : World = record o.world { harts = hs } in v) (none_stale (o.world).harts) ∙ is

  pub refused_same : (x : Step) (e : Refusal) → (step w x).reply ≡ Scalar (Refused e) → (step w x).world ≡ w
  unfolding Same step
  refused_same x = marks_same w.policy (plain_step w x) (plain_same x)
