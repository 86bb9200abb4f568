-- Lemmas: for a start, a fork and a service of a page fault there is one number of frames, whatever the size of the memory:
-- the reply says NoFrame if and only if fewer are free, and else the free count falls by that number (0 if it rises). Before
-- them: the free count when one process changes or is gone.
use Rattle.std.proofs.Common.{◌≡◌, ℕ, Bool, true, false, cond, ◌+◌, ◌-◌, ◌≤◌, refl, sym, ap, ◌∙◌, arith, Option, None, Some, List, [], ◌∷◌, ◌++◌, length, length-set}
use Rattle.std.specs.Prelude.{nat_lt, Result, Ok, Err, slice_get, slice_set, sum_by}
use Rattle.process_laws.proofs.Earlier.{answered_is_first}
use Rattle.process_laws.proofs.ForkSpends.{fork_spends}
use Rattle.process_laws.proofs.FreeFrames.{different, spent}
use Rattle.process_laws.proofs.Memories.{each_call, each_service, InEach}
use Rattle.process_laws.proofs.ServiceSpends.{service_spends}
use Rattle.process_laws.proofs.SetSizes.{count_grows, length_keys}
use Rattle.process_laws.proofs.SlotSums.{all_copies, count_set, count_slots, full_slot, sum_set}
use Rattle.process_laws.proofs.StartSpends.{start_spends}
use Rattle.process_laws.specs.CopyNumbers.{HasNewCopies}
use Rattle.process_laws.specs.Words.{is_no_frame_reply, in_memory}
use Rattle.process_model.specs.Environment.{is_shared_page, need_at, Progress, resident_at_address, resident_at, unless_dry, unless_resident}
use Rattle.process_model.specs.Calls.{forked, forked_unless, started, started_unless}
use Rattle.process_model.specs.Frames.{copies_in, copies_of, fork_need, free_frames, kernel_frames, live, own_frames, start_need}
use Rattle.process_model.specs.Harts.{Hart}
use Rattle.process_model.specs.Images.{image_loads, LoadSegment}
use Rattle.process_model.specs.PageMap.{count, numbers}
use Rattle.process_model.specs.Process.{Pending, Process, regions}
use Rattle.process_model.specs.Regions.{first_rule}
use Rattle.process_model.specs.Residence.{is_resident, made_resident}
use Rattle.process_model.specs.Service.{environment_of, initial_progress, ended, is_dry, served, served_or_ended, with_progress, with_served}
use Rattle.process_model.specs.Stale.{with_stale_slots}
use Rattle.process_model.specs.Steps.{plain_step, step}
use Rattle.process_model.specs.World.{free, free_slot, StepOutcome, process_in, refuses, with_process, World}
use Rattle.process_model.specs.declared.config.Policy.{Policy}
use Rattle.process_model.specs.declared.config.Policy.TheVariants.{Full, Asid}
use Rattle.process_model.specs.declared.image.BadImage.{BadImage}
use Rattle.process_model.specs.declared.image.Image.{Image}
use Rattle.process_model.specs.declared.reply.Refusal.{Refusal}
use Rattle.process_model.specs.declared.reply.Refusal.TheVariants as refusal
use Rattle.process_model.specs.declared.reply.ScalarReply.TheVariants.{Ended, Refused}
use Rattle.process_model.specs.declared.reply.Reply.TheVariants.{Scalar}
use Rattle.process_model.specs.declared.step.Step.{Step}
use Rattle.process_model.specs.declared.step.Step.TheVariants.{Fork, Serve, Start}
use Rattle.sv39_entry.specs.Address.{page_of}
use Rattle.sv39_entry.specs.declared.access.Access.{Access}
use Rattle.sv39_entry.specs.declared.rule.Rule.{Rule}
use Rattle.sv39_entry.specs.declared.rule.Rule.TheVariants as rule

-- ---- one outcome, in a world

abbrev pub Spends : World → StepOutcome → ℕ → Type 0
Spends v o n = (is_no_frame_reply o.reply ≡ nat_lt (free v) n) × (is_no_frame_reply o.reply ≡ false → free v - free o.world ≡ n)

pub none_less : (a : ℕ) → nat_lt a 0 ≡ false
none_less a = grind arith

-- nothing is taken
pub spends_none : (v : World) (o : StepOutcome) → is_no_frame_reply o.reply ≡ false → free v ≤ free o.world → Spends v o 0
spends_none v o e le = (e ∙ sym (none_less (free v)), λ _. omega (arith, le))

-- so much is taken, or it is dry
pub spends_need : (v : World) (n : ℕ) (f : Bool → StepOutcome) (b : Bool) → nat_lt (free v) n ≡ b → is_no_frame_reply (f true).reply ≡ true → is_no_frame_reply (f false).reply ≡ false
    → (nat_lt (free v) n ≡ false → free (f false).world + n ≡ free v) → Spends v (f b) n
spends_need v n f true e dry wet spends = (dry ∙ sym e, λ is. absurd (let no : true ≡ false = sym dry ∙ is in cc))
spends_need v n f false e dry wet spends = (wet ∙ sym e, λ is. let h = spends e in omega (arith, h))

pub marks_spend : (policy : Policy) (v : World) (o : StepOutcome) (n : ℕ) → Spends v o n → Spends v (with_stale_slots policy v o) n
marks_spend Full v o n t = t
marks_spend Asid v o n t = t

pub refused_spends : (w : World) (m : ℕ) (r : Refusal) → is_no_frame_reply (Scalar (Refused r)) ≡ false → Spends (in_memory w m) (refuses (in_memory w m) r) 0
refused_spends w m r quiet = spends_none (in_memory w m) (refuses (in_memory w m) r) quiet (omega arith)

-- ---- frames of a process that is changed or gone

-- processes with the same pages and as many frames of their own take as many
pub put_free : (v : World) (s : ℕ) (p q r : Process) → process_in v s ≡ Some p → copies_of q ≡ copies_of r → own_frames q ≡ own_frames r → free (with_process v s q) ≡ free (with_process v s r)
put_free v s p q r e copies own =
    let full : slice_get v.slots s ≡ Some (Some p) = full_slot (slice_get v.slots s) p e in
    let others : List ℕ = all_copies (slice_set v.slots s None) in
    let q_has : different (slice_set v.slots s (Some q)) ≡ count (numbers (copies_of q ++ others)) = count_set v.slots s (Some p) (Some q) full in
    let r_has : different (slice_set v.slots s (Some r)) ≡ count (numbers (copies_of r ++ others)) = count_set v.slots s (Some p) (Some r) full in
    let same : count (numbers (copies_of q ++ others)) ≡ count (numbers (copies_of r ++ others)) = ap (λ ns. count (numbers (ns ++ others))) copies in
    let q_sum : sum_by own_frames (live (slice_set v.slots s (Some q))) + own_frames p ≡ sum_by own_frames (live v.slots) + own_frames q = sum_set own_frames v.slots s (Some p) (Some q) full in
    let r_sum : sum_by own_frames (live (slice_set v.slots s (Some r))) + own_frames p ≡ sum_by own_frames (live v.slots) + own_frames r = sum_set own_frames v.slots s (Some p) (Some r) full in
    let is : free (with_process v s q) + 0 ≡ free (with_process v s r) =
    spent v.scheme v.frames 0 (slice_set v.slots s (Some r)) (slice_set v.slots s (Some q)) (length-set v.slots s (Some q) ∙ sym (length-set v.slots s (Some r))) (omega (q_has, r_has, same, q_sum, r_sum, own, arith)) (none_less (free (with_process v s r))) in
    omega (arith, is)

pub same_free : (v : World) (s : ℕ) (p q : Process) → process_in v s ≡ Some p → copies_of q ≡ copies_of p → own_frames q ≡ own_frames p → free (with_process v s q) ≡ free v
same_free v s p q e copies own =
    let full : slice_get v.slots s ≡ Some (Some p) = full_slot (slice_get v.slots s) p e in
    let others : List ℕ = all_copies (slice_set v.slots s None) in
    let after : different (slice_set v.slots s (Some q)) ≡ count (numbers (copies_of q ++ others)) = count_set v.slots s (Some p) (Some q) full in
    let before : different v.slots ≡ count (numbers (copies_of p ++ others)) = count_slots v.slots s (Some p) full in
    let same : count (numbers (copies_of q ++ others)) ≡ count (numbers (copies_of p ++ others)) = ap (λ ns. count (numbers (ns ++ others))) copies in
    let sums : sum_by own_frames (live (slice_set v.slots s (Some q))) + own_frames p ≡ sum_by own_frames (live v.slots) + own_frames q = sum_set own_frames v.slots s (Some p) (Some q) full in
    let is : free (with_process v s q) + 0 ≡ free v = spent v.scheme v.frames 0 v.slots (slice_set v.slots s (Some q)) (length-set v.slots s (Some q)) (omega (after, before, same, sums, own, arith)) (none_less (free v)) in
    omega (arith, is)

pub more_count : (xs ys : List ℕ) → count (numbers ys) ≤ count (numbers (xs ++ ys))
more_count [] ys = omega arith
more_count (x ∷ xs) ys = let h = more_count xs ys in let g = count_grows x (xs ++ ys) in omega (arith, h, g)

pub freed : (f k c s d t : ℕ) → d ≤ c → t ≤ s → f - k - c - s ≤ f - k - d - t
freed f k c s d t h g = omega (arith, h, g)

pub frees : (v : World) (s : ℕ) (p : Process) → process_in v s ≡ Some p → free v ≤ free_frames v.scheme v.frames (slice_set v.slots s None)
frees v s p e =
    let full : slice_get v.slots s ≡ Some (Some p) = full_slot (slice_get v.slots s) p e in
    let gone : List (Option Process) = slice_set v.slots s None in
    let before : different v.slots ≡ count (numbers (copies_of p ++ all_copies gone)) = count_slots v.slots s (Some p) full in
    let fewer : different gone ≤ count (numbers (copies_of p ++ all_copies gone)) = more_count (copies_of p) (all_copies gone) in
    let sums : sum_by own_frames (live gone) + own_frames p ≡ sum_by own_frames (live v.slots) + 0 = sum_set own_frames v.slots s (Some p) None full in
    let old : length (copies_in (live v.slots)) ≡ different v.slots = length_keys (numbers (all_copies v.slots)) in
    let now : length (copies_in (live gone)) ≡ different gone = length_keys (numbers (all_copies gone)) in
    let long : length gone ≡ length v.slots = length-set v.slots s None in
    rw long (freed v.frames (kernel_frames v.scheme v.frames (length v.slots)) (length (copies_in (live v.slots))) (sum_by own_frames (live v.slots)) (length (copies_in (live gone))) (sum_by own_frames (live gone))
    (omega (arith, before, fewer, old, now)) (omega (arith, sums)))

-- no region has too few frames
pub quiet_rule : (p : Process) (kind : Access) (address width : ℕ) (r : Rule) → first_rule p.scheme (regions p) kind address width ≡ Some r → is_no_frame_reply (Scalar (Ended r)) ≡ false
quiet_rule p kind address width rule.NoFrame e = absurd ((answered_is_first p.scheme (regions p) kind address width rule.NoFrame e).denies)
quiet_rule p kind address width rule.Misaligned e = refl
quiet_rule p kind address width rule.BeyondMax e = refl
quiet_rule p kind address width rule.KernelPage e = refl
quiet_rule p kind address width rule.GuardPage e = refl
quiet_rule p kind address width rule.NoRegion e = refl
quiet_rule p kind address width rule.NoRead e = refl
quiet_rule p kind address width rule.NoWrite e = refl
quiet_rule p kind address width rule.NoExec e = refl

-- ---- steps that take frames

module _ (w : World) (new : HasNewCopies w) where
  abbrev at : ℕ → World
  at m = in_memory w m

  abbrev pub Each : (World → StepOutcome) → Type 0
  Each f = InEach Spends w (refused_spends w) f

  new_at : (m : ℕ) → HasNewCopies (at m)
  new_at m = record { below = new.below; once = new.once }

  pub spends_refused : (r : Refusal) → is_no_frame_reply (Scalar (Refused r)) ≡ false → Each (λ u. refuses u r)
  unfolding InEach
  spends_refused r quiet = (0, λ m. refused_spends w m r quiet)

  pub step_spends : (x : Step) → Each (λ u. plain_step u x) → (n : ℕ) × ((m : ℕ) → Spends (at m) (step (at m) x) n)
  unfolding InEach step
  step_spends x t = (t.0, λ m. marks_spend w.policy (at m) (plain_step (at m) x) t.0 (t.1 m))

  -- start

  start_takes : (image : Image) (loads : Result (List LoadSegment) BadImage) (o : Option ℕ) → image_loads w.scheme image ≡ loads → free_slot w ≡ o → Each (λ u. started u loads o)
  unfolding InEach
  start_takes image loads None e f = spends_refused refusal.NoSlot refl
  start_takes image (Err b) (Some s) e f = spends_refused (refusal.BadImage b) refl
  start_takes image (Ok ls) (Some s) e f =
      (start_need w.scheme ls, λ m. spends_need (at m) (start_need w.scheme ls) (started_unless (at m) s ls) (is_dry (at m) (start_need w.scheme ls)) refl refl refl (λ wet. start_spends (at m) s image ls (new_at m) f e wet))

  pub starts : (image : Image) → (n : ℕ) × ((m : ℕ) → Spends (at m) (step (at m) (Start image)) n)
  unfolding InEach
  starts image = step_spends (Start image) (start_takes image (image_loads w.scheme image) (free_slot w) refl refl)

  -- fork

  fork_takes : (s : ℕ) (p : Process) (o : Option ℕ) → process_in w s ≡ Some p → free_slot w ≡ o → Each (λ u. forked u s p o)
  unfolding InEach
  fork_takes s p None e f = spends_refused refusal.NoSlot refl
  fork_takes s p (Some child) e f =
      (fork_need p, λ m. spends_need (at m) (fork_need p) (forked_unless (at m) s p child) (is_dry (at m) (fork_need p)) refl refl refl (λ wet. fork_spends (at m) s child p e f wet))

  pub forks : (h : ℕ) → (n : ℕ) × ((m : ℕ) → Spends (at m) (step (at m) (Fork h)) n)
  unfolding InEach
  forks h = step_spends (Fork h) (each_call Spends w (refused_spends w) h true (λ u hart s p. forked u s p (free_slot u)) (λ hart s p e. fork_takes s p (free_slot w) e refl))

  -- service

  module _ (h : ℕ) (hart : Hart) (s : ℕ) (p : Process) (a : Pending) (lives : process_in w s ≡ Some p) where
    abbrev page : ℕ
    page = page_of a.address

    abbrev serves_it : World → Result Progress Rule → StepOutcome
    serves_it u r = served_or_ended u h hart s p a r

    abbrev need : ℕ
    need = need_at (environment_of w s) a.access page p

    abbrev made : Progress
    made = record { process = made_resident w.files w.counter (is_shared_page (environment_of w s) p page) p a.access page; fresh = w.counter + 1; taken = 0 + need }

    -- the process waits for nothing then, which takes no frame
    served_free : (m : ℕ) (g : Progress) → free (serves_it (at m) (Ok g)).world ≡ free (with_progress (at m) s g)
    served_free m g = put_free (at m) s p ((with_served g a).process) g.process lives refl refl

    absent_spends : (m : ℕ) → is_resident p a.access page ≡ false → is_dry (at m) (0 + need) ≡ false
        → free (serves_it (at m) (unless_dry (environment_of (at m) s) a.access page (initial_progress (at m) p) need false)).world + need ≡ free (at m)
    unfolding resident_at
    absent_spends m absent wet =
        let a_m = environment_of (at m) s in
        let g = initial_progress (at m) p in
        let done : resident_at a_m a.access page g ≡ Ok made = ap (unless_resident a_m a.access page g) absent ∙ ap (unless_dry a_m a.access page g need) wet in
        let spends = service_spends (at m) s page p a.access made (new_at m) lives absent done in
        let same = served_free m made in
        omega (arith, spends, same)

    resident_spends : (b : Bool) → is_resident p a.access page ≡ b → (m : ℕ) → Spends (at m) (serves_it (at m) (unless_resident (environment_of (at m) s) a.access page (initial_progress (at m) p) b)) (cond b 0 need)
    resident_spends true e m = spends_none (at m) (serves_it (at m) (Ok (initial_progress (at m) p))) refl (let same = same_free (at m) s p ((with_served (initial_progress (at m) p) a).process) lives refl refl in omega (arith, same))
    resident_spends false absent m = spends_need (at m) need (λ b. serves_it (at m) (unless_dry (environment_of (at m) s) a.access page (initial_progress (at m) p) need b)) (is_dry (at m) (0 + need)) (ap (is_dry (at m)) (omega arith)) refl refl
        (λ wet. absent_spends m absent (ap (is_dry (at m)) (omega arith) ∙ wet))

    -- of a page that stands, nothing; else what it needs
    pub page_spends : (m : ℕ) → Spends (at m) (serves_it (at m) (resident_at (environment_of (at m) s) a.access page (initial_progress (at m) p))) (cond (is_resident p a.access page) 0 need)
    unfolding resident_at
    page_spends = resident_spends (is_resident p a.access page) refl

    page_takes : Each (λ u. serves_it u (resident_at (environment_of u s) a.access page (initial_progress u p)))
    unfolding InEach
    page_takes = (cond (is_resident p a.access page) 0 need, page_spends)

    rule_takes : (o : Option Rule) → first_rule p.scheme (regions p) a.access a.address a.width ≡ o → Each (λ u. serves_it u (resident_at_address (environment_of u s) a.access a.address (initial_progress u p) o))
    unfolding InEach
    rule_takes None e = page_takes
    rule_takes (Some r) e = (0, λ m. spends_none (at m) (ended (at m) h hart s p (Scalar (Ended r))) (quiet_rule p a.access a.address a.width r e) (frees (at m) s p lives))

  serve_takes : (h : ℕ) (hart : Hart) (s : ℕ) (p : Process) (o : Option Pending) → process_in w s ≡ Some p → Each (λ u. served u h hart s p o)
  unfolding InEach
  serve_takes h hart s p None e = spends_refused (refusal.Impossible hart.phase) refl
  serve_takes h hart s p (Some a) e = rule_takes h hart s p a e (first_rule p.scheme (regions p) a.access a.address a.width) refl

  pub serves : (h : ℕ) → (n : ℕ) × ((m : ℕ) → Spends (at m) (step (at m) (Serve h)) n)
  unfolding InEach
  serves h = step_spends (Serve h) (each_service Spends w (refused_spends w) h (λ u hart s p. served u h hart s p p.pending) (λ hart s p e. serve_takes h hart s p p.pending e))
