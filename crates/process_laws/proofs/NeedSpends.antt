-- Lemmas: a start, an exec, a fork and a service need exactly the frames that `FrameNeeds` counts, and take them if they do not
-- say NoFrame; after an exec that is done the frames of the old pages and tables are free. Only starts, execs, forks, services
-- and copies say NoFrame, and a start, an exec and a fork only if nothing else refuses them (`says_only`).
use Rattle.std.proofs.Common.{◌≡◌, ◌≢◌, ℕ, zero, suc, Bool, true, false, cond, not, ◌&&◌, ◌+◌, ◌<◌, ◌≤◌, inl, inr, refl, sym, ap, subst, ◌∙◌, arith, Option, None, Some, List, [], ◌∷◌, ◌++◌, length, length-set}
use Rattle.std.specs.Prelude.{nat_lt, Result, Ok, Err, option_map, slice_get, slice_set, sum_by}
use Rattle.std.proofs.lemmas.Bool.{and_parts, cases_eq, false≢true}
use Rattle.std.proofs.lemmas.Bool.Decides.{nat_tests}
use Rattle.process_laws.proofs.Counting.{marks_spend, more_count, page_spends, Spends, spends_need}
use Rattle.process_laws.proofs.ForkSpends.{fork_spends}
use Rattle.process_laws.proofs.FreeFrames.{different}
use Rattle.process_laws.proofs.Granting.{IsSound, sound_grants}
use Rattle.process_laws.proofs.ImageOrder.{accepted_is_placed}
use Rattle.process_laws.proofs.Possible.{call_runs}
use Rattle.process_laws.proofs.QuietSteps.{untold}
use Rattle.process_laws.proofs.Running.{step_reply, was_made}
use Rattle.process_laws.proofs.SetSizes.{length_keys}
use Rattle.process_laws.proofs.SlotSums.{all_copies, count_slots, full_slot, sum_set}
use Rattle.process_laws.proofs.StartSpends.{image_spends, start_spends}
use Rattle.process_laws.proofs.Untouched.{get_set_other}
use Rattle.process_laws.proofs.Users.{fault_of, same_grant, serve_ran}
use Rattle.process_laws.specs.CopyNumbers.{HasNewCopies}
use Rattle.process_laws.specs.Moments.{slot_at}
use Rattle.process_laws.specs.FrameNeeds.{copy_on, frames_for_child, frames_for_image, frames_for_page, is_shared, MayLackFrames}
use Rattle.process_laws.specs.Pages.{is_ready, is_ready_on, is_ready_page}
use Rattle.process_laws.specs.Words.{CopiesBytes, IsGranted, IsMade, is_no_frame_reply, IsOnHart, MayCall, takes_frames, UserAccess, with_pending_access}
use Rattle.process_model.specs.Bytes.{first_true}
use Rattle.process_model.specs.Calls.{forked, forked_unless, replaced, replaced_unless, started, started_unless, with_image}
use Rattle.process_model.specs.Environment.{need_at, resident_at, resident_at_address}
use Rattle.process_model.specs.Frames.{copies_in, copies_of, exec_need, fork_need, free_frames, live, own_frames, start_need, unless_through}
use Rattle.process_model.specs.Harts.{Hart, is_kernel}
use Rattle.process_model.proofs.ImageNeed.{exec_need_is}
use Rattle.process_model.specs.ImageProcess.{process_of}
use Rattle.process_model.specs.Images.{image_loads, LoadSegment}
use Rattle.process_model.specs.PageMap.{count, get, numbers}
use Rattle.process_model.specs.Process.{Page, Process}
use Rattle.process_model.specs.Regions.{Region}
use Rattle.process_model.specs.Residence.{can_complete, is_resident, is_resident_page, parts_from, region_on}
use Rattle.process_model.specs.Service.{environment_of, initial_progress, is_dry, served_or_ended}
use Rattle.process_model.specs.Stale.{with_stale_slots}
use Rattle.process_model.specs.Steps.{plain_step, step}
use Rattle.process_model.specs.World.{always, awaits_service, can_call, flat, free, free_slot, is_unserved, on_hart, on_hart_at, others_have, StepOutcome, process_in, process_of_slot, unless_refused, with_its_process, with_process_of, with_slot_of, without_process, World}
use Rattle.process_model.specs.declared.config.Policy.{Policy}
use Rattle.process_model.specs.declared.config.Policy.TheVariants.{Full, Asid}
use Rattle.process_model.specs.declared.image.BadImage.{BadImage}
use Rattle.process_model.specs.declared.image.Image.{Image}
use Rattle.process_model.specs.declared.phase.Phase.{Phase}
use Rattle.process_model.specs.declared.phase.Phase.TheVariants.{Enter0, Enter1, Enter2, Idle, Kernel, Leave1, Leave2, User}
use Rattle.process_model.specs.declared.reply.Refusal.TheVariants.{BadArgument, Impossible, NoEntry}
use Rattle.process_model.specs.declared.reply.ScalarReply.TheVariants.{Done}
use Rattle.process_model.specs.declared.reply.Reply.TheVariants.{Scalar}
use Rattle.process_model.specs.declared.step.Step.{Step}
use Rattle.process_model.specs.declared.step.Step.TheVariants as step_of
use Rattle.sv39_entry.specs.Address.{page_of}
use Rattle.sv39_entry.specs.declared.access.Access.{Access}
use Rattle.sv39_entry.specs.declared.access.Access.TheVariants as access
use Rattle.sv39_entry.specs.declared.scheme.Scheme.{Scheme}

-- ---- what a page needs

can_is : (kind : Access) (r : Option Region) (x : Page) → is_ready kind r x ≡ can_complete kind r x
can_is access.Fetch r x = refl
can_is access.Load r x = refl
can_is access.Store r x = refl

resident_on : (kind : Access) (r : Option Region) (o : Option Page) → is_ready_on kind r o ≡ is_resident_page kind r o
resident_on kind r None = refl
resident_on kind r (Some x) = can_is kind r x

pub ready_is : (p : Process) (kind : Access) (page : ℕ) → is_ready_page p kind page ≡ is_resident p kind page
ready_is p kind page = resident_on kind (region_on p page) (get p.settled page)

-- the model's need of a page is the number that `FrameNeeds` counts
pub page_need : (w : World) (s : ℕ) (p : Process) (kind : Access) (page : ℕ) → cond (is_resident p kind page) 0 (need_at (environment_of w s) kind page p) ≡ frames_for_page w s p kind page
page_need w s p kind page = by (get p.settled page) refl
  where
    shared_on : (x : Page) → get p.settled page ≡ Some x → is_shared w s (copy_on p page) ≡ others_have w s x.copy
    shared_on x e = ap (λ o. is_shared w s (option_map (λ (y : Page). y.copy) o)) e

    by : (o : Option Page) → get p.settled page ≡ o → cond (is_resident p kind page) 0 (need_at (environment_of w s) kind page p) ≡ frames_for_page w s p kind page
    by None e = rw e refl
    by (Some x) e = rw e (rw (can_is kind (region_on p page) x) (elim (can_complete kind (region_on p page) x) as (λ b. cond b 0 (unless_through (parts_from (others_have w s x.copy) x) b) ≡ cond b 0 (cond (x.cow && others_have w s x.copy) 1 0)) [ true ↦ refl | false ↦ refl ]))

-- ---- steps

-- marks change no process
marks_free : (policy : Policy) (w : World) (o : StepOutcome) → free (with_stale_slots policy w o).world ≡ free o.world
marks_free Full w o = refl
marks_free Asid w o = refl

pub step_free : (w : World) (x : Step) → free (step w x).world ≡ free (plain_step w x).world
unfolding step
step_free w x = marks_free w.policy w (plain_step w x)

step_spends : (w : World) (x : Step) (n : ℕ) → Spends w (plain_step w x) n → Spends w (step w x) n
unfolding step
step_spends w x n = marks_spend w.policy w (plain_step w x) n

-- a start

image_need : (z : Scheme) (image : Image) (ls : List LoadSegment) → image_loads z image ≡ Ok ls → exec_need z ls ≡ frames_for_image z ls
image_need z image ls loads = exec_need_is z ls (accepted_is_placed z image ls loads)

module _ (w : World) (new : HasNewCopies w) where
  pub start_needs : (image : Image) (s : ℕ) (ls : List LoadSegment) → free_slot w ≡ Some s → image_loads w.scheme image ≡ Ok ls → Spends w (step w (step_of.Start image)) (1 + frames_for_image w.scheme ls)
  start_needs image s ls to loads =
      let n = start_need w.scheme ls in
      let is : plain_step w (step_of.Start image) ≡ started_unless w s ls (is_dry w n) = ap (λ r. started w r (free_slot w)) loads ∙ ap (started w (Ok ls)) to in
      let spends : Spends w (started_unless w s ls (is_dry w n)) n = spends_need w n (started_unless w s ls) (is_dry w n) refl refl refl (λ wet. start_spends w s image ls new to loads wet) in
      subst (λ k. Spends w (step w (step_of.Start image)) (1 + k)) (image_need w.scheme image ls loads)
      (step_spends w (step_of.Start image) n (subst (λ (o : StepOutcome). Spends w o n) (sym is) spends))

  module _ (h s : ℕ) (p : Process) (on : IsOnHart w h s p) where
    -- a fork
    pub fork_needs : (t : ℕ) → MayCall w h p → free_slot w ≡ Some t → Spends w (step w (step_of.Fork h)) (frames_for_child p)
    fork_needs t k to =
        let n = fork_need p in
        let is : plain_step w (step_of.Fork h) ≡ forked_unless w s p t (is_dry w n) = (call_runs w h s p true (λ hart s p. forked w s p (free_slot w)) refl on k.quiet k.in_kernel).1 ∙ ap (forked w s p) to in
        step_spends w (step_of.Fork h) n (subst (λ (o : StepOutcome). Spends w o n) (sym is)
        (spends_need w n (forked_unless w s p t) (is_dry w n) refl refl refl (λ wet. fork_spends w s t p on.lives to wet)))

    -- an exec
    set_twice : {A : Type 0} (xs : List A) (i : ℕ) (x y : A) → slice_set (slice_set xs i x) i y ≡ slice_set xs i y
    set_twice [] i x y = refl
    set_twice (z ∷ zs) zero x y = refl
    set_twice (z ∷ zs) (suc i) x y = ap (λ ys. z ∷ ys) (set_twice zs i x y)

    set_there : {A : Type 0} (xs : List A) (i : ℕ) (x y : A) → slice_get xs i ≡ Some x → slice_get (slice_set xs i y) i ≡ Some y
    set_there [] i x y e = absurd cc
    set_there (z ∷ zs) zero x y e = refl
    set_there (z ∷ zs) (suc i) x y e = set_there zs i x y e

    abbrev v : World
    v = without_process w s

    full : slice_get w.slots s ≡ Some (Some p)
    full = full_slot (slice_get w.slots s) p on.lives

    -- those that are left without p were there
    was_there : (t : ℕ) (q : Process) → process_in v t ≡ Some q → process_in w t ≡ Some q
    was_there t q e = elim (cases_eq s t) [
      | inl same ↦ absurd (let none : process_in v s ≡ None = ap flat (set_there w.slots s (Some p) None full) in let no = sym none ∙ ap (process_in v) same ∙ e in cc)
      | inr apart ↦ ap flat (sym (get_set_other w.slots s t None apart)) ∙ e
    ]

    new_without : HasNewCopies v
    new_without = record {
      below = λ t page q x e. new.below t page q x (was_there t q e);
      once = λ t m n q x y e. new.once t m n q x y (was_there t q e);
    }

    -- the frames of its own are free without it
    more_free : 0 < free w → free w + 1 ≤ free v
    more_free some =
        let gone : List (Option Process) = slice_set w.slots s None in
        let before : different w.slots ≡ count (numbers (copies_of p ++ all_copies gone)) = count_slots w.slots s (Some p) full in
        let fewer : different gone ≤ count (numbers (copies_of p ++ all_copies gone)) = more_count (copies_of p) (all_copies gone) in
        let sums : sum_by own_frames (live gone) + own_frames p ≡ sum_by own_frames (live w.slots) + 0 = sum_set own_frames w.slots s (Some p) None full in
        let old : length (copies_in (live w.slots)) ≡ different w.slots = length_keys (numbers (all_copies w.slots)) in
        let now : length (copies_in (live gone)) ≡ different gone = length_keys (numbers (all_copies gone)) in
        let long : length gone ≡ length w.slots = length-set w.slots s None in
        rw long (omega (arith, some, before, fewer, old, now, sums))

    le_of : (a n : ℕ) → nat_lt a n ≡ false → n ≤ a
    le_of a n e = grind arith

    not_less : (a n : ℕ) → n ≤ a → nat_lt a n ≡ false
    not_less a n e = grind (arith, nat_tests, e)

    exec_frees : (image : Image) (ls : List LoadSegment) → image_loads w.scheme image ≡ Ok ls → is_dry w (exec_need w.scheme ls) ≡ false → free (with_image w s ls) + start_need w.scheme ls ≡ free v
    exec_frees image ls loads wet =
        let is = image_spends v s image ls new_without (set_there w.slots s (Some p) None full) loads (wet_need wet) in
        ap (λ slots. free_frames w.scheme w.frames slots + start_need w.scheme ls) (sym (set_twice w.slots s None (Some (process_of w.scheme w.counter ls)))) ∙ is
      where
        wet_need : is_dry w (exec_need w.scheme ls) ≡ false → is_dry v (start_need w.scheme ls) ≡ false
        wet_need wet =
            let some : 0 < exec_need w.scheme ls = omega arith in
            let room = le_of (free w) (exec_need w.scheme ls) wet in
            let more = more_free (omega (arith, some, room)) in
            not_less (free v) (start_need w.scheme ls) (omega (arith, room, more))

    exec_as : (image : Image) (ls : List LoadSegment) → image_loads w.scheme image ≡ Ok ls → (b : Bool) → is_dry w (exec_need w.scheme ls) ≡ b
        → (is_no_frame_reply (replaced_unless w s p ls b).reply ≡ b) × ((replaced_unless w s p ls b).reply ≡ Scalar Done → free (replaced_unless w s p ls b).world + start_need w.scheme ls ≡ free v)
    exec_as image ls loads true dry = (refl, λ done. absurd cc)
    exec_as image ls loads false wet = (refl, λ done. exec_frees image ls loads wet)

    pub exec_needs : (image : Image) (ls : List LoadSegment) → MayCall w h p → image_loads w.scheme image ≡ Ok ls
        → (is_no_frame_reply (step w (step_of.Exec h image)).reply ≡ nat_lt (free w) (frames_for_image w.scheme ls))
        × ((step w (step_of.Exec h image)).reply ≡ Scalar Done → free (step w (step_of.Exec h image)).world + (1 + frames_for_image w.scheme ls) ≡ free v)
    exec_needs image ls k loads =
        let n = exec_need w.scheme ls in
        let x = step_of.Exec h image in
        let is : plain_step w x ≡ replaced_unless w s p ls (is_dry w n) = (call_runs w h s p true (λ hart s p. replaced w s p (image_loads w.scheme image)) refl on k.quiet k.in_kernel).1 ∙ ap (replaced w s p) loads in
        let t = exec_as image ls loads (is_dry w n) refl in
        let reply : (step w x).reply ≡ (replaced_unless w s p ls (is_dry w n)).reply = step_reply w x ∙ ap (λ (o : StepOutcome). o.reply) is in
        let left : free (step w x).world ≡ free (replaced_unless w s p ls (is_dry w n)).world = step_free w x ∙ ap (λ (o : StepOutcome). free o.world) is in (
          ap is_no_frame_reply reply ∙ t.0 ∙ ap (nat_lt (free w)) (image_need w.scheme image ls loads),
          λ done. ap (λ k. k + (1 + frames_for_image w.scheme ls)) left ∙ ap (λ k. free (replaced_unless w s p ls (is_dry w n)).world + (1 + k)) (sym (image_need w.scheme image ls loads)) ∙ t.1 (sym reply ∙ done),
        )

  -- a service
  pub serve_needs : (h s : ℕ) (p : Process) (a : UserAccess) → IsSound (with_pending_access p a) → IsOnHart w h s (with_pending_access p a) → IsMade (step w (step_of.Serve h)).reply → IsGranted p a
      → Spends w (step w (step_of.Serve h)) (frames_for_page w s p a.access (page_of a.address))
  unfolding resident_at
  serve_needs h s p a sound on made g =
      let x = step_of.Serve h in
      let z = with_pending_access p a in
      let r = serve_ran w h s p a on (was_made w x made) in
      let granted = sound_grants z a sound (same_grant p a g) in
      let is : plain_step w x ≡ served_or_ended w h r.hart s z (fault_of a) (resident_at (environment_of w s) a.access (page_of a.address) (initial_progress w z)) =
      r.is ∙ ap (λ o. served_or_ended w h r.hart s z (fault_of a) (resident_at_address (environment_of w s) a.access a.address (initial_progress w z) o)) granted in
      let spends = page_spends w new h r.hart s z (fault_of a) on.lives w.frames in
      subst (Spends w (step w x)) (page_need w s z a.access (page_of a.address))
      (step_spends w x (cond (is_resident z a.access (page_of a.address)) 0 (need_at (environment_of w s) a.access (page_of a.address) z)) (subst (λ (o : StepOutcome). Spends w o (cond (is_resident z a.access (page_of a.address)) 0 (need_at (environment_of w s) a.access (page_of a.address) z))) (sym is) spends))

-- ---- which steps say NoFrame

module _ (w : World) where
  abbrev Lacks : StepOutcome → Type 0
  Lacks o = is_no_frame_reply o.reply ≡ true

  -- what ran on a hart, and was not refused before
  record Tried (h : ℕ) (possible : Hart → Bool) (run : Hart → ℕ → Process → StepOutcome) : Type 0 where
    hart : Hart
    there : slice_get w.harts h ≡ Some hart
    can : possible hart ≡ true
    s : ℕ
    p : Process
    slot : hart.slot ≡ Some s
    lives : process_in w s ≡ Some p
    lacks : Lacks (run hart s p)

  module _ (h : ℕ) (possible : Hart → Bool) (run : Hart → ℕ → Process → StepOutcome) where
    by_process : (hart : Hart) → slice_get w.harts h ≡ Some hart → possible hart ≡ true → (s : ℕ) (o : Option Process) → hart.slot ≡ Some s → process_in w s ≡ o → Lacks (with_process_of w hart.phase (run hart) s o) → Tried h possible run
    by_process hart there can s None slot lives e = absurd cc
    by_process hart there can s (Some p) slot lives e = record { hart = hart; there = there; can = can; s = s; p = p; slot = slot; lives = lives; lacks = e }

    by_slot : (hart : Hart) → slice_get w.harts h ≡ Some hart → possible hart ≡ true → (o : Option ℕ) → hart.slot ≡ o → Lacks (with_slot_of w hart.phase (run hart) o) → Tried h possible run
    by_slot hart there can None slot e = absurd cc
    by_slot hart there can (Some s) slot e = by_process hart there can s (process_in w s) slot refl e

    by_its : (hart : Hart) → slice_get w.harts h ≡ Some hart → possible hart ≡ true → Lacks (with_its_process w hart (run hart)) → Tried h possible run
    unfolding with_its_process
    by_its hart there can = by_slot hart there can hart.slot refl

    by_tests : (hart : Hart) → slice_get w.harts h ≡ Some hart → (b : Bool) → possible hart ≡ b → Lacks (unless_refused w (λ hart. with_its_process w hart (run hart)) hart (first_true ((not true, BadArgument) ∷ (not b, Impossible hart.phase) ∷ (not true, NoEntry) ∷ []))) → Tried h possible run
    by_tests hart there true can e = by_its hart there can e
    by_tests hart there false can e = absurd cc

    by_hart : (o : Option Hart) → slice_get w.harts h ≡ o → Lacks (on_hart_at w true possible always (λ hart. with_its_process w hart (run hart)) o) → Tried h possible run
    by_hart None there e = absurd cc
    by_hart (Some hart) there e = by_tests hart there (possible hart) refl e

    tried : Lacks (on_hart w h true possible always (λ hart. with_its_process w hart (run hart))) → Tried h possible run
    unfolding on_hart
    tried = by_hart (slice_get w.harts h) refl

  in_kernel : (phase : Phase) → is_kernel phase ≡ true → phase ≡ Kernel
  in_kernel Kernel e = refl
  in_kernel Idle e = absurd cc
  in_kernel User e = absurd cc
  in_kernel Enter0 e = absurd cc
  in_kernel Enter1 e = absurd cc
  in_kernel Enter2 e = absurd cc
  in_kernel Leave1 e = absurd cc
  in_kernel Leave2 e = absurd cc

  not_true : (b : Bool) → not b ≡ true → b ≡ false
  not_true true e = absurd cc
  not_true false e = refl

  called : (h : ℕ) (run : Hart → ℕ → Process → StepOutcome) (t : Tried h (can_call w) run) → IsOnHart w h t.s t.p × MayCall w h t.p
  called h run t =
      let parts = and_parts (is_kernel (t.hart).phase) (not (awaits_service w t.hart)) t.can in (
        record { there = ap slot_at t.there ∙ t.slot; lives = t.lives },
        record {
          in_kernel = ap (option_map (λ (hart : Hart). hart.phase)) t.there ∙ ap Some (in_kernel (t.hart).phase parts.0);
          quiet = ap is_unserved (sym t.lives) ∙ ap (λ o. is_unserved (process_of_slot w o)) (sym t.slot) ∙ not_true (awaits_service w t.hart) parts.1;
        },
      )

  start_only : (image : Image) (loads : Result (List LoadSegment) BadImage) (o : Option ℕ) → image_loads w.scheme image ≡ loads → free_slot w ≡ o → Lacks (started w loads o) → MayLackFrames w (step_of.Start image)
  start_only image loads None e f lacks = absurd cc
  start_only image (Err b) (Some s) e f lacks = absurd cc
  start_only image (Ok ls) (Some s) e f lacks = MayLackFrames.start f e

  exec_only : (h s : ℕ) (p : Process) (image : Image) (loads : Result (List LoadSegment) BadImage) → image_loads w.scheme image ≡ loads → IsOnHart w h s p → MayCall w h p → Lacks (replaced w s p loads) → MayLackFrames w (step_of.Exec h image)
  exec_only h s p image (Err b) e on k lacks = absurd cc
  exec_only h s p image (Ok ls) e on k lacks = MayLackFrames.exec on k e

  fork_only : (h s : ℕ) (p : Process) (o : Option ℕ) → free_slot w ≡ o → IsOnHart w h s p → MayCall w h p → Lacks (forked w s p o) → MayLackFrames w (step_of.Fork h)
  fork_only h s p None e on k lacks = absurd cc
  fork_only h s p (Some t) e on k lacks = MayLackFrames.fork on k e

  other : (x : Step) → takes_frames x ≡ false → ((h : ℕ) (image : Image) → x ≢ step_of.Exec h image) → is_no_frame_reply (step w x).reply ≡ true → MayLackFrames w x
  other x e not lacks = absurd (false≢true (sym (untold w x e not) ∙ lacks))

  pub says_only : (x : Step) → is_no_frame_reply (step w x).reply ≡ true → MayLackFrames w x
  says_only (step_of.Start image) e = start_only image (image_loads w.scheme image) (free_slot w) refl refl (ap is_no_frame_reply (sym (step_reply w (step_of.Start image))) ∙ e)
  says_only (step_of.Exec h image) e =
      let run = λ (hart : Hart) (s : ℕ) (p : Process). replaced w s p (image_loads w.scheme image) in
      let t = tried h (can_call w) run (ap is_no_frame_reply (sym (step_reply w (step_of.Exec h image))) ∙ e) in
      let k = called h run t in
      exec_only h t.s t.p image (image_loads w.scheme image) refl k.0 k.1 t.lacks
  says_only (step_of.Fork h) e =
      let run = λ (hart : Hart) (s : ℕ) (p : Process). forked w s p (free_slot w) in
      let t = tried h (can_call w) run (ap is_no_frame_reply (sym (step_reply w (step_of.Fork h))) ∙ e) in
      let k = called h run t in
      fork_only h t.s t.p (free_slot w) refl k.0 k.1 t.lacks
  says_only (step_of.Serve h) e = MayLackFrames.serve
  says_only (step_of.CopyIn h address n) e = MayLackFrames.copy CopiesBytes.copy_in
  says_only (step_of.CopyOut h address bytes) e = MayLackFrames.copy CopiesBytes.copy_out
  says_only (step_of.Switch h slot) e = other (step_of.Switch h slot) refl (λ k image f. absurd cc) e
  says_only (step_of.Trap h) e = other (step_of.Trap h) refl (λ k image f. absurd cc) e
  says_only (step_of.Next h) e = other (step_of.Next h) refl (λ k image f. absurd cc) e
  says_only (step_of.Fill h address) e = other (step_of.Fill h address) refl (λ k image f. absurd cc) e
  says_only (step_of.Evict h n) e = other (step_of.Evict h n) refl (λ k image f. absurd cc) e
  says_only (step_of.Fetch h address via) e = other (step_of.Fetch h address via) refl (λ k image f. absurd cc) e
  says_only (step_of.Load h address width via) e = other (step_of.Load h address width via) refl (λ k image f. absurd cc) e
  says_only (step_of.Store h address width value via) e = other (step_of.Store h address width value via) refl (λ k image f. absurd cc) e
  says_only (step_of.TrampolineFetch h offset via) e = other (step_of.TrampolineFetch h offset via) refl (λ k image f. absurd cc) e
  says_only (step_of.Sbrk h delta) e = other (step_of.Sbrk h delta) refl (λ k image f. absurd cc) e
  says_only (step_of.Mmap h len protection flags n) e = other (step_of.Mmap h len protection flags n) refl (λ k image f. absurd cc) e
  says_only (step_of.Munmap h address len) e = other (step_of.Munmap h address len) refl (λ k image f. absurd cc) e
  says_only (step_of.Exit h status) e = other (step_of.Exit h status) refl (λ k image f. absurd cc) e
