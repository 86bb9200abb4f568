-- The proof of the headline theorem: each step of every run since boot, with the model's reply, meets all its parts, users'
-- accesses, kernel copies, frames, bytes, other processes, own steps and steps made; from the lemmas of the other files.
use Rattle.std.proofs.Common.{ap, false, ◌≡◌, ◌≢◌, ◌⊎◌, ◌<◌, length, ◌+◌, ℕ, true, refl, sym, subst, ◌∙◌, Option, None, Some, List, [], ◌∷◌, ◌++◌, take, Bor}
use Rattle.std.specs.Prelude.{nat_lt, option_map}
use Rattle.process_laws.proofs.CopyAlone.{in_lacks, out_lacks}
use Rattle.process_laws.proofs.CopyFronts.{in_front_world, out_front_world}
use Rattle.process_laws.proofs.CopyReady.{out_ready}
use Rattle.process_laws.proofs.CopyRoom.{copy_room}
use Rattle.process_laws.proofs.CopyFrames.{copies_in_spend, copies_out_spend, New, are_new}
use Rattle.process_laws.proofs.Copying.{copies_in, copies_out, in_ran, out_ran}
use Rattle.process_laws.proofs.Counting.{Spends}
use Rattle.process_laws.proofs.Earlier.{granted_is_denied_by_none}
use Rattle.process_laws.proofs.EveryChange.{always_holds, Holds}
use Rattle.process_laws.proofs.Faults.{faults}
use Rattle.process_laws.proofs.Fresh.{fresh_is_kept}
use Rattle.process_laws.proofs.Going.{next_goes, start_brings, switch_goes, trap_goes}
use Rattle.process_laws.proofs.SharedFrames.{always_shares, lone_of, shared_page, Shares}
use Rattle.process_laws.proofs.Granting.{always_sound, IsSound, sound_grants}
use Rattle.process_laws.proofs.Kept.{step_keeps}
use Rattle.process_laws.proofs.KeptFrames.{keeps_free}
use Rattle.process_laws.proofs.KnownRuns.{copy_holds, has_latest, fetch_reads, HoldsLatest, latest_held, load_reads, read_is_latest, run_holds, run_one_more}
use Rattle.process_laws.proofs.OnHarts.{access_good}
use Rattle.process_laws.proofs.Others.{kept_by}
use Rattle.process_laws.proofs.HeldBytes.{Sized}
use Rattle.process_laws.proofs.CallReplies.{exec_replies, fork_replies, mmap_replies, munmap_replies, sbrk_replies, start_replies}
use Rattle.process_laws.proofs.HartReplies.{fill_counts, is_made, is_refused}
use Rattle.process_laws.proofs.Children.{child_is}
use Rattle.process_laws.proofs.OneHart.{always_one, one_after, OneEach}
use Rattle.process_laws.proofs.OwnFiles.{own_files, own_written}
use Rattle.process_laws.proofs.OwnFrames.{child_frames, kept_frames, one_copy, replaced_frames, started_frames}
use Rattle.process_laws.proofs.OwnSteps.{becomes_as, Own, owns, told_as}
use Rattle.process_laws.proofs.Proper.{exit_tells, fetch_tells, next_quiet, switch_off, switch_phase, switch_was}
use Rattle.process_laws.proofs.Refused.{refused_same}
use Rattle.process_laws.proofs.Replies.{step_hosted}
use Rattle.process_laws.proofs.Running.{step_reply}
use Rattle.process_laws.proofs.SameScheme.{always_scheme}
use Rattle.process_laws.proofs.StepReplies.{step_suits}
use Rattle.process_laws.proofs.NeedSpends.{exec_needs, fork_needs, says_only, serve_needs, start_needs}
use Rattle.process_laws.proofs.Users.{ends}
use Rattle.process_laws.proofs.Users as users
use Rattle.process_laws.specs.Headline as headline
use Rattle.process_laws.specs.Headline.{AllHold, AnswersUser, Copies, CopiesForKernel, CountsFrames, Headline, HoldsFrames, ChangesOwn, LeavesOthers, ReadsLatest}
use Rattle.process_laws.specs.FrameNeeds.{frames_for_child, frames_for_image, frames_for_page, HasNewFrames, LacksFrames, SharesFrames}
use Rattle.process_laws.specs.CallReplies.{ExecReply, ForkReply, MapReply, SizeReply, StartReply, UnmapReply}
use Rattle.process_laws.specs.MadeSteps.{MakesOwn, MakesSteps}
use Rattle.process_laws.specs.Latest.{AreLatest, bytes_in, IsLatest}
use Rattle.process_laws.specs.Moments.{Moment, moment_of, moments_from, slot_on}
use Rattle.process_laws.specs.Words.{UserAccess, IsAccessStep, Begins, byte, copied, CopiesBytes, Forbids, in_memory, IsChild, IsInPhase, IsMade, IsOnHart, IsResident, keys_on, hart_of_step, stopped_by, is_no_frame_reply, with_pending_access, IsWritten, writes_back, Written}
use Rattle.process_model.specs.Files.{File}
use Rattle.process_model.specs.Process.{Process, regions}
use Rattle.process_model.specs.Steps.{plain_step, run, step}
use Rattle.process_model.specs.World.{booted, free, StepOutcome, process_in, without_process, World}
use Rattle.process_model.specs.declared.config.Config.{Config}
use Rattle.process_model.specs.declared.phase.Phase.TheVariants.{Enter0, Idle, Kernel}
use Rattle.process_model.specs.declared.reply.ScalarReply.TheVariants.{Done, Ended, Exited, Filled, Forked, InFrame, Ready, Started, Value}
use Rattle.process_model.specs.declared.reply.Reply.TheVariants.{Scalar}
use Rattle.process_model.specs.declared.step.Step.{Step}
use Rattle.process_model.specs.declared.step.Step.TheVariants.{CopyIn, CopyOut, Fork, Next, Store, Switch}
use Rattle.sv39_entry.specs.Address.{page_of}
use Rattle.sv39_entry.specs.declared.access.Access.TheVariants as access
use Rattle.sv39_entry.specs.declared.rule.Rule.{Rule}
use Rattle.sv39_entry.specs.declared.rule.Rule.TheVariants.{NoFrame}

-- ---- one step

module _ (w : World) (x : Step) where
  abbrev m : Moment
  m = moment_of w x

  module _ (sized : Sized w) (sound : (s : ℕ) (p : Process) → process_in w s ≡ Some p → IsSound p) where
    answers_user : (h s : ℕ) (p : Process) (a : UserAccess) → AnswersUser m h s p a
    answers_user h s p a = record {
      apart = λ lives rule g f. granted_is_denied_by_none p.scheme (regions p) a.access a.address a.width rule (sound_grants p a (sound s p lives) g) f.denies;
      answered = λ t g resident. users.answers w sound h s p a t.via x t.on t.asks t.made g resident;
      faults = λ t not. faults w h s p a t.via x t.on t.asks t.made not;
      served = λ t g. subst (λ (y : Step). (((step w y).reply ≡ Scalar Ready) × ((q : Process) → process_in (step w y).world s ≡ Some q → IsResident q a)) ⊎ ((step w y).reply ≡ Scalar (Ended NoFrame))) (sym t.serves)
          (users.serves w sound h s p a t.on (subst (λ (y : Step). IsMade (step w y).reply) t.serves t.made) g);
      ended = λ t not. subst (λ (y : Step). (rule : Rule) × ((step w y).reply ≡ Scalar (Ended rule)) × Forbids p a rule) (sym t.serves)
          (ends w h s p a t.on (subst (λ (y : Step). IsMade (step w y).reply) t.serves t.made) not);
    }

    own_steps : (h s : ℕ) (p : Process) → IsOnHart w h s p → hart_of_step x ≡ Some h → ChangesOwn m h s p
    own_steps h s p on makes = by (owns w h s p on (sound s p on.lives) x makes) (own_files w h s p on (sound s p on.lives) (sized.pages s p on.lives) x makes) (own_written w h s p on (sound s p on.lives) (sized.pages s p on.lives) x makes)
      where
        children : (t : ℕ) → x ≡ Fork h → (step w x).reply ≡ Scalar (Forked t) → (c : Process) × (process_in (step w x).world t ≡ Some c) × IsChild p c
        children t is = subst (λ (y : Step). (step w y).reply ≡ Scalar (Forked t) → (c : Process) × (process_in (step w y).world t ≡ Some c) × IsChild p c) (sym is) (λ e. let k = child_is w h s p on t e in (k.1, k.2, k.3))

        by : Own w h s x p (step w x) → Written x p w.files ((step w x).world).files → (writes_back x (step w x).reply ≡ true → IsWritten x p w.files ((step w x).world).files) → ChangesOwn m h s p
        by (Own.alive q e lives k) written all = record {
          files = written;
          written = all;
          lives = λ _. (q, e, becomes_as (told_as w x (step w x).reply) m h p q refl refl refl k);
          gone = λ is. absurd (let no : true ≡ false = sym is ∙ lives in cc);
          child = children;
        }
        by (Own.gone e is at _) written all = record { files = written; written = all; lives = λ no. absurd (let both : true ≡ false = sym is ∙ no in cc); gone = λ _. (e, at.on, at.is_in); child = children }

  module _ (holds : Holds New w) where
    module _ (h s address : ℕ) (p : Process) (on : IsOnHart w h s p) (made : IsMade (step w x).reply) where
      made_as : (y : Step) → x ≡ y → IsMade (step w y).reply
      made_as y is = subst (λ (z : Step). IsMade (step w z).reply) is made

      abbrev In : ℕ → Step → Type 0
      In n y = let o = step w y in let k = copied o.reply in Copies p access.Load address n k (LacksFrames o.world s access.Load (address + k)) (stopped_by o.reply)

      abbrev Out : Bor (List ℕ) → Step → Type 0
      Out bytes y = let o = step w y in let k = copied o.reply in Copies p access.Store address (length bytes.now) k (LacksFrames o.world s access.Store (address + k)) (stopped_by o.reply)

      copies_for_kernel : CopiesForKernel m h s address (copied (step w x).reply) p
      copies_for_kernel = record {
        from = λ n is. subst (In n) (sym is)
            (let ran = in_ran w h s address n p on (made_as (CopyIn h address n) is) in copies_in w h s address n p (λ k. LacksFrames (step w (CopyIn h address n)).world s access.Load (address + k)) ran (in_lacks w h s p on holds address n ran));
        from_front = λ n is. subst (λ (y : Step). (step w y).world ≡ (step w (CopyIn h address (copied (step w y).reply))).world) (sym is) (in_front_world w h s p on address n (in_ran w h s address n p on (made_as (CopyIn h address n) is)));
        to = λ bytes is. subst (Out bytes) (sym is)
            (let ran = out_ran w h s address bytes p on (made_as (CopyOut h address bytes) is) in
            copies_out w h s address bytes p (λ k. LacksFrames (step w (CopyOut h address bytes)).world s access.Store (address + k)) ran (out_lacks w h s p on holds address bytes ran));
        to_front = λ bytes front is. subst (λ (y : Step). front.now ≡ take (copied (step w y).reply) bytes.now → (step w y).world ≡ (step w (CopyOut h address front)).world) (sym is)
            (out_front_world w h s p on address bytes front (out_ran w h s address bytes p on (made_as (CopyOut h address bytes) is)));
        to_ready = λ bytes q i is. subst (λ (y : Step). i < copied (step w y).reply → process_in (step w y).world s ≡ Some q → IsResident q (byte access.Store (address + i))) (sym is)
            (out_ready w h s address bytes p on (out_ran w h s address bytes p on (made_as (CopyOut h address bytes) is)) q i);
      }

  leaves_others : OneEach w → ((s : ℕ) (q : Process) → process_in m.after s ≡ Some q → q.scheme ≡ (m.after).scheme) → ((s : ℕ) (q : Process) → process_in m.after s ≡ Some q → IsSound q) → LeavesOthers m
  leaves_others one schemes sound =
      let keeps = step_keeps w x in
      record {
        kept = λ s q apart lives. kept_by s q w x apart lives;
        refused = λ e is. refused_same w x e is;
        empty = keeps.empty;
        harts = keeps.harts;
        buffers = λ k hart made. keeps.buffers made k hart;
        stale = λ k t hart made. keeps.marks made k t hart;
        filled = λ h address n is. subst (λ (y : Step). (step w y).reply ≡ Scalar (Filled n) → option_map length (keys_on (step w y).world h) ≡ Some (n + 1)) (sym is) (fill_counts w h address n);
        one_hart = one_after w x one;
        files = keeps.files;
        memory = (step_suits w x).memory;
        slots = keeps.places;
        order = λ s q lives. (sound s q lives).ordered;
        scheme = (step_suits w x).scheme;
        policy = (step_suits w x).policy;
        schemes = schemes;
      }

  module _ (sound : (s : ℕ) (p : Process) → process_in w s ≡ Some p → IsSound p) (h s : ℕ) (p : Process) (on : IsOnHart w h s p) where
    made_as_one : (y : Step) → x ≡ y → IsMade (step w x).reply → IsMade (step w y).reply
    made_as_one y is = subst (λ (z : Step). IsMade (step w z).reply) is

    makes_own : MakesOwn m h s p
    makes_own = record {
      next = λ phase after is made from next. subst (λ (y : Step). IsOnHart (step w y).world h s p × IsInPhase (step w y).world h after) (sym is)
          (next_goes w h s p phase after on from next (λ kernel. next_quiet w h s p on (from ∙ ap Some kernel) (made_as_one (Next h) is made)));
      trap = λ user is. subst (λ (y : Step). (slot_on (step w y).world h ≡ Some s) × IsInPhase (step w y).world h Enter0) (sym is) (trap_goes w h s p on user);
      fork = λ k is. subst (λ (y : Step). ForkReply w (step w y).reply) (sym is) (fork_replies w h s p on k);
      exec = λ image k is. subst (λ (y : Step). ExecReply w image (step w y).reply) (sym is) (exec_replies w h s p on k image);
      sbrk = λ delta k is. subst (λ (y : Step). SizeReply p delta (step w y).reply) (sym is) (sbrk_replies w h s p on k (sound s p on.lives).ordered delta);
      mmap = λ len protection flags n k is. subst (λ (y : Step). MapReply w.files p len protection flags n (step w y).reply) (sym is) (mmap_replies w h s p on k len protection flags n);
      munmap = λ address len k is. subst (λ (y : Step). UnmapReply p address len (step w y).reply) (sym is) (munmap_replies w h s p on k address len);
    }

  as_made : (y : Step) → x ≡ y → IsMade (step w x).reply → IsMade (step w y).reply
  as_made y is = subst (λ (z : Step). IsMade (step w z).reply) is

  makes_steps : MakesSteps m
  makes_steps = record {
    replies = (step_suits w x).replies;
    exited = λ h status code is. subst (λ (y : Step). (step w y).reply ≡ Scalar (Exited code) → code ≡ status) (sym is) (exit_tells w h status code);
    in_frame = λ h offset n via is. subst (λ (y : Step). (step w y).reply ≡ Scalar (InFrame n) → n ≡ 0) (sym is) (fetch_tells w h offset n via);
    refused = λ h e on applies. is_refused w x h e on applies;
    made = λ h on none own host. is_made w x h on none own host;
    hosted = λ h e made. step_hosted w h x e made;
    start = λ image is. subst (λ (y : Step). StartReply w image (step w y).reply) (sym is) (start_replies w image);
    started = λ image s is. subst (λ (y : Step). (step w y).reply ≡ Scalar (Started s) → (p : Process) × (process_in (step w y).world s ≡ Some p) × Begins (moment_of w y) p) (sym is) (λ e. let k = start_brings w image s e in (k.1, k.2, k.3));
    switch = λ h s p is made lives. let goes = as_made (Switch h (Some s)) is made in subst (λ (y : Step). IsOnHart (step w y).world h s p × IsInPhase (step w y).world h Kernel) (sym is)
        (switch_goes w h s p lives (switch_was w h s goes).2 (switch_phase w h s goes));
    left = λ h is made. subst (λ (y : Step). (slot_on (step w y).world h ≡ None) × IsInPhase (step w y).world h Idle) (sym is) (switch_off w h (as_made (Switch h None) is made));
  }

  -- ---- frames

  module _ (holds : Holds New w) (sound : (s : ℕ) (p : Process) → process_in w s ≡ Some p → IsSound p) where
    abbrev Spending : Step → Type 0
    Spending y = (n : ℕ) × ((frames : ℕ) → Spends (in_memory w frames) (step (in_memory w frames) y) n)

    copy_spending : (h k : ℕ) (y : Step) → CopiesBytes h k y → Spending y
    copy_spending h k y (CopiesBytes.copy_in {address} {n}) = copies_in_spend w holds h address n
    copy_spending h k y (CopiesBytes.copy_out {address} {bytes}) = copies_out_spend w holds h address bytes

    counts_frames : CountsFrames m
    counts_frames = record {
      start = λ image s ls to loads is. subst (λ (y : Step). Spends w (step w y) (1 + frames_for_image w.scheme ls)) (sym is) (start_needs w (are_new w holds) image s ls to loads);
      exec = λ h s p image ls on k loads is. subst (λ (y : Step). (is_no_frame_reply (step w y).reply ≡ nat_lt (free w) (frames_for_image w.scheme ls)) × ((step w y).reply ≡ Scalar Done → free (step w y).world + (1 + frames_for_image w.scheme ls) ≡ free (without_process w s))) (sym is)
          (exec_needs w (are_new w holds) h s p on image ls k loads);
      fork = λ h s t p on k to is. subst (λ (y : Step). Spends w (step w y) (frames_for_child p)) (sym is) (fork_needs w (are_new w holds) h s p on t k to);
      serve = λ h s p a t g. subst (λ (y : Step). Spends w (step w y) (frames_for_page w s p a.access (page_of a.address))) (sym t.serves)
          (serve_needs w (are_new w holds) h s p a (sound s (with_pending_access p a) t.on.lives) t.on (subst (λ (y : Step). IsMade (step w y).reply) t.serves t.made) g);
      room = λ h k copies. copy_room w holds h k x copies;
      copy = λ h k copies. let t = copy_spending h k x copies in (t.0, t.1 w.frames, t.1);
      only = says_only w x;
      no_other = keeps_free w x;
    }

    holds_frames : Shares w → Holds New m.after → Shares m.after → HoldsFrames m
    holds_frames f later shares = record {
      once = one_copy m.after (are_new m.after later);
      shared = shared_page m.after shares;
      started = λ image s p is. subst (λ (y : Step). (step w y).reply ≡ Scalar (Started s) → process_in (step w y).world s ≡ Some p → HasNewFrames w p) (sym is) (started_frames w (are_new w holds) s p image);
      replaced = λ h s p q image on is. subst (λ (y : Step). (step w y).reply ≡ Scalar Done → process_in (step w y).world s ≡ Some q → HasNewFrames w q) (sym is) (replaced_frames w h s p on (lone_of w s p on.lives f) (are_new w holds) image q);
      child = λ h s t p c on is. subst (λ (y : Step). (step w y).reply ≡ Scalar (Forked t) → process_in (step w y).world t ≡ Some c → SharesFrames p c) (sym is) (child_frames w h s p on (lone_of w s p on.lives f) t c);
      kept = λ h s p q on makes not there. kept_frames w h s p on (lone_of w s p on.lives f) (are_new w holds) x q makes not there;
    }

  -- ---- bytes

  reads_latest : (past : List Moment) → HoldsLatest past w → ReadsLatest past m
  reads_latest past l = record { has = λ s a. has_latest (m ∷ past) (step w x).world s a (run_holds (x ∷ []) w past l); read = read; brought = brought }
    where
      -- a store answers no value
      no_value : (h address width value v : ℕ) (via : Option ℕ) → (plain_step w (Store h address width value via)).reply ≢ Scalar (Value v)
      no_value h address width value v via = access_good w (λ (o : StepOutcome). o.reply ≢ Scalar (Value v)) (λ r e. cc) h access.Store address width value via (λ hart t p cause lives on e. cc) (λ hart t p page lives on there fits e. cc)

      by : (h s v : ℕ) (a : UserAccess) (via : Option ℕ) (y : Step) → slot_on w h ≡ Some s → IsAccessStep h via a y → (step w y).reply ≡ Scalar (Value v) → IsLatest past s a.address a.width v
      by h s v a via y on (IsAccessStep.fetch {address}) e = read_is_latest past w s address 4 v l (fetch_reads w h s address v via on e)
      by h s v a via y on (IsAccessStep.load {address} {width}) e = read_is_latest past w s address width v l (load_reads w h s address width v via on e)
      by h s v a via y on (IsAccessStep.store {address} {width} {value}) e = absurd (no_value h address width value v via (sym (step_reply w (Store h address width value via)) ∙ e))

      read : (h s v : ℕ) (a : UserAccess) (via : Option ℕ) → slot_on w h ≡ Some s → IsAccessStep h via a x → (step w x).reply ≡ Scalar (Value v) → IsLatest past s a.address a.width v
      read h s v a via on asks e = by h s v a via x on asks e

      brought : (h s address n : ℕ) → slot_on w h ≡ Some s → x ≡ CopyIn h address n → AreLatest (m ∷ past) s address (bytes_in (step w x).reply)
      brought h s address n on is = subst (λ (y : Step). AreLatest (moment_of w y ∷ past) s address (bytes_in (step w y).reply)) (sym is)
          (λ i few. sym ((run_holds (CopyIn h address n ∷ []) w past l).told s (address + i)) ∙ copy_holds w h s address n l.sized on i few)

-- ---- all steps of a run

abbrev SameSchemes : World → Type 0
SameSchemes w = (s : ℕ) (q : Process) → process_in w s ≡ Some q → q.scheme ≡ w.scheme

abbrev AllSound : World → Type 0
AllSound w = (s : ℕ) (q : Process) → process_in w s ≡ Some q → IsSound q

one_more_moment : (xs : List Step) (x : Step) (w : World) (past : List Moment) → moments_from past w (xs ++ x ∷ []) ≡ moment_of (run w xs).world x ∷ moments_from past w xs
one_more_moment [] x w past = refl
one_more_moment (y ∷ ys) x w past = one_more_moment ys x (step w y).world (moment_of w y ∷ past)

module _ (c : Config) (files : List File) where
  abbrev world_after : List Step → World
  world_after done = (run (booted c files) done).world

  abbrev past_of : List Step → List Moment
  past_of done = moments_from [] (booted c files) done

  holds_next : (done : List Step) (x : Step) → headline.Holds (past_of done) (moment_of (world_after done) x)
  holds_next done x =
      let w = world_after done in
      record {
        users = answers_user w x (latest_held c files done).sized (always_sound c files done);
        copies = copies_for_kernel w x (always_holds New c files done (fresh_is_kept c.scheme));
        frames = counts_frames w x (always_holds New c files done (fresh_is_kept c.scheme)) (always_sound c files done);
        held = holds_frames w x (always_holds New c files done (fresh_is_kept c.scheme)) (always_sound c files done) (always_shares c files done)
            (subst (λ (v : World). Holds New v) (run_one_more done (booted c files) x) (always_holds New c files (done ++ x ∷ []) (fresh_is_kept c.scheme))) (subst Shares (run_one_more done (booted c files) x) (always_shares c files (done ++ x ∷ [])));
        bytes = reads_latest w x (past_of done) (latest_held c files done);
        others = leaves_others w x (always_one c files done) (subst SameSchemes (run_one_more done (booted c files) x) (always_scheme c files (done ++ x ∷ [])).processes)
            (subst AllSound (run_one_more done (booted c files) x) (always_sound c files (done ++ x ∷ [])));
        own = own_steps w x (latest_held c files done).sized (always_sound c files done);
        made_own = makes_own w x (always_sound c files done);
        made = makes_steps w x;
      }

  all_hold : (xs done : List Step) → AllHold (past_of done) (world_after done) xs (run (world_after done) xs).replies
  all_hold [] done = refl
  all_hold (x ∷ xs) done =
      let m = moment_of (world_after done) x in
      let world : world_after (done ++ x ∷ []) ≡ m.after = run_one_more done (booted c files) x in
      let past : past_of (done ++ x ∷ []) ≡ m ∷ past_of done = one_more_moment done x (booted c files) [] in
      (holds_next done x, subst (λ (ms : List Moment). AllHold ms m.after xs (run m.after xs).replies) past (subst (λ (w : World). AllHold (past_of (done ++ x ∷ [])) w xs (run w xs).replies) world (all_hold xs (done ++ x ∷ []))))

-- the headline holds of what the model replies
pub headline_holds : (c : Config) (files : List File) (earlier steps : List Step) → Headline c files earlier steps (run (run (booted c files) earlier).world steps).replies
headline_holds c files earlier steps = all_hold c files steps earlier
