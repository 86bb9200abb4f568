-- Lemmas: by its own step a process keeps its page tables, and its settled pages keep their copy numbers or get new ones
-- (`Reworks` of `PageOrigins`); after a start and an exec all are new; a forked child has its parent's. First step by step
-- (`Housed`), then in the words of `FrameNeeds`, for part `HoldsFrames` of the headline.
use Rattle.std.proofs.Common.{◌≡◌, ◌≢◌, ◌⊎◌, ℕ, ℤ, Bool, true, false, not, ◌&&◌, ◌||◌, ◌%◌, ◌≤◌, inl, inr, refl, sym, ap, subst, ◌∙◌, arith, List, Option, None, Some, Bor}
use Rattle.std.specs.Prelude.{is_some, option_map, Result, Ok, Err}
use Rattle.std.proofs.lemmas.Bool.{false≢true}
use Rattle.std.proofs.lemmas.Option.{same_Some}
use Rattle.process_laws.proofs.Children.{child_put}
use Rattle.process_laws.proofs.Granting.{granted_by}
use Rattle.process_laws.proofs.HeldBytes.{free_there, in_range, none_some, set_puts}
use Rattle.process_laws.proofs.OnHarts.{access_good, its_good, kernel_good, on_hart_good}
use Rattle.process_laws.proofs.OnHarts as harts
use Rattle.process_laws.proofs.PageOrigins.{Came, child_shares, Grows, GrowsIfOk, image_anew, in_far, IsAnew, Lone, marked_reworks, out_far, put_grows, put_on, reached_grows, released_reworks, Reworks, same_came, still}
use Rattle.process_laws.proofs.Running.{set_lives, step_process, step_reply}
use Rattle.process_laws.proofs.Untouched.{free_is_empty}
use Rattle.process_laws.specs.CopyNumbers.{HasNewCopies}
use Rattle.process_laws.specs.Moments.{slot_on}
use Rattle.process_laws.specs.FrameNeeds.{copy_on, HasNewFrames, IsNewCopy, IsTaken, KeepsFrames, SharesFrames}
use Rattle.process_laws.specs.Pages.{has_cow_mark, has_mark}
use Rattle.process_laws.specs.Words.{hart_of_step, IsOnHart}
use Rattle.process_model.specs.Bytes.{pages_for, is_width}
use Rattle.process_model.specs.Calls.{copy_in_outcome, copy_out_outcome, forked, forked_unless, mapped_to, replaced, replaced_unless, resized_to, started, started_unless, unmapped_to}
use Rattle.process_model.specs.Copies.{copied_in, copied_out}
use Rattle.process_model.specs.Environment.{Progress}
use Rattle.process_model.specs.Harts.{Hart}
use Rattle.process_model.specs.Heap.{resized_unless, sbrk_result}
use Rattle.process_model.specs.ImageProcess.{process_of}
use Rattle.process_model.specs.Images.{image_loads, LoadSegment}
use Rattle.process_model.specs.Mappings.{mapped, mapped_unless, unmapped, unmapped_if, unmapped_in, unmapped_unless}
use Rattle.process_model.specs.PageMap.{get}
use Rattle.process_model.specs.Process.{grants_write, Page, Pending, Process, regions, without_pending}
use Rattle.process_model.specs.Regions.{first_rule, Region, keeps_stores, lacks_right}
use Rattle.process_model.specs.Residence.{access_answer, can_complete, child_of, marked, region_on, with_page}
use Rattle.process_model.specs.Service.{access_outcome, ended, environment_of, faulted, initial_progress, served, served_or_ended, with_served, AccessRequest, Answer, if_resident, if_settled, unless_denied, user_access}
use Rattle.process_model.specs.Service as service
use Rattle.process_model.specs.Steps.{plain_step, step}
use Rattle.process_model.specs.World.{answers, free_slot, kernel_call, others_have, StepOutcome, process_in, refuses, with_hart, with_process, World}
use Rattle.process_model.specs.declared.image.BadImage.{BadImage}
use Rattle.process_model.specs.declared.image.Image.{Image}
use Rattle.process_model.specs.declared.phase.Phase.TheVariants.{Enter0}
use Rattle.process_model.specs.declared.reply.Refusal.{Refusal}
use Rattle.process_model.specs.declared.reply.Reply.{Reply}
use Rattle.process_model.specs.declared.reply.ScalarReply.TheVariants.{Done, Ended, Exited, Forked, Ready, Started}
use Rattle.process_model.specs.declared.reply.Reply.TheVariants.{Scalar}
use Rattle.process_model.specs.declared.step.Step.{Step}
use Rattle.process_model.specs.declared.step.Step.TheVariants as step_of
use Rattle.sv39_entry.specs.Address.{page_of}
use Rattle.sv39_entry.specs.declared.access.Access.{Access}
use Rattle.sv39_entry.specs.declared.access.Access.TheVariants as access
use Rattle.sv39_entry.specs.declared.rule.Rule.{Rule}

-- ---- an access that is answered is granted, and its page ready

module _ (Good : Answer → Type 0) (x : AccessRequest) (p : Process) where
  abbrev Answers : Page → Type 0
  Answers page = Good (service.answered p x (access_answer x.access page (x.address % 4096) x.width x.value))

  ready_page : (page : Page) (b : Bool) → can_complete x.access (region_on p (page_of x.address)) page ≡ b → ((cause : ℕ) → Good (faulted p x cause)) → (can_complete x.access (region_on p (page_of x.address)) page ≡ true → Answers page) → Good (if_resident p x page b)
  ready_page page true e fails f = f e
  ready_page page false e fails f = fails _

  ready_settled : (o : Option Page) → get p.settled (page_of x.address) ≡ o → ((cause : ℕ) → Good (faulted p x cause)) → ((page : Page) → get p.settled (page_of x.address) ≡ Some page → can_complete x.access (region_on p (page_of x.address)) page ≡ true → Answers page)
      → Good (if_settled p x o)
  ready_settled None e fails f = fails _
  ready_settled (Some page) e fails f = ready_page page _ refl fails (f page e)

  ready_granted : (o : Option Rule) → first_rule p.scheme (regions p) x.access x.address x.width ≡ o → ((cause : ℕ) → Good (faulted p x cause))
      → (first_rule p.scheme (regions p) x.access x.address x.width ≡ None → (page : Page) → get p.settled (page_of x.address) ≡ Some page → can_complete x.access (region_on p (page_of x.address)) page ≡ true → Answers page) → Good (unless_denied p x o)
  ready_granted (Some r) e fails f = fails _
  ready_granted None e fails f = ready_settled (get p.settled (page_of x.address)) refl fails (f e)

-- ---- steps

module _ (w : World) (h s : ℕ) (p : Process) (on : IsOnHart w h s p) (lone : Lone w.counter (others_have w s) p) where
  abbrev pub Reworked : Process → Type 0
  Reworked q = Reworks w.counter (others_have w s) p q

  -- what has become of the process in the slot
  pub data Housed (x : Step) (o : StepOutcome) : Type 0 where
    alive : (q : Process) → process_in o.world s ≡ Some q → Reworked q → ((image : Image) → x ≡ step_of.Exec h image → o.reply ≢ Scalar Done) → Housed x o
    anew : (q : Process) → process_in o.world s ≡ Some q → IsAnew w.counter q → (image : Image) → x ≡ step_of.Exec h image → o.reply ≡ Scalar Done → Housed x o
    gone : process_in o.world s ≡ None → Housed x o

  unmoved : Reworked p
  unmoved = (still w.counter (others_have w s) p).reworks

  -- what waits is no frame
  waiting : (q : Process) (a : Option Pending) → Reworked q → Reworked (record q { pending = a })
  waiting q a f = record { tables = f.tables; copies = f.copies }

  quiet : (x : Step) (r : Refusal) → Housed x (refuses w r)
  quiet x r = Housed.alive p on.lives unmoved (λ image e is. absurd cc)

  puts : (x : Step) (v : World) (r : Reply) (q : Process) → v.slots ≡ (with_process w s q).slots → ((image : Image) → x ≡ step_of.Exec h image → ⊥) → Reworked q → Housed x (answers v r)
  puts x v r q e other f = Housed.alive q ((set_puts w v s (Some q) (in_range w s p on.lives) e).here) f (λ image is. absurd (other image is))

  ends : (x : Step) (hart : Hart) (r : Reply) → Housed x (ended w h hart s p r)
  ends x hart r = Housed.gone ((set_puts w (ended w h hart s p r).world s None (in_range w s p on.lives) refl).here)

  its : (x : Step) (f : ℕ → Process → StepOutcome) (t : ℕ) (q : Process) → slot_on w h ≡ Some t → process_in w t ≡ Some q → Housed x (f s p) → Housed x (f t q)
  its x f t q at here fate =
      let slots : s ≡ t = same_Some s t (sym on.there ∙ at) in
      let same : p ≡ q = same_Some p q (sym on.lives ∙ ap (process_in w) slots ∙ here) in
      subst (λ (r : Process). Housed x (f t r)) same (subst (λ k. Housed x (f k p)) slots fate)

  same_process : (t : ℕ) (q : Process) → slot_on w h ≡ Some t → process_in w t ≡ Some q → p ≡ q
  same_process t q at here = same_Some p q (sym on.lives ∙ ap (process_in w) (same_Some s t (sym on.there ∙ at)) ∙ here)

  begun : (q : Process) → Grows w.counter (others_have w s) (without_pending p) q → Reworked q
  begun q f = record { tables = f.reworks.tables; copies = f.reworks.copies }

  trap : Housed (step_of.Trap h) (plain_step w (step_of.Trap h))
  trap =
      let x = step_of.Trap h in
      on_hart_good w (Housed x) (quiet x) h true _ _ _ (λ hart is _. its_good w (Housed x) (quiet x) h hart _ is
      (λ t q at here. its x (λ t q. answers (with_hart (with_process w t (without_pending q)) h (record hart { phase = Enter0 })) (Scalar Done)) t q at here
      (puts x _ (Scalar Done) (without_pending p) refl (λ image e. absurd cc) (waiting p None unmoved))))

  read_only : (kind : Access) (address width value : ℕ) (page : Page) (t : ℕ) (q : Process) → slot_on w h ≡ Some t → process_in w t ≡ Some q → get q.settled (page_of address) ≡ Some page → (access_answer kind page (address % 4096) width value).1 ≡ page
      → Reworked (without_pending (with_page p (page_of address) (access_answer kind page (address % 4096) width value).1))
  read_only kind address width value page t q at here e same =
      let there : get p.settled (page_of address) ≡ Some page = ap (λ (r : Process). get r.settled (page_of address)) (same_process t q at here) ∙ e in
      let n = w.counter in
      let shared = others_have w s in
      waiting (with_page p (page_of address) (access_answer kind page (address % 4096) width value).1) None
      (subst (λ (z : Page). Grows n shared p (with_page p (page_of address) z)) (sym same) (put_grows n shared p (page_of address) page page there (same_came n shared page) (λ e. e))).reworks

  fetch : (address : ℕ) (via : Option ℕ) → Housed (step_of.Fetch h address via) (plain_step w (step_of.Fetch h address via))
  fetch address via =
      let x = step_of.Fetch h address via in
      access_good w (Housed x) (quiet x) h access.Fetch address 4 0 via
      (λ hart t q cause here at. its x (λ t q. access_outcome w h hart t (faulted q (harts.asks access.Fetch address 4 0) cause)) t q at here (puts x _ _ _ refl (λ image e. absurd cc) (waiting p _ unmoved)))
      (λ hart t q page here at e fits. its x (λ t q. access_outcome w h hart t (service.answered q (harts.asks access.Fetch address 4 0) (access_answer access.Fetch page (address % 4096) 4 0))) t q at here
      (puts x _ _ _ refl (λ image e. absurd cc) (read_only access.Fetch address 4 0 page t q at here e refl)))

  load : (address width : ℕ) (via : Option ℕ) → Housed (step_of.Load h address width via) (plain_step w (step_of.Load h address width via))
  load address width via =
      let x = step_of.Load h address width via in
      access_good w (Housed x) (quiet x) h access.Load address width 0 via
      (λ hart t q cause here at. its x (λ t q. access_outcome w h hart t (faulted q (harts.asks access.Load address width 0) cause)) t q at here (puts x _ _ _ refl (λ image e. absurd cc) (waiting p _ unmoved)))
      (λ hart t q page here at e fits. its x (λ t q. access_outcome w h hart t (service.answered q (harts.asks access.Load address width 0) (access_answer access.Load page (address % 4096) width 0))) t q at here
      (puts x _ _ _ refl (λ image e. absurd cc) (read_only access.Load address width 0 page t q at here e refl)))

  store_may : (address width value : ℕ) (page : Page) → first_rule p.scheme (regions p) access.Store address width ≡ None → get p.settled (page_of address) ≡ Some page → can_complete access.Store (region_on p (page_of address)) page ≡ true
      → Reworked (without_pending (with_page p (page_of address) (access_answer access.Store page (address % 4096) width value).1))
  store_may address width value page none there can =
      let g = granted_by p (record { access = access.Store; address = address; width = width }) none in
      let grants : grants_write p (page_of address) ≡ true = ap (λ o. not (lacks_right access.Store o)) g.has ∙ ap (λ b. not (not b)) g.right in
      let bare = unmarked page.cow (page.dirty || not (keeps_stores (region_on p (page_of address)))) can in
      waiting (with_page p (page_of address) (access_answer access.Store page (address % 4096) width value).1) None
      (put_on w.counter (others_have w s) p p (page_of address) page _ lone (still w.counter (others_have w s) p) there refl bare bare grants).reworks
    where
      unmarked : (a b : Bool) → (not a && b) ≡ true → a ≡ false
      unmarked true b e = absurd cc
      unmarked false b e = refl

  store : (address width value : ℕ) (via : Option ℕ) → Housed (step_of.Store h address width value via) (plain_step w (step_of.Store h address width value via))
  store address width value via =
      let x = step_of.Store h address width value via in
      let asked = harts.asks access.Store address width value in
      on_hart_good w (Housed x) (quiet x) h (is_width width) _ _ _ (λ hart is _. its_good w (Housed x) (quiet x) h hart _ is (λ t q at here.
      its x (λ t q. access_outcome w h hart t (user_access q asked)) t q at here
      (ready_granted (λ y. Housed x (access_outcome w h hart s y)) asked p (first_rule p.scheme (regions p) access.Store address width) refl
      (λ cause. puts x _ _ _ refl (λ image e. absurd cc) (waiting p _ unmoved))
      (λ none page there can. puts x _ _ _ refl (λ image e. absurd cc) (store_may address width value page none there can)))))

  serve_or : (hart : Hart) (a : Pending) (r : Result Progress Rule) → GrowsIfOk w.counter (others_have w s) p r → Housed (step_of.Serve h) (served_or_ended w h hart s p a r)
  serve_or hart a (Err r) GrowsIfOk.stopped = ends (step_of.Serve h) hart (Scalar (Ended r))
  serve_or hart a (Ok g) (GrowsIfOk.came f le) = puts (step_of.Serve h) _ (Scalar Ready) (with_served g a).process refl (λ image e. absurd cc) (waiting g.process _ f.reworks)

  serve_as : (hart : Hart) (o : Option Pending) → Housed (step_of.Serve h) (served w h hart s p o)
  serve_as hart None = quiet (step_of.Serve h) _
  serve_as hart (Some a) = serve_or hart a _ (reached_grows w.counter (others_have w s) (environment_of w s) (λ copy. refl) a.access a.address (initial_progress w p) (first_rule p.scheme (regions p) a.access a.address a.width) (omega arith))

  serve : Housed (step_of.Serve h) (plain_step w (step_of.Serve h))
  serve =
      let x = step_of.Serve h in
      on_hart_good w (Housed x) (quiet x) h true _ _ _ (λ hart is _. its_good w (Housed x) (quiet x) h hart _ is (λ t q at here. its x (λ t q. served w h hart t q q.pending) t q at here (serve_as hart p.pending)))

  exit : (status : ℤ) → Housed (step_of.Exit h status) (plain_step w (step_of.Exit h status))
  exit status =
      let x = step_of.Exit h status in
      on_hart_good w (Housed x) (quiet x) h true _ _ _ (λ hart is _. its_good w (Housed x) (quiet x) h hart _ is (λ t q at here. its x (λ t q. ended w h hart t q (Scalar (Exited status))) t q at here (ends x hart (Scalar (Exited status)))))

  call : (x : Step) (proper : Bool) (run : Hart → ℕ → Process → StepOutcome) → ((hart : Hart) → Housed x (run hart s p)) → Housed x (kernel_call w h proper run)
  call x proper run each = kernel_good w (Housed x) (quiet x) h proper run (λ hart t q at here. its x (run hart) t q at here (each hart))

  fork_unless : (child : ℕ) (b : Bool) → free_slot w ≡ Some child → Housed (step_of.Fork h) (forked_unless w s p child b)
  fork_unless child true free = quiet (step_of.Fork h) _
  fork_unless child false free = Housed.alive (marked p) lives (marked_reworks w.counter (others_have w s) p) (λ image e. absurd cc)
    where
      apart : child ≡ s → ⊥
      apart same = let empty : process_in w s ≡ None = free_is_empty w.slots 0 child s free (omega (arith, same)) in absurd (none_some (sym empty ∙ on.lives))

      lives : process_in (with_process (with_process w s (marked p)) child (child_of p)) s ≡ Some (marked p)
      lives = (child_put w s p child free).others s apart ∙ set_lives w.slots s p (marked p) on.lives

  fork_as : (o : Option ℕ) → free_slot w ≡ o → Housed (step_of.Fork h) (forked w s p o)
  fork_as None free = quiet (step_of.Fork h) _
  fork_as (Some child) free = fork_unless child _ free

  exec_unless : (image : Image) (ls : List LoadSegment) (b : Bool) → Housed (step_of.Exec h image) (replaced_unless w s p ls b)
  exec_unless image ls true = quiet (step_of.Exec h image) _
  exec_unless image ls false = Housed.anew (process_of w.scheme w.counter ls) ((set_puts w (replaced_unless w s p ls false).world s (Some (process_of w.scheme w.counter ls)) (in_range w s p on.lives) refl).here) (image_anew w.scheme w.counter ls) image refl refl

  exec_as : (image : Image) (r : Result (List LoadSegment) BadImage) → Housed (step_of.Exec h image) (replaced w s p r)
  exec_as image (Err e) = quiet (step_of.Exec h image) _
  exec_as image (Ok ls) = exec_unless image ls _

  size_unless : (delta : ℤ) (n : ℕ) (o : Option Refusal) → Housed (step_of.Sbrk h delta) (resized_to w s p (resized_unless p n o))
  size_unless delta n (Some r) = quiet (step_of.Sbrk h delta) r
  size_unless delta n None = puts (step_of.Sbrk h delta) _ _ _ refl (λ image e. absurd cc) (released_reworks w.counter (others_have w s) p _ (pages_for n) (pages_for p.size) refl refl)

  size_as : (delta : ℤ) → Housed (step_of.Sbrk h delta) (resized_to w s p (sbrk_result p delta))
  unfolding sbrk_result
  size_as delta = size_unless delta _ _

  map_unless : (x : Step) (m : Region) (o : Option Refusal) → ((image : Image) → x ≡ step_of.Exec h image → ⊥) → Housed x (mapped_to w s (mapped_unless p m o))
  map_unless x m (Some r) other = quiet x r
  map_unless x m None other = puts x _ _ _ refl other (record { tables = unmoved.tables; copies = unmoved.copies })

  map_as : (len protection flags n : ℕ) → Housed (step_of.Mmap h len protection flags n) (mapped_to w s (mapped w.files p len protection flags n))
  unfolding mapped
  map_as len protection flags n = map_unless (step_of.Mmap h len protection flags n) _ _ (λ image e. absurd cc)

  module _ (address len first end : ℕ) where
    abbrev munmap : Step
    munmap = step_of.Munmap h address len

    hole_unless : (m : Region) (b : Bool) → Housed munmap (unmapped_to w s (unmapped_unless w.files p m first end b))
    hole_unless m true = quiet munmap _
    hole_unless m false = puts munmap _ _ _ refl (λ image e. absurd cc) (released_reworks w.counter (others_have w s) p _ first end refl refl)

    hole_in : (o : Option Region) → Housed munmap (unmapped_to w s (unmapped_in w.files p first end o))
    hole_in None = quiet munmap _
    hole_in (Some m) = hole_unless m _

    hole_if : (b : Bool) → Housed munmap (unmapped_to w s (unmapped_if w.files p first end b))
    hole_if false = quiet munmap _
    hole_if true = hole_in _

  unmap_as : (address len : ℕ) → Housed (step_of.Munmap h address len) (unmapped_to w s (unmapped w.files p address len))
  unfolding unmapped
  unmap_as address len = hole_if address len _ _ _

  copy_in : (address n : ℕ) → Housed (step_of.CopyIn h address n) (copy_in_outcome w s (copied_in (environment_of w s) (initial_progress w (without_pending p)) address n))
  copy_in address n =
      let g = initial_progress w (without_pending p) in
      let f = in_far w.counter (others_have w s) (environment_of w s) (λ copy. refl) (without_pending p) g address n (still w.counter (others_have w s) (without_pending p)) (omega arith) in
      puts (step_of.CopyIn h address n) _ _ ((copied_in (environment_of w s) g address n).progress).process refl (λ image e. absurd cc) (begun _ f.far)

  copy_out : (address : ℕ) (bytes : Bor (List ℕ)) → Housed (step_of.CopyOut h address bytes) (copy_out_outcome w s (copied_out (environment_of w s) (initial_progress w (without_pending p)) address bytes.now))
  copy_out address bytes =
      let g = initial_progress w (without_pending p) in
      let f = out_far w.counter (others_have w s) (environment_of w s) (λ copy. refl) (without_pending p) lone g address bytes.now (still w.counter (others_have w s) (without_pending p)) (omega arith) refl in
      puts (step_of.CopyOut h address bytes) _ _ ((copied_out (environment_of w s) g address bytes.now).progress).process refl (λ image e. absurd cc) (begun _ f.far)

  abbrev pub Own : Step → Type 0
  Own x = Housed x (plain_step w x)

  pub own : (x : Step) → hart_of_step x ≡ Some h → Own x
  own (step_of.Start image) e = absurd cc
  own (step_of.Switch k slot) e = absurd cc
  own (step_of.Trap k) e = subst (λ n. Own (step_of.Trap n)) (sym (same_Some k h e)) trap
  own (step_of.Next k) e = absurd cc
  own (step_of.Fill k address) e = absurd cc
  own (step_of.Evict k n) e = absurd cc
  own (step_of.Fetch k address via) e = subst (λ n. Own (step_of.Fetch n address via)) (sym (same_Some k h e)) (fetch address via)
  own (step_of.Load k address width via) e = subst (λ n. Own (step_of.Load n address width via)) (sym (same_Some k h e)) (load address width via)
  own (step_of.Store k address width value via) e = subst (λ n. Own (step_of.Store n address width value via)) (sym (same_Some k h e)) (store address width value via)
  own (step_of.TrampolineFetch k offset via) e = absurd cc
  own (step_of.Serve k) e = subst (λ n. Own (step_of.Serve n)) (sym (same_Some k h e)) serve
  own (step_of.Fork k) e = subst (λ n. Own (step_of.Fork n)) (sym (same_Some k h e)) (call _ true _ (λ hart. fork_as (free_slot w) refl))
  own (step_of.Exec k image) e = subst (λ n. Own (step_of.Exec n image)) (sym (same_Some k h e)) (call _ true _ (λ hart. exec_as image (image_loads w.scheme image)))
  own (step_of.Sbrk k delta) e = subst (λ n. Own (step_of.Sbrk n delta)) (sym (same_Some k h e)) (call _ true _ (λ hart. size_as delta))
  own (step_of.Mmap k len protection flags i) e = subst (λ n. Own (step_of.Mmap n len protection flags i)) (sym (same_Some k h e)) (call _ true _ (λ hart. map_as len protection flags i))
  own (step_of.Munmap k address len) e = subst (λ n. Own (step_of.Munmap n address len)) (sym (same_Some k h e)) (call _ true _ (λ hart. unmap_as address len))
  own (step_of.CopyIn k address i) e = subst (λ n. Own (step_of.CopyIn n address i)) (sym (same_Some k h e)) (call _ _ _ (λ hart. copy_in address i))
  own (step_of.CopyOut k address bytes) e = subst (λ n. Own (step_of.CopyOut n address bytes)) (sym (same_Some k h e)) (call _ _ _ (λ hart. copy_out address bytes))
  own (step_of.Exit k status) e = subst (λ n. Own (step_of.Exit n status)) (sym (same_Some k h e)) (exit status)

  pub as_step : (x : Step) → Own x → Housed x (step w x)
  as_step x (Housed.alive q e f other) = Housed.alive q (step_process w x s ∙ e) f (λ image is done. other image is (sym (step_reply w x) ∙ done))
  as_step x (Housed.anew q e f image is done) = Housed.anew q (step_process w x s ∙ e) f image is (step_reply w x ∙ done)
  as_step x (Housed.gone e) = Housed.gone (step_process w x s ∙ e)

  -- ---- in the words of the headline

  module _ (new : HasNewCopies w) where
    copy_of : (o : Option Page) (copy : ℕ) → option_map (λ (z : Page). z.copy) o ≡ Some copy → (y : Page) × (o ≡ Some y) × (y.copy ≡ copy)
    copy_of None copy e = absurd cc
    copy_of (Some y) copy e = (y, refl, same_Some _ _ e)

    is_new : (copy : ℕ) → w.counter ≤ copy → IsNewCopy w copy
    is_new copy le t page q lives e =
        let y = copy_of (get q.settled page) copy e in
        let low = new.below t page q y.0 lives y.1 in
        let same = y.2 in
        absurd (omega (arith, low, same, le))

    new_frames : (q : Process) → IsAnew w.counter q → HasNewFrames w q
    new_frames q f = record {
      tables = f.tables;
      copies = λ page copy e. let y = copy_of (get q.settled page) copy e in is_new copy (let above = f.above page y.0 y.1 in let same = y.2 in omega (arith, above, same));
    }

    keeps_frames : (q : Process) → Reworked q → KeepsFrames w s p q
    keeps_frames q f = record {
      tables = f.tables;
      copies = λ page copy e. let y = copy_of (get q.settled page) copy e in copies_by page copy y.0 y.1 y.2 (f.copies page y.0 y.1);
      alone = λ page copy marked unmarked was now. let y = copy_of (get q.settled page) copy now in alone_by page copy y.0 y.1 y.2 marked unmarked was (f.copies page y.0 y.1);
    }
      where
        copies_by : (page copy : ℕ) (y : Page) → get q.settled page ≡ Some y → y.copy ≡ copy → Came w.counter (others_have w s) (get p.settled page) y → (copy_on p page ≡ Some copy) ⊎ (IsNewCopy w copy × IsTaken p q page)
        copies_by page copy y there same (Came.fresh le (inl none)) = inr (is_new copy (omega (arith, same, le)), inl (ap is_some none))
        copies_by page copy y there same (Came.fresh le (inr t)) = inr (is_new copy (omega (arith, same, le)), inr (ap (has_mark (λ x. x.cow)) t.1 ∙ t.2, ap (has_mark (λ x. x.cow)) there ∙ t.3))
        copies_by page copy y there same (Came.kept x is alike mark bytes) = inl (ap (option_map (λ (z : Page). z.copy)) is ∙ ap Some (sym alike ∙ same))

        alone_by : (page copy : ℕ) (y : Page) → get q.settled page ≡ Some y → y.copy ≡ copy → has_cow_mark p page ≡ true → has_cow_mark q page ≡ false → copy_on p page ≡ Some copy → Came w.counter (others_have w s) (get p.settled page) y
            → others_have w s copy ≡ false
        alone_by page copy y there same marked unmarked was (Came.fresh le parted) = absurd (is_new copy (omega (arith, same, le)) s page p on.lives was)
        alone_by page copy y there same marked unmarked was (Came.kept x is alike mark bytes) =
            elim (mark (sym (ap (has_mark (λ z. z.cow)) is) ∙ marked)) [
              | inl now ↦ absurd (false≢true (sym unmarked ∙ ap (has_mark (λ z. z.cow)) there ∙ now))
              | inr alone ↦ ap (others_have w s) (sym (sym alike ∙ same)) ∙ alone
            ]

    kept_by : (x : Step) (q : Process) → process_in (step w x).world s ≡ Some q → ((image : Image) → x ≡ step_of.Exec h image → (step w x).reply ≢ Scalar Done) → Housed x (step w x) → KeepsFrames w s p q
    kept_by x q there not (Housed.alive r e f other) = subst (KeepsFrames w s p) (same_Some r q (sym e ∙ there)) (keeps_frames r f)
    kept_by x q there not (Housed.anew r e f image is done) = absurd (not image is done)
    kept_by x q there not (Housed.gone e) = absurd (none_some (sym e ∙ there))

    pub kept_frames : (x : Step) (q : Process) → hart_of_step x ≡ Some h → ((image : Image) → x ≡ step_of.Exec h image → (step w x).reply ≢ Scalar Done) → process_in (step w x).world s ≡ Some q → KeepsFrames w s p q
    kept_frames x q makes not there = kept_by x q there not (as_step x (own x makes))

    anew_by : (x : Step) (q : Process) (image : Image) → x ≡ step_of.Exec h image → (step w x).reply ≡ Scalar Done → process_in (step w x).world s ≡ Some q → Housed x (step w x) → HasNewFrames w q
    anew_by x q image is done there (Housed.alive r e f other) = absurd (other image is done)
    anew_by x q image is done there (Housed.anew r e f i so d) = subst (HasNewFrames w) (same_Some r q (sym e ∙ there)) (new_frames r f)
    anew_by x q image is done there (Housed.gone e) = absurd (none_some (sym e ∙ there))

    pub replaced_frames : (image : Image) (q : Process) → (step w (step_of.Exec h image)).reply ≡ Scalar Done → process_in (step w (step_of.Exec h image)).world s ≡ Some q → HasNewFrames w q
    replaced_frames image q done there = let x = step_of.Exec h image in anew_by x q image refl done there (as_step x (own x refl))

  -- the child

  child_unless : (t child : ℕ) (c : Process) (b : Bool) → free_slot w ≡ Some child → (forked_unless w s p child b).reply ≡ Scalar (Forked t) → process_in (forked_unless w s p child b).world t ≡ Some c → SharesFrames p c
  child_unless t child c true free e there = absurd cc
  child_unless t child c false free e there =
      let same : child ≡ t = cc in
      subst (SharesFrames p) (same_Some (child_of p) c (sym (child_put w s p child free).here ∙ ap (process_in (forked_unless w s p child false).world) same ∙ there)) (child_shares p)

  child_as : (t : ℕ) (c : Process) (o : Option ℕ) → free_slot w ≡ o → (forked w s p o).reply ≡ Scalar (Forked t) → process_in (forked w s p o).world t ≡ Some c → SharesFrames p c
  child_as t c None free e there = absurd cc
  child_as t c (Some child) free e there = child_unless t child c _ free e there

  child_good : (t : ℕ) (c : Process) → (plain_step w (step_of.Fork h)).reply ≡ Scalar (Forked t) → process_in (plain_step w (step_of.Fork h)).world t ≡ Some c → SharesFrames p c
  child_good t c = kernel_good w (λ (o : StepOutcome). o.reply ≡ Scalar (Forked t) → process_in o.world t ≡ Some c → SharesFrames p c) (λ r e. absurd cc) h true (λ hart k q. forked w k q (free_slot w))
      (λ hart k q at here. subst (λ n. (forked w n q (free_slot w)).reply ≡ Scalar (Forked t) → process_in (forked w n q (free_slot w)).world t ≡ Some c → SharesFrames p c) (same_Some s k (sym on.there ∙ at))
      (subst (λ (z : Process). (forked w s z (free_slot w)).reply ≡ Scalar (Forked t) → process_in (forked w s z (free_slot w)).world t ≡ Some c → SharesFrames p c) (same_process k q at here) (child_as t c (free_slot w) refl)))

  pub child_frames : (t : ℕ) (c : Process) → (step w (step_of.Fork h)).reply ≡ Scalar (Forked t) → process_in (step w (step_of.Fork h)).world t ≡ Some c → SharesFrames p c
  child_frames t c e there = child_good t c (sym (step_reply w (step_of.Fork h)) ∙ e) (sym (step_process w (step_of.Fork h) t) ∙ there)

-- a start

module _ (w : World) (new : HasNewCopies w) (s : ℕ) (p : Process) where
  anew_frames : (q : Process) → IsAnew w.counter q → HasNewFrames w q
  anew_frames q f = record {
    tables = f.tables;
    copies = λ page copy e t other r lives is. by page copy (get q.settled page) refl e t other r lives (get r.settled other) refl is;
  }
    where
      by : (page copy : ℕ) (o : Option Page) → get q.settled page ≡ o → option_map (λ (z : Page). z.copy) o ≡ Some copy → (t other : ℕ) (r : Process) → process_in w t ≡ Some r → (u : Option Page) → get r.settled other ≡ u
          → option_map (λ (z : Page). z.copy) u ≡ Some copy → ⊥
      by page copy None at e t other r lives u there is = absurd cc
      by page copy (Some x) at e t other r lives None there is = absurd cc
      by page copy (Some x) at e t other r lives (Some y) there is =
          let above = f.above page x at in
          let low = new.below t other r y lives there in
          let one : x.copy ≡ copy = same_Some _ _ e in
          let two : y.copy ≡ copy = same_Some _ _ is in
          absurd (omega (arith, above, low, one, two))

  start_unless : (slot : ℕ) (ls : List LoadSegment) (b : Bool) → free_slot w ≡ Some slot → (started_unless w slot ls b).reply ≡ Scalar (Started s) → process_in (started_unless w slot ls b).world s ≡ Some p → HasNewFrames w p
  start_unless slot ls true free e there = absurd cc
  start_unless slot ls false free e there =
      let same : slot ≡ s = cc in
      let here = (set_puts w (started_unless w slot ls false).world slot (Some (process_of w.scheme w.counter ls)) (let room = free_there w.slots 0 slot free in omega (arith, room)) refl).here in
      subst (HasNewFrames w) (same_Some (process_of w.scheme w.counter ls) p (sym here ∙ ap (process_in (started_unless w slot ls false).world) same ∙ there)) (anew_frames (process_of w.scheme w.counter ls) (image_anew w.scheme w.counter ls))

  start_as : (r : Result (List LoadSegment) BadImage) (o : Option ℕ) → free_slot w ≡ o → (started w r o).reply ≡ Scalar (Started s) → process_in (started w r o).world s ≡ Some p → HasNewFrames w p
  start_as r None free e there = absurd cc
  start_as (Err b) (Some slot) free e there = absurd cc
  start_as (Ok ls) (Some slot) free e there = start_unless slot ls _ free e there

  pub started_frames : (image : Image) → (step w (step_of.Start image)).reply ≡ Scalar (Started s) → process_in (step w (step_of.Start image)).world s ≡ Some p → HasNewFrames w p
  started_frames image e there =
      let x = step_of.Start image in
      start_as (image_loads w.scheme image) (free_slot w) refl (sym (step_reply w x) ∙ e) (sym (step_process w x s) ∙ there)

-- no process has one number at two pages

pub one_copy : (w : World) → HasNewCopies w → (s one two copy : ℕ) (p : Process) → process_in w s ≡ Some p → copy_on p one ≡ Some copy → copy_on p two ≡ Some copy → one ≡ two
one_copy w new s one two copy p lives e f = by (get p.settled one) (get p.settled two) refl refl e f
  where
    by : (o u : Option Page) → get p.settled one ≡ o → get p.settled two ≡ u → option_map (λ (z : Page). z.copy) o ≡ Some copy → option_map (λ (z : Page). z.copy) u ≡ Some copy → one ≡ two
    by None u at there e f = absurd cc
    by (Some x) None at there e f = absurd cc
    by (Some x) (Some y) at there e f = new.once s one two p x y lives at there (same_Some _ _ e ∙ sym (same_Some _ _ f))
