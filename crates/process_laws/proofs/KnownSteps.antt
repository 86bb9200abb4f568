-- `Known`, proved of every step: the bytes that the world holds after it are those computed from the step, its reply and the
-- bytes held before (`left_by`), and each page in memory still has 4,096 bytes.
use Rattle.std.proofs.Common.{◌≡◌, ℕ, zero, suc, Bool, true, false, cond, ◌&&◌, ◌==◌, ◌+◌, ◌-◌, ◌/◌, ◌%◌, ◌^◌, ◌<◌, ◌≤◌, refl, sym, ap, ◌∙◌, arith, List, [], length, Option, None, Some, Bor}
use Rattle.std.specs.Prelude.{ℤ, nat_abs, slice_set, Result, Ok, Err}
use Rattle.std.proofs.lemmas.List.{length-set}
use Rattle.sv39_entry.specs.Address.{page_of}
use Rattle.sv39_entry.specs.declared.access.Access.TheVariants as access
use Rattle.sv39_entry.specs.declared.rule.Rule.{Rule}
use Rattle.process_model.specs.Bytes.{low_bytes, pages_for}
use Rattle.process_model.specs.PageMap.{get}
use Rattle.process_model.specs.Regions.{Region, first_rule}
use Rattle.process_model.specs.Process.{Process, Page, Pending, regions, without_pending}
use Rattle.process_model.specs.Residence.{access_answer, marked, child_of}
use Rattle.process_model.specs.Heap.{wanted_size, resized_unless, sbrk_result}
use Rattle.process_model.specs.Mappings.{mapped_unless, mapped, unmapped_unless, unmapped_in, unmapped_if, unmapped}
use Rattle.process_model.specs.Images.{LoadSegment, image_loads}
use Rattle.process_model.specs.ImageProcess.{process_of}
use Rattle.process_model.specs.Harts.{Hart}
use Rattle.process_model.specs.World.{World, StepOutcome, answers, refuses, process_in, with_process, with_hart, always, lowest_free, has_slot}
use Rattle.process_model.specs.Environment.{Progress}
use Rattle.process_model.specs.Service.{AccessRequest, environment_of, initial_progress, faulted, answered, ended, served_or_ended, served, access_outcome, with_progress, with_served}
use Rattle.process_model.specs.Calls.{with_image, started_unless, started_as, started, replaced_unless, replaced, forked_unless, forked, resized_to, mapped_to, unmapped_to, copy_in_outcome, copy_out_outcome}
use Rattle.process_model.specs.Steps
use Rattle.process_model.specs.Steps.{plain_step}
use Rattle.process_model.specs.Stale.{with_stale_slots}
use Rattle.process_model.specs.Copies.{Copied, in_reply, out_reply, copied_in, copied_out}
use Rattle.process_model.specs.declared.config.Policy.{Policy}
use Rattle.process_model.specs.declared.config.Policy.TheVariants.{Full, Asid}
use Rattle.process_model.specs.declared.image.BadImage.{BadImage}
use Rattle.process_model.specs.declared.image.Image.{Image}
use Rattle.process_model.specs.declared.reply.Refusal.{Refusal}
use Rattle.process_model.specs.declared.reply.Reply.{Reply}
use Rattle.process_model.specs.declared.reply.ScalarReply.TheVariants as scalar
use Rattle.process_model.specs.declared.reply.Reply.TheVariants as reply
use Rattle.process_model.specs.declared.step.Step.{Step}
use Rattle.process_model.specs.declared.step.Step.TheVariants as step
use Rattle.process_laws.specs.Latest.{image_byte, initial_byte, of_slot, byte_at, is_among, left_by, or_initial, is_in_served, is_in_pending, is_released, is_unmapped, is_in_their_pages, put_by}
use Rattle.process_laws.specs.Moments.{slot_on}
use Rattle.process_laws.proofs.ImageBytes.{loads_byte_is}
use Rattle.process_laws.proofs.InitialBytes.{initial_is}
use Rattle.process_laws.proofs.PageBytes.{bytes_on, contents, AllSized, byte_in, byte_from, same_sized, put_same, contents-marked, contents-child, or_start, SettlesPage, byte_in-stored, stored_sized, byte_in-without, without_sized, image_sized, byte_in-image}
use Rattle.process_laws.proofs.OnHarts.{asks, on_hart_good, its_good, kernel_good, access_good}
use Rattle.process_laws.proofs.CopyBytes.{CameIn, CameOut, copy_came_in, copy_came_out}
use Rattle.process_laws.proofs.HeldBytes.{byte_held, held, Sized, Puts, in_range, free_there, set_puts, held_put, sized_process, sized_gone, told_put, told_where, told_same, Reaches, stopped, came, reached_reaches}

-- after the step the world holds what is known
pub record Known (w : World) (st : Step) (o : StepOutcome) : Type 0 where
  pub sized : Sized o.world
  pub told : (s a : ℕ) → held o.world s a ≡ left_by w st o.reply (held w) s a

length-low_bytes : (v n : ℕ) → length (low_bytes v n) ≡ n
unfolding low_bytes
length-low_bytes v zero = refl
length-low_bytes v (suc n) = ap suc (length-low_bytes (v / 2 ^ 8) n)

-- a refusal says nothing
refused_silent : (w : World) (st : Step) (r : Refusal) (s a : ℕ) → held w s a ≡ left_by w st (reply.Scalar (scalar.Refused r)) (held w) s a
refused_silent w (step.Start image) r s a = refl
refused_silent w _ r s a = refl

refused_known : (w : World) → Sized w → (st : Step) (r : Refusal) → Known w st (refuses w r)
refused_known w k st r = record { sized = k; told = refused_silent w st r }

both_within : {A : Type 0} (b put settled : Bool) (x y z : A) → cond b (cond put x (cond settled y z)) z ≡ cond (b && put) x (cond (b && settled) y z)
both_within true put settled x y z = refl
both_within false put settled x y z = refl

-- a process of the world that is put back with the same bytes
module _ (w : World) (k : Sized w) (t : ℕ) (p : Process) (here : process_in w t ≡ Some p) where
  puts : (o : Option Process) (v : World) → v.slots ≡ slice_set w.slots t o → Puts w t o v
  puts o v e = set_puts w v t o (in_range w t p here) e

  held_is : (a : ℕ) → held w t a ≡ byte_in p.settled a
  held_is a = ap (λ o. byte_held o a) here

  -- another process in its slot
  put_known : (st : Step) (r : Reply) (q : Process) (v : World) → v.slots ≡ slice_set w.slots t (Some q) → AllSized q.settled → (Puts w t (Some q) v → (s a : ℕ) → held v s a ≡ left_by w st r (held w) s a) → Known w st (answers v r)
  put_known st r q v e sized f = record { sized = sized_process w v t q (puts (Some q) v e) sized k; told = f (puts (Some q) v e) }

  -- one with the same bytes
  same_known : (st : Step) (r : Reply) (q : Process) (v : World) → v.slots ≡ slice_set w.slots t (Some q) → ((n : ℕ) → contents q.settled n ≡ contents p.settled n) → ((s a : ℕ) → held w s a ≡ left_by w st r (held w) s a) → Known w st (answers v r)
  same_known st r q v e same silent = put_known st r q v e (same_sized p.settled q.settled same (k.pages t p here))
      (λ f s a. told_same w v t (Some q) f (λ b. ap (λ o. byte_from o (b % 4096)) (same (page_of b)) ∙ sym (held_is b)) s a ∙ silent s a)

  -- accesses

  faulted_known : (st : Step) (h : ℕ) (hart : Hart) (x : AccessRequest) (cause : ℕ) → ((s a : ℕ) → held w s a ≡ left_by w st (reply.Scalar (scalar.Fault cause)) (held w) s a) → Known w st (access_outcome w h hart t (faulted p x cause))
  faulted_known st h hart x cause silent = same_known st _ _ _ refl (λ n. refl) silent

  -- a page that only was read
  read_known : (st : Step) (h : ℕ) (hart : Hart) (x : AccessRequest) (page : Page) (v : ℕ) → get p.settled (page_of x.address) ≡ Some page → ((s a : ℕ) → held w s a ≡ left_by w st (reply.Scalar (scalar.Value v)) (held w) s a) → Known w st (access_outcome w h hart t (answered p x (reply.Scalar (scalar.Value v), page)))
  read_known st h hart x page v e silent = same_known st _ _ _ refl (put_same p.settled (page_of x.address) page page e refl) silent

  -- bytes that were stored
  stored_known : (h : ℕ) (hart : Hart) (address width value : ℕ) (via : Option ℕ) (page : Page) → slot_on w h ≡ Some t → get p.settled (page_of address) ≡ Some page → address % 4096 + width ≤ 4096
      → Known w (step.Store h address width value via) (access_outcome w h hart t (answered p (asks access.Store address width value) (access_answer access.Store page (address % 4096) width value)))
  stored_known h hart address width value via page on e fits =
      let vs = low_bytes value width in
      let long : length vs ≡ width = length-low_bytes value width in
      let fits_all : address % 4096 + length vs ≤ 4096 = omega arith in
      let size : length page.bytes ≡ 4096 = (k.pages t p here).size (page_of address) page.bytes (ap bytes_on e) in
      put_known _ _ _ _ refl (stored_sized p.settled (page_of address) page (address % 4096) vs size fits_all (k.pages t p here))
      (λ f. told_where w _ h t _ (λ s a. is_among address width a) (λ s a. Some (byte_at vs (a - address))) on f
      (λ a. byte_in-stored p.settled address page vs e size fits_all a ∙ ap (λ n. cond (is_among address n a) (Some (byte_at vs (a - address))) (byte_in p.settled a)) long
      ∙ ap (cond (is_among address width a) (Some (byte_at vs (a - address)))) (sym (held_is a))))

  -- the end of a process

  ended_known : (st : Step) (r : Reply) (h n : ℕ) (hart : Hart) → slot_on w h ≡ Some t → ((s a : ℕ) → cond (has_slot s (slot_on w h)) None (held w s a) ≡ left_by w st r (held w) s a) → Known w st (ended w n hart t p r)
  ended_known st r h n hart on says = record {
    sized = sized_gone w _ t (puts None (ended w n hart t p r).world refl) k;
    told = λ s a. told_put w (ended w n hart t p r).world h t None (λ s a. None) on (puts None _ refl) (λ a. refl) s a ∙ says s a;
  }

  -- service

  or_initial_is : (a : ℕ) (o : Option ℕ) → or_start w.files p a o ≡ or_initial w t a o
  or_initial_is a (Some b) = refl
  or_initial_is a None = ap Some (initial_is w.files p a) ∙ ap (λ q. Some (initial_byte w.files q a)) (sym here)

  in_words : (b : Bool) (a : ℕ) → cond b (or_start w.files p a (byte_in p.settled a)) (byte_in p.settled a) ≡ cond b (or_initial w t a (held w t a)) (held w t a)
  in_words b a = ap (λ o. cond b (or_start w.files p a o) o) (sym (held_is a)) ∙ ap (λ o. cond b o (held w t a)) (or_initial_is a (held w t a))

  -- what is held where a page was settled
  settled_held : (q : Process) (page a : ℕ) → SettlesPage w.files page p q → byte_in q.settled a ≡ cond (page == page_of a) (or_initial w t a (held w t a)) (held w t a)
  settled_held q page a f = f.told a ∙ in_words (page == page_of a) a

  in_pending : (x : Pending) (a : ℕ) → p.pending ≡ Some x → is_in_served (process_in w t) a ≡ (page_of x.address == page_of a)
  in_pending x a e = ap (λ o. is_in_served o a) here ∙ ap (λ o. is_in_pending o a) e

  served_known : (h : ℕ) (hart : Hart) (x : Pending) (r : Result Progress Rule) → slot_on w h ≡ Some t → p.pending ≡ Some x → Reaches w.files (page_of x.address) p r → Known w (step.Serve h) (served_or_ended w h hart t p x r)
  served_known h hart x (Err r) on e stopped = ended_known (step.Serve h) (reply.Scalar (scalar.Ended r)) h h hart on (λ s a. refl)
  served_known h hart x (Ok g) on e (came i) =
      let after : Puts w t (Some ((with_served g x).process)) (with_progress w t (with_served g x)) = puts _ _ refl in
      record {
        sized = sized_process w _ t _ after i.sized k;
        told = told_where w _ h t _ (λ s a. is_in_served (process_in w s) a) (λ s a. or_initial w s a (held w s a)) on after
            (λ a. settled_held g.process (page_of x.address) a i ∙ ap (λ b. cond b (or_initial w t a (held w t a)) (held w t a)) (sym (in_pending x a e)));
      }

  serve_known : (h : ℕ) (hart : Hart) (o : Option Pending) → slot_on w h ≡ Some t → p.pending ≡ o → Known w (step.Serve h) (served w h hart t p o)
  serve_known h hart None on e = refused_known w k _ _
  serve_known h hart (Some x) on e = served_known h hart x _ on e (reached_reaches (environment_of w t) x.access x.address (initial_progress w p) (first_rule p.scheme (regions p) x.access x.address x.width) (k.pages t p here))

  -- calls

  image_known : (h : ℕ) (image : Image) (ls : List LoadSegment) (v : World) → slot_on w h ≡ Some t → image_loads w.scheme image ≡ Ok ls → v.slots ≡ slice_set w.slots t (Some (process_of w.scheme w.counter ls)) → Known w (step.Exec h image) (answers v (reply.Scalar scalar.Done))
  image_known h image ls v on e is = put_known _ _ _ _ is (image_sized w.scheme w.counter ls)
      (λ f. told_put w v h t _ (λ s a. image_byte (image_loads w.scheme image) a) on f (λ a. byte_in-image w.scheme w.counter ls a ∙ loads_byte_is ls a ∙ sym (ap (λ r. image_byte r a) e)))

  exec_unless : (h : ℕ) (image : Image) (ls : List LoadSegment) (b : Bool) → slot_on w h ≡ Some t → image_loads w.scheme image ≡ Ok ls → Known w (step.Exec h image) (replaced_unless w t p ls b)
  exec_unless h image ls true on e = refused_known w k _ _
  exec_unless h image ls false on e = image_known h image ls _ on e refl

  exec_known : (h : ℕ) (image : Image) (r : Result (List LoadSegment) BadImage) → slot_on w h ≡ Some t → image_loads w.scheme image ≡ r → Known w (step.Exec h image) (replaced w t p r)
  exec_known h image (Err x) on e = refused_known w k _ _
  exec_known h image (Ok ls) on e = exec_unless h image ls _ on e

  fork_unless : (h child : ℕ) (b : Bool) → slot_on w h ≡ Some t → lowest_free 0 w.slots ≡ Some child → Known w (step.Fork h) (forked_unless w t p child b)
  fork_unless h child true on e = refused_known w k _ _
  fork_unless h child false on e =
      let v : World = with_process w t (marked p) in
      let sized : AllSized (marked p).settled = same_sized p.settled (marked p).settled (contents-marked p) (k.pages t p here) in
      let parent : Puts w t (Some (marked p)) v = puts _ v refl in
      let same : (a : ℕ) → byte_in (marked p).settled a ≡ held w t a = λ a. ap (λ o. byte_from o (a % 4096)) (contents-marked p (page_of a)) ∙ sym (held_is a) in
      let room : child < length v.slots = omega (arith, free_there w.slots 0 child e, length-set w.slots t (Some (marked p))) in
      let both : Puts v child (Some (child_of p)) (with_process v child (child_of p)) = set_puts v _ child _ room refl in
      let born : AllSized (child_of p).settled = same_sized p.settled (child_of p).settled (contents-child p) (k.pages t p here) in
      let given : (a : ℕ) → byte_in (child_of p).settled a ≡ held w t a = λ a. ap (λ o. byte_from o (a % 4096)) (contents-child p (page_of a)) ∙ sym (held_is a) in
      record {
        sized = sized_process v _ child _ both born (sized_process w v t (marked p) parent sized k);
        told = λ s a. held_put v _ child _ both s a ∙ ap (cond (child == s) (byte_in (child_of p).settled a)) (told_same w v t _ parent same s a)
            ∙ ap (λ o. cond (child == s) o (held w s a)) (given a ∙ ap (λ u. of_slot (held w) u a) (sym on));
      }

  fork_known : (h : ℕ) (o : Option ℕ) → slot_on w h ≡ Some t → lowest_free 0 w.slots ≡ o → Known w (step.Fork h) (forked w t p o)
  fork_known h None on e = refused_known w k _ _
  fork_known h (Some child) on e = fork_unless h child _ on e

  sbrk_unless : (h : ℕ) (delta : ℤ) (o : Option Refusal) → slot_on w h ≡ Some t → Known w (step.Sbrk h delta) (resized_to w t p (resized_unless p (nat_abs (wanted_size p delta)) o))
  sbrk_unless h delta (Some r) on = refused_known w k _ _
  sbrk_unless h delta None on =
      let first = pages_for (nat_abs (wanted_size p delta)) in
      put_known _ _ _ _ refl (without_sized p first (pages_for p.size) (k.pages t p here))
      (λ f. told_where w _ h t _ (λ s a. is_released p.size delta a) (λ s a. None) on f
      (λ a. byte_in-without p first (pages_for p.size) a ∙ ap (cond (is_released p.size delta a) None) (sym (held_is a))))

  sbrk_known : (h : ℕ) (delta : ℤ) → slot_on w h ≡ Some t → Known w (step.Sbrk h delta) (resized_to w t p (sbrk_result p delta))
  unfolding sbrk_result
  sbrk_known h delta on = sbrk_unless h delta _ on

  mmap_unless : (st : Step) (m : Region) (o : Option Refusal) → ((first s a : ℕ) → held w s a ≡ left_by w st (reply.Scalar (scalar.MappedAt first)) (held w) s a) → Known w st (mapped_to w t (mapped_unless p m o))
  mmap_unless st m (Some r) silent = refused_known w k _ _
  mmap_unless st m None silent = same_known st _ _ _ refl (λ n. refl) (silent _)

  mmap_known : (st : Step) (len protection flags n : ℕ) → ((first s a : ℕ) → held w s a ≡ left_by w st (reply.Scalar (scalar.MappedAt first)) (held w) s a) → Known w st (mapped_to w t (mapped w.files p len protection flags n))
  unfolding mapped
  mmap_known st len protection flags n silent = mmap_unless st _ _ silent

  munmap_unless : (h address len : ℕ) (m : Region) (b : Bool) → slot_on w h ≡ Some t
      → Known w (step.Munmap h address len) (unmapped_to w t (unmapped_unless w.files p m (page_of address) (page_of address + pages_for len) b))
  munmap_unless h address len m true on = refused_known w k _ _
  munmap_unless h address len m false on =
      let first = page_of address in
      let end = page_of address + pages_for len in
      put_known _ _ _ _ refl (without_sized p first end (k.pages t p here))
      (λ f. told_where w _ h t _ (λ s a. is_unmapped address len a) (λ s a. None) on f
      (λ a. byte_in-without p first end a ∙ ap (cond (is_unmapped address len a) None) (sym (held_is a))))

  munmap_in : (h address len : ℕ) (o : Option Region) → slot_on w h ≡ Some t
      → Known w (step.Munmap h address len) (unmapped_to w t (unmapped_in w.files p (page_of address) (page_of address + pages_for len) o))
  munmap_in h address len None on = refused_known w k _ _
  munmap_in h address len (Some m) on = munmap_unless h address len m _ on

  munmap_if : (h address len : ℕ) (b : Bool) → slot_on w h ≡ Some t
      → Known w (step.Munmap h address len) (unmapped_to w t (unmapped_if w.files p (page_of address) (page_of address + pages_for len) b))
  munmap_if h address len false on = refused_known w k _ _
  munmap_if h address len true on = munmap_in h address len _ on

  munmap_known : (h address len : ℕ) → slot_on w h ≡ Some t → Known w (step.Munmap h address len) (unmapped_to w t (unmapped w.files p address len))
  unfolding unmapped
  munmap_known h address len on = munmap_if h address len _ on

  -- copies

  in_said : (h address n end : ℕ) (c : Copied) (o : Option Rule) → slot_on w h ≡ Some t → CameIn w.files p address end c → Known w (step.CopyIn h address n) (answers (with_progress w t c.progress) (in_reply c.bytes o))
  in_said h address n end c o on i = record { sized = sized_process w _ t ((c.progress).process) (puts _ _ refl) i.sized k; told = says o } where
    after : World
    after = with_progress w t c.progress

    held_now : (s a : ℕ) → held after s a ≡ cond (has_slot s (slot_on w h) && is_in_their_pages address (length c.bytes) a) (or_initial w s a (held w s a)) (held w s a)
    held_now = told_where w after h t (Some ((c.progress).process)) (λ s a. is_in_their_pages address (length c.bytes) a) (λ s a. or_initial w s a (held w s a)) on (puts _ _ refl) (λ a. i.told a ∙ in_words (is_in_their_pages address (length c.bytes) a) a)

    says : (o : Option Rule) (s a : ℕ) → held after s a ≡ left_by w (step.CopyIn h address n) (in_reply c.bytes o) (held w) s a
    says None = held_now
    says (Some r) = held_now

  copy_in_known : (h address n : ℕ) → slot_on w h ≡ Some t → Known w (step.CopyIn h address n) (copy_in_outcome w t (copied_in (environment_of w t) (initial_progress w (without_pending p)) address n))
  copy_in_known h address n on =
      let i = copy_came_in (environment_of w t) (initial_progress w (without_pending p)) p address n refl (λ a. refl) (k.pages t p here) in
      let c = copied_in (environment_of w t) (initial_progress w (without_pending p)) address n in
      in_said h address n i.0 c c.stop on i.1

  out_said : (h address : ℕ) (bytes : Bor (List ℕ)) (end : ℕ) (c : Copied) (o : Option Rule) → slot_on w h ≡ Some t → CameOut w.files p address bytes.now end [] c → Known w (step.CopyOut h address bytes) (answers (with_progress w t c.progress) (out_reply c.bytes o))
  out_said h address bytes end c o on i = record { sized = sized_process w _ t ((c.progress).process) (puts _ _ refl) i.sized k; told = says o } where
    after : World
    after = with_progress w t c.progress

    held_now : (s a : ℕ) → held after s a ≡ put_by w h address bytes.now (length c.bytes) (held w) s a
    held_now s a =
        told_put w after h t (Some ((c.progress).process)) (λ s a. cond (is_among address (length c.bytes) a) (Some (byte_at bytes.now (a - address))) (cond (is_in_their_pages address (length c.bytes) a) (or_initial w s a (held w s a)) (held w s a))) on (puts _ _ refl)
        (λ a. i.told a ∙ ap (cond (is_among address (length c.bytes) a) (Some (byte_at bytes.now (a - address)))) (in_words (is_in_their_pages address (length c.bytes) a) a)) s a
        ∙ both_within (has_slot s (slot_on w h)) (is_among address (length c.bytes) a) (is_in_their_pages address (length c.bytes) a) _ _ _

    says : (o : Option Rule) (s a : ℕ) → held after s a ≡ left_by w (step.CopyOut h address bytes) (out_reply c.bytes o) (held w) s a
    says None = held_now
    says (Some r) = held_now

  copy_out_known : (h address : ℕ) (bytes : Bor (List ℕ)) → slot_on w h ≡ Some t → Known w (step.CopyOut h address bytes) (copy_out_outcome w t (copied_out (environment_of w t) (initial_progress w (without_pending p)) address bytes.now))
  copy_out_known h address bytes on =
      let i = copy_came_out (environment_of w t) (initial_progress w (without_pending p)) p address bytes.now refl (λ a. refl) (k.pages t p here) in
      let c = copied_out (environment_of w t) (initial_progress w (without_pending p)) address bytes.now in
      out_said h address bytes i.0 c c.stop on i.1

-- start

start_unless : (w : World) → Sized w → (image : Image) (ls : List LoadSegment) (t : ℕ) (b : Bool) → image_loads w.scheme image ≡ Ok ls → lowest_free 0 w.slots ≡ Some t → Known w (step.Start image) (started_unless w t ls b)
start_unless w k image ls t true e free = refused_known w k _ _
start_unless w k image ls t false e free =
    let f : Puts w t (Some (process_of w.scheme w.counter ls)) (with_image w t ls) = set_puts w _ t _ (omega (arith, free_there w.slots 0 t free)) refl in
    record {
      sized = sized_process w _ t _ f (image_sized w.scheme w.counter ls) k;
      told = λ s a. held_put w _ t _ f s a ∙ ap (λ o. cond (t == s) o (held w s a)) (byte_in-image w.scheme w.counter ls a ∙ loads_byte_is ls a ∙ sym (ap (λ r. image_byte r a) e));
    }

start_as : (w : World) → Sized w → (image : Image) (r : Result (List LoadSegment) BadImage) (t : ℕ) → image_loads w.scheme image ≡ r → lowest_free 0 w.slots ≡ Some t → Known w (step.Start image) (started_as w t r)
start_as w k image (Err x) t e free = refused_known w k _ _
start_as w k image (Ok ls) t e free = start_unless w k image ls t _ e free

start_known : (w : World) → Sized w → (image : Image) (o : Option ℕ) → lowest_free 0 w.slots ≡ o → Known w (step.Start image) (started w (image_loads w.scheme image) o)
start_known w k image None free = refused_known w k _ _
start_known w k image (Some t) free = start_as w k image _ t refl free

-- all steps

still : (w : World) → Sized w → (st : Step) (r : Reply) → ((s a : ℕ) → held w s a ≡ left_by w st r (held w) s a) → Known w st (answers w r)
still w k st r silent = record { sized = k; told = silent }

hart_moved : (w : World) → Sized w → (st : Step) (r : Reply) (h : ℕ) (hart : Hart) → ((s a : ℕ) → held w s a ≡ left_by w st r (held w) s a) → Known w st (answers (with_hart w h hart) r)
hart_moved w k st r h hart silent = record { sized = record { pages = k.pages }; told = silent }

plain_known : (w : World) → Sized w → (st : Step) → Known w st (plain_step w st)
plain_known w k (step.Start image) = start_known w k image _ refl
plain_known w k (step.Switch h slot) = on_hart_good w (Known w _) (refused_known w k _) h true _ always _ (λ hart is _. hart_moved w k _ _ h _ (λ s a. refl))
plain_known w k (step.Trap h) = on_hart_good w (Known w _) (refused_known w k _) h true _ always _ (λ hart is _. its_good w (Known w _) (refused_known w k _) h hart _ is
    (λ t p on here. same_known w k t p here _ _ _ _ refl (λ n. refl) (λ s a. refl)))
plain_known w k (step.Next h) = on_hart_good w (Known w _) (refused_known w k _) h true _ always _ (λ hart is _. hart_moved w k _ _ h _ (λ s a. refl))
plain_known w k (step.Fill h address) = on_hart_good w (Known w _) (refused_known w k _) h true always always _ (λ hart is _. hart_moved w k _ _ h _ (λ s a. refl))
plain_known w k (step.Evict h n) = on_hart_good w (Known w _) (refused_known w k _) h true always _ _ (λ hart is _. hart_moved w k _ _ h _ (λ s a. refl))
plain_known w k (step.Fetch h address via) = access_good w (Known w _) (refused_known w k _) h access.Fetch address 4 0 via (λ hart t p cause here on. faulted_known w k t p here _ h hart (asks access.Fetch address 4 0) cause (λ s a. refl))
    (λ hart t p page here on e fits. read_known w k t p here _ h hart (asks access.Fetch address 4 0) page _ e (λ s a. refl))
plain_known w k (step.Load h address width via) = access_good w (Known w _) (refused_known w k _) h access.Load address width 0 via (λ hart t p cause here on. faulted_known w k t p here _ h hart (asks access.Load address width 0) cause (λ s a. refl))
    (λ hart t p page here on e fits. read_known w k t p here _ h hart (asks access.Load address width 0) page _ e (λ s a. refl))
plain_known w k (step.Store h address width value via) = access_good w (Known w _) (refused_known w k _) h access.Store address width value via (λ hart t p cause here on. faulted_known w k t p here _ h hart (asks access.Store address width value) cause (λ s a. refl))
    (λ hart t p page here on e fits. stored_known w k t p here h hart address width value via page on e fits)
plain_known w k (step.TrampolineFetch h offset via) = on_hart_good w (Known w _) (refused_known w k _) h _ _ _ _ (λ hart is _. still w k _ _ (λ s a. refl))
plain_known w k (step.Serve h) = on_hart_good w (Known w _) (refused_known w k _) h true _ always _ (λ hart is _. its_good w (Known w _) (refused_known w k _) h hart _ is
    (λ t p on here. serve_known w k t p here h hart p.pending on refl))
plain_known w k (step.Fork h) = kernel_good w (Known w _) (refused_known w k _) h true _ (λ hart t p on here. fork_known w k t p here h _ on refl)
plain_known w k (step.Exec h image) = kernel_good w (Known w _) (refused_known w k _) h true _ (λ hart t p on here. exec_known w k t p here h image _ on refl)
plain_known w k (step.Sbrk h delta) = kernel_good w (Known w _) (refused_known w k _) h true _ (λ hart t p on here. sbrk_known w k t p here h delta on)
plain_known w k (step.Mmap h len protection flags n) = kernel_good w (Known w _) (refused_known w k _) h true _ (λ hart t p on here. mmap_known w k t p here _ len protection flags n (λ first s a. refl))
plain_known w k (step.Munmap h address len) = kernel_good w (Known w _) (refused_known w k _) h true _ (λ hart t p on here. munmap_known w k t p here h address len on)
plain_known w k (step.CopyIn h address n) = kernel_good w (Known w _) (refused_known w k _) h _ _ (λ hart t p on here. copy_in_known w k t p here h address n on)
plain_known w k (step.CopyOut h address bytes) = kernel_good w (Known w _) (refused_known w k _) h _ _ (λ hart t p on here. copy_out_known w k t p here h address bytes on)
plain_known w k (step.Exit h status) = kernel_good w (Known w _) (refused_known w k _) h true _ (λ hart t p on here. ended_known w k t p here _ _ h h hart on (λ s a. refl))

-- marks change no slot
marks_known : (policy : Policy) (w : World) (st : Step) (o : StepOutcome) → Known w st o → Known w st (with_stale_slots policy w o)
marks_known Full w st o l = l
marks_known Asid w st o l = record { sized = record { pages = l.sized.pages }; told = l.told }

pub step_known : (w : World) → Sized w → (st : Step) → Known w st (Steps.step w st)
unfolding Steps.step
step_known w k st = marks_known w.policy w st (plain_step w st) (plain_known w k st)
