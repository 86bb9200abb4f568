-- Lemma: by its own step a process becomes what part (f) of the headline says of regions, marks, size and pending access
-- (`Becomes`), or it ended: its slot is empty, its hart idle, all its mappings written back (`Own`). Its bytes are in
-- `KnownSteps`.
use Rattle.std.proofs.Common.{pos, ◌≡◌, ◌≢◌, ℕ, ℤ, Bool, true, false, cond, ◌+◌, ◌-◌, ◌*◌, ◌%◌, inl, inr, refl, sym, ap, subst, ◌∙◌, arith, List, [], ◌∷◌, length, Option, None, Some, Bor, ◌&&◌, ◌||◌}
use Rattle.std.specs.Prelude.{nat_abs, Result, Ok, Err, slice_get, unwrap_or}
use Rattle.std.specs.Ordering.{eq_by_cmp, nat_cmp}
use Rattle.std.specs.FinMap.Entries.{find}
use Rattle.std.proofs.lemmas.Bool.{eq-eqb}
use Rattle.std.proofs.lemmas.Option.{same_Some}
use Rattle.process_laws.proofs.Copying.{in_so_far, out_so_far}
use Rattle.process_laws.proofs.EveryChange.{has_place}
use Rattle.process_laws.proofs.Givens.{image_given, image_idle, image_sized, image_unmarked, mapped_above, mapped_given, mapped_vacant, mapping_given, mark_at, resized_base, resized_given, resized_size, resized_vacant, unmapped_above, unmapped_given, image_based}
use Rattle.process_laws.proofs.Going.{At, put_at, step_at}
use Rattle.process_laws.proofs.Granting.{IsSound}
use Rattle.process_laws.proofs.Grants.{inside_released, mapped_same, outside_settled, resized_same, unmapped_same}
use Rattle.process_laws.proofs.HeldBytes.{in_range, none_some, set_puts}
use Rattle.process_laws.proofs.OnHarts.{access_good, its_good, kernel_good, on_hart_good}
use Rattle.process_laws.proofs.OnHarts as harts
use Rattle.process_laws.proofs.Joined.{image_joined, instead_joined, mapped_joined, resized_joined, unpicked}
use Rattle.process_laws.proofs.Running.{set_lives, step_process, step_reply}
use Rattle.process_laws.proofs.Untouched.{free_is_empty}
use Rattle.process_laws.specs.Moments.{Moment, slot_on}
use Rattle.process_laws.specs.Headline.{Becomes}
use Rattle.process_laws.specs.Pages.{are_joined, grant_in, has_mark, has_some_of, has_dirty_mark, image_grant, image_size, in_one_of, is_between, is_remapped, is_store, is_store_at, is_stored_to, joins, mapping_grant, size_after, has_cow_mark}
use Rattle.process_laws.specs.Words.{is_end, is_fault, IsMade, IsOnHart, hart_of_step}
use Rattle.process_model.specs.Environment.{Progress}
use Rattle.process_model.specs.Bytes.{pages_for}
use Rattle.process_model.specs.Calls.{forked, forked_unless, mapped_to, replaced, replaced_unless, resized_to, copy_in_outcome, copy_out_outcome, unmapped_to}
use Rattle.process_model.specs.Copies.{Copied, copied_in, copied_out, in_reply, out_reply}
use Rattle.process_model.proofs.GrantLaws.{place_fits}
use Rattle.process_model.specs.Harts.{Hart}
use Rattle.process_model.specs.Heap.{resized_unless, sbrk_result, size_refusal, wanted_size, without_pages}
use Rattle.process_model.specs.Images.{image_loads, LoadSegment}
use Rattle.process_model.specs.ImageProcess.{process_of}
use Rattle.process_model.specs.Mappings.{all_written_back, leaves_hole, map_refusal, mapped, mapped_unless, mapping_around, mapping_of, mapping_place, unmapped, unmapped_if, unmapped_in, unmapped_unless, with_mapping}
use Rattle.process_model.specs.PageMap.{each_value, get}
use Rattle.process_model.specs.Process.{grants_write, Page, Pending, Process, regions, without_pending}
use Rattle.process_model.specs.Regions.{first_rule, Region, region_at}
use Rattle.process_model.specs.Residence.{access_answer, child_of, marked, marked_page, with_page}
use Rattle.process_model.specs.Service.{environment_of, initial_progress, ended, faulted, served, served_or_ended, access_outcome, with_progress, with_served}
use Rattle.process_model.specs.Service as service
use Rattle.process_model.specs.Stale.{with_stale_slots}
use Rattle.process_model.specs.Steps.{plain_step, step}
use Rattle.process_model.specs.World.{answers, free_slot, is_unserved_access, kernel_call, StepOutcome, process_in, refuses, with_hart, with_process, without_process, World}
use Rattle.process_model.specs.declared.config.Policy.{Policy}
use Rattle.process_model.specs.declared.config.Policy.TheVariants.{Full, Asid}
use Rattle.process_model.specs.declared.image.BadImage.{BadImage}
use Rattle.process_model.specs.declared.image.Image.{Image}
use Rattle.process_model.specs.declared.phase.Phase.TheVariants.{Enter0, Idle}
use Rattle.process_model.specs.declared.reply.Refusal.{Refusal}
use Rattle.process_model.specs.declared.reply.Reply.{Reply}
use Rattle.process_model.specs.declared.reply.ScalarReply.TheVariants.{Done, Exited, Fault, OldSize, Ready, Refused}
use Rattle.process_model.specs.declared.reply.Reply.TheVariants.{Scalar}
use Rattle.process_model.specs.declared.step.Step.{Step}
use Rattle.process_model.specs.declared.step.Step.TheVariants as step_of
use Rattle.sv39_entry.specs.Address.{page_of}
use Rattle.sv39_entry.specs.declared.access.Access.{Access}
use Rattle.sv39_entry.specs.declared.access.Access.TheVariants as access
use Rattle.sv39_entry.specs.declared.rule.Rule.{Rule}
use Rattle.sv39_entry.specs.declared.scheme.Scheme.{Scheme}
use Rattle.sv39_entry.specs.Schemes.{trapframe_page}
use Rattle.process_laws.proofs.Children.{child_put}
use Rattle.process_laws.proofs.Further.{answer_further, copied_in_far, copied_out_far, Further, FurtherIfOk, reached_further, still}

-- a step with its reply; of the worlds nothing is said
abbrev pub told_as : World → Step → Reply → Moment
told_as w x r = record { before = w; step = x; reply = r; after = w }

pub becomes_as : (m n : Moment) (h : ℕ) (p q : Process) → (n.before).scheme ≡ (m.before).scheme → n.step ≡ m.step → n.reply ≡ m.reply → Becomes m h p q → Becomes n h p q
becomes_as m n h p q scheme step reply k =
    let access_outcome = subst (λ r. Becomes (record { before = m.before; step = m.step; reply = r; after = m.after }) h p q) (sym reply) k in
    let j = subst (λ x. Becomes (record { before = m.before; step = x; reply = n.reply; after = m.after }) h p q) (sym step) access_outcome in
    record { waits = j.waits; stays = j.stays; joined = j.joined; remapped = λ page inside. rw scheme (j.remapped page inside); vacant = j.vacant; below = j.below; forked = j.forked; unforked = j.unforked; base = j.base; new_base = j.new_base; stored = j.stored; cleared = j.cleared; size = rw scheme j.size }

-- marks change no file

marks_files : (policy : Policy) (w : World) (o : StepOutcome) → ((with_stale_slots policy w o).world).files ≡ (o.world).files
marks_files Full w o = refl
marks_files Asid w o = refl

pub step_files : (w : World) (x : Step) → ((step w x).world).files ≡ ((plain_step w x).world).files
unfolding step
step_files w x = marks_files w.policy w (plain_step w x)

-- what has become of the process in slot s, which was p
pub data Own (w : World) (h s : ℕ) (x : Step) (p : Process) (o : StepOutcome) : Type 0 where
  alive : (q : Process) → process_in o.world s ≡ Some q → is_end o.reply ≡ false → Becomes (told_as w x o.reply) h p q → Own w h s x p o
  gone : process_in o.world s ≡ None → is_end o.reply ≡ true → At o.world h None Idle → (o.world).files ≡ all_written_back w.files p → Own w h s x p o

refused_unmoved : (x : Step) (r : Refusal) (page : ℕ) → is_remapped x (Scalar (Refused r)) page ≡ false
refused_unmoved (step_of.Exec h image) r page = refl
refused_unmoved (step_of.Sbrk h delta) r page = refl
refused_unmoved (step_of.Mmap h len protection flags n) r page = refl
refused_unmoved (step_of.Munmap h address len) r page = refl
refused_unmoved _ r page = refl

refused_size : (z : Scheme) (x : Step) (r : Refusal) (size : ℕ) → size_after z x (Scalar (Refused r)) size ≡ pos size
refused_size z (step_of.Start image) r size = refl
refused_size z (step_of.Exec h image) r size = refl
refused_size z (step_of.Sbrk h delta) r size = refl
refused_size z _ r size = refl

module _ (w : World) (h s : ℕ) (p : Process) (on : IsOnHart w h s p) (x : Step) where
  abbrev Fate : StepOutcome → Type 0
  Fate o = Own w h s x p o

  -- no page is remapped
  becomes : (r : Reply) (q : Process) → (IsMade r → is_unserved_access q.pending ≡ is_fault r) → ((page : ℕ) → is_remapped x r page ≡ false) → size_after w.scheme x r p.size ≡ pos p.size → ((n : ℕ) → r ≢ Scalar (OldSize n)) → Further (is_stored_to p x) p q
      → Becomes (told_as w x r) h p q
  becomes r q waits none same calm f = record {
    waits = waits;
    stays = λ page out. (ap (λ rs. grant_in (region_at rs page) page) f.same, f.stored page);
    joined = λ page. ap (λ ms. in_one_of ms page) f.maps ∙ unpicked (is_remapped x r page) (is_remapped x r (page + 1)) (joins x r page) (are_joined p page) (none page) (none (page + 1));
    remapped = λ page e. absurd (let no : true ≡ false = sym e ∙ none page in cc);
    vacant = λ page e. absurd (let no : true ≡ false = sym e ∙ none page in cc);
    below = λ page e. absurd (let no : true ≡ false = sym e ∙ none page in cc);
    forked = λ other. f.forked;
    unforked = λ page out. f.kept page;
    base = λ other. f.base;
    new_base = λ image e is. absurd (let no : true ≡ false = sym (ap (λ y. is_remapped y r 0) e ∙ ap (λ t. is_remapped (step_of.Exec h image) t 0) is) ∙ none 0 in cc);
    stored = f.anew;
    cleared = λ image e is. absurd (let no : true ≡ false = sym (ap (λ y. is_remapped y r 0) e ∙ ap (λ t. is_remapped (step_of.Exec h image) t 0) is) ∙ none 0 in cc);
    size = ap pos f.size ∙ sym same;
  }

  -- no page is remapped, and the size stays
  abbrev Calm : Reply → Type 0
  Calm r = ((page : ℕ) → is_remapped x r page ≡ false) × (size_after w.scheme x r p.size ≡ pos p.size)

  quiet : (r : Refusal) → Fate (refuses w r)
  quiet r = Own.alive p on.lives refl (becomes (Scalar (Refused r)) p (λ made. absurd (made r refl)) (refused_unmoved x r) (refused_size w.scheme x r p.size) (λ n e. absurd cc) (still (is_stored_to p x) p))

  -- its slot has q then
  puts : (v : World) (r : Reply) (q : Process) → v.slots ≡ (with_process w s q).slots → is_end r ≡ false → Becomes (told_as w x r) h p q → Fate (answers v r)
  puts v r q e lives k = Own.alive q ((set_puts w v s (Some q) (in_range w s p on.lives) e).here) lives k

  further : (v : World) (r : Reply) (q : Process) → v.slots ≡ (with_process w s q).slots → is_end r ≡ false → is_unserved_access q.pending ≡ is_fault r → Calm r → ((n : ℕ) → r ≢ Scalar (OldSize n)) → Further (is_stored_to p x) p q → Fate (answers v r)
  further v r q e lives waits still other f = puts v r q e lives (becomes r q (λ made. waits) still.0 still.1 other f)

  ends : (hart : Hart) (r : Reply) → slice_get w.harts h ≡ Some hart → is_end r ≡ true → Fate (ended w h hart s p r)
  ends hart r there is = Own.gone ((set_puts w (ended w h hart s p r).world s None (in_range w s p on.lives) refl).here) is (put_at (record (without_process w s) { files = all_written_back w.files p }) h hart (record hart { phase = Idle; slot = None }) there) refl

  -- it is the process of that hart
  its : (f : ℕ → Process → StepOutcome) (t : ℕ) (q : Process) → slot_on w h ≡ Some t → process_in w t ≡ Some q → Fate (f s p) → Fate (f t q)
  its f t q at here fate =
      let slots : s ≡ t = same_Some s t (sym on.there ∙ at) in
      let same : p ≡ q = same_Some p q (sym on.lives ∙ ap (process_in w) slots ∙ here) in
      subst (λ (r : Process). Fate (f t r)) same (subst (λ k. Fate (f k p)) slots fate)

  -- accesses

  fault_fate : (hart : Hart) (a : service.AccessRequest) (cause : ℕ) → Calm (Scalar (Fault cause)) → Fate (access_outcome w h hart s (faulted p a cause))
  fault_fate hart a cause still = further _ _ _ refl refl refl still (λ n e. absurd cc) (record { same = refl; maps = refl; size = refl; base = refl; kept = λ page e. inl e; forked = λ page e. e; stored = λ page e. e; anew = λ page e. inl e })

  answer_fate : (v : World) (r : Reply) (kind : Access) (address width value : ℕ) (page : Page) → v.slots ≡ (with_process w s (without_pending (with_page p (page_of address) (access_answer kind page (address % 4096) width value).1))).slots
      → is_end r ≡ false → false ≡ is_fault r → Calm r → ((n : ℕ) → r ≢ Scalar (OldSize n)) → get p.settled (page_of address) ≡ Some page → Fate (answers v r)
  answer_fate v r kind address width value page e lives calm still other there =
      let f = answer_further (is_stored_to p x) p (page_of address) page kind (address % 4096) width value there in
      further v r (without_pending (with_page p (page_of address) (access_answer kind page (address % 4096) width value).1)) e lives calm still other (record { same = f.same; maps = f.maps; size = f.size; base = f.base; kept = f.kept; forked = f.forked; stored = f.stored; anew = f.anew })

  -- service

  serve_or : (hart : Hart) (a : Pending) (r : Result Progress Rule) → slice_get w.harts h ≡ Some hart → Calm (Scalar Ready) → FurtherIfOk (is_stored_to p x) p r → Fate (served_or_ended w h hart s p a r)
  serve_or hart a (Err r) there still FurtherIfOk.stopped = ends hart _ there refl
  serve_or hart a (Ok g) there still (FurtherIfOk.came f) = further _ _ (with_served g a).process refl refl refl still (λ n e. absurd cc) (record { same = f.same; maps = f.maps; size = f.size; base = f.base; kept = f.kept; forked = f.forked; stored = f.stored; anew = f.anew })

  serve_fate : (hart : Hart) (o : Option Pending) → slice_get w.harts h ≡ Some hart → Calm (Scalar Ready) → ((a : Pending) → o ≡ Some a → is_store a.access ≡ true → is_stored_to p x (page_of a.address) ≡ true) → Fate (served w h hart s p o)
  serve_fate hart None there still goes = quiet _
  serve_fate hart (Some a) there still goes = serve_or hart a _ there still (reached_further (is_stored_to p x) (environment_of w s) (initial_progress w p) a.access a.address (first_rule p.scheme (regions p) a.access a.address a.width) (goes a refl))

  -- copies

  in_fate : (c : Copied) (o : Option Rule) → Calm (in_reply c.bytes o) → (((c.progress).process).pending ≡ None) → Further (is_stored_to p x) p (c.progress).process → Fate (answers (with_progress w s c.progress) (in_reply c.bytes o))
  in_fate c None still idle f = further _ _ (c.progress).process refl refl (ap is_unserved_access idle) still (λ n e. absurd cc) f
  in_fate c (Some r) still idle f = further _ _ (c.progress).process refl refl (ap is_unserved_access idle) still (λ n e. absurd cc) f

  out_fate : (c : Copied) (o : Option Rule) → Calm (out_reply c.bytes o) → (((c.progress).process).pending ≡ None) → Further (is_stored_to p x) p (c.progress).process → Fate (answers (with_progress w s c.progress) (out_reply c.bytes o))
  out_fate c None still idle f = further _ _ (c.progress).process refl refl (ap is_unserved_access idle) still (λ n e. absurd cc) f
  out_fate c (Some r) still idle f = further _ _ (c.progress).process refl refl (ap is_unserved_access idle) still (λ n e. absurd cc) f

  begun_further : (may : ℕ → Bool) (q : Process) → Further may (without_pending p) q → Further may p q
  begun_further may q f = record { same = f.same; maps = f.maps; size = f.size; base = f.base; kept = f.kept; forked = f.forked; stored = f.stored; anew = f.anew }

  copy_in_fate : (address n : ℕ) → ((r : Reply) → Calm r) → ((q : Process) → Further (λ page. false) p q → Further (is_stored_to p x) p q) → Fate (copy_in_outcome w s (copied_in (environment_of w s) (initial_progress w (without_pending p)) address n))
  copy_in_fate address n still may =
      let c = copied_in (environment_of w s) (initial_progress w (without_pending p)) address n in
      in_fate c c.stop (still (in_reply c.bytes c.stop)) ((in_so_far (environment_of w s) (initial_progress w (without_pending p)) address n).idle) (may (c.progress).process (begun_further (λ page. false) (c.progress).process (copied_in_far (environment_of w s) (initial_progress w (without_pending p)) address n)))

  copy_out_fate : (address : ℕ) (bytes : List ℕ) → ((r : Reply) → Calm r) → ((q : Process) → Further (has_some_of address (length bytes)) p q → Further (is_stored_to p x) p q) → Fate (copy_out_outcome w s (copied_out (environment_of w s) (initial_progress w (without_pending p)) address bytes))
  copy_out_fate address bytes still may =
      let c = copied_out (environment_of w s) (initial_progress w (without_pending p)) address bytes in
      out_fate c c.stop (still (out_reply c.bytes c.stop)) ((out_so_far (environment_of w s) (initial_progress w (without_pending p)) address bytes).idle) (may (c.progress).process (begun_further (has_some_of address (length bytes)) (c.progress).process (copied_out_far (environment_of w s) (initial_progress w (without_pending p)) address bytes)))

-- pages that are released, and those of an image and of a fork's parent

released_mark : (mark : Page → Bool) (p : Process) (first end page : ℕ) → has_mark mark (get (without_pages p first end).settled page) ≡ true → has_mark mark (get p.settled page) ≡ true
released_mark mark p first end page e = by (is_between first end page) refl
  where
    by : (b : Bool) → is_between first end page ≡ b → has_mark mark (get p.settled page) ≡ true
    by true inside = absurd (let no : true ≡ false = sym e ∙ mark_at mark (get (without_pages p first end).settled page) None (inside_released p first end page inside) in cc)
    by false out = sym (mark_at mark (get (without_pages p first end).settled page) (get p.settled page) (outside_settled p first end page out)) ∙ e

mark_cond : (b : Bool) (x y : Page) (o u : Option Page) → x.dirty ≡ y.dirty → has_mark (λ z. z.dirty) o ≡ has_mark (λ z. z.dirty) u
    → has_mark (λ z. z.dirty) (cond b (Some x) o) ≡ has_mark (λ z. z.dirty) (cond b (Some y) u)
mark_cond true x y o u e f = e
mark_cond false x y o u e f = f

marked_stores : (f : ℕ → Page → Page) → ((n : ℕ) (x : Page) → (f n x).dirty ≡ x.dirty) → (es : List (ℕ × Page)) (page : ℕ)
    → has_mark (λ z. z.dirty) (find nat_cmp page (each_value f es)) ≡ has_mark (λ z. z.dirty) (find nat_cmp page es)
marked_stores f same [] page = refl
marked_stores f same (e ∷ es) page = mark_cond (eq_by_cmp nat_cmp page e.0) (f e.0 e.1) e.1 (find nat_cmp page (each_value f es)) (find nat_cmp page es) (same e.0 e.1) (marked_stores f same es page)

fork_stored : (p : Process) (page : ℕ) → has_dirty_mark (marked p) page ≡ has_dirty_mark p page
fork_stored p page = marked_stores (marked_page p) (λ n x. refl) p.settled.entries page

kept_cond : (b : Bool) (x y : Page) (o u : Option Page) → (y.cow ≡ true → x.cow ≡ true) → (has_mark (λ z. z.cow) u ≡ true → has_mark (λ z. z.cow) o ≡ true)
    → has_mark (λ z. z.cow) (cond b (Some y) u) ≡ true → has_mark (λ z. z.cow) (cond b (Some x) o) ≡ true
kept_cond true x y o u e f is = e is
kept_cond false x y o u e f is = f is

marks_kept : (f : ℕ → Page → Page) → ((n : ℕ) (x : Page) → x.cow ≡ true → (f n x).cow ≡ true) → (es : List (ℕ × Page)) (page : ℕ)
    → has_mark (λ z. z.cow) (find nat_cmp page es) ≡ true → has_mark (λ z. z.cow) (find nat_cmp page (each_value f es)) ≡ true
marks_kept f keeps [] page is = is
marks_kept f keeps (e ∷ es) page is = kept_cond (eq_by_cmp nat_cmp page e.0) (f e.0 e.1) e.1 (find nat_cmp page (each_value f es)) (find nat_cmp page es) (keeps e.0 e.1) (marks_kept f keeps es page) is

fork_kept : (p : Process) (page : ℕ) → has_cow_mark p page ≡ true → has_cow_mark (marked p) page ≡ true
fork_kept p page is = marks_kept (marked_page p) (λ n x e. ap (λ b. b || grants_write p n) e) p.settled.entries page is

-- calls that change regions, fork and exec

module _ (w : World) (h s : ℕ) (p : Process) (on : IsOnHart w h s p) where
  sbrk_unless : IsSound p → (delta : ℤ) (o : Option Refusal) → size_refusal p (wanted_size p delta) ≡ o → Own w h s (step_of.Sbrk h delta) p (resized_to w s p (resized_unless p (nat_abs (wanted_size p delta)) o))
  sbrk_unless sound delta (Some r) none = quiet w h s p on _ r
  sbrk_unless sound delta None none =
      let size = nat_abs (wanted_size p delta) in
      puts w h s p on _ _ _ _ refl refl (record {
        waits = λ made. refl;
        stays = λ page out.
            let k = resized_same p size page out in
            (k.grants, λ e. mark_at (λ z. z.dirty) (get (without_pages p (pages_for size) (pages_for p.size)).settled page) (get p.settled page) k.settled ∙ e);
        joined = λ page. resized_joined page p sound.ordered (wanted_size p delta) none;
        remapped = λ page inside. resized_given p sound.ordered page (wanted_size p delta) none inside;
        vacant = λ page inside other. resized_vacant p sound.ordered page (wanted_size p delta) none inside;
        below = λ page inside. resized_base p sound.ordered page (wanted_size p delta) none inside;
        unforked = λ page out e. inl (mark_at (λ z. z.cow) (get (without_pages p (pages_for size) (pages_for p.size)).settled page) (get p.settled page) (resized_same p size page out).settled ∙ e);
        base = λ other. refl;
        new_base = λ image e is. absurd cc;
        forked = λ other page. released_mark (λ z. z.cow) p (pages_for size) (pages_for p.size) page;
        stored = λ page e. inl (released_mark (λ z. z.dirty) p (pages_for size) (pages_for p.size) page e);
        cleared = λ image e is. absurd cc;
        size = resized_size p sound.ordered 0 (wanted_size p delta) none;
      })

  sbrk_fate : IsSound p → (delta : ℤ) → Own w h s (step_of.Sbrk h delta) p (resized_to w s p (sbrk_result p delta))
  unfolding sbrk_result
  sbrk_fate sound delta = sbrk_unless sound delta _ refl

  first_page : (first pages page : ℕ) → is_between (page_of (4096 * first)) (page_of (4096 * first) + pages) page ≡ false → is_between first (first + pages) page ≡ false
  first_page first pages page e = let same : page_of (4096 * first) ≡ first = omega arith in subst (λ k. is_between k (k + pages) page ≡ false) same e

  mmap_unless : IsSound p → (len protection flags n : ℕ) (place : Option ℕ) (o : Option Refusal) → mapping_place p (pages_for len) ≡ place → map_refusal w.files p len protection flags n ≡ o
      → Own w h s (step_of.Mmap h len protection flags n) p (mapped_to w s (mapped_unless p (mapping_of (unwrap_or place 0) (pages_for len) protection flags n) o))
  mmap_unless sound len protection flags n place (Some r) at none = quiet w h s p on _ r
  mmap_unless sound len protection flags n None None at none = absurd (has_place w.files p len protection flags n none at)
  mmap_unless sound len protection flags n (Some first) None at none =
      let m = mapping_of first (pages_for len) protection flags n in
      let start : page_of (4096 * first) ≡ first = omega arith in
      let at_first : (page : ℕ) → is_between (page_of (4096 * first)) (page_of (4096 * first) + pages_for len) page ≡ true → is_between first (first + pages_for len) page ≡ true = λ page. subst (λ k. is_between k (k + pages_for len) page ≡ true) start in
      puts w h s p on _ _ _ _ refl refl (record {
        waits = λ made. refl;
        stays = λ page out. let k = mapped_same p m page (first_page first (pages_for len) page out) in (k.grants, λ e. e);
        joined = λ page. subst (λ k. are_joined (record p { mappings = with_mapping m p.mappings }) page ≡ cond (is_between k (k + pages_for len) page || is_between k (k + pages_for len) (page + 1)) (is_between k (k + pages_for len) page && is_between k (k + pages_for len) (page + 1)) (are_joined p page)) (sym start)
            (mapped_joined page p m (place_fits p (pages_for len) first at));
        remapped = λ page inside. mapped_given p sound.ordered page m (place_fits p (pages_for len) first at) (at_first page inside) ∙ mapping_given first (pages_for len) protection flags n page ∙ ap (λ k. Some (mapping_grant protection flags n (page - k))) (sym start);
        vacant = λ page inside other. inl (mapped_vacant p sound.ordered page m (place_fits p (pages_for len) first at) (at_first page inside));
        below = λ page inside. mapped_above p sound.ordered page m (place_fits p (pages_for len) first at) (at_first page inside);
        unforked = λ page out e. inl e;
        base = λ other. refl;
        new_base = λ image e is. absurd cc;
        forked = λ other page e. e;
        stored = λ page e. inl e;
        cleared = λ image e is. absurd cc;
        size = refl;
      })

  mmap_fate : IsSound p → (len protection flags n : ℕ) → Own w h s (step_of.Mmap h len protection flags n) p (mapped_to w s (mapped w.files p len protection flags n))
  unfolding mapped
  mmap_fate sound len protection flags n = mmap_unless sound len protection flags n (mapping_place p (pages_for len)) _ refl refl

  module _ (sound : IsSound p) (address len : ℕ) where
    abbrev first : ℕ
    first = page_of address

    abbrev end : ℕ
    end = first + pages_for len

    hole_fate : (m : Region) (b : Bool) → leaves_hole m first end ≡ b → mapping_around p.mappings first end ≡ Some m → Own w h s (step_of.Munmap h address len) p (unmapped_to w s (unmapped_unless w.files p m first end b))
    hole_fate m true whole environment_of = quiet w h s p on _ _
    hole_fate m false whole environment_of = puts w h s p on _ _ _ _ refl refl (record {
      waits = λ made. refl;
      stays = λ page out.
          let k = unmapped_same p m (pages_for p.size) (trapframe_page p.scheme) first end page (omega arith) out (sound.ordered).above environment_of in
          (k.grants, λ e. mark_at (λ z. z.dirty) (get (without_pages p first end).settled page) (get p.settled page) k.settled ∙ e);
      joined = λ page. instead_joined page first end (omega arith) (pages_for p.size) (trapframe_page p.scheme) p.mappings m (sound.ordered).above environment_of whole;
      remapped = λ page inside. unmapped_given p sound.ordered page first end inside m environment_of;
      vacant = λ page inside other. inr (unmapped_given p sound.ordered page first end inside m environment_of);
      below = λ page inside. unmapped_above p sound.ordered page first end inside m environment_of;
      unforked = λ page out e. inl (mark_at (λ z. z.cow) (get (without_pages p first end).settled page) (get p.settled page) (unmapped_same p m (pages_for p.size) (trapframe_page p.scheme) first end page (omega arith) out (sound.ordered).above environment_of).settled ∙ e);
      base = λ other. refl;
      new_base = λ image e is. absurd cc;
      forked = λ other page. released_mark (λ z. z.cow) p first end page;
      stored = λ page e. inl (released_mark (λ z. z.dirty) p first end page e);
      cleared = λ image e is. absurd cc;
      size = refl;
    })

    in_fate_of : (o : Option Region) → mapping_around p.mappings first end ≡ o → Own w h s (step_of.Munmap h address len) p (unmapped_to w s (unmapped_in w.files p first end o))
    in_fate_of None environment_of = quiet w h s p on _ _
    in_fate_of (Some m) environment_of = hole_fate m _ refl environment_of

    if_fate : (b : Bool) → Own w h s (step_of.Munmap h address len) p (unmapped_to w s (unmapped_if w.files p first end b))
    if_fate false = quiet w h s p on _ _
    if_fate true = in_fate_of _ refl

    munmap_fate : Own w h s (step_of.Munmap h address len) p (unmapped_to w s (unmapped w.files p address len))
    unfolding unmapped
    munmap_fate = if_fate _

  exec_unless : (image : Image) (ls : List LoadSegment) (b : Bool) → image_loads w.scheme image ≡ Ok ls → Own w h s (step_of.Exec h image) p (replaced_unless w s p ls b)
  exec_unless image ls true loads = quiet w h s p on _ _
  exec_unless image ls false loads = puts w h s p on _ _ _ (process_of w.scheme w.counter ls) refl refl (record {
    waits = λ made. image_idle w.scheme w.counter ls;
    stays = λ page out. absurd cc;
    joined = λ page. image_joined w.scheme w.counter ls page;
    remapped = λ page inside. image_given w.scheme w.counter ls page ∙ ap (λ r. image_grant r page) (sym loads);
    vacant = λ page inside other. absurd (other image refl);
    below = λ page inside. refl;
    unforked = λ page out. absurd cc;
    base = λ other. absurd (other image refl);
    new_base = λ other e is. image_based w.scheme w.counter ls;
    forked = λ other page e. absurd (let no : true ≡ false = sym e ∙ (image_unmarked w.scheme w.counter ls page).0 in cc);
    stored = λ page e. absurd (let no : true ≡ false = sym e ∙ (image_unmarked w.scheme w.counter ls page).1 in cc);
    cleared = λ other e is. image_unmarked w.scheme w.counter ls;
    size = ap pos (image_sized w.scheme w.counter ls ∙ ap image_size (sym loads));
  })

  exec_fate : (image : Image) (r : Result (List LoadSegment) BadImage) → image_loads w.scheme image ≡ r → Own w h s (step_of.Exec h image) p (replaced w s p r)
  exec_fate image (Err e) loads = quiet w h s p on _ _
  exec_fate image (Ok ls) loads = exec_unless image ls _ loads

  -- the child is in another slot
  child_apart : (child : ℕ) → free_slot w ≡ Some child → child ≡ s → ⊥
  child_apart child free same = let empty : process_in w s ≡ None = free_is_empty w.slots 0 child s free (omega (arith, same)) in absurd (none_some (sym empty ∙ on.lives))

  fork_unless : (child : ℕ) (b : Bool) → free_slot w ≡ Some child → Own w h s (step_of.Fork h) p (forked_unless w s p child b)
  fork_unless child true free = quiet w h s p on _ _
  fork_unless child false free = Own.alive (marked p) lives refl (record {
    waits = λ made. refl;
    stays = λ page out. (refl, λ e. fork_stored p page ∙ e);
    joined = λ page. refl;
    remapped = λ page inside. absurd cc;
    vacant = λ page inside. absurd cc;
    below = λ page inside. absurd cc;
    forked = λ other. absurd (other refl);
    unforked = λ page out e. inl (fork_kept p page e);
    base = λ other. refl;
    new_base = λ image e is. absurd cc;
    stored = λ page e. inl (sym (fork_stored p page) ∙ e);
    cleared = λ image e is. absurd cc;
    size = refl;
  })
    where
      lives : process_in (with_process (with_process w s (marked p)) child (child_of p)) s ≡ Some (marked p)
      lives =
          (child_put w s p child free).others s (λ same. child_apart child free same) ∙ set_lives w.slots s p (marked p) on.lives

  fork_fate : (o : Option ℕ) → free_slot w ≡ o → Own w h s (step_of.Fork h) p (forked w s p o)
  fork_fate None free = quiet w h s p on _ _
  fork_fate (Some child) free = fork_unless child _ free

-- the store whose fault is served
store_here : (a : Pending) → is_store a.access ≡ true → is_store_at (Some a) (page_of a.address) ≡ true
store_here a store = rw (store, eq-eqb (page_of a.address) (page_of a.address) refl) refl

-- ---- all steps

module _ (w : World) (h s : ℕ) (p : Process) (on : IsOnHart w h s p) where
  abbrev FateOf : Step → Type 0
  FateOf x = Own w h s x p (plain_step w x)

  pub same_process : (t : ℕ) (q : Process) → slot_on w h ≡ Some t → process_in w t ≡ Some q → p ≡ q
  same_process t q at here = same_Some p q (sym on.lives ∙ ap (process_in w) (same_Some s t (sym on.there ∙ at)) ∙ here)

  trap_own : FateOf (step_of.Trap h)
  trap_own =
      let x = step_of.Trap h in
      on_hart_good w (Own w h s x p) (quiet w h s p on x) h true _ _ _ (λ hart is _. its_good w (Own w h s x p) (quiet w h s p on x) h hart _ is
      (λ t q at here. its w h s p on x (λ t q. answers (with_hart (with_process w t (without_pending q)) h (record hart { phase = Enter0 })) (Scalar Done)) t q at here
      (further w h s p on x (with_hart (with_process w s (without_pending p)) h (record hart { phase = Enter0 })) (Scalar Done) (without_pending p) refl refl refl ((λ page. refl), refl) (λ n e. absurd cc) (record { same = refl; maps = refl; size = refl; base = refl; kept = λ page e. inl e; forked = λ page e. e; stored = λ page e. e; anew = λ page e. inl e }))))

  answer_there : (hart : Hart) (kind : Access) (address width value : ℕ) (x : Step) → (page : Page) (t : ℕ) (q : Process) → slot_on w h ≡ Some t → process_in w t ≡ Some q → get q.settled (page_of address) ≡ Some page
      → get p.settled (page_of address) ≡ Some page
  answer_there hart kind address width value x page t q at here e = ap (λ (r : Process). get r.settled (page_of address)) (same_process t q at here) ∙ e

  fetch_own : (address : ℕ) (via : Option ℕ) → FateOf (step_of.Fetch h address via)
  fetch_own address via =
      let x = step_of.Fetch h address via in
      access_good w (Own w h s x p) (quiet w h s p on x) h access.Fetch address 4 0 via
      (λ hart t q cause here at. its w h s p on x (λ t q. access_outcome w h hart t (faulted q (harts.asks access.Fetch address 4 0) cause)) t q at here (fault_fate w h s p on x hart (harts.asks access.Fetch address 4 0) cause ((λ page. refl), refl)))
      (λ hart t q page here at e fits. its w h s p on x (λ t q. access_outcome w h hart t (service.answered q (harts.asks access.Fetch address 4 0) (access_answer access.Fetch page (address % 4096) 4 0))) t q at here
      (answer_fate w h s p on x _ _ access.Fetch address 4 0 page refl refl refl ((λ page. refl), refl) (λ n e. absurd cc) (answer_there hart access.Fetch address 4 0 x page t q at here e)))

  load_own : (address width : ℕ) (via : Option ℕ) → FateOf (step_of.Load h address width via)
  load_own address width via =
      let x = step_of.Load h address width via in
      access_good w (Own w h s x p) (quiet w h s p on x) h access.Load address width 0 via
      (λ hart t q cause here at. its w h s p on x (λ t q. access_outcome w h hart t (faulted q (harts.asks access.Load address width 0) cause)) t q at here (fault_fate w h s p on x hart (harts.asks access.Load address width 0) cause ((λ page. refl), refl)))
      (λ hart t q page here at e fits. its w h s p on x (λ t q. access_outcome w h hart t (service.answered q (harts.asks access.Load address width 0) (access_answer access.Load page (address % 4096) width 0))) t q at here
      (answer_fate w h s p on x _ _ access.Load address width 0 page refl refl refl ((λ page. refl), refl) (λ n e. absurd cc) (answer_there hart access.Load address width 0 x page t q at here e)))

  store_own : (address width value : ℕ) (via : Option ℕ) → FateOf (step_of.Store h address width value via)
  store_own address width value via =
      let x = step_of.Store h address width value via in
      access_good w (Own w h s x p) (quiet w h s p on x) h access.Store address width value via
      (λ hart t q cause here at. its w h s p on x (λ t q. access_outcome w h hart t (faulted q (harts.asks access.Store address width value) cause)) t q at here (fault_fate w h s p on x hart (harts.asks access.Store address width value) cause ((λ page. refl), refl)))
      (λ hart t q page here at e fits. its w h s p on x (λ t q. access_outcome w h hart t (service.answered q (harts.asks access.Store address width value) (access_answer access.Store page (address % 4096) width value))) t q at here
      (answer_fate w h s p on x _ _ access.Store address width value page refl refl refl ((λ page. refl), refl) (λ n e. absurd cc) (answer_there hart access.Store address width value x page t q at here e)))

  serve_own : FateOf (step_of.Serve h)
  serve_own =
      let x = step_of.Serve h in
      on_hart_good w (Own w h s x p) (quiet w h s p on x) h true _ _ _ (λ hart is _. its_good w (Own w h s x p) (quiet w h s p on x) h hart _ is
      (λ t q at here. its w h s p on x (λ t q. served w h hart t q q.pending) t q at here (serve_fate w h s p on x hart p.pending is ((λ page. refl), refl) (λ a e store. ap (λ o. is_store_at o (page_of a.address)) e ∙ store_here a store))))

  exit_own : (status : ℤ) → FateOf (step_of.Exit h status)
  exit_own status =
      let x = step_of.Exit h status in
      on_hart_good w (Own w h s x p) (quiet w h s p on x) h true _ _ _ (λ hart is _. its_good w (Own w h s x p) (quiet w h s p on x) h hart _ is
      (λ t q at here. its w h s p on x (λ t q. ended w h hart t q (Scalar (Exited status))) t q at here (ends w h s p on x hart (Scalar (Exited status)) is refl)))

  call_own : (x : Step) (proper : Bool) (run : Hart → ℕ → Process → StepOutcome) → ((hart : Hart) → Own w h s x p (run hart s p)) → Own w h s x p (kernel_call w h proper run)
  call_own x proper run each = kernel_good w (Own w h s x p) (quiet w h s p on x) h proper run (λ hart t q at here. its w h s p on x (run hart) t q at here (each hart))

  fork_own : FateOf (step_of.Fork h)
  fork_own = call_own _ true _ (λ hart. fork_fate w h s p on (free_slot w) refl)

  exec_own : (image : Image) → FateOf (step_of.Exec h image)
  exec_own image = call_own _ true _ (λ hart. exec_fate w h s p on image (image_loads w.scheme image) refl)

  sbrk_own : IsSound p → (delta : ℤ) → FateOf (step_of.Sbrk h delta)
  sbrk_own sound delta = call_own _ true _ (λ hart. sbrk_fate w h s p on sound delta)

  mmap_own : IsSound p → (len protection flags n : ℕ) → FateOf (step_of.Mmap h len protection flags n)
  mmap_own sound len protection flags n = call_own _ true _ (λ hart. mmap_fate w h s p on sound len protection flags n)

  munmap_own : IsSound p → (address len : ℕ) → FateOf (step_of.Munmap h address len)
  munmap_own sound address len = call_own _ true _ (λ hart. munmap_fate w h s p on sound address len)

  copy_in_own : (address n : ℕ) → FateOf (step_of.CopyIn h address n)
  copy_in_own address n = call_own (step_of.CopyIn h address n) _ _ (λ hart. copy_in_fate w h s p on (step_of.CopyIn h address n) address n (λ r. ((λ page. refl), refl)) (λ q f. f))

  copy_out_own : (address : ℕ) (bytes : Bor (List ℕ)) → FateOf (step_of.CopyOut h address bytes)
  copy_out_own address bytes = call_own (step_of.CopyOut h address bytes) _ _ (λ hart. copy_out_fate w h s p on (step_of.CopyOut h address bytes) address bytes.now (λ r. ((λ page. refl), refl)) (λ q f. f))

  -- its own step
  own_plain : IsSound p → (x : Step) → hart_of_step x ≡ Some h → FateOf x
  own_plain sound (step_of.Start image) e = absurd cc
  own_plain sound (step_of.Switch k slot) e = absurd cc
  own_plain sound (step_of.Trap k) e = subst (λ n. FateOf (step_of.Trap n)) (sym (same_Some k h e)) trap_own
  own_plain sound (step_of.Next k) e = absurd cc
  own_plain sound (step_of.Fill k address) e = absurd cc
  own_plain sound (step_of.Evict k n) e = absurd cc
  own_plain sound (step_of.Fetch k address via) e = subst (λ n. FateOf (step_of.Fetch n address via)) (sym (same_Some k h e)) (fetch_own address via)
  own_plain sound (step_of.Load k address width via) e = subst (λ n. FateOf (step_of.Load n address width via)) (sym (same_Some k h e)) (load_own address width via)
  own_plain sound (step_of.Store k address width value via) e = subst (λ n. FateOf (step_of.Store n address width value via)) (sym (same_Some k h e)) (store_own address width value via)
  own_plain sound (step_of.TrampolineFetch k offset via) e = absurd cc
  own_plain sound (step_of.Serve k) e = subst (λ n. FateOf (step_of.Serve n)) (sym (same_Some k h e)) serve_own
  own_plain sound (step_of.Fork k) e = subst (λ n. FateOf (step_of.Fork n)) (sym (same_Some k h e)) fork_own
  own_plain sound (step_of.Exec k image) e = subst (λ n. FateOf (step_of.Exec n image)) (sym (same_Some k h e)) (exec_own image)
  own_plain sound (step_of.Sbrk k delta) e = subst (λ n. FateOf (step_of.Sbrk n delta)) (sym (same_Some k h e)) (sbrk_own sound delta)
  own_plain sound (step_of.Mmap k len protection flags i) e = subst (λ n. FateOf (step_of.Mmap n len protection flags i)) (sym (same_Some k h e)) (mmap_own sound len protection flags i)
  own_plain sound (step_of.Munmap k address len) e = subst (λ n. FateOf (step_of.Munmap n address len)) (sym (same_Some k h e)) (munmap_own sound address len)
  own_plain sound (step_of.CopyIn k address i) e = subst (λ n. FateOf (step_of.CopyIn n address i)) (sym (same_Some k h e)) (copy_in_own address i)
  own_plain sound (step_of.CopyOut k address bytes) e = subst (λ n. FateOf (step_of.CopyOut n address bytes)) (sym (same_Some k h e)) (copy_out_own address bytes)
  own_plain sound (step_of.Exit k status) e = subst (λ n. FateOf (step_of.Exit n status)) (sym (same_Some k h e)) (exit_own status)

  as_step : (x : Step) → FateOf x → Own w h s x p (step w x)
  as_step x (Own.alive q e lives k) = Own.alive q (step_process w x s ∙ e) (ap is_end (step_reply w x) ∙ lives) (becomes_as (told_as w x (plain_step w x).reply) (told_as w x (step w x).reply) h p q refl refl (step_reply w x) k)
  as_step x (Own.gone e is at written) = Own.gone (step_process w x s ∙ e) (ap is_end (step_reply w x) ∙ is) (step_at w x h None Idle at) (step_files w x ∙ written)

  pub owns : IsSound p → (x : Step) → hart_of_step x ≡ Some h → Own w h s x p (step w x)
  owns sound x e = as_step x (own_plain sound x e)
