-- Lemmas: a property of processes that each kind of change keeps (`IsKept`: a page settled, taken over or written; heap,
-- mappings, fork, image, ..) holds of every process in every run since boot (`always_holds`). It may speak of the world's
-- counter, which is above every copy number (names one copy of a page in memory) that was given.
use Rattle.std.proofs.Common.{◌≡◌, ◌≢◌, ℕ, zero, suc, ℤ, Bool, true, false, cond, ◌+◌, ◌%◌, ◌≤◌, ◌⊎◌, inl, inr, refl, sym, ap, subst, ◌∙◌, arith, List, [], ◌∷◌, ◌++◌, Option, None, Some, length}
use Rattle.std.proofs.lemmas.Bool.{eqb-true, true≢false}
use Rattle.std.proofs.lemmas.Bool.Decides.{nat_tests}
use Rattle.std.proofs.lemmas.Grind.{common_steps}
use Rattle.std.specs.Prelude.{◌/◌, ◌^◌, unwrap_or, is_none, nat_abs, slice_get, slice_set, fold, zip, replicate, Result, Ok, Err}
use Rattle.std.proofs.lemmas.Option.{same_Some}
use Rattle.process_laws.specs.DisjointRegions.{EachProcess}
use Rattle.process_laws.proofs.StepReplies.{step_suits}
use Rattle.sv39_entry.specs.declared.scheme.Scheme.{Scheme}
use Rattle.process_model.specs.Bytes.{pages_for, is_width, low_bytes, write_bytes, numbers_from}
use Rattle.process_model.specs.Files.{File}
use Rattle.process_model.proofs.GrantLaws.{map_granted}
use Rattle.process_model.specs.PageMap.{get}
use Rattle.process_model.specs.Regions.{Region, copy_rule, first_rule, fault_cause, is_aligned}
use Rattle.process_model.specs.Process.{Process, Page, Pending, regions, without_pending}
use Rattle.process_model.specs.Residence.{settled_anew, taken_over, taken_over_unless, made_resident_from, region_on, with_page, access_answer, marked, child_of}
use Rattle.process_model.specs.Heap.{without_pages, size_refusal, resized, resized_unless, wanted_size, sbrk_result}
use Rattle.process_model.specs.Mappings.{mapping_place, map_refusal, mapping_of, with_mapping, Mapped, mapped_unless, mapped, mapping_around, leaves_hole, front_of, back_of, with_instead, Unmapped, unmapped_unless, unmapped_in, unmapped_if, unmapped}
use Rattle.process_model.specs.Images.{LoadSegment, image_loads}
use Rattle.process_model.specs.ImageProcess.{image_pages, process_of}
use Rattle.process_model.specs.Harts.{Hart}
use Rattle.process_model.specs.World.{World, StepOutcome, flat, process_in, with_process, booted, common_refusal, unless_refused, on_hart_at, on_hart, with_process_of, with_slot_of, with_its_process, kernel_call, can_call, always}
use Rattle.process_model.specs.Environment.{Environment, Progress, unless_dry, unless_resident, resident_at, resident_at_address}
use Rattle.process_model.specs.Service.{Answer, AccessRequest, access_step, environment_of, initial_progress, faulted, if_resident, if_settled, access_outcome_if, unless_denied, user_access, ended, served_or_ended, served, with_progress, with_served}
use Rattle.process_model.specs.Copies.{Copied, copy_begun, with_byte_on, one_in, next_in, one_out, next_out, copied_in, copied_out}
use Rattle.process_model.specs.Calls.{with_image, started_unless, started_as, started, replaced_unless, replaced, forked_unless, forked, resized_to, mapped_to, unmapped_to}
use Rattle.process_model.specs.Stale.{with_stale_slots}
use Rattle.process_model.specs.Steps.{plain_step, step, run}
use Rattle.sv39_entry.specs.Address.{page_of}
use Rattle.sv39_entry.specs.Causes.{page_fault_cause}
use Rattle.sv39_entry.specs.declared.access.Access.{Access}
use Rattle.sv39_entry.specs.declared.access.Access.TheVariants as access
use Rattle.sv39_entry.specs.declared.rule.Rule.{Rule}
use Rattle.sv39_entry.specs.declared.rule.Rule.TheVariants.{Misaligned}
use Rattle.process_model.specs.declared.config.Config.{Config}
use Rattle.process_model.specs.declared.config.Policy.{Policy}
use Rattle.process_model.specs.declared.config.Policy.TheVariants.{Full, Asid}
use Rattle.process_model.specs.declared.phase.Phase.{Phase}
use Rattle.process_model.specs.declared.image.BadImage.{BadImage}
use Rattle.process_model.specs.declared.image.Image.{Image}
use Rattle.process_model.specs.declared.reply.Refusal.{Refusal}
use Rattle.process_model.specs.declared.reply.Reply.{Reply}
use Rattle.process_model.specs.declared.reply.ScalarReply.TheVariants.{Ended, Exited}
use Rattle.process_model.specs.declared.reply.Reply.TheVariants.{Scalar}
use Rattle.process_model.specs.declared.step.Step.{Step}
use Rattle.process_model.specs.declared.step.Step.TheVariants.{Start, Switch, Trap, Next, Fill, Evict, Fetch, Load as load_step, Store, TrampolineFetch, Serve, Fork, Exec, Sbrk, Mmap, Munmap, CopyIn, CopyOut, Exit}

-- every kind of change keeps the property, where n is the counter, and images are read by one scheme
pub record IsKept (scheme : Scheme) (P : ℕ → Process → Type 0) : Type 0 where
  -- the counter rises
  pub later : (n m : ℕ) (p : Process) → n ≤ m → P n p → P m p
  -- an image's process is made
  pub made : (z : Scheme) → z ≡ scheme → (n : ℕ) (image : Image) (ls : List LoadSegment) → image_loads z image ≡ Ok ls → P (n + length (image_pages ls)) (process_of z n ls)
  -- a granted page is settled
  pub settled : (n : ℕ) (files : List File) (p : Process) (access : Access) (address : ℕ) → copy_rule p.scheme (regions p) access address ≡ None → get p.settled (page_of address) ≡ None
      → P n p → P (n + 1) (settled_anew files n p access (page_of address))
  -- a page is taken over for a store
  pub taken : (n : ℕ) (shared : Bool) (p : Process) (page : ℕ) (x : Page) → get p.settled page ≡ Some x → P n p → P (n + 1) (with_page p page (taken_over n shared (region_on p page) x))
  -- a settled page has other bytes, as many
  pub written : (n : ℕ) (p : Process) (page : ℕ) (x : Page) (bytes : List ℕ) → get p.settled page ≡ Some x → (length x.bytes ≡ 4096 → length bytes ≡ 4096)
      → P n p → P n (with_page p page (record x { bytes = bytes }))
  -- an access waits for its service, was served or is over
  pub awaiting : (n : ℕ) (p : Process) (a : Option Pending) → P n p → P n (record p { pending = a })
  -- the heap grows or shrinks
  pub sized : (n : ℕ) (p : Process) (wanted : ℤ) → size_refusal p wanted ≡ None → P n p → P n (resized p (nat_abs wanted))
  -- a mapping comes to its place
  pub mapping : (n : ℕ) (files : List File) (p : Process) (len protection flags file first : ℕ) → map_refusal files p len protection flags file ≡ None → mapping_place p (pages_for len) ≡ Some first
      → P n p → P n (record p { mappings = with_mapping (mapping_of first (pages_for len) protection flags file) p.mappings })
  -- a run goes from a mapping that holds it, at its start or its end
  pub unmapping : (n : ℕ) (p : Process) (m : Region) (first end : ℕ) → first ≤ end → mapping_around p.mappings first end ≡ Some m → leaves_hole m first end ≡ false
      → P n p → P n (record (without_pages p first end) { mappings = with_instead p.mappings m.first (front_of m first ++ back_of m end) })
  -- fork
  pub parent : (n : ℕ) (p : Process) → P n p → P n (marked p)
  pub child : (n : ℕ) (p : Process) → P n p → P n (child_of p)

-- a slot has what it was set to, or what it had
set_or_same : (slots : List (Option Process)) (i j : ℕ) (o : Option Process) (q : Process) → flat (slice_get (slice_set slots i o) j) ≡ Some q
    → (o ≡ Some q) ⊎ (flat (slice_get slots j) ≡ Some q)
set_or_same [] i j o q e = inr e
set_or_same (p ∷ ps) zero zero o q e = inl e
set_or_same (p ∷ ps) zero (suc j) o q e = inr e
set_or_same (p ∷ ps) (suc i) zero o q e = inr e
set_or_same (p ∷ ps) (suc i) (suc j) o q e = set_or_same ps i j o q e

pub none_in_empty : (n s : ℕ) (q : Process) → flat (slice_get (replicate n None) s) ≡ Some q → ⊥
none_in_empty zero s q e = cc
none_in_empty (suc n) zero q e = cc
none_in_empty (suc n) (suc s) q e = none_in_empty n s q e

-- a step that is not refused is proper
proper_of : (hart : Hart) (proper : Bool) (possible entry : Hart → Bool) → common_refusal hart proper possible entry ≡ None → proper ≡ true
proper_of hart true possible entry e = refl
proper_of hart false possible entry e = cc

-- a granted access is aligned, and no rule denies a copy there
granted_if : (b : Bool) (r : Option Rule) → cond b r (Some Misaligned) ≡ None → (b ≡ true) × (r ≡ None)
granted_if true r e = (refl, e)
granted_if false r e = cc

granted : (z : Scheme) (rs : List Region) (access : Access) (address width : ℕ) → first_rule z rs access address width ≡ None → (is_aligned address width ≡ true) × (copy_rule z rs access address ≡ None)
granted z rs access address width e = granted_if (is_aligned address width) (copy_rule z rs access address) e

width_cases : (w : ℕ) → is_width w ≡ true → ((w ≡ 1) ⊎ (w ≡ 2)) ⊎ ((w ≡ 4) ⊎ (w ≡ 8))
width_cases w e = grind (arith, nat_tests)

-- an aligned access lies in its page
aligned_fits : (address width : ℕ) → is_width width ≡ true → is_aligned address width ≡ true → address % 4096 + width ≤ 4096
aligned_fits address width e a =
    let multiple : address % width ≡ 0 = eqb-true (address % width) 0 a in
    elim (width_cases width e) [
      | inl (inl is) ↦ omega arith
      | inl (inr is) ↦ let m : address % 2 ≡ 0 = rw is at multiple in omega arith
      | inr (inl is) ↦ let m : address % 4 ≡ 0 = rw is at multiple in omega arith
      | inr (inr is) ↦ let m : address % 8 ≡ 0 = rw is at multiple in omega arith
    ]

length_low_bytes : (v n : ℕ) → length (low_bytes v n) ≡ n
unfolding low_bytes
length_low_bytes v zero = refl
length_low_bytes v (suc n) = ap suc (length_low_bytes (v / 2 ^ 8) n)

-- as many bytes as before, where the new ones lie in the page
length_written : (bs vs : List ℕ) (o : ℕ) → o + length vs ≤ 4096 → length bs ≡ 4096 → length (write_bytes bs o vs) ≡ 4096
length_written bs vs o h e = grind (arith, common_steps)

pub same_Ok : {A B : Type 0} (x y : A) → ◌≡◌ {A = Result A B} (Ok x) (Ok y) → x ≡ y
same_Ok x y e = cc

pub has_place : (files : List File) (p : Process) (len protection flags file : ℕ) → map_refusal files p len protection flags file ≡ None → mapping_place p (pages_for len) ≢ None
has_place files p len protection flags file e none = true≢false (sym (ap is_none none) ∙ (map_granted files p len protection flags file e).1)

module _ (P : ℕ → Process → Type 0) where
  -- each process of the world has the property
  pub record Holds (w : World) : Type 0 where
    pub each : EachProcess (P w.counter) w

  -- so has a process in the middle of a call, and the counter did not fall
  pub record Goes (n : ℕ) (g : Progress) : Type 0 where
    pub keeps : P g.fresh g.process
    pub rises : n ≤ g.fresh

  pub data GoesIfOk (n : ℕ) : Result Progress Rule → Type 0 where
    stopped : {r : Rule} → GoesIfOk n (Err r)
    went : {g : Progress} → Goes n g → GoesIfOk n (Ok g)

  module _ {scheme : Scheme} (k : IsKept scheme P) where
    -- the processes are as they were
    same_slots : (w v : World) → v.slots ≡ w.slots → v.counter ≡ w.counter → Holds w → Holds v
    same_slots w v slots counter h = record { each = λ s p e. subst (λ (n : ℕ). P n p) (sym counter) (h.each s p (ap (λ xs. flat (slice_get xs s)) (sym slots) ∙ e)) }

    -- a slot is set, and the counter rises or stays
    set_holds : (w v : World) (s : ℕ) (o : Option Process) → v.slots ≡ slice_set w.slots s o → w.counter ≤ v.counter → ((q : Process) → o ≡ Some q → P v.counter q) → Holds w → Holds v
    set_holds w v s o slots counter f h = record {
      each = λ t q e. elim (set_or_same w.slots s t o q (ap (λ xs. flat (slice_get xs t)) (sym slots) ∙ e)) [
        | inl is ↦ f q is
        | inr is ↦ k.later w.counter v.counter q counter (h.each t q is)
      ];
    }

    -- a process is put into a slot
    pub put_holds : (w v : World) (s : ℕ) (p : Process) → v.slots ≡ slice_set w.slots s (Some p) → w.counter ≤ v.counter → P v.counter p → Holds w → Holds v
    put_holds w v s p slots counter f h = set_holds w v s (Some p) slots counter (λ q e. subst (P v.counter) (same_Some p q e) f) h

    -- a slot is emptied
    end_holds : (w v : World) (s : ℕ) → v.slots ≡ slice_set w.slots s None → v.counter ≡ w.counter → Holds w → Holds v
    end_holds w v s slots counter h = set_holds w v s None slots (omega arith) (λ q e. cc) h

    -- a process is put into a slot, and the counter stays
    with_holds : (w : World) (s : ℕ) (p : Process) → P w.counter p → Holds w → Holds (with_process w s p)
    with_holds w s p f h = put_holds w (with_process w s p) s p refl (omega arith) f h

    -- a page is made resident
    module _ (n : ℕ) (files : List File) (shared : Bool) (p : Process) (f : P n p) where
      taken_kept : (page : ℕ) (x : Page) (b : Bool) → get p.settled page ≡ Some x → P (n + 1) (taken_over_unless n shared p page x b)
      taken_kept page x true e = k.later n (n + 1) p (omega arith) f
      taken_kept page x false e = k.taken n shared p page x e f

      resident_kept : (access : Access) (address : ℕ) (o : Option Page) → get p.settled (page_of address) ≡ o → copy_rule p.scheme (regions p) access address ≡ None
          → P (n + 1) (made_resident_from files n shared p access (page_of address) o)
      resident_kept access address None e granted = k.settled n files p access address granted e f
      resident_kept access address (Some x) e granted = taken_kept (page_of address) x _ e

    -- changes of regions
    module _ (n : ℕ) (p : Process) (f : P n p) where
      resized_kept : (q : Process) (wanted : ℤ) (o : Option Refusal) → size_refusal p wanted ≡ o → resized_unless p (nat_abs wanted) o ≡ Ok q → P n q
      resized_kept q wanted None none e = subst (P n) (same_Ok _ q e) (k.sized n p wanted none f)
      resized_kept q wanted (Some r) none e = cc

      sbrk_kept : (q : Process) (delta : ℤ) → sbrk_result p delta ≡ Ok q → P n q
      unfolding sbrk_result
      sbrk_kept q delta e = resized_kept q (wanted_size p delta) _ refl e

      module _ (files : List File) (len protection flags file : ℕ) where
        placed : (place : Option ℕ) → map_refusal files p len protection flags file ≡ None → mapping_place p (pages_for len) ≡ place → place ≢ None
            → P n (record p { mappings = with_mapping (mapping_of (unwrap_or place 0) (pages_for len) protection flags file) p.mappings })
        placed None none is ne = absurd (ne refl)
        placed (Some first) none is ne = k.mapping n files p len protection flags file first none is f

        mapped_kept : (m : Mapped) (o : Option Refusal) → map_refusal files p len protection flags file ≡ o
            → mapped_unless p (mapping_of (unwrap_or (mapping_place p (pages_for len)) 0) (pages_for len) protection flags file) o ≡ Ok m → P n m.process
        mapped_kept m None none e = subst (λ (u : Mapped). P n u.process) (same_Ok _ m e) (placed _ none refl (has_place files p len protection flags file none))
        mapped_kept m (Some r) none e = cc

        mmap_kept : (m : Mapped) → mapped files p len protection flags file ≡ Ok m → P n m.process
        unfolding mapped
        mmap_kept m e = mapped_kept m _ refl e

      module _ (files : List File) (u : Unmapped) (first end : ℕ) (le : first ≤ end) where
        hole_kept : (m : Region) (b : Bool) → mapping_around p.mappings first end ≡ Some m → leaves_hole m first end ≡ b → unmapped_unless files p m first end b ≡ Ok u → P n u.process
        hole_kept m true environment_of is e = cc
        hole_kept m false environment_of is e = subst (λ (v : Unmapped). P n v.process) (same_Ok _ u e) (k.unmapping n p m first end le environment_of is f)

        around_kept : (o : Option Region) → mapping_around p.mappings first end ≡ o → unmapped_in files p first end o ≡ Ok u → P n u.process
        around_kept None environment_of e = cc
        around_kept (Some m) environment_of e = hole_kept m _ environment_of refl e

        unmapped_kept : (b : Bool) → unmapped_if files p first end b ≡ Ok u → P n u.process
        unmapped_kept false e = cc
        unmapped_kept true e = around_kept _ refl e

      munmap_kept : (files : List File) (address len : ℕ) (u : Unmapped) → unmapped files p address len ≡ Ok u → P n u.process
      unfolding unmapped
      munmap_kept files address len u e = unmapped_kept files u (page_of address) (page_of address + pages_for len) (omega arith) _ e

    -- pages of a process are made resident
    module _ (a : Environment) (n : ℕ) (g : Progress) (h : Goes n g) where
      dry_goes : (access : Access) (address need : ℕ) (dry : Bool) → copy_rule g.process.scheme (regions g.process) access address ≡ None → GoesIfOk n (unless_dry a access (page_of address) g need dry)
      dry_goes access address need true granted = stopped
      dry_goes access address need false granted = went (record { keeps = resident_kept g.fresh a.files _ g.process h.keeps access address _ refl granted; rises = let r = h.rises in omega (r, arith) })

      unless_goes : (access : Access) (address : ℕ) (there : Bool) → copy_rule g.process.scheme (regions g.process) access address ≡ None → GoesIfOk n (unless_resident a access (page_of address) g there)
      unless_goes access address true granted = went h
      unless_goes access address false granted = dry_goes access address _ _ granted

      at_goes : (access : Access) (address : ℕ) → copy_rule g.process.scheme (regions g.process) access address ≡ None → GoesIfOk n (resident_at a access (page_of address) g)
      unfolding resident_at
      at_goes access address granted = unless_goes access address _ granted

      -- what no rule denies is made resident
      pub reached_goes : (access : Access) (address : ℕ) (r : Option Rule) → (r ≡ None → copy_rule g.process.scheme (regions g.process) access address ≡ None) → GoesIfOk n (resident_at_address a access address g r)
      reached_goes access address (Some r) granted = stopped
      reached_goes access address None granted = at_goes access address (granted refl)

      -- a byte that a copy puts
      pub byte_on_goes : (address b : ℕ) (o : Option Page) → get (g.process).settled (page_of address) ≡ o → Goes n (record g { process = with_byte_on g.process address b o })
      byte_on_goes address b None e = record { keeps = h.keeps; rises = h.rises }
      byte_on_goes address b (Some x) e = record {
        keeps = k.written g.fresh g.process (page_of address) x (write_bytes x.bytes (address % 4096) (b ∷ [])) e (length_written x.bytes (b ∷ []) (address % 4096) (omega arith)) h.keeps;
        rises = h.rises;
      }

    -- copies
    module _ (a : Environment) (n : ℕ) where
      one_in_goes : (c : Copied) (address : ℕ) (r : Result Progress Rule) → Goes n c.progress → GoesIfOk n r → Goes n (one_in c address r).progress
      one_in_goes c address (Err b) h stopped = h
      one_in_goes c address (Ok g) h (went i) = i

      next_in_goes : (c : Copied) (address : ℕ) (o : Option Rule) → Goes n c.progress → Goes n (next_in a c address o).progress
      next_in_goes c address (Some r) h = h
      next_in_goes c address None h = one_in_goes c address _ h (reached_goes a n c.progress h access.Load address _ (λ e. e))

      one_out_goes : (c : Copied) (address b : ℕ) (r : Result Progress Rule) → Goes n c.progress → GoesIfOk n r → Goes n (one_out c address b r).progress
      one_out_goes c address b (Err e) h stopped = h
      one_out_goes c address b (Ok g) h (went i) = byte_on_goes a n g i address b _ refl

      next_out_goes : (c : Copied) (x : ℕ × ℕ) (o : Option Rule) → Goes n c.progress → Goes n (next_out a c x o).progress
      next_out_goes c x (Some r) h = h
      next_out_goes c x None h = one_out_goes c x.0 x.1 _ h (reached_goes a n c.progress h access.Store x.0 _ (λ e. e))

      -- what each step of a fold keeps, the fold keeps
      fold_goes : {A : Type 0} (f : Copied → A → Copied) (xs : List A) (c : Copied) → ((d : Copied) (x : A) → Goes n d.progress → Goes n (f d x).progress) → Goes n c.progress → Goes n (fold f c xs).progress
      fold_goes f [] c keep h = h
      fold_goes f (x ∷ xs) c keep h = fold_goes f xs (f c x) keep (keep c x h)

      copied_in_goes : (g : Progress) (address count : ℕ) → Goes n g → Goes n (copied_in a g address count).progress
      unfolding copied_in
      copied_in_goes g address count h = fold_goes (λ c at. next_in a c at c.stop) (numbers_from address count) (copy_begun g) (λ c at i. next_in_goes c at _ i) h

      copied_out_goes : (g : Progress) (address : ℕ) (bytes : List ℕ) → Goes n g → Goes n (copied_out a g address bytes).progress
      unfolding copied_out
      copied_out_goes g address bytes h = fold_goes (λ c x. next_out a c x c.stop) (zip (numbers_from address (length bytes)) bytes) (copy_begun g) (λ c x i. next_out_goes c x _ i) h

    -- accesses of the user
    module _ (n : ℕ) (a : AccessRequest) (p : Process) (f : P n p) where
      faulted_kept : (cause : ℕ) → P n (faulted p a cause).process
      faulted_kept cause = k.awaiting n p _ f

      answer_kept : (x : Page) (access : Access) (page offset : ℕ) → get p.settled page ≡ Some x → offset + a.width ≤ 4096
          → P n (with_page p page (access_answer access x offset a.width a.value).1)
      answer_kept x access.Fetch page offset e fits = k.written n p page x x.bytes e (λ l. l) f
      answer_kept x access.Load page offset e fits = k.written n p page x x.bytes e (λ l. l) f
      answer_kept x access.Store page offset e fits = k.written n p page x (write_bytes x.bytes offset (low_bytes a.value a.width)) e
          (length_written x.bytes (low_bytes a.value a.width) offset (omega (arith, length_low_bytes a.value a.width, fits))) f

      if_resident_kept : (x : Page) (b : Bool) → get p.settled (page_of a.address) ≡ Some x → a.address % 4096 + a.width ≤ 4096 → P n (if_resident p a x b).process
      if_resident_kept x true e fits = k.awaiting n _ None (answer_kept x a.access (page_of a.address) (a.address % 4096) e fits)
      if_resident_kept x false e fits = faulted_kept (page_fault_cause a.access)

      if_settled_kept : (o : Option Page) → get p.settled (page_of a.address) ≡ o → a.address % 4096 + a.width ≤ 4096 → P n (if_settled p a o).process
      if_settled_kept None e fits = faulted_kept (page_fault_cause a.access)
      if_settled_kept (Some x) e fits = if_resident_kept x _ e fits

      denied_kept : (o : Option Rule) → (o ≡ None → a.address % 4096 + a.width ≤ 4096) → P n (unless_denied p a o).process
      denied_kept (Some r) fits = faulted_kept (fault_cause a.access r)
      denied_kept None fits = if_settled_kept _ refl (fits refl)

      user_kept : is_width a.width ≡ true → P n (user_access p a).process
      user_kept e = denied_kept _ (λ g. aligned_fits a.address a.width e (granted p.scheme (regions p) a.access a.address a.width g).0)

    module _ (w : World) (same : w.scheme ≡ scheme) (h : Holds w) where
      told_holds : (number : ℕ) (hart : Hart) (s : ℕ) (x : Answer) (b : Bool) → P w.counter x.process → Holds (access_outcome_if w number hart s x b).world
      told_holds number hart s x true f = put_holds w _ s x.process refl (omega arith) f h
      told_holds number hart s x false f = with_holds w s x.process f h

      progress_holds : (s : ℕ) (g : Progress) → Goes w.counter g → Holds (with_progress w s g)
      progress_holds s g i = put_holds w _ s g.process refl i.rises i.keeps h

      -- steps on a hart
      unless_refused_holds : (run : Hart → StepOutcome) (hart : Hart) (r : Option Refusal) → (r ≡ None → Holds (run hart).world) → Holds (unless_refused w run hart r).world
      unless_refused_holds run hart (Some r) f = h
      unless_refused_holds run hart None f = f refl

      hart_holds : (proper : Bool) (possible entry : Hart → Bool) (run : Hart → StepOutcome) (o : Option Hart) → ((hart : Hart) → proper ≡ true → Holds (run hart).world)
          → Holds (on_hart_at w proper possible entry run o).world
      hart_holds proper possible entry run None f = h
      hart_holds proper possible entry run (Some hart) f = unless_refused_holds run hart _ (λ e. f hart (proper_of hart proper possible entry e))

      on_hart_holds : (number : ℕ) (proper : Bool) (possible entry : Hart → Bool) (run : Hart → StepOutcome) → ((hart : Hart) → proper ≡ true → Holds (run hart).world)
          → Holds (on_hart w number proper possible entry run).world
      unfolding on_hart
      on_hart_holds number proper possible entry run f = hart_holds proper possible entry run _ f

      process_holds : (phase : Phase) (s : ℕ) (run : ℕ → Process → StepOutcome) (o : Option Process) → process_in w s ≡ o → ((p : Process) → P w.counter p → Holds (run s p).world)
          → Holds (with_process_of w phase run s o).world
      process_holds phase s run None e f = h
      process_holds phase s run (Some p) e f = f p (h.each s p e)

      slot_holds : (phase : Phase) (run : ℕ → Process → StepOutcome) (o : Option ℕ) → ((s : ℕ) (p : Process) → P w.counter p → Holds (run s p).world) → Holds (with_slot_of w phase run o).world
      slot_holds phase run None f = h
      slot_holds phase run (Some s) f = process_holds phase s run _ refl (f s)

      its_holds : (hart : Hart) (run : ℕ → Process → StepOutcome) → ((s : ℕ) (p : Process) → P w.counter p → Holds (run s p).world) → Holds (with_its_process w hart run).world
      unfolding with_its_process
      its_holds hart run f = slot_holds hart.phase run hart.slot f

      kernel_holds : (number : ℕ) (proper : Bool) (run : Hart → ℕ → Process → StepOutcome) → ((hart : Hart) (s : ℕ) (p : Process) → P w.counter p → Holds (run hart s p).world)
          → Holds (kernel_call w number proper run).world
      kernel_holds number proper run f = on_hart_holds number proper (can_call w) always _ (λ hart e. its_holds hart (run hart) (f hart))

      access_holds : (number : ℕ) (access : Access) (address width value : ℕ) (via : Option ℕ) → Holds (access_step w number access address width value via).world
      access_holds number access address width value via =
          on_hart_holds number (is_width width) _ _ _ (λ hart e. its_holds hart _ (λ s p f. told_holds number hart s _ _ (user_kept w.counter (record { access = access; address = address; width = width; value = value }) p f e)))

      -- processes that begin, and changes of regions
      image_holds : (s : ℕ) (image : Image) (ls : List LoadSegment) → image_loads w.scheme image ≡ Ok ls → Holds (with_image w s ls)
      image_holds s image ls e = put_holds w _ s _ refl (omega arith) (k.made w.scheme same w.counter image ls e) h

      started_unless_holds : (s : ℕ) (image : Image) (ls : List LoadSegment) (b : Bool) → image_loads w.scheme image ≡ Ok ls → Holds (started_unless w s ls b).world
      started_unless_holds s image ls true e = h
      started_unless_holds s image ls false e = image_holds s image ls e

      started_as_holds : (s : ℕ) (image : Image) (r : Result (List LoadSegment) BadImage) → image_loads w.scheme image ≡ r → Holds (started_as w s r).world
      started_as_holds s image (Err b) e = h
      started_as_holds s image (Ok ls) e = started_unless_holds s image ls _ e

      started_holds : (image : Image) (o : Option ℕ) → Holds (started w (image_loads w.scheme image) o).world
      started_holds image None = h
      started_holds image (Some s) = started_as_holds s image _ refl

      executed_unless_holds : (s : ℕ) (p : Process) (image : Image) (ls : List LoadSegment) (b : Bool) → image_loads w.scheme image ≡ Ok ls → Holds (replaced_unless w s p ls b).world
      executed_unless_holds s p image ls true e = h
      executed_unless_holds s p image ls false e = same_slots (with_image w s ls) _ refl refl (image_holds s image ls e)

      executed_holds : (s : ℕ) (p : Process) (image : Image) (r : Result (List LoadSegment) BadImage) → image_loads w.scheme image ≡ r → Holds (replaced w s p r).world
      executed_holds s p image (Err b) e = h
      executed_holds s p image (Ok ls) e = executed_unless_holds s p image ls _ e

      module _ (s : ℕ) (p : Process) (f : P w.counter p) where
        forked_unless_holds : (child : ℕ) (b : Bool) → Holds (forked_unless w s p child b).world
        forked_unless_holds child true = h
        forked_unless_holds child false = with_holds (with_process w s (marked p)) child (child_of p) (k.child w.counter p f) (with_holds w s (marked p) (k.parent w.counter p f) h)

        forked_holds : (o : Option ℕ) → Holds (forked w s p o).world
        forked_holds None = h
        forked_holds (Some child) = forked_unless_holds child _

        settles_holds : Holds (with_process w s (without_pending p))
        settles_holds = with_holds w s (without_pending p) (k.awaiting w.counter p None f) h

        resized_holds : (delta : ℤ) (r : Result Process Refusal) → sbrk_result p delta ≡ r → Holds (resized_to w s p r).world
        resized_holds delta (Err b) e = h
        resized_holds delta (Ok q) e = with_holds w s (without_pending q) (k.awaiting w.counter q None (sbrk_kept w.counter p f q delta e)) h

        mapped_holds : (len protection flags file : ℕ) (r : Result Mapped Refusal) → mapped w.files p len protection flags file ≡ r → Holds (mapped_to w s r).world
        mapped_holds len protection flags file (Err b) e = h
        mapped_holds len protection flags file (Ok m) e =
            with_holds w s (without_pending m.process) (k.awaiting w.counter m.process None (mmap_kept w.counter p f w.files len protection flags file m e)) h

        unmapped_holds : (address len : ℕ) (r : Result Unmapped Refusal) → unmapped w.files p address len ≡ r → Holds (unmapped_to w s r).world
        unmapped_holds address len (Err b) e = h
        unmapped_holds address len (Ok u) e =
            same_slots (with_process w s (without_pending u.process)) _ refl refl (with_holds w s (without_pending u.process) (k.awaiting w.counter u.process None (munmap_kept w.counter p f w.files address len u e)) h)

      ended_holds : (number : ℕ) (hart : Hart) (s : ℕ) (p : Process) (reply : Reply) → Holds (ended w number hart s p reply).world
      ended_holds number hart s p reply = end_holds w _ s refl refl h

      served_or_ended_holds : (number : ℕ) (hart : Hart) (s : ℕ) (p : Process) (a : Pending) (r : Result Progress Rule) → GoesIfOk w.counter r → Holds (served_or_ended w number hart s p a r).world
      served_or_ended_holds number hart s p a (Err r) stopped = ended_holds number hart s p (Scalar (Ended r))
      served_or_ended_holds number hart s p a (Ok g) (went i) = progress_holds s (with_served g a) (record { keeps = k.awaiting g.fresh g.process _ i.keeps; rises = i.rises })

      begun_goes : (p : Process) → P w.counter p → Goes w.counter (initial_progress w p)
      begun_goes p f = record { keeps = f; rises = omega arith }

      served_holds : (number : ℕ) (hart : Hart) (s : ℕ) (p : Process) (o : Option Pending) → P w.counter p → Holds (served w number hart s p o).world
      served_holds number hart s p None f = h
      served_holds number hart s p (Some a) f =
          served_or_ended_holds number hart s p a _ (reached_goes (environment_of w s) w.counter (initial_progress w p) (begun_goes p f) a.access a.address _ (λ e. (granted p.scheme (regions p) a.access a.address a.width e).1))

    -- what the step itself changes
    plain_holds : (w : World) → w.scheme ≡ scheme → Holds w → (s : Step) → Holds (plain_step w s).world
    plain_holds w same h (Start image) = started_holds w same h image _
    plain_holds w same h (Switch n slot) = on_hart_holds w same h n _ _ _ _ (λ hart e. same_slots w _ refl refl h)
    plain_holds w same h (Trap n) = on_hart_holds w same h n _ _ _ _ (λ hart e. its_holds w same h hart _ (λ s p f. same_slots (with_process w s (without_pending p)) _ refl refl (settles_holds w same h s p f)))
    plain_holds w same h (Next n) = on_hart_holds w same h n _ _ _ _ (λ hart e. same_slots w _ refl refl h)
    plain_holds w same h (Fill n address) = on_hart_holds w same h n _ _ _ _ (λ hart e. same_slots w _ refl refl h)
    plain_holds w same h (Evict n entry) = on_hart_holds w same h n _ _ _ _ (λ hart e. same_slots w _ refl refl h)
    plain_holds w same h (Fetch n address via) = access_holds w same h n access.Fetch address 4 0 via
    plain_holds w same h (load_step n address width via) = access_holds w same h n access.Load address width 0 via
    plain_holds w same h (Store n address width value via) = access_holds w same h n access.Store address width value via
    plain_holds w same h (TrampolineFetch n offset via) = on_hart_holds w same h n _ _ _ _ (λ hart e. h)
    plain_holds w same h (Serve n) = on_hart_holds w same h n _ _ _ _ (λ hart e. its_holds w same h hart _ (λ s p f. served_holds w same h n hart s p p.pending f))
    plain_holds w same h (Fork n) = kernel_holds w same h n _ _ (λ hart s p f. forked_holds w same h s p f _)
    plain_holds w same h (Exec n image) = kernel_holds w same h n _ _ (λ hart s p f. executed_holds w same h s p image _ refl)
    plain_holds w same h (Sbrk n delta) = kernel_holds w same h n _ _ (λ hart s p f. resized_holds w same h s p f delta _ refl)
    plain_holds w same h (Mmap n len protection flags file) = kernel_holds w same h n _ _ (λ hart s p f. mapped_holds w same h s p f len protection flags file _ refl)
    plain_holds w same h (Munmap n address len) = kernel_holds w same h n _ _ (λ hart s p f. unmapped_holds w same h s p f address len _ refl)
    plain_holds w same h (CopyIn n address count) = kernel_holds w same h n _ _ (λ hart s p f. progress_holds w same h s _ (copied_in_goes (environment_of w s) w.counter (initial_progress w (without_pending p)) address count (begun_goes w same h (without_pending p) (k.awaiting w.counter p None f))))
    plain_holds w same h (CopyOut n address bytes) = kernel_holds w same h n _ _ (λ hart s p f. progress_holds w same h s _ (copied_out_goes (environment_of w s) w.counter (initial_progress w (without_pending p)) address bytes.now (begun_goes w same h (without_pending p) (k.awaiting w.counter p None f))))
    plain_holds w same h (Exit n status) = kernel_holds w same h n _ _ (λ hart s p f. ended_holds w same h n hart s p (Scalar (Exited status)))

    marks_hold : (policy : Policy) (w : World) (o : StepOutcome) → Holds o.world → Holds (with_stale_slots policy w o).world
    marks_hold Full w o h = h
    marks_hold Asid w o h = same_slots o.world _ refl refl h

    step_holds : (w : World) (s : Step) → w.scheme ≡ scheme → Holds w → Holds (step w s).world
    unfolding step
    step_holds w s same h = marks_hold w.policy w (plain_step w s) (plain_holds w same h s)

    pub run_holds : (w : World) (steps : List Step) → w.scheme ≡ scheme → Holds w → Holds (run w steps).world
    run_holds w [] same h = h
    run_holds w (s ∷ ss) same h = run_holds (step w s).world ss ((step_suits w s).scheme ∙ same) (step_holds w s same h)

  -- in every run from boot each process has the property
  booted_holds : (c : Config) (files : List File) → Holds (booted c files)
  booted_holds c files = record { each = λ s p e. absurd (none_in_empty c.slots s p e) }

  pub always_holds : (c : Config) (files : List File) (steps : List Step) → IsKept c.scheme P → Holds (run (booted c files) steps).world
  always_holds c files steps k = run_holds k (booted c files) steps refl (booted_holds c files)
