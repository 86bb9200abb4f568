-- Lemma: a step that takes no frames (any but start, service of a fault, fork, kernel copy and exec) never lowers the free
-- count.
use Rattle.std.proofs.Common.{◌≡◌, ◌≢◌, ℕ, ℤ, Bool, true, false, cond, ◌≤◌, ◌+◌, ◌%◌, inl, inr, refl, sym, ap, subst, ◌∙◌, arith, List, [], ◌∷◌, ◌++◌, Option, None, Some, length, length-set}
use Rattle.std.specs.Prelude.{filter, nat_le, nat_lt, ◌||◌, slice_get, slice_set, sum_by}
use Rattle.process_laws.proofs.Counting.{freed, frees, more_count}
use Rattle.process_laws.proofs.FreeFrames.{different}
use Rattle.process_laws.proofs.OnHarts.{access_good, asks, its_good, kernel_good, on_hart_good}
use Rattle.process_laws.proofs.PageCopies.{copies, put_replaces}
use Rattle.process_laws.proofs.SetSizes.{Among, among_back, among_front, among_parts, count_same, length_keys, Within}
use Rattle.process_laws.proofs.SlotSums.{all_copies, count_set, count_slots, full_slot, sum_set}
use Rattle.process_laws.specs.Words.{takes_frames}
use Rattle.process_model.specs.Bytes.{pages_for}
use Rattle.process_model.specs.Calls.{mapped_to, resized_to, unmapped_to}
use Rattle.process_model.specs.Files.{File}
use Rattle.process_model.specs.Frames.{copies_in, copies_of, free_frames, kernel_frames, live, own_frames}
use Rattle.process_model.specs.Harts.{Hart}
use Rattle.process_model.specs.Heap.{resized, resized_unless, sbrk_result, without_pages}
use Rattle.process_model.specs.Mappings.{back_of, front_of, mapped, mapped_unless, unmapped, unmapped_if, unmapped_in, unmapped_unless, with_instead, with_mapping}
use Rattle.process_model.specs.PageMap.{count, get, numbers}
use Rattle.process_model.specs.Process.{Page, Process, without_pending}
use Rattle.process_model.specs.Regions.{Region}
use Rattle.process_model.specs.Residence.{access_answer, with_page}
use Rattle.process_model.specs.Service.{access_step, Answer, answered, access_outcome, access_outcome_if}
use Rattle.process_model.specs.Stale.{with_stale_slots}
use Rattle.process_model.specs.Steps.{plain_step, step}
use Rattle.process_model.specs.World.{free, StepOutcome, process_in, refuses, with_process, World}
use Rattle.process_model.specs.declared.config.Policy.{Policy}
use Rattle.process_model.specs.declared.config.Policy.TheVariants.{Full, Asid}
use Rattle.process_model.specs.declared.image.Image.{Image}
use Rattle.process_model.specs.declared.reply.Refusal.{Refusal}
use Rattle.process_model.specs.declared.step.Step.{Step}
use Rattle.process_model.specs.declared.step.Step.TheVariants as step_of
use Rattle.sv39_entry.specs.Address.{page_of}
use Rattle.sv39_entry.specs.declared.access.Access.{Access}
use Rattle.sv39_entry.specs.declared.access.Access.TheVariants as access

-- ---- fewer copy numbers

count_within : (xs ys : List ℕ) → Within xs ys → count (numbers xs) ≤ count (numbers ys)
count_within xs ys w =
    let more = more_count ys xs in
    let same : count (numbers (ys ++ xs)) ≡ count (numbers ys) = count_same (ys ++ xs) ys (λ q i. elim (among_parts q ys xs i) [ inl j ↦ j | inr j ↦ w q j ]) (λ q i. among_front q ys xs i) in
    omega (arith, more, same)

beside_within : (xs ys rs : List ℕ) → Within xs ys → Within (xs ++ rs) (ys ++ rs)
beside_within xs ys rs w q i = elim (among_parts q xs rs i) [ inl j ↦ among_front q ys rs (w q j) | inr j ↦ among_back q ys rs j ]

only_within : (f : ℕ → Bool) (es : List (ℕ × Page)) → Within (copies (filter (λ e. f e.0) es)) (copies es)
only_within f [] q i = i
only_within f (e ∷ es) q i = elim (f e.0) as (λ b. Among q (copies (cond b (e ∷ filter (λ e. f e.0) es) (filter (λ e. f e.0) es))) → Among q (copies (e ∷ es))) [
  | true ↦ λ j. elim j [ inl same ↦ inl same | inr k ↦ inr (only_within f es q k) ]
  | false ↦ λ j. inr (only_within f es q j)
] i

put_copies : (p : Process) (n : ℕ) (x y : Page) → get p.settled n ≡ Some x → y.copy ≡ x.copy → copies_of (with_page p n y) ≡ copies_of p
put_copies p n x y there same =
    let at = put_replaces n y x p.settled.entries p.settled.sorted there in
    at.after ∙ ap (λ c. at.front ++ c ∷ at.back) same ∙ sym at.before

answer_copies : (p : Process) (n : ℕ) (x : Page) (kind : Access) (offset width value : ℕ) → get p.settled n ≡ Some x → copies_of (with_page p n (access_answer kind x offset width value).1) ≡ copies_of p
answer_copies p n x access.Fetch offset width value there = put_copies p n x x there refl
answer_copies p n x access.Load offset width value there = put_copies p n x x there refl
answer_copies p n x access.Store offset width value there = put_copies p n x _ there refl

same_within : (xs ys : List ℕ) → xs ≡ ys → Within xs ys
same_within xs ys e q = subst (Among q) e

-- ---- one process

module _ (w : World) where
  Keeps : StepOutcome → Type 0
  Keeps o = free w ≤ free o.world

  quiet : (r : Refusal) → Keeps (refuses w r)
  unfolding Keeps
  quiet r = omega arith

  same : (o : StepOutcome) → free o.world ≡ free w → Keeps o
  unfolding Keeps
  same o e = omega (arith, e)

  -- its pages are of no new copies, and its tables are the same
  fewer : (s : ℕ) (p q : Process) (o : StepOutcome) → process_in w s ≡ Some p → Within (copies_of q) (copies_of p) → own_frames q ≡ own_frames p → free o.world ≡ free (with_process w s q) → Keeps o
  unfolding Keeps
  fewer s p q o e within own is =
      let full : slice_get w.slots s ≡ Some (Some p) = full_slot (slice_get w.slots s) p e in
      let others : List ℕ = all_copies (slice_set w.slots s None) in
      let now : List (Option Process) = slice_set w.slots s (Some q) in
      let before : different w.slots ≡ count (numbers (copies_of p ++ others)) = count_slots w.slots s (Some p) full in
      let after : different now ≡ count (numbers (copies_of q ++ others)) = count_set w.slots s (Some p) (Some q) full in
      let less : count (numbers (copies_of q ++ others)) ≤ count (numbers (copies_of p ++ others)) = count_within _ _ (beside_within (copies_of q) (copies_of p) others within) in
      let sums : sum_by own_frames (live now) + own_frames p ≡ sum_by own_frames (live w.slots) + own_frames q = sum_set own_frames w.slots s (Some p) (Some q) full in
      let old : length (copies_in (live w.slots)) ≡ different w.slots = length_keys (numbers (all_copies w.slots)) in
      let new : length (copies_in (live now)) ≡ different now = length_keys (numbers (all_copies now)) in
      let long : length now ≡ length w.slots = length-set w.slots s (Some q) in
      let room : free w ≤ free_frames w.scheme w.frames now =
      rw long (freed w.frames (kernel_frames w.scheme w.frames (length w.slots)) (length (copies_in (live w.slots))) (sum_by own_frames (live w.slots)) (length (copies_in (live now))) (sum_by own_frames (live now))
      (omega (arith, before, after, less, old, new)) (omega (arith, sums, own))) in
      omega (arith, room, is)

  ends : (s : ℕ) (p : Process) (o : StepOutcome) → process_in w s ≡ Some p → free o.world ≡ free_frames w.scheme w.frames (slice_set w.slots s None) → Keeps o
  unfolding Keeps
  ends s p o e is = let room = frees w s p e in omega (arith, room, is)

  -- calls that change regions

  released : (s : ℕ) (p : Process) (first end : ℕ) (q : Process) (o : StepOutcome) → process_in w s ≡ Some p → copies_of q ≡ copies_of (without_pages p first end) → own_frames q ≡ own_frames p → free o.world ≡ free (with_process w s q) → Keeps o
  released s p first end q o e copies own is =
      fewer s p q o e (λ n i. only_within (λ page. nat_lt page first || nat_le end page) p.settled.entries n (subst (Among n) copies i)) own is

  size_keeps : (s : ℕ) (p : Process) (n : ℕ) (r : Option Refusal) → process_in w s ≡ Some p → Keeps (resized_to w s p (resized_unless p n r))
  size_keeps s p n (Some r) e = quiet r
  size_keeps s p n None e = released s p (pages_for n) (pages_for p.size) (without_pending (resized p n)) _ e refl refl refl

  sbrk_keeps : (s : ℕ) (p : Process) (delta : ℤ) → process_in w s ≡ Some p → Keeps (resized_to w s p (sbrk_result p delta))
  unfolding sbrk_result
  sbrk_keeps s p delta e = size_keeps s p _ _ e

  map_keeps : (s : ℕ) (p : Process) (m : Region) (r : Option Refusal) → process_in w s ≡ Some p → Keeps (mapped_to w s (mapped_unless p m r))
  map_keeps s p m (Some r) e = quiet r
  map_keeps s p m None e = fewer s p (without_pending (record p { mappings = with_mapping m p.mappings })) _ e (λ n i. i) refl refl

  mmap_keeps : (s : ℕ) (p : Process) (files : List File) (len protection flags n : ℕ) → process_in w s ≡ Some p → Keeps (mapped_to w s (mapped files p len protection flags n))
  unfolding mapped
  mmap_keeps s p files len protection flags n e = map_keeps s p _ _ e

  hole_keeps : (s : ℕ) (p : Process) (files : List File) (m : Region) (first end : ℕ) (b : Bool) → process_in w s ≡ Some p → Keeps (unmapped_to w s (unmapped_unless files p m first end b))
  hole_keeps s p files m first end true e = quiet _
  hole_keeps s p files m first end false e = released s p first end (without_pending (record (without_pages p first end) { mappings = with_instead p.mappings m.first (front_of m first ++ back_of m end) })) _ e refl refl refl

  around_keeps : (s : ℕ) (p : Process) (files : List File) (first end : ℕ) (o : Option Region) → process_in w s ≡ Some p → Keeps (unmapped_to w s (unmapped_in files p first end o))
  around_keeps s p files first end None e = quiet _
  around_keeps s p files first end (Some m) e = hole_keeps s p files m first end _ e

  range_keeps : (s : ℕ) (p : Process) (files : List File) (first end : ℕ) (b : Bool) → process_in w s ≡ Some p → Keeps (unmapped_to w s (unmapped_if files p first end b))
  range_keeps s p files first end false e = quiet _
  range_keeps s p files first end true e = around_keeps s p files first end _ e

  munmap_keeps : (s : ℕ) (p : Process) (files : List File) (address len : ℕ) → process_in w s ≡ Some p → Keeps (unmapped_to w s (unmapped files p address len))
  unfolding unmapped
  munmap_keeps s p files address len e = range_keeps s p files _ _ _ e

  -- ---- each step

  abbrev By : Step → Type 0
  By x = Keeps (plain_step w x)

  told_free : (h : ℕ) (hart : Hart) (t : ℕ) (x : Answer) (b : Bool) → free (access_outcome_if w h hart t x b).world ≡ free (with_process w t x.process)
  told_free h hart t x true = refl
  told_free h hart t x false = refl

  accesses : (h : ℕ) (kind : Access) (address width value : ℕ) (via : Option ℕ) → Keeps (access_step w h kind address width value via)
  accesses h kind address width value via = access_good w Keeps quiet h kind address width value via
      (λ hart t p cause here on. fewer t p (record p { pending = Some (record { access = kind; address = address; width = width; served = false }) }) _ here (λ n i. i) refl refl)
      (λ hart t p page here on is fits. answers_keep hart t p page here is)
    where
      answers_keep : (hart : Hart) (t : ℕ) (p : Process) (page : Page) → process_in w t ≡ Some p → get p.settled (page_of address) ≡ Some page
          → Keeps (access_outcome w h hart t (answered p (asks kind address width value) (access_answer kind page (address % 4096) width value)))
      answers_keep hart t p page here is =
          let q = without_pending (with_page p (page_of address) (access_answer kind page (address % 4096) width value).1) in
          fewer t p q _ here (same_within (copies_of q) (copies_of p) (answer_copies p (page_of address) page kind (address % 4096) width value is)) refl (told_free h hart t (answered p (asks kind address width value) (access_answer kind page (address % 4096) width value)) _)

  plain_keeps : (x : Step) → takes_frames x ≡ false → ((h : ℕ) (image : Image) → x ≢ step_of.Exec h image) → By x
  plain_keeps (step_of.Start image) e not = absurd cc
  plain_keeps (step_of.Switch h slot) e not = on_hart_good w Keeps quiet h _ _ _ _ (λ hart is _. same _ refl)
  plain_keeps (step_of.Trap h) e not = on_hart_good w Keeps quiet h _ _ _ _ (λ hart is _. its_good w Keeps quiet h hart _ is (λ t p on here. fewer t p (without_pending p) _ here (λ n i. i) refl refl))
  plain_keeps (step_of.Next h) e not = on_hart_good w Keeps quiet h _ _ _ _ (λ hart is _. same _ refl)
  plain_keeps (step_of.Fill h address) e not = on_hart_good w Keeps quiet h _ _ _ _ (λ hart is _. same _ refl)
  plain_keeps (step_of.Evict h n) e not = on_hart_good w Keeps quiet h _ _ _ _ (λ hart is _. same _ refl)
  plain_keeps (step_of.Fetch h address via) e not = accesses h access.Fetch address 4 0 via
  plain_keeps (step_of.Load h address width via) e not = accesses h access.Load address width 0 via
  plain_keeps (step_of.Store h address width value via) e not = accesses h access.Store address width value via
  plain_keeps (step_of.TrampolineFetch h offset via) e not = on_hart_good w Keeps quiet h _ _ _ _ (λ hart is _. same _ refl)
  plain_keeps (step_of.Serve h) e not = absurd cc
  plain_keeps (step_of.Fork h) e not = absurd cc
  plain_keeps (step_of.Exec h image) e not = absurd (not h image refl)
  plain_keeps (step_of.Sbrk h delta) e not = kernel_good w Keeps quiet h _ _ (λ hart t p on here. sbrk_keeps t p delta here)
  plain_keeps (step_of.Mmap h len protection flags n) e not = kernel_good w Keeps quiet h _ _ (λ hart t p on here. mmap_keeps t p w.files len protection flags n here)
  plain_keeps (step_of.Munmap h address len) e not = kernel_good w Keeps quiet h _ _ (λ hart t p on here. munmap_keeps t p w.files address len here)
  plain_keeps (step_of.CopyIn h address n) e not = absurd cc
  plain_keeps (step_of.CopyOut h address bytes) e not = absurd cc
  plain_keeps (step_of.Exit h status) e not = kernel_good w Keeps quiet h _ _ (λ hart t p on here. ends t p _ here refl)

  marks_keep : (policy : Policy) (o : StepOutcome) → Keeps o → Keeps (with_stale_slots policy w o)
  unfolding Keeps
  marks_keep Full o k = k
  marks_keep Asid o k = k

  pub keeps_free : (x : Step) → takes_frames x ≡ false → ((h : ℕ) (image : Image) → x ≢ step_of.Exec h image) → free w ≤ free (step w x).world
  unfolding Keeps step
  keeps_free x e not = marks_keep w.policy (plain_step w x) (plain_keeps x e not)
