-- Lemmas about how far copyin and copyout get, and why they stop: each byte that is copied is granted, and the copy ends
-- after all bytes, before a byte that a rule forbids, or by NoFrame (`copies_in`, `copies_out`). Before that: what a copy
-- that is not refused runs (`InRan`, `OutRan`).
use Rattle.std.proofs.Common.{◌≡◌, ℕ, zero, suc, Bool, true, false, cond, ◌&&◌, ◌+◌, ◌%◌, ◌<◌, inl, inr, refl, sym, ap, subst, ◌∙◌, arith, Option, None, Some, List, [], ◌∷◌, ◌++◌, length, Bor}
use Rattle.std.specs.Prelude.{fold, nat_le, option_map, Result, Ok, Err, slice_get, zip}
use Rattle.std.proofs.lemmas.Bool.{cases_lt, eq-eqb}
use Rattle.std.proofs.lemmas.List.{length_push}
use Rattle.std.proofs.lemmas.Option.{same_Some}
use Rattle.process_laws.proofs.Earlier.{answered_is_first}
use Rattle.process_laws.proofs.Granting.{granted_by}
use Rattle.process_laws.proofs.HeldBytes.{none_some}
use Rattle.process_laws.proofs.Running.{has_it, process_runs, ran_on, step_reply, was_made}
use Rattle.process_laws.proofs.Users.{same_from}
use Rattle.process_laws.specs.Headline.{Copies, StopsAfter}
use Rattle.process_laws.specs.Words.{byte, copied, Forbids, IsGranted, IsInPhase, IsMade, IsOnHart, stopped_by}
use Rattle.process_model.proofs.ResidenceLaws.{made_settles}
use Rattle.process_model.specs.Environment.{Environment, Progress, resident_at_address, resident_at, unless_dry, unless_resident}
use Rattle.process_model.specs.Bytes.{numbers_from}
use Rattle.process_model.specs.Calls.{copy_in_outcome, copy_out_outcome}
use Rattle.process_model.specs.Copies.{byte_of, Copied, copied_in, copied_out, copy_begun, in_reply, next_in, next_out, one_in, one_out, out_reply, reached_in, with_byte, with_byte_on}
use Rattle.process_model.specs.Files.{File}
use Rattle.process_model.specs.Harts.{Hart, is_kernel}
use Rattle.process_model.specs.PageMap.{get}
use Rattle.process_model.specs.Process.{Page, Process, regions, without_pending}
use Rattle.process_model.specs.Regions.{copy_rule, first_rule}
use Rattle.process_model.specs.Residence.{made_resident_from, taken_over_unless}
use Rattle.process_model.specs.Service.{environment_of, initial_progress}
use Rattle.process_model.specs.Steps.{plain_step, step}
use Rattle.process_model.specs.World.{always, can_call, StepOutcome, with_its_process, World}
use Rattle.process_model.specs.declared.phase.Phase.{Phase}
use Rattle.process_model.specs.declared.phase.Phase.TheVariants.{Enter0, Enter1, Enter2, Idle, Kernel, Leave1, Leave2, User}
use Rattle.process_model.specs.declared.reply.Reply.{Reply}
use Rattle.process_model.specs.declared.step.Step.TheVariants.{CopyIn, CopyOut}
use Rattle.sv39_entry.specs.Address.{page_of}
use Rattle.sv39_entry.specs.declared.access.Access.{Access}
use Rattle.sv39_entry.specs.declared.access.Access.TheVariants as access
use Rattle.sv39_entry.specs.declared.rule.Rule.{Rule}
use Rattle.sv39_entry.specs.declared.rule.Rule.TheVariants.{Misaligned, NoFrame}
use Rattle.process_model.specs.declared.limits.TheConstants.{LONGEST_COPY}

-- a byte is always aligned, so its first rule is the copy's

pub byte_rule : (p : Process) (kind : Access) (address : ℕ) → first_rule p.scheme (regions p) kind address 1 ≡ copy_rule p.scheme (regions p) kind address
byte_rule p kind address =
    let whole : address % 1 ≡ 0 = omega arith in
    ap (λ b. cond b (copy_rule p.scheme (regions p) kind address) (Some Misaligned)) (eq-eqb (address % 1) 0 whole)

byte_granted : (p : Process) (kind : Access) (address : ℕ) → copy_rule p.scheme (regions p) kind address ≡ None → IsGranted p (byte kind address)
byte_granted p kind address e = granted_by p (byte kind address) (byte_rule p kind address ∙ e)

byte_forbidden : (p : Process) (kind : Access) (address : ℕ) (rule : Rule) → copy_rule p.scheme (regions p) kind address ≡ Some rule → Forbids p (byte kind address) rule
byte_forbidden p kind address rule e = answered_is_first p.scheme (regions p) kind address 1 rule (byte_rule p kind address ∙ e)

-- the same rules hold of two processes
abbrev pub AsRuled : Process → Process → Type 0
AsRuled q p = (regions q ≡ regions p) × (q.scheme ≡ p.scheme)

-- an address is reached, or why not

data Stops (p : Process) (kind : Access) (at : ℕ) : Rule → Type 0 where
  denied : {rule : Rule} → copy_rule p.scheme (regions p) kind at ≡ Some rule → Stops p kind at rule
  dry : copy_rule p.scheme (regions p) kind at ≡ None → Stops p kind at NoFrame

data ReachesIt (p : Process) (kind : Access) (at : ℕ) : Result Progress Rule → Type 0 where
  came : {g : Progress} → copy_rule p.scheme (regions p) kind at ≡ None → AsRuled g.process p → (g.process).pending ≡ p.pending → ReachesIt p kind at (Ok g)
  stopped : {rule : Rule} → Stops p kind at rule → ReachesIt p kind at (Err rule)

-- nor what waits for a service
idle_unless : (fresh : ℕ) (shared : Bool) (p : Process) (page : ℕ) (x : Page) (b : Bool) → (taken_over_unless fresh shared p page x b).pending ≡ p.pending
idle_unless fresh shared p page x true = refl
idle_unless fresh shared p page x false = refl

idle_from : (files : List File) (fresh : ℕ) (shared : Bool) (p : Process) (access : Access) (page : ℕ) (o : Option Page) → (made_resident_from files fresh shared p access page o).pending ≡ p.pending
idle_from files fresh shared p access page None = refl
idle_from files fresh shared p access page (Some x) = idle_unless fresh shared p page x _

module _ (a : Environment) (p : Process) (g : Progress) (kind : Access) (at : ℕ) (same : AsRuled g.process p) (idle : (g.process).pending ≡ p.pending) where
  reach_dry : copy_rule p.scheme (regions p) kind at ≡ None → (need : ℕ) (b : Bool) → ReachesIt p kind at (unless_dry a kind (page_of at) g need b)
  reach_dry none need true = stopped (dry none)
  reach_dry none need false = came none (same_from a.files g.fresh _ g.process kind (page_of at) _ ∙ same.0, (made_settles a.files g.fresh _ kind (page_of at) g.process).scheme ∙ same.1) (idle_from a.files g.fresh _ g.process kind (page_of at) _ ∙ idle)

  reach_resident : copy_rule p.scheme (regions p) kind at ≡ None → (b : Bool) → ReachesIt p kind at (unless_resident a kind (page_of at) g b)
  reach_resident none true = came none same idle
  reach_resident none false = reach_dry none _ _

  reach_page : copy_rule p.scheme (regions p) kind at ≡ None → ReachesIt p kind at (resident_at a kind (page_of at) g)
  unfolding resident_at
  reach_page none = reach_resident none _

  reach_rule : (o : Option Rule) → copy_rule p.scheme (regions p) kind at ≡ o → ReachesIt p kind at (resident_at_address a kind at g o)
  reach_rule None e = reach_page e
  reach_rule (Some r) e = stopped (denied e)

  reach : ReachesIt p kind at (reached_in a kind g at)
  reach = reach_rule (copy_rule g.process.scheme (regions g.process) kind at) (ap (λ rs. copy_rule p.scheme rs kind at) (sym same.0) ∙ ap (λ z. copy_rule z (regions g.process) kind at) (sym same.1))

-- so far: n addresses were tried
pub record SoFar (a : Environment) (p : Process) (kind : Access) (address n : ℕ) (c : Copied) : Type 0 where
  pub idle : ((c.progress).process).pending ≡ p.pending
  pub halted : (rule : Rule) → c.stop ≡ Some rule → reached_in a kind c.progress (address + length c.bytes) ≡ Err rule
  pub same : AsRuled ((c.progress).process) p
  granted : (i : ℕ) → i < length c.bytes → copy_rule p.scheme (regions p) kind (address + i) ≡ None
  goes_on : c.stop ≡ None → length c.bytes ≡ n
  stops : (rule : Rule) → c.stop ≡ Some rule → (length c.bytes < n) × Stops p kind (address + length c.bytes) rule

pub none_and_some : {A : Type 0} {o : Option A} {x : A} → o ≡ None → o ≡ Some x → ⊥
none_and_some e f = cc

module _ (a : Environment) (p : Process) (address : ℕ) where
  one_more : (kind : Access) (n : ℕ) (c : Copied) (b : ℕ) (g : Progress) → SoFar a p kind address n c → c.stop ≡ None → copy_rule p.scheme (regions p) kind (address + n) ≡ None → AsRuled g.process p → (g.process).pending ≡ p.pending
      → SoFar a p kind address (n + 1) (record { progress = g; bytes = c.bytes ++ b ∷ []; stop = None })
  one_more kind n c b g f e none same idle =
      let more : length (c.bytes ++ b ∷ []) ≡ length c.bytes + 1 = length_push c.bytes b in
      let long : length c.bytes ≡ n = f.goes_on e in
      record {
        same = same;
        granted = λ i l. elim (cases_lt i (length c.bytes)) [
          | inl lt ↦ f.granted i lt
          | inr ge ↦ let is : i ≡ n = omega (arith, l, ge, more, long) in subst (λ k. copy_rule p.scheme (regions p) kind (address + k) ≡ None) (sym is) none
        ];
        goes_on = λ _. omega (arith, more, long);
        stops = λ rule is. absurd (none_some is);
        idle = idle;
        halted = λ rule is. absurd (none_some is);
      }

  one_stops : (kind : Access) (n : ℕ) (c : Copied) (rule : Rule) → SoFar a p kind address n c → c.stop ≡ None → Stops p kind (address + n) rule → reached_in a kind c.progress (address + n) ≡ Err rule
      → SoFar a p kind address (n + 1) (record c { stop = Some rule })
  one_stops kind n c rule f e g halts =
      let long : length c.bytes ≡ n = f.goes_on e in
      record {
        same = f.same;
        granted = f.granted;
        goes_on = λ is. absurd (none_some (sym is));
        stops = λ r is. (omega (arith, long), subst (λ k. Stops p kind (address + k) r) (sym long) (subst (Stops p kind (address + n)) (same_Some rule r is) g));
        idle = f.idle;
        halted = λ r is. subst (λ k. reached_in a kind c.progress (address + k) ≡ Err r) (sym long) (halts ∙ ap Err (same_Some rule r is));
      }

  stays : (kind : Access) (n : ℕ) (c : Copied) (rule : Rule) → SoFar a p kind address n c → c.stop ≡ Some rule → SoFar a p kind address (n + 1) c
  stays kind n c rule f e = record {
    same = f.same;
    granted = f.granted;
    goes_on = λ is. absurd (none_and_some is e);
    stops = λ r is. let g = f.stops r is in let lt : length c.bytes < n = g.0 in (omega (arith, lt), g.1);
    idle = f.idle;
    halted = f.halted;
  }

  -- copies from the process

  in_one : (n : ℕ) (c : Copied) (r : Result Progress Rule) → SoFar a p access.Load address n c → c.stop ≡ None → reached_in a access.Load c.progress (address + n) ≡ r → ReachesIt p access.Load (address + n) r → SoFar a p access.Load address (n + 1) (one_in c (address + n) r)
  in_one n c r f e is (came {g} none same idle) = one_more access.Load n c (byte_of g.process (address + n)) g f e none same idle
  in_one n c r f e is (stopped {rule} g) = one_stops access.Load n c rule f e g is

  in_next : (n : ℕ) (c : Copied) (o : Option Rule) → c.stop ≡ o → SoFar a p access.Load address n c → SoFar a p access.Load address (n + 1) (next_in a c (address + n) o)
  in_next n c (Some rule) e f = stays access.Load n c rule f e
  in_next n c None e f = in_one n c (reached_in a access.Load c.progress (address + n)) f e refl (reach a p c.progress access.Load (address + n) f.same f.idle)

  in_all : (m n at : ℕ) (c : Copied) → at ≡ address + n → SoFar a p access.Load address n c → SoFar a p access.Load address (n + m) (fold (λ c at. next_in a c at c.stop) c (numbers_from at m))
  in_all zero n at c is f = subst (λ k. SoFar a p access.Load address k c) (omega arith) f
  in_all (suc m) n at c is f =
      subst (λ k. SoFar a p access.Load address k (fold (λ c at. next_in a c at c.stop) c (numbers_from at (suc m)))) (omega arith)
      (in_all m (n + 1) (at + 1) (next_in a c at c.stop) (omega (arith, is)) (subst (λ k. SoFar a p access.Load address (n + 1) (next_in a c k c.stop)) (sym is) (in_next n c c.stop refl f)))

  -- copies to the process

  byte_on_same : (q : Process) (at b : ℕ) (o : Option Page) → regions (with_byte_on q at b o) ≡ regions q
  byte_on_same q at b None = refl
  byte_on_same q at b (Some page) = refl

  byte_on_idle : (q : Process) (at b : ℕ) (o : Option Page) → (with_byte_on q at b o).pending ≡ q.pending
  byte_on_idle q at b None = refl
  byte_on_idle q at b (Some page) = refl

  byte_on_alike : (q : Process) (at b : ℕ) (o : Option Page) → (with_byte_on q at b o).scheme ≡ q.scheme
  byte_on_alike q at b None = refl
  byte_on_alike q at b (Some page) = refl

  out_one : (n b : ℕ) (c : Copied) (r : Result Progress Rule) → SoFar a p access.Store address n c → c.stop ≡ None → reached_in a access.Store c.progress (address + n) ≡ r → ReachesIt p access.Store (address + n) r → SoFar a p access.Store address (n + 1) (one_out c (address + n) b r)
  out_one n b c r f e is (came {g} none same idle) =
      let o = get (g.process).settled (page_of (address + n)) in
      one_more access.Store n c b (record g { process = with_byte g.process (address + n) b }) f e none (byte_on_same g.process (address + n) b o ∙ same.0, byte_on_alike g.process (address + n) b o ∙ same.1) (byte_on_idle g.process (address + n) b o ∙ idle)
  out_one n b c r f e is (stopped {rule} g) = one_stops access.Store n c rule f e g is

  out_next : (n b : ℕ) (c : Copied) (o : Option Rule) → c.stop ≡ o → SoFar a p access.Store address n c → SoFar a p access.Store address (n + 1) (next_out a c (address + n, b) o)
  out_next n b c (Some rule) e f = stays access.Store n c rule f e
  out_next n b c None e f = out_one n b c (reached_in a access.Store c.progress (address + n)) f e refl (reach a p c.progress access.Store (address + n) f.same f.idle)

  out_all : (bs : List ℕ) (n at : ℕ) (c : Copied) → at ≡ address + n → SoFar a p access.Store address n c
      → SoFar a p access.Store address (n + length bs) (fold (λ c x. next_out a c x c.stop) c (zip (numbers_from at (length bs)) bs))
  out_all [] n at c is f = subst (λ k. SoFar a p access.Store address k c) (omega arith) f
  out_all (b ∷ bs) n at c is f =
      subst (λ k. SoFar a p access.Store address k (fold (λ c x. next_out a c x c.stop) c (zip (numbers_from at (length (b ∷ bs))) (b ∷ bs)))) (omega arith)
      (out_all bs (n + 1) (at + 1) (next_out a c (at, b) c.stop) (omega (arith, is)) (subst (λ k. SoFar a p access.Store address (n + 1) (next_out a c (k, b) c.stop)) (sym is) (out_next n b c c.stop refl f)))

not_begun : (a : Environment) (g : Progress) (kind : Access) (address : ℕ) → SoFar a g.process kind address 0 (copy_begun g)
not_begun a g kind address = record {
  idle = refl;
  halted = λ rule is. absurd (none_some is);
  same = (refl, refl);
  granted = λ i l. absurd (omega (arith, l));
  goes_on = λ _. refl;
  stops = λ rule is. absurd (none_some is);
}

pub in_so_far : (a : Environment) (g : Progress) (address n : ℕ) → SoFar a g.process access.Load address n (copied_in a g address n)
unfolding copied_in
in_so_far a g address n = subst (λ k. SoFar a g.process access.Load address k (fold (λ c at. next_in a c at c.stop) (copy_begun g) (numbers_from address n))) (omega arith)
    (in_all a g.process address n 0 address _ (omega arith) (not_begun a g access.Load address))

pub out_so_far : (a : Environment) (g : Progress) (address : ℕ) (bs : List ℕ) → SoFar a g.process access.Store address (length bs) (copied_out a g address bs)
unfolding copied_out
out_so_far a g address bs = subst (λ k. SoFar a g.process access.Store address k (fold (λ c x. next_out a c x c.stop) (copy_begun g) (zip (numbers_from address (length bs)) bs))) (omega arith)
    (out_all a g.process address bs 0 address _ (omega arith) (not_begun a g access.Store address))

-- what that says

-- where the next byte lacks frames, if that stopped it
module _ (Lacks : Type 0) where
  stop_says : (p : Process) (kind : Access) (address n k : ℕ) (rule : Rule) → k < n → Stops p kind (address + k) rule → (rule ≡ NoFrame → Lacks) → StopsAfter p kind address n k Lacks (Some rule)
  stop_says p kind address n k rule l (denied e) says = StopsAfter.forbidden l (byte_forbidden p kind (address + k) rule e)
  stop_says p kind address n k rule l (dry e) says = StopsAfter.no_frame l (byte_granted p kind (address + k) e) (says refl)

  ends_so : (a : Environment) (p : Process) (kind : Access) (address n : ℕ) (c : Copied) (o : Option Rule) → c.stop ≡ o → SoFar a p kind address n c → (c.stop ≡ Some NoFrame → Lacks)
      → Copies p kind address n (length c.bytes) Lacks o
  ends_so a p kind address n c None e f says = record { granted = λ i l. byte_granted p kind (address + i) (f.granted i l); stops = StopsAfter.whole (f.goes_on e) }
  ends_so a p kind address n c (Some rule) e f says =
      let g = f.stops rule e in
      record { granted = λ i l. byte_granted p kind (address + i) (f.granted i l); stops = stop_says p kind address n (length c.bytes) rule g.0 g.1 (λ is. says (e ∙ ap Some is)) }

  -- a process that no access of waits has the same regions
  copies_same : (p : Process) (kind : Access) (address n k : ℕ) (o : Option Rule) → Copies (without_pending p) kind address n k Lacks o → Copies p kind address n k Lacks o
  copies_same p kind address n k o c = record { granted = λ i l. grants (address + i) (c.granted i l); stops = ends_same o c.stops }
    where
      grants : (at : ℕ) → IsGranted (without_pending p) (byte kind at) → IsGranted p (byte kind at)
      grants at g = record { region = g.region; has = g.has; right = g.right; aligned = g.aligned }

      ends_same : (o : Option Rule) → StopsAfter (without_pending p) kind address n k Lacks o → StopsAfter p kind address n k Lacks o
      ends_same o (StopsAfter.whole e) = StopsAfter.whole e
      ends_same o (StopsAfter.forbidden l f) = StopsAfter.forbidden l f
      ends_same o (StopsAfter.no_frame l g so) = StopsAfter.no_frame l (grants (address + k) g) so

pub Says : Process → Access → ℕ → ℕ → (ℕ → Type 0) → Reply → Type 0
Says p kind address n Lacks r = Copies p kind address n (copied r) (Lacks (copied r)) (stopped_by r)

in_says : (p : Process) (address n : ℕ) (Lacks : ℕ → Type 0) (bs : List ℕ) (o : Option Rule) → Copies p access.Load address n (length bs) (Lacks (length bs)) o → Says p access.Load address n Lacks (in_reply bs o)
unfolding Says
in_says p address n Lacks bs None c = c
in_says p address n Lacks bs (Some r) c = c

out_says : (p : Process) (address n : ℕ) (Lacks : ℕ → Type 0) (bs : List ℕ) (o : Option Rule) → Copies p access.Store address n (length bs) (Lacks (length bs)) o → Says p access.Store address n Lacks (out_reply bs o)
unfolding Says
out_says p address n Lacks bs None c = c
out_says p address n Lacks bs (Some r) c = c

-- a copy that runs
pub record InRan (w : World) (h s : ℕ) (p : Process) (address n : ℕ) : Type 0 where
  pub hart : Hart
  pub there : slice_get w.harts h ≡ Some hart
  pub can : can_call w hart ≡ true
  pub fits : nat_le n LONGEST_COPY ≡ true
  pub in_kernel : IsInPhase w h Kernel
  pub is : plain_step w (CopyIn h address n) ≡ copy_in_outcome w s (copied_in (environment_of w s) (initial_progress w (without_pending p)) address n)

pub record OutRan (w : World) (h s : ℕ) (p : Process) (address : ℕ) (bytes : Bor (List ℕ)) : Type 0 where
  pub hart : Hart
  pub there : slice_get w.harts h ≡ Some hart
  pub can : can_call w hart ≡ true
  pub fits : nat_le (length bytes.now) LONGEST_COPY ≡ true
  pub in_kernel : IsInPhase w h Kernel
  pub is : plain_step w (CopyOut h address bytes) ≡ copy_out_outcome w s (copied_out (environment_of w s) (initial_progress w (without_pending p)) address bytes.now)

kernel_phase : (phase : Phase) (b : Bool) → (is_kernel phase && b) ≡ true → phase ≡ Kernel
kernel_phase Kernel b e = refl
kernel_phase Idle b e = absurd cc
kernel_phase User b e = absurd cc
kernel_phase Enter0 b e = absurd cc
kernel_phase Enter1 b e = absurd cc
kernel_phase Enter2 b e = absurd cc
kernel_phase Leave1 b e = absurd cc
kernel_phase Leave2 b e = absurd cc

in_phase : (w : World) (h : ℕ) (hart : Hart) (phase : Phase) → slice_get w.harts h ≡ Some hart → hart.phase ≡ phase → IsInPhase w h phase
in_phase w h hart phase there is = ap (option_map (λ (hart : Hart). hart.phase)) there ∙ ap Some is

pub in_ran : (w : World) (h s address n : ℕ) (p : Process) → IsOnHart w h s p → IsMade (step w (CopyIn h address n)).reply → InRan w h s p address n
in_ran w h s address n p on made =
    let call = λ (hart : Hart) (s : ℕ) (p : Process). copy_in_outcome w s (copied_in (environment_of w s) (initial_progress w (without_pending p)) address n) in
    let r = ran_on w h (nat_le n LONGEST_COPY) (can_call w) always (λ hart. with_its_process w hart (call hart)) (was_made w (CopyIn h address n) made) in
    record { hart = r.hart; there = r.there; can = r.can; fits = r.fits; in_kernel = in_phase w h r.hart Kernel r.there (kernel_phase r.hart.phase _ r.can); is = r.is ∙ process_runs w r.hart (call r.hart) s p (has_it w h s r.hart on.there r.there) on.lives }

pub out_ran : (w : World) (h s address : ℕ) (bytes : Bor (List ℕ)) (p : Process) → IsOnHart w h s p → IsMade (step w (CopyOut h address bytes)).reply → OutRan w h s p address bytes
out_ran w h s address bytes p on made =
    let call = λ (hart : Hart) (s : ℕ) (p : Process). copy_out_outcome w s (copied_out (environment_of w s) (initial_progress w (without_pending p)) address bytes.now) in
    let r = ran_on w h (nat_le (length bytes.now) LONGEST_COPY) (can_call w) always (λ hart. with_its_process w hart (call hart)) (was_made w (CopyOut h address bytes) made) in
    record { hart = r.hart; there = r.there; can = r.can; fits = r.fits; in_kernel = in_phase w h r.hart Kernel r.there (kernel_phase r.hart.phase _ r.can); is = r.is ∙ process_runs w r.hart (call r.hart) s p (has_it w h s r.hart on.there r.there) on.lives }

pub copies_in : (w : World) (h s address n : ℕ) (p : Process) (Lacks : ℕ → Type 0) → InRan w h s p address n
    → (let c = copied_in (environment_of w s) (initial_progress w (without_pending p)) address n in c.stop ≡ Some NoFrame → Lacks (length c.bytes))
    → let r = (step w (CopyIn h address n)).reply in Copies p access.Load address n (copied r) (Lacks (copied r)) (stopped_by r)
unfolding Says
copies_in w h s address n p Lacks ran says =
    let c = copied_in (environment_of w s) (initial_progress w (without_pending p)) address n in
    subst (Says p access.Load address n Lacks) (sym (step_reply w (CopyIn h address n) ∙ ap (λ (o : StepOutcome). o.reply) ran.is))
    (in_says p address n Lacks c.bytes c.stop
    (copies_same (Lacks (length c.bytes)) p access.Load address n (length c.bytes) c.stop (ends_so (Lacks (length c.bytes)) (environment_of w s) (without_pending p) access.Load address n c c.stop refl (in_so_far (environment_of w s) (initial_progress w (without_pending p)) address n) says)))

pub copies_out : (w : World) (h s address : ℕ) (bytes : Bor (List ℕ)) (p : Process) (Lacks : ℕ → Type 0) → OutRan w h s p address bytes
    → (let c = copied_out (environment_of w s) (initial_progress w (without_pending p)) address bytes.now in c.stop ≡ Some NoFrame → Lacks (length c.bytes))
    → let r = (step w (CopyOut h address bytes)).reply in Copies p access.Store address (length bytes.now) (copied r) (Lacks (copied r)) (stopped_by r)
unfolding Says
copies_out w h s address bytes p Lacks ran says =
    let c = copied_out (environment_of w s) (initial_progress w (without_pending p)) address bytes.now in
    subst (Says p access.Store address (length bytes.now) Lacks) (sym (step_reply w (CopyOut h address bytes) ∙ ap (λ (o : StepOutcome). o.reply) ran.is))
    (out_says p address (length bytes.now) Lacks c.bytes c.stop
    (copies_same (Lacks (length c.bytes)) p access.Store address (length bytes.now) (length c.bytes) c.stop
    (ends_so (Lacks (length c.bytes)) (environment_of w s) (without_pending p) access.Store address (length bytes.now) c c.stop refl (out_so_far (environment_of w s) (initial_progress w (without_pending p)) address bytes.now) says)))
