-- Lemmas: a step on a hart is refused with BadArgument, Impossible or NoEntry if one of these applies (`refusal_on`), the first
-- of them; if none applies, it is made, but for the calls that have refusals of their own.
use Rattle.std.proofs.Common.{◌≡◌, ℕ, Bool, true, false, ◌&&◌, ◌+◌, refl, sym, ap, subst, ◌∙◌, arith, Option, None, Some, List, [], ◌∷◌, length}
use Rattle.std.specs.Prelude.{◌-◌, drop, if◌then◌else◌, nat_lt, option_map, slice_get}
use Rattle.std.proofs.lemmas.Bool.{and_parts, eq-eqb, false≢true}
use Rattle.std.proofs.lemmas.List.{length-append}
use Rattle.std.proofs.lemmas.Option.{same_Some}
use Rattle.process_laws.proofs.Possible.{denied_made, in_made, out_made, same_made, served_made}
use Rattle.process_laws.proofs.Kept.{step_keeps}
use Rattle.process_laws.proofs.Running.{has_it, none_refuses, process_runs, ran_on, step_reply, was_made}
use Rattle.process_laws.proofs.Users.{told_reply}
use Rattle.process_laws.specs.CallReplies.{has_refusals, refusal_on}
use Rattle.process_laws.specs.Words.{hart_of, hart_of_step, IsMade, IsOnHart, keys_after, keys_on}
use Rattle.process_model.specs.Copies.{copied_in, copied_out}
use Rattle.process_model.specs.Harts.{Hart, is_kernel, Key, present_asid, with_key}
use Rattle.process_model.specs.Process.{Pending, Process, regions, without_pending}
use Rattle.process_model.specs.Regions.{first_rule}
use Rattle.process_model.specs.Service.{access_outcome, AccessRequest, environment_of, initial_progress, is_fault, served, user_access}
use Rattle.process_model.specs.Environment.{resident_at_address}
use Rattle.process_model.specs.Steps.{filled, plain_step, step}
use Rattle.process_model.specs.World.{always, awaits_service, common_refusal, is_unserved, is_unserved_access, on_hart, on_hart_at, StepOutcome, process_of_slot, unless_refused, with_its_process, World}
use Rattle.process_model.specs.declared.reply.Refusal.{Refusal}
use Rattle.process_model.specs.declared.reply.Refusal.TheVariants.{BadArgument}
use Rattle.process_model.specs.declared.reply.ScalarReply.TheVariants.{Filled, Refused}
use Rattle.process_model.specs.declared.reply.Reply.TheVariants.{Scalar}
use Rattle.process_model.specs.declared.step.Step.{Step}
use Rattle.process_model.specs.declared.step.Step.TheVariants as step_of
use Rattle.sv39_entry.specs.Address.{page_of}
use Rattle.sv39_entry.specs.declared.access.Access.{Access}
use Rattle.sv39_entry.specs.declared.access.Access.TheVariants as access
use Rattle.process_model.specs.declared.limits.TheConstants.{BUFFER_SIZE}

module _ (w : World) where
  -- ---- the first refusal that applies

  module _ (x : Step) (h : ℕ) (proper : Bool) (possible entry : Hart → Bool) (run : Hart → StepOutcome) (same : (hart : Hart) → refusal_on w x (Some hart) ≡ common_refusal hart proper possible entry) where
    refused_by : (hart : Hart) (o : Option Refusal) (e : Refusal) → o ≡ Some e → (unless_refused w run hart o).reply ≡ Scalar (Refused e)
    refused_by hart None e is = absurd cc
    refused_by hart (Some r) e is = ap (λ x. Scalar (Refused x)) (same_Some r e is)

    refused_at : (e : Refusal) (o : Option Hart) → refusal_on w x o ≡ Some e → (on_hart_at w proper possible entry run o).reply ≡ Scalar (Refused e)
    refused_at e None is = ap (λ x. Scalar (Refused x)) (same_Some BadArgument e is)
    refused_at e (Some hart) is = refused_by hart (common_refusal hart proper possible entry) e (sym (same hart) ∙ is)

    refused_on : (e : Refusal) → refusal_on w x (slice_get w.harts h) ≡ Some e → (on_hart w h proper possible entry run).reply ≡ Scalar (Refused e)
    unfolding on_hart
    refused_on e is = refused_at e (slice_get w.harts h) is

    goes_by : (hart : Hart) (o : Option Refusal) → o ≡ None → IsMade (run hart).reply → IsMade (unless_refused w run hart o).reply
    goes_by hart None is made = made
    goes_by hart (Some r) is made = absurd cc

    goes_at : (o : Option Hart) → slice_get w.harts h ≡ o → refusal_on w x o ≡ None → ((hart : Hart) → slice_get w.harts h ≡ Some hart → possible hart ≡ true → IsMade (run hart).reply) → IsMade (on_hart_at w proper possible entry run o).reply
    goes_at None there is each = absurd cc
    goes_at (Some hart) there is each =
        let none = sym (same hart) ∙ is in
        goes_by hart (common_refusal hart proper possible entry) none (each hart there (none_refuses proper (possible hart) (entry hart) _ _ _ none).1)

    goes_on : refusal_on w x (slice_get w.harts h) ≡ None → ((hart : Hart) → slice_get w.harts h ≡ Some hart → possible hart ≡ true → IsMade (run hart).reply) → IsMade (on_hart w h proper possible entry run).reply
    unfolding on_hart
    goes_on is each = goes_at (slice_get w.harts h) refl is each

  abbrev Applies : Step → Refusal → ℕ → Type 0
  Applies x e n = refusal_on w x (slice_get w.harts n) ≡ Some e

  at_hart : (x : Step) (e : Refusal) (k h : ℕ) → Some k ≡ Some h → Applies x e h → Applies x e k
  at_hart x e k h same is = subst (Applies x e) (sym (same_Some k h same)) is

  plain_refused : (x : Step) (h : ℕ) (e : Refusal) → hart_of x ≡ Some h → Applies x e h → (plain_step w x).reply ≡ Scalar (Refused e)
  plain_refused (step_of.Start image) h e on is = absurd cc
  plain_refused (step_of.Switch k slot) h e on is = refused_on (step_of.Switch k slot) k _ _ _ _ (λ hart. refl) e (at_hart (step_of.Switch k slot) e k h on is)
  plain_refused (step_of.Trap k) h e on is = refused_on (step_of.Trap k) k _ _ _ _ (λ hart. refl) e (at_hart (step_of.Trap k) e k h on is)
  plain_refused (step_of.Next k) h e on is = refused_on (step_of.Next k) k _ _ _ _ (λ hart. refl) e (at_hart (step_of.Next k) e k h on is)
  plain_refused (step_of.Fill k address) h e on is = refused_on (step_of.Fill k address) k _ _ _ _ (λ hart. refl) e (at_hart (step_of.Fill k address) e k h on is)
  plain_refused (step_of.Evict k n) h e on is = refused_on (step_of.Evict k n) k _ _ _ _ (λ hart. refl) e (at_hart (step_of.Evict k n) e k h on is)
  plain_refused (step_of.Fetch k address via) h e on is = refused_on (step_of.Fetch k address via) k _ _ _ _ (λ hart. refl) e (at_hart (step_of.Fetch k address via) e k h on is)
  plain_refused (step_of.Load k address width via) h e on is = refused_on (step_of.Load k address width via) k _ _ _ _ (λ hart. refl) e (at_hart (step_of.Load k address width via) e k h on is)
  plain_refused (step_of.Store k address width value via) h e on is = refused_on (step_of.Store k address width value via) k _ _ _ _ (λ hart. refl) e (at_hart (step_of.Store k address width value via) e k h on is)
  plain_refused (step_of.TrampolineFetch k offset via) h e on is = refused_on (step_of.TrampolineFetch k offset via) k _ _ _ _ (λ hart. refl) e (at_hart (step_of.TrampolineFetch k offset via) e k h on is)
  plain_refused (step_of.Serve k) h e on is = refused_on (step_of.Serve k) k _ _ _ _ (λ hart. refl) e (at_hart (step_of.Serve k) e k h on is)
  plain_refused (step_of.Fork k) h e on is = refused_on (step_of.Fork k) k _ _ _ _ (λ hart. refl) e (at_hart (step_of.Fork k) e k h on is)
  plain_refused (step_of.Exec k image) h e on is = refused_on (step_of.Exec k image) k _ _ _ _ (λ hart. refl) e (at_hart (step_of.Exec k image) e k h on is)
  plain_refused (step_of.Sbrk k delta) h e on is = refused_on (step_of.Sbrk k delta) k _ _ _ _ (λ hart. refl) e (at_hart (step_of.Sbrk k delta) e k h on is)
  plain_refused (step_of.Mmap k len protection flags n) h e on is = refused_on (step_of.Mmap k len protection flags n) k _ _ _ _ (λ hart. refl) e (at_hart (step_of.Mmap k len protection flags n) e k h on is)
  plain_refused (step_of.Munmap k address len) h e on is = refused_on (step_of.Munmap k address len) k _ _ _ _ (λ hart. refl) e (at_hart (step_of.Munmap k address len) e k h on is)
  plain_refused (step_of.CopyIn k address n) h e on is = refused_on (step_of.CopyIn k address n) k _ _ _ _ (λ hart. refl) e (at_hart (step_of.CopyIn k address n) e k h on is)
  plain_refused (step_of.CopyOut k address bytes) h e on is = refused_on (step_of.CopyOut k address bytes) k _ _ _ _ (λ hart. refl) e (at_hart (step_of.CopyOut k address bytes) e k h on is)
  plain_refused (step_of.Exit k status) h e on is = refused_on (step_of.Exit k status) k _ _ _ _ (λ hart. refl) e (at_hart (step_of.Exit k status) e k h on is)

  pub is_refused : (x : Step) (h : ℕ) (e : Refusal) → hart_of x ≡ Some h → Applies x e h → (step w x).reply ≡ Scalar (Refused e)
  is_refused x h e on is = step_reply w x ∙ plain_refused x h e on is

  -- ---- what is made

  abbrev Host : ℕ → Type 0
  Host n = (s : ℕ) × (p : Process) × IsOnHart w n s p

  its_made : (k : ℕ) (hart : Hart) (run : ℕ → Process → StepOutcome) → slice_get w.harts k ≡ Some hart → Host k → ((s : ℕ) (p : Process) → IsOnHart w k s p → IsMade (run s p).reply) → IsMade (with_its_process w hart run).reply
  its_made k hart run there host each =
      let on = host.2 in
      same_made _ _ (ap (λ (o : StepOutcome). o.reply) (process_runs w hart run host.0 host.1 (has_it w k host.0 hart on.there there) on.lives)) (each host.0 host.1 on)

  asked_made : (k : ℕ) (hart : Hart) (kind : Access) (address width value s : ℕ) (p : Process) → let a : AccessRequest = record { access = kind; address = address; width = width; value = value } in IsMade (access_outcome w k hart s (user_access p a)).reply
  asked_made k hart kind address width value s p =
      let a : AccessRequest = record { access = kind; address = address; width = width; value = value } in
      same_made _ _ (told_reply w k hart s (user_access p a) (is_fault (user_access p a).reply)) (denied_made p a (first_rule p.scheme (regions p) kind address width))

  serve_by : (k : ℕ) (hart : Hart) (s : ℕ) (p : Process) (o : Option Pending) → is_unserved_access o ≡ true → IsMade (served w k hart s p o).reply
  serve_by k hart s p None e = absurd (false≢true e)
  serve_by k hart s p (Some a) e = served_made w k hart s p a (resident_at_address (environment_of w s) a.access a.address (initial_progress w p) (first_rule p.scheme (regions p) a.access a.address a.width))

  waiting : (k : ℕ) (hart : Hart) (s : ℕ) (p : Process) → slice_get w.harts k ≡ Some hart → IsOnHart w k s p → (is_kernel hart.phase && awaits_service w hart) ≡ true → is_unserved_access p.pending ≡ true
  waiting k hart s p there on can =
      let slot : hart.slot ≡ Some s = has_it w k s hart on.there there in
      ap is_unserved (sym on.lives) ∙ ap (λ o. is_unserved (process_of_slot w o)) (sym slot) ∙ (and_parts (is_kernel hart.phase) (awaits_service w hart) can).1

  abbrev Given : Step → ℕ → Type 0
  Given x n = (refusal_on w x (slice_get w.harts n) ≡ None) × (hart_of_step x ≡ Some n → Host n)

  given_at : (x : Step) (k h : ℕ) → Some k ≡ Some h → Given x h → Given x k
  given_at x k h same g = subst (Given x) (sym (same_Some k h same)) g

  plain_made : (x : Step) (h : ℕ) → hart_of x ≡ Some h → has_refusals x ≡ false → Given x h → IsMade (plain_step w x).reply
  plain_made (step_of.Start image) h on own g = absurd cc
  plain_made (step_of.Switch k slot) h on own g = let f = given_at (step_of.Switch k slot) k h on g in goes_on (step_of.Switch k slot) k _ _ _ _ (λ hart. refl) f.0 (λ hart there can e no. absurd cc)
  plain_made (step_of.Trap k) h on own g = let f = given_at (step_of.Trap k) k h on g in goes_on (step_of.Trap k) k _ _ _ _ (λ hart. refl) f.0 (λ hart there can. its_made k hart _ there (f.1 refl) (λ s p at e no. absurd cc))
  plain_made (step_of.Next k) h on own g = let f = given_at (step_of.Next k) k h on g in goes_on (step_of.Next k) k _ _ _ _ (λ hart. refl) f.0 (λ hart there can e no. absurd cc)
  plain_made (step_of.Fill k address) h on own g = let f = given_at (step_of.Fill k address) k h on g in goes_on (step_of.Fill k address) k _ _ _ _ (λ hart. refl) f.0 (λ hart there can e no. absurd cc)
  plain_made (step_of.Evict k n) h on own g = let f = given_at (step_of.Evict k n) k h on g in goes_on (step_of.Evict k n) k _ _ _ _ (λ hart. refl) f.0 (λ hart there can e no. absurd cc)
  plain_made (step_of.Fetch k address via) h on own g = let f = given_at (step_of.Fetch k address via) k h on g in goes_on (step_of.Fetch k address via) k _ _ _ _ (λ hart. refl) f.0 (λ hart there can. its_made k hart _ there (f.1 refl) (λ s p at. asked_made k hart access.Fetch address 4 0 s p))
  plain_made (step_of.Load k address width via) h on own g = let f = given_at (step_of.Load k address width via) k h on g in goes_on (step_of.Load k address width via) k _ _ _ _ (λ hart. refl) f.0 (λ hart there can. its_made k hart _ there (f.1 refl) (λ s p at. asked_made k hart access.Load address width 0 s p))
  plain_made (step_of.Store k address width value via) h on own g = let f = given_at (step_of.Store k address width value via) k h on g in goes_on (step_of.Store k address width value via) k _ _ _ _ (λ hart. refl) f.0 (λ hart there can. its_made k hart _ there (f.1 refl) (λ s p at. asked_made k hart access.Store address width value s p))
  plain_made (step_of.TrampolineFetch k offset via) h on own g = let f = given_at (step_of.TrampolineFetch k offset via) k h on g in goes_on (step_of.TrampolineFetch k offset via) k _ _ _ _ (λ hart. refl) f.0 (λ hart there can e no. absurd cc)
  plain_made (step_of.Serve k) h on own g = let f = given_at (step_of.Serve k) k h on g in goes_on (step_of.Serve k) k _ _ _ _ (λ hart. refl) f.0 (λ hart there can. its_made k hart _ there (f.1 refl) (λ s p at. serve_by k hart s p p.pending (waiting k hart s p there at can)))
  plain_made (step_of.Fork k) h on own g = absurd cc
  plain_made (step_of.Exec k image) h on own g = absurd cc
  plain_made (step_of.Sbrk k delta) h on own g = absurd cc
  plain_made (step_of.Mmap k len protection flags n) h on own g = absurd cc
  plain_made (step_of.Munmap k address len) h on own g = absurd cc
  plain_made (step_of.CopyIn k address n) h on own g = let f = given_at (step_of.CopyIn k address n) k h on g in goes_on (step_of.CopyIn k address n) k _ _ _ _ (λ hart. refl) f.0 (λ hart there can. its_made k hart _ there (f.1 refl) (λ s p at. let c = copied_in (environment_of w s) (initial_progress w (without_pending p)) address n in in_made c.bytes c.stop))
  plain_made (step_of.CopyOut k address bytes) h on own g = let f = given_at (step_of.CopyOut k address bytes) k h on g in goes_on (step_of.CopyOut k address bytes) k _ _ _ _ (λ hart. refl) f.0 (λ hart there can. its_made k hart _ there (f.1 refl) (λ s p at. let c = copied_out (environment_of w s) (initial_progress w (without_pending p)) address bytes.now in out_made c.bytes c.stop))
  plain_made (step_of.Exit k status) h on own g = let f = given_at (step_of.Exit k status) k h on g in goes_on (step_of.Exit k status) k _ _ _ _ (λ hart. refl) f.0 (λ hart there can. its_made k hart _ there (f.1 refl) (λ s p at e no. absurd cc))

  pub is_made : (x : Step) (h : ℕ) → hart_of x ≡ Some h → refusal_on w x (slice_get w.harts h) ≡ None → has_refusals x ≡ false → (hart_of_step x ≡ Some h → Host h) → IsMade (step w x).reply
  is_made x h on is own host = same_made _ _ (step_reply w x) (plain_made x h on own (is, host))

-- ---- the number that a fill replies

pub fill_counts : (w : World) (h address n : ℕ) → (step w (step_of.Fill h address)).reply ≡ Scalar (Filled n) → option_map length (keys_on (step w (step_of.Fill h address)).world h) ≡ Some (n + 1)
fill_counts w h address n e =
    let x = step_of.Fill h address in
    let made : IsMade (step w x).reply = λ r f. absurd (let no = sym e ∙ f in cc) in
    let r = ran_on w h true always always (filled w h address) (was_made w x made) in
    let older : List Key = if nat_lt (length (r.hart).keys) BUFFER_SIZE then (r.hart).keys else drop 1 (r.hart).keys in
    let key : Key = record { page = page_of address; asid = present_asid w.policy r.hart } in
    let keys = with_key (r.hart).keys key in
    let told : (Scalar (Filled (length keys - 1))) ≡ (Scalar (Filled n)) = ap (λ (o : StepOutcome). o.reply) (sym r.is) ∙ sym (step_reply w x) ∙ e in
    let number : length keys - 1 ≡ n = cc in
    let long : length keys ≡ length older + 1 = length-append older (key ∷ []) in
    let after : keys_on (step w x).world h ≡ Some keys = (step_keeps w x).buffers made h r.hart r.there ∙ ap (λ b. Some (if b then keys_after w.policy r.hart x else (r.hart).keys)) (eq-eqb h h refl) in
    ap (option_map length) after ∙ ap Some (omega (arith, number, long))
