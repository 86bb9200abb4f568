-- Lemmas about whole runs since boot: the byte that the world holds at an address is the latest that was left there
-- (`HoldsLatest`), none if the page is not in memory; and values of loads and fetches, and bytes that copyin brings, are
-- those that the world holds.
use Rattle.std.proofs.Common.{◌≡◌, ℕ, zero, suc, ◌+◌, ◌*◌, ◌%◌, ◌^◌, ◌<◌, ◌≤◌, refl, sym, ap, ◌∙◌, arith, List, [], ◌∷◌, ◌++◌, take, drop, length, Option, None, Some}
use Rattle.std.specs.Prelude.{slice_get, replicate}
use Rattle.std.proofs.lemmas.List.{length-take-le, length-drop, get_or-take, get_or-drop}
use Rattle.std.proofs.lemmas.Option.{same_Some}
use Rattle.sv39_entry.specs.Address.{page_of}
use Rattle.sv39_entry.specs.declared.access.Access.TheVariants as access
use Rattle.process_model.specs.Bytes.{number}
use Rattle.process_model.specs.PageMap.{get}
use Rattle.process_model.specs.Files.{File}
use Rattle.process_model.specs.Process.{Process, Page, without_pending}
use Rattle.process_model.specs.Residence.{loaded}
use Rattle.sv39_entry.specs.declared.rule.Rule.{Rule}
use Rattle.process_model.specs.Copies.{Copied, in_reply, copied_in}
use Rattle.process_model.specs.Calls.{copy_in_outcome}
use Rattle.process_model.specs.Stale.{with_stale_slots}
use Rattle.process_model.specs.Steps
use Rattle.process_model.specs.Steps.{run, plain_step}
use Rattle.process_model.specs.World.{World, StepOutcome, answers, booted, flat, process_in}
use Rattle.process_model.specs.Service.{environment_of, initial_progress, with_progress}
use Rattle.process_model.specs.declared.config.Config.{Config}
use Rattle.process_model.specs.declared.config.Policy.{Policy}
use Rattle.process_model.specs.declared.config.Policy.TheVariants.{Full, Asid}
use Rattle.process_model.specs.declared.reply.ScalarReply.TheVariants.{Value}
use Rattle.process_model.specs.declared.reply.Reply.TheVariants.{Scalar}
use Rattle.process_model.specs.declared.step.Step.{Step}
use Rattle.process_model.specs.declared.step.Step.TheVariants as step
use Rattle.process_laws.specs.Latest.{byte_had, latest, byte_at, bytes_in, IsLatest, page_byte}
use Rattle.process_laws.specs.Moments.{Moment, moment_of, moments_from, slot_on}
use Rattle.process_laws.proofs.LatestAfter.{left_same}
use Rattle.process_laws.proofs.PageBytes.{bytes_on, contents, byte_from}
use Rattle.process_laws.proofs.HeldBytes.{none_some, byte_held, held, in_range, Puts, set_puts, Sized}
use Rattle.process_laws.proofs.OnHarts.{kernel_good, access_good}
use Rattle.process_laws.proofs.CopyBytes.{CameIn, copy_came_in}
use Rattle.process_laws.proofs.KnownSteps.{Known, step_known}

-- boot

abbrev none : Option Process
none = None

slot_free : (n s : ℕ) → flat (slice_get (replicate n None) s) ≡ none
slot_free zero s = refl
slot_free (suc n) zero = refl
slot_free (suc n) (suc s) = slot_free n s

booted_sized : (c : Config) (files : List File) → Sized (booted c files)
booted_sized c files = record { pages = λ s p e. absurd (none_some (sym (slot_free c.slots s) ∙ e)) }

booted_held : (c : Config) (files : List File) (s a : ℕ) → held (booted c files) s a ≡ None
booted_held c files s a = ap (λ o. byte_held o a) (slot_free c.slots s)

-- runs

-- the byte that a world holds is the latest one
pub record HoldsLatest (past : List Moment) (w : World) : Type 0 where
  pub sized : Sized w
  pub told : (s a : ℕ) → held w s a ≡ latest past s a

pub run_holds : (steps : List Step) (w : World) (past : List Moment) → HoldsLatest past w → HoldsLatest (moments_from past w steps) (run w steps).world
run_holds [] w past l = l
run_holds (x ∷ xs) w past l =
    let m = moment_of w x in
    let k : Known w x (Steps.step w x) = step_known w l.sized x in
    run_holds xs m.after (m ∷ past) (record { sized = k.sized; told = λ s a. k.told s a ∙ left_same w (held w) (latest past) s a (λ t. l.told t a) x m.reply })

pub latest_held : (c : Config) (files : List File) (steps : List Step) → HoldsLatest (moments_from [] (booted c files) steps) (run (booted c files) steps).world
latest_held c files steps = run_holds steps (booted c files) [] (record { sized = booted_sized c files; told = booted_held c files })

pub run_one_more : (steps : List Step) (w : World) (st : Step) → (run w (steps ++ st ∷ [])).world ≡ (Steps.step (run w steps).world st).world
run_one_more [] w st = refl
run_one_more (s ∷ steps) w st = run_one_more steps (Steps.step w s).world st

-- the same, in the words of the headline

page_had : (o : Option Page) (i : ℕ) → page_byte o i ≡ byte_from (bytes_on o) i
page_had None i = refl
page_had (Some x) i = refl

had_is : (o : Option Process) (a : ℕ) → byte_had o a ≡ byte_held o a
had_is None a = refl
had_is (Some p) a = page_had (get p.settled (page_of a)) (a % 4096)

pub has_latest : (past : List Moment) (w : World) (s a : ℕ) → HoldsLatest past w → byte_had (process_in w s) a ≡ latest past s a
has_latest past w s a l = had_is (process_in w s) a ∙ l.told s a

-- loads and fetches

-- the value stands in a page of the process in slot s
pub record ReadAt (w : World) (s address width v : ℕ) : Type 0 where
  pub process : Process
  pub page : Page
  pub here : process_in w s ≡ Some process
  pub settled : get process.settled (page_of address) ≡ Some page
  pub fits : address % 4096 + width ≤ 4096
  pub is : v ≡ loaded page (address % 4096) width

-- an outcome that answers a value
record Reads (w : World) (h s address width : ℕ) (o : StepOutcome) : Type 0 where
  reads : (v : ℕ) → o.reply ≡ Scalar (Value v) → slot_on w h ≡ Some s → ReadAt w s address width v

answer_reads : (w v : World) (h s t address width : ℕ) (p : Process) (page : Page) → process_in w t ≡ Some p → slot_on w h ≡ Some t → get p.settled (page_of address) ≡ Some page → address % 4096 + width ≤ 4096
    → Reads w h s address width (answers v (Scalar (Value (loaded page (address % 4096) width))))
answer_reads w v h s t address width p page here on e fits = record {
  reads = λ n is at. record {
    process = p;
    page = page;
    here = ap (process_in w) (same_Some s t (sym at ∙ on)) ∙ here;
    settled = e;
    fits = fits;
    is = cc;
  };
}

marks_read : (policy : Policy) (w : World) (h s address width : ℕ) (o : StepOutcome) → Reads w h s address width o → Reads w h s address width (with_stale_slots policy w o)
marks_read Full w h s address width o f = f
marks_read Asid w h s address width o f = record { reads = f.reads }

pub load_reads : (w : World) (h s address width v : ℕ) (via : Option ℕ) → slot_on w h ≡ Some s → (Steps.step w (step.Load h address width via)).reply ≡ Scalar (Value v) → ReadAt w s address width v
unfolding Steps.step
load_reads w h s address width v via on e =
    let r : Reads w h s address width (plain_step w (step.Load h address width via)) = access_good w (Reads w h s address width) (λ r. record { reads = λ n is. cc }) h access.Load address width 0 via
    (λ hart t p cause here on. record { reads = λ n is. cc }) (λ hart t p page here on e fits. answer_reads w _ h s t address width p page here on e fits) in
    (marks_read w.policy w h s address width (plain_step w (step.Load h address width via)) r).reads v e on

pub fetch_reads : (w : World) (h s address v : ℕ) (via : Option ℕ) → slot_on w h ≡ Some s → (Steps.step w (step.Fetch h address via)).reply ≡ Scalar (Value v) → ReadAt w s address 4 v
unfolding Steps.step
fetch_reads w h s address v via on e =
    let r : Reads w h s address 4 (plain_step w (step.Fetch h address via)) = access_good w (Reads w h s address 4) (λ r. record { reads = λ n is. cc }) h access.Fetch address 4 0 via
    (λ hart t p cause here on. record { reads = λ n is. cc }) (λ hart t p page here on e fits. answer_reads w _ h s t address 4 p page here on e fits) in
    (marks_read w.policy w h s address 4 (plain_step w (step.Fetch h address via)) r).reads v e on

number_front : (bs : List ℕ) (n : ℕ) → number bs n ≡ number (take n bs) n
unfolding number
number_front bs zero = refl
number_front [] (suc n) = refl
number_front (b ∷ bs) (suc n) = ap (λ v. b + 2 ^ 8 * v) (number_front bs n)

-- such a value is that of the latest bytes
pub read_is_latest : (moments : List Moment) (w : World) (s address width v : ℕ) → HoldsLatest moments w → ReadAt w s address width v → IsLatest moments s address width v
read_is_latest moments w s address width v l r =
    let bs = r.page.bytes in
    let o = address % 4096 in
    let there : contents r.process.settled (page_of address) ≡ Some bs = ap bytes_on r.settled in
    let size : length bs ≡ 4096 = (l.sized.pages s r.process r.here).size (page_of address) bs there in
    let fits : o + width ≤ 4096 = r.fits in
    let long : length (take width (drop o bs)) ≡ width = length-take-le width (drop o bs) (omega (arith, length-drop o bs)) in
    record {
      bytes = take width (drop o bs);
      long = long;
      theirs = r.is ∙ number_front (drop o bs) width;
      latest_ones = λ i h.
          let within : i < width = omega arith in
          let same_page : page_of (address + i) ≡ page_of address = omega arith in
          let place : (address + i) % 4096 ≡ o + i = omega arith in
          sym (l.told s (address + i)) ∙ (ap (λ q. byte_held q (address + i)) r.here
          ∙ ap (λ n. byte_from (contents r.process.settled n) ((address + i) % 4096)) same_page
          ∙ ap (λ n. byte_from (contents r.process.settled (page_of address)) n) place
          ∙ ap (λ u. byte_from u (o + i)) there
          ∙ ap Some (sym (get_or-take width (drop o bs) i 0 within ∙ get_or-drop o bs i 0)));
    }

-- copies to the kernel

-- what an outcome brings is what its world holds
record Brings (w : World) (h s address : ℕ) (o : StepOutcome) : Type 0 where
  brings : slot_on w h ≡ Some s → (i : ℕ) → i < length (bytes_in o.reply) → held o.world s (address + i) ≡ Some (byte_at (bytes_in o.reply) i)

marks_bring : (policy : Policy) (w : World) (h s address : ℕ) (o : StepOutcome) → Brings w h s address o → Brings w h s address (with_stale_slots policy w o)
marks_bring Full w h s address o f = f
marks_bring Asid w h s address o f = record { brings = f.brings }

came_brings : (w : World) (h s t address end : ℕ) (p : Process) (c : Copied) (o : Option Rule) → process_in w t ≡ Some p → slot_on w h ≡ Some t → CameIn w.files p address end c
    → Brings w h s address (answers (with_progress w t c.progress) (in_reply c.bytes o))
came_brings w h s t address end p c o here on i = record { brings = at o } where
  after : World
  after = with_progress w t c.progress

  put : Puts w t (Some ((c.progress).process)) after
  put = set_puts w after t _ (in_range w t p here) refl

  there : slot_on w h ≡ Some s → (n : ℕ) → n < length c.bytes → held after s (address + n) ≡ Some (byte_at c.bytes n)
  there e n l = ap (λ m. held after m (address + n)) (same_Some s t (sym e ∙ on)) ∙ ap (λ q. byte_held q (address + n)) put.here ∙ i.read n l

  at : (o : Option Rule) → slot_on w h ≡ Some s → (n : ℕ) → n < length (bytes_in (in_reply c.bytes o)) → held after s (address + n) ≡ Some (byte_at (bytes_in (in_reply c.bytes o)) n)
  at None = there
  at (Some r) = there

copy_brings : (w : World) (h s t address count : ℕ) (p : Process) → Sized w → process_in w t ≡ Some p → slot_on w h ≡ Some t → Brings w h s address (copy_in_outcome w t (copied_in (environment_of w t) (initial_progress w (without_pending p)) address count))
copy_brings w h s t address count p k here on =
    let i = copy_came_in (environment_of w t) (initial_progress w (without_pending p)) p address count refl (λ a. refl) (k.pages t p here) in
    let c = copied_in (environment_of w t) (initial_progress w (without_pending p)) address count in
    came_brings w h s t address i.0 p c c.stop here on i.1

plain_brings : (w : World) (h s address count : ℕ) → Sized w → Brings w h s address (plain_step w (step.CopyIn h address count))
plain_brings w h s address count k = kernel_good w (Brings w h s address) (λ r. record { brings = λ e i l. absurd (omega arith) }) h _ _ (λ hart t p on here. copy_brings w h s t address count p k here on)

pub copy_holds : (w : World) (h s address count : ℕ) → Sized w → slot_on w h ≡ Some s → (i : ℕ) → i < length (bytes_in (Steps.step w (step.CopyIn h address count)).reply)
    → held (Steps.step w (step.CopyIn h address count)).world s (address + i) ≡ Some (byte_at (bytes_in (Steps.step w (step.CopyIn h address count)).reply) i)
unfolding Steps.step
copy_holds w h s address count k on = (marks_bring w.policy w h s address (plain_step w (step.CopyIn h address count)) (plain_brings w h s address count k)).brings on
