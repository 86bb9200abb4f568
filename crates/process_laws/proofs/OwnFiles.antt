-- Lemma: what a process's own step changes in files is write-back by munmap, exec or its end: each byte that changes becomes
-- one that the process had at that place on a page with the dirty mark (D) of a writable shared mapping (`Written`).
use Rattle.std.proofs.Common.{◌≡◌, ℕ, Bool, true, false, ◌+◌, refl, sym, ap, subst, ◌∙◌, List, Option, None, Some, ◌<◌, ◌≤◌, arith}
use Rattle.std.specs.Prelude.{nat_le, nat_lt, Result, Ok, Err}
use Rattle.std.proofs.lemmas.Bool.{and_parts, leb-true, ltb-true}
use Rattle.std.proofs.lemmas.Bool.Decides.{nat_tests}
use Rattle.std.proofs.lemmas.Option.{same_Some}
use Rattle.process_laws.proofs.FilesWritten.{end_written, end_wrote, none_written, unmap_written, unmap_wrote}
use Rattle.process_laws.proofs.Granting.{IsSound}
use Rattle.process_laws.proofs.Kept.{step_keeps}
use Rattle.process_laws.proofs.OnHarts.{kernel_good}
use Rattle.process_laws.proofs.PageBytes.{AllSized}
use Rattle.process_laws.proofs.Running.{step_reply}
use Rattle.process_laws.specs.Words.{is_page_written_back, is_end, IsOnHart, IsWritten, hart_of_step, writes_back, Written}
use Rattle.process_model.specs.Bytes.{pages_for}
use Rattle.process_model.specs.Calls.{replaced, replaced_unless, unmapped_to}
use Rattle.process_model.specs.Images.{image_loads, LoadSegment}
use Rattle.process_model.specs.Mappings.{mapping_around, unmapped, unmapped_if, unmapped_in, unmapped_unless}
use Rattle.process_model.specs.Process.{Process}
use Rattle.process_model.specs.Regions.{Region}
use Rattle.process_model.specs.Steps.{plain_step, step}
use Rattle.process_model.specs.World.{StepOutcome, refuses, World}
use Rattle.process_model.specs.declared.image.BadImage.{BadImage}
use Rattle.process_model.specs.declared.image.Image.{Image}
use Rattle.process_model.specs.declared.reply.Refusal.{Refusal}
use Rattle.process_model.specs.declared.step.Step.{Step}
use Rattle.process_model.specs.declared.step.Step.TheVariants as step_of
use Rattle.sv39_entry.specs.Address.{page_of}
use Rattle.process_laws.proofs.OwnSteps.{Own, owns, same_process, step_files}

module _ (w : World) (h s : ℕ) (p : Process) (on : IsOnHart w h s p) (sound : IsSound p) (sized : AllSized p.settled) where
  abbrev Good : Step → StepOutcome → Type 0
  Good x o = Written x p w.files (o.world).files

  as_it_was : (x : Step) (r : Refusal) → Good x (refuses w r)
  as_it_was x r = none_written x p w.files

  -- munmap

  module _ (address len : ℕ) where
    abbrev munmap : Step
    munmap = step_of.Munmap h address len

    abbrev from : ℕ
    from = page_of address

    abbrev stop : ℕ
    stop = from + pages_for len

    in_range : (page : ℕ) → from ≤ page → page < stop → is_page_written_back munmap page ≡ true
    in_range page start before = grind (arith, nat_tests, start, before)

    hole_files : (t : ℕ) (m : Region) (b : Bool) → mapping_around p.mappings from stop ≡ Some m → Good munmap (unmapped_to w t (unmapped_unless w.files p m from stop b))
    hole_files t m true at = none_written munmap p w.files
    hole_files t m false at = unmap_written munmap p sized sound.ordered m from stop in_range w.files at

    range_files : (t : ℕ) (o : Option Region) → mapping_around p.mappings from stop ≡ o → Good munmap (unmapped_to w t (unmapped_in w.files p from stop o))
    range_files t None at = none_written munmap p w.files
    range_files t (Some m) at = hole_files t m _ at

    if_files : (t : ℕ) (b : Bool) → Good munmap (unmapped_to w t (unmapped_if w.files p from stop b))
    if_files t false = none_written munmap p w.files
    if_files t true = range_files t _ refl

    munmap_files : (t : ℕ) → Good munmap (unmapped_to w t (unmapped w.files p address len))
    unfolding unmapped
    munmap_files t = if_files t _

    unmaps : Good munmap (plain_step w munmap)
    unmaps = kernel_good w (Good munmap) (as_it_was munmap) h true _ (λ hart t q at here. subst (λ (z : Process). Good munmap (unmapped_to w t (unmapped w.files z address len))) (same_process w h s p on t q at here) (munmap_files t))

  -- exec

  module _ (image : Image) where
    abbrev exec : Step
    exec = step_of.Exec h image

    replace_files : (t : ℕ) (ls : List LoadSegment) (b : Bool) → Good exec (replaced_unless w t p ls b)
    replace_files t ls true = none_written exec p w.files
    replace_files t ls false = end_written exec p sized sound.ordered (λ page. refl) w.files

    exec_files : (t : ℕ) (r : Result (List LoadSegment) BadImage) → Good exec (replaced w t p r)
    exec_files t (Err e) = none_written exec p w.files
    exec_files t (Ok ls) = replace_files t ls _

    execs : Good exec (plain_step w exec)
    execs = kernel_good w (Good exec) (as_it_was exec) h true _ (λ hart t q at here. subst (λ (z : Process). Good exec (replaced w t z (image_loads w.scheme image))) (same_process w h s p on t q at here) (exec_files t (image_loads w.scheme image)))

  -- all that has to be written is

  abbrev All : Step → StepOutcome → Type 0
  All x o = writes_back x o.reply ≡ true → IsWritten x p w.files (o.world).files

  module _ (address len : ℕ) where
    only_range : (page : ℕ) → is_page_written_back (munmap address len) page ≡ true → (from address len ≤ page) × (page < stop address len)
    only_range page e = let t = and_parts (nat_le (from address len) page) (nat_lt page (stop address len)) e in (leb-true (from address len) page t.0, ltb-true page (stop address len) t.1)

    hole_all : (t : ℕ) (m : Region) (b : Bool) → mapping_around p.mappings (from address len) (stop address len) ≡ Some m → All (munmap address len) (unmapped_to w t (unmapped_unless w.files p m (from address len) (stop address len) b))
    hole_all t m true at = λ none. absurd cc
    hole_all t m false at = λ is. unmap_wrote (munmap address len) p sized sound.ordered m (from address len) (stop address len) (in_range address len) only_range w.files at

    range_all : (t : ℕ) (o : Option Region) → mapping_around p.mappings (from address len) (stop address len) ≡ o → All (munmap address len) (unmapped_to w t (unmapped_in w.files p (from address len) (stop address len) o))
    range_all t None at = λ none. absurd cc
    range_all t (Some m) at = hole_all t m _ at

    if_all : (t : ℕ) (b : Bool) → All (munmap address len) (unmapped_to w t (unmapped_if w.files p (from address len) (stop address len) b))
    if_all t false = λ none. absurd cc
    if_all t true = range_all t _ refl

    munmap_all : (t : ℕ) → All (munmap address len) (unmapped_to w t (unmapped w.files p address len))
    unfolding unmapped
    munmap_all t = if_all t _

    unmaps_all : All (munmap address len) (plain_step w (munmap address len))
    unmaps_all = kernel_good w (All (munmap address len)) (λ r none. absurd cc) h true _ (λ hart t q at here. subst (λ (z : Process). All (munmap address len) (unmapped_to w t (unmapped w.files z address len))) (same_process w h s p on t q at here) (munmap_all t))

  module _ (image : Image) where
    replace_all : (t : ℕ) (ls : List LoadSegment) (b : Bool) → All (exec image) (replaced_unless w t p ls b)
    replace_all t ls true = λ none. absurd cc
    replace_all t ls false = λ is. end_wrote (exec image) p sized sound.ordered (λ page. refl) w.files

    exec_all : (t : ℕ) (r : Result (List LoadSegment) BadImage) → All (exec image) (replaced w t p r)
    exec_all t (Err e) = λ none. absurd cc
    exec_all t (Ok ls) = replace_all t ls _

    execs_all : All (exec image) (plain_step w (exec image))
    execs_all = kernel_good w (All (exec image)) (λ r none. absurd cc) h true _ (λ hart t q at here. subst (λ (z : Process). All (exec image) (replaced w t z (image_loads w.scheme image))) (same_process w h s p on t q at here) (exec_all t (image_loads w.scheme image)))

  all_step : (x : Step) → All x (plain_step w x) → All x (step w x)
  all_step x f is = subst (IsWritten x p w.files) (sym (step_files w x)) (f (ap (writes_back x) (sym (step_reply w x)) ∙ is))

  end_all : (x : Step) → ((page : ℕ) → is_page_written_back x page ≡ true) → is_end (step w x).reply ≡ true → Own w h s x p (step w x) → IsWritten x p w.files ((step w x).world).files
  end_all x all is (Own.alive q there lives k) = absurd (let no : true ≡ false = sym is ∙ lives in cc)
  end_all x all is (Own.gone there e at written) = subst (IsWritten x p w.files) (sym written) (end_wrote x p sized sound.ordered all w.files)

  pub own_written : (x : Step) → hart_of_step x ≡ Some h → writes_back x (step w x).reply ≡ true → IsWritten x p w.files ((step w x).world).files
  own_written (step_of.Munmap k address len) e = subst (λ n. All (step_of.Munmap n address len) (step w (step_of.Munmap n address len))) (sym (same_Some k h e)) (all_step (step_of.Munmap h address len) (unmaps_all address len))
  own_written (step_of.Exec k image) e = subst (λ n. All (step_of.Exec n image) (step w (step_of.Exec n image))) (sym (same_Some k h e)) (all_step (step_of.Exec h image) (execs_all image))
  own_written x e = λ is. end_all x (λ page. refl) is (owns w h s p on sound x e)

  to_step : (x : Step) → Good x (plain_step w x) → Good x (step w x)
  to_step x = subst (Written x p w.files) (sym (step_files w x))

  -- an end writes all back, and any other step what it says
  files_by : (x : Step) → ((page : ℕ) → is_page_written_back x page ≡ true) → (is_end (step w x).reply ≡ false → Good x (step w x)) → Own w h s x p (step w x) → Good x (step w x)
  files_by x all calm (Own.alive q there lives k) = calm lives
  files_by x all calm (Own.gone there is at written) = subst (Written x p w.files) (sym written) (end_written x p sized sound.ordered all w.files)

  pub own_files : (x : Step) → hart_of_step x ≡ Some h → Written x p w.files ((step w x).world).files
  own_files (step_of.Munmap k address len) e = subst (λ n. Good (step_of.Munmap n address len) (step w (step_of.Munmap n address len))) (sym (same_Some k h e)) (to_step (step_of.Munmap h address len) (unmaps address len))
  own_files (step_of.Exec k image) e = files_by (step_of.Exec k image) (λ page. refl)
      (λ lives. subst (λ n. Good (step_of.Exec n image) (step w (step_of.Exec n image))) (sym (same_Some k h e)) (to_step (step_of.Exec h image) (execs image)))
      (owns w h s p on sound (step_of.Exec k image) e)
  own_files x e = files_by x (λ page. refl) (λ lives. subst (Written x p w.files) (sym ((step_keeps w x).files lives)) (none_written x p w.files)) (owns w h s p on sound x e)
