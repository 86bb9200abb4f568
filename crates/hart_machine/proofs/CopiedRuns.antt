-- Lemmas for kernel copies, by runs of bytes, each within one page: the model's copy is one run after another (`as_runs_in`,
-- `as_runs_out`), and when all runs were made the machine is in the model's world (state), copied or stopped by a rule.
use Rattle.std.proofs.Common.{◌≡◌, inl, inr, ℕ, zero, suc, ◌+◌, ◌-◌, ◌%◌, ◌<◌, ◌≤◌, Option, None, Some, Ok, Err, List, [], ◌∷◌, ◌++◌, drop, length, option_map, take, refl, ap, sym, subst, ◌∙◌, arith}
use Rattle.std.specs.Prelude.{zip}
use Rattle.std.proofs.lemmas.Bool.{cases_lt}
use Rattle.std.proofs.lemmas.List.{length-append, length-drop, length-take-le, take-append-drop}
use Rattle.fault_rules.specs.PageService.{Moment}
use Rattle.frame_store.specs.Plain.{PlainState}
use Rattle.frame_store.specs.View.{View}
use Rattle.process_model.specs.Environment.{Environment, Progress}
use Rattle.process_model.specs.Bytes.{numbers_from}
use Rattle.process_model.specs.Copies.{Copied, copied_in, copied_out, copy_begun}
use Rattle.process_model.proofs.CopyRuns.{more_in, more_out, run_in, run_in_stops, run_out, run_out_stops, so_far, stopped_in, stopped_out}
use Rattle.process_model.proofs.CopySplits.{copied_in_split, copied_out_split}
use Rattle.process_model.specs.Files.{File}
use Rattle.process_model.proofs.ResidenceLaws.{granted_again, reached_serves}
use Rattle.process_model.specs.Service.{environment_of}
use Rattle.process_model.specs.World.{World}
use Rattle.process_model.specs.declared.reply.Refusal.{Refusal}
use Rattle.sv39_entry.specs.Address.{page_of}
use Rattle.sv39_entry.specs.declared.access.Access.TheVariants.{Load, Store}
use Rattle.sv39_entry.specs.declared.rule.Rule.{Rule}
use Rattle.user_copy.specs.FirstPageBytes.{is_near}
use Rattle.user_copy.specs.Runs.{CopiesIn, CopiesOut, IsRead, near, runs, runs_of, some_bytes, some_run}
use Rattle.user_copy.specs.declared.short.Stop.TheVariants.{Denied, Unpromised}
use Rattle.hart_machine.specs.Calls.{IsCaller}
use Rattle.hart_machine.specs.CopyEffect.{plain_store}
use Rattle.hart_machine.specs.Worlds.{IsWorldButBuffers}
use Rattle.hart_machine.specs.declared.machine.Machine.{Machine}
use Rattle.hart_machine.proofs.CopiedWorlds.{IsCopied, IsUnderWay, puts, reaches, stops, slot_process}

-- the model's copy, run by run

abbrev pub runs_in : Environment → Copied → List (ℕ × ℕ) → Copied
runs_in a c [] = c
runs_in a c (r ∷ rs) = runs_in a (more_in a c (numbers_from r.0 r.1)) rs

both_in : (a : Environment) (c : Copied) (rs ss : List (ℕ × ℕ)) → runs_in a c (rs ++ ss) ≡ runs_in a (runs_in a c rs) ss
both_in a c [] ss = refl
both_in a c (r ∷ rs) ss = both_in a (more_in a c (numbers_from r.0 r.1)) rs ss

one_in : (a : Environment) (c : Copied) (address n : ℕ) → more_in a c (numbers_from address n) ≡ runs_in a c (some_run address n)
one_in a c address zero = refl
one_in a c address (suc n) = refl

pub as_runs_in : (a : Environment) (g : Progress) (address n : ℕ) → copied_in a g address n ≡ runs_in a (copy_begun g) (runs address n)
as_runs_in a g address n =
    let here = near address n in
    let few = (is_near address n).few in
    let whole : n ≡ here + (n - here) = omega (arith, few) in
    ap (copied_in a g address) whole ∙ copied_in_split a g address here (n - here)
    ∙ ap (λ (c : Copied). more_in a c (numbers_from (address + here) (n - here))) (one_in a (copy_begun g) address here)
    ∙ one_in a (runs_in a (copy_begun g) (some_run address here)) (address + here) (n - here)
    ∙ sym (both_in a (copy_begun g) (some_run address here) (some_run (address + here) (n - here)))

rest_stopped_in : (a : Environment) (r : Rule) (g : Progress) (bytes : List ℕ) (rs : List (ℕ × ℕ)) → runs_in a (so_far g bytes (Some r)) rs ≡ so_far g bytes (Some r)
rest_stopped_in a r g bytes [] = refl
rest_stopped_in a r g bytes (x ∷ rs) = ap (λ (c : Copied). runs_in a c rs) (stopped_in a r g bytes (numbers_from x.0 x.1)) ∙ rest_stopped_in a r g bytes rs

-- each run lies in a page
abbrev pub IsRun : ℕ × ℕ → Type 0
IsRun r = (0 < r.1) × (r.0 % 4096 + r.1 ≤ 4096)

abbrev pub AreRuns : List (ℕ × ℕ) → Type 0
AreRuns [] = Unit {0}
AreRuns (r ∷ rs) = IsRun r × AreRuns rs

some_is : (address n : ℕ) → address % 4096 + n ≤ 4096 → AreRuns (some_run address n)
some_is address zero inside = tt
some_is address (suc n) inside = ((omega arith, inside), tt)

both_are : (rs ss : List (ℕ × ℕ)) → AreRuns rs → AreRuns ss → AreRuns (rs ++ ss)
both_are [] ss first second = second
both_are (r ∷ rs) ss first second = (first.0, both_are rs ss first.1 second)

-- what is behind the first page begins another one
behind_fits : (address n here : ℕ) → (here < n → address % 4096 + here ≡ 4096) → n ≤ 256 → (address + here) % 4096 + (n - here) ≤ 4096
behind_fits address n here behind small = elim (cases_lt here n) [
  | inl less ↦ let end = behind less in omega (arith, end, small)
  | inr most ↦ omega (arith, most)
]

pub are_runs : (address n : ℕ) → n ≤ 256 → AreRuns (runs address n)
are_runs address n small =
    let inside = (is_near address n).inside in
    let behind = (is_near address n).behind in
    both_are _ _ (some_is address (near address n) inside) (some_is (address + near address n) (n - near address n) (behind_fits address n (near address n) behind small))

-- the same of bytes that are given

abbrev pub runs_out : Environment → Copied → List (ℕ × List ℕ) → Copied
runs_out a c [] = c
runs_out a c (r ∷ rs) = runs_out a (more_out a c (zip (numbers_from r.0 (length r.1)) r.1)) rs

both_out : (a : Environment) (c : Copied) (rs ss : List (ℕ × List ℕ)) → runs_out a c (rs ++ ss) ≡ runs_out a (runs_out a c rs) ss
both_out a c [] ss = refl
both_out a c (r ∷ rs) ss = both_out a (more_out a c (zip (numbers_from r.0 (length r.1)) r.1)) rs ss

one_out : (a : Environment) (c : Copied) (address : ℕ) (bytes : List ℕ) → more_out a c (zip (numbers_from address (length bytes)) bytes) ≡ runs_out a c (some_bytes address bytes)
one_out a c address [] = refl
one_out a c address (b ∷ bytes) = refl

pub as_runs_out : (a : Environment) (g : Progress) (address : ℕ) (bytes : List ℕ) → copied_out a g address bytes ≡ runs_out a (copy_begun g) (runs_of address bytes)
as_runs_out a g address bytes =
    let here = near address (length bytes) in
    let few = (is_near address (length bytes)).few in
    let front = take here bytes in
    let back = drop here bytes in
    let long : length front ≡ here = length-take-le here bytes few in
    ap (copied_out a g address) (sym (take-append-drop here bytes)) ∙ copied_out_split a g address front back
    ∙ ap (λ (n : ℕ). more_out a (more_out a (copy_begun g) (zip (numbers_from address (length front)) front)) (zip (numbers_from (address + n) (length back)) back)) long
    ∙ ap (λ (c : Copied). more_out a c (zip (numbers_from (address + here) (length back)) back)) (one_out a (copy_begun g) address front)
    ∙ one_out a (runs_out a (copy_begun g) (some_bytes address front)) (address + here) back
    ∙ sym (both_out a (copy_begun g) (some_bytes address front) (some_bytes (address + here) back))

rest_stopped_out : (a : Environment) (r : Rule) (g : Progress) (bytes : List ℕ) (rs : List (ℕ × List ℕ)) → runs_out a (so_far g bytes (Some r)) rs ≡ so_far g bytes (Some r)
rest_stopped_out a r g bytes [] = refl
rest_stopped_out a r g bytes (x ∷ rs) =
    ap (λ (c : Copied). runs_out a c rs) (stopped_out a r g bytes (zip (numbers_from x.0 (length x.1)) x.1)) ∙ rest_stopped_out a r g bytes rs

abbrev pub AreGiven : List (ℕ × List ℕ) → Type 0
AreGiven [] = Unit {0}
AreGiven (r ∷ rs) = (0 < length r.1) × (r.0 % 4096 + length r.1 ≤ 4096) × AreGiven rs

some_given : (address : ℕ) (bytes : List ℕ) → address % 4096 + length bytes ≤ 4096 → AreGiven (some_bytes address bytes)
some_given address [] inside = tt
some_given address (b ∷ bytes) inside = (omega arith, inside, tt)

both_given : (rs ss : List (ℕ × List ℕ)) → AreGiven rs → AreGiven ss → AreGiven (rs ++ ss)
both_given [] ss first second = second
both_given (r ∷ rs) ss (some, inside, first) second = (some, inside, both_given rs ss first second)

pub are_given : (address : ℕ) (bytes : List ℕ) → length bytes ≤ 256 → AreGiven (runs_of address bytes)
are_given address bytes small =
    let here = near address (length bytes) in
    let is = is_near address (length bytes) in
    both_given _ _ (some_given address (take here bytes) (rw (length-take-le here bytes is.few) is.inside))
    (some_given (address + here) (drop here bytes) (rw (length-drop here bytes) (behind_fits address (length bytes) here is.behind small)))

option_none : (o : Option Rule) → ◌≡◌ (option_map Denied o) None → o ≡ None
option_none None is = refl
option_none (Some r) is = absurd (cc)

option_some : (o : Option Rule) (r : Rule) → ◌≡◌ (option_map Denied o) (Some (Denied r)) → o ≡ Some r
option_some None r is = absurd (cc)
option_some (Some q) r is = cc

-- files in memory promise all that is asked

pub never_in : (rs : List (ℕ × ℕ)) (a c : Moment View PlainState (List File)) (done bytes : List ℕ) (e : Refusal) → CopiesIn plain_store rs a c done bytes (Some (Unpromised e)) → ⊥
never_in [] a c done bytes e (at, same, none) = cc
never_in (r ∷ rs) a c done bytes e (b, Ok tt, reached, (d, got, read, rest)) = never_in rs d c (done ++ got) bytes e rest
never_in (r ∷ rs) a c done bytes e (b, Err (Denied rule), reached, (at, same, told)) = cc
never_in (r ∷ rs) a c done bytes e (b, Err (Unpromised x), reached, stopped) = (reached.unpromised x refl).1

pub never_out : (rs : List (ℕ × List ℕ)) (a c : Moment View PlainState (List File)) (done count : ℕ) (e : Refusal) → CopiesOut plain_store rs a c done count (Some (Unpromised e)) → ⊥
never_out [] a c done count e (at, same, none) = cc
never_out (r ∷ rs) a c done count e (b, Ok tt, reached, (d, put, rest)) = never_out rs d c (done + length r.1) count e rest
never_out (r ∷ rs) a c done count e (b, Err (Denied rule), reached, (at, same, told)) = cc
never_out (r ∷ rs) a c done count e (b, Err (Unpromised x), reached, stopped) = (reached.unpromised x refl).1

module _ (m : Machine) (w : World) (is : IsWorldButBuffers m w) (h s : ℕ) (k : IsCaller m w h s) where
  abbrev Spot : Type 0
  Spot = Moment View PlainState (List File)

  -- reading changes nothing
  same_spot : (a d : Spot) (address n : ℕ) (got : List ℕ) → IsRead plain_store a d address n got → a ≡ d
  same_spot a d address n got read = λ i. record {
    space = record { seat = (sym read.view) i; root = (sym read.root) i; trapframe = (sym read.trapframe) i; layout = (sym read.layout) i };
    store = (sym read.store) i;
    files = (sym read.files) i;
  }

  pub runs_end_in : (rs : List (ℕ × ℕ)) → AreRuns rs → (a : Spot) (g : Progress) → IsUnderWay m w is h s k a g → (c : Spot) (done bytes : List ℕ) (stop : Option Rule)
      → CopiesIn plain_store rs a c done bytes (option_map Denied stop)
      → (j : Progress) × (runs_in (environment_of w s) (so_far g done None) rs ≡ so_far j bytes stop) × IsCopied m w is h s k c j
  runs_end_in [] are a g u c done bytes stop (at, same, none) =
      let never = option_none stop none in
      (g, ap (λ (bs : List ℕ). so_far g bs None) (sym same) ∙ ap (so_far g bytes) (sym never), subst (λ (x : Spot). IsCopied m w is h s k x g) (sym at) (record { world = u.world; old = u.old }))
  runs_end_in (r ∷ rs) are a g u c done bytes stop (b, Ok tt, e, (d, got, read, rest)) =
      let to = reaches m w is h s k a g u b Load r.0 e in
      let j = to.0 in
      let serves = reached_serves (environment_of w s) Load g j r.0 to.1 in
      let page = serves.settled in
      let own = slot_process m w is h s k b j to.2 in
      let shown = own.agrees.stands.shows.settled (page_of r.0) page.0 page.1 in
      let read_is = read.bytes (to.2.world.tables s) j.process page.0 (record { agrees = own.agrees; settled = page.1 }) in
      let run = run_in (environment_of w s) g j done r.0 r.1 page.0 (are.0).0 (are.0).1 to.1 page.1 (shown.bytes).length in
      let last = runs_end_in rs are.1 d j (subst (λ (x : Spot). IsUnderWay m w is h s k x j) (same_spot b d r.0 r.1 got read) to.2) c (done ++ got) bytes stop rest in (
        last.0,
        ap (λ (x : Copied). runs_in (environment_of w s) x rs) (run ∙ ap (λ (bs : List ℕ). so_far j (done ++ bs) None) (sym read_is)) ∙ last.1,
        last.2,
      )
  runs_end_in (r ∷ rs) are a g u c done bytes stop (b, Err (Denied rule), e, (at, same, some)) =
      let told = option_some stop rule some in
      let halt = stops m w is h s k a g u b Load r.0 rule e in (
        g,
        ap (λ (x : Copied). runs_in (environment_of w s) x rs) (run_in_stops (environment_of w s) g done r.0 rule r.1 (are.0).0 halt.0) ∙ rest_stopped_in (environment_of w s) rule g done rs
            ∙ ap (λ (bs : List ℕ). so_far g bs (Some rule)) (sym same) ∙ ap (so_far g bytes) (sym told),
        subst (λ (x : Spot). IsCopied m w is h s k x g) (sym at) halt.1,
      )
  runs_end_in (r ∷ rs) are a g u c done bytes stop (b, Err (Unpromised refusal), e, stopped) = absurd ((e.unpromised refusal refl).1)

  pub runs_end_out : (rs : List (ℕ × List ℕ)) → AreGiven rs → (a : Spot) (g : Progress) → IsUnderWay m w is h s k a g → (c : Spot) (done : List ℕ) (count : ℕ) (stop : Option Rule)
      → CopiesOut plain_store rs a c (length done) count (option_map Denied stop)
      → (j : Progress) × (sent : List ℕ) × (runs_out (environment_of w s) (so_far g done None) rs ≡ so_far j sent stop) × (length sent ≡ count) × IsCopied m w is h s k c j
  runs_end_out [] are a g u c done count stop (at, same, none) =
      let never = option_none stop none in
      (g, done, ap (so_far g done) (sym never), sym same, subst (λ (x : Spot). IsCopied m w is h s k x g) (sym at) (record { world = u.world; old = u.old }))
  runs_end_out (r ∷ rs) (some, inside, are) a g u c done count stop (b, Ok tt, e, (d, put, rest)) =
      let to = reaches m w is h s k a g u b Store r.0 e in
      let j = to.0 in
      let serves = reached_serves (environment_of w s) Store g j r.0 to.1 in
      let page = serves.settled in
      let own = slot_process m w is h s k b j to.2 in
      let shown = own.agrees.stands.shows.settled (page_of r.0) page.0 page.1 in
      let run = run_out (environment_of w s) g j done r.0 page.0 r.1 some inside to.1 page.1 (shown.bytes).length in
      let still = puts m w is h s k b j to.2 d r.0 r.1 page.0 page.1 serves.resident (granted_again (environment_of w s) Store g j r.0 r.0 to.1 refl) put in
      let last = runs_end_out rs are d _ still c (done ++ r.1) count stop (subst (λ (n : ℕ). CopiesOut plain_store rs d c n count (option_map Denied stop)) (sym (length-append done r.1)) rest) in
      (last.0, last.1, ap (λ (x : Copied). runs_out (environment_of w s) x rs) run ∙ last.2, last.3, last.4)
  runs_end_out (r ∷ rs) (some, inside, are) a g u c done count stop (b, Err (Denied rule), e, (at, same, told)) =
      let is_stop = option_some stop rule told in
      let halt = stops m w is h s k a g u b Store r.0 rule e in (
        g,
        done,
        ap (λ (x : Copied). runs_out (environment_of w s) x rs) (run_out_stops (environment_of w s) g done r.0 rule r.1 some halt.0) ∙ rest_stopped_out (environment_of w s) rule g done rs ∙ ap (so_far g done) (sym is_stop),
        sym same,
        subst (λ (x : Spot). IsCopied m w is h s k x g) (sym at) halt.1,
      )
  runs_end_out (r ∷ rs) are a g u c done count stop (b, Err (Unpromised refusal), e, stopped) = absurd ((e.unpromised refusal refl).1)
