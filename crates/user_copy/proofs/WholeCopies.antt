-- Lemmas: a kernel copy (copyin, copyout) of at most 256 bytes, run by run, against the process that the space was before
-- the call: it was whole, or stopped at its first address that is denied, dry or not promised, and is the model's copy
-- (`copy_in_is`, `copy_out_is`).
use Rattle.std.proofs.Common.{◌≡◌, ◌≢◌, inl, inr, ◌⊎◌, ℕ, zero, suc, Bool, true, false, ◌&&◌, ◌==◌, ◌+◌, ◌-◌, ◌%◌, ◌<◌, ◌≤◌, refl, ap, ap₂, sym, subst, ◌∙◌, arith, List, [], ◌∷◌, ◌++◌, append_assoc, append-nil, length, take, drop, Option, None, Some, Result, Ok, Err}
use Rattle.std.specs.Prelude.{IfErr, zip}
use Rattle.std.proofs.lemmas.Bool.{and_from, and_left, and_right, cases_Bool, cases_lt, eq-eqb, false≢true, ne_eqb}
use Rattle.std.proofs.lemmas.List.{length-append, length-drop, length-take-le, take-append-drop, take_all, take_at}
use Rattle.std.proofs.lemmas.List.Sums.{fold-append}
use Rattle.std.proofs.lemmas.Option.{same_Some}
use Rattle.address_space.specs.Agreement.{IsAlive, IsSpace}
use Rattle.arrayvec.specs.ArrayVec.{ArrayVec}
use Rattle.fault_rules.specs.MadeResident.{resident_reads}
use Rattle.fault_rules.specs.PageService.{body_at, Moment, StoreModel}
use Rattle.frame_store.specs.Laws.{KeepsSeats}
use Rattle.process_model.specs.Bytes.{numbers_from}
use Rattle.process_model.specs.Copies.{Copied, copied_in, copied_out, copy_begun, next_in, reached_in}
use Rattle.process_model.proofs.CopyRuns.{more_in, more_out, run_in, run_in_stops, run_out, run_out_stops, so_far}
use Rattle.process_model.proofs.CopySplits.{copied_in_split, copied_out_split, numbers_split}
use Rattle.process_model.specs.Environment.{Environment, Progress}
use Rattle.process_model.specs.Files.{File}
use Rattle.process_model.specs.Frames.{resident_need}
use Rattle.process_model.specs.PageMoves.{files_after, PageMove}
use Rattle.process_model.specs.Process.{Process, regions}
use Rattle.process_model.specs.Regions.{copy_rule}
use Rattle.process_model.specs.Residence.{is_resident}
use Rattle.process_model.specs.declared.reply.Refusal.{Refusal}
use Rattle.sv39_entry.specs.Address.{page_of}
use Rattle.sv39_entry.specs.declared.access.Access.{Access}
use Rattle.sv39_entry.specs.declared.access.Access.TheVariants.{Load, Store}
use Rattle.sv39_entry.specs.declared.rule.Rule.{Rule}
use Rattle.sv39_entry.specs.declared.rule.Rule.TheVariants.{NoFrame}
use Rattle.sv39_entry.specs.declared.rule.Rule.TheVariants as rule
use Rattle.table_walk.specs.Tables.{Tables}
use Rattle.user_copy.specs.CopyModel.{asked, copy_environment, copy_progress, environment_with, is_dry_stop, IsModelCopy, model_copy_in, model_copy_out, stop_in}
use Rattle.user_copy.specs.CopyOfProcess.{AreGranted, bytes_in, bytes_out, HasPut, HasSameBytes, process_bytes, RanShort}
use Rattle.user_copy.specs.FirstPageBytes.{is_near}
use Rattle.user_copy.specs.KernelCopies.{count_or, IsKernelCopy, StopsCopy}
use Rattle.user_copy.specs.ReachedPage.{Reaches, StillStands}
use Rattle.user_copy.specs.Runs.{CopiesIn, CopiesOut, IsRead, near, Puts, runs, runs_of, some_bytes, some_run}
use Rattle.user_copy.specs.declared.short.Short.{Short}
use Rattle.user_copy.specs.declared.short.Stop.{Stop}
use Rattle.user_copy.specs.declared.short.Stop.TheVariants.{Denied, Unpromised}
use Rattle.user_copy.proofs.CopySoFar.{begun, put_on, reached_on, read_on, read_page, SoFar, Stands, stops_here, StopsHere}
use Rattle.user_copy.proofs.ProcessBytes.{bytes_same, bytes_split, length_bytes}

-- no bytes were put, so each address is beside them
pub aside : (address x : ℕ) → (x < address) ⊎ (address + 0 ≤ x)
aside address x = elim (cases_lt x address) [
  | inl less ↦ inl less
  | inr past ↦ inr (omega (arith, past))
]

-- runs one after another, each in one page, n bytes behind the address; all but the first begin a page

abbrev RunsFrom : ℕ → ℕ → List (ℕ × ℕ) → Type 0
RunsFrom address n [] = Unit {0}
RunsFrom address n (r ∷ rs) =
    (r.0 ≡ address + n) × (0 < r.1) × ((address + n) % 4096 + r.1 ≤ 4096) × (0 < n → (address + n) % 4096 ≡ 0) × RunsFrom address (n + r.1) rs

abbrev total : List (ℕ × ℕ) → ℕ
total [] = 0
total (r ∷ rs) = r.1 + total rs

abbrev GivenFrom : ℕ → ℕ → List (ℕ × List ℕ) → Type 0
GivenFrom address n [] = Unit {0}
GivenFrom address n (r ∷ rs) =
    (r.0 ≡ address + n) × (0 < length r.1) × ((address + n) % 4096 + length r.1 ≤ 4096) × (0 < n → (address + n) % 4096 ≡ 0) × GivenFrom address (n + length r.1) rs

abbrev all_given : List (ℕ × List ℕ) → List ℕ
all_given [] = []
all_given (r ∷ rs) = r.1 ++ all_given rs

-- the runs of a copy are such runs: h bytes in the first page and m behind it

record AreParts (address h m : ℕ) : Type 0 where
  inside : address % 4096 + h ≤ 4096
  behind : 0 < m → address % 4096 + h ≡ 4096
  some : 0 < m → 0 < h
  few : m ≤ 256

parts : (address n : ℕ) → n ≤ 256 → AreParts address (near address n) (n - near address n)
parts address n small =
    let is = is_near address n in
    let few = is.few in record {
      inside = is.inside;
      behind = λ more. is.behind (omega (arith, more));
      some = λ more. is.some (omega (arith, more));
      few = omega (arith, small);
    }

runs_from : (address h m : ℕ) → AreParts address h m → RunsFrom address 0 (some_run address h ++ some_run (address + h) m)
runs_from address zero zero are = tt
runs_from address zero (suc m) are = let more = are.some (omega arith) in absurd (omega (arith, more))
runs_from address (suc h) zero are = let inside = are.inside in (omega arith, omega arith, omega (arith, inside), λ less. absurd (omega (arith, less)), tt)
runs_from address (suc h) (suc m) are =
    let inside = are.inside in
    let end = are.behind (omega arith) in
    let few = are.few in
    (omega arith, omega arith, omega (arith, inside), (λ less. absurd (omega (arith, less))), (omega arith, omega arith, omega (arith, end, few), (λ less. omega (arith, end)), tt))

runs_total : (address h m : ℕ) → total (some_run address h ++ some_run (address + h) m) ≡ h + m
runs_total address zero zero = refl
runs_total address zero (suc m) = omega arith
runs_total address (suc h) zero = omega arith
runs_total address (suc h) (suc m) = omega arith

given_from : (address here : ℕ) (front back : List ℕ) → here ≡ length front → AreParts address (length front) (length back) → GivenFrom address 0 (some_bytes address front ++ some_bytes (address + here) back)
given_from address here [] [] is are = tt
given_from address here [] (b ∷ back) is are = let more = are.some (omega arith) in absurd (omega (arith, more))
given_from address here (f ∷ front) [] is are = let inside = are.inside in (omega arith, omega arith, omega (arith, inside), (λ less. absurd (omega (arith, less))), tt)
given_from address here (f ∷ front) (b ∷ back) is are =
    let inside = are.inside in
    let end = are.behind (omega arith) in
    let few = are.few in
    (omega arith, omega arith, omega (arith, inside), (λ less. absurd (omega (arith, less))), (omega (arith, is), omega arith, omega (arith, end, few), (λ less. omega (arith, end)), tt))

given_all : (x y : ℕ) (front back : List ℕ) → all_given (some_bytes x front ++ some_bytes y back) ≡ front ++ back
given_all x y [] [] = refl
given_all x y [] (b ∷ back) = append-nil (b ∷ back)
given_all x y (f ∷ front) [] = refl
given_all x y (f ∷ front) (b ∷ back) = ap (λ bs. (f ∷ front) ++ bs) (append-nil (b ∷ back))

-- what stopped a copy, and where the model's runs dry

dry_is : (r : Rule) → is_dry_stop (Some (Denied r)) ≡ true → r ≡ NoFrame
dry_is rule.Misaligned is = absurd (cc)
dry_is rule.BeyondMax is = absurd (cc)
dry_is rule.KernelPage is = absurd (cc)
dry_is rule.GuardPage is = absurd (cc)
dry_is rule.NoRegion is = absurd (cc)
dry_is rule.NoRead is = absurd (cc)
dry_is rule.NoWrite is = absurd (cc)
dry_is rule.NoExec is = absurd (cc)
dry_is rule.NoFrame is = refl

module _ {Seat Frames Cabinet : Type 0} (l : StoreModel Seat Frames Cabinet) (comes : (x y : Cabinet) (ms : List PageMove) → l.becomes x ms y → l.files y ≡ files_after (l.files x) ms)
    (start : Moment Seat Frames Cabinet) (p : Process) (address : ℕ) where
  abbrev files : List File
  files = l.files start.files

  abbrev with_dry : (ℕ → ℕ → Bool) → Environment
  with_dry dry = environment_with files dry

  -- frames do not run short at the pages of the first n bytes
  abbrev IsCalm : ℕ → (ℕ → ℕ → Bool) → Type 0
  IsCalm n dry = (k need : ℕ) → k < n → dry (page_of (address + k)) need ≡ false

  -- a copy of `all` bytes that was stopped by s after n bytes, of which these were put
  pub record Stopped (access : Access) (all n : ℕ) (sent : List ℕ) (s : Stop) (c : Moment Seat Frames Cabinet) (j : Progress) : Type 0 where
    pub fewer : n < all
    pub denied : (r : Rule) → s ≡ Denied r → r ≢ NoFrame → copy_rule p.scheme (regions p) access (address + n) ≡ Some r
    pub dry : s ≡ Denied NoFrame → (copy_rule p.scheme (regions p) access (address + n) ≡ None) × (is_resident p access (page_of (address + n)) ≡ false)
    pub unpromised : (x : Refusal) → s ≡ Unpromised x → (copy_rule p.scheme (regions p) access (address + n) ≡ None) × (0 < length (resident_reads files p (page_of (address + n))))
    pub not_ready : s ≡ Denied NoFrame → is_resident j.process access (page_of (address + n)) ≡ false
    pub halts : (dry : ℕ → ℕ → Bool) (r : Rule) → s ≡ Denied r → (r ≡ NoFrame → (need : ℕ) → dry (page_of (address + n)) need ≡ true) → reached_in (with_dry dry) access j (address + n) ≡ Err r
    pub left : Stands l comes start p access address n sent c
    pub same : left.progress ≡ j
    pub short : s ≡ Denied NoFrame → RanShort (l.view start.space.seat) (l.view c.space.seat) left.progress.process access (page_of (address + n))
    pub free : s ≡ Denied NoFrame → l.alone → l.free c.store < resident_need true left.progress.process access (page_of (address + n))

  stopped : (access : Access) (all n : ℕ) (sent : List ℕ) (a b : Moment Seat Frames Cabinet) (so : SoFar l comes start p access address n sent a) (s : Stop) → n < all → StopsHere l comes start p access address n sent a so b s
      → Stopped access all n sent s b so.progress
  stopped access all n sent a b so s less halt = record {
    fewer = less;
    denied = halt.denied;
    dry = halt.dry;
    unpromised = halt.unpromised;
    not_ready = halt.not_ready;
    halts = halt.halts;
    left = halt.left;
    same = halt.same;
    short = halt.short;
    free = halt.free;
  }

  -- what the model takes from outside, at the stop: no page of the bytes before it runs dry, and its page does if it is for want
  -- of frames

  calm_at : (access : Access) (n : ℕ) (s : Stop) (j : Progress) → ((k : ℕ) → k < n → is_resident j.process access (page_of (address + k)) ≡ true) → (s ≡ Denied NoFrame → is_resident j.process access (page_of (address + n)) ≡ false)
      → IsCalm n (λ page need. is_dry_stop (Some s) && page == page_of (address + n))
  calm_at access n (Unpromised x) j ready not k need less = refl
  calm_at access n (Denied r) j ready not k need less = elim (cases_Bool (is_dry_stop (Some (Denied r)))) [
    | inl is ↦
        let apart : page_of (address + k) ≡ page_of (address + n) → ⊥ = λ same. false≢true (sym (not (ap Denied (dry_is r is))) ∙ ap (is_resident j.process access) (sym same) ∙ ready k less) in
        and_right _ _ (ne_eqb (page_of (address + k)) (page_of (address + n)) apart)
    | inr is ↦ and_left _ _ is
  ]

  dry_at : (n : ℕ) (r : Rule) → r ≡ NoFrame → (need : ℕ) → (is_dry_stop (Some (Denied r)) && page_of (address + n) == page_of (address + n)) ≡ true
  dry_at n r is need = and_from _ _ (ap (λ (x : Rule). is_dry_stop (Some (Denied x))) is) (eq-eqb (page_of (address + n)) (page_of (address + n)) refl)

  -- from the process

  -- a copy of `all` bytes from the process that ended at the moment c, after n bytes
  pub record EndsIn (all n : ℕ) (bytes : List ℕ) (stop : Option Stop) (c : Moment Seat Frames Cabinet) : Type 0 where
    pub bytes_are : bytes ≡ process_bytes files p address n
    pub granted : AreGranted p Load address n
    pub stands : Stands l comes start p Load address n [] c
    pub model : (dry : ℕ → ℕ → Bool) → IsCalm n dry → copied_in (with_dry dry) (copy_progress p) address n ≡ so_far stands.progress bytes None
    pub whole : stop ≡ None → n ≡ all
    pub stops : (s : Stop) → stop ≡ Some s → Stopped Load all n [] s c stands.progress

  abbrev copied_so_far : (ℕ → ℕ → Bool) → ℕ → Copied
  copied_so_far dry n = more_in (with_dry dry) (copy_begun (copy_progress p)) (numbers_from address n)

  module _ (all : ℕ) where
    in_runs : (rs : List (ℕ × ℕ)) (a c : Moment Seat Frames Cabinet) (n : ℕ) (done bytes : List ℕ) (stop : Option Stop) → RunsFrom address n rs → n + total rs ≡ all → n ≡ length done
        → (so : SoFar l comes start p Load address n [] a) → done ≡ process_bytes files p address n → ((dry : ℕ → ℕ → Bool) → IsCalm n dry → copied_so_far dry n ≡ so_far so.progress done None)
        → CopiesIn l rs a c done bytes stop → (k : ℕ) × (k ≡ length bytes) × EndsIn all k bytes stop c
    unfolding copied_in
    in_runs [] a c n done bytes stop from long is_n so are model (at, same, is) =
        subst (λ (x : Moment Seat Frames Cabinet). (k : ℕ) × (k ≡ length bytes) × EndsIn all k bytes stop x) (sym at)
        (subst (λ (xs : List ℕ). (k : ℕ) × (k ≡ length xs) × EndsIn all k xs stop a) (sym same)
        (n, is_n, record { bytes_are = are; granted = so.granted; stands = so.stands; model = model; whole = λ none. omega (arith, long); stops = λ s told. absurd (let both = sym is ∙ told in cc) }))
    in_runs (r ∷ rs) a c n done bytes stop (first, some, fits, edge, from) long is_n so are model (b, Err s, e, (at, same, is)) =
        let halt = stopped Load all n [] a b so s (omega (arith, some, long)) (stops_here l comes start p Load address n [] a so b s (subst (λ x. Reaches l a b Load x (Err s)) first e) edge) in
        subst (λ (x : Moment Seat Frames Cabinet). (k : ℕ) × (k ≡ length bytes) × EndsIn all k bytes stop x) (sym at)
        (subst (λ (xs : List ℕ). (k : ℕ) × (k ≡ length xs) × EndsIn all k xs stop b) (sym same)
        (subst (λ (o : Option Stop). (k : ℕ) × (k ≡ length done) × EndsIn all k done o b) (sym is) (
          n,
          is_n,
          record {
            bytes_are = are;
            granted = so.granted;
            stands = halt.left;
            model = λ dry calm. model dry calm ∙ ap (λ g. so_far g done None) (sym halt.same);
            whole = λ none. absurd (cc);
            stops = λ z told. subst (λ (g : Progress). Stopped Load all n [] z b g) (sym halt.same) (subst (λ (y : Stop). Stopped Load all n [] y b so.progress) (same_Some s z told) halt);
          },
        )))
    in_runs (r ∷ rs) a c n done bytes stop (first, some, fits, edge, from) long is_n so are model (b, Ok tt, e, (d, got, read, rest)) =
        let next = reached_on l comes start p Load address n [] a so b (subst (λ x. Reaches l a b Load x (Ok tt)) first e) r.1 some fits in
        let reads = subst (λ x. IsRead l b d x r.1 got) first read in
        let page = read_page l comes start p Load address (n + r.1) [] b next.so_far d n r.1 got (omega (arith, some)) fits reads in
        let of_p = page.bytes ∙ bytes_same files p next.so_far.progress.process r.1 (address + n) (λ x less. next.so_far.bytes.others x (aside address x)) in
        let long_got = ap length of_p ∙ length_bytes files p (address + n) r.1 in
        let both = length-append done got in
        in_runs rs d c (n + r.1) (done ++ got) bytes stop from (omega (arith, long)) (omega (arith, both, long_got, is_n))
        (read_on l comes start p Load address (n + r.1) [] b next.so_far d (address + n) r.1 got reads)
        (ap₂ (λ xs ys. xs ++ ys) are of_p ∙ sym (bytes_split files p address n r.1))
        (λ dry calm. ap (more_in (with_dry dry) (copy_begun (copy_progress p))) (numbers_split address n r.1)
        ∙ fold-append (λ d at. next_in (with_dry dry) d at d.stop) (copy_begun (copy_progress p)) (numbers_from address n) (numbers_from (address + n) r.1)
        ∙ ap (λ x. more_in (with_dry dry) x (numbers_from (address + n) r.1)) (model dry (λ k need less. calm k need (omega (arith, less))))
        ∙ run_in (with_dry dry) so.progress next.so_far.progress done (address + n) r.1 page.page some fits (next.is dry (λ need. calm n need (omega (arith, some)))) page.there page.whole
        ∙ ap (λ bs. so_far next.so_far.progress (done ++ bs) None) (sym page.is)) rest

    pub ends_in : (t : Tables) → IsSpace (body_at l start) t p → all ≤ 256 → (c : Moment Seat Frames Cabinet) (bytes : List ℕ) (stop : Option Stop) → CopiesIn l (runs address all) start c [] bytes stop → EndsIn all (length bytes) bytes stop c
    ends_in t space small c bytes stop copies =
        let here = near address all in
        let few = (is_near address all).few in
        let long = runs_total address here (all - here) in
        let ends = in_runs (runs address all) start c 0 [] bytes stop (runs_from address here (all - here) (parts address all small)) (omega (arith, few, long)) refl (begun l comes start p Load address t space) refl (λ dry calm. refl) copies in
        subst (λ (k : ℕ). EndsIn all k bytes stop c) ends.1 ends.2

    -- it is the model's copy
    module _ (bytes : List ℕ) (c : Moment Seat Frames Cabinet) where
      abbrev environment : Option Stop → Environment
      environment stop = copy_environment files stop (address + length bytes)

      pub model_in : (stop : Option Stop) → EndsIn all (length bytes) bytes stop c → IsModelCopy (body_at l c) (copied_in (environment stop) (copy_progress p) address (asked all (length bytes) stop)) bytes stop
      unfolding copied_in
      model_in None ends =
          let n : length bytes ≡ all = ends.whole refl in
          let is = ap (copied_in (environment None) (copy_progress p) address) (sym n) ∙ ends.model (λ page need. false) (λ k need less. refl) in
          record { copied = ap (λ (x : Copied). x.bytes) is; stopped = ap (λ (x : Copied). x.stop) is; leaves = (ends.stands.tables, subst (λ (x : Copied). IsSpace (body_at l c) ends.stands.tables x.progress.process) (sym is) ends.stands.space) }
      model_in (Some (Unpromised e)) ends =
          let is = ends.model (λ page need. false) (λ k need less. refl) in
          record { copied = ap (λ (x : Copied). x.bytes) is; stopped = ap (λ (x : Copied). x.stop) is; leaves = (ends.stands.tables, subst (λ (x : Copied). IsSpace (body_at l c) ends.stands.tables x.progress.process) (sym is) ends.stands.space) }
      model_in (Some (Denied r)) ends =
          let halt = ends.stops (Denied r) refl in
          let less = halt.fewer in
          let around = environment (Some (Denied r)) in
          let rest = all - length bytes in
          let whole : all ≡ length bytes + rest = omega (arith, less) in
          let first = ends.model _ (calm_at Load (length bytes) (Denied r) ends.stands.progress ends.stands.after.resident halt.not_ready) in
          let is : copied_in around (copy_progress p) address all ≡ so_far ends.stands.progress bytes (Some r)
          = ap (copied_in around (copy_progress p) address) whole ∙ copied_in_split around (copy_progress p) address (length bytes) rest
          ∙ ap (λ x. more_in around x (numbers_from (address + length bytes) rest)) first
          ∙ run_in_stops around ends.stands.progress bytes (address + length bytes) r rest (omega (arith, less)) (halt.halts _ r refl (dry_at (length bytes) r)) in
          record { copied = ap (λ (x : Copied). x.bytes) is; stopped = ap (λ (x : Copied). x.stop) is; leaves = (ends.stands.tables, subst (λ (x : Copied). IsSpace (body_at l c) ends.stands.tables x.progress.process) (sym is) ends.stands.space) }

  -- why it stopped
  stopped_copy : (access : Access) (all n : ℕ) (sent : List ℕ) (s : Stop) (c : Moment Seat Frames Cabinet) (j : Progress) → Stopped access all n sent s c j → StopsCopy l start c p access address n s
  stopped_copy access all n sent s c j halt = record {
    first = halt.denied;
    dry = halt.dry;
    unpromised = halt.unpromised;
    lacks = λ is. let left = halt.left in (left.tables, left.progress.process, left.space, left.after, halt.short is, halt.free is);
  }

  -- to the process

  abbrev put_so_far : (ℕ → ℕ → Bool) → List ℕ → Copied
  put_so_far dry sent = copied_out (with_dry dry) (copy_progress p) address sent

  -- a copy of these bytes to the process that ended at the moment c, after n bytes
  pub record EndsOut (bytes : List ℕ) (n : ℕ) (stop : Option Stop) (c : Moment Seat Frames Cabinet) : Type 0 where
    pub granted : AreGranted p Store address n
    pub stands : Stands l comes start p Store address n (take n bytes) c
    pub model : (dry : ℕ → ℕ → Bool) → IsCalm n dry → put_so_far dry (take n bytes) ≡ so_far stands.progress (take n bytes) None
    pub whole : stop ≡ None → n ≡ length bytes
    pub stops : (s : Stop) → stop ≡ Some s → Stopped Store (length bytes) n (take n bytes) s c stands.progress

  module _ (bytes : List ℕ) where
    -- what is sent so far are the first n of the bytes
    front_sent : (n : ℕ) (sent rest : List ℕ) → n ≡ length sent → sent ++ rest ≡ bytes → sent ≡ take n bytes
    front_sent n sent rest long is = sym (take_at sent rest n (sym long)) ∙ ap (take n) is

    ended : (n : ℕ) (sent : List ℕ) (stop : Option Stop) (c : Moment Seat Frames Cabinet) → sent ≡ take n bytes → AreGranted p Store address n → (stands : Stands l comes start p Store address n sent c)
        → ((dry : ℕ → ℕ → Bool) → IsCalm n dry → put_so_far dry sent ≡ so_far stands.progress sent None) → (stop ≡ None → n ≡ length bytes) → ((s : Stop) → stop ≡ Some s → Stopped Store (length bytes) n sent s c stands.progress)
        → EndsOut bytes n stop c
    ended n sent stop c front granted stands model whole stops =
        (subst (λ (xs : List ℕ). (stands : Stands l comes start p Store address n xs c) → ((dry : ℕ → ℕ → Bool) → IsCalm n dry → put_so_far dry xs ≡ so_far stands.progress xs None)
        → ((s : Stop) → stop ≡ Some s → Stopped Store (length bytes) n xs s c stands.progress) → EndsOut bytes n stop c) (sym front)
        (λ stands model stops. record { granted = granted; stands = stands; model = model; whole = whole; stops = stops })) stands model stops

    out_runs : (rs : List (ℕ × List ℕ)) (a c : Moment Seat Frames Cabinet) (n : ℕ) (sent : List ℕ) (count : ℕ) (stop : Option Stop) → GivenFrom address n rs → sent ++ all_given rs ≡ bytes → n ≡ length sent
        → (so : SoFar l comes start p Store address n sent a) → ((dry : ℕ → ℕ → Bool) → IsCalm n dry → put_so_far dry sent ≡ so_far so.progress sent None) → CopiesOut l rs a c n count stop → EndsOut bytes count stop c
    unfolding copied_out
    out_runs [] a c n sent count stop from is long so model (at, same, told) =
        let all = length-append sent [] in
        let every = ap length is in
        subst (λ (x : Moment Seat Frames Cabinet). EndsOut bytes count stop x) (sym at)
        (subst (λ (k : ℕ). EndsOut bytes k stop a) (sym same)
        (ended n sent stop a (front_sent n sent [] long is) so.granted so.stands model (λ none. omega (arith, all, every, long)) (λ s is_s. absurd (let both = sym told ∙ is_s in cc))))
    out_runs (r ∷ rs) a c n sent count stop (first, some, fits, edge, from) is long so model (b, Err s, e, (at, same, told)) =
        let rest = length-append r.1 (all_given rs) in
        let all = length-append sent (r.1 ++ all_given rs) in
        let every = ap length is in
        let halt = stopped Store (length bytes) n sent a b so s (omega (arith, some, rest, all, every, long)) (stops_here l comes start p Store address n sent a so b s (subst (λ x. Reaches l a b Store x (Err s)) first e) edge) in
        subst (λ (x : Moment Seat Frames Cabinet). EndsOut bytes count stop x) (sym at)
        (subst (λ (k : ℕ). EndsOut bytes k stop b) (sym same)
        (subst (λ (o : Option Stop). EndsOut bytes n o b) (sym told)
        (ended n sent (Some s) b (front_sent n sent (r.1 ++ all_given rs) long is) so.granted halt.left (λ dry calm. model dry calm ∙ ap (λ g. so_far g sent None) (sym halt.same)) (λ none. absurd (cc))
        (λ z is_z. subst (λ (g : Progress). Stopped Store (length bytes) n sent z b g) (sym halt.same) (subst (λ (y : Stop). Stopped Store (length bytes) n sent y b so.progress) (same_Some s z is_z) halt)))))
    out_runs (r ∷ rs) a c n sent count stop (first, some, fits, edge, from) is long so model (b, Ok tt, e, (d, puts, rest)) =
        let next = reached_on l comes start p Store address n sent a so b (subst (λ x. Reaches l a b Store x (Ok tt)) first e) (length r.1) some fits in
        let put = put_on l comes start p address n sent long r.1 some fits b d next.so_far (subst (λ x. Puts l b d x r.1) first puts) in
        let both = length-append sent r.1 in
        out_runs rs d c (n + length r.1) (sent ++ r.1) count stop from (append_assoc sent r.1 (all_given rs) ∙ is) (omega (arith, both, long)) put.so_far
        (λ dry calm. copied_out_split (with_dry dry) (copy_progress p) address sent r.1
        ∙ ap (λ k. more_out (with_dry dry) (put_so_far dry sent) (zip (numbers_from (address + k) (length r.1)) r.1)) (sym long)
        ∙ ap (λ x. more_out (with_dry dry) x (zip (numbers_from (address + n) (length r.1)) r.1)) (model dry (λ k need less. calm k need (omega (arith, less))))
        ∙ run_out (with_dry dry) so.progress next.so_far.progress sent (address + n) put.page r.1 some fits (next.is dry (λ need. calm n need (omega (arith, some)))) put.there put.whole
        ∙ ap (λ g. so_far g (sent ++ r.1) None) (sym put.is)) rest

    pub ends_out : (t : Tables) → IsSpace (body_at l start) t p → length bytes ≤ 256 → (c : Moment Seat Frames Cabinet) (count : ℕ) (stop : Option Stop) → CopiesOut l (runs_of address bytes) start c 0 count stop → EndsOut bytes count stop c
    unfolding copied_out
    ends_out t space small c count stop copies =
        let here = near address (length bytes) in
        let few = (is_near address (length bytes)).few in
        let front = length-take-le here bytes few in
        let back = length-drop here bytes in
        let are : AreParts address (length (take here bytes)) (length (drop here bytes)) = subst (λ (h : ℕ). AreParts address h (length (drop here bytes))) (sym front)
        (subst (λ (m : ℕ). AreParts address here m) (sym back) (parts address (length bytes) small)) in
        out_runs (runs_of address bytes) start c 0 [] count stop
        (given_from address here (take here bytes) (drop here bytes) (sym front) are) (given_all address (address + here) (take here bytes) (drop here bytes) ∙ take-append-drop here bytes) refl
        (begun l comes start p Store address t space) (λ dry calm. refl) copies

    -- it is the model's copy
    module _ (c : Moment Seat Frames Cabinet) where
      abbrev around : Option Stop → ℕ → Environment
      around stop n = copy_environment files stop (address + n)

      abbrev IsModelOut : ℕ → Option Stop → Type 0
      IsModelOut n stop = IsModelCopy (body_at l c) (copied_out (around stop n) (copy_progress p) address (take (asked (length bytes) n stop) bytes)) (take n bytes) stop

      model_out : (n : ℕ) (stop : Option Stop) → EndsOut bytes n stop c → IsModelOut n stop
      unfolding copied_out
      model_out n None ends =
          let same : n ≡ length bytes = ends.whole refl in
          let is = ap (λ k. copied_out (around None n) (copy_progress p) address (take k bytes)) (sym same) ∙ ends.model (λ page need. false) (λ k need less. refl) in
          record { copied = ap (λ (x : Copied). x.bytes) is; stopped = ap (λ (x : Copied). x.stop) is; leaves = (ends.stands.tables, subst (λ (x : Copied). IsSpace (body_at l c) ends.stands.tables x.progress.process) (sym is) ends.stands.space) }
      model_out n (Some (Unpromised e)) ends =
          let is = ends.model (λ page need. false) (λ k need less. refl) in
          record { copied = ap (λ (x : Copied). x.bytes) is; stopped = ap (λ (x : Copied). x.stop) is; leaves = (ends.stands.tables, subst (λ (x : Copied). IsSpace (body_at l c) ends.stands.tables x.progress.process) (sym is) ends.stands.space) }
      model_out n (Some (Denied r)) ends =
          let halt = ends.stops (Denied r) refl in
          let less = halt.fewer in
          let env = around (Some (Denied r)) n in
          let back = drop n bytes in
          let long = length-take-le n bytes (omega (arith, less)) in
          let rest = length-drop n bytes in
          let whole = take_all (length bytes) bytes (omega arith) ∙ sym (take-append-drop n bytes) in
          let first = ends.model _ (calm_at Store n (Denied r) ends.stands.progress ends.stands.after.resident halt.not_ready) in
          let is : copied_out env (copy_progress p) address (take (length bytes) bytes) ≡ so_far ends.stands.progress (take n bytes) (Some r)
          = ap (copied_out env (copy_progress p) address) whole ∙ copied_out_split env (copy_progress p) address (take n bytes) back
          ∙ ap (λ k. more_out env (copied_out env (copy_progress p) address (take n bytes)) (zip (numbers_from (address + k) (length back)) back)) long
          ∙ ap (λ x. more_out env x (zip (numbers_from (address + n) (length back)) back)) first
          ∙ run_out_stops env ends.stands.progress (take n bytes) (address + n) r back (omega (arith, less, rest)) (halt.halts _ r refl (dry_at n r)) in
          record { copied = ap (λ (x : Copied). x.bytes) is; stopped = ap (λ (x : Copied). x.stop) is; leaves = (ends.stands.tables, subst (λ (x : Copied). IsSpace (body_at l c) ends.stands.tables x.progress.process) (sym is) ends.stands.space) }

    -- the same by the result of the call
    record ResultOut (r : Result (Unit {0}) Short) (c : Moment Seat Frames Cabinet) : Type 0 where
      granted : AreGranted p Store address (length (bytes_out bytes r))
      stands : Stands l comes start p Store address (length (bytes_out bytes r)) (bytes_out bytes r) c
      model : IsModelCopy (body_at l c) (copied_out (copy_environment files (stop_in r) (address + length (bytes_out bytes r))) (copy_progress p) address (take (asked (length bytes) (length (bytes_out bytes r)) (stop_in r)) bytes)) (bytes_out bytes r) (stop_in r)
      stops : IfErr r (λ short. EndsOut bytes short.done (Some short.rule) c)

    result_out : (t : Tables) → IsSpace (body_at l start) t p → length bytes ≤ 256 → (c : Moment Seat Frames Cabinet) (r : Result (Unit {0}) Short)
        → CopiesOut l (runs_of address bytes) start c 0 (count_or (length bytes) r) (stop_in r) → ResultOut r c
    result_out t space small c (Ok u) copied =
        let end = ends_out t space small c (length bytes) None copied in
        let all = take_all (length bytes) bytes (omega arith) in
        let around = copy_environment files None (address + length bytes) in
        record {
          granted = end.granted;
          stands = subst (λ (xs : List ℕ). Stands l comes start p Store address (length bytes) xs c) all end.stands;
          model = subst (λ (xs : List ℕ). IsModelCopy (body_at l c) (copied_out around (copy_progress p) address (take (length bytes) bytes)) xs None) all (model_out c (length bytes) None end);
          stops = tt;
        }
    result_out t space small c (Err short) stopped =
        let end = ends_out t space small c short.done (Some short.rule) stopped in
        let less = (end.stops short.rule refl).fewer in
        let long = length-take-le short.done bytes (omega (arith, less)) in
        record {
          granted = subst (λ (n : ℕ). AreGranted p Store address n) (sym long) end.granted;
          stands = subst (λ (n : ℕ). Stands l comes start p Store address n (take short.done bytes) c) (sym long) end.stands;
          model = subst (λ (n : ℕ). IsModelCopy (body_at l c) (copied_out (copy_environment files (Some short.rule) (address + n)) (copy_progress p) address (take (asked (length bytes) n (Some short.rule)) bytes)) (take short.done bytes) (Some short.rule)) (sym long)
              (model_out c short.done (Some short.rule) end);
          stops = end;
        }

-- the record of a copy by the runs of it, its result and what stays

module _ {Seat Frames Cabinet : Type 0} (l : StoreModel Seat Frames Cabinet) (comes : (x y : Cabinet) (ms : List PageMove) → l.becomes x ms y → l.files y ≡ files_after (l.files x) ms)
    (start c : Moment Seat Frames Cabinet) (address : ℕ) (alive : IsAlive (body_at l start)) (space : StillStands (body_at l start) (body_at l c))
    (keeps : KeepsSeats l.invariant start.store start.space.seat c.store c.space.seat) where
  module _ (n : ℕ) (small : n ≤ 256) where
    abbrev EndIn : Process → Result (ArrayVec ℕ) Short → Type 0
    EndIn p r = EndsIn l comes start p address n (length (bytes_in r)) (bytes_in r) (stop_in r) c

    end_in : (r : Result (ArrayVec ℕ) Short) → CopiesIn l (runs address n) start c [] (bytes_in r) (stop_in r) → (t : Tables) (p : Process) → IsSpace (body_at l start) t p → EndIn p r
    end_in r copied t p is = ends_in l comes start p address n t is small c (bytes_in r) (stop_in r) copied

    pub bytes_in_are : (r : Result (ArrayVec ℕ) Short) → CopiesIn l (runs address n) start c [] (bytes_in r) (stop_in r) → (t : Tables) (p : Process) → IsSpace (body_at l start) t p
        → bytes_in r ≡ process_bytes (l.files start.files) p address (length (bytes_in r))
    bytes_in_are r copied t p is = (end_in r copied t p is).bytes_are

    pub whole_in : (bytes : ArrayVec ℕ) → CopiesIn l (runs address n) start c [] bytes.items None → length bytes.items ≡ n
    whole_in bytes copied = (end_in (Ok bytes) copied alive.0 alive.1 alive.2).whole refl

    stops_in : (p : Process) (r : Result (ArrayVec ℕ) Short) → IfErr r (λ short. short.done ≡ length short.bytes.items) → EndIn p r → IfErr r (λ short. StopsCopy l start c p Load address short.done short.rule)
    stops_in p (Ok bytes) done end = tt
    stops_in p (Err short) done end =
        subst (λ (k : ℕ). StopsCopy l start c p Load address k short.rule) (sym done) (stopped_copy l comes start p address Load n (length short.bytes.items) [] short.rule c end.stands.progress (end.stops short.rule refl))

    fewer_in : (p : Process) (r : Result (ArrayVec ℕ) Short) → IfErr r (λ short. short.done ≡ length short.bytes.items) → EndIn p r → IfErr r (λ short. short.done < n)
    fewer_in p (Ok bytes) done end = tt
    fewer_in p (Err short) done end = let less = (end.stops short.rule refl).fewer in omega (arith, less, done)

    pub copy_in_is : (r : Result (ArrayVec ℕ) Short) → IfErr r (λ short. short.done ≡ length short.bytes.items) → CopiesIn l (runs address n) start c [] (bytes_in r) (stop_in r)
        → IsKernelCopy l start c Load address n (bytes_in r) r (λ p. model_copy_in (l.files start.files) p address n (bytes_in r) (stop_in r)) (HasSameBytes (l.files start.files))
    copy_in_is r done copied =
        let first = end_in r copied alive.0 alive.1 alive.2 in
        record {
          model = λ t p is. model_in l comes start p address n (bytes_in r) c (stop_in r) (end_in r copied t p is);
          granted = λ t p is. (end_in r copied t p is).granted;
          after = λ t p is. let s = (end_in r copied t p is).stands in (s.tables, s.progress.process, s.space, s.after, λ x. s.bytes.others x (aside address x));
          stops = λ t p is. stops_in p r done (end_in r copied t p is);
          fewer = fewer_in alive.1 r done first;
          same_files = first.stands.same_files;
          space = space;
          keeps = keeps;
        }

  module _ (bytes : List ℕ) (small : length bytes ≤ 256) where
    abbrev EndOut : Process → Result (Unit {0}) Short → Type 0
    EndOut p r = ResultOut l comes start p address bytes r c

    stops_out : (p : Process) (r : Result (Unit {0}) Short) → EndOut p r → IfErr r (λ short. StopsCopy l start c p Store address short.done short.rule)
    stops_out p (Ok u) end = tt
    stops_out p (Err short) end =
        let halts = end.stops in
        stopped_copy l comes start p address Store (length bytes) short.done (take short.done bytes) short.rule c halts.stands.progress (halts.stops short.rule refl)

    fewer_out : (p : Process) (r : Result (Unit {0}) Short) → EndOut p r → IfErr r (λ short. short.done < length bytes)
    fewer_out p (Ok u) end = tt
    fewer_out p (Err short) end = let halts = end.stops in (halts.stops short.rule refl).fewer

    pub copy_out_is : (r : Result (Unit {0}) Short) → CopiesOut l (runs_of address bytes) start c 0 (count_or (length bytes) r) (stop_in r)
        → IsKernelCopy l start c Store address (length bytes) (bytes_out bytes r) r (λ p. model_copy_out (l.files start.files) p address bytes (bytes_out bytes r) (stop_in r))
        (HasPut (l.files start.files) address (bytes_out bytes r))
    copy_out_is r copied =
        let end = λ (t : Tables) (p : Process) (is : IsSpace (body_at l start) t p). result_out l comes start p address bytes t is small c r copied in
        let first = end alive.0 alive.1 alive.2 in
        record {
          model = λ t p is. (end t p is).model;
          granted = λ t p is. (end t p is).granted;
          after = λ t p is. let s = (end t p is).stands in (s.tables, s.progress.process, s.space, s.after, s.bytes);
          stops = λ t p is. stops_out p r (end t p is);
          fewer = fewer_out alive.1 r first;
          same_files = first.stands.same_files;
          space = space;
          keeps = keeps;
        }
