-- Lemma: a copy of at most 256 bytes to a process (CopyOut), over any store and any files, ends as the model's copy does
-- (`ends_out`): whole, stopped by a rule, or stopped by a refused promise (reservation of file reads).
use Rattle.std.proofs.Common.{◌≡◌, ℕ, ◌+◌, ◌<◌, ◌≤◌, ◌%◌, Bool, false, Option, None, Some, Ok, Err, List, [], ◌∷◌, ◌++◌, length, map, take, drop, refl, ap, ap₂, sym, subst, ◌∙◌, arith}
use Rattle.std.specs.Prelude.{if◌then◌else◌, zip}
use Rattle.std.proofs.lemmas.Bool.{le-ltb}
use Rattle.std.proofs.lemmas.List.{length-append, length-drop, length-take-le, take-append-drop}
use Rattle.address_space.specs.Agreement.{IsSpace}
use Rattle.fault_rules.specs.PageService.{body_at, Moment, StoreModel}
use Rattle.fault_rules.specs.Serves.{served_moves}
use Rattle.hart_calls.specs.CallResults.{at_stop}
use Rattle.hart_calls.specs.CallOutcomes.{reads_below}
use Rattle.hart_calls.specs.Shortages.{initial_progress, is_dry_at, nothing, call_environment, Shortage}
use Rattle.hart_calls.proofs.Copied.{Under}
use Rattle.hart_calls.proofs.CopiedEnds.{begun_under, both_whole, calm_elsewhere, first_left, first_short, Left, next_left, next_short, none_whole, one_whole, Short, Whole}
use Rattle.hart_calls.proofs.CopiedSteps.{ran_out, RanOut}
use Rattle.process_model.specs.Bytes.{numbers_from}
use Rattle.process_model.specs.Copies.{Copied, copied_out, copy_begun, reached_in}
use Rattle.process_model.proofs.CopyRuns.{more_out, run_out_stops, so_far, stopped_out}
use Rattle.process_model.proofs.CopySplits.{copied_out_split}
use Rattle.process_model.specs.Files.{File}
use Rattle.process_model.specs.PageMoves.{files_after, PageMove}
use Rattle.process_model.specs.Process.{Process, regions}
use Rattle.process_model.specs.Regions.{copy_rule}
use Rattle.sv39_entry.specs.Address.{page_of}
use Rattle.sv39_entry.specs.declared.access.Access.TheVariants.{Store}
use Rattle.sv39_entry.specs.declared.rule.Rule.{Rule}
use Rattle.table_walk.specs.Tables.{Tables}
use Rattle.user_copy.specs.ReachedPage.{Reaches}
use Rattle.user_copy.specs.Runs.{CopiesOut, near, Puts, runs_of, some_bytes}
use Rattle.user_copy.specs.FirstPageBytes.{is_near}
use Rattle.user_copy.specs.declared.short.Stop.{Stop}
use Rattle.user_copy.specs.declared.short.Stop.TheVariants.{Denied, Unpromised}

module _ {Seat Frames Cabinet : Type 0} (l : StoreModel Seat Frames Cabinet)
    (goes : (x y z : Cabinet) (ms ns : List PageMove) → l.becomes x ms y → l.becomes y ns z → l.becomes x (ms ++ ns) z) (comes : (x y : Cabinet) (ms : List PageMove) → l.becomes x ms y → l.files y ≡ files_after (l.files x) ms)
    (start : Moment Seat Frames Cabinet) (p : Process) (tables : Tables) (space : IsSpace (body_at l start) tables p) (stays : l.becomes start.files [] start.files) (address : ℕ) (given : List ℕ) where
  abbrev present : List File
  present = l.files start.files

  abbrev n : ℕ
  n = length given

  abbrev pub model_out : Shortage → Copied
  model_out w = copied_out (call_environment present w) (initial_progress p) address given

  abbrev pub front_out : ℕ → Copied
  front_out done = copied_out (call_environment present nothing) (initial_progress p) address (take done given)

  abbrev Known : (List ℕ → Type 0) → ℕ → Type 0
  Known End count = (sent : List ℕ) × (length sent ≡ count) × End sent

  abbrev pub EndsOut : List ℕ → Moment Seat Frames Cabinet → ℕ → Option Stop → Type 0
  EndsOut starts c count None = Known (λ sent. Whole l goes comes start p tables space stays Store address n model_out front_out starts c sent) count
  EndsOut starts c count (Some (Denied r)) = Known (λ sent. Short l goes comes start p tables space stays Store address n model_out front_out starts c sent r) count
  EndsOut starts c count (Some (Unpromised x)) = Left l goes comes start p tables space stays Store address n model_out front_out starts c count x

  told : (starts : List ℕ) (b c : Moment Seat Frames Cabinet) (k count : ℕ) (s stop : Option Stop) → c ≡ b → count ≡ k → stop ≡ s → EndsOut starts b k s → EndsOut starts c count stop
  told starts b c k count s stop at same is ends =
      subst (λ (x : Moment Seat Frames Cabinet). EndsOut starts x count stop) (sym at) (subst (λ (i : ℕ). EndsOut starts b i stop) (sym same) (subst (λ (o : Option Stop). EndsOut starts b k o) (sym is) ends))

  front_of : (front : List ℕ) → copied_out (call_environment present nothing) (initial_progress p) address front ≡ more_out (call_environment present nothing) (copy_begun (initial_progress p)) (zip (numbers_from address (length front)) front)
  unfolding copied_out
  front_of front = refl

  -- the bytes of the first page, and those behind them
  record Split (h : ℕ) (front back : List ℕ) : Type 0 where
    whole : given ≡ front ++ back
    long : length front ≡ h
    taken : take h given ≡ front
    inside : address % 4096 + h ≤ 4096
    behind : 0 < length back → address % 4096 + h ≡ 4096
    some : 0 < n → 0 < h
    few : length back ≤ 256

  module _ (h : ℕ) where
    abbrev next : ℕ
    next = address + h

    abbrev starts_out : List ℕ → List ℕ → List ℕ
    starts_out front back = map (λ (r : ℕ × List ℕ). r.0) (some_bytes address front ++ some_bytes next back)

    long_of : (front back : List ℕ) → Split h front back → n ≡ h + length back
    long_of front back split =
        let all = ap length split.whole in
        let both = length-append front back in
        let long = split.long in
        omega (arith, all, both, long)

    splits : (w : Shortage) (front back : List ℕ) → Split h front back
        → model_out w ≡ more_out (call_environment present w) (more_out (call_environment present w) (copy_begun (initial_progress p)) (zip (numbers_from address (length front)) front)) (zip (numbers_from next (length back)) back)
    splits w front back split =
        ap (copied_out (call_environment present w) (initial_progress p) address) split.whole ∙ copied_out_split (call_environment present w) (initial_progress p) address front back
        ∙ ap (λ (k : ℕ). more_out (call_environment present w) (more_out (call_environment present w) (copy_begun (initial_progress p)) (zip (numbers_from address (length front)) front)) (zip (numbers_from (address + k) (length back)) back)) split.long

    later_none : (limit : ℕ) (back : List ℕ) → limit ≤ next → reads_below present p Store limit (map (λ (r : ℕ × List ℕ). r.0) (some_bytes next back)) ≡ []
    later_none limit [] below = refl
    later_none limit (x ∷ back) below = ap (λ (z : Bool). (if z then served_moves present p (page_of next) (copy_rule p.scheme (regions p) Store next) else []) ++ []) (le-ltb next limit below)

    all_none : (back : List ℕ) → reads_below present p Store (address + 0) (address ∷ map (λ (r : ℕ × List ℕ). r.0) (some_bytes next back)) ≡ []
    all_none back =
        ap₂ (λ (z : Bool) (ms : List PageMove). (if z then served_moves present p (page_of address) (copy_rule p.scheme (regions p) Store address) else []) ++ ms) (le-ltb address (address + 0) (omega arith)) (later_none (address + 0) back (omega arith))

    module _ (f : ℕ) (fs : List ℕ) where
      abbrev front : List ℕ
      front = f ∷ fs

      first_halts : (back : List ℕ) → Split h front back → (r : Rule) (w : Shortage) → reached_in (call_environment present w) Store (initial_progress p) address ≡ Err r → model_out w ≡ so_far (initial_progress p) [] (Some r)
      first_halts back split r w is =
          splits w front back split
          ∙ ap (λ (c : Copied). more_out (call_environment present w) c (zip (numbers_from next (length back)) back)) (run_out_stops (call_environment present w) (initial_progress p) [] address r front (omega arith) is)
          ∙ stopped_out (call_environment present w) r (initial_progress p) [] (zip (numbers_from next (length back)) back)

      some_here : (back : List ℕ) → Split h front back → 0 < h
      some_here back split = let long = split.long in omega (arith, long)

      -- it comes to the first page, and goes on

      module _ (b d : Moment Seat Frames Cabinet) (e : Reaches l start b Store address (Ok tt)) (put : Puts l b d address front) where
        under_way : (w : Shortage) → Under l goes comes start w start (initial_progress p) [] 0 []
        under_way w = begun_under l goes comes start p tables space stays Store address n model_out front_out w

        module _ (back : List ℕ) (split : Split h front back) (w : Shortage) (calm : is_dry_at w (page_of address) ≡ false) where
          first : RanOut l goes comes start w start b d (initial_progress p) [] 0 [] (under_way w) address calm [] front
          first =
              let inside = split.inside in
              let long = split.long in
              ran_out l goes comes start w start b d (initial_progress p) [] 0 [] (under_way w) address calm [] front (omega arith) (omega (arith, inside, long)) e put

          goes_on : model_out w ≡ more_out (call_environment present w) (so_far first.progress front None) (zip (numbers_from next (length back)) back)
          goes_on = splits w front back split ∙ ap (λ (c : Copied). more_out (call_environment present w) c (zip (numbers_from next (length back)) back)) first.is

        second : (back : List ℕ) → Split h front back → (c : Moment Seat Frames Cabinet) (count : ℕ) (stop : Option Stop) → CopiesOut l (some_bytes next back) d c (0 + length front) count stop → EndsOut (starts_out front back) c count stop
        second [] split c count stop (at, same, is) =
            let one = first [] split nothing refl in
            told _ d c (0 + length front) count None stop at same is
            (front, omega arith, one_whole l goes comes start p tables space stays Store address n model_out front_out h (some_here [] split) nothing d one.progress front split.long one.ran (goes_on [] split nothing refl))
        second (x ∷ back) split c count stop (z, Err (Denied r), g, (at, same, is)) =
            let end = split.behind (omega arith) in
            let some = some_here (x ∷ back) split in
            let w = at_stop r next in
            let calm = calm_elsewhere r next (page_of address) (λ same. absurd (omega (arith, end, some, same))) in
            let one = first (x ∷ back) split w calm in
            told _ z c (0 + length front) count (Some (Denied r)) stop at same is (
              front,
              omega arith,
              next_short l goes comes start p tables space stays Store address n model_out front_out h some w d one.progress front split.long one.ran end r refl z g
                  (λ stops. goes_on (x ∷ back) split w calm ∙ run_out_stops (call_environment present w) one.progress front next r (x ∷ back) (omega arith) stops),
            )
        second (x ∷ back) split c count stop (z, Err (Unpromised e), g, (at, same, is)) =
            let end = split.behind (omega arith) in
            let whole = long_of front (x ∷ back) split in
            let long = split.long in
            let one = first (x ∷ back) split nothing refl in
            told _ z c h count (Some (Unpromised e)) stop at (omega (arith, same, long)) is
            (next_left l goes comes start p tables space stays Store address n model_out front_out h (some_here (x ∷ back) split) nothing d one.progress front split.long one.ran end z e (omega (arith, whole))
            (ap (copied_out (call_environment present nothing) (initial_progress p) address) split.taken ∙ front_of front ∙ one.is) g)
        second (x ∷ back) split c count stop (z, Ok tt, g, (y, again, (at, same, is))) =
            let end = split.behind (omega arith) in
            let few = split.few in
            let one = first (x ∷ back) split nothing refl in
            let two = ran_out l goes comes start nothing d z y one.progress _ _ _ one.ran.under next refl front (x ∷ back) (omega arith) (omega (arith, end, few)) g again in
            let both = length-append front (x ∷ back) in
            let long = split.long in
            told _ y c (0 + length front + length (x ∷ back)) count None stop at same is (
              front ++ x ∷ back,
              omega (arith, both),
              both_whole l goes comes start p tables space stays Store address n model_out front_out h (some_here (x ∷ back) split) nothing d one.progress front split.long one.ran end y two.progress (front ++ x ∷ back)
                  (omega (arith, both, long)) two.ran (goes_on (x ∷ back) split nothing refl ∙ two.is),
            )

      ends : (back : List ℕ) → Split h front back → (c : Moment Seat Frames Cabinet) (count : ℕ) (stop : Option Stop) → CopiesOut l ((address, front) ∷ some_bytes next back) start c 0 count stop → EndsOut (starts_out front back) c count stop
      ends back split c count stop (b, Err (Denied r), e, (at, same, is)) =
          let some = some_here back split in
          told _ b c 0 count (Some (Denied r)) stop at same is
          ([], refl, first_short l goes comes start p tables space stays Store address n model_out front_out _ b r (later_none (address + 0 + 1) back (omega (arith, some))) e (first_halts back split r (at_stop r (address + 0))))
      ends back split c count stop (b, Err (Unpromised x), e, (at, same, is)) =
          let whole = long_of front back split in
          let some = some_here back split in
          told _ b c 0 count (Some (Unpromised x)) stop at same is
          (first_left l goes comes start p tables space stays Store address n model_out front_out _ b x (all_none back) (omega (arith, whole, some)) (front_of []) e)
      ends back split c count stop (b, Ok tt, e, (d, put, rest)) = second b d e put back split c count stop rest

    by_split : (front back : List ℕ) → Split h front back → (c : Moment Seat Frames Cabinet) (count : ℕ) (stop : Option Stop) → CopiesOut l (some_bytes address front ++ some_bytes next back) start c 0 count stop → EndsOut (starts_out front back) c count stop
    by_split [] [] split c count stop (at, same, is) =
        told _ start c 0 count None stop at same is ([], refl, none_whole l goes comes start p tables space stays Store address n model_out front_out (splits nothing [] [] split))
    by_split [] (x ∷ back) split c count stop copies =
        let whole = long_of [] (x ∷ back) split in
        let long = split.long in
        absurd (let none = split.some (omega (arith, whole)) in omega (arith, none, long))
    by_split (f ∷ fs) back split c count stop copies = ends f fs back split c count stop copies

  pub ends_out : length given ≤ 256 → (c : Moment Seat Frames Cabinet) (count : ℕ) (stop : Option Stop) → CopiesOut l (runs_of address given) start c 0 count stop → EndsOut (map (λ (r : ℕ × List ℕ). r.0) (runs_of address given)) c count stop
  ends_out small c count stop copies =
      let is = is_near address n in
      let few = is.few in
      let behind = is.behind in
      let h = near address n in
      let rest = length-drop h given in
      by_split h (take h given) (drop h given)
      record {
        whole = sym (take-append-drop h given);
        long = length-take-le h given few;
        taken = refl;
        inside = is.inside;
        behind = λ more. behind (omega (arith, more, rest));
        some = is.some;
        few = omega (arith, small, rest);
      } c count stop copies
