-- Lemma: a copy of at most 256 bytes from a process (CopyIn), over any store and any files, ends as the model's copy does
-- (`ends_in`): whole, stopped by a rule, or stopped by a refused promise (reservation of file reads).
use Rattle.std.proofs.Common.{◌≡◌, ℕ, zero, suc, ◌+◌, ◌-◌, ◌<◌, ◌≤◌, ◌%◌, Bool, false, Option, None, Some, Ok, Err, List, [], ◌∷◌, ◌++◌, length, map, refl, ap, ap₂, sym, subst, ◌∙◌, arith}
use Rattle.std.specs.Prelude.{if◌then◌else◌}
use Rattle.std.proofs.lemmas.Bool.{le-ltb}
use Rattle.std.proofs.lemmas.List.{length-append}
use Rattle.address_space.specs.Agreement.{IsSpace}
use Rattle.fault_rules.specs.PageService.{body_at, Moment, StoreModel}
use Rattle.fault_rules.specs.Serves.{served_moves}
use Rattle.hart_calls.specs.CallResults.{at_stop}
use Rattle.hart_calls.specs.CallOutcomes.{reads_below}
use Rattle.hart_calls.specs.Shortages.{initial_progress, is_dry_at, nothing, call_environment, Shortage}
use Rattle.hart_calls.proofs.Copied.{Under}
use Rattle.hart_calls.proofs.CopiedEnds.{begun_under, both_whole, calm_elsewhere, first_left, first_short, Left, next_left, next_short, none_whole, one_whole, Short, Whole}
use Rattle.hart_calls.proofs.CopiedSteps.{ran_in, RanIn}
use Rattle.process_model.specs.Bytes.{numbers_from}
use Rattle.process_model.specs.Copies.{Copied, copied_in, copy_begun, reached_in}
use Rattle.process_model.proofs.CopyRuns.{more_in, run_in_stops, so_far, stopped_in}
use Rattle.process_model.proofs.CopySplits.{copied_in_split}
use Rattle.process_model.specs.Files.{File}
use Rattle.process_model.specs.PageMoves.{files_after, PageMove}
use Rattle.process_model.specs.Process.{Process, regions}
use Rattle.process_model.specs.Regions.{copy_rule}
use Rattle.sv39_entry.specs.Address.{page_of}
use Rattle.sv39_entry.specs.declared.access.Access.TheVariants.{Load}
use Rattle.sv39_entry.specs.declared.rule.Rule.{Rule}
use Rattle.table_walk.specs.Tables.{Tables}
use Rattle.user_copy.specs.ReachedPage.{Reaches}
use Rattle.user_copy.specs.Runs.{CopiesIn, IsRead, near, runs, some_run}
use Rattle.user_copy.specs.FirstPageBytes.{is_near}
use Rattle.user_copy.specs.declared.short.Stop.{Stop}
use Rattle.user_copy.specs.declared.short.Stop.TheVariants.{Denied, Unpromised}

module _ {Seat Frames Cabinet : Type 0} (l : StoreModel Seat Frames Cabinet)
    (goes : (x y z : Cabinet) (ms ns : List PageMove) → l.becomes x ms y → l.becomes y ns z → l.becomes x (ms ++ ns) z) (comes : (x y : Cabinet) (ms : List PageMove) → l.becomes x ms y → l.files y ≡ files_after (l.files x) ms)
    (start : Moment Seat Frames Cabinet) (p : Process) (tables : Tables) (space : IsSpace (body_at l start) tables p) (stays : l.becomes start.files [] start.files) (address n : ℕ) where
  abbrev present : List File
  present = l.files start.files

  abbrev pub model_in : Shortage → Copied
  model_in w = copied_in (call_environment present w) (initial_progress p) address n

  abbrev pub front_in : ℕ → Copied
  front_in done = copied_in (call_environment present nothing) (initial_progress p) address done

  abbrev pub EndsIn : List ℕ → Moment Seat Frames Cabinet → List ℕ → Option Stop → Type 0
  EndsIn starts c bytes None = Whole l goes comes start p tables space stays Load address n model_in front_in starts c bytes
  EndsIn starts c bytes (Some (Denied r)) = Short l goes comes start p tables space stays Load address n model_in front_in starts c bytes r
  EndsIn starts c bytes (Some (Unpromised x)) = Left l goes comes start p tables space stays Load address n model_in front_in starts c (length bytes) x

  told : (starts : List ℕ) (b c : Moment Seat Frames Cabinet) (bs bytes : List ℕ) (s stop : Option Stop) → c ≡ b → bytes ≡ bs → stop ≡ s → EndsIn starts b bs s → EndsIn starts c bytes stop
  told starts b c bs bytes s stop at same is ends =
      subst (λ (x : Moment Seat Frames Cabinet). EndsIn starts x bytes stop) (sym at) (subst (λ (xs : List ℕ). EndsIn starts b xs stop) (sym same) (subst (λ (o : Option Stop). EndsIn starts b bs o) (sym is) ends))

  front_is : (h : ℕ) → front_in h ≡ more_in (call_environment present nothing) (copy_begun (initial_progress p)) (numbers_from address h)
  unfolding copied_in
  front_is h = refl

  -- the bytes of the first page, and those behind them
  record Split (h m : ℕ) : Type 0 where
    whole : n ≡ h + m
    inside : address % 4096 + h ≤ 4096
    behind : 0 < m → address % 4096 + h ≡ 4096
    some : 0 < n → 0 < h
    few : m ≤ 256

  splits : (w : Shortage) (h m : ℕ) → n ≡ h + m → model_in w ≡ more_in (call_environment present w) (more_in (call_environment present w) (copy_begun (initial_progress p)) (numbers_from address h)) (numbers_from (address + h) m)
  splits w h m whole = ap (copied_in (call_environment present w) (initial_progress p) address) whole ∙ copied_in_split (call_environment present w) (initial_progress p) address h m

  abbrev starts_in : ℕ → ℕ → List ℕ
  starts_in h m = map (λ (r : ℕ × ℕ). r.0) (some_run address h ++ some_run (address + h) m)

  module _ (h : ℕ) where
    abbrev next : ℕ
    next = address + suc h

    later_none : (limit m : ℕ) → limit ≤ next → reads_below present p Load limit (map (λ (r : ℕ × ℕ). r.0) (some_run next m)) ≡ []
    later_none limit zero below = refl
    later_none limit (suc m) below = ap (λ (z : Bool). (if z then served_moves present p (page_of next) (copy_rule p.scheme (regions p) Load next) else []) ++ []) (le-ltb next limit below)

    all_none : (m : ℕ) → reads_below present p Load (address + 0) (address ∷ map (λ (r : ℕ × ℕ). r.0) (some_run next m)) ≡ []
    all_none m =
        ap₂ (λ (z : Bool) (ms : List PageMove). (if z then served_moves present p (page_of address) (copy_rule p.scheme (regions p) Load address) else []) ++ ms) (le-ltb address (address + 0) (omega arith)) (later_none (address + 0) m (omega arith))

    first_halts : (m : ℕ) → Split (suc h) m → (r : Rule) (w : Shortage) → reached_in (call_environment present w) Load (initial_progress p) address ≡ Err r → model_in w ≡ so_far (initial_progress p) [] (Some r)
    first_halts m split r w is =
        splits w (suc h) m split.whole
        ∙ ap (λ (c : Copied). more_in (call_environment present w) c (numbers_from next m)) (run_in_stops (call_environment present w) (initial_progress p) [] address r (suc h) (omega arith) is)
        ∙ stopped_in (call_environment present w) r (initial_progress p) [] (numbers_from next m)

    -- it comes to the first page, and goes on

    module _ (b d : Moment Seat Frames Cabinet) (got : List ℕ) (e : Reaches l start b Load address (Ok tt)) (read : IsRead l b d address (suc h) got) where
      under_way : (w : Shortage) → Under l goes comes start w start (initial_progress p) [] 0 []
      under_way w = begun_under l goes comes start p tables space stays Load address n model_in front_in w

      module _ (m : ℕ) (split : Split (suc h) m) (w : Shortage) (calm : is_dry_at w (page_of address) ≡ false) where
        first : RanIn l goes comes start w start b d (initial_progress p) [] 0 [] (under_way w) address calm (suc h) [] got
        first = ran_in l goes comes start w start b d (initial_progress p) [] 0 [] (under_way w) address calm (suc h) [] got (omega arith) split.inside e read

        goes_on : model_in w ≡ more_in (call_environment present w) (so_far first.progress got None) (numbers_from next m)
        goes_on = splits w (suc h) m split.whole ∙ ap (λ (c : Copied). more_in (call_environment present w) c (numbers_from next m)) first.is

      second : (m : ℕ) → Split (suc h) m → (c : Moment Seat Frames Cabinet) (bytes : List ℕ) (stop : Option Stop) → CopiesIn l (some_run next m) d c ([] ++ got) bytes stop → EndsIn (starts_in (suc h) m) c bytes stop
      second zero split c bytes stop (at, same, is) =
          let f = first zero split nothing refl in
          told _ d c got bytes None stop at same is
          (one_whole l goes comes start p tables space stays Load address n model_in front_in (suc h) (omega arith) nothing d f.progress got f.long f.ran (goes_on zero split nothing refl))
      second (suc m) split c bytes stop (z, Err (Denied r), f, (at, same, is)) =
          let end = split.behind (omega arith) in
          let w = at_stop r next in
          let calm = calm_elsewhere r next (page_of address) (λ same. absurd (omega (arith, end, same))) in
          let one = first (suc m) split w calm in
          told _ z c got bytes (Some (Denied r)) stop at same is
          (next_short l goes comes start p tables space stays Load address n model_in front_in (suc h) (omega arith) w d one.progress got one.long one.ran end r refl z f
          (λ stops. goes_on (suc m) split w calm ∙ run_in_stops (call_environment present w) one.progress got next r (suc m) (omega arith) stops))
      second (suc m) split c bytes stop (z, Err (Unpromised x), f, (at, same, is)) =
          let end = split.behind (omega arith) in
          let whole = split.whole in
          let one = first (suc m) split nothing refl in
          told _ z c got bytes (Some (Unpromised x)) stop at same is
          (subst (λ (done : ℕ). Left l goes comes start p tables space stays Load address n model_in front_in (starts_in (suc h) (suc m)) z done x) (sym one.long)
          (next_left l goes comes start p tables space stays Load address n model_in front_in (suc h) (omega arith) nothing d one.progress got one.long one.ran end z x (omega (arith, whole)) (front_is (suc h) ∙ one.is) f))
      second (suc m) split c bytes stop (z, Ok tt, f, (y, more, again, (at, same, is))) =
          let end = split.behind (omega arith) in
          let few = split.few in
          let one = first (suc m) split nothing refl in
          let two = ran_in l goes comes start nothing d z y one.progress _ _ _ one.ran.under next refl (suc m) got more (omega arith) (omega (arith, end, few)) f again in
          let long = length-append got more in
          let first_long = one.long in
          let next_long = two.long in
          told _ y c (got ++ more) bytes None stop at same is
          (both_whole l goes comes start p tables space stays Load address n model_in front_in (suc h) (omega arith) nothing d one.progress got one.long one.ran end y two.progress (got ++ more) (omega (arith, long, first_long, next_long)) two.ran
          (goes_on (suc m) split nothing refl ∙ two.is))

    ends : (m : ℕ) → Split (suc h) m → (c : Moment Seat Frames Cabinet) (bytes : List ℕ) (stop : Option Stop) → CopiesIn l ((address, suc h) ∷ some_run next m) start c [] bytes stop → EndsIn (starts_in (suc h) m) c bytes stop
    ends m split c bytes stop (b, Err (Denied r), e, (at, same, is)) =
        told _ b c [] bytes (Some (Denied r)) stop at same is
        (first_short l goes comes start p tables space stays Load address n model_in front_in _ b r (later_none (address + 0 + 1) m (omega arith)) e (first_halts m split r (at_stop r (address + 0))))
    ends m split c bytes stop (b, Err (Unpromised x), e, (at, same, is)) =
        let whole = split.whole in
        told _ b c [] bytes (Some (Unpromised x)) stop at same is
        (first_left l goes comes start p tables space stays Load address n model_in front_in _ b x (all_none m) (omega (arith, whole)) (front_is 0) e)
    ends m split c bytes stop (b, Ok tt, e, (d, got, read, rest)) = second b d got e read m split c bytes stop rest

  by_split : (h m : ℕ) → Split h m → (c : Moment Seat Frames Cabinet) (bytes : List ℕ) (stop : Option Stop) → CopiesIn l (some_run address h ++ some_run (address + h) m) start c [] bytes stop → EndsIn (starts_in h m) c bytes stop
  by_split zero zero split c bytes stop (at, same, is) =
      told _ start c [] bytes None stop at same is (none_whole l goes comes start p tables space stays Load address n model_in front_in (splits nothing 0 0 split.whole))
  by_split zero (suc m) split c bytes stop copies = let whole = split.whole in absurd (let none = split.some (omega (arith, whole)) in omega (arith, none))
  by_split (suc h) m split c bytes stop copies = ends h m split c bytes stop copies

  pub ends_in : n ≤ 256 → (c : Moment Seat Frames Cabinet) (bytes : List ℕ) (stop : Option Stop) → CopiesIn l (runs address n) start c [] bytes stop → EndsIn (map (λ (r : ℕ × ℕ). r.0) (runs address n)) c bytes stop
  ends_in small c bytes stop copies =
      let is = is_near address n in
      let few = is.few in
      let behind = is.behind in
      by_split (near address n) (n - near address n)
      record { whole = omega (arith, few); inside = is.inside; behind = λ more. behind (omega (arith, more)); some = is.some; few = omega (arith, small) } c bytes stop copies
