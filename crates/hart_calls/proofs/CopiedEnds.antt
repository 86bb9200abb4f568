-- Lemmas for the end of a kernel copy of at most two pages, over any store and any files: it agrees with the model whether
-- whole (`Whole`), stopped by a rule (`Short`) or by a refused promise (`Left`: the files would not reserve a page's
-- reading), at its first page or its second.
use Rattle.std.proofs.Common.{◌≡◌, ◌⊎◌, ℕ, ◌+◌, ◌<◌, ◌%◌, ◌==◌, Bool, true, false, Option, None, Some, Err, List, [], ◌∷◌, ◌++◌, length, refl, ap, ap₂, sym, subst, ◌∙◌, arith, inl, inr}
use Rattle.std.specs.Prelude.{if◌then◌else◌, is_some, option_to_list}
use Rattle.std.proofs.lemmas.Bool.{eq-eqb, le-ltb, lt-ltb, ne_eqb}
use Rattle.std.proofs.lemmas.List.{append-nil}
use Rattle.address_space.specs.Agreement.{IsSpace}
use Rattle.fault_rules.specs.MadeResident.{is_counted, is_shared_by, moves_for}
use Rattle.fault_rules.specs.PageService.{body_at, Moment, StoreModel}
use Rattle.fault_rules.specs.Serves.{served_moves}
use Rattle.file_cabinet.specs.Promises.{refusal_of}
use Rattle.file_cabinet.specs.declared.promise.PromiseError.{PromiseError}
use Rattle.file_cabinet.specs.declared.promise.PromiseError.TheVariants as error
use Rattle.hart_calls.specs.CallResults.{at_stop, RefusesPromise}
use Rattle.hart_calls.specs.ShortageReports.{CopyDry, WasDry}
use Rattle.hart_calls.specs.CallOutcomes.{reads_below}
use Rattle.hart_calls.specs.Shortages.{initial_progress, is_dry_at, IsUnpromised, nothing, call_environment, Shortage}
use Rattle.hart_calls.proofs.Copied.{left_moves, left_space, stops, Under}
use Rattle.hart_calls.proofs.CopiedSteps.{Ran}
use Rattle.process_model.specs.Environment.{Progress}
use Rattle.process_model.specs.Copies.{Copied, reached_in}
use Rattle.process_model.proofs.CopyRuns.{so_far}
use Rattle.process_model.specs.Files.{File}
use Rattle.process_model.specs.Frames.{resident_need}
use Rattle.process_model.specs.PageMap.{get}
use Rattle.process_model.specs.PageMoves.{files_after, PageMove}
use Rattle.process_model.specs.Process.{Page, Process, regions}
use Rattle.process_model.specs.Regions.{copy_rule, Region, region_at}
use Rattle.process_model.specs.declared.reply.Refusal.{Refusal}
use Rattle.sv39_entry.specs.Address.{page_of}
use Rattle.sv39_entry.specs.declared.access.Access.{Access}
use Rattle.sv39_entry.specs.declared.rule.Rule.{Rule}
use Rattle.sv39_entry.specs.declared.rule.Rule.TheVariants as rule
use Rattle.sv39_entry.specs.declared.scheme.Scheme.{Scheme}
use Rattle.table_walk.specs.Tables.{Tables}
use Rattle.user_copy.specs.ReachedPage.{Reaches}
use Rattle.user_copy.specs.declared.short.Stop.TheVariants.{Denied, Unpromised}

-- ---- what a stop tells of frames

pub stop_cases : (r : Rule) (address : ℕ) → (r ≡ rule.NoFrame) ⊎ (at_stop r address ≡ nothing)
stop_cases rule.Misaligned address = inr refl
stop_cases rule.BeyondMax address = inr refl
stop_cases rule.KernelPage address = inr refl
stop_cases rule.GuardPage address = inr refl
stop_cases rule.NoRegion address = inr refl
stop_cases rule.NoRead address = inr refl
stop_cases rule.NoWrite address = inr refl
stop_cases rule.NoExec address = inr refl
stop_cases rule.NoFrame address = inl refl

-- the page where it stopped is dry, and no other one
dry_there : (r : Rule) (address page : ℕ) → page_of address ≡ page → r ≡ rule.NoFrame → is_dry_at (at_stop r address) page ≡ true
dry_there r address page same is = ap (λ (k : Rule). is_dry_at (at_stop k address) page) is ∙ eq-eqb page (page_of address) (sym same)

pub calm_elsewhere : (r : Rule) (address page : ℕ) → (page_of address ≡ page → ⊥) → is_dry_at (at_stop r address) page ≡ false
calm_elsewhere r address page apart = elim (stop_cases r address) [
  | inl is ↦ ap (λ (k : Rule). is_dry_at (at_stop k address) page) is ∙ ne_eqb page (page_of address) (λ same. apart (sym same))
  | inr none ↦ ap (λ (w : Shortage). is_dry_at w page) none
]

-- a promise is refused for want of memory or of room in a journal
pub unpromised_by : (x : PromiseError) → IsUnpromised (refusal_of x)
unpromised_by error.Memory = tt
unpromised_by error.JournalFull = tt

-- ---- the pages of files that were read

module _ (files : List File) (p q : Process) (page : ℕ) (scheme : q.scheme ≡ p.scheme) (same : regions q ≡ regions p) (settled : get q.settled page ≡ get p.settled page) where
  served_alike : (o : Option Rule) → served_moves files q page o ≡ served_moves files p page o
  served_alike None = ap₂ (λ (rs : List Region) (s : Option Page). moves_for files (region_at rs page) s page) same settled
  served_alike (Some r) = refl

  reads_alike : (kind : Access) (address : ℕ) → served_moves files q page (copy_rule q.scheme (regions q) kind address) ≡ served_moves files p page (copy_rule p.scheme (regions p) kind address)
  reads_alike kind address = served_alike (copy_rule q.scheme (regions q) kind address) ∙ ap₂ (λ (z : Scheme) (rs : List Region). served_moves files p page (copy_rule z rs kind address)) scheme same

module _ {Seat Frames Cabinet : Type 0} (l : StoreModel Seat Frames Cabinet)
    (goes : (x y z : Cabinet) (ms ns : List PageMove) → l.becomes x ms y → l.becomes y ns z → l.becomes x (ms ++ ns) z) (comes : (x y : Cabinet) (ms : List PageMove) → l.becomes x ms y → l.files y ≡ files_after (l.files x) ms)
    (start : Moment Seat Frames Cabinet) (p : Process) (tables : Tables) (space : IsSpace (body_at l start) tables p) (stays : l.becomes start.files [] start.files) (kind : Access) (address n : ℕ) (model : Shortage → Copied) (front : ℕ → Copied) where
  abbrev present : List File
  present = l.files start.files

  abbrev reads_at : ℕ → List PageMove
  reads_at x = served_moves present p (page_of x) (copy_rule p.scheme (regions p) kind x)

  -- ---- the ends

  -- all was copied
  pub record Whole (starts : List ℕ) (c : Moment Seat Frames Cabinet) (bytes : List ℕ) : Type 0 where
    pub progress : Progress
    pub is : model nothing ≡ so_far progress bytes None
    pub after : (u : Tables) × IsSpace (body_at l c) u progress.process
    pub moves : l.becomes start.files (reads_below present p kind (address + length bytes + 1) starts) c.files

  -- a rule stopped it after so many bytes
  pub record Short (starts : List ℕ) (c : Moment Seat Frames Cabinet) (bytes : List ℕ) (r : Rule) : Type 0 where
    pub progress : Progress
    pub is : model (at_stop r (address + length bytes)) ≡ so_far progress bytes (Some r)
    pub after : (u : Tables) × IsSpace (body_at l c) u progress.process
    pub moves : l.becomes start.files (reads_below present p kind (address + length bytes + 1) starts) c.files
    pub dry : r ≡ rule.NoFrame → CopyDry (l.view start.space.seat) (l.view c.space.seat) p progress.process kind (page_of address) (page_of (address + length bytes))

  -- a page of a file was not promised after so many bytes
  pub record Left (starts : List ℕ) (c : Moment Seat Frames Cabinet) (done : ℕ) (r : Refusal) : Type 0 where
    pub progress : Progress
    pub bytes : List ℕ
    pub is : front done ≡ so_far progress bytes None
    pub after : (u : Tables) × IsSpace (body_at l c) u progress.process
    pub moves : l.becomes start.files (reads_below present p kind (address + done) starts) c.files
    pub less : done < n
    pub unpromised : IsUnpromised r
    pub of_file : 0 < length (served_moves present progress.process (page_of (address + done)) (copy_rule progress.process.scheme (regions progress.process) kind (address + done)))
    pub told : RefusesPromise l.becomes l.can_refuse start.files (reads_below present p kind (address + done) starts) 1 r

  pub begun_under : (w : Shortage) → Under l goes comes start w start (initial_progress p) [] 0 []
  begun_under w = record { tables = tables; space = space; moves = stays; same = refl; zeros = refl; claims = omega arith; looks = sym (append-nil (l.view start.space.seat).tallies.looks) }

  -- ---- it copies nothing

  pub none_whole : model nothing ≡ so_far (initial_progress p) [] None → Whole [] start []
  none_whole is = record { progress = initial_progress p; is = is; after = (tables, space); moves = stays }

  -- ---- its first page stops it

  module _ (rest : List ℕ) (b : Moment Seat Frames Cabinet) where
    first_reads : (limit : ℕ) → address < limit → reads_below present p kind limit rest ≡ [] → reads_below present p kind limit (address ∷ rest) ≡ reads_at address
    first_reads limit below none =
        ap₂ (λ (z : Bool) (ms : List PageMove). (if z then reads_at address else []) ++ ms) (lt-ltb address limit below) none ∙ append-nil (reads_at address)

    abbrev DryBy : ℕ → Bool → Type 0
    DryBy page same =
        (before count : Option ℕ) × (is_some before ≡ (if same then false else is_counted kind (get p.settled (page_of address)))) × (is_some count ≡ is_counted kind (get p.settled page))
        × WasDry (l.view start.space.seat) (l.view b.space.seat) (resident_need (is_shared_by count) p kind page) (if same then 0 else resident_need (is_shared_by before) p kind (page_of address)) (option_to_list before ++ option_to_list count)

    abbrev pub first_want : Rule → Shortage
    first_want r = at_stop r (address + 0)

    pub first_short : (r : Rule) → reads_below present p kind (address + 0 + 1) rest ≡ [] → Reaches l start b kind address (Err (Denied r))
        → (reached_in (call_environment present (first_want r)) kind (initial_progress p) address ≡ Err r → model (first_want r) ≡ so_far (initial_progress p) [] (Some r)) → Short (address ∷ rest) b [] r
    first_short r none e halts =
        let here : page_of (address + 0) ≡ page_of address = omega arith in
        let s = stops l goes comes start (first_want r) start (initial_progress p) [] 0 [] (begun_under (first_want r)) b kind address r e (dry_there r (address + 0) (page_of address) here) in
        record {
          progress = initial_progress p;
          is = halts s.is;
          after = (s.tables, s.space);
          moves = subst (λ (ms : List PageMove). l.becomes start.files ms b.files) (sym (first_reads (address + 0 + 1) (omega arith) none)) s.moves;
          dry = λ is. dry_by here (s.dry is);
        }
      where
        dry_by : page_of (address + 0) ≡ page_of address
            → ((count : Option ℕ) × (is_some count ≡ is_counted kind (get p.settled (page_of address))) × WasDry (l.view start.space.seat) (l.view b.space.seat) (resident_need (is_shared_by count) p kind (page_of address)) 0 (option_to_list count))
            → CopyDry (l.view start.space.seat) (l.view b.space.seat) p p kind (page_of address) (page_of (address + 0))
        dry_by here (count, counted, dry) =
            subst (λ (page : ℕ). DryBy page (page_of address == page)) (sym here)
            (subst (λ (same : Bool). DryBy (page_of address) same) (sym (eq-eqb (page_of address) (page_of address) refl)) (None, count, refl, counted, dry))

    pub first_left : (x : Refusal) → reads_below present p kind (address + 0) (address ∷ rest) ≡ [] → 0 < n → front 0 ≡ so_far (initial_progress p) [] None → Reaches l start b kind address (Err (Unpromised x)) → Left (address ∷ rest) b 0 x
    unfolding begun_under
    first_left x none some is e =
        let u = begun_under nothing in
        let un = e.unpromised x refl in
        record {
          progress = initial_progress p;
          bytes = [];
          is = is;
          after = (tables, left_space l goes comes start nothing start (initial_progress p) [] 0 [] u b kind address x e);
          moves = subst (λ (ms : List PageMove). l.becomes start.files ms b.files) (sym none) (left_moves l goes comes start nothing start (initial_progress p) [] 0 [] u b kind address x e);
          less = some;
          unpromised = subst IsUnpromised (sym un.2) (unpromised_by un.0);
          of_file = subst (λ (at : ℕ). 0 < length (reads_at at)) (let here : address ≡ address + 0 = omega arith in here) (e.of_file x refl tables p space);
          told = (start.files, un.0, subst (λ (ms : List PageMove). l.becomes start.files ms start.files) (sym none) stays, un.1, un.2);
        }

  -- ---- it copies a first run

  module _ (here : ℕ) (some : 0 < here) (w : Shortage) (d : Moment Seat Frames Cabinet) (j : Progress) (bytes : List ℕ) (long : length bytes ≡ here) (ran : Ran l goes comes start w (initial_progress p) [] 0 [] kind address d j) where
    pub one_whole : model nothing ≡ so_far j bytes None → Whole (address ∷ []) d bytes
    one_whole is = record {
      progress = j;
      is = is;
      after = (ran.under.tables, ran.under.space);
      moves = subst (λ (ms : List PageMove). l.becomes start.files ms d.files) (sym (first_reads [] d (address + length bytes + 1) (omega arith) refl)) ran.under.moves;
    }

    -- and comes to a second page

    module _ (end : address % 4096 + here ≡ 4096) where
      abbrev next : ℕ
      next = address + here

      apart : page_of next ≡ page_of address → ⊥
      apart same = absurd (omega (arith, end, some, same))

      next_reads : served_moves present j.process (page_of next) (copy_rule j.process.scheme (regions j.process) kind next) ≡ reads_at next
      next_reads = reads_alike present p j.process (page_of next) ran.same_scheme ran.same_regions (ran.others (page_of next) apart) kind next

      both_reads : (limit : ℕ) → next < limit
          → reads_below present p kind limit (address ∷ next ∷ []) ≡ ([] ++ reads_at address) ++ served_moves present j.process (page_of next) (copy_rule j.process.scheme (regions j.process) kind next)
      both_reads limit below =
          ap₂ (λ (y z : Bool). (if y then reads_at address else []) ++ ((if z then reads_at next else []) ++ [])) (lt-ltb address limit (omega (arith, below))) (lt-ltb next limit below)
          ∙ ap (λ (ms : List PageMove). reads_at address ++ ms) (append-nil (reads_at next) ∙ sym next_reads)

      only_first : reads_below present p kind (address + here) (address ∷ next ∷ []) ≡ [] ++ reads_at address
      only_first = first_reads (next ∷ []) d (address + here) (omega (arith, some)) (ap (λ (z : Bool). (if z then reads_at next else []) ++ []) (le-ltb next (address + here) (omega arith)))

      pub next_left : (b : Moment Seat Frames Cabinet) (x : Refusal) → here < n → front here ≡ so_far j bytes None → Reaches l d b kind next (Err (Unpromised x)) → Left (address ∷ next ∷ []) b here x
      next_left b x less is e =
          let un = e.unpromised x refl in
          record {
            progress = j;
            bytes = bytes;
            is = is;
            after = (ran.under.tables, left_space l goes comes start w d j _ _ _ ran.under b kind next x e);
            moves = subst (λ (ms : List PageMove). l.becomes start.files ms b.files) (sym only_first) (left_moves l goes comes start w d j _ _ _ ran.under b kind next x e);
            less = less;
            unpromised = subst IsUnpromised (sym un.2) (unpromised_by un.0);
            of_file = subst (λ (fs : List File). 0 < length (served_moves fs j.process (page_of next) (copy_rule j.process.scheme (regions j.process) kind next))) ran.under.same (e.of_file x refl ran.under.tables j.process ran.under.space);
            told = (d.files, un.0, subst (λ (ms : List PageMove). l.becomes start.files ms d.files) (sym only_first) ran.under.moves, un.1, un.2);
          }

      pub both_whole : (c : Moment Seat Frames Cabinet) (i : Progress) (all : List ℕ) → here < length all → Ran l goes comes start w j ([] ++ reads_at address) (0 + resident_need (is_shared_by ran.count) p kind (page_of address)) ([] ++ option_to_list ran.count) kind next c i
          → model nothing ≡ so_far i all None → Whole (address ∷ next ∷ []) c all
      both_whole c i all more last is = record {
        progress = i;
        is = is;
        after = (last.under.tables, last.under.space);
        moves = subst (λ (ms : List PageMove). l.becomes start.files ms c.files) (sym (both_reads (address + length all + 1) (omega (arith, more)))) last.under.moves;
      }

      module _ (r : Rule) (at : w ≡ at_stop r next) (b : Moment Seat Frames Cabinet) (e : Reaches l d b kind next (Err (Denied r))) (halts : reached_in (call_environment present w) kind j next ≡ Err r → model w ≡ so_far j bytes (Some r)) where
        same_next : address + length bytes ≡ next
        same_next = omega (arith, long)

        pub next_short : Short (address ∷ next ∷ []) b bytes r
        next_short =
            let s = stops l goes comes start w d j _ _ _ ran.under b kind next r e (λ is. ap (λ (z : Shortage). is_dry_at z (page_of next)) at ∙ dry_there r next (page_of next) refl is) in
            record {
              progress = j;
              is = subst (λ (x : Shortage). model x ≡ so_far j bytes (Some r)) (at ∙ ap (at_stop r) (sym same_next)) (halts s.is);
              after = (s.tables, s.space);
              moves = subst (λ (ms : List PageMove). l.becomes start.files ms b.files) (sym (both_reads (address + length bytes + 1) (omega (arith, long)))) s.moves;
              dry = λ is. dry_by (s.dry is);
            }
          where
            dry_by : ((count : Option ℕ) × (is_some count ≡ is_counted kind (get j.process.settled (page_of next)))
                × WasDry (l.view start.space.seat) (l.view b.space.seat) (resident_need (is_shared_by count) j.process kind (page_of next)) (0 + resident_need (is_shared_by ran.count) p kind (page_of address)) (option_to_list ran.count ++ option_to_list count))
                → CopyDry (l.view start.space.seat) (l.view b.space.seat) p j.process kind (page_of address) (page_of (address + length bytes))
            dry_by (count, counted, dry) =
                let claims = dry.claims in
                let other = sym (ne_eqb (page_of address) (page_of next) (λ same. apart (sym same))) in
                let here : WasDry (l.view start.space.seat) (l.view b.space.seat) (resident_need (is_shared_by count) j.process kind (page_of next)) (resident_need (is_shared_by ran.count) p kind (page_of address)) (option_to_list ran.count ++ option_to_list count) =
                record { zeros = dry.zeros; short = dry.short; claims = omega (arith, claims); looks = dry.looks } in
                subst (λ (x : ℕ). CopyDry (l.view start.space.seat) (l.view b.space.seat) p j.process kind (page_of address) (page_of x)) (sym same_next) (
                  ran.count,
                  count,
                  subst (λ (same : Bool). is_some ran.count ≡ (if same then false else is_counted kind (get p.settled (page_of address)))) other ran.counted,
                  counted,
                  subst (λ (same : Bool). WasDry (l.view start.space.seat) (l.view b.space.seat) (resident_need (is_shared_by count) j.process kind (page_of next)) (if same then 0 else resident_need (is_shared_by ran.count) p kind (page_of address)) (option_to_list ran.count ++ option_to_list count))
                      other here,
                )
