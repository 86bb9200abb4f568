-- Lemmas on a kernel copy (copyin, copyout) that came so far (`SoFar`): the process that the space then is, against the one
-- that it was before the call. The copy reaches the next page (`reached_on`), has its bytes read (`read_on`) or put there
-- (`put_on`), or is stopped at it (`StopsHere`).
use Rattle.std.proofs.Common.{◌≡◌, ◌≢◌, inl, inr, ◌⊎◌, ℕ, Bool, true, false, not, ◌&&◌, ◌||◌, ◌==◌, ◌+◌, ◌-◌, ◌%◌, ◌<◌, ◌≤◌, refl, ap, ap₂, sym, subst, ◌∙◌, arith, List, [], ◌++◌, drop, length, take, Option, None, Some, Result, Ok, Err}
use Rattle.std.specs.FinMap as finite
use Rattle.std.specs.Prelude.{if◌then◌else◌}
use Rattle.std.proofs.lemmas.Option.{same_Some}
use Rattle.std.proofs.lemmas.Bool.{and_parts, cases_eq, cases_lt, not-true, not-false}
use Rattle.std.proofs.lemmas.List.{length-append}
use Rattle.address_space.specs.Agreement.{IsFrameOfPage, IsSpace, same_body}
use Rattle.address_space.specs.Steps.{CanWrite}
use Rattle.fault_rules.proofs.Allowed.{can_reside, denied_otherwise}
use Rattle.fault_rules.specs.MadeResident.{CanMakeResident, is_shared_by, moves_for, moves_from, resident_reads}
use Rattle.fault_rules.specs.PageService.{body_at, Moment, StoreModel}
use Rattle.fault_rules.specs.Serves.{is_ready, IsEnd, served_moves}
use Rattle.fault_rules.specs.declared.service.Served.{Served}
use Rattle.fault_rules.specs.declared.service.Served.TheVariants as served
use Rattle.frame_store.specs.View.{Tallies, View}
use Rattle.process_model.specs.Copies.{reached_in}
use Rattle.process_model.specs.Environment.{is_shared_page, need_at, Progress, resident_at, resident_at_address, unless_dry, unless_resident}
use Rattle.process_model.specs.Files.{File}
use Rattle.process_model.specs.Frames.{resident_need, resident_need_of, unless_through}
use Rattle.process_model.specs.Insertion.{inserted_other}
use Rattle.process_model.specs.PageMap.{get}
use Rattle.process_model.specs.PageMoves.{files_after, PageMove}
use Rattle.process_model.specs.Process.{Page, Process, regions}
use Rattle.process_model.specs.Regions.{copy_rule, file, image, keeps_stores, Region, region_at, Source, zeros}
use Rattle.process_model.proofs.ResidenceLaws.{made_settles, no_alignment, same_rule, SettlesPage, stays_resident}
use Rattle.process_model.specs.Residence.{can_complete, is_resident, is_resident_page, made_resident, made_resident_from, parts_from, region_on, stored, taken_over_unless, with_page}
use Rattle.process_model.specs.declared.reply.Refusal.{Refusal}
use Rattle.sv39_entry.specs.Address.{page_of}
use Rattle.sv39_entry.specs.Frame.{ppn_of}
use Rattle.sv39_entry.specs.Word.{ppn}
use Rattle.sv39_entry.specs.declared.access.Access.{Access}
use Rattle.sv39_entry.specs.declared.access.Access.TheVariants.{Store}
use Rattle.sv39_entry.specs.declared.rule.Rule.{Rule}
use Rattle.sv39_entry.specs.declared.rule.Rule.TheVariants.{NoFrame}
use Rattle.table_walk.specs.Tables.{leaf_node, Tables}
use Rattle.user_copy.specs.CopyModel.{copy_progress, environment_with}
use Rattle.user_copy.specs.CopyOfProcess.{AreGranted, HasPut, IsAfterCopy, process_byte, process_bytes, RanShort}
use Rattle.user_copy.specs.ReachedPage.{Reaches, served_of}
use Rattle.user_copy.specs.Runs.{IsRead, Puts}
use Rattle.user_copy.specs.declared.short.Stop.{Stop}
use Rattle.user_copy.specs.declared.short.Stop.TheVariants.{Denied, Unpromised}
use Rattle.user_copy.proofs.OtherCopies.{made_alike}
use Rattle.user_copy.proofs.ProcessBytes.{bytes_same, bytes_split, made_byte, put_other, put_run, run_bytes}
use Rattle.user_copy.proofs.Reached.{allowed, can}

-- a read of a page changes no file

reads_from : (fs : List File) (s : Source) (files : List File) (at : ℕ) → files_after fs (moves_from files s at) ≡ fs
reads_from fs zeros files at = refl
reads_from fs image files at = refl
reads_from fs (file n offset) files at = refl

reads_for : (fs files : List File) (r : Option Region) (o : Option Page) (page : ℕ) → files_after fs (moves_for files r o page) ≡ fs
reads_for fs files None o page = refl
reads_for fs files (Some r) None page = reads_from fs r.source files _
reads_for fs files (Some r) (Some s) page = refl

pub only_reads : (fs files : List File) (p : Process) (page : ℕ) (o : Option Rule) → files_after fs (served_moves files p page o) ≡ fs
only_reads fs files p page None = reads_for fs files (region_on p page) (get p.settled page) page
only_reads fs files p page (Some r) = refl

-- a resident page needs no frame

needs_none : (shared : Bool) (p : Process) (access : Access) (page : ℕ) (o : Option Page) → is_resident_page access (region_on p page) o ≡ true → resident_need_of shared p access page o ≡ 0
needs_none shared p access page None is = absurd (cc)
needs_none shared p access page (Some s) is = ap (λ (b : Bool). unless_through (parts_from shared s) b) is

lacks_is_not : (shared : Bool) (p : Process) (access : Access) (page : ℕ) (n : ℕ) → n < resident_need shared p access page → is_resident p access page ≡ false
lacks_is_not shared p access page n less = by (is_resident p access page) refl
  where
    by : (b : Bool) → is_resident p access page ≡ b → is_resident p access page ≡ false
    by false is = is
    by true is = let none = needs_none shared p access page (get p.settled page) is in absurd (omega (arith, less, none))

-- and is left as it is
resident_same : (files : List File) (fresh : ℕ) (shared : Bool) (p : Process) (access : Access) (page : ℕ) (o : Option Page) → is_resident_page access (region_on p page) o ≡ true → made_resident_from files fresh shared p access page o ≡ p
resident_same files fresh shared p access page None is = absurd (cc)
resident_same files fresh shared p access page (Some s) is = ap (λ (b : Bool). taken_over_unless fresh shared p page s b) is

-- a page needs most if it counts as one that another process has
need_most : (shared : Bool) (p : Process) (access : Access) (page : ℕ) → resident_need shared p access page ≤ resident_need true p access page
need_most shared p access page = by (get p.settled page)
  where
    unless : (x y z : Bool) → (x ≡ true → y ≡ true) → unless_through x z ≤ unless_through y z
    unless x y true more = omega arith
    unless false y false more = omega arith
    unless true true false more = omega arith
    unless true false false more = absurd (let is = more refl in cc)

    both : (mark shared : Bool) → (mark && shared) ≡ true → (mark && true) ≡ true
    both true shared is = refl
    both false shared is = is

    by : (o : Option Page) → resident_need_of shared p access page o ≤ resident_need_of true p access page o
    by None = omega arith
    by (Some s) = unless (parts_from shared s) (parts_from true s) (can_complete access (region_on p page) s) (both s.cow shared)

-- a resident page is settled
settled_there : (access : Access) (p : Process) (page : ℕ) (o : Option Page) → get p.settled page ≡ o → is_resident_page access (region_on p page) o ≡ true → (s : Page) × (get p.settled page ≡ Some s)
settled_there access p page None there is = absurd (cc)
settled_there access p page (Some s) there is = (s, there)

-- the regions after a copy
pub regions_after : (access : Access) (address n : ℕ) (p q : Process) → IsAfterCopy access address n p q → regions q ≡ regions p
regions_after access address n p q after =
    λ i. let x : Process = record p { parts = after.parts i; mappings = after.mappings i; heap_base = after.heap_base i; size = after.size i } in regions x

module _ {Seat Frames Cabinet : Type 0} (l : StoreModel Seat Frames Cabinet) (comes : (x y : Cabinet) (ms : List PageMove) → l.becomes x ms y → l.files y ≡ files_after (l.files x) ms)
    (start : Moment Seat Frames Cabinet) (p : Process) (access : Access) (address : ℕ) where
  abbrev files : List File
  files = l.files start.files

  -- the space is at the moment b the process after a copy of n bytes, of which these were put
  pub record Stands (n : ℕ) (sent : List ℕ) (b : Moment Seat Frames Cabinet) : Type 0 where
    pub tables : Tables
    pub progress : Progress
    pub space : IsSpace (body_at l b) tables progress.process
    pub same_files : l.files b.files ≡ files
    pub after : IsAfterCopy access address n p progress.process
    pub bytes : HasPut files address sent p progress.process

  -- the copy came as far as the moment a, over n bytes that were granted, and the free count was never read as 0
  pub record SoFar (n : ℕ) (sent : List ℕ) (a : Moment Seat Frames Cabinet) : Type 0 where
    pub stands : Stands n sent a
    pub open stands use *
    pub zeros : (l.view a.space.seat).tallies.zeros ≡ (l.view start.space.seat).tallies.zeros
    pub granted : AreGranted p access address n

  abbrev pub begun : (t : Tables) → IsSpace (body_at l start) t p → SoFar 0 [] start
  begun t space = record {
    stands = record {
      tables = t;
      progress = copy_progress p;
      space = space;
      same_files = refl;
      after = record {
        scheme = refl;
        parts = refl;
        mappings = refl;
        heap_base = refl;
        size = refl;
        resident = λ k less. absurd (omega (arith, less));
        others = λ page apart. refl;
      };
      bytes = record { put = refl; others = λ at aside. refl };
    };
    zeros = refl;
    granted = λ k less. absurd (omega (arith, less));
  }

  module _ (n : ℕ) (sent : List ℕ) (a : Moment Seat Frames Cabinet) (c : SoFar n sent a) (b : Moment Seat Frames Cabinet) where
    abbrev at : ℕ
    at = address + n

    abbrev g : Progress
    g = c.progress

    abbrev q : Process
    q = g.process

    -- the rule at an address is that of the process before the call
    rule_kept : (x : ℕ) → copy_rule q.scheme (regions q) access x ≡ copy_rule p.scheme (regions p) access x
    rule_kept x = ap₂ (λ z rs. copy_rule z rs access x) c.after.scheme (regions_after access address n p q c.after)

    files_on : (o : Option Rule) → l.becomes a.files (served_moves (l.files a.files) q (page_of at) o) b.files → l.files b.files ≡ files
    files_on o moves = comes a.files b.files _ moves ∙ only_reads (l.files a.files) (l.files a.files) q (page_of at) o ∙ c.same_files

    -- the next page is reached, for m bytes of it

    module _ (e : Reaches l a b access at (Ok tt)) (m : ℕ) (some : 0 < m) (fits : at % 4096 + m ≤ 4096) where
      in_page : (k : ℕ) → n ≤ k → k < n + m → page_of (address + k) ≡ page_of at
      in_page k le less = omega (arith, le, less, fits)

      reached_after : (j : Process) → SettlesPage access (page_of at) q j → IsAfterCopy access address (n + m) p j
      reached_after j settles = record {
        scheme = settles.scheme ∙ c.after.scheme;
        parts = settles.parts ∙ c.after.parts;
        mappings = settles.mappings ∙ c.after.mappings;
        heap_base = settles.heap_base ∙ c.after.heap_base;
        size = settles.size ∙ c.after.size;
        resident = resident;
        others = λ page apart. settles.others page (λ same. apart n (omega (arith, some)) same) ∙ c.after.others page (λ k less same. apart k (omega (arith, less)) same);
      }
        where
          stays : (page : ℕ) → (page ≡ page_of at → ⊥) → is_resident q access page ≡ true → is_resident j access page ≡ true
          stays page apart is = ap₂ (λ rs o. is_resident_page access (region_at rs page) o) settles.regions (settles.others page apart) ∙ is

          resident : (k : ℕ) → k < n + m → is_resident j access (page_of (address + k)) ≡ true
          resident k less = elim (cases_eq (page_of (address + k)) (page_of at)) [
            | inl same ↦ ap (is_resident j access) same ∙ settles.resident
            | inr apart ↦ elim (cases_lt k n) [
              | inl before ↦ stays (page_of (address + k)) apart (c.after.resident k before)
              | inr behind ↦ absurd (apart (in_page k behind less))
            ]
          ]

      reached_granted : AreGranted p access address (n + m)
      reached_granted k less = elim (cases_lt k n) [
        | inl before ↦ c.granted k before
        | inr behind ↦
            sym (rule_kept (address + k)) ∙ same_rule q.scheme (regions q) access (address + k) at (in_page k behind less) ∙ allowed l a b access at e c.tables q c.space
      ]

      -- the model's next progress

      abbrev shared : Bool
      shared = is_shared_page (environment_with files (λ page need. false)) q (page_of at)

      abbrev made : Process
      made = made_resident files g.fresh shared q access (page_of at)

      abbrev next_if : Bool → Progress
      next_if true = g
      next_if false =
          record { process = made; fresh = g.fresh + 1; taken = g.taken + need_at (environment_with files (λ page need. false)) access (page_of at) q }

      abbrev next : Progress
      next = next_if (is_resident q access (page_of at))

      next_is : (b : Bool) → is_resident q access (page_of at) ≡ b → (next_if b).process ≡ made
      next_is true is = sym (resident_same files g.fresh shared q access (page_of at) (get q.settled (page_of at)) is)
      next_is false is = refl

      next_made : next.process ≡ made
      next_made = next_is (is_resident q access (page_of at)) refl

      reached_next : (dry : ℕ → ℕ → Bool) → ((need : ℕ) → dry (page_of at) need ≡ false) → reached_in (environment_with files dry) access g at ≡ Ok next
      unfolding resident_at
      reached_next dry calm = ap (resident_at_address (environment_with files dry) access at g) (allowed l a b access at e c.tables q c.space) ∙ by (is_resident q access (page_of at))
        where
          by : (b : Bool) → unless_resident (environment_with files dry) access (page_of at) g b ≡ Ok (next_if b)
          by true = refl
          by false = ap (unless_dry (environment_with files dry) access (page_of at) g (need_at (environment_with files dry) access (page_of at) q)) (calm _)

      next_byte : (x : ℕ) → process_byte files next.process x ≡ process_byte files q x
      next_byte x = ap (λ (z : Process). process_byte files z x) next_made ∙ made_byte files g.fresh shared access (page_of at) q x

      -- how far the copy then came, in the memory and in the model
      pub record ReachedOn : Type 0 where
        pub so_far : SoFar (n + m) sent b
        pub is : (dry : ℕ → ℕ → Bool) → ((need : ℕ) → dry (page_of at) need ≡ false) → reached_in (environment_with files dry) access g at ≡ Ok so_far.progress

      pub reached_on : ReachedOn
      reached_on =
          let r = e.ready refl c.tables q (can l a b access at e c.tables q c.space) in
          let agrees = subst (λ (fs : List File). IsSpace (body_at l b) r.0 (made_resident fs g.fresh (is_shared_by r.1) q access (page_of at))) c.same_files (r.2.agrees g.fresh) in
          record {
            so_far = record {
              stands = record {
                tables = r.0;
                progress = next;
                space = subst (λ (z : Process). IsSpace (body_at l b) r.0 z) (sym next_made) (made_alike (body_at l b) r.0 files g.fresh (is_shared_by r.1) shared q access (page_of at) agrees);
                same_files = files_on (copy_rule q.scheme (regions q) access at) (e.moves (λ x un. cc) c.tables q c.space);
                after = reached_after next.process (subst (λ (z : Process). SettlesPage access (page_of at) q z) (sym next_made) (made_settles files g.fresh shared access (page_of at) q));
                bytes = record {
                  put = bytes_same files q next.process (length sent) address (λ x less. next_byte x) ∙ c.bytes.put;
                  others = λ x aside. next_byte x ∙ c.bytes.others x aside;
                };
              };
              zeros = ap (λ (z : Tallies). z.zeros) r.2.takes.tallies ∙ c.zeros;
              granted = reached_granted;
            };
            is = reached_next;
          }

    -- the copy is stopped by s at the next page
    pub record StopsHere (s : Stop) : Type 0 where
      pub denied : (r : Rule) → s ≡ Denied r → r ≢ NoFrame → copy_rule p.scheme (regions p) access at ≡ Some r
      pub dry : s ≡ Denied NoFrame → (copy_rule p.scheme (regions p) access at ≡ None) × (is_resident p access (page_of at) ≡ false)
      pub unpromised : (x : Refusal) → s ≡ Unpromised x → (copy_rule p.scheme (regions p) access at ≡ None) × (0 < length (resident_reads files p (page_of at)))
      pub left : Stands n sent b
      pub same : left.progress ≡ g
      pub not_ready : s ≡ Denied NoFrame → is_resident q access (page_of at) ≡ false
      pub halts : (dry : ℕ → ℕ → Bool) (r : Rule) → s ≡ Denied r → (r ≡ NoFrame → (need : ℕ) → dry (page_of at) need ≡ true) → reached_in (environment_with files dry) access g at ≡ Err r
      pub short : s ≡ Denied NoFrame → RanShort (l.view start.space.seat) (l.view b.space.seat) left.progress.process access (page_of at)
      pub free : s ≡ Denied NoFrame → l.alone → l.free b.store < resident_need true left.progress.process access (page_of at)

    -- the page is one that the copy did not come to before
    not_before : (0 < n → at % 4096 ≡ 0) → get q.settled (page_of at) ≡ get p.settled (page_of at)
    not_before edge = c.after.others (page_of at) (λ k less same. let end = edge (omega (arith, less)) in absurd (omega (arith, end, less, same)))

    left_space : (s : Stop) → Reaches l a b access at (Err s) → IsSpace (body_at l b) c.tables q
    left_space (Denied r) e = e.whole r refl c.tables q c.space
    left_space (Unpromised x) e =
        subst (λ y. IsSpace y c.tables q) (same_body l.view a.space b.space (sym (e.stays (λ is. cc, λ is. cc)).view) (sym e.place.root) (sym e.place.trapframe) (sym e.place.layout)) c.space

    left_files : (s : Stop) → Reaches l a b access at (Err s) → l.files b.files ≡ files
    left_files (Denied r) e = files_on (copy_rule q.scheme (regions q) access at) (e.moves (λ x un. cc) c.tables q c.space)
    left_files (Unpromised x) e = comes a.files b.files [] (e.files_stay x refl) ∙ c.same_files

    module _ (s : Stop) (e : Reaches l a b access at (Err s)) (edge : 0 < n → at % 4096 ≡ 0) where
      abbrev rule_here : Option Rule
      rule_here = copy_rule q.scheme (regions q) access at

      end_is : (z : Stop) → s ≡ z → served_of (Err s) ≡ served_of (Err z)
      end_is z is = ap (λ (x : Stop). let r : Result (Unit {0}) Stop = Err x in served_of r) is

      same_end : (x y : Rule) → ◌≡◌ {A = Served} (served.Ended x) (served.Ended y) → x ≡ y
      same_end x y is = cc

      denied_by : (o : Option Rule) → IsEnd o (served_of (Err s)) → (r : Rule) → s ≡ Denied r → r ≢ NoFrame → o ≡ Some r
      denied_by None end r is apart = absurd (apart (end r (end_is (Denied r) is)))
      denied_by (Some x) end r is apart = ap Some (same_end x r (sym end ∙ end_is (Denied r) is))

      dry_by : (o : Option Rule) → rule_here ≡ o → IsEnd o (served_of (Err s)) → s ≡ Denied NoFrame → rule_here ≡ None
      dry_by None here end is = here
      dry_by (Some x) here end is =
          absurd (denied_otherwise q.scheme (regions q) access at 1 (no_alignment q.scheme (regions q) access at ∙ here ∙ ap Some (same_end x NoFrame (sym end ∙ end_is (Denied NoFrame) is))))

      unpromised_by : (o : Option Rule) → rule_here ≡ o → IsEnd o (served_of (Err s)) → (x : Refusal) → s ≡ Unpromised x → rule_here ≡ None
      unpromised_by None here end x is = here
      unpromised_by (Some r) here end x is = absurd (let both = sym end ∙ end_is (Unpromised x) is in cc)

      abbrev ended : IsEnd rule_here (served_of (Err s))
      ended = e.ended c.tables q c.space

      module _ (is : s ≡ Denied NoFrame) where
        can_here : CanMakeResident (body_at l a) c.tables q access (page_of at)
        can_here = can_reside (body_at l a) c.tables q access at 1 c.space (no_alignment q.scheme (regions q) access at ∙ dry_by rule_here refl ended is)

        ran_short : RanShort (l.view start.space.seat) (l.view b.space.seat) q access (page_of at)
        ran_short =
            let d = e.dry (end_is (Denied NoFrame) is) c.tables q can_here in
            let zeros = d.2.zeros in
            let before = c.zeros in
            record { count = d.0; counted = d.1; zeros = omega (arith, zeros, before); short = d.2.short }

        not_ready : is_resident q access (page_of at) ≡ false
        not_ready = lacks_is_not (is_shared_by ran_short.count) q access (page_of at) _ ran_short.short

        not_resident : is_resident p access (page_of at) ≡ false
        not_resident =
            ap₂ (λ rs o. is_resident_page access (region_at rs (page_of at)) o) (sym (regions_after access address n p q c.after)) (sym (not_before edge)) ∙ not_ready

        -- whether the page's frame has a count other than 1, by the word of its leaf
        abbrev shared_at : Option ℕ → Bool
        shared_at None = true
        shared_at (Some w) = not (l.count a.store (ppn w - ppn_of 0) == 1)

        tells : (o : Option ℕ) → finite.get c.tables.leaves (leaf_node (page_of at)) ≡ o → (f : ℕ) → IsFrameOfPage c.tables (page_of at) f → shared_at o ≡ not (l.count a.store f == 1)
        tells None none f (w, is, on) = absurd (let both = sym none ∙ is in cc)
        tells (Some x) some f (w, is, on) =
            let same : x ≡ w = same_Some x w (sym some ∙ is) in
            let place : ppn w - ppn_of 0 ≡ f = omega (arith, on) in
            ap (λ (g : ℕ). not (l.count a.store g == 1)) (ap (λ (y : ℕ). ppn y - ppn_of 0) same ∙ place)

        too_few : l.alone → l.free b.store < resident_need true q access (page_of at)
        too_few alone =
            let o = finite.get c.tables.leaves (leaf_node (page_of at)) in
            let told = tells o refl in
            let less = e.short alone c.tables q (shared_at o) can_here told (end_is (Denied NoFrame) is) in
            let stays = e.free alone c.tables q (shared_at o) can_here told in
            let most = need_most (shared_at o) q access (page_of at) in
            let none : (if is_ready (served_of (Err s)) then resident_need (shared_at o) q access (page_of at) else 0) ≡ 0
            = ap (λ (z : Stop). let r : Result (Unit {0}) Stop = Err z in if is_ready (served_of r) then resident_need (shared_at o) q access (page_of at) else 0) is in
            omega (arith, less, stays, most, none)

      halts_by : (dry : ℕ → ℕ → Bool) (r : Rule) (o : Option Rule) → rule_here ≡ o → IsEnd o (served_of (Err s)) → s ≡ Denied r → (r ≡ NoFrame → (need : ℕ) → dry (page_of at) need ≡ true)
          → resident_at_address (environment_with files dry) access at g o ≡ Err r
      unfolding resident_at
      halts_by dry r (Some x) here end is dries = ap (λ (y : Rule). let z : Result Progress Rule = Err y in z) (same_end x r (sym end ∙ end_is (Denied r) is))
      halts_by dry r None here end is dries =
          let none = end r (end_is (Denied r) is) in
          ap (unless_resident (environment_with files dry) access (page_of at) g) (not_ready (is ∙ ap Denied none))
          ∙ ap (unless_dry (environment_with files dry) access (page_of at) g (need_at (environment_with files dry) access (page_of at) q)) (dries none _)
          ∙ ap (λ (y : Rule). let z : Result Progress Rule = Err y in z) (sym none)

      pub stops_here : StopsHere s
      stops_here = record {
        denied = λ r is apart. sym (rule_kept at) ∙ denied_by rule_here ended r is apart;
        dry = λ is. (sym (rule_kept at) ∙ dry_by rule_here refl ended is, not_resident is);
        unpromised = λ x is.
            let none = unpromised_by rule_here refl ended x is in (
              sym (rule_kept at) ∙ none,
              subst (λ (ms : List PageMove). 0 < length ms) (reads_kept x is none) (e.of_file x (end_is (Unpromised x) is) c.tables q c.space),
            );
        left = record { tables = c.tables; progress = g; space = left_space s e; same_files = left_files s e; after = c.after; bytes = c.bytes };
        same = refl;
        not_ready = not_ready;
        halts = λ dry r is dries. halts_by dry r rule_here refl ended is dries;
        short = ran_short;
        free = too_few;
      }
        where
          reads_kept : (x : Refusal) → s ≡ Unpromised x → rule_here ≡ None → served_moves (l.files a.files) q (page_of at) rule_here ≡ resident_reads files p (page_of at)
          reads_kept x is none =
              ap (served_moves (l.files a.files) q (page_of at)) none
              ∙ ap (λ (fs : List File). resident_reads fs q (page_of at)) c.same_files
              ∙ ap₂ (λ (rs : List Region) (o : Option Page). moves_for files (region_at rs (page_of at)) o (page_of at)) (regions_after access address n p q c.after) (not_before edge)

  -- bytes were read, which changes nothing

  module _ (n : ℕ) (sent : List ℕ) (b : Moment Seat Frames Cabinet) (c : SoFar n sent b) (d : Moment Seat Frames Cabinet) where
    abbrev pub read_on : (place m : ℕ) (got : List ℕ) → IsRead l b d place m got → SoFar n sent d
    read_on place m got read = record {
      stands = record {
        tables = c.tables;
        progress = c.progress;
        space = subst (λ y. IsSpace y c.tables c.progress.process) (same_body l.view b.space d.space (sym read.view) (sym read.root) (sym read.trapframe) (sym read.layout)) c.space;
        same_files = ap l.files read.files ∙ c.same_files;
        after = c.after;
        bytes = c.bytes;
      };
      zeros = ap (λ (v : View). v.tallies.zeros) read.view ∙ c.zeros;
      granted = c.granted;
    }

    -- what was read of a page that was reached
    pub record ReadPage (place m : ℕ) (got : List ℕ) : Type 0 where
      pub page : Page
      pub there : get c.progress.process.settled (page_of place) ≡ Some page
      pub whole : length page.bytes ≡ 4096
      pub is : got ≡ take m (drop (place % 4096) page.bytes)
      pub bytes : got ≡ process_bytes files c.progress.process place m

    -- k bytes from the beginning of the copy
    pub read_page : (k m : ℕ) (got : List ℕ) → k < n → (address + k) % 4096 + m ≤ 4096 → IsRead l b d (address + k) m got → ReadPage (address + k) m got
    read_page k m got less fits read =
        let h = c.progress.process in
        let there = settled_there access h (page_of (address + k)) (get h.settled (page_of (address + k))) refl (c.after.resident k less) in
        let shown = c.space.stands.shows.settled (page_of (address + k)) there.0 there.1 in
        let is = read.bytes c.tables h there.0 (record { agrees = c.space; settled = there.1 }) in
        record {
          page = there.0;
          there = there.1;
          whole = (shown.bytes).length;
          is = is;
          bytes = is ∙ run_bytes files h (address + k) m there.0 there.1 (shown.bytes).length fits;
        }

module _ {Seat Frames Cabinet : Type 0} (l : StoreModel Seat Frames Cabinet) (comes : (x y : Cabinet) (ms : List PageMove) → l.becomes x ms y → l.files y ≡ files_after (l.files x) ms)
    (start : Moment Seat Frames Cabinet) (p : Process) (address n : ℕ) (sent : List ℕ) (long : n ≡ length sent) (given : List ℕ) (some : 0 < length given) (fits : (address + n) % 4096 + length given ≤ 4096)
    (b d : Moment Seat Frames Cabinet) (c : SoFar l comes start p Store address (n + length given) sent b) (puts : Puts l b d (address + n) given) where
  abbrev to : ℕ
  to = address + n

  abbrev held : Process
  held = c.progress.process

  abbrev resident_page : (s : Page) × (get held.settled (page_of to) ≡ Some s)
  resident_page = settled_there Store held (page_of to) (get held.settled (page_of to)) refl (c.after.resident n (omega (arith, some)))

  abbrev s : Page
  s = resident_page.0

  there : get held.settled (page_of to) ≡ Some s
  there = resident_page.1

  whole : length s.bytes ≡ 4096
  whole = let shown = c.space.stands.shows.settled (page_of to) s there in (shown.bytes).length

  can_write : CanWrite (body_at l b) c.tables held (page_of to) s
  can_write =
      let granted = ap₂ (λ z rs. copy_rule z rs Store to) c.after.scheme (regions_after Store address (n + length given) p held c.after) ∙ c.granted n (omega (arith, some)) in
      let can = can_reside (body_at l b) c.tables held Store to 1 c.space (no_alignment held.scheme (regions held) Store to ∙ granted) in
      let goes = ap (is_resident_page Store (region_on held (page_of to))) (sym there) ∙ c.after.resident n (omega (arith, some)) in
      record {
        read = record { agrees = c.space; settled = there };
        unmarked = not-true s.cow (and_parts (not s.cow) (s.dirty || not (keeps_stores (region_on held (page_of to)))) goes).0;
        region = can.region;
        in_region = can.in_region;
        writes = not-false (can.region).writes can.right;
      }

  abbrev j : Process
  j = with_page held (page_of to) (stored s (to % 4096) given)

  put_after : IsAfterCopy Store address (n + length given) p j
  put_after = record {
    scheme = c.after.scheme;
    parts = c.after.parts;
    mappings = c.after.mappings;
    heap_base = c.after.heap_base;
    size = c.after.size;
    resident = λ k less. elim (cases_eq (page_of (address + k)) (page_of to)) [
      | inl same ↦
          ap (is_resident j Store) same ∙ stays_resident Store (page_of to) s (stored s (to % 4096) given).bytes held there (c.after.resident n (omega (arith, some)))
      | inr apart ↦
          ap (is_resident_page Store (region_on held (page_of (address + k)))) (inserted_other (page_of to) (stored s (to % 4096) given) held.settled (page_of (address + k)) apart) ∙ c.after.resident k less
    ];
    others = λ page apart. inserted_other (page_of to) (stored s (to % 4096) given) held.settled page (apart n (omega (arith, some))) ∙ c.after.others page apart;
  }

  put_bytes : HasPut (l.files start.files) address (sent ++ given) p j
  put_bytes =
      let fs = l.files start.files in
      let both = length-append sent given in
      let place : address + length sent ≡ to = omega (arith, long) in
      record {
        put = ap (process_bytes fs j address) both
            ∙ bytes_split fs j address (length sent) (length given)
            ∙ ap₂ (λ xs ys. xs ++ ys)
            (bytes_same fs held j (length sent) address (λ x less. put_other fs held to s there whole given fits x (inl (omega (arith, less, long)))) ∙ c.bytes.put)
            (ap (λ x. process_bytes fs j x (length given)) place ∙ put_run fs held to s there whole given fits);
        others = others;
      }
    where
      others : (x : ℕ) → (x < address) ⊎ (address + length (sent ++ given) ≤ x) → process_byte (l.files start.files) j x ≡ process_byte (l.files start.files) p x
      others x (inl less) = put_other (l.files start.files) held to s there whole given fits x (inl (omega (arith, less))) ∙ c.bytes.others x (inl less)
      others x (inr past) =
          let both = length-append sent given in
          put_other (l.files start.files) held to s there whole given fits x (inr (omega (arith, past, both, long))) ∙ c.bytes.others x (inr (omega (arith, past, both)))

  -- how far the copy then came, in the memory and in the model
  pub record PutOn : Type 0 where
    pub so_far : SoFar l comes start p Store address (n + length given) (sent ++ given) d
    pub page : Page
    pub there : get held.settled (page_of to) ≡ Some page
    pub whole : length page.bytes ≡ 4096
    pub is : so_far.progress ≡ record c.progress { process = with_page held (page_of to) (stored page (to % 4096) given) }

  pub put_on : PutOn
  put_on = record {
    so_far = record {
      stands = record {
        tables = c.tables;
        progress = record c.progress { process = j };
        space = puts.agrees c.tables held s can_write;
        same_files = ap l.files puts.files ∙ c.same_files;
        after = put_after;
        bytes = put_bytes;
      };
      zeros = ap (λ (z : Tallies). z.zeros) puts.takes.tallies ∙ c.zeros;
      granted = c.granted;
    };
    page = s;
    there = there;
    whole = whole;
    is = refl;
  }
