-- Lemmas for one page of a kernel copy, over any store and any files: how far the copy has come agrees with the model
-- (`Under`); the page is then reached (`Reached`), or stopped by a rule or for lack of frames (`Stopped`), or not promised
-- by the files, with nothing changed. A resident page takes no frame.
use Rattle.std.proofs.Common.{◌≡◌, ℕ, ◌+◌, ◌<◌, Bool, true, false, Option, None, Some, Result, Ok, Err, List, [], ◌++◌, append_assoc, refl, ap, sym, subst, ◌∙◌, arith}
use Rattle.std.proofs.lemmas.List.{append-nil}
use Rattle.std.specs.Prelude.{is_some, option_to_list}
use Rattle.address_space.specs.Agreement.{Body, IsSpace}
use Rattle.fault_rules.proofs.Allowed.{can_reside, denied_otherwise}
use Rattle.fault_rules.specs.MadeResident.{CanMakeResident, is_counted, is_shared_by}
use Rattle.fault_rules.specs.PageService.{body_at, Moment, StoreModel}
use Rattle.fault_rules.specs.Serves.{IsEnd, served_moves}
use Rattle.fault_rules.specs.declared.service.Served.{Served}
use Rattle.fault_rules.specs.declared.service.Served.TheVariants as served
use Rattle.frame_store.specs.View.{Tallies}
use Rattle.hart_calls.specs.ShortageReports.{WasDry}
use Rattle.hart_calls.specs.Shortages.{is_dry_at, call_environment, Shortage}
use Rattle.hart_calls.proofs.Alike.{made_alike}
use Rattle.hart_calls.proofs.Filing.{served_reads}
use Rattle.process_model.specs.Environment.{Environment, is_shared_page, need_at, Progress, resident_at_address, resident_at, unless_dry, unless_resident}
use Rattle.process_model.specs.Copies.{reached_in}
use Rattle.process_model.specs.Files.{File}
use Rattle.process_model.specs.Frames.{resident_need, resident_need_of, unless_through}
use Rattle.process_model.specs.PageMap.{get}
use Rattle.process_model.specs.PageMoves.{files_after, PageMove}
use Rattle.process_model.specs.Process.{Page, Process, regions}
use Rattle.process_model.proofs.ResidenceLaws.{no_alignment, reached_at_once, resident_again}
use Rattle.process_model.specs.Regions.{copy_rule}
use Rattle.process_model.specs.Residence.{is_resident, is_resident_page, made_resident, made_resident_from, parts_from, region_on, taken_over_unless}
use Rattle.process_model.specs.declared.reply.Refusal.{Refusal}
use Rattle.sv39_entry.specs.Address.{page_of}
use Rattle.sv39_entry.specs.declared.access.Access.{Access}
use Rattle.sv39_entry.specs.declared.rule.Rule.{Rule}
use Rattle.sv39_entry.specs.declared.rule.Rule.TheVariants as rule
use Rattle.table_walk.specs.Tables.{Tables}
use Rattle.user_copy.specs.ReachedPage.{Reaches}
use Rattle.user_copy.specs.declared.short.Stop.TheVariants.{Denied, Unpromised}

-- a resident page is left as it is, and takes nothing

module _ (files : List File) (fresh : ℕ) (c : Bool) (p : Process) (kind : Access) (page : ℕ) where
  same_from : (o : Option Page) → is_resident_page kind (region_on p page) o ≡ true → made_resident_from files fresh c p kind page o ≡ p
  same_from None is = absurd (cc)
  same_from (Some s) is = ap (λ (b : Bool). taken_over_unless fresh c p page s b) is

  pub resident_same : is_resident p kind page ≡ true → made_resident files fresh c p kind page ≡ p
  resident_same is = same_from (get p.settled page) is

  none_from : (o : Option Page) → is_resident_page kind (region_on p page) o ≡ true → resident_need_of c p kind page o ≡ 0
  none_from None is = absurd (cc)
  none_from (Some s) is = ap (λ (b : Bool). unless_through (parts_from c s) b) is

  pub resident_takes : is_resident p kind page ≡ true → resident_need c p kind page ≡ 0
  resident_takes is = none_from (get p.settled page) is

module _ {Seat Frames Cabinet : Type 0} (l : StoreModel Seat Frames Cabinet)
    (goes : (x y z : Cabinet) (ms ns : List PageMove) → l.becomes x ms y → l.becomes y ns z → l.becomes x (ms ++ ns) z) (comes : (x y : Cabinet) (ms : List PageMove) → l.becomes x ms y → l.files y ≡ files_after (l.files x) ms)
    (start : Moment Seat Frames Cabinet) (w : Shortage) where
  abbrev pub files : List File
  files = l.files start.files

  abbrev pub around : Environment
  around = call_environment files w

  abbrev tallies : Moment Seat Frames Cabinet → Tallies
  tallies a = (l.view a.space.seat).tallies

  -- the copy came so far: these pages were read, the needs that were met are so many frames, and these counts were read
  pub record Under (a : Moment Seat Frames Cabinet) (g : Progress) (ms : List PageMove) (met : ℕ) (counts : List ℕ) : Type 0 where
    pub tables : Tables
    pub space : IsSpace (body_at l a) tables g.process
    pub moves : l.becomes start.files ms a.files
    pub same : l.files a.files ≡ files
    pub zeros : (tallies a).zeros ≡ (tallies start).zeros
    pub claims : (tallies a).claims ≡ (tallies start).claims + met
    pub looks : (tallies a).looks ≡ (tallies start).looks ++ counts

  -- more counts were read
  looks_on : (counts : List ℕ) (a : Moment Seat Frames Cabinet) → (tallies a).looks ≡ (tallies start).looks ++ counts → (more : List ℕ) (b : Moment Seat Frames Cabinet) → (tallies b).looks ≡ (tallies a).looks ++ more
      → (tallies b).looks ≡ (tallies start).looks ++ (counts ++ more)
  looks_on counts a before more b looks = looks ∙ ap (λ (xs : List ℕ). xs ++ more) before ∙ append_assoc (tallies start).looks counts more

  -- a page of it is come to

  module _ (a : Moment Seat Frames Cabinet) (g : Progress) (ms : List PageMove) (met : ℕ) (counts : List ℕ) (u : Under a g ms met counts) (b : Moment Seat Frames Cabinet) (kind : Access) (address : ℕ) where
    abbrev page : ℕ
    page = page_of address

    abbrev rule_here : Option Rule
    rule_here = copy_rule g.process.scheme (regions g.process) kind address

    abbrev pub reads : List PageMove
    reads = served_moves files g.process page rule_here

    pub record Reached (j : Progress) : Type 0 where
      pub is : reached_in around kind g address ≡ Ok j
      pub count : Option ℕ
      pub counted : is_some count ≡ is_counted kind (get g.process.settled page)
      pub under : Under b j (ms ++ reads) (met + resident_need (is_shared_by count) g.process kind page) (counts ++ option_to_list count)

    can_be : rule_here ≡ None → CanMakeResident (body_at l a) u.tables g.process kind page
    can_be none = can_reside (body_at l a) u.tables g.process kind address 1 u.space (no_alignment g.process.scheme (regions g.process) kind address ∙ none)

    moved_by : l.becomes a.files (served_moves (l.files a.files) g.process page rule_here) b.files → l.becomes start.files (ms ++ reads) b.files
    moved_by m = goes start.files a.files b.files ms reads u.moves (subst (λ (fs : List File). l.becomes a.files (served_moves fs g.process page rule_here) b.files) u.same m)

    still_by : l.becomes a.files (served_moves (l.files a.files) g.process page rule_here) b.files → l.files b.files ≡ files
    still_by m = comes a.files b.files (served_moves (l.files a.files) g.process page rule_here) m ∙ served_reads (l.files a.files) (l.files a.files) g.process page rule_here ∙ u.same

    module _ (e : Reaches l a b kind address (Ok tt)) (calm : is_dry_at w page ≡ false) where
      none_rule : (o : Option Rule) → IsEnd o served.Ready → o ≡ None
      none_rule None end = refl
      none_rule (Some r) end = absurd (cc)

      none : rule_here ≡ None
      none = none_rule rule_here (e.ended u.tables g.process u.space)

      made : (j : Progress) × (reached_in around kind g address ≡ Ok j) × ((t : Tables) (c : Bool) → ((fresh : ℕ) → IsSpace (body_at l b) t (made_resident files fresh c g.process kind page)) → IsSpace (body_at l b) t j.process)
      unfolding resident_at
      made = go (is_resident g.process kind page) refl
        where
          go : (z : Bool) → is_resident g.process kind page ≡ z
              → (j : Progress) × (reached_in around kind g address ≡ Ok j) × ((t : Tables) (c : Bool) → ((fresh : ℕ) → IsSpace (body_at l b) t (made_resident files fresh c g.process kind page)) → IsSpace (body_at l b) t j.process)
          go true resident = (
            g,
            reached_at_once around kind g address none (resident_again around kind page g resident),
            λ t c space. subst (λ (p : Process). IsSpace (body_at l b) t p) (resident_same files 0 c g.process kind page resident) (space 0),
          )
          go false not = (
            _,
            ap (resident_at_address around kind address g) none ∙ ap (unless_resident around kind page g) not ∙ ap (unless_dry around kind page g (need_at around kind page g.process)) calm,
            λ t c space. made_alike (body_at l b) t files g.fresh c (is_shared_page around g.process page) g.process kind page (space g.fresh),
          )

      pub reaches : (j : Progress) × Reached j
      reaches =
          let r = e.ready refl u.tables g.process (can_be none) in
          let m = e.moves (λ x un. cc) u.tables g.process u.space in
          let space : (fresh : ℕ) → IsSpace (body_at l b) r.0 (made_resident files fresh (is_shared_by r.1) g.process kind page) = λ fresh. subst (λ (fs : List File). IsSpace (body_at l b) r.0 (made_resident fs fresh (is_shared_by r.1) g.process kind page)) u.same (r.2.agrees fresh) in
          let taken = ap (λ (z : Tallies). z.claims) r.2.takes.tallies in
          let zeros = ap (λ (z : Tallies). z.zeros) r.2.takes.tallies in
          let looks = ap (λ (z : Tallies). z.looks) r.2.takes.tallies in
          let before = u.claims in (
            made.0,
            record {
              is = made.1;
              count = r.1;
              counted = r.2.counted;
              under = record {
                tables = r.0;
                space = made.2 r.0 (is_shared_by r.1) space;
                moves = moved_by m;
                same = still_by m;
                zeros = zeros ∙ u.zeros;
                claims = omega (arith, taken, before);
                looks = looks_on counts a u.looks (option_to_list r.1) b looks;
              };
            },
          )

    -- it is stopped there by a rule

    -- for want of frames, as the count was read
    abbrev pub DryHere : Type 0
    DryHere =
        (count : Option ℕ) × (is_some count ≡ is_counted kind (get g.process.settled page))
        × WasDry (l.view start.space.seat) (l.view b.space.seat) (resident_need (is_shared_by count) g.process kind page) met (counts ++ option_to_list count)

    module _ (r : Rule) (e : Reaches l a b kind address (Err (Denied r))) (suits : r ≡ rule.NoFrame → is_dry_at w page ≡ true) where
      pub record Stopped : Type 0 where
        pub is : reached_in around kind g address ≡ Err r
        pub tables : Tables
        pub space : IsSpace (body_at l b) tables g.process
        pub moves : l.becomes start.files (ms ++ reads) b.files
        pub dry : r ≡ rule.NoFrame → DryHere

      same_end : (x y : Rule) → ◌≡◌ {A = Served} (served.Ended x) (served.Ended y) → x ≡ y
      same_end x y is = cc

      stops_as : (o : Option Rule) → rule_here ≡ o → IsEnd o (served.Ended r) → (reached_in around kind g address ≡ Err r) × (r ≡ rule.NoFrame → DryHere)
      unfolding resident_at
      stops_as (Some x) is end = (
        ap (resident_at_address around kind address g) is ∙ ap (λ (y : Rule). let z : Result Progress Rule = Err y in z) (sym (same_end r x end)),
        λ none. absurd (denied_otherwise g.process.scheme (regions g.process) kind address 1 (no_alignment g.process.scheme (regions g.process) kind address ∙ is ∙ ap Some (sym (same_end r x end) ∙ none))),
      )
      stops_as None is end =
          let none = end r refl in
          let d = e.dry (ap served.Ended none) u.tables g.process (can_be is) in
          let short = d.2.short in
          let claims = d.2.claims in
          let before = u.claims in
          let zeros = d.2.zeros in
          let zeros_before = u.zeros in
          let not : is_resident g.process kind page ≡ false = out (is_resident g.process kind page) refl (is_shared_by d.0) short in (
            ap (resident_at_address around kind address g) is ∙ ap (unless_resident around kind page g) not ∙ ap (unless_dry around kind page g (need_at around kind page g.process)) (suits none) ∙ ap (λ (y : Rule). let z : Result Progress Rule = Err y in z) (sym none),
            λ _. (d.0, d.1, record { zeros = omega (arith, zeros, zeros_before); short = short; claims = omega (arith, claims, before); looks = looks_on counts a u.looks (option_to_list d.0) b d.2.looks }),
          )
        where
          out : (z : Bool) → is_resident g.process kind page ≡ z → (c : Bool) → (l.view b.space.seat).tallies.short < resident_need c g.process kind page → is_resident g.process kind page ≡ false
          out false is c short = is
          out true is c short = let nothing = resident_takes files 0 c g.process kind page is in absurd (omega (arith, short, nothing))

      pub stops : Stopped
      stops =
          let both = stops_as rule_here refl (e.ended u.tables g.process u.space) in
          record {
            is = both.0;
            tables = u.tables;
            space = e.whole r refl u.tables g.process u.space;
            moves = moved_by (e.moves (λ x un. cc) u.tables g.process u.space);
            dry = both.1;
          }

    -- or by a page that was not promised, and nothing has changed

    module _ (x : Refusal) (e : Reaches l a b kind address (Err (Unpromised x))) where
      pub left_space : IsSpace (body_at l b) u.tables g.process
      left_space = subst (λ (y : Body). IsSpace y u.tables g.process) (λ i. record { view = seen i; root = (back e.place.root i).0; trapframe = (back e.place.trapframe i).0; layout = back e.place.layout i }) u.space
        where
          back : {T : Type 0} {y z : T} → y ≡ z → z ≡ y
          back is = sym is

          seen : (body_at l a).view ≡ (body_at l b).view
          seen = sym (e.stays ((λ is. cc), (λ is. cc))).view

      pub left_moves : l.becomes start.files ms b.files
      left_moves = subst (λ (ns : List PageMove). l.becomes start.files ns b.files) (append-nil ms) (goes start.files a.files b.files ms [] u.moves (e.files_stay x refl))
