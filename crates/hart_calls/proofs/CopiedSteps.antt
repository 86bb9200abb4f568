-- Lemmas for one run of a kernel copy (its bytes in one page) that is not stopped, over any store and any files: bytes
-- copied and process are the model's, for CopyIn (`ran_in`) and CopyOut (`ran_out`), and other pages are unchanged (`Ran`).
use Rattle.std.proofs.Common.{◌≡◌, ℕ, ◌+◌, ◌<◌, ◌≤◌, ◌%◌, Bool, true, false, not, ◌||◌, None, Some, Ok, List, ◌++◌, length, drop, refl, ap, sym, subst, ◌∙◌, arith}
use Rattle.std.specs.Prelude.{is_some, Option, option_to_list, zip}
use Rattle.std.proofs.lemmas.Bool.{and_parts}
use Rattle.std.proofs.lemmas.List.{append-nil, length-drop, length-take-le}
use Rattle.address_space.specs.Steps.{CanWrite}
use Rattle.fault_rules.proofs.Allowed.{can_reside}
use Rattle.fault_rules.specs.MadeResident.{is_counted, is_shared_by}
use Rattle.fault_rules.specs.PageService.{body_at, Moment, StoreModel}
use Rattle.fault_rules.specs.Serves.{served_moves}
use Rattle.frame_store.specs.View.{Tallies, View}
use Rattle.hart_calls.specs.Shortages.{is_dry_at, Shortage}
use Rattle.hart_calls.proofs.Bodies.{still_space}
use Rattle.hart_calls.proofs.Copied.{around, reaches, Under}
use Rattle.process_model.specs.Environment.{Progress}
use Rattle.process_model.specs.Bytes.{numbers_from}
use Rattle.process_model.proofs.CopyRuns.{more_in, more_out, run_in, run_out, so_far}
use Rattle.process_model.specs.Frames.{resident_need}
use Rattle.process_model.specs.Insertion.{inserted_other}
use Rattle.process_model.specs.PageMap.{get}
use Rattle.process_model.specs.PageMoves.{files_after, PageMove}
use Rattle.process_model.specs.Process.{Page, regions}
use Rattle.process_model.proofs.ResidenceLaws.{granted_again, no_alignment, reached_serves}
use Rattle.process_model.specs.Regions.{copy_rule, keeps_stores}
use Rattle.process_model.specs.Residence.{is_resident, is_resident_page, region_on, stored, with_page}
use Rattle.sv39_entry.specs.Address.{page_of}
use Rattle.sv39_entry.specs.declared.access.Access.{Access}
use Rattle.sv39_entry.specs.declared.access.Access.TheVariants.{Load, Store}
use Rattle.user_copy.specs.ReachedPage.{Reaches}
use Rattle.user_copy.specs.Runs.{IsRead, Puts}

module _ {Seat Frames Cabinet : Type 0} (l : StoreModel Seat Frames Cabinet)
    (goes : (x y z : Cabinet) (ms ns : List PageMove) → l.becomes x ms y → l.becomes y ns z → l.becomes x (ms ++ ns) z) (comes : (x y : Cabinet) (ms : List PageMove) → l.becomes x ms y → l.files y ≡ files_after (l.files x) ms)
    (start : Moment Seat Frames Cabinet) (w : Shortage) where
  -- the page of the run was come to, and the other pages are as they were
  pub record Ran (g : Progress) (ms : List PageMove) (met : ℕ) (counts : List ℕ) (kind : Access) (address : ℕ) (d : Moment Seat Frames Cabinet) (j : Progress) : Type 0 where
    pub same_scheme : j.process.scheme ≡ g.process.scheme
    pub same_regions : regions j.process ≡ regions g.process
    pub others : (n : ℕ) → (n ≡ page_of address → ⊥) → get j.process.settled n ≡ get g.process.settled n
    pub count : Option ℕ
    pub counted : is_some count ≡ is_counted kind (get g.process.settled (page_of address))
    pub under : Under l goes comes start w d j (ms ++ served_moves (l.files start.files) g.process (page_of address) (copy_rule g.process.scheme (regions g.process) kind address)) (met + resident_need (is_shared_by count) g.process kind (page_of address)) (counts ++ option_to_list count)

  module _ (b d : Moment Seat Frames Cabinet) (g : Progress) (ms : List PageMove) (met : ℕ) (counts : List ℕ) (u : Under l goes comes start w b g ms met counts) (address : ℕ) where
    -- its bytes were read

    read_on : (n : ℕ) (got : List ℕ) → IsRead l b d address n got → Under l goes comes start w d g ms met counts
    read_on n got read = record {
      tables = u.tables;
      space = still_space l.view b.space d.space read.view read.root read.trapframe read.layout u.tables g.process u.space;
      moves = subst (λ (f : Cabinet). l.becomes start.files ms f) (sym read.files) u.moves;
      same = ap l.files read.files ∙ u.same;
      zeros = ap (λ (v : View). v.tallies.zeros) read.view ∙ u.zeros;
      claims = ap (λ (v : View). v.tallies.claims) read.view ∙ u.claims;
      looks = ap (λ (v : View). v.tallies.looks) read.view ∙ u.looks;
    }

    -- or bytes were put into it

    is_not : (b : Bool) → not b ≡ true → b ≡ false
    is_not true told = absurd (cc)
    is_not false told = refl

    is_so : (b : Bool) → not b ≡ false → b ≡ true
    is_so true told = refl
    is_so false told = absurd (cc)

    module _ (given : List ℕ) (s : Page) (settled : get g.process.settled (page_of address) ≡ Some s) (resident : is_resident g.process Store (page_of address) ≡ true)
        (allowed : copy_rule g.process.scheme (regions g.process) Store address ≡ None) (put : Puts l b d address given) where
      can_write : CanWrite (body_at l b) u.tables g.process (page_of address) s
      can_write =
          let can = can_reside (body_at l b) u.tables g.process Store address 1 u.space (no_alignment g.process.scheme (regions g.process) Store address ∙ allowed) in
          let through = ap (is_resident_page Store (region_on g.process (page_of address))) (sym settled) ∙ resident in
          record {
            read = record { agrees = u.space; settled = settled };
            unmarked = is_not s.cow (and_parts (not s.cow) (s.dirty || not (keeps_stores (region_on g.process (page_of address)))) through).0;
            region = can.region;
            in_region = can.in_region;
            writes = is_so (can.region).writes can.right;
          }

      put_on : Under l goes comes start w d (record g { process = with_page g.process (page_of address) (stored s (address % 4096) given) }) ms met counts
      put_on =
          let claimed = ap (λ (z : Tallies). z.claims) put.takes.tallies in
          let before = u.claims in record {
            tables = u.tables;
            space = put.agrees u.tables g.process s can_write;
            moves = subst (λ (f : Cabinet). l.becomes start.files ms f) (sym put.files) u.moves;
            same = ap l.files put.files ∙ u.same;
            zeros = ap (λ (z : Tallies). z.zeros) put.takes.tallies ∙ u.zeros;
            claims = omega (arith, claimed, before);
            looks = ap (λ (z : Tallies). z.looks) put.takes.tallies ∙ append-nil (l.view b.space.seat).tallies.looks ∙ u.looks;
          }

  -- what the model tells of a run that is not stopped

  module _ (a b d : Moment Seat Frames Cabinet) (g : Progress) (ms : List PageMove) (met : ℕ) (counts : List ℕ) (u : Under l goes comes start w a g ms met counts) (address : ℕ) (calm : is_dry_at w (page_of address) ≡ false) where
    pub record RanIn (n : ℕ) (done got : List ℕ) : Type 0 where
      pub progress : Progress
      pub is : more_in (around l goes comes start w) (so_far g done None) (numbers_from address n) ≡ so_far progress (done ++ got) None
      pub long : length got ≡ n
      pub ran : Ran g ms met counts Load address d progress

    pub ran_in : (n : ℕ) (done got : List ℕ) → 0 < n → address % 4096 + n ≤ 4096 → Reaches l a b Load address (Ok tt) → IsRead l b d address n got → RanIn n done got
    ran_in n done got some inside e read =
        let to = reaches l goes comes start w a g ms met counts u b Load address e calm in
        let j = to.0 in
        let r = to.1 in
        let serves = reached_serves (around l goes comes start w) Load g j address r.is in
        let s = (serves.settled).0 in
        let there = (serves.settled).1 in
        let whole = (r.under.space.stands.shows.settled (page_of address) s there).bytes.length in
        let told = read.bytes r.under.tables j.process s (record { agrees = r.under.space; settled = there }) in
        let dropped = length-drop (address % 4096) s.bytes in
        record {
          progress = j;
          is = run_in (around l goes comes start w) g j done address n s some inside r.is there whole ∙ ap (λ (bs : List ℕ). so_far j (done ++ bs) None) (sym told);
          long = ap length told ∙ length-take-le n (drop (address % 4096) s.bytes) (omega (arith, dropped, whole, inside));
          ran = record { same_scheme = serves.scheme; same_regions = serves.regions; others = serves.others; count = r.count; counted = r.counted; under = read_on b d j _ _ _ r.under address n got read };
        }

    pub record RanOut (done given : List ℕ) : Type 0 where
      pub progress : Progress
      pub is : more_out (around l goes comes start w) (so_far g done None) (zip (numbers_from address (length given)) given) ≡ so_far progress (done ++ given) None
      pub ran : Ran g ms met counts Store address d progress

    pub ran_out : (done given : List ℕ) → 0 < length given → address % 4096 + length given ≤ 4096 → Reaches l a b Store address (Ok tt) → Puts l b d address given → RanOut done given
    ran_out done given some inside e put =
        let to = reaches l goes comes start w a g ms met counts u b Store address e calm in
        let j = to.0 in
        let r = to.1 in
        let serves = reached_serves (around l goes comes start w) Store g j address r.is in
        let s = (serves.settled).0 in
        let there = (serves.settled).1 in
        let whole = (r.under.space.stands.shows.settled (page_of address) s there).bytes.length in
        record {
          progress = record j { process = with_page j.process (page_of address) (stored s (address % 4096) given) };
          is = run_out (around l goes comes start w) g j done address s given some inside r.is there whole;
          ran = record {
            same_scheme = serves.scheme;
            same_regions = serves.regions;
            others = λ n apart. inserted_other (page_of address) (stored s (address % 4096) given) j.process.settled n apart ∙ serves.others n apart;
            count = r.count;
            counted = r.counted;
            under = put_on b d j _ _ _ r.under address given s there serves.resident (granted_again (around l goes comes start w) Store g j address address r.is refl) put;
          };
        }
