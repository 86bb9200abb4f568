-- Lemmas on the pages that a call neither fork nor exit reads from files: at most two (`reads_few`); the history of the
-- files only grows (`Grew`, `has_grown`); the pages put in the journal entry are those that the model's call reads
-- (`pages_are`).
use Rattle.std.proofs.Common.{◌≡◌, ℕ, zero, suc, ◌+◌, ◌-◌, ◌≤◌, Bool, true, false, List, [], ◌∷◌, ◌++◌, length, map, drop, take, refl, ap, sym, subst, ◌∙◌, arith, Option, None, Some}
use Rattle.std.specs.Prelude.{if◌then◌else◌, nat_le, nat_lt}
use Rattle.std.proofs.lemmas.List.{append-nil, length-append}
use Rattle.address_space.specs.Agreement.{Body}
use Rattle.fault_rules.specs.MadeResident.{moves_for, moves_from}
use Rattle.fault_rules.specs.Serves.{served_moves}
use Rattle.hart_calls.specs.CallKinds.{may_read, moves_read}
use Rattle.hart_calls.specs.CallResults.{address_of, at_stop, by_reply, IsCallResult}
use Rattle.hart_calls.specs.CallOutcomes.{access_reads, request, if_short_reads, in_reads, limit_of, out_reads, reads_below, reads_of, rule_for, writes_of}
use Rattle.hart_calls.specs.Shortages.{initial_progress, refused, call_environment, Shortage}
use Rattle.hart_calls.specs.declared.call_result.CallResult.{CallResult}
use Rattle.hart_calls.specs.declared.call_result.CallResult.TheVariants as call_result
use Rattle.hart_calls.proofs.Journals.{read_since}
use Rattle.process_model.specs.declared.reply.Refusal.{Refusal}
use Rattle.process_model.specs.Bytes.{is_width}
use Rattle.process_model.specs.Copies.{copied_in, copied_out}
use Rattle.process_model.specs.Files.{File}
use Rattle.process_model.specs.PageMap.{get}
use Rattle.process_model.specs.PageMoves.{PageMove}
use Rattle.process_model.specs.Process.{Page, Process, regions}
use Rattle.process_model.specs.Regions.{copy_rule, file, image, Region, Source, zeros}
use Rattle.process_model.specs.Residence.{region_on}
use Rattle.process_model.specs.Service.{AccessRequest}
use Rattle.process_model.specs.declared.call.Call.{Call}
use Rattle.process_model.specs.declared.call.Call.TheVariants as call
use Rattle.sv39_entry.specs.Address.{page_of}
use Rattle.sv39_entry.specs.declared.access.Access.{Access}
use Rattle.sv39_entry.specs.declared.access.Access.TheVariants as access
use Rattle.sv39_entry.specs.declared.rule.Rule.{Rule}
use Rattle.user_copy.specs.Runs.{near, runs, runs_of, some_bytes, some_run}
use Rattle.process_model.specs.declared.limits.TheConstants.{LONGEST_COPY}

-- ---- a call reads two pages at most

from_few : (s : Source) (files : List File) (at : ℕ) → length (moves_from files s at) ≤ 1
from_few zeros files at = omega arith
from_few image files at = omega arith
from_few (file n offset) files at = omega arith

for_few : (files : List File) (r : Option Region) (o : Option Page) (page : ℕ) → length (moves_for files r o page) ≤ 1
for_few files None o page = omega arith
for_few files (Some r) None page = from_few r.source files _
for_few files (Some r) (Some s) page = omega arith

served_few : (files : List File) (p : Process) (page : ℕ) (o : Option Rule) → length (served_moves files p page o) ≤ 1
served_few files p page None = for_few files (region_on p page) (get p.settled page) page
served_few files p page (Some r) = omega arith

module _ (files : List File) (p : Process) where
  if_few : (kind : Access) (at : ℕ) (b : Bool) → length (if b then served_moves files p (page_of at) (copy_rule p.scheme (regions p) kind at) else []) ≤ 1
  if_few kind at true = served_few files p (page_of at) (copy_rule p.scheme (regions p) kind at)
  if_few kind at false = omega arith

  below_few : (kind : Access) (limit : ℕ) (starts : List ℕ) → length (reads_below files p kind limit starts) ≤ length starts
  below_few kind limit [] = omega arith
  below_few kind limit (at ∷ starts) =
      let one = if_few kind at (nat_lt at limit) in
      let rest = below_few kind limit starts in
      omega (arith, one, rest, length-append (if nat_lt at limit then served_moves files p (page_of at) (copy_rule p.scheme (regions p) kind at) else []) (reads_below files p kind limit starts))

  short_few : (moves : List PageMove) (b : Bool) → length moves ≤ 2 → length (if_short_reads moves b) ≤ 2
  short_few moves true few = few
  short_few moves false few = omega arith

  width_few : (a : AccessRequest) (b : Bool) → length (access_reads files p a b) ≤ 2
  width_few a true = let few = served_few files p (page_of a.address) (rule_for p a) in omega (arith, few)
  width_few a false = omega arith

some_few : (address n : ℕ) → length (map (λ r. r.0) (some_run address n)) ≤ 1
some_few address zero = omega arith
some_few address (suc n) = omega arith

both_few : (xs ys : List (ℕ × ℕ)) → length (map (λ r. r.0) xs) ≤ 1 → length (map (λ r. r.0) ys) ≤ 1 → length (map (λ r. r.0) (xs ++ ys)) ≤ 2
both_few [] ys one two = omega (arith, two)
both_few (x ∷ []) ys one two = omega (arith, two)
both_few (x ∷ z ∷ xs) ys one two = absurd (omega (arith, one))

bytes_few : (address : ℕ) (bytes : List ℕ) → length (map (λ r. r.0) (some_bytes address bytes)) ≤ 1
bytes_few address [] = omega arith
bytes_few address (b ∷ bytes) = omega arith

both_given : (xs ys : List (ℕ × List ℕ)) → length (map (λ r. r.0) xs) ≤ 1 → length (map (λ r. r.0) ys) ≤ 1 → length (map (λ r. r.0) (xs ++ ys)) ≤ 2
both_given [] ys one two = omega (arith, two)
both_given (x ∷ []) ys one two = omega (arith, two)
both_given (x ∷ z ∷ xs) ys one two = absurd (omega (arith, one))

runs_few : (address n : ℕ) → length (map (λ r. r.0) (runs address n)) ≤ 2
runs_few address n = both_few (some_run address (near address n)) (some_run (address + near address n) (n - near address n)) (some_few _ _) (some_few _ _)

given_few : (address : ℕ) (bytes : List ℕ) → length (map (λ r. r.0) (runs_of address bytes)) ≤ 2
given_few address bytes =
    let here = near address (length bytes) in
    both_given (some_bytes address (take here bytes)) (some_bytes (address + here) (drop here bytes)) (bytes_few _ (take here bytes)) (bytes_few _ (drop here bytes))

pub reads_few : (files : List File) (shortage : Shortage) (p : Process) (c : Call) → length (reads_of files shortage p c) ≤ 2
reads_few files shortage p (call.Fetch address) = width_few files p (request access.Fetch address 4 0) true
reads_few files shortage p (call.Load address width) = width_few files p (request access.Load address width 0) (is_width width)
reads_few files shortage p (call.Store address width value) = width_few files p (request access.Store address width value) (is_width width)
reads_few files shortage p (call.Exec im) = omega arith
reads_few files shortage p (call.Sbrk delta) = omega arith
reads_few files shortage p (call.Mmap len protection flags f) = omega arith
reads_few files shortage p (call.Munmap address len) = omega arith
reads_few files shortage p (call.CopyIn address count) =
    short_few files p (in_reads files shortage p address count) (nat_le count LONGEST_COPY) (let below = below_few files p access.Load (limit_of shortage address (length (copied_in (call_environment files shortage) (initial_progress p) address count).bytes)) (map (λ r. r.0) (runs address count)) in let few = runs_few address count in omega (arith, below, few))
reads_few files shortage p (call.CopyOut address bytes) =
    short_few files p (out_reads files shortage p address bytes.now) (nat_le (length bytes.now) LONGEST_COPY) (let below = below_few files p access.Store (limit_of shortage address (length (copied_out (call_environment files shortage) (initial_progress p) address bytes.now).bytes)) (map (λ r. r.0) (runs_of address bytes.now)) in let few = given_few address bytes.now in omega (arith, below, few))
reads_few files shortage p (call.Exit status) = omega arith
reads_few files shortage p (call.Fork list) = omega arith

-- ---- the history grew by what came of it, of which at most two pages are read

pub record Grew (c : Call) (before after : List PageMove) : Type 0 where
  pub longer : length before ≤ length after
  pub few : length (moves_read c (drop (length before) after)) ≤ 2

none_read : (c : Call) → moves_read c [] ≡ []
none_read c = go (may_read c)
  where
    go : (b : Bool) → ◌≡◌ {A = List PageMove} (if b then [] else []) []
    go true = refl
    go false = refl

all_dropped : (before : List PageMove) → drop (length before) before ≡ []
all_dropped [] = refl
all_dropped (m ∷ before) = all_dropped before

pub grew_none : (c : Call) (before after : List PageMove) → after ≡ before → Grew c before after
grew_none c before after same = subst (Grew c before) (sym same) record { longer = omega arith; few = let none = ap (λ (ms : List PageMove). length (moves_read c ms)) (all_dropped before) ∙ ap (λ (ms : List PageMove). length ms) (none_read c) in omega (arith, none) }

pub grew_by : (files : List File) (shortage : Shortage) (p : Process) (c : Call) (before after : List PageMove) → after ≡ before ++ (reads_of files shortage p c ++ writes_of files shortage p c) → Grew c before after
grew_by files shortage p c before after is = record {
  longer = let long = ap (λ (ms : List PageMove). length ms) is in omega (arith, long, length-append before (reads_of files shortage p c ++ writes_of files shortage p c));
  few = let same = ap (λ (ms : List PageMove). length ms) (read_since files shortage p c before after is) in let few = reads_few files shortage p c in omega (arith, same, few);
}

-- whatever came of it
module _ (x y : Body) (files : List File) (Became : List PageMove → Type 0) (Refused : List PageMove → ℕ → Refusal → Type 0) (Promised : ℕ → Type 0) (p : Process) (c : Call) (before after : List PageMove)
    (grows : (ms : List PageMove) → Became ms → after ≡ before ++ ms) where
  pub has_grown : (r : CallResult) → IsCallResult x y files Became Refused Promised p c r → Grew c before after
  has_grown (call_result.Answered r) h = grew_by files (by_reply (address_of c) r) p c before after (grows _ h.1.moves)
  has_grown (call_result.Unpromised r done) h = grew_by files (refused done r) p c before after (grows _ h.moves)
  has_grown (call_result.Ended r) h = grew_by files (at_stop r (address_of c)) p c before after (grows _ h.0.moves)
  has_grown (call_result.Unserved r) h = grew_none c before after (grows [] h.1.moves ∙ append-nil before)

-- the pages that are kept are those that were read
pub pages_are : (files : List File) (shortage : Shortage) (p : Process) (c : Call) (before after items : List PageMove) (mark : ℕ) → mark ≡ length before → items ≡ moves_read c (drop mark after)
    → after ≡ before ++ (reads_of files shortage p c ++ writes_of files shortage p c) → items ≡ reads_of files shortage p c
pages_are files shortage p c before after items mark at kept grew =
    kept ∙ ap (λ (n : ℕ). moves_read c (drop n after)) at ∙ read_since files shortage p c before after grew
