-- Lemmas: a file for threads that the reader accepts can be played (`IsThreadPlayable`): its pool can be shared, and the
-- images and lists of calls that lines name are there; a line's item has room; the whole file by what its lines declare; and
-- the lists that a file begins, as `lists_named` finds them.
use Rattle.std.proofs.Common.{◌≡◌, ℕ, zero, suc, ◌+◌, ◌<◌, ◌≤◌, Bool, true, false, eqb, List, [], ◌∷◌, ◌++◌, length, Option, Some, None, Result, Ok, Err, refl, sym, ap, subst, ◌∙◌, arith, get_or, replicate, inl, inr, length-append}
use Rattle.std.specs.Prelude.{IfOk, All, codes, map, nat_lt, nat_le, not, ◌&&◌, ◌||◌, if◌then◌else◌}
use Rattle.std.specs.List.{AllByRecursion, IsDistinct, list_any}
use Rattle.std.proofs.lemmas.Bool.{and_parts, cases_Bool, cases_lt, eq-eqb, eqb-true}
use Rattle.std.proofs.lemmas.List.{ext_get_or}
use Rattle.std.proofs.lemmas.List.Elements.{All-nil, All-cons, All-head, All-tail}
use Rattle.std.proofs.lemmas.List.Folds.{list_any-append}
use Rattle.std.proofs.lemmas.List.FromFn.{get_or-map-range_with_len, length-map-range_with_len}
use Rattle.std.proofs.lemmas.Map.Steps.{length-le_from_distinct_below}
use Rattle.std.proofs.lemmas.Slice.Eq.{bytes_eq-Decides}
use Rattle.process_model.specs.declared.limits.TheConstants.{LONGEST_COPY, MOST_FILES}
use Rattle.script_language.specs.Fields.{one_number, row}
use Rattle.script_language.specs.Lines.{raw_lines, without_return, fields_of}
use Rattle.script_language.specs.Numbers.{number_of}
use Rattle.script_language.specs.ReadLines.{test, is_ascii, fields_by, some_item, with_said}
use Rattle.script_language.specs.ThreadScript.{ThreadDraft, ThreadScript, Read, begins, begins_list, has_image, has_list, has_room, in_order, is_named, is_number, item_line, item_of, line_of, lists_named, nothing_said, open_calls, read_lines, said_in, thread_script_of, thread_table, whole, whole_with, with_call, with_item}
use Rattle.process_model.specs.declared.call.Call.{Call}
use Rattle.process_model.specs.declared.call.Call.TheVariants as call
use Rattle.script_language.specs.declared.declarations.CallList.{CallList}
use Rattle.script_language.specs.declared.declarations.ListedCall.{ListedCall}
use Rattle.script_language.specs.declared.declarations.ListedCall.TheVariants as listed
use Rattle.script_language.specs.declared.declarations.ListedStart.{ListedStart}
use Rattle.script_language.specs.declared.declarations.Pool.{Pool}
use Rattle.script_language.specs.declared.declarations.OwnedImage.{OwnedImage}
use Rattle.script_language.specs.declared.script.Cause.{Cause}
use Rattle.script_language.specs.declared.script.Cause.TheVariants as cause
use Rattle.script_language.specs.declared.script.FieldValue.{FieldValue}
use Rattle.script_language.specs.declared.script.FieldValue.TheVariants as value
use Rattle.script_language.specs.declared.script.Keyword.{Keyword}
use Rattle.script_language.specs.declared.script.Keyword.TheVariants as word
use Rattle.script_language.specs.declared.script.Tail.TheVariants as tail
use Rattle.script_language.specs.declared.script.ThreadItem.{ThreadItem}
use Rattle.script_language.specs.declared.script.ThreadItem.TheVariants as item
use Rattle.script_reader.specs.ReadResults.{GivesScript, GivesError}
use Rattle.script_reader.specs.Playable.{FitsFile}
use Rattle.script_reader.specs.ThreadsPlayable.{CanShare, IsDeclaredCall, IsDeclaredLine, IsList, IsThreadPlayable}
use Rattle.script_reader.specs.declared.fault.ScriptError.{ScriptError}
use Rattle.script_reader.specs.declared.fault.ScriptError.TheVariants as script
use Rattle.script_reader.proofs.Kept.{followed, limited, item_is, HasPlace, item_has_place, IfItem, IfRead, line_fits, lines_kept, all_and_one, below, at_most, one_file_more}
use Rattle.script_language.specs.declared.limits.TheConstants.{LONGEST_SCRIPT, MOST_CALLS, MOST_LISTS}

-- what holds of the lines so far: each list that a fork names begins somewhere in the file, each that a start names in these lines

abbrev IsNamedCall : List Bool → Call → Type 0
IsNamedCall named (call.Fork k) = is_named named k ≡ true
IsNamedCall named c = Unit {0}

abbrev IsNamedLine : List OwnedImage → List Bool → ListedCall → Type 0
IsNamedLine images named (listed.One c) = IsNamedCall named c
IsNamedLine images named (listed.Exec n) = n < length images
IsNamedLine images named (listed.CopyOut a bytes) = length bytes ≤ LONGEST_COPY

record IsNamedList (images : List OwnedImage) (named : List Bool) (l : CallList) : Type 0 where
  pub number : l.number < MOST_LISTS
  pub few : length l.calls ≤ MOST_CALLS
  pub calls : All (IsNamedLine images named) l.calls

abbrev IsBegunStart : List OwnedImage → List CallList → ListedStart → Type 0
IsBegunStart images lists s = (s.image < length images) × (has_list lists s.list ≡ true)

abbrev SharesIf : Option Pool → Type 0
SharesIf None = Unit {0}
SharesIf (Some p) = CanShare p

abbrev numbers : List CallList → List ℕ
numbers ls = map (λ l. l.number) ls

record IsSound (named : List Bool) (d : ThreadDraft) : Type 0 where
  pub same : d.named ≡ named
  pub shares : SharesIf d.pool
  pub few : length d.files ≤ MOST_FILES
  pub files : All FitsFile d.files
  pub distinct : IsDistinct eqb (numbers d.lists)
  pub lists : All (IsNamedList d.images d.named) d.lists
  pub starts : All (IsBegunStart d.images d.lists) d.starts

abbrev Fits : ThreadDraft → ThreadItem → Type 0
Fits d (item.File f) = FitsFile f
Fits d (item.Image i) = Unit {0}
Fits d (item.Pool p) = CanShare p
Fits d (item.List k) = (k < MOST_LISTS) × (has_list d.lists k ≡ false)
Fits d (item.Call c) = IsNamedLine d.images d.named c
Fits d (item.Start s) = IsBegunStart d.images d.lists s

-- numbers stay apart

apart_more : (n k : ℕ) (ns : List ℕ) → AllByRecursion (λ y. eqb n y ≡ false) ns → eqb n k ≡ false → AllByRecursion (λ y. eqb n y ≡ false) (ns ++ k ∷ [])
apart_more n k [] h e = (e, tt)
apart_more n k (m ∷ ns) h e = (h.0, apart_more n k ns h.1 e)

or_parts : (a b : Bool) → (a || b) ≡ false → (a ≡ false) × (b ≡ false)
or_parts true b e = absurd cc
or_parts false b e = (refl, e)

numbers_more : (ls : List CallList) (l : CallList) → numbers (ls ++ l ∷ []) ≡ numbers ls ++ l.number ∷ []
numbers_more [] l = refl
numbers_more (m ∷ ls) l = ap (λ (ns : List ℕ). m.number ∷ ns) (numbers_more ls l)

distinct_more : (ls : List CallList) (l : CallList) → IsDistinct eqb (numbers ls) → has_list ls l.number ≡ false → IsDistinct eqb (numbers (ls ++ l ∷ []))
unfolding IsDistinct
distinct_more [] l h e = (tt, tt)
distinct_more (m ∷ ls) l h e =
    let parts = or_parts (eqb m.number l.number) (has_list ls l.number) e in
    (subst (AllByRecursion (λ y. eqb m.number y ≡ false)) (sym (numbers_more ls l)) (apart_more m.number l.number (numbers ls) h.0 parts.0), distinct_more ls l h.1 parts.1)

-- a call keeps the numbers of the lists

call_numbers : (ls : List CallList) (c : ListedCall) → numbers (with_call ls c) ≡ numbers ls
call_numbers [] c = refl
call_numbers (l ∷ []) c = refl
call_numbers (l ∷ m ∷ ls) c = ap (λ (ns : List ℕ). l.number ∷ ns) (call_numbers (m ∷ ls) c)

call_has : (ls : List CallList) (c : ListedCall) (k : ℕ) → has_list (with_call ls c) k ≡ has_list ls k
call_has [] c k = refl
call_has (l ∷ []) c k = refl
call_has (l ∷ m ∷ ls) c k = ap (λ (b : Bool). eqb l.number k || b) (call_has (m ∷ ls) c k)

call_kept : (images : List OwnedImage) (named : List Bool) (ls : List CallList) (c : ListedCall) → All (IsNamedList images named) ls → IsNamedLine images named c → open_calls ls < MOST_CALLS
    → All (IsNamedList images named) (with_call ls c)
call_kept images named [] c h fits lt = h
call_kept images named (l ∷ []) c h fits lt =
    let first = All-head (IsNamedList images named) l [] h in
    All-cons (IsNamedList images named) _ [] (record {
      number = first.number;
      few = omega (arith, length-append l.calls (c ∷ []), lt);
      calls = all_and_one (IsNamedLine images named) l.calls c first.calls fits;
    }) (All-nil (IsNamedList images named))
call_kept images named (l ∷ m ∷ ls) c h fits lt =
    All-cons (IsNamedList images named) l (with_call (m ∷ ls) c) (All-head (IsNamedList images named) l (m ∷ ls) h) (call_kept images named (m ∷ ls) c (All-tail (IsNamedList images named) l (m ∷ ls) h) fits lt)

-- more images keep what is said of them

line_still : (is js : List OwnedImage) (named : List Bool) (c : ListedCall) → length is ≤ length js → IsNamedLine is named c → IsNamedLine js named c
line_still is js named (listed.One c) m h = h
line_still is js named (listed.Exec n) m h = omega (arith, h)
line_still is js named (listed.CopyOut a bytes) m h = h

list_still : (is js : List OwnedImage) (named : List Bool) (l : CallList) → length is ≤ length js → IsNamedList is named l → IsNamedList js named l
list_still is js named l m h = record { number = h.number; few = h.few; calls = λ k d lt. line_still is js named (get_or l.calls k d) m (h.calls k d lt) }

-- a list that was begun stays so

true_or : (a b : Bool) → a ≡ true → (a || b) ≡ true
true_or a b e = rw e refl

has_still : (d : ThreadDraft) (i : ThreadItem) (k : ℕ) → has_list d.lists k ≡ true → has_list (with_item d i).lists k ≡ true
has_still d (item.File f) k h = h
has_still d (item.Image i) k h = h
has_still d (item.Pool p) k h = h
has_still d (item.List n) k h = list_any-append (λ (l : CallList). eqb l.number k) d.lists (record { number = n; calls = [] } ∷ []) ∙ true_or (has_list d.lists k) _ h
has_still d (item.Call c) k h = call_has d.lists c k ∙ h
has_still d (item.Start s) k h = h

item_kept : (named : List Bool) (d : ThreadDraft) (i : ThreadItem) → IsSound named d → HasPlace (Fits d) (has_room d) i → IsSound named (with_item d i)
item_kept named d (item.File f) s fits = record {
  same = s.same;
  shares = s.shares;
  few = one_file_more d.files f fits.1;
  files = all_and_one FitsFile d.files f s.files fits.0;
  distinct = s.distinct;
  lists = s.lists;
  starts = s.starts;
}
item_kept named d (item.Image i) s fits =
    let more : length d.images ≤ length (d.images ++ i ∷ []) = omega (arith, length-append d.images (i ∷ [])) in
    record {
      same = s.same;
      shares = s.shares;
      few = s.few;
      files = s.files;
      distinct = s.distinct;
      lists = λ k l lt. list_still d.images (d.images ++ i ∷ []) d.named (get_or d.lists k l) more (s.lists k l lt);
      starts = λ k x lt. (omega (arith, more, (s.starts k x lt).0), (s.starts k x lt).1);
    }
item_kept named d (item.Pool p) s fits = record { same = s.same; shares = fits.0; few = s.few; files = s.files; distinct = s.distinct; lists = s.lists; starts = s.starts }
item_kept named d (item.List k) s fits =
    let l : CallList = record { number = k; calls = [] } in
    record {
      same = s.same;
      shares = s.shares;
      few = s.few;
      files = s.files;
      distinct = distinct_more d.lists l s.distinct fits.0.1;
      lists = all_and_one (IsNamedList d.images d.named) d.lists l s.lists (record { number = fits.0.0; few = omega arith; calls = All-nil (IsNamedLine d.images d.named) });
      starts = λ i x lt. ((s.starts i x lt).0, has_still d (item.List k) _ (s.starts i x lt).1);
    }
item_kept named d (item.Call c) s fits = record {
  same = s.same;
  shares = s.shares;
  few = s.few;
  files = s.files;
  distinct = subst (IsDistinct eqb) (sym (call_numbers d.lists c)) s.distinct;
  lists = call_kept d.images d.named d.lists c s.lists fits.0 (below _ _ (and_parts _ _ fits.1).1);
  starts = λ i x lt. ((s.starts i x lt).0, has_still d (item.Call c) _ (s.starts i x lt).1);
}
item_kept named d (item.Start x) s fits = record {
  same = s.same;
  shares = s.shares;
  few = s.few;
  files = s.files;
  distinct = s.distinct;
  lists = s.lists;
  starts = all_and_one (IsBegunStart d.images d.lists) d.starts x s.starts fits.0;
}

not_false : (b : Bool) → not b ≡ true → b ≡ false
not_false true e = absurd cc
not_false false e = refl

new_list : (d : ThreadDraft) (k : ℕ) → (nat_lt k MOST_LISTS && not (has_list d.lists k)) ≡ true → Fits d (item.List k)
new_list d k e = let parts = and_parts (nat_lt k MOST_LISTS) (not (has_list d.lists k)) e in (below k MOST_LISTS parts.0, not_false (has_list d.lists k) parts.1)

a_start : (d : ThreadDraft) (i k : ℕ) → (has_image d i && has_list d.lists k) ≡ true → (i < length d.images) × (has_list d.lists k ≡ true)
a_start d i k e = let parts = and_parts (has_image d i) (has_list d.lists k) e in (below i (length d.images) parts.0, parts.1)

-- an item fits the lines before it
item_fits : (d : ThreadDraft) (w : Keyword) (vs : List FieldValue) → IfOk (item_of d w vs) (Fits d)
item_fits d word.File vs = limited (Fits d) _ _ (λ e. e)
item_fits d word.Image vs = tt
item_fits d word.Elf vs = tt
item_fits d word.Pool vs = limited (Fits d) _ _ (λ e. e)
item_fits d word.List vs = limited (Fits d) _ _ (λ e. new_list d _ e)
item_fits d word.Start vs = limited (Fits d) _ _ (λ e. a_start d _ _ e)
item_fits d word.Fetch vs = tt
item_fits d word.Load vs = limited (Fits d) _ _ (λ e. tt)
item_fits d word.Store vs = limited (Fits d) _ _ (λ e. tt)
item_fits d word.Exec vs = limited (Fits d) _ _ (λ e. below _ _ e)
item_fits d word.Sbrk vs = tt
item_fits d word.Mmap vs = tt
item_fits d word.Munmap vs = tt
item_fits d word.CopyIn vs = limited (Fits d) _ _ (λ e. tt)
item_fits d word.CopyOut vs = limited (Fits d) _ _ (λ e. at_most _ _ e)
item_fits d word.Exit vs = limited (Fits d) _ _ (λ e. tt)
item_fits d word.Fork vs = limited (Fits d) _ _ (λ e. e)
item_fits d word.Boot vs = tt
item_fits d word.Switch vs = tt
item_fits d word.Trap vs = tt
item_fits d word.Next vs = tt
item_fits d word.Fill vs = tt
item_fits d word.Evict vs = tt
item_fits d word.Tramp vs = tt
item_fits d word.Serve vs = tt
item_fits d word.Show vs = tt
item_fits d word.Audit vs = tt
item_fits d word.On vs = tt
item_fits d word.Enter vs = tt
item_fits d word.Leave vs = tt
item_fits d word.Fix vs = tt

item_line_fits : (d : ThreadDraft) (text : List ℕ) (fields : List (List ℕ)) → IfOk (item_line d text fields) (HasPlace (Fits d) (has_room d))
unfolding item_line
item_line_fits d text fields = item_has_place thread_table (in_order d) (item_of d) (has_room d) (Fits d) (item_fits d) text fields

line_has_place : (d : ThreadDraft) (line : List ℕ) → IfOk (line_of d line) (IfItem (HasPlace (Fits d) (has_room d)))
unfolding line_of
line_has_place d line = line_fits (item_line d) (HasPlace (Fits d) (has_room d)) (item_line_fits d) line

-- each list that is named was begun, once the whole file is read

some_is : (r : Result ThreadItem Cause) (i : ThreadItem) → IfOk r (λ j. j ≡ i) → IfOk (some_item r) (λ o. o ≡ Some i)
some_is (Ok j) i h = ap (λ (x : ThreadItem). Some x) h
some_is (Err c) i h = tt

none_is : (i : ThreadItem) → None ≡ Some i → ⊥
none_is i e = cc

some_inside : (i j : ThreadItem) → Some i ≡ Some j → i ≡ j
some_inside i j e = cc

false_true : false ≡ true → ⊥
false_true e = cc

begun : (d : ThreadDraft) (k : ℕ) (text number : List ℕ) → text ≡ codes "list" → number_of number ≡ Some k → IfOk (fields_by (item_line d) (text ∷ number ∷ [])) (λ o. o ≡ Some (item.List k))
unfolding item_line
begun d k text number is says =
    rw is (some_is _ (item.List k) (item_is thread_table (in_order d) (item_of d) (has_room d) (codes "list") (number ∷ []) (row (codes "list") word.List one_number tail.Nothing) (value.Number k ∷ []) (item.List k)
    refl (rw says refl) (limited (λ i. i ≡ item.List k) _ _ (λ e. refl))))

number_says : (k : ℕ) (n : Option ℕ) → is_number k n ≡ true → n ≡ Some k
number_says k None e = absurd cc
number_says k (Some n) e = ap (λ (m : ℕ). Some m) (eqb-true n k e)

fields_begin : (d : ThreadDraft) (k : ℕ) (fields : List (List ℕ)) → begins k fields ≡ true → IfOk (fields_by (item_line d) fields) (λ o. o ≡ Some (item.List k))
fields_begin d k [] e = absurd cc
fields_begin d k (text ∷ []) e = absurd cc
fields_begin d k (text ∷ number ∷ []) e =
    let parts = and_parts _ (is_number k (number_of number)) e in
    begun d k text number ((bytes_eq-Decides text (codes "list")).0 parts.0) (number_says k (number_of number) parts.1)
fields_begin d k (text ∷ number ∷ more ∷ fields) e = absurd cc

line_begins : (d : ThreadDraft) (k : ℕ) (line : List ℕ) → begins k (fields_of line) ≡ true → IfOk (line_of d line) (λ o. o ≡ Some (item.List k))
unfolding line_of
line_begins d k line e =
    followed (test (nat_le (length line) _) _) _ (λ o. o ≡ Some (item.List k)) (λ u. followed (test (is_ascii line) _) _ (λ o. o ≡ Some (item.List k)) (λ u. fields_begin d k (fields_of line) e))

failed : (f : ℕ × Cause) (lines : List (List ℕ)) (P : ThreadDraft × ℕ → Type 0) → IfOk (read_lines (Err f) lines) P
failed f [] P = tt
failed f (line ∷ lines) P = failed f lines P

or_true : (a b : Bool) → b ≡ true → (a || b) ≡ true
or_true true b e = refl
or_true false b e = e

still_or : (a b rest : Bool) → (a ≡ true → b ≡ true) → (a || rest) ≡ true → (b || rest) ≡ true
still_or true b rest h e = true_or b rest (h refl)
still_or false b rest h e = or_true b rest e

or_false : (a : Bool) → (a || false) ≡ true → a ≡ true
or_false true e = refl
or_false false e = absurd cc

has_new : (d : ThreadDraft) (k : ℕ) → has_list (with_item d (item.List k)).lists k ≡ true
has_new d k = list_any-append (λ (l : CallList). eqb l.number k) d.lists (record { number = k; calls = [] } ∷ []) ∙ or_true (has_list d.lists k) _ (true_or (eqb k k) false (eq-eqb k k refl))

abbrev Has : ℕ → ThreadDraft × ℕ → Type 0
Has k x = has_list (x.0).lists k ≡ true

covered_after : (k : ℕ) (d : ThreadDraft) (n : ℕ) (lines : List (List ℕ)) → ((e : ThreadDraft) → (has_list e.lists k || list_any (begins_list k) lines) ≡ true → IfOk (read_lines (Ok (e, n)) lines) (Has k))
    → (r : Result (Option ThreadItem) Cause) (b : Bool) → (b ≡ true → IfOk r (λ o. o ≡ Some (item.List k)))
    → (has_list d.lists k || (b || list_any (begins_list k) lines)) ≡ true → IfOk (read_lines (with_said with_item d n r) lines) (Has k)
covered_after k d n lines go (Err c) b h e = failed (n, c) lines (Has k)
covered_after k d n lines go (Ok None) true h e = absurd (none_is _ (h refl))
covered_after k d n lines go (Ok None) false h e = go d e
covered_after k d n lines go (Ok (Some i)) true h e = go (with_item d i) (true_or _ _ (subst (λ (j : ThreadItem). has_list (with_item d j).lists k ≡ true) (sym (some_inside _ _ (h refl))) (has_new d k)))
covered_after k d n lines go (Ok (Some i)) false h e = go (with_item d i) (still_or (has_list d.lists k) _ _ (has_still d i k) e)

covered : (k : ℕ) (d : ThreadDraft) (n : ℕ) (lines : List (List ℕ)) → (has_list d.lists k || list_any (begins_list k) lines) ≡ true → IfOk (read_lines (Ok (d, n)) lines) (Has k)
covered k d n [] e = or_false (has_list d.lists k) e
covered k d n (line ∷ lines) e = covered_after k d (n + 1) lines (λ x h. covered k x (n + 1) lines h) (line_of d (without_return line)) (begins_list k line) (line_begins d k (without_return line)) e

-- the names of a file

no_name : (named : List Bool) (k : ℕ) → length named ≤ k → is_named named k ≡ false
no_name [] k le = refl
no_name (b ∷ named) zero le = absurd (omega (arith, le))
no_name (b ∷ named) (suc k) le = no_name named k (omega (arith, le))

named_begins : (lines : List (List ℕ)) (k : ℕ) → is_named (lists_named lines) k ≡ true → list_any (begins_list k) lines ≡ true
named_begins lines k e =
    let test : ℕ → Bool = λ n. list_any (begins_list n) lines in
    elim (cases_lt k MOST_LISTS) [
      | inl lt ↦ sym (get_or-map-range_with_len test 0 MOST_LISTS k k false lt (omega arith)) ∙ e
      | inr ge ↦ absurd (false_true (sym (no_name (lists_named lines) k (omega (arith, length-map-range_with_len test 0 MOST_LISTS, ge))) ∙ e))
    ]

-- the whole file

abbrev Covers : List Bool → List CallList → Type 0
Covers named lists = (k : ℕ) → is_named named k ≡ true → has_list lists k ≡ true

call_declared : (named : List Bool) (lists : List CallList) (c : Call) → Covers named lists → IsNamedCall named c → IsDeclaredCall lists c
call_declared named lists (call.Fork k) covers h = covers k h
call_declared named lists (call.Fetch a) covers h = tt
call_declared named lists (call.Load a w) covers h = tt
call_declared named lists (call.Store a w v) covers h = tt
call_declared named lists (call.Exec i) covers h = tt
call_declared named lists (call.Sbrk d) covers h = tt
call_declared named lists (call.Mmap l p f i) covers h = tt
call_declared named lists (call.Munmap a l) covers h = tt
call_declared named lists (call.CopyIn a n) covers h = tt
call_declared named lists (call.CopyOut a bytes) covers h = tt
call_declared named lists (call.Exit n) covers h = tt

line_declared : (images : List OwnedImage) (named : List Bool) (lists : List CallList) (c : ListedCall) → Covers named lists → IsNamedLine images named c → IsDeclaredLine images lists c
line_declared images named lists (listed.One c) covers h = call_declared named lists c covers h
line_declared images named lists (listed.Exec n) covers h = h
line_declared images named lists (listed.CopyOut a bytes) covers h = h

list_declared : (images : List OwnedImage) (named : List Bool) (lists : List CallList) (l : CallList) → Covers named lists → IsNamedList images named l → IsList images lists l
list_declared images named lists l covers h = record { number = h.number; few = h.few; calls = λ k c lt. line_declared images named lists (get_or l.calls k c) covers (h.calls k c lt) }

has_below : (images : List OwnedImage) (named : List Bool) (ls : List CallList) (k : ℕ) → All (IsNamedList images named) ls → list_any (eqb k) (numbers ls) ≡ true → k < MOST_LISTS
has_below images named [] k h e = absurd cc
has_below images named (l ∷ ls) k h e =
    elim (cases_Bool (eqb k l.number)) [
      | inl is ↦ omega (arith, eqb-true k l.number is, (All-head (IsNamedList images named) l ls h).number)
      | inr isnt ↦ has_below images named ls k (All-tail (IsNamedList images named) l ls h) (rw isnt at e)
    ]

numbers_length : (ls : List CallList) → length (numbers ls) ≡ length ls
numbers_length [] = refl
numbers_length (l ∷ ls) = ap suc (numbers_length ls)

whole_with_playable : (named : List Bool) (d : ThreadDraft) (n : ℕ) (p : Option Pool) → p ≡ d.pool → IsSound named d → Covers named d.lists → IfOk (whole_with d n p) IsThreadPlayable
whole_with_playable named d n None e s covers = tt
whole_with_playable named d n (Some p) e s covers =
    let names : Covers d.named d.lists = subst (λ (ns : List Bool). Covers ns d.lists) (sym s.same) covers in
    record {
      shares = subst SharesIf (sym e) s.shares;
      few = s.few;
      files = s.files;
      few_lists = omega (arith, numbers_length d.lists, length-le_from_distinct_below (numbers d.lists) MOST_LISTS s.distinct (λ q h. has_below d.images d.named d.lists q s.lists h));
      lists = λ k l lt. list_declared d.images d.named d.lists (get_or d.lists k l) names (s.lists k l lt);
      starts = s.starts;
    }

abbrev CoversRead : List Bool → Read → Type 0
CoversRead named read = (k : ℕ) → is_named named k ≡ true → IfOk read (λ x. has_list (x.0).lists k ≡ true)

whole_playable : (named : List Bool) (read : Read) → IfRead (IsSound named) read → CoversRead named read → IfOk (whole read) IsThreadPlayable
whole_playable named (Ok x) s covers = whole_with_playable named x.0 x.1 (x.0).pool refl s covers
whole_playable named (Err f) s covers = tt

sound_first : (named : List Bool) → IsSound named (nothing_said named)
unfolding IsDistinct
sound_first named = record {
  same = refl;
  shares = tt;
  few = omega arith;
  files = All-nil FitsFile;
  distinct = tt;
  lists = All-nil (IsNamedList [] named);
  starts = All-nil (IsBegunStart [] []);
}

said_playable : (lines : List (List ℕ)) → IfOk (said_in lines) IsThreadPlayable
said_playable lines =
    let named = lists_named lines in
    whole_playable named (read_lines (Ok (nothing_said named, 0)) lines)
    (lines_kept line_of with_item (IsSound named) (λ d i. HasPlace (Fits d) (has_room d) i) line_has_place (item_kept named) (Ok (nothing_said named, 0)) lines (sound_first named))
    (λ k e. covered k (nothing_said named) 0 lines (named_begins lines k e))

script_playable : (bytes : List ℕ) → IfOk (thread_script_of bytes) IsThreadPlayable
script_playable bytes = elim (nat_le (length bytes) LONGEST_SCRIPT) as (λ b. IfOk (if b then said_in (raw_lines bytes) else Err (0, cause.TooLong)) IsThreadPlayable) [ true ↦ said_playable (raw_lines bytes) | false ↦ tt ]

pub answer_playable : (bytes : List ℕ) (r : Result ThreadScript ScriptError) → GivesScript (λ s. s) r (thread_script_of bytes) → IfOk r IsThreadPlayable
answer_playable bytes (Ok s) e = let P : Result ThreadScript (ℕ × Cause) → Type 0 = λ r. IfOk r IsThreadPlayable in subst P e (script_playable bytes)
answer_playable bytes (Err e) h = tt

-- a line that is read has its place
pub has_its_room : (d : ThreadDraft) (line : List ℕ) (i : ThreadItem) → line_of d line ≡ Ok (Some i) → has_room d i ≡ true
has_its_room d line i is = let P : Result (Option ThreadItem) Cause → Type 0 = λ r. IfOk r (IfItem (HasPlace (Fits d) (has_room d))) in (subst P is (line_has_place d line)).1

none_there : (n k : ℕ) → get_or (replicate n false) k false ≡ false
none_there zero k = refl
none_there (suc n) zero = refl
none_there (suc n) (suc k) = none_there n k

or_none : (b : Bool) → (b || false) ≡ b
or_none true = refl
or_none false = refl

-- the whole script, by what its lines say

pub script_refused : (bytes : List ℕ) (e : ScriptError) → nat_le (length bytes) LONGEST_SCRIPT ≡ true → GivesError e (read_lines (Ok (nothing_said (lists_named (raw_lines bytes)), 0)) (raw_lines bytes))
    → GivesError e (thread_script_of bytes)
script_refused bytes script.Memory short r = tt
script_refused bytes (script.Line n c) short r = rw (short, r) refl

pub script_answers : (bytes : List ℕ) (r : Result ThreadScript ScriptError) (d : ThreadDraft) (n : ℕ) → nat_le (length bytes) LONGEST_SCRIPT ≡ true
    → read_lines (Ok (nothing_said (lists_named (raw_lines bytes)), 0)) (raw_lines bytes) ≡ Ok (d, n) → GivesScript (λ s. s) r (whole_with d n d.pool) → GivesScript (λ s. s) r (thread_script_of bytes)
script_answers bytes r d n short is h = rw (short, is) h

-- the lists that a file has, as they are found

pub named_first : (lines : List (List ℕ)) (k : ℕ) → (get_or (replicate 64 false) k false || list_any (begins_list k) lines) ≡ list_any (begins_list k) lines
named_first lines k = ap (λ (b : Bool). b || list_any (begins_list k) lines) (none_there 64 k)

pub named_is : (named : List Bool) (left : List ℕ) (lines : List (List ℕ)) → ((k : ℕ) → k < MOST_LISTS → (get_or named k false || list_any (begins_list k) (raw_lines left)) ≡ list_any (begins_list k) lines)
    → length named ≡ MOST_LISTS → left ≡ [] → named ≡ lists_named lines
named_is named left lines says long over =
    let test : ℕ → Bool = λ n. list_any (begins_list n) lines in
    ext_get_or false named (lists_named lines) (long ∙ sym (length-map-range_with_len test 0 MOST_LISTS))
    (λ k lt. let below_64 : k < MOST_LISTS = omega (arith, lt, long) in
    sym (or_none (get_or named k false)) ∙ (rw over at says k below_64) ∙ sym (get_or-map-range_with_len test 0 MOST_LISTS k k false below_64 (omega arith)))
