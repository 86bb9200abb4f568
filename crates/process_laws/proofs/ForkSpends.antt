-- Lemma: a fork for which enough frames are free lowers the free count by exactly `fork_need` (the child's trapframe and
-- page tables, and no page).
use Rattle.std.proofs.Common.{◌≡◌, ℕ, false, ◌+◌, ◌≢◌, inl, inr, sym, ap, ◌∙◌, arith, List, ◌++◌, Option, None, Some, length, length-set}
use Rattle.std.specs.Prelude.{slice_get, slice_set, sum_by}
use Rattle.process_model.specs.PageMap.{numbers, keys, count}
use Rattle.process_model.specs.Process.{Process}
use Rattle.process_model.specs.Residence.{marked, child_of}
use Rattle.process_model.specs.Frames.{live, copies_of, own_frames, fork_need}
use Rattle.process_model.specs.World.{World, process_in, free, free_slot, with_process}
use Rattle.process_model.specs.Service.{is_dry}
use Rattle.process_laws.proofs.SameCopies.{copies_of_child, copies_of_marked}
use Rattle.process_laws.proofs.SetSizes.{Within, among_front, among_back, among_parts, count_same}
use Rattle.process_laws.proofs.Needed.{tables_of_numbers}
use Rattle.process_laws.proofs.SlotSums.{full_slot, empty_slot, set_same, sum_set, all_copies, set_has, count_set, count_slots}
use Rattle.process_laws.proofs.FreeFrames.{different, spent}
use Rattle.process_laws.proofs.Untouched.{get_set_other}

module _ (slots : List (Option Process)) (s child : ℕ) (p : Process) (full : slice_get slots s ≡ Some (Some p)) (empty : slice_get slots child ≡ Some None) where
  abbrev forked_slots : List (Option Process)
  forked_slots = slice_set (slice_set slots s (Some (marked p))) child (Some (child_of p))

  apart : s ≢ child
  apart e = let both : slice_get slots s ≡ slice_get slots child = ap (slice_get slots) e in cc

  still_empty : slice_get (slice_set slots s (Some (marked p))) child ≡ Some None
  still_empty = get_set_other slots s child (Some (marked p)) apart ∙ empty

  fork_sum : sum_by own_frames (live forked_slots) ≡ sum_by own_frames (live slots) + fork_need p
  fork_sum =
      let marks : sum_by own_frames (live (slice_set slots s (Some (marked p)))) + own_frames p ≡ sum_by own_frames (live slots) + own_frames p = sum_set own_frames slots s (Some p) (Some (marked p)) full in
      let births : sum_by own_frames (live forked_slots) + 0 ≡ sum_by own_frames (live (slice_set slots s (Some (marked p)))) + own_frames (child_of p) = sum_set own_frames (slice_set slots s (Some (marked p))) child None (Some (child_of p)) still_empty in
      let tables : own_frames (child_of p) ≡ fork_need p = ap (λ n. 1 + n) (tables_of_numbers p.scheme (keys p.settled)) in
      omega (marks, births, tables, arith)

  -- the child's copy numbers are the parent's
  child_adds_none : Within (copies_of (child_of p) ++ all_copies (slice_set slots s (Some (marked p)))) (all_copies (slice_set slots s (Some (marked p))))
  child_adds_none q i = elim (among_parts q (copies_of (marked p)) (all_copies (slice_set slots s (Some (marked p)))) (rw (copies_of_child p ∙ sym (copies_of_marked p)) at i)) [
    | inl j ↦ set_has slots s (Some p) (Some (marked p)) full q (among_front q (copies_of (marked p)) (all_copies (slice_set slots s None)) j)
    | inr j ↦ j
  ]

  fork_count : different forked_slots ≡ different slots
  fork_count =
      let parent = slice_set slots s (Some (marked p)) in
      let births : different forked_slots ≡ count (numbers (copies_of (child_of p) ++ all_copies (slice_set parent child None))) = count_set parent child None (Some (child_of p)) still_empty in
      let alone : count (numbers (copies_of (child_of p) ++ all_copies (slice_set parent child None))) ≡ count (numbers (copies_of (child_of p) ++ all_copies parent)) =
      ap (λ (xs : List (Option Process)). count (numbers (copies_of (child_of p) ++ all_copies xs))) (set_same parent child None still_empty) in
      let none : count (numbers (copies_of (child_of p) ++ all_copies parent)) ≡ different parent =
      count_same (copies_of (child_of p) ++ all_copies parent) (all_copies parent) child_adds_none (λ q i. among_back q (copies_of (child_of p)) (all_copies parent) i) in
      let marks : different parent ≡ count (numbers (copies_of (marked p) ++ all_copies (slice_set slots s None))) = count_set slots s (Some p) (Some (marked p)) full in
      let same : count (numbers (copies_of (marked p) ++ all_copies (slice_set slots s None))) ≡ count (numbers (copies_of p ++ all_copies (slice_set slots s None))) =
      ap (λ (xs : List ℕ). count (numbers (xs ++ all_copies (slice_set slots s None)))) (copies_of_marked p) in
      births ∙ alone ∙ none ∙ marks ∙ same ∙ sym (count_slots slots s (Some p) full)

  fork_long : length forked_slots ≡ length slots
  fork_long = length-set (slice_set slots s (Some (marked p))) child (Some (child_of p)) ∙ length-set slots s (Some (marked p))

pub fork_spends : (w : World) (s child : ℕ) (p : Process) → process_in w s ≡ Some p → free_slot w ≡ Some child → is_dry w (fork_need p) ≡ false
    → free (with_process (with_process w s (marked p)) child (child_of p)) + fork_need p ≡ free w
fork_spends w s child p is to wet =
    let full : slice_get w.slots s ≡ Some (Some p) = full_slot (slice_get w.slots s) p is in
    let empty : slice_get w.slots child ≡ Some None = empty_slot w.slots 0 child child to (omega arith) in
    let more : sum_by own_frames (live (forked_slots w.slots s child p full empty)) ≡ sum_by own_frames (live w.slots) + fork_need p = fork_sum w.slots s child p full empty in
    let as_many : different (forked_slots w.slots s child p full empty) ≡ different w.slots = fork_count w.slots s child p full empty in
    spent w.scheme w.frames (fork_need p) w.slots (forked_slots w.slots s child p full empty) (fork_long w.slots s child p full empty) (omega (more, as_many, arith)) wet
