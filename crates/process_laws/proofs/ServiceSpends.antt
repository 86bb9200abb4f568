-- Lemma: a service that makes a page resident, which it was not, lowers the free count by exactly its need (`need_at`).
use Rattle.std.proofs.Common.{◌≡◌, ℕ, Bool, true, false, cond, ◌+◌, ◌-◌, ◌≤◌, ◌<◌, inl, inr, refl, sym, ap, subst, ◌∙◌, arith, List, ◌∷◌, ◌++◌, Option, None, Some, length-set}
use Rattle.std.proofs.lemmas.Bool.{and_parts}
use Rattle.std.specs.Prelude.{Result, Ok, Err, slice_get, slice_set, sum_by}
use Rattle.process_model.specs.PageMap.{get, numbers, keys, count}
use Rattle.process_model.specs.Process.{Process, Page}
use Rattle.process_model.specs.Residence.{settled_anew, initial_page, with_page, is_resident_page, is_resident, leaves_mark, made_resident_from, parts_from, region_on, taken_over}
use Rattle.process_model.specs.Frames.{live, copies_of, own_frames, tables_needed, tables_of, settle_need, take_over_need, resident_need_of}
use Rattle.process_model.specs.World.{World, process_in, free, others_have}
use Rattle.process_model.specs.Environment.{Progress, is_shared_by, is_shared_page, need_at, resident_at, unless_dry}
use Rattle.process_model.specs.Service.{environment_of, initial_progress, is_dry, with_progress}
use Rattle.process_laws.specs.CopyNumbers.{HasNewCopies}
use Rattle.process_laws.proofs.SetSizes.{Among, Within, among_front, among_back, among_parts, among_middle, middle_has, longer_only, longer_has, count_same, count_new}
use Rattle.process_laws.proofs.Needed.{tables_grow, tables_of_insert}
use Rattle.process_laws.proofs.SlotSums.{full_slot, set_same, sum_set, all_copies, set_has, count_set, count_slots}
use Rattle.process_laws.proofs.PageCopies.{put_only, put_has, Replaced, put_replaces, held}
use Rattle.process_laws.proofs.FreshCopies.{copies_below}
use Rattle.process_laws.proofs.FreeFrames.{different, spent}
use Rattle.sv39_entry.specs.declared.access.Access.{Access}
use Rattle.sv39_entry.specs.declared.rule.Rule.{Rule}

-- a number in the place of one that others have too
changed_only : (n c : ℕ) (xs ys rs : List ℕ) → Within ((xs ++ n ∷ ys) ++ rs) (n ∷ ((xs ++ c ∷ ys) ++ rs))
changed_only n c xs ys rs q i = elim (among_parts q (xs ++ n ∷ ys) rs i) [
  | inl j ↦ elim (among_middle q n xs ys j) [ inl e ↦ inl e | inr k ↦ inr (among_front q (xs ++ c ∷ ys) rs (middle_has q c xs ys (inr k))) ]
  | inr j ↦ inr (among_back q (xs ++ c ∷ ys) rs j)
]

changed_has : (n c : ℕ) (xs ys rs : List ℕ) → Among c rs → Within (n ∷ ((xs ++ c ∷ ys) ++ rs)) ((xs ++ n ∷ ys) ++ rs)
changed_has n c xs ys rs held q (inl e) = among_front q (xs ++ n ∷ ys) rs (middle_has q n xs ys (inl e))
changed_has n c xs ys rs held q (inr i) = elim (among_parts q (xs ++ c ∷ ys) rs i) [
  | inl j ↦ elim (among_middle q c xs ys j) [ inl e ↦ among_back q (xs ++ n ∷ ys) rs (rw e held) | inr k ↦ among_front q (xs ++ n ∷ ys) rs (middle_has q n xs ys (inr k)) ]
  | inr j ↦ among_back q (xs ++ n ∷ ys) rs j
]

module _ (w : World) (s : ℕ) (p : Process) (full : slice_get w.slots s ≡ Some (Some p)) where
  abbrev with_instead : Process → List (Option Process)
  with_instead r = slice_set w.slots s (Some r)

  abbrev others : List ℕ
  others = all_copies (slice_set w.slots s None)

  -- what a process in the place of p takes
  record Takes (r : Process) (need : ℕ) : Type 0 where
    grown : different (with_instead r) + sum_by own_frames (live (with_instead r)) ≡ different w.slots + sum_by own_frames (live w.slots) + need

  takes : (r : Process) (m n : ℕ) → count (numbers (copies_of r ++ others)) ≡ count (numbers (copies_of p ++ others)) + m → own_frames r ≡ own_frames p + n → Takes r (m + n)
  takes r m n copies frames =
      let after : different (with_instead r) ≡ count (numbers (copies_of r ++ others)) = count_set w.slots s (Some p) (Some r) full in
      let before : different w.slots ≡ count (numbers (copies_of p ++ others)) = count_slots w.slots s (Some p) full in
      let sums : sum_by own_frames (live (with_instead r)) + own_frames p ≡ sum_by own_frames (live w.slots) + own_frames r = sum_set own_frames w.slots s (Some p) (Some r) full in
      record { grown = omega (after, before, sums, copies, frames, arith) }

  module _ (new : HasNewCopies w) where
    counter_new : Among w.counter (copies_of p ++ others) → ⊥
    counter_new i =
        let low : w.counter < w.counter = copies_below w new w.counter (rw (set_same w.slots s (Some p) full) at (set_has w.slots s (Some p) (Some p) full w.counter i)) in
        omega (low, arith)

    one_more : (xs : List ℕ) → Within (xs ++ others) (w.counter ∷ (copies_of p ++ others)) → Within (w.counter ∷ (copies_of p ++ others)) (xs ++ others) → count (numbers (xs ++ others)) ≡ count (numbers (copies_of p ++ others)) + 1
    one_more xs f g = count_same (xs ++ others) (w.counter ∷ (copies_of p ++ others)) f g ∙ count_new w.counter (copies_of p ++ others) counter_new

    settling : (access : Access) (page : ℕ) → get p.settled page ≡ None → Takes (settled_anew w.files w.counter p access page) (settle_need p page)
    settling access page none =
        let x : Page = record { bytes = initial_page w.files p page; copy = w.counter; cow = false; dirty = leaves_mark access (region_on p page) } in
        let r : Process = settled_anew w.files w.counter p access page in
        let copies : count (numbers (copies_of r ++ others)) ≡ count (numbers (copies_of p ++ others)) + 1 =
        one_more (copies_of r) (longer_only w.counter (copies_of r) (copies_of p) others (put_only page x p.settled.entries none)) (longer_has w.counter (copies_of r) (copies_of p) others (put_has page x p.settled.entries none)) in
        let grow : tables_of p ≤ tables_needed p.scheme (page ∷ keys p.tabled) = tables_grow p.scheme page (keys p.tabled) in
        let tables : tables_of r ≡ tables_needed p.scheme (page ∷ keys p.tabled) = tables_of_insert p.scheme p.tabled page in
        takes r 1 (tables_needed p.scheme (page ∷ keys p.tabled) - tables_of p) copies (omega (grow, tables, arith))

    -- a page in the place of another, with a new number where others have the old one
    taking : (page : ℕ) (x y : Page) (b : Bool) → get p.settled page ≡ Some x → y.copy ≡ cond b w.counter x.copy → (b ≡ true → others_have w s x.copy ≡ true) → Takes (with_page p page y) (take_over_need b)
    taking page x y true is number shared =
        let r : Process = with_page p page y in
        let at : Replaced x.copy w.counter (copies_of p) (copies_of r) = subst (λ n. Replaced x.copy n (copies_of p) (copies_of r)) number (put_replaces page y x p.settled.entries p.settled.sorted is) in
        let both : Among x.copy others = held x.copy (live (slice_set w.slots s None)) (shared refl) in
        takes r 1 0 (one_more (copies_of r)
        (rw (at.before, at.after) (changed_only w.counter x.copy at.front at.back others))
        (rw (at.before, at.after) (changed_has w.counter x.copy at.front at.back others both))) (omega arith)
    taking page x y false is number shared =
        let r : Process = with_page p page y in
        let at : Replaced x.copy x.copy (copies_of p) (copies_of r) = subst (λ n. Replaced x.copy n (copies_of p) (copies_of r)) number (put_replaces page y x p.settled.entries p.settled.sorted is) in
        let same : copies_of r ≡ copies_of p = at.after ∙ sym at.before in
        takes r 0 0 (rw same (omega arith)) (omega arith)

    serving : (access : Access) (page : ℕ) (o : Option Page) → get p.settled page ≡ o → is_resident_page access (region_on p page) o ≡ false
        → Takes (made_resident_from w.files w.counter (is_shared_by (others_have w s) o) p access page o) (resident_need_of (is_shared_by (others_have w s) o) p access page o)
    serving access page None is absent = settling access page is
    serving access page (Some x) is absent = rw absent (taking page x (taken_over w.counter (others_have w s x.copy) (region_on p page) x) (parts_from (others_have w s x.copy) x) is refl (λ e. (and_parts x.cow (others_have w s x.copy) e).1))

free_of : World → ℕ → Result Progress Rule → ℕ
free_of w s (Ok g) = free (with_progress w s g)
free_of w s (Err r) = 0

pub service_spends : (w : World) (s page : ℕ) (p : Process) (access : Access) (g : Progress) → HasNewCopies w → process_in w s ≡ Some p → is_resident p access page ≡ false
    → resident_at (environment_of w s) access page (initial_progress w p) ≡ Ok g → free (with_progress w s g) + need_at (environment_of w s) access page p ≡ free w
unfolding resident_at free_of
service_spends w s page p access g new here absent done =
    let full : slice_get w.slots s ≡ Some (Some p) = full_slot (slice_get w.slots s) p here in
    let need : ℕ = need_at (environment_of w s) access page p in
    let r : Process = made_resident_from w.files w.counter (is_shared_page (environment_of w s) p page) p access page (get p.settled page) in
    let t = serving w s p full new access page (get p.settled page) refl absent in
    elim (is_dry w (0 + need)) as (λ b. is_dry w (0 + need) ≡ b → unless_dry (environment_of w s) access page (initial_progress w p) need b ≡ Ok g → free (with_progress w s g) + need ≡ free w) [
      | true ↦ λ _ done. absurd (cc)
      | false ↦ λ wet done.
          let is : free (with_progress w s g) ≡ free (record w { slots = slice_set w.slots s (Some r); counter = w.counter + 1 }) = sym (ap (free_of w s) done) in
          rw is (spent w.scheme w.frames need w.slots (slice_set w.slots s (Some r)) (length-set w.slots s (Some r)) t.grown (ap (is_dry w) (omega arith) ∙ wet))
    ] refl (rw absent at done)
