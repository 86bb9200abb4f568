-- Lemma: a start of an accepted image for which enough frames are free lowers the free count by exactly `start_need` (its
-- pages, page tables and trapframe).
use Rattle.std.proofs.Common.{◌≡◌, ℕ, false, ◌+◌, ◌≤◌, ◌<◌, inl, inr, refl, ap, arith, List, [], ◌∷◌, ◌++◌, Option, None, Some, length, length-set}
use Rattle.std.specs.Prelude.{Ok, slice_get, slice_set, sum_by}
use Rattle.std.specs.Ordering.{nat_cmp}
use Rattle.std.specs.FinMap.Entries.{find}
use Rattle.std.proofs.lemmas.List.{length-map}
use Rattle.process_model.specs.PageMap.{PageMap, from_list, numbers, keys, count}
use Rattle.process_model.specs.Process.{Process, Page}
use Rattle.process_model.specs.Images.{LoadSegment, image_loads}
use Rattle.process_model.specs.ImageProcess.{image_pages, page_numbers, numbered, process_of}
use Rattle.process_model.specs.Frames.{live, copies_of, own_frames, exec_need, tables_needed, start_need}
use Rattle.process_model.proofs.ImageNeed.{exec_need_is}
use Rattle.process_model.specs.World.{World, free, free_slot}
use Rattle.process_model.specs.Service.{is_dry}
use Rattle.process_model.specs.Calls.{with_image}
use Rattle.process_laws.specs.CopyNumbers.{HasNewCopies}
use Rattle.process_laws.proofs.SetSizes.{Among, among_parts, longer_only, longer_has, found_key, insert_has_only, count_same, count_new}
use Rattle.process_laws.proofs.Needed.{tables_of_numbers}
use Rattle.process_laws.proofs.SlotSums.{empty_slot, set_same, sum_set, all_copies, count_set}
use Rattle.process_laws.proofs.PageCopies.{copies, put_only, put_has}
use Rattle.process_laws.proofs.FreshCopies.{copies_below}
use Rattle.process_laws.proofs.FreeFrames.{different, spent}
use Rattle.process_laws.proofs.DistinctPages.{Rises, image_rises}
use Rattle.process_laws.proofs.ImageOrder.{accepted_is_placed}
use Rattle.process_model.specs.declared.image.Image.{Image}

-- the pages of an image as they are settled, with copy numbers from one on
abbrev settled_from : ℕ → List (ℕ × List ℕ) → PageMap Page
settled_from fresh es = from_list (numbered fresh es)

key_above : (low fresh : ℕ) (es : List (ℕ × List ℕ)) → Rises low es → (k : ℕ) → Among k (keys (settled_from fresh es)) → low ≤ k
key_above low fresh [] r k i = absurd i
key_above low fresh (e ∷ es) r k i =
    let here : low ≤ e.0 = r.0 in
    elim (insert_has_only (settled_from (fresh + 1) es) e.0 (record { bytes = e.1; copy = fresh; cow = false; dirty = false }) k i) [
      | inl same ↦ omega (here, same, arith)
      | inr j ↦ let later : e.0 + 1 ≤ k = key_above (e.0 + 1) (fresh + 1) es r.1 k j in omega (here, later, arith)
    ]

-- each page is put where none is yet
none_yet : (n fresh : ℕ) (es : List (ℕ × List ℕ)) → Rises (n + 1) es → find nat_cmp n (settled_from fresh es).entries ≡ None
none_yet n fresh es r = elim (find nat_cmp n (settled_from fresh es).entries) as (λ o. find nat_cmp n (settled_from fresh es).entries ≡ o → o ≡ None) [
  | None ↦ λ _. refl
  | Some x ↦ λ found. let above : n + 1 ≤ n = key_above (n + 1) fresh es r n (found_key n (settled_from fresh es).entries (rw found)) in absurd (omega (above, arith))
] refl

-- its copy numbers begin with that one
copy_above : (low fresh : ℕ) (es : List (ℕ × List ℕ)) → Rises low es → (q : ℕ) → Among q (copies (settled_from fresh es).entries) → fresh ≤ q
copy_above low fresh [] r q i = absurd i
copy_above low fresh (e ∷ es) r q i = elim (put_only e.0 (record { bytes = e.1; copy = fresh; cow = false; dirty = false }) (settled_from (fresh + 1) es).entries (none_yet e.0 (fresh + 1) es r.1) q i) [
  | inl same ↦ omega (same, arith)
  | inr j ↦ let later : fresh + 1 ≤ q = copy_above (e.0 + 1) (fresh + 1) es r.1 q j in omega (later, arith)
]

-- and each is another, where all others are below
count_image : (low fresh : ℕ) (es : List (ℕ × List ℕ)) (ns : List ℕ) → Rises low es → ((q : ℕ) → Among q ns → q < fresh)
    → count (numbers (copies (settled_from fresh es).entries ++ ns)) ≡ count (numbers ns) + length es
count_image low fresh [] ns r below = omega arith
count_image low fresh (e ∷ es) ns r below =
    let x : Page = record { bytes = e.1; copy = fresh; cow = false; dirty = false } in
    let rest : List ℕ = copies (settled_from (fresh + 1) es).entries in
    let all : List ℕ = copies (settled_from fresh (e ∷ es)).entries in
    let none = none_yet e.0 (fresh + 1) es r.1 in
    let same : count (numbers (all ++ ns)) ≡ count (numbers (fresh ∷ (rest ++ ns))) =
    count_same (all ++ ns) (fresh ∷ (rest ++ ns)) (longer_only fresh all rest ns (put_only e.0 x (settled_from (fresh + 1) es).entries none)) (longer_has fresh all rest ns (put_has e.0 x (settled_from (fresh + 1) es).entries none)) in
    let new : Among fresh (rest ++ ns) → ⊥ = λ i. elim (among_parts fresh rest ns i) [
      | inl j ↦ let above : fresh + 1 ≤ fresh = copy_above (e.0 + 1) (fresh + 1) es r.1 fresh j in omega (above, arith)
      | inr j ↦ let low : fresh < fresh = below fresh j in omega (low, arith)
    ] in
    let one : count (numbers (fresh ∷ (rest ++ ns))) ≡ count (numbers (rest ++ ns)) + 1 = count_new fresh (rest ++ ns) new in
    let others : count (numbers (rest ++ ns)) ≡ count (numbers ns) + length es =
    count_image (e.0 + 1) (fresh + 1) es ns r.1 (λ q i. let low : q < fresh = below q i in omega (low, arith)) in
    omega (same, one, others, arith)

-- an image's process is put into an empty slot
pub image_spends : (w : World) (s : ℕ) (image : Image) (ls : List LoadSegment) → HasNewCopies w → slice_get w.slots s ≡ Some None → image_loads w.scheme image ≡ Ok ls → is_dry w (start_need w.scheme ls) ≡ false
    → free (with_image w s ls) + start_need w.scheme ls ≡ free w
unfolding process_of
image_spends w s image ls new empty loaded wet =
    let p : Process = process_of w.scheme w.counter ls in
    let after : List (Option Process) = slice_set w.slots s (Some p) in
    let put : different after ≡ count (numbers (copies_of p ++ all_copies (slice_set w.slots s None))) = count_set w.slots s None (Some p) empty in
    let alone : count (numbers (copies_of p ++ all_copies (slice_set w.slots s None))) ≡ count (numbers (copies_of p ++ all_copies w.slots)) =
    ap (λ (xs : List (Option Process)). count (numbers (copies_of p ++ all_copies xs))) (set_same w.slots s None empty) in
    let pages : count (numbers (copies_of p ++ all_copies w.slots)) ≡ different w.slots + length (image_pages ls) =
    count_image 0 w.counter (image_pages ls) (all_copies w.slots) (image_rises w.scheme image ls loaded) (copies_below w new) in
    let sums : sum_by own_frames (live after) + 0 ≡ sum_by own_frames (live w.slots) + own_frames p = sum_set own_frames w.slots s None (Some p) empty in
    let tables : own_frames p ≡ 1 + tables_needed w.scheme (page_numbers ls) = ap (λ n. 1 + n) (tables_of_numbers w.scheme (page_numbers ls)) in
    let need : exec_need w.scheme ls ≡ length (page_numbers ls) + tables_needed w.scheme (page_numbers ls) = exec_need_is w.scheme ls (accepted_is_placed w.scheme image ls loaded) in
    let long : length (page_numbers ls) ≡ length (image_pages ls) = length-map (image_pages ls) (λ e. e.0) in
    spent w.scheme w.frames (start_need w.scheme ls) w.slots after (length-set w.slots s (Some p)) (omega (put, alone, pages, sums, tables, need, long, arith)) wet

pub start_spends : (w : World) (s : ℕ) (image : Image) (ls : List LoadSegment) → HasNewCopies w → free_slot w ≡ Some s → image_loads w.scheme image ≡ Ok ls → is_dry w (start_need w.scheme ls) ≡ false
    → free (with_image w s ls) + start_need w.scheme ls ≡ free w
start_spends w s image ls new to = image_spends w s image ls new (empty_slot w.slots 0 s s to (omega arith))
