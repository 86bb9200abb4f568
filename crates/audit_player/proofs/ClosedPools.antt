-- Lemmas for the end of a run on threads: after the pool of frames is closed by a seat for which all user frames are
-- reserved, all of them are free, as `LeavesFree` says (`closed`, `pool_closed`); the user frames are all but the kernel's;
-- and the sorted ends are a text of the file (`is_text`).
use Rattle.std.proofs.Common.{◌≡◌, ℕ, ◌+◌, ◌-◌, ◌≤◌, List, map, sym, ap, subst, ◌∙◌, arith}
use Rattle.std.specs.List.Sorted.{IsPermutation}
use Rattle.atomic_table.specs.Seated.{TableId}
use Rattle.frame_store.specs.View.{IsSole, View, opening_view, references}
use Rattle.hart_calls.specs.declared.finished.Finished.{Finished}
use Rattle.run_roster.specs.RosterState.{ComesBack}
use Rattle.run_roster.specs.StartFrames.{ArePoolStarts}
use Rattle.run_roster.specs.Starts.{Lends}
use Rattle.process_model.specs.Files.{file_of}
use Rattle.script_language.specs.ThreadScript.{ThreadScript}
use Rattle.process_model.specs.declared.call.Call.{Call}
use Rattle.script_language.specs.declared.declarations.Pool.{Pool}
use Rattle.process_model.specs.declared.call.Start.{Start}
use Rattle.shared_frames.specs.SeatsOfTable.{FitsIn, view_of}
use Rattle.shared_frames.specs.Totals.{AreLastTotals, held_frames}
use Rattle.shared_frames.specs.declared.seat.SharedSeat.{SharedSeat}
use Rattle.audit_player.proofs.Holdings.{same_held, sizes_agree, still_kernel}
use Rattle.audit_player.specs.KernelFrames.{HoldsOnce, KeepsReferences}
use Rattle.audit_player.specs.ThreadRunResult.{IsTextOf, LeavesFree, kernel_of, user_frames}
use Rattle.audit_player.specs.ThreadLists.{AreListsOf, AreStartsOf}
use Rattle.audit_player.specs.ThreadText.{AreInOrder, threads_text}

-- The kernel's seat at the beginning, when its frames were taken, when all processes have ended, and when all user frames are
-- reserved for it
module _ (p : Pool) (table : TableId) (first taken ended last : SharedSeat) (opened : view_of first ≡ opening_view p.frames) (one : FitsIn table first) (two : FitsIn table taken) (holds : HoldsOnce (kernel_of p) 0 (view_of taken))
    (lends : Lends (view_of taken) (view_of ended)) (keeps : KeepsReferences (user_frames p) (view_of ended) (view_of last)) where
  kernel_size : (view_of ended).size ≡ p.frames
  kernel_size = lends.size ∙ sizes_agree table first taken one two ∙ ap (λ (v : View). v.size) opened

  -- the kernel's frames are held still
  kernel_holds : held_frames p.frames (view_of last) ≡ kernel_of p
  kernel_holds =
      let before : held_frames p.frames (view_of ended) ≡ kernel_of p = subst (λ (m : ℕ). held_frames m (view_of ended) ≡ kernel_of p) kernel_size (still_kernel (kernel_of p) (view_of taken) (view_of ended) holds lends) in
      same_held p.frames (view_of ended) (view_of last) (λ f lt. keeps.references f) ∙ before

  kernel_credits : (view_of last).credits ≡ user_frames p
  kernel_credits = sum (view_of last).credits (view_of ended).credits (view_of taken).credits (user_frames p) keeps.credits lends.credits holds.credits
    where
      sum : (last ended taken users : ℕ) → last ≡ ended + users → ended ≡ taken → taken ≡ 0 → last ≡ users
      sum last ended taken users gained same none = omega (arith, gained, same, none)

  kernel_trampoline : references (view_of last) 0 ≡ 1
  kernel_trampoline = keeps.references 0 ∙ lends.trampoline ∙ holds.trampoline

  -- all frames are the kernel's, held or reserved
  kernel_has_all : p.frames ≤ held_frames p.frames (view_of last) + (view_of last).credits
  kernel_has_all = sum p.frames (kernel_of p) (held_frames p.frames (view_of last)) (view_of last).credits kernel_holds kernel_credits
    where
      sum : (frames kernel held credits : ℕ) → held ≡ kernel → credits ≡ frames - kernel → frames ≤ held + credits
      sum frames kernel held credits same reserved = omega (arith, same, reserved)

  pub closed : (free trampoline : ℕ) → IsSole (view_of last) 0 → (IsSole (view_of last) 0 → p.frames ≤ held_frames p.frames (view_of last) + (view_of last).credits → AreLastTotals p.frames (view_of last) free trampoline) → LeavesFree p free
  closed free trampoline sole says =
      let totals : AreLastTotals p.frames (view_of last) free trampoline = says sole kernel_has_all in
      record {
        view = view_of last;
        kernel = kernel_holds;
        totals = subst (λ (n : ℕ). AreLastTotals p.frames (view_of last) free n) (totals.own ∙ kernel_trampoline) totals;
        all = totals.reserved ∙ kernel_credits;
      }

-- the same, by what each call says
pub pool_closed : (p q : Pool) (table : TableId) (first taken ended last : SharedSeat) (n k free trampoline : ℕ) → q ≡ p → n ≡ q.frames → k ≡ kernel_of q → view_of first ≡ opening_view q.frames → FitsIn table first → FitsIn table taken → HoldsOnce k 0 (view_of taken)
    → Lends (view_of taken) (view_of ended) → KeepsReferences (q.frames - k) (view_of ended) (view_of last) → IsSole (view_of last) 0 → (IsSole (view_of last) 0 → n ≤ held_frames n (view_of last) + (view_of last).credits → AreLastTotals n (view_of last) free trampoline) → LeavesFree p free
pool_closed p q table first taken ended last n k free trampoline same size count opened one two holds lends keeps sole says =
    subst (λ (x : Pool). LeavesFree x free) same (closed q table first taken ended last opened one two (subst (λ (m : ℕ). HoldsOnce m 0 (view_of taken)) count holds) lends (subst (λ (m : ℕ). KeepsReferences (q.frames - m) (view_of ended) (view_of last)) count keeps) free trampoline sole
    (subst (λ (m : ℕ). IsSole (view_of last) 0 → m ≤ held_frames m (view_of last) + (view_of last).credits → AreLastTotals m (view_of last) free trampoline) size says))

-- all frames but the kernel's
pub users_are : (p q : Pool) (k : ℕ) → q ≡ p → k ≡ kernel_of q → q.frames - k ≡ user_frames p
users_are p q k same count = ap (λ (m : ℕ). q.frames - m) count ∙ ap user_frames same

-- why starts are refused, by the pool
pub pool_starts : (p q : Pool) (k free : ℕ) (starts : List Start) (ended : List Finished) → q ≡ p → k ≡ kernel_of q → free ≡ q.frames - k → ArePoolStarts q.slots free starts ended → ArePoolStarts p.slots (user_frames p) starts ended
pool_starts p q k free starts ended same count is h =
    subst (λ (n : ℕ). ArePoolStarts p.slots n starts ended) (is ∙ users_are p q k same count) (subst (λ (r : Pool). ArePoolStarts r.slots free starts ended) same h)

-- those who ended, sorted, are a text of the file
pub is_text : (s : ThreadScript) (lists of_lists : List (List Call)) (starts of_starts : List Start) (ended sorted shown : List Finished) (free frames : ℕ) → AreListsOf s.images s.lists lists → of_lists ≡ lists → AreStartsOf s.images s.starts starts → of_starts ≡ starts → (table : TableId) × ComesBack table (map file_of s.files) of_lists of_starts ended → ArePoolStarts s.pool.slots (user_frames s.pool) of_starts ended
    → IsPermutation ended sorted → AreInOrder sorted → shown ≡ sorted → LeavesFree s.pool free → frames ≡ user_frames s.pool → IsTextOf s (threads_text shown free frames)
is_text s lists of_lists starts of_starts ended sorted shown free frames are_lists same_lists are_starts same_starts comes refusals same order shows leaves users = record {
  lists = lists;
  are_lists = are_lists;
  starts = starts;
  are_starts = are_starts;
  ended = ended;
  table = comes.0;
  comes = subst (λ (ls : List (List Call)). ComesBack comes.0 (map file_of s.files) ls starts ended) same_lists (subst (λ (ss : List Start). ComesBack comes.0 (map file_of s.files) of_lists ss ended) same_starts comes.1);
  refusals = subst (λ (ss : List Start). ArePoolStarts s.pool.slots (user_frames s.pool) ss ended) same_starts refusals;
  shown = sorted;
  same = same;
  order = order;
  leaves = subst (LeavesFree s.pool) leaves.all leaves;
  text = ap (λ (fs : List Finished). threads_text fs free frames) shows ∙ ap (threads_text sorted free) users ∙ ap (λ (n : ℕ). threads_text sorted n (user_frames s.pool)) leaves.all;
}
