-- `filled`: the view of a seat (what it holds and knows) after the seat has claimed a frame and filled it with a list of
-- words; with the frame's hold (`page_hold`). Laws: what this view has of that frame, of each of its words, and of every
-- other frame; it holds that frame, and still frame 0 if that frame is new.
use Rattle.std.proofs.Common.{◌≡◌, ℕ, zero, suc, ◌+◌, ◌<◌, true, List, [], ◌∷◌, refl, ap, sym, subst, ◌∙◌, arith, lit<}
use Rattle.std.specs.Prelude.{slice_get}
use Rattle.std.specs.List.{enumerate_from}
use Rattle.std.specs.Ordering.{nat_cmp}
use Rattle.std.specs.Cmp.{nat_cmp_total, unsigned_tied}
use Rattle.std.specs.FinMap as map
use Rattle.std.proofs.lemmas.Bool.{ne_eqb, eq-eqb}
use Rattle.frame_store.specs.View.{spent, View, Hold, hold_of, references, IsHeld, known_word, with_hold}
use Rattle.frame_store.specs.Holds.{hold_of-with_hold_same, hold_of-with_hold_other, hold_of-frames}

-- the words of a list, by their index
unfoldable pub words_by_index : List ℕ → map.FinMap nat_cmp ℕ
words_by_index words = map.from_entries (enumerate_from 0 words)

-- the hold of a frame with its only reference, whose known words are those of the list
abbrev pub page_hold : List ℕ → Hold
page_hold words = record { references = 1; sole = true; words = words_by_index words }

-- the view after frame f was claimed and filled with the words; credits, other frames and the other tallies are as they were
abbrev pub filled : ℕ → List ℕ → View → View
filled f words v = with_hold f (page_hold words) (record v { tallies = spent 1 v.tallies })

find-enumerate_from : (n i : ℕ) (words : List ℕ) → map.find nat_cmp (n + i) (enumerate_from n words) ≡ slice_get words i
find-enumerate_from n i [] = refl
find-enumerate_from n zero (w ∷ words) = rw (unsigned_tied (n + 0) n, eq-eqb (n + 0) n (omega arith)) refl
find-enumerate_from n (suc i) (w ∷ words) =
    let later : n + suc i ≡ n + 1 + i = omega arith in
    rw (unsigned_tied (n + suc i) n, ne_eqb (n + suc i) n (λ e. omega arith)) (ap (λ q.
    map.find nat_cmp q (enumerate_from (n + 1) words)) later ∙ find-enumerate_from (n + 1) i words)

-- the word at an index is that of the list
pub get-words_by_index : (words : List ℕ) (i : ℕ) → map.get (words_by_index words) i ≡ slice_get words i
unfolding words_by_index
get-words_by_index words i = map.get-from_entries nat_cmp_total (enumerate_from 0 words) i
    ∙ (let e : i ≡ 0 + i = omega arith in ap (λ q. map.find nat_cmp q (enumerate_from 0 words)) e ∙ find-enumerate_from 0 i words)

-- what the view `filled` has of each frame
module _ (f : ℕ) (words : List ℕ) (v : View) where
  pub hold_of-filled_same : hold_of (filled f words v) f ≡ page_hold words
  hold_of-filled_same = hold_of-with_hold_same f (page_hold words) (record v { tallies = spent 1 v.tallies })

  pub hold_of-filled_other : (g : ℕ) → (g ≡ f → ⊥) → hold_of (filled f words v) g ≡ hold_of v g
  hold_of-filled_other g apart = hold_of-with_hold_other f (page_hold words) (record v { tallies = spent 1 v.tallies }) g apart
      ∙ hold_of-frames (record v { tallies = spent 1 v.tallies }) v refl g

  pub known_word-filled : (i : ℕ) → known_word (filled f words v) f i ≡ slice_get words i
  known_word-filled i = ap (λ (h : Hold). map.get h.words i) hold_of-filled_same ∙ get-words_by_index words i

  pub filled_holds : IsHeld (filled f words v) f
  filled_holds = subst (λ (h : Hold). 0 < h.references) (sym hold_of-filled_same) (lit< tt)

  -- if frame f was not held and frame 0 was, frame 0 is still held
  pub filled_held : references v f ≡ 0 → IsHeld v 0 → IsHeld (filled f words v) 0
  filled_held none held =
      let apart : 0 ≡ f → ⊥ = λ e. let other : references v 0 ≡ 0 = ap (references v) e ∙ none in omega arith in
      subst (λ (h : Hold). 0 < h.references) (sym (hold_of-filled_other 0 apart)) held
