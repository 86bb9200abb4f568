-- `PlainFrames` as contracts see it: its state (`PlainState`), first state and report; its invariant with the views of
-- all seats (`PlainInvariant`: counts are sums of references, what each view, the state of a seat, says is true, and the
-- frames of count 0 are the free and the reserved ones); the list of unused frames (`ListsUnused`). Laws: seats may be in
-- any order, held frames exist, an empty seat may be added, calls keep the number of frames.
use Rattle.std.proofs.Common.{sym, subst, ap, ◌∙◌, arith, inl, inr}
use Rattle.std.proofs.lemmas.Bool.{cases_lt}
use Rattle.std.proofs.lemmas.List.{get_or_past}
use Rattle.std.specs.Prelude.{◌≡◌, ◌≢◌, refl, ℕ, ◌+◌, ◌-◌, ◌*◌, ◌<◌, ◌≤◌, Bool, List, [], ◌∷◌, ◌++◌, length, replicate, slice_index}
use Rattle.std.specs.Prelude.{slice_set, count_by, nat_lt, sum, ◌==◌, Some, IsTrue}
use Rattle.process_model.specs.declared.step.Report.{Report}
use Rattle.std.specs.FinMap as finite
use Rattle.std.specs.Ordering.{nat_cmp}
use Rattle.frame_store.specs.Holds.{hold_of-empty}
use Rattle.frame_store.specs.Laws.{KeepsSeats}
use Rattle.frame_store.specs.View.{View, Hold, empty_view, hold_of, IsHeld, references, not_held}
use Rattle.process_model.specs.declared.limits.TheConstants.{MOST_FRAMES}

-- the references of all views to frame f
abbrev pub total_references : ℕ → List View → ℕ
total_references f [] = 0
total_references f (v ∷ vs) = references v f + total_references f vs

-- the credits of all views
abbrev pub total_credits : List View → ℕ
total_credits [] = 0
total_credits (v ∷ vs) = v.credits + total_credits vs

-- plain frames as contracts see them: all words in a list, 512 for each frame; the reference count of each frame; and the
-- free count, the frames of count 0 less the credits of all seats
pub record PlainState : Type 0 where
  pub words : List ℕ
  pub counts : List ℕ
  pub free : ℕ

-- what a seat's hold h says of frame f is true of the words and counts: a word that it knows is the word there; a sole
-- holder has a reference, and all that are counted; a seat without a reference knows nothing
pub record FrameAgrees (words counts : List ℕ) (f : ℕ) (h : Hold) : Type 0 where
  pub known : (i w : ℕ) → finite.get h.words i ≡ Some w → (i < 512) × (slice_index words (512 * f + i) ≡ w)
  pub sole : IsTrue h.sole → (0 < h.references) × (h.references ≡ slice_index counts f)
  pub bare : h.references ≡ 0 → h ≡ not_held

-- all that a view says of frames is true
abbrev pub Agrees : List ℕ → List ℕ → View → Type 0
Agrees words counts v = (f : ℕ) → FrameAgrees words counts f (hold_of v f)

abbrev pub AllAgree : List ℕ → List ℕ → List View → Type 0
AllAgree words counts [] = Unit {0}
AllAgree words counts (v ∷ vs) = Agrees words counts v × AllAgree words counts vs

-- each view has the size n
abbrev pub AllSay : ℕ → List View → Type 0
AllSay n [] = Unit {0}
AllSay n (v ∷ vs) = (v.size ≡ n) × AllSay n vs

abbrev pub is_zero : ℕ → Bool
is_zero c = c == 0

abbrev pub is_shared : ℕ → Bool
is_shared c = nat_lt 1 c

-- the invariant: at most 1,024 frames, 512 words for each; each count is the sum of all references; the frames of count 0
-- are as many as the free count and all credits together; each view has the right size, and what it says of frames is true
pub record PlainInvariant (words counts : List ℕ) (free : ℕ) (views : List View) : Type 0 where
  pub few : length counts ≤ MOST_FRAMES
  pub sized : length words ≡ 512 * length counts
  pub counted : (f : ℕ) → total_references f views ≡ slice_index counts f
  pub balanced : count_by is_zero counts ≡ free + total_credits views
  pub sizes : AllSay (length counts) views
  pub agrees : AllAgree words counts views

-- of at most 1,024 frames, the list has each one of count 0 exactly once
pub record ListsUnused (unused counts : List ℕ) : Type 0 where
  pub few : length counts ≤ MOST_FRAMES
  pub inside : (i : ℕ) → i < length unused → slice_index unused i < length counts
  pub unused_ones : (i : ℕ) → i < length unused → slice_index counts (slice_index unused i) ≡ 0
  pub once : (i j : ℕ) → i < j → j < length unused → slice_index unused i ≢ slice_index unused j
  pub all : length unused ≡ count_by is_zero counts

-- `frames` frames whose words are 0; frame 0 has one reference and the others are free
abbrev pub initial_plain_state : ℕ → PlainState
initial_plain_state frames = record { words = replicate (512 * frames) 0; counts = slice_set (replicate frames 0) 0 1; free = frames - 1 }

-- the report of these counts: how many frames have count 0, count 1 or more, and count 2 or more, and the sum of the counts
abbrev pub report_of : List ℕ → Report
report_of counts = record {
  free = count_by is_zero counts;
  held = length counts - count_by is_zero counts;
  shared = count_by is_shared counts;
  references = sum counts;
}

abbrev pub PlainStateInvariant : PlainState → List View → Type 0
PlainStateInvariant b views = PlainInvariant b.words b.counts b.free views

-- the order of the views does not matter: one may be moved to the front of the list, and from there to any place
total_references-move : (f : ℕ) (xs : List View) (a : View) (ys : List View)
    → total_references f (xs ++ a ∷ ys) ≡ references a f + total_references f (xs ++ ys)
total_references-move f [] a ys = refl
total_references-move f (x ∷ xs) a ys = omega (arith, total_references-move f xs a ys)

total_credits-move : (xs : List View) (a : View) (ys : List View) → total_credits (xs ++ a ∷ ys) ≡ a.credits + total_credits (xs ++ ys)
total_credits-move [] a ys = refl
total_credits-move (x ∷ xs) a ys = omega (arith, total_credits-move xs a ys)

all_agree-front : (words counts : List ℕ) (xs : List View) (a : View) (ys : List View) → AllAgree words counts (xs ++ a ∷ ys)
    → AllAgree words counts (a ∷ xs ++ ys)
all_agree-front words counts [] a ys h = h
all_agree-front words counts (x ∷ xs) a ys h = let t = all_agree-front words counts xs a ys h.1 in (t.0, (h.0, t.1))

all_agree-back : (words counts : List ℕ) (xs : List View) (a : View) (ys : List View) → AllAgree words counts (a ∷ xs ++ ys)
    → AllAgree words counts (xs ++ a ∷ ys)
all_agree-back words counts [] a ys h = h
all_agree-back words counts (x ∷ xs) a ys h = (h.1.0, all_agree-back words counts xs a ys (h.0, h.1.1))

all_say-front : (n : ℕ) (xs : List View) (a : View) (ys : List View) → AllSay n (xs ++ a ∷ ys) → AllSay n (a ∷ xs ++ ys)
all_say-front n [] a ys h = h
all_say-front n (x ∷ xs) a ys h = let t = all_say-front n xs a ys h.1 in (t.0, (h.0, t.1))

all_say-back : (n : ℕ) (xs : List View) (a : View) (ys : List View) → AllSay n (a ∷ xs ++ ys) → AllSay n (xs ++ a ∷ ys)
all_say-back n [] a ys h = h
all_say-back n (x ∷ xs) a ys h = (h.1.0, all_say-back n xs a ys (h.0, h.1.1))

module _ (words counts : List ℕ) (free : ℕ) (xs : List View) (a : View) (ys : List View) where
  pub to_front : PlainInvariant words counts free (xs ++ a ∷ ys) → PlainInvariant words counts free (a ∷ xs ++ ys)
  to_front r = record {
    few = r.few;
    sized = r.sized;
    counted = λ f. sym (total_references-move f xs a ys) ∙ r.counted f;
    balanced = r.balanced ∙ ap (λ n. free + n) (total_credits-move xs a ys);
    sizes = all_say-front (length counts) xs a ys r.sizes;
    agrees = all_agree-front words counts xs a ys r.agrees;
  }

  pub to_back : PlainInvariant words counts free (a ∷ xs ++ ys) → PlainInvariant words counts free (xs ++ a ∷ ys)
  to_back r = record {
    few = r.few;
    sized = r.sized;
    counted = λ f. total_references-move f xs a ys ∙ r.counted f;
    balanced = r.balanced ∙ ap (λ n. free + n) (sym (total_credits-move xs a ys));
    sizes = all_say-back (length counts) xs a ys r.sizes;
    agrees = all_agree-back words counts xs a ys r.agrees;
  }

-- a held frame has a count, and a number below the number of frames

count_there : (counts : List ℕ) (f : ℕ) → 0 < slice_index counts f → f < length counts
count_there counts f some = elim (cases_lt f (length counts)) as (λ _. f < length counts) [
  | inl inside ↦ inside
  | inr past ↦ absurd (let none = get_or_past counts f 0 past in omega (arith, some, none))
]

pub held_within : (b : PlainState) (v : View) (vs : List View) → PlainStateInvariant b (v ∷ vs) → (v.size ≤ MOST_FRAMES) × ((f : ℕ) → IsHeld v f → f < v.size)
held_within b v vs r =
    let says = r.sizes.0 in (
      omega (arith, says, r.few),
      λ f held.
          let total = r.counted f in let inside = count_there b.counts f (omega (arith, held, total)) in omega (arith, says, inside),
    )

-- the invariant also holds with one more seat, which has nothing

pub not_held_agrees : (words counts : List ℕ) (f : ℕ) → FrameAgrees words counts f not_held
not_held_agrees words counts f = record {
  known = λ i w e. let n = finite.get-empty {X = ℕ} nat_cmp i in absurd (cc);
  sole = λ s. absurd (cc);
  bare = λ _. refl;
}

pub invariant-empty : (words counts : List ℕ) (free : ℕ) (v : View) (vs : List View) → PlainInvariant words counts free (v ∷ vs)
    → PlainInvariant words counts free (v ∷ empty_view v.size ∷ vs)
invariant-empty words counts free v vs r = record {
  few = r.few;
  sized = r.sized;
  counted = λ f. let e : references (empty_view v.size) f ≡ 0 = ap (λ (k : Hold). k.references) (hold_of-empty v.size f) in omega (arith, r.counted f);
  balanced = omega (arith, r.balanced);
  sizes = (r.sizes.0, (r.sizes.0, r.sizes.1));
  agrees = (r.agrees.0, ((λ f. subst (λ k. FrameAgrees words counts f k) (sym (hold_of-empty v.size f)) (not_held_agrees words counts f)), r.agrees.1));
}

-- a call that keeps all seats does not change how many frames there are
pub kept_size : (b c : PlainState) (v w : View) (vs : List View) → KeepsSeats PlainStateInvariant b v c w → PlainStateInvariant b (v ∷ vs) → w.size ≡ v.size
kept_size b c v w vs keeps invariant = let after = keeps (empty_view v.size ∷ vs) (invariant-empty b.words b.counts b.free v vs invariant) in after.sizes.0
    ∙ sym after.sizes.1.0
