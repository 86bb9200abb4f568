-- Lemmas on the results of starts, made one by one: one result more keeps `AreStartResults`, the slots taken and why one was
-- refused with SharersFull; the next result on the list is the one to enlist, with the rest left (`enlists_made`,
-- `enlists_rest`).
use Rattle.std.proofs.Common.{◌≡◌, ◌⊎◌, inl, inr, ℕ, ◌+◌, ◌-◌, ◌<◌, ◌≤◌, Bool, true, false, cond, List, [], ◌∷◌, ◌++◌, Some, length, length-append, lit≤, slice_get, take, refl, sym, ap, ◌∙◌, subst, arith}
use Rattle.std.proofs.lemmas.List.{append-nil, append_assoc}
use Rattle.std.proofs.lemmas.Option.{same_Some}
use Rattle.atomic_table.specs.Seated.{TableId}
use Rattle.run_roster.specs.StartEffects.{all_looks, any_full, AreStartResults, fulls, has_any, IsStartResult, looks_of, slots_of, takes_slot}
use Rattle.run_roster.specs.StartFrames.{IfFull}
use Rattle.run_roster.specs.Slots.{count, on_weaker, OnFull}
use Rattle.run_roster.specs.declared.start_result.StartResult.{StartResult}
use Rattle.run_roster.specs.declared.start_result.StartResult.TheVariants as made
use Rattle.process_model.specs.declared.call.ProcessEnd.{ProcessEnd}
use Rattle.process_model.specs.declared.call.ProcessEnd.TheVariants as outcome
use Rattle.process_model.specs.declared.call.Start.{Start}
use Rattle.process_model.specs.declared.reply.Refusal.TheVariants as refusal

-- one more

abbrev IsNext : TableId → ℕ → List Start → ℕ → ℕ → StartResult → Type 0
IsNext table slots starts k t m = (s : Start) × (slice_get starts k ≡ Some s) × IsStartResult table slots t s (k ∷ []) m

pub made_push : (table : TableId) (slots : ℕ) (starts : List Start) (n taken : ℕ) (ms : List StartResult) (m : StartResult) (k t : ℕ) → k ≡ n + length ms → t ≡ taken + count (slots_of ms) → AreStartResults table slots starts n taken ms → IsNext table slots starts k t m → AreStartResults table slots starts n taken (ms ++ m ∷ [])
made_push table slots starts n taken [] m k t number sum was next =
    let a : k ≡ n = omega (arith, number) in
    let b : t ≡ taken = omega (arith, sum) in
    (subst (λ (j : ℕ). IsNext table slots starts n j m) b (subst (λ (j : ℕ). IsNext table slots starts j t m) a next), tt)
made_push table slots starts n taken (x ∷ ms) m k t number sum was next =
    (was.0, made_push table slots starts (n + 1) (taken + cond (takes_slot x) 1 0) ms m k t (omega (arith, number)) (omega (arith, sum)) was.1 next)

pub one_slot : (m : StartResult) → cond (takes_slot m) 1 0 ≤ 1
one_slot (made.Begun name space opening) = lit≤ tt
one_slot (made.Over f) = lit≤ tt

pub count_push : (bs : List Bool) (b : Bool) → count (bs ++ b ∷ []) ≡ count bs + cond b 1 0
count_push [] b = omega arith
count_push (x ∷ xs) b = let rest = count_push xs b in omega (arith, rest)

pub slots_push : (ms : List StartResult) (m : StartResult) → slots_of (ms ++ m ∷ []) ≡ slots_of ms ++ takes_slot m ∷ []
slots_push [] m = refl
slots_push (x ∷ ms) m = ap (λ (bs : List Bool). takes_slot x ∷ bs) (slots_push ms m)

pub taken_push : (ms : List StartResult) (m : StartResult) → count (slots_of (ms ++ m ∷ [])) ≡ count (slots_of ms) + cond (takes_slot m) 1 0
taken_push ms m = ap count (slots_push ms m) ∙ count_push (slots_of ms) (takes_slot m)

pub looks_push : (ms : List StartResult) (m : StartResult) → all_looks (ms ++ m ∷ []) ≡ all_looks ms ++ looks_of m
looks_push [] m = append-nil (looks_of m)
looks_push (x ∷ ms) m = ap (λ (ls : List ℕ). looks_of x ++ ls) (looks_push ms m) ∙ sym (append_assoc (looks_of x) (all_looks ms) (looks_of m))

has_either : (xs ys : List ℕ) → has_any (xs ++ ys) ≡ true → (has_any xs ≡ true) ⊎ (has_any ys ≡ true)
has_either [] ys is = inr is
has_either (x ∷ xs) ys is = inl refl

one_full : (p : Type 0) (o : ProcessEnd) → OnFull p o → has_any (fulls o) ≡ true → p
one_full p (outcome.Refused refusal.SharersFull) on is = on
one_full p o on is = absurd (let no : false ≡ true = is in cc)

full_one : (p : Type 0) (m : StartResult) → IfFull p m → has_any (looks_of m) ≡ true → p
full_one p (made.Begun name space opening) on is = absurd (let no : false ≡ true = is in cc)
full_one p (made.Over f) on is = one_full p f.outcome on is

-- one more start, which was refused with SharersFull only if p holds
pub full_push : (p : Type 0) (ms : List StartResult) (m : StartResult) → (any_full ms ≡ true → p) → IfFull p m → any_full (ms ++ m ∷ []) ≡ true → p
full_push p ms m was on is = elim (has_either (all_looks ms) (looks_of m) (ap has_any (sym (looks_push ms m)) ∙ is)) as (λ _. p) [
  | inl before ↦ was before
  | inr now ↦ full_one p m on now
]

pub if_full_weaker : (p q : Type 0) → (p → q) → (m : StartResult) → IfFull p m → IfFull q m
if_full_weaker p q f (made.Begun name space opening) on = tt
if_full_weaker p q f (made.Over ended) on = on_weaker p q f ended.outcome on

-- the first of those that are left
module _ (whole before : List Bool) (b : Bool) (after : List Bool) (is : whole ≡ before ++ b ∷ after) where
  pub slot_at : (n : ℕ) → length before ≡ n → slice_get whole n ≡ Some b
  slot_at n number = subst (λ (k : ℕ). slice_get whole k ≡ Some b) number (subst (λ (bs : List Bool). slice_get bs (length before) ≡ Some b) (sym is) (here before))
    where
      here : (bs : List Bool) → slice_get (bs ++ b ∷ after) (length bs) ≡ Some b
      here [] = refl
      here (x ∷ xs) = here xs

  pub slots_before : (n : ℕ) → length before ≡ n → take n whole ≡ before
  slots_before n number = subst (λ (k : ℕ). take k whole ≡ before) number (subst (λ (bs : List Bool). take (length before) bs ≡ before) (sym is) (here before))
    where
      here : (bs : List Bool) → take (length bs) (bs ++ b ∷ after) ≡ bs
      here [] = refl
      here (x ∷ xs) = ap (λ (ys : List Bool). x ∷ ys) (here xs)

  pub slots_after : whole ≡ (before ++ b ∷ []) ++ after
  slots_after = is ∙ sym (append_assoc before (b ∷ []) after)

-- the first of them
pub slots_first : (whole before after : List Bool) → whole ≡ before ++ after → (n : ℕ) → length before ≡ n → take n whole ≡ before
slots_first whole before after is n number = subst (λ (k : ℕ). take k whole ≡ before) number (subst (λ (bs : List Bool). take (length before) bs ≡ before) (sym is) (here before))
  where
    here : (bs : List Bool) → take (length bs) (bs ++ after) ≡ bs
    here [] = refl
    here (x ∷ xs) = ap (λ (ys : List Bool). x ∷ ys) (here xs)

-- a name is a start's, by its number
started_same : (starts : List Start) (k : ℕ) (s t : Start) → slice_get starts k ≡ Some s → slice_get starts k ≡ Some t → s ≡ t
started_same starts k s t is at = same_Some s t (sym is ∙ at)

-- the first of the starts that are left is enlisted
module _ (table : TableId) (slots : ℕ) (starts plan : List Start) (same : starts ≡ plan) (taken : List Bool) (r n : ℕ) (sum : r + n ≡ length starts) (lt : n < length starts) (items rest : List StartResult) (m : StartResult) (is : items ≡ m ∷ rest) where
  abbrev AreLeft : ℕ → List StartResult → Type 0
  AreLeft k ms = (before : List Bool) × (taken ≡ before ++ slots_of ms) × (length before ≡ k) × AreStartResults table slots starts k (count before) ms

  module _ (left : AreLeft n items) where
    here : AreLeft n (m ∷ rest)
    here = subst (AreLeft n) is left

    abbrev number : ℕ
    number = length plan - r

    is_number : n ≡ number
    is_number = let count : length starts ≡ length plan = ap length same in omega (arith, sum, lt, count)

    pub enlists_taken : slice_get taken (length plan - r) ≡ Some (takes_slot m)
    enlists_taken = subst (λ (k : ℕ). slice_get taken k ≡ Some (takes_slot m)) is_number (slot_at taken here.0 (takes_slot m) (slots_of rest) here.1 n here.2)

    pub enlists_made : (s : Start) → slice_get starts n ≡ Some s → IsStartResult table slots (count (take (length plan - r) taken)) s ((length plan - r) ∷ []) m
    enlists_made s at =
        let next = here.3.0 in
        let before : take n taken ≡ here.0 = slots_before taken here.0 (takes_slot m) (slots_of rest) here.1 n here.2 in
        subst (λ (k : ℕ). IsStartResult table slots (count (take k taken)) s (k ∷ []) m) is_number
        (subst (λ (bs : List Bool). IsStartResult table slots (count bs) s (n ∷ []) m) (sym before)
        (subst (λ (t : Start). IsStartResult table slots (count here.0) t (n ∷ []) m) (started_same starts n next.0 s next.1 at) next.2))

    pub enlists_rest : AreLeft (n + 1) rest
    enlists_rest =
        let more = here.0 ++ takes_slot m ∷ [] in
        let long : length more ≡ n + 1 = let was = here.2 in let push = length-append {A = Bool} here.0 (takes_slot m ∷ []) in omega (arith, was, push) in (
          more,
          slots_after taken here.0 (takes_slot m) (slots_of rest) here.1,
          long,
          subst (λ (t : ℕ). AreStartResults table slots starts (n + 1) t rest) (sym (count_push here.0 (takes_slot m))) here.3.1,
        )

    -- the slots taken before the next one
    pub enlists_out : (out next : ℕ) → out ≡ count (take n taken) → next ≡ out + cond (takes_slot m) 1 0 → next ≡ count (take (n + 1) taken)
    enlists_out out next was is =
        let more = here.0 ++ takes_slot m ∷ [] in
        let long : length more ≡ n + 1 = let number = here.2 in let push = length-append {A = Bool} here.0 (takes_slot m ∷ []) in omega (arith, number, push) in
        let before = ap count (slots_before taken here.0 (takes_slot m) (slots_of rest) here.1 n here.2) in
        let now : count (take (n + 1) taken) ≡ count more = ap count (slots_first taken more (slots_of rest) (slots_after taken here.0 (takes_slot m) (slots_of rest) here.1) (n + 1) long) in
        let push = count_push here.0 (takes_slot m) in
        omega (arith, was, is, before, now, push)
