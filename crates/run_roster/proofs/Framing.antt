-- Lemmas on frames for starts: those that the starts take together after one more (`needs_push`), why a start is refused with
-- NoFrame after one result more (`framed_next`) and for the next one to enlist (`framed_first`).
use Rattle.std.proofs.Common.{◌≡◌, ℕ, ◌+◌, ◌-◌, ◌<◌, ◌≤◌, Bool, false, cond, List, [], ◌∷◌, ◌++◌, None, Some, length, slice_get, take, refl, sym, ap, ◌∙◌, subst, arith}
use Rattle.std.specs.Prelude.{nat_le}
use Rattle.std.proofs.lemmas.Bool.{leb-false}
use Rattle.std.proofs.lemmas.List.{take-append-le}
use Rattle.std.proofs.lemmas.Option.{same_Some}
use Rattle.run_roster.proofs.Making.{slots_first, slots_push}
use Rattle.run_roster.specs.StartEffects.{slots_of, takes_slot}
use Rattle.run_roster.specs.StartFrames.{AreFramed, IfNoFrame, image_need, LeftTooFew, needs, OnNoFrame}
use Rattle.run_roster.specs.declared.start_result.StartResult.{StartResult}
use Rattle.run_roster.specs.declared.start_result.StartResult.TheVariants as made
use Rattle.process_model.specs.declared.call.ProcessEnd.{ProcessEnd}
use Rattle.process_model.specs.declared.call.ProcessEnd.TheVariants as outcome
use Rattle.process_model.specs.declared.call.Start.{Start}
use Rattle.process_model.specs.declared.reply.Refusal.TheVariants as refusal

needs_none : (ss : List Start) → needs ss [] ≡ 0
needs_none [] = refl
needs_none (s ∷ ss) = refl

pub needs_push : (ss : List Start) (bs : List Bool) (b : Bool) (s : Start) → slice_get ss (length bs) ≡ Some s → needs ss (bs ++ b ∷ []) ≡ needs ss bs + cond b (image_need s.image) 0
needs_push [] bs b s at = absurd (let no : None ≡ Some s = at in cc)
needs_push (x ∷ ss) [] b s at =
    let none = needs_none ss in
    let same : cond b (image_need x.image) 0 ≡ cond b (image_need s.image) 0 = ap (λ (t : Start). cond b (image_need t.image) 0) (same_Some x s at) in
    omega (arith, none, same)
needs_push (x ∷ ss) (c ∷ bs) b s at = let rest = needs_push ss bs b s at in omega (arith, rest)

pub slots_length : (ms : List StartResult) → length (slots_of ms) ≡ length ms
slots_length [] = refl
slots_length (m ∷ ms) = let rest = slots_length ms in omega (arith, rest)

-- a weaker reason

no_frame_weaker : (p q : Type 0) → (p → q) → (o : ProcessEnd) → OnNoFrame p o → OnNoFrame q o
no_frame_weaker p q f (outcome.Refused refusal.NoFrame) on = f on
no_frame_weaker p q f o on = tt

if_weaker : (p q : Type 0) → (p → q) → (m : StartResult) → IfNoFrame p m → IfNoFrame q m
if_weaker p q f (made.Begun name space opening) on = tt
if_weaker p q f (made.Over ended) on = no_frame_weaker p q f ended.outcome on

-- one result more

framed_longer : (free : ℕ) (starts : List Start) (bs cs : List Bool) (n : ℕ) (ms : List StartResult) → n + length ms ≤ length bs → AreFramed free starts bs n ms → AreFramed free starts (bs ++ cs) n ms
framed_longer free starts bs cs n [] few was = tt
framed_longer free starts bs cs n (m ∷ ms) few was =
    let same : take n bs ≡ take n (bs ++ cs) = sym (take-append-le n bs cs (omega (arith, few))) in (
      if_weaker (LeftTooFew free starts bs n) (LeftTooFew free starts (bs ++ cs) n) (λ l. (l.0, l.1, subst (λ (ts : List Bool). free < needs starts ts + image_need l.0.image) same l.2)) m was.0,
      framed_longer free starts bs cs (n + 1) ms (omega (arith, few)) was.1,
    )

framed_push : (free : ℕ) (starts : List Start) (bs : List Bool) (n k : ℕ) (ms : List StartResult) (m : StartResult) → k ≡ n + length ms → AreFramed free starts bs n ms → IfNoFrame (LeftTooFew free starts bs k) m → AreFramed free starts bs n (ms ++ m ∷ [])
framed_push free starts bs n k [] m is was on = let same : k ≡ n = omega (arith, is) in (subst (λ (j : ℕ). IfNoFrame (LeftTooFew free starts bs j) m) same on, tt)
framed_push free starts bs n k (x ∷ ms) m is was on = (was.0, framed_push free starts bs (n + 1) k ms m (omega (arith, is)) was.1 on)

module _ (free : ℕ) (starts : List Start) (ms : List StartResult) (m : StartResult) (k left need : ℕ) (s : Start) (number : length ms ≡ k) (at : slice_get starts k ≡ Some s) (is : need ≡ image_need s.image) (sum : free ≤ left + needs starts (slots_of ms)) where
  long : length (slots_of ms) ≡ k
  long = slots_length ms ∙ number

  abbrev whole : List Bool
  whole = slots_of ms ++ takes_slot m ∷ []

  pub left_next : (less : ℕ) → less ≡ left - cond (takes_slot m) need 0 → free ≤ less + needs starts (slots_of (ms ++ m ∷ []))
  left_next less now =
      let push = ap (needs starts) (slots_push ms m) ∙ needs_push starts (slots_of ms) (takes_slot m) s (subst (λ (n : ℕ). slice_get starts n ≡ Some s) (sym long) at) in
      let took : cond (takes_slot m) need 0 ≡ cond (takes_slot m) (image_need s.image) 0 = ap (λ (n : ℕ). cond (takes_slot m) n 0) is in
      omega (arith, sum, now, push, took)

  pub framed_next : AreFramed free starts (slots_of ms) 0 ms → IfNoFrame (nat_le need left ≡ false) m → AreFramed free starts (slots_of (ms ++ m ∷ [])) 0 (ms ++ m ∷ [])
  framed_next was on = subst (λ (bs : List Bool). AreFramed free starts bs 0 (ms ++ m ∷ [])) (sym (slots_push ms m)) (framed_push free starts whole 0 k ms m (omega (arith, number)) older (if_weaker (nat_le need left ≡ false) (LeftTooFew free starts whole k) lacks m on))
    where
      older : AreFramed free starts whole 0 ms
      older = framed_longer free starts (slots_of ms) (takes_slot m ∷ []) 0 ms (let l = slots_length ms in omega (arith, l)) was

      lacks : nat_le need left ≡ false → LeftTooFew free starts whole k
      lacks dry =
          let less = leb-false need left dry in
          let before = ap (needs starts) (slots_first whole (slots_of ms) (takes_slot m ∷ []) refl k long) in
          (s, at, omega (arith, less, is, sum, before))

-- the first of those that are left

pub framed_first : (free : ℕ) (starts plan : List Start) → starts ≡ plan → (taken : List Bool) (n k : ℕ) (items rest : List StartResult) (m : StartResult) → items ≡ m ∷ rest → n ≡ k → AreFramed free starts taken n items → IfNoFrame (LeftTooFew free plan taken k) m
framed_first free starts plan same taken n k items rest m is number was =
    let here = subst (AreFramed free starts taken n) is was in
    subst (λ (ss : List Start). IfNoFrame (LeftTooFew free ss taken k) m) same (subst (λ (j : ℕ). IfNoFrame (LeftTooFew free starts taken j) m) number here.0)

pub framed_rest : (free : ℕ) (starts : List Start) (taken : List Bool) (n : ℕ) (items rest : List StartResult) (m : StartResult) → items ≡ m ∷ rest → AreFramed free starts taken n items → AreFramed free starts taken (n + 1) rest
framed_rest free starts taken n items rest m is was = (subst (AreFramed free starts taken n) is was).1
