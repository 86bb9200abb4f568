-- Frames for the starts of a run whose seats nobody else shares: how many a process takes at its start (`image_need`), those
-- that took a slot together (`needs`); a start is refused with NoFrame only if the starts before it leave fewer frames than
-- it needs (`LeftTooFew`), and with SharersFull never (`ArePoolStarts`).
use Rattle.std.specs.Prelude.{◌≡◌, ℕ, ◌+◌, ◌<◌, ◌∷◌, [], All, Bool, cond, List, Result, Ok, Err, Some, slice_get, take}
use Rattle.hart_calls.specs.declared.finished.Finished.{Finished}
use Rattle.run_roster.specs.Slots.{KeepsSlots, OnFull}
use Rattle.run_roster.specs.declared.start_result.StartResult.{StartResult}
use Rattle.run_roster.specs.declared.start_result.StartResult.TheVariants as made
use Rattle.process_model.specs.Frames.{start_need}
use Rattle.process_model.specs.Images.{image_loads, LoadSegment}
use Rattle.process_model.specs.declared.call.ProcessEnd.{ProcessEnd}
use Rattle.process_model.specs.declared.call.ProcessEnd.TheVariants as outcome
use Rattle.process_model.specs.declared.call.Start.{Start}
use Rattle.process_model.specs.declared.image.BadImage.{BadImage}
use Rattle.process_model.specs.declared.image.Image.{Image}
use Rattle.process_model.specs.declared.reply.Refusal.TheVariants as refusal
use Rattle.sv39_entry.specs.declared.scheme.Scheme.TheVariants.{Sv39}

-- how many frames the process of an image takes at its start; 0 if the image is refused
abbrev pub loads_need : Result (List LoadSegment) BadImage → ℕ
loads_need (Ok ls) = start_need Sv39 ls
loads_need (Err part) = 0

abbrev pub image_need : Image → ℕ
image_need image = loads_need (image_loads Sv39 image)

-- how many frames those of the starts take that took a slot
abbrev pub needs : List Start → List Bool → ℕ
needs [] bs = 0
needs (s ∷ ss) [] = 0
needs (s ∷ ss) (b ∷ bs) = cond b (image_need s.image) 0 + needs ss bs

-- of `free` frames, those before start i leave fewer than its image needs. `taken` has for each start whether it took a slot
abbrev pub LeftTooFew : ℕ → List Start → List Bool → ℕ → Type 0
LeftTooFew free starts taken i = (s : Start) × (slice_get starts i ≡ Some s) × (free < needs starts (take i taken) + image_need s.image)

-- the outcome is NoFrame only if this holds
abbrev pub OnNoFrame : Type 0 → ProcessEnd → Type 0
OnNoFrame lacks (outcome.Refused refusal.NoFrame) = lacks
OnNoFrame lacks o = Unit {0}

-- start i of a pool of `slots` slots and `free` frames, which ended as f
pub record IsPoolStart (slots free : ℕ) (starts : List Start) (taken : List Bool) (i : ℕ) (f : Finished) : Type 0 where
  pub slot : KeepsSlots slots taken i f
  pub frames : OnNoFrame (LeftTooFew free starts taken i) f.outcome
  pub sharers : OnFull ⊥ f.outcome

-- A start is refused with NoSlot exactly when at least `slots` of the starts before it took a slot; with NoFrame only if these
-- leave fewer of the `free` frames than its image needs; and with SharersFull never.
abbrev pub ArePoolStarts : ℕ → ℕ → List Start → List Finished → Type 0
ArePoolStarts slots free starts ended = (taken : List Bool) × All (λ f. (i : ℕ) → f.name.items ≡ i ∷ [] → IsPoolStart slots free starts taken i f) ended

-- results of starts as they are made

-- if a start was refused with NoFrame, this holds
abbrev pub IfNoFrame : Type 0 → StartResult → Type 0
IfNoFrame lacks (made.Begun name space opening) = Unit {0}
IfNoFrame lacks (made.Over f) = OnNoFrame lacks f.outcome

-- if a start was refused with SharersFull, this holds
abbrev pub IfFull : Type 0 → StartResult → Type 0
IfFull full (made.Begun name space opening) = Unit {0}
IfFull full (made.Over f) = OnFull full f.outcome

-- the results of the starts from number n on: NoFrame only if frames lack
abbrev pub AreFramed : ℕ → List Start → List Bool → ℕ → List StartResult → Type 0
AreFramed free starts taken n [] = Unit {0}
AreFramed free starts taken n (m ∷ ms) = IfNoFrame (LeftTooFew free starts taken n) m × AreFramed free starts taken (n + 1) ms
