-- Lemmas: what follows for a run from what the roster keeps of each ended process (`MatchesSlots`): slots (`all_slotted`),
-- counts that were read (`all_full`), frames for the starts if no other seat is at the table (`all_pooled`).
use Rattle.std.proofs.Common.{◌≡◌, ℕ, Bool, true, List, [], ◌∷◌, All}
use Rattle.std.proofs.lemmas.List.Elements.{All-weaker}
use Rattle.hart_calls.specs.declared.finished.Finished.{Finished}
use Rattle.process_model.specs.declared.call.Start.{Start}
use Rattle.run_roster.specs.Settled.{MatchesSlots}
use Rattle.run_roster.specs.Slots.{AreSlotted, KeepsSlots, on_weaker, OnFull}
use Rattle.run_roster.specs.StartFrames.{ArePoolStarts, IsPoolStart}

module _ (starts : List Start) (slots : ℕ) (taken : List Bool) (full : Bool) (free : ℕ) (ended : List Finished) (all : All (MatchesSlots starts slots taken full free) ended) where
  pub all_slotted : AreSlotted slots ended
  all_slotted = (taken, All-weaker (MatchesSlots starts slots taken full free) (λ f. (i : ℕ) → f.name.items ≡ i ∷ [] → KeepsSlots slots taken i f) (λ f settled. settled.slot) ended all)

  pub all_full : (p : Type 0) → (full ≡ true → p) → All (λ f. OnFull p f.outcome) ended
  all_full p told = All-weaker (MatchesSlots starts slots taken full free) (λ f. OnFull p f.outcome) (λ f settled. on_weaker (full ≡ true) p told f.outcome settled.reads) ended all

  pub all_pooled : (full ≡ true → ⊥) → ArePoolStarts slots free starts ended
  all_pooled never = (taken, All-weaker (MatchesSlots starts slots taken full free) (λ f. (i : ℕ) → f.name.items ≡ i ∷ [] → IsPoolStart slots free starts taken i f) each ended all)
    where
      each : (f : Finished) → MatchesSlots starts slots taken full free f → (i : ℕ) → f.name.items ≡ i ∷ [] → IsPoolStart slots free starts taken i f
      each f settled i named = record { slot = settled.slot i named; frames = settled.frames i named; sharers = on_weaker (full ≡ true) ⊥ never f.outcome settled.reads }
