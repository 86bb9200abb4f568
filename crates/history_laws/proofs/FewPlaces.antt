-- A hart that keeps at most five PTEs for an address, one for each level, may come to keep each PTE that may be held.
use Rattle.std.proofs.Common.{ℕ, ◌+◌, ◌≤◌, subst, inl, inr, arith, List, [], ◌∷◌, ◌++◌, length}
use Rattle.std.proofs.lemmas.List.{length_push}
use Rattle.std.proofs.lemmas.List.Elements.{Contains-push, Contains-push_cases}
use Rattle.std.specs.List.{Contains}
use Rattle.walk_rules.specs.declared.extensions.Extensions.{Extensions}
use Rattle.access_history.specs.Harts.{IsLeft, Kept, Runs, happens, kept, reads, starts}
use Rattle.access_history.specs.Held.{IsHeld, Read, at_root, below, stays, updated, with_word}
use Rattle.access_history.specs.History.{First}
use Rattle.access_history.specs.Permits.{Past, Permits}
use Rattle.access_history.specs.Permits as permits
use Rattle.access_history.specs.declared.event.Event.{Event}
use Rattle.access_history.specs.declared.outcome.Outcome.{Outcome}
use Rattle.access_history.specs.declared.outcome.Request.{Request}
use Rattle.history_laws.specs.HartAnswers.{IsWithin, MayAnswer, misaligned, not_canonical, served, unread, untranslated}
use Rattle.history_laws.specs.HartAnswers as answers
use Rattle.access_history.proofs.HeldLevels.{top_low}

none : (c : Kept) → Contains [] c → ⊥
none c has = let low = has.1 in omega (arith, low)

module _ (x : Extensions) (f : First) (va : ℕ) where
  -- a hart with five places, by what it keeps
  abbrev Small : List Event → List Kept → Type 0
  Small h cs = (run : Runs x f va h cs) × IsWithin 5 run

  empty : (h : List Event) → Small h []
  empty [] = (starts, tt)
  empty (e ∷ h) = let rest = empty h in (happens rest.0 (λ c has. absurd (none c has)), (rest.1, omega arith))

  -- it keeps the PTE, and as many as there are levels from the top to this one
  abbrev Keeps : List Event → List Event → Read → Type 0
  Keeps h past r = (cs : List Kept) × Small h cs × Contains cs (kept r past) × (length cs + r.level ≤ 5)

  keeps : (h past : List Event) (r : Read) → IsHeld x f va h r past → Keeps h past r
  keeps h past r (at_root may root) =
      let rest = empty h in
      let few = top_low root.satp r.level root.highest in
      (kept r past ∷ [], (reads rest.0 may (inl root), (rest.1, omega arith)), Contains-push [] (kept r past), omega (arith, few))
  keeps h past r (below {since = since} {above = above} was may step) =
      let up = keeps h since above was in
      let more = length_push up.0 (kept r past) in
      let level = step.next_level in
      let few = up.3 in (
        up.0 ++ kept r past ∷ [],
        (reads up.1.0 may (inr (kept above since, up.2, step)), (up.1.1, omega (arith, level, few))),
        Contains-push up.0 (kept r past),
        omega (arith, level, few, more),
      )
  keeps h past r (stays {h = earlier} {e = e} was free) =
      let up = keeps earlier past r was in
      let some = up.2.1 in
      let few = up.3 in
      let only = λ (c : Kept) (has : Contains (kept r past ∷ []) c). elim (Contains-push_cases [] (kept r past) c has)
      as (λ _. IsLeft x f va e earlier up.0 c) [
        | inl old ↦ absurd (none c old)
        | inr same ↦ subst (λ (k : Kept). IsLeft x f va e earlier up.0 k) same (inl (up.2, free))
      ] in
      (kept r past ∷ [], (happens up.1.0 only, (up.1.1, omega arith)), Contains-push [] (kept r past), omega (arith, some, few))
  keeps h past r (updated {h = earlier} {past = since} {r = b} {e = e} {w = w} was is) =
      let up = keeps earlier since b was in
      let some = up.2.1 in
      let few = up.3 in
      let new = kept (with_word b w) (e ∷ earlier) in
      let only = λ (c : Kept) (has : Contains (new ∷ []) c). elim (Contains-push_cases [] new c has) as (λ _. IsLeft x f va e earlier up.0 c) [
        | inl old ↦ absurd (none c old)
        | inr same ↦ inr (kept b since, w, up.2, is, same)
      ] in
      (new ∷ [], (happens up.1.0 only, (up.1.1, omega arith)), Contains-push [] new, omega (arith, some, few))

module _ (x : Extensions) (p : Past) (q : Request) where
  abbrev pub SomeSmall : Outcome → Type 0
  SomeSmall o = (cs : List Kept) × (run : Runs x p.first q.va.0 p.events cs) × IsWithin 5 run × MayAnswer x p q cs o

  nothing_kept : (o : Outcome) → MayAnswer x p q [] o → SomeSmall o
  nothing_kept o answer = let rest = empty x p.first q.va.0 p.events in ([], rest.0, rest.1, answer)

  pub of_small : (o : Outcome) → Permits x p q o → SomeSmall o
  of_small o (permits.misaligned odd) = nothing_kept o (misaligned odd)
  of_small o (permits.untranslated whole why ends) = nothing_kept o (untranslated whole why ends)
  of_small o (permits.not_canonical whole mode top bad) = nothing_kept o (not_canonical whole mode top bad)
  of_small o (permits.served {r = r} whole mode serves says) =
      let hart = keeps x p.first q.va.0 p.events serves.since r serves.held in (
        hart.0,
        hart.1.0,
        hart.1.1,
        served {c = kept r serves.since} whole mode (record { keeps = hart.2; present = serves.present; space = serves.space; last = serves.last }) says,
      )
  of_small o (permits.unread whole mode top canonical (permits.at_root root own) why) =
      nothing_kept o (unread whole mode top canonical (answers.at_root root own) why)
  of_small o (permits.unread whole mode top canonical (permits.below {above = above} {since = since} held step serves) why) =
      let hart = keeps x p.first q.va.0 p.events since above held in
      (hart.0, hart.1.0, hart.1.1, unread whole mode top canonical (answers.below hart.2 step serves) why)
