-- What harts keep is what may be held, and no less.
use Rattle.std.proofs.Common.{ℕ, subst, arith, inl, inr, List, [], ◌∷◌, ◌++◌}
use Rattle.std.specs.List.{Contains}
use Rattle.std.proofs.lemmas.List.Elements.{Contains-push, Contains-push_cases}
use Rattle.access_history.specs.Held.{IsHeld, Read, at_root, below, stays, updated, with_word}
use Rattle.access_history.specs.Harts.{IsLeft, Kept, Runs, kept, starts, reads, happens}
use Rattle.access_history.specs.History.{First}
use Rattle.access_history.specs.declared.event.Event.{Event}
use Rattle.walk_rules.specs.declared.extensions.Extensions.{Extensions}

none : (c : Kept) → Contains [] c → ⊥
none c has = let low = has.1 in omega (arith, low)

pub runs_held : (x : Extensions) (f : First) (va : ℕ) (h : List Event) (cs : List Kept) → Runs x f va h cs → (c : Kept) → Contains cs c
    → IsHeld x f va h c.read c.past
runs_held x f va h cs starts c has = absurd (none c has)
runs_held x f va h cs (reads {cs = before} {r = r} {past = past} run may way) c has = elim (Contains-push_cases before (kept r past) c has) [
  | inl old ↦ runs_held x f va h before run c old
  | inr same ↦ subst (λ (k : Kept). IsHeld x f va h k.read k.past) same (elim way [
    | inl root ↦ at_root may root
    | inr up ↦ below (runs_held x f va h before run up.0 up.1) may up.2
  ])
]
runs_held x f va h cs (happens {h = earlier} {e = e} {cs = before} run stay) c has = elim (stay c has) [
  | inl here ↦ stays (runs_held x f va earlier before run c here.0) here.1
  | inr new ↦
      let b = new.0 in
      let w = new.1 in
      subst (λ (k : Kept). IsHeld x f va (e ∷ earlier) k.read k.past) new.4 (updated (runs_held x f va earlier before run b new.2) new.3)
]

no_cache : (x : Extensions) (f : First) (va : ℕ) (h : List Event) → Runs x f va h []
no_cache x f va [] = starts
no_cache x f va (e ∷ h) = happens (no_cache x f va h) (λ c has. absurd (none c has))

pub held_runs : (x : Extensions) (f : First) (va : ℕ) (h past : List Event) (r : Read) → IsHeld x f va h r past
    → (cs : List Kept) × Runs x f va h cs × Contains cs (kept r past)
held_runs x f va h past r (at_root may root) = (kept r past ∷ [], reads (no_cache x f va h) may (inl root), Contains-push [] (kept r past))
held_runs x f va h past r (below {since = since} {above = above} was may is) =
    let up = held_runs x f va h since above was in
    (up.0 ++ kept r past ∷ [], reads up.1 may (inr (kept above since, up.2, is)), Contains-push up.0 (kept r past))
held_runs x f va h past r (stays {h = earlier} {e = e} was free) =
    let up = held_runs x f va earlier past r was in
    let only = λ (c : Kept) (has : Contains (kept r past ∷ []) c). elim (Contains-push_cases [] (kept r past) c has)
    as (λ _. IsLeft x f va e earlier up.0 c) [
      | inl old ↦ absurd (none c old)
      | inr same ↦ subst (λ (k : Kept). IsLeft x f va e earlier up.0 k) same (inl (up.2, free))
    ] in
    (kept r past ∷ [], happens up.1 only, Contains-push [] (kept r past))
held_runs x f va h past r (updated {h = earlier} {past = since} {r = b} {e = e} {w = w} was is) =
    let up = held_runs x f va earlier since b was in
    let new = kept (with_word b w) (e ∷ earlier) in
    let only = λ (c : Kept) (has : Contains (new ∷ []) c). elim (Contains-push_cases [] new c has) as (λ _. IsLeft x f va e earlier up.0 c) [
      | inl old ↦ absurd (none c old)
      | inr same ↦ inr (kept b since, w, up.2, is, same)
    ] in
    (new ∷ [], happens up.1 only, Contains-push [] new)
