-- What is permitted is what harts may answer: each way for the one is a way for the other, since what may be held is what harts keep.
use Rattle.std.proofs.Common.{◌↔◌, ℕ, arith, List, [], ◌∷◌}
use Rattle.walk_rules.specs.declared.extensions.Extensions.{Extensions}
use Rattle.access_history.specs.Harts.{Kept, Runs, kept, starts, happens}
use Rattle.access_history.specs.Held.{Read}
use Rattle.access_history.specs.History.{First}
use Rattle.access_history.specs.Permits.{MayStandAt, Past, Permits}
use Rattle.access_history.specs.Permits as permits
use Rattle.access_history.specs.declared.event.Event.{Event}
use Rattle.access_history.specs.declared.outcome.Outcome.{Outcome}
use Rattle.access_history.specs.declared.outcome.Request.{Request}
use Rattle.history_laws.specs.HartAnswers.{MayAnswer, WalksAt, at_root, below, misaligned, not_canonical, served, unread, untranslated}
use Rattle.access_history.proofs.HartRuns.{held_runs, runs_held}

-- a hart may keep nothing
empty : (x : Extensions) (f : First) (va : ℕ) (h : List Event) → Runs x f va h []
empty x f va [] = starts
empty x f va (e ∷ h) = happens (empty x f va h) (λ c has. absurd (let low = has.1 in omega (arith, low)))

module _ (x : Extensions) (p : Past) (q : Request) where
  abbrev Some_hart : Outcome → Type 0
  Some_hart o = (cs : List Kept) × Runs x p.first q.va.0 p.events cs × MayAnswer x p q cs o

  abbrev no_cache : Runs x p.first q.va.0 p.events []
  no_cache = empty x p.first q.va.0 p.events

  stands : (cs : List Kept) → Runs x p.first q.va.0 p.events cs → (r : Read) → WalksAt x p q cs r → MayStandAt x p q r
  stands cs run r (at_root root own) = permits.at_root root own
  stands cs run r (below {c = c} has is serves) = permits.below (runs_held x p.first q.va.0 p.events cs run c has) is serves

  answered : (cs : List Kept) → Runs x p.first q.va.0 p.events cs → (o : Outcome) → MayAnswer x p q cs o → Permits x p q o
  answered cs run o (misaligned odd) = permits.misaligned odd
  answered cs run o (untranslated whole why ends) = permits.untranslated whole why ends
  answered cs run o (not_canonical whole mode top bad) = permits.not_canonical whole mode top bad
  answered cs run o (served {c = c} whole mode goes says) = permits.served whole mode
      (record { since = c.past; held = runs_held x p.first q.va.0 p.events cs run c goes.keeps; present = goes.present; space = goes.space; last = goes.last }) says
  answered cs run o (unread {r = r} whole mode top canonical walks why) = permits.unread whole mode top canonical (stands cs run r walks) why

  walks : (r : Read) → MayStandAt x p q r → (cs : List Kept) × Runs x p.first q.va.0 p.events cs × WalksAt x p q cs r
  walks r (permits.at_root root own) = ([], no_cache, at_root root own)
  walks r (permits.below {above = above} {since = since} held is serves) =
      let hart = held_runs x p.first q.va.0 p.events since above held in
      (hart.0, hart.1, below hart.2 is serves)

  permitted : (o : Outcome) → Permits x p q o → Some_hart o
  permitted o (permits.misaligned odd) = ([], no_cache, misaligned odd)
  permitted o (permits.untranslated whole why ends) = ([], no_cache, untranslated whole why ends)
  permitted o (permits.not_canonical whole mode top bad) = ([], no_cache, not_canonical whole mode top bad)
  permitted o (permits.served {r = r} whole mode serves says) =
      let hart = held_runs x p.first q.va.0 p.events serves.since r serves.held in (
        hart.0,
        hart.1,
        served {c = kept r serves.since} whole mode
            (record { keeps = hart.2; present = serves.present; space = serves.space; last = serves.last }) says,
      )
  permitted o (permits.unread {r = r} whole mode top canonical at why) =
      let hart = walks r at in
      (hart.0, hart.1, unread whole mode top canonical hart.2 why)

  pub of_harts : (o : Outcome) → Permits x p q o ↔ Some_hart o
  of_harts o = (permitted o, λ hart. answered hart.0 hart.1 o hart.2)
