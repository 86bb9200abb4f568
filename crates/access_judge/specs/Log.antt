-- What the calls of a log (`Log`) say, in the words of the search.
use Rattle.std.specs.Prelude.{◌≡◌, ◌⊎◌, ℕ, suc, zero, ◌≤◌, Option, None, Some, List, [], ◌∷◌}
use Rattle.access_history.specs.History.{Memory}
use Rattle.access_history.specs.Permits.{Past}
use Rattle.access_history.specs.declared.event.Event.{Event}
use Rattle.access_judge.specs.Search.{Use, Version, until, versions}
use Rattle.access_judge.specs.declared.log.PastSatp.{PastSatp}
use Rattle.access_judge.specs.declared.log.PastWord.{PastWord}

abbrev pub use_of : PastSatp → Use
use_of s = record { satp = s.satp; epoch = s.epoch; last = s.last }

-- the words that a place had before it got the one that it has since a moment; none before moment 0
abbrev pub versions_before : Memory → List Event → ℕ → ℕ → ℕ → List Version
versions_before m h table index zero = []
versions_before m h table index (suc moment) = versions m (until h moment) table index

-- the word that a place had at a moment
abbrev pub IsPastWord : Past → ℕ → ℕ → ℕ → Option PastWord → Type 0
IsPastWord p table index moment None = versions p.first.memory (until p.events moment) table index ≡ []
IsPastWord p table index moment (Some v) =
    (v.since ≤ moment) × (versions p.first.memory (until p.events moment) table index
    ≡ record { word = v.word; last = moment } ∷ versions_before p.first.memory p.events table index v.since)

-- how many low bits a PTE leaves alone
abbrev pub IsReach : ℕ → Type 0
IsReach bits = (bits ≡ 12) ⊎ (bits ≡ 21) ⊎ (bits ≡ 30) ⊎ (bits ≡ 39) ⊎ (bits ≡ 48)
