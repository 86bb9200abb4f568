-- The four parts of the exactness of the search: what it comes by is held, or may be stood at, and it comes by all of that.
use Rattle.std.specs.Prelude.{◌≡◌, ◌≢◌, ◌⊎◌, ℕ, ◌≤◌, true, false, List, ◌∷◌, length}
use Rattle.std.specs.List.{Contains}
use Rattle.sv39_entry.specs.declared.entry.Kind.TheVariants.{Pointer}
use Rattle.walk_rules.specs.Kinds.{kind_in}
use Rattle.walk_rules.specs.declared.extensions.Extensions.{Extensions}
use Rattle.access_history.specs.Held.{IsHeld, IsUpdate, Read, with_word}
use Rattle.access_history.specs.Permits.{MayStandAt, Past}
use Rattle.access_history.specs.History.{First, IsPast}
use Rattle.access_history.specs.declared.event.Event.{Event}
use Rattle.access_history.specs.declared.outcome.Request.{Request}
use Rattle.access_judge.specs.Search.{Found, Stand, Use, ended, is_fenced, search_all, stands_now, stood, until}

-- a PTE that the search comes by, and that no fence has covered since, is held
abbrev pub EndedOnly : Extensions → First → List Event → List Use → ℕ → Type 0
EndedOnly x f h us va = (c : Found) → Contains (search_all x f h us va) (ended c) → is_fenced x f h va c ≡ false
    → IsHeld x f va h c.read (until h c.last) × (kind_in x c.read.level c.read.word ≢ Pointer)

-- two PTEs are alike but for the ASID of a global one
pub record IsAlike (a b : Read) : Type 0 where
  pub level : a.level ≡ b.level
  pub table : a.table ≡ b.table
  pub word : a.word ≡ b.word
  pub global : a.global ≡ b.global
  pub asid : (a.asid ≡ b.asid) ⊎ (b.global ≡ true)

-- a read is what an update of A and D after the last moment of a leaf's word made of the leaf
pub record IsUpdated (x : Extensions) (f : First) (h : List Event) (va : ℕ) (c : Found) (r : Read) : Type 0 where
  pub word : ℕ
  pub event : Event
  pub before : List Event
  pub past : IsPast h (event ∷ before)
  pub late : c.last ≤ length before
  pub update : IsUpdate x f va event before c.read word
  pub alike : IsAlike (with_word c.read word) r

-- the search comes by each PTE that is held and no pointer, or by the leaf that it was before an update
abbrev pub EndedEach : Extensions → First → List Event → List Use → ℕ → Type 0
EndedEach x f h us va = (r : Read) (past : List Event) → IsHeld x f va h r past → (kind_in x r.level r.word ≢ Pointer)
    → (c : Found) × Contains (search_all x f h us va) (ended c) × (is_fenced x f h va c ≡ false) × (IsAlike c.read r ⊎ IsUpdated x f h va c r)

-- a stand of now is one at which the walk may be
abbrev pub StoodOnly : Extensions → Past → List Use → Request → Type 0
StoodOnly x p us q = (s : Stand) → Contains (search_all x p.first p.events us q.va.0) (stood s) → stands_now p s ≡ true
    → (r : Read) × MayStandAt x p q r × (r.level ≡ s.level) × (r.table ≡ s.table)

-- the search comes by each table at which the walk may be
abbrev pub StoodEach : Extensions → Past → List Use → Request → Type 0
StoodEach x p us q = (r : Read) → MayStandAt x p q r
    → (s : Stand) × Contains (search_all x p.first p.events us q.va.0) (stood s) × (stands_now p s ≡ true) × (s.level ≡ r.level) × (s.table ≡ r.table)
