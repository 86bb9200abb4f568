-- What the updates in a place say, as the loops over its words and over a group of places come by them.
use Rattle.std.proofs.Common.{◌≡◌, ◌≤◌, ◌<◌, ℕ, suc, zero, List, [], ◌∷◌, ◌++◌, Bool, true, false, ◌&&◌, ◌-◌, ◌+◌, nat_le, length, refl, ap, sym, ◌∙◌, arith, append_assoc, if◌then◌else◌}
use Rattle.std.specs.List.{Contains, flat_map, range_with_len}
use Rattle.std.proofs.lemmas.Bool.{le-leb}
use Rattle.std.proofs.lemmas.Bool.Decides.{nat_tests}
use Rattle.std.proofs.lemmas.List.{append-nil}
use Rattle.access_history.specs.Held.{sets_ad, with_word}
use Rattle.access_history.specs.History.{Memory}
use Rattle.access_history.specs.Permits.{Past}
use Rattle.access_history.specs.declared.event.Event.{Event}
use Rattle.access_history.specs.declared.outcome.Outcome.{Outcome}
use Rattle.access_judge.specs.Judging.{behind_say, group_says_since, place_says_of, update_says_of}
use Rattle.access_judge.specs.Log.{versions_before}
use Rattle.access_judge.specs.Search.{Found, Version, says, until, updated_behind, versions}
use Rattle.access_judge.specs.declared.question.Question.{Question}
use Rattle.access_judge.proofs.Moments.{past_length, until_length, until_now}
use Rattle.access_judge.proofs.SearchLists.{contains_head, contains_later}
use Rattle.access_judge.proofs.Telling.{before_some}
use Rattle.access_judge.proofs.WordVersions.{version_had}

-- a store over a word that memory had at the moment or later counts if it is an update
one_more : (f : ℕ → List Outcome) (new : ℕ) (b : Bool) (rest : List ℕ)
    → flat_map f ((if b then new ∷ [] else []) ++ rest) ≡ (if b then f new else []) ++ flat_map f rest
one_more f new true rest = refl
one_more f new false rest = refl

both_if : (b c : Bool) → b ≡ true → (b && c) ≡ c
both_if true c is = refl
both_if false c is = absurd (cc)

-- one store more
pub behind_more : (a : Question) (p : Past) (c : Found) (new word moment since : ℕ) (m : Memory) (h : List Event) (table index newer : ℕ) (done all : List Outcome)
    → 0 < newer → c.last ≤ moment → moment ≡ newer - 1
    → versions m (until h moment) table index ≡ record { word = word; last = moment } ∷ versions_before m h table index since
    → done ++ behind_say a p c new (versions_before m h table index newer) ≡ all
    → (done ++ (if sets_ad c.read.word word new then update_says_of a p c new else [])) ++ behind_say a p c word (versions_before m h table index since) ≡ all
unfolding behind_say
behind_more a p c new word moment since m h table index newer done all some late same is total =
    let list = before_some m h table index newer some ∙ ap (λ (k : ℕ). versions m (until h k) table index) (sym same) ∙ is in
    let tests = both_if (nat_le c.last moment) (sets_ad c.read.word word new) (le-leb c.last moment late) in
    let step = ap (λ (vs : List Version). flat_map (update_says_of a p c) (updated_behind c.last c.read.word new vs)) list
    ∙ one_more (update_says_of a p c) new (nat_le c.last moment && sets_ad c.read.word word new) (updated_behind c.last c.read.word word (versions_before m h table index since))
    ∙ ap (λ (b : Bool). (if b then update_says_of a p c new else []) ++ flat_map (update_says_of a p c) (updated_behind c.last c.read.word word (versions_before m h table index since))) tests in
    append_assoc done (if sets_ad c.read.word word new then update_says_of a p c new else [])
    (flat_map (update_says_of a p c) (updated_behind c.last c.read.word word (versions_before m h table index since)))
    ∙ ap (λ (os : List Outcome). done ++ os) (sym step) ∙ total

nothing_left : (done rest all : List Outcome) → rest ≡ [] → done ++ rest ≡ all → done ≡ all
nothing_left done rest all none total = sym (append-nil done) ∙ sym (ap (λ (os : List Outcome). done ++ os) none) ∙ total

-- no older word is in memory
pub behind_end : (a : Question) (p : Past) (c : Found) (new moment : ℕ) (m : Memory) (h : List Event) (table index newer : ℕ) (done all : List Outcome)
    → 0 < newer → moment ≡ newer - 1 → versions m (until h moment) table index ≡ [] → done ++ behind_say a p c new (versions_before m h table index newer) ≡ all → done ≡ all
unfolding behind_say
behind_end a p c new moment m h table index newer done all some same none total =
    let list = before_some m h table index newer some ∙ ap (λ (k : ℕ). versions m (until h k) table index) (sym same) ∙ none in
    nothing_left done (flat_map (update_says_of a p c) (updated_behind c.last c.read.word new (versions_before m h table index newer))) all
    (ap (λ (vs : List Version). flat_map (update_says_of a p c) (updated_behind c.last c.read.word new vs)) list) total

-- what was stored no later than the moment is no update
old_none : (last w new : ℕ) (vs : List Version) → ((v : Version) → Contains vs v → v.last < last) → updated_behind last w new vs ≡ []
old_none last w new [] old = refl
old_none last w new (v ∷ vs) old =
    let low = old v (contains_head v vs) in
    let no : nat_le last v.last ≡ false = not_le last v.last low in
    rw no (old_none last w v.word vs (λ u has. old u (contains_later v u vs has)))
  where
    not_le : (m n : ℕ) → n < m → nat_le m n ≡ false
    not_le m n low = grind (arith, nat_tests)

old_versions : (m : Memory) (h : List Event) (table index newer last : ℕ) → newer ≤ last → newer ≤ length h → (v : Version)
    → Contains (versions_before m h table index newer) v → v.last < last
old_versions m h table index zero last low in_past v has = let less = has.1 in absurd (omega (arith, less))
old_versions m h table index (suc moment) last low in_past v has =
    let had = version_had m (until h moment) table index v has in
    let short = past_length (until h moment) had.0 had.1 in
    let long = until_length h moment (omega (arith, in_past)) in
    let is = had.2 in
    omega (arith, short, long, is, low)

pub behind_old : (a : Question) (p : Past) (c : Found) (new : ℕ) (m : Memory) (h : List Event) (table index newer : ℕ) (done all : List Outcome)
    → newer ≤ c.last → newer ≤ length h → done ++ behind_say a p c new (versions_before m h table index newer) ≡ all → done ≡ all
unfolding behind_say
behind_old a p c new m h table index newer done all low in_past total =
    nothing_left done (flat_map (update_says_of a p c) (updated_behind c.last c.read.word new (versions_before m h table index newer))) all
    (ap (flat_map (update_says_of a p c)) (old_none c.last c.read.word new (versions_before m h table index newer) (old_versions m h table index newer c.last low in_past)))
    total

-- ---- one store

pub update_is : (a : Question) (p : Past) (c : Found) (w : ℕ) → says a.extensions p a.request a.mode (with_word c.read w) ≡ update_says_of a p c w
unfolding update_says_of
update_is a p c w = refl

pub update_if : (b : Bool) (os : List Outcome) → b ≡ true → os ≡ (if b then os else [])
update_if true os is = refl
update_if false os is = absurd (cc)

-- ---- a place

pub place_newest : (a : Question) (p : Past) (c : Found) (index word last : ℕ) (vs : List Version)
    → versions p.first.memory p.events c.read.table index ≡ record { word = word; last = last } ∷ vs → behind_say a p c word vs ≡ place_says_of a p c index
unfolding behind_say place_says_of update_says_of
place_newest a p c index word last vs is = rw is refl

pub place_nothing : (a : Question) (p : Past) (c : Found) (index : ℕ) → versions p.first.memory p.events c.read.table index ≡ [] → [] ≡ place_says_of a p c index
unfolding place_says_of
place_nothing a p c index is = rw is refl

-- the words that a place has now
pub place_now : (p : Past) (c : Found) (index now : ℕ) (vs : List Version) → now ≡ length p.events
    → versions p.first.memory (until p.events now) c.read.table index ≡ vs → versions p.first.memory p.events c.read.table index ≡ vs
place_now p c index now vs is list =
    let moment : until p.events now ≡ p.events = ap (until p.events) is ∙ until_now p.events in
    sym (ap (λ (h : List Event). versions p.first.memory h c.read.table index) moment) ∙ list

-- ---- a group of places

pub group_all : (a : Question) (p : Past) (c : Found) (first n : ℕ) (done : List Outcome) → 16 ≤ n
    → done ++ flat_map (λ n. place_says_of a p c (first + n)) (range_with_len n (16 - n)) ≡ flat_map (λ n. place_says_of a p c (first + n)) (range_with_len 0 16)
    → done ≡ group_says_since a p c first
unfolding group_says_since
group_all a p c first n done all total =
    let says = λ (n : ℕ). place_says_of a p c (first + n) in
    let none : 16 - n ≡ 0 = omega arith in
    sym (append-nil done) ∙ sym (ap (λ (k : ℕ). done ++ flat_map says (range_with_len n k)) none) ∙ total
