-- Predicates, one for each kind of atomic step on the table of shared frames (`LoadsFree`, `GivesBack`, `Looks`,
-- `Releases`, `Loads`, `Learns`, `Stores`, `Reserves`, `Claims`, `Shares`): how the step changes the view (what a seat
-- holds and knows) of the seat that makes it, by the value that it found in its word of the table.
use Rattle.std.specs.Prelude.{◌≡◌, ℕ, ◌+◌, ◌-◌, ◌<◌, ◌≤◌, ◌==◌, cond, Some}
use Rattle.atomic_table.specs.Table.{Me, Step}
use Rattle.frame_store.specs.View.{View, known_word, references, looked, released, without_credits, with_credits, with_word, saw_none}
use Rattle.frame_store.specs.View.{claimed, shared, read_full}
use Rattle.shared_frames.specs.Invariant.{count_at, memory_at}
use Rattle.process_model.specs.declared.limits.TheConstants.{MOST_REFERENCES}

-- a seat of the table: its view, and its slots, of which there are none here
abbrev Seated : Type 0
Seated = Me (Unit {0}) View

-- of a step: the seat before it, the value that was found, and the seat after it
abbrev StepEffect : Type 1
StepEffect = Step (Unit {0}) → Seated → ℕ → Seated → Type 0

-- the free count was loaded: if it is 0, the tallies record that, with the credits that the seat has
abbrev pub saw_free : ℕ → View → View
saw_free found v = cond (found == 0) (saw_none v.credits v) v

-- a reference to frame f was dropped when its count was `found`: if that is 1, the seat has a credit for the frame
abbrev pub let_go : ℕ → ℕ → View → View
let_go f found v = record (released f v) { credits = v.credits + cond (found == 1) 1 0 }

abbrev pub LoadsFree : StepEffect
LoadsFree st m found w = w ≡ (saw_free found m.0, m.1)

abbrev pub GivesBack : StepEffect
GivesBack st m found w = w ≡ (without_credits st.first m.0, m.1)

abbrev pub Looks : StepEffect
Looks st m found w = (found ≤ MOST_REFERENCES) × ((f : ℕ) → st.word ≡ count_at f → w ≡ (looked f found m.0, m.1)) × (0 < found)

abbrev pub Releases : StepEffect
Releases st m found w = (f : ℕ) → st.word ≡ count_at f → w ≡ (let_go f found m.0, m.1)

abbrev pub Loads : StepEffect
Loads st m found w = (w ≡ m) × ((f i x : ℕ) → st.word ≡ memory_at f i → known_word m.0 f i ≡ Some x → found ≡ x)

-- a word of a frame of which the seat is the sole holder was loaded: the seat knows it then
abbrev pub Learns : StepEffect
Learns st m found w = (f i : ℕ) → i < 512 → st.word ≡ memory_at f i → w ≡ (with_word f i found m.0, m.1)

abbrev pub Stores : StepEffect
Stores st m found w = (f i : ℕ) → i < 512 → st.word ≡ memory_at f i → w ≡ (with_word f i st.first m.0, m.1)

-- The next three are exchanges. If the value found is the one expected, the view changes; otherwise it does not, except that
-- `Shares` tallies a count of `MOST_REFERENCES` that it found
abbrev pub Reserves : StepEffect
Reserves st m found w = w ≡ (cond (found == st.first) (with_credits (st.first - st.second) m.0) m.0, m.1)

abbrev pub Claims : StepEffect
Claims st m found w = (f : ℕ) → st.word ≡ count_at f → (w ≡ (cond (found == 0) (claimed f m.0) m.0, m.1)) × (found ≡ 0 → references m.0 f ≡ 0)

-- the view after an exchange that found a count that it did not expect: `MOST_REFERENCES` is tallied as read
abbrev pub unshared : ℕ → View → View
unshared found v = cond (found == MOST_REFERENCES) (read_full v) v

abbrev pub Shares : StepEffect
Shares st m found w = (found ≤ MOST_REFERENCES) × ((f : ℕ) → st.word ≡ count_at f → w ≡ (cond (found == st.first) (shared f m.0) (unshared found m.0), m.1))
