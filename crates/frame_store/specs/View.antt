-- `View`, a record: the ghost state of a seat (an owner's capability at a frame store). For each frame a `Hold`
-- (references, whether the seat is known to be the sole holder, known words), then credits (reserved frames) and
-- `Tallies` (what it has claimed and read). Then functions that give the view after each call: store, reserve, give back,
-- claim, share, look, release, join, split.
use Rattle.std.specs.Prelude.{map as list_map, ◌||◌, ℕ, zero, suc, ◌+◌, ◌-◌, ◌<◌, ◌≡◌, Bool, true, false, cond, ◌==◌, List, [], ◌∷◌, ◌++◌}
use Rattle.std.specs.Prelude.{refl, Option, None, Some, IsTrue}
use Rattle.std.specs.Ordering.{nat_cmp}
use Rattle.std.specs.Coded.{Coded, code_by, coded×, coded_ℕ, coded_bool, coded_list}
use Rattle.std.specs.FinMap as map
use Rattle.process_model.specs.declared.limits.TheConstants.{MOST_REFERENCES}

-- what a seat has and knows of one frame
pub record Hold : Type 0 where
  pub references : ℕ
  -- whether the seat is known to be the sole holder: all references to the frame are its own, so no other seat holds the
  -- frame
  pub sole : Bool
  -- the words that the seat knows, by their index
  pub words : map.FinMap nat_cmp ℕ

abbrev pub hold_code : Coded Hold
hold_code = code_by (ℕ × (Bool
    × map.FinMap nat_cmp ℕ)) (coded× coded_ℕ (coded× coded_bool (map.code coded_ℕ coded_ℕ))) (λ h. (h.references, (h.sole, h.words))) (λ p.
    record { references = p.0; sole = p.1.0; words = p.1.1 }) (λ _. refl)

-- what a seat has read from the store and claimed, since the seat was made
pub record Tallies : Type 0 where
  -- how often a free count of 0 was read, and how many credits the seat had when the last was read
  pub zeros : ℕ
  pub short : ℕ
  -- how many frames were claimed
  pub claims : ℕ
  -- the reference counts that were read, in order
  pub looks : List ℕ

abbrev pub tallies_code : Coded Tallies
tallies_code = code_by (ℕ
    × (ℕ × (ℕ × List ℕ))) (coded× coded_ℕ (coded× coded_ℕ (coded× coded_ℕ (coded_list coded_ℕ)))) (λ t.
    (t.zeros, (t.short, (t.claims, t.looks)))) (λ p. record { zeros = p.0; short = p.1.0; claims = p.1.1.0; looks = p.1.1.1 }) (λ _. refl)

-- n more frames were claimed
abbrev pub spent : ℕ → Tallies → Tallies
spent n t = record t { claims = t.claims + n }

-- n more frames were claimed, and these counts were read
abbrev pub taken : ℕ → List ℕ → Tallies → Tallies
taken n counts t = record t { claims = t.claims + n; looks = t.looks ++ counts }

-- these counts were read, and no frame was claimed
abbrev pub counted : List ℕ → Tallies → Tallies
counted counts t = record t { looks = t.looks ++ counts }

pub record View : Type 0 where
  -- how many frames the store has: a held frame has a number below it
  pub size : ℕ
  pub frames : map.FinMap nat_cmp Hold
  -- how many frames are reserved for the seat and not yet claimed
  pub credits : ℕ
  pub tallies : Tallies

abbrev pub view_code : Coded View
view_code = code_by (ℕ × (map.FinMap nat_cmp Hold
    × (ℕ × Tallies))) (coded× coded_ℕ (coded× (map.code coded_ℕ hold_code) (coded× coded_ℕ tallies_code))) (λ v.
    (v.size, (v.frames, (v.credits, v.tallies)))) (λ p. record { size = p.0; frames = p.1.0; credits = p.1.1.0; tallies = p.1.1.1 })
    (λ _. refl)

-- nothing: no reference, and no word known
abbrev pub not_held : Hold
not_held = record { references = 0; sole = false; words = map.empty }

-- the only reference to a frame of which no word is known
abbrev pub sole_hold : Hold
sole_hold = record { references = 1; sole = true; words = map.empty }

-- the view of a seat that has nothing, at a store of `size` frames
abbrev pub empty_view : ℕ → View
empty_view size = record { size = size; frames = map.empty; credits = 0; tallies = record { zeros = 0; short = 0; claims = 0; looks = [] } }

abbrev pub or_not_held : Option Hold → Hold
or_not_held None = not_held
or_not_held (Some h) = h

-- what the seat has and knows of frame f
unfoldable pub hold_of : View → ℕ → Hold
hold_of v f = or_not_held (map.get v.frames f)

-- how many references to frame f the seat has
abbrev pub references : View → ℕ → ℕ
references v f = (hold_of v f).references

-- the seat holds frame f: it has a reference to it
abbrev pub IsHeld : View → ℕ → Type 0
IsHeld v f = 0 < references v f

-- the seat is known to be the sole holder of frame f
abbrev pub IsSole : View → ℕ → Type 0
IsSole v f = IsTrue (hold_of v f).sole

-- the word that the seat knows at index i of frame f, if it knows it
abbrev pub known_word : View → ℕ → ℕ → Option ℕ
known_word v f i = map.get (hold_of v f).words i

abbrev pub or_zero : Option ℕ → ℕ
or_zero (Some x) = x
or_zero None = 0

-- the view with h as its hold of frame f
abbrev pub with_hold : ℕ → Hold → View → View
with_hold f h v = record v { frames = map.insert v.frames f h }

abbrev pub without_hold : ℕ → View → View
without_hold f v = record v { frames = map.remove v.frames f }

-- how each call changes the view of the seat that makes it

-- the word w is stored at index i of frame f
abbrev pub with_word : ℕ → ℕ → ℕ → View → View
with_word f i w v = with_hold f (record (hold_of v f) { words = map.insert (hold_of v f).words i w }) v

-- known words with n of them replaced, from index `first` on, each by what `word` gives for its index
unfoldable pub put_many : ℕ → ℕ → (ℕ → ℕ) → map.FinMap nat_cmp ℕ → map.FinMap nat_cmp ℕ
put_many first zero word words = words
put_many first (suc n) word words = map.insert (put_many first n word words) (first + n) (word (first + n))

-- n words are stored in frame f from index `first` on, each what `word` gives for its index
abbrev pub with_many : ℕ → ℕ → ℕ → (ℕ → ℕ) → View → View
with_many f first n word v = with_hold f (record (hold_of v f) { words = put_many first n word (hold_of v f).words }) v

-- the word that is known at index i of frame f, or 0 if none is
abbrev pub words_known : View → ℕ → ℕ → ℕ
words_known v f i = or_zero (known_word v f i)

-- the seat knows each of the 512 words of frame f
abbrev pub AllKnown : View → ℕ → Type 0
AllKnown v f = (i : ℕ) → i < 512 → known_word v f i ≡ Some (words_known v f i)

-- n frames are reserved, and n credits are given back
abbrev pub with_credits : ℕ → View → View
with_credits n v = record v { credits = v.credits + n }

abbrev pub without_credits : ℕ → View → View
without_credits n v = record v { credits = v.credits - n }

-- the free count was too small for a reservation: this is tallied as a free count of 0 that was read while the seat had
-- `short` credits
abbrev pub saw_none : ℕ → View → View
saw_none short v = record v { tallies = record v.tallies { zeros = v.tallies.zeros + 1; short = short } }

-- a credit is spent on frame f: the seat is its sole holder, with one reference, and knows no word of it
abbrev pub claimed : ℕ → View → View
claimed f v = with_hold f sole_hold (record v { credits = v.credits - 1; tallies = spent 1 v.tallies })

-- one more reference to frame f is taken; a sole holder stays one
abbrev pub shared : ℕ → View → View
shared f v = with_hold f (record (hold_of v f) { references = references v f + 1 }) v

-- the count c of frame f was read, which is tallied; at 1 the seat is known to be the sole holder
abbrev pub looked : ℕ → ℕ → View → View
looked f c v = with_hold f (record (hold_of v f) { sole = cond (c == 1) true (hold_of v f).sole }) (record v { tallies = counted (c ∷ []) v.tallies })

-- a count was read as 65,535, the most there can be, by a share that was refused
abbrev pub read_full : View → View
read_full v = record v { tallies = counted (MOST_REFERENCES ∷ []) v.tallies }

-- a reference to frame f is dropped; with the seat's last one, all that it knew of the frame
abbrev pub released : ℕ → View → View
released f v = cond (references v f == 1) (without_hold f v) (with_hold f (record (hold_of v f) { references = references v f - 1 }) v)

-- the view of a store's first seat: it is the sole holder of frame 0, with one reference, and has nothing else
abbrev pub opening_view : ℕ → View
opening_view size = with_hold 0 sole_hold (empty_view size)

-- Two seats become one: references and credits are added, known words united, and it is known to be the sole holder if one
-- of the two was. The tallies are those of the first seat.

-- the first of two words that is known
abbrev pub either : Option ℕ → Option ℕ → Option ℕ
either (Some x) b = Some x
either None b = b

unfoldable pub union : map.FinMap nat_cmp ℕ → map.FinMap nat_cmp ℕ → map.FinMap nat_cmp ℕ
union a b = map.from_entries (list_map (λ i. (i, or_zero (either (map.get a i) (map.get b i)))) (map.keys a ++ map.keys b))

-- what the joined seat has of a frame of which the two seats had h and k
abbrev pub added : Hold → Hold → Hold
added h k = cond (k.references == 0) h (cond (h.references == 0) k record {
  references = h.references + k.references;
  sole = h.sole || k.sole;
  words = union h.words k.words;
})

unfoldable pub joined_frames : View → View → map.FinMap nat_cmp Hold
joined_frames v w = map.from_entries (list_map (λ f. (f, added (hold_of v f) (hold_of w f))) (map.keys v.frames ++ map.keys w.frames))

-- the view of the first seat after it has taken in the second
abbrev pub joined : View → View → View
joined v w = record v { frames = joined_frames v w; credits = v.credits + w.credits }

-- One reference to frame f moves to another seat, which then knows the words that the first one knows there. With its only
-- reference a seat passes its sole-holder flag on; otherwise both seats have the flag cleared.

abbrev pub moved_from : ℕ → View → View
moved_from f v = cond (references v f == 1) (without_hold f v) (with_hold f record {
  references = references v f - 1;
  sole = false;
  words = (hold_of v f).words;
} v)

abbrev pub moved_to : ℕ → Hold → View → View
moved_to f h w = with_hold f record { references = references w f + 1; sole = cond (h.references == 1) h.sole false; words = h.words } w

-- one reference to each listed frame moves from the first view to the second
abbrev pub split_off : List ℕ → View → View → View × View
split_off [] v w = (v, w)
split_off (f ∷ fs) v w = split_off fs (moved_from f v) (moved_to f (hold_of v f) w)

-- the view has these references: one for each time that a frame is listed
abbrev pub CanSplit : List ℕ → View → Type 0
CanSplit [] v = Unit {0}
CanSplit (f ∷ fs) v = IsHeld v f × CanSplit fs (moved_from f v)
