-- Whether a word in a place was a leaf after a moment: the words that the place had until then do not count.
use Rattle.std.proofs.Common.{◌≡◌, ◌≤◌, ℕ, List, [], ◌∷◌, Bool, true, false, Option, None, Some, ◌&&◌, ◌==◌, ◌-◌, length, nat_lt, refl, ◌∙◌, if◌then◌else◌, arith, length-drop}
use Rattle.std.specs.List.{list_any}
use Rattle.std.proofs.lemmas.Bool.Decides.{nat_tests}
use Rattle.access_history.specs.History.{Memory}
use Rattle.access_history.specs.declared.event.Event.{Event}
use Rattle.access_history.specs.declared.event.Event.TheVariants.{Store, WriteSatp, WritePmp, Fence}
use Rattle.access_judge.specs.Search.{Version, first_version, until, versions, versions_until}

-- a word passes a test, and the place had it after a moment
abbrev pub after : ℕ → (Version → Bool) → Version → Bool
after n p v = nat_lt n v.last && p v

none_at : (p : Version → Bool) (n : ℕ) (v : Version) (vs : List Version) → v.last ≤ n → list_any (after n p) vs ≡ false → list_any (after n p) (v ∷ vs) ≡ false
none_at p n v vs le rest = let no : nat_lt n v.last ≡ false = grind (arith, nat_tests) in rw (no, rest) refl

none_first : (p : Version → Bool) (n last : ℕ) (o : Option ℕ) → last ≤ n → list_any (after n p) (first_version last o) ≡ false
none_first p n last None low = refl
none_first p n last (Some w) low = none_at p n (record { word = w; last = last }) [] low refl

none_either : (f : Version → Bool) (b : Bool) (xs ys : List Version) → list_any f xs ≡ false → list_any f ys ≡ false → list_any f (if b then xs else ys) ≡ false
none_either f true xs ys x y = x
none_either f false xs ys x y = y

none_until : (p : Version → Bool) (n last : ℕ) (m : Memory) (h : List Event) (table index : ℕ) → last ≤ n → length h ≤ n
    → list_any (after n p) (versions_until last m h table index) ≡ false
none_until p n last m [] table index low le = none_first p n last (m table index) low
none_until p n last m (Store q i w ∷ h) table index low le =
    none_either (after n p) (q == table && i == index) (record { word = w; last = last } ∷ versions_until (length h) m h table index) (versions_until last m h table index)
    (none_at p n (record { word = w; last = last }) (versions_until (length h) m h table index) low (none_until p n (length h) m h table index (omega arith) (omega arith)))
    (none_until p n last m h table index low (omega arith))
none_until p n last m (WriteSatp w ∷ h) table index low le = none_until p n last m h table index low (omega arith)
none_until p n last m (WritePmp k e ∷ h) table index low le = none_until p n last m h table index low (omega arith)
none_until p n last m (Fence a s ∷ h) table index low le = none_until p n last m h table index low (omega arith)

length_until : (h : List Event) (k : ℕ) → k ≤ length h → length (until h k) ≡ k
length_until h k le = length-drop (length h - k) h ∙ omega arith

pub none_after : (p : Version → Bool) (n : ℕ) (m : Memory) (h : List Event) (k table index : ℕ) → k ≤ length h → k ≤ n
    → list_any (after n p) (versions m (until h k) table index) ≡ false
none_after p n m h k table index in_past le =
    let e = length_until h k in_past in
    none_until p n (length (until h k)) m (until h k) table index (omega arith) (omega arith)
