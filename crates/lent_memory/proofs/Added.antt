-- Lemmas on the array of places after an entry was added: one place is taken out, the first empty one or, if none is empty, the
-- oldest entry's, and the entry comes last. So the entries are those before and the new one, without the oldest if there was no
-- room (`added`).
use Rattle.std.proofs.Common.{◌≡◌, ◌⊎◌, inl, inr, ℕ, zero, suc, ◌+◌, ◌-◌, ◌<◌, ◌≤◌, List, [], ◌∷◌, ◌++◌, length, take, drop, get_or, set, Option, None, Some, refl, ap, sym, ◌∙◌, arith}
use Rattle.std.specs.List.{cons_option, remove}
use Rattle.std.proofs.Math.Seq.{set-append_seam, split_at}
use Rattle.std.proofs.lemmas.List.{length-append, length-drop, length-set, length-take-le}
use Rattle.std.proofs.lemmas.List.Elements.{filter_map-append}
use Rattle.std.specs.Option.{unwrap_or}
use Rattle.std.proofs.lemmas.Option.{slice_get_read}
use Rattle.hart_tlb.specs.Buffer.{newest_entries}
use Rattle.hart_tlb.specs.declared.entry.TlbEntry.{TlbEntry}
use Rattle.lent_memory.specs.Entries.{entries_of, entry_at, entry_in, flat, IsLast}
use Rattle.lent_memory.specs.declared.entry.LentEntry.{LentEntry}
use Rattle.lent_memory.proofs.Places.{entry_set}

-- there are at most as many entries as places
few : (ps : List LentEntry) → length (entries_of ps) ≤ length ps
few [] = omega arith
few (p ∷ ps) = go (entry_in p) (few ps)
  where
    go : (o : Option TlbEntry) → length (entries_of ps) ≤ length ps → length (cons_option o (entries_of ps)) ≤ suc (length ps)
    go None le = omega (arith, le)
    go (Some e) le = omega (arith, le)

-- an array without a place, and with another one last
without : (ps : List LentEntry) (gap : ℕ) (p : LentEntry) (e : TlbEntry) → entry_in p ≡ Some e
    → entries_of (remove ps gap ++ p ∷ []) ≡ entries_of (remove ps gap) ++ e ∷ []
without ps gap p e is =
    filter_map-append entry_in (remove ps gap) (p ∷ []) ∙ ap (λ (o : Option TlbEntry). entries_of (remove ps gap) ++ cons_option o []) is

-- the last place of the turned array is overwritten
last_set : (ps turned : List LentEntry) (gap : ℕ) (d p : LentEntry) → gap < length ps → turned ≡ remove ps gap ++ get_or ps gap d ∷ []
    → set turned (length turned - 1) p ≡ remove ps gap ++ p ∷ []
last_set ps turned gap d p lt is =
    let long = length-append (remove ps gap) (get_or ps gap d ∷ []) in
    let at : length turned - 1 ≡ length (remove ps gap) = omega (arith, ap length is, long) in
    ap (λ (xs : List LentEntry). set xs (length turned - 1) p) is ∙ ap (λ k. set (remove ps gap ++ get_or ps gap d ∷ []) k p) at
    ∙ set-append_seam (remove ps gap) (get_or ps gap d) [] p

-- an empty place was taken out
pub room : (ps : List LentEntry) (gap : ℕ) (d : LentEntry) → gap < length ps → entry_in (get_or ps gap d) ≡ None → entries_of (remove ps gap) ≡ entries_of ps
room ps gap d lt empty =
    let whole = ap entries_of (split_at ps gap d lt) ∙ filter_map-append entry_in (take gap ps) (get_or ps gap d ∷ drop (suc gap) ps) in
    let none = ap (λ (o : Option TlbEntry). entries_of (take gap ps) ++ cons_option o (entries_of (drop (suc gap) ps))) empty in
    filter_map-append entry_in (take gap ps) (drop (suc gap) ps) ∙ sym (whole ∙ none)

short : (ps : List LentEntry) (gap : ℕ) → gap < length ps → length (remove ps gap) + 1 ≡ length ps
short ps gap lt =
    let both = length-append (take gap ps) (drop (suc gap) ps) in
    omega (arith, both, length-take-le gap ps (omega (arith, lt)), length-drop (suc gap) ps, lt)

-- the entries of a full array
first_of_full : (p : LentEntry) (ps : List LentEntry) → length (entries_of (p ∷ ps)) ≡ length (p ∷ ps) → (e : TlbEntry) × (entry_in p ≡ Some e)
first_of_full p ps full = go (entry_in p) refl
  where
    go : (o : Option TlbEntry) → entry_in p ≡ o → (e : TlbEntry) × (entry_in p ≡ Some e)
    go (Some e) is = (e, is)
    go None is =
        let same : length (entries_of (p ∷ ps)) ≡ length (entries_of ps) = ap (λ (o : Option TlbEntry). length (cons_option o (entries_of ps))) is in
        absurd (omega (arith, same, full, few ps))

all_newest : (n : ℕ) (es : List TlbEntry) → length es ≤ n → newest_entries n es ≡ es
all_newest n es le = let none : length es - n ≡ 0 = omega (arith, le) in ap (λ k. drop k es) none

one_less : (n : ℕ) (e : TlbEntry) (es : List TlbEntry) → length es ≡ n → newest_entries n (e ∷ es) ≡ es
one_less n e es long = let one : length (e ∷ es) - n ≡ 1 = omega (arith, long) in ap (λ k. drop k (e ∷ es)) one

-- the place was empty, or it was that of the oldest of as many entries as there are places
pub added : (ps turned : List LentEntry) (gap : ℕ) (d p : LentEntry) (e : TlbEntry) → gap < length ps → turned ≡ remove ps gap ++ get_or ps gap d ∷ [] → entry_in p ≡ Some e
    → (entry_in (get_or ps gap d) ≡ None) ⊎ ((gap ≡ 0) × (length (entries_of ps) ≡ length ps))
    → entries_of (set turned (length turned - 1) p) ≡ newest_entries (length ps) (entries_of ps ++ e ∷ [])
added ps turned gap d p e lt is entry (inl empty) =
    let now = ap entries_of (last_set ps turned gap d p lt is) ∙ without ps gap p e entry ∙ ap (λ es. es ++ e ∷ []) (room ps gap d lt empty) in
    let long = length-append (entries_of ps) (e ∷ []) in
    let less : length (entries_of ps) + 1 ≤ length ps = omega (arith, ap length (room ps gap d lt empty), few (remove ps gap), short ps gap lt) in
    now ∙ sym (all_newest (length ps) (entries_of ps ++ e ∷ []) (omega (arith, long, less)))
added [] turned gap d p e lt is entry (inr full) = absurd (omega (arith, lt))
added (q ∷ ps) turned gap d p e lt is entry (inr full) =
    let first = first_of_full q ps full.1 in
    let all : entries_of (q ∷ ps) ≡ first.0 ∷ entries_of ps = ap (λ (o : Option TlbEntry). cons_option o (entries_of ps)) first.1 in
    let long : length (entries_of ps ++ e ∷ []) ≡ length (q ∷ ps) = omega (arith, length-append (entries_of ps) (e ∷ []), ap length all, full.1) in
    ap entries_of (last_set (q ∷ ps) turned gap d p lt is)
    ∙ without (q ∷ ps) gap p e entry
    ∙ ap (λ k. entries_of (remove (q ∷ ps) k) ++ e ∷ []) full.0
    ∙ sym (ap (λ es. newest_entries (length (q ∷ ps)) (es ++ e ∷ [])) all ∙ one_less (length (q ∷ ps)) first.0 (entries_of ps ++ e ∷ []) long)

-- there is no place
pub no_place : (ps : List LentEntry) (e : TlbEntry) → length ps ≡ 0 → entries_of ps ≡ newest_entries (length ps) (entries_of ps ++ e ∷ [])
no_place [] e none = refl
no_place (p ∷ ps) e none = absurd (omega (arith, none))

-- the default of a place that is there does not matter
get_or_else : (ps : List LentEntry) (n : ℕ) (d e : LentEntry) → n < length ps → get_or ps n d ≡ get_or ps n e
get_or_else [] n d e lt = absurd (omega (arith, lt))
get_or_else (p ∷ ps) zero d e lt = refl
get_or_else (p ∷ ps) (suc n) d e lt = get_or_else ps n d e (omega (arith, lt))

get_or_any : (ps : List LentEntry) (n : ℕ) (d : LentEntry) → n < length ps → get_or ps n d ≡ get_or ps n (get_or ps n d)
get_or_any ps n d lt = get_or_else ps n d (get_or ps n d) lt

-- the place to take out, as the search for an empty one gives it
pub which : (ps : List LentEntry) (o : Option ℕ) (gap : ℕ) (d : LentEntry) → ((n : ℕ) → o ≡ Some n → entry_at ps n ≡ None) → (o ≡ None → length (entries_of ps) ≡ length ps)
    → gap ≡ unwrap_or o 0 → gap < length ps → (entry_in (get_or ps gap d) ≡ None) ⊎ ((gap ≡ 0) × (length (entries_of ps) ≡ length ps))
which ps (Some n) gap d empty full is lt =
    let at = slice_get_read ps (length ps) gap (get_or ps gap d) refl lt (get_or_any ps gap d lt) in
    inl (sym (ap flat at) ∙ ap (entry_at ps) is ∙ empty n refl)
which ps None gap d empty full is lt = inr (is, full refl)

-- and if there is no place
pub no_places : (ps : List LentEntry) (o : Option ℕ) (gap : ℕ) → ((n : ℕ) → o ≡ Some n → n < length ps) → gap ≡ unwrap_or o 0 → length ps ≤ gap → length ps ≡ 0
no_places ps (Some n) gap within is le = let lt = within n refl in absurd (omega (arith, is, le, lt))
no_places ps None gap within is le = omega (arith, is, le)

-- the last place has the entry
pub is_last : (ps turned : List LentEntry) (gap : ℕ) (d p : LentEntry) (e : TlbEntry) → turned ≡ remove ps gap ++ get_or ps gap d ∷ [] → entry_in p ≡ Some e
    → IsLast e (set turned (length turned - 1) p)
is_last ps turned gap d p e is entry = λ some.
    let long = length-set turned (length turned - 1) p in
    let last : length (set turned (length turned - 1) p) - 1 ≡ length turned - 1 = ap (λ k. k - 1) long in
    ap (entry_at (set turned (length turned - 1) p)) last ∙ entry_set turned (length turned - 1) p (omega (arith, some, long)) ∙ entry
