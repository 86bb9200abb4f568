-- Lemmas on the places of an array: the entry in a place after a place was set (`entry_set`, `entry_other`), the entries of places
-- that all have one (`full_more`), and the entries of places that were fenced (`fenced_entries`).
use Rattle.std.proofs.Common.{◌≡◌, ◌≢◌, ◌⊎◌, inl, inr, subst, ℕ, zero, suc, ◌+◌, ◌<◌, ◌≤◌, List, [], ◌∷◌, ◌++◌, length, take, get_or, set, Option, None, Some, Bool, true, false, filter, not, cond, refl, ap, ◌∙◌, arith}
use Rattle.std.specs.Prelude.{is_none}
use Rattle.std.specs.List.{cons_option}
use Rattle.std.proofs.lemmas.Bool.{cases_lt}
use Rattle.std.proofs.lemmas.List.{length-append, take_more}
use Rattle.std.proofs.lemmas.List.Elements.{filter_map-append}
use Rattle.std.proofs.lemmas.Option.{slice_get-get_or, slice_get_past}
use Rattle.sv39_entry.specs.declared.address.Va.{Va}
use Rattle.hart_tlb.specs.Entries.{is_fenced}
use Rattle.hart_tlb.specs.declared.entry.TlbEntry.{TlbEntry}
use Rattle.lent_memory.specs.Entries.{entries_of, entry_at, entry_in, flat, unfenced}
use Rattle.lent_memory.specs.declared.entry.LentEntry.{LentEntry}

pub entry_here : (ps : List LentEntry) (n : ℕ) (d : LentEntry) → n < length ps → entry_at ps n ≡ entry_in (get_or ps n d)
entry_here ps n d lt = ap flat (slice_get-get_or ps n d lt)

pub entry_past : (ps : List LentEntry) (n : ℕ) → length ps ≤ n → entry_at ps n ≡ None
entry_past ps n le = ap flat (slice_get_past ps n le)

pub entry_set : (ps : List LentEntry) (n : ℕ) (p : LentEntry) → n < length ps → entry_at (set ps n p) n ≡ entry_in p
entry_set [] n p lt = absurd (omega (arith, lt))
entry_set (q ∷ ps) zero p lt = refl
entry_set (q ∷ ps) (suc n) p lt = entry_set ps n p (omega (arith, lt))

pub entry_other : (ps : List LentEntry) (n k : ℕ) (p : LentEntry) → k ≢ n → entry_at (set ps n p) k ≡ entry_at ps k
entry_other [] n k p ne = refl
entry_other (q ∷ ps) zero zero p ne = absurd (ne refl)
entry_other (q ∷ ps) zero (suc k) p ne = refl
entry_other (q ∷ ps) (suc n) zero p ne = refl
entry_other (q ∷ ps) (suc n) (suc k) p ne = entry_other ps n k p (λ is. ne (ap suc is))

-- what holds of the numbers below one, and of it, holds of those below the next
pub up_to : (P : ℕ → Type 0) (n : ℕ) → ((k : ℕ) → k < n → P k) → P n → (k : ℕ) → k < n + 1 → P k
up_to P n below here k lt = go (cases_lt k n)
  where
    go : (k < n) ⊎ (n ≤ k) → P k
    go (inl less) = below k less
    go (inr more) = let same : n ≡ k = omega (arith, lt, more) in subst P same here

entries_more : (ps : List LentEntry) (n : ℕ) (d : LentEntry) → n < length ps
    → entries_of (take (n + 1) ps) ≡ entries_of (take n ps) ++ cons_option (entry_in (get_or ps n d)) []
entries_more ps n d lt = ap entries_of (take_more ps n d lt) ∙ filter_map-append entry_in (take n ps) (get_or ps n d ∷ [])

one_long : (o : Option TlbEntry) → is_none o ≡ false → length (cons_option o []) ≡ 1
one_long None h = absurd cc
one_long (Some e) h = refl

pub full_more : (ps : List LentEntry) (n : ℕ) (d : LentEntry) → n < length ps → is_none (entry_in (get_or ps n d)) ≡ false
    → length (entries_of (take n ps)) ≡ n → length (entries_of (take (n + 1) ps)) ≡ n + 1
full_more ps n d lt has so_far =
    let more = ap length (entries_more ps n d lt) ∙ length-append (entries_of (take n ps)) (cons_option (entry_in (get_or ps n d)) []) in
    let one = one_long (entry_in (get_or ps n d)) has in
    omega (arith, more, one, so_far)

module _ (va : Option Va) (asid : Option ℕ) where
  abbrev kept : TlbEntry → Bool
  kept e = not (is_fenced va asid e)

  fenced_first : (o : Option TlbEntry) (es : List TlbEntry) → cons_option (unfenced va asid o) (filter kept es) ≡ filter kept (cons_option o es)
  fenced_first None es = refl
  fenced_first (Some e) es = go (is_fenced va asid e) refl
    where
      go : (b : Bool) → is_fenced va asid e ≡ b → cons_option (cond (is_fenced va asid e) None (Some e)) (filter kept es) ≡ filter kept (e ∷ es)
      go true is = rw is refl
      go false is = rw is refl

  -- each place was fenced
  pub fenced_entries : (old new : List LentEntry) → length new ≡ length old → ((k : ℕ) → entry_at new k ≡ unfenced va asid (entry_at old k))
      → entries_of new ≡ filter kept (entries_of old)
  fenced_entries [] [] long each = refl
  fenced_entries [] (q ∷ new) long each = absurd (omega (arith, long))
  fenced_entries (p ∷ old) [] long each = absurd (omega (arith, long))
  fenced_entries (p ∷ old) (q ∷ new) long each =
      ap (λ (o : Option TlbEntry). cons_option o (entries_of new)) (each 0)
      ∙ ap (λ (es : List TlbEntry). cons_option (unfenced va asid (entry_in p)) es) (fenced_entries old new (omega (arith, long)) (λ k. each (suc k)))
      ∙ fenced_first (entry_in p) (entries_of old)
