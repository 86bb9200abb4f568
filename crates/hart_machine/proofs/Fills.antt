-- Lemmas on a fill of a hart's TLB: which entries it then has, that keys and the new entry's number are the model's, and so
-- is the hart (`kept_is`).
use Rattle.std.proofs.Common.{◌≡◌, ◌⊎◌, ℕ, zero, suc, ◌+◌, ◌-◌, ◌<◌, ◌≤◌, nat_lt, length, true, false, List, [], ◌∷◌, ◌++◌, map, drop, refl, ap, sym, ◌∙◌, inl, inr, arith}
use Rattle.std.specs.Prelude.{Contains}
use Rattle.std.proofs.lemmas.Bool.{cases_lt}
use Rattle.std.proofs.lemmas.List.{drop-map, length-append, length-drop, length-map, map-append}
use Rattle.std.proofs.Math.Nat.{min-eq_left, min-eq_right}
use Rattle.hart_tlb.specs.Buffer.{newest_entries}
use Rattle.hart_tlb.specs.declared.entry.TlbEntry.{TlbEntry}
use Rattle.process_model.specs.Harts.{Key, with_key}
use Rattle.hart_machine.specs.Harts.{hart_of, key_of, next_number, with_entry}
use Rattle.hart_machine.specs.declared.hart.Hart.{Hart}
use Rattle.process_model.specs.declared.limits.TheConstants.{BUFFER_SIZE}

module _ {A : Type 0} where
  -- what is left of a list is in it
  in_drop : (n : ℕ) (xs : List A) (x : A) → Contains (drop n xs) x → Contains xs x
  in_drop zero xs x there = there
  in_drop (suc n) [] x there = there
  in_drop (suc n) (y ∷ xs) x there = let old = in_drop n xs x there in (suc old.0, omega (arith, old.1), old.2)

  in_snoc : (xs : List A) (y x : A) → Contains (xs ++ y ∷ []) x → Contains xs x ⊎ (x ≡ y)
  in_snoc [] y x (zero, less, is) = inr (sym is)
  in_snoc [] y x (suc n, less, is) = absurd (omega (arith, less))
  in_snoc (z ∷ xs) y x (zero, less, is) = inl (zero, omega arith, is)
  in_snoc (z ∷ xs) y x (suc n, less, is) = elim (in_snoc xs y x (n, omega (arith, less), is)) [
    | inl old ↦ inl (suc old.0, omega (arith, old.1), old.2)
    | inr new ↦ inr new
  ]

  -- the first goes, where there is one
  drop_of_snoc : (n : ℕ) (xs : List A) (y : A) → n ≤ length xs → drop n (xs ++ y ∷ []) ≡ drop n xs ++ y ∷ []
  drop_of_snoc zero xs y few = refl
  drop_of_snoc (suc n) [] y few = absurd (omega (arith, few))
  drop_of_snoc (suc n) (x ∷ xs) y few = drop_of_snoc n xs y (omega (arith, few))

pub in_newest : (es : List TlbEntry) (e d : TlbEntry) → Contains (newest_entries BUFFER_SIZE (es ++ e ∷ [])) d → Contains es d ⊎ (d ≡ e)
in_newest es e d there = in_snoc es e d (in_drop (length (es ++ e ∷ []) - BUFFER_SIZE) (es ++ e ∷ []) d there)

-- so many are dropped
dropped : (es : List TlbEntry) (e : TlbEntry) (n : ℕ) → length es + 1 - BUFFER_SIZE ≡ n → n ≤ length es → map key_of (newest_entries BUFFER_SIZE (es ++ e ∷ [])) ≡ drop n (map key_of es) ++ key_of e ∷ []
dropped es e n so few =
    ap (map key_of) (ap (λ (k : ℕ). drop (k - BUFFER_SIZE) (es ++ e ∷ [])) (length-append es (e ∷ [])) ∙ ap (λ (k : ℕ). drop k (es ++ e ∷ [])) so ∙ drop_of_snoc n es e few)
    ∙ map-append key_of (drop n es) (e ∷ []) ∙ ap (λ (ks : List Key). ks ++ key_of e ∷ []) (sym (drop-map key_of n es))

module _ (es : List TlbEntry) (few : length es ≤ BUFFER_SIZE) where
  same_length : length (map key_of es) ≡ length es
  same_length = length-map es key_of

  room : length es < BUFFER_SIZE → nat_lt (length (map key_of es)) BUFFER_SIZE ≡ true
  room less = rw same_length (grind (arith, less))

  no_room : BUFFER_SIZE ≤ length es → nat_lt (length (map key_of es)) BUFFER_SIZE ≡ false
  no_room full = rw same_length (grind (arith, full))

  -- the keys of the buffer are those of the model
  pub keys_are : (e : TlbEntry) → map key_of (newest_entries BUFFER_SIZE (es ++ e ∷ [])) ≡ with_key (map key_of es) (key_of e)
  keys_are e = elim (cases_lt (length es) BUFFER_SIZE) [
    | inl less ↦ rw (room less) (dropped es e 0 (omega (arith, less)) (omega arith))
    | inr full ↦ rw (no_room full) (dropped es e 1 (omega (arith, few, full)) (omega (arith, full)))
  ]

  -- and the new entry is the last
  pub number_is : (k : Key) → next_number es ≡ length (with_key (map key_of es) k) - 1
  number_is k = elim (cases_lt (length es) BUFFER_SIZE) [
    | inl less ↦ rw (room less) (rw (length-append (map key_of es) (k ∷ []), same_length) (let least = min-eq_left {n = length es} {m = BUFFER_SIZE - 1} (omega (arith, less)) in omega (arith, least)))
    | inr full ↦ rw (no_room full) (rw (length-append (drop 1 (map key_of es)) (k ∷ []), length-drop 1 (map key_of es), same_length) (let least = min-eq_right {n = BUFFER_SIZE - 1} {m = length es} (omega (arith, full)) in omega (arith, least, few, full)))
  ]

-- the hart is the model's with another key
pub kept_is : (x : Hart) (e : TlbEntry) → length x.buffer ≤ BUFFER_SIZE → hart_of (with_entry x e) ≡ record (hart_of x) { keys = with_key (hart_of x).keys (key_of e) }
kept_is x e few = ap (λ (ks : List Key). record (hart_of x) { keys = ks }) (keys_are x.buffer few e)
