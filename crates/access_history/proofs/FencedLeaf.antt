-- The worked example after the fence: the load no longer goes by the old leaf.
use Rattle.std.proofs.Common.{◌≡◌, ◌⊎◌, ℕ, zero, suc, ◌+◌, ◌*◌, ◌^◌, ◌≤◌, Bool, true, false, refl, sym, ◌∙◌, inl, inr, subst, arith}
use Rattle.std.proofs.Common.{Option, None, Some, List, [], ◌∷◌, if◌then◌else◌}
use Rattle.std.proofs.lemmas.Bool.{cases_eq, eq-eqb, ne_eqb, false≢true}
use Rattle.sv39_entry.specs.declared.access.Mode.{Mode}
use Rattle.sv39_entry.specs.declared.entry.Kind.TheVariants.{Leaf}
use Rattle.walk_rules.specs.Addresses.{is_canonical, leads_to}
use Rattle.walk_rules.specs.Kinds.{kind_in, may_update}
use Rattle.walk_rules.specs.declared.extensions.Extensions.{Extensions}
use Rattle.walk_rules.specs.declared.memory_type.MemoryType.{MemoryType}
use Rattle.walk_rules.specs.declared.memory_type.MemoryType.TheVariants.{Pma}
use Rattle.access_history.specs.Examples.{example_fence, example_first, example_hart, example_leaf, example_load, example_past, example_store}
use Rattle.access_history.specs.Held.{HadWord, IsHeld, Read, at_root, below, stays, updated}
use Rattle.access_history.specs.History.{First}
use Rattle.access_history.specs.Permits.{Ends, Permits, Says, Serves}
use Rattle.access_history.specs.Permits as permits
use Rattle.access_history.specs.declared.event.Event.{Event}
use Rattle.access_history.specs.declared.outcome.Outcome.{Outcome}
use Rattle.access_history.specs.declared.outcome.Outcome.TheVariants.{Granted}
use Rattle.access_history.specs.declared.outcome.Update.{Update}
use Rattle.access_history.proofs.FullFence.{covered_after}
use Rattle.access_history.proofs.HeldLevels.{held_low}

-- a word that is held was in memory, as A and D are left to software
had_word : (x : Extensions) (f : First) (va : ℕ) → may_update x.ad ≡ false → (h past : List Event) (r : Read) → IsHeld x f va h r past → HadWord x f va past r
had_word x f va by_software h past r (at_root may root) = may.had
had_word x f va by_software h past r (below above may is) = may.had
had_word x f va by_software h past r (stays {h = before} was free) = had_word x f va by_software before past r was
had_word x f va by_software h past r (updated was is) = absurd (false≢true (sym by_software ∙ is.scheme))

-- the words that memory has now
abbrev IsNow : ℕ → Type 0
IsNow w = (w ≡ example_leaf 5) ⊎ ((w ≡ 2 * 2 ^ 10 + 1) ⊎ ((w ≡ 3 * 2 ^ 10 + 1) ⊎ (w ≡ 0)))

word_by : (stored one two : Bool) (w : ℕ)
    → (if stored then Some (example_leaf 5)
    else (if one then Some (2 * 2 ^ 10 + 1) else (if two then Some (3 * 2 ^ 10 + 1) else (if stored then Some (example_leaf 4) else Some 0)))) ≡ Some w
    → IsNow w
word_by true one two w is = inl (cc)
word_by false true two w is = inr (inl (cc))
word_by false false true w is = inr (inr (inl (cc)))
word_by false false false w is = inr (inr (inr (cc)))

no_leaf : (level w : ℕ) → (w ≡ 2 * 2 ^ 10 + 1) ⊎ ((w ≡ 3 * 2 ^ 10 + 1) ⊎ (w ≡ 0)) → kind_in example_hart level w ≡ Leaf → ⊥
no_leaf level w (inl is) leaf = elim (cases_eq level 0) [
  | inl low ↦ let bad = rw (is, eq-eqb level 0 low) at leaf in cc
  | inr high ↦ let bad = rw (is, ne_eqb level 0 high) at leaf in cc
]
no_leaf level w (inr (inl is)) leaf = elim (cases_eq level 0) [
  | inl low ↦ let bad = rw (is, eq-eqb level 0 low) at leaf in cc
  | inr high ↦ let bad = rw (is, ne_eqb level 0 high) at leaf in cc
]
no_leaf level w (inr (inr is)) leaf = let bad = rw is at leaf in cc

elsewhere : (level w : ℕ) → level ≤ 4 → w ≡ example_leaf 5 → leads_to level w 0x1000 ≡ 0x4000 → ⊥
elsewhere zero w low is leads = let bad = rw is at leads in omega (arith, bad)
elsewhere (suc zero) w low is leads = let bad = rw is at leads in omega (arith, bad)
elsewhere (suc (suc zero)) w low is leads = let bad = rw is at leads in omega (arith, bad)
elsewhere (suc (suc (suc zero))) w low is leads = let bad = rw is at leads in omega (arith, bad)
elsewhere (suc (suc (suc (suc zero)))) w low is leads = let bad = rw is at leads in omega (arith, bad)
elsewhere (suc (suc (suc (suc (suc n))))) w low is leads = absurd (omega (arith, low))

abbrev moment : List Event
moment = example_fence ∷ example_store ∷ []

not_old : (r : Read) → Serves example_hart (example_past moment) example_load r → kind_in example_hart r.level r.word ≡ Leaf
    → leads_to r.level r.word 0x1000 ≡ 0x4000 → ⊥
not_old r serves leaf leads =
    let low = held_low example_hart example_first 0x1000 moment serves.since r serves.held in
    let anew = covered_after example_hart example_first 0x1000 (example_store ∷ []) serves.since example_fence r serves.held
    (tt, ((λ top is. canonical top is), refl, inl leaf)) in
    let had = subst (λ (past : List Event). HadWord example_hart example_first 0x1000 past r) anew
    (had_word example_hart example_first 0x1000 refl moment serves.since r serves.held) in
    elim had [
      | inr napot ↦ absurd (false≢true napot.0)
      | inl word ↦ elim (word_by _ _ _ r.word word) [
        | inl new ↦ elsewhere r.level r.word low new leads
        | inr other ↦ no_leaf r.level r.word other leaf
      ]
    ] where
      canonical : (top : ℕ) → Some 2 ≡ Some top → is_canonical top 0x1000 ≡ true
      canonical top is = let two : 2 ≡ top = cc in subst (λ (t : ℕ). is_canonical t 0x1000 ≡ true) two refl

abbrev Old : Outcome
Old = Granted 0x4000 Pma None

ends_old : (pa : ℕ) (t : MemoryType) (u : Option Update) (o : Outcome) → Ends (example_past moment) example_load pa t u o → o ≡ Old → pa ≡ 0x4000
ends_old pa t u o (permits.granted there pass) same = cc
ends_old pa t u o (permits.refused made why) same = cc

says_old : (mode : Mode) (r : Read) (o : Outcome) → Serves example_hart (example_past moment) example_load r
    → Says example_hart (example_past moment) example_load mode r o → o ≡ Old → ⊥
says_old mode r o serves (permits.no_leaf none) same = cc
says_old mode r o serves (permits.no_right leaf none) same = cc
says_old mode r o serves (permits.ready {t = t} allowed ad type ends) same =
    not_old r serves allowed.leaf (ends_old (leads_to r.level r.word 0x1000) t None o ends same)
says_old mode r o serves (permits.faults allowed ad may) same = cc
says_old mode r o serves (permits.updates allowed may pass type ends) same = absurd (false≢true may.scheme)
says_old mode r o serves (permits.update_refused allowed may fail) same = cc

not_permitted : (o : Outcome) → Permits example_hart (example_past moment) example_load o → o ≡ Old → ⊥
not_permitted o (permits.misaligned bad) same = cc
not_permitted o (permits.untranslated whole why ends) same = elim why [
  | inl machine ↦ cc
  | inr bare ↦ cc
]
not_permitted o (permits.not_canonical whole is top bad) same = cc
not_permitted o (permits.served {mode = mode} {r = r} whole is serves says) same = says_old mode r o serves says same
not_permitted o (permits.unread whole is top canonical stands why) same = cc

pub fenced : Permits example_hart (example_past (example_fence ∷ example_store ∷ [])) example_load (Granted 0x4000 Pma None) → ⊥
fenced old = not_permitted Old old refl
