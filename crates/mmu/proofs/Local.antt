-- Lemmas: that no word of memory is global, as one more event, more memory, or a fence of everything leaves it.
use Rattle.std.proofs.Common.{◌≡◌, ◌⊎◌, ℕ, ◌&&◌, nat_eq, Bool, true, false, Option, None, Some, Result, Ok, Err, OnOk, OnErr, List, [], ◌∷◌, refl, sym, subst, ◌∙◌, inl, inr}
use Rattle.std.proofs.lemmas.Bool.{cases_Bool}
use Rattle.sv39_entry.specs.declared.address.Va.{Va}
use Rattle.access_history.specs.Held.{has_global}
use Rattle.access_history.specs.History.{Memory, memory_at, now, older}
use Rattle.access_history.specs.Permits.{Past}
use Rattle.access_history.specs.declared.event.Event.{Event}
use Rattle.access_history.specs.declared.event.Event.TheVariants.{Store, WriteSatp, WritePmp, Fence}
use Rattle.access_judge.specs.Quiet.{HasNoGlobals}
use Rattle.access_judge.specs.Search.{restarted}
use Rattle.mmu.specs.Units.{fenced, fresh, happened, with_run}
use Rattle.mmu.specs.Words.{or_zero}

-- each event but a store of a global word leaves none
pub after_store : (p : Past) (table index w : ℕ) → has_global w ≡ false → HasNoGlobals p → HasNoGlobals (happened (Store table index w) p)
after_store p table index w local none k t i v now is = elim (cases_Bool (nat_eq t table && nat_eq i index)) [
  | inl here ↦ let same : Some w ≡ Some v = sym (rw here refl) ∙ is in subst (λ (n : ℕ). has_global n ≡ false) (let equal : w ≡ v = cc in equal) local
  | inr other ↦ none p.events t i v now (sym (rw other refl) ∙ is)
]
after_store p table index w local none k t i v (older past) is = none k t i v past is

pub after_satp : (p : Past) (w : ℕ) → HasNoGlobals p → HasNoGlobals (happened (WriteSatp w) p)
after_satp p w none k t i v now is = none p.events t i v now is
after_satp p w none k t i v (older past) is = none k t i v past is

pub after_pmp : (p : Past) (n : ℕ) (e : _) → HasNoGlobals p → HasNoGlobals (happened (WritePmp n e) p)
after_pmp p n e none k t i v now is = none p.events t i v now is
after_pmp p n e none k t i v (older past) is = none k t i v past is

after_fence : (p : Past) (a : Option Va) (s : Option ℕ) → HasNoGlobals p → HasNoGlobals (happened (Fence a s) p)
after_fence p a s none k t i v now is = none p.events t i v now is
after_fence p a s none k t i v (older past) is = none k t i v past is

after_all : (p : Past) → HasNoGlobals p → HasNoGlobals (restarted p)
after_all p none k t i v now is = none p.events t i v now is

pub after_fenced : (p : Past) (a : Option Va) (s : Option ℕ) → HasNoGlobals p → HasNoGlobals (fenced a s p)
after_fenced p None None none = after_all p none
after_fenced p None (Some s) none = after_fence p None (Some s) none
after_fenced p (Some a) s none = after_fence p (Some a) s none

pub in_fresh : (n : ℕ) → HasNoGlobals (fresh n)
in_fresh n k t i v now is = cc

-- more memory has zeros
or_zero_cases : (b : Bool) (o : Option ℕ) (w : ℕ) → or_zero b o ≡ Some w → (o ≡ Some w) ⊎ (w ≡ 0)
or_zero_cases b (Some v) w is = inl is
or_zero_cases true None w is = inr (let same : w ≡ 0 = cc in same)
or_zero_cases false None w is = cc

with_zeros : (m : Memory) (test : ℕ → ℕ → Bool) (h : List Event) (t i w : ℕ) → memory_at (λ ppn index. or_zero (test ppn index) (m ppn index)) h t i ≡ Some w
    → (memory_at m h t i ≡ Some w) ⊎ (w ≡ 0)
with_zeros m test [] t i w is = or_zero_cases (test t i) (m t i) w is
with_zeros m test (WriteSatp v ∷ h) t i w is = with_zeros m test h t i w is
with_zeros m test (WritePmp n e ∷ h) t i w is = with_zeros m test h t i w is
with_zeros m test (Fence a s ∷ h) t i w is = with_zeros m test h t i w is
with_zeros m test (Store p j v ∷ h) t i w is = elim (cases_Bool (nat_eq t p && nat_eq i j)) [
  | inl here ↦ inl (rw here (rw here at is))
  | inr other ↦ elim (with_zeros m test h t i w (rw other at is)) [ inl same ↦ inl (rw other same) | inr zero ↦ inr zero ]
]

pub after_run : (first end : ℕ) (p : Past) → HasNoGlobals p → HasNoGlobals (with_run first end p)
after_run first end p none k t i v past is = elim (with_zeros p.first.memory _ k t i v is) [
  | inl same ↦ none k t i v past same
  | inr zero ↦ subst (λ (n : ℕ). has_global n ≡ false) (sym zero) refl
]

-- after a call that leaves one past or another
pub either : {E : Type 0} (r : Result (Unit {0}) E) (q p n : Past) → OnOk r (q ≡ n) → OnErr r (q ≡ p) → HasNoGlobals p → HasNoGlobals n → HasNoGlobals q
either (Ok x) q p n ok err old new = subst HasNoGlobals (sym ok) new
either (Err e) q p n ok err old new = subst HasNoGlobals (sym err) old
