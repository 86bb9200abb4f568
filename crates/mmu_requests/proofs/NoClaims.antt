-- Lemmas on the outcome that a client tells: each of its parts ends at one field (`one_end`, `one_update`, `one_by`); what of it is refused.
use Rattle.std.proofs.Common.{◌≡◌, ℕ, Option, None, Some, List, codes, ap, sym, subst, ◌∙◌, ◌+◌, slice_get}
use Rattle.std.specs.Option.{unwrap_or}
use Rattle.access_history.specs.declared.outcome.Update.{Update}
use Rattle.walk_rules.specs.declared.memory_type.MemoryType.{MemoryType}
use Rattle.walk_rules.specs.declared.memory_type.MemoryType.TheVariants as types
use Rattle.mmu_requests.specs.Lines.{IsByAt, IsClaim, IsEndAt, IsTypeAt, IsUpdateAt, NumberAt, PlaceAt, TextAt}
use Rattle.mmu_requests.specs.declared.requests.Claim.{Claim}
use Rattle.mmu_requests.specs.declared.requests.End.{End}
use Rattle.mmu_requests.specs.declared.requests.End.TheVariants as ends

-- a field has one text
same_text : (fs : List (List ℕ)) (n : ℕ) (f g : List ℕ) → TextAt fs n f → TextAt fs n g → f ≡ g
same_text fs n f g a b = ap (λ o. unwrap_or o f) (sym a ∙ b)

pub no_by : (fs : List (List ℕ)) (n : ℕ) → TextAt fs n (codes "by") → ((v : ℕ) → NumberAt fs (n + 1) v → ⊥)
    → (w : Option ℕ) (after : ℕ) → IsByAt fs n w after → ⊥
no_by fs n there none None after is = is.0 there
no_by fs n there none (Some w) after is = none w is.1

pub no_update_place : (fs : List (List ℕ)) (n : ℕ) → TextAt fs n (codes "set") → ((address : ℕ) → PlaceAt fs (n + 1) address → ⊥)
    → (u : Option Update) (after : ℕ) → IsUpdateAt fs n u after → ⊥
no_update_place fs n there none None after is = is.0 there
no_update_place fs n there none (Some u) after is = none is.1.0 is.1.1

pub no_update_word : (fs : List (List ℕ)) (n : ℕ) → TextAt fs n (codes "set") → ((v : ℕ) → NumberAt fs (n + 2) v → ⊥)
    → (u : Option Update) (after : ℕ) → IsUpdateAt fs n u after → ⊥
no_update_word fs n there none None after is = is.0 there
no_update_word fs n there none (Some u) after is = none u.word is.2

pub no_end : (fs : List (List ℕ)) → ((v : ℕ) → NumberAt fs 6 v → ⊥) → (e : End) (after : ℕ) → IsEndAt fs e after → ⊥
no_end fs none (ends.Granted pa t) after is = none pa is.1
no_end fs none (ends.Refused cause) after is = none cause is.1

one_type : (fs : List (List ℕ)) (n : ℕ) (s t : Option MemoryType) (k l : ℕ) → IsTypeAt fs n s k → IsTypeAt fs n t l → k ≡ l
one_type fs n None None k l a b = a.3 ∙ sym b.3
one_type fs n None (Some types.Pma) k l a b = absurd (a.0 b.0)
one_type fs n None (Some types.Nc) k l a b = absurd (a.1 b.0)
one_type fs n None (Some types.Io) k l a b = absurd (a.2 b.0)
one_type fs n (Some types.Pma) None k l a b = absurd (b.0 a.0)
one_type fs n (Some types.Pma) (Some types.Pma) k l a b = a.1 ∙ sym b.1
one_type fs n (Some types.Pma) (Some types.Nc) k l a b = a.1 ∙ sym b.1
one_type fs n (Some types.Pma) (Some types.Io) k l a b = a.1 ∙ sym b.1
one_type fs n (Some types.Nc) None k l a b = absurd (b.1 a.0)
one_type fs n (Some types.Nc) (Some types.Pma) k l a b = a.1 ∙ sym b.1
one_type fs n (Some types.Nc) (Some types.Nc) k l a b = a.1 ∙ sym b.1
one_type fs n (Some types.Nc) (Some types.Io) k l a b = a.1 ∙ sym b.1
one_type fs n (Some types.Io) None k l a b = absurd (b.2 a.0)
one_type fs n (Some types.Io) (Some types.Pma) k l a b = a.1 ∙ sym b.1
one_type fs n (Some types.Io) (Some types.Nc) k l a b = a.1 ∙ sym b.1
one_type fs n (Some types.Io) (Some types.Io) k l a b = a.1 ∙ sym b.1

other_word : (fs : List (List ℕ)) → TextAt fs 5 (codes "pa") → TextAt fs 5 (codes "fault") → ⊥
other_word fs a b = let same = same_text fs 5 (codes "pa") (codes "fault") a b in absurd (cc)

pub one_end : (fs : List (List ℕ)) (e d : End) (k l : ℕ) → IsEndAt fs e k → IsEndAt fs d l → k ≡ l
one_end fs (ends.Granted pa t) (ends.Granted pb s) k l a b = one_type fs 7 t s k l a.2 b.2
one_end fs (ends.Granted pa t) (ends.Refused cause) k l a b = absurd (other_word fs a.0 b.0)
one_end fs (ends.Refused cause) (ends.Granted pb s) k l a b = absurd (other_word fs b.0 a.0)
one_end fs (ends.Refused cause) (ends.Refused other) k l a b = a.2 ∙ sym b.2

pub one_update : (fs : List (List ℕ)) (n : ℕ) (u v : Option Update) (k l : ℕ) → IsUpdateAt fs n u k → IsUpdateAt fs n v l → k ≡ l
one_update fs n None None k l a b = a.1 ∙ sym b.1
one_update fs n None (Some v) k l a b = absurd (a.0 b.0)
one_update fs n (Some u) None k l a b = absurd (b.0 a.0)
one_update fs n (Some u) (Some v) k l a b = a.3 ∙ sym b.3

pub one_by : (fs : List (List ℕ)) (n : ℕ) (u v : Option ℕ) (k l : ℕ) → IsByAt fs n u k → IsByAt fs n v l → k ≡ l
one_by fs n None None k l a b = a.1 ∙ sym b.1
one_by fs n None (Some v) k l a b = absurd (a.0 b.0)
one_by fs n (Some u) None k l a b = absurd (b.0 a.0)
one_by fs n (Some u) (Some v) k l a b = a.2 ∙ sym b.2

-- no outcome is told, if none of its first part ends; or after it none of its second; or after that none of its third; or a field follows
pub no_first : (fs : List (List ℕ)) → ((e : End) (after : ℕ) → IsEndAt fs e after → ⊥) → (c : Claim) → IsClaim fs (Some c) → ⊥
no_first fs none c is = none c.end is.1.0 is.1.3

pub no_second : (fs : List (List ℕ)) (e : End) (k : ℕ) → IsEndAt fs e k → ((u : Option Update) (after : ℕ) → IsUpdateAt fs k u after → ⊥)
    → (c : Claim) → IsClaim fs (Some c) → ⊥
no_second fs e k first none c is =
    let same = one_end fs c.end e is.1.0 k is.1.3 first in
    none c.update is.1.1 (subst (λ l. IsUpdateAt fs l c.update is.1.1) same is.1.4)

pub no_third : (fs : List (List ℕ)) (e : End) (u : Option Update) (k l : ℕ) → IsEndAt fs e k → IsUpdateAt fs k u l
    → ((w : Option ℕ) (after : ℕ) → IsByAt fs l w after → ⊥) → (c : Claim) → IsClaim fs (Some c) → ⊥
no_third fs e u k l first second none c is =
    let same = one_end fs c.end e is.1.0 k is.1.3 first in
    let also = one_update fs k c.update u is.1.1 l (subst (λ n. IsUpdateAt fs n c.update is.1.1) same is.1.4) second in
    none c.by is.1.2 (subst (λ n. IsByAt fs n c.by is.1.2) also is.1.5)

pub no_more : (fs : List (List ℕ)) (e : End) (u : Option Update) (w : Option ℕ) (k l m : ℕ) → IsEndAt fs e k → IsUpdateAt fs k u l → IsByAt fs l w m
    → (slice_get fs m ≡ None → ⊥) → (c : Claim) → IsClaim fs (Some c) → ⊥
no_more fs e u w k l m first second third more c is =
    let same = one_end fs c.end e is.1.0 k is.1.3 first in
    let also = one_update fs k c.update u is.1.1 l (subst (λ n. IsUpdateAt fs n c.update is.1.1) same is.1.4) second in
    let last = one_by fs l c.by w is.1.2 m (subst (λ n. IsByAt fs n c.by is.1.2) also is.1.5) third in
    more (subst (λ n. slice_get fs n ≡ None) last is.1.6)

pub no_claim : (fs : List (List ℕ)) → (slice_get fs 4 ≡ None → ⊥) → ((c : Claim) → IsClaim fs (Some c) → ⊥) → (c : Option Claim) → IsClaim fs c → ⊥
no_claim fs there none None is = there is
no_claim fs there none (Some c) is = none c is
