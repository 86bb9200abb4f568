-- Lemmas on lines that make no request: two words with one text are one (`one_word`), so a line makes none if no request of its word
-- has the fields (`makes_none`), or if another count of them may follow it (`miscounted`).
use Rattle.std.proofs.Common.{◌≡◌, ℕ, Option, None, Some, List, codes, inl, inr, refl, ap, sym, subst, ◌∙◌, ◌+◌, ◌≤◌, length, slice_get, slice_index, if◌then◌else◌, ◌==◌}
use Rattle.std.specs.Option.{unwrap_or}
use Rattle.sv39_entry.specs.declared.access.Access.TheVariants as access
use Rattle.mmu_requests.specs.Lines.{Begins, HasFields, IsRequest, MakesNone, NumberAt, PerhapsAt, counts, word_of, word_text}
use Rattle.mmu_requests.specs.Mistakes.{IfMistake, Refuses}
use Rattle.mmu_requests.specs.declared.fields.Refusal.{Refusal}
use Rattle.mmu_requests.specs.declared.fields.Refusal.TheVariants as refusal
use Rattle.mmu_requests.specs.declared.requests.Request.{Request}
use Rattle.mmu_requests.specs.declared.requests.Request.TheVariants as request
use Rattle.mmu_requests.specs.declared.line_word.Word.{Word}
use Rattle.mmu_requests.specs.declared.line_word.Word.TheVariants as word

-- the word of a text, by its third byte and its second
abbrev word_from : ℕ → ℕ → Word
word_from second third =
    if third == 114 then word.Version
    else (if third == 111 then (if second == 114 then word.Profile else word.Store)
    else (if third == 115 then word.Reset
    else (if third == 112 then word.Pmp
    else (if third == 109 then (if second == 97 then word.Ram else word.Mem)
    else (if third == 116 then (if second == 97 then word.Satp else word.Fetch)
    else (if third == 97 then (if second == 116 then word.Status else word.Load)
    else word.Sfence))))))

abbrev from : List ℕ → Word
from text = word_from (slice_index text 1) (slice_index text 2)

is_from : (w : Word) → from (word_text w) ≡ w
is_from word.Version = refl
is_from word.Profile = refl
is_from word.Reset = refl
is_from word.Status = refl
is_from word.Pmp = refl
is_from word.Ram = refl
is_from word.Mem = refl
is_from word.Satp = refl
is_from word.Fetch = refl
is_from word.Load = refl
is_from word.Store = refl
is_from word.Sfence = refl

pub one_word : (v w : Word) → word_text v ≡ word_text w → v ≡ w
one_word v w same = sym (is_from v) ∙ ap from same ∙ is_from w

-- no request that begins with the word has the fields
refused : (fs : List (List ℕ)) (r : Request) → Refuses fs (word_of r) → HasFields fs r → ⊥
refused fs request.Version none = none
refused fs (request.Profile p) none = none p
refused fs request.Reset none = none
refused fs (request.Status s) none = none s
refused fs (request.Pmp number e) none = none number e
refused fs (request.Ram address end) none = none address end
refused fs (request.Mem address w) none = none address w
refused fs (request.Satp w) none = none w
refused fs (request.Access access.Fetch va width m claim) none = none va width m claim
refused fs (request.Access access.Load va width m claim) none = none va width m claim
refused fs (request.Access access.Store va width m claim) none = none va width m claim
refused fs (request.Sfence va asid) none = none va asid

-- a request has the word that its line begins with
pub word_is : (fs : List (List ℕ)) (w : Word) (r : Request) → slice_get fs 0 ≡ Some (word_text w) → IsRequest fs r → word_of r ≡ w
word_is fs w r at is = one_word (word_of r) w (ap (λ o. unwrap_or o (word_text w)) (sym is.0.0 ∙ at))

pub makes_none : (fs : List (List ℕ)) (w : Word) → slice_get fs 0 ≡ Some (word_text w) → Refuses fs w → MakesNone fs
makes_none fs w at none r is = refused fs r (subst (Refuses fs) (sym (word_is fs w r at is)) none) is.1

-- what holds, holds if a refusal is a mistake
pub if_mistake : {P : Type 0} (e : Refusal) → P → IfMistake e P
if_mistake (refusal.Mistake mistake) p = p
if_mistake refusal.Memory p = tt

pub weaker : {P Q : Type 0} (e : Refusal) → (P → Q) → IfMistake e P → IfMistake e Q
weaker (refusal.Mistake mistake) f p = f p
weaker refusal.Memory f p = tt

-- a field that is there, is no dash and is no number
pub none_perhaps : (fs : List (List ℕ)) (n : ℕ) (f : List ℕ) → slice_get fs n ≡ Some f → (f ≡ codes "-" → ⊥) → ((v : ℕ) → NumberAt fs n v → ⊥)
    → (o : Option ℕ) → PerhapsAt fs n o → ⊥
none_perhaps fs n f there other none (Some v) at = none v at
none_perhaps fs n f there other none None (inl past) = let gone = sym there ∙ past in absurd (cc)
none_perhaps fs n f there other none None (inr dash) = other (ap (λ o. unwrap_or o f) (sym there ∙ dash))

-- with a count of fields that may not follow the word
pub miscounted : (fs : List (List ℕ)) (w : Word) → slice_get fs 0 ≡ Some (word_text w)
    → ((counts w).0 + 1 ≤ length fs → length fs ≤ (counts w).1 + 1 → ⊥) → MakesNone fs
miscounted fs w at wrong r is =
    let same = word_is fs w r at is in
    let begins = subst (Begins fs) same is.0 in
    wrong begins.1 begins.2
