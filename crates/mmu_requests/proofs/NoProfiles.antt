-- Lemmas on lines whose words make no profile: each field before the last has a word (`has_word`).
use Rattle.std.proofs.Common.{codes, ◌≡◌, ℕ, Option, None, Some, List, ap, sym, subst, ◌∙◌, ◌<◌, ◌≤◌, suc, length, slice_get, arith, inl, inr}
use Rattle.std.proofs.lemmas.Bool.{cases_eq}
use Rattle.std.specs.Option.{IfNone, unwrap_or}
use Rattle.mmu_requests.specs.Profiles.{IsProfile, IsProfileUntil, IsProfileUntil.begins, IsProfileUntil.goes_on, IsTextOf}
use Rattle.mmu_requests.specs.declared.profile.Profile.{Profile}
use Rattle.mmu_requests.specs.declared.profile_word.ProfileWord.{ProfileWord}
use Rattle.mmu_requests.specs.declared.profile_word.ProfileWord.TheVariants as word

abbrev pub HasWord : List (List ℕ) → ℕ → Type 0
HasWord fs k = (f : List ℕ) × (w : ProfileWord) × (slice_get fs k ≡ Some f) × IsTextOf w f

-- each field up to the one with a number, but for the line's word, has a word
pub has_word : (fs : List (List ℕ)) (n : ℕ) (p : Profile) → IsProfileUntil fs n p → (k : ℕ) → 1 ≤ k → k < n → HasWord fs k
has_word fs n p begins k from before = absurd (omega (arith, from, before))
has_word fs (suc n) p (goes_on q f w until there text) k from before = elim (cases_eq k n) [
  | inl same ↦ subst (HasWord fs) (sym same) (f, w, there, text)
  | inr other ↦ has_word fs n q until k from (omega (arith, other, before))
]

-- a field after the line's word that has no word of a profile
pub no_profile : (fs : List (List ℕ)) (k : ℕ) (f : List ℕ) → 1 ≤ k → k < length fs → slice_get fs k ≡ Some f → ((w : ProfileWord) → IsTextOf w f → ⊥)
    → (p : Profile) → IsProfile fs p → ⊥
no_profile fs k f from before there none p is =
    let has = has_word fs (length fs) is.0 is.1 k from before in
    none has.1 (subst (IsTextOf has.1) (ap (λ o. unwrap_or o f) (sym has.2 ∙ there)) has.3)

-- a field after the line's word that is not there
pub no_field : (fs : List (List ℕ)) (k : ℕ) → 1 ≤ k → k < length fs → slice_get fs k ≡ None → (p : Profile) → IsProfile fs p → ⊥
no_field fs k from before gone p is =
    let has = has_word fs (length fs) is.0 is.1 k from before in
    let there = sym gone ∙ has.2 in
    absurd (cc)

-- a text of which each word is denied
pub no_text : (f : List ℕ) → (f ≡ codes "sv39" → ⊥) → (f ≡ codes "sv48" → ⊥) → (f ≡ codes "sv57" → ⊥) → (f ≡ codes "svade" → ⊥) → (f ≡ codes "svadu" → ⊥)
    → (f ≡ codes "ad-either" → ⊥) → (f ≡ codes "svnapot" → ⊥) → (f ≡ codes "svpbmt" → ⊥) → (f ≡ codes "pmp0" → ⊥) → (f ≡ codes "pmp16" → ⊥)
    → (f ≡ codes "pmp64" → ⊥) → ((bits : ℕ) → IsTextOf (word.Asid bits) f → ⊥) → (w : ProfileWord) → IsTextOf w f → ⊥
no_text f a b c d e g h i j k l m word.Sv39 is = a is
no_text f a b c d e g h i j k l m word.Sv48 is = b is
no_text f a b c d e g h i j k l m word.Sv57 is = c is
no_text f a b c d e g h i j k l m word.Svade is = d is
no_text f a b c d e g h i j k l m word.Svadu is = e is
no_text f a b c d e g h i j k l m word.AdEither is = g is
no_text f a b c d e g h i j k l m word.Svnapot is = h is
no_text f a b c d e g h i j k l m word.Svpbmt is = i is
no_text f a b c d e g h i j k l m word.Pmp0 is = j is
no_text f a b c d e g h i j k l m word.Pmp16 is = k is
no_text f a b c d e g h i j k l m word.Pmp64 is = l is
no_text f a b c d e g h i j k l m (word.Asid bits) is = m bits is

-- what holds if there is no word
pub if_none : {P Q : Type 0} (o : Option ProfileWord) → (P → Q) → IfNone o P → IfNone o Q
if_none None f p = f p
if_none (Some w) f p = p
