-- Lemmas on paths of lists: what a list at the end adds to a chain, and a chain from a list on.
use Rattle.std.proofs.Common.{◌≡◌, ◌⊎◌, ℕ, List, [], ◌∷◌, ◌++◌, inl, inr, refl, sym, ap, subst, ◌∙◌}
use Rattle.std.specs.Prelude.{take}
use Rattle.std.proofs.lemmas.Bool.{cases_eq, eq-eqb, ne_eqb}
use Rattle.script_language.specs.declared.declarations.CallList.{CallList}
use Rattle.fork_cycles.specs.Forks.{Forks, IsChain, IsIn}
use Rattle.fork_cycles.specs.Search.{Every, from_here, part_from}

pub chain_push : (lists : List CallList) (path : List ℕ) (j k : ℕ) → IsChain lists (path ++ j ∷ []) → Forks lists j k → IsChain lists ((path ++ j ∷ []) ++ k ∷ [])
chain_push lists [] j k chain forks = (forks, tt)
chain_push lists (x ∷ []) j k chain forks = (chain.0, (forks, tt))
chain_push lists (x ∷ y ∷ path) j k chain forks = (chain.0, chain_push lists (y ∷ path) j k chain.1 forks)

pub chain_front : (lists : List CallList) (path : List ℕ) (j : ℕ) → IsChain lists (path ++ j ∷ []) → IsChain lists path
chain_front lists [] j chain = tt
chain_front lists (x ∷ []) j chain = tt
chain_front lists (x ∷ y ∷ path) j chain = (chain.0, chain_front lists (y ∷ path) j chain.1)

chain_rest : (lists : List CallList) (x : ℕ) (path : List ℕ) → IsChain lists (x ∷ path) → IsChain lists path
chain_rest lists x [] chain = tt
chain_rest lists x (y ∷ path) chain = chain.1

pub every_push : (P : ℕ → Type 0) (path : List ℕ) (j : ℕ) → Every P path → P j → Every P (path ++ j ∷ [])
every_push P [] j all here = (here, tt)
every_push P (x ∷ path) j all here = (all.0, every_push P path j all.1 here)

pub every_front : (P : ℕ → Type 0) (path : List ℕ) (j : ℕ) → Every P (path ++ j ∷ []) → Every P path
every_front P [] j all = tt
every_front P (x ∷ path) j all = (all.0, every_front P path j all.1)

pub every_last : (P : ℕ → Type 0) (path : List ℕ) (j : ℕ) → Every P (path ++ j ∷ []) → P j
every_last P [] j all = all.0
every_last P (x ∷ path) j all = every_last P path j all.1

pub every_in : (P : ℕ → Type 0) (path : List ℕ) (k : ℕ) → Every P path → IsIn k path → P k
every_in P [] k all inside = absurd inside
every_in P (x ∷ path) k all inside = elim inside [
  | inl same ↦ subst P same all.0
  | inr after ↦ every_in P path k all.1 after
]

pub in_push : (path : List ℕ) (j k : ℕ) → IsIn k path → IsIn k (path ++ j ∷ [])
in_push [] j k inside = absurd inside
in_push (x ∷ path) j k inside = elim inside [
  | inl same ↦ inl same
  | inr after ↦ inr (in_push path j k after)
]

pub in_last : (path : List ℕ) (k : ℕ) → IsIn k (path ++ k ∷ [])
in_last [] k = inl refl
in_last (x ∷ path) k = inr (in_last path k)

pub in_front : (path : List ℕ) (j k : ℕ) → IsIn k (path ++ j ∷ []) → IsIn k path ⊎ (j ≡ k)
in_front [] j k inside = elim inside [
  | inl same ↦ inr same
  | inr after ↦ absurd after
]
in_front (x ∷ path) j k inside = elim inside [
  | inl same ↦ inl (inl same)
  | inr after ↦ elim (in_front path j k after) [
    | inl front ↦ inl (inr front)
    | inr last ↦ inr last
  ]
]

-- a path from its first list on, and from a later one
here_is : (k x : ℕ) (path : List ℕ) → x ≡ k → part_from k (x ∷ path) ≡ x ∷ path
here_is k x path same = ap (λ b. from_here b (x ∷ path) (part_from k path)) (eq-eqb x k same)

later_is : (k x : ℕ) (path : List ℕ) → (x ≡ k → ⊥) → part_from k (x ∷ path) ≡ part_from k path
later_is k x path apart = ap (λ b. from_here b (x ∷ path) (part_from k path)) (ne_eqb x k apart)

after_first : (x k : ℕ) (path : List ℕ) → (x ≡ k → ⊥) → IsIn k (x ∷ path) → IsIn k path
after_first x k path apart inside = elim inside [
  | inl same ↦ absurd (apart same)
  | inr after ↦ after
]

pub part_begins : (path : List ℕ) (k : ℕ) → IsIn k path → take 1 (part_from k path) ≡ k ∷ []
part_begins [] k inside = absurd inside
part_begins (x ∷ path) k inside = elim (cases_eq x k) [
  | inl same ↦ ap (take 1) (here_is k x path same) ∙ ap (λ y. y ∷ []) same
  | inr apart ↦ ap (take 1) (later_is k x path apart) ∙ part_begins path k (after_first x k path apart inside)
]

pub part_round : (lists : List CallList) (path : List ℕ) (k : ℕ) → IsIn k path → IsChain lists (path ++ k ∷ []) → IsChain lists (part_from k path ++ k ∷ [])
part_round lists [] k inside chain = absurd inside
part_round lists (x ∷ path) k inside chain = elim (cases_eq x k) [
  | inl same ↦ subst (λ part. IsChain lists (part ++ k ∷ [])) (sym (here_is k x path same)) chain
  | inr apart ↦ subst (λ part. IsChain lists (part ++ k ∷ [])) (sym (later_is k x path apart)) (part_round lists path k (after_first x k path apart inside) (chain_rest lists x (path ++ k ∷ []) chain))
]
