-- Laws of `joined`, the view (what a seat holds and knows) of a seat after another has joined it: it holds each frame
-- that either of the two held; and at each index at which the other knew a word of a frame that it held, it knows one
-- too.
use Rattle.std.proofs.Common.{ℕ, ◌<◌, Option, None, Some, inl, inr, refl, sym, subst, arith}
use Rattle.std.specs.Prelude.{IsSome}
use Rattle.std.proofs.lemmas.Bool.Decides.{eqb_tells}
use Rattle.std.specs.FinMap as map
use Rattle.frame_store.specs.View.{View, Hold, hold_of, IsHeld, known_word, added, either, joined}
use Rattle.frame_store.specs.ViewJoin.{hold_of-joined, get-union}

added_first : (h k : Hold) → 0 < h.references → 0 < (added h k).references
added_first h k some =
    elim (eqb_tells k.references 0) as (λ _. 0 < (added h k).references) [
      | inl t ↦ rw t.0 some
      | inr t ↦ elim (eqb_tells h.references 0) as (λ _. 0 < (added h k).references) [
        | inl u ↦ absurd (omega (arith, u.1))
        | inr u ↦ rw (t.0, u.0) (omega arith)
      ]
    ]

added_second : (h k : Hold) → 0 < k.references → 0 < (added h k).references
added_second h k some =
    elim (eqb_tells k.references 0) as (λ _. 0 < (added h k).references) [
      | inl t ↦ absurd (omega (arith, t.1))
      | inr t ↦ elim (eqb_tells h.references 0) as (λ _. 0 < (added h k).references) [
        | inl u ↦ rw (t.0, u.0) some
        | inr u ↦ rw (t.0, u.0) (omega arith)
      ]
    ]

either_second : (a b : Option ℕ) → IsSome b → IsSome (either a b)
either_second (Some x) b h = refl
either_second None b h = h

added_knows : (h k : Hold) (i : ℕ) → 0 < k.references → IsSome (map.get k.words i) → IsSome (map.get (added h k).words i)
added_knows h k i some known =
    elim (eqb_tells k.references 0) as (λ _. IsSome (map.get (added h k).words i)) [
      | inl t ↦ absurd (omega (arith, t.1))
      | inr t ↦ elim (eqb_tells h.references 0) as (λ _. IsSome (map.get (added h k).words i)) [
        | inl u ↦ rw (t.0, u.0) known
        | inr u ↦ rw (t.0, u.0) (subst IsSome (sym (get-union h.words k.words i)) (either_second (map.get h.words i) _ known))
      ]
    ]

module _ (v w : View) (f : ℕ) where
  pub joined_first : IsHeld v f → IsHeld (joined v w) f
  joined_first held = subst (λ (h : Hold). 0 < h.references) (sym (hold_of-joined v w f)) (added_first (hold_of v f) (hold_of w f) held)

  pub joined_second : IsHeld w f → IsHeld (joined v w) f
  joined_second held = subst (λ (h : Hold). 0 < h.references) (sym (hold_of-joined v w f)) (added_second (hold_of v f) (hold_of w f) held)

  pub joined_knows : (i : ℕ) → IsHeld w f → IsSome (known_word w f i) → IsSome (known_word (joined v w) f i)
  joined_knows i held known =
      subst (λ (h : Hold). IsSome (map.get h.words i)) (sym (hold_of-joined v w f)) (added_knows (hold_of v f) (hold_of w f) i held known)
