-- Lemmas on one walk: so many pointers lead to one table (`same_table`), and a walk ends once (`goes_on`). On the list of words
-- that it reads: one more (`pushed`), the last one (`ended`), and one at each level (`whole`).
use Rattle.std.proofs.Common.{◌≡◌, ◌⊎◌, inl, inr, refl, sym, ap, subst, ◌∙◌, ℕ, zero, suc, ◌-◌, ◌<◌, List, [], ◌∷◌, ◌++◌, length, Option, Some, arith}
use Rattle.std.specs.Prelude.{slice_get}
use Rattle.std.proofs.lemmas.Bool.{cases_lt}
use Rattle.std.proofs.lemmas.List.{length-append}
use Rattle.std.proofs.lemmas.Option.{same_Some}
use Rattle.sv39_entry.specs.Address.{vpn}
use Rattle.sv39_entry.specs.Schemes.{top_level}
use Rattle.sv39_entry.specs.Word.{kind_of, ppn}
use Rattle.sv39_entry.specs.declared.entry.Kind.TheVariants.{Pointer}
use Rattle.sv39_entry.specs.declared.scheme.Scheme.{Scheme}
use Rattle.table_walk.specs.Memory.{Memory}
use Rattle.table_walk.specs.Walk.{IsAt, Reads}
use Rattle.walk_lines.specs.Walks.{AreRead, IsEntry}
use Rattle.walk_lines.specs.declared.walk.WalkEntry.{WalkEntry}

at_end : (es : List WalkEntry) (e x : WalkEntry) (j : ℕ) → slice_get (es ++ e ∷ []) j ≡ Some x → (slice_get es j ≡ Some x) ⊎ ((j ≡ length es) × (x ≡ e))
at_end [] e x zero is = inr (refl, sym (same_Some _ _ is))
at_end [] e x (suc j) is = inl is
at_end (y ∷ es) e x zero is = inl is
at_end (y ∷ es) e x (suc j) is = go (at_end es e x j is)
  where
    go : (slice_get es j ≡ Some x) ⊎ ((j ≡ length es) × (x ≡ e)) → (slice_get es j ≡ Some x) ⊎ ((suc j ≡ suc (length es)) × (x ≡ e))
    go (inl before) = inl before
    go (inr last) = inr (ap suc last.0, last.1)

-- the walk goes no further than this word
abbrev pub Ends : Option ℕ → Type 0
Ends word = (w : ℕ) → word ≡ Some w → kind_of w ≡ Pointer → ⊥

module _ (s : Scheme) (m : Memory) (root page : ℕ) where
  pub same_table : (k a b : ℕ) → IsAt s m root page k a → IsAt s m root page k b → a ≡ b
  same_table zero a b p q = p ∙ sym q
  same_table (suc k) a b p q =
      let above = same_table k p.0 q.0 p.2 q.2 in
      let word : Some p.1 ≡ Some q.1 = sym p.3 ∙ ap (λ t. m t (vpn page (top_level s - k))) above ∙ q.3 in
      p.5 ∙ ap ppn (same_Some _ _ word) ∙ sym q.5

  -- a pointer leads one level down
  pub down : (level pointer : ℕ) → Reads s m root page level (Some pointer) → kind_of pointer ≡ Pointer → IsAt s m root page (suc (top_level s) - level) (ppn pointer)
  down level pointer reads kind =
      let low = reads.low in
      let more : suc (top_level s) - level ≡ suc (top_level s - level) = omega arith in
      let back : top_level s - (top_level s - level) ≡ level = omega arith in
      rw more (reads.table, pointer, reads.way, rw back reads.read, kind, refl)

  -- a walk that comes past a table goes on from it
  pub goes_on : (j k a b : ℕ) (w : Option ℕ) → IsAt s m root page j b → IsAt s m root page k a → k < j → m a (vpn page (top_level s - k)) ≡ w → Ends w → ⊥
  goes_on zero k a b w q p lt read ends = absurd (omega (arith, lt))
  goes_on (suc j) k a b w q p lt read ends =
      elim (cases_lt k j) as (λ _. ⊥) [
        | inl less ↦ goes_on j k a q.0 w q.2 p less read ends
        | inr more ↦
            let same : k ≡ j = omega (arith, lt, more) in
            let above : a ≡ q.0 = same_table j a q.0 (subst (λ i. IsAt s m root page i a) same p) q.2 in
            ends q.1 (sym read ∙ ap (λ t. m t (vpn page (top_level s - k))) above ∙ ap (λ i. m q.0 (vpn page (top_level s - i))) same ∙ q.3) q.4
      ]

  -- the words at the first k levels
  pub record AreFirst (es : List WalkEntry) (k : ℕ) : Type 0 where
    pub many : length es ≡ k
    pub each : (j : ℕ) (e : WalkEntry) → slice_get es j ≡ Some e → IsEntry s m root page j e

  pub none : AreFirst [] 0
  none = record { many = refl; each = λ j e is. absurd cc }

  pub pushed : (es : List WalkEntry) (k : ℕ) (e : WalkEntry) → AreFirst es k → IsEntry s m root page k e → AreFirst (es ++ e ∷ []) (suc k)
  pushed es k e so_far is = record {
    many = omega (arith, length-append es (e ∷ []), so_far.many);
    each = λ j x at. go j x (at_end es e x j at);
  }
    where
      go : (j : ℕ) (x : WalkEntry) → (slice_get es j ≡ Some x) ⊎ ((j ≡ length es) × (x ≡ e)) → IsEntry s m root page j x
      go j x (inl before) = so_far.each j x before
      go j x (inr last) = subst (λ (y : WalkEntry). IsEntry s m root page j y) (sym last.1) (subst (λ i. IsEntry s m root page i e) (sym (last.0 ∙ so_far.many)) is)

  -- the last word ends the walk
  pub ended : (es : List WalkEntry) (k : ℕ) (e : WalkEntry) → AreFirst es (suc k) → IsEntry s m root page k e → Ends e.word → AreRead s m root page es
  ended es k e all last ends = record {
    each = all.each;
    all = λ level word reads.
        elim (cases_lt (top_level s - level) (suc k)) as (λ _. top_level s - level < length es) [
          | inl less ↦ omega (arith, less, all.many)
          | inr more ↦
              let index : e.index ≡ vpn page (top_level s - k) = last.index ∙ ap (vpn page) last.level in
              absurd (goes_on (top_level s - level) k e.table reads.table e.word reads.way last.way (omega (arith, more)) (ap (m e.table) (sym index) ∙ last.read) ends)
        ];
  }

  -- each level was read
  pub whole : (es : List WalkEntry) → AreFirst es (suc (top_level s)) → AreRead s m root page es
  whole es all = record { each = all.each; all = λ level word reads. omega (arith, all.many) }
