-- Lemmas: of two words stored at one index of a frame the seat knows the later one alone (`stored_again`), and a store
-- keeps its sole-holder flag.
use Rattle.std.proofs.Common.{◌≡◌, ℕ, ◌==◌, Some, Option, Bool, true, false, cond, refl, ap, sym, ◌∙◌}
use Rattle.std.specs.FinMap as map
use Rattle.std.specs.Ordering.{nat_cmp}
use Rattle.frame_store.specs.View.{View, Hold, hold_of, with_hold, with_word}
use Rattle.frame_store.specs.Holds.{get-insert_at, hold_of-with_hold_same, same_answers, with_hold-with_hold}

last : (b : Bool) (x y z : Option ℕ) → cond b x (cond b y z) ≡ cond b x z
last true x y z = refl
last false x y z = refl

put_again : (words : map.FinMap nat_cmp ℕ) (i x y : ℕ) → map.insert (map.insert words i y) i x ≡ map.insert words i x
put_again words i x y = same_answers _ _ (λ q.
    get-insert_at (map.insert words i y) i x q ∙ ap (cond (q == i) (Some x)) (get-insert_at words i y q)
    ∙ last (q == i) (Some x) (Some y) (map.get words q) ∙ sym (get-insert_at words i x q))

pub stored_again : (f i x y : ℕ) (v : View) → with_word f i x (with_word f i y v) ≡ with_word f i x v
stored_again f i x y v =
    let h : Hold = record (hold_of v f) { words = map.insert (hold_of v f).words i y } in
    ap (λ (g : Hold). with_hold f (record g { words = map.insert g.words i x }) (with_hold f h v)) (hold_of-with_hold_same f h v)
    ∙ with_hold-with_hold f (record h { words = map.insert h.words i x }) h v
    ∙ ap (λ ws. with_hold f (record (hold_of v f) { words = ws }) v) (put_again (hold_of v f).words i x y)

pub stored_sole : (f i x : ℕ) (v : View) → (hold_of (with_word f i x v) f).sole ≡ (hold_of v f).sole
stored_sole f i x v = ap (λ (h : Hold). h.sole) (hold_of-with_hold_same f (record (hold_of v f) { words = map.insert (hold_of v f).words i x }) v)
