use Rattle.std.proofs.Common.{◌≡◌, ℕ, zero, suc, ◌-◌, ◌<◌, List, [], ◌∷◌, map, Some, slice_get, ap, sym, ◌∙◌, arith}
use Rattle.std.specs.Option.{option_map}
use Rattle.mmu.specs.Recorded.{past_satp, present}
use Rattle.mmu.proofs.history.History.use_at.Goals as goal

-- the image of what stands at a place
mapped : {A B : Type 0} (f : A → B) (x : A) (xs : List A) (n : ℕ) → slice_get xs n ≡ Some x → slice_get (map f xs) n ≡ Some (f x)
mapped f x [] n is = cc
mapped f x (y ∷ ys) zero is = ap (option_map f) is
mapped f x (y ∷ ys) (suc n) is = mapped f x ys n is

later : {A : Type 0} (y x : A) (xs : List A) (n : ℕ) → 0 < n → slice_get xs (n - 1) ≡ Some x → slice_get (y ∷ xs) n ≡ Some x
later y x xs zero some is = absurd (omega (arith, some))
later y x xs (suc n) some is = let less : n ≡ suc n - 1 = omega arith in ap (slice_get xs) less ∙ is

pub returns-then-number-eq0 : goal.returns-then-number-eq0
returns-then-number-eq0 c =
    let h = c.args.self.now in
    ap (λ (n : ℕ). slice_get (map (past_satp h) (present h ∷ h.uses.past.items)) n) c.if-number-eq0.true
    ∙ ap (λ u. Some (past_satp h u)) (sym c.present.ensures) ∙ ap (λ p. Some p) (sym c.past_satp.ensures)

pub returns : goal.returns
returns c =
    let h = c.args.self.now in
    let some : 0 < c.args.number = omega (arith, c.if-number-eq0.false) in
    mapped (past_satp h) c.get.result (present h ∷ h.uses.past.items) c.args.number (later (present h) c.get.result h.uses.past.items c.args.number some c.get.ensures)
    ∙ ap (λ p. Some p) (sym c.past_satp-2.ensures)
