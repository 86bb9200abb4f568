use Rattle.std.proofs.Common.{◌≡◌, ◌+◌, ◌-◌, ◌*◌, ◌<◌, arith, inl, inr, sym, subst, slice_index}
use Rattle.std.proofs.lemmas.Bool.{cases_lt}
use Rattle.std.proofs.lemmas.Grind.{common_steps}
use Rattle.frame_store.specs.ZeroWords.{IsIdle}
use Rattle.frame_store.proofs.memory.Memory.next_busy.Goals as goal

pub words-init : goal.words-init
words-init c i le lt =
    let low : c.index.result.now ≡ slice_index c.self.inside.lows.items c.args.frame.0 = grind (arith, common_steps, c.index.ensures) in
    inl (rw (← c.self.view_is) (c.self.invariant.before c.args.frame.0 i (omega arith) (omega (arith, c.max-from.ensures, low, le, lt))))

pub returns-then-not-is_idle : goal.returns-then-not-is_idle
returns-then-not-is_idle c =
    let within : c.words.place < c.min-to.result - c.max-from.result = omega (arith, c.words-test.true, c.in-Some.ensures.long) in (
      record {
        from = omega (arith, c.max-from.ensures);
        before = omega (arith, within, c.min-to.ensures);
        some = c.is_idle.ensures.busy c.if-not-is_idle.true;
        is = rw (← c.self.view_is) (sym (c.in-Some.ensures.words c.words.place within));
      },
      c.words.invariant,
    )

pub words-preserved : goal.words-preserved
words-preserved c i le lt =
    let within : c.words.place < c.min-to.result - c.max-from.result = omega (arith, c.words-test.true, c.in-Some.ensures.long) in
    let is : slice_index c.in-Some.part.now c.words.place ≡ slice_index c.args.self.now (512 * c.args.frame.0 + (c.max-from.result + c.words.place)) = rw (← c.self.view_is) (c.in-Some.ensures.words c.words.place within) in
    elim (cases_lt i (c.max-from.result + c.words.place)) as (λ _. IsIdle c.args.self.now (slice_index c.args.self.now (512 * c.args.frame.0 + i))) [
      | inl before ↦ c.words.invariant i le before
      | inr at ↦
          let same : i ≡ c.max-from.result + c.words.place = omega (arith, at, lt) in
          rw same (subst (IsIdle c.args.self.now) is (c.is_idle.ensures.idle c.if-not-is_idle.false))
    ]

pub returns : goal.returns
returns c i le lt =
    let high : c.index-2.result.now ≡ slice_index c.self.inside.highs.items c.args.frame.0 = grind (arith, common_steps, c.index-2.ensures) in
    elim (cases_lt i (c.max-from.result + c.words.place)) as (λ _. IsIdle c.args.self.now (slice_index c.args.self.now (512 * c.args.frame.0 + i))) [
      | inl before ↦ c.words.invariant i le before
      | inr past ↦ inl (rw (← c.self.view_is) (c.self.invariant.behind c.args.frame.0 i (omega (arith, high, c.min-to.ensures, c.words-test.false, c.in-Some.ensures.long, c.if-to-from.false, past, lt)) (omega (arith, lt, c.requires.in_page))))
    ]
