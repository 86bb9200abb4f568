-- The worked example: the walk before the store finds the old leaf, and no pointer on its way has G.
use Rattle.std.proofs.Common.{◌≡◌, ℕ, ◌+◌, ◌*◌, ◌^◌, Bool, true, false, refl, arith, Some, [], ◌∷◌, if◌then◌else◌}
use Rattle.std.proofs.lemmas.Bool.{false≢true}
use Rattle.std.proofs.lemmas.Option.{same_Some}
use Rattle.sv39_entry.specs.Address.{has}
use Rattle.sv39_entry.specs.Word.{kind_of}
use Rattle.sv39_entry.specs.declared.scheme.Scheme.TheVariants.{Sv39}
use Rattle.table_walk.specs.Walk.{IsGlobal}
use Rattle.access_history.specs.Examples.{example_first, example_leaf, example_memory, example_store}
use Rattle.history_laws.specs.TlbEntries.{IsFilled, Remains, filled, stays}
use Rattle.history_laws.specs.TlbExamples.{example_entry}

no_global : (a b c : Bool) (w : ℕ)
    → (if a then Some (2 * 2 ^ 10 + 1) else (if b then Some (3 * 2 ^ 10 + 1) else (if c then Some (example_leaf 4) else Some 0))) ≡ Some w
    → has w 5 ≡ true → ⊥
no_global true b c w is set = let same = same_Some _ w is in false≢true (rw (← same) at set)
no_global false true c w is set = let same = same_Some _ w is in false≢true (rw (← same) at set)
no_global false false true w is set = let same = same_Some _ w is in false≢true (rw (← same) at set)
no_global false false false w is set = let same = same_Some _ w is in false≢true (rw (← same) at set)

not_global : IsGlobal Sv39 example_memory 1 1 0 → ⊥
not_global g = no_global _ _ _ g.2 g.5 g.6

pub was_filled : IsFilled example_first Sv39 0x1000 example_entry []
unfolding kind_of
was_filled = record {
  scheme = refl;
  outcome = record {
    of_page = refl;
    of_space = refl;
    shown = (
      (
        (
          refl,
          record {
            reads = record {
              low = omega arith;
              table = 3;
              way = (2, 3 * 2 ^ 10 + 1, (1, 2 * 2 ^ 10 + 1, refl, refl, refl, refl), refl, refl, refl);
              read = refl;
            };
            kind = refl;
            aligned = refl;
          },
        ),
        ((λ set. absurd (false≢true set)), (λ g. absurd (not_global g))),
      ),
      refl,
    );
  };
}

pub still_there : Remains example_entry (example_store ∷ []) []
still_there = stays filled refl
