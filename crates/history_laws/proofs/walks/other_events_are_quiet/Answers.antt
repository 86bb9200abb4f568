use Rattle.std.proofs.Common.{◌≡◌, ℕ, Bool, false, refl, Option, Some, if◌then◌else◌}
use Rattle.std.proofs.lemmas.Bool.{and_left, ne_eqb}
use Rattle.history_laws.proofs.walks.other_events_are_quiet.Goals as goal

other_by : (b : Bool) (w : ℕ) (o : Option ℕ) → b ≡ false → (if b then Some w else o) ≡ o
other_by b w o is = rw is refl

pub returns : goal.returns
returns c = record {
  store = λ f s page ppn index word h elsewhere. record {
    satp = refl;
    words = λ k table low way. other_by _ word _ (and_left _ _ (ne_eqb table ppn (elsewhere k table low way)));
  };
  fence = λ f s page va space h. record { satp = refl; words = λ k table low way. refl };
  pmp = λ f s page number entry h. record { satp = refl; words = λ k table low way. refl };
}
