-- Lemmas on kernel copies (copyin, copyout) run by run (a run is the bytes in one page): one run that is copied or stopped,
-- runs after others that were copied, none after a stop, and a copy of no bytes.
use Rattle.std.proofs.Common.{◌≡◌, ℕ, zero, suc, Bool, false, true, ◌+◌, ◌<◌, refl, sym, ◌∙◌, arith, List, [], ◌∷◌, ◌++◌, length, Option, None, Some, Ok, Err}
use Rattle.std.specs.Prelude.{◌==◌}
use Rattle.std.proofs.lemmas.Bool.{eqb-false, eqb-true}
use Rattle.fault_rules.specs.PageService.{Moment, StoreModel}
use Rattle.sv39_entry.specs.declared.access.Access.TheVariants.{Load, Store}
use Rattle.user_copy.specs.ReachedPage.{Reaches}
use Rattle.user_copy.specs.Runs.{CopiesIn, CopiesOut, IsRead, Puts, some_bytes, some_run}
use Rattle.user_copy.specs.declared.short.Stop.{Stop}

run_is : (address n : ℕ) → 0 < n → some_run address n ≡ (address, n) ∷ []
run_is address zero some = absurd (omega (arith, some))
run_is address (suc n) some = refl

bytes_are : (address : ℕ) (bytes : List ℕ) → 0 < length bytes → some_bytes address bytes ≡ (address, bytes) ∷ []
bytes_are address [] some = absurd (omega (arith, some))
bytes_are address (b ∷ bytes) some = refl

-- whether a list is empty
pub is_none : (bytes : List ℕ) (b : Bool) → b ≡ (length bytes == 0) → b ≡ true → length bytes ≡ 0
is_none bytes b is none = eqb-true (length bytes) 0 (sym is ∙ none)

pub is_some : (bytes : List ℕ) (b : Bool) → b ≡ (length bytes == 0) → b ≡ false → 0 < length bytes
is_some bytes b is some = let apart = eqb-false (length bytes) 0 (sym is ∙ some) in omega (arith, apart)

module _ {Seat Frames Cabinet : Type 0} (l : StoreModel Seat Frames Cabinet) where
  -- ---- from a process

  module _ (a b : Moment Seat Frames Cabinet) (address n : ℕ) (some : 0 < n) (done : List ℕ) where
    pub stops_in : (s : Stop) → Reaches l a b Load address (Err s) → CopiesIn l (some_run address n) a b done done (Some s)
    stops_in s e = rw (run_is address n some) (b, Err s, e, (refl, refl, refl))

    pub runs_in : (d : Moment Seat Frames Cabinet) (got : List ℕ) → Reaches l a b Load address (Ok tt) → IsRead l b d address n got
        → CopiesIn l (some_run address n) a d done (done ++ got) None
    runs_in d got e read = rw (run_is address n some) (b, Ok tt, e, (d, got, read, (refl, refl, refl)))

  -- runs behind others that were not stopped
  pub more_in : (rs ss : List (ℕ × ℕ)) (a b c : Moment Seat Frames Cabinet) (done some bytes : List ℕ) (stop : Option Stop)
      → CopiesIn l rs a b done some None → CopiesIn l ss b c some bytes stop → CopiesIn l (rs ++ ss) a c done bytes stop
  more_in [] ss a b c done some bytes stop first second = rw (← first.0, ← first.1) second
  more_in (r ∷ rs) ss a b c done some bytes stop (x, Ok u, e, (d, got, read, rest)) second =
      (x, Ok u, e, (d, got, read, more_in rs ss d b c (done ++ got) some bytes stop rest second))
  more_in (r ∷ rs) ss a b c done some bytes stop (x, Err s, e, (is, same, none)) second = absurd (cc)

  -- none come behind a stop
  pub no_more_in : (rs ss : List (ℕ × ℕ)) (a b : Moment Seat Frames Cabinet) (done bytes : List ℕ) (s : Stop)
      → CopiesIn l rs a b done bytes (Some s) → CopiesIn l (rs ++ ss) a b done bytes (Some s)
  no_more_in [] ss a b done bytes s (is, same, none) = absurd (cc)
  no_more_in (r ∷ rs) ss a b done bytes s (x, Ok u, e, (d, got, read, rest)) = (x, Ok u, e, (d, got, read, no_more_in rs ss d b (done ++ got) bytes s rest))
  no_more_in (r ∷ rs) ss a b done bytes s (x, Err z, e, stops) = (x, Err z, e, stops)

  -- ---- to a process

  module _ (a b : Moment Seat Frames Cabinet) (address : ℕ) (bytes : List ℕ) (some : 0 < length bytes) (done : ℕ) where
    pub stops_out : (s : Stop) → Reaches l a b Store address (Err s) → CopiesOut l (some_bytes address bytes) a b done done (Some s)
    stops_out s e = rw (bytes_are address bytes some) (b, Err s, e, (refl, refl, refl))

    pub runs_out : (d : Moment Seat Frames Cabinet) → Reaches l a b Store address (Ok tt) → Puts l b d address bytes
        → CopiesOut l (some_bytes address bytes) a d done (done + length bytes) None
    runs_out d e puts = rw (bytes_are address bytes some) (b, Ok tt, e, (d, puts, (refl, refl, refl)))

  pub more_out : (rs ss : List (ℕ × List ℕ)) (a b c : Moment Seat Frames Cabinet) (done some count : ℕ) (stop : Option Stop)
      → CopiesOut l rs a b done some None → CopiesOut l ss b c some count stop → CopiesOut l (rs ++ ss) a c done count stop
  more_out [] ss a b c done some count stop first second = rw (← first.0, ← first.1) second
  more_out (r ∷ rs) ss a b c done some count stop (x, Ok u, e, (d, puts, rest)) second =
      (x, Ok u, e, (d, puts, more_out rs ss d b c (done + length r.1) some count stop rest second))
  more_out (r ∷ rs) ss a b c done some count stop (x, Err s, e, (is, same, none)) second = absurd (cc)

  pub no_more_out : (rs ss : List (ℕ × List ℕ)) (a b : Moment Seat Frames Cabinet) (done count : ℕ) (s : Stop)
      → CopiesOut l rs a b done count (Some s) → CopiesOut l (rs ++ ss) a b done count (Some s)
  no_more_out [] ss a b done count s (is, same, none) = absurd (cc)
  no_more_out (r ∷ rs) ss a b done count s (x, Ok u, e, (d, puts, rest)) = (x, Ok u, e, (d, puts, no_more_out rs ss d b (done + length r.1) count s rest))
  no_more_out (r ∷ rs) ss a b done count s (x, Err z, e, stops) = (x, Err z, e, stops)

  -- no bytes come to no page
  pub nothing_out : (a : Moment Seat Frames Cabinet) (address : ℕ) (bytes : List ℕ) (done : ℕ) → length bytes ≡ 0
      → CopiesOut l (some_bytes address bytes) a a done (done + length bytes) None
  nothing_out a address [] done none = (refl, omega arith, refl)
  nothing_out a address (b ∷ bytes) done none = absurd (omega (arith, none))
