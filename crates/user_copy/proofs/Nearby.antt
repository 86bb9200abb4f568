-- Lemmas on the two runs of a kernel copy (copyin, copyout), the bytes in the first page and the rest: the copy stops in the
-- first run, is all in it, or goes on with the second.
use Rattle.std.proofs.Common.{◌≡◌, ℕ, ◌+◌, ◌-◌, arith, refl, sym, subst, List, [], length, drop, take, Option, None, Some}
use Rattle.fault_rules.specs.PageService.{Moment, StoreModel}
use Rattle.user_copy.specs.Runs.{CopiesIn, CopiesOut, near, runs, runs_of, some_bytes, some_run}
use Rattle.user_copy.specs.declared.short.Stop.{Stop}
use Rattle.user_copy.proofs.Chains.{more_in, more_out, no_more_in, no_more_out, nothing_out}

-- the bytes in the first page come first, and then the others

module _ {Seat Frames Cabinet : Type 0} (l : StoreModel Seat Frames Cabinet) (address n here : ℕ) (is : here ≡ near address n) where
  pub stops_here_in : (a b : Moment Seat Frames Cabinet) (bytes : List ℕ) (s : Stop) → CopiesIn l (some_run address here) a b [] bytes (Some s)
      → CopiesIn l (runs address n) a b [] bytes (Some s)
  stops_here_in a b bytes s stops =
      no_more_in l (some_run address (near address n)) (some_run (address + near address n) (n - near address n)) a b [] bytes s
      (subst (λ k. CopiesIn l (some_run address k) a b [] bytes (Some s)) is stops)

  pub both_in : (a b c : Moment Seat Frames Cabinet) (first bytes : List ℕ) (stop : Option Stop) → CopiesIn l (some_run address here) a b [] first None
      → CopiesIn l (some_run (address + here) (n - here)) b c first bytes stop → CopiesIn l (runs address n) a c [] bytes stop
  both_in a b c first bytes stop front behind =
      more_in l (some_run address (near address n)) (some_run (address + near address n) (n - near address n)) a b c [] first bytes stop
      (subst (λ k. CopiesIn l (some_run address k) a b [] first None) is front) (subst (λ k. CopiesIn l (some_run (address + k) (n - k)) b c first bytes stop) is behind)

  pub all_in : (a b : Moment Seat Frames Cabinet) (bytes : List ℕ) → here ≡ n → CopiesIn l (some_run address here) a b [] bytes None → CopiesIn l (runs address n) a b [] bytes None
  all_in a b bytes all front =
      let none : n - here ≡ 0 = omega (arith, all) in
      both_in a b b bytes bytes None front (subst (λ k. CopiesIn l (some_run (address + here) k) b b bytes bytes None) (sym none) (refl, refl, refl))

module _ {Seat Frames Cabinet : Type 0} (l : StoreModel Seat Frames Cabinet) (address : ℕ) (bytes : List ℕ) (here : ℕ) (is : here ≡ near address (length bytes)) where
  pub stops_here_out : (a b : Moment Seat Frames Cabinet) (count : ℕ) (s : Stop) → CopiesOut l (some_bytes address (take here bytes)) a b 0 count (Some s)
      → CopiesOut l (runs_of address bytes) a b 0 count (Some s)
  stops_here_out a b count s stops =
      let near = near address (length bytes) in
      no_more_out l (some_bytes address (take near bytes)) (some_bytes (address + near) (drop near bytes)) a b 0 count s
      (subst (λ k. CopiesOut l (some_bytes address (take k bytes)) a b 0 count (Some s)) is stops)

  pub both_out : (a b c : Moment Seat Frames Cabinet) (first count : ℕ) (stop : Option Stop) → CopiesOut l (some_bytes address (take here bytes)) a b 0 first None
      → CopiesOut l (some_bytes (address + here) (drop here bytes)) b c first count stop → CopiesOut l (runs_of address bytes) a c 0 count stop
  both_out a b c first count stop front behind =
      let near = near address (length bytes) in
      more_out l (some_bytes address (take near bytes)) (some_bytes (address + near) (drop near bytes)) a b c 0 first count stop
      (subst (λ k. CopiesOut l (some_bytes address (take k bytes)) a b 0 first None) is front)
      (subst (λ k. CopiesOut l (some_bytes (address + k) (drop k bytes)) b c first count stop) is behind)

  pub all_out : (a b : Moment Seat Frames Cabinet) (count : ℕ) → length (drop here bytes) ≡ 0 → CopiesOut l (some_bytes address (take here bytes)) a b 0 count None
      → CopiesOut l (runs_of address bytes) a b 0 count None
  all_out a b count none front =
      both_out a b b count count None front
      (subst (λ k. CopiesOut l (some_bytes (address + here) (drop here bytes)) b b count k None) (omega (arith, none)) (nothing_out l b (address + here) (drop here bytes) count none))
