-- A search that leaves out the tables that were searched before.
use Rattle.std.specs.Prelude.{List}
use Rattle.std.specs.List.{Contains}
use Rattle.access_history.specs.declared.outcome.Outcome.{Outcome}
use Rattle.access_judge.specs.Judging.{stand_of}
use Rattle.access_judge.specs.Search.{Stand}
use Rattle.access_judge.specs.declared.question.Table.{Table}

-- a sink has what each of these tables says
abbrev pub AreSaid : {S : Type 0} → (S → List Outcome → Type 0) → (Stand → List Outcome) → S → List Table → Type 0
AreSaid has says a seen = (t : Table) → Contains seen t → has a (says (stand_of t))

-- a sink `a` gains some outcomes, if it has what the tables say that were searched before; then that holds of `b`, and of those searched since, too
pub record Sifts {S : Type 0} (gains : S → List Outcome → S → Type 0) (has : S → List Outcome → Type 0) (says : Stand → List Outcome)
    (a : S) (seen : List Table) (os : List Outcome) (b : S) (since : List Table) : Type 0 where
  pub if_said : AreSaid has says a seen → gains a os b × AreSaid has says b since
