-- Forks of the lists of a file for threads: which lists a list forks (`Forks`), which it reaches (`Reaches`), that no endless chain of
-- forks goes out from it (`Ends`), and lists each of which forks the next, and the last the first (`IsForkCycle`).
use Rattle.std.specs.Prelude.{◌≡◌, ◌⊎◌, ℕ, List, [], ◌∷◌, ◌++◌, Option, Some, None, Contains, take}
use Rattle.script_language.specs.ThreadScript.{calls_of}
use Rattle.process_model.specs.declared.call.Call.TheVariants as call
use Rattle.script_language.specs.declared.declarations.CallList.{CallList}
use Rattle.script_language.specs.declared.declarations.ListedCall.{ListedCall}
use Rattle.script_language.specs.declared.declarations.ListedCall.TheVariants as listed
use Rattle.script_language.specs.declared.declarations.ListedStart.{ListedStart}

-- the lists that calls fork, in order; calls after an exit are not made
abbrev pub forked_by : List ListedCall → List ℕ
forked_by [] = []
forked_by (listed.One (call.Exit status) ∷ calls) = []
forked_by (listed.One (call.Fork k) ∷ calls) = k ∷ forked_by calls
forked_by (c ∷ calls) = forked_by calls

abbrev pub or_none : Option (List ListedCall) → List ListedCall
or_none None = []
or_none (Some calls) = calls

-- the calls of list k, none if there is no such list
abbrev pub calls_in : List CallList → ℕ → List ListedCall
calls_in lists k = or_none (calls_of lists k)

abbrev pub IsIn : ℕ → List ℕ → Type 0
IsIn k [] = ⊥
IsIn k (x ∷ xs) = (x ≡ k) ⊎ IsIn k xs

-- a process that makes the calls of list j may fork one that makes those of list k
abbrev pub Forks : List CallList → ℕ → ℕ → Type 0
Forks lists j k = IsIn k (forked_by (calls_in lists j))

-- list j forks k, or forks a list that does, and so on; or is k
pub data Reaches (lists : List CallList) (j : ℕ) : ℕ → Type 0 where
  here : Reaches lists j j
  further : (k l : ℕ) → Reaches lists j k → Forks lists k l → Reaches lists j l

-- each chain of forks from list k on has an end
pub data Ends (lists : List CallList) : ℕ → Type 0 where
  ends : (k : ℕ) → ((l : ℕ) → Forks lists k l → Ends lists l) → Ends lists k

-- each list forks the next
abbrev pub IsChain : List CallList → List ℕ → Type 0
IsChain lists [] = Unit {0}
IsChain lists (j ∷ []) = Unit {0}
IsChain lists (j ∷ k ∷ path) = Forks lists j k × IsChain lists (k ∷ path)

-- each list of the cycle forks the next, and the last forks the first, which the list `begun` reaches
pub record IsForkCycle (lists : List CallList) (begun : ℕ) (cycle : List ℕ) : Type 0 where
  pub first : ℕ
  pub begins : take 1 cycle ≡ first ∷ []
  pub round : IsChain lists (cycle ++ first ∷ [])
  pub reached : Reaches lists begun first

-- such a cycle which a start reaches
abbrev pub IsCycleFrom : List CallList → List ListedStart → List ℕ → Type 0
IsCycleFrom lists starts cycle = (s : ListedStart) × Contains starts s × IsForkCycle lists s.list cycle
