-- What the search for a cycle of forks keeps: the marks of the lists (`IsMarked`), and the path that it is on (`IsSearch`).
use Rattle.std.specs.Prelude.{◌≡◌, ◌≢◌, ℕ, suc, ◌+◌, ◌*◌, ◌==◌, Bool, true, false, List, [], ◌∷◌, ◌++◌, Option, Some, None, get_or, length}
use Rattle.script_language.specs.declared.declarations.CallList.{CallList}
use Rattle.fork_cycles.specs.Forks.{Ends, IsChain, IsIn, Reaches}
use Rattle.fork_cycles.specs.declared.marks.Mark.{Mark}
use Rattle.fork_cycles.specs.declared.marks.Mark.TheVariants as mark

-- a number that no list can have counts as ended
abbrev pub mark_of : List Mark → ℕ → Mark
mark_of marks k = get_or marks k mark.Ended

abbrev pub unless_ended : Mark → ℕ → Option ℕ → Option ℕ
unless_ended mark.Ended k after = after
unless_ended _ k after = Some k

abbrev pub first_unended : List Mark → List ℕ → Option ℕ
first_unended marks [] = None
first_unended marks (k ∷ ks) = unless_ended (mark_of marks k) k (first_unended marks ks)

abbrev pub from_here : Bool → List ℕ → List ℕ → List ℕ
from_here true here later = here
from_here false here later = later

-- a path from list k on
abbrev pub part_from : ℕ → List ℕ → List ℕ
part_from k [] = []
part_from k (x ∷ xs) = from_here (x == k) (x ∷ xs) (part_from k xs)

abbrev pub Every : (ℕ → Type 0) → List ℕ → Type 0
Every P [] = Unit {0}
Every P (x ∷ xs) = P x × Every P xs

-- between walks: no list is on a path
pub record IsMarked (lists : List CallList) (marks : List Mark) : Type 0 where
  pub ended : (k : ℕ) → mark_of marks k ≡ mark.Ended → Ends lists k
  pub off_path : (k : ℕ) → mark_of marks k ≢ mark.OnPath

-- within the walk from the list `first`
pub record IsSearch (lists : List CallList) (first : ℕ) (marks : List Mark) (path : List ℕ) : Type 0 where
  pub chain : IsChain lists path
  pub reached : Every (Reaches lists first) path
  pub ended : (k : ℕ) → mark_of marks k ≡ mark.Ended → Ends lists k
  pub on_path : (k : ℕ) → mark_of marks k ≡ mark.OnPath → IsIn k path
  pub seen : mark_of marks first ≢ mark.New

-- the last list of the path forks this one, which is on the path
pub record Closes (lists : List CallList) (first : ℕ) (path : List ℕ) (next : ℕ) : Type 0 where
  pub chain : IsChain lists (path ++ next ∷ [])
  pub reached : Every (Reaches lists first) path
  pub on_path : IsIn next path

abbrev pub new_marks : List Mark → ℕ
new_marks [] = 0
new_marks (mark.New ∷ marks) = suc (new_marks marks)
new_marks (_ ∷ marks) = new_marks marks

-- an upper bound on the steps that are left
abbrev pub work : List Mark → List ℕ → ℕ
work marks path = 2 * new_marks marks + length path
