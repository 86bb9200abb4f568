-- Worked examples of the definitions, which the checker computes, and the law that a list from which each chain of forks ends is on
-- no cycle of forks.
use Rattle.std.proofs.Common.{◌≡◌, ℕ, List, [], ◌∷◌, ◌++◌, inl, refl}
use Rattle.std.specs.Prelude.{pos}
use Rattle.process_model.specs.declared.call.Call.TheVariants as call
use Rattle.script_language.specs.declared.declarations.CallList.{CallList}
use Rattle.script_language.specs.declared.declarations.ListedCall.{ListedCall}
use Rattle.script_language.specs.declared.declarations.ListedCall.TheVariants as listed
use Rattle.fork_cycles.specs.Forks.{calls_in, Ends, forked_by, IsChain, IsForkCycle}
use Rattle.fork_cycles.specs.Forks.Ends.{ends}
use Rattle.fork_cycles.specs.Forks.Reaches.{here}
use Rattle.fork_cycles.proofs.Paths.{chain_push}

abbrev fork_of : ℕ → ListedCall
fork_of k = listed.One (call.Fork k)

abbrev exit_of : ListedCall
exit_of = listed.One (call.Exit (pos 0))

abbrev list_of : ℕ → List ListedCall → CallList
list_of k calls = record { number = k; calls = calls }

pub calls_after_an_exit : forked_by (fork_of 3 ∷ exit_of ∷ fork_of 4 ∷ []) ≡ 3 ∷ []
calls_after_an_exit = refl

pub no_such_list : calls_in (list_of 1 (fork_of 1 ∷ []) ∷ []) 2 ≡ []
no_such_list = refl

pub itself : IsForkCycle (list_of 0 (fork_of 0 ∷ []) ∷ []) 0 (0 ∷ [])
itself = record { first = 0; begins = refl; round = (inl refl, tt); reached = here }

pub on_no_cycle : (lists : List CallList) (k : ℕ) → Ends lists k → (path : List ℕ) → IsChain lists (k ∷ (path ++ k ∷ [])) → ⊥
on_no_cycle lists _ (ends k f) [] chain = on_no_cycle lists k (f k chain.0) [] chain
on_no_cycle lists _ (ends k f) (l ∷ path) chain = on_no_cycle lists l (f l chain.0) (path ++ k ∷ []) (chain_push lists (l ∷ path) k l chain.1 chain.0)
