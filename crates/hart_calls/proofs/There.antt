-- Lemmas: the list that a fork names exists (`fork_boxed`); after a list's last call comes exit 0 (`behind_last`); a process
-- has a mapping if and only if its list of mappings is not empty (`has_mapping_is`); CopyIn has the box for its reply
-- (`no_room`).
use Rattle.std.proofs.Common.{◌≡◌, ◌↔◌, ◌==◌, ◌∷◌, [], arith, Bool, map, not, pos, true, ℕ, ◌<◌, All, get_or, length, List, None, Option, Some, refl, ap, sym, subst, ◌∙◌, slice_get}
use Rattle.std.proofs.lemmas.Option.{same_Some, slice_get-get_or, slice_get_within}
use Rattle.hart_calls.specs.Replay.{call_at, list_at, or_exit, or_none}
use Rattle.std.proofs.lemmas.Bool.{ne_eqb}
use Rattle.hart_calls.specs.Track.{NameLists, NamesList}
use Rattle.std.specs.Prelude.{IsSome}
use Rattle.hart_calls.specs.TurnCases.{HasMapping}
use Rattle.process_model.specs.Regions.{Region}
use Rattle.process_model.specs.declared.call.Call.{Call}
use Rattle.process_model.specs.declared.call.Call.TheVariants as call

all_at : {A : Type 0} (P : A → Type 0) (xs : List A) (k : ℕ) (x : A) → All P xs → slice_get xs k ≡ Some x → P x
all_at P xs k x all at =
    let less = slice_get_within xs k x at in
    subst P (same_Some (get_or xs k x) x (sym (slice_get-get_or xs k x less) ∙ at)) (all k x less)

no_fork : (o : Option Call) (k : ℕ) → o ≡ None → or_exit o ≡ call.Fork k → ⊥
no_fork None k none is = cc
no_fork (Some c) k none is = absurd (cc)

in_list : (n : ℕ) (calls : List Call) (k j : ℕ) → All (NamesList n) calls → call_at calls k ≡ call.Fork j → j < n
in_list n calls k j all is = go (slice_get calls k) refl
  where
    go : (o : Option Call) → slice_get calls k ≡ o → j < n
    go None at = absurd (no_fork (slice_get calls k) j at is)
    go (Some c) at = subst (NamesList n) (sym (ap or_exit at) ∙ is) (all_at (NamesList n) calls k c all at)

pub fork_boxed : (lists : List (List Call)) (list k j : ℕ) → NameLists lists → call_at (list_at lists list) k ≡ call.Fork j → j < length lists
fork_boxed lists list k j all is = go (slice_get lists list) refl
  where
    go : (o : Option (List Call)) → slice_get lists list ≡ o → j < length lists
    go None at = absurd (no_fork (slice_get (list_at lists list) k) j (ap (λ (z : Option (List Call)). slice_get (or_none z) k) at) is)
    go (Some calls) at = in_list (length lists) calls k j (all_at (λ calls. All (NamesList (length lists)) calls) lists list calls all at) (sym (ap (λ (z : Option (List Call)). call_at (or_none z) k) at) ∙ is)

-- behind the last call there is exit 0
pub behind_last : (calls : List Call) (k : ℕ) → slice_get calls k ≡ None → call.Exit (pos 0) ≡ call_at calls k
behind_last calls k none = sym (ap or_exit none)

-- a list of regions is not empty where it has a mapping
pub has_mapping_is : {A : Type 0} (f : A → Region) (rs : List A) (ms : List Region) (b : Bool) → b ≡ (length rs == 0) → map f rs ≡ ms → (not b ≡ true) ↔ HasMapping ms
has_mapping_is f [] ms b is same = subst (λ (zs : List Region). (not b ≡ true) ↔ HasMapping zs) same ((λ e. absurd (let empty : b ≡ true = is in cc)), (λ h. absurd h))
has_mapping_is f (r ∷ rs) ms b is same = subst (λ (zs : List Region). (not b ≡ true) ↔ HasMapping zs) same ((λ e. tt), (λ h. ap not (is ∙ ne_eqb (length (r ∷ rs)) 0 (λ e. omega (arith, e)))))

-- a copy from the process has its room
pub no_room : {A : Type 0} (o : Option A) → o ≡ None → IsSome o → ⊥
no_room None none some = cc
no_room (Some x) none some = absurd (cc)
