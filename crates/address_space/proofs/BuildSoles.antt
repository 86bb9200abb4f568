-- Lemma `soles_stay`: when a page is added, the seat stays the sole holder of each frame of which it was.
use Rattle.std.proofs.Common.{ℕ, inl, inr}
use Rattle.std.proofs.lemmas.Bool.{cases_Bool, cases_eq}
use Rattle.frame_store.specs.View.{View, hold_of, IsSole}
use Rattle.table_walk.specs.Tables.{ChangesTables, HasTables, Tables, with_leaf}
use Rattle.address_space.proofs.AddingFrames.{Comes}
use Rattle.address_space.proofs.Owned.{same_sole}
use Rattle.sv39_entry.specs.declared.scheme.Scheme.{Scheme}

-- a frame of which the seat is the sole holder is no new table, and it is not shared by a change of tables
pub soles_stay : {z : Scheme} (v r w : View) (f root n k x : ℕ) (t u : Tables) → Comes v r f → HasTables z w root (with_leaf u k x) → ChangesTables r w t u n
    → (g : ℕ) → IsSole v g → IsSole w g
soles_stay v r w f root n k x t u come tables changes g sole =
    let ready : IsSole r g = elim (cases_eq g f) [
      | inl same ↦ rw same come.sole
      | inr apart ↦ same_sole v r g (come.others g apart) sole
    ] in
    elim (cases_Bool (hold_of w g).sole) [
      | inl is ↦ is
      | inr none ↦ same_sole r w g (changes.apart g (λ j table. let own : IsSole w g = (tables.own j g table).1 in let both = rw none at own in cc)) ready
    ]
