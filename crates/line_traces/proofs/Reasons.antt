-- Lemmas: the flags C and D of a leaf as bits (`is_cow`, `is_dirty`), and that a leaf that the kernel writes by rights that grant an access
-- permits it exactly if `lets` says so (`lets_granted`).
use Rattle.std.proofs.Common.{◌≡◌, refl, ℕ, Bool, true, false, not, ◌&&◌}
use Rattle.sv39_entry.specs.Address.{has}
use Rattle.sv39_entry.specs.Flags.{has_flag_is}
use Rattle.sv39_entry.specs.Word.{access_allowed, has_flag}
use Rattle.sv39_entry.specs.declared.access.Access.{Access}
use Rattle.sv39_entry.specs.declared.access.Access.TheVariants.{Fetch, Load, Store}
use Rattle.line_traces.specs.Reasons.{IsGrantedLeaf, lets}

pub is_cow : (word : ℕ) → has_flag word 256 ≡ has word 8
is_cow word = has_flag_is word 8

pub is_dirty : (word : ℕ) → has_flag word 128 ≡ has word 7
is_dirty word = has_flag_is word 7

stores : (cow dirty : Bool) → (not cow && (dirty && true)) ≡ (((true && not cow) && true) && (dirty && true))
stores true true = refl
stores true false = refl
stores false true = refl
stores false false = refl

store_is : (w a d c writes cow dirty : Bool) → w ≡ (writes && not cow) → a ≡ true → d ≡ (dirty && writes) → c ≡ cow → writes ≡ true
    → (not c && d) ≡ ((w && a) && d)
store_is w a d c writes cow dirty w_is a_is d_is c_is granted = rw (w_is, a_is, d_is, c_is, granted) (stores cow dirty)

right_is : (r a rights : Bool) → r ≡ rights → a ≡ true → rights ≡ true → true ≡ (r && a)
right_is r a rights r_is a_is granted = rw (r_is, a_is, granted) refl

pub lets_granted : (access : Access) (word : ℕ) → IsGrantedLeaf access word → lets access word ≡ access_allowed access word
lets_granted Fetch word is = right_is (has word 3) (has word 6) _ is.leaf.execute is.leaf.accessed is.granted
lets_granted Load word is = right_is (has word 1) (has word 6) _ is.leaf.read is.leaf.accessed is.granted
lets_granted Store word is =
    store_is (has word 2) (has word 6) (has word 7) (has word 8) _ is.is_cow is.dirty is.leaf.write is.leaf.accessed is.leaf.modified is.leaf.cow is.granted
