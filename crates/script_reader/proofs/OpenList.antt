-- Lemmas: the open list of a file for threads, to which calls are added, is its last one; and a call pushed there is added
-- as the model adds it (`with_call`).
use Rattle.std.proofs.Common.{◌≡◌, ℕ, zero, suc, ◌+◌, ◌-◌, List, [], ◌∷◌, ◌++◌, length, Some, None, Result, Ok, Err, get_or, set, sym, ap, ◌∙◌, arith}
use Rattle.std.specs.Prelude.{slice_get, OnOk}
use Rattle.script_language.specs.ThreadScript.{open_calls, with_call}
use Rattle.script_language.specs.declared.declarations.CallList.{CallList}
use Rattle.script_language.specs.declared.declarations.ListedCall.{ListedCall}

same_list : (x y : CallList) → Some x ≡ Some y → x ≡ y
same_list x y e = cc

none_list : (y : CallList) → None ≡ Some y → ⊥
none_list y e = cc

open_at : (ls : List CallList) (n : ℕ) (l : CallList) → length ls ≡ n + 1 → slice_get ls n ≡ Some l → open_calls ls ≡ length l.calls
open_at [] n l e is = absurd (omega (arith, e))
open_at (x ∷ []) zero l e is = ap (λ (y : CallList). length y.calls) (same_list x l is)
open_at (x ∷ []) (suc n) l e is = absurd (omega (arith, e))
open_at (x ∷ y ∷ ls) zero l e is = absurd (omega (arith, e))
open_at (x ∷ y ∷ ls) (suc n) l e is = open_at (y ∷ ls) n l (omega (arith, e)) is

open_end : (ls : List CallList) (l : CallList) → slice_get ls (length ls - 1) ≡ Some l → open_calls ls ≡ length l.calls
open_end [] l is = absurd (none_list l is)
open_end (x ∷ ls) l is = open_at (x ∷ ls) (length (x ∷ ls) - 1) l (omega arith) is

pub open_last : (ls all : List CallList) (l : CallList) → ls ≡ all → Some l ≡ slice_get ls (length ls - 1) → length l.calls ≡ open_calls all
open_last ls all l same is = sym (ap open_calls (sym same) ∙ open_end ls l (sym is))

set_at : (ls : List CallList) (n : ℕ) (l m : CallList) (c : ListedCall) → length ls ≡ n + 1 → l ≡ get_or ls n l → record l { calls = l.calls ++ c ∷ [] } ≡ m → set ls n m ≡ with_call ls c
set_at [] n l m c e is same = absurd (omega (arith, e))
set_at (x ∷ []) zero l m c e is same = ap (λ (y : CallList). y ∷ []) (sym same) ∙ ap (λ (y : CallList). record y { calls = y.calls ++ c ∷ [] } ∷ []) is
set_at (x ∷ []) (suc n) l m c e is same = absurd (omega (arith, e))
set_at (x ∷ y ∷ ls) zero l m c e is same = absurd (omega (arith, e))
set_at (x ∷ y ∷ ls) (suc n) l m c e is same = ap (λ (ys : List CallList). x ∷ ys) (set_at (y ∷ ls) n l m c (omega (arith, e)) is same)

-- where the open list took a call
pub pushed : {E : Type 0} (r : Result (Unit {0}) E) (ls : List CallList) (n : ℕ) (l : CallList) (calls : List ListedCall) (c : ListedCall) → length ls ≡ n + 1 → l ≡ get_or ls n l → OnOk r (calls ≡ l.calls ++ c ∷ [])
    → OnOk r (set ls n (record { number = l.number; calls = calls }) ≡ with_call ls c)
pushed (Err e) ls n l calls c long is added = tt
pushed (Ok u) ls n l calls c long is added = set_at ls n l (record { number = l.number; calls = calls }) c long is (ap (λ (cs : List ListedCall). record l { calls = cs }) (sym added))
