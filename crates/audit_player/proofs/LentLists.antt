-- Lemmas: the lists of calls and the starts that are borrowed from a file for threads are those that it declares, and forks
-- and starts in them name lists below 64; list by list and line by line.
use Rattle.std.proofs.Common.{◌≡◌, ◌⊎◌, inl, inr, ℕ, zero, suc, ◌+◌, ◌<◌, ◌==◌, Bool, true, false, List, [], ◌∷◌, ◌++◌, Option, None, Some, length, get_or, take, refl, sym, ap, subst, ◌∙◌, arith}
use Rattle.std.specs.Prelude.{All, ◌||◌}
use Rattle.std.specs.List.{list_any}
use Rattle.std.proofs.lemmas.Bool.Decides.{eqb_tells}
use Rattle.std.proofs.lemmas.List.{take_more}
use Rattle.std.proofs.lemmas.List.Elements.{All-get_or, All-head, All-tail, All-weaker}
use Rattle.hart_calls.specs.Track.{NamesList}
use Rattle.script_language.specs.ThreadScript.{calls_of}
use Rattle.process_model.specs.declared.call.Call.{Call}
use Rattle.process_model.specs.declared.call.Call.TheVariants as call
use Rattle.script_language.specs.declared.declarations.CallList.{CallList}
use Rattle.script_language.specs.declared.declarations.ListedCall.{ListedCall}
use Rattle.script_language.specs.declared.declarations.ListedCall.TheVariants as listed
use Rattle.script_language.specs.declared.declarations.ListedStart.{ListedStart}
use Rattle.script_language.specs.declared.declarations.OwnedImage.{OwnedImage}
use Rattle.script_reader.specs.ThreadsPlayable.{HasList, IsDeclaredCall, IsDeclaredLine, IsList, IsStart}
use Rattle.hart_calls.specs.Replay.{list_at}
use Rattle.process_model.specs.Images.{image_loads}
use Rattle.script_language.specs.Text.{image_at, lent}
use Rattle.process_model.specs.declared.call.Start.{Start}
use Rattle.process_model.specs.declared.image.Image.{Image}
use Rattle.audit_player.proofs.Lending.{named}
use Rattle.audit_player.specs.ThreadLists.{AreCallsOf, AreFew, AreStartsOf, IsCallOf, IsStartOf, lines_of}
use Rattle.sv39_entry.specs.declared.scheme.Scheme.{Scheme}
use Rattle.script_language.specs.declared.limits.TheConstants.{MOST_LISTS}

-- a list that is there has a number that a list may have
pub has_below : (lists : List CallList) (k : ℕ) → AreFew lists → HasList lists k → k < MOST_LISTS
has_below [] k few h = absurd (let no : false ≡ true = h in cc)
has_below (l ∷ ls) k few h = elim (eqb_tells l.number k) as (λ _. k < MOST_LISTS) [
  | inl t ↦ subst (λ (n : ℕ). n < MOST_LISTS) t.1 (All-head (λ (m : CallList). m.number < MOST_LISTS) l ls few)
  | inr t ↦ has_below ls k (All-tail (λ (m : CallList). m.number < MOST_LISTS) l ls few) (sym (ap (λ (b : Bool). b || list_any (λ (m : CallList). m.number == k) ls) t.0) ∙ h)
]

call_there : (lists : List CallList) (c : Call) → AreFew lists → IsDeclaredCall lists c → NamesList MOST_LISTS c
call_there lists (call.Fork k) few h = has_below lists k few h
call_there lists (call.Fetch address) few h = tt
call_there lists (call.Load address width) few h = tt
call_there lists (call.Store address width value) few h = tt
call_there lists (call.Exec image) few h = tt
call_there lists (call.Sbrk delta) few h = tt
call_there lists (call.Mmap length protection flags file) few h = tt
call_there lists (call.Munmap address length) few h = tt
call_there lists (call.CopyIn address count) few h = tt
call_there lists (call.CopyOut address bytes) few h = tt
call_there lists (call.Exit status) few h = tt

-- a call that borrows nothing
pub one_there : (images : List OwnedImage) (line : ListedCall) (c : Call) → line ≡ listed.One c → (lists : List CallList) × IsDeclaredLine images lists line × AreFew lists → NamesList MOST_LISTS c
one_there images line c is (lists, declared, few) = call_there lists c few (subst (IsDeclaredLine images lists) is declared)

abbrev or_no_calls : Option (List ListedCall) → List ListedCall
or_no_calls None = []
or_no_calls (Some calls) = calls

-- the calls of a number are those of a list
pub calls_declared : (images : List OwnedImage) (lists all : List CallList) (k : ℕ) (calls : List ListedCall) → All (IsList images lists) all → calls_of all k ≡ Some calls → All (IsDeclaredLine images lists) calls
calls_declared images lists [] k calls each is = absurd (let no : None ≡ Some calls = is in cc)
calls_declared images lists (l ∷ ls) k calls each is = elim (eqb_tells l.number k) as (λ _. All (IsDeclaredLine images lists) calls) [
  | inl t ↦ subst (All (IsDeclaredLine images lists)) (ap or_no_calls (rw t.0 at is)) (All-head (IsList images lists) l ls each).calls
  | inr t ↦ calls_declared images lists ls k calls (All-tail (IsList images lists) l ls each) (rw t.0 at is)
]

-- the numbers of lists that are there are those that a list may have
pub few_lists : (images : List OwnedImage) (lists all : List CallList) → All (IsList images lists) all → AreFew all
few_lists images lists all each = All-weaker (IsList images lists) (λ (l : CallList). l.number < MOST_LISTS) (λ l is. is.number) all each

-- a start begins a list that there may be
pub start_below : (images : List OwnedImage) (lists : List CallList) (starts : List ListedStart) (i : ℕ) (d : ListedStart) → All (IsList images lists) lists → All (IsStart images lists) starts → i < length starts → (get_or starts i d).list < MOST_LISTS
start_below images lists starts i d each all lt = has_below lists (get_or starts i d).list (few_lists images lists lists each) (All-get_or (IsStart images lists) starts i d lt all).1

-- what is lent is what the lines declare

pub one_of : (images : List OwnedImage) (line : ListedCall) (c : Call) → line ≡ listed.One c → IsCallOf images line c
one_of images line c is = subst (λ (l : ListedCall). IsCallOf images l c) (sym is) refl

pub lent_of : (images : List OwnedImage) (n : ℕ) (o : OwnedImage) (i : Image) → n < length images → o ≡ get_or images n o → ((scheme : Scheme) → image_loads scheme i ≡ image_loads scheme (lent o)) → (scheme : Scheme) → image_loads scheme i ≡ image_loads scheme (image_at images n)
lent_of images n o i lt is loads scheme = loads scheme ∙ ap (image_loads scheme) (named images n o lt is)

calls_push : (images : List OwnedImage) (ls : List ListedCall) (cs : List Call) (l : ListedCall) (c : Call) → AreCallsOf images ls cs → IsCallOf images l c → AreCallsOf images (ls ++ l ∷ []) (cs ++ c ∷ [])
calls_push images [] [] l c are is = (is, tt)
calls_push images [] (d ∷ ds) l c are is = absurd are
calls_push images (k ∷ ks) [] l c are is = absurd are
calls_push images (k ∷ ks) (d ∷ ds) l c are is = (are.0, calls_push images ks ds l c are.1 is)

-- the lines so far
pub calls_more : (images : List OwnedImage) (ls : List ListedCall) (i : ℕ) (d : ListedCall) (cs ds : List Call) (c : Call) → i < length ls → ds ≡ cs ++ c ∷ [] → AreCallsOf images (take i ls) cs → IsCallOf images (get_or ls i d) c → AreCallsOf images (take (i + 1) ls) ds
calls_more images ls i d cs ds c lt put are is = subst (AreCallsOf images (take (i + 1) ls)) (sym put) (subst (λ (xs : List ListedCall). AreCallsOf images xs (cs ++ c ∷ [])) (sym (take_more ls i d lt)) (calls_push images (take i ls) cs (get_or ls i d) c are is))

starts_push : (images : List OwnedImage) (ls : List ListedStart) (cs : List Start) (l : ListedStart) (c : Start) → AreStartsOf images ls cs → IsStartOf images l c → AreStartsOf images (ls ++ l ∷ []) (cs ++ c ∷ [])
starts_push images [] [] l c are is = (is, tt)
starts_push images [] (d ∷ ds) l c are is = absurd are
starts_push images (k ∷ ks) [] l c are is = absurd are
starts_push images (k ∷ ks) (d ∷ ds) l c are is = (are.0, starts_push images ks ds l c are.1 is)

pub starts_more : (images : List OwnedImage) (ls : List ListedStart) (i : ℕ) (d : ListedStart) (cs ds : List Start) (c : Start) → i < length ls → ds ≡ cs ++ c ∷ [] → AreStartsOf images (take i ls) cs → IsStartOf images (get_or ls i d) c → AreStartsOf images (take (i + 1) ls) ds
starts_more images ls i d cs ds c lt put are is = subst (AreStartsOf images (take (i + 1) ls)) (sym put) (subst (λ (xs : List ListedStart). AreStartsOf images xs (cs ++ c ∷ [])) (sym (take_more ls i d lt)) (starts_push images (take i ls) cs (get_or ls i d) c are is))

-- the lists so far

abbrev pub AreBelow : List OwnedImage → List CallList → ℕ → List (List Call) → Type 0
AreBelow images declared n lists = (k : ℕ) → k < n → AreCallsOf images (lines_of declared k) (list_at lists k)

at_last : (xs : List (List Call)) (y : List Call) → list_at (xs ++ y ∷ []) (length xs) ≡ y
at_last [] y = refl
at_last (x ∷ xs) y = at_last xs y

at_before : (xs : List (List Call)) (y : List Call) (k : ℕ) → k < length xs → list_at (xs ++ y ∷ []) k ≡ list_at xs k
at_before [] y k lt = absurd (omega arith)
at_before (x ∷ xs) y zero lt = refl
at_before (x ∷ xs) y (suc k) lt = at_before xs y k (omega arith)

below : (a b : ℕ) → a < b + 1 → (a < b) ⊎ (a ≡ b)
below zero zero l = inr refl
below zero (suc b) l = inl (omega arith)
below (suc a) zero l = absurd (omega arith)
below (suc a) (suc b) l = up (below a b (omega arith))
  where
    up : (a < b) ⊎ (a ≡ b) → (suc a < suc b) ⊎ (suc a ≡ suc b)
    up (inl x) = inl (omega arith)
    up (inr x) = inr (ap suc x)
