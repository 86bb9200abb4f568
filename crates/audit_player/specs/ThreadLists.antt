-- Predicates: the lists of calls and the starts of a run on threads are those that a file for threads declares
-- (`AreListsOf`, `AreStartsOf`; one call: `IsCallOf`, one start: `IsStartOf`); list numbers are below 64 (`AreFew`).
use Rattle.std.specs.Prelude.{◌≡◌, ℕ, ◌<◌, List, [], ◌∷◌, All, Option, None, Some}
use Rattle.hart_calls.specs.Replay.{list_at}
use Rattle.process_model.specs.Images.{image_loads}
use Rattle.script_language.specs.Text.{image_at}
use Rattle.script_language.specs.ThreadScript.{calls_of}
use Rattle.process_model.specs.declared.call.Call.{Call}
use Rattle.process_model.specs.declared.call.Call.TheVariants as call
use Rattle.script_language.specs.declared.declarations.CallList.{CallList}
use Rattle.script_language.specs.declared.declarations.ListedCall.{ListedCall}
use Rattle.script_language.specs.declared.declarations.ListedCall.TheVariants as listed
use Rattle.script_language.specs.declared.declarations.ListedStart.{ListedStart}
use Rattle.process_model.specs.declared.call.Start.{Start}
use Rattle.script_language.specs.declared.declarations.OwnedImage.{OwnedImage}
use Rattle.sv39_entry.specs.declared.scheme.Scheme.{Scheme}
use Rattle.script_language.specs.declared.limits.TheConstants.{MOST_LISTS}

-- each list has a number below `MOST_LISTS`
abbrev pub AreFew : List CallList → Type 0
AreFew lists = All (λ (l : CallList). l.number < MOST_LISTS) lists

-- d is the call that a line declares; its image loads, under each scheme, as the one that the line names,
-- and its bytes are the line's
abbrev pub IsCallOf : List OwnedImage → ListedCall → Call → Type 0
IsCallOf images (listed.One c) d = d ≡ c
IsCallOf images (listed.Exec n) (call.Exec image) = (scheme : Scheme) → image_loads scheme image ≡ image_loads scheme (image_at images n)
IsCallOf images (listed.CopyOut address bytes) (call.CopyOut a b) = (a ≡ address) × (b.now ≡ bytes)
IsCallOf images line c = ⊥

abbrev pub AreCallsOf : List OwnedImage → List ListedCall → List Call → Type 0
AreCallsOf images [] [] = Unit {0}
AreCallsOf images (l ∷ ls) (c ∷ cs) = IsCallOf images l c × AreCallsOf images ls cs
AreCallsOf images ls cs = ⊥

-- the lines of a list (`calls_of`); none if there is no such list
abbrev pub or_no_lines : Option (List ListedCall) → List ListedCall
or_no_lines None = []
or_no_lines (Some lines) = lines

abbrev pub lines_of : List CallList → ℕ → List ListedCall
lines_of lists k = or_no_lines (calls_of lists k)

-- list k of a run has the calls that the file's list k declares, for each number k that a list may have
abbrev pub AreListsOf : List OwnedImage → List CallList → List (List Call) → Type 0
AreListsOf images declared lists = (k : ℕ) → k < MOST_LISTS → AreCallsOf images (lines_of declared k) (list_at lists k)

-- s is the start that a line declares: its list is that of the line, and its image loads, under each scheme, as
-- the one that the line names
abbrev pub IsStartOf : List OwnedImage → ListedStart → Start → Type 0
IsStartOf images d s = (s.list ≡ d.list) × ((scheme : Scheme) → image_loads scheme s.image ≡ image_loads scheme (image_at images d.image))

abbrev pub AreStartsOf : List OwnedImage → List ListedStart → List Start → Type 0
AreStartsOf images [] [] = Unit {0}
AreStartsOf images (d ∷ ds) (s ∷ ss) = IsStartOf images d s × AreStartsOf images ds ss
AreStartsOf images ds ss = ⊥
