-- Examples of files for threads, by computation: the first fault of each of several files, and what one accepted file
-- declares.
use Rattle.std.proofs.Common.{◌≡◌, ℕ, List, [], ◌∷◌, Ok, Err, refl}
use Rattle.std.specs.Prelude.{codes, negsuc}
use Rattle.script_language.specs.ThreadScript.{item_line, line_of, thread_script_of}
use Rattle.process_model.specs.declared.call.Call.TheVariants as call
use Rattle.script_language.specs.declared.declarations.ListedCall.TheVariants as listed
use Rattle.script_language.specs.declared.declarations.OwnedImage.TheVariants as owned
use Rattle.script_language.specs.declared.script.Cause.{Cause}
use Rattle.script_language.specs.declared.script.Cause.TheVariants as cause

abbrev Refused : List ℕ → ℕ → Cause → Type 0
Refused text line c = thread_script_of text ≡ Err (line, c)

word_of_play : Refused (codes "boot 1 64 4 full\n") 1 cause.Word
unfolding item_line line_of
word_of_play = refl

step_of_play : Refused (codes "pool 64 4\naudit\n") 2 cause.Word
unfolding item_line line_of
step_of_play = refl

call_outside : Refused (codes "pool 64 4\nload 0x0 1\n") 2 cause.Order
unfolding item_line line_of
call_outside = refl

fork_undeclared : Refused (codes "pool 64 4\nlist 0\nfork 1\n") 3 cause.Limits
unfolding item_line line_of
fork_undeclared = refl

-- a fault further down does not hide that no line begins the list
fork_undeclared_first : Refused (codes "pool 64 4\nlist 0\nfork 1\nload\n") 3 cause.Limits
unfolding item_line line_of
fork_undeclared_first = refl

-- the list begins behind another fault
fork_declared_late : Refused (codes "pool 64 4\nlist 0\nfork 1\nload\nlist 1\n") 4 cause.Count
unfolding item_line line_of
fork_declared_late = refl

number_64 : Refused (codes "pool 64 4\nlist 64\n") 2 cause.Limits
unfolding item_line line_of
number_64 = refl

list_after_start : Refused (codes "elf -\npool 64 4\nlist 0\nstart 0 0\nlist 1\n") 5 cause.Order
unfolding item_line line_of
list_after_start = refl

call_after_start : Refused (codes "elf -\npool 64 4\nlist 0\nstart 0 0\nexit 0\n") 5 cause.Order
unfolding item_line line_of
call_after_start = refl

list_repeated : Refused (codes "pool 64 4\nlist 0\nlist 0\n") 3 cause.Limits
unfolding item_line line_of
list_repeated = refl

no_pool : Refused (codes "elf -\n") 2 cause.Order
unfolding item_line line_of
no_pool = refl

no_image : Refused (codes "pool 64 4\nlist 0\nstart 0 0\n") 3 cause.Limits
unfolding item_line line_of
no_image = refl

start_undeclared : Refused (codes "elf -\npool 64 4\nlist 0\nstart 0 1\n") 4 cause.Limits
unfolding item_line line_of
start_undeclared = refl

-- unlike a fork, a start names a list that a line above begins, and its fault comes before that of the line below
start_declared_late : Refused (codes "elf -\npool 64 4\nlist 0\nstart 0 1\nlist 1\n") 4 cause.Limits
unfolding item_line line_of
start_declared_late = refl

pool_too_large : Refused (codes "pool 257 4\n") 1 cause.Limits
unfolding item_line line_of
pool_too_large = refl

entry_named : Refused (codes "pool 64 4\nlist 0\nload 0 1 @0\n") 3 cause.Count
unfolding item_line line_of
entry_named = refl

-- a fork names a list further down
two_lists : thread_script_of (codes "elf -\npool 64 4\nlist 5\nfork 1\nsbrk -1\nlist 1\nstore 0x1000 8 2\nstart 0 5\n")
    ≡ Ok (record {
      files = [];
      images = owned.Elf [] ∷ [];
      pool = record { frames = 64; slots = 4 };
      lists = record { number = 5; calls = listed.One (call.Fork 1) ∷ listed.One (call.Sbrk (negsuc 0)) ∷ [] } ∷ record { number = 1; calls = listed.One (call.Store 0x1000 8 2) ∷ [] } ∷ [];
      starts = record { image = 0; list = 5 } ∷ [];
    })
unfolding item_line line_of
two_lists = refl
