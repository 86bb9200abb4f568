-- Tests that fields are read as numbers and bytes (equations), that a faulty line is refused with the first cause that
-- applies (`IsRefused`), and in which order steps are refused; status limits and segment flags (`Plays`, lines with
-- answers).
use Prim.Native.String.{String}
use Rattle.std.proofs.Common.{◌≡◌, refl, [], ◌∷◌}
use Rattle.std.specs.Prelude.{List, None, Some, negsuc, pos, codes, replicate}
use Rattle.script_language.specs.Numbers.{number_of, signed_of, hex_of}
use Rattle.script_language.specs.declared.script.Cause.TheVariants as cause
use Rattle.script_laws.proofs.Playing.{IsRefused, Line, Plays, silent, ◌⇒◌}

-- numbers and bytes

hexadecimal_number : number_of (codes "0xfF") ≡ Some 255
hexadecimal_number = refl

no_digit : number_of (codes "0x") ≡ None
no_digit = refl

largest_number : number_of (codes "18446744073709551615") ≡ Some 18446744073709551615
largest_number = refl

least_signed : signed_of (codes "-0x8000000000000000") ≡ Some (negsuc 9223372036854775807)
least_signed = refl

too_small : signed_of (codes "-9223372036854775809") ≡ None
too_small = refl

too_large : signed_of (codes "9223372036854775808") ≡ None
too_large = refl

signed_zero : signed_of (codes "-0") ≡ Some (pos 0)
signed_zero = refl

odd_digits : hex_of (codes "123") ≡ None
odd_digits = refl

-- faulty lines, with the number of the line and the cause

abbrev booted_then : String → List Line
booted_then line = silent "boot 1 64 4 full" ∷ silent line ∷ []

width_is_no_number : IsRefused (booted_then "load 0 0 @1") 2 cause.Number
width_is_no_number = unfold IsRefused in refl

entry_without_at : IsRefused (booted_then "load 0 0 1 1") 2 cause.Field
entry_without_at = unfold IsRefused in refl

entry_without_digits : IsRefused (booted_then "load 0 0 1 @") 2 cause.Field
entry_without_digits = unfold IsRefused in refl

entry_twice : IsRefused (booted_then "load 0 0 1 @1 @2") 2 cause.Count
entry_twice = unfold IsRefused in refl

entry_of_a_switch : IsRefused (booted_then "switch 0 0 @1") 2 cause.Count
entry_of_a_switch = unfold IsRefused in refl

slot_is_no_number : IsRefused (booted_then "switch 0 x") 2 cause.Number
slot_is_no_number = unfold IsRefused in refl

-- a fault of a number comes before one of another form
number_after_form : IsRefused (silent "file x xx 00" ∷ []) 1 cause.Number
number_after_form = unfold IsRefused in refl

number_behind_form : IsRefused (booted_then "copyout x 0 123") 2 cause.Number
number_behind_form = unfold IsRefused in refl

form_before_limits : IsRefused (booted_then "store 0 0 3 1 x") 2 cause.Field
form_before_limits = unfold IsRefused in refl

width_of_three : IsRefused (booted_then "load 0 0 3") 2 cause.Limits
width_of_three = unfold IsRefused in refl

letter_twice : IsRefused (silent "image 0:1:rr:-" ∷ []) 1 cause.Field
letter_twice = unfold IsRefused in refl

another_letter : IsRefused (silent "image 0:1:ra:-" ∷ []) 1 cause.Field
another_letter = unfold IsRefused in refl

no_letters : IsRefused (silent "image 0:1::-" ∷ []) 1 cause.Field
no_letters = unfold IsRefused in refl

no_hex : IsRefused (silent "image 0:1:r:" ∷ []) 1 cause.Field
no_hex = unfold IsRefused in refl

five_pieces : IsRefused (silent "image 0:1:r:-:-" ∷ []) 1 cause.Field
five_pieces = unfold IsRefused in refl

second_segment_is_read : IsRefused (silent "image 0:1:r:- 0:1:q:-" ∷ []) 1 cause.Field
second_segment_is_read = unfold IsRefused in refl

image_without_segments : IsRefused (silent "image" ∷ []) 1 cause.Count
image_without_segments = unfold IsRefused in refl

odd_elf : IsRefused (silent "elf 123" ∷ []) 1 cause.Field
odd_elf = unfold IsRefused in refl

mode_of_a_file : IsRefused (silent "file 1 wr -" ∷ []) 1 cause.Field
mode_of_a_file = unfold IsRefused in refl

file_too_long : IsRefused (silent "file 65537 rw -" ∷ []) 1 cause.Limits
file_too_long = unfold IsRefused in refl

more_bytes_than_the_file_has : IsRefused (silent "file 2 rw 616263" ∷ []) 1 cause.Limits
more_bytes_than_the_file_has = unfold IsRefused in refl

seventeenth_file : IsRefused (replicate 17 (silent "file 0 ro -")) 17 cause.TooMany
seventeenth_file = unfold IsRefused in refl

sixty_fifth_image : IsRefused (replicate 65 (silent "elf -")) 65 cause.TooMany
sixty_fifth_image = unfold IsRefused in refl

undeclared_image : IsRefused (booted_then "start 0") 2 cause.Limits
undeclared_image = unfold IsRefused in refl

undeclared_image_of_exec : IsRefused (silent "elf -" ∷ booted_then "exec 0 1") 3 cause.Limits
undeclared_image_of_exec = unfold IsRefused in refl

undeclared_file : IsRefused (booted_then "show 0 0 1") 2 cause.Limits
undeclared_file = unfold IsRefused in refl

show_of_too_much : IsRefused (silent "file 0 ro -" ∷ booted_then "show 0 0 257") 3 cause.Limits
show_of_too_much = unfold IsRefused in refl

copy_of_too_much : IsRefused (booted_then "copyin 0 0 257") 2 cause.Limits
copy_of_too_much = unfold IsRefused in refl

status_too_large : IsRefused (booted_then "exit 0 0x80000000") 2 cause.Limits
status_too_large = unfold IsRefused in refl

status_too_small : IsRefused (booted_then "exit 0 -2147483649") 2 cause.Limits
status_too_small = unfold IsRefused in refl

unknown_word : IsRefused (booted_then "Load 0 0 1") 2 cause.Word
unknown_word = unfold IsRefused in refl

word_before_order : IsRefused (silent "pool 64 4" ∷ []) 1 cause.Word
word_before_order = unfold IsRefused in refl

step_before_boot : IsRefused (silent "audit" ∷ []) 1 cause.Order
step_before_boot = unfold IsRefused in refl

declaration_after_boot : IsRefused (booted_then "file x") 2 cause.Order
declaration_after_boot = unfold IsRefused in refl

order_before_count : IsRefused (silent "audit 1 2" ∷ []) 1 cause.Order
order_before_count = unfold IsRefused in refl

audit_with_a_field : IsRefused (booted_then "audit 1") 2 cause.Count
audit_with_a_field = unfold IsRefused in refl

no_boot_at_all : IsRefused (silent "file 0 ro -" ∷ silent "# nothing more" ∷ []) 3 cause.Order
no_boot_at_all = unfold IsRefused in refl

nine_harts : IsRefused (silent "boot 9 64 4 full" ∷ []) 1 cause.Limits
nine_harts = unfold IsRefused in refl

no_hart : IsRefused (silent "boot 0 64 4 full" ∷ []) 1 cause.Limits
no_hart = unfold IsRefused in refl

fifteen_frames : IsRefused (silent "boot 1 15 4 full" ∷ []) 1 cause.Limits
fifteen_frames = unfold IsRefused in refl

too_many_frames : IsRefused (silent "boot 1 1025 4 full" ∷ []) 1 cause.Limits
too_many_frames = unfold IsRefused in refl

sixty_five_slots : IsRefused (silent "boot 1 1024 65 full" ∷ []) 1 cause.Limits
sixty_five_slots = unfold IsRefused in refl

no_slot : IsRefused (silent "boot 1 64 0 full" ∷ []) 1 cause.Limits
no_slot = unfold IsRefused in refl

-- an entry of the trampoline may be named
named_trampoline_entry : Plays (
    "boot 1 64 4 full" ⇒ "ok"
    ∷ "tramp 0 0 @0" ⇒ "refused 19 Impossible idle"
    ∷ "tramp 0 2" ⇒ "refused 15 BadArgument"
    ∷ "tramp 0 4096" ⇒ "refused 15 BadArgument" ∷ [])
named_trampoline_entry = unfold Plays in refl

-- a hart that is not there comes before all else
order_of_refusals : Plays (
    "boot 1 64 4 full" ⇒ "ok"
    ∷ "next 1" ⇒ "refused 15 BadArgument"
    ∷ "next 0" ⇒ "refused 19 Impossible idle"
    ∷ "evict 0 0" ⇒ "refused 20 NoEntry"
    ∷ "switch 0 9" ⇒ "refused 19 Impossible idle"
    ∷ "switch 0 -" ⇒ "ok" ∷ "serve 0" ⇒ "refused 19 Impossible idle"
    ∷ "copyin 0 0 256" ⇒ "refused 19 Impossible idle" ∷ [])
order_of_refusals = unfold Plays in refl

-- the least and the greatest status
statuses : Plays (
    "boot 1 64 4 full" ⇒ "ok"
    ∷ "exit 0 -2147483648" ⇒ "refused 19 Impossible idle"
    ∷ "exit 0 2147483647" ⇒ "refused 19 Impossible idle" ∷ [])
statuses = unfold Plays in refl

-- flags in any order
flags_in_any_order : Plays (
    silent "image 0x0:0x1000:xwr:-"
    ∷ "boot 1 64 4 full" ⇒ "ok"
    ∷ "start 0" ⇒ "slot 0" ∷ [])
flags_in_any_order = unfold Plays in refl

no_flags : Plays (
    silent "image 0x0:0x1000:-:-"
    ∷ "boot 1 64 4 full" ⇒ "ok"
    ∷ "start 0" ⇒ "slot 0" ∷ [])
no_flags = unfold Plays in refl
