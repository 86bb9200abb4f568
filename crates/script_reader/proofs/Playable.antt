-- Lemma: a script that the reader accepts can be played (`IsPlayable`): the machine can boot, files keep their limits, and
-- what a line names is declared.
use Rattle.std.proofs.Common.{◌≡◌, ℕ, ◌<◌, ◌≤◌, true, false, List, [], ◌∷◌, ◌++◌, length, Option, Some, None, Result, Ok, Err, refl, sym, subst, arith, get_or, length-append}
use Rattle.std.specs.Prelude.{IfOk, All, nat_le, ◌&&◌, if◌then◌else◌}
use Rattle.std.proofs.lemmas.List.Elements.{All-nil}
use Rattle.script_language.specs.Fields.{command_table}
use Rattle.script_language.specs.Lines.{raw_lines}
use Rattle.script_language.specs.Script.{Draft, Script, Read, with_item, in_order, item_of, has_room, has_file, item_line, line_of, read_lines, whole_with, whole, script_of, no_lines}
use Rattle.process_model.specs.declared.config.Config.{Config}
use Rattle.process_model.specs.declared.file.FileText.{FileText}
use Rattle.script_language.specs.declared.declarations.OwnedImage.{OwnedImage}
use Rattle.script_language.specs.declared.script.Cause.{Cause}
use Rattle.script_language.specs.declared.script.Cause.TheVariants as cause
use Rattle.script_language.specs.declared.script.Command.{Command}
use Rattle.script_language.specs.declared.script.Command.TheVariants as command
use Rattle.script_language.specs.declared.script.FieldValue.{FieldValue}
use Rattle.script_language.specs.declared.script.Item.{Item}
use Rattle.script_language.specs.declared.script.Item.TheVariants as item
use Rattle.script_language.specs.declared.script.Keyword.{Keyword}
use Rattle.script_language.specs.declared.script.Keyword.TheVariants as word
use Rattle.script_reader.specs.ReadResults.{GivesScript}
use Rattle.script_reader.specs.Playable.{CanBootIf, FitsFile, FitsItem, IsDeclared, IsPlayable, IsSound}
use Rattle.script_reader.specs.declared.fault.ScriptError.{ScriptError}
use Rattle.script_reader.proofs.Kept.{limited, below, at_most, all_and_one, one_file_more, HasPlace, item_has_place, IfItem, line_fits, IfRead, lines_kept}
use Rattle.script_language.specs.declared.limits.TheConstants.{LONGEST_SCRIPT}

-- more files and images keep what is said of them
still_declared : (fs gs : List FileText) (is js : List OwnedImage) (c : Command) → length fs ≤ length gs → length is ≤ length js → IsDeclared fs is c → IsDeclared gs js c
still_declared fs gs is js (command.One s) l m h = tt
still_declared fs gs is js (command.Start n) l m h = omega (arith, h)
still_declared fs gs is js (command.Exec hart n) l m h = omega (arith, h)
still_declared fs gs is js (command.CopyOut hart a bytes) l m h = h
still_declared fs gs is js (command.On hart s) l m h = tt
still_declared fs gs is js (command.Enter hart) l m h = tt
still_declared fs gs is js (command.Leave hart) l m h = tt
still_declared fs gs is js (command.Fix hart) l m h = tt
still_declared fs gs is js (command.Show n offset count) l m h = (omega (arith, h.0), h.1)
still_declared fs gs is js command.Audit l m h = tt

all_declared : (fs gs : List FileText) (is js : List OwnedImage) (cs : List Command) → length fs ≤ length gs → length is ≤ length js → All (IsDeclared fs is) cs → All (IsDeclared gs js) cs
all_declared fs gs is js cs l m h = λ k d lt. still_declared fs gs is js (get_or cs k d) l m (h k d lt)

item_kept : (d : Draft) (i : Item) → IsSound d → HasPlace (FitsItem d) (has_room d) i → IsSound (with_item d i)
item_kept d (item.File f) s fits = record {
  boots = s.boots;
  few = one_file_more d.files f fits.1;
  files = all_and_one FitsFile d.files f s.files fits.0;
  commands = all_declared d.files (d.files ++ f ∷ []) d.images d.images d.commands (omega (arith, length-append d.files (f ∷ []))) (omega arith) s.commands;
}
item_kept d (item.Image i) s fits = record {
  boots = s.boots;
  few = s.few;
  files = s.files;
  commands = all_declared d.files d.files d.images (d.images ++ i ∷ []) d.commands (omega arith) (omega (arith, length-append d.images (i ∷ []))) s.commands;
}
item_kept d (item.Boot c) s fits = record { boots = fits.0; few = s.few; files = s.files; commands = s.commands }
item_kept d (item.Command c) s fits = record { boots = s.boots; few = s.few; files = s.files; commands = all_and_one (IsDeclared d.files d.images) d.commands c s.commands fits.0 }

shown : (d : Draft) (n count most : ℕ) → (has_file d n && nat_le count most) ≡ true → (n < length d.files) × (count ≤ most)
shown d n count most e = (grind arith, grind arith)

-- an item fits the lines before it
item_fits : (d : Draft) (w : Keyword) (vs : List FieldValue) → IfOk (item_of d w vs) (FitsItem d)
item_fits d word.File vs = limited (FitsItem d) _ _ (λ e. e)
item_fits d word.Image vs = tt
item_fits d word.Elf vs = tt
item_fits d word.Boot vs = limited (FitsItem d) _ _ (λ e. e)
item_fits d word.Start vs = limited (FitsItem d) _ _ (λ e. below _ _ e)
item_fits d word.Switch vs = tt
item_fits d word.Trap vs = tt
item_fits d word.Next vs = tt
item_fits d word.Fill vs = tt
item_fits d word.Evict vs = tt
item_fits d word.Fetch vs = tt
item_fits d word.Load vs = limited (FitsItem d) _ _ (λ e. tt)
item_fits d word.Store vs = limited (FitsItem d) _ _ (λ e. tt)
item_fits d word.Tramp vs = tt
item_fits d word.Serve vs = tt
item_fits d word.Fork vs = tt
item_fits d word.Exec vs = limited (FitsItem d) _ _ (λ e. below _ _ e)
item_fits d word.Sbrk vs = tt
item_fits d word.Mmap vs = tt
item_fits d word.Munmap vs = tt
item_fits d word.CopyIn vs = limited (FitsItem d) _ _ (λ e. tt)
item_fits d word.CopyOut vs = limited (FitsItem d) _ _ (λ e. at_most _ _ e)
item_fits d word.Exit vs = limited (FitsItem d) _ _ (λ e. tt)
item_fits d word.Show vs = limited (FitsItem d) _ _ (λ e. shown d _ _ _ e)
item_fits d word.Audit vs = tt
item_fits d word.On vs = tt
item_fits d word.Enter vs = tt
item_fits d word.Leave vs = tt
item_fits d word.Fix vs = tt
item_fits d word.Pool vs = tt
item_fits d word.List vs = tt

item_line_fits : (d : Draft) (text : List ℕ) (fields : List (List ℕ)) → IfOk (item_line d text fields) (HasPlace (FitsItem d) (has_room d))
unfolding item_line
item_line_fits d text fields = item_has_place command_table (in_order d) (item_of d) (has_room d) (FitsItem d) (item_fits d) text fields

line_has_place : (d : Draft) (line : List ℕ) → IfOk (line_of d line) (IfItem (HasPlace (FitsItem d) (has_room d)))
unfolding line_of
line_has_place d line = line_fits (item_line d) (HasPlace (FitsItem d) (has_room d)) (item_line_fits d) line

whole_with_playable : (d : Draft) (n : ℕ) (c : Option Config) → c ≡ d.config → IsSound d → IfOk (whole_with d n c) IsPlayable
whole_with_playable d n None e s = tt
whole_with_playable d n (Some c) e s = record { boots = subst CanBootIf (sym e) s.boots; few = s.few; files = s.files; commands = s.commands }

whole_playable : (read : Read) → IfRead IsSound read → IfOk (whole read) IsPlayable
whole_playable (Ok x) s = whole_with_playable x.0 x.1 (x.0).config refl s
whole_playable (Err f) s = tt

pub nothing_said : IsSound no_lines
nothing_said = record { boots = tt; few = omega arith; files = All-nil FitsFile; commands = All-nil (IsDeclared [] []) }

-- what is read as a script can be played
script_playable : (bytes : List ℕ) → IfOk (script_of bytes) IsPlayable
script_playable bytes =
    elim (nat_le (length bytes) LONGEST_SCRIPT) as (λ b. IfOk (if b then whole (read_lines (Ok (no_lines, 0)) (raw_lines bytes)) else Err (0, cause.TooLong)) IsPlayable) [
      | true ↦ whole_playable (read_lines (Ok (no_lines, 0)) (raw_lines bytes)) (lines_kept line_of with_item IsSound (λ d i. HasPlace (FitsItem d) (has_room d) i) line_has_place item_kept (Ok (no_lines, 0)) (raw_lines bytes) nothing_said)
      | false ↦ tt
    ]

pub answer_playable : (bytes : List ℕ) (r : Result Script ScriptError) → GivesScript (λ s. s) r (script_of bytes) → IfOk r IsPlayable
answer_playable bytes (Ok s) e = let P : Result Script (ℕ × Cause) → Type 0 = λ r. IfOk r IsPlayable in subst P e (script_playable bytes)
answer_playable bytes (Err e) h = tt

item_of_line : (d : Draft) (i : Item) (said : Result (Option Item) Cause) → said ≡ Ok (Some i) → IfOk said (IfItem (HasPlace (FitsItem d) (has_room d))) → HasPlace (FitsItem d) (has_room d) i
item_of_line d i said is has = subst (λ (x : Result (Option Item) Cause). IfOk x (IfItem (HasPlace (FitsItem d) (has_room d)))) is has

pub line_item_fits : (d : Draft) (line : List ℕ) (i : Item) → line_of d line ≡ Ok (Some i) → FitsItem d i
line_item_fits d line i is = (item_of_line d i (line_of d line) is (line_has_place d line)).0

pub sound_with : (d : Draft) (line : List ℕ) (i : Item) → line_of d line ≡ Ok (Some i) → IsSound d → IsSound (with_item d i)
sound_with d line i is s = item_kept d i s (item_of_line d i (line_of d line) is (line_has_place d line))
