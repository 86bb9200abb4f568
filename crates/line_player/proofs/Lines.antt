-- Lemmas: the answers of lines, one after the other, are the text of the script that they make (`answers_are`). After `boot` each
-- line is a command (`commands_told`); before it each is a declaration or `boot` (`lines_told`).
use Rattle.std.proofs.Common.{◌≡◌, refl, sym, ap, ◌∙◌, ℕ, ◌+◌, List, [], ◌∷◌, ◌++◌, Bool, true, false, Option, None, Some, Result, Ok, Err, map, subst}
use Rattle.std.specs.Prelude.{codes, if◌then◌else◌, is_some, length, nat_le}
use Rattle.std.proofs.lemmas.List.{append-nil, append_assoc}
use Rattle.std.proofs.lemmas.Option.{same_Some}
use Rattle.script_language.specs.Lines.{raw_lines, without_return}
use Rattle.script_language.specs.declared.limits.TheConstants.{LONGEST_SCRIPT}
use Rattle.process_model.specs.Files.{file_of}
use Rattle.script_language.specs.Script.{Draft, Script, line_of, no_lines, read_lines, script_of, whole, whole_with, with_item, with_line}
use Rattle.script_language.specs.Text.{commands_text, line_result, line_text, text_of}
use Rattle.process_model.specs.World.{World, booted}
use Rattle.process_model.specs.declared.config.Config.{Config}
use Rattle.script_language.specs.declared.script.Cause.{Cause}
use Rattle.script_language.specs.declared.script.Cause.TheVariants as cause
use Rattle.script_language.specs.declared.script.Command.{Command}
use Rattle.script_language.specs.declared.script.Item.{Item}
use Rattle.script_language.specs.declared.script.Item.TheVariants as item
use Rattle.line_player.specs.PlayedLines.{Played, answer_of, nothing_played, reply_line, played_text}
use Rattle.line_player.proofs.Items.{bare, line_kept, line_order, same_ok}

-- after a fault nothing is read
stopped : (f : ℕ × Cause) (lines : List (List ℕ)) (x : Draft × ℕ) → read_lines (Err f) lines ≡ Ok x → ⊥
stopped f [] x is = absurd cc
stopped f (line ∷ lines) x is = stopped f lines x is

-- a draft to which only these commands were added
pub record Adds (d e : Draft) (cs : List Command) : Type 0 where
  pub files : e.files ≡ d.files
  pub images : e.images ≡ d.images
  pub config : e.config ≡ d.config
  pub commands : e.commands ≡ d.commands ++ cs

-- the lines so far: these declarations, and this world if there is one
abbrev pub played_with : Draft → Option World → Played
played_with d w = record { draft = bare d; world = w }

-- the text of a line, by its item, and of those after it
abbrev text_by : Draft → Option World → Result (Option Item) Cause → List (List ℕ) → List ℕ
text_by d w said lines = let a = answer_of (played_with d w) said in reply_line a.reply ++ played_text a.after lines

same_text : (d : Draft) (w : Option World) (line : List ℕ) (lines : List (List ℕ)) (o : Option Item) → line_of d (without_return line) ≡ Ok o
    → played_text (played_with d w) (line ∷ lines) ≡ text_by d w (Ok o) lines
same_text d w line lines o is = ap (λ (said : Result (Option Item) Cause). text_by d w said lines) (line_kept d (without_return line) o is)

-- lines after `boot` were read to the end, and answered
abbrev pub AreTold : Draft → Draft → World → List (List ℕ) → Type 0
AreTold d e w lines = (cs : List Command) × Adds d e cs × (played_text (played_with d (Some w)) lines ≡ commands_text d.images w cs)

one_told : (line : List ℕ) (lines : List (List ℕ)) (d e : Draft) (n k : ℕ) (c : Config) (w : World) → d.config ≡ Some c
    → ((x : Draft) (j : ℕ) (v : World) → x.config ≡ Some c → read_lines (Ok (x, j)) lines ≡ Ok (e, k) → AreTold x e v lines)
    → (said : Result (Option Item) Cause) → line_of d (without_return line) ≡ said → read_lines (with_line d n said) lines ≡ Ok (e, k) → AreTold d e w (line ∷ lines)
one_told line lines d e n k c w boot rec (Err f) said is = absurd (stopped (n, f) lines (e, k) is)
one_told line lines d e n k c w boot rec (Ok None) said is =
    let r = rec d n w boot is in (r.0, r.1, same_text d (Some w) line lines None said ∙ r.2)
one_told line lines d e n k c w boot rec (Ok (Some (item.Command x))) said is =
    let p = line_result d.images w x in
    let r = rec (with_item d (item.Command x)) n p.world boot is in (
      x ∷ r.0,
      record {
        files = r.1.files;
        images = r.1.images;
        config = r.1.config;
        commands = r.1.commands ∙ append_assoc d.commands (x ∷ []) r.0;
      },
      same_text d (Some w) line lines (Some (item.Command x)) said ∙ ap (λ t. line_text p.text ++ t) r.2,
    )
one_told line lines d e n k c w boot rec (Ok (Some (item.File f))) said is =
    let no : false ≡ true = line_order d (without_return line) (item.File f) said ∙ ap is_some boot in absurd cc
one_told line lines d e n k c w boot rec (Ok (Some (item.Image i))) said is =
    let no : false ≡ true = line_order d (without_return line) (item.Image i) said ∙ ap is_some boot in absurd cc
one_told line lines d e n k c w boot rec (Ok (Some (item.Boot b))) said is =
    let no : false ≡ true = line_order d (without_return line) (item.Boot b) said ∙ ap is_some boot in absurd cc

commands_told : (lines : List (List ℕ)) (d e : Draft) (n k : ℕ) (c : Config) (w : World) → d.config ≡ Some c → read_lines (Ok (d, n)) lines ≡ Ok (e, k) → AreTold d e w lines
commands_told [] d e n k c w boot is =
    let same : d ≡ e = ap (λ (x : Draft × ℕ). x.0) (same_ok (d, n) (e, k) is) in (
      [],
      record {
        files = ap (λ (x : Draft). x.files) (sym same);
        images = ap (λ (x : Draft). x.images) (sym same);
        config = ap (λ (x : Draft). x.config) (sym same);
        commands = ap (λ (x : Draft). x.commands) (sym same) ∙ sym (append-nil d.commands);
      },
      refl,
    )
commands_told (line ∷ lines) d e n k c w boot is =
    one_told line lines d e (n + 1) k c w boot (λ x j v. commands_told lines x e j k c v) (line_of d (without_return line)) refl is

-- the text of a script that was read
abbrev pub whole_text : Draft → Config → List ℕ
whole_text e c = line_text (codes "ok") ++ commands_text e.images (booted c (map file_of e.files)) e.commands

first_told : (line : List ℕ) (lines : List (List ℕ)) (d e : Draft) (n k : ℕ) (c : Config) → d.config ≡ None → d.commands ≡ [] → e.config ≡ Some c
    → ((x : Draft) (j : ℕ) → x.config ≡ None → x.commands ≡ [] → read_lines (Ok (x, j)) lines ≡ Ok (e, k) → played_text (played_with x None) lines ≡ whole_text e c)
    → (said : Result (Option Item) Cause) → line_of d (without_return line) ≡ said → read_lines (with_line d n said) lines ≡ Ok (e, k)
    → played_text (played_with d None) (line ∷ lines) ≡ whole_text e c
first_told line lines d e n k c none empty boot rec (Err f) said is = absurd (stopped (n, f) lines (e, k) is)
first_told line lines d e n k c none empty boot rec (Ok None) said is = same_text d None line lines None said ∙ rec d n none empty is
first_told line lines d e n k c none empty boot rec (Ok (Some (item.File f))) said is =
    same_text d None line lines (Some (item.File f)) said ∙ rec (with_item d (item.File f)) n none empty is
first_told line lines d e n k c none empty boot rec (Ok (Some (item.Image i))) said is =
    same_text d None line lines (Some (item.Image i)) said ∙ rec (with_item d (item.Image i)) n none empty is
first_told line lines d e n k c none empty boot rec (Ok (Some (item.Command x))) said is =
    let no : true ≡ false = line_order d (without_return line) (item.Command x) said ∙ ap is_some none in absurd cc
first_told line lines d e n k c none empty boot rec (Ok (Some (item.Boot b))) said is =
    let w = booted b (map file_of d.files) in
    let r = commands_told lines (with_item d (item.Boot b)) e n k b w refl is in
    let same : b ≡ c = same_Some b c (sym r.1.config ∙ boot) in
    let commands : e.commands ≡ r.0 = r.1.commands ∙ ap (λ xs. xs ++ r.0) empty in
    same_text d None line lines (Some (item.Boot b)) said
    ∙ ap (λ t. line_text (codes "ok") ++ t) (r.2
    ∙ ap (λ images. commands_text images w r.0) (sym r.1.images)
    ∙ ap (λ (x : Config). commands_text e.images (booted x (map file_of d.files)) r.0) same
    ∙ ap (λ files. commands_text e.images (booted c (map file_of files)) r.0) (sym r.1.files)
    ∙ ap (λ cs. commands_text e.images (booted c (map file_of e.files)) cs) (sym commands))

lines_told : (lines : List (List ℕ)) (d e : Draft) (n k : ℕ) (c : Config) → d.config ≡ None → d.commands ≡ [] → e.config ≡ Some c → read_lines (Ok (d, n)) lines ≡ Ok (e, k)
    → played_text (played_with d None) lines ≡ whole_text e c
lines_told [] d e n k c none empty boot is =
    let same : d ≡ e = ap (λ (x : Draft × ℕ). x.0) (same_ok (d, n) (e, k) is) in
    let no : None ≡ Some c = sym none ∙ ap (λ (x : Draft). x.config) same ∙ boot in
    absurd cc
lines_told (line ∷ lines) d e n k c none empty boot is =
    first_told line lines d e (n + 1) k c none empty boot (λ x j unbooted bare_too. lines_told lines x e j k c unbooted bare_too boot) (line_of d (without_return line)) refl is

-- a script that was read whole
read_told : (lines : List (List ℕ)) (read : Result (Draft × ℕ) (ℕ × Cause)) (s : Script) → read_lines (Ok (no_lines, 0)) lines ≡ read → whole read ≡ Ok s
    → played_text (played_with no_lines None) lines ≡ text_of s
read_told lines (Err f) s read is = absurd cc
read_told lines (Ok x) s read is = go (x.0).config refl is
  where
    go : (o : Option Config) → (x.0).config ≡ o → whole_with x.0 x.1 o ≡ Ok s → played_text (played_with no_lines None) lines ≡ text_of s
    go None none failed = absurd cc
    go (Some c) boot made =
        lines_told lines no_lines x.0 0 x.1 c refl refl boot read
        ∙ ap text_of (same_ok (record { files = (x.0).files; images = (x.0).images; config = c; commands = (x.0).commands }) s made)

pub answers_are : (bytes : List ℕ) (s : Script) → script_of bytes ≡ Ok s → played_text nothing_played (raw_lines bytes) ≡ text_of s
answers_are bytes s is = go (nat_le (length bytes) LONGEST_SCRIPT) is
  where
    go : (b : Bool) → (if b then whole (read_lines (Ok (no_lines, 0)) (raw_lines bytes)) else Err (0, cause.TooLong)) ≡ Ok s → played_text nothing_played (raw_lines bytes) ≡ text_of s
    go true read = read_told (raw_lines bytes) (read_lines (Ok (no_lines, 0)) (raw_lines bytes)) s refl read
    go false long = absurd cc
