-- Lemmas on text written by blocks: pieces appended one after another make the whole text (`IsPutting`, `putting_more`), a
-- failed write leaves a prefix (`putting_fails`), the last block is written at the end; the parts of a process's line.
use Rattle.std.proofs.Common.{◌≡◌, ℕ, List, [], ◌∷◌, ◌++◌, ◌+◌, ◌-◌, ◌<◌, length, take, drop, get_or, Bool, true, false, refl, Option, sym, ap, subst, ◌∙◌, append_assoc}
use Rattle.std.specs.Io.KnownBytes.{Appends}
use Rattle.std.specs.Prelude.{codes}
use Rattle.std.proofs.lemmas.List.{append-nil, at_drop_more, length-drop}
use Rattle.std.proofs.Math.Seq.{take-length}
use Rattle.script_language.specs.Text.{line_text}
use Rattle.script_language.specs.Threads.{dotted_text, end_text, name_text}
use Rattle.process_model.specs.declared.call.ProcessEnd.{ProcessEnd}
use Rattle.audit_player.specs.ThreadText.{ended_line, ended_lines}
use Rattle.hart_calls.specs.declared.finished.Finished.{Finished}
use Rattle.audit_player.proofs.Parts.{appends_more, appends_nothing, wrote_all}
use Rattle.audit_player.specs.Blocks.{AppendsPiece, WritesFull}
use Rattle.audit_player.specs.InputOutput.{WroteUpTo, WroteSome}

-- a block that was written whole, or as far as it went, is empty
pub block_written : (b : Bool) (old new : Option (List ℕ)) (block empty : List ℕ) → empty ≡ [] → (b ≡ true → Appends old new block) → WroteSome old new block → WritesFull b old new block empty
block_written true old new block empty none whole some =
    λ start text w. (w.0 ++ block, ap (λ (l : List ℕ). (w.0 ++ block) ++ l) none ∙ append-nil (w.0 ++ block) ∙ w.1, appends_more start old new w.0 block w.2 (whole refl))
block_written false old new block empty none whole (left, (part, parts, wrote)) =
    λ start text w. (left, (w.0 ++ part, append_assoc w.0 part left ∙ ap (λ (l : List ℕ). w.0 ++ l) parts ∙ w.1, appends_more start old new w.0 part w.2 wrote))

-- of a text this is still to be put
abbrev pub IsPutting : Option (List ℕ) → Option (List ℕ) → List ℕ → List ℕ → List ℕ → List ℕ → Type 0
IsPutting old new block now todo whole = (done : List ℕ) × (AppendsPiece true old new block now done × (done ++ todo ≡ whole))

pub putting_begins : (known : Option (List ℕ)) (block whole : List ℕ) → IsPutting known known block block whole whole
putting_begins known block whole = ([], (λ start text w. subst (λ (t : List ℕ). WroteUpTo start known t block) (sym (append-nil text)) w, refl))

module _ (old mid new : Option (List ℕ)) (block now after piece todo rest whole : List ℕ) (putting : IsPutting old mid block now todo whole) (is : todo ≡ piece ++ rest) where
  -- a piece more
  pub putting_more : AppendsPiece true mid new now after piece → IsPutting old new block after rest whole
  putting_more puts = (
    putting.0 ++ piece,
    (
      λ start text w. subst (λ (t : List ℕ). WroteUpTo start new t after) (append_assoc text putting.0 piece) (puts start (text ++ putting.0) (putting.1.0 start text w)),
      append_assoc putting.0 piece rest ∙ ap (λ (l : List ℕ). putting.0 ++ l) (sym is) ∙ putting.1.1,
    ),
  )

  -- a write failed
  pub putting_fails : (last : List ℕ) → AppendsPiece false mid new now after piece → AppendsPiece false old new block last whole
  putting_fails last puts = λ start text w.
      let some : WroteSome start new ((text ++ putting.0) ++ piece) = puts start (text ++ putting.0) (putting.1.0 start text w) in (
        some.0 ++ rest,
        (
          some.1.0,
          sym (append_assoc some.1.0 some.0 rest) ∙ ap (λ (l : List ℕ). l ++ rest) some.1.1 ∙ append_assoc (text ++ putting.0) piece rest ∙ append_assoc text putting.0 (piece ++ rest)
              ∙ ap (λ (l : List ℕ). text ++ (putting.0 ++ l)) (sym is) ∙ ap (λ (l : List ℕ). text ++ l) putting.1.1,
          some.1.2,
        ),
      )

-- and where nothing is to be put any more, the whole is
pub putting_ends : (old new : Option (List ℕ)) (block now todo whole : List ℕ) → todo ≡ [] → IsPutting old new block now todo whole → AppendsPiece true old new block now whole
putting_ends old new block now todo whole none (done, (puts, all)) = subst (AppendsPiece true old new block now) (sym (append-nil done) ∙ ap (λ (l : List ℕ). done ++ l) (sym none) ∙ all) puts

-- the last piece, put or not
pub putting_last : (b : Bool) (old mid new : Option (List ℕ)) (block now after piece whole : List ℕ) → IsPutting old mid block now piece whole → AppendsPiece b mid new now after piece → AppendsPiece b old new block after whole
putting_last true old mid new block now after piece whole putting puts = putting_ends old new block after [] whole refl (putting_more old mid new block now after piece piece [] whole putting (sym (append-nil piece)) puts)
putting_last false old mid new block now after piece whole putting puts = putting_fails old mid new block now after piece piece [] whole putting (sym (append-nil piece)) after puts

-- the line of a process in three parts
pub parts_of_line : (f : Finished) → ended_line f ≡ codes "process " ++ (name_text f.name.items ++ line_text (end_text (length f.journal.items) f.outcome))
parts_of_line f =
    let end : List ℕ = end_text (length f.journal.items) f.outcome in
    append_assoc (codes "process ") (name_text f.name.items ++ end) (10 ∷ []) ∙ ap (λ (l : List ℕ). codes "process " ++ l) (append_assoc (name_text f.name.items) end (10 ∷ []))

-- the line of the first of those that are left comes next
pub next_line : (fs : List Finished) (i : ℕ) (f : Finished) → f ≡ get_or fs i f → i < length fs → ended_lines (drop i fs) ≡ ended_line f ++ ended_lines (drop (i + 1) fs)
next_line fs i f is lt = at_drop_more ended_lines fs i f lt ∙ ap (λ (x : Finished). ended_line x ++ ended_lines (drop (i + 1) fs)) (sym is)

-- all behind the first number of a name
pub behind_first : (name : List ℕ) → take (length name - 1) (drop 1 name) ≡ drop 1 name
behind_first name = ap (λ (n : ℕ). take n (drop 1 name)) (sym (length-drop 1 name)) ∙ take-length (drop 1 name)

-- the same numbers are put in the same way
pub dotted_same : (b : Bool) (old new : Option (List ℕ)) (block after name other : List ℕ) → name ≡ other → AppendsPiece b old new block after (dotted_text name) → AppendsPiece b old new block after (dotted_text other)
dotted_same b old new block after name other same puts = subst (λ (l : List ℕ). AppendsPiece b old new block after (dotted_text l)) same puts

pub name_same : (b : Bool) (old new : Option (List ℕ)) (block after name other : List ℕ) → name ≡ other → AppendsPiece b old new block after (name_text name) → AppendsPiece b old new block after (name_text other)
name_same b old new block after name other same puts = subst (λ (l : List ℕ). AppendsPiece b old new block after (name_text l)) same puts

-- and so many calls
pub calls_same : (b : Bool) (old new : Option (List ℕ)) (block after : List ℕ) (n m : ℕ) (o : ProcessEnd) → n ≡ m → AppendsPiece b old new block after (line_text (end_text n o)) → AppendsPiece b old new block after (line_text (end_text m o))
calls_same b old new block after n m o same puts = subst (λ (k : ℕ). AppendsPiece b old new block after (line_text (end_text k o))) same puts

-- of nothing nothing is left
nothing_left : (old : Option (List ℕ)) → WroteUpTo old old [] []
nothing_left old = ([], refl, appends_nothing old)

-- a text that began on an empty block
pub broken_put : (old new : Option (List ℕ)) (block after text : List ℕ) → block ≡ [] → AppendsPiece false old new block after text → WroteSome old new text
broken_put old new block after text empty puts = puts old [] (subst (WroteUpTo old old []) (sym empty) (nothing_left old))

pub whole_put : (old mid new : Option (List ℕ)) (block after text : List ℕ) → block ≡ [] → AppendsPiece true old mid block after text → WritesFull true mid new after [] → Appends old new text
whole_put old mid new block after text empty puts turns = wrote_all old new text [] refl (turns old text (puts old [] (subst (WroteUpTo old old []) (sym empty) (nothing_left old))))

pub part_put : (b : Bool) (old mid new : Option (List ℕ)) (block after text : List ℕ) → block ≡ [] → AppendsPiece true old mid block after text → WritesFull b mid new after [] → WroteSome old new text
part_put true old mid new block after text empty puts turns = ([], turns old text (puts old [] (subst (WroteUpTo old old []) (sym empty) (nothing_left old))))
part_put false old mid new block after text empty puts turns = turns old text (puts old [] (subst (WroteUpTo old old []) (sym empty) (nothing_left old)))
