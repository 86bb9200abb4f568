-- Lemmas on the text of a script, line by line: what the sink (writer) took, the block has and the lines left will answer is
-- the model's whole text (`IsWriting`, `line_more`, `block_more`), to the end (`ended`), or a prefix after a failed write
-- (`cut`).
use Rattle.std.proofs.Common.{◌≡◌, ℕ, ◌+◌, ◌<◌, ◌≤◌, List, [], ◌∷◌, ◌++◌, length, drop, get_or, Option, sym, ap, subst, ◌∙◌, append_assoc}
use Rattle.std.specs.Prelude.{All}
use Rattle.std.specs.Io.KnownBytes.{Appends}
use Rattle.std.proofs.lemmas.List.{append-nil, at_drop_more, at_drop_all}
use Rattle.script_language.specs.Text.{line_text, commands_text, line_result}
use Rattle.process_model.specs.World.{World}
use Rattle.process_model.specs.declared.file.FileText.{FileText}
use Rattle.script_language.specs.declared.declarations.OwnedImage.{OwnedImage}
use Rattle.script_language.specs.declared.script.Command.{Command}
use Rattle.hart_machine.specs.BufferEntries.{IsInWorld}
use Rattle.hart_machine.specs.declared.machine.Machine.{Machine}
use Rattle.script_reader.specs.Playable.{IsDeclared}
use Rattle.audit_player.proofs.Parts.{appends_more}
use Rattle.audit_player.specs.InputOutput.{WroteSome}
use Rattle.audit_player.specs.LineOutcomes.{AppendsLine}

-- what is written so far, and what the lines that are left say, is the whole
abbrev pub IsWritten : Machine → List OwnedImage → List Command → List ℕ → List ℕ → Type 0
IsWritten m images rest text whole = (w : World) × (IsInWorld m w × (text ++ commands_text images w rest ≡ whole))

-- one line more
pub line_more : (m n : Machine) (images : List OwnedImage) (cs : List Command) (i : ℕ) (c : Command) (text told after whole : List ℕ) → c ≡ get_or cs i c → i < length cs
    → ((w : World) → IsInWorld m w → AppendsLine n text told (line_result images w c)) → after ≡ told ++ 10 ∷ [] → IsWritten m images (drop i cs) text whole → IsWritten n images (drop (i + 1) cs) after whole
line_more m n images cs i c text told after whole is lt tells more (w, (h, e)) =
    let says : AppendsLine n text told (line_result images w c) = tells w h in
    let first : drop i cs ≡ c ∷ drop (i + 1) cs = at_drop_more (λ (rest : List Command). rest) cs i c lt ∙ ap (λ (x : Command). x ∷ drop (i + 1) cs) (sym is) in
    let rest : List ℕ = commands_text images (line_result images w c).world (drop (i + 1) cs) in
    let line : text ++ commands_text images w (c ∷ drop (i + 1) cs) ≡ whole = ap (λ (l : List Command). text ++ commands_text images w l) (sym first) ∙ e in
    let so_far : after ≡ text ++ line_text (line_result images w c).text = more ∙ ap (λ (t : List ℕ). t ++ 10 ∷ []) says.0 ∙ append_assoc text (line_result images w c).text (10 ∷ []) in
    ((line_result images w c).world, (says.1, ap (λ (t : List ℕ). t ++ rest) so_far ∙ append_assoc text (line_text (line_result images w c).text) rest ∙ line))

-- what a line names was declared
pub declared : (fs : List FileText) (is images : List OwnedImage) (cs commands : List Command) (i : ℕ) (c : Command) → images ≡ is → commands ≡ cs → c ≡ get_or commands i c → i < length commands
    → All (IsDeclared fs is) cs → (gs : List FileText) × IsDeclared gs images c
declared fs is images cs commands i c same lines this lt all =
    let there : IsDeclared fs is (get_or cs i c) = all i c (subst (λ (l : List Command). i < length l) lines lt) in
    let here : IsDeclared fs is c = subst (IsDeclared fs is) (sym (this ∙ ap (λ (l : List Command). get_or l i c) lines)) there in
    (fs, subst (λ (l : List OwnedImage). IsDeclared fs l c) (sym same) here)

-- what the sink took, what stands on the block, and what the lines that are left say, is the whole
abbrev pub IsWriting : Option (List ℕ) → Option (List ℕ) → Machine → List OwnedImage → List Command → List ℕ → List ℕ → Type 0
IsWriting old new m images rest block whole = (front : List ℕ) × (Appends old new front × IsWritten m images rest (front ++ block) whole)

module _ (old mid new : Option (List ℕ)) (m : Machine) (images : List OwnedImage) (rest : List Command) (block whole : List ℕ) (writing : IsWriting old mid m images rest block whole) where
  -- a block that was written is empty
  pub turned : (empty : List ℕ) → Appends mid new block → empty ≡ [] → IsWriting old new m images rest empty whole
  turned empty wrote none =
      let so_far : (writing.0 ++ block) ++ empty ≡ writing.0 ++ block = ap (λ (l : List ℕ). (writing.0 ++ block) ++ l) none ∙ append-nil (writing.0 ++ block) in
      (writing.0 ++ block, (appends_more old mid new writing.0 block writing.1.0 wrote, subst (λ (t : List ℕ). IsWritten m images rest t whole) (sym so_far) writing.1.1))

  -- where a write failed, a beginning of the whole was written
  pub cut : WroteSome mid new block → WroteSome old new whole
  cut (left, (front, split, wrote)) =
      let all = writing.1.1.1.1 in
      let after : List ℕ = commands_text images writing.1.1.0 rest in (
        left ++ after,
        (
          writing.0 ++ front,
          append_assoc writing.0 front (left ++ after) ∙ ap (λ (l : List ℕ). writing.0 ++ l) (sym (append_assoc front left after)) ∙ ap (λ (l : List ℕ). writing.0 ++ (l ++ after)) split
              ∙ sym (append_assoc writing.0 block after) ∙ all,
          appends_more old mid new writing.0 front writing.1.0 wrote,
        ),
      )

-- and where no line is left, the whole
pub ended : (old mid new : Option (List ℕ)) (m : Machine) (images : List OwnedImage) (cs : List Command) (i : ℕ) (block whole : List ℕ) → length cs ≤ i → IsWriting old mid m images (drop i cs) block whole → Appends mid new block → Appends old new whole
ended old mid new m images cs i block whole past (front, (took, (w, (is, all)))) wrote =
    let nothing : commands_text images w (drop i cs) ≡ [] = at_drop_all (commands_text images w) cs i past in
    let same : front ++ block ≡ whole = sym (append-nil (front ++ block)) ∙ ap (λ (l : List ℕ). (front ++ block) ++ l) (sym nothing) ∙ all in
    subst (Appends old new) same (appends_more old mid new front block took wrote)

-- one line more on the block
pub block_more : (old new : Option (List ℕ)) (m n : Machine) (images : List OwnedImage) (cs : List Command) (i : ℕ) (c : Command) (block told after whole : List ℕ) → c ≡ get_or cs i c → i < length cs
    → ((w : World) → IsInWorld m w → AppendsLine n block told (line_result images w c)) → after ≡ told ++ 10 ∷ [] → IsWriting old new m images (drop i cs) block whole → IsWriting old new n images (drop (i + 1) cs) after whole
block_more old new m n images cs i c block told after whole is lt tells more (front, (took, written)) =
    let says : (w : World) → IsInWorld m w → AppendsLine n (front ++ block) (front ++ told) (line_result images w c) =
    λ w h. let line = tells w h in (ap (λ (l : List ℕ). front ++ l) line.0 ∙ sym (append_assoc front block (line_result images w c).text), line.1) in
    let ended : front ++ after ≡ (front ++ told) ++ 10 ∷ [] = ap (λ (l : List ℕ). front ++ l) more ∙ sym (append_assoc front told (10 ∷ [])) in
    (front, (took, line_more m n images cs i c (front ++ block) (front ++ told) (front ++ after) whole is lt says ended written))
