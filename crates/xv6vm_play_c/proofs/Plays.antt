-- Lemmas for `xv6vm_play`: after a play into an empty list, the list is the text of the script (`written`); the text at the front of a
-- buffer (`front`).
use Rattle.std.proofs.Common.{◌≡◌, refl, ap, ◌∙◌, sym, ℕ, List, [], ◌++◌, length, take, Result, Ok, Err, Some}
use Rattle.std.proofs.Math.Seq.{take-append_seam}
use Rattle.audit_player.specs.PlayResult.{Writes}
use Rattle.script_language.specs.Script.{Script, script_of}
use Rattle.script_language.specs.Text.{text_of}
use Rattle.script_language.specs.declared.script.Cause.{Cause}

played : (script : Result Script (ℕ × Cause)) (old text : List ℕ) → old ≡ [] → Writes (Some old) (Some text) script → (s : Script) × (script ≡ Ok s) × (text ≡ text_of s)
played (Ok s) old text empty w = (s, refl, w ∙ ap (λ xs. xs ++ text_of s) empty)
played (Err f) old text empty w = absurd w

-- the bytes that were read, and the list before and after
pub written : (bytes read old text : List ℕ) → read ≡ bytes → old ≡ [] → Writes (Some old) (Some text) (script_of read) → (s : Script) × (script_of bytes ≡ Ok s) × (text ≡ text_of s)
written bytes read old text same empty w =
    let p = played (script_of read) old text empty w in
    (p.0, ap script_of (sym same) ∙ p.1, p.2)

-- a buffer that begins with a text
pub front : (text room rest : List ℕ) (n : ℕ) → room ≡ text → n ≡ length text → take n (room ++ rest) ≡ text
front text room rest n is size =
    ap (λ k. take k (room ++ rest)) (size ∙ ap length (sym is)) ∙ (take-append_seam room rest ∙ is)
