use Rattle.std.proofs.Common.{◌≡◌, ◌∙◌, ◌+◌, ◌≤◌, ◌++◌, List, ℕ, ap, arith, length, refl, subst, sym}
use Rattle.script_language.specs.Lines.{raw_lines}
use Rattle.script_language.specs.Script.{read_lines}
use Rattle.script_reader.specs.Reading.{HasRead, lines_read}
use Rattle.script_reader.proofs.Ends.{more_read}
use Rattle.script_reader.proofs.piece_reader.PieceReader.add.Goals as goal

pub returns : goal.returns
returns c =
    let was = c.self.inside in
    let first = c.in-Some.first.now in
    let line : c.deref.result.now ≡ was.rest.items ++ first = rw c.replace-line.ensures.value at (c.deref.ensures.value ∙ c.in_ok-extend_from_slice-2.ensures.items) in
    let one = c.in_ok-add.ensures.read ∙ ap (λ (xs : List ℕ). read_lines (lines_read was.said) (raw_lines xs)) line in
    let left = rw c.clear.ensures.items at c.in_ok-extend_from_slice-3.ensures.items in
    let few : c.add-2.new.self.count ≤ was.said.count + length (was.rest.items ++ first) + length c.in-Some.ended.now = omega (arith, c.in_ok-add.ensures.few, c.in_ok-add-2.ensures.few, ap length line) in
    record {
      read = λ bytes h.
          more_read bytes _ (subst (HasRead bytes) (sym c.self.view_is) h) c.args.piece.now first c.in-Some.ended.now c.in-Some.rest.now c.in-Some.ensures (lines_read c.add.new.self) _ one c.in_ok-add-2.ensures.read left few refl;
    }
