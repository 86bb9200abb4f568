use Rattle.std.proofs.Common.{◌≡◌, ◌∙◌, subst, sym}
use Rattle.script_language.specs.Lines.{raw_lines}
use Rattle.script_language.specs.Script.{read_lines}
use Rattle.script_reader.specs.Reading.{PieceReader, lines_read}
use Rattle.script_reader.proofs.Ends.{all_read, faultless, faulty}
use Rattle.script_reader.proofs.Playable.{answer_playable}
use Rattle.script_reader.proofs.piece_reader.PieceReader.finish.Goals as goal

pub returns-in-Some-clause-read : goal.returns-in-Some-clause-read
returns-in-Some-clause-read c = λ bytes h.
    let final = rw c.deref.ensures.value at c.in-Ok.ensures.read in
    let of = subst (λ (r : PieceReader). lines_read c.add.new.self ≡ read_lines r.read (raw_lines r.rest)) c.self.view_is final in
    let s = c.add.new.self in
    all_read bytes c.args.self h (sym c.is_too_long-too_long.ensures ∙ c.if-too_long.false) (lines_read s) of ∙ faulty s.fault c.in-Some.number c.in-Some.cause s.draft s.count c.in-Some.is

pub returns-clause-read : goal.returns-clause-read
returns-clause-read c = λ bytes h.
    let final = rw c.deref.ensures.value at c.in-Ok.ensures.read in
    let of = subst (λ (r : PieceReader). lines_read c.add.new.self ≡ read_lines r.read (raw_lines r.rest)) c.self.view_is final in
    let s = c.add.new.self in
    let says = all_read bytes c.args.self h (sym c.is_too_long-too_long.ensures ∙ c.if-too_long.false) (lines_read s) of ∙ faultless s.fault s.draft s.count c.in_default-fault.is in
    rw says c.of.ensures

pub returns-clause-playable : goal.returns-clause-playable
returns-clause-playable c =
    let h = c.requires.read in
    answer_playable h.0 c.of.result (returns-clause-read c h.0 h.1)
