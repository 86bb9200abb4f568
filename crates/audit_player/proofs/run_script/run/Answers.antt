use Rattle.std.proofs.Common.{◌≡◌, ◌+◌, ◌≤◌, true, [], length, drop, map, refl, subst, arith, rules, ◌∙◌, Bool, false, not, sym}
use Rattle.std.specs.Io.KnownBytes.{Appends}
use Rattle.process_model.specs.Files.{file_of}
use Rattle.script_language.specs.Text.{text_of}
use Rattle.process_model.specs.World.{booted}
use Rattle.audit_player.specs.InputOutput.{WroteSome}
use Rattle.audit_player.proofs.Written.{declared, block_more, turned, cut, ended}
use Rattle.audit_player.proofs.run_script.run.Goals as goal

pub lines-init : goal.lines-init
lines-init g c = record {
  fine = λ fine. fine;
  low = search rules;
  room = search rules;
  text =
      let made = booted c.args.script.now.config (map file_of c.args.script.now.files) in
      ([], (search rules, (made, (c.in-Ok.ensures.machine, rw (c.put.ensures.text, c.in-Ok.ensures.block, c.images-images.ensures, c.commands-commands.ensures) refl))));
}

pub put_line-requires-clause-declared : goal.put_line-requires-clause-declared
put_line-requires-clause-declared g c =
    let script = c.args.script.now in
    declared script.files script.images _ script.commands _ c.lines.number _ c.images-images.ensures c.commands-commands.ensures c.get.ensures (omega (arith, c.lines-test.true, c.len-number-end.ensures)) c.requires.playable.commands

pub lines-preserved-then-len-lt-BLOCK : goal.lines-preserved-then-len-lt-BLOCK
lines-preserved-then-len-lt-BLOCK g c =
    let old = g.W.Sink.contents c.args.writer.now in
    let mid = g.W.Sink.contents c.lines.writer in
    record {
      fine = c.lines.invariant.fine;
      low = search rules;
      room = omega (arith, c.lines.invariant.room, c.put_line.ensures.capacity, c.push_reserved.ensures.capacity);
      text = block_more old mid c.lines.machine c.put_line.new.machine c.images-images.result.now c.commands-commands.result.now c.lines.number _ c.lines.block.items c.put_line.new.text.items c.push_reserved.new.self.items (text_of c.args.script.now) c.get.ensures (omega (arith, c.lines-test.true, c.len-number-end.ensures)) c.put_line.ensures.line_text c.push_reserved.ensures.items c.lines.invariant.text;
    }

pub returns-then-not-write_all-clause-plays : goal.returns-then-not-write_all-clause-plays
returns-then-not-write_all-clause-plays g c =
    let old = g.W.Sink.contents c.args.writer.now in
    let mid = g.W.Sink.contents c.lines.writer in
    let new = g.W.Sink.contents c.write_all.new.sink in
    let images = c.images-images.result.now in
    let commands = c.commands-commands.result.now in
    let whole = text_of c.args.script.now in
    let more = block_more old mid c.lines.machine c.put_line.new.machine images commands c.lines.number _ c.lines.block.items c.put_line.new.text.items c.push_reserved.new.self.items whole c.get.ensures (omega (arith, c.lines-test.true, c.len-number-end.ensures)) c.put_line.ensures.line_text c.push_reserved.ensures.items c.lines.invariant.text in
    cut old mid new c.put_line.new.machine images (drop (c.lines.number + 1) commands) c.push_reserved.new.self.items whole more (subst (WroteSome mid new) c.as_slice.ensures.value c.write_all.ensures.part)

-- what was written whole is not broken
unbroken : (r b : Bool) → r ≡ true → r ≡ not b → b ≡ false
unbroken r true whole is = absurd (let both : true ≡ false = sym whole ∙ is in cc)
unbroken r false whole is = refl

pub lines-preserved : goal.lines-preserved
lines-preserved g c =
    let old = g.W.Sink.contents c.args.writer.now in
    let mid = g.W.Sink.contents c.lines.writer in
    let new = g.W.Sink.contents c.write_all.new.sink in
    let images = c.images-images.result.now in
    let commands = c.commands-commands.result.now in
    let whole = text_of c.args.script.now in
    let more = block_more old mid c.lines.machine c.put_line.new.machine images commands c.lines.number _ c.lines.block.items c.put_line.new.text.items c.push_reserved.new.self.items whole c.get.ensures (omega (arith, c.lines-test.true, c.len-number-end.ensures)) c.put_line.ensures.line_text c.push_reserved.ensures.items c.lines.invariant.text in
    let written : c.write_all.result ≡ true = search rules in
    record {
      fine = λ ok. unbroken _ _ written (c.write_all.ensures.io (c.lines.invariant.fine ok));
      low = omega (arith, c.clear.ensures.len);
      room = omega (arith, c.lines.invariant.room, c.put_line.ensures.capacity, c.push_reserved.ensures.capacity, c.clear.ensures.capacity);
      text = turned old mid new c.put_line.new.machine images (drop (c.lines.number + 1) commands) c.push_reserved.new.self.items whole more c.clear.new.self.items (subst (Appends mid new) c.as_slice.ensures.value (c.write_all.ensures.whole written)) c.clear.ensures.items;
    }

pub returns-then-write_all-clause-plays : goal.returns-then-write_all-clause-plays
returns-then-write_all-clause-plays g c =
    let old = g.W.Sink.contents c.args.writer.now in
    let mid = g.W.Sink.contents c.lines.writer in
    let new = g.W.Sink.contents c.write_all-2.new.sink in
    let commands = c.commands-commands.result.now in
    let past : length commands ≤ c.lines.number = omega (arith, c.lines-test.false, c.len-number-end.ensures) in
    let written : c.write_all-2.result ≡ true = search rules in
    ended old mid new c.lines.machine c.images-images.result.now commands c.lines.number c.lines.block.items (text_of c.args.script.now) past c.lines.invariant.text (subst (Appends mid new) c.as_slice-2.ensures.value (c.write_all-2.ensures.whole written))

pub returns-clause-plays : goal.returns-clause-plays
returns-clause-plays g c =
    let old = g.W.Sink.contents c.args.writer.now in
    let mid = g.W.Sink.contents c.lines.writer in
    let new = g.W.Sink.contents c.write_all-2.new.sink in
    cut old mid new c.lines.machine c.images-images.result.now (drop c.lines.number c.commands-commands.result.now) c.lines.block.items (text_of c.args.script.now) c.lines.invariant.text (subst (WroteSome mid new) c.as_slice-2.ensures.value c.write_all-2.ensures.part)
