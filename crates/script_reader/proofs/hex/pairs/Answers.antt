use Rattle.std.proofs.Common.{arith, sym, ap, ◌∙◌}
use Rattle.script_reader.proofs.Pairs.{onto, onto-two, onto-then}
use Rattle.script_language.specs.Numbers.{pairs_of}
use Rattle.script_reader.proofs.hex.pairs.Goals as goal

pub twos-preserved : goal.twos-preserved
twos-preserved c =
    let found = c.in-Some in
    let first = c.push_reserved.ensures in
    let second = c.push_reserved-in-Some.ensures in
    record {
      says = rw (second.items, first.items) (sym (onto-two c.twos.items.items found.first found.second (pairs_of found.after.now)) ∙ ap (onto c.twos.items.items) (sym found.ensures.bytes) ∙ c.twos.invariant.says);
      room = omega (arith, c.twos.invariant.room, found.ensures.four, first.len, first.capacity, second.len, second.capacity);
    }

pub ones-preserved : goal.ones-preserved
ones-preserved c = record {
  says = rw c.push_reserved-in-ones.ensures.items (sym (onto-then c.ones.items.items c.in-Some-first_byte.byte (pairs_of c.in-Some-first_byte.after.now)) ∙ ap (onto c.ones.items.items) (sym c.in-Some-first_byte.ensures.byte) ∙ c.ones.invariant.says);
  room = omega (arith, c.ones.invariant.room, c.in-Some-first_byte.ensures.two, c.push_reserved-in-ones.ensures.len, c.push_reserved-in-ones.ensures.capacity);
}
