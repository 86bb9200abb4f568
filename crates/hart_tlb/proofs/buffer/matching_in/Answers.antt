use Rattle.std.proofs.Common.{◌≡◌, sym, ◌∙◌, append-nil, arith, true, false}
use Rattle.hart_tlb.specs.Entries.{is_match, matches}
use Rattle.hart_tlb.proofs.Numbers.{numbers_more}
use Rattle.hart_tlb.proofs.buffer.matching_in.Goals as goal
use Rattle.hart_tlb.proofs.buffer.matching_in.Goals.{then-matches, else-matches}

pub entries-preserved : goal.entries-preserved
entries-preserved g c =
    let serving = is_match c.args.va.0 c.args.asid in
    let here = c.index-entries-n in
    let more = numbers_more serving c.args.entries.now c.entries.n here.result c.entries.numbers.items c.entries-test.true here.is c.entries.invariant.numbers in
    elim c.if-matches.branch [
      | then-matches w ↦
          let serves : matches c.args.va.0 c.args.asid c.index-entries-n.result ≡ true = sym c.matches.ensures ∙ w.if-matches.true in
          record {
            numbers = rw w.numbers-is (w.push.ensures.items ∙ (rw serves at more));
            few = rw w.numbers-is (omega (arith, w.push.ensures.len, c.entries.invariant.few));
          }
      | else-matches w ↦
          let serves : matches c.args.va.0 c.args.asid c.index-entries-n.result ≡ false = sym c.matches.ensures ∙ w.if-matches.false in
          record {
            numbers = rw w.numbers-is (sym (append-nil c.entries.numbers.items) ∙ (rw serves at more));
            few = rw w.numbers-is (omega (arith, c.entries.invariant.few));
          }
    ]
