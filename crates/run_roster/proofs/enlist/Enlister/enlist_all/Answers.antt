-- What the search left open of `enlist_all`.
use Rattle.std.proofs.Common.{◌≡◌, ℕ, [], Some, ap, arith, length, sym, subst, ◌∙◌, List, slice_get, take, true, refl}
use Rattle.std.proofs.lemmas.Option.{slice_get-get_or}
use Rattle.run_roster.specs.StartEffects.{any_full}
use Rattle.run_roster.specs.Slots.{count}
use Rattle.run_roster.specs.declared.start_result.StartResult.{StartResult}
use Rattle.run_roster.proofs.Beginning.{next_number, next_start}
use Rattle.run_roster.proofs.Framing.{framed_first, framed_rest}
use Rattle.run_roster.proofs.Making.{enlists_made, enlists_out, enlists_rest, enlists_taken}
use Rattle.run_roster.proofs.Slotting.{full_first, full_rest}
use Rattle.run_roster.proofs.enlist.Enlister.enlist_all.Goals as goal

pub starts-init : goal.starts-init
starts-init g c = record {
  left = omega (arith, c.requires.left);
  slots = c.requires.slots;
  out = c.requires.none_out;
  rest = omega (arith, c.requires.all);
  framed = c.requires.framed;
  full = λ is. c.requires.full ∙ is;
  made = ([], c.requires.taken, refl, c.requires.made);
}

pub enlist-requires-clause-made : goal.enlist-requires-clause-made
enlist-requires-clause-made g c =
    let i = c.starts.invariant in
    let start = c.index-starts-number.result in
    let at : slice_get c.args.starts.now c.starts.number ≡ Some start = slice_get-get_or c.args.starts.now c.starts.number start c.starts-test.true ∙ ap Some (sym c.index-starts-number.is) in
    enlists_made g.B.RunBrand.table g.F.StartOutcomes.slots c.args.starts.now g.B.Plan.plan c.requires.of_starts g.F.StartOutcomes.taken c.starts.roster.left c.starts.number i.left c.starts-test.true c.starts.all.items c.pop_front.new.self.items c.in-Some.made c.in-Some.ensures.items i.made start at

pub enlist-requires-clause-taken : goal.enlist-requires-clause-taken
enlist-requires-clause-taken g c =
    let i = c.starts.invariant in
    enlists_taken g.B.RunBrand.table g.F.StartOutcomes.slots c.args.starts.now g.B.Plan.plan c.requires.of_starts g.F.StartOutcomes.taken c.starts.roster.left c.starts.number i.left c.starts-test.true c.starts.all.items c.pop_front.new.self.items c.in-Some.made c.in-Some.ensures.items i.made

pub enlist-requires-clause-full : goal.enlist-requires-clause-full
enlist-requires-clause-full g c = full_first g.F.StartOutcomes.full c.in-Some.made c.pop_front.new.self.items (subst (λ (ms : List StartResult). any_full ms ≡ true → g.F.StartOutcomes.full ≡ true) c.in-Some.ensures.items c.starts.invariant.full)

pub enlist-requires-clause-framed : goal.enlist-requires-clause-framed
enlist-requires-clause-framed g c =
    let i = c.starts.invariant in
    let number = next_number c.args.starts.now g.B.Plan.plan c.requires.of_starts c.starts.roster.left c.starts.number i.left c.starts-test.true in
    framed_first g.F.StartOutcomes.free c.args.starts.now g.B.Plan.plan c.requires.of_starts g.F.StartOutcomes.taken c.starts.number _ c.starts.all.items c.pop_front.new.self.items c.in-Some.made c.in-Some.ensures.items number i.framed

pub enlist-requires-clause-start : goal.enlist-requires-clause-start
enlist-requires-clause-start g c =
    let start = c.index-starts-number.result in
    next_start c.args.starts.now g.B.Plan.plan c.requires.of_starts c.starts.roster.left c.starts.number c.starts.invariant.left c.starts-test.true start ∙ ap Some (sym c.index-starts-number.is)

pub starts-preserved : goal.starts-preserved
starts-preserved g c =
    let i = c.starts.invariant in
    let e = c.enlist.ensures in
    let left = i.left in
    let rest = i.rest in
    let lt = c.starts-test.true in
    let popped = ap length c.in-Some.ensures.items in
    record {
      left = omega (arith, e.left, left, lt);
      slots = e.slots ∙ i.slots;
      out = enlists_out g.B.RunBrand.table g.F.StartOutcomes.slots c.args.starts.now g.B.Plan.plan c.requires.of_starts g.F.StartOutcomes.taken c.starts.roster.left c.starts.number left lt c.starts.all.items c.pop_front.new.self.items c.in-Some.made c.in-Some.ensures.items i.made c.starts.roster.out c.enlist.new.roster.out i.out e.out;
      rest = omega (arith, popped, rest);
      framed = framed_rest g.F.StartOutcomes.free c.args.starts.now g.F.StartOutcomes.taken c.starts.number c.starts.all.items c.pop_front.new.self.items c.in-Some.made c.in-Some.ensures.items i.framed;
      full = full_rest g.F.StartOutcomes.full c.in-Some.made c.pop_front.new.self.items (subst (λ (ms : List StartResult). any_full ms ≡ true → g.F.StartOutcomes.full ≡ true) c.in-Some.ensures.items i.full);
      made = enlists_rest g.B.RunBrand.table g.F.StartOutcomes.slots c.args.starts.now g.B.Plan.plan c.requires.of_starts g.F.StartOutcomes.taken c.starts.roster.left c.starts.number left lt c.starts.all.items c.pop_front.new.self.items c.in-Some.made c.in-Some.ensures.items i.made;
    }

pub enlist-requires-clause-out : goal.enlist-requires-clause-out
enlist-requires-clause-out g c =
    let i = c.starts.invariant in
    i.out ∙ ap (λ (k : ℕ). count (take k g.F.StartOutcomes.taken)) (next_number c.args.starts.now g.B.Plan.plan c.requires.of_starts c.starts.roster.left c.starts.number i.left c.starts-test.true)
