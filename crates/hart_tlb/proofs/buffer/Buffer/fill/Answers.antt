use Rattle.std.proofs.Common.{inl, inr, refl}
use Rattle.sv39_entry.specs.Satp as satps
use Rattle.hart_tlb.proofs.Outcomes.{one_outcome, outcome_or_fault}
use Rattle.hart_tlb.proofs.buffer.Buffer.fill.Goals as goal

pub returns-in-Some-clause-fills : goal.returns-in-Some-clause-fills
returns-in-Some-clause-fills g c =
    let m = g.M.Words.memory c.args.words.now in
    let there = g.M.Words.there c.args.words.now in
    let root = satps.root_ppn c.args.satp in
    let one = c.one_found.ensures.at_most c.args.scheme m root c.args.va.0 in
    let outcome = c.in-Some.ensures.entry in
    record {
      adds = λ e other. rw (← one_outcome c.args.scheme m there root c.args.va.0 one _ c.in-Some.entry e outcome other) c.add.ensures;
      adds_nothing = λ fault. absurd (outcome_or_fault c.args.scheme m there root c.args.va.0 one _ c.in-Some.entry outcome fault);
      either = inr (c.in-Some.entry, outcome);
    }

pub returns-in_default-clause-fills : goal.returns-in_default-clause-fills
returns-in_default-clause-fills g c =
    let m = g.M.Words.memory c.args.words.now in
    let there = g.M.Words.there c.args.words.now in
    let root = satps.root_ppn c.args.satp in
    let one = c.one_found.ensures.at_most c.args.scheme m root c.args.va.0 in
    let fault = c.in_default.ensures.fault in
    record {
      adds = λ e outcome. absurd (outcome_or_fault c.args.scheme m there root c.args.va.0 one _ e outcome fault);
      adds_nothing = λ _. refl;
      either = inl fault;
    }
