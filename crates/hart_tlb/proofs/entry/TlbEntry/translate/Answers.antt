use Rattle.std.proofs.Common.{◌≡◌, true, sym, ◌∙◌}
use Rattle.std.proofs.lemmas.Bool.{and_parts, eqb-true}
use Rattle.sv39_entry.specs.Address.{page_of}
use Rattle.hart_tlb.specs.Entries.{matches}
use Rattle.hart_tlb.proofs.Outcomes.{answer_translates}
use Rattle.hart_tlb.proofs.entry.TlbEntry.translate.Goals as goal

pub returns-clause-permitted : goal.returns-clause-permitted
returns-clause-permitted c = λ s m there root space permitted whole.
    let e = c.args.self.now in
    let serves : matches c.args.va.0 c.args.asid e ≡ true = sym c.matches.ensures ∙ c.if-not-matches.false in
    let for_page = eqb-true e.page (page_of c.args.va.0) (and_parts _ _ serves).0 in
    let by_walk = permitted.1 in
    let truly = answer_translates s m there root c.args.va.0 c.args.access c.args.mode permitted.0 e.leaf e.global in
    rw c.answer.ensures (truly (sym by_walk.of_page ∙ for_page) by_walk.shown whole)
