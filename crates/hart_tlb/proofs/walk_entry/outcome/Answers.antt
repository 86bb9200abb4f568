use Rattle.std.proofs.Common.{◌≡◌, inr, sym, ◌∙◌}
use Rattle.sv39_entry.specs.Satp.{root_ppn}
use Rattle.table_walk.specs.Memory.{has_byte, physical_address}
use Rattle.table_walk.specs.Walk.{Finds}
use Rattle.table_walk.specs.declared.walk.Found.TheVariants as found
use Rattle.hart_tlb.proofs.walk_entry.outcome.Given as given
use Rattle.hart_tlb.proofs.walk_entry.outcome.Goals as goal
use Rattle.hart_tlb.proofs.walk_entry.outcome.Goals.{After-has_byte, After-new}

-- the leaf that was found
finds : (g : given.Over) (c : After-new g)
    → Finds c.args.scheme (g.M.Words.memory c.args.words.now) (root_ppn c.args.satp) c.args.va.0 (found.Leaf c.new.result.word c.new.result.level c.in-Leaf.global)
finds g c = rw (c.new.ensures.word, c.new.ensures.level, ← c.ppn.ensures) c.in-Leaf.ensures.found

-- whether its byte is there
byte : (g : given.Over) (c : After-has_byte g)
    → has_byte (g.M.Words.there c.args.words.now) (physical_address c.new.result.word c.new.result.level c.args.va.0) ≡ c.has_byte.result
byte g c = let same = g.met.M.Words.same_there _ _ c.lookup.ensures.stays in rw (← same, ← c.address.ensures) (sym c.has_byte.ensures)

pub returns-then-not-has_byte-clause-fault : goal.returns-then-not-has_byte-clause-fault
returns-then-not-has_byte-clause-fault g c =
    let at = goal.at.returns-then-not-has_byte-clause-fault g c in
    inr (c.new.result, c.in-Leaf.global, finds g at.After-new, byte g at.After-has_byte ∙ c.if-not-has_byte.true)

pub returns-clause-entry : goal.returns-clause-entry
returns-clause-entry g c =
    let at = goal.at.returns-clause-entry g c in
    record {
      of_page = c.entry-2.ensures.page;
      of_space = c.entry-2.ensures.asid;
      shown = rw (c.entry-2.ensures.leaf, c.entry-2.ensures.global) (finds g at.After-new, byte g at.After-has_byte ∙ c.if-not-has_byte.false);
    }
