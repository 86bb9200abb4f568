use Rattle.sv39_entry.specs.Address.{page_of}
use Rattle.sv39_entry.specs.declared.access.Mode.{Mode}
use Rattle.sv39_entry.specs.declared.scheme.Scheme.{Scheme}
use Rattle.walk_rules.specs.declared.extensions.Extensions.{Extensions}
use Rattle.access_history.specs.Permits.{Past}
use Rattle.access_history.specs.declared.outcome.Request.{Request}
use Rattle.history_laws.specs.PlainWalks.{IsPlain, IsSettled}
use Rattle.history_laws.proofs.PlainOutcomes.{AllRead, one_outcome, same_outcomes, some_outcome}
use Rattle.history_laws.proofs.PlainReads.{own_satp, read_of_held}
use Rattle.history_laws.proofs.walks.settled_hart_walks.Goals as goal

settled_reads : (x : Extensions) (p : Past) (q : Request) (mode : Mode) (s : Scheme) (plain : IsPlain x p q mode s) → IsSettled p.first s (page_of q.va.0) p.events
    → AllRead x plain.hart p plain.unprotected q mode plain.access s plain.scheme
settled_reads x p q mode s plain settled = record {
  read = λ past r held serves. read_of_held x plain.hart p.first q.va.0 s p.events past r plain.scheme settled held;
  own = λ satp under same. own_satp p.first s (page_of q.va.0) satp p.events settled under;
}

pub returns : goal.returns
returns c = record {
  same = λ x p q mode s o plain svade settled. same_outcomes x plain.hart p plain.unprotected q mode plain.access s plain.scheme svade
      (settled_reads x p q mode s plain settled) o;
  some = λ x p q mode s plain. some_outcome x plain.hart p plain.unprotected q mode plain.access s plain.scheme;
  one = λ x p q mode s a b plain svade settled. one_outcome x plain.hart p plain.unprotected q mode plain.access s plain.scheme svade
      (settled_reads x p q mode s plain settled) a b;
}
