use Rattle.sv39_entry.specs.Address.{page_of}
use Rattle.sv39_entry.specs.declared.access.Mode.{Mode}
use Rattle.sv39_entry.specs.declared.scheme.Scheme.{Scheme}
use Rattle.walk_rules.specs.declared.extensions.Extensions.{Extensions}
use Rattle.access_history.specs.Permits.{Past, satp_of}
use Rattle.access_history.specs.declared.outcome.Request.{Request}
use Rattle.history_laws.specs.PlainWalks.{IsPlain}
use Rattle.history_laws.specs.SpaceWalks.{HasNoGlobals, IsSpaceSettled}
use Rattle.history_laws.proofs.PlainOutcomes.{AllRead, one_outcome, same_outcomes}
use Rattle.history_laws.proofs.SpaceReads.{own_of_space, read_of_space}
use Rattle.history_laws.proofs.walks.settled_space_walks.Goals as goal

space_reads : (x : Extensions) (p : Past) (q : Request) (mode : Mode) (s : Scheme) (plain : IsPlain x p q mode s) → HasNoGlobals x p.first q.va.0 p.events
    → IsSpaceSettled p.first s (page_of q.va.0) (satp_of p) p.events → AllRead x plain.hart p plain.unprotected q mode plain.access s plain.scheme
space_reads x p q mode s plain none settled = record {
  read = λ past r held serves. read_of_space x plain.hart p.first q.va.0 s p.events past r plain.scheme none settled held serves;
  own = own_of_space p.first s (page_of q.va.0) p.events settled;
}

pub returns : goal.returns
returns c = record {
  same = λ x p q mode s o plain svade none settled. same_outcomes x plain.hart p plain.unprotected q mode plain.access s plain.scheme svade
      (space_reads x p q mode s plain none settled) o;
  one = λ x p q mode s a b plain svade none settled. one_outcome x plain.hart p plain.unprotected q mode plain.access s plain.scheme svade
      (space_reads x p q mode s plain none settled) a b;
}
