use Rattle.std.proofs.Common.{◌≡◌, subst}
use Rattle.std.specs.Prelude.{IfSome, Option}
use Rattle.table_walk.specs.Leaves.{walk_answer}
use Rattle.table_walk.specs.declared.walk.Walk.{Walk}
use Rattle.sv39_entry.specs.declared.access.Mode.TheVariants.{User}
use Rattle.hart_machine.proofs.Watched.{same_tenant}
use Rattle.hart_machine.proofs.slot_process.SlotProcess.translated.Goals as goal

pub returns-in-Some-clause-walk : goal.returns-in-Some-clause-walk
returns-in-Some-clause-walk c t p slot_process walks =
    subst (λ (o : Option Walk). IfSome o (λ walk. walk ≡ walk_answer p.scheme t c.args.va.0 c.args.access User)) c.in-Some.is walks

pub returns-in-None : goal.returns-in-None
returns-in-None c =
    let read = c.translate.ensures in
    record {
      walk = λ t p slot_process walks. read.walk t p slot_process.agrees;
      same = same_tenant c.args.self.now c.translate.new.self read.reads.view read.reads.root read.reads.trapframe read.reads.layout;
      frames = read.reads.same;
    }
