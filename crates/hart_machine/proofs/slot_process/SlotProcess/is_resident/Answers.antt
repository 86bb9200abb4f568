use Rattle.std.proofs.Common.{◌≡◌, true, ap, refl, sym, ◌∙◌}
use Rattle.address_space.specs.Accesses.{gives_leaf}
use Rattle.sv39_entry.specs.declared.access.Mode.TheVariants.{User}
use Rattle.table_walk.specs.Leaves.{walk_answer}
use Rattle.hart_machine.specs.SlotProcesses.{body_in}
use Rattle.hart_machine.proofs.Watched.{no_leaf, same_tenant}
use Rattle.hart_machine.proofs.slot_process.SlotProcess.is_resident.Goals as goal

pub returns-in-Leaf-clause-granted : goal.returns-in-Leaf-clause-granted
returns-in-Leaf-clause-granted c = λ t p slot_process.
    let x = c.args.self.now in
    let is = c.translate.ensures.walk t p slot_process.agrees in
    let law = c.walks_grant_what_is_resident.ensures (body_in x) t p c.args.access c.args.va.0 slot_process.agrees in
    let leaf : gives_leaf (walk_answer p.scheme t c.args.va.0 c.args.access User) ≡ true = ap gives_leaf (sym is ∙ c.in-Leaf.is) in
    (λ e. law.0 leaf, λ granted. refl)

pub returns-in_default : goal.returns-in_default
returns-in_default c =
    let x = c.args.self.now in
    let none = c.in_default.not-Leaf in
    record {
      granted = λ t p slot_process.
          let is = c.translate.ensures.walk t p slot_process.agrees in
          let law = c.walks_grant_what_is_resident.ensures (body_in x) t p c.args.access c.args.va.0 slot_process.agrees in
          (λ e. absurd cc, λ granted. absurd (no_leaf c.translate.result none (ap gives_leaf is ∙ law.1 granted)));
      same = same_tenant x c.translate.new.self c.translate.ensures.reads.view c.translate.ensures.reads.root c.translate.ensures.reads.trapframe c.translate.ensures.reads.layout;
      frames = c.translate.ensures.reads.same;
    }
