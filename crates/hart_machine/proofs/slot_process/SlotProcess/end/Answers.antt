use Rattle.std.proofs.Common.{◌∙◌, List, ap, subst, sym}
use Rattle.address_space.specs.Agreement.{body_of, IsSpace}
use Rattle.address_space.specs.declared.space.Space.{Space}
use Rattle.frame_store.specs.View.{View}
use Rattle.address_space.specs.SpacesInCalls.{space_in_call}
use Rattle.process_model.specs.Files.{File}
use Rattle.process_model.specs.Mappings.{all_written_back}
use Rattle.hart_machine.proofs.Mapping.{same_space}
use Rattle.hart_machine.proofs.slot_process.SlotProcess.end.Goals as goal

pub write_back-requires-clause-ready : goal.write_back-requires-clause-ready
write_back-requires-clause-ready c =
    let r = c.requires.ready in
    let e = c.promise_write_back.ensures in
    let same = same_space c.promise_write_back.new.space c.args.self.space e.reads.view e.reads.root e.reads.trapframe e.reads.layout in
    (r.0, r.1, space_in_call (subst (λ (z : Space View). IsSpace (body_of (λ v. v) z) r.0 r.1) (sym same) r.2.agrees), c.in-Ok.ensures.promised r.0 r.1 r.2.agrees)

pub destroy-requires-clause-ready : goal.destroy-requires-clause-ready
destroy-requires-clause-ready c =
    let r = c.requires.ready in
    let e = c.promise_write_back.ensures in
    let f = c.write_back.ensures in
    let same = same_space c.write_back.new.space c.args.self.space (f.reads.view ∙ e.reads.view) (f.reads.root ∙ e.reads.root) (f.reads.trapframe ∙ e.reads.trapframe) (f.reads.layout ∙ e.reads.layout) in
    (r.0, r.1, subst (λ (z : Space View). IsSpace (body_of (λ v. v) z) r.0 r.1) (sym same) r.2.agrees)

pub returns-clause-written : goal.returns-clause-written
returns-clause-written c t p slot_process =
    let e = c.promise_write_back.ensures in
    let same = same_space c.promise_write_back.new.space c.args.self.space e.reads.view e.reads.root e.reads.trapframe e.reads.layout in
    c.write_back.ensures.written t p (space_in_call (subst (λ (z : Space View). IsSpace (body_of (λ v. v) z) t p) (sym same) slot_process.agrees)) ∙ ap (λ (fs : List File). all_written_back fs p) e.files

pub returns-clause-keeps : goal.returns-clause-keeps
returns-clause-keeps c = λ others rule. c.destroy.ensures.keeps others (c.write_back.ensures.keeps others (c.promise_write_back.ensures.keeps others rule))
