use Rattle.std.proofs.Common.{◌≡◌, ◌<◌, ◌∙◌, Some, ap, not, refl, subst, true}
use Rattle.address_space.proofs.PendingAccess.{agrees_pending}
use Rattle.fault_rules.proofs.Allowed.{can_reside}
use Rattle.fault_rules.specs.MadeResident.{is_shared_by}
use Rattle.fault_rules.specs.declared.service.Served.TheVariants as served
use Rattle.process_model.specs.Process as model
use Rattle.process_model.specs.Residence.{is_resident, made_resident}
use Rattle.process_model.specs.World.{is_unserved_access}
use Rattle.sv39_entry.specs.Address.{page_of}
use Rattle.hart_machine.specs.ServeEffect.{HasServed, MustEnd, was_served, WhenShared}
use Rattle.hart_machine.specs.SlotProcesses.{body_in, IsSlotProcess}
use Rattle.hart_machine.specs.declared.slot_process.SlotProcess.{SlotProcess}
use Rattle.hart_machine.proofs.ServedProcesses.{allowed, has_bytes, in_model, it_is, only_reads, something_waits, why}
use Rattle.hart_machine.proofs.Watched.{no_rule_tells}
use Rattle.hart_machine.proofs.slot_process.SlotProcess.serve.Goals as goal

pub unreachable-requires : goal.unreachable-requires
unreachable-requires c =
    let r = c.requires.ready in
    something_waits c.args.self.now.pending (subst (λ o. is_unserved_access o ≡ true) r.2.pending (c.requires.waits r.0 r.1 r.2)) c.in_default.is

pub returns-in-Ready-clause-served : goal.returns-in-Ready-clause-served
returns-in-Ready-clause-served c t p a slot_process is =
    let n = c.is_resident-resident.ensures in
    let x = c.is_resident-resident.new.self in
    let here : IsSlotProcess x t p = rw n.same slot_process in
    let z = c.in-Some.pending in
    let waiting : x.pending ≡ Some z = ap (λ (w : SlotProcess). w.pending) n.same ∙ c.in-Some.is in
    let e = c.in-Ready.ensures.served in
    let b = in_model x z waiting in
    let free = allowed x z waiting t p here served.Ready (e.ended t p here.agrees) refl in
    let can = can_reside (body_in x) t p z.access z.va.0 z.width here.agrees free in
    let r = e.ready refl t p can in
    let y : SlotProcess = record { space = c.serve.new.space; pending = Some (record { access = z.access; va = z.va; width = z.width; served = true }) } in
    rw (← n.same, ← n.frames) (subst (λ (q : model.Pending). HasServed x y t p q (was_served q) c.args.files.now c.is_resident-resident.new.frames c.serve.new.store) (it_is x z waiting t p a here is) (record {
      allowed = free;
      tables = r.0;
      count = r.1;
      resides = r.2;
      counts = λ f n on at. r.3 f n on at tt;
      slot_process = λ fresh. record {
        agrees = agrees_pending _ _ _ _ _ (made_resident c.args.files.now fresh (is_shared_by r.1) p z.access (page_of z.va.0)) (r.2.agrees fresh) (Some (record b { served = true }));
        framed = rw c.serve.ensures.served.place.trapframe here.framed;
        pending = refl;
        wide = has_bytes x z waiting t p here;
      };
      enough = λ shared told. e.enough tt t p shared can told refl;
      free = λ shared told. e.free tt t p shared can told;
    }))

pub returns-in-Ready-clause-changed : goal.returns-in-Ready-clause-changed
returns-in-Ready-clause-changed c t p a slot_process is =
    let n = c.is_resident-resident.ensures in
    let x = c.args.self.now in
    let z = c.in-Some.pending in
    let free = allowed x z c.in-Some.is t p slot_process served.Ready (c.in-Ready.ensures.served.ended t p (rw n.same slot_process.agrees)) refl in
    subst (λ (q : model.Pending). not c.is_resident-resident.result ≡ not (is_resident p q.access (page_of q.address))) (it_is x z c.in-Some.is t p a slot_process is)
    (ap not (no_rule_tells p z.access z.va.0 z.width free c.is_resident-resident.result (n.granted t p slot_process)))

pub returns-in-Ready-clause-files : goal.returns-in-Ready-clause-files
returns-in-Ready-clause-files c =
    let r = c.requires.ready in
    c.in-Ready.ensures.served.moves (λ e un. cc) r.0 r.1 (rw c.is_resident-resident.ensures.same r.2.agrees) ∙ only_reads c.args.files.now r.1 _ _

pub returns-in-Ended-clause-must_end : goal.returns-in-Ended-clause-must_end
returns-in-Ended-clause-must_end c t p a slot_process is =
    let n = c.is_resident-resident.ensures in
    let x = c.is_resident-resident.new.self in
    let frames = c.is_resident-resident.new.frames in
    let here : IsSlotProcess x t p = rw n.same slot_process in
    let z = c.in-Some.pending in
    let waiting : x.pending ≡ Some z = ap (λ (w : SlotProcess). w.pending) n.same ∙ c.in-Some.is in
    let e = c.in-Ended.ensures.served in
    let b = in_model x z waiting in
    let y : SlotProcess = record { space = c.serve.new.space; pending = x.pending } in
    rw (← n.frames) (subst (λ (q : model.Pending). MustEnd y t p q frames c.in-Ended.rule) (it_is x z waiting t p a here is) (record {
      slot_process = record {
        agrees = e.whole c.in-Ended.rule refl t p here.agrees;
        framed = rw c.serve.ensures.served.place.trapframe here.framed;
        pending = here.pending;
        wide = here.wide;
      };
      why = why x z waiting t p here (served.Ended c.in-Ended.rule) (e.ended t p here.agrees) c.in-Ended.rule refl (WhenShared frames t p b (λ need. frames.free < need))
          (λ free dry shared told. e.short tt t p shared (can_reside (body_in x) t p z.access z.va.0 z.width here.agrees free) told (ap served.Ended dry));
    }))

pub returns-in-Ended-clause-files : goal.returns-in-Ended-clause-files
returns-in-Ended-clause-files c =
    let r = c.requires.ready in
    c.in-Ended.ensures.served.moves (λ e un. cc) r.0 r.1 (rw c.is_resident-resident.ensures.same r.2.agrees) ∙ only_reads c.args.files.now r.1 _ _

pub serve-requires-clause-ready : goal.serve-requires-clause-ready
serve-requires-clause-ready c = let r = c.requires.ready in (r.0, r.1, rw c.is_resident-resident.ensures.same r.2.agrees)

pub returns-in-Ready-clause-keeps : goal.returns-in-Ready-clause-keeps
returns-in-Ready-clause-keeps c others r = let n = c.is_resident-resident.ensures in c.serve.ensures.served.keeps others (rw (n.frames, n.same) r)

pub returns-in-Ended-clause-keeps : goal.returns-in-Ended-clause-keeps
returns-in-Ended-clause-keeps c others r = let n = c.is_resident-resident.ensures in c.serve.ensures.served.keeps others (rw (n.frames, n.same) r)

-- the files are in memory, and promise all that is asked
pub unreachable-requires-in-Unserved : goal.unreachable-requires-in-Unserved
unreachable-requires-in-Unserved c = (c.in-Unserved.ensures.served.unpromised _ refl).1
