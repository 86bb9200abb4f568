use Rattle.std.proofs.Common.{◌<◌, length, List, refl, ap, subst, sym, ◌∙◌}
use Rattle.std.proofs.lemmas.Bool.{ltb-true}
use Rattle.std.proofs.lemmas.Option.{slice_get_read}
use Rattle.hart_tlb.specs.Entries.{is_match}
use Rattle.std.specs.Prelude.{slice_get}
use Rattle.process_model.specs.Harts.{present_asid}
use Rattle.hart_machine.specs.Harts.{hart_of}
use Rattle.hart_machine.specs.declared.hart.Hart.{Hart}
use Rattle.hart_machine.proofs.AccessingEntries.{answer_is, entry_there, if_ok, match_is, ok_by, same_hart}
use Rattle.hart_machine.proofs.HartSteps.{slot_low}
use Rattle.hart_machine.proofs.machine.Machine.translate_by_entry.Goals as goal

pub asid-asid-requires : goal.asid-asid-requires
asid-asid-requires c =
    let r = c.requires.world in
    let x = c.in-Some.hart.now in
    record { slot = slot_low c.args.self.now r.0 r.1 c.args.hart x (slice_get_read c.args.self.now.harts.items _ c.args.hart x refl (subst (λ (hs : List Hart). c.args.hart < length hs) c.deref.ensures.value (ltb-true _ _ (sym c.in-Some.ensures.lookup.0))) (c.in-Some.ensures.lookup.1 ∙ rw c.deref.ensures.value refl)) }

pub returns-clause-serves : goal.returns-clause-serves
returns-clause-serves c w x is at =
    let same = same_hart c.args.self.now.harts.items c.args.hart x c.in-Some.hart.now (c.in-Some.ensures.lookup.1 ∙ rw c.deref.ensures.value refl) at in
    let a = c.args.va.0 in
    let policy = c.args.self.now.policy in
    ok_by c.use_entry.result _ c.use_entry.ensures.there
    ∙ ap (λ (y : Hart). is_match a c.asid-asid.result (slice_get y.buffer c.args.entry)) same
    ∙ match_is policy x (λ e there. is.local c.args.hart x e at there) a c.args.entry c.asid-asid.result (c.asid-asid.ensures ∙ ap (λ (y : Hart). present_asid policy (hart_of y)) same)

pub returns-clause-walk : goal.returns-clause-walk
returns-clause-walk c = if_ok c.use_entry.result _ _ c.use_entry.ensures.ok
    (λ z ok answers w is x at ask.
    let same = same_hart c.args.self.now.harts.items c.args.hart x c.in-Some.hart.now (c.in-Some.ensures.lookup.1 ∙ rw c.deref.ensures.value refl) at in
    let a = c.args.va.0 in
    let m = c.args.self.now in
    answer_is m.kernel.scheme a c.args.access c.args.mode z (is.world).tables (is.world).kernel x m.policy m.slots.items (λ asid. is.clean asid c.args.hart x at) ((is.world).idle c.args.hart x at) (λ s on. (is.world).hosted c.args.hart s x at on) ask
    c.args.entry c.asid-asid.result (c.asid-asid.ensures ∙ ap (λ (y : Hart). present_asid m.policy (hart_of y)) same)
    (λ e there. (is.buffers c.args.hart x e at (entry_there x c.args.entry e there), (is.world).local c.args.hart x e at (entry_there x c.args.entry e there)))
    (ap (λ (y : Hart). is_match a c.asid-asid.result (slice_get y.buffer c.args.entry)) (sym same) ∙ c.use_entry.ensures.there.0 ok)
    (λ e there. answers e (ap (λ (y : Hart). slice_get y.buffer c.args.entry) same ∙ there)))
