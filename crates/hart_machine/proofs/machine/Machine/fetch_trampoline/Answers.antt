use Rattle.std.proofs.Common.{◌∙◌, ap, inr, sym, arith, refl, ◌≡◌, ℕ, ◌*◌, ◌+◌, subst}
use Rattle.std.specs.Prelude.{is_ok}
use Rattle.hart_machine.proofs.HartSteps.{has_hart, no_hart}
use Rattle.hart_machine.proofs.Trampolines.{beyond, elsewhere, fetches_code, finds_code, finds_leaf, misaligned, no_entry, nowhere}
use Rattle.hart_machine.proofs.machine.Machine.fetch_trampoline.Goals as goal
use Rattle.hart_machine.proofs.machine.Machine.fetch_trampoline.Goals.{then-offset-ne0-via-then-offset-ne0, then-offset-ne0-via-else-offset-ne0+then-offset-ge-PAGE_SIZE}
use Rattle.hart_machine.specs.Harts.{hart_of}
use Rattle.hart_machine.specs.Tables.{IsTranslated}
use Rattle.sv39_entry.specs.Schemes.{trampoline_page}
use Rattle.sv39_entry.specs.declared.scheme.Scheme.{Scheme}
use Rattle.sv39_entry.specs.declared.access.Access.TheVariants.{Fetch}
use Rattle.sv39_entry.specs.declared.access.Mode.TheVariants.{Supervisor}
use Rattle.process_model.specs.Harts.{entry_serves}

-- the address that is fetched from, by the scheme of the machine and by that of the world
at_machine : (z : Scheme) (base offset : ℕ) → base ≡ 4096 * trampoline_page z → base + offset ≡ 4096 * trampoline_page z + offset
at_machine z base offset at = ap (λ a. a + offset) at

at_world : (y z : Scheme) (base offset : ℕ) → y ≡ z → base ≡ 4096 * trampoline_page y → base + offset ≡ 4096 * trampoline_page z + offset
at_world y z base offset same at = ap (λ a. a + offset) (at ∙ ap (λ k. 4096 * trampoline_page k) same)

pub returns-in_default-clause-made : goal.returns-in_default-clause-made
returns-in_default-clause-made c w buffered =
    let is = buffered.world in
    nowhere c.args.self.now w is c.args.hart c.args.offset c.args.via (no_hart c.args.self.now w is c.args.hart (sym c.in_default.is ∙ c.phase_of.ensures))

pub returns-then-offset-ne0-clause-made : goal.returns-then-offset-ne0-clause-made
returns-then-offset-ne0-clause-made c w buffered =
    let is = buffered.world in
    elim c.then-offset-ne0.branch [
      | then-offset-ne0-via-then-offset-ne0 b ↦ misaligned c.args.self.now w is c.args.hart c.args.offset c.args.via b.if-offset-ne0.true
      | then-offset-ne0-via-else-offset-ne0+then-offset-ge-PAGE_SIZE b ↦ beyond c.args.self.now w is c.args.hart c.args.offset c.args.via b.if-offset-ge-PAGE_SIZE.true
    ]

pub returns-then-not-in_trampoline-clause-made : goal.returns-then-not-in_trampoline-clause-made
returns-then-not-in_trampoline-clause-made c w buffered =
    let is = buffered.world in
    let has = has_hart c.args.self.now w is c.args.hart c.in-Some.phase (sym c.in-Some.is ∙ c.phase_of.ensures) in
    elsewhere c.args.self.now w is c.args.hart c.args.offset c.args.via c.if-offset-ne0.false (omega (arith, c.if-offset-ge-PAGE_SIZE.false)) c.in-Some.phase has
    (sym c.in_trampoline.ensures ∙ c.if-not-in_trampoline.true)

pub returns-in_default-translate_kernel-clause-made : goal.returns-in_default-translate_kernel-clause-made
returns-in_default-translate_kernel-clause-made c w buffered =
    let is = buffered.world in
    let has = has_hart c.args.self.now w is c.args.hart c.in-Some.phase (sym c.in-Some.is ∙ c.phase_of.ensures) in
    no_entry c.args.self.now w is c.args.hart c.args.offset c.args.via c.if-offset-ne0.false (omega (arith, c.if-offset-ge-PAGE_SIZE.false)) c.in-Some.phase has
    (sym c.in_trampoline.ensures ∙ c.if-not-in_trampoline.false) c.translate_kernel.new.self ((c.translate_kernel.ensures.world w is).0)
    (ap (λ a. entry_serves c.args.self.now.policy (hart_of has.hart) a c.args.via) (sym (at_world _ w.scheme _ c.args.offset is.scheme c.trampoline-trampoline.ensures)) ∙ sym (c.translate_kernel.ensures.serves w has.hart is has.there) ∙ ap is_ok c.in_default-translate_kernel.is)

pub unreachable-requires : goal.unreachable-requires
unreachable-requires c =
    let r = c.requires.world in
    let has = has_hart c.args.self.now r.0 (r.1).world c.args.hart c.in-Some.phase (sym c.in-Some.is ∙ c.phase_of.ensures) in
    finds_leaf c.args.self.now.kernel.scheme c.args.offset (omega (arith, c.if-offset-ge-PAGE_SIZE.false)) c.args.self.now r.0 (r.1).world refl c.args.hart has.hart has.there c.in-Ok.walk
    (subst (λ a. IsTranslated c.args.self.now.kernel.scheme has.hart (r.1).world.tables (r.1).world.kernel a Fetch Supervisor c.in-Ok.walk) (at_machine _ _ c.args.offset c.trampoline-trampoline.ensures) (c.in-Ok.ensures.walk r.0 r.1 has.hart has.there (inr (omega (arith, c.if-offset-ge-PAGE_SIZE.false, c.trampoline-trampoline.ensures))))) c.in_default-walk.not-Leaf

pub unreachable-requires-in_default-from_ppn : goal.unreachable-requires-in_default-from_ppn
unreachable-requires-in_default-from_ppn c =
    let r = c.requires.world in
    let has = has_hart c.args.self.now r.0 (r.1).world c.args.hart c.in-Some.phase (sym c.in-Some.is ∙ c.phase_of.ensures) in
    let code = finds_code c.args.self.now.kernel.scheme c.args.offset (omega (arith, c.if-offset-ge-PAGE_SIZE.false)) c.args.self.now r.0 (r.1).world refl c.args.hart has.hart has.there c.in-Ok.walk
    (subst (λ a. IsTranslated c.args.self.now.kernel.scheme has.hart (r.1).world.tables (r.1).world.kernel a Fetch Supervisor c.in-Ok.walk) (at_machine _ _ c.args.offset c.trampoline-trampoline.ensures) (c.in-Ok.ensures.walk r.0 r.1 has.hart has.there (inr (omega (arith, c.if-offset-ge-PAGE_SIZE.false, c.trampoline-trampoline.ensures))))) c.in-Leaf.word c.in-Leaf.level c.in-Leaf.address c.in-Leaf.is in
    let both = sym c.in_default-from_ppn.is ∙ c.from_ppn.ensures ∙ code in
    cc

pub returns-clause-made : goal.returns-clause-made
returns-clause-made c w buffered =
    let is = buffered.world in
    let has = has_hart c.args.self.now w is c.args.hart c.in-Some.phase (sym c.in-Some.is ∙ c.phase_of.ensures) in
    let code = finds_code c.args.self.now.kernel.scheme c.args.offset (omega (arith, c.if-offset-ge-PAGE_SIZE.false)) c.args.self.now w is refl c.args.hart has.hart has.there c.in-Ok.walk
    (subst (λ a. IsTranslated c.args.self.now.kernel.scheme has.hart is.tables is.kernel a Fetch Supervisor c.in-Ok.walk) (at_machine _ _ c.args.offset c.trampoline-trampoline.ensures) (c.in-Ok.ensures.walk w buffered has.hart has.there (inr (omega (arith, c.if-offset-ge-PAGE_SIZE.false, c.trampoline-trampoline.ensures))))) c.in-Leaf.word c.in-Leaf.level c.in-Leaf.address c.in-Leaf.is in
    rw c.from.ensures (fetches_code c.args.self.now w is c.args.hart c.args.offset c.args.via c.if-offset-ne0.false (omega (arith, c.if-offset-ge-PAGE_SIZE.false)) c.in-Some.phase has
    (sym c.in_trampoline.ensures ∙ c.if-not-in_trampoline.false) c.translate_kernel.new.self ((c.translate_kernel.ensures.world w is).0)
    (ap (λ a. entry_serves c.args.self.now.policy (hart_of has.hart) a c.args.via) (sym (at_world _ w.scheme _ c.args.offset is.scheme c.trampoline-trampoline.ensures)) ∙ sym (c.translate_kernel.ensures.serves w has.hart is has.there) ∙ ap is_ok c.in-Ok.is) c.in-Some-from_ppn.frame (sym c.in-Some-from_ppn.is ∙ c.from_ppn.ensures ∙ code))
