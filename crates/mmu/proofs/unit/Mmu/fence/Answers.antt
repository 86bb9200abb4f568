use Rattle.std.proofs.Common.{ℕ, Option, None, Some, ap, subst, sym, ◌∙◌}
use Rattle.sv39_entry.specs.declared.address.Va.{Va}
use Rattle.access_history.specs.declared.event.Event.TheVariants.{Fence}
use Rattle.access_judge.specs.Quiet.{HasNoGlobals}
use Rattle.mmu.specs.Pasts.{past}
use Rattle.mmu.specs.Recorded.{past_of}
use Rattle.mmu.specs.Units.{fenced, happened}
use Rattle.mmu.proofs.Beginning.{begun_restarted}
use Rattle.mmu.proofs.Local.{after_fenced, either}
use Rattle.mmu.proofs.unit.Mmu.fence.Goals as goal

pub returns-in-None-None-clause-ok : goal.returns-in-None-None-clause-ok
returns-in-None-None-clause-ok c =
    let old = past c.args.self.now in
    c.forget.ensures.past ∙ begun_restarted c.args.self.now.history c.args.self.now.sound
    ∙ sym (ap (λ (a : Option Va). fenced a c.args.asid old) c.in-None-None.is-0 ∙ ap (λ (s : Option ℕ). fenced None s old) c.in-None-None.is-1)

pub invariant_of-self-clause-local : goal.invariant_of-self-clause-local
invariant_of-self-clause-local c = λ none.
    let old = c.args.self.now in
    let before = old.local none in
    either c.fence_address.result (past_of c.fence_address.new.self) (past_of old.history) (happened (Fence (Some c.in-Some-default.va) c.args.asid) (past_of old.history)) c.fence_address.ensures.ok
    c.fence_address.ensures.err before (after_fenced (past_of old.history) (Some c.in-Some-default.va) c.args.asid before)

pub invariant_of-self-in-None-Some-clause-local : goal.invariant_of-self-in-None-Some-clause-local
invariant_of-self-in-None-Some-clause-local c = λ none.
    let old = c.args.self.now in
    let before = old.local none in
    either c.fence_space.result (past_of c.fence_space.new.self) (past_of old.history) (happened (Fence None (Some c.in-None-Some.asid)) (past_of old.history)) c.fence_space.ensures.ok
    c.fence_space.ensures.err before (after_fenced (past_of old.history) None (Some c.in-None-Some.asid) before)

pub invariant_of-self-in-None-None-clause-local : goal.invariant_of-self-in-None-None-clause-local
invariant_of-self-in-None-None-clause-local c = λ none.
    let old = c.args.self.now in
    subst HasNoGlobals (sym (c.forget.ensures.past ∙ begun_restarted old.history old.sound)) (after_fenced (past_of old.history) None None (old.local none))
