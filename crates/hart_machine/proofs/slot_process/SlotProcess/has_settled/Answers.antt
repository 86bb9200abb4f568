use Rattle.std.proofs.Common.{◌≡◌, ℕ, sym, ◌∙◌, arith, ap}
use Rattle.std.specs.Prelude.{min}
use Rattle.address_space.specs.SpacesInCalls.{space_in_call}
use Rattle.hart_machine.proofs.Watched.{none_settled, some_settled}
use Rattle.hart_machine.proofs.slot_process.SlotProcess.has_settled.Goals as goal
use Rattle.sv39_entry.specs.Schemes.{trapframe_page}

pub next_settled-requires-clause-ready : goal.next_settled-requires-clause-ready
next_settled-requires-clause-ready c = let r = c.requires.ready in (r.0, r.1, space_in_call r.2.agrees)

pub next_settled-requires-clause-low : goal.next_settled-requires-clause-low
next_settled-requires-clause-low c = let is : ◌≡◌ {A = ℕ} c.page_up_to-end.result (min c.args.end (trapframe_page c.scheme-scheme.result)) = c.page_up_to-end.ensures in
    omega (arith, is, ap trapframe_page c.scheme-scheme.ensures)

pub returns-clause-some : goal.returns-clause-some
returns-clause-some c some t p slot_process =
    some_settled t p c.args.first c.args.end c.page_up_to-end.result (c.page_up_to-end.ensures ∙ ap (λ k. min c.args.end (trapframe_page k)) (c.scheme-scheme.ensures ∙ sym slot_process.agrees.lays.scheme)) c.next_settled.result (c.next_settled.ensures.page t p (space_in_call slot_process.agrees)) (sym c.is_some.ensures ∙ some)

pub returns-clause-none : goal.returns-clause-none
returns-clause-none c none t p slot_process =
    none_settled t p c.args.first c.args.end c.page_up_to-end.result (c.page_up_to-end.ensures ∙ ap (λ k. min c.args.end (trapframe_page k)) (c.scheme-scheme.ensures ∙ sym slot_process.agrees.lays.scheme)) slot_process.agrees.stands.shows.low c.next_settled.result (c.next_settled.ensures.page t p (space_in_call slot_process.agrees)) (sym c.is_some.ensures ∙ none)
