use Rattle.std.proofs.Common.{◌≡◌, ◌-◌, ◌∙◌, [], None, refl, sym, subst}
use Rattle.std.specs.Prelude.{vec_capacity, vec_len}
use Rattle.address_space.specs.Agreement.{body_of, IsSpace}
use Rattle.hart_calls.specs.Track.{AppendsEntry, next_of, Track}
use Rattle.hart_calls.specs.TurnCases.{ContinuesTurn}
use Rattle.hart_calls.specs.Shortages.{refused}
use Rattle.hart_calls.proofs.Parting.{fork_calm, fork_leads, fork_stays, IsForkOf}
use Rattle.process_model.specs.Process.{Process}
use Rattle.process_model.specs.declared.call.Call.TheVariants as call
use Rattle.process_model.specs.declared.reply.ScalarReply.TheVariants as scalar
use Rattle.process_model.specs.declared.reply.Reply.TheVariants as reply
use Rattle.shared_frames.specs.SeatsOfTable.{view_of}
use Rattle.hart_calls.proofs.tracked.Tracked.refuse_fork.Goals as goal

pub append_entry-requires-clause-agrees : goal.append_entry-requires-clause-agrees
append_entry-requires-clause-agrees g c =
    let p = c.self.invariant.1 in
    (p.0, subst (λ (q : Process). IsSpace (body_of view_of c.self.inside.parts.space.value) p.0 q) (sym c.kept-present.ensures) p.1)

pub append_entry-requires-clause-leads : goal.append_entry-requires-clause-leads
append_entry-requires-clause-leads g c =
    let e = c.answer-entry.ensures in
    ([], fork_leads _ _ c.answer-entry.result c.args.list (refused 0 c.args.refusal) (reply.Scalar (scalar.Refused c.args.refusal)) (record { call = e.call ∙ c.listed-listed.ensures ∙ c.requires.next; answer = e.reply; pages = e.pages; file = e.file; before = e.before ∙ c.kept-before.ensures }) c.requires.refusal refl _ c.kept-present.ensures)

pub returns : goal.returns
returns g c =
    let t : Track = record {
      name = c.self.inside.parts.name.items;
      lists = c.self.inside.parts.lists.now;
      list = c.self.inside.parts.list;
      opening = c.self.inside.parts.opening.state;
      state = c.self.inside.parts.present.state;
      journal = c.self.inside.parts.journal.items;
      seat = view_of c.self.inside.parts.space.value.seat;
      room = vec_capacity c.self.inside.parts.journal - vec_len c.self.inside.parts.journal;
    } in
    let e = c.answer-entry.ensures in
    let r = c.append_entry.ensures in
    let next = subst (λ (z : Track). next_of z ≡ call.Fork c.args.list) (sym c.self.view_is) c.requires.next in
    let is : IsForkOf t.state c.answer-entry.result c.args.list (reply.Scalar (scalar.Refused c.args.refusal)) = record { call = e.call ∙ c.listed-listed.ensures ∙ c.requires.next; answer = e.reply; pages = e.pages; file = e.file; before = e.before ∙ c.kept-before.ensures } in
    let adds : AppendsEntry t c.append_entry.result c.answer-entry.result = record { name = r.name; lists = r.lists; list = r.list; opening = r.opening; journal = r.journal; next = is.call ∙ sym next } in
    record {
      goes = subst (λ (z : Track). ContinuesTurn z c.append_entry.result None c.args.slot.now) c.self.view_is
          (fork_stays t c.append_entry.result c.answer-entry.result c.args.list c.args.slot.now c.args.refusal is c.requires.refusal adds (r.state ∙ c.kept-present.ensures) c.requires.answer
          (fork_calm t c.append_entry.result c.args.list c.args.refusal c.requires.refusal c.requires.framed c.requires.counted));
    }
