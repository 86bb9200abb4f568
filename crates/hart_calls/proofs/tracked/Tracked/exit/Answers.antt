use Rattle.std.proofs.Common.{◌≡◌, ◌∙◌, ℤ, ap, sym, subst, w32, length, ◌<◌}
use Rattle.std.proofs.lemmas.Int.{to_z-of_z}
use Rattle.hart_calls.specs.ProcessEnd.{Closes}
use Rattle.hart_calls.specs.Track.{next_of, Track}
use Rattle.hart_calls.specs.TurnCases.{KeepsFilesByOutcome, IsOver}
use Rattle.process_model.specs.declared.call.ProcessEnd.{ProcessEnd}
use Rattle.process_model.specs.declared.call.ProcessEnd.TheVariants as outcome
use Rattle.hart_calls.proofs.Parting.{exit_filed, exit_over}
use Rattle.process_model.specs.declared.call.Call.TheVariants as call
use Rattle.process_model.specs.declared.reply.ScalarReply.TheVariants as scalar
use Rattle.process_model.specs.declared.reply.Reply.TheVariants as reply
use Rattle.hart_calls.proofs.tracked.Tracked.exit.Goals as goal
use Rattle.process_model.specs.declared.limits.TheConstants.{MOST_ENTRIES}

pub returns-clause-over : goal.returns-clause-over
returns-clause-over g c =
    let next = subst (λ (t : Track). next_of t ≡ call.Exit c.args.status) (sym c.self.view_is) c.requires.next in
    let e = c.exit_entry-entry.ensures in
    let round = to_z-of_z w32 c.args.status c.ranges.status in
    let closes = subst (λ (o : ProcessEnd). Closes c.self.inside.parts.present.state c.self.inside.parts.journal.items c.exit_entry-entry.result o c.close.result c.args.shelf.now c.close.new.shelf) (c.exited.ensures ∙ ap (λ (z : ℤ). outcome.Exited z) round) c.close.ensures.closes in
    subst (λ (t : Track). IsOver g.B.RunBrand.table t c.close.result) c.self.view_is
    (exit_over _ c.args.status c.exit_entry-entry.result (e.call ∙ c.listed-listed.ensures ∙ c.requires.next) (e.reply ∙ ap (λ (z : ℤ). (reply.Scalar (scalar.Exited z))) round) e.pages e.file (e.before ∙ c.kept-before.ensures) next c.self.invariant.2 (subst (λ (t : Track). length t.journal < MOST_ENTRIES) (sym c.self.view_is) c.requires.few) c.close.result c.close.ensures.name g.B.RunBrand.table c.close.ensures.fits c.close.ensures.bare c.close.ensures.tallies c.args.shelf.now c.close.new.shelf closes)

pub returns-clause-files : goal.returns-clause-files
returns-clause-files g c =
    let next = subst (λ (t : Track). next_of t ≡ call.Exit c.args.status) (sym c.self.view_is) c.requires.next in
    let e = c.exit_entry-entry.ensures in
    let round = to_z-of_z w32 c.args.status c.ranges.status in
    let closes = subst (λ (o : ProcessEnd). Closes c.self.inside.parts.present.state c.self.inside.parts.journal.items c.exit_entry-entry.result o c.close.result c.args.shelf.now c.close.new.shelf) (c.exited.ensures ∙ ap (λ (z : ℤ). outcome.Exited z) round) c.close.ensures.closes in
    subst (λ (t : Track). KeepsFilesByOutcome t c.close.result c.close.result.outcome c.args.shelf.now c.close.new.shelf) c.self.view_is
    (exit_filed _ c.args.status c.exit_entry-entry.result (e.call ∙ c.listed-listed.ensures ∙ c.requires.next) (e.reply ∙ ap (λ (z : ℤ). (reply.Scalar (scalar.Exited z))) round) e.pages e.file (e.before ∙ c.kept-before.ensures) next c.self.invariant.2 (subst (λ (t : Track). length t.journal < MOST_ENTRIES) (sym c.self.view_is) c.requires.few) c.close.result c.close.ensures.name g.B.RunBrand.table c.close.ensures.fits c.close.ensures.bare c.close.ensures.tallies c.args.shelf.now c.close.new.shelf closes)
