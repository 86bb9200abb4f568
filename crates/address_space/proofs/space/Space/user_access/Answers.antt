use Rattle.std.proofs.Common.{None, ap, sym, ◌∙◌, refl}
use Rattle.frame_store.specs.View.{View}
use Rattle.process_model.specs.declared.reply.ScalarReply.TheVariants.{Value}
use Rattle.process_model.specs.declared.reply.Reply.TheVariants.{Scalar}
use Rattle.address_space.specs.Accesses.{request_of}
use Rattle.address_space.proofs.PendingAccess.{agrees_pending}
use Rattle.address_space.proofs.DroppedLeaf.{takes_none}
use Rattle.address_space.proofs.UserAnswers.{answers_load, answers_store, fault_answer, granted, misaligned, on_frame, still_agrees}
use Rattle.address_space.proofs.space.Space.user_access.Goals as goal

pub returns-then-misalignment-ne0-clause-reply : goal.returns-then-misalignment-ne0-clause-reply
returns-then-misalignment-ne0-clause-reply g c t p agrees walks = rw (misaligned p (request_of c.args.request) (λ is. c.if-misalignment-ne0.true (c.misalignment.ensures ∙ is)), c.misaligned_cause.ensures) refl

pub returns-then-misalignment-ne0-clause-after : goal.returns-then-misalignment-ne0-clause-after
returns-then-misalignment-ne0-clause-after g c t p agrees walks = still_agrees _ _ _ _ t p agrees (request_of c.args.request) _ (misaligned p (request_of c.args.request) (λ is. c.if-misalignment-ne0.true (c.misalignment.ensures ∙ is)))

pub returns-in-PageFault-clause-reply : goal.returns-in-PageFault-clause-reply
returns-in-PageFault-clause-reply g c t p agrees walks =
    rw (fault_answer _ _ _ _ t p agrees (request_of c.args.request) (sym c.misalignment.ensures ∙ c.if-misalignment-ne0.false) c.args.walk c.in-PageFault.cause walks c.in-PageFault.is) refl

pub returns-in-PageFault-clause-after : goal.returns-in-PageFault-clause-after
returns-in-PageFault-clause-after g c t p agrees walks =
    still_agrees _ _ _ _ t p agrees (request_of c.args.request) _ (fault_answer _ _ _ _ t p agrees (request_of c.args.request) (sym c.misalignment.ensures ∙ c.if-misalignment-ne0.false) c.args.walk c.in-PageFault.cause walks c.in-PageFault.is)

pub unreachable-requires : goal.unreachable-requires
unreachable-requires g c =
    let r = c.requires.ready in
    let found = granted _ _ _ _ r.0 r.1 r.2 (request_of c.args.request) (sym c.misalignment.ensures ∙ c.if-misalignment-ne0.false) _ _ _ (sym c.in-Leaf.is ∙ r.3) in
    let both = sym c.in_default.is ∙ c.from_ppn.ensures ∙ found.framed in
    cc

pub write_at-requires-clause-ready : goal.write_at-requires-clause-ready
write_at-requires-clause-ready g c =
    let r = c.requires.ready in
    let found = granted _ _ _ _ r.0 r.1 r.2 (request_of c.args.request) (sym c.misalignment.ensures ∙ c.if-misalignment-ne0.false) _ _ _ (sym c.in-Leaf.is ∙ r.3) in
    (r.0, r.1, found.page, found.writes c.in-Store.is, on_frame _ _ _ _ r.0 r.1 r.2 (request_of c.args.request) (sym c.misalignment.ensures ∙ c.if-misalignment-ne0.false) _ found c.in-Some.frame (sym c.from_ppn.ensures ∙ c.in-Some.is))

pub read_at-requires : goal.read_at-requires
read_at-requires g c =
    let r = c.requires.ready in
    let found = granted _ _ _ _ r.0 r.1 r.2 (request_of c.args.request) (sym c.misalignment.ensures ∙ c.if-misalignment-ne0.false) _ _ _ (sym c.in-Leaf.is ∙ r.3) in
    record {
      fits = c.requires.fits;
      ready = (r.0, r.1, found.page, found.can, on_frame _ _ _ _ r.0 r.1 r.2 (request_of c.args.request) (sym c.misalignment.ensures ∙ c.if-misalignment-ne0.false) _ found c.in-Some.frame (sym c.from_ppn.ensures ∙ c.in-Some.is));
      width = c.requires.width;
      aligned = sym c.misalignment.ensures ∙ c.if-misalignment-ne0.false;
    }

pub returns-in-Store-clause-reply : goal.returns-in-Store-clause-reply
returns-in-Store-clause-reply g c t p agrees walks =
    let found = granted _ _ _ _ t p agrees (request_of c.args.request) (sym c.misalignment.ensures ∙ c.if-misalignment-ne0.false) _ _ _ (sym c.in-Leaf.is ∙ walks) in
    rw (answers_store _ _ _ _ t p agrees (request_of c.args.request) (sym c.misalignment.ensures ∙ c.if-misalignment-ne0.false) _ found c.in-Store.is) refl

pub returns-in-Store-clause-after : goal.returns-in-Store-clause-after
returns-in-Store-clause-after g c t p agrees walks =
    let found = granted _ _ _ _ t p agrees (request_of c.args.request) (sym c.misalignment.ensures ∙ c.if-misalignment-ne0.false) _ _ _ (sym c.in-Leaf.is ∙ walks) in
    let on = on_frame _ _ _ _ t p agrees (request_of c.args.request) (sym c.misalignment.ensures ∙ c.if-misalignment-ne0.false) _ found c.in-Some.frame (sym c.from_ppn.ensures ∙ c.in-Some.is) in
    rw (answers_store _ _ _ _ t p agrees (request_of c.args.request) (sym c.misalignment.ensures ∙ c.if-misalignment-ne0.false) _ found c.in-Store.is)
    (agrees_pending _ _ _ _ t _ (c.write_at.ensures.agrees t p found.page (found.writes c.in-Store.is) on) None)

pub returns-in-Fetch : goal.returns-in-Fetch
returns-in-Fetch g c = record {
  reply = λ t p agrees walks.
      let found = granted _ _ _ _ t p agrees (request_of c.args.request) (sym c.misalignment.ensures ∙ c.if-misalignment-ne0.false) _ _ _ (sym c.in-Leaf.is ∙ walks) in
      let on = on_frame _ _ _ _ t p agrees (request_of c.args.request) (sym c.misalignment.ensures ∙ c.if-misalignment-ne0.false) _ found c.in-Some.frame (sym c.from_ppn.ensures ∙ c.in-Some.is) in
      rw (answers_load _ _ _ _ t p agrees (request_of c.args.request) (sym c.misalignment.ensures ∙ c.if-misalignment-ne0.false) _ found c.in-Fetch.is) (ap (λ x. Scalar (Value x)) (c.read_at.ensures.value t p found.page found.can on));
  after = λ t p agrees walks.
      let found = granted _ _ _ _ t p agrees (request_of c.args.request) (sym c.misalignment.ensures ∙ c.if-misalignment-ne0.false) _ _ _ (sym c.in-Leaf.is ∙ walks) in
      let on = on_frame _ _ _ _ t p agrees (request_of c.args.request) (sym c.misalignment.ensures ∙ c.if-misalignment-ne0.false) _ found c.in-Some.frame (sym c.from_ppn.ensures ∙ c.in-Some.is) in
      rw (answers_load _ _ _ _ t p agrees (request_of c.args.request) (sym c.misalignment.ensures ∙ c.if-misalignment-ne0.false) _ found c.in-Fetch.is, c.read_at.ensures.reads.view, c.read_at.ensures.reads.root, c.read_at.ensures.reads.trapframe, c.read_at.ensures.reads.layout)
      (agrees_pending _ _ _ _ t p agrees None);
  place = record { root = c.read_at.ensures.reads.root; trapframe = c.read_at.ensures.reads.trapframe; layout = c.read_at.ensures.reads.layout };
  view = λ apart. c.read_at.ensures.reads.view;
  same = λ apart. c.read_at.ensures.reads.same;
  tallies = takes_none _ _ (ap (λ (v : View). v.tallies) c.read_at.ensures.reads.view);
  keeps = c.read_at.ensures.keeps;
  free = λ alone. ap g.F.FrameAccess.free c.read_at.ensures.reads.same;
  counts = λ alone f. ap (λ x. g.F.FrameAccess.count x f) c.read_at.ensures.reads.same;
}

pub returns-in-PageFault-2-clause-reply : goal.returns-in-PageFault-2-clause-reply
returns-in-PageFault-2-clause-reply g c t p agrees walks =
    rw (fault_answer _ _ _ _ t p agrees (request_of c.args.request) (sym c.misalignment.ensures ∙ c.if-misalignment-ne0.false) c.args.walk c.in-PageFault.cause walks c.in-PageFault.is) refl

pub returns-in-PageFault-2-clause-after : goal.returns-in-PageFault-2-clause-after
returns-in-PageFault-2-clause-after g c t p agrees walks =
    still_agrees _ _ _ _ t p agrees (request_of c.args.request) _ (fault_answer _ _ _ _ t p agrees (request_of c.args.request) (sym c.misalignment.ensures ∙ c.if-misalignment-ne0.false) c.args.walk c.in-PageFault.cause walks c.in-PageFault.is)

pub returns-in-Store-clause-view : goal.returns-in-Store-clause-view
returns-in-Store-clause-view g c apart = absurd (apart refl)

pub returns-in-Store-clause-same : goal.returns-in-Store-clause-same
returns-in-Store-clause-same g c apart = absurd (apart refl)

pub returns-then-misalignment-ne0-clause-tallies : goal.returns-then-misalignment-ne0-clause-tallies
returns-then-misalignment-ne0-clause-tallies g c = takes_none _ _ refl

pub returns-in-PageFault-clause-tallies : goal.returns-in-PageFault-clause-tallies
returns-in-PageFault-clause-tallies g c = takes_none _ _ refl

pub returns-in-PageFault-2-clause-tallies : goal.returns-in-PageFault-2-clause-tallies
returns-in-PageFault-2-clause-tallies g c = takes_none _ _ refl
