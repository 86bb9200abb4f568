use Rattle.std.proofs.Common.{ap, sym, ◌∙◌}
use Rattle.address_space.specs.Accesses.{request_of}
use Rattle.hart_machine.specs.Accesses.{pending_after}
use Rattle.hart_machine.proofs.AccessingPages.{access_pending, access_wide}
use Rattle.hart_machine.proofs.slot_process.SlotProcess.access.Goals as goal

pub user_access-reply-requires : goal.user_access-reply-requires
user_access-reply-requires c =
    let r = c.requires.ready in
    let e = c.translated-walk.ensures in
    rw (e.same, e.frames) (record {
      fits = c.requires.fits;
      ready = (r.0, r.1, r.2.agrees, e.walk r.0 r.1 r.2 r.3);
      width = c.requires.width;
    })

pub returns-clause-reply : goal.returns-clause-reply
returns-clause-reply c t p slot_process walks =
    let e = c.translated-walk.ensures in
    c.user_access-reply.ensures.reply t p (rw e.same slot_process.agrees) (e.walk t p slot_process walks)

pub returns-clause-after : goal.returns-clause-after
returns-clause-after c t p slot_process walks =
    let e = c.translated-walk.ensures in
    let walk = e.walk t p slot_process walks in
    let reply = c.user_access-reply.ensures.reply t p (rw e.same slot_process.agrees) walk in
    record {
      agrees = rw c.keep_faulted.ensures.space (c.user_access-reply.ensures.after t p (rw e.same slot_process.agrees) walk);
      framed = rw (c.keep_faulted.ensures.space, c.user_access-reply.ensures.place.trapframe, e.same) slot_process.framed;
      pending = access_pending p (request_of c.args.request) ∙ sym (c.keep_faulted.ensures.pending ∙ ap (pending_after (request_of c.args.request)) reply);
      wide = access_wide p (request_of c.args.request) c.requires.width;
    }

pub returns-clause-keeps : goal.returns-clause-keeps
returns-clause-keeps c others rule =
    let e = c.translated-walk.ensures in
    rw c.keep_faulted.ensures.space (c.user_access-reply.ensures.keeps others (rw (e.same, e.frames) rule))
