use Rattle.std.proofs.Common.{inl, inr, refl}
use Rattle.hart_calls.proofs.exit.close.Goals as goal

pub leave-seat-requires-clause-ready : goal.leave-seat-requires-clause-ready
leave-seat-requires-clause-ready g c =
    let r = c.requires.ready in
    (r.0, c.args.parts.present.state, c.write_boxed-written.ensures.still r.0 _ r.1)

pub returns-in-Ok-clause-closes : goal.returns-in-Ok-clause-closes
returns-in-Ok-clause-closes g c =
    let r = c.requires.ready in
    inl record {
      outcome = refl;
      journal = c.push_reserved.ensures.items;
      moves = c.in-Ok.ensures.written r.0 _ r.1;
      files = c.in-Ok.ensures.files r.0 _ r.1;
    }

pub returns-clause-closes : goal.returns-clause-closes
returns-clause-closes g c =
    let r = c.requires.ready in
    inr record {
      error = c.in-Err.error;
      could = c.in-Err.ensures.refused r.0 _ r.1;
      outcome = c.outcome_of.ensures;
      journal = refl;
      moves = c.in-Err.ensures.unwritten;
    }
