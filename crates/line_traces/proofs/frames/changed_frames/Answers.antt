use Rattle.std.proofs.Common.{◌≡◌, ap, ◌∙◌, ℕ, slice_index}
use Rattle.line_traces.specs.Frames.{counts_of, is_given_back, is_recounted, is_taken}
use Rattle.line_traces.specs.declared.frames.Recount.{Recount}
use Rattle.line_traces.proofs.FrameSteps.{counts_step, pages_step}
use Rattle.line_traces.proofs.frames.changed_frames.Goals as goal

pub frames-preserved : goal.frames-preserved
frames-preserved c =
    let b = c.args.before.now in
    let a = c.args.after.now in
    let n = c.frames.number in
    let it : Recount = record { frame = record { 0 = c.ppn.result }; before = slice_index b n; after = slice_index a n } in
    let it_is : it ≡ counts_of b a n =
    ap (λ (page : ℕ). let made : Recount = record { frame = record { 0 = page }; before = slice_index b n; after = slice_index a n } in made) c.ppn.ensures in (
      pages_step is_taken b a n _ _ it c.in_ok-add.ensures.taken it_is c.frames.invariant.0,
      pages_step is_given_back b a n _ _ it c.in_ok-add.ensures.given_back it_is c.frames.invariant.1,
      counts_step is_recounted b a n _ _ it c.in_ok-add.ensures.recounted it_is c.frames.invariant.2,
      c.add.ensures.accounts.0 ∙ c.frames.invariant.3,
      c.add.ensures.accounts.1 ∙ c.frames.invariant.4,
      c.add.ensures.accounts.2 ∙ c.frames.invariant.5,
    )
