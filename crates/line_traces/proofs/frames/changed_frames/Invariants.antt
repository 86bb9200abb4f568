use Rattle.std.proofs.Common.{◌≡◌, filter, map}
use Rattle.line_traces.specs.Frames.{counts_below, is_given_back, is_recounted, is_taken, page_of}
use Rattle.line_traces.proofs.frames.changed_frames.Given as goal

-- the lists have the frames so far
abbrev pub invariant-frames : goal.invariant-frames
invariant-frames l =
    (l.changes.taken.items ≡ map page_of (filter is_taken (counts_below l.before l.after l.number)))
    × (l.changes.given_back.items ≡ map page_of (filter is_given_back (counts_below l.before l.after l.number)))
    × (l.changes.recounted.items ≡ filter is_recounted (counts_below l.before l.after l.number))
    × (l.changes.free ≡ l.fn.report.free)
    × (l.changes.held ≡ l.fn.report.held)
    × (l.changes.shared ≡ l.fn.report.shared)
