use Rattle.std.proofs.Common.{[]}
use Rattle.tests_of_frames.proofs.clients.runs_over_plain_frames.Goals as goal

pub word_through_a_new_seat-refused-requires-clause-fits : goal.word_through_a_new_seat-refused-requires-clause-fits
word_through_a_new_seat-refused-requires-clause-fits g c = ([], c.word_through_a_new_seat.ensures.keeps [] c.in_ok-plain.ensures.invariant)
