use Rattle.frame_store.proofs.PlainSteps.{held_room}
use Rattle.frame_store.proofs.Seen.{busy_seen}
use Rattle.frame_store.proofs.plain.PlainFramesFrameAccess.next_busy_word.Goals as goal

pub next_busy-requires-clause-room : goal.next_busy-requires-clause-room
next_busy-requires-clause-room c = held_room _ _ _ _ _ c.args.frame.0 (rw (← c.self.view_is) at c.requires.fits.1) c.requires.held

pub returns-clause-word : goal.returns-clause-word
returns-clause-word c = busy_seen _ _ _ _ _ (rw (← c.self.view_is) at c.requires.fits.1) c.args.frame.0 c.args.first c.args.last c.next_busy.result c.next_busy.ensures
