-- The views (what a seat holds and knows) of two seats after one has opened the other by `opened_seat`: `opener` and
-- `opened`, as functions of the view before. A seat may claim frames only while it holds frame 0. Laws: the opened seat
-- holds it, and the opener holds it if it did.
use Rattle.std.proofs.Common.{◌<◌, false, sym, subst, lit<}
use Rattle.frame_store.specs.View.{View, Hold, hold_of, IsHeld, with_hold, empty_view}
use Rattle.frame_store.specs.Holds.{hold_of-with_hold_same}

-- the seat that opens: it keeps its references and known words, and is not known to be the sole holder of frame 0
abbrev pub opener : View → View
opener v = with_hold 0 (record (hold_of v 0) { sole = false }) v

-- the seat that is opened: one reference to frame 0, with the words that the opener knows there, and nothing else
abbrev pub opened : View → View
opened v = with_hold 0 record { references = 1; sole = false; words = (hold_of v 0).words } (empty_view v.size)

pub opener_held : (v : View) → IsHeld v 0 → IsHeld (opener v) 0
opener_held v held = subst (λ (h : Hold). 0 < h.references) (sym (hold_of-with_hold_same 0 (record (hold_of v 0) { sole = false }) v)) held

pub opened_held : (v : View) → IsHeld (opened v) 0
opened_held v = subst (λ (h : Hold). 0 < h.references) (sym (hold_of-with_hold_same 0 record {
  references = 1;
  sole = false;
  words = (hold_of v 0).words;
} (empty_view v.size))) (lit< tt)
