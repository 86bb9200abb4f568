use Rattle.std.proofs.Common.{refl}
use Rattle.access_history.proofs.StaleLeaf.{stale}
use Rattle.history_laws.proofs.StaleEntry.{still_there, was_filled}
use Rattle.history_laws.proofs.tlb.stale_entry_is_permitted.Goals as goal

pub returns : goal.returns
returns c = record { filled = was_filled; remains = still_there; answers = refl; permitted = stale; fenced = refl }
