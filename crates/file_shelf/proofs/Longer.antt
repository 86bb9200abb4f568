-- Lemma: one more entry keeps the invariant of a shelf (`one_more`): if the entry is right and there is room, the longer
-- history is within its bound and replays, and the files are those that it leaves.
use Rattle.std.proofs.Common.{◌≡◌, ◌<◌, ◌≤◌, List, [], ◌∷◌, ◌++◌, length, sym, subst, ap, ◌∙◌, arith}
use Rattle.std.proofs.lemmas.List.{length-append}
use Rattle.file_shelf.specs.Histories.{HistoryReplays, IsRightUse}
use Rattle.process_model.specs.Files.{File}
use Rattle.process_model.specs.PageMoves.{files_after, files_after-append, moved, PageMove}
use Rattle.file_shelf.specs.declared.shelf.TheConstants.{MOST_USES}

replays_longer : (first : List File) (ms : List PageMove) (m : PageMove) → HistoryReplays first ms → IsRightUse (files_after first ms) m → HistoryReplays first (ms ++ m ∷ [])
replays_longer first [] m replays right = (right, tt)
replays_longer first (x ∷ ms) m replays right = (replays.0, replays_longer (moved first x) ms m replays.1 right)

pub one_more : (first files : List File) (ms : List PageMove) (m : PageMove) → HistoryReplays first ms → files ≡ files_after first ms → IsRightUse files m → length ms < MOST_USES
    → (length (ms ++ m ∷ []) ≤ MOST_USES) × HistoryReplays first (ms ++ m ∷ []) × (moved files m ≡ files_after first (ms ++ m ∷ []))
one_more first files ms m replays is right room = (
  omega (arith, room, length-append ms (m ∷ [])),
  replays_longer first ms m replays (subst (λ (fs : List File). IsRightUse fs m) is right),
  ap (λ (fs : List File). moved fs m) is ∙ sym (files_after-append first ms (m ∷ [])),
)
