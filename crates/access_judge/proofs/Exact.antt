-- The search is exact: the outcomes that it gives are those that are permitted.
use Rattle.access_judge.specs.Search.{SearchIsExact}
use Rattle.access_judge.proofs.SearchSays.{search_is_exact_by}
use Rattle.access_judge.proofs.SearchFinds.{ended_each, stood_each}
use Rattle.access_judge.proofs.SearchSound.{ended_only, stood_only}

pub search_is_exact : SearchIsExact
search_is_exact = search_is_exact_by ended_only ended_each stood_only stood_each
