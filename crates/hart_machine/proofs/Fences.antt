-- A lemma (`all_fenced`): a fence for every ASID and every address removes all entries of a TLB.
use Rattle.std.proofs.Common.{◌≡◌, List, [], ◌∷◌, not, None, refl, filter}
use Rattle.hart_tlb.specs.Entries.{is_fenced}
use Rattle.hart_tlb.specs.declared.entry.TlbEntry.{TlbEntry}

pub all_fenced : (es : List TlbEntry) → filter (λ e. not (is_fenced None None e)) es ≡ []
all_fenced [] = refl
all_fenced (e ∷ es) = all_fenced es
