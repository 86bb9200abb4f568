-- What a sink that looks for one outcome says of those that it was told: nothing.
use Rattle.std.specs.Prelude.{⊤, List, [], ◌++◌}
use Rattle.access_history.specs.declared.outcome.Outcome.{Outcome}
use Rattle.mmu_reasons.specs.declared.seeking.Seeking.{Seeking}

abbrev pub Sought : Seeking → List Outcome → Seeking → Type 0
Sought a os b = ⊤

pub sought_nothing : (a : Seeking) → Sought a [] a
sought_nothing a = tt

pub sought_on : (a b c : Seeking) (xs ys : List Outcome) → Sought a xs b → Sought b ys c → Sought a (xs ++ ys) c
sought_on a b c xs ys f g = tt

abbrev pub Has : Seeking → List Outcome → Type 0
Has a os = ⊤

pub has_told : (a b : Seeking) (xs : List Outcome) → Sought a xs b → Has b xs
has_told a b xs f = tt

pub has_still : (a b : Seeking) (xs ys : List Outcome) → Has a xs → Sought a ys b → Has b xs
has_still a b xs ys f g = tt

pub sought_again : (a : Seeking) (xs : List Outcome) → Has a xs → Sought a xs a
sought_again a xs f = tt
