use Rattle.std.proofs.Common.{◌≡◌, ◌++◌, set, suc, List, ap, ap₂, sym, ◌∙◌, arith}
use Rattle.std.specs.List.{remove}
use Rattle.std.proofs.lemmas.List.{drop-set-lt, get_or-set_same, length-set, take-set}
use Rattle.lent_memory.specs.Entries.{entries_of, entry_in}
use Rattle.lent_memory.specs.declared.entry.LentEntry.{LentEntry}
use Rattle.lent_memory.proofs.Added.{room}
use Rattle.lent_memory.proofs.Places.{entry_other, entry_past, entry_set}
use Rattle.lent_memory.proofs.buffer.evict.Goals as goal

pub returns-then-n-places-clause-entries : goal.returns-then-n-places-clause-entries
returns-then-n-places-clause-entries c =
    let ps = c.args.places.now in
    let n = c.args.n in
    let p = c.empty.result in
    let lt = c.if-n-places.true in
    let none = ap entry_in (get_or-set_same ps n p p lt) ∙ c.empty.ensures in
    let same : remove (set ps n p) n ≡ remove ps n = ap₂ (λ (xs ys : List LentEntry). xs ++ ys) (take-set ps n p) (drop-set-lt (suc n) ps n p (omega arith)) in
    sym (room (set ps n p) n p (omega (arith, lt, length-set ps n p)) none) ∙ ap entries_of same

pub returns-then-n-places-clause-emptied : goal.returns-then-n-places-clause-emptied
returns-then-n-places-clause-emptied c = entry_set c.args.places.now c.args.n c.empty.result c.if-n-places.true ∙ c.empty.ensures

pub returns-then-n-places-clause-others : goal.returns-then-n-places-clause-others
returns-then-n-places-clause-others c = λ k ne. entry_other c.args.places.now c.args.n k c.empty.result ne

pub returns-else-n-places-clause-emptied : goal.returns-else-n-places-clause-emptied
returns-else-n-places-clause-emptied c = entry_past c.args.places.now c.args.n (omega (arith, c.if-n-places.false))
