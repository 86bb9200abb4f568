use Rattle.std.proofs.Common.{◌≡◌, ◌<◌, ◌≤◌, inl, inr, true, false, cond, None, get_or, set, ap, sym, ◌∙◌, arith, length}
use Rattle.std.proofs.lemmas.Bool.{cases_lt}
use Rattle.std.proofs.lemmas.List.{length-set}
use Rattle.lent_memory.specs.Entries.{entry_at, entry_in, removes, unfenced}
use Rattle.lent_memory.specs.declared.entry.LentEntry.{LentEntry}
use Rattle.lent_memory.proofs.Places.{entry_here, entry_other, entry_past, entry_set, fenced_entries, up_to}
use Rattle.lent_memory.proofs.buffer.fence.Goals as goal
use Rattle.lent_memory.proofs.buffer.fence.Goals.{then-is_fenced, else-is_fenced}

pub places-preserved : goal.places-preserved
places-preserved c =
    let va = c.args.va in
    let asid = c.args.asid in
    let old = c.args.places.now in
    let new = c.places.places in
    let n = c.places.n in
    let d : LentEntry = record { address = 0; word = 0; level = 0; asid = 0; global = 0; kind = 0 } in
    let lt : n < length new = omega (arith, c.places-test.true, c.places.invariant.len) in
    let here : entry_at old n ≡ entry_in (get_or new n d) = sym (c.places.invariant.rest n (omega arith)) ∙ entry_here new n d lt in
    elim c.if-is_fenced.branch [
      | then-is_fenced w ↦
          let p = w.empty.result in
          let is : removes va asid (entry_at old n) ≡ true = ap (removes va asid) here ∙ sym c.is_fenced.ensures ∙ w.if-is_fenced.true in
          let gone : unfenced va asid (entry_at old n) ≡ None = ap (λ b. cond b None (entry_at old n)) is in
          rw w.places-is (record {
            len = length-set new n p ∙ c.places.invariant.len;
            done = up_to (λ k. entry_at (set new n p) k ≡ unfenced va asid (entry_at old k)) n
                (λ k less. entry_other new n k p (omega (arith, less)) ∙ c.places.invariant.done k less)
                (entry_set new n p lt ∙ w.empty.ensures ∙ sym gone);
            rest = λ k le. entry_other new n k p (omega (arith, le)) ∙ c.places.invariant.rest k (omega (arith, le));
          })
      | else-is_fenced w ↦
          let is : removes va asid (entry_at old n) ≡ false = ap (removes va asid) here ∙ sym c.is_fenced.ensures ∙ w.if-is_fenced.false in
          let stays : unfenced va asid (entry_at old n) ≡ entry_at old n = ap (λ b. cond b None (entry_at old n)) is in
          rw w.places-is (record {
            len = c.places.invariant.len;
            done = up_to (λ k. entry_at new k ≡ unfenced va asid (entry_at old k)) n (λ k less. c.places.invariant.done k less)
                (c.places.invariant.rest n (omega arith) ∙ sym stays);
            rest = λ k le. c.places.invariant.rest k (omega (arith, le));
          })
    ]

pub returns-clause-places : goal.returns-clause-places
returns-clause-places c = λ k.
    elim (cases_lt k c.places.n) as (λ _. entry_at c.places.places k ≡ unfenced c.args.va c.args.asid (entry_at c.args.places.now k)) [
      | inl less ↦ c.places.invariant.done k less
      | inr more ↦
          let le : length c.args.places.now ≤ k = omega (arith, more, c.places-test.false) in
          entry_past c.places.places k (omega (arith, le, c.places.invariant.len)) ∙ sym (ap (unfenced c.args.va c.args.asid) (entry_past c.args.places.now k le))
    ]

pub returns-clause-entries : goal.returns-clause-entries
returns-clause-entries c =
    fenced_entries c.args.va c.args.asid c.args.places.now c.places.places c.places.invariant.len (returns-clause-places c)
