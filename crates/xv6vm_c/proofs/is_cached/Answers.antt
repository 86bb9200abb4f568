use Rattle.std.proofs.Common.{◌≡◌, inl, inr, None, Some, ap, sym, subst, ◌∙◌, arith, Option}
use Rattle.std.proofs.lemmas.Bool.{cases_lt}
use Rattle.hart_tlb.specs.declared.entry.TlbEntry.{TlbEntry}
use Rattle.lent_memory.specs.Entries.{entry_at}
use Rattle.lent_memory.specs.declared.entry.LentEntry.{LentEntry}
use Rattle.xv6vm_c.specs.Answers.{Caches}
use Rattle.lent_memory.proofs.Places.{entry_here, entry_past}
use Rattle.xv6vm_c.proofs.is_cached.Goals as goal

pub entries-preserved : goal.entries-preserved
entries-preserved c = record {
  none = λ k lt caches.
      elim (cases_lt k c.entries.n) as (λ _. ⊥) [
        | inl less ↦ c.entries.invariant.none k less caches
        | inr more ↦
            let same : k ≡ c.entries.n = omega (arith, lt, more) in
            let d : LentEntry = record { address = 0; word = 0; level = 0; asid = 0; global = 0; kind = 0 } in
            let here = entry_here c.args.entries.now c.entries.n d c.entries-test.true in
            c.gives.ensures.not c.if-gives.false
            (subst (λ (e : Option TlbEntry). Caches e c.args.va.0 c.args.asid c.args.access c.args.mode c.args.outcome) (ap (entry_at c.args.entries.now) same ∙ here) caches)
      ];
}

pub returns-clause-not : goal.returns-clause-not
returns-clause-not c = λ _ n caches.
    elim (cases_lt n c.entries.n) as (λ _. ⊥) [
      | inl less ↦ c.entries.invariant.none n less caches
      | inr more ↦
          let gone = entry_past c.args.entries.now n (omega (arith, more, c.entries-test.false)) in
          let no : None ≡ Some caches.0 = sym gone ∙ caches.1 in
          absurd cc
    ]
