use Rattle.std.proofs.Common.{◌≡◌, inr, true, false, ap, sym, subst, ◌∙◌, ℕ}
use Rattle.std.proofs.lemmas.Option.{same_Some}
use Rattle.lent_memory.specs.Entries.{entry_at}
use Rattle.sv39_entry.specs.Satp.{asid, scheme_of}
use Rattle.sv39_entry.specs.declared.access.Access.{Access}
use Rattle.sv39_entry.specs.declared.access.Mode.{Mode}
use Rattle.xv6vm_c.specs.Answers.{Caches}
use Rattle.xv6vm_c.proofs.Permits.{all_equal, one_translation, some_scheme}
use Rattle.xv6vm_c.proofs.xv6vm_permits.Goals as goal

pub returns-then-is_none-clause-not_now : goal.returns-then-is_none-clause-not_now
returns-then-is_none-clause-not_now c = λ _ now.
    let same = one_translation c.one_outcome.ensures.at_most _ _ _ _ _ c.args.outcome c.xv6vm_translate.result now c.xv6vm_translate.ensures in
    let no : true ≡ false = sym (all_equal c.args.outcome c.xv6vm_translate.result same) ∙ sym c.eq.ensures ∙ c.if-eq.false in
    absurd cc

pub returns-then-is_cached-clause-yes : goal.returns-then-is_cached-clause-yes
returns-then-is_cached-clause-yes c = λ _.
    let found = c.is_cached.ensures.yes c.if-is_cached.true in
    let s = some_scheme c.scheme.result c.is_none.result c.is_none.ensures c.if-is_none.false in
    let space : c.asid.result ≡ asid c.args.satp = c.asid.ensures ∙ ap asid c.from_word-satp.ensures in
    inr (record {
      scheme = s.0;
      in_scheme = sym (c.scheme.ensures.scheme ∙ ap scheme_of c.from_word-satp.ensures) ∙ s.1;
      kind = c.in-Some-Some.access;
      of_kind = sym c.access_of.ensures ∙ c.in-Some-Some.is-0;
      privilege = c.in-Some-Some.mode;
      in_mode = sym c.mode_of.ensures ∙ c.in-Some-Some.is-1;
      place = found.0;
      caches = subst (λ (n : ℕ). Caches (entry_at c.args.entries.now found.0) c.args.address n c.in-Some-Some.access c.in-Some-Some.mode c.args.outcome) space found.1;
    })

pub returns-else-is_cached-clause-not_now : goal.returns-else-is_cached-clause-not_now
returns-else-is_cached-clause-not_now c = λ _ now.
    let same = one_translation c.one_outcome.ensures.at_most _ _ _ _ _ c.args.outcome c.xv6vm_translate.result now c.xv6vm_translate.ensures in
    let no : true ≡ false = sym (all_equal c.args.outcome c.xv6vm_translate.result same) ∙ sym c.eq.ensures ∙ c.if-eq.false in
    absurd cc

pub returns-else-is_cached-clause-not_cached : goal.returns-else-is_cached-clause-not_cached
returns-else-is_cached-clause-not_cached c = λ _ cached.
    let space : asid c.args.satp ≡ c.asid.result = sym (c.asid.ensures ∙ ap asid c.from_word-satp.ensures) in
    let kind : cached.kind ≡ c.in-Some-Some.access = same_Some _ _ (sym cached.of_kind ∙ sym c.access_of.ensures ∙ c.in-Some-Some.is-0) in
    let mode : cached.privilege ≡ c.in-Some-Some.mode = same_Some _ _ (sym cached.in_mode ∙ sym c.mode_of.ensures ∙ c.in-Some-Some.is-1) in
    c.is_cached.ensures.not c.if-is_cached.false cached.place
    (subst (λ (n : ℕ). Caches (entry_at c.args.entries.now cached.place) c.args.address n c.in-Some-Some.access c.in-Some-Some.mode c.args.outcome) space
    (subst (λ (a : Access). Caches (entry_at c.args.entries.now cached.place) c.args.address (asid c.args.satp) a c.in-Some-Some.mode c.args.outcome) kind
    (subst (λ (p : Mode). Caches (entry_at c.args.entries.now cached.place) c.args.address (asid c.args.satp) cached.kind p c.args.outcome) mode cached.caches)))
