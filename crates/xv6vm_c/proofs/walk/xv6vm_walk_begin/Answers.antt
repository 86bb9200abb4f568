use Rattle.std.proofs.Common.{sym, ap, ◌∙◌, ◌≡◌, None, Some}
use Rattle.std.proofs.lemmas.Option.{same_Some}
use Rattle.sv39_entry.specs.Satp.{scheme_of}
use Rattle.xv6vm_c.specs.Codes.{is_bare}
use Rattle.xv6vm_c.proofs.Steps.{for_access, some_is}
use Rattle.xv6vm_c.proofs.walk.xv6vm_walk_begin.Goals as goal

pub returns-clause-begun : goal.returns-clause-begun
returns-clause-begun c = record {
  walks = λ s a p means m there.
      let access : c.in-Some.access ≡ a = same_Some _ _ (sym c.in-Some.is ∙ c.access_of.ensures ∙ means.access) in
      let mode : c.in-Some-mode_of.mode ≡ p = same_Some _ _ (sym c.in-Some-mode_of.is ∙ c.mode_of.ensures ∙ means.mode) in
      for_access s m there c.from_word.result c.args.satp c.args.address c.in-Some.access a c.in-Some-mode_of.mode p c.begin-walk.result c.from_word.ensures access mode
      (c.begin-walk.ensures.walks s m there (ap scheme_of c.from_word.ensures ∙ means.scheme));
  bare = λ a p none access mode. c.begin-walk.ensures.bare (ap is_bare c.from_word.ensures ∙ none);
  unknown_access = λ none. absurd (some_is (sym c.in-Some.is ∙ c.access_of.ensures ∙ none));
  unknown_mode = λ a access none. absurd (some_is (sym c.in-Some-mode_of.is ∙ c.mode_of.ensures ∙ none));
  unknown_satp = λ a p access mode some none. c.begin-walk.ensures.unknown (ap is_bare c.from_word.ensures ∙ some) (ap scheme_of c.from_word.ensures ∙ none);
}
