use Rattle.std.proofs.Common.{sym, ap, ◌∙◌, ◌≡◌, arith}
use Rattle.std.proofs.lemmas.Option.{same_Some}
use Rattle.sv39_entry.specs.Satp.{root_ppn, scheme_of}
use Rattle.xv6vm_c.proofs.Steps.{goes_on, level_low}
use Rattle.xv6vm_c.proofs.walk.after.Goals as goal
use Rattle.xv6vm_c.proofs.walk.after.Goals.{in_default-scheme-via-in-Some+else-walk-le3, in_default-scheme-via-in_default-scheme}

pub returns-in-Some-clause-goes : goal.returns-in-Some-clause-goes
returns-in-Some-clause-goes c = λ s a p m there means goes told.
    let scheme : c.in-Some.scheme ≡ s = same_Some _ _ (sym c.in-Some.is ∙ c.scheme.ensures.scheme ∙ ap scheme_of c.from_word.ensures ∙ means.scheme) in
    let access : c.in-Some-Some.access ≡ a = same_Some _ _ (sym c.in-Some-Some.is-0 ∙ c.access_of.ensures ∙ means.access) in
    let mode : c.in-Some-Some.mode ≡ p = same_Some _ _ (sym c.in-Some-Some.is-1 ∙ c.mode_of.ensures ∙ means.mode) in
    goes_on c.in-Some.scheme s m there (root_ppn c.args.walk.now.satp) c.args.walk.now.address c.in-Some-Some.access a c.in-Some-Some.mode p c.args.walk.now.at c.next.result c.args.read
    scheme access mode c.requires (c.next.ensures.word m there _) (c.next.ensures.byte m there _) told.of_word told.of_byte goes

pub returns-in_default-scheme-clause-goes : goal.returns-in_default-scheme-clause-goes
returns-in_default-scheme-clause-goes c = λ s a p m there means goes told. elim c.in_default-scheme.branch [
  | in_default-scheme-via-in-Some+else-walk-le3 w ↦
      let low = level_low s m there (root_ppn c.args.walk.now.satp) c.args.walk.now.address a p c.args.walk.now.at goes c.requires in
      absurd (omega (arith, low, w.if-walk-le3.false))
  | in_default-scheme-via-in_default-scheme w ↦ absurd (w.in_default-scheme.not-Some s (c.scheme.ensures.scheme ∙ ap scheme_of c.from_word.ensures ∙ means.scheme))
]
