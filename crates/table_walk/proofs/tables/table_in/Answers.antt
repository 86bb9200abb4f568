use Rattle.std.proofs.Common.{◌≡◌, ◌∙◌, refl, ap, sym, rules}
use Rattle.std.proofs.lemmas.Bool.{false≢true}
use Rattle.sv39_entry.specs.Word.{kind_of}
use Rattle.sv39_entry.specs.declared.entry.Kind.TheVariants.{Invalid}
use Rattle.table_walk.proofs.Children.{child_named, child_none}
use Rattle.table_walk.proofs.TableWords.{kind-zero}
use Rattle.table_walk.proofs.tables.table_in.Goals as goal

pub returns-then-word-eq0 : goal.returns-then-word-eq0
returns-then-word-eq0 c s v root k f i t h at low high read =
    child_none v root t h k f i at low high c.args.word read (λ is.
    let invalid : kind_of c.args.word ≡ Invalid = ap kind_of c.if-word-eq0.true ∙ kind-zero in
    cc)

pub returns-then-eq : goal.returns-then-eq
returns-then-eq c s v root k f i t h at low high read =
    let kind = rw (c.from_word-entry.ensures) at c.kind.ensures in
    rw (c.from_ppn.ensures, c.ppn.ensures.value, c.from_word-entry.ensures)
    (child_named v root t h k f i at low high c.args.word read (sym kind ∙ search rules))

pub returns : goal.returns
returns c s v root k f i t h at low high read =
    child_none v root t h k f i at low high c.args.word read (λ is.
    let kind = c.kind.ensures ∙ ap kind_of c.from_word-entry.ensures ∙ is in
    false≢true (sym c.if-eq.false ∙ c.eq.ensures ∙ (rw kind refl)))
