use Rattle.std.proofs.Common.{◌≡◌, ap, sym, ◌∙◌}
use Rattle.std.proofs.lemmas.Option.{same_Some}
use Rattle.sv39_entry.specs.Satp.{root_ppn, scheme_of}
use Rattle.table_walk.specs.declared.walk.Found.{Found}
use Rattle.table_walk.specs.declared.walk.Found.TheVariants as found
use Rattle.xv6vm_c.proofs.Walks.{finds_with, same_memory}
use Rattle.xv6vm_c.proofs.xv6vm_lookup.Goals as goal

pub returns-in-Leaf-clause-found : goal.returns-in-Leaf-clause-found
returns-in-Leaf-clause-found c = λ s is.
    let same : c.in-Some.scheme ≡ s = same_Some _ _ (sym c.in-Some.is ∙ c.scheme.ensures.scheme ∙ ap scheme_of c.from_word-satp.ensures ∙ is) in
    let f : Found = found.Leaf c.in-Leaf.word c.in-Leaf.level c.in-Leaf.global in (
      f,
      c.leaf_at.ensures,
      finds_with c.in-Some.scheme s c.new-memory.result _ c.ppn.result _ c.args.address f same
          (same_memory c.new-memory.result _ c.new-memory.ensures.base c.new-memory.ensures.words)
          (c.ppn.ensures ∙ ap root_ppn c.from_word-satp.ensures) c.in-Leaf.ensures.found,
    )
