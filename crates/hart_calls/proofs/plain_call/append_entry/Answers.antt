use Rattle.std.proofs.Common.{arith, [], ◌∷◌}
use Rattle.std.proofs.lemmas.List.{length-append}
use Rattle.hart_calls.proofs.Journals.{forked_few, forks_few, forks_more, one_longer}
use Rattle.hart_calls.proofs.plain_call.append_entry.Goals as goal

pub invariant_of-result : goal.invariant_of-result
invariant_of-result g c =
    let few = c.requires.few in
    rw c.push_reserved.ensures.items (
      c.requires.fits,
      c.requires.agrees,
      one_longer _ _ _ c.args.entry _ _ c.requires.replays c.requires.next c.requires.leads,
      c.requires.named,
      c.requires.there,
      omega (arith, few, length-append c.args.parts.journal.items (c.args.entry ∷ [])),
      omega (arith, c.requires.children, c.forked-named.ensures, forks_more c.args.parts.journal.items c.args.entry),
    )

pub overflow_add-parts : goal.overflow_add-parts
overflow_add-parts g c = omega (arith, c.requires.few, c.requires.children, forks_few c.args.parts.journal.items, c.forked-named.ensures, forked_few c.args.entry.reply)
