-- What the search left open of `enlist`.
use Rattle.std.proofs.Common.{◌≡◌, ◌-◌, List, ℕ, [], ◌∷◌, ap, arith, length, refl, ◌∙◌}
use Rattle.run_roster.proofs.Beginning.{begun_out, unbegun_ended}
use Rattle.run_roster.proofs.Slotting.{unbegun_settled}
use Rattle.hart_calls.specs.ProcessCodes.{code_of}
use Rattle.vouchers.specs.Entries.{birth, entry}
use Rattle.vouchers.specs.IssuerSeats.{held_of}
use Rattle.run_roster.proofs.enlist.Enlister.enlist.Goals as goal

pub invariant_of-put : goal.invariant_of-put
invariant_of-put g c =
    let made = rw c.in-Begun.is at c.requires.made in
    let e = c.new-tracked.ensures in
    let k = c.args.start.list in
    let holds : held_of c.start-token.result ≡ entry c.in-Begun.name.items (birth k (code_of c.in-Begun.opening.state)) [] ∷ [] = c.start-token.ensures.holds ∙ ap (λ (m : List ℕ). entry m (birth k (code_of c.in-Begun.opening.state)) [] ∷ []) c.as_slice.ensures.value in
    record {
      at = c.start-token.ensures.at;
      out = begun_out g.B.Plan.files g.B.Plan.lists g.B.Plan.plan (length g.B.Plan.plan - c.args.roster.now.left) c.args.start c.requires.start c.in-Begun.name.items made.1 (held_of c.start-token.result) k c.new-tracked.result c.in-Begun.opening.state refl made.3
          holds e.name (e.lists ∙ c.args.self.now.of_lists) e.list e.opening e.state e.journal;
    }

pub start-token-requires-clause-free : goal.start-token-requires-clause-free
start-token-requires-clause-free g c =
    let made = rw c.in-Begun.is at c.requires.made in
    let less = made.0 in
    let out = c.requires.out in
    let slots = c.requires.slots in
    omega (arith, less, out, slots)

pub refuse-requires-clause-refused : goal.refuse-requires-clause-refused
refuse-requires-clause-refused g c =
    let made = rw c.in-Over.is at c.requires.made in
    let ended = unbegun_ended g.B.Plan.files g.B.Plan.lists g.B.Plan.plan (length g.B.Plan.plan - c.args.roster.now.left) c.args.start c.requires.start _ refl g.B.RunBrand.table _ _ c.in-Over.finished made in
    (c.args.start, ended.0, c.requires.start, ended.1)

pub refuse-requires-clause-settled : goal.refuse-requires-clause-settled
refuse-requires-clause-settled g c =
    let made = rw c.in-Over.is at c.requires.made in
    let taken = rw c.in-Over.is at c.requires.taken in
    let full = rw c.in-Over.is at c.requires.full in
    let framed = rw c.in-Over.is at c.requires.framed in
    unbegun_settled g.B.RunBrand.table g.B.Plan.plan g.F.StartOutcomes.slots g.F.StartOutcomes.taken g.F.StartOutcomes.full g.F.StartOutcomes.free (length g.B.Plan.plan - c.args.roster.now.left) c.args.start c.in-Over.finished made taken full framed
