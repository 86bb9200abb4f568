use Rattle.std.proofs.Common.{arith}
use Rattle.lazy_growth.proofs.Resizing.{above, none_dropped, none_goes, not_above}
use Rattle.lazy_growth.proofs.heap_size.release_pages.Goals as goal

pub returns-then-le-clause-released : goal.returns-then-le-clause-released
returns-then-le-clause-released g c t p space =
    let le = not_above c.args.end c.args.first c.le.result c.le.ensures c.if-le.true in
    (t, rw (none_goes p c.args.first c.args.end le) space, none_dropped t c.args.first c.args.end le)

pub returns-clause-kept_view : goal.returns-clause-kept_view
returns-clause-kept_view g c le = absurd (let less = above c.args.end c.args.first c.le.result c.le.ensures c.if-le.false in omega (arith, le, less))

pub returns-clause-kept_store : goal.returns-clause-kept_store
returns-clause-kept_store g c le = absurd (let less = above c.args.end c.args.first c.le.result c.le.ensures c.if-le.false in omega (arith, le, less))
