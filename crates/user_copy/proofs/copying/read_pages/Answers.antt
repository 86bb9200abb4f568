use Rattle.std.proofs.Common.{◌≡◌, ◌<◌, ap, arith, length}
use Rattle.std.proofs.lemmas.Result.{err_from_is_err_and}
use Rattle.frame_store.specs.Laws.{fits_after}
use Rattle.sv39_entry.specs.Schemes.{of_scheme}
use Rattle.user_copy.specs.FirstPageBytes.{is_near}
use Rattle.user_copy.specs.Runs.{near}
use Rattle.user_copy.proofs.Nearby.{all_in, both_in, stops_here_in}
use Rattle.user_copy.proofs.copying.read_pages.Goals as goal

pub read_page-requires-clause-inside : goal.read_page-requires-clause-inside
read_page-requires-clause-inside g c = rw c.in_page-here.ensures (is_near c.args.va.0 c.args.n).inside

pub read_page-requires-clause-few : goal.read_page-requires-clause-few
read_page-requires-clause-few g c =
    let few = (is_near c.args.va.0 c.args.n).few in
    rw (c.requires.empty, c.in_page-here.ensures) (omega (arith, few, c.requires.few))

pub returns-in_err-read_page-clause-copied : goal.returns-in_err-read_page-clause-copied
returns-in_err-read_page-clause-copied g c =
    let told = err_from_is_err_and c.from_residual.result c.from_residual.ensures.1 in
    rw (told.1, told.2) (stops_here_in _ c.args.va.0 c.args.n _ c.in_page-here.ensures _ _ _ _ (rw c.requires.empty at c.in_err-read_page.ensures.copied))

pub returns-then-here-n-clause-copied : goal.returns-then-here-n-clause-copied
returns-then-here-n-clause-copied g c = all_in _ c.args.va.0 c.args.n _ c.in_page-here.ensures _ _ _ c.if-here-n.true (rw c.requires.empty at c.in_ok-read_page.ensures.copied)

-- what is behind the first page is not past the highest address, since that page is low
pub overflow_add-next : goal.overflow_add-next
overflow_add-next g c =
    let at = c.in_page-here.ensures in
    let near = is_near c.args.va.0 c.args.n in
    let few = near.few in
    let some = near.some (omega (arith, at, few, c.if-here-n.false)) in
    let low = c.in_ok-read_page.ensures.low (omega (arith, at, some)) in
    omega (arith, at, few, c.requires.few, low, of_scheme c.args.space.now.layout.scheme)

pub overflow_sub-n : goal.overflow_sub-n
overflow_sub-n g c = rw c.in_page-here.ensures (is_near c.args.va.0 c.args.n).few

pub read_page-requires-2-clause-inside : goal.read_page-requires-2-clause-inside
read_page-requires-2-clause-inside g c =
    let at = c.in_page-here.ensures in
    let first = is_near c.args.va.0 c.args.n in
    let few = first.few in
    let less : near c.args.va.0 c.args.n < c.args.n = omega (arith, at, few, c.if-here-n.false) in
    let ends = first.behind less in
    omega (arith, at, few, ends, c.requires.few)

pub read_page-requires-2-clause-few : goal.read_page-requires-2-clause-few
read_page-requires-2-clause-few g c =
    let at = c.in_page-here.ensures in
    let few = (is_near c.args.va.0 c.args.n).few in
    let none : length c.args.bytes.now.items ≡ 0 = ap length c.requires.empty in
    omega (arith, at, few, none, c.in_ok-read_page.ensures.more, c.requires.few)

pub read_page-requires-2-clause-fits : goal.read_page-requires-2-clause-fits
read_page-requires-2-clause-fits g c = fits_after g.F.FrameAccess.invariant c.read_page.ensures.keeps c.requires.fits

pub read_page-requires-2-clause-ready : goal.read_page-requires-2-clause-ready
read_page-requires-2-clause-ready g c = let r = c.requires.ready in c.read_page.ensures.space r.0 r.1 r.2

pub returns-clause-copied : goal.returns-clause-copied
returns-clause-copied g c = both_in _ c.args.va.0 c.args.n _ c.in_page-here.ensures _ _ _ _ _ _ (rw c.requires.empty at c.in_ok-read_page.ensures.copied) c.read_page-2.ensures.copied

pub returns-clause-space : goal.returns-clause-space
returns-clause-space g c t p space = let first = c.read_page.ensures.space t p space in c.read_page-2.ensures.space first.0 first.1 first.2

pub returns-clause-keeps : goal.returns-clause-keeps
returns-clause-keeps g c others r = c.read_page-2.ensures.keeps others (c.read_page.ensures.keeps others r)
