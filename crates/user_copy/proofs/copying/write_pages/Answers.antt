use Rattle.std.proofs.Common.{◌≡◌, ◌+◌, ◌≤◌, arith, length}
use Rattle.std.proofs.lemmas.Result.{err_from_is_err_and}
use Rattle.frame_store.specs.Laws.{fits_after}
use Rattle.sv39_entry.specs.Schemes.{of_scheme}
use Rattle.user_copy.proofs.Chains.{is_none, is_some}
use Rattle.user_copy.specs.FirstPageBytes.{is_near}
use Rattle.user_copy.proofs.Nearby.{all_out, both_out, stops_here_out}
use Rattle.user_copy.proofs.copying.write_pages.Goals as goal

pub split_at-requires : goal.split_at-requires
split_at-requires g c = rw c.in_page-here.ensures (is_near c.args.va.0 (length c.args.bytes.now)).few

pub write_page-requires-clause-inside : goal.write_page-requires-clause-inside
write_page-requires-clause-inside g c = rw (c.split_at.ensures.front_len, c.in_page-here.ensures) (is_near c.args.va.0 (length c.args.bytes.now)).inside

pub returns-in_err-write_page-clause-copied : goal.returns-in_err-write_page-clause-copied
returns-in_err-write_page-clause-copied g c =
    let told = err_from_is_err_and c.from_residual.result c.from_residual.ensures.1 in
    rw (told.1, told.2) (stops_here_out _ c.args.va.0 c.args.bytes.now _ c.in_page-here.ensures _ _ _ _ (rw c.split_at.ensures.front at c.in_err-write_page.ensures.copied))

pub returns-then-is_empty-clause-copied : goal.returns-then-is_empty-clause-copied
returns-then-is_empty-clause-copied g c =
    let none = is_none _ _ c.is_empty.ensures c.if-is_empty.true in
    let few : c.in_page-here.result ≤ length c.args.bytes.now = rw c.in_page-here.ensures (is_near c.args.va.0 (length c.args.bytes.now)).few in
    let all : 0 + length c.split_at.result.0.now ≡ length c.args.bytes.now = omega (arith, none, few, c.split_at.ensures.front_len, c.split_at.ensures.back_len) in
    all_out _ c.args.va.0 c.args.bytes.now _ c.in_page-here.ensures _ _ _ (rw c.split_at.ensures.back at none) (rw (all, c.split_at.ensures.front) at c.in_ok-write_page.ensures.copied)

-- what is behind the first page is not past the highest address, since that page is low
pub overflow_add-next : goal.overflow_add-next
overflow_add-next g c =
    let at = c.in_page-here.ensures in
    let near = is_near c.args.va.0 (length c.args.bytes.now) in
    let few = near.few in
    let behind = is_some _ _ c.is_empty.ensures c.if-is_empty.false in
    let some = near.some (omega (arith, behind, c.split_at.ensures.back_len)) in
    let low = c.in_ok-write_page.ensures.low (omega (arith, at, some, c.split_at.ensures.front_len)) in
    omega (arith, at, few, c.requires.few, low, of_scheme c.args.space.now.layout.scheme)

pub write_page-requires-2-clause-fits : goal.write_page-requires-2-clause-fits
write_page-requires-2-clause-fits g c = fits_after g.F.FrameAccess.invariant c.write_page.ensures.keeps c.requires.fits

pub write_page-requires-2-clause-ready : goal.write_page-requires-2-clause-ready
write_page-requires-2-clause-ready g c = let r = c.requires.ready in c.write_page.ensures.space r.0 r.1 r.2

pub returns-clause-copied : goal.returns-clause-copied
returns-clause-copied g c =
    let few : c.in_page-here.result ≤ length c.args.bytes.now = rw c.in_page-here.ensures (is_near c.args.va.0 (length c.args.bytes.now)).few in
    let first : 0 + length c.split_at.result.0.now ≡ c.in_page-here.result = omega (arith, c.split_at.ensures.front_len) in
    let all : c.in_page-here.result + length c.split_at.result.1.now ≡ length c.args.bytes.now = omega (arith, few, c.split_at.ensures.back_len) in
    both_out _ c.args.va.0 c.args.bytes.now _ c.in_page-here.ensures _ _ _ _ _ _ (rw (first, c.split_at.ensures.front) at c.in_ok-write_page.ensures.copied) (rw (all, c.split_at.ensures.back) at c.write_page-2.ensures.copied)

pub returns-clause-space : goal.returns-clause-space
returns-clause-space g c t p space = let first = c.write_page.ensures.space t p space in c.write_page-2.ensures.space first.0 first.1 first.2

pub returns-clause-keeps : goal.returns-clause-keeps
returns-clause-keeps g c others r = c.write_page-2.ensures.keeps others (c.write_page.ensures.keeps others r)
