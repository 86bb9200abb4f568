use Rattle.std.proofs.Common.{rules, ◌≡◌, ◌+◌, ◌<◌, ◌≤◌, ◌-◌, ap, subst, sym, ◌∙◌, length, arith}
use Rattle.std.proofs.lemmas.List.{length-map}
use Rattle.address_space.specs.Layouts.{region_of}
use Rattle.process_model.proofs.ReleaseLaws.{pages_for_is}
use Rattle.process_model.specs.Bytes.{pages_for}
use Rattle.sv39_entry.specs.Schemes.{of_scheme, trapframe_page}
use Rattle.mmap_regions.proofs.Places.{blank, Searched, mapping_at, lowest_found, none_found, search_begins, search_finds, search_goes_on}
use Rattle.mmap_regions.proofs.place.mapping_place.Goals as goal

pub mappings-init : goal.mappings-init
mappings-init c p lays order =
    let at = c.trapframe.ensures in
    let page = c.page.ensures.number in
    let number = c.number-end.ensures.value in
    let top = ap trapframe_page (lays.scheme ∙ sym c.scheme-scheme.ensures) in
    let end : c.number-end.result ≡ trapframe_page p.scheme = omega (arith, at, page, number, top) in
    rw end
    (search_begins p order c.args.pages _ (sym (ap length (lays.mappings ∙ sym c.mappings-mappings.ensures) ∙ length-map c.mappings-mappings.result.now region_of)))

pub overflow_add-mapping : goal.overflow_add-mapping
overflow_add-mapping c =
    let r = c.requires.order in
    let last = c.mappings.auto.i in
    let some : 0 < c.mappings.i = search rules in
    let at = mapping_at r.0 c.mappings-mappings.result.now c.args.layout.now (c.mappings.i - 1) blank c.mappings-mappings.ensures r.1 (omega (arith, last, some)) in
    let end = (c.mappings.invariant r.0 r.1 r.2).before (c.mappings.i - 1) _ at (omega (arith, some)) in
    let below = (c.mappings.invariant r.0 r.1 r.2).below in
    omega (arith, end, below, of_scheme r.0.scheme)

pub overflow_add-mapping-in-mappings : goal.overflow_add-mapping-in-mappings
overflow_add-mapping-in-mappings c =
    let r = c.requires.order in
    let last = c.mappings.auto.i in
    let some : 0 < c.mappings.i = search rules in
    let at = mapping_at r.0 c.mappings-mappings.result.now c.args.layout.now (c.mappings.i - 1) blank c.mappings-mappings.ensures r.1 (omega (arith, last, some)) in
    let end = (c.mappings.invariant r.0 r.1 r.2).before (c.mappings.i - 1) _ at (omega (arith, some)) in
    let below = (c.mappings.invariant r.0 r.1 r.2).below in
    let few = c.requires.few in
    omega (arith, end, below, few, of_scheme r.0.scheme)

pub returns-then-mapping-pages : goal.returns-then-mapping-pages
returns-then-mapping-pages c p lays order =
    let last = c.mappings.auto.i in
    let some : 0 < c.mappings.i = search rules in
    let at = mapping_at p c.mappings-mappings.result.now c.args.layout.now (c.mappings.i - 1) blank c.mappings-mappings.ensures lays (omega (arith, last, some)) in
    search_finds p order c.args.pages c.mappings.i c.mappings.end _ (c.mappings.invariant p lays order) some at c.if-mapping-pages.true

pub mappings-preserved : goal.mappings-preserved
mappings-preserved c p lays order =
    let last = c.mappings.auto.i in
    let some : 0 < c.mappings.i = search rules in
    let at = mapping_at p c.mappings-mappings.result.now c.args.layout.now (c.mappings.i - 1) blank c.mappings-mappings.ensures lays (omega (arith, last, some)) in
    search_goes_on p order c.args.pages c.mappings.i c.mappings.end _ (c.mappings.invariant p lays order) some at c.if-mapping-pages.false

pub returns-then-div_ceil-pages : goal.returns-then-div_ceil-pages
returns-then-div_ceil-pages c p lays order =
    let none = c.mappings-test.false in
    let first : c.mappings.i ≡ 0 = omega (arith, none) in
    let size = c.div_ceil.ensures ∙ pages_for_is c.size.result ∙ ap pages_for (c.size.ensures ∙ sym lays.size) in
    lowest_found p order c.args.pages c.mappings.end (subst (λ i. Searched p c.args.pages i c.mappings.end) first (c.mappings.invariant p lays order)) (subst (λ n. n + c.args.pages ≤ c.mappings.end) size c.if-div_ceil-pages.true)

pub returns : goal.returns
returns c p lays order =
    let none = c.mappings-test.false in
    let first : c.mappings.i ≡ 0 = omega (arith, none) in
    let size = c.div_ceil.ensures ∙ pages_for_is c.size.result ∙ ap pages_for (c.size.ensures ∙ sym lays.size) in
    none_found p order c.args.pages c.mappings.end (subst (λ i. Searched p c.args.pages i c.mappings.end) first (c.mappings.invariant p lays order)) (subst (λ n. c.mappings.end < n + c.args.pages) size c.if-div_ceil-pages.false)
