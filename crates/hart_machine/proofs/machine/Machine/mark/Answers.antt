use Rattle.std.proofs.Common.{◌≡◌, ◌∙◌, ◌+◌, ℕ, suc, get_or, length, map, true, Some, List, ap, arith, refl, subst, sym}
use Rattle.std.specs.Prelude.{option_map, slice_get, slice_set}
use denote.Enum.Bare.{sameb}
use Rattle.process_model.specs.Harts as model
use Rattle.process_model.specs.contracts.config.Policy.{the_type}
use Rattle.process_model.specs.declared.config.Policy.{Policy}
use Rattle.process_model.specs.declared.config.Policy.TheVariants.{Asid, Full}
use Rattle.std.proofs.lemmas.List.{length-map, with_items_is}
use Rattle.std.proofs.lemmas.Option.{slice_get-get_or, slice_get-map}
use Rattle.hart_machine.specs.Harts.{hart_of, marked, marked_harts}
use Rattle.hart_machine.specs.declared.hart.Hart.{Hart}
use Rattle.hart_machine.proofs.MarkedHarts.{all_marked, marked_first, one_more, same_buffer}
use Rattle.hart_machine.proofs.machine.Machine.mark.Goals as goal

next : (n : ℕ) → suc n ≡ n + 1
next n = omega arith

-- with address-space identifiers all are marked
marks_all : (p : Policy) (s : ℕ) (xs : List model.Hart) → sameb the_type p Asid ≡ true → map (marked s) xs ≡ marked_harts p (Some s) xs
marks_all Asid s xs is = refl
marks_all Full s xs is = absurd (cc)

pub loop-hart-init : goal.loop-hart-init
loop-hart-init c = rw c.deref_mut-hart-items.ensures.value (refl, refl)

pub loop-hart-preserved : goal.loop-hart-preserved
loop-hart-preserved c =
    let inv = c.loop-hart.invariant in
    let e = c.mark.ensures in
    let x = get_or c.loop-hart.hart-items c.loop-hart.hart-index c.hart-item.result in
    let t = c.loop-hart-test.true in
    let au = c.loop-hart.auto in
    let at : slice_get c.loop-hart.hart-items c.loop-hart.hart-index ≡ Some x = slice_get-get_or c.loop-hart.hart-items c.loop-hart.hart-index c.hart-item.result (omega (arith, t, au.hart-items)) in (
      subst (λ n. map hart_of (slice_set c.loop-hart.hart-items c.loop-hart.hart-index c.mark.new.self) ≡ marked_first c.in-Some.slot n (map hart_of c.args.self.now.harts.items)) (next c.loop-hart.hart-index)
          (one_more c.in-Some.slot c.loop-hart.hart-index c.loop-hart.hart-items (map hart_of c.args.self.now.harts.items) x c.mark.new.self inv.0 at e.hart),
      same_buffer (λ (z : Hart). z.buffer) c.loop-hart.hart-index c.loop-hart.hart-items _ x c.mark.new.self inv.1 at e.buffer,
    )

pub returns-after-loop-hart-clause-harts : goal.returns-after-loop-hart-clause-harts
returns-after-loop-hart-clause-harts c =
    let m = c.args.self.now in
    let xs = c.loop-hart.hart-items in
    let inv = c.loop-hart.invariant in
    let long = sym (length-map xs (λ (x : Hart). x.buffer)) ∙ ap length inv.1 ∙ length-map m.harts.items (λ (x : Hart). x.buffer) in
    let whole = with_items_is m.harts xs (long ∙ sym m.harts.ok.0) in
    ap (map hart_of) whole ∙ inv.0 ∙ all_marked c.in-Some.slot c.loop-hart.hart-index (map hart_of m.harts.items) (let f = c.loop-hart-test.false in let au = c.loop-hart.auto in let same = length-map m.harts.items hart_of in omega (arith, f, au.hart-items, long, same)) ∙ marks_all m.policy c.in-Some.slot (map hart_of m.harts.items) (sym c.eq.ensures ∙ c.if-eq.true) ∙ ap (λ o. marked_harts m.policy o (map hart_of m.harts.items)) (sym c.in-Some.is)

pub returns-after-loop-hart-clause-buffers : goal.returns-after-loop-hart-clause-buffers
returns-after-loop-hart-clause-buffers c h =
    let m = c.args.self.now in
    let xs = c.loop-hart.hart-items in
    let inv = c.loop-hart.invariant in
    let long = sym (length-map xs (λ (x : Hart). x.buffer)) ∙ ap length inv.1 ∙ length-map m.harts.items (λ (x : Hart). x.buffer) in
    let whole = with_items_is m.harts xs (long ∙ sym m.harts.ok.0) in
    ap (λ (hs : List Hart). option_map (λ (x : Hart). x.buffer) (slice_get hs h)) whole ∙ sym (slice_get-map (λ (x : Hart). x.buffer) xs h) ∙ ap (λ bs. slice_get bs h) inv.1 ∙ slice_get-map (λ (x : Hart). x.buffer) m.harts.items h
