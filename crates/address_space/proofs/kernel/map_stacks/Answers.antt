use Rattle.std.proofs.Common.{◌≡◌, ℕ, ◌+◌, ◌<◌, [], ◌∷◌, ◌++◌, refl, ap, ◌∙◌, arith}
use Rattle.std.proofs.lemmas.List.{length_push}
use Rattle.frame_store.specs.Laws.{fits_after}
use Rattle.table_walk.specs.LeafBacking.{kernel_backed}
use Rattle.table_walk.specs.LowPages.{maps_low}
use Rattle.address_space.specs.Kernel.{stack_page}
use Rattle.address_space.proofs.KernelFrames.{code_held, spends_is, spends_none, spends_on}
use Rattle.address_space.proofs.KernelSteps.{stack_held, stack_maps, stack_none_missing, stack_page_is, stack_spends, stack_tables}
use Rattle.address_space.proofs.kernel.map_stacks.Given as given
use Rattle.address_space.proofs.kernel.map_stacks.Goals as goal
use Rattle.address_space.proofs.kernel.map_stacks.Goals.{After-leaf_for_kernel}
use Rattle.sv39_entry.specs.Schemes.{of_scheme, page_limit}
use Rattle.sv39_entry.specs.declared.scheme.Scheme.{Scheme}

pub loop-slot-init : goal.loop-slot-init
loop-slot-init g c = record { mapped = λ t maps. ([], t, maps, refl); spends = spends_none _; keeps = λ others r. r; free = λ a. refl }

pub claim-frame-requires-clause-fits : goal.claim-frame-requires-clause-fits
claim-frame-requires-clause-fits g c = fits_after g.F.FrameAccess.invariant c.loop-slot.invariant.keeps c.requires.fits

pub claim-frame-requires-clause-credit : goal.claim-frame-requires-clause-credit
claim-frame-requires-clause-credit g c =
    let spent = c.loop-slot.invariant.spends.credits in
    omega (arith, spent, c.requires.ready.2, c.loop-slot-test.true)

pub claim-frame-requires-clause-anchored : goal.claim-frame-requires-clause-anchored
claim-frame-requires-clause-anchored g c =
    let so_far = c.loop-slot.invariant.mapped c.requires.ready.0 c.requires.ready.1 in
    code_held _ _ _ so_far.2.holds

pub map-requires-clause-fits : goal.map-requires-clause-fits
map-requires-clause-fits g c =
    fits_after g.F.FrameAccess.invariant c.claim-frame.ensures.keeps (fits_after g.F.FrameAccess.invariant c.loop-slot.invariant.keeps c.requires.fits)

-- the slot's page
page : (g : given.Over) (c : After-leaf_for_kernel g) (n : ℕ) → n ≡ c.loop-slot.slot → c.page.result ≡ stack_page c.args.scheme n
page g c n same = stack_page_is c.args.scheme _ _ _ n c.page.ensures.number c.kernel_stack.ensures same

low_stack : (z : Scheme) (p n : ℕ) → p ≡ stack_page z n → p < page_limit z
low_stack z p n is = let facts = of_scheme z in omega (arith, is, facts)

few : (g : given.Over) (c : After-leaf_for_kernel g) (n : ℕ) → n ≡ c.loop-slot.slot → n < 64
few g c n same = omega (arith, same, c.loop-slot-test.true, c.requires.few)

pub map-requires-clause-anchored : goal.map-requires-clause-anchored
map-requires-clause-anchored g c =
    let i = c.loop-slot.invariant.mapped c.requires.ready.0 c.requires.ready.1 in
    let claims = c.claim-frame.ensures in
    stack_held _ _ _ _ _ _ i.0 i.1 i.2 (few g c _ i.3) claims.view claims.fresh (page g c _ i.3)

pub map-requires-clause-tables : goal.map-requires-clause-tables
map-requires-clause-tables g c =
    let i = c.loop-slot.invariant.mapped c.requires.ready.0 c.requires.ready.1 in
    let claims = c.claim-frame.ensures in
    let none = stack_none_missing _ _ _ _ _ _ i.0 i.1 i.2 (few g c _ i.3) claims.view claims.fresh (page g c _ i.3) in
    (i.1, stack_tables _ _ _ _ _ _ i.0 i.1 i.2 (few g c _ i.3) claims.view claims.fresh (page g c _ i.3), omega (arith, none))

pub map-requires-clause-backed : goal.map-requires-clause-backed
map-requires-clause-backed g c = kernel_backed _ _ c.leaf_for_kernel.ensures.made.for_user

pub loop-slot-preserved : goal.loop-slot-preserved
loop-slot-preserved g c =
    let at = (goal.at.loop-slot-preserved g c).After-leaf_for_kernel in
    let claims = c.claim-frame.ensures in
    record {
      mapped = λ t maps.
          let i = c.loop-slot.invariant.mapped t maps in
          let has = stack_tables _ _ _ _ _ _ i.0 i.1 i.2 (few g at _ i.3) claims.view claims.fresh (page g at _ i.3) in (
            i.0 ++ c.claim-frame.result.0 ∷ [],
            _,
            stack_maps _ _ _ _ _ _ i.0 i.1 i.2 (few g at _ i.3) claims.view claims.fresh (page g at _ i.3) _ _ (omega arith) c.leaf_for_kernel.ensures.word
                (maps_low c.args.scheme _ _ _ _ c.page.result _ _ (low_stack c.args.scheme _ _ (page g at _ i.3)) (c.map.ensures.tables i.1 has)),
            length_push i.0 c.claim-frame.result.0 ∙ ap (λ n. n + 1) i.3,
          );
      spends =
          let i = c.loop-slot.invariant.mapped c.requires.ready.0 c.requires.ready.1 in
          let has = stack_tables _ _ _ _ _ _ i.0 i.1 i.2 (few g at _ i.3) claims.view claims.fresh (page g at _ i.3) in
          spends_on _ _ _ _ _ c.loop-slot.invariant.spends
          (stack_spends _ _ _ _ _ _ i.0 i.1 i.2 (few g at _ i.3) claims.view claims.fresh (page g at _ i.3) _ _ (omega arith) c.leaf_for_kernel.ensures.word
          (maps_low c.args.scheme _ _ _ _ c.page.result _ _ (low_stack c.args.scheme _ _ (page g at _ i.3)) (c.map.ensures.tables i.1 has)));
      keeps = λ others r. c.map.ensures.keeps others (claims.keeps others (c.loop-slot.invariant.keeps others r));
      free = λ a. c.map.ensures.free a ∙ claims.free a ∙ c.loop-slot.invariant.free a;
    }

pub returns-clause-mapped : goal.returns-clause-mapped
returns-clause-mapped g c t maps =
    let i = c.loop-slot.invariant.mapped t maps in
    let all : c.loop-slot.slot ≡ c.args.slots = omega (arith, c.loop-slot-test.false) in
    (i.0, i.1, i.2, i.3 ∙ all)

pub returns-clause-spends : goal.returns-clause-spends
returns-clause-spends g c =
    let all : c.loop-slot.slot ≡ c.args.slots = omega (arith, c.loop-slot-test.false) in
    spends_is _ _ _ _ all c.loop-slot.invariant.spends

pub returns-clause-keeps : goal.returns-clause-keeps
returns-clause-keeps g c = c.loop-slot.invariant.keeps

pub returns-clause-free : goal.returns-clause-free
returns-clause-free g c = c.loop-slot.invariant.free
