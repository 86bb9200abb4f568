use Rattle.std.proofs.Common.{◌≡◌, ◌+◌, ◌<◌, refl, ◌∙◌, arith}
use Rattle.frame_store.specs.Laws.{fits_after}
use Rattle.table_walk.specs.LeafBacking.{kernel_backed}
use Rattle.table_walk.specs.LowPages.{maps_low}
use Rattle.address_space.specs.Kernel.{first_direct}
use Rattle.address_space.proofs.KernelFrames.{code_held, spends_none}
use Rattle.address_space.proofs.KernelSteps.{frame_is_missing, frame_maps, frame_page_is, frame_spends}
use Rattle.address_space.proofs.KernelTables.{fewer_tables}
use Rattle.address_space.proofs.kernel.map_frames.Given as given
use Rattle.address_space.proofs.kernel.map_frames.Goals as goal
use Rattle.address_space.proofs.kernel.map_frames.Goals.{After-leaf_for_kernel}
use Rattle.sv39_entry.specs.Schemes.{of_scheme, page_limit}

pub loop-number-init : goal.loop-number-init
loop-number-init g c = record { mapped = λ stacks t maps. (t, maps); spends = spends_none _; keeps = λ others r. r; free = λ a. refl }

-- the frame's page
page : (g : given.Over) (c : After-leaf_for_kernel g) → c.page.result ≡ first_direct + c.loop-number.number
page g c = frame_page_is _ _ _ c.page.ensures.number c.address.ensures

few : (g : given.Over) (c : After-leaf_for_kernel g) → c.loop-number.number < 1024
few g c = omega (arith, c.loop-number-test.true, c.requires.few)

low_frame : (g : given.Over) (c : After-leaf_for_kernel g) → c.page.result < page_limit c.args.scheme
low_frame g c = let is = page g c in let less = few g c in let facts = of_scheme c.args.scheme in omega (arith, is, less, facts)

pub map-requires-clause-fits : goal.map-requires-clause-fits
map-requires-clause-fits g c = fits_after g.F.FrameAccess.invariant c.loop-number.invariant.keeps c.requires.fits

pub map-requires-clause-anchored : goal.map-requires-clause-anchored
map-requires-clause-anchored g c =
    let i = c.loop-number.invariant.mapped c.requires.ready.0 c.requires.ready.1 c.requires.ready.2 in
    code_held _ _ _ i.1.holds

pub map-requires-clause-tables : goal.map-requires-clause-tables
map-requires-clause-tables g c =
    let i = c.loop-number.invariant.mapped c.requires.ready.0 c.requires.ready.1 c.requires.ready.2 in
    let sum = frame_is_missing _ _ _ _ _ _ i.0 i.1 (few g c) (page g c) in
    let fewer = fewer_tables c.args.scheme (c.loop-number.number + 1) c.args.frames (omega (arith, c.loop-number-test.true)) in
    let spent = c.loop-number.invariant.spends.credits in
    (i.0, i.1.tables, omega (arith, sum, fewer, spent, c.requires.ready.3))

pub map-requires-clause-backed : goal.map-requires-clause-backed
map-requires-clause-backed g c = kernel_backed _ _ c.leaf_for_kernel.ensures.made.for_user

pub loop-number-preserved : goal.loop-number-preserved
loop-number-preserved g c =
    let at = (goal.at.loop-number-preserved g c).After-leaf_for_kernel in
    record {
      mapped = λ stacks t maps.
          let i = c.loop-number.invariant.mapped stacks t maps in
          (_, frame_maps _ _ _ _ _ stacks i.0 i.1 (few g at) (page g at) _ _ c.leaf_for_kernel.ensures.word (maps_low c.args.scheme _ _ _ _ c.page.result _ _ (low_frame g at) (c.map.ensures.tables i.0 i.1.tables)));
      spends =
          let i = c.loop-number.invariant.mapped c.requires.ready.0 c.requires.ready.1 c.requires.ready.2 in
          frame_spends _ _ _ _ _ _ i.0 i.1 (few g at) (page g at) _ _ c.leaf_for_kernel.ensures.word (maps_low c.args.scheme _ _ _ _ c.page.result _ _ (low_frame g at) (c.map.ensures.tables i.0 i.1.tables)) _ c.loop-number.invariant.spends;
      keeps = λ others r. c.map.ensures.keeps others (c.loop-number.invariant.keeps others r);
      free = λ a. c.map.ensures.free a ∙ c.loop-number.invariant.free a;
    }

pub returns-clause-mapped : goal.returns-clause-mapped
returns-clause-mapped g c stacks t maps =
    let all : c.loop-number.number ≡ c.args.frames = omega (arith, c.loop-number-test.false) in
    rw all at (c.loop-number.invariant.mapped stacks t maps)

pub returns-clause-spends : goal.returns-clause-spends
returns-clause-spends g c =
    let all : c.loop-number.number ≡ c.args.frames = omega (arith, c.loop-number-test.false) in
    rw all at c.loop-number.invariant.spends

pub returns-clause-keeps : goal.returns-clause-keeps
returns-clause-keeps g c = c.loop-number.invariant.keeps

pub returns-clause-free : goal.returns-clause-free
returns-clause-free g c = c.loop-number.invariant.free
