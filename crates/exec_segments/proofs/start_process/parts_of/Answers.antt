use Rattle.std.proofs.Common.{◌≡◌, ◌+◌, ◌++◌, ◌∷◌, [], ◌∙◌, arith, ap, ◌≤◌, length, map, subst, sym}
use Rattle.process_model.specs.Images.{end_of_loads}
use Rattle.process_model.specs.Frames.{start_need}
use Rattle.process_model.specs.ImageProcess.{guard_at, process_of, stack_at}
use Rattle.process_model.specs.declared.limits.TheConstants.{GUARD_PAGES}
use Rattle.address_space.specs.Parts.{AreParts, build_need, process_of_parts, region_in}
use Rattle.exec_segments.specs.Loads.{AreLoads, JudgedLoads, load_of}
use Rattle.exec_segments.proofs.Begins.{all_end, all_parts, are_parts, ArePartsOf, begins, end_fits, end_forward, guard_is, load_fits, needs, part_forward, room, stack_is, two_behind}
use Rattle.exec_segments.proofs.start_process.parts_of.Goals as goal
use Rattle.exec_segments.proofs.start_process.parts_of.Goals.{After-as_slice-loads, After-zeros_part, After-push-3}
use Rattle.sv39_entry.specs.Schemes.{of_scheme}

-- the segments of the image

are : (c : After-as_slice-loads) → AreLoads c.image.inside.scheme (map load_of c.as_slice-loads.result.now)
are c = subst (λ ls. AreLoads c.image.inside.scheme (map load_of ls)) (sym c.as_slice-loads.ensures.value) c.image.invariant

scheme_is : (c : After-as_slice-loads) → c.image.inside.scheme ≡ c.args.image.now.scheme
scheme_is c = ap (λ (i : JudgedLoads). i.scheme) c.image.view_is

loads_are : (c : After-as_slice-loads) → map load_of c.as_slice-loads.result.now ≡ c.args.image.now.loads
loads_are c = ap (map load_of) c.as_slice-loads.ensures.value ∙ ap (λ (i : JudgedLoads). i.loads) c.image.view_is

pub push-requires : goal.push-requires
push-requires c = let few = room _ _ _ _ (are (goal.at.push-requires c).After-as_slice-loads) (omega (arith, c.loads-test.true)) c.loads.invariant.parts in omega (arith, few)

pub end_page-end-requires : goal.end_page-end-requires
end_page-end-requires c = load_fits _ _ _ _ (are (goal.at.end_page-end-requires c).After-as_slice-loads) c.loads-test.true

pub loads-preserved : goal.loads-preserved
loads-preserved c = record {
  parts = part_forward _ _ _ c.loads-test.true _ _ _ c.loads.invariant.parts (record { region = c.part.ensures.region; bytes = c.part.ensures.bytes }) c.push.ensures.items;
  last = c.end_page-end.ensures ∙ sym (end_forward _ _ _ c.loads-test.true);
}

-- all segments have their parts
parts : (c : After-zeros_part) → ArePartsOf c.loads.parts.items (map load_of c.as_slice-loads.result.now)
parts c = all_parts _ _ _ c.loads-test.false c.loads.invariant.parts

few : (c : After-zeros_part) → AreLoads c.image.inside.scheme (map load_of c.as_slice-loads.result.now) → length c.loads.parts.items ≤ 16
few c loads = room _ _ _ _ loads c.loads.auto.load-index-end c.loads.invariant.parts

last : (c : After-zeros_part) → c.loads.end ≡ end_of_loads 0 (map load_of c.as_slice-loads.result.now)
last c = all_end _ _ _ c.loads-test.false c.loads.invariant.last

pub push-requires-2 : goal.push-requires-2
push-requires-2 c =
    let at = goal.at.push-requires-2 c in
    let most = few at.After-zeros_part (are at.After-as_slice-loads) in
    omega (arith, most)

pub overflow_add-end : goal.overflow_add-end
overflow_add-end c =
    let at = goal.at.overflow_add-end c in
    let low = end_fits _ c.as_slice-loads.result.now c.loads.end (are at.After-as_slice-loads) (last at.After-zeros_part) in
    omega (arith, low, of_scheme c.image.inside.scheme)

pub push-requires-3 : goal.push-requires-3
push-requires-3 c =
    let at = goal.at.push-requires-3 c in
    let most = few at.After-zeros_part (are at.After-as_slice-loads) in
    let longer = c.push-2.ensures.len in
    omega (arith, most, longer)

-- behind them stand the guard and the stack

behind : (c : After-push-3) → c.push-3.new.self.items ≡ c.loads.parts.items ++ c.zeros_part.result ∷ c.zeros_part-2.result ∷ []
behind c = two_behind _ _ _ _ _ c.push-2.ensures.items c.push-3.ensures.items

guard : (c : After-push-3) → region_in c.zeros_part.result ≡ guard_at (end_of_loads 0 (map load_of c.as_slice-loads.result.now))
guard c = let at = goal.at.returns-clause-parts c in guard_is c.zeros_part.result _ _ c.zeros_part.ensures.region (c.empty.ensures tt) ∙ ap guard_at (last at.After-zeros_part)

stack : (c : After-push-3) → region_in c.zeros_part-2.result ≡ stack_at (end_of_loads 0 (map load_of c.as_slice-loads.result.now) + GUARD_PAGES)
stack c = let at = goal.at.returns-clause-parts c in stack_is c.zeros_part-2.result c.loads.end _ c.zeros_part-2.ensures.region (c.insert.ensures tt) ∙ ap (λ n. stack_at (n + GUARD_PAGES)) (last at.After-zeros_part)

pub returns-clause-parts : goal.returns-clause-parts
returns-clause-parts c =
    let at = goal.at.returns-clause-parts c in
    let made = are_parts _ _ _ _ _ (parts at.After-zeros_part) (are at.After-as_slice-loads) (guard c) (stack c) c.zeros_part.ensures.bytes c.zeros_part-2.ensures.bytes in
    subst (λ z. AreParts z c.push-3.new.self.items) (scheme_is at.After-as_slice-loads) (subst (AreParts c.image.inside.scheme) (sym (behind c)) made)

pub returns-clause-process : goal.returns-clause-process
returns-clause-process c fresh =
    let at = goal.at.returns-clause-process c in
    let same = scheme_is at.After-as_slice-loads in
    ap (process_of_parts c.args.image.now.scheme fresh) (behind c)
    ∙ ap (λ z. process_of_parts z fresh (c.loads.parts.items ++ c.zeros_part.result ∷ c.zeros_part-2.result ∷ [])) (sym same)
    ∙ begins _ _ _ _ _ (parts at.After-zeros_part) (are at.After-as_slice-loads) (guard c) (stack c) c.zeros_part.ensures.bytes c.zeros_part-2.ensures.bytes fresh
    ∙ ap (λ z. process_of z fresh (map load_of c.as_slice-loads.result.now)) same ∙ ap (process_of c.args.image.now.scheme fresh) (loads_are at.After-as_slice-loads)

pub returns-clause-need : goal.returns-clause-need
returns-clause-need c =
    let at = goal.at.returns-clause-need c in
    let same = scheme_is at.After-as_slice-loads in
    ap (build_need c.args.image.now.scheme) (behind c)
    ∙ ap (λ z. build_need z (c.loads.parts.items ++ c.zeros_part.result ∷ c.zeros_part-2.result ∷ [])) (sym same)
    ∙ needs _ _ _ _ _ (parts at.After-zeros_part) (are at.After-as_slice-loads) (guard c) (stack c) c.zeros_part.ensures.bytes c.zeros_part-2.ensures.bytes
    ∙ ap (λ z. start_need z (map load_of c.as_slice-loads.result.now)) same ∙ ap (start_need c.args.image.now.scheme) (loads_are at.After-as_slice-loads)
