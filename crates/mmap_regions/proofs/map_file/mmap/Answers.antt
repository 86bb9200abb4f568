use Rattle.std.proofs.Common.{◌≡◌, sym, ap, ◌∙◌, Err, Ok, arith}
use Rattle.process_model.specs.Mappings.{mapped, mapping_of}
use Rattle.process_model.specs.Process.{Process}
use Rattle.process_model.specs.declared.reply.Refusal.TheVariants.{BadArgument, FileNotWritable, MappingsFull, NoRoom}
use Rattle.address_space.specs.Agreement.{body_of, IsSpace}
use Rattle.address_space.specs.Layouts.{LaysOut}
use Rattle.address_space.specs.Steps.{CanReplaceLayout, mapped_with}
use Rattle.sv39_entry.specs.Schemes.{of_scheme}
use Rattle.table_walk.specs.Tables.{Tables}
use Rattle.process_model.proofs.ReleaseLaws.{pages_for_is}
use Rattle.mmap_regions.specs.MmapEffect.{address_of_mapped}
use Rattle.mmap_regions.proofs.Mappings.{as_many, bad_argument, full, granted, no_room, not_writable, place_below, relays, with_mapping}
use Rattle.mmap_regions.proofs.map_file.mmap.Given.{Over}
use Rattle.mmap_regions.proofs.map_file.mmap.Goals as goal
use Rattle.mmap_regions.proofs.map_file.mmap.Goals.{After-add_mapping, In_default, Then-is_bad, Then-mappings-ge-MOST_MAPPINGS, Then-writes_read_only_file}

-- why it is refused

is_bad : (g : Over) (c : Then-is_bad g) (p : Process)
    → mapped (g.C.Files.files c.args.files.now) p c.args.length c.args.protection c.args.flags c.args.file ≡ Err BadArgument
is_bad g c p = bad_argument _ p _ _ _ _ (cc)

is_read_only : (g : Over) (c : Then-writes_read_only_file g) (p : Process)
    → mapped (g.C.Files.files c.args.files.now) p c.args.length c.args.protection c.args.flags c.args.file ≡ Err FileNotWritable
is_read_only g c p = not_writable _ p _ _ _ _ (cc) (cc)

is_full : (g : Over) (c : Then-mappings-ge-MOST_MAPPINGS g) (p : Process) → LaysOut c.args.space.now.layout p
    → mapped (g.C.Files.files c.args.files.now) p c.args.length c.args.protection c.args.flags c.args.file ≡ Err MappingsFull
is_full g c p lays =
    let many = as_many p _ _ lays c.mappings.ensures in
    let most = c.if-mappings-ge-MOST_MAPPINGS.true in
    full _ p _ _ _ _ (cc) (cc) (omega (arith, many, most))

has_no_room : (g : Over) (c : In_default g) (t : Tables) (p : Process) → IsSpace (body_of g.S.FrameSeat.view c.args.space.now) t p
    → mapped (g.C.Files.files c.args.files.now) p c.args.length c.args.protection c.args.flags c.args.file ≡ Err NoRoom
has_no_room g c t p agrees =
    let many = as_many p _ _ agrees.lays c.mappings.ensures in
    let few = c.if-mappings-ge-MOST_MAPPINGS.false in
    no_room _ p _ _ _ _ (cc) (cc) (omega (arith, many, few))
    _ (c.div_ceil-pages.ensures ∙ pages_for_is c.args.length) (c.in_default.ensures p agrees.lays agrees.sound.order)

-- what it makes of the process

is_granted : (g : Over) (c : After-add_mapping g) (t : Tables) (p : Process) → IsSpace (body_of g.S.FrameSeat.view c.args.space.now) t p
    → mapped (g.C.Files.files c.args.files.now) p c.args.length c.args.protection c.args.flags c.args.file
    ≡ Ok (record { process = mapped_with p (mapping_of c.in-Some.first c.div_ceil-pages.result c.args.protection c.args.flags c.args.file); first = c.in-Some.first })
is_granted g c t p agrees =
    let many = as_many p _ _ agrees.lays c.mappings.ensures in
    let few = c.if-mappings-ge-MOST_MAPPINGS.false in
    granted _ p _ _ _ _ (cc) (cc) (omega (arith, many, few))
    _ (c.div_ceil-pages.ensures ∙ pages_for_is c.args.length) _ (c.in-Some.ensures p agrees.lays agrees.sound.order)

can_relay : (g : Over) (c : After-add_mapping g) (t : Tables) (p : Process) → IsSpace (body_of g.S.FrameSeat.view c.args.space.now) t p
    → CanReplaceLayout p (mapped_with p (mapping_of c.in-Some.first c.div_ceil-pages.result c.args.protection c.args.flags c.args.file))
can_relay g c t p agrees =
    relays (g.C.Files.files c.args.files.now) p c.args.length c.args.protection c.args.flags c.args.file (cc)
    _ _ (c.div_ceil-pages.ensures ∙ pages_for_is c.args.length) (c.in-Some.ensures p agrees.lays agrees.sound.order) agrees.sound.order

pub returns-then-is_bad-clause-answer : goal.returns-then-is_bad-clause-answer
returns-then-is_bad-clause-answer g c t p agrees = ap address_of_mapped (sym (is_bad g c p))

pub returns-then-is_bad-clause-agrees : goal.returns-then-is_bad-clause-agrees
returns-then-is_bad-clause-agrees g c t p agrees = rw (is_bad g c p) agrees

pub returns-then-writes_read_only_file-clause-answer : goal.returns-then-writes_read_only_file-clause-answer
returns-then-writes_read_only_file-clause-answer g c t p agrees = ap address_of_mapped (sym (is_read_only g c p))

pub returns-then-writes_read_only_file-clause-agrees : goal.returns-then-writes_read_only_file-clause-agrees
returns-then-writes_read_only_file-clause-agrees g c t p agrees = rw (is_read_only g c p) agrees

pub returns-then-mappings-ge-MOST_MAPPINGS-clause-answer : goal.returns-then-mappings-ge-MOST_MAPPINGS-clause-answer
returns-then-mappings-ge-MOST_MAPPINGS-clause-answer g c t p agrees = ap address_of_mapped (sym (is_full g c p agrees.lays))

pub returns-then-mappings-ge-MOST_MAPPINGS-clause-agrees : goal.returns-then-mappings-ge-MOST_MAPPINGS-clause-agrees
returns-then-mappings-ge-MOST_MAPPINGS-clause-agrees g c t p agrees = rw (is_full g c p agrees.lays) agrees

pub returns-in_default-clause-answer : goal.returns-in_default-clause-answer
returns-in_default-clause-answer g c t p agrees = ap address_of_mapped (sym (has_no_room g c t p agrees))

pub returns-in_default-clause-agrees : goal.returns-in_default-clause-agrees
returns-in_default-clause-agrees g c t p agrees = rw (has_no_room g c t p agrees) agrees

pub overflow_mul-result : goal.overflow_mul-result
overflow_mul-result g c =
    let r = c.requires.ready in
    let low = place_below r.1 _ _ (c.in-Some.ensures r.1 r.2.lays r.2.sound.order) in
    omega (arith, low, of_scheme r.1.scheme)

pub returns-clause-answer : goal.returns-clause-answer
returns-clause-answer g c t p agrees =
    let is = is_granted g c t p agrees in
    rw is (ap Ok (omega arith))

pub returns-clause-agrees : goal.returns-clause-agrees
returns-clause-agrees g c t p agrees =
    let after = with_mapping _ _ t p _ _ c.new_mapping.ensures c.add_mapping.ensures.agrees (can_relay g c t p agrees) agrees in
    rw (is_granted g c t p agrees) after
