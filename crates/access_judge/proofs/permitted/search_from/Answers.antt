use Rattle.std.proofs.Common.{◌≡◌, ◌<◌, ◌≤◌, ◌^◌, arith}
use Rattle.sv39_entry.specs.Satp.{asid}
use Rattle.access_history.specs.Permits.{Past}
use Rattle.access_judge.specs.Judging.{IsTable, stand_of}
use Rattle.access_judge.specs.Log.{use_of}
use Rattle.access_judge.specs.Search.{IsUse, Use}
use Rattle.access_judge.specs.declared.question.Table.{Table}
use Rattle.access_judge.proofs.EpochEnds.{epoch_end_low}
use Rattle.access_judge.proofs.QuietRoots.{root_over}
use Rattle.access_judge.proofs.Sifting.{sifted, sifts_as, sifts_first, sifts_nothing, sifts_on, sifts_told}
use Rattle.access_judge.proofs.TableSays.{root_goes, root_stops}
use Rattle.access_judge.proofs.permitted.search_from.Goals as goal

pub returns-then-is_over : goal.returns-then-is_over
returns-then-is_over g c =
    let a = c.args.question.now in let p = g.L.Log.past c.args.log.now in
    sifts_as
    (root_over a p (use_of c.args.root) c.requires (c.is_over.ensures c.if-is_over.true)) (sifts_nothing g.met.S.Sink.gains_nothing c.args.sink.now c.args.seen.now)

pub returns-then-wants_each_root : goal.returns-then-wants_each_root
returns-then-wants_each_root g c =
    let a = c.args.question.now in let p = g.L.Log.past c.args.log.now in
    let own = sifts_on g.met.S.Sink.gains_on (sifts_first g.met.S.Sink.gains_nothing c.begin.new.self c.new-own.ensures) c.search_table.ensures in
    sifts_as
    (root_goes a p (use_of c.args.root) (stand_of c.in-Some.table) c.in-Some.ensures.0)
    (sifts_on g.met.S.Sink.gains_on (sifts_told g.met.S.Sink.has_still c.args.seen.now c.begin.ensures)
    (sifts_told g.met.S.Sink.has_still c.args.seen.now (sifted own)))

pub returns-else-wants_each_root : goal.returns-else-wants_each_root
returns-else-wants_each_root g c =
    let a = c.args.question.now in let p = g.L.Log.past c.args.log.now in
    sifts_as
    (root_goes a p (use_of c.args.root) (stand_of c.in-Some.table) c.in-Some.ensures.0)
    (sifts_on g.met.S.Sink.gains_on (sifts_told g.met.S.Sink.has_still c.args.seen.now c.begin.ensures) c.search_table-else-wants_each_root.ensures)

pub returns-in_default : goal.returns-in_default
returns-in_default g c =
    let a = c.args.question.now in let p = g.L.Log.past c.args.log.now in
    sifts_as
    (root_stops a p (use_of c.args.root) c.in_default.ensures) (sifts_nothing g.met.S.Sink.gains_nothing c.args.sink.now c.args.seen.now)

table_there : (p : Past) (u : Use) (t : Table) → IsUse p.first.satp p.events u → (t.level ≤ 4) × (t.ppn < 2 ^ 44) × (t.last ≡ u.last) → IsTable p t
table_there p u t used is =
    let last = is.2 in
    let same = used.0 in
    let low = epoch_end_low p.events (asid u.satp) u.epoch in
    record { level = is.0; ppn = is.1; last = omega (arith, last, same, low) }

pub search_table-requires : goal.search_table-requires
search_table-requires g c =
    table_there (g.L.Log.past c.args.log.now) (use_of c.args.root) c.in-Some.table c.requires (c.in-Some.ensures.1, c.in-Some.ensures.2, c.in-Some.ensures.3)

pub search_table-requires-else-wants_each_root : goal.search_table-requires-else-wants_each_root
search_table-requires-else-wants_each_root g c =
    table_there (g.L.Log.past c.args.log.now) (use_of c.args.root) c.in-Some.table c.requires (c.in-Some.ensures.1, c.in-Some.ensures.2, c.in-Some.ensures.3)
