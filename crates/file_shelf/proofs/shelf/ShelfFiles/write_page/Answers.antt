use Rattle.std.proofs.Common.{◌<◌, ap, arith, ◌∙◌}
use Rattle.file_shelf.specs.ShelfStates.{ShelfState}
use Rattle.file_shelf.proofs.Longer.{one_more}
use Rattle.process_model.specs.PageMoves.{page_write}
use Rattle.file_shelf.proofs.shelf.ShelfFiles.write_page.Goals as goal

pub invariant_of-self : goal.invariant_of-self
invariant_of-self c =
    let some : 0 < (c.args.self.now).room = c.requires.promised in
    let room = ap (λ (s : ShelfState). s.room) c.self.view_is in
    let more = one_more c.self.inside.first.value c.self.inside.cabinet c.self.inside.history.items (page_write c.args.file c.args.offset c.args.bytes.now) c.self.invariant.1 c.self.invariant.2 tt (omega (arith, some, room)) in
    rw c.push_reserved.ensures.items (more.0, more.1, c.write_page.ensures.moves ∙ more.2)
