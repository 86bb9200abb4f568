use Rattle.std.proofs.Common.{◌<◌, ap, arith, ◌∙◌}
use Rattle.file_shelf.specs.ShelfStates.{ShelfState}
use Rattle.file_shelf.proofs.Longer.{one_more}
use Rattle.process_model.specs.PageMoves.{page_read}
use Rattle.file_shelf.proofs.shelf.ShelfFiles.read_page.Goals as goal

pub invariant_of-self : goal.invariant_of-self
invariant_of-self c =
    let some : 0 < (c.args.self.now).room = c.requires.promised in
    let room = ap (λ (s : ShelfState). s.room) c.self.view_is in
    let more = one_more c.self.inside.first.value c.self.inside.cabinet c.self.inside.history.items (page_read c.args.file c.args.offset c.read_page.new.bytes) c.self.invariant.1 c.self.invariant.2 c.read_page.ensures.bytes (omega (arith, some, room)) in
    rw c.push_reserved.ensures.items (more.0, more.1, c.read_page.ensures.moves ∙ more.2)
