use Rattle.std.proofs.Common.{◌≡◌}
use Rattle.process_model.specs.Files.{file_page}
use Rattle.tests_of_files.proofs.page_copies.copy_page.Goals as goal

pub returns-clause-moves : goal.returns-clause-moves
returns-clause-moves g c =
    let laws = g.met.F.Files in
    let same = laws.comes_to _ _ _ c.in_ok-promise.ensures.same in
    let read = rw same at c.read_page.ensures.moves in
    let page : c.read_page.new.bytes ≡ file_page (g.F.Files.files c.args.files.now) c.args.from c.args.offset = rw (← same) c.read_page.ensures.bytes in
    let write = rw page at c.write_page.ensures.moves in
    laws.goes_on _ _ _ _ _ c.in_ok-promise.ensures.same (laws.goes_on _ _ _ _ _ read write)
