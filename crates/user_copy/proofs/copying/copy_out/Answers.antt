use Rattle.user_copy.proofs.WholeCopies.{copy_out_is}
use Rattle.user_copy.proofs.copying.copy_out.Goals as goal

pub returns-clause-copies : goal.returns-clause-copies
returns-clause-copies g c =
    copy_out_is _ g.met.C.Files.comes_to _ _ c.args.va.0 c.requires.ready c.write_pages.ensures.space c.write_pages.ensures.keeps c.args.bytes.now c.requires.few c.write_pages.result c.write_pages.ensures.copied
