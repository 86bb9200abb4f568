use Rattle.std.proofs.Common.{arith, Err, Ok}
use Rattle.user_copy.proofs.WholeCopies.{bytes_in_are, copy_in_is, whole_in}
use Rattle.user_copy.proofs.copying.copy_in.Goals as goal

pub returns-in-Ok-clause-copies : goal.returns-in-Ok-clause-copies
returns-in-Ok-clause-copies g c =
    copy_in_is _ g.met.C.Files.comes_to _ _ c.args.va.0 c.requires.ready c.read_pages.ensures.space c.read_pages.ensures.keeps c.args.n c.requires.few (Ok c.read_pages.new.bytes) tt c.in-Ok.ensures.copied

pub returns-in-Ok-clause-bytes : goal.returns-in-Ok-clause-bytes
returns-in-Ok-clause-bytes g c =
    bytes_in_are _ g.met.C.Files.comes_to _ _ c.args.va.0 c.requires.ready c.read_pages.ensures.space c.read_pages.ensures.keeps c.args.n c.requires.few (Ok c.read_pages.new.bytes) c.in-Ok.ensures.copied

pub returns-in-Ok-clause-all : goal.returns-in-Ok-clause-all
returns-in-Ok-clause-all g c =
    whole_in _ g.met.C.Files.comes_to _ _ c.args.va.0 c.requires.ready c.read_pages.ensures.space c.read_pages.ensures.keeps c.args.n c.requires.few c.read_pages.new.bytes c.in-Ok.ensures.copied

pub returns-in-Err-clause-copies : goal.returns-in-Err-clause-copies
returns-in-Err-clause-copies g c =
    copy_in_is _ g.met.C.Files.comes_to _ _ c.args.va.0 c.requires.ready c.read_pages.ensures.space c.read_pages.ensures.keeps c.args.n c.requires.few
    (Err (record { rule = c.in-Err.rule; done = c.len-done.result; bytes = c.read_pages.new.bytes })) (omega (arith, c.len-done.ensures)) c.in-Err.ensures.copied

pub returns-in-Err-clause-bytes : goal.returns-in-Err-clause-bytes
returns-in-Err-clause-bytes g c =
    bytes_in_are _ g.met.C.Files.comes_to _ _ c.args.va.0 c.requires.ready c.read_pages.ensures.space c.read_pages.ensures.keeps c.args.n c.requires.few
    (Err (record { rule = c.in-Err.rule; done = c.len-done.result; bytes = c.read_pages.new.bytes })) c.in-Err.ensures.copied
