use Rattle.std.proofs.Common.{◌≡◌, ◌+◌, ◌*◌, ◌∙◌, refl, sym, subst, arith, ℕ}
use Rattle.sv39_entry.specs.Rights.{reads, writes, executes}
use Rattle.sv39_entry.specs.Word as words
use Rattle.sv39_entry.proofs.Bits.{flag0, flag1, flag2}
use Rattle.sv39_entry.proofs.Made.{leaf_read}
use Rattle.sv39_entry.proofs.entry.Entry.leaf.Goals as goal

pub returns-clause-made : goal.returns-clause-made
returns-clause-made c =
    let frame = c.args.frame.0 in
    let rights = c.args.rights.0 in
    let read : c.contains.result ≡ reads rights = c.contains.ensures tt ∙ flag0 rights in
    let write : c.contains-2.result ≡ writes rights = c.contains-2.ensures tt ∙ flag1 rights in
    let execute : c.contains-3.result ≡ executes rights = c.contains-3.ensures tt ∙ flag2 rights in
    let word : c.ppn.result * 1024 + c.leaf_flags-flags.result ≡ words.leaf_word frame rights c.args.user c.args.cow c.args.dirty = rw (c.ppn.ensures, c.leaf_flags-flags.ensures.value, read, write, execute) refl in
    let P : ℕ → Type 0 = λ w. words.IsLeafOf w frame rights c.args.user c.args.cow c.args.dirty in
    subst P (sym word) (leaf_read frame rights c.args.user c.args.cow c.args.dirty (omega arith))
