use Rattle.std.proofs.Common.{◌≡◌, ◌%◌, ◌∙◌, ap, refl, arith}
use Rattle.std.specs.Int.{w64, from_le_bytes, to_le_bytes}
use Rattle.process_model.specs.Bytes.{write_bytes}
use Rattle.frame_bytes.specs.StoredWords.{changes_one, stored_as}
use Rattle.frame_bytes.proofs.Stored.{bytes_stored, word_stored}
use Rattle.frame_bytes.proofs.contents.store_in_word.Goals as goal

pub returns-clause-bytes : goal.returns-clause-bytes
returns-clause-bytes g c bytes has =
    let word : c.from_le_bytes.result ≡ from_le_bytes w64 c.overwrite.new.bytes = c.from_le_bytes.ensures in
    let put : c.overwrite.new.bytes ≡ write_bytes c.to_le_bytes-word.result (c.args.offset % 8) c.args.part.now = c.overwrite.ensures in
    let old : c.to_le_bytes-word.result ≡ to_le_bytes w64 c.load.result = c.to_le_bytes-word.ensures in
    bytes_stored c.args.frame.0 c.args.offset c.load.result c.args.part.now bytes _ _ has
    c.requires.inside c.requires.in_word (λ k. omega (arith, c.type_inv.part k)) c.load.ensures.known
    (stored_as _ _ _ _ _ _ _ c.store-2.ensures.view c.load.ensures.view (word ∙ ap (from_le_bytes w64) (rw old at put)))

pub returns-clause-others : goal.returns-clause-others
returns-clause-others g c = changes_one _ _ _ _ _ (stored_as _ _ _ _ _ _ _ c.store-2.ensures.view c.load.ensures.view refl)

pub returns-then-part-eq8-clause-bytes : goal.returns-then-part-eq8-clause-bytes
returns-then-part-eq8-clause-bytes g c bytes has =
    word_stored c.args.frame.0 c.args.offset _ c.args.part.now bytes _ _ has c.requires.inside c.requires.in_word c.if-part-eq8.true (λ k. omega (arith, c.type_inv.part k))
    c.whole_word.ensures c.store.ensures.view

pub returns-then-part-eq8-clause-others : goal.returns-then-part-eq8-clause-others
returns-then-part-eq8-clause-others g c = changes_one _ _ _ _ _ c.store.ensures.view
