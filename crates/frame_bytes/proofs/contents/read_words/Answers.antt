use Rattle.std.proofs.Common.{◌≡◌, ℕ, ◌*◌, ◌+◌, ◌-◌, ◌/◌, ◌<◌, ◌≤◌, ◌∙◌, length, slice_index, refl, ap, sym, subst, arith}
use Rattle.std.specs.Int.{w64, to_le_bytes}
use Rattle.frame_bytes.specs.Contents.{HasBytes}
use Rattle.frame_bytes.proofs.Taken.{byte_read, read_more, run_read, length-put_mid}
use Rattle.frame_bytes.proofs.contents.read_words.Goals as goal

pub loop-place-init : goal.loop-place-init
loop-place-init g c = record {
  fits = c.requires.fits;
  bytes = λ page has k h. absurd (omega arith);
  length = refl;
  view = refl;
  same = refl;
  keeps = λ others r. r;
}

pub loop-place-preserved : goal.loop-place-preserved
loop-place-preserved g c =
    let i = c.loop-place.invariant in
    let place : ℕ = c.loop-place.place in
    let start : ℕ = 8 * place in
    let part : c.copy_from_slice.new.self ≡ to_le_bytes w64 c.load.result = c.copy_from_slice.ensures.after ∙ c.to_le_bytes-word.ensures in
    let long : length c.copy_from_slice.new.self ≡ 8 = ap length part in
    let some : place < length c.args.bytes.now / 8 = c.loop-place-test.true in
    let inside : c.args.first + place < 512 = omega (arith, some, c.requires.inside) in
    let room : start + (start + 8 - start) ≤ length c.loop-place.bytes = omega (arith, some, i.length) in
    record {
      fits = (i.fits.0, c.load.ensures.keeps i.fits.0 i.fits.1);
      bytes = λ page has k h.
          let now = subst (λ v. HasBytes v c.args.frame.0 page) (sym i.view) has in
          read_more _ _ _ _ room (omega (arith, long)) (λ k. slice_index page (8 * c.args.first + k)) (i.bytes page has) (λ j b.
          ap (λ cs. slice_index cs j) part ∙ byte_read _ _ _ page _ now inside c.load.ensures.known j _ (omega arith) (omega arith)) k (omega arith);
      length = length-put_mid c.loop-place.bytes c.copy_from_slice.new.self start (start + 8 - start) room (omega (arith, long)) ∙ i.length;
      view = c.load.ensures.view ∙ i.view;
      same = c.load.ensures.same ∙ i.same;
      keeps = λ others r. c.load.ensures.keeps others (i.keeps others r);
    }

pub returns-clause-bytes : goal.returns-clause-bytes
returns-clause-bytes g c page has =
    let i = c.loop-place.invariant in
    run_read c.loop-place.bytes page (8 * c.args.first) (length c.args.bytes.now) (omega (arith, has.length, c.requires.inside)) i.length (λ k h. i.bytes page has k (omega (arith, h, c.requires.whole, c.loop-place-test.false)))
