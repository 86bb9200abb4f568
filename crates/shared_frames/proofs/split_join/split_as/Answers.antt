use Rattle.std.proofs.Common.{◌≡◌, ℕ, arith, sym, ◌∙◌, subst, List, map}
use Rattle.sv39_entry.specs.declared.frame.FrameNo.{FrameNo}
use Rattle.frame_store.specs.Holds.{size-split}
use Rattle.frame_store.specs.View.{empty_view, split_off}
use Rattle.shared_frames.specs.SeatsOfTable.{IsWithin}
use Rattle.shared_frames.proofs.Parts.{splits, within-split, within-empty}
use Rattle.shared_frames.proofs.Within.{told}
use Rattle.shared_frames.proofs.split_join.split_as.Goals as goal

pub split_seat-requires : goal.split_seat-requires
split_seat-requires g c = (
  c.requires.fits.0,
  omega (arith, c.requires.sized.0),
  rw c.requires.going (splits _ _ _ _ c.requires.held c.requires.left_anchored c.requires.right_anchored),
)

pub returns-clause-fits : goal.returns-clause-fits
returns-clause-fits g c =
    let e = c.split_seat.ensures in
    let f = c.requires.fits in
    let W = c.args.table.now.table_id.words in
    let v = c.args.seat.now.seat.me.0 in
    let p = within-split W _ v (empty_view v.size) c.requires.held f.1 (within-empty W v.size) in
    let s = subst (λ (fs : List ℕ). ((split_off fs v (empty_view v.size)).0).size ≡ v.size × ((split_off fs v (empty_view v.size)).1).size ≡ v.size) (sym c.requires.going) (size-split (map (λ (f : FrameNo). f.0) c.args.frames.now) v (empty_view v.size)) in
    let left = told W _ v _ _ e.2 (subst (λ (fs : List ℕ). IsWithin W (split_off fs v (empty_view v.size)).0) (sym c.requires.going) p.0) s.0 f.2 in
    let right = told W _ v _ _ e.4 (subst (λ (fs : List ℕ). IsWithin W (split_off fs v (empty_view v.size)).1) (sym c.requires.going) p.1) s.1 f.2 in
    ((e.0 ∙ f.0, left.0, left.1), (e.3 ∙ f.0, right.0, right.1))
