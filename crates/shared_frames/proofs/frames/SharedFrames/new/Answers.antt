use Rattle.std.proofs.Common.{◌≡◌, ℕ, ◌+◌, ◌*◌, refl, sym, ap, ◌∙◌, subst, List, [], ◌∷◌, arith, length}
use Rattle.frame_store.specs.View.{opening_view}
use Rattle.shared_frames.specs.Invariant.{IsSharedInvariant}
use Rattle.shared_frames.proofs.Ends.{begins, wide, within-opening}
use Rattle.shared_frames.proofs.Within.{told}
use Rattle.shared_frames.proofs.frames.SharedFrames.new.Goals as goal

pub of_words-requires : goal.of_words-requires
of_words-requires c = subst (λ (ws : List ℕ). IsSharedInvariant c.args.frames ws (opening_view c.args.frames ∷ [])) (sym (c.deref.ensures.value ∙ c.in_ok-words.ensures)) (begins c.args.frames c.requires.some c.requires.few)

pub returns-clause-fits : goal.returns-clause-fits
returns-clause-fits c =
    let e = c.in_ok-table.ensures in
    let long : c.in_ok-table.table.shared.table_id.words ≡ 513 * c.args.frames + 1 = e.0 ∙ (ap length (c.deref.ensures.value ∙ c.in_ok-words.ensures) ∙ wide c.args.frames c.requires.some c.requires.few) in
    let p = told c.in_ok-table.table.shared.table_id.words _ (opening_view c.args.frames) _ _ e.4 (within-opening _ c.args.frames (omega (arith, long, c.requires.some))) refl (long, c.requires.few, c.requires.some) in
    (e.2, p.0, p.1)
