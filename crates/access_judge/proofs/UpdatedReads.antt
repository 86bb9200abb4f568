-- Lemmas of a leaf in which the hart sets A or D while it holds it.
use Rattle.std.proofs.Common.{◌≡◌, ℕ, ◌||◌, ◌&&◌, true, List, ◌∷◌, refl, sym, ◌∙◌, ap, inl, inr, arith, not, ◌==◌}
use Rattle.std.proofs.lemmas.Bool.{and_from, and_parts}
use Rattle.walk_rules.specs.declared.extensions.Extensions.{Extensions}
use Rattle.access_history.specs.Held.{IsHeld, IsPlace, IsUpdate, MayRead, Read, at_root, below, has_global, is_with_ad, stays, updated, with_word}
use Rattle.access_history.specs.History.{First, IsPast, now, older}
use Rattle.access_history.specs.declared.event.Event.{Event}
use Rattle.access_history.specs.declared.event.Event.TheVariants.{Store}
use Rattle.access_history.proofs.AdWords.{global_still, napot_still, with_ad_again}
use Rattle.access_history.proofs.Updates.{covered_before, had_update, set_in}
use Rattle.access_judge.proofs.KeptReads.{kept_from, kept_uncovered}
use Rattle.access_judge.proofs.Moments.{past_length, past_trans}
use Rattle.access_judge.proofs.Parts.{IsAlike}

module _ (x : Extensions) (f : First) (va : ℕ) (e : Event) (k : List Event) (w : ℕ) where
  -- a walk that may have read a leaf of an earlier moment may have read the update
  may_updated : (h past : List Event) (r : Read) → MayRead x f va h r past → IsPast h (e ∷ k) → IsPast k past → IsUpdate x f va e k r w
      → MayRead x f va h (with_word r w) (e ∷ k)
  may_updated h past r may at since is = record {
    had = had_update x f va e k r w is;
    kept = kept_from x f va (with_word r w) h (e ∷ k) at (λ d g in_past behind covered.
        kept_uncovered x f va r h past may.kept d g in_past (past_trans g (e ∷ k) past behind (older since))
        (covered_before x f va r w (set_in x f va e k r w is) is.leaf d g past (e ∷ k) covered));
    allowed = may.allowed;
  }

  same_global : (r : Read) → IsUpdate x f va e k r w → has_global r.word ≡ has_global w
  same_global r is = sym (global_still r.word w (set_in x f va e k r w is))

  -- the update of a leaf that is held now is held now, if the leaf's word was there before
  pub held_updated : (h past : List Event) (r : Read) → IsHeld x f va h r past → IsPast h (e ∷ k) → IsPast k past → IsUpdate x f va e k r w
      → IsHeld x f va h (with_word r w) (e ∷ k)
  held_updated h past r (at_root may root) at since is =
      at_root (may_updated h past r may at since is)
      (record {
        satp = root.satp;
        under = root.under;
        highest = root.highest;
        canonical = root.canonical;
        root = root.root;
        space = root.space;
        global = root.global ∙ same_global r is;
      })
  held_updated h past r (below {above = above} up may step) at since is =
      below up (may_updated h past r may at since is) (record {
        pointer = step.pointer;
        next_level = step.next_level;
        table = step.table;
        space = step.space;
        global = step.global ∙ ap (λ b. above.global || b) (same_global r is);
      })
  held_updated h past r (stays was free) now since is = updated was is
  held_updated h past r (stays {h = before} {e = d} was free) (older at) since is =
      stays (held_updated before past r was at since is)
      (λ covered. free (covered_before x f va r w (set_in x f va e k r w is) is.leaf d before past (e ∷ k) covered))
  held_updated h past r (updated {h = before} {e = d} was other) at since is =
      let long = past_length h (e ∷ k) at in
      let short = past_length k (d ∷ before) since in
      absurd (omega (arith, long, short))

  -- an update by a leaf is one by each that is alike
  pub update_alike : (c b : Read) → IsAlike c b → IsUpdate x f va e k b w → IsUpdate x f va e k c w
  update_alike c b alike is = record {
    scheme = is.scheme;
    leaf = rw (alike.level, alike.word) is.leaf;
    index = is.index;
    place = place is.index is.place;
    stores = is.stores ∙ ap (λ (n : ℕ). Store n is.index w) (sym alike.table);
    was = is.was;
    before = rw alike.table is.before;
    sets = rw alike.word is.sets;
  } where
    place : (index : ℕ) → IsPlace x va b index → IsPlace x va c index
    place index (inl own) = inl (rw alike.level own)
    place index (inr group) = inr (group.0, alike.level ∙ group.1, rw alike.word group.2, group.3)

-- an update by what an update made of a leaf is one by the leaf
pub update_again : (x : Extensions) (f : First) (va : ℕ) (d e : Event) (g k : List Event) (b : Read) (v w : ℕ) → IsUpdate x f va d g b v
    → IsUpdate x f va e k (with_word b v) w → IsUpdate x f va e k b w
update_again x f va d e g k b v w first second =
    let set = set_in x f va d g b v first in
    let parts = and_parts (is_with_ad v second.was && is_with_ad second.was w) (not (second.was == w)) second.sets in
    let both = and_parts (is_with_ad v second.was) (is_with_ad second.was w) parts.0 in
    let more = with_ad_again b.word v second.was set both.0 in
    record {
      scheme = first.scheme;
      leaf = first.leaf;
      index = second.index;
      place = place set second.index second.place;
      stores = second.stores;
      was = second.was;
      before = second.before;
      sets = and_from (is_with_ad b.word second.was && is_with_ad second.was w) (not (second.was == w))
          (and_from (is_with_ad b.word second.was) (is_with_ad second.was w) more both.1) parts.1;
    } where
      place : is_with_ad b.word v ≡ true → (index : ℕ) → IsPlace x va (with_word b v) index → IsPlace x va b index
      place set index (inl own) = inl own
      place set index (inr group) = inr (group.0, group.1, sym (napot_still b.word v set 0) ∙ group.2, group.3)

pub alike_updated : (c b : Read) (w : ℕ) → IsAlike c b → IsAlike (with_word c w) (with_word b w)
alike_updated c b w alike = record { level = alike.level; table = alike.table; word = refl; global = alike.global; asid = alike.asid }
