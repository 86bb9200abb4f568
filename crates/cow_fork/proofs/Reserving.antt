-- Lemmas for the stage `prepare` of a fork: credits that are reserved before references are taken (`prepared`), and given
-- back if a count is full (`back_again`).
use Rattle.std.proofs.Common.{◌≡◌, ℕ, ◌<◌, ap, refl, sym, subst, ◌∙◌, arith, List, [], ◌∷◌}
use Rattle.frame_store.specs.Holds.{hold_of-frames}
use Rattle.frame_store.specs.Laws.{IsAnchored}
use Rattle.frame_store.specs.View.{counted, Hold, hold_of, IsHeld, View, with_credits, without_credits}
use Rattle.cow_fork.specs.Forks.{IsGivenBack, Prepares}
use Rattle.cow_fork.specs.Occurrences.{times}
use Rattle.cow_fork.specs.ForkReferences.{HasMore, with_more}

module _ (v w : View) (need : ℕ) (is : w ≡ with_credits need v) where
  same : (f : ℕ) → hold_of w f ≡ hold_of v f
  same f = ap (λ (k : View). hold_of k f) is ∙ hold_of-frames (with_credits need v) v refl f

  pub held_reserved : (f : ℕ) → IsHeld v f → IsHeld w f
  held_reserved f held = subst (λ (h : Hold). 0 < h.references) (sym (same f)) held

  held_before : (f : ℕ) → IsHeld w f → IsHeld v f
  held_before f held = subst (λ (h : Hold). 0 < h.references) (same f) held

  pub anchored_still : IsAnchored v → IsAnchored w
  anchored_still anchored f held = held_reserved 0 (anchored f (held_before f held))

  pub prepared : (x : View) (frames shared : List ℕ) → v.credits ≡ 0 → HasMore w x frames → frames ≡ shared → x.credits ≡ w.credits → x.tallies ≡ w.tallies → Prepares v x need frames shared
  prepared x frames shared none more all credits tallies = record {
    more = record {
      holds = λ f. more.holds f ∙ ap (with_more (times f frames)) (same f);
      held = λ f some. held_before f (more.held f some);
      anchored = λ f held. held_before 0 (more.anchored f (held_reserved f held));
    };
    all = all;
    credits = let now = ap (λ (k : View). k.credits) is in omega (arith, now, credits, none);
    tallies = tallies ∙ ap (λ (k : View). k.tallies) is;
  }

  pub back_again : (x y : View) → ((f : ℕ) → hold_of x f ≡ hold_of w f) → x.credits ≡ w.credits → x.tallies ≡ counted (65535 ∷ []) w.tallies → y ≡ without_credits need x → IsGivenBack v y
  back_again x y holds credits tallies gives = record {
    holds = λ f. ap (λ (k : View). hold_of k f) gives ∙ hold_of-frames (without_credits need x) x refl f ∙ holds f ∙ same f;
    credits = let last = ap (λ (k : View). k.credits) gives in let first = ap (λ (k : View). k.credits) is in omega (arith, last, first, credits);
    tallies = ap (λ (k : View). k.tallies) gives ∙ tallies ∙ ap (λ (k : View). counted (65535 ∷ []) k.tallies) is;
  }
