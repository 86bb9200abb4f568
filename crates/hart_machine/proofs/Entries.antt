-- Lemmas for the step `Evict`: there is no such hart, no such entry, or one less; reply and world (the model's state) are
-- the model's. Also when a machine has a hart, and what is in a list after a removal was in it.
use Rattle.std.proofs.Common.{◌≡◌, ℕ, zero, suc, ◌<◌, ◌≤◌, nat_lt, length, get_or, true, None, option_map, List, [], ◌∷◌, ◌++◌, map, take, drop, refl, ap, sym, subst, ◌∙◌, arith}
use Rattle.std.specs.Prelude.{Contains, remove, slice_get}
use Rattle.std.specs.Vec.{vec_len, with_item}
use Rattle.std.proofs.lemmas.List.{drop-map, length-map, map-append, take-map}
use Rattle.std.proofs.lemmas.Option.{slice_get_past, slice_get_read}
use Rattle.frame_store.specs.Seats.{place_set_back}
use Rattle.process_model.specs.Steps.{plain_step}
use Rattle.process_model.specs.World.{World, always, answers, with_hart}
use Rattle.process_model.specs.declared.phase.Phase.{Phase}
use Rattle.process_model.specs.declared.reply.Refusal.TheVariants.{BadArgument, NoEntry}
use Rattle.process_model.specs.declared.reply.ScalarReply.TheVariants.{Done, Refused}
use Rattle.process_model.specs.declared.reply.Reply.TheVariants.{Scalar}
use Rattle.process_model.specs.declared.step.Step.TheVariants as step
use Rattle.hart_machine.specs.Harts.{hart_of, key_of}
use Rattle.hart_machine.specs.Worlds.{IsWorldButBuffers, IsModelOutcome}
use Rattle.hart_machine.specs.declared.hart.Hart.{Hart}
use Rattle.hart_machine.specs.declared.machine.Machine.{Machine}
use Rattle.hart_machine.proofs.HartSteps.{has_hart, hart_changes, hart_read, HasHart, makes, no_hart, refused, runs, without_entry, without_hart}

module _ {A : Type 0} where
  -- what is left was there
  pub in_remove : (xs : List A) (n : ℕ) (x : A) → Contains (remove xs n) x → Contains xs x
  in_remove [] zero x there = there
  in_remove [] (suc n) x there = there
  in_remove (y ∷ xs) zero x there = (suc there.0, omega (arith, there.1), there.2)
  in_remove (y ∷ xs) (suc n) x (zero, less, is) = (zero, omega arith, is)
  in_remove (y ∷ xs) (suc n) x (suc k, less, is) = let old = in_remove xs n x (k, omega (arith, less), is) in (suc old.0, omega (arith, old.1), old.2)

  map-remove : {B : Type 0} (f : A → B) (xs : List A) (n : ℕ) → map f (remove xs n) ≡ remove (map f xs) n
  map-remove f xs n = map-append f (take n xs) (drop (suc n) xs) ∙ ap (λ ys. ys ++ map f (drop (suc n) xs)) (sym (take-map f n xs)) ∙ ap (λ ys. take n (map f xs) ++ ys) (sym (drop-map f (suc n) xs))

module _ (m : Machine) (w : World) (is : IsWorldButBuffers m w) (h : ℕ) where
  pub no_hart_beyond : vec_len m.harts ≤ h → slice_get w.harts h ≡ None
  no_hart_beyond beyond = no_hart m w is h (ap (option_map (λ x. x.phase)) (sym (slice_get_past m.harts.items h (subst (λ k. k ≤ h) m.harts.ok.0 beyond))))

  -- the hart that is read, where there are so many
  pub hart_within : h < vec_len m.harts → (x : Hart) → x ≡ get_or m.harts.items h x → HasHart m w h x.phase
  hart_within within x read = has_hart m w is h x.phase (ap (option_map (λ x. x.phase)) (sym (slice_get_read m.harts.items (vec_len m.harts) h x m.harts.ok.0 within read)))

module _ (m : Machine) (w : World) (is : IsWorldButBuffers m w) (h n : ℕ) where
  pub evicts_nowhere : vec_len m.harts ≤ h → IsModelOutcome m (Scalar (Refused BadArgument)) (plain_step w (step.Evict h n))
  evicts_nowhere beyond = refused m w is BadArgument _ (without_hart w h true _ _ _ (no_hart_beyond m w is h beyond))

  module _ (p : Phase) (has : HasHart m w h p) (x : Hart) (read : x ≡ get_or m.harts.items h x) where
    is_hart : x ≡ has.hart
    is_hart = hart_read m w is h p has x read

    keys_are : nat_lt n (length (map key_of has.hart.buffer)) ≡ nat_lt n (length x.buffer)
    keys_are = ap (nat_lt n) (length-map has.hart.buffer key_of) ∙ ap (λ (z : Hart). nat_lt n (length z.buffer)) (sym is_hart)

    pub evicts : n < length x.buffer → (y : Hart) → y ≡ record x { buffer = remove x.buffer n } → IsModelOutcome (record m { harts = with_item m.harts h y }) (Scalar Done) (plain_step w (step.Evict h n))
    evicts within y made =
        subst (λ (z : Hart). IsModelOutcome (record m { harts = with_item m.harts h z }) (Scalar Done) (plain_step w (step.Evict h n))) (sym (made ∙ ap (λ (z : Hart). record z { buffer = remove z.buffer n }) is_hart))
        (makes _ (Scalar Done) _ _ (hart_changes m w is h has.hart (record has.hart { buffer = remove has.hart.buffer n }) has.there (λ s on. is.hosted h s has.hart has.there on) (λ s on k z at also. is.alone s k h z has.hart at has.there also on) (λ none. is.idle h has.hart has.there none)
        (λ e there. is.local h has.hart e has.there (in_remove has.hart.buffer n e there)))
        (runs w h true always (λ z. nat_lt n (length z.keys)) _ (hart_of has.hart) has.in_model refl refl (keys_are ∙ grind (arith, within))
        ∙ ap (λ ks. answers (with_hart w h (record (hart_of has.hart) { keys = ks })) (Scalar Done)) (sym (map-remove key_of has.hart.buffer n))))

    pub evicts_nothing : (n < length x.buffer → ⊥) → (y : Hart) → y ≡ x → IsModelOutcome (record m { harts = with_item m.harts h y }) (Scalar (Refused NoEntry)) (plain_step w (step.Evict h n))
    evicts_nothing beyond y same =
        subst (λ (z : Hart). IsModelOutcome (record m { harts = with_item m.harts h z }) (Scalar (Refused NoEntry)) (plain_step w (step.Evict h n))) (sym (same ∙ is_hart))
        (refused _ w (subst (λ (v : World). IsWorldButBuffers (record m { harts = with_item m.harts h has.hart }) v) (ap (λ hs. record w { harts = hs }) (place_set_back w.harts h (hart_of has.hart) has.in_model))
        (hart_changes m w is h has.hart has.hart has.there (λ s on. is.hosted h s has.hart has.there on) (λ s on k z at also. is.alone s k h z has.hart at has.there also on) (λ none. is.idle h has.hart has.there none) (λ e. is.local h has.hart e has.there))) NoEntry _
        (without_entry w h true always (λ z. nat_lt n (length z.keys)) _ (hart_of has.hart) has.in_model refl refl (keys_are ∙ let past : length x.buffer ≤ n = omega (arith, beyond) in grind (arith, past))))
