-- Lemmas for `exec`'s credits, reserved before the old process is released: what is then taken of them (`takes_reserved`),
-- and a refused reservation (`runs_dry`). Also what a result says, by whether it is an error; and that a refused promise of
-- the files is never reported as `NoFrame`.
use Rattle.std.proofs.Common.{◌≡◌, ℕ, true, false, ap, sym, ◌∙◌, arith, [], Result, Ok, Err}
use Rattle.std.specs.Prelude.{IfErr, IfOk, is_err}
use Rattle.std.proofs.lemmas.List.{append-nil}
use Rattle.address_space.specs.Steps.{RunsDry, TakesFrames}
use Rattle.file_cabinet.specs.Promises.{refusal_of}
use Rattle.file_cabinet.specs.declared.promise.PromiseError.{PromiseError}
use Rattle.file_cabinet.specs.declared.promise.PromiseError.TheVariants as error
use Rattle.frame_store.specs.Laws.{IsDry}
use Rattle.frame_store.specs.View.{taken, Tallies, View, with_credits}
use Rattle.process_model.specs.declared.reply.Refusal.TheVariants as refusal

-- what a result is, by whether it is a refusal

pub refused : {A E : Type 0} (r : Result A E) (P : E → Type 0) → is_err r ≡ true → IfErr r P → (e : E) × P e
refused (Ok x) P is told = absurd (cc)
refused (Err e) P is told = (e, told)

pub went_well : {A E : Type 0} (r : Result A E) (P : A → Type 0) → is_err r ≡ false → IfOk r P → (x : A) × P x
went_well (Ok x) P is told = (x, told)
went_well (Err e) P is told = absurd (cc)

-- a space that is as it was
module _ (u v w : View) (n need : ℕ) (is : v ≡ u) (same : n ≡ need) where
  -- too few frames were free
  pub runs_dry : u.credits ≡ 0 → IsDry n v w → RunsDry u w need []
  runs_dry none dry =
      let before = ap (λ (x : View). x.credits) is in
      let tallies = ap (λ (x : View). x.tallies) is in
      let zeros = ap (λ (x : Tallies). x.zeros) tallies in
      record {
        claims = dry.claims ∙ ap (λ (x : Tallies). x.claims) tallies;
        zeros = omega (arith, zeros, dry.zeros);
        short = omega (arith, dry.short, before, none, same);
        looks = dry.looks ∙ ap (λ (x : Tallies). x.looks) tallies ∙ sym (append-nil (u.tallies).looks);
      }

  -- they were reserved, and were taken by steps from there
  pub takes_reserved : (x y : View) (m : ℕ) → w ≡ with_credits n v → x ≡ w → m ≡ need → TakesFrames x y m [] → TakesFrames u y need []
  takes_reserved x y m reserved there all takes =
      let before : x.tallies ≡ u.tallies = ap (λ (k : View). k.tallies) (there ∙ reserved ∙ ap (with_credits n) is) in
      record { tallies = takes.tallies ∙ ap (taken m []) before ∙ ap (λ k. taken k [] u.tallies) all }

  pub credits_reserved : (x : View) → u.credits ≡ 0 → w ≡ with_credits n v → x ≡ w → x.credits ≡ need
  credits_reserved x none reserved there =
      let now = ap (λ (k : View). k.credits) (there ∙ reserved ∙ ap (with_credits n) is) in
      omega (arith, now, none, same)

-- a promise is not refused for want of frames
pub never_no_frame : (x : PromiseError) → refusal_of x ≡ refusal.NoFrame → ⊥
never_no_frame error.Memory is = cc
never_no_frame error.JournalFull is = cc
