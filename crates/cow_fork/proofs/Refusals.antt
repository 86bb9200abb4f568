-- Lemmas for a refused fork: if references and credits are what they were, so is the process; what a refused reservation or a
-- full count says (`runs_dry`, `takes_counted`). And what lets one begin: the seat holds the frames to be shared, and after
-- the reservation the child can be made (`can_divide`).
use Rattle.std.proofs.Common.{◌≡◌, ◌⊎◌, ℕ, ◌<◌, ◌≤◌, ap, refl, sym, subst, ◌∙◌, inl, inr, arith, Result, Ok, Err, List, [], ◌∷◌, length, ◌++◌, ◌+◌}
use Rattle.std.proofs.lemmas.List.{append-nil, length-map}
use Rattle.frame_store.specs.Laws.{IsAnchored, IsDry}
use Rattle.frame_store.specs.View.{Hold, hold_of, IsHeld, View, counted}
use Rattle.frame_store.specs.Holds.{hold_of-frames}
use Rattle.process_model.specs.Frames.{fork_need}
use Rattle.process_model.specs.Process.{Process}
use Rattle.table_walk.specs.Tables.{Tables}
use Rattle.address_space.specs.Agreement.{Body, body, body_of, IsSpace, no_extra}
use Rattle.address_space.specs.Layouts.{Layout}
use Rattle.address_space.specs.SettledLists.{AreSettled}
use Rattle.address_space.specs.Steps.{RunsDry, TakesFrames}
use Rattle.address_space.specs.declared.settled_pages.SettledPage.{SettledPage}
use Rattle.address_space.specs.declared.space.Space.{Space}
use Rattle.cow_fork.specs.Forks.{CanDivide, Prepares}
use Rattle.cow_fork.specs.Occurrences.{times}
use Rattle.cow_fork.specs.ForkReferences.{AreToShare, frames_of}
use Rattle.cow_fork.specs.declared.fork_process.ForkError.{ForkError}
use Rattle.cow_fork.specs.declared.fork_process.ForkError.TheVariants.{NoFrame, SharersFull}
use Rattle.address_space.specs.SeatExtras.{stands_beside}
use Rattle.cow_fork.proofs.Going.{going_few, going_held, going_settled}
use Rattle.cow_fork.proofs.Walking.{body_between}
use Rattle.sv39_entry.specs.Schemes.{trapframe_page}

-- ---- results

abbrev error_or : {A E : Type 0} → E → Result A E → E
error_or d (Ok a) = d
error_or d (Err e) = e

-- an error is told of whatever there is beside it
pub same_error : {A B E : Type 0} (e f : E) → ◌≡◌ {A = Result A E} (Err e) (Err f) → ◌≡◌ {A = Result B E} (Err e) (Err f)
same_error {A} {B} {E} e f is = ap (λ (x : E). Err x) (error_is is) where
  error_is : ◌≡◌ {A = Result A E} (Err e) (Err f) → e ≡ f
  error_is is = ap (λ (r : Result A E). error_or e r) is

pub either_refusal : (e : ForkError) → (e ≡ NoFrame) ⊎ (e ≡ SharersFull)
either_refusal NoFrame = inl refl
either_refusal SharersFull = inr refl

-- ---- the space is whole

pub whole_again : (v w : View) → ((f : ℕ) → hold_of w f ≡ hold_of v f) → w.credits ≡ v.credits → (root saved : ℕ) (l : Layout) (t : Tables) (p : Process)
    → IsSpace (body v root saved l) t p → IsSpace (body w root saved l) t p
whole_again v w holds credits root saved l t p space = record {
  sound = space.sound;
  lays = space.lays;
  stands = stands_beside v w no_extra (λ f. let is = ap (λ (h : Hold). h.references) (holds f) in omega (arith, is))
      (λ f _. (ap (λ (h : Hold). h.words) (holds f), ap (λ (h : Hold). h.sole) (holds f))) root saved t p space.stands;
  credits = credits ∙ space.credits;
}

pub dry_whole : (v w : View) (n : ℕ) → IsDry n v w → (f : ℕ) → hold_of w f ≡ hold_of v f
dry_whole v w n dry f = hold_of-frames w v dry.frames f

pub runs_dry : (o v w : View) (n need : ℕ) → v ≡ o → IsDry n v w → v.credits ≡ 0 → n ≡ need → RunsDry o w need []
runs_dry o v w n need is dry none same = record {
  claims = dry.claims ∙ ap (λ (x : View). x.tallies.claims) is;
  zeros = let old = ap (λ (x : View). x.tallies.zeros) is in omega (arith, dry.zeros, old);
  short = omega (arith, dry.short, none, same);
  looks = dry.looks ∙ ap (λ (x : View). x.tallies.looks) is ∙ sym (append-nil o.tallies.looks);
}

-- ---- what may begin

module _ (x : Body) (t : Tables) (p : Process) (space : IsSpace x t p) where
  pub space_anchored : IsAnchored x.view
  space_anchored f _ = going_held x t p space (trapframe_page p.scheme) 0 (inl refl)

  module _ (list : List SettledPage) (settled : AreSettled t p 0 (trapframe_page p.scheme) list) where
    going : AreToShare t p (trapframe_page p.scheme) (0 ∷ frames_of list)
    going = going_settled x t p space list settled

    pub going_once : (f : ℕ) → times f (0 ∷ frames_of list) ≤ 1
    going_once f = elim (going f) [ inl there ↦ (let one = there.0 in omega (arith, one)) | inr none ↦ (let zero_ = none.0 in omega (arith, zero_)) ]

    pub all_held : (f : ℕ) → 0 < times f (0 ∷ frames_of list) → IsHeld x.view f
    all_held f some = elim (going f) [ inl there ↦ going_held x t p space (trapframe_page p.scheme) f there.1 | inr none ↦ absurd (let zero_ = none.0 in omega (arith, zero_, some)) ]

    pub few_pages : ((f : ℕ) → IsHeld x.view f → f < 1024) → length list < 1024
    few_pages within =
        let most = going_few x t p space (trapframe_page p.scheme) (0 ∷ frames_of list) going within in
        let same = length-map list (λ (y : SettledPage). (y.frame).0) in
        omega (arith, most, same)

-- it may be divided
pub can_divide : {S : Type 0} (view : S → View) (x y : Space S) (v : View) (t : Tables) (p : Process) (need : ℕ) (list : List SettledPage) (L : List ℕ)
    → IsSpace (body_of view y) t p → AreSettled t p 0 (trapframe_page p.scheme) list
    → v ≡ view y.seat → x.root ≡ y.root → x.trapframe ≡ y.trapframe → x.layout ≡ y.layout → need ≡ fork_need p
    → Prepares v (view x.seat) need L (0 ∷ frames_of list) → CanDivide v (body_of view x) t p list L
can_divide view x y v t p need list L space settled viewed root trapframe layout needs ready = record {
  space = subst (λ b. IsSpace b t p) (sym (body_between v (view y.seat) x y viewed root trapframe layout)) space;
  more = ready.more;
  going = subst (AreToShare t p (trapframe_page p.scheme)) (sym ready.all) (going_settled (body_of view y) t p space list settled);
  settled = settled;
  credits = ready.credits ∙ needs;
  tallies = ready.tallies;
}

-- counts were read, and nothing else was taken
pub takes_counted : (v w : View) (counts : List ℕ) → w.tallies ≡ counted counts v.tallies → TakesFrames v w 0 counts
takes_counted v w counts is =
    let none : (v.tallies).claims ≡ (v.tallies).claims + 0 = omega arith in
    record { tallies = is ∙ ap (λ k. record v.tallies { claims = k; looks = (v.tallies).looks ++ counts }) none }
