-- Lemmas on `ServesPage`: the record of each outcome of `make_resident` (`made_ready`, `ran_dry`, `refused`); of a service
-- after a call that only read the space (`after_reading`); and of a service that no rule denies (`no_rule`).
use Rattle.std.proofs.Common.{arith, ◌≡◌, ◌-◌, ◌<◌, ◌≤◌, ℕ, ap, refl, sym, subst, ◌∙◌, [], length, Option, None, Result, Ok, Err}
use Rattle.std.specs.Prelude.{if◌then◌else◌}
use Rattle.address_space.specs.Agreement.{Body, IsSpace, same_body}
use Rattle.address_space.specs.Kept.{IsUntouched, KeepsPlace, OnlyReads}
use Rattle.address_space.specs.declared.space.Space.{Space}
use Rattle.fault_rules.specs.MadeResident.{CanMakeResident, HasMadeResident, LacksFrames, resident_reads, WhenMadeResident}
use Rattle.fault_rules.specs.PageService.{body_at, Moment, moment, served_as, ServesPage, StoreModel}
use Rattle.fault_rules.specs.Serves.{is_ready, IsEnd, served_moves}
use Rattle.fault_rules.specs.declared.residence.ResidenceError.{ResidenceError}
use Rattle.fault_rules.specs.declared.residence.ResidenceError.TheVariants as residence_error
use Rattle.fault_rules.specs.declared.service.Served.{Served}
use Rattle.fault_rules.specs.declared.service.Served.TheVariants as served
use Rattle.fault_rules.proofs.Rules.{refusal_in, rule_in}
use Rattle.file_cabinet.specs.declared.promise.PromiseError.{PromiseError}
use Rattle.frame_store.specs.Laws.{KeepsSeats}
use Rattle.process_model.specs.Process.{Process, regions}
use Rattle.process_model.specs.Regions.{region_at}
use Rattle.sv39_entry.specs.declared.access.Access.{Access}
use Rattle.sv39_entry.specs.declared.rule.Rule.{Rule}
use Rattle.sv39_entry.specs.declared.rule.Rule.TheVariants.{NoFrame}
use Rattle.table_walk.specs.Tables.{Tables}

-- a space has the same regions as each process that it is
pub still_can : {x : Body} {t u : Tables} {p q : Process} {access : Access} {page : ℕ} → CanMakeResident x t p access page → IsSpace x u q
    → CanMakeResident x u q access page
still_can {p = p} {q = q} {page = page} can space =
    let was = can.agrees.lays in
    let now = space.lays in
    let same : regions q ≡ regions p
    = λ i. let y : Process = record q {
      parts = (now.parts ∙ sym was.parts) i;
      mappings = (now.mappings ∙ sym was.mappings) i;
      heap_base = (now.heap_base ∙ sym was.heap_base) i;
      size = (now.size ∙ sym was.size) i;
    } in regions y in
    record { agrees = space; region = can.region; in_region = ap (λ rs. region_at rs page) same ∙ can.in_region; right = can.right }

module _ {Seat Frames Cabinet : Type 0} (l : StoreModel Seat Frames Cabinet) where
  module _ (y z x : Space Seat) (s t u : Frames) (files after : Cabinet) (access : Access) (page : ℕ) (rule : Process → Option Rule) (outcome : Served) where
    abbrev old : Moment Seat Frames Cabinet
    old = moment y s files

    abbrev seen : Moment Seat Frames Cabinet
    seen = moment z t files

    abbrev new : Moment Seat Frames Cabinet
    new = moment x u after

    pub after_reading : OnlyReads l.view y z s t → KeepsSeats l.invariant s y.seat t z.seat → ServesPage l seen new access page rule outcome
        → ServesPage l old new access page rule outcome
    after_reading reads keeps e = record {
      ended = λ v p space. e.ended v p (back v p space);
      ready = λ is. same (λ b r. HasMadeResident b (body_at l new) (l.files files) access page (λ f c. l.alone → c ≡ l.count r f)) (e.ready is);
      dry = λ is. same (λ b r. LacksFrames b (body_at l new) access page) (e.dry is);
      whole = λ r is v p space. e.whole r is v p (back v p space);
      unpromised = e.unpromised;
      of_file = λ r is v p space. e.of_file r is v p (back v p space);
      stays = λ none. let left = e.stays none in record { layout = left.layout ∙ reads.layout; view = left.view ∙ reads.view; store = left.store ∙ reads.same };
      files_stay = e.files_stay;
      moves = λ none v p space. e.moves none v p (back v p space);
      enough = λ alone. same (λ b r. WhenMadeResident b access page (l.count r) (λ need. outcome ≡ served.Ready → need ≤ l.free r)) (e.enough alone);
      short = λ alone. same (λ b r. WhenMadeResident b access page (l.count r) (λ need. outcome ≡ served.Ended NoFrame → l.free r < need)) (e.short alone);
      free = λ alone. same (λ b r. WhenMadeResident b access page (l.count r) (λ need. l.free u ≡ l.free r - (if is_ready outcome then need else 0))) (e.free alone);
      place = record { root = e.place.root ∙ reads.root; trapframe = e.place.trapframe ∙ reads.trapframe; layout = e.place.layout ∙ reads.layout };
      keeps = λ others r. e.keeps others (keeps others r);
    }
      where
        body : body_at l seen ≡ body_at l old
        body = same_body l.view z y reads.view reads.root reads.trapframe reads.layout

        back : (v : Tables) (p : Process) → IsSpace (body_at l old) v p → IsSpace (body_at l seen) v p
        back v p space = subst (λ b. IsSpace b v p) (sym body) space

        same : (P : Body → Frames → Type 0) → P (body_at l seen) t → P (body_at l old) s
        same P is = subst (P (body_at l old)) reads.same (subst (λ b. P b t) body is)

  module _ (a b : Moment Seat Frames Cabinet) (access : Access) where
    -- what is denied by no rule is served as `make_resident` does it
    pub no_rule : (rule : Process → Option Rule) (n page : ℕ) (told outcome : Served) → n ≡ page → told ≡ outcome
        → ((t : Tables) (p : Process) → IsSpace (body_at l a) t p → rule p ≡ None) → ServesPage l a b access n (λ _. None) told → ServesPage l a b access page rule outcome
    no_rule rule n page told outcome at same none service = record {
      ended = λ t p space. subst (λ o. IsEnd o outcome) (sym (none t p space)) (e.ended t p space);
      ready = e.ready;
      dry = e.dry;
      whole = e.whole;
      unpromised = e.unpromised;
      of_file = λ r is t p space. subst (λ o. 0 < length (served_moves (l.files a.files) p page o)) (sym (none t p space)) (e.of_file r is t p space);
      stays = e.stays;
      files_stay = e.files_stay;
      moves = λ done t p space. subst (λ o. l.becomes a.files (served_moves (l.files a.files) p page o) b.files) (sym (none t p space)) (e.moves done t p space);
      enough = e.enough;
      short = e.short;
      free = e.free;
      place = e.place;
      keeps = e.keeps;
    }
      where
        e : ServesPage l a b access page (λ _. None) outcome
        e = subst (λ s. ServesPage l a b access page (λ _. None) s) same (subst (λ k. ServesPage l a b access k (λ _. None) told) at service)

  module _ (a b : Moment Seat Frames Cabinet) (access : Access) (page : ℕ) where
    abbrev When : (ℕ → Type 0) → Type 0
    When = WhenMadeResident (body_at l a) access page (l.count a.store)

    abbrev Serves : Result (Unit {0}) ResidenceError → Type 0
    Serves r = ServesPage l a b access page (λ _. None) (served_as r)

    module _ (some : (t : Tables) × (p : Process) × CanMakeResident (body_at l a) t p access page) (r : Result (Unit {0}) ResidenceError) where
      -- the bytes of the page are read, if it begins with a page of a file
      abbrev ReadsIt : Type 0
      ReadsIt = (t : Tables) (p : Process) → CanMakeResident (body_at l a) t p access page → l.becomes a.files (resident_reads (l.files a.files) p page) b.files

      pub made_ready : r ≡ Ok tt → HasMadeResident (body_at l a) (body_at l b) (l.files a.files) access page (λ f c. l.alone → c ≡ l.count a.store f) → ReadsIt
          → (l.alone → When (λ need. need ≤ l.free a.store)) → (l.alone → When (λ need. l.free b.store ≡ l.free a.store - need)) → KeepsPlace a.space b.space
          → KeepsSeats l.invariant a.store a.space.seat b.store b.space.seat → Serves r
      made_ready is made reads enough free place keeps = subst Serves (sym is) (record {
        ended = λ t p space x told. absurd (cc);
        ready = λ _. made;
        dry = λ told. absurd (cc);
        whole = λ x told. absurd (cc);
        unpromised = λ e told. absurd (cc);
        of_file = λ e told. absurd (cc);
        stays = λ none. absurd (none.0 refl);
        files_stay = λ e told. absurd (cc);
        moves = λ _ t p space. reads t p (still_can some.2 space);
        enough = λ alone t p shared can by _. enough alone t p shared can by;
        short = λ alone t p shared can by told. absurd (cc);
        free = free;
        place = place;
        keeps = keeps;
      })

      pub ran_dry : r ≡ Err residence_error.NoFrame → LacksFrames (body_at l a) (body_at l b) access page
          → ((t : Tables) (p : Process) → IsSpace (body_at l a) t p → IsSpace (body_at l b) t p) → ReadsIt → (l.alone → When (λ need. l.free a.store < need))
          → (l.alone → When (λ need. l.free b.store ≡ l.free a.store - 0)) → KeepsPlace a.space b.space → KeepsSeats l.invariant a.store a.space.seat b.store b.space.seat
          → Serves r
      ran_dry is lacks whole reads short free place keeps = subst Serves (sym is) (record {
        ended = λ t p space x told. sym (ap rule_in told);
        ready = λ told. absurd (cc);
        dry = λ _. lacks;
        whole = λ x _. whole;
        unpromised = λ e told. absurd (cc);
        of_file = λ e told. absurd (cc);
        stays = λ none. absurd (none.1 refl);
        files_stay = λ e told. absurd (cc);
        moves = λ _ t p space. reads t p (still_can some.2 space);
        enough = λ alone t p shared can by told. absurd (cc);
        short = λ alone t p shared can by _. short alone t p shared can by;
        free = free;
        place = place;
        keeps = keeps;
      })

      pub refused : (x : PromiseError) → r ≡ Err (residence_error.Unpromised x) → l.can_refuse a.files 1 x
          → ((t : Tables) (p : Process) → CanMakeResident (body_at l a) t p access page → 0 < length (resident_reads (l.files a.files) p page))
          → IsUntouched l.view a.space b.space a.store b.store → l.becomes a.files [] b.files → KeepsPlace a.space b.space
          → KeepsSeats l.invariant a.store a.space.seat b.store b.space.seat → Serves r
      refused x is can of_file stays files place keeps = subst Serves (sym is) (record {
        ended = λ t p space y told. absurd (cc);
        ready = λ told. absurd (cc);
        dry = λ told. absurd (cc);
        whole = λ y told. absurd (cc);
        unpromised = λ e told. (x, can, sym (ap refusal_in told));
        of_file = λ e told t p space. of_file t p (still_can some.2 space);
        stays = λ _. stays;
        files_stay = λ e told. files;
        moves = λ none. absurd (none _ refl);
        enough = λ alone t p shared can by told. absurd (cc);
        short = λ alone t p shared can by told. absurd (cc);
        free = λ alone t p shared can by. let same = ap l.free stays.store in omega (arith, same);
        place = place;
        keeps = keeps;
      })
