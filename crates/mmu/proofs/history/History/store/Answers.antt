use Rattle.std.proofs.Common.{◌≡◌, ◌+◌, ◌/◌, ◌%◌, ◌^◌, ◌<◌, ℕ, Option, Some, List, [], ◌∷◌, ◌++◌, true, nat_eq, if◌then◌else◌, length, reverse, refl, ap, sym, ◌∙◌, subst, arith}
use Rattle.std.proofs.lemmas.Bool.{and_from, lt-ltb, cond-true}
use Rattle.std.proofs.lemmas.List.{length-reverse}
use Rattle.access_history.specs.declared.event.Event.{Event}
use Rattle.access_history.specs.declared.event.Event.TheVariants.{Store}
use Rattle.mmu.specs.Recorded.{IsTrueOf, events_of, is_place, number_at}
use Rattle.mmu.specs.Changing.{changes_at, pushed}
use Rattle.mmu.specs.Words.{is_in_some, written}
use Rattle.mmu.specs.Sparse.{is_zeroed, word_of}
use Rattle.mmu.specs.declared.changes.Change.{Change}
use Rattle.mmu.specs.declared.history.History.{History}
use Rattle.mmu.proofs.Storing.{alike_stores, same_first, stored}
use Rattle.mmu.proofs.Going.{ends_on, satps_on, writes_on}
use Rattle.mmu.proofs.Recording.{on_ok, one_more, past_after}
use Rattle.mmu.proofs.history.History.store.Goals as goal

within : (a : ℕ) → a < 2 ^ 64 → is_place (a / 4096) (a % 4096 / 8) ≡ true
within a fits = and_from _ _ (lt-ltb (a / 4096) _ (omega (arith, fits))) (lt-ltb (a % 4096 / 8) _ (omega arith))

numbered : (a : ℕ) → a / 8 ≡ number_at (a / 4096) (a % 4096 / 8)
numbered a = omega arith

abbrev change : ℕ → Option ℕ → Change
change n before = record { number = n; before = before }

pub returns : goal.returns
returns c =
    let old = c.args.self.now in
    let p = c.args.address / 4096 in
    let i = c.args.address % 4096 / 8 in
    let h = events_of old in
    let e = Store p i c.args.word in
    let place = within c.args.address c.ranges.address.fits in
    let at = numbered c.args.address in
    let pushed_ok = c.push-2.ensures.succeeds (omega (arith, c.in_ok-reserve.ensures.ok)) in
    let events : reverse c.push-2.new.self.items ≡ e ∷ h = one_more old.events.items c.push-2.new.self.items e
    (c.push-2.ensures.items ∙ cond-true _ _ _ pushed_ok ∙ ap (λ (xs : List Event). xs ++ e ∷ []) c.in_ok-reserve.ensures.items) in
    let words : (n : ℕ) → word_of c.write.new.self n ≡ written (word_of old.memory) (number_at p i) c.args.word n =
    λ n. on_ok c.write.result _ (c.write.ensures.succeeds c.in_ok-reserve-2.ensures.room) c.write.ensures.ok n
    ∙ ap (λ (a : ℕ). written (word_of c.reserve-2.new.self) a c.args.word n) at
    ∙ ap (λ (o : Option ℕ). if nat_eq n (number_at p i) then Some c.args.word else o) (c.in_ok-reserve-2.ensures.words n) in
    let zeroed : (n : ℕ) → is_zeroed c.write.new.self n ≡ is_zeroed old.memory n =
    λ n. ap (λ rs. is_in_some rs n) (c.write.ensures.runs ∙ c.in_ok-reserve-2.ensures.runs) in
    let length_h : c.len.result + 1 ≡ length h + 1 = omega (arith, c.len.ensures, old.events.ok, length-reverse old.events.items) in
    let changes : (n : ℕ) → changes_at c.push.new.self n ≡ pushed (changes_at old.changes) (number_at p i) (change (length h + 1) (word_of old.memory (number_at p i))) n =
    λ n. c.in_ok-push.ensures.ok n
    ∙ ap (λ (m : ℕ). pushed (changes_at old.changes) (c.args.address / 8) (change m c.get.result) n) length_h
    ∙ ap (λ (o : Option ℕ). pushed (changes_at old.changes) (c.args.address / 8) (change (length h + 1) o) n) c.get.ensures
    ∙ ap (λ (a : ℕ). pushed (changes_at old.changes) a (change (length h + 1) (word_of old.memory a)) n) at in
    let new : History = record { memory = c.write.new.self; changes = c.push.new.self; first_satp = old.first_satp; satp = old.satp; epoch = old.epoch; uses = old.uses; fences = old.fences; protection = old.protection; events = c.push-2.new.self } in
    record {
      sound = subst (IsTrueOf new) (sym events) (record {
        stores = stored old.memory c.write.new.self old.changes c.push.new.self h p i c.args.word place c.requires.stores words zeroed changes;
        fences = record { spaces = c.requires.fences.spaces; ends = ends_on old.fences e h (λ n. refl) c.requires.fences.ends; addresses = c.requires.fences.addresses };
        writes = writes_on old.protection e h (λ f. refl) (λ f. refl) c.requires.writes;
        satps = satps_on old.first_satp old.satp old.epoch old.uses.past.items e h refl refl c.requires.satps;
        unfenced = c.requires.unfenced;
      });
      ok = past_after old new (e ∷ h) events (same_first old.memory c.write.new.self old.changes c.push.new.self h p i c.args.word place c.requires.stores words zeroed changes) refl refl;
      err = tt;
    }

pub returns-in_err-push-clause-sound : goal.returns-in_err-push-clause-sound
returns-in_err-push-clause-sound c =
    let old = c.args.self.now in
    let new : History = record { memory = c.reserve-2.new.self; changes = c.push.new.self; first_satp = old.first_satp; satp = old.satp; epoch = old.epoch; uses = old.uses; fences = old.fences; protection = old.protection; events = c.reserve.new.self } in
    let zeroed : (n : ℕ) → is_zeroed c.reserve-2.new.self n ≡ is_zeroed old.memory n = λ n. ap (λ rs. is_in_some rs n) c.in_ok-reserve-2.ensures.runs in
    subst (IsTrueOf new) (ap reverse (sym c.in_ok-reserve.ensures.items)) (record {
      stores = alike_stores old.memory c.reserve-2.new.self old.changes c.push.new.self c.in_ok-reserve-2.ensures.words zeroed c.in_err-push.ensures.err (events_of old)
          c.requires.stores;
      fences = c.requires.fences;
      writes = c.requires.writes;
      satps = c.requires.satps;
      unfenced = c.requires.unfenced;
    })
