use Rattle.std.proofs.Common.{◌≡◌, ℕ, suc, ◌-◌, ◌&&◌, nat_eq, arith, Option, None, Some, List, ◌∷◌, length, reverse, if◌then◌else◌, refl, ap, sym, ◌∙◌, subst}
use Rattle.std.specs.HashMap.{get}
use Rattle.std.specs.Option.{unwrap_or}
use Rattle.std.proofs.lemmas.Bool.{cond-false, cond-true, eq-eqb, ne_eqb}
use Rattle.std.proofs.lemmas.List.{length-reverse}
use Rattle.sv39_entry.specs.Satp.{asid}
use Rattle.access_history.specs.declared.event.Event.TheVariants.{Fence}
use Rattle.mmu.specs.Fencing.{key_eq, of_end, of_space}
use Rattle.mmu.specs.Recorded.{AreSatps, IsTrueOf, events_of}
use Rattle.mmu.specs.Using.{Extends}
use Rattle.mmu.specs.declared.fences.Fences.{Fences}
use Rattle.mmu.specs.declared.history.History.{History}
use Rattle.mmu.specs.declared.uses.Used.{Used}
use Rattle.mmu.proofs.Fenced.{fenced_space}
use Rattle.mmu.proofs.Going.{satps_new, satps_on, used_at, writes_on}
use Rattle.mmu.proofs.Recording.{one_more, past_after}
use Rattle.mmu.proofs.Storing.{no_store}
use Rattle.mmu.proofs.history.History.fence_space.Goals as goal

numbered : (f : Fences) (g : ℕ → ℕ) (s n m k : ℕ) → g n ≡ of_space f n → m ≡ k
    → (if nat_eq s n then m else g n) ≡ (if nat_eq s n then k else of_space f n)
numbered f g s n m k same number = ap (λ (a : ℕ). if nat_eq s n then a else g n) number ∙ ap (λ (a : ℕ). if nat_eq s n then k else a) same

ended_at : (f g : Fences) (s n m number last : ℕ) → of_space g s ≡ of_space f s → of_end g n m ≡ of_end f n m → number ≡ suc last
    → (if nat_eq s n && nat_eq (of_space g s) m then Some (number - 1) else of_end g n m)
    ≡ (if nat_eq s n && nat_eq (of_space f s) m then Some last else of_end f n m)
ended_at f g s n m number last space end is =
    let before : number - 1 ≡ last = omega (arith, is) in
    ap (λ (k : ℕ). if nat_eq s n && nat_eq k m then Some (number - 1) else of_end g n m) space
    ∙ ap (λ (k : ℕ). if nat_eq s n && nat_eq (of_space f s) m then Some k else of_end g n m) before
    ∙ ap (λ (o : Option ℕ). if nat_eq s n && nat_eq (of_space f s) m then Some last else o) end

pub returns-then-asid : goal.returns-then-asid
returns-then-asid c =
    let old = c.args.self.now in
    let h = events_of old in
    let e = Fence None (Some c.args.asid) in
    let events : reverse c.push.new.self.items ≡ e ∷ h = one_more old.events.items c.push.new.self.items e c.in_ok-push.ensures.items in
    let new : History = record { memory = old.memory; changes = old.changes; first_satp = old.first_satp; satp = old.satp; epoch = c.len-self.result; uses = c.add.new.self; fences = c.add_space.new.self; protection = old.protection; events = c.push.new.self } in
    let all : c.push.new.self.len ≡ suc (length h) = c.push.new.self.ok.0 ∙ sym (length-reverse c.push.new.self.items) ∙ ap length events in
    let us = old.uses.past.items in
    let vs = c.add.new.self.past.items in
    let used = used_at old.satp old.epoch in
    let more : Extends us used vs = subst (λ (xs : List Used). Extends xs used vs) c.in_ok-reserve-2.ensures.past
    (subst (λ (u : Used). Extends c.reserve-2.new.self.past.items u vs) c.present-before.ensures c.add.ensures) in
    let alike = c.if-asid.true ∙ c.asid.ensures in
    let epoch = c.len-self.ensures ∙ all ∙ sym (cond-true _ _ _ (eq-eqb c.args.asid (asid old.satp) alike)) in
    record {
      sound = subst (IsTrueOf new) (sym events) (record {
        stores = no_store old.memory old.changes e h (λ f p i. refl) (λ p i. refl) c.requires.stores;
        fences = fenced_space old.fences c.add_space.new.self old.first_satp h c.args.asid
            (λ n. c.add_space.ensures.spaces n ∙ numbered old.fences (of_space c.reserve.new.self) c.args.asid n c.len.result (suc (length h)) (c.in_ok-reserve.ensures.spaces n) (c.len.ensures ∙ all))
            (λ n m. c.add_space.ensures.ends n m ∙ ended_at old.fences c.reserve.new.self c.args.asid n m c.len.result (length h) (c.in_ok-reserve.ensures.spaces c.args.asid) (c.in_ok-reserve.ensures.ends n m) (c.len.ensures ∙ all))
            (λ b page r. ap (λ m. unwrap_or (get key_eq m (b, page, r)) 0) c.add_space.ensures.addresses ∙ c.in_ok-reserve.ensures.addresses b page r)
            c.requires.fences;
        writes = writes_on old.protection e h (λ f. refl) (λ f. refl) c.requires.writes;
        satps = satps_new old.first_satp old.satp old.epoch us vs h c.requires.satps more e old.satp c.len-self.result c.requires.satps.now epoch;
        unfenced = c.requires.unfenced;
      });
      ok = past_after old new (e ∷ h) events refl refl refl;
      err = tt;
    }

pub returns-else-asid : goal.returns-else-asid
returns-else-asid c =
    let old = c.args.self.now in
    let h = events_of old in
    let e = Fence None (Some c.args.asid) in
    let events : reverse c.push.new.self.items ≡ e ∷ h = one_more old.events.items c.push.new.self.items e c.in_ok-push.ensures.items in
    let new : History = record { memory = old.memory; changes = old.changes; first_satp = old.first_satp; satp = old.satp; epoch = old.epoch; uses = c.reserve-2.new.self; fences = c.add_space.new.self; protection = old.protection; events = c.push.new.self } in
    let all : c.push.new.self.len ≡ suc (length h) = c.push.new.self.ok.0 ∙ sym (length-reverse c.push.new.self.items) ∙ ap length events in
    let apart = cond-false _ _ _ (ne_eqb c.args.asid (asid old.satp) (λ alike. c.if-asid.false (alike ∙ sym c.asid.ensures))) in
    record {
      sound = subst (IsTrueOf new) (sym events) (record {
        stores = no_store old.memory old.changes e h (λ f p i. refl) (λ p i. refl) c.requires.stores;
        fences = fenced_space old.fences c.add_space.new.self old.first_satp h c.args.asid
            (λ n. c.add_space.ensures.spaces n ∙ numbered old.fences (of_space c.reserve.new.self) c.args.asid n c.len.result (suc (length h)) (c.in_ok-reserve.ensures.spaces n) (c.len.ensures ∙ all))
            (λ n m. c.add_space.ensures.ends n m ∙ ended_at old.fences c.reserve.new.self c.args.asid n m c.len.result (length h) (c.in_ok-reserve.ensures.spaces c.args.asid) (c.in_ok-reserve.ensures.ends n m) (c.len.ensures ∙ all))
            (λ b page r. ap (λ m. unwrap_or (get key_eq m (b, page, r)) 0) c.add_space.ensures.addresses ∙ c.in_ok-reserve.ensures.addresses b page r)
            c.requires.fences;
        writes = writes_on old.protection e h (λ f. refl) (λ f. refl) c.requires.writes;
        satps = subst (λ (us : List Used). AreSatps old.first_satp old.satp old.epoch us (e ∷ h)) (sym c.in_ok-reserve-2.ensures.past)
            (satps_on old.first_satp old.satp old.epoch old.uses.past.items e h refl apart c.requires.satps);
        unfenced = c.requires.unfenced;
      });
      ok = past_after old new (e ∷ h) events refl refl refl;
      err = tt;
    }
