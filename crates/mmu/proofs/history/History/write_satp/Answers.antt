use Rattle.std.proofs.Common.{◌≡◌, List, ◌∷◌, reverse, refl, ap, sym, ◌∙◌, subst, rules}
use Rattle.sv39_entry.specs.Satp.{asid}
use Rattle.access_history.specs.declared.event.Event.TheVariants.{WriteSatp}
use Rattle.mmu.specs.Fencing.{of_space}
use Rattle.mmu.specs.Recorded.{AreSatps, IsTrueOf, events_of}
use Rattle.mmu.specs.Using.{Extends}
use Rattle.mmu.specs.declared.history.History.{History}
use Rattle.mmu.specs.declared.uses.Used.{Used}
use Rattle.mmu.proofs.Going.{ends_on, satps_new, satps_on, used_at, writes_on}
use Rattle.mmu.proofs.Recording.{one_more, past_after}
use Rattle.mmu.proofs.Storing.{no_store}
use Rattle.mmu.proofs.history.History.write_satp.Goals as goal

pub returns-then-ne : goal.returns-then-ne
returns-then-ne c =
    let old = c.args.self.now in
    let h = events_of old in
    let e = WriteSatp c.args.satp in
    let events : reverse c.push.new.self.items ≡ e ∷ h = one_more old.events.items c.push.new.self.items e c.in_ok-push.ensures.items in
    let new : History = record { memory = old.memory; changes = old.changes; first_satp = old.first_satp; satp = c.args.satp; epoch = c.of_space-self.result; uses = c.add.new.self; fences = old.fences; protection = old.protection; events = c.push.new.self } in
    let us = old.uses.past.items in
    let vs = c.add.new.self.past.items in
    let used = used_at old.satp old.epoch in
    let more : Extends us used vs = subst (λ (xs : List Used). Extends xs used vs) c.in_ok-reserve.ensures.past
    (subst (λ (u : Used). Extends c.reserve.new.self.past.items u vs) c.present-before.ensures c.add.ensures) in
    let epoch = c.of_space-self.ensures ∙ ap (of_space old.fences) c.asid.ensures ∙ c.requires.fences.spaces (asid c.args.satp) in
    record {
      sound = subst (IsTrueOf new) (sym events) (record {
        stores = no_store old.memory old.changes e h (λ f p i. refl) (λ p i. refl) c.requires.stores;
        fences = record { spaces = c.requires.fences.spaces; ends = ends_on old.fences e h (λ n. refl) c.requires.fences.ends; addresses = c.requires.fences.addresses };
        writes = writes_on old.protection e h (λ f. refl) (λ f. refl) c.requires.writes;
        satps = satps_new old.first_satp old.satp old.epoch us vs h c.requires.satps more e c.args.satp c.of_space-self.result refl epoch;
        unfenced = c.requires.unfenced;
      });
      ok = past_after old new (e ∷ h) events refl refl refl;
      err = tt;
    }

pub returns-else-ne : goal.returns-else-ne
returns-else-ne c =
    let old = c.args.self.now in
    let h = events_of old in
    let e = WriteSatp c.args.satp in
    let events : reverse c.push.new.self.items ≡ e ∷ h = one_more old.events.items c.push.new.self.items e c.in_ok-push.ensures.items in
    let new : History = record { memory = old.memory; changes = old.changes; first_satp = old.first_satp; satp = old.satp; epoch = old.epoch; uses = c.reserve.new.self; fences = old.fences; protection = old.protection; events = c.push.new.self } in
    let same : c.args.satp ≡ old.satp = search rules in
    record {
      sound = subst (IsTrueOf new) (sym events) (record {
        stores = no_store old.memory old.changes e h (λ f p i. refl) (λ p i. refl) c.requires.stores;
        fences = record { spaces = c.requires.fences.spaces; ends = ends_on old.fences e h (λ n. refl) c.requires.fences.ends; addresses = c.requires.fences.addresses };
        writes = writes_on old.protection e h (λ f. refl) (λ f. refl) c.requires.writes;
        satps = subst (λ (us : List Used). AreSatps old.first_satp old.satp old.epoch us (e ∷ h)) (sym c.in_ok-reserve.ensures.past)
            (satps_on old.first_satp old.satp old.epoch old.uses.past.items e h (same ∙ c.requires.satps.now) refl c.requires.satps);
        unfenced = c.requires.unfenced;
      });
      ok = past_after old new (e ∷ h) events refl refl refl;
      err = tt;
    }
