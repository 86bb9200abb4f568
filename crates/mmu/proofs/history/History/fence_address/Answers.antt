use Rattle.std.proofs.Common.{◌≡◌, ◌/◌, ◌^◌, ◌&&◌, ℕ, suc, nat_eq, Some, ◌∷◌, length, reverse, if◌then◌else◌, refl, ap, sym, ◌∙◌, subst}
use Rattle.std.specs.Option.{option_eq, unwrap_or}
use Rattle.std.specs.HashMap.{get}
use Rattle.std.proofs.lemmas.List.{length-reverse}
use Rattle.walk_rules.specs.Addresses.{top_of}
use Rattle.access_history.specs.declared.event.Event.TheVariants.{Fence}
use Rattle.access_judge.specs.Search.{is_address_under}
use Rattle.mmu.specs.Fencing.{end_eq, of_key}
use Rattle.mmu.specs.Recorded.{IsTrueOf, events_of}
use Rattle.mmu.specs.declared.history.History.{History}
use Rattle.mmu.proofs.Fenced.{fenced_address, fenced_nothing}
use Rattle.mmu.proofs.Going.{satps_on, writes_on}
use Rattle.mmu.proofs.Recording.{one_more, past_after}
use Rattle.mmu.proofs.Storing.{no_store}
use Rattle.mmu.proofs.history.History.fence_address.Goals as goal

pub returns-then-is_address : goal.returns-then-is_address
returns-then-is_address c =
    let old = c.args.self.now in
    let h = events_of old in
    let e = Fence (Some c.args.va) c.args.asid in
    let events : reverse c.push.new.self.items ≡ e ∷ h = one_more old.events.items c.push.new.self.items e c.in_ok-push.ensures.items in
    let new : History = record { memory = old.memory; changes = old.changes; first_satp = old.first_satp; satp = old.satp; epoch = old.epoch; uses = old.uses; fences = c.add_address.new.self; protection = old.protection; events = c.push.new.self } in
    let number : c.len.result ≡ suc (length h) = c.len.ensures ∙ c.push.new.self.ok.0 ∙ sym (length-reverse c.push.new.self.items) ∙ ap length events in
    let valid = ap (λ (s : ℕ). is_address_under (top_of s) c.args.va.0) (sym c.requires.satps.now) ∙ sym c.is_address.ensures ∙ c.if-is_address.true in
    record {
      sound = subst (IsTrueOf new) (sym events) (record {
        stores = no_store old.memory old.changes e h (λ f p i. refl) (λ p i. refl) c.requires.stores;
        fences = fenced_address old.fences c.add_address.new.self old.first_satp h c.args.va c.args.asid valid
            (λ n. ap (λ m. unwrap_or (get nat_eq m n) 0) c.add_address.ensures.spaces ∙ c.in_ok-reserve.ensures.spaces n)
            (λ n m. ap (λ es. get end_eq es (n, m)) c.add_address.ensures.ends ∙ c.in_ok-reserve.ensures.ends n m)
            (λ b page r reach. c.add_address.ensures.addresses b page r reach
            ∙ ap (λ (n : ℕ). if nat_eq (c.args.va.0 / 2 ^ b) page && option_eq nat_eq c.args.asid r then n else of_key c.reserve.new.self b page r) number
            ∙ ap (λ (n : ℕ). if nat_eq (c.args.va.0 / 2 ^ b) page && option_eq nat_eq c.args.asid r then suc (length h) else n) (c.in_ok-reserve.ensures.addresses b page r))
            c.requires.fences;
        writes = writes_on old.protection e h (λ f. refl) (λ f. refl) c.requires.writes;
        satps = satps_on old.first_satp old.satp old.epoch old.uses.past.items e h refl refl c.requires.satps;
        unfenced = c.requires.unfenced;
      });
      ok = past_after old new (e ∷ h) events refl refl refl;
      err = tt;
    }

pub returns-else-is_address : goal.returns-else-is_address
returns-else-is_address c =
    let old = c.args.self.now in
    let h = events_of old in
    let e = Fence (Some c.args.va) c.args.asid in
    let events : reverse c.push.new.self.items ≡ e ∷ h = one_more old.events.items c.push.new.self.items e c.in_ok-push.ensures.items in
    let new : History = record { memory = old.memory; changes = old.changes; first_satp = old.first_satp; satp = old.satp; epoch = old.epoch; uses = old.uses; fences = c.reserve.new.self; protection = old.protection; events = c.push.new.self } in
    let invalid = ap (λ (s : ℕ). is_address_under (top_of s) c.args.va.0) (sym c.requires.satps.now) ∙ sym c.is_address.ensures ∙ c.if-is_address.false in
    record {
      sound = subst (IsTrueOf new) (sym events) (record {
        stores = no_store old.memory old.changes e h (λ f p i. refl) (λ p i. refl) c.requires.stores;
        fences = fenced_nothing old.fences c.reserve.new.self old.first_satp h c.args.va c.args.asid invalid c.in_ok-reserve.ensures.spaces c.in_ok-reserve.ensures.ends c.in_ok-reserve.ensures.addresses c.requires.fences;
        writes = writes_on old.protection e h (λ f. refl) (λ f. refl) c.requires.writes;
        satps = satps_on old.first_satp old.satp old.epoch old.uses.past.items e h refl refl c.requires.satps;
        unfenced = c.requires.unfenced;
      });
      ok = past_after old new (e ∷ h) events refl refl refl;
      err = tt;
    }
