use Rattle.std.proofs.Common.{◌≡◌, ◌+◌, suc, List, [], ◌∷◌, ◌++◌, length, reverse, refl, ap, sym, ◌∙◌, subst, arith}
use Rattle.std.proofs.lemmas.Bool.{cond-true}
use Rattle.std.proofs.lemmas.List.{length-reverse}
use Rattle.access_history.specs.declared.event.Event.{Event}
use Rattle.access_history.specs.declared.event.Event.TheVariants.{WritePmp}
use Rattle.mmu.specs.Protecting.{entries_of}
use Rattle.mmu.specs.Recorded.{IsTrueOf, events_of}
use Rattle.mmu.specs.declared.history.History.{History}
use Rattle.mmu.proofs.Going.{ends_on, satps_on, written_pmp}
use Rattle.mmu.proofs.Recording.{one_more, past_after}
use Rattle.mmu.proofs.Storing.{no_store}
use Rattle.mmu.proofs.history.History.write_pmp.Goals as goal

pub returns : goal.returns
returns c =
    let old = c.args.self.now in
    let h = events_of old in
    let e = WritePmp c.args.number c.args.entry in
    let pushed_ok = c.push.ensures.succeeds (omega (arith, c.in_ok-reserve.ensures.ok)) in
    let events : reverse c.push.new.self.items ≡ e ∷ h = one_more old.events.items c.push.new.self.items e
    (c.push.ensures.items ∙ cond-true _ _ _ pushed_ok ∙ ap (λ (xs : List Event). xs ++ e ∷ []) c.in_ok-reserve.ensures.items) in
    let new : History = record { memory = old.memory; changes = old.changes; first_satp = old.first_satp; satp = old.satp; epoch = old.epoch; uses = old.uses; fences = old.fences; protection = c.write.new.self; events = c.push.new.self } in
    let number : c.len-at.result + 1 ≡ suc (length h) = omega (arith, c.len-at.ensures, c.in_ok-reserve.ensures.len, old.events.ok, length-reverse old.events.items) in
    record {
      sound = subst (IsTrueOf new) (sym events) (record {
        stores = no_store old.memory old.changes e h (λ f p i. refl) (λ p i. refl) c.requires.stores;
        fences = record { spaces = c.requires.fences.spaces; ends = ends_on old.fences e h (λ n. refl) c.requires.fences.ends; addresses = c.requires.fences.addresses };
        writes = written_pmp old.protection c.write.new.self c.args.number c.args.entry h (record { number = c.len-at.result + 1; entries = c.write.new.self.present })
            c.in_ok-write.ensures.first c.in_ok-write.ensures.present c.in_ok-write.ensures.writes number refl c.requires.writes;
        satps = satps_on old.first_satp old.satp old.epoch old.uses.past.items e h refl refl c.requires.satps;
        unfenced = c.requires.unfenced;
      });
      ok = past_after old new (e ∷ h) events refl refl (ap entries_of c.in_ok-write.ensures.first);
      err = tt;
    }
