-- The worked example: the walk before the store, the walk after it, and what each says of the load.
use Rattle.std.proofs.Common.{ℕ, ◌+◌, ◌*◌, ◌^◌, refl, inl, false, None, [], ◌∷◌}
use Rattle.std.proofs.lemmas.List.Elements.{Contains-push}
use Rattle.sv39_entry.specs.declared.access.Mode.TheVariants as mode
use Rattle.walk_rules.specs.declared.memory_type.MemoryType.TheVariants.{Pma}
use Rattle.access_history.specs.Examples.{example_first, example_hart, example_leaf, example_load, example_past, example_store}
use Rattle.access_history.specs.Held.{IsHeld, Read, at_root, below, is_active, now, read_of, stays}
use Rattle.access_history.specs.Permits.{Permits, served, ready, granted}
use Rattle.access_history.specs.declared.outcome.Outcome.TheVariants.{Granted}

-- the PTEs on the way, and the leaf over a frame
abbrev upper : Read
upper = read_of 2 1 (2 * 2 ^ 10 + 1) 0 false

abbrev middle : Read
middle = read_of 1 2 (3 * 2 ^ 10 + 1) 0 false

abbrev leaf : ℕ → Read
leaf ppn = read_of 0 3 (example_leaf ppn) 0 false

held_before : IsHeld example_hart example_first 0x1000 [] (leaf 4) []
held_before =
    let first : IsHeld example_hart example_first 0x1000 [] upper [] = at_root
    (record { had = inl refl; kept = now; allowed = ([], Contains-push [] [], refl) })
    (record {
      satp = example_first.satp;
      under = is_active refl;
      highest = refl;
      canonical = refl;
      root = refl;
      space = refl;
      global = refl;
    }) in
    let second : IsHeld example_hart example_first 0x1000 [] middle [] = below first
    (record { had = inl refl; kept = now; allowed = ([], Contains-push [] [], refl) })
    (record { pointer = refl; next_level = refl; table = refl; space = refl; global = refl }) in
    below second
    (record { had = inl refl; kept = now; allowed = ([], Contains-push [] [], refl) })
    (record { pointer = refl; next_level = refl; table = refl; space = refl; global = refl })

held_after : IsHeld example_hart example_first 0x1000 (example_store ∷ []) (leaf 5) (example_store ∷ [])
held_after =
    let first : IsHeld example_hart example_first 0x1000 (example_store ∷ []) upper (example_store ∷ []) = at_root
    (record { had = inl refl; kept = now; allowed = ([], Contains-push [] [], refl) })
    (record {
      satp = example_first.satp;
      under = is_active refl;
      highest = refl;
      canonical = refl;
      root = refl;
      space = refl;
      global = refl;
    }) in
    let second : IsHeld example_hart example_first 0x1000 (example_store ∷ []) middle (example_store ∷ []) = below first
    (record { had = inl refl; kept = now; allowed = ([], Contains-push [] [], refl) })
    (record { pointer = refl; next_level = refl; table = refl; space = refl; global = refl }) in
    below second
    (record { had = inl refl; kept = now; allowed = ([], Contains-push [] [], refl) })
    (record { pointer = refl; next_level = refl; table = refl; space = refl; global = refl })

pub stale : Permits example_hart (example_past (example_store ∷ [])) example_load (Granted 0x4000 Pma None)
stale = served {mode = mode.User} {r = leaf 4} (0x200, refl) refl
    (record { since = []; held = stays held_before (λ c. c); present = (2, refl, refl); space = inl refl; last = λ e. cc })
    (ready (record { leaf = refl; right = refl }) refl refl (granted refl ([], Contains-push [] [], refl)))

pub fresh : Permits example_hart (example_past (example_store ∷ [])) example_load (Granted 0x5000 Pma None)
fresh = served {mode = mode.User} {r = leaf 5} (0x200, refl) refl
    (record { since = example_store ∷ []; held = held_after; present = (2, refl, refl); space = inl refl; last = λ e. cc })
    (ready (record { leaf = refl; right = refl }) refl refl (granted refl ([], Contains-push [] [], refl)))
