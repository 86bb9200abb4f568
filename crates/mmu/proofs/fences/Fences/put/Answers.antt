use Rattle.std.proofs.Common.{◌≡◌, ◌&&◌, ◌/◌, ◌^◌, ap, refl, ◌∙◌, Option, Some, ℕ, Bool, true, false, nat_eq, if◌then◌else◌}
use Rattle.std.specs.HashMap.{get}
use Rattle.std.specs.Option.{option_eq, unwrap_or}
use Rattle.mmu.specs.Fencing.{key_eq}
use Rattle.mmu.proofs.Recording.{on_ok}
use Rattle.mmu.proofs.fences.Fences.put.Goals as goal

parted : (b : Bool) (n : ℕ) (o : Option ℕ) → unwrap_or (if b then Some n else o) 0 ≡ (if b then n else unwrap_or o 0)
parted true n o = refl
parted false n o = refl

pub returns-clause-addresses : goal.returns-clause-addresses
returns-clause-addresses c = λ b page s.
    ap (λ (o : Option ℕ). unwrap_or o 0) ((on_ok c.insert.result _ (c.insert.ensures.succeeds c.requires.room) c.insert.ensures.updates).0 (b, page, s))
    ∙ parted ((nat_eq c.args.bits b && nat_eq (c.args.va.0 / 2 ^ c.args.bits) page) && option_eq nat_eq c.args.asid s) c.args.number
    (get key_eq c.args.self.now.addresses (b, page, s))
