use Rattle.std.proofs.Common.{◌≡◌, false, rules}
use Rattle.address_space.specs.Layouts.{region_kind}
use Rattle.process_model.specs.Regions.{is_guard_kind}
use Rattle.address_space.proofs.region.Region.leaf.Goals as goal

pub returns-clause-leaf : goal.returns-clause-leaf
returns-clause-leaf c =
    let plain : is_guard_kind (region_kind c.args.self.now.kind) ≡ false = search rules in
    let made = c.leaf-2.ensures.made in
    record {
      names = made.names;
      small = search rules;
      read = rw plain made.read;
      write = made.write;
      execute = made.execute;
      for_user = rw plain made.for_user;
      global = made.global;
      accessed = made.accessed;
      dirty = made.modified;
      cow = made.cow;
      unused = made.unused;
    }
