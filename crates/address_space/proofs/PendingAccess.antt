-- A law: a space that is a process is also that process with any other pending access (a user access that faulted, and
-- whether it was served), or with none.
use Rattle.std.specs.Prelude.{ℕ, Option}
use Rattle.frame_store.specs.View.{View}
use Rattle.process_model.proofs.OrderLaws.{same_order}
use Rattle.process_model.specs.Process as of_model
use Rattle.process_model.specs.Process.{Process}
use Rattle.table_walk.specs.Tables.{Tables}
use Rattle.address_space.specs.Agreement.{body, IsSpace}
use Rattle.address_space.specs.Layouts.{Layout}

module _ (v : View) (root trapframe : ℕ) (l : Layout) (t : Tables) (p : Process) (a : IsSpace (body v root trapframe l) t p) where
  pub agrees_pending : (o : Option of_model.Pending) → IsSpace (body v root trapframe l) t (record p { pending = o })
  agrees_pending o = record {
    sound = record { order = same_order 0 p p.settled p.tabled o a.sound.order; tabled = a.sound.tabled };
    lays = record { parts = a.lays.parts; mappings = a.lays.mappings; heap_base = a.lays.heap_base; size = a.lays.size; scheme = a.lays.scheme };
    stands = record {
      tables = a.stands.tables;
      owns = a.stands.owns;
      shows = record {
        on_trampoline = a.stands.shows.on_trampoline;
        on_trapframe = a.stands.shows.on_trapframe;
        settled = λ n s there. let shown = a.stands.shows.settled n s there in record {
          region = shown.region;
          frame = shown.frame;
          leaf = shown.leaf;
          in_region = shown.in_region;
          mapped = shown.mapped;
          made = shown.made;
          bytes = shown.bytes;
        };
        only = a.stands.shows.only;
        low = a.stands.shows.low;
      };
      tabled = a.stands.tabled;
      tabled_low = a.stands.tabled_low;
    };
    credits = a.credits;
  }
