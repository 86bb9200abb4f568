-- Lemma `relaid`: a space that is a process is also another one with other regions, over the same leaves, if
-- `CanReplaceLayout` holds of the two.
use Rattle.std.proofs.Common.{◌≡◌, ℕ, ◌&&◌, ◌<◌, inl, inr, ap, subst, sym, ◌∙◌, Some}
use Rattle.std.specs.Prelude.{◌||◌, not, All}
use Rattle.frame_store.specs.View.{View}
use Rattle.process_model.specs.PageMap as pages
use Rattle.process_model.specs.PageMap.{NumberSet, PageMap}
use Rattle.process_model.specs.Process.{Page, Process}
use Rattle.process_model.specs.Regions.{is_guard_kind, is_shared_kind, Region}
use Rattle.table_walk.specs.TableCounts.{AreTablesOf}
use Rattle.table_walk.specs.Tables.{Tables, leaf_node}
use Rattle.address_space.specs.Agreement.{body, is_dirty_page, IsLeafNumber, IsPageLeaf, IsShown, IsSpace, ShowsPages}
use Rattle.address_space.specs.Layouts.{LaysOut, Layout}
use Rattle.address_space.specs.Steps.{CanReplaceLayout, HasSameLeafRights}
use Rattle.sv39_entry.specs.Schemes.{trapframe_page, trampoline_page}
use Rattle.sv39_entry.specs.declared.scheme.Scheme.{Scheme}

module _ (r x : Region) (like : HasSameLeafRights r x) where
  same_dirty : (s : Page) → is_dirty_page r s ≡ is_dirty_page x s
  same_dirty s = ap (λ b. (s.dirty || not b) && r.writes) (sym like.shared) ∙ ap (λ b. (s.dirty || not (is_shared_kind x.kind)) && b) (sym like.writes)

  leaf_like : (w f : ℕ) (s : Page) → IsPageLeaf w f r s.cow (is_dirty_page r s) → IsPageLeaf w f x s.cow (is_dirty_page x s)
  leaf_like w f s made = record {
    names = made.names;
    small = made.small;
    read = made.read ∙ ap (λ b. b || r.reads) (sym like.guard) ∙ ap (λ b. is_guard_kind x.kind || b) (sym like.reads);
    write = made.write ∙ ap (λ b. b && not s.cow) (sym like.writes);
    execute = made.execute ∙ sym like.executes;
    for_user = made.for_user ∙ ap not (sym like.guard);
    global = made.global;
    accessed = made.accessed;
    dirty = made.dirty ∙ same_dirty s;
    cow = made.cow;
    unused = made.unused;
  }

module _ (v : View) (root trapframe : ℕ) (l m : Layout) (t : Tables) (p q : Process) (space : IsSpace (body v root trapframe l) t p) (can : CanReplaceLayout p q) where
  was : (n : ℕ) (s : Page) → pages.get q.settled n ≡ Some s → pages.get p.settled n ≡ Some s
  was n s at = ap (λ (x : PageMap Page). pages.get x n) (sym can.settled) ∙ at

  shown : (n : ℕ) (s : Page) → IsShown v t p n s → pages.get p.settled n ≡ Some s → IsShown v t q n s
  shown n s is at =
      let here = can.leaves n s is.region at is.in_region in
      record {
        region = here.0;
        frame = is.frame;
        leaf = is.leaf;
        in_region = here.1;
        mapped = is.mapped;
        made = leaf_like is.region here.0 here.2 is.leaf is.frame s is.made;
        bytes = is.bytes;
      }

  number_kept : (k : ℕ) → IsLeafNumber p k → IsLeafNumber q k
  number_kept k (inl is) = inl (is ∙ ap (λ (z : Scheme). leaf_node (trampoline_page z)) (sym can.scheme))
  number_kept k (inr (inl is)) = inr (inl (is ∙ ap (λ (z : Scheme). leaf_node (trapframe_page z)) (sym can.scheme)))
  number_kept k (inr (inr (n, s, is, at))) = inr (inr (n, s, is, ap (λ (x : PageMap Page). pages.get x n) can.settled ∙ at))

  shows_relaid : ShowsPages v trapframe t q
  shows_relaid =
      let shows = space.stands.shows in
      record {
        on_trampoline = rw can.scheme shows.on_trampoline;
        on_trapframe = rw can.scheme shows.on_trapframe;
        settled = λ n s at. shown n s (shows.settled n s (was n s at)) (was n s at);
        only = λ k w at. number_kept k (shows.only k w at);
        low = λ n s at. rw can.scheme (shows.low n s (was n s at));
      }

  pub relaid : LaysOut m q → IsSpace (body v root trapframe m) t q
  relaid lays = record {
    sound = record {
      order = can.order;
      tabled = λ n s at. ap (λ (x : NumberSet). pages.contains x n) can.tabled ∙ space.sound.tabled n s (was n s at);
    };
    lays = lays;
    stands = record {
      tables = rw can.scheme space.stands.tables;
      owns = space.stands.owns;
      shows = shows_relaid;
      tabled = rw can.scheme (subst (λ (x : NumberSet). AreTablesOf p.scheme t (pages.keys x)) (sym can.tabled) space.stands.tabled);
      tabled_low = rw can.scheme (subst (λ (x : NumberSet). All (λ n. n < (trapframe_page p.scheme)) (pages.keys x)) (sym can.tabled) space.stands.tabled_low);
    };
    credits = space.credits;
  }
