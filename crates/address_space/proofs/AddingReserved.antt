-- Lemmas for `Space::settle`, which reserves the frames for a page and its missing tables together. If that is refused, the
-- space is as it was and the seat's tallies (counts of claims and reads) say why (`RunsDry`); else the page can be added
-- (`can_add`), and then it is settled as `Settles` says.
use Rattle.std.proofs.Common.{◌≡◌, ℕ, ◌+◌, ◌-◌, ◌<◌, ◌≤◌, Option, Some, List, ◌∷◌, append-nil, Result, Ok, Err, IsOk, IsErr, IfErr, is_ok, if◌then◌else◌, true, false, ap, sym, ◌∙◌, arith, [], subst}
use Rattle.std.specs.Prelude.{All}
use Rattle.frame_store.specs.Holds.{hold_of-frames}
use Rattle.frame_store.specs.Laws.{IsDry}
use Rattle.frame_store.specs.Tallies.{spent_is, spent_taken}
use Rattle.frame_store.specs.View.{spent, View, hold_of, with_credits}
use Rattle.process_model.specs.Frames.{settle_need, tables_needed}
use Rattle.process_model.proofs.OrderLaws.{leafy_at}
use Rattle.process_model.specs.PageMap as pages
use Rattle.process_model.specs.Process.{Process, regions}
use Rattle.process_model.specs.Regions.{Region, region_at}
use Rattle.table_walk.specs.TableCounts.{AreTablesOf}
use Rattle.table_walk.specs.Tables.{HasTables, Tables, missing}
use Rattle.address_space.specs.Agreement.{body, IsSpace, no_extra}
use Rattle.address_space.specs.Layouts.{Layout}
use Rattle.address_space.specs.Steps.{AddsPage, CanAdd, CanSettle, RunsDry, Settles}
use Rattle.address_space.proofs.Owned.{same_references, same_stands}
use Rattle.address_space.proofs.Sound.{low_at, sound_more}
use Rattle.sv39_entry.specs.Schemes.{page_limit, of_scheme}
use Rattle.sv39_entry.specs.declared.scheme.Scheme.{Scheme}

-- an error of a reservation

pub if_err : {A E : Type 0} (r : Result A E) (P : Type 0) → P → IfErr r (λ _. P)
if_err (Ok x) P h = tt
if_err (Err e) P h = h

pub not_enough : {A E : Type 0} (r : Result A E) (n m a b : ℕ) → IsErr r → n ≡ m → a ≡ b → (n ≤ a → false ≡ true) → (IsOk r → m ≤ b) × (m ≤ b → IsOk r)
not_enough (Ok x) n m a b err same free exact = absurd (cc)
not_enough (Err e) n m a b err same free exact = (λ ok. absurd (cc), λ le. exact (omega (arith, same, free, le)))

pub none_taken : {A E : Type 0} (r : Result A E) (n a b c : ℕ) → IsErr r → a ≡ b - 0 → b ≡ c → a ≡ c - (if is_ok r then n else 0)
none_taken (Ok x) n a b c err left free = absurd (cc)
none_taken (Err e) n a b c err left free = omega (arith, left, free)

-- the tables that are missing on the way to a page are those that it needs beside the tables of others
abbrev pub CountsGrowth : Scheme → Type 0
CountsGrowth z = (t : Tables) (others : List ℕ) (page : ℕ) → AreTablesOf z t others → All (λ n. n < page_limit z) others → page < page_limit z
    → missing z t page ≡ tables_needed z (page ∷ others) - tables_needed z others

pub need_is : (v : View) (root trapframe : ℕ) (l : Layout) (t : Tables) (p : Process) (page : ℕ) → CanSettle (body v root trapframe l) t p page → CountsGrowth p.scheme
    → settle_need p page ≡ 1 + missing p.scheme t page
need_is v root trapframe l t p page can law =
    let low = low_at p can.agrees.sound.order page can.region can.in_region in
    let all : All (λ n. n < page_limit p.scheme) (pages.keys p.tabled) = λ k d less. let one = can.agrees.stands.tabled_low k d less in omega (arith, one, of_scheme p.scheme) in
    ap (λ n. 1 + n) (sym (law t (pages.keys p.tabled) page can.agrees.stands.tabled all (omega (arith, low, of_scheme p.scheme))))

-- a reservation of n credits was refused
module _ (v u w : View) (n : ℕ) (is : u ≡ v) (dry : IsDry n u w) where
  pub runs_dry : (root trapframe : ℕ) (l : Layout) (page : ℕ) → CountsGrowth l.scheme → ((t : Tables) → HasTables l.scheme v root t → n ≡ 1 + missing l.scheme t page)
      → (t : Tables) (p : Process) → CanSettle (body v root trapframe l) t p page → RunsDry v w (settle_need p page) []
  runs_dry root trapframe l page law enough t p can =
      let scheme = can.agrees.lays.scheme in
      let need = need_is v root trapframe l t p page can (subst CountsGrowth (sym scheme) law) in
      let n_is : n ≡ 1 + missing p.scheme t page = subst (λ z. n ≡ 1 + missing z t page) (sym scheme) (enough t (subst (λ z. HasTables z v root t) scheme can.agrees.stands.tables)) in
      record {
        claims = dry.claims ∙ ap (λ (x : View). x.tallies.claims) is;
        zeros = let old = ap (λ (x : View). x.tallies.zeros) is in omega (arith, dry.zeros, old);
        short = let old = ap (λ (x : View). x.credits) is in omega (arith, dry.short, old, can.agrees.credits, need, n_is);
        looks = dry.looks ∙ ap (λ (x : View). x.tallies.looks) is ∙ sym (append-nil v.tallies.looks);
      }

  pub agrees_still : (root trapframe : ℕ) (l : Layout) (t : Tables) (p : Process) → IsSpace (body v root trapframe l) t p → IsSpace (body w root trapframe l) t p
  agrees_still root trapframe l t p a = record {
    sound = a.sound;
    lays = a.lays;
    stands = same_stands v w root trapframe no_extra t p (hold_of-frames w v (dry.frames ∙ ap (λ (x : View). x.frames) is)) a.stands;
    credits = dry.credits ∙ ap (λ (x : View). x.credits) is ∙ a.credits;
  }

module _ (v : View) (root trapframe : ℕ) (l : Layout) (t : Tables) (p : Process) (page : ℕ) (can : CanSettle (body v root trapframe l) t p page) where
  -- n credits were reserved
  module _ (u w : View) (n : ℕ) (is : u ≡ v) (reserved : w ≡ with_credits n u) where
    reserved_same : (f : ℕ) → hold_of w f ≡ hold_of v f
    reserved_same f = ap (λ (x : View). hold_of x f) reserved ∙ hold_of-frames (with_credits n u) v (ap (λ (x : View). x.frames) is) f

    pub reserved_credits : w.credits ≡ n
    reserved_credits =
        let more = ap (λ (x : View). x.credits) reserved in
        let old = ap (λ (x : View). x.credits) is in
        omega (arith, more, old, can.agrees.credits)

    pub can_add : (o : Option Region) (r : Region) → o ≡ region_at (regions p) page → o ≡ Some r → CanAdd w root trapframe t p page r
    can_add o r at some =
        let in_region = sym at ∙ some in
        record {
          stands = same_stands v w root trapframe no_extra t p reserved_same can.agrees.stands;
          unsettled = can.unsettled;
          in_region = in_region;
          leafy = leafy_at p can.agrees.sound.order page r in_region;
          low = low_at p can.agrees.sound.order page r in_region;
        }

    pub settles : (x : View) (s : Tables) (bytes : List ℕ) (f : ℕ) → n ≡ 1 + missing p.scheme t page → settle_need p page ≡ 1 + missing p.scheme t page
        → AddsPage w x root trapframe t s p page bytes f → Settles v (body x root trapframe l) t s p page bytes f
    settles x s bytes f enough need a = record {
      agrees = λ fresh. record {
        sound = sound_more fresh bytes p page can.agrees.sound;
        lays = record { scheme = can.agrees.lays.scheme; parts = can.agrees.lays.parts; mappings = can.agrees.lays.mappings; heap_base = can.agrees.lays.heap_base; size = can.agrees.lays.size };
        stands = a.stands fresh;
        credits = omega (arith, a.spends.credits, reserved_credits, enough);
      };
      on = a.on;
      fresh = sym (same_references v w f (reserved_same f)) ∙ a.fresh;
      sole = a.sole;
      others = a.others;
      takes = record {
        tallies =
            let old : w.tallies ≡ v.tallies = ap (λ (y : View). y.tallies) reserved ∙ ap (λ (y : View). y.tallies) is in
            spent_taken v.tallies x.tallies (settle_need p page) (spent_is v.tallies x.tallies (1 + missing p.scheme t page) (settle_need p page) (omega (arith, need)) (a.spends.tallies ∙ ap (spent (1 + missing p.scheme t page)) old));
      };
    }
