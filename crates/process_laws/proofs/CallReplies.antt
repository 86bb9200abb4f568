-- Lemmas: what a start replies (`StartReply`), and fork, exec, sbrk, mmap and munmap when the kernel may be called (`ForkReply`,
-- `ExecReply`, `SizeReply`, `MapReply`, `UnmapReply`).
use Rattle.std.proofs.Common.{◌≡◌, ◌⊎◌, ℕ, zero, suc, ℤ, Bool, true, false, cond, ◌&&◌, ◌+◌, ◌<◌, ◌≤◌, inl, inr, refl, sym, ap, subst, ◌∙◌, arith, Option, None, Some, List, [], ◌∷◌, length}
use Rattle.std.specs.Prelude.{Result, Ok, Err, is_none, nat_abs, nat_le, nat_lt, slice_get, unwrap_or}
use Rattle.std.proofs.lemmas.Bool.{and_parts, le-leb, leb-true, ltb-true}
use Rattle.std.proofs.lemmas.Bool.Decides.{nat_tests}
use Rattle.std.proofs.lemmas.Option.{same_Some}
use Rattle.process_laws.proofs.Givens.{none_below, past_heap}
use Rattle.process_laws.proofs.Grants.{Found, here}
use Rattle.process_laws.proofs.Possible.{call_runs}
use Rattle.process_laws.proofs.Running.{step_reply}
use Rattle.process_laws.specs.CallReplies.{ExecReply, ForkReply, HasRange, is_below_base, is_range, is_read_only, MapReply, SizeReply, StartReply, UnmapReply}
use Rattle.process_laws.specs.Pages.{grant}
use Rattle.process_laws.specs.Words.{IsOnHart, MayCall}
use Rattle.process_model.specs.Bytes.{first_true, pages_for}
use Rattle.process_model.specs.Calls.{forked, forked_unless, mapped_to, replaced, replaced_unless, resized_to, started, started_unless, unmapped_to}
use Rattle.process_model.specs.Heap.{heap_limit, resized_unless, sbrk_result, wanted_size}
use Rattle.process_model.specs.Images.{image_loads, LoadSegment}
use Rattle.process_model.specs.Mappings.{is_bad_mapping, leaves_hole, mapped, mapped_unless, mapping_around, mapping_of, mapping_place, unmapped, unmapped_if, unmapped_in, unmapped_unless}
use Rattle.process_model.specs.Order.{IsInOrder, Row}
use Rattle.process_model.proofs.Places.{none_above, none_fits, place_fits}
use Rattle.process_model.specs.Process.{Process}
use Rattle.process_model.proofs.RegionRows.{row_up}
use Rattle.process_model.specs.Regions.{end_of, Region}
use Rattle.process_model.specs.Steps.{step}
use Rattle.process_model.specs.World.{free_slot, StepOutcome, World}
use Rattle.process_model.specs.declared.image.BadImage.{BadImage}
use Rattle.process_model.specs.declared.image.Image.{Image}
use Rattle.process_model.specs.declared.reply.Refusal.TheVariants.{BadArgument, BadSize, FileNotWritable, MappingsFull, NoRoom}
use Rattle.process_model.specs.declared.reply.Reply.{Reply}
use Rattle.process_model.specs.declared.step.Step.TheVariants as step_of
use Rattle.sv39_entry.specs.Address.{page_of}
use Rattle.sv39_entry.specs.Schemes.{trapframe_page}
use Rattle.process_model.specs.declared.limits.TheConstants.{MOST_MAPPINGS}

less_false : (a b : ℕ) → nat_lt a b ≡ false → b ≤ a
less_false a b e = grind arith

le_false : (a b : ℕ) → nat_le a b ≡ false → b < a
le_false a b e = grind arith

-- ---- sbrk

module _ (p : Process) (order : IsInOrder p) where
  -- the first page that the heap may not get has a grant, or is the trapframe's
  limit_taken : (ms : List Region) → Row 1 (pages_for p.size) ms (trapframe_page p.scheme) → p.mappings ≡ ms → (grant p (heap_limit p.scheme ms) ≡ None → ⊥) ⊎ (trapframe_page p.scheme ≤ heap_limit p.scheme ms)
  limit_taken [] row is = inr (omega arith)
  limit_taken (m ∷ ms) row is = inl (λ none.
      let start = row.0 in
      let some = row.1 in
      let found : grant p m.first ≡ Found (m ∷ ms) m.first = past_heap p order m.first p.mappings start ∙ ap (λ rs. Found rs m.first) is in
      let no = sym none ∙ found ∙ here m ms m.first (grind (arith, nat_tests, some)) in
      absurd cc)

  limit_above : (ms : List Region) → Row 1 (pages_for p.size) ms (trapframe_page p.scheme) → pages_for p.size ≤ heap_limit p.scheme ms
  limit_above [] row = row
  limit_above (m ∷ ms) row = row.0

  -- below it no page above the heap has a grant
  below_limit : (ms : List Region) (page : ℕ) → Row 1 (pages_for p.size) ms (trapframe_page p.scheme) → p.mappings ≡ ms → pages_for p.size ≤ page → page < heap_limit p.scheme ms → (grant p page ≡ None) × (page < trapframe_page p.scheme)
  below_limit [] page row is above less = (past_heap p order page p.mappings above ∙ ap (λ rs. Found rs page) is, less)
  below_limit (m ∷ ms) page row is above less =
      let some = row.1 in
      let high = row_up 1 (end_of m) (trapframe_page p.scheme) ms row.2 in (
        past_heap p order page p.mappings above ∙ ap (λ rs. Found rs page) is ∙ none_below 1 m.first (trapframe_page p.scheme) page (m ∷ ms) (omega arith, row.1, row.2) less,
        omega (arith, less, some, high),
      )

  module _ (w : World) (s : ℕ) (delta : ℤ) where
    abbrev size : ℕ
    size = nat_abs (wanted_size p delta)

    size_by : (a b : Bool) → is_below_base p delta ≡ a → nat_lt (heap_limit p.scheme p.mappings) (pages_for size) ≡ b → SizeReply p delta (resized_to w s p (resized_unless p size (first_true ((a, BadSize) ∷ (b, NoRoom) ∷ [])))).reply
    size_by true b below room = SizeReply.bad_size below
    size_by false true below room = SizeReply.no_room {page = heap_limit p.scheme p.mappings} below (limit_above p.mappings order.above, ltb-true (heap_limit p.scheme p.mappings) (pages_for size) room) (limit_taken p.mappings order.above refl)
    size_by false false below room = SizeReply.sized below (λ page gained. let enough = less_false (heap_limit p.scheme p.mappings) (pages_for size) room in let less = gained.1 in below_limit p.mappings page order.above refl gained.0 (omega (arith, enough, less)))

    size_reply : SizeReply p delta (resized_to w s p (sbrk_result p delta)).reply
    unfolding sbrk_result
    size_reply = size_by (is_below_base p delta) (nat_lt (heap_limit p.scheme p.mappings) (pages_for size)) refl refl

-- ---- mmap

module _ (w : World) (s : ℕ) (p : Process) (len protection flags n : ℕ) where
  abbrev Maps : Reply → Type 0
  Maps r = MapReply w.files p len protection flags n r

  map_by : (a b c : Bool) (place : Option ℕ) → is_bad_mapping w.files len protection flags n ≡ a → is_read_only w.files protection flags n ≡ b → nat_le MOST_MAPPINGS (length p.mappings) ≡ c → mapping_place p (pages_for len) ≡ place
      → Maps (mapped_to w s (mapped_unless p (mapping_of (unwrap_or place 0) (pages_for len) protection flags n) (first_true ((a, BadArgument) ∷ (b, FileNotWritable) ∷ (c, MappingsFull) ∷ (is_none place, NoRoom) ∷ [])))).reply
  map_by true b c place bad only full at = MapReply.bad bad
  map_by false true c place bad only full at = MapReply.read_only bad only
  map_by false false true place bad only full at = MapReply.full bad only (leb-true MOST_MAPPINGS (length p.mappings) full)
  map_by false false false None bad only full at = MapReply.no_room bad only (le_false MOST_MAPPINGS (length p.mappings) full) (λ first. none_fits p (pages_for len) first at)
  map_by false false false (Some first) bad only full at = MapReply.mapped bad only (le_false MOST_MAPPINGS (length p.mappings) full) (place_fits p (pages_for len) first at) (λ other. none_above p (pages_for len) first other at)

  map_reply : Maps (mapped_to w s (mapped w.files p len protection flags n)).reply
  unfolding mapped
  map_reply = map_by (is_bad_mapping w.files len protection flags n) (is_read_only w.files protection flags n) (nat_le MOST_MAPPINGS (length p.mappings)) (mapping_place p (pages_for len)) refl refl refl refl

-- ---- munmap

around_has : (ms : List Region) (first end : ℕ) (m : Region) → mapping_around ms first end ≡ Some m → (i : ℕ) × (slice_get ms i ≡ Some m) × (m.first ≤ first) × (end ≤ end_of m)
around_has [] first end m e = absurd cc
around_has (r ∷ ms) first end m e = elim (nat_le r.first first && nat_le end (end_of r)) as (λ t. (nat_le r.first first && nat_le end (end_of r)) ≡ t → cond t (Some r) (mapping_around ms first end) ≡ Some m
    → (i : ℕ) × (slice_get (r ∷ ms) i ≡ Some m) × (m.first ≤ first) × (end ≤ end_of m)) [
      | true ↦ λ fits is.
          let parts = and_parts (nat_le r.first first) (nat_le end (end_of r)) fits in
          let same = same_Some r m is in
          (0, is, subst (λ (z : Region). z.first ≤ first) same (leb-true r.first first parts.0), subst (λ (z : Region). end ≤ end_of z) same (leb-true end (end_of r) parts.1))
      | false ↦ λ fits is. let rest = around_has ms first end m is in (suc rest.0, rest.1, rest.2, rest.3)
    ] refl e

none_around : (ms : List Region) (first end i : ℕ) (m : Region) → mapping_around ms first end ≡ None → slice_get ms i ≡ Some m → m.first ≤ first → end ≤ end_of m → ⊥
none_around [] first end i m e there from to = absurd cc
none_around (r ∷ ms) first end i m e there from to = elim (nat_le r.first first && nat_le end (end_of r)) as (λ t. (nat_le r.first first && nat_le end (end_of r)) ≡ t → cond t (Some r) (mapping_around ms first end) ≡ None → ⊥) [
  | true ↦ λ fits is. absurd cc
  | false ↦ λ fits is. by i there fits (λ j at. none_around ms first end j m is at from to)
] refl e
  where
    by : (i : ℕ) → slice_get (r ∷ ms) i ≡ Some m → (nat_le r.first first && nat_le end (end_of r)) ≡ false → ((j : ℕ) → slice_get ms j ≡ Some m → ⊥) → ⊥
    by zero there fits others =
        let same = same_Some r m there in
        let one : nat_le r.first first ≡ true = le-leb r.first first (subst (λ (z : Region). z.first ≤ first) (sym same) from) in
        let two : nat_le end (end_of r) ≡ true = le-leb end (end_of r) (subst (λ (z : Region). end ≤ end_of z) (sym same) to) in
        both (nat_le r.first first) (nat_le end (end_of r)) one two fits
      where
        both : (a b : Bool) → a ≡ true → b ≡ true → (a && b) ≡ false → ⊥
        both true true e f g = absurd cc
        both true false e f g = absurd cc
        both false b e f g = absurd cc
    by (suc j) there fits others = others j there

module _ (w : World) (s : ℕ) (p : Process) (address len : ℕ) where
  abbrev first : ℕ
  first = page_of address

  abbrev end : ℕ
  end = first + pages_for len

  abbrev Unmaps : Reply → Type 0
  Unmaps r = UnmapReply p address len r

  touches : (m : Region) → m.first ≤ first → end ≤ end_of m → (nat_lt m.first first && nat_lt end (end_of m)) ≡ false → (m.first ≡ first) ⊎ (end ≡ end_of m)
  touches m from to e = by (nat_lt m.first first) (nat_lt end (end_of m)) refl refl e
    where
      by : (a b : Bool) → nat_lt m.first first ≡ a → nat_lt end (end_of m) ≡ b → (a && b) ≡ false → (m.first ≡ first) ⊎ (end ≡ end_of m)
      by true true x y z = absurd cc
      by true false x y z = inr (let le = less_false end (end_of m) y in omega (arith, le, to))
      by false b x y z = inl (let le = less_false m.first first x in omega (arith, le, from))

  hole_by : (m : Region) (b : Bool) → is_range address len ≡ true → HasRange p first end m → leaves_hole m first end ≡ b → Unmaps (unmapped_to w s (unmapped_unless w.files p m first end b)).reply
  hole_by m true range has hole = let t = and_parts (nat_lt m.first first) (nat_lt end (end_of m)) hole in UnmapReply.hole range has (ltb-true m.first first t.0) (ltb-true end (end_of m) t.1)
  hole_by m false range has hole = UnmapReply.unmapped range has (touches m has.from has.to hole)

  around_by : (o : Option Region) → is_range address len ≡ true → mapping_around p.mappings first end ≡ o → Unmaps (unmapped_to w s (unmapped_in w.files p first end o)).reply
  around_by None range is = UnmapReply.outside range (λ m has. none_around p.mappings first end has.number m is has.there has.from has.to)
  around_by (Some m) range is = let t = around_has p.mappings first end m is in hole_by m (leaves_hole m first end) range (record { number = t.0; there = t.1; from = t.2; to = t.3 }) refl

  range_by : (b : Bool) → is_range address len ≡ b → Unmaps (unmapped_to w s (unmapped_if w.files p first end b)).reply
  range_by false range = UnmapReply.no_range range
  range_by true range = around_by (mapping_around p.mappings first end) range refl

  unmap_reply : Unmaps (unmapped_to w s (unmapped w.files p address len)).reply
  unfolding unmapped
  unmap_reply = range_by (is_range address len) refl

-- ---- the steps

module _ (w : World) (h s : ℕ) (p : Process) (on : IsOnHart w h s p) (k : MayCall w h p) where
  pub sbrk_replies : IsInOrder p → (delta : ℤ) → SizeReply p delta (step w (step_of.Sbrk h delta)).reply
  sbrk_replies order delta =
      let x = step_of.Sbrk h delta in
      subst (SizeReply p delta) (sym (step_reply w x ∙ ap (λ (o : StepOutcome). o.reply) (call_runs w h s p true (λ hart s p. resized_to w s p (sbrk_result p delta)) refl on k.quiet k.in_kernel).1)) (size_reply p order w s delta)

  pub mmap_replies : (len protection flags n : ℕ) → MapReply w.files p len protection flags n (step w (step_of.Mmap h len protection flags n)).reply
  mmap_replies len protection flags n =
      let x = step_of.Mmap h len protection flags n in
      subst (MapReply w.files p len protection flags n) (sym (step_reply w x ∙ ap (λ (o : StepOutcome). o.reply) (call_runs w h s p true (λ hart s p. mapped_to w s (mapped w.files p len protection flags n)) refl on k.quiet k.in_kernel).1)) (map_reply w s p len protection flags n)

  pub munmap_replies : (address len : ℕ) → UnmapReply p address len (step w (step_of.Munmap h address len)).reply
  munmap_replies address len =
      let x = step_of.Munmap h address len in
      subst (UnmapReply p address len) (sym (step_reply w x ∙ ap (λ (o : StepOutcome). o.reply) (call_runs w h s p true (λ hart s p. unmapped_to w s (unmapped w.files p address len)) refl on k.quiet k.in_kernel).1)) (unmap_reply w s p address len)

-- ---- start, fork, exec

module _ (w : World) where
  start_unless : (image : Image) (s : ℕ) (ls : List LoadSegment) (b : Bool) → free_slot w ≡ Some s → image_loads w.scheme image ≡ Ok ls → StartReply w image (started_unless w s ls b).reply
  start_unless image s ls true to loads = StartReply.no_frame to loads
  start_unless image s ls false to loads = StartReply.started to loads

  start_as : (image : Image) (r : Result (List LoadSegment) BadImage) (o : Option ℕ) → image_loads w.scheme image ≡ r → free_slot w ≡ o → StartReply w image (started w r o).reply
  start_as image r None loads to = StartReply.no_slot to
  start_as image (Err e) (Some s) loads to = StartReply.bad to loads
  start_as image (Ok ls) (Some s) loads to = start_unless image s ls _ to loads

  pub start_replies : (image : Image) → StartReply w image (step w (step_of.Start image)).reply
  start_replies image = subst (StartReply w image) (sym (step_reply w (step_of.Start image))) (start_as image (image_loads w.scheme image) (free_slot w) refl refl)

  module _ (s : ℕ) (p : Process) where
    fork_unless : (t : ℕ) (b : Bool) → free_slot w ≡ Some t → ForkReply w (forked_unless w s p t b).reply
    fork_unless t true to = ForkReply.no_frame to
    fork_unless t false to = ForkReply.forked to

    fork_as : (o : Option ℕ) → free_slot w ≡ o → ForkReply w (forked w s p o).reply
    fork_as None to = ForkReply.no_slot to
    fork_as (Some t) to = fork_unless t _ to

    exec_unless : (image : Image) (ls : List LoadSegment) (b : Bool) → image_loads w.scheme image ≡ Ok ls → ExecReply w image (replaced_unless w s p ls b).reply
    exec_unless image ls true loads = ExecReply.no_frame loads
    exec_unless image ls false loads = ExecReply.done loads

    exec_as : (image : Image) (r : Result (List LoadSegment) BadImage) → image_loads w.scheme image ≡ r → ExecReply w image (replaced w s p r).reply
    exec_as image (Err e) loads = ExecReply.bad loads
    exec_as image (Ok ls) loads = exec_unless image ls _ loads

  module _ (h s : ℕ) (p : Process) (on : IsOnHart w h s p) (k : MayCall w h p) where
    pub fork_replies : ForkReply w (step w (step_of.Fork h)).reply
    fork_replies =
        let x = step_of.Fork h in
        subst (ForkReply w) (sym (step_reply w x ∙ ap (λ (o : StepOutcome). o.reply) (call_runs w h s p true (λ hart s p. forked w s p (free_slot w)) refl on k.quiet k.in_kernel).1)) (fork_as s p (free_slot w) refl)

    pub exec_replies : (image : Image) → ExecReply w image (step w (step_of.Exec h image)).reply
    exec_replies image =
        let x = step_of.Exec h image in
        subst (ExecReply w image) (sym (step_reply w x ∙ ap (λ (o : StepOutcome). o.reply) (call_runs w h s p true (λ hart s p. replaced w s p (image_loads w.scheme image)) refl on k.quiet k.in_kernel).1)) (exec_as s p image (image_loads w.scheme image) refl)
