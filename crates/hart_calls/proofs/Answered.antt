-- Lemmas: sbrk, mmap, munmap and exec, done or refused, give the `CallResult` (how a call in a space ended) that
-- `IsCallResult` promises: the model's reply, process, page moves and shortage (what the call needed and did not get).
use Rattle.std.proofs.Common.{◌≡◌, ◌⊎◌, ℕ, ◌+◌, Bool, true, false, Option, None, Some, Result, Ok, Err, List, [], ◌∷◌, refl, ap, sym, subst, ◌∙◌, arith, inl, inr, length}
use Rattle.std.specs.Prelude.{◌<◌, ℤ, IfErr, IfOk, ◌%◌, ◌==◌, ◌&&◌, is_none, nat_le, nat_lt, not, slice_get}
use Rattle.std.proofs.lemmas.Option.{same_Some}
use Rattle.address_space.specs.Agreement.{Body, IsSpace}
use Rattle.address_space.specs.Steps.{RunsDry}
use Rattle.exec_segments.specs.ExecRefusals.{IsExecRefusal}
use Rattle.file_cabinet.specs.Promises as promises
use Rattle.file_cabinet.specs.declared.promise.PromiseError.{PromiseError}
use Rattle.file_cabinet.specs.declared.promise.PromiseError.TheVariants as error
use Rattle.hart_calls.specs.ReplyCases.{done_or_refused, mapped_or_refused, size_or_refused}
use Rattle.hart_calls.specs.CallResults.{by_refusal, IsModelResult, IsCallResult}
use Rattle.hart_calls.specs.ShortageReports.{ReportsShortage}
use Rattle.hart_calls.specs.CallOutcomes.{if_done, mapped_as, replaced, resized, CallOutcome, unmapped_as}
use Rattle.hart_calls.specs.Shortages.{IsUnpromised, nothing, refused, Shortage}
use Rattle.lazy_growth.specs.SbrkEffect.{Resizes}
use Rattle.lazy_growth.specs.SbrkResults.{answer_of, refusal_of, size_before}
use Rattle.lazy_growth.specs.declared.size_error.SizeError.{SizeError}
use Rattle.lazy_growth.specs.declared.size_error.SizeError.TheVariants as size
use Rattle.mmap_regions.specs.MmapEffect.{address_of_mapped, process_mapped}
use Rattle.mmap_regions.specs.MunmapEffect.{IsUnmapRefusal, unmap_moves, Unmaps}
use Rattle.process_model.specs.Bytes.{first_true, pages_for}
use Rattle.process_model.specs.Files.{File, is_writable}
use Rattle.process_model.specs.Frames.{exec_need}
use Rattle.process_model.specs.Heap.{sbrk_result}
use Rattle.process_model.specs.Images.{image_loads, LoadSegment}
use Rattle.process_model.specs.ImageProcess.{process_of}
use Rattle.process_model.specs.Mappings.{asks_write, is_bad_mapping, is_shared, leaves_hole, mapping_place, map_refusal, Mapped, mapped, mapped_unless, mapping_around, Unmapped, unmapped, unmapped_if, unmapped_in, unmapped_unless}
use Rattle.process_model.specs.PageMoves.{all_moves, PageMove}
use Rattle.process_model.specs.Process.{Process}
use Rattle.process_model.specs.Regions.{Region}
use Rattle.process_model.specs.declared.call.Call.TheVariants as call
use Rattle.process_model.specs.declared.image.BadImage.{BadImage}
use Rattle.process_model.specs.declared.image.Image.{Image}
use Rattle.process_model.specs.declared.reply.Refusal.{Refusal}
use Rattle.process_model.specs.declared.reply.Refusal.TheVariants as refusal
use Rattle.process_model.specs.declared.reply.ScalarReply.TheVariants as scalar
use Rattle.process_model.specs.declared.reply.Reply.TheVariants as reply
use Rattle.sv39_entry.specs.Address.{page_of}
use Rattle.sv39_entry.specs.declared.scheme.Scheme.{Scheme}
use Rattle.table_walk.specs.Tables.{Tables}
use Rattle.process_model.specs.declared.limits.TheConstants.{MOST_MAPPINGS}

-- what a first test that is met tells
abbrev WantNothing : List (Bool × Refusal) → Type 0
WantNothing [] = Unit {0}
WantNothing (z ∷ zs) = (by_refusal z.1 ≡ nothing) × WantNothing zs

tells_one : (ts : List (Bool × Refusal)) (e : Refusal) → WantNothing ts → first_true ts ≡ Some e → by_refusal e ≡ nothing
tells_one [] e each is = absurd (cc)
tells_one ((true, r) ∷ ts) e each is = ap by_refusal (sym (same_Some r e is)) ∙ each.0
tells_one ((false, r) ∷ ts) e each is = tells_one ts e each.1 is

same_error : {A : Type 0} (r e : Refusal) → ◌≡◌ {A = Result A Refusal} (Err r) (Err e) → r ≡ e
same_error r e is = cc

unpromised_is : (x : PromiseError) → IsUnpromised (promises.refusal_of x)
unpromised_is error.Memory = tt
unpromised_is error.JournalFull = tt

wanted_is : (x : PromiseError) → by_refusal (promises.refusal_of x) ≡ refused 0 (promises.refusal_of x)
wanted_is error.Memory = refl
wanted_is error.JournalFull = refl

module _ (x y : Body) (files : List File) (Became : List PageMove → Type 0) (CanRefuse : ℕ → PromiseError → Type 0) (Refused : List PageMove → ℕ → Refusal → Type 0) (Promised : ℕ → Type 0) (t : Tables) (p : Process) where
  -- only a promise of a page or more is refused, and it is told so
  abbrev Asks : Type 0
  Asks = (n : ℕ) (e : PromiseError) → CanRefuse n e → (0 < n) × Refused [] n (promises.refusal_of e)

  -- ---- sbrk

  module _ (delta : ℤ) where
    size_wants : (e : SizeError) → by_refusal (refusal_of e) ≡ nothing
    size_wants size.BadSize = refl
    size_wants size.NoRoom = refl

    size_refused : (e : SizeError) (z : Result Process Refusal) → ◌≡◌ {A = Result ℕ Refusal} (Err (refusal_of e)) (size_before p z) → z ≡ Err (refusal_of e)
    size_refused e (Ok q) is = absurd (cc)
    size_refused e (Err r) is = ap (λ (k : Refusal). let w : Result Process Refusal = Err k in w) (sym (same_error (refusal_of e) r is))

    size_answered : (n : ℕ) (z : Result Process Refusal) (q : Process) → z ≡ Ok q → ◌≡◌ {A = Result ℕ Refusal} (Ok n) (size_before p z) → n ≡ p.size
    size_answered n (Ok q) r at is = cc
    size_answered n (Err r) q at is = absurd (cc)

    pub came_sized : (r : Result ℕ SizeError) → answer_of r ≡ size_before p (sbrk_result p delta) → IfOk r (λ _. Resizes y t p delta) → IfErr r (λ _. IsSpace y t p) → Became []
        → IsCallResult x y files Became Refused Promised p (call.Sbrk delta) (size_or_refused r)
    came_sized (Ok n) answer ok err moves = (
      tt,
      record {
        possible = tt;
        reply = ap (λ (k : ℕ). (reply.Scalar (scalar.OldSize k))) (size_answered n (sbrk_result p delta) ok.process ok.is answer) ∙ sym (ap (λ (z : Result Process Refusal). (resized files p z).reply) ok.is);
        space = (ok.tables, subst (λ (q : Process). IsSpace y ok.tables q) (sym (ap (λ (z : Result Process Refusal). (resized files p z).process) ok.is)) ok.agrees);
        moves = moves;
        lack = tt;
        request = tt;
      },
    )
    came_sized (Err e) answer ok err moves =
        let is = size_refused e (sbrk_result p delta) answer in (
          tt,
          subst (λ (w : Shortage). IsModelResult x y files Became Refused Promised p (call.Sbrk delta) w (reply.Scalar (scalar.Refused (refusal_of e)))) (sym (size_wants e)) record {
            possible = tt;
            reply = sym (ap (λ (z : Result Process Refusal). (resized files p z).reply) is);
            space = (t, subst (λ (q : Process). IsSpace y t q) (sym (ap (λ (z : Result Process Refusal). (resized files p z).process) is)) err);
            moves = moves;
            lack = tt;
            request = tt;
          },
        )

  -- ---- mmap

  module _ (len protection flags file : ℕ) where
    abbrev made : Result Mapped Refusal
    made = mapped files p len protection flags file

    unless_refused : (r : Region) (o : Option Refusal) (e : Refusal) → mapped_unless p r o ≡ Err e → o ≡ Some e
    unless_refused r None e is = absurd (cc)
    unless_refused r (Some d) e is = ap (λ (k : Refusal). let w : Option Refusal = Some k in w) (same_error d e is)

    abbrev map_tests : List (Bool × Refusal)
    map_tests =
        (is_bad_mapping files len protection flags file, refusal.BadArgument)
        ∷ (is_shared flags && asks_write protection && not (is_writable (slice_get files file)), refusal.FileNotWritable)
        ∷ (nat_le MOST_MAPPINGS (length p.mappings), refusal.MappingsFull)
        ∷ (is_none (mapping_place p (pages_for len)), refusal.NoRoom)
        ∷ []

    map_wants : (e : Refusal) → made ≡ Err e → by_refusal e ≡ nothing
    unfolding mapped
    map_wants e is = tells_one map_tests e (refl, (refl, (refl, (refl, tt)))) (unless_refused _ (map_refusal files p len protection flags file) e is)

    pub came_mapped : (r : Result ℕ Refusal) → r ≡ address_of_mapped made → IsSpace y t (process_mapped p made) → Became [] → IsCallResult x y files Became Refused Promised p (call.Mmap len protection flags file) (mapped_or_refused r)
    came_mapped r is space moves = subst (λ (z : Result ℕ Refusal). IsCallResult x y files Became Refused Promised p (call.Mmap len protection flags file) (mapped_or_refused z)) (sym is) (go made refl space)
      where
        go : (z : Result Mapped Refusal) → made ≡ z → IsSpace y t (process_mapped p z) → IsCallResult x y files Became Refused Promised p (call.Mmap len protection flags file) (mapped_or_refused (address_of_mapped z))
        go (Ok m) at there = (
          tt,
          record {
            possible = tt;
            reply = sym (ap (λ (z : Result Mapped Refusal). (mapped_as files p z).reply) at);
            space = (t, subst (λ (q : Process). IsSpace y t q) (sym (ap (λ (z : Result Mapped Refusal). (mapped_as files p z).process) at)) there);
            moves = moves;
            lack = tt;
            request = tt;
          },
        )
        go (Err e) at there = (
          tt,
          subst (λ (w : Shortage). IsModelResult x y files Became Refused Promised p (call.Mmap len protection flags file) w (reply.Scalar (scalar.Refused e))) (sym (map_wants e at)) record {
            possible = tt;
            reply = sym (ap (λ (z : Result Mapped Refusal). (mapped_as files p z).reply) at);
            space = (t, subst (λ (q : Process). IsSpace y t q) (sym (ap (λ (z : Result Mapped Refusal). (mapped_as files p z).process) at)) there);
            moves = moves;
            lack = tt;
            request = tt;
          },
        )

  -- ---- munmap

  module _ (address len : ℕ) where
    abbrev gone : Result Unmapped Refusal
    gone = unmapped files p address len

    hole_wants : (m : Region) (first end : ℕ) (b : Bool) (e : Refusal) → unmapped_unless files p m first end b ≡ Err e → by_refusal e ≡ nothing
    hole_wants m first end true e is = sym (ap by_refusal (same_error refusal.HoleInMapping e is))
    hole_wants m first end false e is = absurd (cc)

    around_wants : (first end : ℕ) (o : Option Region) (e : Refusal) → unmapped_in files p first end o ≡ Err e → by_refusal e ≡ nothing
    around_wants first end None e is = sym (ap by_refusal (same_error refusal.BadArgument e is))
    around_wants first end (Some m) e is = hole_wants m first end (leaves_hole m first end) e is

    asked_wants : (first end : ℕ) (b : Bool) (e : Refusal) → unmapped_if files p first end b ≡ Err e → by_refusal e ≡ nothing
    asked_wants first end false e is = sym (ap by_refusal (same_error refusal.BadArgument e is))
    asked_wants first end true e is = around_wants first end (mapping_around p.mappings first end) e is

    unmap_wants : (e : Refusal) → gone ≡ Err e → by_refusal e ≡ nothing
    unfolding unmapped
    unmap_wants e is = asked_wants (page_of address) (page_of address + pages_for len) (address % 4096 == 0 && nat_lt 0 len) e is

    abbrev as_told : Shortage → Result Unmapped Refusal → CallOutcome
    as_told w z = unmapped_as files w p z

    pub came_unmapped : (after : List File) → Unmaps y t p files after address len → Became (unmap_moves p address len) → IsCallResult x y files Became Refused Promised p (call.Munmap address len) (done_or_refused (Ok tt))
    came_unmapped after un moves = (
      tt,
      record {
        possible = tt;
        reply = sym (ap (λ (z : Result Unmapped Refusal). (as_told nothing z).reply) un.is);
        space = (un.tables, subst (λ (q : Process). IsSpace y un.tables q) (sym (ap (λ (z : Result Unmapped Refusal). (as_told nothing z).process) un.is)) un.agrees);
        moves = subst Became (sym (ap (λ (z : Result Unmapped Refusal). if_done (as_told nothing z).reply (unmap_moves p address len)) un.is)) moves;
        lack = tt;
        request = tt;
      },
    )

    pub came_not_unmapped : Asks → (e : Refusal) → IsUnmapRefusal CanRefuse files p address len e → IsSpace y t p → Became [] → IsCallResult x y files Became Refused Promised p (call.Munmap address len) (done_or_refused (Err e))
    came_not_unmapped asks e (inl is) space moves = (
      tt,
      subst (λ (w : Shortage). IsModelResult x y files Became Refused Promised p (call.Munmap address len) w (reply.Scalar (scalar.Refused e))) (sym (unmap_wants e is)) record {
        possible = tt;
        reply = sym (ap (λ (z : Result Unmapped Refusal). (as_told nothing z).reply) is);
        space = (t, subst (λ (q : Process). IsSpace y t q) (sym (ap (λ (z : Result Unmapped Refusal). (as_told nothing z).process) is)) space);
        moves = subst Became (sym (ap (λ (z : Result Unmapped Refusal). if_done (as_told nothing z).reply (unmap_moves p address len)) is)) moves;
        lack = tt;
        request = tt;
      },
    )
    came_not_unmapped asks e (inr (what, is, why, could, same)) space moves = (
      tt,
      subst (λ (k : Refusal). IsModelResult x y files Became Refused Promised p (call.Munmap address len) (by_refusal k) (reply.Scalar (scalar.Refused k))) (sym same)
          (subst (λ (w : Shortage). IsModelResult x y files Became Refused Promised p (call.Munmap address len) w (reply.Scalar (scalar.Refused (promises.refusal_of why)))) (sym (wanted_is why)) record {
            possible = (unpromised_is why, (asks (length (unmap_moves p address len)) why could).0);
            reply = sym (ap (λ (z : Result Unmapped Refusal). (as_told (refused 0 (promises.refusal_of why)) z).reply) is);
            space = (t, subst (λ (q : Process). IsSpace y t q) (sym (ap (λ (z : Result Unmapped Refusal). (as_told (refused 0 (promises.refusal_of why)) z).process) is)) space);
            moves = subst Became (sym (ap (λ (z : Result Unmapped Refusal). if_done (as_told (refused 0 (promises.refusal_of why)) z).reply (unmap_moves p address len)) is)) moves;
            lack = tt;
            request = (asks (length (unmap_moves p address len)) why could).1;
          }),
    )

  -- ---- exec

  module _ (image : Image) where
    abbrev put : Shortage → Result (List LoadSegment) BadImage → CallOutcome
    put w z = replaced files w p z

    pub came_bad : (part : BadImage) → image_loads p.scheme image ≡ Err part → IsSpace y t p → Became [] → IsCallResult x y files Became Refused Promised p (call.Exec image) (done_or_refused (Err (refusal.BadImage part)))
    came_bad part is space moves = (
      tt,
      record {
        possible = tt;
        reply = sym (ap (λ (z : Result (List LoadSegment) BadImage). (put nothing z).reply) is);
        space = (t, subst (λ (q : Process). IsSpace y t q) (sym (ap (λ (z : Result (List LoadSegment) BadImage). (put nothing z).process) is)) space);
        moves = subst Became (sym (ap (λ (z : Result (List LoadSegment) BadImage). if_done (put nothing z).reply (all_moves p)) is)) moves;
        lack = tt;
        request = tt;
      },
    )

    module _ (ls : List LoadSegment) (is : image_loads p.scheme image ≡ Ok ls) where
      pub came_replaced : (u : Tables) → IsSpace y u (process_of p.scheme 0 ls) → Became (all_moves p) → IsCallResult x y files Became Refused Promised p (call.Exec image) (done_or_refused (Ok tt))
      came_replaced u space moves = (
        tt,
        record {
          possible = tt;
          reply = sym (ap (λ (z : Result (List LoadSegment) BadImage). (put nothing z).reply) is);
          space = (u, subst (λ (q : Process). IsSpace y u q) (sym (ap (λ (z : Result (List LoadSegment) BadImage). (put nothing z).process) is)) space);
          moves = subst Became (sym (ap (λ (z : Result (List LoadSegment) BadImage). if_done (put nothing z).reply (all_moves p)) is)) moves;
          lack = tt;
          request = tt;
        },
      )

      abbrev is_refused : Refusal → Type 0
      is_refused e = IsModelResult x y files Became Refused Promised p (call.Exec image) (refused 0 e) (reply.Scalar (scalar.Refused e))

      not_put : (e : Refusal) → (e ≡ refusal.NoFrame) ⊎ (IsUnpromised e × (0 < length (all_moves p))) → ((e ≡ refusal.NoFrame) × Promised (length (all_moves p))) ⊎ Refused [] (length (all_moves p)) e → ReportsShortage x.view y.view files p (call.Exec image) (refused 0 e) → IsSpace y t p → Became [] → is_refused e
      not_put e may request dry space moves = record {
        possible = may;
        reply = sym (ap (λ (z : Result (List LoadSegment) BadImage). (put (refused 0 e) z).reply) is);
        space = (t, subst (λ (q : Process). IsSpace y t q) (sym (ap (λ (z : Result (List LoadSegment) BadImage). (put (refused 0 e) z).process) is)) space);
        moves = subst Became (sym (ap (λ (z : Result (List LoadSegment) BadImage). if_done (put (refused 0 e) z).reply (all_moves p)) is)) moves;
        lack = dry;
        request = request;
      }

      pub came_not_replaced : Asks → (e : Refusal) → IsExecRefusal (CanRefuse (length (all_moves p))) e → (e ≡ refusal.NoFrame → RunsDry x.view y.view (exec_need p.scheme ls) []) → (e ≡ refusal.NoFrame → Promised (length (all_moves p))) → IsSpace y t p → Became []
          → IsCallResult x y files Became Refused Promised p (call.Exec image) (done_or_refused (Err e))
      came_not_replaced asks e (inl (why, could, same)) dry kept space moves = (
        tt,
        subst (λ (k : Refusal). IsModelResult x y files Became Refused Promised p (call.Exec image) (by_refusal k) (reply.Scalar (scalar.Refused k))) (sym same) (quiet why (asks (length (all_moves p)) why could)),
      )
        where
          quiet : (z : PromiseError) → (0 < length (all_moves p)) × Refused [] (length (all_moves p)) (promises.refusal_of z) → IsModelResult x y files Became Refused Promised p (call.Exec image) (by_refusal (promises.refusal_of z)) (reply.Scalar (scalar.Refused (promises.refusal_of z)))
          quiet error.Memory some = not_put refusal.Memory (inr (tt, some.0)) (inr some.1) tt space moves
          quiet error.JournalFull some = not_put refusal.JournalFull (inr (tt, some.0)) (inr some.1) tt space moves
      came_not_replaced asks e (inr none) dry kept space moves =
          let short = dry none in
          let claims = short.claims in (
            tt,
            subst (λ (k : Refusal). IsModelResult x y files Became Refused Promised p (call.Exec image) (by_refusal k) (reply.Scalar (scalar.Refused k))) (sym none)
                (not_put refusal.NoFrame (inl refl) (inl (refl, kept none)) (ls, is, record { zeros = short.zeros; short = short.short; claims = omega (arith, claims); looks = short.looks }) space moves),
          )

      -- what exec answers, and what it leaves
      pub came_exec : Asks → (Alone : Tables → Type 0) (scheme : Scheme) → p.scheme ≡ scheme → (r : Result (Unit {0}) Refusal)
          → IfOk r (λ _. (u : Tables) × ((fresh : ℕ) → IsSpace y u (process_of scheme fresh ls)) × Alone u)
          → IfOk r (λ _. (z : Tables) (q : Process) → IsSpace x z q → Became (all_moves q))
          → IfErr r (λ e. (z : Tables) (q : Process) → IsSpace x z q → IsExecRefusal (CanRefuse (length (all_moves q))) e)
          → IfErr r (λ e. e ≡ refusal.NoFrame → RunsDry x.view y.view (exec_need scheme ls) [])
          → IfErr r (λ e. e ≡ refusal.NoFrame → (z : Tables) (q : Process) → IsSpace x z q → Promised (length (all_moves q)))
          → IfErr r (λ _. (z : Tables) (q : Process) → IsSpace x z q → IsSpace y z q)
          → IfErr r (λ _. Became [])
          → IsSpace x t p → IsCallResult x y files Became Refused Promised p (call.Exec image) (done_or_refused r)
      came_exec asks Alone scheme same (Ok u) built moves whynot dry kept whole stay space =
          came_replaced built.0 (subst (λ (z : Scheme). IsSpace y built.0 (process_of z 0 ls)) (sym same) (built.1 0)) (moves t p space)
      came_exec asks Alone scheme same (Err e) built moves whynot dry kept whole stay space =
          came_not_replaced asks e (whynot t p space) (λ none. subst (λ (z : Scheme). RunsDry x.view y.view (exec_need z ls) []) (sym same) (dry none)) (λ none. kept none t p space) (whole t p space) stay

  -- ---- the same, as the calls tell it

  same_space : y.layout ≡ x.layout → y.view ≡ x.view → y.root ≡ x.root → y.trapframe ≡ x.trapframe → IsSpace x t p → IsSpace y t p
  same_space layout view root frame space = subst (λ (b : Body). IsSpace b t p) (λ i. record { view = (sym view) i; root = (sym root) i; trapframe = (sym frame) i; layout = (sym layout) i }) space

  pub came_sbrk : (delta : ℤ) (r : Result ℕ SizeError) → ((z : Tables) (q : Process) → IsSpace x z q → answer_of r ≡ size_before q (sbrk_result q delta)) → IfOk r (λ _. (z : Tables) (q : Process) → IsSpace x z q → Resizes y z q delta)
      → IfErr r (λ _. y.layout ≡ x.layout) → IfErr r (λ _. y.view ≡ x.view) → y.root ≡ x.root → y.trapframe ≡ x.trapframe → Became [] → IsSpace x t p → IsCallResult x y files Became Refused Promised p (call.Sbrk delta) (size_or_refused r)
  came_sbrk delta (Ok n) answer ok layout view root frame moves space = came_sized delta (Ok n) (answer t p space) (ok t p space) tt moves
  came_sbrk delta (Err e) answer ok layout view root frame moves space = came_sized delta (Err e) (answer t p space) tt (same_space layout view root frame space) moves

  pub came_unmap : Asks → (address len : ℕ) (after : List File) (r : Result (Unit {0}) Refusal)
      → IfOk r (λ _. (z : Tables) (q : Process) → IsSpace x z q → Unmaps y z q files after address len)
      → IfOk r (λ _. (z : Tables) (q : Process) → IsSpace x z q → Became (unmap_moves q address len))
      → IfErr r (λ e. (z : Tables) (q : Process) → IsSpace x z q → IsUnmapRefusal CanRefuse files q address len e)
      → IfErr r (λ _. Became []) → IfErr r (λ _. y.layout ≡ x.layout) → IfErr r (λ _. y.view ≡ x.view) → y.root ≡ x.root → y.trapframe ≡ x.trapframe
      → IsSpace x t p → IsCallResult x y files Became Refused Promised p (call.Munmap address len) (done_or_refused r)
  came_unmap asks address len after (Ok u) un moves whynot stay layout view root frame space = came_unmapped address len after (un t p space) (moves t p space)
  came_unmap asks address len after (Err e) un moves whynot stay layout view root frame space = came_not_unmapped address len asks e (whynot t p space) (same_space layout view root frame space) stay
