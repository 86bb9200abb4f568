-- Lemmas about the frames that copyin and copyout take: what a copy took so far is gone from the free frames; and for each
-- copy there is one number of frames, whatever the size of the memory: it says NoFrame if and only if fewer are free, and
-- else the free count falls by that number.
use Rattle.std.proofs.Common.{◌≡◌, ℕ, Bool, true, false, ◌+◌, ◌%◌, refl, sym, ap, subst, ◌∙◌, arith, Option, None, Some, List, [], ◌∷◌, length, Bor}
use Rattle.std.specs.Prelude.{fold, nat_le, nat_lt, Result, Ok, Err, zip}
use Rattle.std.proofs.lemmas.List.{set-set}
use Rattle.process_laws.proofs.Counting.{put_free, same_free, Spends, step_spends, refused_spends}
use Rattle.process_laws.proofs.CopyStops.{ample, Beside, beside_all, Goes, is_dry_stop, limited, takes_all, tells_dry}
use Rattle.process_laws.proofs.EveryChange.{byte_on_goes, GoesIfOk, Holds, put_holds, reached_goes}
use Rattle.process_laws.proofs.EveryChange as every
use Rattle.process_laws.proofs.Fresh.{fresh_is_kept, IsFresh}
use Rattle.process_laws.proofs.Later.{later, lt_shift, reached_later, shifted}
use Rattle.process_laws.proofs.Memories.{each_call, InEach}
use Rattle.process_laws.proofs.PageCopies.{put_replaces, Replaced}
use Rattle.process_laws.proofs.Running.{set_lives}
use Rattle.process_laws.proofs.ServiceSpends.{service_spends}
use Rattle.process_laws.specs.CopyNumbers.{HasNewCopies}
use Rattle.process_laws.specs.Words.{in_memory, is_no_frame_reply}
use Rattle.process_model.specs.Environment.{Environment, need_at, Progress, resident_at_address, resident_at, unless_dry, unless_resident}
use Rattle.process_model.specs.Bytes.{numbers_from}
use Rattle.process_model.specs.Calls.{copy_in_outcome, copy_out_outcome}
use Rattle.process_model.specs.Copies.{Copied, copied_in, copied_out, copy_begun, in_reply, next_in, next_out, one_in, one_out, out_reply, reached_in, with_byte_on}
use Rattle.process_model.specs.Frames.{copies_of}
use Rattle.process_model.specs.PageMap.{get}
use Rattle.process_model.specs.Process.{Page, Process, regions, without_pending}
use Rattle.process_model.specs.Regions.{copy_rule}
use Rattle.process_model.specs.Residence.{is_resident, stored, with_page}
use Rattle.process_model.specs.Service.{environment_of, initial_progress, is_dry, with_progress}
use Rattle.process_model.specs.Steps.{step}
use Rattle.process_model.specs.World.{free, others_have, process_in, with_process, World}
use Rattle.process_model.specs.declared.step.Step.TheVariants.{CopyIn, CopyOut}
use Rattle.sv39_entry.specs.Address.{page_of}
use Rattle.sv39_entry.specs.declared.access.Access.{Access}
use Rattle.sv39_entry.specs.declared.access.Access.TheVariants as access
use Rattle.sv39_entry.specs.declared.rule.Rule.{Rule}
use Rattle.sv39_entry.specs.declared.rule.Rule.TheVariants as rule
use Rattle.process_model.specs.declared.limits.TheConstants.{LONGEST_COPY}

abbrev pub New : ℕ → Process → Type 0
New n p = IsFresh n p.settled

pub are_new : (w : World) → Holds New w → HasNewCopies w
are_new w f = record { below = λ s page p x e. (f.each s p e).below page x; once = λ s m n p x y e. (f.each s p e).once m n x y }

same_ok : {A B : Type 0} (x y : A) → ◌≡◌ {A = Result A B} (Ok x) (Ok y) → x ≡ y
same_ok x y e = cc

-- ---- one page

module _ (u : World) (s : ℕ) (p : Process) (kind : Access) (page : ℕ) (h : Progress) (new : HasNewCopies u) (lives : process_in u s ≡ Some p) where
  abbrev need : ℕ
  need = need_at (environment_of u s) kind page p

  page_dry : is_resident p kind page ≡ false → (b : Bool) → is_dry u (0 + need) ≡ b → unless_dry (environment_of u s) kind page (initial_progress u p) need b ≡ Ok h → free (with_progress u s h) + h.taken ≡ free u
  unfolding resident_at
  page_dry absent true dry e = absurd (cc)
  page_dry absent false wet e =
      let done : resident_at (environment_of u s) kind page (initial_progress u p) ≡ Ok h = ap (unless_resident (environment_of u s) kind page (initial_progress u p)) absent ∙ ap (unless_dry (environment_of u s) kind page (initial_progress u p) need) wet ∙ e in
      let spends : free (with_progress u s h) + need ≡ free u = service_spends u s page p kind h new lives absent done in
      let taken : 0 + need ≡ h.taken = ap (λ (g : Progress). g.taken) (same_ok _ h e) in
      omega (arith, spends, taken)

  page_unless : (b : Bool) → is_resident p kind page ≡ b → unless_resident (environment_of u s) kind page (initial_progress u p) b ≡ Ok h → free (with_progress u s h) + h.taken ≡ free u
  page_unless true there e =
      let is : initial_progress u p ≡ h = same_ok _ h e in
      let same : free (with_process u s p) ≡ free u = same_free u s p p lives refl refl in
      subst (λ (g : Progress). free (with_progress u s g) + g.taken ≡ free u) is (omega (arith, same))
  page_unless false absent e = page_dry absent _ refl e

  page_spends : resident_at (environment_of u s) kind page (initial_progress u p) ≡ Ok h → free (with_progress u s h) + h.taken ≡ free u
  unfolding resident_at
  page_spends e = page_unless _ refl e

-- ---- a copy in the middle

module _ (w : World) (s : ℕ) (p : Process) (holds : Holds New w) (lives : process_in w s ≡ Some p) where
  -- what it took is gone from the free frames
  pub record Spent (g : Progress) : Type 0 where
    goes : every.Goes New w.counter g
    pub spent : free (with_progress w s g) + g.taken ≡ free w

  data SpentIfOk : Result Progress Rule → Type 0 where
    stopped : {r : Rule} → SpentIfOk (Err r)
    came : {g : Progress} → Spent g → SpentIfOk (Ok g)

  module _ (g : Progress) (k : Spent g) (kind : Access) (address : ℕ) where
    abbrev there : World
    there = with_progress w s g

    there_new : HasNewCopies there
    there_new = are_new there (put_holds New (fresh_is_kept w.scheme) w there s g.process refl k.goes.rises k.goes.keeps holds)

    there_lives : process_in there s ≡ Some g.process
    there_lives = set_lives w.slots s p g.process lives

    others : (c : ℕ) → others_have there s c ≡ others_have w s c
    others c = rw (set-set w.slots s (Some g.process) None) refl

    dry_there : (page n : ℕ) → (environment_of there s).is_dry page (0 + n) ≡ (environment_of w s).is_dry page (g.taken + n)
    dry_there page n = lt_shift (free there) n g.taken ∙ ap (λ f. nat_lt f (g.taken + n)) k.spent

    pub shift : resident_at (environment_of w s) kind (page_of address) g ≡ shifted g.taken (resident_at (environment_of there s) kind (page_of address) (initial_progress there g.process))
    shift = reached_later (environment_of there s) (environment_of w s) refl others g.taken dry_there g.process g.fresh kind address None

    page_came : (r : Result Progress Rule) → resident_at (environment_of there s) kind (page_of address) (initial_progress there g.process) ≡ r → GoesIfOk New w.counter (shifted g.taken r) → SpentIfOk (shifted g.taken r)
    page_came (Err r) e goes = stopped
    page_came (Ok h) e (every.went goes) = came (record {
      goes = goes;
      spent =
          let spends = page_spends there s g.process kind (page_of address) h there_new there_lives e in
          let same : free (with_progress w s (later g.taken h)) ≡ free (with_progress there s h) = rw (set-set w.slots s (Some g.process) (Some h.process)) refl in
          let before = k.spent in
          omega (arith, spends, same, before);
    })

    reached_spent : (o : Option Rule) → copy_rule g.process.scheme (regions g.process) kind address ≡ o → SpentIfOk (resident_at_address (environment_of w s) kind address g o)
    reached_spent (Some r) e = stopped
    reached_spent None e =
        let goes = reached_goes New (fresh_is_kept w.scheme) (environment_of w s) w.counter g k.goes kind address None (λ _. e) in
        subst SpentIfOk (sym shift) (page_came _ refl (subst (GoesIfOk New w.counter) shift goes))

    reach_spent : SpentIfOk (reached_in (environment_of w s) kind g address)
    reach_spent = reached_spent (copy_rule g.process.scheme (regions g.process) kind address) refl

  -- a byte that is put takes no frame

  byte_spent : (g : Progress) (address b : ℕ) (o : Option Page) → get (g.process).settled (page_of address) ≡ o → Spent g → Spent (record g { process = with_byte_on g.process address b o })
  byte_spent g address b None e k = record { goes = k.goes; spent = k.spent }
  byte_spent g address b (Some x) e k =
      let q = with_page g.process (page_of address) (stored x (address % 4096) (b ∷ [])) in
      let put : Replaced x.copy x.copy (copies_of g.process) (copies_of q) = put_replaces (page_of address) (stored x (address % 4096) (b ∷ [])) x (g.process).settled.entries (g.process).settled.sorted e in
      let same : free (with_process w s q) ≡ free (with_process w s g.process) = put_free w s p q g.process lives (put.after ∙ sym put.before) refl in
      let before = k.spent in
      record {
        goes = byte_on_goes New (fresh_is_kept w.scheme) (environment_of w s) w.counter g k.goes address b (Some x) e;
        spent = omega (arith, same, before);
      }

  -- all addresses

  spent_in : (c : Copied) (at : ℕ) (o : Option Rule) → Spent c.progress → Spent ((next_in (environment_of w s) c at o).progress)
  spent_in c at (Some r) k = k
  spent_in c at None k = one _ (reach_spent c.progress k access.Load at)
    where
      one : (r : Result Progress Rule) → SpentIfOk r → Spent ((one_in c at r).progress)
      one _ stopped = k
      one _ (came g) = g

  pub spent_in_all : (ns : List ℕ) (c : Copied) → Spent c.progress → Spent ((fold (λ c at. next_in (environment_of w s) c at c.stop) c ns).progress)
  spent_in_all [] c k = k
  spent_in_all (at ∷ ns) c k = spent_in_all ns (next_in (environment_of w s) c at c.stop) (spent_in c at c.stop k)

  spent_out : (c : Copied) (x : ℕ × ℕ) (o : Option Rule) → Spent c.progress → Spent ((next_out (environment_of w s) c x o).progress)
  spent_out c x (Some r) k = k
  spent_out c x None k = one _ (reach_spent c.progress k access.Store x.0)
    where
      one : (r : Result Progress Rule) → SpentIfOk r → Spent ((one_out c x.0 x.1 r).progress)
      one _ stopped = k
      one _ (came {g} h) = byte_spent g x.0 x.1 (get (g.process).settled (page_of x.0)) refl h

  pub spent_out_all : (xs : List (ℕ × ℕ)) (c : Copied) → Spent c.progress → Spent ((fold (λ c x. next_out (environment_of w s) c x c.stop) c xs).progress)
  spent_out_all [] c k = k
  spent_out_all (x ∷ xs) c k = spent_out_all xs (next_out (environment_of w s) c x c.stop) (spent_out c x c.stop k)

  pub not_begun : Spent (initial_progress w (without_pending p))
  not_begun =
      let same : free (with_process w s (without_pending p)) ≡ free w = same_free w s p (without_pending p) lives refl refl in
      record { goes = record { keeps = (fresh_is_kept w.scheme).awaiting w.counter p None (holds.each s p lives); rises = omega arith }; spent = omega (arith, same) }

-- ---- both kinds, in memories of every size

abbrev pub in_next : Environment → Copied → ℕ → Copied
in_next a c at = next_in a c at c.stop

pub in_goes : Goes access.Load (λ at. at) (λ c at g. one_in c at (Ok g)) in_next
in_goes = record {
  stays = λ a c x r e. ap (next_in a c x) e;
  stops = λ a c x r e f. ap (next_in a c x) e ∙ ap (one_in c x) f;
  goes = λ a c x g e f. ap (next_in a c x) e ∙ ap (one_in c x) f;
  goes_on = λ c x g. refl;
  taken = λ c x g. refl;
}

abbrev pub out_next : Environment → Copied → ℕ × ℕ → Copied
out_next a c x = next_out a c x c.stop

pub out_goes : Goes access.Store (λ x. x.0) (λ c x g. one_out c x.0 x.1 (Ok g)) out_next
out_goes = record {
  stays = λ a c x r e. ap (next_out a c x) e;
  stops = λ a c x r e f. ap (next_out a c x) e ∙ ap (one_out c x.0 x.1) f;
  goes = λ a c x g e f. ap (next_out a c x) e ∙ ap (one_out c x.0 x.1) f;
  goes_on = λ c x g. refl;
  taken = λ c x g. refl;
}

-- with no byte copied no frame is taken
pub nothing_beside : (frames : ℕ) (w : World) (p : Process) → Beside frames (copy_begun (initial_progress w p)) (copy_begun (initial_progress w p))
nothing_beside frames w p = Beside.along refl (omega arith) refl

pub tells_in : (bytes : List ℕ) (o : Option Rule) → is_no_frame_reply (in_reply bytes o) ≡ is_dry_stop o
tells_in bytes None = refl
tells_in bytes (Some rule.Misaligned) = refl
tells_in bytes (Some rule.BeyondMax) = refl
tells_in bytes (Some rule.KernelPage) = refl
tells_in bytes (Some rule.GuardPage) = refl
tells_in bytes (Some rule.NoRegion) = refl
tells_in bytes (Some rule.NoRead) = refl
tells_in bytes (Some rule.NoWrite) = refl
tells_in bytes (Some rule.NoExec) = refl
tells_in bytes (Some rule.NoFrame) = refl

pub tells_out : (bytes : List ℕ) (o : Option Rule) → is_no_frame_reply (out_reply bytes o) ≡ is_dry_stop o
tells_out bytes None = refl
tells_out bytes (Some rule.Misaligned) = refl
tells_out bytes (Some rule.BeyondMax) = refl
tells_out bytes (Some rule.KernelPage) = refl
tells_out bytes (Some rule.GuardPage) = refl
tells_out bytes (Some rule.NoRegion) = refl
tells_out bytes (Some rule.NoRead) = refl
tells_out bytes (Some rule.NoWrite) = refl
tells_out bytes (Some rule.NoExec) = refl
tells_out bytes (Some rule.NoFrame) = refl

module _ (w : World) (holds : Holds New w) where
  pub holds_at : (m : ℕ) → Holds New (in_memory w m)
  holds_at m = record { each = holds.each }

  module _ (s : ℕ) (p : Process) (lives : process_in w s ≡ Some p) (address : ℕ) where
    abbrev first : Progress
    first = initial_progress w (without_pending p)

    in_takes : (n : ℕ) → InEach Spends w (refused_spends w) (λ u. copy_in_outcome u s (copied_in (environment_of u s) (initial_progress u (without_pending p)) address n))
    unfolding InEach copied_in
    in_takes n = (
      (copied_in (ample (environment_of w s)) first address n).progress.taken,
      λ m.
          let frames = free (in_memory w m) in
          let c = copied_in (limited (environment_of w s) frames) first address n in
          let d = copied_in (ample (environment_of w s)) first address n in
          let b : Beside frames c d = beside_all access.Load (λ at. at) (λ c at g. one_in c at (Ok g)) in_next in_goes (environment_of w s) frames (numbers_from address n) (copy_begun first) (copy_begun first) (nothing_beside frames w (without_pending p)) in
          let k = spent_in_all (in_memory w m) s p (holds_at m) lives (numbers_from address n) (copy_begun first) (not_begun (in_memory w m) s p (holds_at m) lives) in (
            tells_in c.bytes c.stop ∙ tells_dry frames c d b,
            λ quiet. let spent = k.spent in let taken = takes_all frames c d b (sym (tells_in c.bytes c.stop) ∙ quiet) in omega (arith, spent, taken),
          ),
    )

    out_takes : (bs : List ℕ) → InEach Spends w (refused_spends w) (λ u. copy_out_outcome u s (copied_out (environment_of u s) (initial_progress u (without_pending p)) address bs))
    unfolding InEach copied_out
    out_takes bs = (
      (copied_out (ample (environment_of w s)) first address bs).progress.taken,
      λ m.
          let frames = free (in_memory w m) in
          let c = copied_out (limited (environment_of w s) frames) first address bs in
          let d = copied_out (ample (environment_of w s)) first address bs in
          let b : Beside frames c d =
          beside_all access.Store (λ x. x.0) (λ c x g. one_out c x.0 x.1 (Ok g)) out_next out_goes (environment_of w s) frames (zip (numbers_from address (length bs)) bs) (copy_begun first) (copy_begun first) (nothing_beside frames w (without_pending p)) in
          let k = spent_out_all (in_memory w m) s p (holds_at m) lives (zip (numbers_from address (length bs)) bs) (copy_begun first) (not_begun (in_memory w m) s p (holds_at m) lives) in (
            tells_out c.bytes c.stop ∙ tells_dry frames c d b,
            λ quiet. let spent = k.spent in let taken = takes_all frames c d b (sym (tells_out c.bytes c.stop) ∙ quiet) in omega (arith, spent, taken),
          ),
    )

  pub copies_in_spend : (h address n : ℕ) → (k : ℕ) × ((m : ℕ) → Spends (in_memory w m) (step (in_memory w m) (CopyIn h address n)) k)
  unfolding InEach
  copies_in_spend h address n = step_spends w (are_new w holds) (CopyIn h address n)
      (each_call Spends w (refused_spends w) h (nat_le n LONGEST_COPY) (λ u hart s p. copy_in_outcome u s (copied_in (environment_of u s) (initial_progress u (without_pending p)) address n)) (λ hart s p lives. in_takes s p lives address n))

  pub copies_out_spend : (h address : ℕ) (bytes : Bor (List ℕ)) → (k : ℕ) × ((m : ℕ) → Spends (in_memory w m) (step (in_memory w m) (CopyOut h address bytes)) k)
  unfolding InEach
  copies_out_spend h address bytes = step_spends w (are_new w holds) (CopyOut h address bytes)
      (each_call Spends w (refused_spends w) h (nat_le (length bytes.now) LONGEST_COPY) (λ u hart s p. copy_out_outcome u s (copied_out (environment_of u s) (initial_progress u (without_pending p)) address bytes.now)) (λ hart s p lives. out_takes s p lives address bytes.now))
