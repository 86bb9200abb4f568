-- Lemmas: CopyIn and CopyOut, refused as too long, whole, stopped by a rule, or stopped by a refused promise (reservation of
-- file reads), give the `CallResult` (how a call in a space ended) that `IsCallResult` promises.
use Rattle.std.proofs.Common.{◌≡◌, ℕ, ◌+◌, ◌<◌, ◌≤◌, Bool, Option, None, Some, List, [], ◌++◌, length, map, take, refl, ap, sym, subst, ◌∙◌, arith, inl, inr, Bor}
use Rattle.std.specs.Prelude.{nat_le}
use Rattle.std.proofs.lemmas.Bool.{le-leb, lt-leb}
use Rattle.std.proofs.lemmas.List.{append-nil}
use Rattle.address_space.specs.Agreement.{Body, IsSpace}
use Rattle.fault_rules.specs.MadeResident.{is_shared_by}
use Rattle.fault_rules.specs.Serves.{served_moves}
use Rattle.hart_calls.specs.CallResults.{at_stop, IsModelResult, IsCallResult}
use Rattle.hart_calls.specs.ShortageReports.{CopyDry, ReportsShortage}
use Rattle.hart_calls.specs.CallOutcomes.{request, if_short, if_short_reads, in_reads, out_reads, reads_below, reads_of, received, received_by, refused_call, sent, sent_by, CallOutcome}
use Rattle.hart_calls.specs.Shortages.{AsksNext, initial_progress, frames_at, in_progress, IsUnpromised, CanBeShort, nothing, out_progress, refused, call_environment, Shortage, WasAsked}
use Rattle.hart_calls.specs.declared.call_result.CallResult.TheVariants as call_result
use Rattle.hart_calls.proofs.Accessed.{most}
use Rattle.hart_calls.proofs.CopiedEnds.{stop_cases}
use Rattle.process_model.specs.Environment.{need_at, Progress}
use Rattle.process_model.specs.Copies.{Copied, copied_in, copied_out, in_reply, out_reply}
use Rattle.process_model.proofs.CopyRuns.{so_far}
use Rattle.process_model.specs.Files.{File}
use Rattle.process_model.specs.Frames.{resident_need}
use Rattle.process_model.specs.PageMoves.{PageMove}
use Rattle.process_model.specs.Process.{Process, regions}
use Rattle.process_model.specs.Regions.{copy_rule}
use Rattle.process_model.specs.declared.call.Call.TheVariants as call
use Rattle.process_model.specs.declared.reply.Refusal.{Refusal}
use Rattle.process_model.specs.declared.reply.Refusal.TheVariants as refusal
use Rattle.process_model.specs.declared.reply.ScalarReply.TheVariants as scalar
use Rattle.process_model.specs.declared.reply.Reply.TheVariants as reply
use Rattle.sv39_entry.specs.Address.{page_of}
use Rattle.sv39_entry.specs.declared.access.Access.{Access}
use Rattle.sv39_entry.specs.declared.access.Access.TheVariants.{Load, Store}
use Rattle.sv39_entry.specs.declared.rule.Rule.{Rule}
use Rattle.sv39_entry.specs.declared.rule.Rule.TheVariants as rule
use Rattle.table_walk.specs.Tables.{Tables}
use Rattle.user_copy.specs.Runs.{runs, runs_of}
use Rattle.process_model.specs.declared.limits.TheConstants.{LONGEST_COPY}

-- frames may be needed where fewer than are needed were there
may_take : (files : List File) (p : Process) (kind : Access) (address : ℕ) (shared : Bool) (n : ℕ) → n < resident_need shared p kind (page_of address) → 0 < need_at (call_environment files nothing) kind (page_of address) p
may_take files p kind address shared n less = let at_most = most files p (request kind address 1 0) shared in omega (arith, less, at_most)

-- ---- by how it ended

module _ (x y : Body) (files : List File) (Became : List PageMove → Type 0) (Refused : List PageMove → ℕ → Refusal → Type 0) (Promised : ℕ → Type 0) (p : Process) (address : ℕ) where
  -- from the process

  module _ (n : ℕ) where
    abbrev moves_in : ℕ → List PageMove
    moves_in limit = reads_below files p Load limit (map (λ (r : ℕ × ℕ). r.0) (runs address n))

    -- too long
    pub too_long_in : LONGEST_COPY < n → ((u : Tables) × IsSpace y u p) → Became [] → IsCallResult x y files Became Refused Promised p (call.CopyIn address n) (call_result.Answered (reply.Scalar (scalar.Refused refusal.BadArgument)))
    too_long_in long after moves =
        let not = lt-leb n LONGEST_COPY long in
        let tells = ap (if_short files p (sent_by files nothing p address n)) not in (
          tt,
          record {
            possible = tt;
            reply = sym (ap (λ (z : CallOutcome). z.reply) tells);
            space = (after.0, subst (λ (q : Process). IsSpace y after.0 q) (sym (ap (λ (z : CallOutcome). z.process) tells)) after.1);
            moves = subst Became (sym (append-nil _ ∙ ap (if_short_reads (in_reads files nothing p address n)) not)) moves;
            lack = tt;
            request = tt;
          },
        )

    module _ (small : n ≤ LONGEST_COPY) where
      short_in : (t : CallOutcome) → if_short files p t (nat_le n LONGEST_COPY) ≡ t
      short_in t = ap (if_short files p t) (le-leb n LONGEST_COPY small)

      reads_in : (w : Shortage) → if_short_reads (in_reads files w p address n) (nat_le n LONGEST_COPY) ++ [] ≡ in_reads files w p address n
      reads_in w = append-nil _ ∙ ap (if_short_reads (in_reads files w p address n)) (le-leb n LONGEST_COPY small)

      abbrev model_in : Shortage → Copied
      model_in w = copied_in (call_environment files w) (initial_progress p) address n

      comes_in : (w : Shortage) (g : Progress) (bytes : List ℕ) (stop : Option Rule) → model_in w ≡ so_far g bytes stop → sent_by files w p address n ≡ sent files (model_in w) → in_reads files w p address n ≡ moves_in (address + length (model_in w).bytes + 1)
          → CanBeShort files p (call.CopyIn address n) w → ReportsShortage x.view y.view files p (call.CopyIn address n) w → WasAsked (Refused (reads_of files w p (call.CopyIn address n))) Promised p (call.CopyIn address n) w → ((u : Tables) × IsSpace y u g.process) → Became (moves_in (address + length bytes + 1))
          → IsModelResult x y files Became Refused Promised p (call.CopyIn address n) w (in_reply bytes stop)
      comes_in w g bytes stop is by reads possible dry request after moves =
          let tells = short_in (sent_by files w p address n) ∙ by ∙ ap (sent files) is in
          record {
            possible = possible;
            reply = sym (ap (λ (z : CallOutcome). z.reply) tells);
            space = (after.0, subst (λ (q : Process). IsSpace y after.0 q) (sym (ap (λ (z : CallOutcome). z.process) tells)) after.1);
            moves = subst Became (sym (reads_in w ∙ reads ∙ ap (λ (c : Copied). moves_in (address + length c.bytes + 1)) is)) moves;
            lack = dry;
            request = request;
          }

      pub whole_in : (g : Progress) (bytes : List ℕ) → model_in nothing ≡ so_far g bytes None → ((u : Tables) × IsSpace y u g.process) → Became (moves_in (address + length bytes + 1))
          → IsCallResult x y files Became Refused Promised p (call.CopyIn address n) (call_result.Answered (in_reply bytes None))
      whole_in g bytes is after moves = (tt, comes_in nothing g bytes None is refl refl tt tt tt after moves)

      dry_in : (g : Progress) (bytes : List ℕ) → model_in (frames_at (page_of (address + length bytes))) ≡ so_far g bytes (Some rule.NoFrame) → ((u : Tables) × IsSpace y u g.process) → Became (moves_in (address + length bytes + 1))
          → CopyDry x.view y.view p g.process Load (page_of address) (page_of (address + length bytes)) → IsCallResult x y files Became Refused Promised p (call.CopyIn address n) (call_result.Answered (in_reply bytes (Some rule.NoFrame)))
      dry_in g bytes is after moves dry =
          let page = page_of (address + length bytes) in
          let at : g.process ≡ in_progress files p page address n = sym (ap (λ (c : Copied). c.progress.process) is) in
          let short = dry.4.short in (
            tt,
            comes_in (frames_at page) g bytes (Some rule.NoFrame) is refl refl
                (subst (λ (q : Process). 0 < need_at (call_environment files nothing) Load page q) at (may_take files g.process Load (address + length bytes) (is_shared_by dry.1) y.view.tallies.short short))
                (subst (λ (q : Process). CopyDry x.view y.view p q Load (page_of address) page) at dry) tt after moves,
          )

      pub stopped_in : (g : Progress) (bytes : List ℕ) (r : Rule) → model_in (at_stop r (address + length bytes)) ≡ so_far g bytes (Some r) → ((u : Tables) × IsSpace y u g.process) → Became (moves_in (address + length bytes + 1))
          → (r ≡ rule.NoFrame → CopyDry x.view y.view p g.process Load (page_of address) (page_of (address + length bytes))) → IsCallResult x y files Became Refused Promised p (call.CopyIn address n) (call_result.Answered (in_reply bytes (Some r)))
      stopped_in g bytes r is after moves dry = elim (stop_cases r (address + length bytes)) [
        | inl same ↦
            subst (λ (k : Rule). IsCallResult x y files Became Refused Promised p (call.CopyIn address n) (call_result.Answered (in_reply bytes (Some k)))) (sym same)
            (dry_in g bytes (subst (λ (k : Rule). model_in (at_stop k (address + length bytes)) ≡ so_far g bytes (Some k)) same is) after moves (dry same))
        | inr none ↦ (
          tt,
          subst (λ (w : Shortage). IsModelResult x y files Became Refused Promised p (call.CopyIn address n) w (in_reply bytes (Some r))) (sym none)
              (comes_in nothing g bytes (Some r) (subst (λ (w : Shortage). model_in w ≡ so_far g bytes (Some r)) none is) refl refl tt tt tt after moves),
        )
      ]

      pub left_in : (g : Progress) (bytes : List ℕ) (done : ℕ) (r : Refusal) → copied_in (call_environment files nothing) (initial_progress p) address done ≡ so_far g bytes None → ((u : Tables) × IsSpace y u g.process) → Became (moves_in (address + done))
          → done < n → IsUnpromised r → 0 < length (served_moves files g.process (page_of (address + done)) (copy_rule g.process.scheme (regions g.process) Load (address + done))) → Refused (moves_in (address + done)) 1 r → IsCallResult x y files Became Refused Promised p (call.CopyIn address n) (call_result.Unpromised r done)
      left_in g bytes done r is after moves less un asks told =
          let tells = short_in (sent_by files (refused done r) p address n) ∙ ap (λ (c : Copied). refused_call files c.progress.process r) is in
          record {
            possible = (less, un, subst (λ (c : Copied). AsksNext files c Load (address + done)) (sym is) (refl, asks));
            reply = sym (ap (λ (z : CallOutcome). z.reply) tells);
            space = (after.0, subst (λ (q : Process). IsSpace y after.0 q) (sym (ap (λ (z : CallOutcome). z.process) tells)) after.1);
            moves = subst Became (sym (reads_in (refused done r))) moves;
            lack = tt;
            request = subst (λ (ms : List PageMove). Refused ms 1 r) (sym (ap (if_short_reads (in_reads files (refused done r) p address n)) (le-leb n LONGEST_COPY small))) told;
          }

  -- to the process

  module _ (given : Bor (List ℕ)) where
    abbrev n : ℕ
    n = length given.now

    abbrev moves_out : ℕ → List PageMove
    moves_out limit = reads_below files p Store limit (map (λ (r : ℕ × List ℕ). r.0) (runs_of address given.now))

    -- too long
    pub too_long_out : LONGEST_COPY < n → ((u : Tables) × IsSpace y u p) → Became [] → IsCallResult x y files Became Refused Promised p (call.CopyOut address given) (call_result.Answered (reply.Scalar (scalar.Refused refusal.BadArgument)))
    too_long_out long after moves =
        let not = lt-leb n LONGEST_COPY long in
        let tells = ap (if_short files p (received_by files nothing p address given.now)) not in (
          tt,
          record {
            possible = tt;
            reply = sym (ap (λ (z : CallOutcome). z.reply) tells);
            space = (after.0, subst (λ (q : Process). IsSpace y after.0 q) (sym (ap (λ (z : CallOutcome). z.process) tells)) after.1);
            moves = subst Became (sym (append-nil _ ∙ ap (if_short_reads (out_reads files nothing p address given.now)) not)) moves;
            lack = tt;
            request = tt;
          },
        )

    module _ (small : n ≤ LONGEST_COPY) where
      short_out : (t : CallOutcome) → if_short files p t (nat_le n LONGEST_COPY) ≡ t
      short_out t = ap (if_short files p t) (le-leb n LONGEST_COPY small)

      reads_out : (w : Shortage) → if_short_reads (out_reads files w p address given.now) (nat_le n LONGEST_COPY) ++ [] ≡ out_reads files w p address given.now
      reads_out w = append-nil _ ∙ ap (if_short_reads (out_reads files w p address given.now)) (le-leb n LONGEST_COPY small)

      abbrev model_out : Shortage → Copied
      model_out w = copied_out (call_environment files w) (initial_progress p) address given.now

      comes_out : (w : Shortage) (g : Progress) (bytes : List ℕ) (stop : Option Rule) → model_out w ≡ so_far g bytes stop → received_by files w p address given.now ≡ received files (model_out w) → out_reads files w p address given.now ≡ moves_out (address + length (model_out w).bytes + 1)
          → CanBeShort files p (call.CopyOut address given) w → ReportsShortage x.view y.view files p (call.CopyOut address given) w → WasAsked (Refused (reads_of files w p (call.CopyOut address given))) Promised p (call.CopyOut address given) w → ((u : Tables) × IsSpace y u g.process) → Became (moves_out (address + length bytes + 1))
          → IsModelResult x y files Became Refused Promised p (call.CopyOut address given) w (out_reply bytes stop)
      comes_out w g bytes stop is by reads possible dry request after moves =
          let tells = short_out (received_by files w p address given.now) ∙ by ∙ ap (received files) is in
          record {
            possible = possible;
            reply = sym (ap (λ (z : CallOutcome). z.reply) tells);
            space = (after.0, subst (λ (q : Process). IsSpace y after.0 q) (sym (ap (λ (z : CallOutcome). z.process) tells)) after.1);
            moves = subst Became (sym (reads_out w ∙ reads ∙ ap (λ (c : Copied). moves_out (address + length c.bytes + 1)) is)) moves;
            lack = dry;
            request = request;
          }

      pub whole_out : (g : Progress) (bytes : List ℕ) (count : ℕ) → length bytes ≡ count → model_out nothing ≡ so_far g bytes None → ((u : Tables) × IsSpace y u g.process) → Became (moves_out (address + length bytes + 1))
          → IsCallResult x y files Became Refused Promised p (call.CopyOut address given) (call_result.Answered (reply.Scalar (scalar.CopiedOut count)))
      whole_out g bytes count long is after moves =
          subst (λ (k : ℕ). IsCallResult x y files Became Refused Promised p (call.CopyOut address given) (call_result.Answered (reply.Scalar (scalar.CopiedOut k)))) long (tt, comes_out nothing g bytes None is refl refl tt tt tt after moves)

      dry_out : (g : Progress) (bytes : List ℕ) → model_out (frames_at (page_of (address + length bytes))) ≡ so_far g bytes (Some rule.NoFrame) → ((u : Tables) × IsSpace y u g.process) → Became (moves_out (address + length bytes + 1))
          → CopyDry x.view y.view p g.process Store (page_of address) (page_of (address + length bytes)) → IsCallResult x y files Became Refused Promised p (call.CopyOut address given) (call_result.Answered (out_reply bytes (Some rule.NoFrame)))
      dry_out g bytes is after moves dry =
          let page = page_of (address + length bytes) in
          let at : g.process ≡ out_progress files p page address given.now = sym (ap (λ (c : Copied). c.progress.process) is) in
          let short = dry.4.short in (
            tt,
            comes_out (frames_at page) g bytes (Some rule.NoFrame) is refl refl
                (subst (λ (q : Process). 0 < need_at (call_environment files nothing) Store page q) at (may_take files g.process Store (address + length bytes) (is_shared_by dry.1) y.view.tallies.short short))
                (subst (λ (q : Process). CopyDry x.view y.view p q Store (page_of address) page) at dry) tt after moves,
          )

      halted_out : (g : Progress) (bytes : List ℕ) (r : Rule) → model_out (at_stop r (address + length bytes)) ≡ so_far g bytes (Some r) → ((u : Tables) × IsSpace y u g.process) → Became (moves_out (address + length bytes + 1))
          → (r ≡ rule.NoFrame → CopyDry x.view y.view p g.process Store (page_of address) (page_of (address + length bytes))) → IsCallResult x y files Became Refused Promised p (call.CopyOut address given) (call_result.Answered (out_reply bytes (Some r)))
      halted_out g bytes r is after moves dry = elim (stop_cases r (address + length bytes)) [
        | inl same ↦
            subst (λ (k : Rule). IsCallResult x y files Became Refused Promised p (call.CopyOut address given) (call_result.Answered (out_reply bytes (Some k)))) (sym same)
            (dry_out g bytes (subst (λ (k : Rule). model_out (at_stop k (address + length bytes)) ≡ so_far g bytes (Some k)) same is) after moves (dry same))
        | inr none ↦ (
          tt,
          subst (λ (w : Shortage). IsModelResult x y files Became Refused Promised p (call.CopyOut address given) w (out_reply bytes (Some r))) (sym none)
              (comes_out nothing g bytes (Some r) (subst (λ (w : Shortage). model_out w ≡ so_far g bytes (Some r)) none is) refl refl tt tt tt after moves),
        )
      ]

      pub stopped_out : (g : Progress) (bytes : List ℕ) (count : ℕ) (r : Rule) → length bytes ≡ count → model_out (at_stop r (address + length bytes)) ≡ so_far g bytes (Some r) → ((u : Tables) × IsSpace y u g.process) → Became (moves_out (address + length bytes + 1))
          → (r ≡ rule.NoFrame → CopyDry x.view y.view p g.process Store (page_of address) (page_of (address + length bytes))) → IsCallResult x y files Became Refused Promised p (call.CopyOut address given) (call_result.Answered (reply.Scalar (scalar.ShortOut r count)))
      stopped_out g bytes count r long is after moves dry =
          subst (λ (k : ℕ). IsCallResult x y files Became Refused Promised p (call.CopyOut address given) (call_result.Answered (reply.Scalar (scalar.ShortOut r k)))) long (halted_out g bytes r is after moves dry)

      pub left_out : (g : Progress) (bytes : List ℕ) (done : ℕ) (r : Refusal) → copied_out (call_environment files nothing) (initial_progress p) address (take done given.now) ≡ so_far g bytes None → ((u : Tables) × IsSpace y u g.process) → Became (moves_out (address + done))
          → done < n → IsUnpromised r → 0 < length (served_moves files g.process (page_of (address + done)) (copy_rule g.process.scheme (regions g.process) Store (address + done))) → Refused (moves_out (address + done)) 1 r → IsCallResult x y files Became Refused Promised p (call.CopyOut address given) (call_result.Unpromised r done)
      left_out g bytes done r is after moves less un asks told =
          let tells = short_out (received_by files (refused done r) p address given.now) ∙ ap (λ (c : Copied). refused_call files c.progress.process r) is in
          record {
            possible = (less, un, subst (λ (c : Copied). AsksNext files c Store (address + done)) (sym is) (refl, asks));
            reply = sym (ap (λ (z : CallOutcome). z.reply) tells);
            space = (after.0, subst (λ (q : Process). IsSpace y after.0 q) (sym (ap (λ (z : CallOutcome). z.process) tells)) after.1);
            moves = subst Became (sym (reads_out (refused done r))) moves;
            lack = tt;
            request = subst (λ (ms : List PageMove). Refused ms 1 r) (sym (ap (if_short_reads (out_reads files (refused done r) p address given.now)) (le-leb n LONGEST_COPY small))) told;
          }
