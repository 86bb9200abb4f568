-- The proof of `IsTextOfRun` for every script: its text has, line by line, the replies to the steps of one run since boot.
-- Before it: runs one after another, and the steps and the reply of a `fix` line (into the kernel, service, back).
use Rattle.std.proofs.Common.{◌≡◌, ℕ, Bool, true, false, cond, not, ◌&&◌, ◌||◌, refl, sym, ap, subst, ◌∙◌, List, [], ◌∷◌, ◌++◌, Option, Some}
use Rattle.std.specs.Prelude.{map}
use Rattle.std.specs.List.{list_any}
use Rattle.std.proofs.lemmas.List.{append-nil}
use Rattle.process_laws.proofs.OnHarts.{its_good, on_hart_good}
use Rattle.process_laws.proofs.Running.{step_reply}
use Rattle.process_laws.proofs.HeadlineProof.{headline_holds}
use Rattle.script_laws.specs.ScriptRuns.{AreLines, fixed_reply, last_or, line_answer, made_of, service_of, steps_of, IsTextOfRun}
use Rattle.process_model.specs.Files.{file_of}
use Rattle.script_language.specs.Script.{Script}
use Rattle.process_model.specs.Steps.{plain_step, run, step}
use Rattle.process_model.specs.Steps.{is_refused}
use Rattle.script_language.specs.Text.{back_if, commands_text, enter_steps, fixed, fixed_after, is_ready, line_text, on_steps, line_result, series_of, three_next, unless_stopped}
use Rattle.script_language.specs.Words.{reply_text}
use Rattle.process_model.specs.World.{booted, StepOutcome, World}
use Rattle.script_language.specs.declared.declarations.OwnedImage.{OwnedImage}
use Rattle.script_language.specs.declared.script.Command.{Command}
use Rattle.script_language.specs.declared.script.Command.TheVariants as command
use Rattle.process_model.specs.declared.reply.Refusal.{Refusal}
use Rattle.process_model.specs.declared.reply.Reply.{Reply}
use Rattle.process_model.specs.declared.reply.ScalarReply.TheVariants.{Done, Ready, Refused}
use Rattle.process_model.specs.declared.reply.Reply.TheVariants.{Scalar}
use Rattle.process_model.specs.declared.step.Step.{Step}
use Rattle.process_model.specs.declared.step.Step.TheVariants.{Next, Serve, Switch, Trap}

-- runs that follow one another

pub run_append : (xs ys : List Step) (w : World) → ((run w (xs ++ ys)).world ≡ (run (run w xs).world ys).world) × ((run w (xs ++ ys)).replies ≡ (run w xs).replies ++ (run (run w xs).world ys).replies)
run_append [] ys w = (refl, refl)
run_append (x ∷ xs) ys w = let r = run_append xs ys (step w x).world in (r.0, ap (λ rs. (step w x).reply ∷ rs) r.1)

-- a step of the way into the kernel or out of it is done, or refused

abbrev IsPlain : Step → Type 0
IsPlain x = (w : World) → is_refused (step w x).reply ≡ false → (step w x).reply ≡ Scalar Done

abbrev AllPlain : List Step → Type 0
AllPlain [] = Unit {0}
AllPlain (x ∷ xs) = IsPlain x × AllPlain xs

abbrev DoneIf : Reply → Type 0
DoneIf r = is_refused r ≡ false → r ≡ Scalar Done

refusal_told : (r : Refusal) → DoneIf (Scalar (Refused r))
refusal_told r e = absurd cc

as_plain : (w : World) (x : Step) → DoneIf (plain_step w x).reply → is_refused (step w x).reply ≡ false → (step w x).reply ≡ Scalar Done
as_plain w x d e = step_reply w x ∙ d (ap is_refused (sym (step_reply w x)) ∙ e)

next_plain : (h : ℕ) → IsPlain (Next h)
next_plain h w = as_plain w (Next h) (on_hart_good w (λ (o : StepOutcome). DoneIf o.reply) refusal_told h true _ _ _ (λ hart is _ e. refl))

switch_plain : (h : ℕ) (slot : Option ℕ) → IsPlain (Switch h slot)
switch_plain h slot w = as_plain w (Switch h slot) (on_hart_good w (λ (o : StepOutcome). DoneIf o.reply) refusal_told h true _ _ _ (λ hart is _ e. refl))

trap_plain : (h : ℕ) → IsPlain (Trap h)
trap_plain h w = as_plain w (Trap h)
    (on_hart_good w (λ (o : StepOutcome). DoneIf o.reply) refusal_told h true _ _ _ (λ hart is _. its_good w (λ (o : StepOutcome). DoneIf o.reply) refusal_told h hart _ is (λ t p on here e. refl)))

three_plain : (h : ℕ) → AllPlain (three_next h)
three_plain h = (next_plain h, (next_plain h, (next_plain h, tt)))

-- such steps in a row: the world that they come to, and their last reply

given_or : Reply → Reply → Reply
given_or given r = cond (is_refused r) r given

record IsSeries (o : StepOutcome) (given : Reply) (w : World) (xs : List Step) : Type 0 where
  world : o.world ≡ (run w xs).world
  reply : o.reply ≡ given_or given (last_or (Scalar Done) (run w xs).replies)
  silent : list_any is_ready (run w xs).replies ≡ false
  plain : DoneIf (last_or (Scalar Done) (run w xs).replies)

refused_not_ready : (r : Reply) → is_refused r ≡ true → is_ready r ≡ false
refused_not_ready (Scalar (Refused e)) is = refl
refused_not_ready _ is = absurd cc

module _ (given : Reply) where
  series_unless : (x : Step) (xs : List Step) (w : World) (b : Bool) → is_refused (step w x).reply ≡ b → IsPlain x → IsSeries (series_of (step w x).world xs given) given (step w x).world (made_of (step w x).world xs)
      → IsSeries (unless_stopped b (step w x) (series_of (step w x).world xs given)) given w (x ∷ cond b [] (made_of (step w x).world xs))
  unfolding given_or
  series_unless x xs w true e plain rest = record { world = refl; reply = rw e refl; silent = rw (refused_not_ready _ e) refl; plain = λ f. absurd (let no : true ≡ false = sym e ∙ f in cc) }
  series_unless x xs w false e plain rest =
      let done = plain w e in
      record {
        world = rest.world;
        reply = rest.reply ∙ ap (λ r. given_or given (last_or r (run (step w x).world (made_of (step w x).world xs)).replies)) (sym done);
        silent = rw done rest.silent;
        plain = rw done rest.plain;
      }

  series_is : (xs : List Step) (w : World) → AllPlain xs → IsSeries (series_of w xs given) given w (made_of w xs)
  unfolding given_or
  series_is [] w plain = record { world = refl; reply = refl; silent = refl; plain = λ e. refl }
  series_is (x ∷ xs) w plain = series_unless x xs w (is_refused (step w x).reply) refl plain.0 (series_is xs (step w x).world plain.1)

-- the reply given is the last, where that is what each of them replies
given_done : (r : Reply) → DoneIf r → given_or (Scalar Done) r ≡ r
unfolding given_or
given_done r plain = by (is_refused r) refl
  where
    by : (b : Bool) → is_refused r ≡ b → cond b r (Scalar Done) ≡ r
    by true e = refl
    by false e = sym (plain e)

-- lists of replies

last_append : (d r : Reply) (xs ys : List Reply) → last_or d (xs ++ r ∷ ys) ≡ last_or r ys
last_append d r [] ys = refl
last_append d r (x ∷ xs) ys = last_append x r xs ys

any_after : (xs ys : List Reply) → list_any is_ready xs ≡ false → list_any is_ready (xs ++ ys) ≡ list_any is_ready ys
any_after [] ys e = refl
any_after (x ∷ xs) ys e = elim (is_ready x) as (λ b. (b || list_any is_ready xs) ≡ false → (b || list_any is_ready (xs ++ ys)) ≡ list_any is_ready ys) [
  | true ↦ λ f. absurd cc
  | false ↦ λ f. any_after xs ys f
] e

-- the service after a fault, and the return after it

module _ (images : List OwnedImage) (w : World) (h : ℕ) where
  abbrev entered : StepOutcome
  entered = series_of w (three_next h) (Scalar Done)

  abbrev entry : List Step
  entry = made_of w (three_next h)

  abbrev served : StepOutcome
  served = step entered.world (Serve h)

  IsFixed : StepOutcome → List Step → Type 0
  IsFixed o xs = (o.world ≡ (run w xs).world) × (o.reply ≡ fixed_reply (run w xs).replies)

  abbrev way_in : IsSeries entered (Scalar Done) w entry
  way_in = series_is (Scalar Done) (three_next h) w (three_plain h)

  no_entry : IsFixed entered (entry ++ [])
  unfolding IsFixed
  no_entry = subst (IsFixed entered) (sym (append-nil entry)) (way_in.world, way_in.reply ∙ given_done _ way_in.plain ∙ rw way_in.silent refl)

  -- the steps after the entry
  after_entry : (xs : List Step) → ((run w (entry ++ xs)).world ≡ (run entered.world xs).world) × ((run w (entry ++ xs)).replies ≡ (run w entry).replies ++ (run entered.world xs).replies)
  after_entry xs =
      let r = run_append entry xs w in (
        r.0 ∙ ap (λ v. (run v xs).world) (sym way_in.world),
        r.1 ∙ ap (λ v. (run w entry).replies ++ (run v xs).replies) (sym way_in.world),
      )

  unready : is_ready served.reply ≡ false → IsFixed served (entry ++ Serve h ∷ [])
  unfolding IsFixed
  unready e =
      let a = after_entry (Serve h ∷ []) in
      let rs = (run w entry).replies in
      let quiet : list_any is_ready (rs ++ served.reply ∷ []) ≡ false = any_after rs (served.reply ∷ []) way_in.silent ∙ rw e refl in
      (sym a.0, sym (ap fixed_reply a.1 ∙ rw quiet (last_append (Scalar Done) served.reply rs [])))

  abbrev back : StepOutcome
  back = series_of served.world (three_next h) (Scalar Ready)

  abbrev way_out : IsSeries back (Scalar Ready) served.world (made_of served.world (three_next h))
  way_out = series_is (Scalar Ready) (three_next h) served.world (three_plain h)

  given_ready : (r : Reply) → given_or (Scalar Ready) r ≡ cond (true && not (is_refused r)) (Scalar Ready) r
  unfolding given_or
  given_ready r = by (is_refused r)
    where
      by : (b : Bool) → cond b r (Scalar Ready) ≡ cond (true && not b) (Scalar Ready) r
      by true = refl
      by false = refl

  readied : is_ready served.reply ≡ true → IsFixed back (entry ++ Serve h ∷ made_of served.world (three_next h))
  unfolding IsFixed
  readied e =
      let a = after_entry (Serve h ∷ made_of served.world (three_next h)) in
      let rs = (run w entry).replies in
      let ys = (run served.world (made_of served.world (three_next h))).replies in
      let some : list_any is_ready (rs ++ served.reply ∷ ys) ≡ true = any_after rs (served.reply ∷ ys) way_in.silent ∙ rw e refl in
      let last : last_or (Scalar Done) (rs ++ served.reply ∷ ys) ≡ last_or (Scalar Done) ys = last_append (Scalar Done) served.reply rs ys in
      (way_out.world ∙ sym a.0, way_out.reply ∙ given_ready (last_or (Scalar Done) ys) ∙ sym (ap fixed_reply a.1 ∙ rw (some, last) refl))

  fixed_unless : (b : Bool) → is_ready served.reply ≡ b → IsFixed (back_if h served b) (entry ++ Serve h ∷ cond b (made_of served.world (three_next h)) [])
  unfolding IsFixed
  fixed_unless true e = readied e
  fixed_unless false e = unready e

  fixed_if : (b : Bool) → IsFixed (fixed_after h entered b) (entry ++ cond b [] (service_of entered.world h))
  unfolding IsFixed
  fixed_if true = no_entry
  fixed_if false = fixed_unless (is_ready served.reply) refl

  pub is_fixed : ((fixed w h).world ≡ (run w (steps_of images w (command.Fix h))).world) × ((fixed w h).reply ≡ fixed_reply (run w (steps_of images w (command.Fix h))).replies)
  unfolding IsFixed
  is_fixed = fixed_if (is_refused entered.reply)

-- ---- lines

IsLine : List OwnedImage → World → Command → Type 0
IsLine images w c = let now = run w (steps_of images w c) in ((line_result images w c).world ≡ now.world) × ((line_result images w c).text ≡ line_answer w c now.replies)

module _ (images : List OwnedImage) (w : World) where
  series_line : (o : StepOutcome) (xs : List Step) → IsSeries o (Scalar Done) w xs → (o.world ≡ (run w xs).world) × (reply_text o.reply ≡ reply_text (last_or (Scalar Done) (run w xs).replies))
  series_line o xs s = (s.world, ap reply_text (s.reply ∙ given_done _ s.plain))

  line_is : (c : Command) → IsLine images w c
  unfolding IsLine
  line_is (command.One x) = (refl, refl)
  line_is (command.Start n) = (refl, refl)
  line_is (command.Exec h n) = (refl, refl)
  line_is (command.CopyOut h address bytes) = (refl, refl)
  line_is (command.On h s) = series_line _ _ (series_is (Scalar Done) (on_steps h s) w (switch_plain h (Some s), three_plain h))
  line_is (command.Enter h) = series_line _ _ (series_is (Scalar Done) (enter_steps h) w (trap_plain h, three_plain h))
  line_is (command.Leave h) = series_line _ _ (series_is (Scalar Done) (three_next h) w (three_plain h))
  line_is (command.Fix h) = let f = is_fixed images w h in (f.0, ap reply_text f.1)
  line_is (command.Show f offset n) = (refl, refl)
  line_is command.Audit = (refl, refl)

record HasLines (images : List OwnedImage) (cs : List Command) (w : World) : Type 0 where
  steps : List Step
  are : AreLines images w cs steps (run w steps).replies (commands_text images w cs)

line_more : (images : List OwnedImage) (c : Command) (cs : List Command) (w : World) → IsLine images w c → HasLines images cs (line_result images w c).world → HasLines images (c ∷ cs) w
unfolding IsLine
line_more images c cs w l rest =
    let made = steps_of images w c in
    let now = run w made in
    let r = run_append made rest.steps w in
    let there : AreLines images now.world cs rest.steps (run now.world rest.steps).replies (commands_text images (line_result images w c).world cs) =
    subst (λ (v : World). AreLines images v cs rest.steps (run v rest.steps).replies (commands_text images (line_result images w c).world cs)) l.0 rest.are in
    record {
      steps = made ++ rest.steps;
      are = subst (λ (rs : List Reply). AreLines images w (c ∷ cs) (made ++ rest.steps) rs (commands_text images w (c ∷ cs))) (sym r.1)
          (subst (λ (t : List ℕ). AreLines images w (c ∷ cs) (made ++ rest.steps) (now.replies ++ (run now.world rest.steps).replies) (line_text t ++ commands_text images (line_result images w c).world cs)) (sym l.1) (AreLines.line there));
    }

has_lines : (images : List OwnedImage) (cs : List Command) (w : World) → HasLines images cs w
has_lines images [] w = record { steps = []; are = AreLines.none }
has_lines images (c ∷ cs) w = line_more images c cs w (line_is images w c) (has_lines images cs (line_result images w c).world)

pub tells_run : (s : Script) → IsTextOfRun s
tells_run s =
    let files = map file_of s.files in
    let all = has_lines s.images s.commands (booted s.config files) in
    record { steps = all.steps; replies = (run (booted s.config files) all.steps).replies; lines = commands_text s.images (booted s.config files) s.commands; are_lines = all.are; is_text = refl; headline = headline_holds s.config files [] all.steps }
