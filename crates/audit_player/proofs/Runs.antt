-- Lemmas on a series of steps made one by one, as the model's `series_of`: a step that is not refused leads to the rest
-- (`goes_on`), a refused one ends the series with its refusal (`stops`), and after the last the reply is the given one
-- (`ends`).
use Rattle.std.proofs.Common.{◌≡◌, ℕ, zero, suc, ◌+◌, ◌<◌, arith, true, false, List, ◌∷◌, length, drop, get_or, refl, sym, ap, subst, ◌∙◌}
use Rattle.std.proofs.lemmas.List.{at_drop_more, at_drop_all}
use Rattle.std.specs.Prelude.{◌≤◌}
use Rattle.process_model.specs.ScalarReplies.{same_scalar}
use Rattle.process_model.specs.Steps.{step}
use Rattle.process_model.specs.Steps.{is_refused}
use Rattle.script_language.specs.Text.{series_of, three_next}
use Rattle.process_model.specs.World.{World, StepOutcome}
use Rattle.process_model.specs.declared.reply.ScalarReply.{ScalarReply}
use Rattle.process_model.specs.declared.reply.ScalarReply.TheVariants as scalar
use Rattle.process_model.specs.declared.reply.Refusal.{Refusal}
use Rattle.process_model.specs.declared.reply.Reply.{Reply}
use Rattle.process_model.specs.declared.reply.Reply.TheVariants as reply
use Rattle.process_model.specs.declared.step.Step.{Step}
use Rattle.process_model.specs.declared.step.Step.TheVariants.{Next}
use Rattle.hart_machine.specs.BufferEntries.{IsInWorld}
use Rattle.audit_player.specs.LineOutcomes.{GivesOutcome}
use Rattle.hart_machine.specs.declared.machine.Machine.{Machine}

-- what is left of a series comes to this outcome
abbrev pub Leads : Machine → List Step → Reply → StepOutcome → Type 0
Leads m rest last o = (v : World) × (IsInWorld m v × (series_of v rest last ≡ o))

pub not_refused : (r : Reply) → ((x : Refusal) → r ≡ reply.Scalar (scalar.Refused x) → ⊥) → is_refused r ≡ false
not_refused (reply.Scalar scalar.Done) h = refl
not_refused (reply.Scalar (scalar.Started s)) h = refl
not_refused (reply.Scalar (scalar.Forked s)) h = refl
not_refused (reply.Scalar (scalar.Value n)) h = refl
not_refused (reply.Scalar scalar.Stored) h = refl
not_refused (reply.Scalar (scalar.Fault n)) h = refl
not_refused (reply.Scalar (scalar.Filled n)) h = refl
not_refused (reply.Scalar scalar.NothingFilled) h = refl
not_refused (reply.Scalar (scalar.InFrame n)) h = refl
not_refused (reply.Scalar scalar.Ready) h = refl
not_refused (reply.Scalar (scalar.Ended r)) h = refl
not_refused (reply.Scalar (scalar.OldSize n)) h = refl
not_refused (reply.Scalar (scalar.MappedAt n)) h = refl
not_refused (reply.CopiedIn bytes) h = refl
not_refused (reply.Scalar (scalar.CopiedOut n)) h = refl
not_refused (reply.ShortIn r bytes) h = refl
not_refused (reply.Scalar (scalar.ShortOut r n)) h = refl
not_refused (reply.Scalar (scalar.Exited status)) h = refl
not_refused (reply.Scalar (scalar.Refused x)) h = absurd (h x refl)

-- a reply without room for bytes that is no refusal is none with it
pub no_refusal : (b : ScalarReply) → ((x : Refusal) → b ≡ scalar.Refused x → ⊥) → (x : Refusal) → reply.Scalar b ≡ reply.Scalar (scalar.Refused x) → ⊥
no_refusal b apart x e = apart x (same_scalar b (scalar.Refused x) e)

module _ (m n : Machine) (ss : List Step) (i : ℕ) (s : Step) (r last : Reply) (o : StepOutcome) (is : s ≡ get_or ss i s) (lt : i < length ss) (made : (v : World) → IsInWorld m v → GivesOutcome n r (step v s)) where
  this_first : drop i ss ≡ s ∷ drop (i + 1) ss
  this_first = at_drop_more (λ (rest : List Step). rest) ss i s lt ∙ ap (λ (x : Step). x ∷ drop (i + 1) ss) (sym is)

  -- a step that is not refused is one of them
  pub goes_on : ((x : Refusal) → r ≡ reply.Scalar (scalar.Refused x) → ⊥) → Leads m (drop i ss) last o → Leads n (drop (i + 1) ss) last o
  goes_on other (v, (h, e)) =
      let does : GivesOutcome n r (step v s) = made v h in
      let next : is_refused (step v s).reply ≡ false = ap is_refused (sym does.0) ∙ not_refused r other in
      let from : series_of v (s ∷ drop (i + 1) ss) last ≡ o = ap (λ (rest : List Step). series_of v rest last) (sym this_first) ∙ e in
      ((step v s).world, (does.1, rw next at from))

  -- one that is refused is the last
  pub stops : (x : Refusal) → r ≡ reply.Scalar (scalar.Refused x) → Leads m (drop i ss) last o → GivesOutcome n r o
  stops x refused (v, (h, e)) =
      let does : GivesOutcome n r (step v s) = made v h in
      let refuses : is_refused (step v s).reply ≡ true = ap is_refused (sym does.0 ∙ refused) in
      let from : series_of v (s ∷ drop (i + 1) ss) last ≡ o = ap (λ (rest : List Step). series_of v rest last) (sym this_first) ∙ e in
      let whole : step v s ≡ o = rw refuses at from in
      subst (GivesOutcome n r) whole does

-- and where none is left, all were made
pub ends : (m : Machine) (ss : List Step) (i : ℕ) (last : Reply) (o : StepOutcome) → length ss ≤ i → Leads m (drop i ss) last o → GivesOutcome m last o
ends m ss i last o past (v, (h, e)) =
    let done : GivesOutcome m last (record { reply = last; world = v }) = (refl, h) in
    subst (GivesOutcome m last) (sym (at_drop_all (λ (rest : List Step). series_of v rest last) ss i past) ∙ e) done

-- each of three instructions of the trampoline is one
pub is_next : (h i : ℕ) → i < 3 → Next h ≡ get_or (three_next h) i (Next h)
is_next h zero lt = refl
is_next h (suc zero) lt = refl
is_next h (suc (suc zero)) lt = refl
is_next h (suc (suc (suc i))) lt = absurd (omega arith)
