use Rattle.std.proofs.Common.{◌≡◌, ℕ, inl, inr, true, false, List, [], ◌∷◌, ◌++◌, ◌-◌, suc, Some, ap, sym, ◌∙◌, arith}
use Rattle.std.proofs.lemmas.Option.{same_Some}
use Rattle.sv39_entry.specs.Address.{page_of, vpn}
use Rattle.sv39_entry.specs.Schemes.{top_level}
use Rattle.sv39_entry.specs.Word.{kind_of}
use Rattle.sv39_entry.specs.declared.entry.Kind.TheVariants.{Pointer}
use Rattle.table_walk.specs.Walk.{Reads}
use Rattle.walk_lines.specs.Walks.{IsEntry}
use Rattle.walk_lines.specs.declared.walk.WalkEntry.{WalkEntry}
use Rattle.walk_lines.proofs.Entries.{AreFirst, down, ended, pushed, whole}
use Rattle.walk_lines.proofs.walk.walk_entries.Given as given
use Rattle.walk_lines.proofs.walk.walk_entries.Goals as goal
use Rattle.walk_lines.proofs.walk.walk_entries.Goals.{After-word-word}

entry : (g : given.Over) (c : After-word-word g)
    → IsEntry c.args.scheme (g.M.Words.memory c.args.words.now) c.args.root (page_of c.args.va.0) (top_level c.args.scheme - c.levels.level) (record { level = c.levels.level; table = c.levels.table; index = c.index-index.result; word = c.word-word.result })
entry g c =
    let read = rw (g.met.M.Words.same_memory _ _ c.levels.invariant.stays) at c.word-word.ensures.word in
    record {
      low = omega arith;
      level = omega (arith, c.levels.auto.level, c.top_level-level.ensures.value);
      way = c.levels.invariant.way;
      index = c.index-index.ensures.value ∙ ap (λ p. vpn p c.levels.level) c.page-page.ensures.number;
      read = sym read;
    }

-- the words so far, and the one of this level
more : (g : given.Over) (c : After-word-word g) (es : List WalkEntry) → es ≡ c.levels.entries.items ++ record { level = c.levels.level; table = c.levels.table; index = c.index-index.result; word = c.word-word.result } ∷ []
    → AreFirst c.args.scheme (g.M.Words.memory c.args.words.now) c.args.root (page_of c.args.va.0) es (suc (top_level c.args.scheme - c.levels.level))
more g c es is = rw is (pushed c.args.scheme _ _ _ c.levels.entries.items _ _ c.levels.invariant.first (entry g c))

pub returns-in_default-clause-read : goal.returns-in_default-clause-read
returns-in_default-clause-read g c = λ _.
    let at = (goal.at.returns-in_default-clause-read g c).After-word-word in
    ended c.args.scheme _ _ _ c.push.new.self.items _ _ (more g at c.push.new.self.items c.push.ensures.items) (entry g at) (λ w is kind. c.in_default.not-Some w is)

pub returns-in-Invalid : goal.returns-in-Invalid
returns-in-Invalid g c =
    let at = (goal.at.returns-in-Invalid g c).After-word-word in
    let kind : (w : ℕ) → c.word-word.result ≡ Some w → c.kind.result ≡ kind_of w =
    λ w is. c.kind.ensures ∙ ap kind_of (c.from_word-entry.ensures ∙ same_Some _ _ (sym c.in-Some.is ∙ is)) in
    let other : c.kind.result ≡ Pointer → ⊥ = λ pointer. elim c.in-Invalid.is as (λ _. ⊥) [
      | inl invalid ↦ absurd cc
      | inr leaf ↦ absurd cc
    ] in
    record {
      read = λ _. ended c.args.scheme _ _ _ c.push.new.self.items _ _ (more g at c.push.new.self.items c.push.ensures.items) (entry g at) (λ w is pointer. other (kind w is ∙ pointer));
      none = λ off. let no : true ≡ false = sym c.if-not-is_canonical.false ∙ c.is_canonical.ensures.test ∙ off in absurd cc;
      stays = g.met.M.Words.stays_on _ _ _ c.levels.invariant.stays c.word-word.ensures.stays;
    }

pub levels-preserved : goal.levels-preserved
levels-preserved g c =
    let at = (goal.at.levels-preserved g c).After-word-word in
    let e = entry g at in
    let reads : Reads c.args.scheme (g.M.Words.memory c.args.words.now) c.args.root (page_of c.args.va.0) c.levels.level (Some c.in-Some.word) =
    record { low = omega arith; table = c.levels.table; way = c.levels.invariant.way; read = ap (g.M.Words.memory c.args.words.now c.levels.table) (sym e.index) ∙ e.read ∙ c.in-Some.is } in
    let kind = rw c.from_word-entry.ensures at c.kind.ensures in
    let further = down c.args.scheme _ _ _ c.levels.level c.in-Some.word reads (sym kind ∙ c.in-Pointer.is) in
    let next : top_level c.args.scheme - (c.levels.level - 1) ≡ suc (top_level c.args.scheme) - c.levels.level = omega arith in
    let one_more : top_level c.args.scheme - (c.levels.level - 1) ≡ suc (top_level c.args.scheme - c.levels.level) = omega arith in
    record {
      stays = g.met.M.Words.stays_on _ _ _ c.levels.invariant.stays c.word-word.ensures.stays;
      way = rw (next, c.ppn-table.ensures.value, c.from_word-entry.ensures) further;
      first = rw one_more (more g at c.push.new.self.items c.push.ensures.items);
    }

pub returns-in-Pointer-clause-read : goal.returns-in-Pointer-clause-read
returns-in-Pointer-clause-read g c = λ _.
    let at = (goal.at.returns-in-Pointer-clause-read g c).After-word-word in
    let last : suc (top_level c.args.scheme - c.levels.level) ≡ suc (top_level c.args.scheme) = omega arith in
    whole c.args.scheme _ _ _ c.push.new.self.items (rw last at (more g at c.push.new.self.items c.push.ensures.items))
