use Rattle.std.proofs.Common.{◌≡◌, ◌↔◌, ◌||◌, IsTrue, suc, ◌-◌, refl, sym, ◌∙◌, inr, arith, Some}
use Rattle.std.proofs.lemmas.Bool.{false≢true}
use Rattle.sv39_entry.specs.Address.{page_of}
use Rattle.sv39_entry.specs.Flags.{has_flag_is}
use Rattle.sv39_entry.specs.Schemes.{top_level}
use Rattle.table_walk.specs.Walk.{Reads}
use Rattle.table_walk.proofs.Ways.{HasMark, by_marks, marked_on, down, invalid, misaligned, too_far}
use Rattle.table_walk.proofs.find.lookup_from.Given as given
use Rattle.table_walk.proofs.find.lookup_from.Goals as goal
use Rattle.table_walk.proofs.find.lookup_from.Goals.{After-has-global, After-word}

-- the word that was read is what the walk comes to at this level
reads : (g : given.Over) (c : After-word g) → Reads c.args.scheme (g.M.Words.memory c.args.words.now) c.args.root (page_of c.args.va.0) c.levels.level c.word.result
reads g c =
    let read = rw ((g.met.M.Words.same_memory _ _ c.levels.invariant.stays), c.index.ensures.value, c.page-page.ensures.number) at c.word.ensures.word in
    record { low = omega arith; table = c.levels.table; way = c.levels.invariant.way; read = sym read }

-- G was seen so far just where an entry so far has it
marks : (g : given.Over) (c : After-has-global g) → Reads c.args.scheme (g.M.Words.memory c.args.words.now) c.args.root (page_of c.args.va.0) c.levels.level (Some c.in-Some.word)
    → (IsTrue (c.levels.global || c.has-global.result) ↔ HasMark c.args.scheme (g.M.Words.memory c.args.words.now) c.args.root (page_of c.args.va.0) (suc ((top_level c.args.scheme) - c.levels.level)))
marks g c word =
    let flag = c.has-global.ensures ∙ has_flag_is c.from_word-entry.result 5 in
    rw (flag, c.from_word-entry.ensures) (marked_on c.args.scheme _ _ _ c.levels.level c.in-Some.word c.levels.global c.levels.table c.levels.invariant.way word c.levels.invariant.marked)

pub levels-init : goal.levels-init
levels-init g c =
    let none : top_level c.args.scheme - g.row.TOP ≡ 0 = omega (arith, c.requires.top) in
    record {
      stays = g.met.M.Words.stays_itself _;
      way = rw none refl;
      marked = rw none ((λ set. absurd (false≢true set)), (λ h. absurd (omega (arith, h.3))));
    }

pub word-requires-clause-readable : goal.word-requires-clause-readable
word-requires-clause-readable g c =
    g.met.M.Words.same_readable _ _ _ c.levels.invariant.stays (c.requires.walk ((top_level c.args.scheme) - c.levels.level) c.levels.table (omega arith) c.levels.invariant.way)

pub returns-in_default-clause-found : goal.returns-in_default-clause-found
returns-in_default-clause-found g c =
    let at = goal.at.returns-in_default-clause-found g c in
    (c.requires.canonical, (c.levels.level, rw c.in_default.is at (reads g at.After-word)))

pub returns-in-Invalid-clause-found : goal.returns-in-Invalid-clause-found
returns-in-Invalid-clause-found g c =
    let word = rw c.in-Some.is at (reads g (goal.at.returns-in-Invalid-clause-found g c).After-word) in
    let kind = rw c.from_word-entry.ensures at c.kind.ensures in
    inr (invalid c.args.scheme _ _ _ c.levels.level c.in-Some.word word (sym kind ∙ c.in-Invalid.is))

pub returns-then-is_aligned-clause-found : goal.returns-then-is_aligned-clause-found
returns-then-is_aligned-clause-found g c =
    let word = rw c.in-Some.is at (reads g (goal.at.returns-then-is_aligned-clause-found g c).After-word) in
    let kind = rw c.from_word-entry.ensures at c.kind.ensures in
    let aligned = rw c.from_word-entry.ensures at (c.is_aligned.ensures.0 c.if-is_aligned.true) in
    ((c.requires.canonical, record { reads = word; kind = sym kind ∙ c.in-Leaf.is; aligned = aligned }), by_marks c.args.scheme (g.M.Words.memory c.args.words.now) c.args.root (page_of c.args.va.0) c.levels.level (marks g (goal.at.returns-then-is_aligned-clause-found g c).After-has-global word))

pub returns-in-Leaf-clause-found : goal.returns-in-Leaf-clause-found
returns-in-Leaf-clause-found g c =
    let word = rw c.in-Some.is at (reads g (goal.at.returns-in-Leaf-clause-found g c).After-word) in
    let kind = rw c.from_word-entry.ensures at c.kind.ensures in
    inr (misaligned c.args.scheme _ _ _ c.levels.level c.in-Some.word word (sym kind ∙ c.in-Leaf.is) (λ aligned.
    false≢true (sym c.if-is_aligned.false ∙ c.is_aligned.ensures.1 (rw c.from_word-entry.ensures aligned))))

pub levels-preserved : goal.levels-preserved
levels-preserved g c =
    let word = rw c.in-Some.is at (reads g (goal.at.levels-preserved g c).After-word) in
    let kind = rw c.from_word-entry.ensures at c.kind.ensures in
    let further = down c.args.scheme _ _ _ c.levels.level c.in-Some.word word (sym kind ∙ c.in-Pointer.is) in
    let next : (top_level c.args.scheme) - (c.levels.level - 1) ≡ suc (top_level c.args.scheme) - c.levels.level = omega arith in
    let more : (top_level c.args.scheme) - (c.levels.level - 1) ≡ suc ((top_level c.args.scheme) - c.levels.level) = omega arith in
    record {
      stays = g.met.M.Words.stays_on _ _ _ c.levels.invariant.stays c.word.ensures.stays;
      way = rw (next, c.ppn-table.ensures.value, c.from_word-entry.ensures) further;
      marked = rw more (marks g (goal.at.levels-preserved g c).After-has-global word);
    }

pub returns-in-Pointer-clause-found : goal.returns-in-Pointer-clause-found
returns-in-Pointer-clause-found g c =
    let word = rw c.in-Some.is at (reads g (goal.at.returns-in-Pointer-clause-found g c).After-word) in
    let kind = rw c.from_word-entry.ensures at c.kind.ensures in
    let further = down c.args.scheme _ _ _ c.levels.level c.in-Some.word word (sym kind ∙ c.in-Pointer.is) in
    let bottom : suc (top_level c.args.scheme) - c.levels.level ≡ suc (top_level c.args.scheme) = omega arith in
    inr (too_far c.args.scheme _ _ _ _ (rw bottom at further))
