use Rattle.std.proofs.Common.{◌≡◌, ℕ, suc, ◌+◌, ◌-◌, ◌*◌, ◌^◌, ◌≤◌, Some, ap, sym, subst, ◌∙◌, arith, rules}
use Rattle.sv39_entry.specs.Word.{kind_of, ppn}
use Rattle.sv39_entry.specs.declared.entry.Kind.TheVariants.{Pointer}
use Rattle.walk_lines.specs.Below.{CanList, listed_at}
use Rattle.walk_lines.proofs.Listed.{all_of_table, appended, nothing_yet, pointer_alone, readable_below, readable_here, readable_still}
use Rattle.walk_lines.proofs.Pages.{room_below}
use Rattle.walk_lines.proofs.listing.+listing.Goals as goal

pub list_entry-word-requires-clause-readable : goal.list_entry-word-requires-clause-readable
list_entry-word-requires-clause-readable g t c = readable_here _ _ _ _ c.requires.readable

pub list_table-list_entry-requires : goal.list_table-list_entry-requires
list_table-list_entry-requires g t c κs within =
    let readable : CanList (g.M.Words.readable c.indices.words) (g.M.Words.memory c.indices.words) (suc c.args.level) c.args.table =
    readable_still _ _ _ _ (λ p r. g.met.M.Words.same_readable _ _ p c.indices.invariant.stays r) (g.met.M.Words.same_memory _ _ c.indices.invariant.stays) _ _ c.requires.readable in
    search (rules, readable)

pub list_entry-returns-then-level-eq0-clause-listed : goal.list_entry-returns-then-level-eq0-clause-listed
list_entry-returns-then-level-eq0-clause-listed g t c =
    let m = g.M.Words.memory c.args.words.now in
    let read : m c.args.table c.args.index ≡ Some c.in-Some.word = sym c.word.ensures.word ∙ c.in-Some.is in
    let kind : kind_of c.in-Some.word ≡ Pointer = ap kind_of (sym c.from_word-entry.ensures) ∙ sym c.kind.ensures ∙ c.in-Pointer.is in
    let page : c.args.first + c.args.index * c.pages_of.result ≡ c.args.first + c.args.index * 512 ^ c.args.level = rw c.pages_of.ensures.value in
    pointer_alone m c.args.level c.args.first c.args.table c.args.index (c.args.first + c.args.index * c.pages_of.result) c.in-Some.word c.args.entries.now.items _ c.in_ok-push-in-Pointer.ensures.items page read kind c.if-level-eq0.true

pub list_entry-list_table-requires : goal.list_entry-list_table-requires
list_entry-list_table-requires g t c κs within =
    let m = g.M.Words.memory c.args.words.now in
    let read : m c.args.table c.args.index ≡ Some c.in-Some.word = sym c.word.ensures.word ∙ c.in-Some.is in
    let kind : kind_of c.in-Some.word ≡ Pointer = ap kind_of (sym c.from_word-entry.ensures) ∙ sym c.kind.ensures ∙ c.in-Pointer.is in
    let below = readable_below _ _ c.args.level c.args.table c.args.index c.in-Some.word c.requires.readable c.requires.in_table read kind in
    let level : c.args.level ≡ suc (c.args.level - 1) = omega (arith, c.if-level-eq0.false) in
    let number : c.ppn.result ≡ ppn c.in-Some.word = c.ppn.ensures.value ∙ ap ppn c.from_word-entry.ensures in
    let here : CanList (g.M.Words.readable c.args.words.now) m (suc (c.args.level - 1)) c.ppn.result = rw number (subst (λ (n : ℕ). CanList (g.M.Words.readable c.args.words.now) m n (ppn c.in-Some.word)) level below) in
    let readable : CanList (g.M.Words.readable c.word.new.self) (g.M.Words.memory c.word.new.self) (suc (c.args.level - 1)) c.ppn.result =
    readable_still _ _ _ _ (λ p r. g.met.M.Words.same_readable _ _ p c.word.ensures.stays r) (g.met.M.Words.same_memory _ _ c.word.ensures.stays) _ _ here in
    let room : c.args.first + c.args.index * c.pages_of.result + 512 * 512 ^ (c.args.level - 1) ≤ 2 ^ 36 = rw c.pages_of.ensures.value (room_below c.args.first c.args.index c.args.level (2 ^ 36) c.requires.in_table c.if-level-eq0.false c.requires.room) in
    search (rules, readable, room)

pub list_table-indices-init : goal.list_table-indices-init
list_table-indices-init g t c = record {
  stays = g.met.M.Words.stays_itself _;
  listed = nothing_yet (listed_at (g.M.Words.memory c.args.words.now) c.args.level c.args.first c.args.table) c.args.entries.now.items;
}

pub list_table-indices-preserved : goal.list_table-indices-preserved
list_table-indices-preserved g t c =
    let m = g.M.Words.memory c.args.words.now in
    let same = g.met.M.Words.same_memory _ _ c.indices.invariant.stays in
    let at_index = listed_at m c.args.level c.args.first c.args.table in
    record {
      stays = g.met.M.Words.stays_on _ _ _ c.indices.invariant.stays c.list_entry.ensures.stays;
      listed = appended at_index c.indices.index c.args.entries.now.items c.indices.entries.items c.list_entry.new.entries.items c.indices.invariant.listed (rw same at c.in_ok-list_entry.ensures.listed);
    }

pub list_table-returns-clause-listed : goal.list_table-returns-clause-listed
list_table-returns-clause-listed g t c =
    let last : c.indices.index ≡ 512 = omega (arith, c.indices-test.false) in
    rw (all_of_table, ← last) c.indices.invariant.listed
