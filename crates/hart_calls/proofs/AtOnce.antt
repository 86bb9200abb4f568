-- Lemmas: a user access that its walk permits is made at once as `IsMadeAtOnce` says (`made`); with its journal entry the
-- process continues, and no file is changed (`goes_at_once`, `filed_at_once`).
use Rattle.std.proofs.Common.{◌≡◌, ◌≤◌, ◌∷◌, ◌%◌, ◌==◌, Bool, true, ◌&&◌, List, [], ◌++◌, None, length, refl, ap, sym, subst, ◌∙◌, arith}
use Rattle.std.proofs.lemmas.List.{length-append}
use Rattle.std.specs.Prelude.{◌↔◌}
use Rattle.address_space.specs.Accesses.{IsGranted}
use Rattle.address_space.specs.Agreement.{Body, IsSpace}
use Rattle.file_shelf.specs.ShelfStates.{CanRefuse, HasMoves, ShelfState, stays}
use Rattle.hart_calls.specs.AtOnce.{IsMadeAtOnce}
use Rattle.hart_calls.specs.CallKinds.{IsAccess}
use Rattle.hart_calls.specs.CallOutcomes.{file_of, reads_of, writes_of}
use Rattle.hart_calls.specs.CallResults.{address_of, by_reply, RefusesPromise}
use Rattle.hart_calls.specs.Replay.{call_of, forks, IsReplayStep}
use Rattle.hart_calls.specs.Shortages.{Shortage}
use Rattle.hart_calls.specs.Track.{AppendsEntry, Track}
use Rattle.hart_calls.specs.TurnCases.{ContinuesTurn, KeepsFilesOn}
use Rattle.hart_calls.specs.declared.fork_slot.ForkSlot.{ForkSlot}
use Rattle.hart_calls.specs.declared.journal_entry.JournalEntry.{JournalEntry}
use Rattle.hart_calls.proofs.Accessed.{granted, is_access_call, made_at_once, process_at_once}
use Rattle.hart_calls.proofs.Served.{is_plain_access, maps_none}
use Rattle.hart_calls.proofs.Turning.{filed, goes, IsEntryOf, leads}
use Rattle.process_model.specs.Bytes.{is_width}
use Rattle.process_model.specs.Files.{File}
use Rattle.process_model.specs.PageMoves.{PageMove}
use Rattle.process_model.specs.Process.{Process}
use Rattle.process_model.specs.Service.{AccessRequest, user_access}
use Rattle.process_model.specs.declared.call.Call.{Call}
use Rattle.process_model.specs.declared.call.Call.TheVariants as call
use Rattle.process_model.specs.declared.reply.Reply.{Reply}
use Rattle.table_walk.specs.Tables.{Tables}

-- files that there are none of
abbrev pub no_shelf : ShelfState
no_shelf = record { first = []; files = []; history = []; room = 0 }

module _ (p : Process) (a : AccessRequest) (c : Call) (is : IsAccess c a) (wide : is_width a.width ≡ true) (x y : Body) (leaf : Bool) (both : (a.address % a.width == 0 && leaf) ≡ true) (law : (leaf ≡ true) ↔ IsGranted p a.access a.address)
    (r : Reply) (told_r : r ≡ (user_access p a).reply) (space : (u : Tables) × IsSpace y u (user_access p a).process) where
  pub made : IsMadeAtOnce x y p a c r
  made = record {
    plain = (made_at_once [] p a c is wide x y (λ ms. Unit {0}) (λ ms n e. Unit {0}) (λ n. Unit {0}) (granted [] p a leaf both law).0 (granted [] p a leaf both law).1 r told_r space tt).0;
    process = λ s. process_at_once s.files p a c is wide x y (λ ms. Unit {0}) (λ ms n e. Unit {0}) (λ n. Unit {0}) (granted s.files p a leaf both law).0 (granted s.files p a leaf both law).1 r told_r;
    result = λ s. (made_at_once s.files p a c is wide x y (λ ms. HasMoves s ms s) (RefusesPromise HasMoves CanRefuse s) (λ n. n ≤ s.room) (granted s.files p a leaf both law).0 (granted s.files p a leaf both law).1 r told_r space (stays s)).1;
  }

-- nothing was read or written where the files' history is the same
no_moves : (s : ShelfState) (ms : List PageMove) → HasMoves s ms s → ms ≡ []
no_moves s [] became = refl
no_moves s (m ∷ ms) became = absurd (let long = ap (λ (hs : List PageMove). length hs) became.history in let both = length-append s.history (m ∷ ms) in omega (arith, long, both))

first_none : (xs ys : List PageMove) → xs ++ ys ≡ [] → xs ≡ []
first_none [] ys none = refl
first_none (x ∷ xs) ys none = absurd (cc)

module _ (t : Track) (a : AccessRequest) (c : Call) (is : IsAccess c a) (x y : Body) (seen : x.view ≡ t.seat) (r : Reply) (m : IsMadeAtOnce x y t.state a c r)
    (e : JournalEntry) (called : call_of e ≡ c) (answer : e.reply ≡ r) (pages : e.pages ≡ []) (file : e.file ≡ None) (was : e.before.state ≡ t.state) where
  abbrev shortage : Shortage
  shortage = by_reply (address_of c) r

  entry_at : (s : ShelfState) → IsEntryOf t s shortage c r e
  entry_at s = record {
    call = called;
    answer = answer;
    pages = pages ∙ sym (first_none (reads_of s.files shortage t.state c) (writes_of s.files shortage t.state c) (no_moves s _ (m.result s).moves));
    file = file ∙ maps_none c (is_access_call c a is) s.files;
    before = was;
  }

  pub leads_at_once : (s : ShelfState) (q : Process) → q ≡ (user_access t.state a).process → IsReplayStep s.files (forks t.journal) t.state e q
  leads_at_once s q state = leads t c (is_plain_access c (is_access_call c a is)) s s shortage r e (entry_at s) x y seen (m.result s) q (state ∙ m.process s)

  pub space_at_once : (s : ShelfState) (q : Process) → q ≡ (user_access t.state a).process → (u : Tables) × IsSpace y u q
  space_at_once s q state = ((m.result s).space.0, subst (λ (z : Process). IsSpace y (m.result s).space.0 z) (sym (state ∙ m.process s)) (m.result s).space.1)

  module _ (u : Track) (adds : AppendsEntry t u e) (left : u.seat ≡ y.view) (state : u.state ≡ (user_access t.state a).process) where
    pub goes_at_once : (s : ForkSlot) → ContinuesTurn t u None s
    goes_at_once slot = goes t c (is_plain_access c (is_access_call c a is)) no_shelf no_shelf shortage r e (entry_at no_shelf) x y seen (m.result no_shelf) u adds left (state ∙ m.process no_shelf) m.plain slot

    pub filed_at_once : (s : ShelfState) → KeepsFilesOn t u s s
    filed_at_once s = filed t c (is_plain_access c (is_access_call c a is)) s s shortage r e (entry_at s) x y seen (m.result s) u adds left (state ∙ m.process s) m.plain
