-- The steps of the search for a cycle of forks: what each keeps (`IsSearch`), and the cycle that is found.
use Rattle.std.proofs.Common.{false, ◌≡◌, ◌≢◌, ℕ, suc, ◌<◌, ◌≤◌, ◌==◌, List, [], ◌∷◌, ◌++◌, Some, None, get_or, length, replicate, set, inl, inr, refl, sym, ap, subst, ◌∙◌, arith}
use Rattle.std.proofs.lemmas.Bool.{cases_eq, cases_lt, ne_eqb}
use Rattle.std.proofs.lemmas.List.{get_or_past, length_push, length-replicate}
use Rattle.script_language.specs.ThreadScript.{calls_of}
use Rattle.script_language.specs.declared.declarations.CallList.{CallList}
use Rattle.fork_cycles.specs.Forks.{Ends, IsForkCycle, IsIn, Reaches, Forks, calls_in, forked_by, or_none}
use Rattle.fork_cycles.specs.Forks.Ends.{ends}
use Rattle.fork_cycles.specs.Forks.Reaches.{here, further}
use Rattle.fork_cycles.specs.Search.{Closes, IsMarked, IsSearch, first_unended, mark_of, part_from, work}
use Rattle.fork_cycles.specs.declared.marks.Mark.{Mark}
use Rattle.fork_cycles.specs.declared.marks.Mark.TheVariants as mark
use Rattle.fork_cycles.proofs.SetMarks.{all_ended, all_new, fewer_new, is_unended, no_more_new, set_ended, set_here, set_other}
use Rattle.fork_cycles.proofs.Paths.{chain_front, chain_push, every_front, every_in, every_last, every_push, in_front, in_last, in_push, part_begins, part_round}

module _ (lists : List CallList) (first : ℕ) (marks : List Mark) where
  -- all that the last list forks has ended, so it ends too
  pub step_back : (path : List ℕ) (last : ℕ) → IsSearch lists first marks (path ++ last ∷ []) → first_unended marks (forked_by (calls_in lists last)) ≡ None
      → IsSearch lists first (set marks last mark.Ended) path
  step_back path last s none = record {
    chain = chain_front lists path last s.chain;
    reached = every_front (Reaches lists first) path last s.reached;
    ended = λ k e. elim (cases_eq k last) [
      | inl same ↦ subst (Ends lists) (sym same) (ends last (λ l f. s.ended l (all_ended marks (forked_by (calls_in lists last)) l none f)))
      | inr apart ↦ s.ended k (sym (set_other marks k last mark.Ended apart) ∙ e)
    ];
    on_path = λ k e. elim (cases_eq k last) [
      | inl same ↦ let ended : mark_of (set marks last mark.Ended) k ≡ mark.Ended = ap (mark_of (set marks last mark.Ended)) same ∙ set_ended marks last in absurd cc
      | inr apart ↦ elim (in_front path last k (s.on_path k (sym (set_other marks k last mark.Ended apart) ∙ e))) [
        | inl inside ↦ inside
        | inr is_last ↦ absurd (apart (sym is_last))
      ]
    ];
    seen = λ e. elim (cases_eq first last) [
      | inl same ↦ let ended : mark_of (set marks last mark.Ended) first ≡ mark.Ended = ap (mark_of (set marks last mark.Ended)) same ∙ set_ended marks last in absurd cc
      | inr apart ↦ s.seen (sym (set_other marks first last mark.Ended apart) ∙ e)
    ];
  }

  -- the last list forks one that was not looked at
  pub step_on : (path : List ℕ) (last next : ℕ) → IsSearch lists first marks (path ++ last ∷ []) → first_unended marks (forked_by (calls_in lists last)) ≡ Some next
      → IsSearch lists first (set marks next mark.OnPath) ((path ++ last ∷ []) ++ next ∷ [])
  step_on path last next s some =
      let next_is = is_unended marks (forked_by (calls_in lists last)) next some in
      let forks : Forks lists last next = next_is.0 in
      record {
        chain = chain_push lists path last next s.chain forks;
        reached = every_push (Reaches lists first) (path ++ last ∷ []) next s.reached (further last next (every_last (Reaches lists first) path last s.reached) forks);
        ended = λ k e. elim (cases_eq k next) [
          | inl same ↦ let on : mark_of (set marks next mark.OnPath) k ≡ mark.OnPath = ap (mark_of (set marks next mark.OnPath)) same ∙ set_here marks next mark.OnPath next_is.1 in absurd cc
          | inr apart ↦ s.ended k (sym (set_other marks k next mark.OnPath apart) ∙ e)
        ];
        on_path = λ k e. elim (cases_eq k next) [
          | inl same ↦ subst (λ n. IsIn n ((path ++ last ∷ []) ++ next ∷ [])) (sym same) (in_last (path ++ last ∷ []) next)
          | inr apart ↦ in_push (path ++ last ∷ []) next k (s.on_path k (sym (set_other marks k next mark.OnPath apart) ∙ e))
        ];
        seen = λ e. elim (cases_eq first next) [
          | inl same ↦ let on : mark_of (set marks next mark.OnPath) first ≡ mark.OnPath = ap (mark_of (set marks next mark.OnPath)) same ∙ set_here marks next mark.OnPath next_is.1 in absurd cc
          | inr apart ↦ s.seen (sym (set_other marks first next mark.OnPath apart) ∙ e)
        ];
      }

  -- the last list forks one that is on the path
  pub step_closes : (path : List ℕ) (last next : ℕ) → IsSearch lists first marks (path ++ last ∷ []) → first_unended marks (forked_by (calls_in lists last)) ≡ Some next
      → mark_of marks next ≡ mark.OnPath → Closes lists first (path ++ last ∷ []) next
  step_closes path last next s some on = record {
    chain = chain_push lists path last next s.chain (is_unended marks (forked_by (calls_in lists last)) next some).0;
    reached = s.reached;
    on_path = s.on_path next on;
  }

  -- a walk begins with a list that was not looked at
  pub begun : IsMarked lists marks → mark_of marks first ≡ mark.New → IsSearch lists first (set marks first mark.OnPath) (first ∷ [])
  begun m new =
      let on : mark_of (set marks first mark.OnPath) first ≡ mark.OnPath = set_here marks first mark.OnPath (λ e. absurd cc) in
      record {
        chain = tt;
        reached = (here, tt);
        ended = λ k e. elim (cases_eq k first) [
          | inl same ↦ let is_on : mark_of (set marks first mark.OnPath) k ≡ mark.OnPath = ap (mark_of (set marks first mark.OnPath)) same ∙ on in absurd cc
          | inr apart ↦ m.ended k (sym (set_other marks k first mark.OnPath apart) ∙ e)
        ];
        on_path = λ k e. elim (cases_eq k first) [
          | inl same ↦ inl (sym same)
          | inr apart ↦ absurd (m.off_path k (sym (set_other marks k first mark.OnPath apart) ∙ e))
        ];
        seen = λ e. absurd cc;
      }

  pub not_begun : IsMarked lists marks → mark_of marks first ≢ mark.New → IsSearch lists first marks []
  not_begun m seen = record { chain = tt; reached = tt; ended = m.ended; on_path = λ k e. absurd (m.off_path k e); seen = seen }

  -- and is over when the path is empty
  pub walked : IsSearch lists first marks [] → IsMarked lists marks
  walked s = record { ended = s.ended; off_path = λ k e. absurd (s.on_path k e) }

  ended_mark : (m : Mark) → m ≢ mark.New → m ≢ mark.OnPath → m ≡ mark.Ended
  ended_mark mark.New new on_path = absurd (new refl)
  ended_mark mark.OnPath new on_path = absurd (on_path refl)
  ended_mark mark.Ended new on_path = refl

  pub first_ends : IsSearch lists first marks [] → Ends lists first
  first_ends s = s.ended first (ended_mark (mark_of marks first) s.seen (λ e. s.on_path first e))

-- the same marks and path by other names
pub as_search : (lists : List CallList) (first : ℕ) (ms ns : List Mark) (path route : List ℕ) → ns ≡ ms → route ≡ path → IsSearch lists first ms path → IsSearch lists first ns route
as_search lists first ms ns path route marks_are path_is s = subst (λ m. IsSearch lists first m route) (sym marks_are) (subst (λ p. IsSearch lists first ms p) (sym path_is) s)

-- the part of a path that closes is a cycle
pub closed : (lists : List CallList) (first : ℕ) (path : List ℕ) (next : ℕ) → Closes lists first path next → IsForkCycle lists first (part_from next path)
closed lists first path next c = record {
  first = next;
  begins = part_begins path next c.on_path;
  round = part_round lists path next c.on_path c.chain;
  reached = every_in (Reaches lists first) path next c.reached c.on_path;
}

-- each step leaves less work

pub back_is_less : (marks : List Mark) (path : List ℕ) (last : ℕ) → work (set marks last mark.Ended) path < work marks (path ++ last ∷ [])
back_is_less marks path last = omega (arith, no_more_new marks last, length_push path last)

new_mark : (m : Mark) → m ≢ mark.Ended → m ≢ mark.OnPath → m ≡ mark.New
new_mark mark.New ended on_path = refl
new_mark mark.OnPath ended on_path = absurd (on_path refl)
new_mark mark.Ended ended on_path = absurd (ended refl)

pub on_is_less : (lists : List CallList) (marks : List Mark) (path : List ℕ) (last next : ℕ) → first_unended marks (forked_by (calls_in lists last)) ≡ Some next → mark_of marks next ≢ mark.OnPath
    → work (set marks next mark.OnPath) ((path ++ last ∷ []) ++ next ∷ []) < work marks (path ++ last ∷ [])
on_is_less lists marks path last next some off =
    let next_is = is_unended marks (forked_by (calls_in lists last)) next some in
    omega (arith, fewer_new marks next (new_mark (mark_of marks next) next_is.1 off), length_push (path ++ last ∷ []) next)

-- lists with high numbers are not there

pub no_calls : (lists : List CallList) (k : ℕ) → ((i : ℕ) (d : CallList) → i < length lists → (get_or lists i d).number < 64) → 64 ≤ k → calls_of lists k ≡ None
no_calls [] k numbers high = refl
no_calls (l ∷ lists) k numbers high =
    let low : l.number < 64 = numbers 0 l (omega arith) in
    let apart : (l.number == k) ≡ false = ne_eqb l.number k (λ e. omega (arith, low, high, e)) in
    rw apart (no_calls lists k (λ i d less. numbers (suc i) d (omega (arith, less))) high)

pub marked : (lists : List CallList) → ((i : ℕ) (d : CallList) → i < length lists → (get_or lists i d).number < 64) → IsMarked lists (replicate 64 mark.New)
marked lists numbers = record {
  ended = λ k e. elim (cases_lt k 64) [
    | inl low ↦ let new : mark_of (replicate 64 mark.New) k ≡ mark.New = all_new 64 k low in absurd cc
    | inr high ↦ ends k (λ l f. absurd (subst (λ calls. IsIn l (forked_by calls)) (ap (λ c. or_none c) (no_calls lists k numbers high)) f))
  ];
  off_path = λ k e. elim (cases_lt k 64) [
    | inl low ↦ let new : mark_of (replicate 64 mark.New) k ≡ mark.New = all_new 64 k low in absurd cc
    | inr high ↦ let long : length (replicate 64 mark.New) ≡ 64 = length-replicate 64 mark.New in let past : mark_of (replicate 64 mark.New) k ≡ mark.Ended = get_or_past (replicate 64 mark.New) k mark.Ended (omega (arith, long, high)) in absurd cc
  ];
}
