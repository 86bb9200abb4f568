-- Lemmas for the loop of `share_frames`: the frames shared so far and those left make the whole list, frame 0 and the frames
-- of the settled pages (those in memory); and the list of frames has room for one more.
use Rattle.std.proofs.Common.{◌≡◌, ℕ, ◌+◌, ◌<◌, ap, sym, ◌∙◌, List, [], ◌∷◌, ◌++◌, drop, length, slice_index_or, arith}
use Rattle.std.proofs.lemmas.List.{append_assoc, at_drop_more, length-append, length-map}
use Rattle.address_space.specs.declared.settled_pages.SettledPage.{SettledPage}
use Rattle.cow_fork.specs.ForkReferences.{frames_of}

module _ (settled : List SettledPage) (i : ℕ) where
  -- what was taken, and what is left
  abbrev pub AreLeft : List ℕ → Type 0
  AreLeft taken = taken ++ frames_of (drop i settled) ≡ 0 ∷ frames_of settled

  module _ (x : SettledPage) (lt : i < length settled) (is : x ≡ slice_index_or settled i x) where
    pub here : frames_of (drop i settled) ≡ (x.frame).0 ∷ frames_of (drop (i + 1) settled)
    here = at_drop_more frames_of settled i x lt ∙ ap (λ (y : SettledPage). (y.frame).0 ∷ frames_of (drop (i + 1) settled)) (sym is)

    pub left_here : (taken : List ℕ) → AreLeft taken → taken ++ (x.frame).0 ∷ frames_of (drop (i + 1) settled) ≡ 0 ∷ frames_of settled
    left_here taken left = ap (λ l. taken ++ l) (sym here) ∙ left

    pub left_next : (taken : List ℕ) → AreLeft taken → (taken ++ (x.frame).0 ∷ []) ++ frames_of (drop (i + 1) settled) ≡ 0 ∷ frames_of settled
    left_next taken left = append_assoc taken ((x.frame).0 ∷ []) (frames_of (drop (i + 1) settled)) ∙ left_here taken left

    -- there is room for one more
    pub left_room : (taken : List ℕ) → AreLeft taken → length settled < 1024 → length taken < 1024
    left_room taken left few =
        let whole = ap length (left_here taken left) in
        let parts = length-append taken ((x.frame).0 ∷ frames_of (drop (i + 1) settled)) in
        let all = length-map settled (λ (y : SettledPage). (y.frame).0) in
        omega (arith, whole, parts, all, few)
