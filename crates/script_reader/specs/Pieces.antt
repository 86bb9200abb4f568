-- Predicate `IsSegmentFields`: the pieces of a field are the four of a segment of an `image` line, or they are no segment.
use Rattle.std.specs.Prelude.{◌≡◌, ℕ, List, [], ◌∷◌, Option, Some, None}
use Rattle.script_language.specs.Fields.{segment_in}
use Rattle.script_reader.specs.declared.segments.SegmentFields.{SegmentFields}

-- the pieces are exactly these four (`Some`), or they are no segment (`None`)
abbrev pub IsSegmentFields : List (List ℕ) → Option SegmentFields → Type 0
IsSegmentFields pieces None = segment_in pieces ≡ None
IsSegmentFields pieces (Some p) = pieces ≡ p.address.now ∷ p.memory_size.now ∷ p.flags.now ∷ p.bytes.now ∷ []
