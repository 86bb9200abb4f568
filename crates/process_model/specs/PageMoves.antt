-- Page I/O of files: `PageMove`, a page that was read or written, and the files after a list of moves; the writes that a
-- write-back makes, of a run, a mapping or all mappings. Laws: these writes leave the files as `written_back` and
-- `all_written_back` say.
use Rattle.std.proofs.Common.{◌≡◌, ℕ, Bool, true, false, ◌*◌, ◌+◌, ◌-◌, refl, ap, ◌∙◌, List, [], ◌∷◌, ◌++◌}
use Rattle.std.specs.Prelude.{nat_le, nat_lt, ◌&&◌, fold, flat_map, if◌then◌else◌}
use Rattle.process_model.specs.Files.{File, with_page_written}
use Rattle.process_model.specs.Mappings.{all_written_back, is_written_back, mapping_written_back, page_written, with_written, written_back}
use Rattle.process_model.specs.Process.{Page, Process}
use Rattle.process_model.specs.Regions.{Region, Source, end_of, file, image, zeros}

-- a page of file n, from an offset on: read, with the bytes that it had, or written, with the bytes that it got
pub data PageMove : Type 0 where
  page_read : ℕ → ℕ → List ℕ → PageMove
  page_write : ℕ → ℕ → List ℕ → PageMove

abbrev pub moved : List File → PageMove → List File
moved files (page_read n offset bytes) = files
moved files (page_write n offset bytes) = with_page_written files n offset bytes

-- the files after some moves
abbrev pub files_after : List File → List PageMove → List File
files_after files moves = fold moved files moves

-- what write-back writes

-- the write of a page that is `at` bytes past the beginning of its region; none if the region is of no file
abbrev pub moves_to : Source → ℕ → List ℕ → List PageMove
moves_to (file n offset) at bytes = page_write n (offset + at) bytes ∷ []
moves_to _ at bytes = []

-- the write of a settled page, if it lies in the run and has to be written back
abbrev pub moves_of : Region → ℕ → ℕ → ℕ × Page → List PageMove
moves_of m first end e = if nat_le first e.0 && nat_lt e.0 end && is_written_back m e.1 then moves_to m.source (4096 * (e.0 - m.first)) (e.1).bytes else []

-- the writes of a run of a mapping, in ascending order
abbrev pub run_moves : Process → Region → ℕ → ℕ → List PageMove
run_moves p m first end = flat_map (moves_of m first end) p.settled.entries

abbrev pub mapping_moves : Process → Region → List PageMove
mapping_moves p m = run_moves p m m.first (end_of m)

-- the writes of every mapping, in order of address
abbrev pub all_moves : Process → List PageMove
all_moves p = flat_map (mapping_moves p) p.mappings

-- these moves are what write-back does to the files

pub files_after-append : (files : List File) (ms ns : List PageMove) → files_after files (ms ++ ns) ≡ files_after (files_after files ms) ns
files_after-append files [] ns = refl
files_after-append files (m ∷ ms) ns = files_after-append (moved files m) ms ns

moves_to_source : (s : Source) (files : List File) (at : ℕ) (bytes : List ℕ) → files_after files (moves_to s at bytes) ≡ page_written s files at bytes
moves_to_source zeros files at bytes = refl
moves_to_source image files at bytes = refl
moves_to_source (file n offset) files at bytes = refl

module _ (m : Region) (first end : ℕ) where
  one_move : (files : List File) (e : ℕ × Page) → files_after files (moves_of m first end e) ≡ with_written m first end files e
  one_move files e = go (nat_le first e.0 && nat_lt e.0 end && is_written_back m e.1)
    where
      go : (b : Bool) → files_after files (if b then moves_to m.source (4096 * (e.0 - m.first)) (e.1).bytes else []) ≡ (if b
          then page_written m.source files (4096 * (e.0 - m.first)) (e.1).bytes else files)
      go true = moves_to_source m.source files (4096 * (e.0 - m.first)) (e.1).bytes
      go false = refl

  each_move : (files : List File) (es : List (ℕ × Page)) → files_after files (flat_map (moves_of m first end) es) ≡ fold (with_written m first end) files es
  each_move files [] = refl
  each_move files (e ∷ es) =
      files_after-append files (moves_of m first end e) (flat_map (moves_of m first end) es)
      ∙ ap (λ fs. files_after fs (flat_map (moves_of m first end) es)) (one_move files e)
      ∙ each_move (with_written m first end files e) es

pub run_is_written : (files : List File) (p : Process) (m : Region) (first end : ℕ)
    → files_after files (run_moves p m first end) ≡ written_back files p m first end
run_is_written files p m first end = each_move m first end files p.settled.entries

module _ (p : Process) where
  mappings_written : (files : List File) (ms : List Region) → files_after files (flat_map (mapping_moves p) ms) ≡ fold (mapping_written_back p) files ms
  mappings_written files [] = refl
  mappings_written files (m ∷ ms) =
      files_after-append files (mapping_moves p m) (flat_map (mapping_moves p) ms)
      ∙ ap (λ fs. files_after fs (flat_map (mapping_moves p) ms)) (run_is_written files p m m.first (end_of m))
      ∙ mappings_written (mapping_written_back p files m) ms

  pub all_is_written : (files : List File) → files_after files (all_moves p) ≡ all_written_back files p
  all_is_written files = mappings_written files p.mappings
