-- Serves the code: where the copy of a segment stands. Document 01: "only a taken segment has a copy to work on".
use Rattle.std.specs.Prelude.{ℕ, suc, ◌+◌, ◌≤◌, ◌≡◌, true, cond, List, [], ◌∷◌, length, eqb}
use Rattle.std.specs.Prelude.{Option, None, Some}
use Rattle.blocks.specs.Block.{book_length}
use Rattle.steps.specs.Book.{Copy, at, draft_at}
use Rattle.layout.specs.Layout.{first_taken, copies_of, book_of}
use Rattle.layout.specs.Tests.{is_sound}
use Rattle.copies.specs.Admission.{is_open, exists}
use Rattle.copies.specs.declared.Found.{Found}
use Rattle.copies.specs.declared.Found.TheVariants as found

-- the index of the copy of segment s, counted from 0
abbrev pub one_on : Option ℕ → Option ℕ
one_on None = None
one_on (Some n) = Some (suc n)

unfoldable pub index_of : ℕ → List Copy → Option ℕ
index_of s [] = None
index_of s (k ∷ ks) = cond (eqb s k.segment) (Some 0) (one_on (index_of s ks))

-- the block of the copy at that index, of a draft that is counted from 1
abbrev pub block_in : ℕ → Option ℕ → Option ℕ
block_in d None = None
block_in d (Some n) = Some (first_taken d + n)

-- the block of draft d's copy of segment s
unfoldable pub copy_block : List ℕ → ℕ → ℕ → Option ℕ
copy_block l d s = block_in d (index_of s (copies_of (draft_at (book_of l).drafts d)))

abbrev pub paper_copy : Found → Option ℕ
paper_copy (found.Copy k) = Some k
paper_copy found.NotTaken = None

-- what an accepted work of draft d on segment s may rely on
pub record Admitted (l : List ℕ) (d s : ℕ) : Type 0 where
  pub sound : is_sound l ≡ true
  pub opened : is_open (draft_at (book_of l).drafts d) ≡ true
  pub there : exists (at (book_of l).segments s) ≡ true
  pub long : length l ≡ book_length
  pub four : d ≤ 4
