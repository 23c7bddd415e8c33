-- Document 01, "The book": "A book is sound if its length, every check and the form above hold, the issue's year is 1970..2099, there are 1..8 segments,
-- place numbers are below 1,352,000, a step's first segment is not 0, its segments exist, taken segments exist and differ, a second one needs a first,
-- a closed draft is all zeros, a stale draft has taken something, and every purge minute is what its DDHHMM gives under the issue."
-- Clause by clause, of a book whose segments are counted by n.
use Rattle.std.specs.Prelude.{ℕ, ◌≤◌, ◌<◌, ◌≡◌, Bool, true, false, List, [], ◌∷◌, length, ltb}
use Rattle.laws.specs.Lists.{All}
use Rattle.months.specs.Months.{start_of, issue_months}
use Rattle.codes.specs.Block.{Content}
use Rattle.blocks.specs.Content.{is_content}
use Rattle.steps.specs.Book.{Copy, Draft, closed, working, History, Book}
use Rattle.steps.specs.Calls.{has, steps_most}
use Rattle.layout.specs.Layout.{bytes_of}

-- "the issue's year is 1970..2099"
unfoldable pub is_issue : ℕ → Bool
is_issue issue = ltb issue (start_of issue_months)

-- "place numbers are below 1,352,000", and "every purge minute is what its DDHHMM gives under the issue": of a segment, a draft's copy and a step's block alike
abbrev pub Fine : ℕ → Content → Type 0
Fine issue c = is_content issue c ≡ true

-- a copy, of a draft or of a step: its segment is not 0 and exists
pub record FineCopy (issue n : ℕ) (k : Copy) : Type 0 where
  pub from : 1 ≤ k.segment
  pub to : k.segment ≤ n
  pub fine : Fine issue k.held

-- ---- steps
-- "its segments, ascending"
pub data UpCopies : List Copy → Type 0 where
  none_up : UpCopies []
  one_up : {k : Copy} {ks : List Copy} → All (λ (q : Copy). k.segment < q.segment) ks → UpCopies ks → UpCopies (k ∷ ks)

-- "a step's first segment is not 0": a step has one, and at most two; "its segments exist"
pub record FineStep (issue n : ℕ) (ks : List Copy) : Type 0 where
  pub one : 1 ≤ length ks
  pub two : length ks ≤ 2
  pub copies : All (FineCopy issue n) ks
  pub up : UpCopies ks

-- "undo steps 0..16"
pub record FineHistory (issue n : ℕ) (h : History) : Type 0 where
  pub sixteen : length h.kept ≤ steps_most
  pub steps : All (FineStep issue n) h.kept

-- ---- drafts
-- "taken segments .. differ"
pub data Distinct : List Copy → Type 0 where
  none_twice : Distinct []
  first_once : {k : Copy} {ks : List Copy} → has k.segment ks ≡ false → Distinct ks → Distinct (k ∷ ks)

-- "taken segments exist and differ"; "a second one needs a first", as in every list; "a stale draft has taken something"
pub record FineTaken (issue n : ℕ) (ks : List Copy) (stale : Bool) : Type 0 where
  pub two : length ks ≤ 2
  pub copies : All (FineCopy issue n) ks
  pub distinct : Distinct ks
  pub taken : stale ≡ true → 1 ≤ length ks

-- "a closed draft is all zeros": it has no copies and is not stale, and its bytes are those of `closed`
pub data FineDraft (issue n : ℕ) : Draft → Type 0 where
  closed_fine : FineDraft issue n closed
  working_fine : {ks : List Copy} {stale : Bool} → FineTaken issue n ks stale → FineDraft issue n (working ks stale)

-- ---- the sentence, of a book
pub record Sound (b : Book) : Type 0 where
  -- "the issue's year is 1970..2099"
  pub year : is_issue b.issue ≡ true
  -- "there are 1..8 segments"
  pub one : 1 ≤ length b.segments
  pub eight : length b.segments ≤ 8
  -- "place numbers are below 1,352,000", "every purge minute is what its DDHHMM gives under the issue"
  pub contents : All (Fine b.issue) b.segments
  -- "a step's first segment is not 0, its segments exist"
  pub past : FineHistory b.issue (length b.segments) b.history
  -- "taken segments exist and differ, a second one needs a first, a closed draft is all zeros, a stale draft has taken something"
  pub four : length b.drafts ≡ 4
  pub drafts : All (FineDraft b.issue (length b.segments)) b.drafts

-- ---- of bytes: "its length, every check and the form above hold" where they are the bytes of such a book
pub record BytesOfBook (l : List ℕ) : Type 0 where
  pub book : Book
  pub sound : Sound book
  pub bytes : l ≡ bytes_of book
