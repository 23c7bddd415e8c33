-- Document 01, "The book": what a book holds.
use Rattle.std.specs.Prelude.{ℕ, zero, suc, Bool, List, [], ◌∷◌, set}
use Rattle.std.specs.Prelude.{Option, None, Some}
use Rattle.std.specs.Prelude.{slice_get}
use Rattle.codes.specs.Block.{Content}

-- a segment's number, and a content of it
pub record Copy : Type 0 where
  pub segment : ℕ
  pub held : Content

-- closed; or open, with its copies in the order taken, and whether it is stale
pub data Draft : Type 0 where
  closed : Draft
  working : List Copy → Bool → Draft

-- The undo steps, oldest first. Each has "its segments, ascending", with "what its segments held before".
pub record History : Type 0 where
  pub kept : List (List Copy)

pub record Book : Type 0 where
  pub issue : ℕ
  pub segments : List Content
  pub drafts : List Draft
  pub history : History

-- ---- what stands at a number, counted from 1
abbrev pub at : {A : Type 0} → List A → ℕ → Option A
at xs zero = None
at xs (suc k) = slice_get xs k

abbrev pub put : {A : Type 0} → List A → ℕ → A → List A
put xs zero x = xs
put xs (suc k) x = set xs k x

-- a draft that is not there is closed
abbrev pub or_closed : Option Draft → Draft
or_closed None = closed
or_closed (Some d) = d

abbrev pub draft_at : List Draft → ℕ → Draft
draft_at ds d = or_closed (at ds d)

-- ---- "Make: .. no drafts, no steps"
abbrev pub new_book : ℕ → List Content → Book
new_book issue segments =
    record {
      issue = issue;
      segments = segments;
      drafts = closed ∷ closed ∷ closed ∷ closed ∷ [];
      history = record { kept = [] };
    }
