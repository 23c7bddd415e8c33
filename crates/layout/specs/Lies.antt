-- Serves the code: what it keeps true while it changes a book in place: block 0 may still want its check.
use Rattle.std.specs.Prelude.{ℕ, suc, ◌≤◌, ◌<◌, ◌≡◌, List, length}
use Rattle.checks.specs.Seal.{sealed}
use Rattle.blocks.specs.Block.{book_length, block_of}
use Rattle.steps.specs.Book.{Book}
use Rattle.steps.specs.Calls.{steps_most}
use Rattle.layout.specs.Layout.{index_bytes, block_bytes}

pub record Lies (l : List ℕ) (b : Book) : Type 0 where
  pub long : length l ≡ book_length
  pub index : sealed (block_of 0 l) ≡ sealed (index_bytes b)
  pub blocks : (k : ℕ) → k < 48 → block_of (suc k) l ≡ block_bytes b (suc k)
  pub four : length b.drafts ≡ 4
  pub sixteen : length b.history.kept ≤ steps_most
