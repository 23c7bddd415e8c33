-- Demand 3 on a book's bytes: "come out the same byte for byte".
use Rattle.std.specs.Prelude.{ℕ, ◌≤◌, ◌<◌, ◌≡◌, List, [], ◌∷◌, get_or}
use Rattle.blocks.specs.Block.{block_count, block_of}
use Rattle.steps.specs.Calls.{Call}
use Rattle.layout.specs.Layout.{copies_from, befores_from}
use Rattle.layout.specs.Rule.{on_bytes}
use Rattle.steps.specs.Serial.{Event, calls, kept_of}

-- calls by the rule of every call on bytes, "each on the book as the call before left it"
unfoldable pub run_bytes : List ℕ → List Call → List Event × List ℕ
run_bytes l [] = ([], l)
run_bytes l (c ∷ cs) = (
  record { call = c; answer = (on_bytes l c).0 } ∷ (run_bytes (on_bytes l c).1 cs).0,
  (run_bytes (on_bytes l c).1 cs).1,
)

-- the kept calls of the history h, run on the bytes on which h ran
abbrev pub rerun_bytes : List ℕ → List Call → List Event × List ℕ
rerun_bytes l h = run_bytes l (calls (kept_of (run_bytes l h).0))

pub record WholeBytes (l : List ℕ) (h : List Call) : Type 0 where
  -- "and so does every answer those drafts and undos got"
  pub answers : (rerun_bytes l h).0 ≡ kept_of (run_bytes l h).0
  -- "The segments": the issue minute and the segment count in block 0, and the blocks from 1 up to the drafts'
  pub front : (i : ℕ) → i < 8 → get_or (block_of 0 (rerun_bytes l h).1) i 0 ≡ get_or (block_of 0 (run_bytes l h).1) i 0
  pub segments : (k : ℕ) → 1 ≤ k → k < copies_from 0 → block_of k (rerun_bytes l h).1 ≡ block_of k (run_bytes l h).1
  -- "and the undo steps": bytes 24..509 of block 0, and the steps' blocks, up to the last
  pub index : (i : ℕ) → 24 ≤ i → i < 510 → get_or (block_of 0 (rerun_bytes l h).1) i 0 ≡ get_or (block_of 0 (run_bytes l h).1) i 0
  pub steps : (k : ℕ) → befores_from 0 ≤ k → k < block_count → block_of k (rerun_bytes l h).1 ≡ block_of k (run_bytes l h).1
