-- Bytes in which a sound book lies say that book. Assumes nothing.
use mathlib.Core.Path.{◌≡◌, sym, ap, ◌∙◌}
use mathlib.Core.Bool.{true}
use mathlib.Core.List.{List, [], map}
use Prim.Native.Nat.{ℕ, ◌<◌}
use native.Mathlib.Numerals.{one-add}
use native.Mathlib.Nat.{zero-add}
use native.Mathlib.Omega.{arith}
use lib.ListN.{length, get_or}
use borrow.Author.Tests.{ltb-true}
use Rattle.laws.proofs.Lookups.{get_some}
use Rattle.laws.proofs.Lists.{all_get}
use Rattle.months.specs.Months.{start_of, issue_months, all_months}
use Rattle.months.proofs.Laws.{start_mono, start_end_lem}
use Rattle.codes.specs.Places.{upward}
use Rattle.blocks.specs.Block.{number_at, block_of}
use Rattle.blocks.specs.Content.{holding, content_of}
use Rattle.blocks.proofs.Contents.{content_forth}
use Rattle.steps.specs.Book.{closed, Book}
use Rattle.layout.specs.Layout.{bytes_of, draft_of, step_of, book_of}
use Rattle.layout.specs.Sound.{is_issue, Sound}
use Rattle.layout.specs.Lies.{Lies}
use Rattle.layout.proofs.Items.{map_upward}
use Rattle.layout.proofs.ForthParts.{bytes_lie, blank}
use Rattle.layout.proofs.ForthLies.{lies_issue, lies_count, lies_steps, lies_draft, lies_step, lies_segment, lies_copy, lies_before}
use Rattle.layout.proofs.ForthSaid.{draft_said, step_said}

-- an issue minute has 32 bits
pub issue_low : (issue : ℕ) → is_issue issue ≡ true → issue < 4294967296
unfolding is_issue
issue_low issue e = omega (arith, ltb-true issue (start_of issue_months) e, start_mono issue_months all_months (omega arith), start_end_lem)

module _ (l : List ℕ) (b : Book) (lies : Lies l b) (sound : Sound b) where
  -- the issue, the segments, the drafts and the steps
  pub said_issue : number_at l 0 ≡ b.issue
  said_issue = lies_issue l b lies (issue_low b.issue sound.year)

  segments_said_lem : map (λ k. content_of (block_of k l)) (upward 1 (get_or l 4 0)) ≡ b.segments
  segments_said_lem =
      ap (λ (n : ℕ). map (λ k. content_of (block_of k l)) (upward 1 n)) (lies_count l b lies)
      ∙ map_upward blank (λ k. content_of (block_of k l)) 1 b.segments
      (λ i h. ap content_of (ap (λ (k : ℕ). block_of k l) (one-add i) ∙ lies_segment l b lies i (omega (arith, sound.eight)) ∙ ap holding (get_some blank b.segments i h))
      ∙ (content_forth b.issue (get_or b.segments i blank) (all_get blank i sound.contents h)).0)

  drafts_said : map (draft_of l) (upward 0 4) ≡ b.drafts
  drafts_said =
      ap (λ (n : ℕ). map (draft_of l) (upward 0 n)) (sym sound.four)
      ∙ map_upward closed (draft_of l) 0 b.drafts
      (λ i h. let g : i < 4 = omega (arith, sound.four) in
      ap (draft_of l) (zero-add i)
      ∙ draft_said b.issue (length b.segments) l i (get_or b.drafts i closed) (all_get closed i sound.drafts h)
      (λ j k. lies_draft l b lies i j g k) (λ j k. lies_copy l b lies i j g k))

  steps_said : map (step_of l) (upward 0 (get_or l 24 0)) ≡ b.history.kept
  steps_said =
      ap (λ (n : ℕ). map (step_of l) (upward 0 n)) (lies_steps l b lies)
      ∙ map_upward [] (step_of l) 0 b.history.kept
      (λ i h. let g : i < 16 = omega (arith, sound.past.sixteen) in
      ap (step_of l) (zero-add i)
      ∙ step_said b.issue (length b.segments) l i (get_or b.history.kept i []) (all_get [] i sound.past.steps h)
      (λ j k. lies_step l b lies i j g k) (λ j k. lies_before l b lies i j g k))

  -- the bytes say the book
  pub lies_book : book_of l ≡ b
  unfolding book_of
  lies_book = λ i. record { issue = said_issue i; segments = segments_said_lem i; drafts = drafts_said i; history = record { kept = steps_said i } }

-- a book's own bytes say it
pub book_bytes : (b : Book) → Sound b → book_of (bytes_of b) ≡ b
book_bytes b sound = lies_book (bytes_of b) b (bytes_lie b sound) sound
