-- Serves the code: the tests that `is_sound` makes, one for each of its functions. layout/proofs/SoundIff joins them to the sentence in specs/Sound, both ways.
use Rattle.std.specs.Prelude.{ℕ, ◌+◌, ◌-◌, ◌*◌, ◌/◌, ◌%◌, Bool, cond, ◌&&◌, ◌||◌, not, List, length, get_or, leb, ltb, eqb}
use Rattle.std.specs.List.{slice_range}
use Rattle.laws.specs.Lists.{every}
use Rattle.codes.specs.Places.{upward}
use Rattle.checks.specs.Seal.{all_zero, checked}
use Rattle.blocks.specs.Block.{book_length, number_at, block_of}
use Rattle.checks.specs.Unused.{is_unused}
use Rattle.blocks.specs.Good.{is_used}
use Rattle.steps.specs.Calls.{steps_most}
use Rattle.layout.specs.Layout.{copies_from, befores_from}
use Rattle.layout.specs.Sound.{is_issue}

-- "taken segments exist and differ, a second one needs a first, a closed draft is all zeros, a stale draft has taken something": n segments exist
unfoldable pub is_draft : ℕ → ℕ → ℕ → ℕ → ℕ → Bool
is_draft n isOpen first second stale =
    cond (eqb isOpen 0) (eqb first 0 && eqb second 0 && eqb stale 0)
    (eqb isOpen 1 && leb first n && leb second n && leb stale 1
    && (eqb second 0 || not (eqb first 0 || eqb first second))
    && (eqb stale 0 || not (eqb first 0)))

-- "a step's first segment is not 0, its segments exist"; they ascend strictly
unfoldable pub is_step : ℕ → ℕ → ℕ → Bool
is_step n first second = leb 1 first && leb first n && (eqb second 0 || (ltb first second && leb second n))

unfoldable pub is_draft_at : List ℕ → ℕ → Bool
is_draft_at b d = is_draft (get_or b 4 0) (get_or b (8 + 4 * d) 0) (get_or b (9 + 4 * d) 0) (get_or b (10 + 4 * d) 0) (get_or b (11 + 4 * d) 0)

unfoldable pub is_step_at : List ℕ → ℕ → Bool
is_step_at b s = is_step (get_or b 4 0) (get_or b (32 + 2 * s) 0) (get_or b (33 + 2 * s) 0)

-- is block 0 good?
unfoldable pub is_index : List ℕ → Bool
is_index b =
    checked b && is_issue (number_at b 0)
    && (leb 1 (get_or b 4 0) && leb (get_or b 4 0) 8) && all_zero (slice_range b 5 8)
    && every (is_draft_at b) (upward 0 4)
    && leb (get_or b 24 0) steps_most && all_zero (slice_range b 25 32)
    && every (is_step_at b) (upward 0 (get_or b 24 0))
    && all_zero (slice_range b (32 + 2 * get_or b 24 0) 510)

-- whether block k is used: its segment exists, its copy is taken, its step has the segment (byte 32 + 2 * s + n of block 0 is byte 15 + k where k is the block of part n of step s)
unfoldable pub used : List ℕ → ℕ → Bool
used l k =
    cond (ltb k (copies_from 0)) (leb k (get_or l 4 0))
    (cond (ltb k (befores_from 0)) (ltb 0 (get_or l (9 + 4 * ((k - copies_from 0) / 2) + (k - copies_from 0) % 2) 0)) (ltb 0 (get_or l (15 + k) 0)))

-- is block k good?
unfoldable pub is_good : List ℕ → ℕ → Bool
is_good l k = cond (used l k) (is_used (number_at l 0) (block_of k l)) (is_unused (block_of k l))

unfoldable pub is_sound : List ℕ → Bool
is_sound l = eqb (length l) book_length && is_index (block_of 0 l) && every (is_good l) (upward 1 48)
