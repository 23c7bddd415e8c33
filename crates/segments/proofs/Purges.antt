-- The line that has the purge: found from the purge element on, or among the lines from the segment's first on; and no line up to it is a `$$` line. Assumes nothing.
use Prim.Native.Nat.{ℕ, zero, suc, ◌+◌, ◌-◌, ◌≤◌, ◌<◌}
use native.Mathlib.Nat.{add-zero}
use native.Mathlib.Omega.{arith}
use mathlib.Core.Path.{◌≡◌, refl, sym, ap, ◌∙◌}
use mathlib.Core.Bool.{Bool, true, false}
use mathlib.Core.List.{List, [], ◌∷◌, ◌++◌}
use Rattle.std.specs.Prelude.{Option, None, Some}
use lib.ListN.{length, drop, get_or, length-drop}
use lib.Dec.{eqb}
use borrow.Author.Tests.{lt-ltb, le-ltb, eqb-true}
use Rattle.laws.proofs.Tests.{by, by_order, impossible, apart, either_way, and_left, and_right}
use Rattle.refusal.specs.Answer.{ok}
use Rattle.lines.specs.Bytes.{lf, begins, exactly}
use Rattle.lines.specs.Lines.{pieces, line_end, body_of, Line, is_end}
use Rattle.lines.specs.Spans.{part}
use Rattle.lines.proofs.Ends.{first_piece, pieces_first, first_length, first_at, next_of, next_last, next_more, line_at, lines_step, lines_last}
use Rattle.calendar.specs.declared.Stamp.{Stamp}
use Rattle.codes.specs.Elements.{Element, dash, null, elements_at, elements_of_body, elements_from, Said, covers, purge, wrong, numbers, short, said}
use Rattle.codes.specs.Block.{Read, block, wrong_at, ended, insert_covered, read_from, read_block}
use Rattle.codes.specs.Cursor.{past_end, last_of_line}
use Rattle.codes.proofs.Turns.{read_covers, read_purge_lem, read_wrong}
use Rattle.codes.proofs.Steps.{body_at, elements_step, elements_last, runs}
use Rattle.reading.specs.Placed.{purge_place}
use Rattle.segments.specs.Search.{from_first}
use Rattle.segments.specs.Searching.{lines_on}
use Rattle.segments.specs.Segments.{past_purge}

-- ---- from any place of a line on the next line starts at the same place
next_on : (s : List ℕ) (a : ℕ) → a + 1 < next_of s a → next_of s (a + 1) ≡ next_of s a
unfolding next_of
next_on s a h =
    by_order a (length s)
    (λ l. by (eqb (get_or s a 0) lf)
    (λ t. let e : next_of s a ≡ a + 1 = rw (first_at lf s a l, t) in impossible (omega arith))
    (λ t. rw (first_at lf s a l, t) (omega arith)))
    (λ l. impossible (omega (arith, next_last s a l)))

next_same : (s : List ℕ) (k a : ℕ) → a + k < next_of s a → next_of s (a + k) ≡ next_of s a
next_same s zero a h = rw add-zero
next_same s (suc k) a h =
    let one : next_of s (a + 1) ≡ next_of s a = next_on s a (omega arith) in
    let n : a + 1 + k ≡ a + suc k = omega arith in
    rw (← n) (next_same s k (a + 1) (omega arith) ∙ one)

-- ---- the line among those from a place on whose next one starts behind `at`
module _ (s : List ℕ) (a at : ℕ) (l : a ≤ at) where
  here : at < next_of s a → next_of s at ≡ next_of s a
  here g = let n : a + (at - a) ≡ at = omega arith in rw n at (next_same s (at - a) a (omega arith))

  turn : (m : Line) (ls : List Line) → (next_of s a ≤ at → past_purge at m ls ≡ next_of s at) → past_purge at (line_at s a) (m ∷ ls) ≡ next_of s at
  unfolding past_purge
  turn m ls f = by_order at (next_of s a) (λ g. rw (lt-ltb at (next_of s a) g) (sym (here g))) (λ g. rw (le-ltb at (next_of s a) g) (f g))

  last : at < next_of s a → past_purge at (line_at s a) [] ≡ next_of s at
  unfolding past_purge
  last g = sym (here g)

past_by : (k : ℕ) (s : List ℕ) (a at : ℕ) → length s ≤ a + k → a < length s → a ≤ at → at < length s → past_purge at (line_at s a) (lines_on s (next_of s a)) ≡ next_of s at
past_by zero s a at m h l i = impossible (omega arith)
past_by (suc k) s a at m h l i =
    by_order (next_of s a) (length s)
    (λ j. rw (lines_step s (next_of s a) j) (turn s a at l _ _ (λ g. past_by k s (next_of s a) at (omega (arith, next_more s a h)) j g i)))
    (λ j. rw (lines_last s (next_of s a) j) (last s a at l (omega arith)))

pub past_is : (s : List ℕ) (a at : ℕ) → a < length s → a ≤ at → at < length s → past_purge at (line_at s a) (lines_on s (next_of s a)) ≡ next_of s at
past_is s a at h l i = past_by (length s) s a at (omega arith) h l i

-- ---- the purge element of a block stands in the text, not before the block
pub record Behind (s : List ℕ) (a at : ℕ) : Type 0 where
  pub low : a ≤ at
  pub high : at < length s

ended_at : (t : Bool) (r : Read) (next : ℕ) (ps : List ℕ) (u : Stamp) (at : ℕ) → ended t r next ≡ block ps u at → r ≡ block ps u at
ended_at true r next ps u at e = e
ended_at false r next ps u at e = apart cc

in_block : (s : List ℕ) (stop : ℕ) (last : Option ℕ) (got : List ℕ) (es : List Element) (a : ℕ) → es ≡ elements_from a (drop a s)
    → (ps : List ℕ) (u : Stamp) (at : ℕ) → read_from stop last got es ≡ block ps u at → Behind s a at
unfolding read_from
in_block s stop last got [] a q ps u at e = apart cc
in_block s stop last got (e ∷ es) a q ps u at r =
    by_order a (length s)
    (λ h.
    let x = runs s a h in
    let w : e ∷ es ≡ record { at = a; bytes = part s a x.0; last = last_of_line s x.0 } ∷ elements_from (past_end s x.0) (drop (past_end s x.0) s) = q ∙ x.1.step in
    let rest : es ≡ elements_from (past_end s x.0) (drop (past_end s x.0) s) = cc in
    let first : e ≡ record { at = a; bytes = part s a x.0; last = last_of_line s x.0 } = cc in
    let here : e.at ≡ a = λ i. (first i).at in
    go h here (past_end s x.0) (omega (arith, x.1.low)) (λ p n m f. in_block s stop (Some p) (insert_covered p n m got) es (past_end s x.0) rest ps u at f) (said last e.bytes) refl)
    (λ h. let w : e ∷ es ≡ [] = q ∙ elements_last s a h in apart cc)
  where
    go : a < length s → e.at ≡ a → (b : ℕ) → a ≤ b → ((p n m : ℕ) → read_from stop (Some p) (insert_covered p n m got) es ≡ block ps u at → Behind s b at)
        → (x : Said) → said last e.bytes ≡ x → Behind s a at
    go h here b l f (covers p n m) y = let v = f p n m (sym (read_covers stop last got e es p n m y) ∙ r) in record { low = omega (arith, v.low); high = v.high }
    go h here b l f (purge t) y =
        let z : block got t e.at ≡ block ps u at = ended_at e.last (block got t e.at) (e.at + length e.bytes) ps u at (sym (read_purge_lem stop last got e es t y) ∙ r) in
        let same : e.at ≡ at = cc in
        record { low = omega arith; high = omega arith }
    go h here b l f wrong y = let z : wrong_at e.at ≡ block ps u at = sym (read_wrong stop last got e es y) ∙ r in apart cc

pub block_behind : (s : List ℕ) (a at : ℕ) → purge_place (read_block s a) ≡ ok at → Behind s a at
unfolding read_block
block_behind s a at e = found (read_block s a) refl e
  where
    found : (x : Read) → read_block s a ≡ x → purge_place x ≡ ok at → Behind s a at
    found (block ps u p) q e = let n : p ≡ at = cc in rw (← n) (in_block s (length s) _ [] _ a refl ps u p q)
    found (wrong_at p) q e = apart cc

-- ---- no line of a block is a `$$` line, so that the first behind the block is the first from its start on
end_is : (t : List ℕ) → is_end t ≡ true → t ≡ 36 ∷ (36 ∷ [])
unfolding is_end exactly
end_is [] e = apart cc
end_is (b ∷ []) e = let f = and_right (eqb b 36) false e in apart cc
end_is (b ∷ (c ∷ [])) e =
    let x : b ≡ 36 = eqb-true b 36 (and_left (eqb b 36) _ e) in
    let y : c ≡ 36 = eqb-true c 36 (and_left (eqb c 36) true (and_right (eqb b 36) _ e)) in
    rw (x, y)
end_is (b ∷ (c ∷ (d ∷ t))) e = let f = and_right (eqb c 36) false (and_right (eqb b 36) _ e) in apart cc

-- it would be one element, and a wrong one
end_wrong : (last : Option ℕ) → said last (36 ∷ (36 ∷ [])) ≡ wrong
unfolding said short numbers exactly begins
end_wrong None = refl
end_wrong (Some p) = refl

blank_wrong : (last : Option ℕ) → said last [] ≡ wrong
unfolding said short numbers exactly begins
blank_wrong None = refl
blank_wrong (Some p) = refl

first_long : (b : ℕ) (t : List ℕ) → 1 ≤ length (first_piece dash (b ∷ t))
unfolding first_piece
first_long b t = by (eqb b dash) (λ p. rw p (omega arith)) (λ p. rw p (omega arith))

-- a line without its end is no longer than with it
pub body_short : (p : List ℕ) → length (body_of p) ≤ length p
unfolding body_of
body_short [] = omega arith
body_short (b ∷ s) =
    let h = body_short s in
    either_way (λ (x : List ℕ). length x ≤ length (b ∷ s)) (line_end (b ∷ s)) {x = []} {y = b ∷ body_of s} (omega arith) (omega arith)

body_before : (s : List ℕ) (a : ℕ) → a + length (body_at s a) ≤ next_of s a
unfolding next_of
body_before s a = omega (arith, body_short (first_piece lf (drop a s)))

module _ (stop : ℕ) (ps : List ℕ) (u : Stamp) (at : ℕ) where
  -- the purge stands before n, or the elements after these are read to it
  data Turn (n : ℕ) (after : List Element) : Type 0 where
    before : at < n → Turn n after
    later : (last : Option ℕ) (got : List ℕ) → read_from stop last got after ≡ block ps u at → Turn n after

  wider : (m n : ℕ) (after : List Element) → m ≤ n → Turn m after → Turn n after
  wider m n after l (before h) = before (omega arith)
  wider m n after l (later last got e) = later last got e

  -- the elements of what is left of a line
  turns : (j : ℕ) (t : List ℕ) → length t ≤ j → (k : ℕ) (last : Option ℕ) (got : List ℕ) (after : List Element)
      → read_from stop last got (elements_at k (pieces dash t) ++ after) ≡ block ps u at → Turn (k + length t) after
  unfolding pieces elements_at
  turns zero [] l k last got after e = later last got e
  turns zero (b ∷ t) l k last got after e = impossible (omega arith)
  turns (suc j) [] l k last got after e = later last got e
  turns (suc j) (b ∷ t) l k last got after e = go (turns j) (said last x) refl
    where
      x : List ℕ
      x = first_piece dash (b ∷ t)

      r : List ℕ
      r = drop (length x) (b ∷ t)

      one : Element
      one = record { at = k; bytes = x; last = null (pieces dash r) }

      rest : List Element
      rest = elements_at (k + length x) (pieces dash r) ++ after

      read : read_from stop last got (one ∷ rest) ≡ block ps u at
      read = ap (λ (xs : List (List ℕ)). read_from stop last got (elements_at k xs ++ after)) (sym (pieces_first dash b t)) ∙ e

      total : length x + length r ≡ suc (length t)
      total = omega (arith, length-drop (length x) (b ∷ t), first_length dash (b ∷ t))

      go : ((t : List ℕ) → length t ≤ j → (k : ℕ) (last : Option ℕ) (got : List ℕ) (after : List Element)
          → read_from stop last got (elements_at k (pieces dash t) ++ after) ≡ block ps u at → Turn (k + length t) after)
          → (y : Said) → said last x ≡ y → Turn (k + suc (length t)) after
      go f (covers p n m) y =
          wider (k + length x + length r) (k + suc (length t)) after (omega (arith, total))
          (f r (omega (arith, total, first_long b t)) (k + length x) (Some p) (insert_covered p n m got) after (sym (read_covers stop last got one rest p n m y) ∙ read))
      go f (purge v) y =
          let z : block got v k ≡ block ps u at = ended_at (null (pieces dash r)) (block got v k) (k + length x) ps u at (sym (read_purge_lem stop last got one rest v y) ∙ read) in
          let same : k ≡ at = cc in
          before (omega arith)
      go f wrong y = let z : wrong_at k ≡ block ps u at = sym (read_wrong stop last got one rest y) ∙ read in apart cc

  -- a line of the block
  record Within (a : ℕ) (t : List ℕ) (after : List Element) : Type 0 where
    no_end : is_end t ≡ false
    goes : Turn (a + length t) after

  in_line : (a : ℕ) (t : List ℕ) (last : Option ℕ) (got : List ℕ) (after : List Element) → read_from stop last got (elements_of_body a t ++ after) ≡ block ps u at → Within a t after
  unfolding pieces elements_at
  in_line a [] last got after e = let z : wrong_at a ≡ block ps u at = sym (read_wrong stop last got _ after (blank_wrong last)) ∙ e in apart cc
  in_line a (b ∷ t) last got after e =
      record {
        no_end = by (is_end (b ∷ t)) (λ y. absurd (ended_no (end_is (b ∷ t) y))) (λ n. n);
        goes = turns (length (b ∷ t)) (b ∷ t) (omega arith) a last got after e;
      }
    where
      ended_no : b ∷ t ≡ 36 ∷ (36 ∷ []) → ⊥
      ended_no q =
          let f : read_from stop last got (elements_of_body a (36 ∷ (36 ∷ [])) ++ after) ≡ block ps u at = ap (λ (x : List ℕ). read_from stop last got (elements_of_body a x ++ after)) (sym q) ∙ e in
          let z : wrong_at a ≡ block ps u at = sym (read_wrong stop last got _ after (end_wrong last)) ∙ f in
          apart cc

  module _ (s : List ℕ) where
    skips : (k a : ℕ) → length s ≤ a + k → a < length s → (last : Option ℕ) (got : List ℕ) → read_from stop last got (elements_from a (drop a s)) ≡ block ps u at
        → from_first is_end (lines_on s a) ≡ from_first is_end (lines_on s (next_of s at))
    unfolding from_first
    skips zero a m h last got e = impossible (omega arith)
    skips (suc k) a m h last got e = one ∙ go (skips k) w.goes
      where
        w : Within a (body_at s a) (elements_from (next_of s a) (drop (next_of s a) s))
        w = in_line a (body_at s a) last got _ (ap (read_from stop last got) (sym (elements_step s a h)) ∙ e)

        one : from_first is_end (lines_on s a) ≡ from_first is_end (lines_on s (next_of s a))
        one = ap (from_first is_end) (lines_step s a h) ∙ rw w.no_end

        go : ((b : ℕ) → length s ≤ b + k → b < length s → (last : Option ℕ) (got : List ℕ) → read_from stop last got (elements_from b (drop b s)) ≡ block ps u at
            → from_first is_end (lines_on s b) ≡ from_first is_end (lines_on s (next_of s at)))
            → Turn (a + length (body_at s a)) (elements_from (next_of s a) (drop (next_of s a) s)) → from_first is_end (lines_on s (next_of s a)) ≡ from_first is_end (lines_on s (next_of s at))
        go next (before l) = ap (λ (n : ℕ). from_first is_end (lines_on s n)) (sym (here s a at (in_block s stop last got _ a refl ps u at e).low (omega (arith, body_before s a))))
        go next (later last' got' f) =
            let v = in_block s stop last' got' _ (next_of s a) refl ps u at f in
            next (next_of s a) (omega (arith, next_more s a h)) (omega (arith, v.low, v.high)) last' got' f

pub block_skips : (s : List ℕ) (a at : ℕ) → a < length s → purge_place (read_block s a) ≡ ok at → from_first is_end (lines_on s a) ≡ from_first is_end (lines_on s (next_of s at))
unfolding read_block
block_skips s a at h e = found (read_block s a) refl e
  where
    found : (x : Read) → read_block s a ≡ x → purge_place x ≡ ok at → from_first is_end (lines_on s a) ≡ from_first is_end (lines_on s (next_of s at))
    found (block ps u p) q e = let n : p ≡ at = cc in rw (← n) (skips (length s) ps u p s (length s) a (omega arith) h None [] q)
    found (wrong_at p) q e = apart cc
