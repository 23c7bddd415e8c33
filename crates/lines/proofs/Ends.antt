-- Where a line ends, seen from a place of the text. Assumes nothing.
use Prim.Native.Nat.{ℕ, suc, ◌+◌, ◌-◌, ◌≤◌, ◌<◌, suc-le-suc}
use native.Mathlib.Numerals.{add-one}
use native.Mathlib.Omega.{arith}
use mathlib.Core.Path.{◌≡◌, refl, sym, ap, ap₂, ◌∙◌}
use mathlib.Core.List.{List, [], ◌∷◌}
use Rattle.std.specs.Prelude.{Option, None, Some}
use mathlib.Core.Bool.{Bool, true, false, cond, ◌&&◌, and-true, and_assoc}
use lib.ListN.{length, get_or, take, drop, length-drop, drop_of_length-le, get_or-eq_default}
use lib.Seq.{drop-cons, drop-drop}
use lib.Dec.{eqb}
use borrow.Author.Tests.{ne_eqb, eqb-true}
use Rattle.laws.proofs.Tests.{by, by_order, apart}
use Rattle.lines.specs.Bytes.{lf, word, begins, exactly}
use Rattle.lines.specs.Lines.{pieces, line_end, end_bytes, end_named, body_of, ended_by, Line, lines_at, lines_from}
use Rattle.lines.specs.Spans.{span_of, span_at, part, end_at}
use Rattle.lines.specs.Lines.{ends_line}
use Rattle.lines.specs.declared.Span.{Span}
use Rattle.lines.specs.declared.End.{End}
use Rattle.lines.specs.declared.End.TheVariants.{Lf, CrLf, CrCrLf, Nothing}
use Rattle.lines.proofs.Strings.{begins_is}

-- ---- a line's end at a place, by the bytes there
ending_is : (s : List ℕ) (i : ℕ)
    → end_at (drop i s)
    ≡ cond (eqb (get_or s i 0) 10) Lf
    (cond (eqb (get_or s i 0) 13 && eqb (get_or s (i + 1) 0) 10) CrLf (cond (eqb (get_or s i 0) 13 && eqb (get_or s (i + 1) 0) 13 && eqb (get_or s (i + 1 + 1) 0) 10) CrCrLf Nothing))
unfolding end_at
ending_is s i =
    simp (begins_is (word "\n") s i (refl, tt), begins_is (word "\r\n") s i (refl, (refl, tt)), begins_is (word "\r\r\n") s i (refl, (refl, (refl, tt))), and-true, and_assoc)

-- a byte above CR ends no line, and neither does the text's end
pub no_end_lem : (s : List ℕ) (i a : ℕ) → a ≡ get_or s i 0 → 13 < a → Nothing ≡ end_at (drop i s)
no_end_lem s i a ea h = simp (ending_is, ← ea, ne_eqb a 10 (omega arith), ne_eqb a 13 (omega arith))

pub past_end_lem : (s : List ℕ) (i : ℕ) → length s ≤ i → Nothing ≡ end_at (drop i s)
past_end_lem s i h = simp (ending_is, get_or-eq_default s 0 h)

-- whether one stands there
abbrev pub end_some : List ℕ → Bool
end_some u = ends_line (end_at u)

-- how many bytes it has
abbrev pub end_size : List ℕ → ℕ
end_size u = length (end_bytes (end_at u))

pub none_size : (u : List ℕ) → ends_line (end_at u) ≡ false → end_size u ≡ 0
none_size u h = go (end_at u) h
  where
    go : (e : End) → ends_line e ≡ false → length (end_bytes e) ≡ 0
    go Lf q = apart cc
    go CrLf q = apart cc
    go CrCrLf q = apart cc
    go Nothing q = refl

-- A view: what stands where a line's end does. To prove P of such a list, prove it of the three ends.
module _ (P : List ℕ → End → Type 0) (one : (t : List ℕ) → P (10 ∷ t) Lf) (two : (t : List ℕ) → P (13 ∷ 10 ∷ t) CrLf) (three : (t : List ℕ) → P (13 ∷ 13 ∷ 10 ∷ t) CrCrLf) where
  at_third : (u : List ℕ) → ends_line (end_at (13 ∷ 13 ∷ u)) ≡ true → P (13 ∷ 13 ∷ u) (end_at (13 ∷ 13 ∷ u))
  unfolding end_at begins
  at_third [] h = apart cc
  at_third (d ∷ v) h = by (eqb d 10) (λ p. rw (p, eqb-true d 10 p) (three v)) λ p. let z : false ≡ true = simp p at h in apart cc

  at_second : (u : List ℕ) → ends_line (end_at (13 ∷ u)) ≡ true → P (13 ∷ u) (end_at (13 ∷ u))
  unfolding end_at begins
  at_second [] h = apart cc
  at_second (d ∷ v) h =
      by (eqb d 10) (λ p. rw (p, eqb-true d 10 p) (two v))
      λ p. by (eqb d 13)
      (λ q. let e : d ≡ 13 = eqb-true d 13 q in rw e (at_third v (rw e at h)))
      λ q. let z : false ≡ true = simp (p, q) at h in apart cc

  pub end_case : (u : List ℕ) → ends_line (end_at u) ≡ true → P u (end_at u)
  unfolding end_at begins
  end_case [] h = apart cc
  end_case (d ∷ v) h =
      by (eqb d 10) (λ p. rw (p, eqb-true d 10 p) (one v))
      λ p. by (eqb d 13)
      (λ q. let e : d ≡ 13 = eqb-true d 13 q in rw e (at_second v (rw e at h)))
      λ q. let z : false ≡ true = simp (p, q) at h in apart cc

-- ---- the first piece of a text: up to and with its first `sep`
unfoldable pub first_piece : ℕ → List ℕ → List ℕ
first_piece sep [] = []
first_piece sep (b ∷ s) = cond (eqb b sep) (b ∷ []) (b ∷ first_piece sep s)

pub pieces_first : (sep b : ℕ) (s : List ℕ) → pieces sep (b ∷ s) ≡ first_piece sep (b ∷ s) ∷ pieces sep (drop (length (first_piece sep (b ∷ s))) (b ∷ s))
unfolding pieces first_piece
pieces_first sep b [] = by (eqb b sep) (λ p. rw p) (λ p. rw p)
pieces_first sep b (c ∷ s) = by (eqb b sep) (λ p. rw p) (λ p. rw (p, pieces_first sep c s))

pub first_length : (sep : ℕ) (t : List ℕ) → length (first_piece sep t) ≤ length t
unfolding first_piece
first_length sep [] = omega arith
first_length sep (b ∷ t) = by (eqb b sep) (λ p. rw p (omega arith)) (λ p. rw p (suc-le-suc (first_length sep t)))

pub first_at : (sep : ℕ) (s : List ℕ) (i : ℕ) → i < length s
    → first_piece sep (drop i s) ≡ cond (eqb (get_or s i 0) sep) (get_or s i 0 ∷ []) (get_or s i 0 ∷ first_piece sep (drop (i + 1) s))
unfolding first_piece
first_at sep s i h = rw (add-one, drop-cons s i 0 h)

-- its end is the line's end that stands where none of its bytes does
end_first : (b : ℕ) (s : List ℕ) → eqb b 10 ≡ false → line_end (b ∷ first_piece lf s) ≡ ends_line (end_at (b ∷ s))
unfolding line_end exactly end_at begins first_piece
end_first b s p = by (eqb b 13) (λ q. let e = eqb-true b 13 q in rw e (second s)) (λ q. simp (p, q))
  where
    third : (u : List ℕ) → line_end (13 ∷ 13 ∷ first_piece lf u) ≡ ends_line (end_at (13 ∷ 13 ∷ u))
    third [] = refl
    third (e ∷ v) = by (eqb e 10) (λ p. simp p) (λ p. simp p)

    second : (u : List ℕ) → line_end (13 ∷ first_piece lf u) ≡ ends_line (end_at (13 ∷ u))
    second [] = refl
    second (d ∷ v) = by (eqb d 10) (λ p. simp p) (λ p. by (eqb d 13) (λ q. let e = eqb-true d 13 q in rw e (third v)) (λ q. simp (p, q)))

body_lf : (s : List ℕ) → body_of (first_piece lf (10 ∷ s)) ≡ cond (ends_line (end_at (10 ∷ s))) [] (10 ∷ body_of (first_piece lf s))
unfolding body_of first_piece end_at begins line_end exactly
body_lf s = refl

body_first : (b : ℕ) (s : List ℕ) → body_of (first_piece lf (b ∷ s)) ≡ cond (ends_line (end_at (b ∷ s))) [] (b ∷ body_of (first_piece lf s))
unfolding body_of first_piece
body_first b s = by (eqb b 10) (λ p. let e = eqb-true b 10 p in rw e (body_lf s)) (λ p. rw (p, end_first b s p))

-- ---- the line that starts at a place: where its bytes end, and where the next line starts
unfoldable pub end_of : List ℕ → ℕ → ℕ
end_of s at = at + length (body_of (first_piece lf (drop at s)))

unfoldable pub next_of : List ℕ → ℕ → ℕ
next_of s at = at + length (first_piece lf (drop at s))

pub body_at_lem : (s : List ℕ) (i : ℕ) → i < length s → body_of (first_piece lf (drop i s)) ≡ cond (ends_line (end_at (drop i s))) [] (get_or s i 0 ∷ body_of (first_piece lf (drop (i + 1) s)))
body_at_lem s i h = rw (add-one, drop-cons s i 0 h) (body_first (get_or s i 0) (drop (suc i) s))

-- it is the end, and nothing else
end_piece : (u : List ℕ) → ends_line (end_at u) ≡ true → first_piece lf u ≡ end_bytes (end_at u)
unfolding first_piece
end_piece = end_case (λ t e. first_piece lf t ≡ end_bytes e) (λ t. refl) (λ t. refl) (λ t. refl)

pub no_lf : (s : List ℕ) (i : ℕ) → ends_line (end_at (drop i s)) ≡ false → eqb (get_or s i 0) 10 ≡ false
no_lf s i e = by (eqb (get_or s i 0) 10) (λ p. let z : true ≡ false = rw (ending_is, p) at e in apart cc) (λ p. p)

-- how the line that a place stands in ended
unfoldable pub ending_of : List ℕ → ℕ → End
ending_of s at = ended_by (first_piece lf (drop at s))

-- the bytes of an end are that end's
pub named_bytes : (e : End) → end_named (end_bytes e) ≡ e
unfolding end_named exactly
named_bytes Lf = refl
named_bytes CrLf = refl
named_bytes CrCrLf = refl
named_bytes Nothing = refl

module _ (s : List ℕ) (i : ℕ) where
  module _ (h : length s ≤ i) where
    pub end_last : end_of s i ≡ i
    unfolding end_of body_of first_piece
    end_last = rw (drop_of_length-le s h) (omega arith)

    pub next_last : next_of s i ≡ i
    unfolding next_of first_piece
    next_last = rw (drop_of_length-le s h) (omega arith)

    pub ending_last : ending_of s i ≡ Nothing
    unfolding ending_of ended_by body_of first_piece end_named exactly
    ending_last = rw (drop_of_length-le s h)

  -- a line's end has bytes
  pub end_bytes_lem : ends_line (end_at (drop i s)) ≡ true → i < length s
  end_bytes_lem e = by_order i (length s) (λ h. h) (λ h. let z : false ≡ true = ap ends_line (past_end_lem s i h) ∙ e in apart cc)

  module _ (e : ends_line (end_at (drop i s)) ≡ true) where
    body_none : body_of (first_piece lf (drop i s)) ≡ []
    body_none = simp (body_at_lem s i (end_bytes_lem e), e)

    pub end_here : end_of s i ≡ i
    unfolding end_of
    end_here = rw body_none (omega arith)

    pub next_here : next_of s i ≡ i + end_size (drop i s)
    unfolding next_of
    next_here = rw (end_piece (drop i s) e)

    pub ending_here : ending_of s i ≡ end_at (drop i s)
    unfolding ending_of ended_by
    ending_here = rw body_none (ap end_named (end_piece (drop i s) e) ∙ named_bytes (end_at (drop i s)))

  module _ (h : i < length s) (e : ends_line (end_at (drop i s)) ≡ false) where
    piece_on : first_piece lf (drop i s) ≡ get_or s i 0 ∷ first_piece lf (drop (i + 1) s)
    piece_on = simp (first_at lf s i h, no_lf s i e)

    body_on : body_of (first_piece lf (drop i s)) ≡ get_or s i 0 ∷ body_of (first_piece lf (drop (i + 1) s))
    body_on = simp (body_at_lem s i h, e)

    pub end_on : end_of s i ≡ end_of s (i + 1)
    unfolding end_of
    end_on = rw body_on (omega arith)

    pub next_on : next_of s i ≡ next_of s (i + 1)
    unfolding next_of
    next_on = rw piece_on (omega arith)

    pub ending_on : ending_of s i ≡ ending_of s (i + 1)
    unfolding ending_of ended_by
    ending_on = ap₂ (λ (b p : List ℕ). end_named (drop (length b) p)) body_on piece_on

-- ---- a line is a part of the text
body_length : (t : List ℕ) → length (body_of (first_piece lf t)) ≤ length t
unfolding body_of first_piece
body_length [] = omega arith
body_length (b ∷ t) = rw (body_first b t) (by (ends_line (end_at (b ∷ t))) (λ p. rw p (omega arith)) (λ p. rw p (suc-le-suc (body_length t))))

body_take : (t : List ℕ) → take (length (body_of (first_piece lf t))) t ≡ body_of (first_piece lf t)
unfolding body_of first_piece
body_take [] = refl
body_take (b ∷ t) = rw (body_first b t) (by (ends_line (end_at (b ∷ t))) (λ p. rw p) (λ p. rw p (ap (λ (r : List ℕ). b ∷ r) (body_take t))))

pub end_within : (s : List ℕ) (at : ℕ) → at ≤ length s → end_of s at ≤ length s
unfolding end_of
end_within s at h = omega (arith, body_length (drop at s), length-drop at s)

pub next_within : (s : List ℕ) (at : ℕ) → at ≤ length s → next_of s at ≤ length s
unfolding next_of
next_within s at h = omega (arith, first_length lf (drop at s), length-drop at s)

pub next_more : (s : List ℕ) (at : ℕ) → at < length s → at < next_of s at
unfolding next_of
next_more s at h = rw (first_at lf s at h) (by (eqb (get_or s at 0) 10) (λ p. rw p (omega arith)) (λ p. rw p (omega arith)))

pub part_body : (s : List ℕ) (at : ℕ) → part s at (end_of s at) ≡ body_of (first_piece lf (drop at s))
unfolding end_of
part_body s at = let e : at + length (body_of (first_piece lf (drop at s))) - at ≡ length (body_of (first_piece lf (drop at s))) = omega arith in rw e (body_take (drop at s))

-- ---- the lines from a place on are the line there and the lines from the next place on
abbrev pub line_at : List ℕ → ℕ → Line
line_at s at = record { start = at; body = body_of (first_piece lf (drop at s)); next = next_of s at; ended = ending_of s at }

pub lines_step : (s : List ℕ) (at : ℕ) → at < length s → lines_from at (drop at s) ≡ line_at s at ∷ lines_from (next_of s at) (drop (next_of s at) s)
unfolding lines_at next_of ending_of
lines_step s at h =
    let d : drop at s ≡ get_or s at 0 ∷ drop (suc at) s = drop-cons s at 0 h in
    let p : pieces lf (drop at s) ≡ first_piece lf (drop at s) ∷ pieces lf (drop (length (first_piece lf (drop at s))) (drop at s)) = rw d (pieces_first lf (get_or s at 0) (drop (suc at) s)) in
    ap (lines_at at) p ∙ rw drop-drop

pub lines_last : (s : List ℕ) (at : ℕ) → length s ≤ at → lines_from at (drop at s) ≡ []
unfolding lines_at pieces
lines_last s at h = rw (drop_of_length-le s h)

-- the places of the line there, if the text has a byte there
abbrev pub span_on : List ℕ → ℕ → Span
span_on s at = record { start = at; end = end_of s at; next = next_of s at; ended = ending_of s at }

pub span_here : (s : List ℕ) (at : ℕ) → at < length s → span_at s at ≡ Some (span_on s at)
unfolding span_at end_of
span_here s at h = ap span_of (lines_step s at h)

pub span_none : (s : List ℕ) (at : ℕ) → length s ≤ at → span_at s at ≡ None
unfolding span_at
span_none s at h = ap span_of (lines_last s at h)

-- ---- what was found: the line's places, or that the text has no byte there
module _ (s : List ℕ) (at : ℕ) (r : Option Span) (e : r ≡ span_at s at) where
  pub found_none : r ≡ None → length s ≤ at
  found_none q = by_order at (length s) (λ h. let z : None ≡ Some (span_on s at) = sym q ∙ e ∙ span_here s at h in apart cc) (λ h. h)

  module _ (l : Span) (q : r ≡ Some l) where
    pub found_here : at < length s
    found_here = by_order at (length s) (λ h. h) (λ h. let z : Some l ≡ None = sym q ∙ e ∙ span_none s at h in apart cc)

    found_span : l ≡ span_on s at
    found_span = let z : Some l ≡ Some (span_on s at) = sym q ∙ e ∙ span_here s at found_here in cc

    pub found_start : l.start ≡ at
    found_start = ap (λ (k : Span). k.start) found_span

    -- it is the line that is found from its own start on
    pub found_again : span_at s l.start ≡ Some l
    found_again = ap (span_at s) found_start ∙ sym e ∙ q

    pub found_end : l.end ≡ end_of s at
    found_end = ap (λ (k : Span). k.end) found_span

    pub found_next : l.next ≡ next_of s at
    found_next = ap (λ (k : Span). k.next) found_span

    pub found_ended : l.ended ≡ ending_of s at
    found_ended = ap (λ (k : Span). k.ended) found_span

-- a line's places, by its start
module _ (s : List ℕ) (l : Span) (e : span_at s l.start ≡ Some l) where
  pub span_inside : l.start < length s
  span_inside = found_here s l.start (Some l) (sym e) l refl

  pub span_next : l.next ≡ next_of s l.start
  span_next = found_next s l.start (Some l) (sym e) l refl

  pub span_ended : l.ended ≡ ending_of s l.start
  span_ended = found_ended s l.start (Some l) (sym e) l refl

-- ---- a search for a line's end: i stands in the line that starts at `at`
pub record InLine (s : List ℕ) (at i : ℕ) : Type 0 where
  pub low : at ≤ i
  pub ends : end_of s at ≡ end_of s i
  pub goes : next_of s at ≡ next_of s i
  pub how : ending_of s at ≡ ending_of s i

pub in_start : (s : List ℕ) (at : ℕ) → InLine s at at
in_start s at = record { low = omega arith; ends = refl; goes = refl; how = refl }

module _ (s : List ℕ) (at i : ℕ) (v : InLine s at i) where
  spans : at < length s → (e n : ℕ) (x : End) → end_of s i ≡ e → next_of s i ≡ n → ending_of s i ≡ x
      → Some (record { start = at; end = e; next = n; ended = x }) ≡ span_at s at
  spans h e n x p q r = rw (span_here s at h, v.ends, v.goes, v.how, p, q, r)

  pub in_last : at < length s → length s ≤ i → Some (record { start = at; end = i; next = i; ended = Nothing }) ≡ span_at s at
  in_last t h = spans t i i Nothing (end_last s i h) (next_last s i h) (ending_last s i h)

  pub in_on : i < length s → end_some (drop i s) ≡ false → InLine s at (i + 1)
  in_on h e = record { low = omega (arith, v.low); ends = v.ends ∙ end_on s i h e; goes = v.goes ∙ next_on s i h e; how = v.how ∙ ending_on s i h e }

  pub in_here : end_some (drop i s) ≡ true → Some (record { start = at; end = i; next = i + end_size (drop i s); ended = end_at (drop i s) }) ≡ span_at s at
  in_here e = spans (omega (arith, v.low, end_bytes_lem s i e)) i (i + end_size (drop i s)) (end_at (drop i s)) (end_here s i e) (next_here s i e) (ending_here s i e)
