-- Refusal 2: the one pass over the text finds the least of the three places. Assumes nothing.
use Prim.Native.Nat.{ℕ, suc, ◌+◌, ◌-◌, ◌≤◌, ◌<◌}
use native.Mathlib.Nat.{min-eq_left, min-eq_right, le-min, le_refl, le_trans}
use native.Mathlib.Numerals.{add-one}
use native.Mathlib.Omega.{arith}
use mathlib.Core.Path.{◌≡◌, refl, ap, ◌∙◌}
use mathlib.Core.List.{List, [], ◌∷◌}
use mathlib.Core.Bool.{Bool, true, false, cond, ◌&&◌, ◌||◌}
use Rattle.std.specs.Prelude.{Option, None, Some, Ok, Err}
use lib.ListN.{length, get_or, drop, drop_of_length-le}
use lib.Seq.{drop-cons, drop-drop}
use lib.Dec.{ltb, eqb}
use borrow.Author.Tests.{le-ltb, lt-ltb, eq-eqb, ne_eqb}
use Rattle.laws.proofs.Tests.{by, by_order}
use Rattle.refusal.specs.declared.Reason.TheVariants.{WrongText}
use Rattle.refusal.specs.Answer.{refusal_for, answer_of}
use Rattle.refusal.specs.declared.Refusal.{Refusal}
use Rattle.lines.specs.Bytes.{between, word, begins}
use Rattle.lines.specs.Lines.{pieces, end_bytes, body_of, lines_at, lines_from, lines_of}
use Rattle.lines.specs.Check.{allowed, bad_byte, long_line, last_ends, unended, least, text_fault, check_text}
use Rattle.lines.specs.Spans.{end_at}
use Rattle.lines.specs.Lines.{ends_line}
use Rattle.lines.specs.declared.End.{End}
use Rattle.lines.specs.declared.End.TheVariants.{Lf, CrLf, CrCrLf, Nothing}
use Rattle.lines.specs.Printables.{printables}
use Rattle.lines.proofs.Ends.{no_lf, end_some, end_size, end_case, end_bytes_lem, end_of, next_of, first_piece, lines_step, lines_last, end_here, next_here, end_last, next_last, next_within, next_more, InLine, in_start, in_on}
use Rattle.lines.proofs.Scans.{over, printable_is, stops, ended_here, not_ended}

-- ---- "Allowed": what is printable, or stands at the front of a line's end
allowed_tests : (p l c x y : Bool) → (p || l || c && (x || y)) ≡ (p || ends_line (cond (l && true) Lf (cond (c && x) CrLf (cond (c && y) CrCrLf Nothing))))
allowed_tests true l c x y = refl
allowed_tests false true c x y = refl
allowed_tests false false false x y = refl
allowed_tests false false true true y = refl
allowed_tests false false true false true = refl
allowed_tests false false true false false = refl

allowed_is : (b : ℕ) (s : List ℕ) → allowed b s ≡ (between 32 126 b || end_some (b ∷ s))
unfolding end_at begins
allowed_is b s = allowed_tests (between 32 126 b) (eqb b 10) (eqb b 13) (begins (word "\n") s) (begins (word "\r\n") s)

-- ---- "the last line must end", byte after byte: a line would start before s where `new`
pub last_from : Bool → List ℕ → Bool
last_from new [] = new
last_from new (b ∷ s) = last_from (eqb b 10) s

last_is : (b : ℕ) (s : List ℕ) → last_ends (b ∷ s) ≡ last_from (eqb b 10) s
unfolding last_ends last_from
last_is b [] = refl
last_is b (c ∷ s) = last_is c s

last_ends_lem : (s : List ℕ) → last_ends s ≡ last_from true s
unfolding last_ends last_from
last_ends_lem [] = refl
last_ends_lem (b ∷ s) = last_is b s

-- ---- no place below n
abbrev From : ℕ → Option ℕ → Type 0
From n None = Unit {0}
From n (Some p) = n ≤ p

least_left : (n : ℕ) (o : Option ℕ) → From n o → least (Some n) o ≡ Some n
unfolding least
least_left n None h = refl
least_left n (Some p) h = ap Some (min-eq_left h)

least_right : (n : ℕ) (o : Option ℕ) → From n o → least o (Some n) ≡ Some n
unfolding least
least_right n None h = refl
least_right n (Some p) h = ap Some (min-eq_right h)

least_from : (n : ℕ) (a b : Option ℕ) → From n a → From n b → From n (least a b)
unfolding least
least_from n None b h k = k
least_from n (Some p) None h k = h
least_from n (Some p) (Some q) h k = le-min h k

from_less : (m n : ℕ) (o : Option ℕ) → m ≤ n → From n o → From m o
from_less m n None h k = tt
from_less m n (Some p) h k = le_trans h k

bad_from : (at : ℕ) (t : List ℕ) → From at (bad_byte at t)
unfolding bad_byte
bad_from at [] = tt
bad_from at (b ∷ t) =
    by (allowed b t) (λ p. rw p (from_less at (suc at) (bad_byte (suc at) t) (omega arith) (bad_from (suc at) t))) (λ p. rw p (le_refl at))

long_from : (at : ℕ) (ps : List (List ℕ)) → From (at + 132) (long_line (lines_at at ps))
unfolding long_line lines_at
long_from at [] = tt
long_from at (p ∷ ps) =
    by (ltb 132 (length (body_of p))) (λ q. rw q (le_refl (at + 132)))
    (λ q. rw q (from_less (at + 132) (at + length p + 132) (long_line (lines_at (at + length p) ps)) (omega arith) (long_from (at + length p) ps)))

unended_from : (s : List ℕ) → From (length s) (unended s)
unfolding unended
unended_from s = by (last_ends s) (λ p. rw p tt) (λ p. rw p (le_refl (length s)))

-- ---- at a byte
bad_at : (s : List ℕ) (i : ℕ) → i < length s → bad_byte i (drop i s) ≡ cond (between 32 126 (get_or s i 0) || end_some (drop i s)) (bad_byte (i + 1) (drop (i + 1) s)) (Some i)
unfolding bad_byte
bad_at s i h = rw (add-one, drop-cons s i 0 h, allowed_is (get_or s i 0) (drop (suc i) s))

last_at : (s : List ℕ) (i : ℕ) (new : Bool) → i < length s → last_from new (drop i s) ≡ last_from (eqb (get_or s i 0) 10) (drop (i + 1) s)
unfolding last_from
last_at s i new h = rw (add-one, drop-cons s i 0 h)

-- ---- at a line's end
bad_end : (at : ℕ) (u : List ℕ) → end_some u ≡ true → bad_byte at u ≡ bad_byte (at + end_size u) (drop (end_size u) u)
unfolding bad_byte begins
bad_end at =
    end_case (λ t e. bad_byte at t ≡ bad_byte (at + length (end_bytes e)) (drop (length (end_bytes e)) t)) (λ t. rw (add-one at))
    (λ t. let e : at + 2 ≡ suc (suc at) = omega arith in rw e) (λ t. let e : at + 3 ≡ suc (suc (suc at)) = omega arith in rw e)

last_end : (new : Bool) (u : List ℕ) → end_some u ≡ true → last_from new u ≡ last_from true (drop (end_size u) u)
unfolding last_from
last_end new = end_case (λ t e. last_from new t ≡ last_from true (drop (length (end_bytes e)) t)) (λ t. refl) (λ t. refl) (λ t. refl)

-- ---- at a line
module _ (s : List ℕ) (start : ℕ) (h : start < length s) where
  long_on : (n : ℕ) → next_of s start ≡ n → end_of s start ≤ start + 132 → long_line (lines_from start (drop start s)) ≡ long_line (lines_from n (drop n s))
  unfolding long_line end_of
  long_on n e k = ap long_line (lines_step s start h) ∙ rw (le-ltb 132 (length (body_of (first_piece 10 (drop start s)))) (omega arith), e)

  long_here : start + 132 < end_of s start → long_line (lines_from start (drop start s)) ≡ Some (start + 132)
  unfolding long_line end_of
  long_here k = ap long_line (lines_step s start h) ∙ rw (lt-ltb 132 (length (body_of (first_piece 10 (drop start s)))) (omega arith))

long_past : (s : List ℕ) (i : ℕ) → length s ≤ i → long_line (lines_from i (drop i s)) ≡ None
unfolding long_line
long_past s i h = rw (lines_last s i h)

end_ge : (s : List ℕ) (i : ℕ) → i ≤ end_of s i
unfolding end_of
end_ge s i = omega arith

abbrev later : List ℕ → Option ℕ
later s = least (long_line (lines_of s)) (unended s)

later_from : (s : List ℕ) (i start : ℕ) → i ≤ length s → i ≤ start + 132 → long_line (lines_of s) ≡ long_line (lines_from start (drop start s)) → From i (later s)
later_from s i start h k e =
    least_from i (long_line (lines_of s)) (unended s) (from_less i (start + 132) (long_line (lines_of s)) k (rw e (long_from start (pieces 10 (drop start s)))))
    (from_less i (length s) (unended s) h (unended_from s))

-- ---- the answer, by the least place
fine_is : (s : List ℕ) → text_fault s ≡ None → answer_of (Ok tt) ≡ check_text s
unfolding check_text
fine_is s e = rw e

fault_is : (s : List ℕ) (i : ℕ) → text_fault s ≡ Some i → (r : Refusal) → r ≡ refusal_for WrongText i → answer_of (Err r) ≡ check_text s
unfolding check_text
fault_is s i e r q = rw (e, q)

-- ---- i is in the line that starts at `start`, and each of the three answers from here is the one from the text's start
pub record Checks (s : List ℕ) (start i : ℕ) : Type 0 where
  pub line : InLine s start i
  pub high : i ≤ length s
  pub bad : bad_byte 0 s ≡ bad_byte i (drop i s)
  pub long : long_line (lines_of s) ≡ long_line (lines_from start (drop start s))
  pub fin : last_from true s ≡ last_from (eqb start i) (drop i s)

pub checks_start : (s : List ℕ) → Checks s 0 0
checks_start s = record { line = in_start s 0; high = omega arith; bad = refl; long = refl; fin = refl }

-- a printable byte
checks_on : (s : List ℕ) (start i : ℕ) → i < length s → between 32 126 (get_or s i 0) ≡ true → Checks s start i → Checks s start (i + 1)
checks_on s start i h y v =
    let low : start ≤ i = v.line.low in
    let none_here : end_some (drop i s) ≡ false = printable_is s i y in
    record {
      line = in_on s start i v.line h none_here;
      high = omega arith;
      bad = v.bad ∙ bad_at s i h ∙ rw y;
      long = v.long;
      fin = v.fin ∙ last_at s i _ h ∙ rw (no_lf s i none_here, ne_eqb start (i + 1) (omega arith));
    }

-- the text's end: no byte was bad, and the last line ends exactly if none is begun
module _ (s : List ℕ) (start i : ℕ) (v : Checks s start i) (h : length s ≤ i) where
  bad_last : bad_byte 0 s ≡ None
  unfolding bad_byte
  bad_last = v.bad ∙ rw (drop_of_length-le s h)

  fin_last : last_ends s ≡ eqb start i
  unfolding last_from
  fin_last = last_ends_lem s ∙ v.fin ∙ rw (drop_of_length-le s h)

pub checks_fine : (s : List ℕ) (start : ℕ) → Checks s start start → length s ≤ start → answer_of (Ok tt) ≡ check_text s
unfolding text_fault least unended
checks_fine s start v h = fine_is s (rw (bad_last s start start v h, v.long, long_past s start h, fin_last s start start v h, eq-eqb start start refl))

-- ---- the line's printable bytes end at e
module _ (s : List ℕ) (start : ℕ) (v : Checks s start start) (e : ℕ) (is : e ≡ start + printables (drop start s)) where
  there : Checks s start e
  there = rw is (over s (Checks s start) (checks_on s start) (printables (drop start s)) start (omega arith) v)

  far : e ≤ end_of s start
  far = omega (arith, there.line.ends, end_ge s e)

  -- the 133rd byte of a line
  pub checks_long : 132 < e - start → (r : Refusal) → r ≡ refusal_for WrongText (start + 132) → answer_of (Err r) ≡ check_text s
  unfolding text_fault
  checks_long q =
      let high : e ≤ length s = there.high in
      let here : long_line (lines_of s) ≡ Some (start + 132) = there.long ∙ long_here s start (omega arith) (omega (arith, far)) in
      let end_later : From (start + 132) (unended s) = from_less (start + 132) (length s) (unended s) (omega arith) (unended_from s) in
      let bad-later : From (start + 132) (bad_byte 0 s) = from_less (start + 132) e (bad_byte 0 s) (omega arith) (rw there.bad (bad_from e (drop e s))) in
      fault_is s (start + 132)
      (ap (λ (o : Option ℕ). least (bad_byte 0 s) (least o (unended s))) here
      ∙ ap (least (bad_byte 0 s)) (least_left (start + 132) (unended s) end_later)
      ∙ least_right (start + 132) (bad_byte 0 s) bad-later)

  module _ (short : e - start ≤ 132) (f : End) (ef : f ≡ end_at (drop e s)) (t : Bool) (et : t ≡ ends_line f) where
    -- a byte that is not allowed
    bad_here : t ≡ false → e < length s → text_fault s ≡ Some e
    unfolding text_fault
    bad_here z h =
        let here : bad_byte 0 s ≡ Some e = there.bad ∙ bad_at s e h ∙ rw (stops s start e is h, not_ended s e f ef t et z) in
        ap (λ (o : Option ℕ). least o (later s)) here ∙ least_left e (later s) (later_from s e start (omega arith) (omega arith) there.long)

    -- the text's end, within a line
    open_here : start < length s → length s ≤ e → text_fault s ≡ Some e
    unfolding text_fault least unended
    open_here l h =
        let high : e ≤ length s = there.high in
        let all : e ≡ length s = omega arith in
        let no-long : long_line (lines_of s) ≡ None = there.long ∙ long_on s start l e (there.line.goes ∙ next_last s e h) (omega (arith, there.line.ends, end_last s e h)) ∙ long_past s e h in
        rw (bad_last s start e there h, no-long, fin_last s start e there h, ne_eqb start e (omega arith), all)

    pub checks_wrong : start < length s → t ≡ false → (r : Refusal) → r ≡ refusal_for WrongText e → answer_of (Err r) ≡ check_text s
    checks_wrong l z = fault_is s e (by_order e (length s) (bad_here z) (open_here l))

    -- a line's end
    module _ (y : t ≡ true) (k : ℕ) (ek : k ≡ length (end_bytes f)) where
      some_end : end_some (drop e s) ≡ true
      some_end = ended_here s e f ef t et y

      size_is : k ≡ end_size (drop e s)
      size_is = ek ∙ ap (λ (x : End). length (end_bytes x)) ef

      past : next_of s e ≡ e + k
      past = omega (arith, next_here s e some_end, size_is)

      pub checks_line : Checks s (e + k) (e + k)
      checks_line =
          let h : e < length s = end_bytes_lem s e some_end in
          record {
            line = in_start s (e + k);
            high = omega (arith, past, next_within s e (omega arith));
            bad = there.bad ∙ rw (size_is) (bad_end e (drop e s) some_end ∙ rw drop-drop);
            long = there.long ∙ long_on s start (omega (arith, there.line.low)) (e + k) (there.line.goes ∙ past) (omega (arith, there.line.ends, end_here s e some_end));
            fin = there.fin ∙ rw size_is (last_end _ (drop e s) some_end ∙ rw (drop-drop, eq-eqb (e + end_size (drop e s)) (e + end_size (drop e s)) refl));
          }

      pub checks_less : length s - (e + k) < length s - start
      checks_less =
          let h : e < length s = end_bytes_lem s e some_end in
          omega (arith, past, next_more s e h)
