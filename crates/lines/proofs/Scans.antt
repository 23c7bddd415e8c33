-- Printable bytes at the front of a text, and what holds behind them. Assumes nothing.
use Rattle.lines.specs.declared.Span.{Span}
use Rattle.std.specs.Prelude.{Option, None, Some}
use Prim.Native.Nat.{ℕ, zero, suc, ◌+◌, ◌-◌, ◌*◌, ◌^◌, min, ◌≤◌, ◌<◌}
use native.Mathlib.Numerals.{add-one}
use native.Mathlib.Omega.{arith}
use mathlib.Core.Path.{◌≡◌, refl, sym, ap, ◌∙◌}
use mathlib.Core.List.{List, [], ◌∷◌}
use mathlib.Core.Bool.{Bool, true, false, cond}
use mir.Syntax.{w64}
use mir.Val.{Fits}
use lib.ListN.{length, get_or, take, drop, length-drop}
use lib.Seq.{drop-cons, drop-drop, take_all}
use lib.Dec.{leb}
use borrow.Author.Tests.{leb-true}
use Rattle.laws.proofs.Tests.{by, by_order, impossible, and_left}
use Rattle.lines.specs.Bytes.{between}
use Rattle.lines.specs.Lines.{end_bytes}
use Rattle.lines.specs.Spans.{span_at, end_at}
use Rattle.lines.specs.Lines.{ends_line}
use Rattle.lines.specs.Printables.{printables}
use Rattle.std.proofs.lemmas.List.Sums.{prefix_len-le-length}
use Rattle.std.specs.Simd.{first_chunks}
use Rattle.std.specs.Ordering.{ord_min, nat_cmp}
use Rattle.std.proofs.lemmas.Grind.{common_steps}
use Rattle.lines.specs.declared.End.{End}
use Rattle.lines.specs.declared.End.TheVariants.{Nothing}
use Rattle.lines.proofs.Ends.{no_end_lem, end_some, end_size, none_size, end_bytes_lem, next_here, next_within, span_none, InLine, in_start, in_on, in_here, in_last}

-- ---- at the front
pub most : (s : List ℕ) → printables s ≤ length s
most s = prefix_len-le-length (between 32 126) s

pub behind : (k : ℕ) (s : List ℕ) → k ≤ printables s → printables s ≡ k + printables (drop k s)
behind zero s h = omega arith
behind (suc k) [] h = impossible (omega arith)
behind (suc k) (b ∷ s) h =
    by (between 32 126 b) (λ p. let h' : suc k ≤ 1 + printables s = rw p at h in rw p (omega (arith, behind k s (omega arith))))
    λ p. let h' : suc k ≤ 0 = rw p at h in impossible (omega arith)

-- ---- at a place
module _ (s : List ℕ) (i : ℕ) where
  pub rest : printables (drop i s) ≤ length s - i
  rest = omega (arith, most (drop i s), length-drop i s)

  at_byte : i < length s → printables (drop i s) ≡ cond (between 32 126 (get_or s i 0)) (1 + printables (drop (i + 1) s)) 0
  at_byte h = rw (add-one, drop-cons s i 0 h)

  passed : (k : ℕ) → k ≤ printables (drop i s) → printables (drop i s) ≡ k + printables (drop (i + k) s)
  passed k h = rw (← drop-drop k i s) (behind k (drop i s) h)

-- ---- of the first bytes
pub printables_take : (n : ℕ) (s : List ℕ) → printables (take n s) ≡ min n (printables s)
printables_take zero s = omega arith
printables_take (suc n) [] = omega arith
printables_take (suc n) (b ∷ s) = by (between 32 126 b) (λ p. rw p (omega (arith, printables_take n s))) (λ p. rw p (omega arith))

chunk_at : (n i : ℕ) (t : List ℕ) → i < n → get_or (first_chunks 64 n t) i [] ≡ take 64 (drop (64 * i) t)
chunk_at zero i t h = impossible (omega arith)
chunk_at (suc n) zero t h = refl
chunk_at (suc n) (suc i) t h =
    let e : 64 + 64 * i ≡ 64 * suc i = omega arith in
    chunk_at n i (drop 64 t) (omega arith) ∙ ap (take 64) (drop-drop (64 * i) 64 t ∙ ap (λ (j : ℕ). drop j t) e)

-- ---- blocks of sixty-four behind the first four: p bytes are passed, and i blocks
module _ (s : List ℕ) (p i : ℕ) (e : p ≡ 4 + 64 * i) (v : p ≤ printables s) (t : List ℕ) (behind_4 : t ≡ take (length s - 4) (drop 4 s)) where
  from_here : (j : ℕ) → j ≡ 64 * i → drop j t ≡ drop p s
  from_here j d =
      let all : take (length s - 4) (drop 4 s) ≡ drop 4 s = take_all (length s - 4) (drop 4 s) (omega (arith, length-drop 4 s)) in
      let same : 4 + j ≡ p = omega arith in
      ap (drop j) (behind_4 ∙ all) ∙ drop-drop j 4 s ∙ ap (λ (k : ℕ). drop k s) same

  pub in_block : (b : List (List ℕ)) (n : ℕ) → b ≡ first_chunks 64 n t → length b ≡ n → i < length b → printables (get_or b i []) ≡ min 64 (printables s - p)
  in_block b n q l h =
      ap (λ (c : List (List ℕ)). printables (get_or c i [])) q
      ∙ ap printables (chunk_at n i t (omega arith) ∙ ap (take 64) (from_here (64 * i) refl))
      ∙ printables_take 64 (drop p s)
      ∙ omega (arith, behind p s v)

  pub in_rest : (b : List ℕ) (n : ℕ) → b ≡ drop (n * 64) t → i ≡ n → p + printables b ≡ printables s
  in_rest b n q h = ap (λ (c : List ℕ). p + printables c) (q ∙ from_here (n * 64) (omega arith)) ∙ sym (behind p s v)

-- the lesser of two, as std has it
pub min_is : (a b : ℕ) → ord_min nat_cmp a b ≡ min a b
min_is a b = grind (arith, common_steps)

-- ---- k of w bytes are looked at: which of them is the first that is not printable, or w
pub record Looked (s : List ℕ) (w first k : ℕ) : Type 0 where
  pub found : printables s < k → first ≡ printables s
  pub none_yet : k ≤ printables s → first ≡ w

pub looked_start : (s : List ℕ) (w : ℕ) → Looked s w w 0
looked_start s w = record { found = λ h. impossible (omega arith); none_yet = λ h. refl }

module _ (s : List ℕ) (w first k : ℕ) (v : Looked s w first k) (h : length s ≡ w) where
  module _ (l : k < w) where
    pub looked_yes : between 32 126 (get_or s k 0) ≡ true → Looked s w (min first w) (k + 1)
    looked_yes y =
        let on : printables (drop k s) ≡ 1 + printables (drop (k + 1) s) = rw y at (at_byte s k (omega arith)) in
        by_order (printables s) k
        (λ p. record { found = λ q. omega (arith, v.found p); none_yet = λ q. impossible (omega arith) })
        (λ p. record { found = λ q. impossible (omega (arith, behind k s p)); none_yet = λ q. omega (arith, v.none_yet p) })

    pub looked_no : between 32 126 (get_or s k 0) ≡ false → Looked s w (min first k) (k + 1)
    looked_no n =
        let off : printables (drop k s) ≡ 0 = rw n at (at_byte s k (omega arith)) in
        by_order (printables s) k
        (λ p. record { found = λ q. omega (arith, v.found p); none_yet = λ q. impossible (omega arith) })
        (λ p. record { found = λ q. omega (arith, v.none_yet p, behind k s p); none_yet = λ q. impossible (omega (arith, behind k s p)) })

  pub looked_done : w ≤ k → k ≤ w → first ≡ printables s
  looked_done g l = by_order (printables s) w (λ p. v.found (omega arith)) (λ p. omega (arith, v.none_yet (omega arith), most s))

-- ---- behind the printable bytes: what holds before them, and goes on over each
pub over : (s : List ℕ) (P : ℕ → Type 0) → ((j : ℕ) → j < length s → between 32 126 (get_or s j 0) ≡ true → P j → P (j + 1))
    → (n i : ℕ) → n ≤ printables (drop i s) → P i → P (i + n)
over s P f zero i h p = let e : i + 0 ≡ i = omega arith in rw e p
over s P f (suc n) i h p =
    by_order i (length s)
    (λ l. by (between 32 126 (get_or s i 0))
    (λ q. let b : printables (drop i s) ≡ 1 + printables (drop (i + 1) s) = rw q at (at_byte s i l) in
    let e : i + suc n ≡ i + 1 + n = omega arith in
    rw e (over s P f n (i + 1) (omega arith) (f i l q p)))
    λ q. impossible (omega (arith, rw q at (at_byte s i l))))
    λ l. impossible (omega (arith, rest s i))

-- what is printable ends no line
pub printable_is : (s : List ℕ) (i : ℕ) → between 32 126 (get_or s i 0) ≡ true → end_some (drop i s) ≡ false
printable_is s i y = sym (ap ends_line (no_end_lem s i (get_or s i 0) refl (omega (arith, leb-true 32 (get_or s i 0) (and_left (leb 32 (get_or s i 0)) (leb (get_or s i 0) 126) y)))))

module _ (s : List ℕ) (i e : ℕ) (is : e ≡ i + printables (drop i s)) where
  pub stops : e < length s → between 32 126 (get_or s e 0) ≡ false
  stops h =
      let z : printables (drop i s) ≡ printables (drop i s) + printables (drop e s) = rw is (passed s i (printables (drop i s)) (omega arith)) in
      by (between 32 126 (get_or s e 0)) (λ p. impossible (omega (arith, rw p at (at_byte s e h)))) (λ p. p)

  -- a line goes on behind its printable bytes
  pub in_over : (at : ℕ) → InLine s at i → InLine s at e
  in_over at v = rw is (over s (InLine s at) (λ j l p v. in_on s at j v l (printable_is s j p)) (printables (drop i s)) i (omega arith) v)

-- a line's end is a part of the text
module _ (s : List ℕ) (i : ℕ) (f : End) (ef : f ≡ end_at (drop i s)) where
  pub ended_here : (t : Bool) → t ≡ ends_line f → t ≡ true → end_some (drop i s) ≡ true
  ended_here t et y = ap ends_line (sym ef) ∙ sym et ∙ y

  pub not_ended : (t : Bool) → t ≡ ends_line f → t ≡ false → end_some (drop i s) ≡ false
  not_ended t et n = ap ends_line (sym ef) ∙ sym et ∙ n

  pub end_fits : length s < 2 ^ 64 → i < 2 ^ 64 → (k : ℕ) → k ≡ length (end_bytes f) → Fits w64 (i + k)
  end_fits h g k ek =
      let size : k ≡ end_size (drop i s) = ek ∙ ap (λ (e : End). length (end_bytes e)) ef in
      by (end_some (drop i s))
      (λ z. omega (arith, size, next_here s i z, next_within s i (omega (arith, end_bytes_lem s i z))))
      (λ z. omega (arith, size, none_size (drop i s) z))

-- ---- a search for a line's end, over printable bytes at once: i stands in the line that starts at `at`
pub record Inside (s : List ℕ) (at i : ℕ) : Type 0 where
  pub there : at < length s
  pub within : i ≤ length s
  pub line : InLine s at i

pub past_last : (s : List ℕ) (at : ℕ) → length s ≤ at → None ≡ span_at s at
past_last s at h = sym (span_none s at h)

pub inside_start : (s : List ℕ) (at : ℕ) → at < length s → Inside s at at
inside_start s at h = record { there = h; within = omega arith; line = in_start s at }

module _ (s : List ℕ) (at i : ℕ) (v : Inside s at i) (e : ℕ) (is : e ≡ i + printables (drop i s)) where
  pub inside_last : length s ≤ e → (r : Option Span) → r ≡ Some (record { start = at; end = e; next = e; ended = Nothing }) → r ≡ span_at s at
  inside_last h r q = q ∙ in_last s at e (in_over s i e is at v.line) v.there h

  module _ (h : e < length s) (f : End) (ef : f ≡ end_at (drop e s)) (t : Bool) (et : t ≡ ends_line f) where
    pub inside_here : t ≡ true → (k : ℕ) → k ≡ length (end_bytes f) → (r : Option Span) → r ≡ Some (record { start = at; end = e; next = e + k; ended = f })
        → r ≡ span_at s at
    inside_here y k ek r q =
        q
        ∙ rw (ek, ef) (in_here s at e (in_over s i e is at v.line) (ended_here s e f ef t et y))

    -- a byte that is not printable and ends no line
    pub inside_next : t ≡ false → Inside s at (e + 1)
    inside_next n = record { there = v.there; within = omega arith; line = in_on s at e (in_over s i e is at v.line) h (not_ended s e f ef t et n) }
