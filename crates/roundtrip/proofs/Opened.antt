-- A block whose first line opens a block covers a place. Assumes nothing.
use Prim.Native.Nat.{ℕ, ◌≤◌}
use native.Mathlib.Omega.{arith}
use mathlib.Core.Path.{◌≡◌, refl, sym, ap, ◌∙◌, subst}
use mathlib.Core.Bool.{true, false, cond, ◌&&◌, ◌||◌}
use mathlib.Core.List.Memᴰ
use mathlib.Core.List.{List, [], ◌∷◌, ◌++◌, Memᴰ}
use Rattle.std.specs.Prelude.{Option, None, Some}
use lib.ListN.{length, drop}
use lib.Dec.{leb, eqb}
use borrow.Author.Tests.{leb-true, lt-leb}
use Rattle.laws.proofs.Tests.{by, apart, either_way, and_left}
use Rattle.lines.specs.Bytes.{capital, word, begins, exactly}
use Rattle.lines.specs.Lines.{Line, prefix_form, three_digits, opens}
use Rattle.lines.proofs.Ends.{first_piece, pieces_first}
use Rattle.calendar.specs.declared.Stamp.{Stamp}
use Rattle.codes.specs.Places.{place_of, three_of, prefix_of}
use Rattle.codes.specs.Elements.{Element, elements_at, elements_of_body, elements_of_lines, elements_from, dash, Said, purge, purge_form, single_form, range_form, is_range, numbers, short, said}
use Rattle.codes.specs.Block.{block, read_block, here}
use Rattle.codes.proofs.Bounds.{covers_low}
use Rattle.roundtrip.specs.Round.{Opens}
use Rattle.roundtrip.proofs.Covered.{Told, told_purge, told_more, told, covered_in}

-- ---- an element that starts with a capital is no purge
numbers_no : (p : ℕ) (s : List ℕ) (u : Stamp) → numbers p s ≡ purge u → ⊥
unfolding numbers
numbers_no p s u =
    either_way (λ (r : Said). r ≡ purge u → ⊥) (exactly single_form s) (λ e. apart cc)
    (either_way (λ (r : Said). r ≡ purge u → ⊥) (exactly (word "ALL-") s) (λ e. apart cc)
    (either_way (λ (r : Said). r ≡ purge u → ⊥) (exactly range_form s && is_range (three_of s) (three_of (drop 4 s))) (λ e. apart cc) (λ e. apart cc)))

short_no : (last : Option ℕ) (s : List ℕ) (u : Stamp) → short last s ≡ purge u → ⊥
unfolding short
short_no None s u e = apart cc
short_no (Some p) s u e = numbers_no p s u e

digit_no : (b : ℕ) (s : List ℕ) → capital b ≡ true → exactly purge_form (b ∷ s) ≡ false
unfolding exactly
digit_no b s e =
    let low : 65 ≤ b = leb-true 65 b (and_left (leb 65 b) (leb b 90) e) in
    let high : leb b 57 ≡ false = lt-leb b 57 (omega arith) in
    by (leb 48 b) (λ t. rw (t, high)) (λ t. rw t)

purge_no : (last : Option ℕ) (b : ℕ) (s : List ℕ) (u : Stamp) → capital b ≡ true → said last (b ∷ s) ≡ purge u → ⊥
unfolding said
purge_no last b s u c e =
    let f : cond (begins prefix_form (b ∷ s)) (numbers (prefix_of (b ∷ s)) (drop 3 (b ∷ s))) (short last (b ∷ s)) ≡ purge u = rw (digit_no b s c) at e in
    by (begins prefix_form (b ∷ s))
    (λ t. numbers_no (prefix_of (b ∷ s)) (drop 3 (b ∷ s)) u (rw t at f))
    (λ t. short_no last (b ∷ s) u (rw t at f))

-- ---- the first element of a line that opens a block
-- elements the first of which starts with a capital
record Capital (es : List Element) : Type 0 where
  pub first : Element
  pub after : List Element
  pub are : es ≡ first ∷ after
  pub byte : ℕ
  pub bytes : List ℕ
  pub starts : first.bytes ≡ byte ∷ bytes
  pub capital : capital byte ≡ true

opens_capital : (b : ℕ) (s : List ℕ) → opens (b ∷ s) ≡ true → capital b ≡ true
unfolding opens begins
opens_capital b s e =
    let front = begins prefix_form (b ∷ s) in
    let number = begins three_digits (drop 2 s) || begins (word "ALL") (drop 2 s) in
    and_left (capital b) _ (and_left front number (and_left (front && number) _ e))

first_byte : (b : ℕ) (s : List ℕ) → (t : List ℕ) × (first_piece dash (b ∷ s) ≡ b ∷ t)
unfolding first_piece
first_byte b s = either_way (λ (x : List ℕ). (t : List ℕ) × (x ≡ b ∷ t)) (eqb b dash) ([], refl) (first_piece dash s, refl)

body_capital : (at : ℕ) (s : List ℕ) (es : List Element) → opens s ≡ true → Capital (elements_of_body at s ++ es)
unfolding opens begins elements_at
body_capital at [] es e = apart cc
body_capital at (b ∷ s) es e =
    let f = first_byte b s in
    record {
      first = _;
      after = _;
      are = ap (λ (ps : List (List ℕ)). elements_at at ps ++ es) (pieces_first dash b s);
      byte = b;
      bytes = f.0;
      starts = f.1;
      capital = opens_capital b s e;
    }

-- ---- a block that opens
opens_elements : (text : List ℕ) (at : ℕ) → Opens text at → Capital (elements_from at (drop at text))
unfolding elements_of_lines
opens_elements text at o =
    subst (λ (ls : List Line). Capital (elements_of_lines ls)) (sym o.are)
    (body_capital o.line.start o.line.body (elements_of_lines o.lines) o.passes)

member_long : (q : ℕ) (ps : List ℕ) → Memᴰ q ps → 1 ≤ length ps
member_long q [] m = absurd (Memᴰ.not-nil m)
member_long q (p ∷ ps) m = omega arith

told_long : {s : Stamp} {ps : List ℕ} {es : List Element} → Capital es → Told s ps None [] es → 1 ≤ length ps
told_long {s} {ps} c t = go c.first c.after c.starts (subst (Told s ps None []) c.are t)
  where
    go : (e : Element) (es : List Element) → e.bytes ≡ c.byte ∷ c.bytes → Told s ps None [] (e ∷ es) → 1 ≤ length ps
    go e es b (told_purge a g) = absurd (purge_no None c.byte c.bytes s c.capital (ap (said None) (sym b) ∙ a))
    go e es b (told_more p n m a r) =
        let low = covers_low None e.bytes p n m tt a in
        member_long (place_of p n) ps (covered_in (place_of p n) (told_more {e = e} {es = es} p n m a r) (here {e = e} {es = es} p n m a (omega arith) (omega (arith, low.order))))

-- it covers a place
pub opened_long : (text : List ℕ) (at : ℕ) (ps : List ℕ) (s : Stamp) (z : ℕ) → Opens text at → read_block text at ≡ block ps s z → 1 ≤ length ps
unfolding read_block
opened_long text at ps s z o e = told_long (opens_elements text at o) (told (length text) z None [] (elements_from at (drop at text)) e)
