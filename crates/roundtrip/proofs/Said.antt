-- What each written element says, and which bytes it has. Assumes nothing.
use Prim.Native.Nat.{ℕ, zero, suc, ◌+◌, ◌-◌, ◌*◌, ◌/◌, ◌%◌, ◌≤◌, ◌<◌}
use native.Mathlib.Omega.{arith}
use mathlib.Core.Path.{◌≡◌, refl, ap, ◌∙◌}
use mathlib.Core.Bool.{Bool, true, false, cond}
use mathlib.Core.List.{List, [], ◌∷◌, ◌++◌}
use Rattle.std.specs.Prelude.{Option, None, Some}
use lib.ListN.{length}
use lib.Dec.{eqb}
use borrow.Author.Tests.{ne_eqb, le-leb, lt-leb, lt-ltb, eqb-true, eqb-false}
use Rattle.laws.proofs.Tests.{by, either_way}
use Rattle.lines.specs.Bytes.{bytes, capital, digit, one_of, begins, exactly}
use Rattle.lines.specs.Lines.{opens}
use Rattle.calendar.specs.Calendar.{is_time}
use Rattle.calendar.proofs.Laws.{time_true}
use Rattle.calendar.specs.declared.Stamp.{Stamp}
use Rattle.codes.specs.Places.{prefix_of, three_of, two_bytes, three_bytes, prefix_bytes, prefixes, places_end}
use Rattle.codes.specs.Elements.{covers, purge, numbers, time, short, said}
use Rattle.codes.specs.Written.{new_prefix, up_to, Run, element_of, purge_element, written_most}
use Rattle.writing.proofs.Bound.{element_most_lem, purge_most}
use Rattle.roundtrip.proofs.Split.{Word, ends, byte}

-- ---- digits and letters
digit_of : (x : ℕ) → x < 10 → digit (48 + x) ≡ true
digit_of x h = rw (le-leb 48 (48 + x) (omega arith), le-leb (48 + x) 57 (omega arith))

pub no_capital : (x : ℕ) → x < 10 → capital (48 + x) ≡ false
no_capital x h = rw (lt-leb 65 (48 + x) (omega arith))

pub capital_of : (x : ℕ) → x < 26 → capital (65 + x) ≡ true
capital_of x h = rw (le-leb 65 (65 + x) (omega arith), le-leb (65 + x) 90 (omega arith))

no_digit : (x : ℕ) → digit (65 + x) ≡ false
no_digit x = rw (le-leb 48 (65 + x) (omega arith), lt-leb (65 + x) 57 (omega arith))

pub letter : (t : Bool) → one_of "CZ" (cond t 67 90) ≡ true
letter t = either_way (λ (b : ℕ). one_of "CZ" b ≡ true) t refl refl

two_back : (n : ℕ) → n < 100 → 10 * (48 + n / 10 - 48) + (48 + n % 10 - 48) ≡ n
two_back n h = omega arith

pub three_back : (n : ℕ) → n < 1000 → three_of (three_bytes n) ≡ n
three_back n h = omega arith

pub prefix_back : (p : ℕ) → prefix_of (prefix_bytes p) ≡ p
prefix_back p =
    by (eqb (p % 2) 0)
    (λ e. let z = eqb-true (p % 2) 0 e in rw e (omega arith))
    λ e. let z : p % 2 ≡ 0 → ⊥ = eqb-false (p % 2) 0 e in rw e (omega arith)

-- ---- numbers
module _ (p n : ℕ) (h : n < 1000) where
  hundreds : digit (48 + n / 100) ≡ true
  hundreds = digit_of (n / 100) (omega arith)

  tens : digit (48 + n / 10 % 10) ≡ true
  tens = digit_of (n / 10 % 10) (omega arith)

  ones : digit (48 + n % 10) ≡ true
  ones = digit_of (n % 10) (omega arith)

  numbers_single : numbers p (three_bytes n ++ bytes "-") ≡ covers p n n
  unfolding numbers exactly
  numbers_single = rw (hundreds, tens, ones) (ap (λ (x : ℕ). covers p x x) (three_back n h))

  module _ (m : ℕ) (k : m < 1000) (one : 1 ≤ n) (less : n < m) where
    numbers_range : numbers p (three_bytes n ++ (bytes ">" ++ (three_bytes m ++ bytes "-"))) ≡ covers p n m
    unfolding numbers exactly
    numbers_range =
        rw (hundreds, tens, ones, digit_of (m / 100) (omega arith), digit_of (m / 10 % 10) (omega arith), digit_of (m % 10) (omega arith))
        (rw (ne_eqb (48 + n / 100) 65 (omega arith), three_back n h, three_back m k, le-leb 1 n one, lt-ltb n m less))

  -- three digits and no fourth: under the last prefix
  said_short : (y : ℕ) (t : List ℕ) → digit y ≡ false → said (Some p) (three_bytes n ++ (y ∷ t)) ≡ numbers p (three_bytes n ++ (y ∷ t))
  unfolding said exactly begins short
  said_short y t f = rw (hundreds, tens, ones, f) (rw (no_capital (n / 100) (omega arith)))

-- ---- a prefix
said_full : (last : Option ℕ) (p : ℕ) (s : List ℕ) → p < prefixes → said last (prefix_bytes p ++ s) ≡ numbers p s
unfolding said exactly begins
said_full last p s h =
    rw (no_digit (p / 52), capital_of (p / 52) (omega arith), capital_of (p / 2 % 26) (omega arith), letter (eqb (p % 2) 0))
    (ap (λ (x : ℕ). numbers x s) (prefix_back p))

-- ---- the purge
pub said_purge : (last : Option ℕ) (s : Stamp) → is_time s ≡ true → said last (purge_element s) ≡ purge s
unfolding said exactly time purge_element
said_purge last s e =
    let r = time_true s e in
    let d : ℕ = s.day in
    let h : ℕ = s.hour in
    let m : ℕ = s.minute in
    rw (digit_of (d / 10) (omega arith), digit_of (d % 10) (omega arith), digit_of (h / 10) (omega arith), digit_of (h % 10) (omega arith), digit_of (m / 10) (omega arith), digit_of (m % 10) (omega arith))
    (rw (two_back d (omega arith), two_back h (omega arith), two_back m (omega arith), e))

-- ---- a whole element
-- the numbers of a span stay under one prefix, and 000 is alone
pub record Fine (r : Run) : Type 0 where
  pub below : r.first < places_end
  pub within : r.first % 1000 + r.more ≤ 999
  pub high : 1 ≤ r.more → 1 ≤ r.first % 1000

abbrev tail_of : ℕ → ℕ → List ℕ
tail_of n k = three_bytes n ++ (up_to n k ++ bytes "-")

numbers_tail : (p n k : ℕ) → n + k ≤ 999 → (1 ≤ k → 1 ≤ n) → numbers p (tail_of n k) ≡ covers p n (n + k)
numbers_tail p n zero h g = numbers_single p n (omega arith) ∙ ap (λ (x : ℕ). covers p n x) (omega arith)
numbers_tail p n (suc k) h g = numbers_range p n (omega arith) (n + suc k) (omega arith) (g (omega arith)) (omega arith)

short_tail : (p n k : ℕ) → n + k ≤ 999 → said (Some p) (tail_of n k) ≡ numbers p (tail_of n k)
short_tail p n zero h = said_short p n (omega arith) 45 [] refl
short_tail p n (suc k) h = said_short p n (omega arith) 62 _ refl

said_headed : (last : Option ℕ) (p n k : ℕ) → p < prefixes → n + k ≤ 999 → said last (new_prefix last p ++ tail_of n k) ≡ numbers p (tail_of n k)
said_headed None p n k h g = said_full None p (tail_of n k) h
said_headed (Some q) p n k h g =
    by (eqb q p) (λ e. rw (e, eqb-true q p e) (short_tail p n k g))
    λ e. rw e (said_full (Some q) p (tail_of n k) h)

pub said_element : (last : Option ℕ) (r : Run) → Fine r → said last (element_of last r) ≡ covers (r.first / 1000) (r.first % 1000) (r.first % 1000 + r.more)
unfolding element_of
said_element last r f =
    said_headed last (r.first / 1000) (r.first % 1000) r.more (omega (arith, f.below)) f.within
    ∙ numbers_tail (r.first / 1000) (r.first % 1000) r.more f.within f.high

-- ---- and its bytes
word_three : (n : ℕ) {t : List ℕ} → Word t → Word (three_bytes n ++ t)
word_three n w = byte {b = 48 + n / 100} (omega arith) (byte {b = 48 + n / 10 % 10} (omega arith) (byte {b = 48 + n % 10} (omega arith) w))

word_two : (n : ℕ) {t : List ℕ} → Word t → Word (two_bytes n ++ t)
word_two n w = byte {b = 48 + n / 10} (omega arith) (byte {b = 48 + n % 10} (omega arith) w)

high_letter : (t : Bool) → 46 ≤ cond t 67 90
high_letter true = omega arith
high_letter false = omega arith

word_prefix : (p : ℕ) {t : List ℕ} → Word t → Word (prefix_bytes p ++ t)
word_prefix p w = byte {b = 65 + p / 52} (omega arith) (byte {b = 65 + p / 2 % 26} (omega arith) (byte (high_letter (eqb (p % 2) 0)) w))

word_tail : (n k : ℕ) → Word (tail_of n k)
word_tail n zero = word_three n ends
word_tail n (suc k) = word_three n (byte {b = 62} (omega arith) (word_three (n + suc k) ends))

word_headed : (last : Option ℕ) (p : ℕ) {t : List ℕ} → Word t → Word (new_prefix last p ++ t)
word_headed None p w = word_prefix p w
word_headed (Some q) p {t} w = either_way (λ (x : List ℕ). Word (x ++ t)) (eqb q p) w (word_prefix p w)

pub word_element : (last : Option ℕ) (r : Run) → Word (element_of last r)
unfolding element_of
word_element last r = word_headed last (r.first / 1000) (word_tail (r.first % 1000) r.more)

pub word_purge : (s : Stamp) → Word (purge_element s)
unfolding purge_element
word_purge s = word_two s.day (word_two s.hour (word_two s.minute ends))

-- ---- no element is longer than a line
pub element_short : (last : Option ℕ) (r : Run) → length (element_of last r) ≤ written_most
element_short last r = omega (arith, element_most_lem last r)

pub purge_short : (s : Stamp) → length (purge_element s) ≤ written_most
purge_short s = omega (arith, purge_most s)

-- ---- a line that starts with a whole element opens a block
opens_bytes : (p n y : ℕ) (t : List ℕ) → p < prefixes → n < 1000 → one_of "->" y ≡ true → opens (prefix_bytes p ++ (three_bytes n ++ (y ∷ t))) ≡ true
unfolding opens begins
opens_bytes p n y t h k e =
    rw (capital_of (p / 52) (omega arith), capital_of (p / 2 % 26) (omega arith), letter (eqb (p % 2) 0), hundreds p n k, tens p n k, ones p n k, e)

opens_tail : (p n k : ℕ) (t : List ℕ) → p < prefixes → n < 1000 → opens ((prefix_bytes p ++ tail_of n k) ++ t) ≡ true
opens_tail p n zero t h g = opens_bytes p n 45 t h g refl
opens_tail p n (suc k) t h g = opens_bytes p n 62 _ h g refl

pub element_opens : (r : Run) → Fine r → (t : List ℕ) → opens (element_of None r ++ t) ≡ true
unfolding element_of
element_opens r f t = opens_tail (r.first / 1000) (r.first % 1000) r.more t (omega (arith, f.below)) (omega arith)
