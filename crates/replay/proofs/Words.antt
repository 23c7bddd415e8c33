-- The words of a call line, read from the left. Assumes nothing.
use Prim.Native.Nat.{ℕ, zero, suc, ◌+◌, ◌≤◌, ◌<◌}
use native.Mathlib.Numerals.{add-one}
use native.Mathlib.Omega.{arith}
use mathlib.Core.Path.{◌≡◌, refl, sym, ap, ◌∙◌}
use mathlib.Core.List.{List, [], ◌∷◌, ◌++◌, append-nil, append_assoc}
use mathlib.Core.Bool.{Bool, true, false, cond, and-false}
use Rattle.std.specs.Prelude.{Option, None, Some, option_map}
use lib.ListN.{length, get_or, take, drop, set, length-append, drop_of_length-le, length-set}
use lib.Seq.{drop-cons, drop-drop, length-take-le}
use lib.Dec.{eqb}
use borrow.Author.Tests.{ne_eqb, eqb-true, le-leb, lt-leb, lt-ltb}
use Rattle.laws.proofs.Tests.{by, by_order, apart}
use Rattle.laws.proofs.Stores.{push_text}
use Rattle.lines.specs.Bytes.{digit}
use Rattle.laws.specs.Lists.{every}
use Rattle.replay.specs.Lines.{most_digits, is_number, decimal, words, onto, numbers_in, behind, numbers_behind, called, call_line, line_up_to, digits_in_front, number_from, paper_line}
use Rattle.replay.specs.declared.Number.{Number}

-- ---- the first word, and the others
unfoldable rest : List ℕ → List (List ℕ)
rest [] = []
rest (b ∷ s) = cond (eqb b 32) (words s) (rest s)

words_is : (s : List ℕ) → words s ≡ line_up_to 32 s ∷ rest s
unfolding words line_up_to rest
words_is [] = refl
words_is (b ∷ s) = by (eqb b 32) (λ p. rw p) (λ p. rw (p, words_is s))

digit_no_space : (b : ℕ) → digit b ≡ true → eqb b 32 ≡ false
digit_no_space b d = by (eqb b 32) (λ p. let e : b ≡ 32 = eqb-true b 32 p in let z : digit 32 ≡ true = rw e at d in apart (bool-apart z)) (λ p. p)
  where
    bool-apart : false ≡ true → ◌≡◌ {A = ℕ} 0 1
    bool-apart z = ap (λ (t : Bool). cond t 1 0) z

-- ---- the digits at the front of a word
up_front : (n : ℕ) (s : List ℕ) → line_up_to 32 s ≡ take (digits_in_front n s) s ++ line_up_to 32 (drop (digits_in_front n s) s)
unfolding digits_in_front line_up_to
up_front zero s = refl
up_front (suc n) [] = refl
up_front (suc n) (b ∷ s) = by (digit b) (λ d. rw (d, digit_no_space b d, ← up_front n s)) (λ d. rw d)

rest_front : (n : ℕ) (s : List ℕ) → rest s ≡ rest (drop (digits_in_front n s) s)
unfolding digits_in_front rest
rest_front zero s = refl
rest_front (suc n) [] = refl
rest_front (suc n) (b ∷ s) = by (digit b) (λ d. rw (d, digit_no_space b d, ← rest_front n s)) (λ d. rw d)

every_front : (n : ℕ) (s : List ℕ) → every digit (take (digits_in_front n s) s) ≡ true
unfolding digits_in_front every
every_front zero s = refl
every_front (suc n) [] = refl
every_front (suc n) (b ∷ s) = by (digit b) (λ d. rw (d, every_front n s, d)) (λ d. rw d)

pub length_front : (n : ℕ) (s : List ℕ) → length (take (digits_in_front n s) s) ≡ digits_in_front n s
unfolding digits_in_front
length_front zero s = refl
length_front (suc n) [] = refl
length_front (suc n) (b ∷ s) = by (digit b) (λ d. rw (d, length_front n s)) (λ d. rw d)

pub front_most : (n : ℕ) (s : List ℕ) → digits_in_front n s ≤ n
unfolding digits_in_front
front_most zero s = omega arith
front_most (suc n) [] = omega arith
front_most (suc n) (b ∷ s) = by (digit b) (λ d. let h : digits_in_front n s ≤ n = front_most n s in rw d (omega arith)) (λ d. rw d (omega arith))

-- fewer than n were counted, since no digit follows
front_stop : (n : ℕ) (s : List ℕ) → digits_in_front n s < n → digit (get_or (drop (digits_in_front n s) s) 0 0) ≡ false
unfolding digits_in_front
front_stop zero s h = let no : ⊥ = omega arith in absurd no
front_stop (suc n) [] h = refl
front_stop (suc n) (b ∷ s) h = by (digit b) (λ d. rw d (front_stop n s (less d))) (λ d. rw d d)
  where
    less : digit b ≡ true → digits_in_front n s < n
    less d = let k : suc (digits_in_front n s) < suc n = rw d at h in omega arith

every_no : (d w : List ℕ) (c : ℕ) → digit c ≡ false → every digit (d ++ (c ∷ w)) ≡ false
unfolding every
every_no [] w c e = rw e
every_no (b ∷ d) w c e = rw (every_no d w c e, and-false)

-- ---- a number behind a space
spaced : (s : List ℕ) → numbers_behind (32 ∷ s) ≡ cond (is_number (line_up_to 32 s)) (onto (decimal 0 (line_up_to 32 s)) (numbers_in (rest s))) None
unfolding numbers_behind words behind numbers_in
spaced s = rw (words_is s)

numbers_is : (s : List ℕ) → numbers_behind s ≡ behind (line_up_to 32 s ∷ rest s)
unfolding numbers_behind
numbers_is s = rw (words_is s)

-- the digits d at the front are a word if nothing but a space or the end follows
module _ (s : List ℕ) (p : 0 < digits_in_front most_digits s) where
  whole : is_number (take (digits_in_front most_digits s) s) ≡ true
  unfolding is_number
  whole = rw (length_front 10 s, every_front 10 s, lt-ltb 0 (digits_in_front 10 s) p, le-leb (digits_in_front 10 s) 10 (front_most 10 s))

  -- any other byte behind them
  module _ (c : ℕ) (t : List ℕ) (e : drop (digits_in_front most_digits s) s ≡ c ∷ t) (w : List ℕ) where
    not_whole : is_number (take (digits_in_front most_digits s) s ++ (c ∷ w)) ≡ false
    unfolding is_number
    not_whole =
        by_order (digits_in_front 10 s) 10
        (λ h. rw (every_no (take (digits_in_front 10 s) s) w c (rw e at (front_stop 10 s h)), and-false))
        λ h. let l : 10 < length (take (digits_in_front 10 s) s ++ (c ∷ w)) = rw (length-append (take (digits_in_front 10 s) s) (c ∷ w), length_front 10 s) (omega arith) in rw (lt-leb _ 10 l, and-false)

  goes : (t : List ℕ) → drop (digits_in_front most_digits s) s ≡ t
      → cond (is_number (take (digits_in_front most_digits s) s ++ line_up_to 32 t)) (onto (decimal 0 (take (digits_in_front most_digits s) s ++ line_up_to 32 t)) (numbers_in (rest t))) None
      ≡ onto (decimal 0 (take (digits_in_front most_digits s) s)) (behind (line_up_to 32 t ∷ rest t))
  unfolding line_up_to behind onto
  goes [] e = rw (append-nil (take (digits_in_front 10 s) s), whole)
  goes (c ∷ t) e =
      by (eqb c 32) (λ q. rw (q, append-nil (take (digits_in_front 10 s) s), whole)) (λ q. rw (q, not_whole c t e (line_up_to 32 t)))

  numbers_on : numbers_behind (32 ∷ s) ≡ onto (decimal 0 (take (digits_in_front most_digits s) s)) (numbers_behind (drop (digits_in_front most_digits s) s))
  numbers_on =
      spaced s ∙ rw (up_front 10 s, rest_front 10 s) (goes (drop (digits_in_front 10 s) s) refl) ∙ ap (onto (decimal 0 (take (digits_in_front 10 s) s))) (sym (numbers_is (drop (digits_in_front 10 s) s)))

-- no digit behind the space
no_word : (s : List ℕ) → digits_in_front most_digits s ≡ 0 → is_number (line_up_to 32 s) ≡ false
unfolding is_number line_up_to every digits_in_front
no_word [] e = refl
no_word (b ∷ s) e = by (eqb b 32) (λ p. rw p) (λ p. rw (p, no_digit, and-false))
  where
    no_digit : digit b ≡ false
    no_digit = by (digit b) (λ d. let z : suc (digits_in_front 9 s) ≡ 0 = rw d at e in let no : ⊥ = omega arith in absurd no) (λ d. d)

numbers_none : (s : List ℕ) → digits_in_front most_digits s ≡ 0 → numbers_behind (32 ∷ s) ≡ None
numbers_none s e = spaced s ∙ rw (no_word s e)

numbers_wrong : (b : ℕ) (s : List ℕ) → (b ≡ 32 → ⊥) → numbers_behind (b ∷ s) ≡ None
unfolding numbers_behind words behind
numbers_wrong b s n = rw (ne_eqb b 32 n, words_is s)

-- ---- the loop: these numbers are read, and the line goes on at `at`
unfoldable pub joined : List ℕ → Option (List ℕ) → Option (List ℕ)
joined d None = None
joined d (Some ns) = Some (d ++ ns)

joined_on : (d : List ℕ) (v : ℕ) (o : Option (List ℕ)) → joined d (onto v o) ≡ joined (d ++ (v ∷ [])) o
unfolding joined onto
joined_on d v None = refl
joined_on d v (Some ns) = rw (append_assoc d (v ∷ []) ns)

pub record Spells (line numbers : List ℕ) (count at : ℕ) : Type 0 where
  pub most : count ≤ 5
  pub long : length numbers ≡ 5
  pub low : 1 ≤ at
  pub high : at ≤ length line
  pub is : numbers_behind (drop 1 line) ≡ joined (take count numbers) (numbers_behind (drop at line))

joined_nil : (o : Option (List ℕ)) → o ≡ joined [] o
unfolding joined
joined_nil None = refl
joined_nil (Some ns) = refl

pub spells_start : (line numbers : List ℕ) → length numbers ≡ 5 → (length line ≡ 0 → ⊥) → Spells line numbers 0 1
spells_start line numbers e n = record { most = omega arith; long = e; low = omega arith; high = by_order 0 (length line) (λ h. omega arith) (λ h. absurd (n (omega arith))); is = joined_nil _ }

call_is : (line : List ℕ) → 1 ≤ length line → call_line line ≡ called (get_or line 0 0) (numbers_behind (drop 1 line))
unfolding call_line
call_is [] h = let no : ⊥ = omega arith in absurd no
call_is (k ∷ s) h = refl

pub spells_empty : (line : List ℕ) → length line ≡ 0 → option_map paper_line None ≡ call_line line
unfolding call_line
spells_empty [] e = refl
spells_empty (b ∷ s) e = let no : ⊥ = omega arith in absurd no

module _ (line numbers : List ℕ) (count at : ℕ) (v : Spells line numbers count at) where
  nothing : called (get_or line 0 0) (numbers_behind (drop 1 line)) ≡ None → option_map paper_line None ≡ call_line line
  nothing e = rw (call_is line (omega (arith, v.low, v.high)), e)

  pub spells_done : length line ≤ at → option_map paper_line (Some (record { kind = get_or line 0 0; count = count; numbers = numbers })) ≡ call_line line
  unfolding numbers_behind words behind numbers_in joined called
  spells_done h =
      let l : length (take count numbers) ≡ count = length-take-le count numbers (omega (arith, v.most, v.long)) in
      rw (call_is line (omega (arith, v.low, v.high)), v.is, drop_of_length-le line h, append-nil (take count numbers), l, le-leb count 5 v.most)

  module _ (h : at < length line) where
    here : drop at line ≡ get_or line at 0 ∷ drop (at + 1) line
    here = rw add-one (drop-cons line at 0 h)

    pub spells_wrong : (get_or line at 0 ≡ 32 → ⊥) → option_map paper_line None ≡ call_line line
    unfolding joined called
    spells_wrong n = nothing (rw (v.is, here, numbers_wrong (get_or line at 0) (drop (at + 1) line) n))

    module _ (e : get_or line at 0 ≡ 32) where
      space : drop at line ≡ 32 ∷ drop (at + 1) line
      space = rw (← e) here

      too_many : (d : List ℕ) (o : Option (List ℕ)) (n k : ℕ) (t : Bool) → length d ≡ 5 → called k (joined d (cond t (onto n o) None)) ≡ None
      unfolding joined called onto
      too_many d o n k false l = refl
      too_many d None n k true l = refl
      too_many d (Some ns) n k true l = rw (lt-leb (length (d ++ (n ∷ ns))) 5 (rw (length-append d (n ∷ ns), l) (omega arith)))

      pub spells_many : count ≡ 5 → option_map paper_line None ≡ call_line line
      spells_many m =
          let l : length (take count numbers) ≡ 5 = length-take-le count numbers (omega (arith, v.long)) ∙ m in
          nothing (rw (v.is, space, spaced (drop (at + 1) line)) (too_many (take count numbers) (numbers_in (rest (drop (at + 1) line))) (decimal 0 (line_up_to 32 (drop (at + 1) line))) (get_or line 0 0) (is_number (line_up_to 32 (drop (at + 1) line))) l))

      module _ (n : Number) (en : n ≡ number_from line (at + 1)) where
        ends : n.end ≡ at + 1 + digits_in_front most_digits (drop (at + 1) line)
        ends = ap (λ (x : Number). x.end) en

        pub spells_none : n.end ≡ at + 1 → option_map paper_line None ≡ call_line line
        unfolding joined called
        spells_none z = nothing (rw (v.is, space, numbers_none (drop (at + 1) line) (omega (arith, ends))))

        pub spells_on : (count ≡ 5 → ⊥) → (n.end ≡ at + 1 → ⊥) → n.end ≤ length line → Spells line (set numbers count n.value) (count + 1) n.end
        spells_on m z k =
            record {
              most = by_order count 5 (λ h. omega arith) (λ h. absurd (m (omega (arith, v.most))));
              long = length-set numbers count n.value ∙ v.long;
              low = omega (arith, ends);
              high = k;
              is = v.is ∙ turn;
            }
          where
            q : 0 < digits_in_front most_digits (drop (at + 1) line)
            q = by_order 0 (digits_in_front 10 (drop (at + 1) line)) (λ h. h) (λ h. absurd (z (omega (arith, ends))))

            c : count < length numbers
            c = by_order count 5 (λ h. omega (arith, v.long)) (λ h. absurd (m (omega (arith, v.most))))

            turn : joined (take count numbers) (numbers_behind (drop at line)) ≡ joined (take (count + 1) (set numbers count n.value)) (numbers_behind (drop n.end line))
            turn =
                rw (
                  space,
                  numbers_on (drop (at + 1) line) q,
                  joined_on (take count numbers),
                  push_text numbers count n.value c,
                  ends,
                  drop-drop (digits_in_front most_digits (drop (at + 1) line)) (at + 1) line,
                )
                (ap (λ (x : ℕ). joined (take count numbers ++ (x ∷ [])) (numbers_behind (drop (at + 1 + digits_in_front most_digits (drop (at + 1) line)) line))) (sym (ap (λ (x : Number). x.value) en)))
