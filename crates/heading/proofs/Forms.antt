-- Line 1 and line 2, by their bytes: one law for each way out of the code. Assumes nothing.
use Rattle.std.specs.Prelude.{None, Some, option_map}
use Prim.Native.Nat.{ℕ, zero, suc, ◌-◌, ◌≤◌, ◌<◌, suc-le-suc}
use native.Mathlib.Omega.{arith}
use mathlib.Core.Path.{◌≡◌, refl, sym, ap, ◌∙◌}
use mathlib.Core.List.{List, [], ◌∷◌, ◌++◌}
use mathlib.Core.Bool.{Bool, true, false, cond, ◌&&◌, ◌||◌, and-true, and-false, and_assoc}
use lib.ListN.{length, get_or, take, drop, length-drop}
use lib.Seq.{drop-drop, take_all}
use lib.Dec.{eqb}
use Rattle.std.proofs.lemmas.List.{nil_from_length}
use borrow.Author.Tests.{ne_eqb}
use Rattle.codes.proofs.Forms.{at_byte}
use Rattle.laws.proofs.Tests.{by, apart, impossible, and_right}
use Rattle.std.specs.List.{list_all}
use Rattle.lines.specs.Bytes.{Kind, capital, digit, word, begins, exactly}
use Rattle.lines.proofs.Strings.{begins_append, exactly_is}
use Rattle.calendar.specs.Calendar.{is_time}
use Rattle.codes.specs.Places.{two_of}
use Rattle.codes.specs.Elements.{stamp_of}
use Rattle.heading.specs.Heading.{times, heading_form, is_heading, bbb_after, heading_of, is_identifier}
use Rattle.heading.specs.Paper.{bbb_form, is_amendment, paper_bbb}
use Rattle.heading.specs.declared.Bbb.{Bbb}
use Rattle.std.specs.Prelude.{Option}

-- ---- bytes of one kind, as std tests them
run_all : (k : Kind) (n : ℕ) (t : List ℕ) → n ≤ length t → list_all k (take n t) ≡ begins (times n k) t
unfolding begins
run_all k zero t h = refl
run_all k (suc n) [] h = impossible (omega arith)
run_all k (suc n) (b ∷ t) h = ap (λ (x : Bool). k b && x) (run_all k n t (omega arith))

pub run_in : (s : List ℕ) (from to : ℕ) (k : Kind) (p : List ℕ) → p ≡ take (to - from) (drop from s) → to ≤ length s → list_all k p ≡ begins (times (to - from) k) (drop from s)
run_in s from to k p e l = ap (list_all k) e ∙ run_all k (to - from) (drop from s) (omega (arith, length-drop from s))

run_no : (k : Kind) (n : ℕ) (t : List ℕ) → length t < n → false ≡ begins (times n k) t
unfolding begins
run_no k zero t h = impossible (omega arith)
run_no k (suc n) [] h = refl
run_no k (suc n) (b ∷ t) h = rw (← run_no k n t (omega arith)) (sym (and-false (k b)))

pub run_short : (s : List ℕ) (from to : ℕ) (k : Kind) → from < to → length s < to → false ≡ begins (times (to - from) k) (drop from s)
run_short s from to k h l = run_no k (to - from) (drop from s) (omega (arith, length-drop from s))

-- ---- `TTAAii CCCC DDHHMM`
pub headed_is : (s : List ℕ) → begins heading_form s ≡
    (begins (times 4 capital) s && begins (times 2 digit) (drop 4 s) && eqb (get_or s 6 0) 32
    && begins (times 4 capital) (drop 7 s) && eqb (get_or s 11 0) 32 && begins (times 6 digit) (drop 12 s))
headed_is s =
    simp (begins_append (times 4 capital) (times 2 digit ++ (word " " ++ (times 4 capital ++ (word " " ++ times 6 digit)))) s, begins_append (times 2 digit) (word " " ++ (times 4 capital ++ (word " " ++ times 6 digit))) (drop 4 s), begins_append (word " ") (times 4 capital ++ (word " " ++ times 6 digit)) (drop 6 s), begins_append (times 4 capital) (word " " ++ times 6 digit) (drop 7 s), begins_append (word " ") (times 6 digit) (drop 11 s), drop-drop, at_byte s 6 32 refl, at_byte s 11 32 refl, and_assoc)

-- ---- line 1
exactly_append : (js ks : List Kind) (s : List ℕ) → exactly (js ++ ks) s ≡ (begins js s && exactly ks (drop (length js) s))
unfolding begins exactly
exactly_append [] ks s = refl
exactly_append (j ∷ js) ks [] = refl
exactly_append (j ∷ js) ks (b ∷ s) = ap (λ (t : Bool). j b && t) (exactly_append js ks s) ∙ sym (and_assoc (j b) _ _)

gather : (h a b c d : Bool) → (h && a || h && b || h && c || h && d) ≡ (h && (a || (b || c || d)))
gather true false b c d = refl
gather true true b c d = refl
gather false a b c d = refl

module _ (s : List ℕ) where
  form_is : is_heading s ≡ (begins heading_form s && (exactly [] (drop 18 s) || is_amendment (drop 18 s)) && is_time (stamp_of (drop 12 s)))
  unfolding is_heading is_amendment
  form_is =
      let e : exactly heading_form s ≡ (begins heading_form s && exactly [] (drop 18 s)) = exactly_append heading_form [] s in
      rw (e, exactly_append heading_form (bbb_form "AA") s, exactly_append heading_form (bbb_form "CC") s, exactly_append heading_form (bbb_form "RR") s)
      (ap (λ (t : Bool). t && is_time (stamp_of (drop 12 s))) (gather (begins heading_form s) (exactly [] (drop 18 s)) (exactly (bbb_form "AA") (drop 18 s)) (exactly (bbb_form "CC") (drop 18 s)) (exactly (bbb_form "RR") (drop 18 s))))

begins_long : (ks : List Kind) (s : List ℕ) → begins ks s ≡ true → length ks ≤ length s
unfolding begins
begins_long [] s e = omega arith
begins_long (k ∷ ks) [] e = apart cc
begins_long (k ∷ ks) (b ∷ s) e = suc-le-suc (begins_long ks s (and_right (k b) (begins ks s) e))

-- what is not empty
not_empty : (r : List ℕ) → 1 ≤ length r → exactly [] r ≡ false
unfolding exactly
not_empty [] l = impossible (omega arith)
not_empty (b ∷ r) l = refl

something : (r : List ℕ) → 1 ≤ length r → ◌≡◌ {A = Option (List ℕ)} None (bbb_after r) → ⊥
something [] l e = omega arith
something (b ∷ r) l e = cc

pub headed_long : (s : List ℕ) → begins heading_form s ≡ true → 18 ≤ length s
headed_long s e = begins_long heading_form s e

module _ (s : List ℕ) (h : Bool) (eh : h ≡ begins heading_form s) (d o m : ℕ) (ed : d ≡ two_of (drop 12 s)) (eo : o ≡ two_of (drop 14 s)) (em : m ≡ two_of (drop 16 s)) where
  stamp_is : record { day = d; hour = o; minute = m } ≡ stamp_of (drop 12 s)
  stamp_is =
      let p : o ≡ two_of (drop 2 (drop 12 s)) = rw drop-drop eo in
      let q : m ≡ two_of (drop 4 (drop 12 s)) = rw drop-drop em in
      λ i. record { day = ed i; hour = p i; minute = q i }

  pub heading_bare : h ≡ false → None ≡ heading_of s
  unfolding heading_of
  heading_bare n = rw (form_is s, ← eh, n)

  module _ (t : Bool) (et : t ≡ is_time (record { day = d; hour = o; minute = m })) where
    pub heading_untimed : t ≡ false → None ≡ heading_of s
    unfolding heading_of
    heading_untimed n = rw (form_is s, ← stamp_is, ← et, n, and-false)

    module _ (y : h ≡ true) (z : t ≡ true) (r : List ℕ) (er : r ≡ take (length s - 18) (drop 18 s)) where
      there : drop 18 s ≡ r
      there = sym (er ∙ take_all (length s - 18) (drop 18 s) (omega (arith, length-drop 18 s)))

      with_rest : (u : Bool) → (exactly [] r || is_amendment r) ≡ u → heading_of s ≡ cond u (Some (record { stamp = record { day = d; hour = o; minute = m }; bbb = bbb_after r })) None
      unfolding heading_of
      with_rest u e = rw (form_is s, ← stamp_is, ← et, z, ← eh, y, there, e, and-true)

      pub heading_plain : length r < 1 → Some (record { stamp = record { day = d; hour = o; minute = m }; bbb = None }) ≡ heading_of s
      unfolding exactly
      heading_plain l = let e : r ≡ [] = nil_from_length r (omega arith) in rw (with_rest true (rw e), e)

      module _ (l : 1 ≤ length r) (x : Option Bbb) (ex : option_map paper_bbb x ≡ cond (is_amendment r) (bbb_after r) None) where
        pub heading_wrong : x ≡ None → None ≡ heading_of s
        heading_wrong n =
            by (is_amendment r) (λ p. impossible (something r l (rw (n, p) at ex)))
            (λ p. rw (with_rest false (rw (not_empty r l) p)))

        pub heading_amended : (b : List ℕ) → option_map paper_bbb x ≡ Some b → Some (record { stamp = record { day = d; hour = o; minute = m }; bbb = Some b }) ≡ heading_of s
        heading_amended b e =
            by (is_amendment r) (λ p. let e' : Some b ≡ bbb_after r = rw (e, p) at ex in rw (with_rest true (rw (not_empty r l) p), ← e'))
            (λ p. let z : Some b ≡ None = rw (e, p) at ex in apart cc)

-- ---- line 2
pub identifier_long : (s : List ℕ) → 7 ≤ length s → false ≡ is_identifier s
unfolding is_identifier
identifier_long s h = simp (exactly_is, ne_eqb (length s) 6 (λ e. omega arith))
