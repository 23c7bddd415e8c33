-- What an element covers or says, by the bytes at its place: one law for each way out of the code. Assumes nothing.
use Prim.Native.Nat.{ℕ, ◌≤◌, ◌<◌, ◌+◌, ◌-◌, ◌*◌}
use native.Mathlib.Nat.{add-zero}
use native.Mathlib.Omega.{arith}
use mathlib.Core.Path.{◌≡◌, refl, sym, ap, ◌∙◌}
use mathlib.Core.List.{List, [], ◌∷◌, ◌++◌}
use mathlib.Core.Bool.{Bool, true, false, cond, ◌&&◌, and-true, and-false, and_assoc}
use Rattle.std.specs.Prelude.{Option, None, Some}
use lib.ListN.{length, get_or, drop, length-drop, drop_of_length-le}
use lib.Seq.{get_or-drop, drop-drop}
use lib.Dec.{ltb, leb, eqb}
use borrow.Author.Tests.{eq-eqb, ne_eqb}
use Rattle.laws.proofs.Tests.{by, apart, impossible, either_way, and_left}
use Rattle.lines.specs.Bytes.{Kind, capital, digit, one_of, word, literally, begins, exactly}
use Rattle.lines.specs.Lines.{prefix_form, three_digits}
use Rattle.lines.proofs.Strings.{begins_is, begins_append, exactly_is}
use Rattle.calendar.specs.Calendar.{is_time}
use Rattle.calendar.specs.declared.Stamp.{Stamp}
use Rattle.codes.specs.Places.{prefix_of, two_of, three_of}
use Rattle.codes.specs.Elements.{single_form, range_form, purge_form, numbers, stamp_of, time, short, said}
use Rattle.codes.specs.Elements as elements
use Rattle.codes.specs.Cursor.{element_at, covered_for, covered_at, Usual, said_of_purge, last_of_line, purge_at}
use Rattle.codes.specs.declared.Covered.{Covered}
use Rattle.codes.specs.declared.Step.{Step}
use Rattle.codes.proofs.ByPlace.{element_of, goes_on, begins_same, exactly_same, drop_same, begins_room, begins_short, exactly_length, two_same, three_same, prefix_same}
use Rattle.codes.proofs.Bounds.{within}
use Rattle.codes.proofs.Steps.{element_is}

-- ---- bytes in a row
-- past the end nothing is spelled
pub two_past : (s : List ℕ) (k : ℕ) → length s ≤ k → 0 ≡ two_of (drop k s)
two_past s k h = rw (drop_of_length-le s h)

pub two_by : (s : List ℕ) (k a b : ℕ) → a ≡ get_or s k 0 → b ≡ get_or s (k + 1) 0 → (x y : ℕ) → x ≡ a - 48 → y ≡ b - 48 → (r : ℕ) → r ≡ 10 * x + y → r ≡ two_of (drop k s)
two_by s k a b ea eb x y p q r e = simp (get_or-drop, add-zero, e, p, q, ea, eb)

module _ (s : List ℕ) (i : ℕ) where
  pub three_by : (x y z : ℕ) → x ≡ get_or s i 0 - 48 → y ≡ get_or s (i + 1) 0 - 48 → z ≡ get_or s (i + 2) 0 - 48 → (n : ℕ) → n ≡ 100 * x + 10 * y + z → n ≡ three_of (drop i s)
  three_by x y z p q r n e = simp (get_or-drop, add-zero, e, p, q, r)

  pub prefix_by : (x y f : ℕ) → x ≡ get_or s i 0 - 65 → y ≡ get_or s (i + 1) 0 - 65 → f ≡ cond (eqb (get_or s (i + 2) 0) 90) 1 0
      → (n : ℕ) → n ≡ (26 * x + y) * 2 + f → n ≡ prefix_of (drop i s)
  prefix_by x y f p q r n e = simp (get_or-drop, add-zero, e, p, q, r)

pub kind_z : (f : ℕ) → f ≡ 90 → ◌≡◌ {A = ℕ} 1 (cond (eqb f 90) 1 0)
kind_z f e = simp (eq-eqb f 90 e)

pub kind_c : (f : ℕ) → (f ≡ 90 → ⊥) → ◌≡◌ {A = ℕ} 0 (cond (eqb f 90) 1 0)
kind_c f e = simp (ne_eqb f 90 e)

-- ---- the forms, by their bytes
pub at_byte : (s : List ℕ) (i c : ℕ) → eqb 0 c ≡ false → begins (literally (c ∷ [])) (drop i s) ≡ eqb (get_or s i 0) c
at_byte s i c h = begins_is (literally (c ∷ [])) s i (h, tt) ∙ and-true (eqb (get_or s i 0) c)

-- no form stands where too few bytes are left
pub form_short : (ks : List Kind) (s : List ℕ) (i : ℕ) → length s - i < length ks → false ≡ begins ks (drop i s)
form_short ks s i h = sym (begins_short ks (drop i s) (omega (arith, length-drop i s)))

-- where one stands, there is room for it
form_room : (ks : List Kind) (s : List ℕ) (i n : ℕ) → begins ks (drop i s) ≡ true → n ≤ length ks → 1 ≤ n → i + n ≤ length s
form_room ks s i n e h k = omega (arith, begins_room ks (drop i s) e, length-drop i s)

module _ (s : List ℕ) (i : ℕ) where
  pub single_room : begins single_form (drop i s) ≡ true → i + 3 ≤ length s
  single_room e = form_room single_form s i 3 e (omega arith) (omega arith)

  pub first_room : begins range_form (drop i s) ≡ true → i + 3 ≤ length s
  first_room e = form_room range_form s i 3 e (omega arith) (omega arith)

  pub last_room : begins range_form (drop i s) ≡ true → i + 4 + 3 ≤ length s
  last_room e = omega (arith, form_room range_form s i 7 e (omega arith) (omega arith))

  pub prefix_room : (f : Bool) → f ≡ begins prefix_form (drop i s) → f ≡ true → i + 3 ≤ length s
  prefix_room f e y = form_room prefix_form s i 3 (sym e ∙ y) (omega arith) (omega arith)

  pub behind_prefix : (f : Bool) → f ≡ begins prefix_form (drop i s) → f ≡ true → (k : ℕ) → k ≡ i + 3 → k ≤ length s
  behind_prefix f e y k ek = rw ek (prefix_room f e y)

module _ (s : List ℕ) (i : ℕ) where
  two_on : i + 1 + 1 ≡ i + 2
  two_on = omega arith

  pub digits_by : (x y z : Bool) → x ≡ digit (get_or s i 0) → y ≡ digit (get_or s (i + 1) 0) → z ≡ digit (get_or s (i + 2) 0) → (x && y && z) ≡ begins three_digits (drop i s)
  digits_by x y z p q r = simp (begins_is three_digits s i (refl, (refl, (refl, tt))), two_on, p, q, r, and-true, and_assoc)

  module _ (d : Bool) (ed : d ≡ begins three_digits (drop i s)) where
    single_begins : begins single_form (drop i s) ≡ (d && eqb (get_or s (i + 3) 0) 45)
    single_begins = begins_append three_digits (word "-") (drop i s) ∙ rw (drop-drop, at_byte s (i + 3) 45 refl, ed)

    pub single_by : get_or s (i + 3) 0 ≡ 45 → d ≡ begins single_form (drop i s)
    single_by e = sym (single_begins ∙ rw (eq-eqb (get_or s (i + 3) 0) 45 e) (and-true d))

    pub range_by : (m : Bool) → m ≡ begins three_digits (drop (i + 4) s) → (d && eqb (get_or s (i + 3) 0) 62 && m && eqb (get_or s (i + 7) 0) 45) ≡ begins range_form (drop i s)
    range_by m em =
        let on-4 : i + 3 + 1 ≡ i + 4 = omega arith in
        let on-7 : i + 4 + 3 ≡ i + 7 = omega arith in
        let third : begins (three_digits ++ word "-") (drop (i + 4) s) ≡ (m && eqb (get_or s (i + 7) 0) 45) =
        begins_append three_digits (word "-") (drop (i + 4) s) ∙ simp (drop-drop, on-7, at_byte s (i + 7) 45 refl, em) in
        simp (
          on-4,
          begins_append three_digits (word ">" ++ (three_digits ++ word "-")) (drop i s),
          begins_append (word ">") (three_digits ++ word "-") (drop (i + 3) s),
          third,
          drop-drop,
          at_byte s (i + 3) 62 refl,
          and_assoc,
          ed,
        )

    pub purge_by : (h : Bool) → h ≡ begins three_digits (drop (i + 3) s) → (d && h && eqb (get_or s (i + 6) 0) 45) ≡ begins purge_form (drop i s)
    purge_by h eh =
        let on-6 : i + 3 + 3 ≡ i + 6 = omega arith in
        simp (on-6, begins_append three_digits (three_digits ++ word "-") (drop i s), begins_append three_digits (word "-") (drop (i + 3) s), drop-drop, at_byte s (i + 6) 45 refl, and_assoc, ed, eh)

  pub single_not : (get_or s (i + 3) 0 ≡ 45 → ⊥) → false ≡ begins single_form (drop i s)
  single_not e = sym (single_begins (begins three_digits (drop i s)) refl ∙ rw (ne_eqb (get_or s (i + 3) 0) 45 e) (and-false (begins three_digits (drop i s))))

  all_begins : begins (word "ALL-") (drop i s) ≡ (eqb (get_or s i 0) 65 && (eqb (get_or s (i + 1) 0) 76 && eqb (get_or s (i + 2) 0) 76 && eqb (get_or s (i + 3) 0) 45))
  all_begins =
      let three-on : i + 2 + 1 ≡ i + 3 = omega arith in
      simp (begins_is (word "ALL-") s i (refl, (refl, (refl, (refl, tt)))), three-on, two_on, and-true, and_assoc)

  pub all_by : get_or s i 0 ≡ 65 → (eqb (get_or s (i + 1) 0) 76 && eqb (get_or s (i + 2) 0) 76 && eqb (get_or s (i + 3) 0) 45) ≡ begins (word "ALL-") (drop i s)
  all_by e = sym (all_begins ∙ rw (eq-eqb (get_or s i 0) 65 e))

  pub all_not : (get_or s i 0 ≡ 65 → ⊥) → false ≡ begins (word "ALL-") (drop i s)
  all_not e = sym (all_begins ∙ rw (ne_eqb (get_or s i 0) 65 e))

  full_begins : begins prefix_form (drop i s) ≡ (capital (get_or s i 0) && (capital (get_or s (i + 1) 0) && one_of "CZ" (get_or s (i + 2) 0)))
  full_begins = simp (begins_is prefix_form s i (refl, (refl, (refl, tt))), two_on, and-true)

  module _ (x : Bool) (p : x ≡ capital (get_or s i 0)) where
    pub full_not : x ≡ false → false ≡ begins prefix_form (drop i s)
    full_not n = sym (full_begins ∙ rw (← p, n))

    pub full_by : x ≡ true → (y : Bool) → y ≡ capital (get_or s (i + 1) 0) → (y && one_of "CZ" (get_or s (i + 2) 0)) ≡ begins prefix_form (drop i s)
    full_by n y q = sym (full_begins ∙ rw (← p, n, ← q))

-- ---- numbers: the element at i has the form that stands there
form_is : (s : List ℕ) (i : ℕ) (js : List Kind) → goes_on js ≡ true → exactly (js ++ word "-") (element_at s i) ≡ begins (js ++ word "-") (drop i s)
form_is s i js g = rw (element_is s i) (exactly_same js (drop i s) g)

module _ (s : List ℕ) (i : ℕ) where
  single_is : exactly single_form (element_at s i) ≡ begins single_form (drop i s)
  single_is = form_is s i three_digits refl

  all_is : exactly (word "ALL-") (element_at s i) ≡ begins (word "ALL-") (drop i s)
  all_is = form_is s i (word "ALL") refl

  range_is : exactly range_form (element_at s i) ≡ begins range_form (drop i s)
  range_is = form_is s i (three_digits ++ (word ">" ++ three_digits)) refl

  purge_is_lem : exactly purge_form (element_at s i) ≡ begins purge_form (drop i s)
  purge_is_lem = form_is s i (three_digits ++ three_digits) refl

  -- what its bytes spell stands in the text
  three_at : (k j : ℕ) → i + k ≡ j → k + 3 ≤ length (element_at s i) → three_of (drop k (element_at s i)) ≡ three_of (drop j s)
  three_at k j e h = rw (element_is s i) (three_same (drop i s) k (rw (element_is s i) at h) ∙ rw (drop-drop k i s, e))

  two_at : (k j : ℕ) → i + k ≡ j → k + 2 ≤ length (element_at s i) → two_of (drop k (element_at s i)) ≡ two_of (drop j s)
  two_at k j e h = rw (element_is s i) (two_same (drop i s) k (rw (element_is s i) at h) ∙ rw (drop-drop k i s, e))

other_length : (ks : List Kind) (s : List ℕ) → (length s ≡ length ks → ⊥) → exactly ks s ≡ false
other_length ks s l = exactly_is ks s ∙ rw (ne_eqb (length s) (length ks) l)

module _ (s : List ℕ) (i p : ℕ) where
  pub numbers_single : begins single_form (drop i s) ≡ true → (n : ℕ) → n ≡ three_of (drop i s) → Some (record { prefix = p; first = n; last = n; after = i + 4 }) ≡ covered_at s i (numbers p (element_at s i))
  unfolding numbers covered_at
  numbers_single e n en =
      let x : exactly single_form (element_at s i) ≡ true = single_is s i ∙ e in
      let l : length (element_at s i) ≡ 4 = exactly_length single_form (element_at s i) x in
      let v : three_of (element_at s i) ≡ n = three_at s i 0 i (omega arith) (omega arith) ∙ sym en in
      rw (x, l, v)

  module _ (d : Bool) (ed : d ≡ begins single_form (drop i s)) (nd : d ≡ false) (a : Bool) (ea : a ≡ begins (word "ALL-") (drop i s)) where
    no_single : exactly single_form (element_at s i) ≡ false
    no_single = single_is s i ∙ sym ed ∙ nd

    pub numbers_all : a ≡ true → Some (record { prefix = p; first = 0; last = 0; after = i + 4 }) ≡ covered_at s i (numbers p (element_at s i))
    unfolding numbers covered_at
    numbers_all y =
        let x : exactly (word "ALL-") (element_at s i) ≡ true = all_is s i ∙ sym ea ∙ y in
        let l : length (element_at s i) ≡ 4 = exactly_length (word "ALL-") (element_at s i) x in
        rw (no_single, x, l)

    pub numbers_none : a ≡ false → (r : Bool) → r ≡ begins range_form (drop i s) → r ≡ false → None ≡ covered_at s i (numbers p (element_at s i))
    unfolding numbers covered_at
    numbers_none na r er nr =
        let no_all : exactly (word "ALL-") (element_at s i) ≡ false = all_is s i ∙ sym ea ∙ na in
        let no-range : exactly range_form (element_at s i) ≡ false = range_is s i ∙ sym er ∙ nr in
        rw (no_single, no_all, no-range)

  module _ (y : begins range_form (drop i s) ≡ true) (first last : ℕ) (ef : first ≡ three_of (drop i s)) (el : last ≡ three_of (drop (i + 4) s)) where
    range_form_lem : exactly range_form (element_at s i) ≡ true
    range_form_lem = range_is s i ∙ y

    eight : length (element_at s i) ≡ 8
    eight = exactly_length range_form (element_at s i) range_form_lem

    first_is : three_of (element_at s i) ≡ first
    first_is = three_at s i 0 i (omega arith) (omega (arith, eight)) ∙ sym ef

    last_is : three_of (drop 4 (element_at s i)) ≡ last
    last_is = three_at s i 4 (i + 4) refl (omega (arith, eight)) ∙ sym el

    ordered : (t : Bool) → (leb 1 first && ltb first last) ≡ t → numbers p (element_at s i) ≡ cond t (elements.covers p first last) elements.wrong
    unfolding numbers
    ordered t o =
        rw (other_length single_form (element_at s i) (λ x. omega (arith, eight)), other_length (word "ALL-") (element_at s i) (λ x. omega (arith, eight)), range_form_lem, first_is, last_is, o)

    pub range_covers : (leb 1 first && ltb first last) ≡ true → Some (record { prefix = p; first = first; last = last; after = i + 8 }) ≡ covered_at s i (numbers p (element_at s i))
    unfolding covered_at
    range_covers o = rw (ordered true o, eight)

    pub range_order : (leb 1 first && ltb first last) ≡ false → None ≡ covered_at s i (numbers p (element_at s i))
    unfolding covered_at
    range_order o = rw (ordered false o)

-- ---- the purge and the prefix: what begins with digits begins with no capital
digit_no_capital : (b : ℕ) → digit b ≡ true → capital b ≡ false
digit_no_capital b e =
    by (capital b) (λ f. impossible (omega (arith, (within 48 57 b e).under, (within 65 90 b f).above))) (λ f. f)

digits_no_prefix : (s : List ℕ) (i : ℕ) (ks : List Kind) → begins (three_digits ++ ks) (drop i s) ≡ true → begins prefix_form (drop i s) ≡ false
digits_no_prefix s i ks e =
    let three : begins three_digits (drop i s) ≡ true = and_left _ _ (sym (begins_append three_digits ks (drop i s)) ∙ e) in
    let first : digit (get_or s i 0) ≡ true = and_left _ _ (sym (begins_is three_digits s i (refl, (refl, (refl, tt)))) ∙ three) in
    full_begins s i ∙ rw (digit_no_capital (get_or s i 0) first)

module _ (s : List ℕ) (at : ℕ) where
  prefix_begins : begins prefix_form (element_at s at) ≡ begins prefix_form (drop at s)
  prefix_begins = rw (element_is s at) (begins_same prefix_form (drop at s) refl)

  -- ---- digits in front and another length than the purge's: a short element
  module _ (ks : List Kind) (form-at : exactly (three_digits ++ ks) (element_at s at) ≡ begins (three_digits ++ ks) (drop at s)) (other : length (three_digits ++ ks) ≡ 7 → ⊥)
      (d : Bool) (ed : d ≡ begins (three_digits ++ ks) (drop at s)) (y : d ≡ true) where
    usual_said : (l : Option ℕ) → said l (element_at s at) ≡ short l (element_at s at)
    unfolding said
    usual_said l =
        let stands : begins (three_digits ++ ks) (drop at s) ≡ true = sym ed ∙ y in
        let long : length (element_at s at) ≡ length (three_digits ++ ks) = exactly_length (three_digits ++ ks) (element_at s at) (form-at ∙ stands) in
        rw (other_length purge_form (element_at s at) (λ x. other (sym long ∙ x)), prefix_begins, digits_no_prefix s at ks stands)

    usual : (p : ℕ) (r : Option Covered) → r ≡ covered_at s at (numbers p (element_at s at)) → Usual s at p r
    unfolding short
    usual p r q = record { is = λ k e. q ∙ ap (covered_at s at) (sym (usual_said (Some p))) }

  pub usual_single : (d : Bool) → d ≡ begins single_form (drop at s) → d ≡ true → (p : ℕ) (r : Option Covered) → r ≡ covered_at s at (numbers p (element_at s at)) → Usual s at p r
  usual_single = usual (word "-") (single_is s at) (λ e. let no : ⊥ = omega arith in no)

  pub usual_range : (d : Bool) → d ≡ begins range_form (drop at s) → d ≡ true → (p : ℕ) (r : Option Covered) → r ≡ covered_at s at (numbers p (element_at s at)) → Usual s at p r
  usual_range = usual (word ">" ++ (three_digits ++ word "-")) (range_is s at) (λ e. let no : ⊥ = omega arith in no)

  pub usual_none : (p : ℕ) → Usual s at p None
  usual_none p = record { is = λ k e. apart cc }

  -- ---- where the two forms meet: the numbers stand under a full element's own prefix and behind it, or under the last prefix and at the front
  time_none : (a : ℕ) (t : Stamp) → covered_for a (time t) ≡ None
  unfolding time
  time_none a t = either_way (λ (x : elements.Said). covered_for a x ≡ None) (is_time t) refl refl

  purge_short : (l : Option ℕ) → length (element_at s at) ≡ 7 → short l (element_at s at) ≡ elements.wrong
  unfolding short numbers
  purge_short None h = refl
  purge_short (Some p) h =
      rw (other_length single_form (element_at s at) (λ x. omega arith), other_length (word "ALL-") (element_at s at) (λ x. omega arith), other_length range_form (element_at s at) (λ x. omega arith))

  module _ (l : Option ℕ) (f : Bool) (ef : f ≡ begins prefix_form (drop at s)) (under : Option ℕ) (i : ℕ) where
    pub meets_full : f ≡ true → (p : ℕ) → p ≡ prefix_of (drop at s) → under ≡ Some p → i ≡ at + 3
        → covered_at s at (said l (element_at s at)) ≡ covered_at s i (short under (element_at s i))
    unfolding covered_at said short
    meets_full y p ep eu ei =
        let full : begins prefix_form (drop at s) ≡ true = sym ef ∙ y in
        let no-purge : exactly purge_form (element_at s at) ≡ false =
        purge_is_lem s at ∙ by (begins purge_form (drop at s)) (λ q. let z : true ≡ false = sym full ∙ digits_no_prefix s at (three_digits ++ word "-") q in apart cc) (λ q. q) in
        let rest : drop 3 (element_at s at) ≡ element_at s (at + 3) =
        rw (element_is s at, element_is s (at + 3)) (drop_same prefix_form (drop at s) refl full ∙ rw (drop-drop 3 at s)) in
        let own : prefix_of (element_at s at) ≡ p =
        rw (element_is s at) (prefix_same (drop at s) 0 (begins_room prefix_form (element_of (drop at s)) (begins_same prefix_form (drop at s) refl ∙ full))) ∙ sym ep in
        let long : at + length (element_at s at) ≡ at + 3 + length (element_at s (at + 3)) =
        omega (arith, length-drop 3 (element_at s at), ap length rest, begins_room prefix_form (element_at s at) (prefix_begins ∙ full)) in
        rw (ei, eu, no-purge, prefix_begins, full, own, rest, long)

    pub meets_short : f ≡ false → under ≡ l → i ≡ at → covered_at s at (said l (element_at s at)) ≡ covered_at s i (short under (element_at s i))
    unfolding covered_at said
    meets_short n eu ei =
        by (exactly purge_form (element_at s at))
        (λ q. rw (ei, eu, q, purge_short l (exactly_length purge_form (element_at s at) q)) (time_none _ (stamp_of (element_at s at))))
        λ q. rw (ei, eu, q, prefix_begins, ← ef, n)

module _ (s : List ℕ) (at : ℕ) (l under : Option ℕ) (i : ℕ) (m : covered_at s at (said l (element_at s at)) ≡ covered_at s i (short under (element_at s i))) where
  pub any_none : under ≡ None → None ≡ covered_at s at (said l (element_at s at))
  unfolding covered_at short
  any_none u = sym (m ∙ rw u)

  pub any_numbers : (p : ℕ) → under ≡ Some p → (r : Option Covered) → r ≡ covered_at s i (numbers p (element_at s i)) → r ≡ covered_at s at (said l (element_at s at))
  unfolding short
  any_numbers p u r q = q ∙ sym (m ∙ rw u)

-- ---- the step over an element that covers nothing
module _ (s : List ℕ) (at : ℕ) where
  pub purge_none : (b : Bool) → b ≡ begins purge_form (drop at s) → b ≡ false → Step.Wrong at ≡ purge_at s at
  unfolding purge_at said_of_purge
  purge_none b eb n = let no-purge : exactly purge_form (element_at s at) ≡ false = purge_is_lem s at ∙ sym eb ∙ n in rw no-purge

  module _ (y : begins purge_form (drop at s) ≡ true) (d h m : ℕ) (ed : d ≡ two_of (drop at s)) (eh : h ≡ two_of (drop (at + 2) s)) (em : m ≡ two_of (drop (at + 4) s)) (t : Bool) (et : t ≡ is_time (record { day = d; hour = h; minute = m })) where
    purge_form_lem : exactly purge_form (element_at s at) ≡ true
    purge_form_lem = purge_is_lem s at ∙ y

    seven : length (element_at s at) ≡ 7
    seven = exactly_length purge_form (element_at s at) purge_form_lem

    stamp : stamp_of (element_at s at) ≡ record { day = d; hour = h; minute = m }
    stamp =
        let ed' : two_of (element_at s at) ≡ d = two_at s at 0 at (omega arith) (omega (arith, seven)) ∙ sym ed in
        let eh' : two_of (drop 2 (element_at s at)) ≡ h = two_at s at 2 (at + 2) refl (omega (arith, seven)) ∙ sym eh in
        let em' : two_of (drop 4 (element_at s at)) ≡ m = two_at s at 4 (at + 4) refl (omega (arith, seven)) ∙ sym em in
        λ i. record { day = ed' i; hour = eh' i; minute = em' i }

    timed : (u : Bool) → t ≡ u → said_of_purge (element_at s at) ≡ cond u (elements.purge (record { day = d; hour = h; minute = m })) elements.wrong
    unfolding said_of_purge time
    timed u e = rw (purge_form_lem, stamp, ← et, e)

    pub purge_wrong : t ≡ false → Step.Wrong at ≡ purge_at s at
    unfolding purge_at
    purge_wrong n = rw (timed false n)

    module _ (z : t ≡ true) (l : Bool) (el : l ≡ last_of_line s (at + 7)) where
      pub purge_last : l ≡ true → Step.Purge (record { day = d; hour = h; minute = m }) at ≡ purge_at s at
      unfolding purge_at
      purge_last e = rw (timed true z, seven, ← el, e)

      pub purge_more : l ≡ false → Step.Wrong (at + 7) ≡ purge_at s at
      unfolding purge_at
      purge_more e = rw (timed true z, seven, ← el, e)
