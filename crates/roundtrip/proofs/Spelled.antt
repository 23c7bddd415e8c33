-- A place's bytes and its number give each other back. Assumes nothing.
use Prim.Native.Nat.{ℕ, ◌+◌, ◌-◌, ◌*◌, ◌/◌, ◌%◌, ◌≤◌}
use native.Mathlib.Omega.{arith}
use mathlib.Core.Path.{◌≡◌, sym, ap, ◌∙◌}
use mathlib.Core.Bool.{true, false}
use mathlib.Core.List.{List, [], ◌∷◌, ◌++◌}
use lib.ListN.{length, drop}
use lib.Dec.{eqb}
use borrow.Author.Tests.{eqb-true, eq-eqb, ne_eqb}
use Rattle.laws.proofs.Tests.{by, apart, and_left}
use Rattle.lines.specs.Bytes.{capital, digit, one_of, begins, exactly}
use Rattle.lines.specs.Lines.{prefix_form, three_digits}
use Rattle.lines.proofs.Strings.{exactly_is}
use Rattle.codes.specs.Places.{prefix_of, place_of, three_of, three_bytes, prefix_bytes, place_bytes}
use Rattle.roundtrip.proofs.Said.{prefix_back, three_back}
use Rattle.codes.proofs.Bounds.{exact_front, exact_drop, within, tests, three_low}

-- The bytes of a place spell its number.
pub place_number : (q : ℕ) → place_of (prefix_of (place_bytes q)) (three_of (drop 3 (place_bytes q))) ≡ q
place_number q = rw (prefix_back (q / 1000), three_back (q % 1000) (omega arith)) (omega arith)

-- ---- the bytes again
three_spelled : (a b c : ℕ) → digit a ≡ true → digit b ≡ true → digit c ≡ true → three_bytes (three_of (a ∷ b ∷ c ∷ [])) ≡ a ∷ b ∷ c ∷ []
three_spelled a b c x y z =
    let u = within 48 57 a x in
    let v = within 48 57 b y in
    let w = within 48 57 c z in
    let n : ℕ = three_of (a ∷ b ∷ c ∷ []) in
    let t : n / 10 ≡ 10 * (a - 48) + (b - 48) = omega arith in
    let m : (10 * (a - 48) + (b - 48)) % 10 ≡ b - 48 = omega arith in
    let p : 48 + n / 100 ≡ a = omega arith in
    let q : 48 + n / 10 % 10 ≡ b = rw (t, m) (omega arith) in
    let r : 48 + n % 10 ≡ c = omega arith in
    λ i. p i ∷ q i ∷ r i ∷ []

prefix_spelled : (a b c : ℕ) → capital a ≡ true → capital b ≡ true → one_of "CZ" c ≡ true → prefix_bytes (prefix_of (a ∷ b ∷ c ∷ [])) ≡ a ∷ b ∷ c ∷ []
prefix_spelled a b c x y z =
    let u = within 65 90 a x in
    let v = within 65 90 b y in
    let m : ℕ = (26 * (a - 65) + (b - 65)) * 2 in
    by (eqb c 90)
    (λ e. let p : 65 + (m + 1) / 52 ≡ a = omega arith in
    let q : 65 + (m + 1) / 2 % 26 ≡ b = omega arith in
    let r : 90 ≡ c = sym (eqb-true c 90 e) in
    rw (e, ne_eqb ((m + 1) % 2) 0 (omega arith)) (λ i. p i ∷ q i ∷ r i ∷ []))
    λ e. by (eqb c 67)
    (λ f. let p : 65 + (m + 0) / 52 ≡ a = omega arith in
    let q : 65 + (m + 0) / 2 % 26 ≡ b = omega arith in
    let r : 67 ≡ c = sym (eqb-true c 67 f) in
    rw (e, eq-eqb ((m + 0) % 2) 0 (omega arith)) (λ i. p i ∷ q i ∷ r i ∷ []))
    λ f. let g : false ≡ true = rw (f, e) at z in apart cc

-- only six bytes have this form
other : {P : Type 0} (s : List ℕ) → exactly (prefix_form ++ three_digits) s ≡ true → (length s ≡ 6 → ⊥) → P
other s h f = absurd (f (eqb-true (length s) 6 (and_left (eqb (length s) 6) (begins (prefix_form ++ three_digits) s) (sym (exactly_is (prefix_form ++ three_digits) s) ∙ h))))

-- Six bytes that a place is read from are the bytes of its number.
pub place_bytes_lem : (s : List ℕ) → exactly (prefix_form ++ three_digits) s ≡ true → place_bytes (place_of (prefix_of s) (three_of (drop 3 s))) ≡ s
unfolding begins
place_bytes_lem [] h = other [] h (λ k. omega arith)
place_bytes_lem (a ∷ []) h = other (a ∷ []) h (λ k. omega arith)
place_bytes_lem (a ∷ b ∷ []) h = other (a ∷ b ∷ []) h (λ k. omega arith)
place_bytes_lem (a ∷ b ∷ c ∷ []) h = other (a ∷ b ∷ c ∷ []) h (λ k. omega arith)
place_bytes_lem (a ∷ b ∷ c ∷ d ∷ []) h = other (a ∷ b ∷ c ∷ d ∷ []) h (λ k. omega arith)
place_bytes_lem (a ∷ b ∷ c ∷ d ∷ e ∷ []) h = other (a ∷ b ∷ c ∷ d ∷ e ∷ []) h (λ k. omega arith)
place_bytes_lem (a ∷ b ∷ c ∷ d ∷ e ∷ f ∷ g ∷ s) h = other (a ∷ b ∷ c ∷ d ∷ e ∷ f ∷ g ∷ s) h (λ k. omega arith)
place_bytes_lem (a ∷ b ∷ c ∷ d ∷ e ∷ f ∷ []) h =
    let x = tests (capital a) (capital b) (one_of "CZ" c) (exact_front prefix_form three_digits (a ∷ b ∷ c ∷ d ∷ e ∷ f ∷ []) h) in
    let t : begins three_digits (d ∷ e ∷ f ∷ []) ≡ true = exact_front three_digits [] (d ∷ e ∷ f ∷ []) (exact_drop prefix_form three_digits (a ∷ b ∷ c ∷ d ∷ e ∷ f ∷ []) h) in
    let y = tests (digit d) (digit e) (digit f) t in
    let p : ℕ = prefix_of (a ∷ b ∷ c ∷ []) in
    let n : ℕ = three_of (d ∷ e ∷ f ∷ []) in
    let low : n ≤ 999 = three_low (d ∷ e ∷ f ∷ []) t in
    let q : place_of p n / 1000 ≡ p = omega arith in
    let r : place_of p n % 1000 ≡ n = omega arith in
    rw (q, r)
    (ap (λ (l : List ℕ). l ++ three_bytes n) (prefix_spelled a b c x.0 x.1 x.2) ∙ ap (λ (l : List ℕ). a ∷ b ∷ c ∷ l) (three_spelled d e f y.0 y.1 y.2))
