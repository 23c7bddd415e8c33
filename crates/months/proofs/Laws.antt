-- Laws of months and of the minutes at which they start. Whoever calls this crate cites these, and never the definitions. Assumes nothing.
use Prim.Native.Nat.{ℕ, zero, suc, ◌+◌, ◌-◌, ◌*◌, ◌/◌, ◌%◌, ◌≤◌, ◌<◌}
use native.Mathlib.Omega.{arith}
use mathlib.Core.Path.{◌≡◌, refl, ap, ◌∙◌}
use mathlib.Core.Bool.{Bool, true, ◌&&◌}
use Rattle.std.specs.Prelude.{Option, None, Some}
use lib.Dec.{leb, ltb, eqb}
use borrow.Author.Tests.{leb-true, ltb-true, ltb-false, lt-ltb, eqb-true, eqb-false}
use Rattle.laws.proofs.Tests.{by, by_order, impossible, apart, and_left, and_right, same_test}
use Rattle.months.specs.Months.{leap, february, month_length, next_month, after_january, year_of, month_of_year, days_in, issue_months, all_months, start_of, month_from}
use Rattle.months.specs.Months.{month_of}
use Rattle.months.specs.Serving.{length_in}

-- ---- months
-- where the next month starts
pub start_next : (k : ℕ) → start_of (suc k) ≡ start_of k + 1440 * days_in k
unfolding start_of
start_next k = refl

start_first : start_of 0 ≡ 0
unfolding start_of
start_first = refl

-- every number below n passes a test
unfoldable pub passes : (ℕ → Bool) → ℕ → Bool
passes p zero = true
passes p (suc n) = passes p n && p n

pub passes_at : (p : ℕ → Bool) (n i : ℕ) → passes p n ≡ true → i < n → p i ≡ true
unfolding passes
passes_at p zero i e h = impossible (omega arith)
passes_at p (suc n) i e h =
    by_order i n
    (λ l. passes_at p n i (and_left (passes p n) (p n) e) l)
    (λ l. let same : i ≡ n = omega arith in rw same (and_right (passes p n) (p n) e))

abbrev in_month : ℕ → Bool
in_month x = leb 28 x && leb x 31

month_days : (year i : ℕ) → i < 12 → in_month (month_length year (after_january i)) ≡ true
unfolding month_length after_january next_month passes
month_days year i h =
    by (leap year)
    (λ e. passes_at (λ j. in_month (month_length year (after_january j))) 12 i (rw e) h)
    (λ e. passes_at (λ j. in_month (month_length year (after_january j))) 12 i (rw e) h)

days_in_lem : (k : ℕ) → in_month (days_in k) ≡ true
unfolding days_in
days_in_lem k = month_days (year_of k) (k % 12) (omega arith)

-- a month has 28 days or more
pub days_low : (k : ℕ) → 28 ≤ days_in k
days_low k = leb-true 28 (days_in k) (and_left (leb 28 (days_in k)) (leb (days_in k) 31) (days_in_lem k))

-- a month has 31 days or fewer
pub days_high : (k : ℕ) → days_in k ≤ 31
days_high k = leb-true (days_in k) 31 (and_right (leb 28 (days_in k)) (leb (days_in k) 31) (days_in_lem k))

start_from : (a d : ℕ) → start_of a ≤ start_of (a + d)
start_from a zero = let e : a + 0 ≡ a = omega arith in rw e (omega arith)
start_from a (suc d) =
    let e : a + suc d ≡ suc (a + d) = omega arith in
    rw e (omega (arith, start_next (a + d), start_from a d))

-- a later month starts later
pub start_mono : (a b : ℕ) → a ≤ b → start_of a ≤ start_of b
start_mono a b h = let e : a + (b - a) ≡ b = omega arith in rw e at (start_from a (b - a))

-- ---- years
-- the days of the month k, by its year and month
pub days_of : (k year month : ℕ) → year_of k ≡ year → month_of_year k ≡ month → days_in k ≡ length_in year month
unfolding days_in
days_of k year month y m = let i : k % 12 ≡ month - 1 = omega arith in rw (y, i)

year_step : (n m : ℕ) → ltb m 12 ≡ true → start_of (12 * n + suc m) ≡ start_of (12 * n + m) + 1440 * length_in (1970 + n) (suc m)
year_step n m h =
    let low = ltb-true m 12 h in
    let e : 12 * n + suc m ≡ suc (12 * n + m) = omega arith in
    rw (e, start_next (12 * n + m), days_of (12 * n + m) (1970 + n) (suc m) (omega arith) (omega arith))

february_days : (n : ℕ) → month_length (1970 + n) february + (n + 1) / 4 ≡ 28 + (n + 2) / 4
unfolding month_length leap
february_days n =
    by (eqb ((1970 + n) % 4) 0)
    (λ e. rw e (omega (arith, eqb-true ((1970 + n) % 4) 0 e)))
    (λ e. rw e (omega (arith, eqb-false ((1970 + n) % 4) 0 e)))

year_next : (n : ℕ) → start_of (12 * n + 12) ≡ start_of (12 * n + 0) + 1440 * (337 + month_length (1970 + n) february)
unfolding month_length after_january next_month
year_next n =
    omega (
      arith,
      year_step n 0 refl,
      year_step n 1 refl,
      year_step n 2 refl,
      year_step n 3 refl,
      year_step n 4 refl,
      year_step n 5 refl,
      year_step n 6 refl,
      year_step n 7 refl,
      year_step n 8 refl,
      year_step n 9 refl,
      year_step n 10 refl,
      year_step n 11 refl,
    )

-- where the year 1970 + n starts
pub start_year : (n : ℕ) → start_of (12 * n) ≡ 1440 * (365 * n + (n + 1) / 4)
start_year zero = start_first
start_year (suc n) =
    let a : 12 * suc n ≡ 12 * n + 12 = omega arith in
    let b : 12 * n + 0 ≡ 12 * n = omega arith in
    rw (a, year_next n, b, start_year n) (omega (arith, february_days n))

-- where the calendar ends
pub start_end_lem : start_of all_months ≡ 68418720
unfolding month_length after_january
start_end_lem = omega (arith, start_next issue_months, start_year 130, days_of issue_months 2100 1 refl refl)

-- where the issues end
pub start_issues : start_of issue_months ≡ 68374080
start_issues = omega (arith, start_year 130)

-- ---- the month of a minute
-- minute t falls in month k of the calendar
pub record Falls (t k : ℕ) : Type 0 where
  pub low : start_of k ≤ t
  pub high : t < start_of (suc k)
  pub known : k < all_months

-- what `month_from` answers: none from month n on, else the month
data Answers (t n : ℕ) : Option ℕ → Type 0 where
  past : start_of n ≤ t → Answers t n None
  falls : (k : ℕ) → start_of k ≤ t → t < start_of (suc k) → k < n → Answers t n (Some k)

answers : (n k t : ℕ) → start_of k ≤ t → Answers t (k + n) (month_from n k (t - start_of k))
unfolding month_from
answers zero k t h = let e : k + 0 ≡ k = omega arith in rw e (past h)
answers (suc n) k t h =
    let next = start_next k in
    by (ltb (t - start_of k) (1440 * days_in k))
    (λ e. rw (e, month_from) (falls k h (omega (arith, ltb-true (t - start_of k) (1440 * days_in k) e)) (omega arith)))
    (λ e.
    let later : start_of (suc k) ≤ t = omega (arith, ltb-false (t - start_of k) (1440 * days_in k) e) in
    let rest : t - start_of k - 1440 * days_in k ≡ t - start_of (suc k) = omega arith in
    let last : k + suc n ≡ suc k + n = omega arith in
    rw (e, month_from, rest, last) (answers n (suc k) t later))

month_answers : (t : ℕ) → Answers t all_months (month_of t)
unfolding month_of
month_answers t =
    let e : t - start_of 0 ≡ t = omega (arith, start_first) in rw e at (answers all_months 0 t (omega (arith, start_first)))

-- the month that is answered is the one that the minute falls in
pub month_some : (t k : ℕ) → month_of t ≡ Some k → Falls t k
month_some t k e = go (month_of t) (month_answers t) e
  where
    go : (o : Option ℕ) → Answers t all_months o → o ≡ Some k → Falls t k
    go None (past h) q = apart cc
    go (Some _) (falls j low high known) q =
        let same : j ≡ k = cc in
        rw (← same) (record { low = low; high = high; known = known })

-- no month is answered only past the calendar's end
pub month_none : (t : ℕ) → month_of t ≡ None → 68418720 ≤ t
month_none t e = go (month_of t) (month_answers t) e
  where
    go : (o : Option ℕ) → Answers t all_months o → o ≡ None → 68418720 ≤ t
    go None (past h) q = omega (arith, start_end_lem)
    go (Some j) a q = apart cc

-- what falls in a month of the calendar stands before its end
pub falls_low : (t k : ℕ) → Falls t k → t < 68418720
falls_low t k f = omega (arith, start_end_lem, start_mono (suc k) all_months (omega (arith, f.known)), f.high)

-- a minute falls in one month
pub falls_one : (t j k : ℕ) → Falls t j → Falls t k → j ≡ k
falls_one t j k f g =
    by_order j k
    (λ h. impossible (omega (arith, start_mono (suc j) k h, f.high, g.low)))
    (λ h.
    by_order k j
    (λ l. impossible (omega (arith, start_mono (suc k) j l, g.high, f.low)))
    (λ l. omega arith))

-- the month that a minute falls in is answered
pub month_is : (t k : ℕ) → Falls t k → month_of t ≡ Some k
month_is t k f = go (month_of t) refl
  where
    go : (o : Option ℕ) → month_of t ≡ o → month_of t ≡ Some k
    go None e = impossible (omega (arith, month_none t e, falls_low t k f))
    go (Some j) e = e ∙ ap Some (falls_one t j k (month_some t j e) f)

-- a minute before the issues' end falls in a month that an issue may have, and no other does
pub issue_test : (t k : ℕ) → Falls t k → ltb t (start_of issue_months) ≡ ltb k issue_months
issue_test t k f =
    same_test (ltb t (start_of issue_months)) (ltb k issue_months)
    (λ h.
    by_order k issue_months
    (λ l. lt-ltb k issue_months l)
    (λ l. impossible (omega (arith, start_mono issue_months k l, f.low, ltb-true t (start_of issue_months) h))))
    (λ h. lt-ltb t (start_of issue_months) (omega (arith, f.high, start_mono (suc k) issue_months (ltb-true k issue_months h))))

-- no month is answered past the calendar's end
pub month_past : (t : ℕ) → 68418720 ≤ t → month_of t ≡ None
month_past t h = go (month_of t) refl
  where
    go : (o : Option ℕ) → month_of t ≡ o → month_of t ≡ None
    go None e = e
    go (Some j) e = impossible (omega (arith, falls_low t j (month_some t j e)))
