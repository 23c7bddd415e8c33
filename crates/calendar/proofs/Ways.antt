-- One law for each way out of the code. Assumes nothing.
use Prim.Native.Nat.{ℕ, suc, ◌+◌, ◌-◌, ◌*◌, ◌≤◌, ◌<◌}
use native.Mathlib.Omega.{arith}
use mathlib.Core.Path.{◌≡◌, sym, ap, ◌∙◌}
use mathlib.Core.Bool.{Bool, true, false, not, cond, ◌&&◌, ◌||◌, or-true}
use Rattle.std.specs.Prelude.{None, Some}
use lib.Dec.{leb, ltb, eqb}
use borrow.Author.Tests.{leb-true, ltb-true, lt-ltb, le-ltb, le-leb, lt-leb, eq-eqb, eqb-true, not-true, not-false}
use Rattle.laws.proofs.Tests.{by, by_order, impossible, and_left, and_right, same_test}
use Rattle.calendar.specs.declared.Stamp.{Stamp}
use Rattle.calendar.specs.declared.Date.{Date}
use Rattle.months.specs.declared.Month.{Month}
use Rattle.calendar.specs.Purge.{purge_of}
use Rattle.calendar.specs.Window.{earliest, window_of}
use Rattle.months.specs.Months.{month_number, days_in, issue_months, start_of, month_of}
use Rattle.months.specs.Serving.{Twelve, length_in, InYear}
use Rattle.months.proofs.Laws.{start_next, days_of, start_issues, Falls, month_none}
use Rattle.months.proofs.Ways.{Stands}
use Rattle.calendar.specs.Calendar.{is_issue_month, is_time, minute_in, day_exists, is_month, minute_of, stamp_after, date_of}
use Rattle.calendar.specs.Serving.{Time}
use Rattle.calendar.proofs.Laws.{time_true, date_is, month_true, known_month, issue_true, issue_month, fits, purge_no, early_test, search_first}
use Rattle.calendar.proofs.Laws.{search_second, search_end, search_third, search_gone}

-- ---- is_month
pub month_issue : (year month : ℕ) (issue : Bool) → issue ≡ is_issue_month year month → (issue || (eqb year 2100 && eqb month 1)) ≡ is_month year month
month_issue year month issue e = same_test (issue || (eqb year 2100 && eqb month 1)) (is_month year month) to from
  where
    to : (issue || (eqb year 2100 && eqb month 1)) ≡ true → is_month year month ≡ true
    to h =
        by issue
        (λ i.
        let m = issue_true year month (sym e ∙ i) in
        known_month year month (record { from = m.from; first = m.first; last = m.last; known = omega arith }))
        (λ i.
        let j : (eqb year 2100 && eqb month 1) ≡ true = rw i at h in
        let a = eqb-true year 2100 (and_left (eqb year 2100) (eqb month 1) j) in
        let b = eqb-true month 1 (and_right (eqb year 2100) (eqb month 1) j) in
        known_month year month (record { from = omega arith; first = omega arith; last = omega arith; known = omega arith }))

    from : is_month year month ≡ true → (issue || (eqb year 2100 && eqb month 1)) ≡ true
    from h =
        let k = month_true year month h in
        by_order year 2100
        (λ i. rw (e, issue_month year month (record { from = k.from; to = omega arith; first = k.first; last = k.last })))
        (λ i. rw (eq-eqb year 2100 (omega arith), eq-eqb month 1 (omega arith)) (or-true issue))

-- ---- date_of
pub date_on : (t : ℕ) (m : Month) → Stands t m
    → (Some (record { year = m.year; month = m.month; stamp = stamp_after (t - m.start) })) ≡ date_of t
date_on t m st = rw (st.year, st.month, st.start) (sym (date_is st.k t st.falls))

pub date_none : (t : ℕ) → month_of t ≡ None → None ≡ date_of t
unfolding date_of
date_none t q = rw q

-- ---- minute_of
module _ (d : Date) (a b : Bool) (ea : a ≡ is_month d.year d.month) (eb : b ≡ is_time d.stamp) where
  pub minute_unusable : not (a && b) ≡ true → None ≡ minute_of d
  unfolding minute_of
  minute_unusable h = rw (← ea, ← eb, not-true (a && b) h)

  module _ (h : not (a && b) ≡ false) where
    both : (a && b) ≡ true
    both = not-false (a && b) h

    pub minute_month : InYear d.year d.month
    minute_month =
        let k = month_true d.year d.month (sym ea ∙ and_left a b both) in
        record { from = k.from; to = omega (arith, k.known, k.first); first = k.first; last = k.last }

    pub minute_twelve : Twelve d.month
    minute_twelve = record { first = minute_month.first; last = minute_month.last }

    pub minute_time : Time d.stamp
    minute_time = time_true d.stamp (sym eb ∙ and_right a b both)

    module _ (n : ℕ) (en : n ≡ length_in d.year d.month) where
      days_here : days_in (month_number d.year d.month) ≡ n
      days_here = let m = minute_month in days_of (month_number d.year d.month) d.year d.month (omega arith) (omega arith) ∙ sym en

      pub minute_none : n < d.stamp.day → None ≡ minute_of d
      unfolding minute_of
      minute_none g = rw (← ea, ← eb, both, days_here, lt-leb d.stamp.day n g)

      pub minute_here : d.stamp.day ≤ n
          → (start after : ℕ) → start ≡ start_of (month_number d.year d.month) → after ≡ (d.stamp.day - 1) * 1440 + d.stamp.hour * 60 + d.stamp.minute
          → (Some (start + after)) ≡ minute_of d
      unfolding minute_of minute_in
      minute_here g start after e f = rw (← ea, ← eb, both, days_here, le-leb d.stamp.day n g, e, f)

-- ---- purge_of
-- the days of the months that follow the one that was found
after_days : (t : ℕ) (m : Month) (st : Stands t m) (n later : ℕ) → n ≡ days_in (month_number m.year m.month + later) → n ≡ days_in (st.k + later)
after_days t m st n later e =
    let same : month_number m.year m.month ≡ st.k = omega (arith, st.year, st.month) in
    e ∙ ap (λ (x : ℕ). days_in (x + later)) same

module _ (issue : ℕ) (s : Stamp) (u : Bool) (eu : u ≡ is_time s) where
  pub purge_unusable : not (ltb issue 68374080 && u) ≡ true → None ≡ purge_of issue s
  purge_unusable h = sym (purge_no issue s (rw (start_issues, ← eu) (not-true (ltb issue 68374080 && u) h)))

  module _ (h : not (ltb issue 68374080 && u) ≡ false) where
    usable : (ltb issue 68374080 && u) ≡ true
    usable = not-false (ltb issue 68374080 && u) h

    low : issue < start_of issue_months
    low = omega (arith, start_issues, ltb-true issue 68374080 (and_left (ltb issue 68374080) u usable))

    time : is_time s ≡ true
    time = sym eu ∙ and_right (ltb issue 68374080) u usable

    pub usable_time : Time s
    usable_time = time_true s time

    module _ (from : ℕ) (ef : from ≡ earliest issue) where
      pub purge_none : month_of from ≡ None → None ≡ purge_of issue s
      purge_none q = impossible (omega (arith, month_none from q, low, start_issues))

      module _ (m : Month) (st : Stands from m) (after : ℕ) (ea : after ≡ (s.day - 1) * 1440 + s.hour * 60 + s.minute) where
        early : Falls (issue - 1440) st.k
        early = rw ef at st.falls

        here_is : m.start + after ≡ minute_in st.k s
        unfolding minute_in
        here_is = rw (ea, st.start)

        first_test : (leb s.day m.days && leb from (m.start + after)) ≡ fits issue s st.k
        first_test = rw (ef, early_test issue (m.start + after), here_is, st.days)

        pub purge_first : (leb s.day m.days && leb from (m.start + after)) ≡ true → (Some (m.start + after)) ≡ purge_of issue s
        purge_first t = rw here_is (sym (search_first issue st.k s early low time (sym first_test ∙ t)))

        module _ (t : (leb s.day m.days && leb from (m.start + after)) ≡ false) (n : ℕ) (en : n ≡ days_in (month_number m.year m.month + 1)) where
          none_first : fits issue s st.k ≡ false
          none_first = sym first_test ∙ t

          next_days : n ≡ days_in (suc st.k)
          next_days = let same : st.k + 1 ≡ suc st.k = omega arith in after_days from m st n 1 en ∙ ap days_in same

          next_start : m.start + 1440 * m.days ≡ start_of (suc st.k)
          next_start = omega (arith, st.start, st.days, start_next st.k)

          pub purge_second : s.day ≤ n → (Some (m.start + after + 1440 * m.days)) ≡ purge_of issue s
          unfolding minute_in
          purge_second d =
              let there : minute_in (suc st.k) s ≡ m.start + after + 1440 * m.days = omega (arith, next_start) in
              sym (search_second issue st.k s early low time none_first (rw (← next_days) (le-leb s.day n d)) ∙ ap Some there)

          module _ (d : n < s.day) where
            none_second : day_exists (suc st.k) s ≡ false
            none_second = rw (← next_days) (lt-leb s.day n d)

            module _ (l : ℕ) (el : l ≡ days_in (month_number m.year m.month + 2)) where
              third_days : l ≡ days_in (suc (suc st.k))
              third_days = let same : st.k + 2 ≡ suc (suc st.k) = omega arith in after_days from m st l 2 el ∙ ap days_in same

              pub purge_third : (leb (m.start + 1440 * m.days) issue && leb s.day l) ≡ true
                  → (Some (m.start + after + 1440 * m.days + 1440 * n)) ≡ purge_of issue s
              unfolding minute_in
              purge_third g =
                  let a = leb (m.start + 1440 * m.days) issue in
                  let b = leb s.day l in
                  let there : minute_in (suc (suc st.k)) s ≡ m.start + after + 1440 * m.days + 1440 * n
                  = omega (arith, next_start, next_days, start_next (suc st.k)) in
                  let next : start_of (suc st.k) ≤ issue = omega (arith, next_start, leb-true (m.start + 1440 * m.days) issue (and_left a b g)) in
                  sym (search_third issue st.k s early low time none_first none_second next (rw (← third_days) (and_right a b g)) ∙ ap Some there)

              pub purge_gone : (leb (m.start + 1440 * m.days) issue && leb s.day l) ≡ false → None ≡ purge_of issue s
              purge_gone g =
                  by_order issue (m.start + 1440 * m.days)
                  (λ i. sym (search_end issue st.k s early low time none_first none_second (omega (arith, next_start))))
                  (λ i.
                  let b : leb s.day l ≡ false = rw (le-leb (m.start + 1440 * m.days) issue i) at g in
                  sym (search_gone issue st.k s early low time none_first none_second (omega (arith, next_start)) (rw (← third_days) b)))

-- ---- end_after
module _ (issue second third days : ℕ) where
  pub ends_second : issue < second → third ≡ cond (ltb issue second) third (third + 1440 * days)
  ends_second h = rw (lt-ltb issue second h)

  pub ends_third : second ≤ issue → third + 1440 * days ≡ cond (ltb issue second) third (third + 1440 * days)
  ends_third h = rw (le-ltb issue second h)

-- ---- window_of
pub window_late : (issue : ℕ) → 68374080 ≤ issue → None ≡ window_of issue
unfolding window_of
window_late issue h = rw (le-ltb issue (start_of issue_months) (omega (arith, start_issues)))

module _ (issue : ℕ) (low : issue < 68374080) (from : ℕ) (ef : from ≡ earliest issue) where
  pub window_none : month_of from ≡ None → None ≡ window_of issue
  window_none q = impossible (omega (arith, month_none from q))

  pub window_is : (m : Month) (st : Stands from m) (n l end : ℕ)
      → n ≡ days_in (month_number m.year m.month + 1)
      → l ≡ days_in (month_number m.year m.month + 2)
      → end ≡ cond (ltb issue (m.start + 1440 * m.days)) (m.start + 1440 * m.days + 1440 * n) (m.start + 1440 * m.days + 1440 * n + 1440 * l)
      → (Some (record {
        from = from;
        since = from - m.start;
        lasts = 1440 * m.days;
        second = m.start + 1440 * m.days;
        third = m.start + 1440 * m.days + 1440 * n;
        longer = m.start + 1440 * m.days + 1440 * n + 1440 * n;
        end = end;
      }))
      ≡ window_of issue
  unfolding window_of
  window_is m st n l end en el ee =
      let k = st.k in
      let one : k + 1 ≡ suc k = omega arith in
      let two : k + 2 ≡ suc (suc k) = omega arith in
      let found_at : month_of (issue - 1440) ≡ Some k = rw ef at st.found_at in
      let next_days : n ≡ days_in (suc k) = after_days from m st n 1 en ∙ ap days_in one in
      let last-days : l ≡ days_in (suc (suc k)) = after_days from m st l 2 el ∙ ap days_in two in
      let second : m.start + 1440 * m.days ≡ start_of (suc k) = omega (arith, st.start, st.days, start_next k) in
      let third : start_of (suc k) + 1440 * n ≡ start_of (suc (suc k)) = omega (arith, start_next (suc k)) in
      let last : start_of (suc (suc k)) + 1440 * l ≡ start_of (suc (suc (suc k))) = omega (arith, start_next (suc (suc k))) in
      rw (ee, second, third, last, st.start, st.days, next_days, ef, found_at, lt-ltb issue (start_of issue_months) (omega (arith, start_issues)))
