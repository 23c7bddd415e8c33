-- Laws of windows: within the window of an issue are its purge minutes and no others, and every issue of 1970..2099 has one. Assumes nothing.
use Prim.Native.Nat.{ℕ, suc, ◌+◌, ◌-◌, ◌*◌, ◌/◌, ◌≤◌, ◌<◌}
use native.Mathlib.Omega.{arith}
use mathlib.Core.Path.{◌≡◌, refl, sym, ap, ◌∙◌}
use mathlib.Core.Bool.{true, false, not, ◌&&◌}
use Rattle.std.specs.Prelude.{Option, None, Some}
use lib.Dec.{leb, ltb}
use borrow.Author.Tests.{leb-true, ltb-true, lt-ltb, le-ltb, le-leb, lt-leb, leb-false, ne_eqb, eq-eqb}
use Rattle.laws.proofs.Tests.{by, by_order, impossible, apart, same_test}
use Rattle.calendar.specs.declared.Stamp.{Stamp}
use Rattle.calendar.specs.declared.Window.{Window}
use Rattle.months.specs.Months.{days_in, issue_months, start_of, month_of}
use Rattle.calendar.specs.Calendar.{minute_in, day_exists, stamp_after}
use Rattle.calendar.specs.Purge.{not_too_early, purge_of, gives, is_purge}
use Rattle.calendar.specs.Window.{earliest, end_after, comes_first, window_at, window_in, window_of, within, WindowOf}
use Rattle.months.proofs.Laws.{start_next, days_low, start_mono, start_end_lem, Falls, month_some, month_none, falls_one}
use Rattle.calendar.proofs.Laws.{time_is, minute_after, after_time, after_day, after_back, date_is, fits, early_is, early_test, issue_same, early_known}
use Rattle.calendar.proofs.Laws.{issue_next, next_known, search_first, search_second, search_third, Purges, purge_true, falls_purge, purge_is_lem, purge_own}

-- ---- what is within a window
module _ (w : Window) (t : ℕ) where
  pub within_before : t < w.from → false ≡ within w t
  unfolding within
  within_before h = rw (lt-leb w.from t h)

  module _ (i : w.from ≤ t) where
    pub within_first : t < w.second → true ≡ within w t
    unfolding within
    within_first h = rw (le-leb w.from t i, lt-ltb t w.second h)

    module _ (j : w.second ≤ t) where
      pub within_second : t < w.third → not (comes_first w (t - w.second)) ≡ within w t
      unfolding within
      within_second h = rw (le-leb w.from t i, le-ltb t w.second j, lt-ltb t w.third h)

      pub within_third : w.third ≤ t → (ltb t w.end && not (comes_first w (t - w.third)) && leb w.longer t) ≡ within w t
      unfolding within
      within_third h = rw (le-leb w.from t i, le-ltb t w.second j, le-ltb t w.third h)

-- ---- the purge minutes under an issue
-- what no DDHHMM gives is no purge minute
not_purge : (issue t : ℕ) → ((s : Stamp) → Purges issue s t → ⊥) → false ≡ is_purge issue t
not_purge issue t never =
    by (is_purge issue t)
    (λ y. let p = purge_own issue t y in absurd (never p.date.stamp (purge_true issue p.date.stamp t p.given)))
    (λ n. sym n)

-- what its own DDHHMM gives is one, and what it does not give is none
own_purge : (issue t j : ℕ) (m : Option ℕ) → Falls t j → purge_of issue (stamp_after (t - start_of j)) ≡ m → gives m t ≡ is_purge issue t
unfolding is_purge
own_purge issue t j m f e = rw (date_is j t f, e)

-- the day is in a month of so many days, by the minutes
there_test : (over days : ℕ) → ltb over (1440 * days) ≡ leb (over / 1440 + 1) days
there_test over days =
    same_test (ltb over (1440 * days)) (leb (over / 1440 + 1) days)
    (λ h. le-leb (over / 1440 + 1) days (omega (arith, ltb-true over (1440 * days) h)))
    (λ h. lt-ltb over (1440 * days) (omega (arith, leb-true (over / 1440 + 1) days h)))

-- so long after the month's start is not too early
since_test : (issue start over : ℕ) → leb (issue - 1440 - start) over ≡ not_too_early issue (start + over)
since_test issue start over =
    same_test (leb (issue - 1440 - start) over) (leb (issue - 1440) (start + over))
    (λ h. le-leb (issue - 1440) (start + over) (omega (arith, leb-true (issue - 1440 - start) over h)))
    (λ h. le-leb (issue - 1440 - start) over (omega (arith, leb-true (issue - 1440) (start + over) h)))
    ∙ early_test issue (start + over)

module _ (issue a : ℕ) (early : Falls (issue - 1440) a) (low : issue < start_of issue_months) where
  -- a DDHHMM so long after a month's start fits the first month
  first_test : (over : ℕ) → comes_first (window_at issue a) over ≡ fits issue (stamp_after over) a
  first_test over = rw (there_test over (days_in a), since_test issue (start_of a) over, minute_after a over)

  module _ (t : ℕ) where
    own_before : t < issue - 1440 → false ≡ is_purge issue t
    own_before h = not_purge issue t (λ s p. omega (arith, p.from))

    own_first : issue - 1440 ≤ t → t < start_of (suc a) → true ≡ is_purge issue t
    own_first i j =
        let s = stamp_after (t - start_of a) in
        let f : Falls t a = record { low = omega (arith, early.low); high = j; known = early.known } in
        let time = time_is s (after_time a t f) in
        let here : fits issue s a ≡ true = rw (le-leb s.day (days_in a) (after_day a t f), after_back a t f, early_is issue t (omega arith)) in
        sym (purge_is_lem issue s t (search_first issue a s early low time here ∙ ap Some (after_back a t f)))

    own_second : start_of (suc a) ≤ t → t < start_of (suc (suc a)) → not (comes_first (window_at issue a) (t - start_of (suc a))) ≡ is_purge issue t
    own_second j near =
        let over = t - start_of (suc a) in
        let s = stamp_after over in
        let f : Falls t (suc a) = record { low = j; high = near; known = omega (arith, early_known issue a early low) } in
        let time = time_is s (after_time (suc a) t f) in
        rw (first_test over)
        (by (fits issue s a)
        (λ y.
        rw y
        (sym (ne_eqb (minute_in a s) t (λ same. omega (arith, minute_after a over, start_next a, days_low a)))
        ∙ own_purge issue t (suc a) (Some (minute_in a s)) f (search_first issue a s early low time y)))
        (λ y.
        rw y
        (sym (eq-eqb (minute_in (suc a) s) t (after_back (suc a) t f))
        ∙ own_purge issue t (suc a) (Some (minute_in (suc a) s)) f
        (search_second issue a s early low time y (le-leb s.day (days_in (suc a)) (after_day (suc a) t f))))))

    -- the month after the issue's is the last
    own_past : (k : ℕ) → Falls issue k → start_of (suc (suc k)) ≤ t → false ≡ is_purge issue t
    own_past k issued far =
        not_purge issue t
        (λ s p.
        let near : suc p.at ≤ suc (suc k) = omega (arith, p.near, falls_one issue p.month k p.issued issued) in
        omega (arith, (falls_purge issue s t p).high, start_mono (suc p.at) (suc (suc k)) near))

    -- so long after the third month's start: the second has the day, or it has not
    longer_test : (over : ℕ) → start_of (suc (suc a)) + over ≡ t
        → leb (start_of (suc (suc a)) + 1440 * days_in (suc a)) t ≡ not (day_exists (suc a) (stamp_after over))
    longer_test over e =
        by (day_exists (suc a) (stamp_after over))
        (λ d.
        let h : over / 1440 + 1 ≤ days_in (suc a) = leb-true (over / 1440 + 1) (days_in (suc a)) d in
        rw d (lt-leb (start_of (suc (suc a)) + 1440 * days_in (suc a)) t (omega arith)))
        (λ d.
        let h : days_in (suc a) < over / 1440 + 1 = leb-false (over / 1440 + 1) (days_in (suc a)) d in
        rw d (le-leb (start_of (suc (suc a)) + 1440 * days_in (suc a)) t (omega arith)))

    module _ (next : start_of (suc a) ≤ issue) (j : start_of (suc (suc a)) ≤ t) (near : t < start_of (suc (suc (suc a)))) where
      own_third : (not (comes_first (window_at issue a) (t - start_of (suc (suc a)))) && leb (start_of (suc (suc a)) + 1440 * days_in (suc a)) t) ≡ is_purge issue t
      own_third =
          let over = t - start_of (suc (suc a)) in
          let s = stamp_after over in
          let f : Falls t (suc (suc a)) = record { low = j; high = near; known = omega (arith, next_known issue a early low next) } in
          let time = time_is s (after_time (suc (suc a)) t f) in
          rw (first_test over, longer_test over (omega arith))
          (by (fits issue s a)
          (λ x.
          rw x
          (sym (ne_eqb (minute_in a s) t (λ same. omega (arith, minute_after a over, start_mono (suc a) (suc (suc a)) (omega arith), start_next a, days_low a)))
          ∙ own_purge issue t (suc (suc a)) (Some (minute_in a s)) f (search_first issue a s early low time x)))
          (λ x.
          by (day_exists (suc a) s)
          (λ y.
          rw (x, y)
          (sym (ne_eqb (minute_in (suc a) s) t (λ same. omega (arith, minute_after (suc a) over, start_next (suc a), days_low (suc a))))
          ∙ own_purge issue t (suc (suc a)) (Some (minute_in (suc a) s)) f (search_second issue a s early low time x y)))
          (λ y.
          rw (x, y)
          (sym (eq-eqb (minute_in (suc (suc a)) s) t (after_back (suc (suc a)) t f))
          ∙ own_purge issue t (suc (suc a)) (Some (minute_in (suc (suc a)) s)) f
          (search_third issue a s early low time x y next (le-leb s.day (days_in (suc (suc a))) (after_day (suc (suc a)) t f)))))))

    own_later : start_of (suc (suc a)) ≤ t
        → (ltb t (end_after issue a) && not (comes_first (window_at issue a) (t - start_of (suc (suc a)))) && leb (start_of (suc (suc a)) + 1440 * days_in (suc a)) t)
        ≡ is_purge issue t
    own_later j =
        by_order issue (start_of (suc a))
        (λ h. rw (lt-ltb issue (start_of (suc a)) h, le-ltb t (start_of (suc (suc a))) j) (own_past a (issue_same issue a early h) j))
        (λ h.
        by_order t (start_of (suc (suc (suc a))))
        (λ near. rw (le-ltb issue (start_of (suc a)) h, lt-ltb t (start_of (suc (suc (suc a)))) near) (own_third h j near))
        (λ far. rw (le-ltb issue (start_of (suc a)) h, le-ltb t (start_of (suc (suc (suc a)))) far) (own_past (suc a) (issue_next issue a early low h) far)))

    at_tells : within (window_at issue a) t ≡ is_purge issue t
    at_tells =
        let w = window_at issue a in
        by_order t (issue - 1440)
        (λ i. sym (within_before w t i) ∙ own_before i)
        (λ i.
        by_order t (start_of (suc a))
        (λ j. sym (within_first w t i j) ∙ own_first i j)
        (λ j.
        by_order t (start_of (suc (suc a)))
        (λ h. sym (within_second w t i j h) ∙ own_second j h)
        (λ h. sym (within_third w t i j h) ∙ own_later h)))

-- ---- the window of an issue
-- within it are the issue's purge minutes, and no others
pub window_tells : (issue : ℕ) (w : Window) → window_of issue ≡ Some w → WindowOf issue w
unfolding window_of
window_tells issue w e =
    by (ltb issue (start_of issue_months))
    (λ low. go (ltb-true issue (start_of issue_months) low) (month_of (earliest issue)) refl (rw low at e))
    (λ late. let g : ◌≡◌ {A = Option Window} None (Some w) = rw late at e in apart cc)
  where
    go : issue < start_of issue_months → (o : Option ℕ) → month_of (earliest issue) ≡ o → window_in issue o ≡ Some w → WindowOf issue w
    go low None q h = apart cc
    go low (Some a) q h = let same : window_at issue a ≡ w = cc in rw (← same) (at_tells issue a (month_some (earliest issue) a q) low)

-- an issue of the years 1970..2099 has one
pub window_some : (issue : ℕ) → issue < start_of issue_months → (w : Window) × (window_of issue ≡ Some w)
unfolding window_of
window_some issue h = go (month_of (earliest issue)) refl
  where
    go : (o : Option ℕ) → month_of (earliest issue) ≡ o → (w : Window) × (window_of issue ≡ Some w)
    go None q = impossible (omega (arith, month_none (earliest issue) q, start_mono issue_months (suc issue_months) (omega arith), start_end_lem))
    go (Some a) q = (window_at issue a, rw (lt-ltb issue (start_of issue_months) h, q))
