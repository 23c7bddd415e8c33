-- Laws of minutes, dates and purge minutes. Whoever calls this crate cites these, and never the definitions. Assumes nothing.
use Prim.Native.Nat.{ℕ, zero, suc, ◌+◌, ◌-◌, ◌≤◌, ◌<◌}
use native.Mathlib.Omega.{arith}
use mathlib.Core.Path.{◌≡◌, refl, sym, ap, ◌∙◌}
use mathlib.Core.Bool.{Bool, true, false, cond, ◌&&◌}
use mathlib.Core.List.{List, [], ◌∷◌}
use Rattle.std.specs.Prelude.{Option, None, Some}
use lib.Dec.{leb, ltb}
use borrow.Author.Tests.{leb-true, ltb-true, lt-ltb, le-ltb, le-leb, lt-leb, eq-eqb, eqb-true}
use Rattle.laws.specs.Lists.{All, all_nil, all_cons}
use Rattle.laws.proofs.Tests.{by, by_order, impossible, apart, and_left, and_right, same_test}
use Rattle.calendar.specs.declared.Stamp.{Stamp}
use Rattle.calendar.specs.declared.Date.{Date}
use Rattle.calendar.specs.Purge.{months_around, minutes_with, not_too_early, first_of, purge_in, purge_under, purge_of, gives, own_stamp, is_purge}
use Rattle.months.specs.Months.{month_number, year_of, month_of_year, days_in, issue_months, all_months, start_of, month_of}
use Rattle.months.proofs.Laws.{start_next, days_low, days_high, start_mono, start_issues, Falls, month_some, month_none, falls_low, month_is, issue_test}
use Rattle.calendar.specs.Calendar.{is_issue_month, is_time, minute_in, day_exists, is_month, minute_of, stamp_after, date_in, date_of}
use Rattle.calendar.specs.Serving.{Time}

-- ---- DDHHMM
-- DDHHMM is in its ranges where the test says so
pub time_true : (s : Stamp) → is_time s ≡ true → Time s
unfolding is_time
time_true s e =
    let a = leb 1 s.day in
    let b = leb s.day 31 in
    let c = leb s.hour 23 in
    let d = leb s.minute 59 in
    let abc = and_left (a && b && c) d e in
    let ab = and_left (a && b) c abc in
    record {
      first = leb-true 1 s.day (and_left a b ab);
      last = leb-true s.day 31 (and_right a b ab);
      hours = leb-true s.hour 23 (and_right (a && b) c abc);
      minutes = leb-true s.minute 59 (and_right (a && b && c) d e);
    }

-- and the test says so of what is
pub time_is : (s : Stamp) → Time s → is_time s ≡ true
unfolding is_time
time_is s t = rw (le-leb 1 s.day t.first, le-leb s.day 31 t.last, le-leb s.hour 23 t.hours, le-leb s.minute 59 t.minutes)

stamp_path : {d d' h h' m m' : ℕ} → d ≡ d' → h ≡ h' → m ≡ m'
    → ◌≡◌ {A = Stamp} (record { day = d; hour = h; minute = m }) (record { day = d'; hour = h'; minute = m' })
stamp_path e f g = λ i. record { day = e i; hour = f i; minute = g i }

-- a DDHHMM of month k
module _ (k : ℕ) (s : Stamp) (time : is_time s ≡ true) (day : s.day ≤ days_in k) where
  falls_in : k < all_months → Falls (minute_in k s) k
  unfolding minute_in
  falls_in h =
      let t = time_true s time in
      record { low = omega arith; high = omega (arith, start_next k); known = h }

  stamp_in : stamp_after (minute_in k s - start_of k) ≡ s
  unfolding minute_in
  stamp_in = let t = time_true s time in stamp_path (omega arith) (omega arith) (omega arith)

-- DDHHMM so many minutes after a month's start is the minute so many after it
pub minute_after : (k left : ℕ) → minute_in k (stamp_after left) ≡ start_of k + left
unfolding minute_in
minute_after k left = omega arith

-- a minute of month k
module _ (k t : ℕ) (f : Falls t k) where
  -- its DDHHMM is in its ranges
  pub after_time : Time (stamp_after (t - start_of k))
  after_time =
      let end = start_next k in
      let most = days_high k in
      record { first = omega arith; last = omega (arith, f.low, f.high); hours = omega arith; minutes = omega arith }

  -- and its day exists
  pub after_day : (stamp_after (t - start_of k)).day ≤ days_in k
  after_day = omega (arith, start_next k, f.low, f.high)

  -- its DDHHMM gives it back
  pub after_back : minute_in k (stamp_after (t - start_of k)) ≡ t
  after_back = omega (arith, minute_after k (t - start_of k), f.low)

  -- its date
  pub date_is : date_of t ≡ Some (record { year = year_of k; month = month_of_year k; stamp = stamp_after (t - start_of k) })
  unfolding date_of
  date_is = rw (month_is t k f)

-- ---- dates
-- a month of the calendar
pub record Known (year month : ℕ) : Type 0 where
  pub from : 1970 ≤ year
  pub first : 1 ≤ month
  pub last : month ≤ 12
  pub known : month_number year month < all_months

-- a month is of the calendar where the test says so
pub month_true : (year month : ℕ) → is_month year month ≡ true → Known year month
unfolding is_month
month_true year month e =
    let a = leb 1970 year in
    let b = leb 1 month in
    let c = leb month 12 in
    let d = ltb (month_number year month) all_months in
    let abc = and_left (a && (b && c)) d e in
    let bc = and_right a (b && c) abc in
    record {
      from = leb-true 1970 year (and_left a (b && c) abc);
      first = leb-true 1 month (and_left b c bc);
      last = leb-true month 12 (and_right b c bc);
      known = ltb-true (month_number year month) all_months (and_right (a && (b && c)) d e);
    }

-- and the test says so of what is
pub known_month : (year month : ℕ) → Known year month → is_month year month ≡ true
unfolding is_month
known_month year month k =
    rw (le-leb 1970 year k.from, le-leb 1 month k.first, le-leb month 12 k.last, lt-ltb (month_number year month) all_months k.known)

-- a month of the years that an issue may have
pub record IssueMonth (year month : ℕ) : Type 0 where
  pub from : 1970 ≤ year
  pub to : year ≤ 2099
  pub first : 1 ≤ month
  pub last : month ≤ 12

-- a month is an issue's where the test says so
pub issue_true : (year month : ℕ) → is_issue_month year month ≡ true → IssueMonth year month
unfolding is_issue_month
issue_true year month e =
    let a = leb 1970 year in
    let b = leb year 2099 in
    let c = leb 1 month in
    let d = leb month 12 in
    let ab = and_left (a && b) (c && d) e in
    let cd = and_right (a && b) (c && d) e in
    record {
      from = leb-true 1970 year (and_left a b ab);
      to = leb-true year 2099 (and_right a b ab);
      first = leb-true 1 month (and_left c d cd);
      last = leb-true month 12 (and_right c d cd);
    }

-- and the test says so of what is
pub issue_month : (year month : ℕ) → IssueMonth year month → is_issue_month year month ≡ true
unfolding is_issue_month
issue_month year month i = rw (le-leb 1970 year i.from, le-leb year 2099 i.to, le-leb 1 month i.first, le-leb month 12 i.last)

-- the date d is of the calendar, and t its minute
record Dates (d : Date) (t : ℕ) : Type 0 where
  month : Known d.year d.month
  time : is_time d.stamp ≡ true
  day : d.stamp.day ≤ days_in (month_number d.year d.month)
  here : minute_in (month_number d.year d.month) d.stamp ≡ t

minute_true : (d : Date) (t : ℕ) → minute_of d ≡ Some t → Dates d t
unfolding minute_of
minute_true d t e =
    let k = month_number d.year d.month in
    let a = is_month d.year d.month in
    let b = is_time d.stamp in
    let c = day_exists k d.stamp in
    by (a && b && c)
    (λ q.
    let f : Some (minute_in k d.stamp) ≡ Some t = rw q at e in
    record {
      month = month_true d.year d.month (and_left a b (and_left (a && b) c q));
      time = and_right a b (and_left (a && b) c q);
      day = leb-true d.stamp.day (days_in k) (and_right (a && b) c q);
      here = cc;
    })
    (λ q. let f : ◌≡◌ {A = Option ℕ} None (Some t) = rw q at e in apart cc)

minute_is_lem : (d : Date) (t : ℕ) → Dates d t → minute_of d ≡ Some t
unfolding minute_of
minute_is_lem d t h =
    let k = month_number d.year d.month in
    rw (known_month d.year d.month h.month, h.time, le-leb d.stamp.day (days_in k) h.day) (ap Some h.here)

-- a date's minute stands before the calendar's end
pub minute_low : (d : Date) (t : ℕ) → minute_of d ≡ Some t → t < 68418720
minute_low d t e =
    let h = minute_true d t e in
    let k = month_number d.year d.month in
    rw h.here at (falls_low (minute_in k d.stamp) k (falls_in k d.stamp h.time h.day h.month.known))

date_path : {y y' m m' : ℕ} {s s' : Stamp} → y ≡ y' → m ≡ m' → s ≡ s'
    → ◌≡◌ {A = Date} (record { year = y; month = m; stamp = s }) (record { year = y'; month = m'; stamp = s' })
date_path e f g = λ i. record { year = e i; month = f i; stamp = g i }

-- a date is what its minute gives back
pub minute_date : (d : Date) (t : ℕ) → minute_of d ≡ Some t → date_of t ≡ Some d
minute_date d t e =
    let h = minute_true d t e in
    let m = h.month in
    let k = month_number d.year d.month in
    let back = date_is k (minute_in k d.stamp) (falls_in k d.stamp h.time h.day m.known) in
    let year : year_of k ≡ d.year = omega arith in
    let month : month_of_year k ≡ d.month = omega arith in
    (rw h.here at back)
    ∙ ap Some (date_path year month ((rw (← h.here)) ∙ stamp_in k d.stamp h.time h.day))

-- the date of month k, so many minutes after its start, is of the calendar
dates_is : (t k : ℕ) → Falls t k → Dates (record { year = year_of k; month = month_of_year k; stamp = stamp_after (t - start_of k) }) t
dates_is t k f =
    let same : month_number (year_of k) (month_of_year k) ≡ k = omega arith in
    record {
      month = record { from = omega arith; first = omega arith; last = omega arith; known = rw same f.known };
      time = time_is (stamp_after (t - start_of k)) (after_time k t f);
      day = rw same (after_day k t f);
      here = rw same (after_back k t f);
    }

-- a minute before the calendar's end has a date
pub date_some : (t : ℕ) → t < 68418720 → (d : Date) × (date_of t ≡ Some d)
date_some t h = go (month_of t) refl
  where
    go : (o : Option ℕ) → month_of t ≡ o → (d : Date) × (date_of t ≡ Some d)
    go None e = impossible (omega (arith, month_none t e))
    go (Some k) e = (record { year = year_of k; month = month_of_year k; stamp = stamp_after (t - start_of k) }, date_is k t (month_some t k e))

-- a minute is what its date gives back
pub date_minute : (d : Date) (t : ℕ) → date_of t ≡ Some d → minute_of d ≡ Some t
unfolding date_of
date_minute d t e = go (month_of t) refl e
  where
    go : (o : Option ℕ) → month_of t ≡ o → date_in t o ≡ Some d → minute_of d ≡ Some t
    go None q h = apart cc
    go (Some k) q h =
        let same : record { year = year_of k; month = month_of_year k; stamp = stamp_after (t - start_of k) } ≡ d = cc in
        rw (← same) (minute_is_lem _ t (dates_is t k (month_some t k q)))

-- a date's DDHHMM is in its ranges
pub date_time : (d : Date) (t : ℕ) → date_of t ≡ Some d → is_time d.stamp ≡ true
unfolding date_of
date_time d t e = go (month_of t) refl e
  where
    go : (o : Option ℕ) → month_of t ≡ o → date_in t o ≡ Some d → is_time d.stamp ≡ true
    go None q h = apart cc
    go (Some k) q h =
        let same : record { year = year_of k; month = month_of_year k; stamp = stamp_after (t - start_of k) } ≡ d = cc in
        rw (← same) (time_is (stamp_after (t - start_of k)) (after_time k t (month_some t k q)))

-- ---- the search for the purge minute, from the earliest minute's month on
-- a DDHHMM has a minute in month j that counts: the day exists there, and the minute is not too early
abbrev pub fits : ℕ → Stamp → ℕ → Bool
fits issue s j = day_exists j s && not_too_early issue (minute_in j s)

-- the first of some months that has one decides
first_step : (issue : ℕ) (s : Stamp) (j : ℕ) (js : List ℕ)
    → first_of issue (minutes_with s (j ∷ js)) ≡ cond (fits issue s j) (Some (minute_in j s)) (first_of issue (minutes_with s js))
unfolding first_of minutes_with
first_step issue s j js = by (day_exists j s) (λ e. rw e) (λ e. rw e)

-- no minute under an issue past the last year, or of a DDHHMM out of its ranges
pub purge_no : (issue : ℕ) (s : Stamp) → (ltb issue (start_of issue_months) && is_time s) ≡ false → purge_of issue s ≡ None
unfolding purge_of
purge_no issue s h = go (month_of issue) refl
  where
    go : (o : Option ℕ) → month_of issue ≡ o → purge_under o issue s ≡ None
    go None q = refl
    go (Some k) q = let same = issue_test issue k (month_some issue k q) in rw (← same, h)

-- not too early is at most 1,440 minutes before the issue
early_true : (issue t : ℕ) → not_too_early issue t ≡ true → issue ≤ t + 1440
early_true issue t h = leb-true issue (t + 1440) h

pub early_is : (issue t : ℕ) → issue ≤ t + 1440 → not_too_early issue t ≡ true
early_is issue t h = le-leb issue (t + 1440) h

-- the earliest minute that counts
pub early_test : (issue t : ℕ) → leb (issue - 1440) t ≡ not_too_early issue t
early_test issue t =
    same_test (leb (issue - 1440) t) (not_too_early issue t)
    (λ h. early_is issue t (omega (arith, leb-true (issue - 1440) t h)))
    (λ h. le-leb (issue - 1440) t (omega (arith, early_true issue t h)))

-- the earliest minute is of month a, and the issue of that one or of the next
module _ (issue a : ℕ) (early : Falls (issue - 1440) a) where
  pub issue_same : issue < start_of (suc a) → Falls issue a
  issue_same h = record { low = omega (arith, early.low); high = h; known = early.known }

  module _ (low : issue < start_of issue_months) where
    pub early_known : a < issue_months
    early_known = ltb-true a issue_months (sym (issue_test (issue - 1440) a early) ∙ lt-ltb (issue - 1440) (start_of issue_months) (omega arith))

    pub issue_next : start_of (suc a) ≤ issue → Falls issue (suc a)
    issue_next h =
        record { low = h; high = omega (arith, early.high, start_next (suc a), days_low (suc a)); known = omega (arith, early_known) }

    pub next_known : start_of (suc a) ≤ issue → suc a < issue_months
    next_known h = ltb-true (suc a) issue_months (sym (issue_test issue (suc a) (issue_next h)) ∙ lt-ltb issue (start_of issue_months) low)

module _ (issue a : ℕ) (s : Stamp) (early : Falls (issue - 1440) a) (low : issue < start_of issue_months) (time : is_time s ≡ true) where
  -- in an earlier month a minute is too early
  earlier : (j : ℕ) → suc j ≡ a → fits issue s j ≡ false
  unfolding minute_in
  earlier j same =
      by (day_exists j s)
      (λ d.
      let t = time_true s time in
      let day : s.day ≤ days_in j = leb-true s.day (days_in j) d in
      let no : leb (issue - 1440) (minute_in j s) ≡ false = lt-leb (issue - 1440) (minute_in j s) (omega (arith, start_next j, ap start_of same, early.low)) in
      rw (d, ← early_test issue (minute_in j s), no))
      (λ d. rw d)

  -- in a later one it is not
  later : (j : ℕ) → a < j → fits issue s j ≡ day_exists j s
  unfolding minute_in
  later j h =
      let soon = early_is issue (minute_in j s) (omega (arith, start_mono (suc a) j h, early.high)) in
      by (day_exists j s) (λ d. rw (d, soon)) (λ d. rw d)

  under : (k : ℕ) → Falls issue k → purge_of issue s ≡ first_of issue (minutes_with s (months_around k))
  unfolding purge_of purge_in
  under k f = rw (month_is issue k f, ← issue_test issue k f, lt-ltb issue (start_of issue_months) low, time)

  -- so the search starts in month a, whether the issue is of that one or of the next
  same_month : issue < start_of (suc a) → purge_of issue s ≡ first_of issue (minutes_with s (a ∷ suc a ∷ []))
  unfolding months_around
  same_month h = under a (issue_same issue a early h) ∙ go a refl
    where
      go : (k : ℕ) → k ≡ a → first_of issue (minutes_with s (months_around k)) ≡ first_of issue (minutes_with s (k ∷ suc k ∷ []))
      go zero e = refl
      go (suc j) e = first_step issue s j (suc j ∷ suc (suc j) ∷ []) ∙ rw (earlier j e)

  next_month_lem : start_of (suc a) ≤ issue → purge_of issue s ≡ first_of issue (minutes_with s (a ∷ suc a ∷ suc (suc a) ∷ []))
  unfolding months_around
  next_month_lem h = under (suc a) (issue_next issue a early low h)

  -- the months of the search behind month a
  abbrev rest : List ℕ
  rest = suc a ∷ cond (ltb issue (start_of (suc a))) [] (suc (suc a) ∷ [])

  searched : purge_of issue s ≡ first_of issue (minutes_with s (a ∷ rest))
  searched =
      by_order issue (start_of (suc a))
      (λ h. rw (lt-ltb issue (start_of (suc a)) h) (same_month h))
      (λ h. rw (le-ltb issue (start_of (suc a)) h) (next_month_lem h))

  -- the first month decides, if it can
  pub search_first : fits issue s a ≡ true → purge_of issue s ≡ Some (minute_in a s)
  search_first q = searched ∙ first_step issue s a rest ∙ rw q

  module _ (n : fits issue s a ≡ false) where
    search_on : purge_of issue s
        ≡ cond (day_exists (suc a) s) (Some (minute_in (suc a) s)) (first_of issue (minutes_with s (cond (ltb issue (start_of (suc a))) [] (suc (suc a) ∷ []))))
    search_on = searched ∙ first_step issue s a rest ∙ rw n (first_step issue s (suc a) _ ∙ rw (later (suc a) (omega arith)))

    -- else the second, if it has the day
    pub search_second : day_exists (suc a) s ≡ true → purge_of issue s ≡ Some (minute_in (suc a) s)
    search_second q = search_on ∙ rw q

    module _ (m : day_exists (suc a) s ≡ false) where
      -- else there is no third month where the issue is of the first
      pub search_end : issue < start_of (suc a) → purge_of issue s ≡ None
      unfolding first_of minutes_with
      search_end h = search_on ∙ rw (m, lt-ltb issue (start_of (suc a)) h)

      search_last : start_of (suc a) ≤ issue → purge_of issue s ≡ cond (day_exists (suc (suc a)) s) (Some (minute_in (suc (suc a)) s)) None
      unfolding first_of minutes_with
      search_last h =
          search_on
          ∙ rw (m, le-ltb issue (start_of (suc a)) h)
          (first_step issue s (suc (suc a)) [] ∙ rw (later (suc (suc a)) (omega arith)))

      -- and where it is of the second, the third decides
      pub search_third : start_of (suc a) ≤ issue → day_exists (suc (suc a)) s ≡ true → purge_of issue s ≡ Some (minute_in (suc (suc a)) s)
      search_third h q = search_last h ∙ rw q

      pub search_gone : start_of (suc a) ≤ issue → day_exists (suc (suc a)) s ≡ false → purge_of issue s ≡ None
      search_gone h q = search_last h ∙ rw q

-- ---- the purge minute
-- s gives the purge minute t under an issue: in the month before the issue's, in it or in the next, which is month `at`
pub record Purges (issue : ℕ) (s : Stamp) (t : ℕ) : Type 0 where
  pub month : ℕ
  pub at : ℕ
  pub issued : Falls issue month
  pub last : month < issue_months
  pub near : at ≤ suc month
  pub time : is_time s ≡ true
  pub day : s.day ≤ days_in at
  pub here : minute_in at s ≡ t
  pub from : issue ≤ t + 1440

module _ (issue t k : ℕ) (s : Stamp) (f : Falls issue k) (last : k < issue_months) (time : is_time s ≡ true) where
  purge_at_lem : (j : ℕ) → j ≤ suc k → fits issue s j ≡ true → minute_in j s ≡ t → Purges issue s t
  purge_at_lem j near q here =
      let a = day_exists j s in
      let b = not_too_early issue (minute_in j s) in
      record {
        month = k;
        at = j;
        issued = f;
        last = last;
        near = near;
        time = time;
        day = leb-true s.day (days_in j) (and_left a b q);
        here = here;
        from = omega (arith, early_true issue (minute_in j s) (and_right a b q));
      }

  purge_in_lem : (js : List ℕ) → All (λ (j : ℕ). j ≤ suc k) js → first_of issue (minutes_with s js) ≡ Some t → Purges issue s t
  unfolding first_of minutes_with
  purge_in_lem [] near e = apart cc
  purge_in_lem (j ∷ js) (all_cons near more) e =
      let d : cond (fits issue s j) (Some (minute_in j s)) (first_of issue (minutes_with s js)) ≡ Some t = sym (first_step issue s j js) ∙ e in
      by (fits issue s j)
      (λ q.
      let g : Some (minute_in j s) ≡ Some t = rw q at d in
      let here : minute_in j s ≡ t = cc in
      purge_at_lem j near q here)
      (λ q. purge_in_lem js more (rw q at d))

-- what a purge minute is, and whence
pub purge_true : (issue : ℕ) (s : Stamp) (t : ℕ) → purge_of issue s ≡ Some t → Purges issue s t
purge_true issue s t e =
    let x = ltb issue (start_of issue_months) in
    by (x && is_time s)
    (λ u. go (ltb-true issue (start_of issue_months) (and_left x (is_time s) u)) (and_right x (is_time s) u) (month_of (issue - 1440)) refl)
    (λ u. let g : ◌≡◌ {A = Option ℕ} None (Some t) = sym (purge_no issue s u) ∙ e in apart cc)
  where
    go : issue < start_of issue_months → is_time s ≡ true → (o : Option ℕ) → month_of (issue - 1440) ≡ o → Purges issue s t
    go low time None q = impossible (omega (arith, month_none (issue - 1440) q, start_issues))
    go low time (Some a) q =
        let early = month_some (issue - 1440) a q in
        by_order issue (start_of (suc a))
        (λ h.
        purge_in_lem issue t a s (issue_same issue a early h) (early_known issue a early low) time (a ∷ suc a ∷ [])
        (all_cons {x = a} (omega arith) (all_cons {x = suc a} (omega arith) all_nil))
        (sym (same_month issue a s early low time h) ∙ e))
        (λ h.
        purge_in_lem issue t (suc a) s (issue_next issue a early low h) (next_known issue a early low h) time (a ∷ suc a ∷ suc (suc a) ∷ [])
        (all_cons {x = a} (omega arith) (all_cons {x = suc a} (omega arith) (all_cons {x = suc (suc a)} (omega arith) all_nil)))
        (sym (next_month_lem issue a s early low time h) ∙ e))

-- the month of a purge minute
pub falls_purge : (issue : ℕ) (s : Stamp) (t : ℕ) (p : Purges issue s t) → Falls t p.at
falls_purge issue s t p = rw p.here at (falls_in p.at s p.time p.day (omega (arith, p.last, p.near)))

-- the DDHHMM of a minute's date
pub record Stamped (t : ℕ) (s : Stamp) : Type 0 where
  pub date : Date
  pub dated : date_of t ≡ Some date
  pub stamp : date.stamp ≡ s

module _ (issue : ℕ) (s : Stamp) (t : ℕ) (e : purge_of issue s ≡ Some t) where
  -- a purge minute is not before the issue less 1,440 minutes
  pub purge_from : issue ≤ t + 1440
  purge_from = (purge_true issue s t e).from

  -- a purge minute stands before the calendar's end
  pub purge_low : t < 68418720
  purge_low = let p = purge_true issue s t e in falls_low t p.at (falls_purge issue s t p)

  -- DDHHMM is in its ranges where it gives a purge minute
  pub purge_time : is_time s ≡ true
  purge_time = (purge_true issue s t e).time

  -- the DDHHMM that gives a purge minute is the minute's own
  pub purge_stamp : Stamped t s
  purge_stamp =
      let p = purge_true issue s t e in
      record {
        date = record { year = year_of p.at; month = month_of_year p.at; stamp = stamp_after (t - start_of p.at) };
        dated = date_is p.at t (falls_purge issue s t p);
        stamp = ap (λ (x : ℕ). stamp_after (x - start_of p.at)) (sym p.here) ∙ stamp_in p.at s p.time p.day;
      }

  -- what a DDHHMM gives is a purge minute
  pub purge_is_lem : is_purge issue t ≡ true
  unfolding is_purge
  purge_is_lem = let p = purge_stamp in rw (p.dated, p.stamp, e) (eq-eqb t t refl)

-- t is what the DDHHMM of its date gives under the issue
pub record Purged (issue t : ℕ) : Type 0 where
  pub date : Date
  pub dated : date_of t ≡ Some date
  pub given : purge_of issue date.stamp ≡ Some t
  pub time : is_time date.stamp ≡ true

-- a purge minute is what its own DDHHMM gives
pub purge_own : (issue t : ℕ) → is_purge issue t ≡ true → Purged issue t
unfolding is_purge
purge_own issue t e = go (date_of t) refl e
  where
    own : (d : Date) (o : Option ℕ) → date_of t ≡ Some d → purge_of issue d.stamp ≡ o → gives o t ≡ true → Purged issue t
    own d None a q h = apart cc
    own d (Some m) a q h =
        let g : purge_of issue d.stamp ≡ Some t = q ∙ ap Some (eqb-true m t h) in
        record { date = d; dated = a; given = g; time = purge_time issue d.stamp t g }

    go : (o : Option Date) → date_of t ≡ o → own_stamp issue t o ≡ true → Purged issue t
    go None a h = apart cc
    go (Some d) a h = own d (purge_of issue d.stamp) a refl h
