-- The runs of strictly ascending places hold just these places, and their elements, read in order, give them back. Assumes nothing.
use Prim.Native.Nat.{ℕ, zero, suc, ◌+◌, ◌-◌, ◌*◌, ◌/◌, ◌%◌, ◌≤◌, ◌<◌}
use native.Mathlib.Omega.{arith}
use native.Mathlib.Nat.{add-zero}
use mathlib.Core.Path.{◌≡◌, refl, sym, ap, ◌∙◌, subst, subst₂}
use mathlib.Core.Logic.{◌≢◌}
use mathlib.Core.Bool.{true, ◌&&◌, not}
use mathlib.Core.List.{List, [], ◌∷◌, ◌++◌, append_assoc, append-nil}
use Rattle.std.specs.Prelude.{Option, Some}
use lib.Dec.{eqb}
use borrow.Author.Tests.{eqb-true, eqb-false, not-true}
use Rattle.laws.proofs.Tests.{by, and_left, and_right}
use Rattle.laws.proofs.Lists.{all_append, all_map}
use Rattle.laws.specs.Lists.{All, all_nil, all_cons}
use Rattle.calendar.specs.Calendar.{is_time}
use Rattle.calendar.specs.declared.Stamp.{Stamp}
use Rattle.codes.specs.Places.{places_end, place_of, Ascending, nil, cons, upward}
use Rattle.codes.specs.Elements.{covers, purge, said}
use Rattle.codes.specs.Block.{insert_run, insert_covered}
use Rattle.codes.specs.Written.{Run, joins, join, runs_of, single, parted, spans_of, elements_of, purge_element}
use Rattle.codes.proofs.Members.{run_after, run_split, from, below}
use Rattle.roundtrip.proofs.Split.{Word}
use Rattle.roundtrip.proofs.Said.{Fine, said_element, said_purge, word_element, word_purge}

-- ---- the places of runs
unfoldable pub places_of : List Run → List ℕ
places_of [] = []
places_of (r ∷ rs) = upward r.first (suc r.more) ++ places_of rs

-- what `joins` says
record Joins (p q : ℕ) : Type 0 where
  next : suc p ≡ q
  low : p % 1000 ≢ 0
  high : q % 1000 ≢ 0

joins_true : (p q : ℕ) → joins p q ≡ true → Joins p q
joins_true p q e =
    let f = and_left (eqb (suc p) q && not (eqb (p % 1000) 0)) (not (eqb (q % 1000) 0)) e in
    record {
      next = eqb-true _ _ (and_left (eqb (suc p) q) (not (eqb (p % 1000) 0)) f);
      low = eqb-false _ _ (not-true _ (and_right (eqb (suc p) q) (not (eqb (p % 1000) 0)) f));
      high = eqb-false _ _ (not-true _ (and_right (eqb (suc p) q && not (eqb (p % 1000) 0)) (not (eqb (q % 1000) 0)) e));
    }

-- the runs hold the places
join_places : (p : ℕ) (rs : List Run) → places_of (join p rs) ≡ p ∷ places_of rs
unfolding places_of join upward
join_places p [] = refl
join_places p (r ∷ rs) =
    by (joins p r.first) (λ e. rw e (ap (λ (q : ℕ). p ∷ (upward q (suc r.more) ++ places_of rs)) (joins_true p r.first e).next))
    λ e. rw e

runs_places : (ps : List ℕ) → places_of (runs_of ps) ≡ ps
unfolding places_of runs_of
runs_places [] = refl
runs_places (p ∷ ps) = join_places p (runs_of ps) ∙ ap (λ (x : List ℕ). p ∷ x) (runs_places ps)

-- and so do the spans
part_places : (p n : ℕ) (rs : List Run) → places_of (parted p n ++ rs) ≡ upward p (suc n) ++ places_of rs
unfolding places_of upward
part_places p zero rs = refl
part_places p (suc zero) rs = refl
part_places p (suc (suc n)) rs = refl

parts_places : (rs : List Run) → places_of (spans_of rs) ≡ places_of rs
unfolding places_of spans_of
parts_places [] = refl
parts_places (r ∷ rs) = part_places r.first r.more (spans_of rs) ∙ ap (λ (x : List ℕ). upward r.first (suc r.more) ++ x) (parts_places rs)

pub spans_places : (ps : List ℕ) → places_of (spans_of (runs_of ps)) ≡ ps
spans_places ps = parts_places (runs_of ps) ∙ runs_places ps

-- ---- each under one prefix
one_fine : (p : ℕ) → p < places_end → Fine (single p)
one_fine p h = record { below = h; within = omega arith; high = λ k. omega arith }

join_fine : (p : ℕ) {rs : List Run} → p < places_end → All Fine rs → All Fine (join p rs)
unfolding join
join_fine p h all_nil = all_cons (one_fine p h) all_nil
join_fine p h (all_cons {x = r} f fs) =
    by (joins p r.first)
    (λ e. let j = joins_true p r.first e in
    let g : Fine (record { first = p; more = suc r.more }) = record { below = h; within = omega (arith, j.next, j.low, j.high, f.within); high = λ k. omega (arith, j.low) } in
    rw e (all_cons g fs))
    λ e. rw e (all_cons (one_fine p h) (all_cons f fs))

runs_fine : {b : ℕ} {ps : List ℕ} → Ascending b ps → All Fine (runs_of ps)
unfolding runs_of
runs_fine nil = all_nil
runs_fine (cons {p = p} g h a) = join_fine p h (runs_fine a)

part_fine : (p n : ℕ) {rs : List Run} → Fine (record { first = p; more = n }) → All Fine rs → All Fine (parted p n ++ rs)
part_fine p zero f fs = all_cons f fs
part_fine p (suc zero) f fs = all_cons (one_fine p f.below) (all_cons (one_fine (suc p) (omega (arith, f.within, f.below))) fs)
part_fine p (suc (suc n)) f fs = all_cons f fs

parts_fine : {rs : List Run} → All Fine rs → All Fine (spans_of rs)
unfolding spans_of
parts_fine all_nil = all_nil
parts_fine (all_cons {x = r} f fs) = part_fine r.first r.more f (parts_fine fs)

pub spans_fine : {b : ℕ} {ps : List ℕ} → Ascending b ps → All Fine (spans_of (runs_of ps))
spans_fine a = parts_fine (runs_fine a)

-- ---- a run put in past the end
abbrev pub Under : ℕ → List ℕ → Type 0
Under b l = All (λ x. x < b) l

insert_upward : (n p : ℕ) {l : List ℕ} → Under p l → insert_run n p l ≡ l ++ upward p n
unfolding from below
insert_upward n p all_nil = run_split n p {b = 0} nil ∙ append-nil (upward p n)
insert_upward n p (all_cons {x} {xs} h u) = run_after n xs h ∙ ap (λ (l : List ℕ). x ∷ l) (insert_upward n p u)

upward_under : (n p : ℕ) → Under (p + n) (upward p n)
unfolding upward
upward_under zero p = all_nil
upward_under (suc n) p =
    let e : suc p + n ≡ p + suc n = omega arith in
    let u : Under (p + suc n) (upward (suc p) n) = rw (← e) (upward_under n (suc p)) in
    all_cons {x = p} (omega arith) u

under_upward : (n p : ℕ) {l : List ℕ} → Under p l → Under (p + n) (l ++ upward p n)
under_upward n p u = all_append (all_map (λ x h. omega arith) u) (upward_under n p)

-- ---- the places after a run are above it
rest_above : (n p : ℕ) {qs : List ℕ} → Ascending p (upward p n ++ qs) → Ascending (p + n) qs
unfolding upward
rest_above zero p a = rw add-zero a
rest_above (suc n) p (cons g h a) =
    let e : suc p + n ≡ p + suc n = omega arith in
    rw (← e) (rest_above n (suc p) a)

pub run_above : (n : ℕ) {b : ℕ} (p : ℕ) {qs : List ℕ} → Ascending b (upward p (suc n) ++ qs) → (b ≤ p) × Ascending (p + suc n) qs
unfolding upward
run_above n p (cons g h a) =
    let e : suc p + n ≡ p + suc n = omega arith in
    (g, rw (← e) (rest_above n (suc p) a))

-- ---- from a last prefix and the places so far, these words say the whole block
pub data Reads (s : Stamp) (ps : List ℕ) : Option ℕ → List ℕ → List (List ℕ) → Type 0 where
  stops : {l : Option ℕ} {g : List ℕ} {e : List ℕ} → said l e ≡ purge s → g ≡ ps → Reads s ps l g (e ∷ [])
  goes : {l : Option ℕ} {g : List ℕ} {e : List ℕ} {es : List (List ℕ)} (p n k : ℕ) → said l e ≡ covers p n k
      → Reads s ps (Some p) (insert_covered p n k g) es → Reads s ps l g (e ∷ es)

pub reads_nothing : {s : Stamp} {ps : List ℕ} {l : Option ℕ} {g : List ℕ} → Reads s ps l g [] → ⊥
reads_nothing r = elim r [ ]

-- the elements of the spans, and then the purge
module _ (s : Stamp) where
  pub words_spans : (last : Option ℕ) (rs : List Run) → All Word (elements_of last rs ++ (purge_element s ∷ []))
  unfolding elements_of
  words_spans last [] = all_cons (word_purge s) all_nil
  words_spans last (r ∷ rs) = all_cons (word_element last r) (words_spans (Some (r.first / 1000)) rs)

  pub reads_spans : is_time s ≡ true → (last : Option ℕ) (got : List ℕ) {b : ℕ} {rs : List Run} → All Fine rs → Ascending b (places_of rs) → Under b got
      → Reads s (got ++ places_of rs) last got (elements_of last rs ++ (purge_element s ∷ []))
  unfolding places_of elements_of
  reads_spans t last got all_nil a u = stops (said_purge last s t) (sym (append-nil got))
  reads_spans t last got {b} (all_cons {x = r} {xs = rs} f fs) a u =
      let up : List ℕ = upward r.first (suc r.more) in
      let above = run_above r.more {b = b} r.first {qs = places_of rs} a in
      let v : Under r.first got = all_map (λ x h. omega (arith, above.0)) u in
      let n : ℕ = r.first % 1000 in
      let e : suc (n + r.more) - n ≡ suc r.more = omega arith in
      let g : r.first / 1000 * 1000 + n ≡ r.first = omega arith in
      let same : got ++ up ≡ insert_covered (r.first / 1000) n (n + r.more) got = rw (e, g) (sym (insert_upward (suc r.more) r.first v)) in
      goes (r.first / 1000) n (n + r.more) (said_element last r f)
      (subst₂ (λ (x y : List ℕ). Reads s x (Some (r.first / 1000)) y (elements_of (Some (r.first / 1000)) rs ++ (purge_element s ∷ [])))
      (append_assoc got up (places_of rs))
      same
      (reads_spans t (Some (r.first / 1000)) (got ++ up) fs above.1 (under_upward (suc r.more) r.first v)))

-- ---- and each element covers places above those before it: from a last prefix and a bound, under which those before it are
pub data Rising : Option ℕ → ℕ → List (List ℕ) → Type 0 where
  rising_end : {l : Option ℕ} {b : ℕ} {e : List ℕ} (s : Stamp) → said l e ≡ purge s → Rising l b (e ∷ [])
  rising_on : {l : Option ℕ} {b : ℕ} {e : List ℕ} {es : List (List ℕ)} (p n k : ℕ) → said l e ≡ covers p n k → b ≤ place_of p n → n ≤ k
      → Rising (Some p) (suc (place_of p k)) es → Rising l b (e ∷ es)

pub rising_nothing : {l : Option ℕ} {b : ℕ} → Rising l b [] → ⊥
rising_nothing r = elim r [ ]

pub rising_spans : (s : Stamp) → is_time s ≡ true → (last : Option ℕ) {b : ℕ} {rs : List Run} → All Fine rs → Ascending b (places_of rs)
    → Rising last b (elements_of last rs ++ (purge_element s ∷ []))
unfolding places_of elements_of
rising_spans s t last all_nil a = rising_end s (said_purge last s t)
rising_spans s t last {b} (all_cons {x = r} {xs = rs} f fs) a =
    let above = run_above r.more {b = b} r.first {qs = places_of rs} a in
    let n : ℕ = r.first % 1000 in
    let p : ℕ = r.first / 1000 in
    let e : r.first + suc r.more ≡ suc (place_of p (n + r.more)) = omega arith in
    rising_on {b = b} p n (n + r.more) (said_element last r f) (omega (arith, above.0)) (omega arith)
    (rising_spans s t (Some p) fs (subst (λ (x : ℕ). Ascending x (places_of rs)) e above.1))
