-- "each prefix once": which prefixes the elements of a written block spell. Assumes nothing.
use Prim.Native.Nat.{ℕ, zero, suc, ◌+◌, ◌*◌, ◌/◌, ◌%◌, ◌≤◌, ◌<◌}
use native.Mathlib.Omega.{arith}
use mathlib.Core.Path.{◌≡◌, refl, ap, subst}
use mathlib.Core.Bool.{true, cond}
use mathlib.Core.List.{List, [], ◌∷◌, ◌++◌, Memᴰ}
use Rattle.std.specs.Prelude.{Option, None, Some}
use lib.Dec.{eqb}
use borrow.Author.Tests.{eqb-true, eqb-false}
use Rattle.laws.proofs.Tests.{by, apart, either_way}
use Rattle.laws.proofs.Lists.{all_append, all_map, all_at}
use Rattle.laws.specs.Lists.{All, all_nil, all_cons}
use Rattle.lines.specs.Bytes.{begins}
use Rattle.calendar.specs.Calendar.{is_time}
use Rattle.calendar.specs.declared.Stamp.{Stamp}
use Rattle.calendar.proofs.Laws.{time_true}
use Rattle.codes.specs.Places.{prefixes, prefix_bytes, three_bytes, Ascending, nil, cons, upward}
use Rattle.codes.specs.Written.{Run, runs_of, spans_of, element_of, elements_of, purge_element, block_elements}
use Rattle.roundtrip.specs.Round.{spelled_by, spelled_prefixes, PlacePrefix, PrefixOnce}
use Rattle.roundtrip.proofs.Said.{Fine, no_capital, capital_of, letter, prefix_back}
use Rattle.roundtrip.proofs.Runs.{places_of, spans_places, spans_fine, run_above}

mem_after : {A : Type 0} (l : List A) {m : List A} {x : A} → Memᴰ x m → Memᴰ x (l ++ m)
mem_after [] w = w
mem_after (y ∷ l) w = Memᴰ.tail (mem_after l w)

-- ---- an element spells its prefix, unless that is the one of the element before
abbrev fresh : Option ℕ → ℕ → List ℕ
fresh None p = p ∷ []
fresh (Some q) p = cond (eqb q p) [] (p ∷ [])

spells_full : (p : ℕ) (t : List ℕ) → p < prefixes → spelled_by (prefix_bytes p ++ t) ≡ p ∷ []
unfolding spelled_by begins
spells_full p t h = rw (capital_of (p / 52) (omega arith), capital_of (p / 2 % 26) (omega arith), letter (eqb (p % 2) 0)) (ap (λ (x : ℕ). x ∷ []) (prefix_back p))

spells_short : (n : ℕ) (t : List ℕ) → n < 1000 → spelled_by (three_bytes n ++ t) ≡ []
unfolding spelled_by begins
spells_short n t h = rw (no_capital (n / 100) (omega arith))

spells_element : (last : Option ℕ) (r : Run) → Fine r → spelled_by (element_of last r) ≡ fresh last (r.first / 1000)
unfolding element_of
spells_element None r f = spells_full (r.first / 1000) _ (omega (arith, f.below))
spells_element (Some q) r f =
    by (eqb q (r.first / 1000))
    (λ e. rw e (spells_short (r.first % 1000) _ (omega arith)))
    λ e. rw e (spells_full (r.first / 1000) _ (omega (arith, f.below)))

spells_purge : (s : Stamp) → is_time s ≡ true → spelled_by (purge_element s) ≡ []
unfolding spelled_by begins purge_element
spells_purge s t = let r = time_true s t in rw (no_capital (s.day / 10) (omega arith))

-- p is spelled in l, or it is the prefix of the element before
data Spells (p : ℕ) (last : Option ℕ) (l : List ℕ) : Type 0 where
  there : Memᴰ p l → Spells p last l
  before : last ≡ Some p → Spells p last l

spells_here : (last : Option ℕ) (p : ℕ) (l : List ℕ) → Spells p last (fresh last p ++ l)
spells_here None p l = there (Memᴰ.head refl)
spells_here (Some q) p l = by (eqb q p) (λ e. before (ap Some (eqb-true q p e))) λ e. rw e (there (Memᴰ.head refl))

spells_later : (last : Option ℕ) (p m : ℕ) (l : List ℕ) → Spells m (Some p) l → Spells m last (fresh last p ++ l)
spells_later last p m l (there w) = there (mem_after (fresh last p) w)
spells_later last p m l (before e) = let same : p ≡ m = cc in subst (λ (x : ℕ). Spells x last (fresh last p ++ l)) same (spells_here last p l)

spells_first : (p : ℕ) (l : List ℕ) → Spells p None l → Memᴰ p l
spells_first p l (there w) = w
spells_first p l (before e) = apart cc

-- the places of a run have one prefix
one_prefix : (n p k : ℕ) → k * 1000 ≤ p → p + n ≤ k * 1000 + 1000 → All (λ q. q / 1000 ≡ k) (upward p n)
unfolding upward
one_prefix zero p k h g = all_nil
one_prefix (suc n) p k h g = all_cons {x = p} (omega arith) (one_prefix n (suc p) k (omega arith) (omega arith))

-- ---- the elements of spans, and then the purge
module _ (s : Stamp) (t : is_time s ≡ true) where
  abbrev listed : Option ℕ → List Run → List ℕ
  listed last rs = spelled_prefixes (elements_of last rs ++ (purge_element s ∷ []))

  listed_none : (last : Option ℕ) → listed last [] ≡ []
  unfolding spelled_prefixes elements_of
  listed_none last = rw (spells_purge s t)

  listed_more : (last : Option ℕ) (r : Run) (rs : List Run) → Fine r → listed last (r ∷ rs) ≡ fresh last (r.first / 1000) ++ listed (Some (r.first / 1000)) rs
  unfolding spelled_prefixes elements_of
  listed_more last r rs f = ap (λ (x : List ℕ). x ++ listed (Some (r.first / 1000)) rs) (spells_element last r f)

  -- they ascend
  rise : (q : ℕ) {b : ℕ} {rs : List Run} → q * 1000 ≤ b → All Fine rs → Ascending b (places_of rs) → Ascending (suc q) (listed (Some q) rs)
  unfolding places_of
  rise q h all_nil a = rw (listed_none (Some q)) nil
  rise q {b} h (all_cons {x = r} {xs = rs} f fs) a =
      let p : ℕ = r.first / 1000 in
      let v = run_above r.more {b = b} r.first {qs = places_of rs} a in
      let w : Ascending (suc p) (listed (Some p) rs) = rise p (omega arith) fs v.1 in
      rw (listed_more (Some q) r rs f)
      (by (eqb q (r.first / 1000))
      (λ e. rw e (rw (eqb-true q (r.first / 1000) e) w))
      λ e. rw e (cons {b = suc q} {p = r.first / 1000} (omega (arith, v.0, eqb-false q (r.first / 1000) e)) (omega (arith, f.below)) w))

  rise_first : {rs : List Run} → All Fine rs → Ascending 0 (places_of rs) → Ascending 0 (listed None rs)
  unfolding places_of
  rise_first all_nil a = rw (listed_none None) nil
  rise_first (all_cons {x = r} {xs = rs} f fs) a =
      let v = run_above r.more {b = 0} r.first {qs = places_of rs} a in
      rw (listed_more None r rs f) (cons {b = 0} {p = r.first / 1000} (omega arith) (omega (arith, f.below)) (rise (r.first / 1000) (omega arith) fs v.1))

  -- each is a place's
  only_spelled : (last : Option ℕ) {rs : List Run} → All Fine rs → All (λ p. PlacePrefix p (places_of rs)) (listed last rs)
  unfolding places_of upward
  only_spelled last all_nil = rw (listed_none last) all_nil
  only_spelled last (all_cons {x = r} {xs = rs} f fs) =
      rw (listed_more last r rs f)
      (all_append (here last)
      (all_map (λ p u. record { place = u.place; there = mem_after (upward r.first (suc r.more)) u.there; under = u.under }) (only_spelled (Some (r.first / 1000)) fs)))
    where
      first : PlacePrefix (r.first / 1000) (upward r.first (suc r.more) ++ places_of rs)
      first = record { place = r.first; there = Memᴰ.head refl; under = refl }

      here : (o : Option ℕ) → All (λ p. PlacePrefix p (upward r.first (suc r.more) ++ places_of rs)) (fresh o (r.first / 1000))
      here None = all_cons first all_nil
      here (Some q) = either_way (All (λ p. PlacePrefix p (upward r.first (suc r.more) ++ places_of rs))) (eqb q (r.first / 1000)) all_nil (all_cons first all_nil)

  -- each place's is among them
  every_spelled : (last : Option ℕ) {rs : List Run} → All Fine rs → All (λ q. Spells (q / 1000) last (listed last rs)) (places_of rs)
  unfolding places_of
  every_spelled last all_nil = all_nil
  every_spelled last (all_cons {x = r} {xs = rs} f fs) =
      let p : ℕ = r.first / 1000 in
      rw (listed_more last r rs f)
      (all_append
      (all_map (λ q e. rw e (spells_here last (r.first / 1000) (listed (Some (r.first / 1000)) rs)))
      (one_prefix (suc r.more) r.first (r.first / 1000) (omega arith) (omega (arith, f.within))))
      (all_map (λ q w. spells_later last p (q / 1000) (listed (Some p) rs) w) (every_spelled (Some p) fs)))

-- Of every strictly ascending set of places, the elements of its written block spell each prefix once, and no other.
pub prefix_once : (ps : List ℕ) (s : Stamp) → Ascending 0 ps → is_time s ≡ true → PrefixOnce ps (block_elements ps s)
unfolding block_elements
prefix_once ps s a t =
    let e : places_of (spans_of (runs_of ps)) ≡ ps = spans_places ps in
    let l : List ℕ = listed s t None (spans_of (runs_of ps)) in
    record {
      ascending = rise_first s t (spans_fine a) (rw e a);
      only = λ p m. subst (PlacePrefix p) e (all_at (only_spelled s t None (spans_fine a)) m);
      every = λ q m. spells_first (q / 1000) l (all_at (subst (All (λ q. Spells (q / 1000) None l)) e (every_spelled s t None (spans_fine a))) m);
    }
