-- An element's bytes, set one after the other. Assumes nothing.
use Prim.Native.Nat.{ℕ, zero, suc, ◌+◌, ◌-◌, ◌/◌, ◌%◌, ◌≤◌}
use native.Mathlib.Omega.{arith}
use mathlib.Core.Path.{◌≡◌, refl, sym, ap, ◌∙◌}
use mathlib.Core.Bool.{true}
use Rattle.std.specs.Prelude.{Option}
use mathlib.Core.List.{List, [], ◌∷◌, ◌++◌}
use lib.ListN.{length, set, length-append}
use lib.Seq.{sets, take_all}
use Rattle.laws.proofs.Stores.{Copied, copied_done, sets_then}
use Rattle.lines.specs.Bytes.{bytes}
use Rattle.calendar.specs.Calendar.{is_time}
use Rattle.calendar.proofs.Laws.{time_true}
use Rattle.calendar.specs.declared.Stamp.{Stamp}
use Rattle.codes.specs.Places.{two_bytes, three_bytes}
use Rattle.codes.specs.Written.{new_prefix, up_to, element_of, purge_element}
use Rattle.writing.specs.Pen.{Stored, run_from}

-- ---- texts that are stored
pub stored_none : (a : List ℕ) (i : ℕ) → Stored a a i i []
stored_none a i = record { end = omega arith; bytes = refl }

module _ (a : List ℕ) (i x : ℕ) where
  pub stored_one : Stored a (set a i x) i (i + 1) (x ∷ [])
  stored_one = record { end = refl; bytes = refl }

-- bytes copied one by one
pub stored_all : (a b : List ℕ) (i n : ℕ) (xs : List ℕ) → Copied a b i xs (length xs) n → length xs ≤ n → Stored a b i (i + length xs) xs
stored_all a b i n xs v h =
    record {
      end = refl;
      bytes = copied_done a b i xs (length xs) n v h ∙ ap (λ (t : List ℕ). sets a i t) (take_all (length xs) xs (omega arith));
    }

-- one text behind the other
pub stored_on : {a b c : List ℕ} {i j k : ℕ} {s t : List ℕ} → Stored a b i j s → Stored b c j k t → Stored a c i k (s ++ t)
stored_on {a} {i = i} {s = s} {t = t} f g =
    record { end = omega (arith, f.end, g.end, length-append s t); bytes = sets_then a i s t f.bytes f.end g.bytes }

-- ---- an element's parts
up_to_more : (n more : ℕ) → (more ≡ 0 → ⊥) → up_to n more ≡ bytes ">" ++ three_bytes (n + more)
up_to_more n zero h = absurd (h refl)
up_to_more n (suc k) h = refl

-- how long it is behind its prefix: `nnn-` or `nnn>mmm-`
module _ (last : Option ℕ) (lo more n : ℕ) (e : n ≡ length (new_prefix last (lo / 1000))) where
  pub long_single : more ≡ 0 → n + 4 ≡ length (element_of last (run_from lo more))
  unfolding element_of
  long_single h = rw h (simp length-append (omega arith))

  pub long_range : (more ≡ 0 → ⊥) → n + 8 ≡ length (element_of last (run_from lo more))
  unfolding element_of
  long_range h = rw (up_to_more (lo % 1000) more h) (simp length-append (omega arith))

pub long_purge : (s : Stamp) → 7 ≡ length (purge_element s)
unfolding purge_element
long_purge s = refl

-- ---- the whole of it: three parts and `-`
module _ {a b c d : List ℕ} {i j k l : ℕ} where
  stored_dash : {s t u : List ℕ} → Stored a b i j s → Stored b c j k t → Stored c d k l u → Stored a (set d l 45) i (l + 1) (s ++ (t ++ (u ++ bytes "-")))
  stored_dash f g h = stored_on f (stored_on g (stored_on h (stored_one d l 45)))

  pub stored_element : (last : Option ℕ) (lo more : ℕ) → Stored a b i j (new_prefix last (lo / 1000)) → Stored b c j k (three_bytes (lo % 1000))
      → Stored c d k l (up_to (lo % 1000) more) → Stored a (set d l 45) i (l + 1) (element_of last (run_from lo more))
  unfolding element_of
  stored_element last lo more = stored_dash

  pub stored_purge : (s : Stamp) → Stored a b i j (two_bytes s.day) → Stored b c j k (two_bytes s.hour) → Stored c d k l (two_bytes s.minute)
      → Stored a (set d l 45) i (l + 1) (purge_element s)
  unfolding purge_element
  stored_purge s = stored_dash

-- each part of a time has two digits
module _ (s : Stamp) (e : is_time s ≡ true) where
  pub two_days : s.day ≤ 99
  two_days = omega (arith, (time_true s e).last)

  pub two_hours : s.hour ≤ 99
  two_hours = omega (arith, (time_true s e).hours)

  pub two_minutes : s.minute ≤ 99
  two_minutes = omega (arith, (time_true s e).minutes)
