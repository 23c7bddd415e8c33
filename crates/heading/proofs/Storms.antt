-- The office line and its storm, by their bytes: one law for each way out of the code. Assumes nothing.
use Rattle.std.specs.Prelude.{Option, None, Some, option_map, Result, Ok, Err}
use Prim.Native.Nat.{ℕ, ◌+◌, ◌-◌, ◌*◌}
use mathlib.Core.Path.{◌≡◌, refl, ◌∙◌}
use mathlib.Core.List.{List, ◌++◌}
use mathlib.Core.Bool.{Bool, true, false, ◌&&◌, and_assoc}
use lib.ListN.{length, get_or, drop}
use lib.Seq.{drop-drop}
use lib.Dec.{eqb}
use Rattle.codes.proofs.Forms.{at_byte}
use Rattle.lines.specs.Bytes.{capital, digit, word, begins}
use Rattle.lines.proofs.Strings.{begins_append, exactly_is}
use Rattle.codes.specs.Places.{two_of}
use Rattle.heading.specs.Heading.{times}
use Rattle.heading.specs.Storm.{storm_form, names_storm, basin_of, class_of, storm_spelled, storm_of}
use Rattle.heading.specs.Paper.{paper_basin, paper_class, paper_named}
use Rattle.heading.specs.declared.Basin.{Basin}
use Rattle.heading.specs.declared.Class.{Class}
use Rattle.heading.specs.declared.Storm.{Storm}
use Rattle.heading.specs.declared.Storm.TheVariants as found
use Rattle.refusal.specs.declared.Reason.{Reason}

-- ---- a space, two capitals and six digits
pub storm_is_lem : (e : List ℕ) → begins storm_form e ≡ (eqb (get_or e 0 0) 32 && begins (times 2 capital) (drop 1 e) && begins (times 6 digit) (drop 3 e))
storm_is_lem e =
    let space = begins_append (word " ") (times 2 capital ++ times 6 digit) e in
    let capitals = begins_append (times 2 capital) (times 6 digit) (drop 1 e) in
    simp (space, capitals, drop-drop, at_byte e 0 32 refl, and_assoc)

pub names_is : (s e : List ℕ) → e ≡ drop (length s - 9) s →
    names_storm s ≡ (eqb (length e) 9 && eqb (get_or e 0 0) 32 && begins (times 2 capital) (drop 1 e) && begins (times 6 digit) (drop 3 e))
unfolding names_storm
names_is s e h =
    rw (← h) (exactly_is storm_form e ∙ simp (storm_is_lem, and_assoc))

-- ---- the storm of eight bytes
module _ (e : List ℕ) (n : ℕ) (en : n ≡ two_of (drop 2 e)) (f : Option Basin) (ef : option_map paper_basin f ≡ basin_of e) where
  pub storm_elsewhere : f ≡ None → (w : Reason) → paper_named (Err w) ≡ storm_spelled e
  storm_elsewhere p w = rw (← ef, p)

  module _ (b : Basin) (p : f ≡ Some b) (g : Option Class) (eg : option_map paper_class g ≡ class_of n) where
    pub storm_zero : g ≡ None → (w : Reason) → paper_named (Err w) ≡ storm_spelled e
    storm_zero q w = rw (← en, ← ef, p, ← eg, q)

    pub storm_found : (c : Class) → g ≡ Some c → (y z : ℕ) → y ≡ two_of (drop 4 e) → z ≡ two_of (drop 6 e)
        → paper_named (Ok (found.Found (record { basin = b; class = c; number = n; year = 100 * y + z }))) ≡ storm_spelled e
    storm_found c q y z ey ez = rw (← en, ← ey, ← ez, ← ef, p, ← eg, q)

-- ---- what the office line says
module _ (s : List ℕ) (t : Bool) (et : t ≡ names_storm s) where
  pub storm_named : t ≡ true → (e : List ℕ) → e ≡ drop (length s - 8) s → (r : Result Storm Reason) → paper_named r ≡ storm_spelled e → paper_named r ≡ storm_of s
  unfolding storm_of
  storm_named y e ee r q = q ∙ rw (← et, y, ← ee)

  pub storm_unnamed : t ≡ false → paper_named (Ok found.None) ≡ storm_of s
  unfolding storm_of
  storm_unnamed y = rw (← et, y)
