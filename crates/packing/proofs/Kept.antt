-- What is packed is unpacked again: answers, bytes, views and storms. Assumes nothing.
use Prim.Native.Nat.{ℕ, zero, suc, ◌+◌, ◌*◌, ◌/◌, ◌%◌, ◌≤◌, ◌<◌}
use native.Mathlib.Nat.{zero-add, add-mul-mod_self_left, mod-eq_of_lt, add-mul-div_left, div-eq_of_lt, div-div-eq-div-mul}
use native.Mathlib.Omega.{arith}
use mathlib.Core.Path.{◌≡◌, refl, sym, ap, ap₂, ◌∙◌, subst}
use mathlib.Core.Bool.{true, false, ◌&&◌}
use mathlib.Core.List.{List, [], ◌∷◌}
use Rattle.std.specs.Prelude.{Option, None, Some}
use lib.ListN.{length}
use lib.Dec.{leb, ltb, eqb}
use borrow.Author.Tests.{leb-true, ltb-true, ne_eqb}
use Rattle.laws.proofs.Tests.{impossible, and_left, and_right}
use Rattle.laws.specs.Lists.{All, all_cons}
use Rattle.refusal.specs.Numbers.{number_of}
use Rattle.refusal.specs.declared.Reason.{Reason}
use Rattle.refusal.specs.Answer.{Answer, ok, no, refused}
use Rattle.refusal.proofs.OneToOne.{number_byte}
use Rattle.blocks.proofs.Numbers.{low_byte, high_part}
use Rattle.lines.specs.Bytes.{exactly}
use Rattle.steps.specs.Calls.{changed}
use Rattle.heading.specs.Storm.{ClassName, cyclone, internal, training, disturbance, StormName}
use Rattle.heading.specs.Paper.{paper_basin}
use Rattle.heading.specs.declared.Basin.{Basin}
use Rattle.heading.specs.declared.Basin.TheVariants.{Al, Sl, Ep, Cp, Wp}
use Rattle.packing.specs.Packing.{rest_end, cell, pack, unpack, answered, spelled, unspelled, value_bits, named_most, segments_in, plain, start_end, size_end, View, view_bits, view_back, bbb_bytes, bbb_bits, bbb_back, basin_number, basin_back, class_number, class_back, year_end, storm_bits, storm_back}

-- ---- an answer
cell_low : (low rest : ℕ) → low < 256 → cell low rest % 256 ≡ low
unfolding cell
cell_low low rest h = low_byte (low % 256) (rest % rest_end) (omega arith) ∙ mod-eq_of_lt h

cell_rest : (low rest : ℕ) → rest < rest_end → cell low rest / 256 ≡ rest
unfolding cell
cell_rest low rest h = high_part (low % 256) (rest % rest_end) (omega arith) ∙ mod-eq_of_lt h

-- an answer that is not lost: its value has 56 bits at most and is found again; or its number is none of 0, and its place has 56 bits at most
pub data Kept {A : Type 0} (bits : A → ℕ) (value : ℕ → A) : Answer A → Type 0 where
  kept_ok : (x : A) → bits x < rest_end → value (bits x) ≡ x → Kept bits value (ok x)
  kept_no : {reason place : ℕ} → 1 ≤ reason → reason < 256 → place < rest_end → Kept bits value (no reason place)

pub back : {A : Type 0} (bits : A → ℕ) (value : ℕ → A) (a : Answer A) → Kept bits value a → unpack value (pack bits a) ≡ a
unfolding pack unpack
back bits value (ok _) (kept_ok x h e) = rw (cell_low 0 (bits x) (omega arith), cell_rest 0 (bits x) h) (ap ok e)
back bits value (no reason place) (kept_no low high h) =
    let z : eqb reason 0 ≡ false = ne_eqb reason 0 (omega arith) in
    rw (cell_low reason place high, cell_rest reason place h, z)

-- a byte that is not 0
pub record Byte (b : ℕ) : Type 0 where
  pub from : 1 ≤ b
  pub below : b < 256

pub reason_byte : (r : Reason) → Byte (number_of r)
reason_byte r =
    let n = number_of r in
    record { from = leb-true 1 n (and_left (leb 1 n) (ltb n 256) (number_byte r)); below = ltb-true n 256 (and_right (leb 1 n) (ltb n 256) (number_byte r)) }

pub refused_kept : {A : Type 0} (bits : A → ℕ) (value : ℕ → A) (r : Reason) (place : ℕ) → place < rest_end → Kept bits value (refused r place)
refused_kept bits value r place h = kept_no (reason_byte r).from (reason_byte r).below h

-- ---- a part of an answer
-- a value that is found again
pub record Returns {B : Type 0} (bits : B → ℕ) (value : ℕ → B) (x : B) : Type 0 where
  pub low : bits x < rest_end
  pub same : value (bits x) ≡ x

pack_part : {A B : Type 0} (part : A → B) (bits : B → ℕ) (a : Answer A) → pack (λ (x : A). bits (part x)) a ≡ pack bits (answered part a)
unfolding pack
pack_part part bits (ok x) = refl
pack_part part bits (no reason place) = refl

pub part_back : {A B : Type 0} (part : A → B) (bits : B → ℕ) (value : ℕ → B) (a : Answer A) → Kept bits value (answered part a)
    → unpack value (pack (λ (x : A). bits (part x)) a) ≡ answered part a
part_back part bits value a k = ap (unpack value) (pack_part part bits a) ∙ back bits value (answered part a) k

-- a number that is no greater than 32 bits
pub small : (x : ℕ) → x < 4294967296 → Returns plain plain x
small x h = record { low = omega arith; same = refl }

-- ---- bytes
unspelled_step : (n b s : ℕ) → Byte b → unspelled (suc n) (b % 256 + 256 * s) ≡ b ∷ unspelled n s
unfolding unspelled
unspelled_step n b s h =
    let m : b % 256 ≡ b = mod-eq_of_lt h.below in
    let z : eqb (b + 256 * s) 0 ≡ false = ne_eqb (b + 256 * s) 0 (omega (arith, h.from)) in
    rw (m, z, low_byte b s h.below, high_part b s h.below)

pub unspelled_spelled : (n : ℕ) (bs : List ℕ) → All Byte bs → length bs ≤ n → unspelled n (spelled bs) ≡ bs
unfolding unspelled spelled
unspelled_spelled zero [] a h = refl
unspelled_spelled zero (b ∷ bs) a h = impossible (omega arith)
unspelled_spelled (suc n) [] a h = refl
unspelled_spelled (suc n) (b ∷ bs) (all_cons f a) h = unspelled_step n b (spelled bs) f ∙ ap (λ (r : List ℕ). b ∷ r) (unspelled_spelled n bs a (omega arith))

-- three bytes have 24 bits
pub spelled_low : (bs : List ℕ) → length bs ≤ 3 → spelled bs < 16777216
unfolding spelled
spelled_low [] h = omega arith
spelled_low (a ∷ []) h = omega arith
spelled_low (a ∷ b ∷ []) h = omega arith
spelled_low (a ∷ b ∷ c ∷ []) h = omega arith
spelled_low (a ∷ b ∷ c ∷ d ∷ bs) h = impossible (omega arith)

-- the segments that a commit or an undo names, two at most
pub segments_back : (bs : List ℕ) → All Byte bs → length bs ≤ 2 → Returns value_bits segments_in (changed bs)
unfolding value_bits
segments_back bs a two = record { low = omega (arith, spelled_low bs (omega arith)); same = ap changed (unspelled_spelled named_most bs a (omega arith)) }

-- ---- a view
pub view_low : (v : View) → view_bits v < rest_end
unfolding view_bits
view_low v = omega arith

pub view_back_lem : (v : View) → v.start < start_end → v.size < size_end → view_back (view_bits v) ≡ v
unfolding view_bits view_back
view_back_lem v hs hl =
    let a : v.start % start_end ≡ v.start = mod-eq_of_lt hs in
    let b : v.size % size_end ≡ v.size = mod-eq_of_lt hl in
    let m : (v.start + start_end * v.size) % start_end ≡ v.start = add-mul-mod_self_left v.start start_end v.size ∙ mod-eq_of_lt hs in
    let d : (v.start + start_end * v.size) / start_end ≡ v.size
    = add-mul-div_left v.start v.size {y = start_end} (omega arith) ∙ ap (λ (z : ℕ). z + v.size) (div-eq_of_lt hs) ∙ zero-add v.size in
    rw (a, b, m, d)

-- ---- a BBB: three bytes, none of them 0
pub data Marked : Option (List ℕ) → Type 0 where
  unmarked : Marked None
  marked : {bbb : List ℕ} → All Byte bbb → length bbb ≡ bbb_bytes → Marked (Some bbb)

pub bbb_low : (b : Option (List ℕ)) → Marked b → bbb_bits b < 16777216
unfolding bbb_bits
bbb_low None unmarked = omega arith
bbb_low (Some bbb) (marked a n) = spelled_low bbb (omega arith)

spelled_more : (bs : List ℕ) → All Byte bs → 1 ≤ length bs → 1 ≤ spelled bs
unfolding spelled
spelled_more [] a h = impossible (omega arith)
spelled_more (b ∷ bs) (all_cons f a) h = omega (arith, mod-eq_of_lt f.below, f.from)

pub bbb_back_lem : (b : Option (List ℕ)) → Marked b → bbb_back (bbb_bits b) ≡ b
unfolding bbb_bits bbb_back
bbb_back_lem None unmarked = refl
bbb_back_lem (Some bbb) (marked a n) =
    let z : eqb (spelled bbb) 0 ≡ false = ne_eqb (spelled bbb) 0 (omega (arith, spelled_more bbb a (omega arith))) in
    rw (z, unspelled_spelled bbb_bytes bbb a (omega arith))

-- ---- a storm
-- the two letters of one of the basins
pub record Known (b : List ℕ) : Type 0 where
  pub basin : Basin
  pub same : paper_basin basin ≡ b

basin_back_lem : (b : Basin) → basin_back (basin_number (paper_basin b)) ≡ paper_basin b
unfolding basin_number basin_back exactly
basin_back_lem = elim [ Al ↦ refl | Sl ↦ refl | Ep ↦ refl | Cp ↦ refl | Wp ↦ refl ]

class_back_lem : (c : ClassName) → class_back (class_number c) ≡ c
class_back_lem = elim [ cyclone ↦ refl | internal ↦ refl | training ↦ refl | disturbance ↦ refl ]

basin_low : (b : Basin) → (leb 1 (basin_number (paper_basin b)) && leb (basin_number (paper_basin b)) 5) ≡ true
unfolding basin_number exactly
basin_low = elim [ Al ↦ refl | Sl ↦ refl | Ep ↦ refl | Cp ↦ refl | Wp ↦ refl ]

class_low : (c : ClassName) → leb (class_number c) 4 ≡ true
class_low = elim [ cyclone ↦ refl | internal ↦ refl | training ↦ refl | disturbance ↦ refl ]

-- a basin's number is 1..5, and its letters are found again
record Basined (b : List ℕ) : Type 0 where
  from : 1 ≤ basin_number b
  to : basin_number b ≤ 5
  back : basin_back (basin_number b) ≡ b

known_basin : (b : List ℕ) → Known b → Basined b
known_basin b k =
    let n = basin_number (paper_basin k.basin) in
    let both : (leb 1 n && leb n 5) ≡ true = basin_low k.basin in
    subst Basined k.same
    (record {
      from = leb-true 1 n (and_left (leb 1 n) (leb n 5) both);
      to = leb-true n 5 (and_right (leb 1 n) (leb n 5) both);
      back = basin_back_lem k.basin;
    })

-- the four parts of a number: three bytes, and the rest
pub record Parted (a b c d : ℕ) : Type 0 where
  pub first : (a + 256 * b + 65536 * c + 16777216 * d) % 256 ≡ a
  pub second : (a + 256 * b + 65536 * c + 16777216 * d) / 256 % 256 ≡ b
  pub third : (a + 256 * b + 65536 * c + 16777216 * d) / 65536 % 256 ≡ c
  pub rest : (a + 256 * b + 65536 * c + 16777216 * d) / 16777216 ≡ d

pub parted : (a b c d : ℕ) → a < 256 → b < 256 → c < 256 → Parted a b c d
parted a b c d ha hb hc =
    let cd : ℕ = c + 256 * d in
    let bcd : ℕ = b + 256 * cd in
    let v : ℕ = a + 256 * bcd in
    let e : a + 256 * b + 65536 * c + 16777216 * d ≡ v = omega arith in
    let v1 : v / 256 ≡ bcd = high_part a bcd ha in
    let v2 : v / 65536 ≡ cd = sym (div-div-eq-div-mul v 256 256) ∙ ap (λ (z : ℕ). z / 256) v1 ∙ high_part b cd hb in
    let v3 : v / 16777216 ≡ d = sym (div-div-eq-div-mul v 65536 256) ∙ ap (λ (z : ℕ). z / 256) v2 ∙ high_part c d hc in
    record {
      first = ap (λ (z : ℕ). z % 256) e ∙ low_byte a bcd ha;
      second = ap (λ (z : ℕ). z / 256 % 256) e ∙ ap (λ (z : ℕ). z % 256) v1 ∙ low_byte b cd hb;
      third = ap (λ (z : ℕ). z / 65536 % 256) e ∙ ap (λ (z : ℕ). z % 256) v2 ∙ low_byte c d hc;
      rest = ap (λ (z : ℕ). z / 16777216) e ∙ v3;
    }

-- a storm's basin is one of the five, its number has 8 bits, and its year 16
pub data Small : Option StormName → Type 0 where
  small_none : Small None
  small_some : {s : StormName} → Known s.basin → s.number < 256 → s.year < year_end → Small (Some s)

pub storm_low : (s : Option StormName) → Small s → storm_bits s < rest_end
unfolding storm_bits
storm_low None small_none = omega arith
storm_low (Some s) (small_some k hn hy) = omega (arith, (known_basin s.basin k).to, leb-true (class_number s.class) 4 (class_low s.class))

name_back : (basin : List ℕ) (class : ClassName) (number year : ℕ) → Known basin → number < 256 → year < year_end
    → storm_back (basin_number basin + 256 * class_number class + 65536 * number + 16777216 * year) ≡ Some (record { basin = basin; class = class; number = number; year = year })
unfolding storm_back
name_back basin class number year k hn hy =
    let b = basin_number basin in
    let c = class_number class in
    let known : Basined basin = known_basin basin k in
    let low : 1 ≤ b = known.from in
    let high : b ≤ 5 = known.to in
    let most : c ≤ 4 = leb-true c 4 (class_low class) in
    let p : Parted b c number year = parted b c number year (omega arith) (omega arith) hn in
    let z : eqb (b + 256 * c + 65536 * number + 16777216 * year) 0 ≡ false = ne_eqb (b + 256 * c + 65536 * number + 16777216 * year) 0 (omega arith) in
    rw (z, p.first, p.second, p.third, p.rest, known.back, class_back_lem class)

none_back : storm_back 0 ≡ None
unfolding storm_back
none_back = refl

pub storm_back_lem : (s : Option StormName) → Small s → storm_back (storm_bits s) ≡ s
unfolding storm_bits
storm_back_lem None small_none = none_back
storm_back_lem (Some s) (small_some k hn hy) =
    ap₂ (λ (n y : ℕ). storm_back (basin_number s.basin + 256 * class_number s.class + 65536 * n + 16777216 * y)) (mod-eq_of_lt hn) (mod-eq_of_lt hy)
    ∙ name_back s.basin s.class s.number s.year k hn hy
