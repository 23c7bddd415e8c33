-- An answer as one number of 64 bits, and the way back. The number's low byte is 0, and the rest is the value; or it is the refusal's number, and the rest is the place.
use Rattle.std.specs.Prelude.{ℕ, zero, suc, ◌+◌, ◌-◌, ◌*◌, ◌/◌, ◌%◌, cond, List, [], ◌∷◌, eqb}
use Rattle.std.specs.Prelude.{Option, None, Some, Result, Ok, Err, ◌≡◌}
use Rattle.refusal.specs.Numbers.{number_of}
use Rattle.refusal.specs.declared.Refusal.{Refusal}
use Prim.Native.String.{String}
use Rattle.refusal.specs.Answer.{Answer, ok, no}
use Rattle.lines.specs.Bytes.{bytes, word, exactly}
use Rattle.heading.specs.Storm.{basin_names, ClassName, cyclone, internal, training, disturbance, StormName}
use Rattle.segments.specs.declared.Segment.{Segment}
use Rattle.layout.specs.Layout.{bit}
use Rattle.steps.specs.Calls as calls
use Rattle.steps.specs.Calls.{Value, draft, done, number, was, changed, Edit, read_purge, read_count, read_place, add, remove, set_purge, Work, taking, editing, Call, opening, on, commit, undo}

-- ---- an answer
-- 56 bits are left beside the low byte
abbrev pub rest_end : ℕ
rest_end = 72_057_594_037_927_936

unfoldable pub cell : ℕ → ℕ → ℕ
cell low rest = low % 256 + 256 * (rest % rest_end)

unfoldable pub pack : {A : Type 0} → (A → ℕ) → Answer A → ℕ
pack bits (ok x) = cell 0 (bits x)
pack bits (no reason place) = cell reason place

-- what the code's answer becomes, where `bits` says which numbers its value may give
abbrev pub PacksBy : {T : Type 0} → (T → ℕ → Type 0) → Result T Refusal → ℕ → Type 0
PacksBy bits (Ok x) r = (n : ℕ) × bits x n × (r ≡ cell 0 n)
PacksBy bits (Err w) r = r ≡ cell (number_of w.reason) w.place

unfoldable pub unpack : {A : Type 0} → (ℕ → A) → ℕ → Answer A
unpack value r = cond (eqb (r % 256) 0) (ok (value (r / 256))) (no (r % 256) (r / 256))

-- of an answer's value, one part
abbrev pub answered : {A B : Type 0} → (A → B) → Answer A → Answer B
answered part (ok x) = ok (part x)
answered part (no reason place) = no reason place

-- ---- bytes, the first lowest: a BBB, or the segments that a commit or an undo names
unfoldable pub spelled : List ℕ → ℕ
spelled [] = 0
spelled (b ∷ s) = b % 256 + 256 * spelled s

-- at most n bytes, none of them 0
unfoldable pub unspelled : ℕ → ℕ → List ℕ
unspelled zero r = []
unspelled (suc n) r = cond (eqb r 0) [] (r % 256 ∷ unspelled n (r / 256))

-- ---- the values of a book's calls
unfoldable pub value_bits : Value → ℕ
value_bits (draft d) = d
value_bits done = 0
value_bits (number n) = n
value_bits (was there) = bit there
value_bits (changed segments) = spelled segments

abbrev pub packed : calls.BookAnswer → ℕ
packed = pack value_bits

-- what a value is depends on the call
abbrev pub edit_value : Edit → ℕ → Value
edit_value read_purge r = number r
edit_value read_count r = number r
edit_value (read_place i) r = number r
edit_value (add p) r = was (eqb r 1)
edit_value (remove p) r = was (eqb r 1)
edit_value (set_purge s) r = number r

abbrev pub work_value : Work → ℕ → Value
work_value taking r = done
work_value (editing e) r = edit_value e r

-- a commit or an undo names two segments at most
abbrev pub named_most : ℕ
named_most = 2

abbrev pub segments_in : ℕ → Value
segments_in r = changed (unspelled named_most r)

unfoldable pub value_of : Call → ℕ → Value
value_of opening r = draft r
value_of (on d s w) r = work_value w r
value_of (commit d) r = segments_in r
value_of (calls.drop d) r = done
value_of undo r = segments_in r

abbrev pub unpacked : Call → ℕ → calls.BookAnswer
unpacked c = unpack (value_of c)

-- no value at all
abbrev pub nothing : Unit {0} → ℕ
nothing u = 0

abbrev pub no_value : ℕ → Unit {0}
no_value r = tt

-- a number as it is
abbrev pub plain : ℕ → ℕ
plain n = n

-- ---- a view: its start in 24 bits, its size in 32 bits above them
abbrev pub start_end : ℕ
start_end = 16_777_216

abbrev pub size_end : ℕ
size_end = 4_294_967_296

pub record View : Type 0 where
  pub start : ℕ
  pub size : ℕ

unfoldable pub view_bits : View → ℕ
view_bits v = v.start % start_end + start_end * (v.size % size_end)

unfoldable pub view_back : ℕ → View
view_back r = record { start = r % start_end; size = r / start_end }

-- the view of a segment in the caller's own text
abbrev pub viewed : Segment → View
viewed g = record { start = g.start; size = g.past - g.start }

-- ---- a BBB: 0 for none, else its three bytes
abbrev pub bbb_bytes : ℕ
bbb_bytes = 3

unfoldable pub bbb_bits : Option (List ℕ) → ℕ
bbb_bits None = 0
bbb_bits (Some bbb) = spelled bbb

unfoldable pub bbb_back : ℕ → Option (List ℕ)
bbb_back r = cond (eqb r 0) None (Some (unspelled bbb_bytes r))

-- ---- a storm: 0 for none, else a byte each for its basin (1..5), class (1..4) and number, and above them its year
-- a word's number in a list, from n on; 0 where it is not there
abbrev pub order_in : ℕ → List String → List ℕ → ℕ
order_in n [] b = 0
order_in n (w ∷ ws) b = cond (exactly (word w) b) n (order_in (suc n) ws b)

-- the word with a number, from 1 on
abbrev pub word_at : List String → ℕ → List ℕ
word_at [] n = []
word_at (w ∷ ws) n = cond (eqb n 1) (bytes w) (word_at ws (n - 1))

unfoldable pub basin_number : List ℕ → ℕ
basin_number b = order_in 1 basin_names b

unfoldable pub basin_back : ℕ → List ℕ
basin_back n = word_at basin_names n

abbrev pub class_number : ClassName → ℕ
class_number cyclone = 1
class_number internal = 2
class_number training = 3
class_number disturbance = 4

abbrev pub class_back : ℕ → ClassName
class_back n = cond (eqb n 1) cyclone (cond (eqb n 2) internal (cond (eqb n 3) training disturbance))

abbrev pub year_end : ℕ
year_end = 65_536

abbrev pub name_bits : StormName → ℕ
name_bits s = basin_number s.basin + 256 * class_number s.class + 65_536 * (s.number % 256) + 16_777_216 * (s.year % year_end)

unfoldable pub storm_bits : Option StormName → ℕ
storm_bits None = 0
storm_bits (Some s) = name_bits s

unfoldable pub storm_back : ℕ → Option StormName
storm_back r =
    cond (eqb r 0) None
    (Some (record { basin = basin_back (r % 256); class = class_back (r / 256 % 256); number = r / 65_536 % 256; year = r / 16_777_216 }))
