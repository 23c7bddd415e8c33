-- The readings of documents 01 and 02 are one to one: a number names one row of the table, and what the paper says of an answer is said of no other. Assumes nothing.
use Prim.Native.Nat.{ℕ}
use mathlib.Core.Path.{◌≡◌, refl, sym, ap, ◌∙◌}
use mathlib.Core.List.{List, [], ◌∷◌}
use mathlib.Core.Bool.{true, cond, ◌&&◌}
use lib.Dec.{eqb, leb, ltb}
use Rattle.laws.proofs.Tests.{apart}
use Rattle.refusal.specs.Numbers.{number_of}
use Rattle.refusal.specs.declared.Reason.{Reason}
use Rattle.refusal.specs.declared.Reason.TheVariants.{WrongLength, WrongText, WrongHeading, WrongIdentifier, WrongTime, WrongBlock, NoSegment, NoEnd, NinthSegment, WrongStorm, TooManyPlaces, NotSound, NoDraft, AllOpen, NoSuchSegment, NotTaken, TakenAlready, TwoTaken, SegmentFull, OnlyPlace, StaleDraft, NoStep, OutputShort, OutOfRange, PlaceTwice, NotBelonging}
use Rattle.std.specs.Prelude.{Result, Ok, Err}
use Rattle.refusal.specs.Answer.{Answer, answer_by, answer_of}
use Rattle.refusal.specs.declared.Refusal.{Refusal}

-- the table's rows, in order
rows : List Reason
rows =
    WrongLength ∷ WrongText ∷ WrongHeading ∷ WrongIdentifier ∷ WrongTime ∷ WrongBlock ∷ NoSegment ∷ NoEnd ∷ NinthSegment ∷ WrongStorm ∷ TooManyPlaces ∷ NotSound ∷ NoDraft ∷ AllOpen ∷ NoSuchSegment ∷ NotTaken ∷ TakenAlready ∷ TwoTaken ∷ SegmentFull ∷ OnlyPlace ∷ StaleDraft ∷ NoStep ∷ OutputShort ∷ OutOfRange ∷ PlaceTwice ∷ NotBelonging ∷ []

-- the first of these rows that has the number
row_of : List Reason → ℕ → Reason
row_of [] n = WrongLength
row_of (r ∷ rs) n = cond (eqb (number_of r) n) r (row_of rs n)

row_back : (r : Reason) → row_of rows (number_of r) ≡ r
unfolding rows row_of
row_back = elim [ WrongLength ↦ refl | WrongText ↦ refl | WrongHeading ↦ refl | WrongIdentifier ↦ refl | WrongTime ↦ refl | WrongBlock ↦ refl | NoSegment ↦ refl | NoEnd ↦ refl | NinthSegment ↦ refl | WrongStorm ↦ refl | TooManyPlaces ↦ refl | NotSound ↦ refl | NoDraft ↦ refl | AllOpen ↦ refl | NoSuchSegment ↦ refl | NotTaken ↦ refl | TakenAlready ↦ refl | TwoTaken ↦ refl | SegmentFull ↦ refl | OnlyPlace ↦ refl | StaleDraft ↦ refl | NoStep ↦ refl | OutputShort ↦ refl | OutOfRange ↦ refl | PlaceTwice ↦ refl | NotBelonging ↦ refl ]

-- no two rows have one number
pub number_one : (r s : Reason) → number_of r ≡ number_of s → r ≡ s
number_one r s e = sym (row_back r) ∙ ap (row_of rows) e ∙ row_back s

-- and each is a byte that is not 0
pub number_byte : (r : Reason) → (leb 1 (number_of r) && ltb (number_of r) 256) ≡ true
number_byte = elim [ WrongLength ↦ refl | WrongText ↦ refl | WrongHeading ↦ refl | WrongIdentifier ↦ refl | WrongTime ↦ refl | WrongBlock ↦ refl | NoSegment ↦ refl | NoEnd ↦ refl | NinthSegment ↦ refl | WrongStorm ↦ refl | TooManyPlaces ↦ refl | NotSound ↦ refl | NoDraft ↦ refl | AllOpen ↦ refl | NoSuchSegment ↦ refl | NotTaken ↦ refl | TakenAlready ↦ refl | TwoTaken ↦ refl | SegmentFull ↦ refl | OnlyPlace ↦ refl | StaleDraft ↦ refl | NoStep ↦ refl | OutputShort ↦ refl | OutOfRange ↦ refl | PlaceTwice ↦ refl | NotBelonging ↦ refl ]

-- nor have two refusals one number and place
refusal_one : (r s : Refusal) → number_of r.reason ≡ number_of s.reason → r.place ≡ s.place → r ≡ s
refusal_one r s n p =
    let q : r.reason ≡ s.reason = number_one r.reason s.reason n in
    λ i. record { reason = q i; place = p i }

-- nor two answers of the code one answer of the paper, if no two of their values are read alike
pub result_by_same : {A B : Type 0} (f : A → B) {x : Answer B} (r s : Result A Refusal) → ((a b : A) → r ≡ Ok a → s ≡ Ok b → f a ≡ f b → a ≡ b) → answer_by f r ≡ x → answer_by f s ≡ x → r ≡ s
result_by_same f (Ok v) (Ok w) one a b =
    let e : f v ≡ f w = cc in
    ap Ok (one v w refl refl e)
result_by_same f (Ok v) (Err s) one a b = apart cc
result_by_same f (Err r) (Ok w) one a b = apart cc
result_by_same f (Err r) (Err s) one a b =
    let n : number_of r.reason ≡ number_of s.reason = cc in
    let p : r.place ≡ s.place = cc in
    ap Err (refusal_one r s n p)

pub result_by_one : {A B : Type 0} (f : A → B) → ((a b : A) → f a ≡ f b → a ≡ b) → {x : Answer B} (r s : Result A Refusal) → answer_by f r ≡ x → answer_by f s ≡ x → r ≡ s
result_by_one f one r s a b = result_by_same f r s (λ v w p q. one v w) a b

pub result_one : {A : Type 0} {x : Answer A} (r s : Result A Refusal) → answer_of r ≡ x → answer_of s ≡ x → r ≡ s
result_one (Ok v) (Ok w) a b = cc
result_one (Ok v) (Err s) a b = apart cc
result_one (Err r) (Ok w) a b = apart cc
result_one (Err r) (Err s) a b =
    let n : number_of r.reason ≡ number_of s.reason = cc in
    let p : r.place ≡ s.place = cc in
    ap Err (refusal_one r s n p)
