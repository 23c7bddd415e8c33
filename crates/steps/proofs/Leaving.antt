-- What a call leaves as it was: a refused one leaves the book, and one that reads leaves the copy. Assumes nothing.
use Prim.Native.Nat.{ℕ}
use mathlib.Core.Path.{◌≡◌, refl}
use Rattle.std.specs.Prelude.{slice_get}
use Rattle.laws.proofs.Tests.{apart}
use Rattle.refusal.specs.declared.Reason.TheVariants.{OutOfRange}
use Rattle.refusal.specs.Answer.{Answer, ok, no}
use Rattle.codes.specs.Block.{Content}
use Rattle.steps.specs.Book.{Book}
use Rattle.steps.specs.Calls.{Edit, read_purge, read_count, read_place, Call, Value, BookAnswer, settle, edit_rule, book_rule, step}
use Rattle.steps.proofs.Chains.{Told, told_ok, told_find, told_left}

-- ---- "Each .. changes no lent byte", of what a call is about
pub settle_refused : {A : Type 0} (x : A) (r : Answer (Value × A)) (n p : ℕ) → (settle x r).0 ≡ no n p → (settle x r).1 ≡ x
settle_refused x (ok z) n p e = apart cc
settle_refused x (no m q) n p e = refl

-- what an edit answers of a copy, and the copy that it leaves
abbrev pub edited : ℕ → Edit → Content → BookAnswer × Content
edited issue e c = settle c (edit_rule issue e c)

-- a refused edit leaves the copy
pub edit_refused : (issue : ℕ) (e : Edit) (c : Content) (n p : ℕ) → (edited issue e c).0 ≡ no n p → (edited issue e c).1 ≡ c
edit_refused issue e c n p q = settle_refused c (edit_rule issue e c) n p q

-- a refused call leaves the book
pub step_refused : (b : Book) (c : Call) (n p : ℕ) → (step b c).0 ≡ no n p → (step b c).1 ≡ b
unfolding step
step_refused b c n p e = settle_refused b (book_rule b c) n p e

-- ---- the three reads
pub data Reads : Edit → Type 0 where
  reads_purge : Reads read_purge
  reads_count : Reads read_count
  reads_place : (i : ℕ) → Reads (read_place i)

-- a read leaves the copy
pub read_told : (issue : ℕ) {e : Edit} → Reads e → (c : Content) → Told (λ (z : Value × Content). z.1 ≡ c) (edit_rule issue e c)
unfolding edit_rule
read_told issue reads_purge c = told_ok _ refl
read_told issue reads_count c = told_ok _ refl
read_told issue (reads_place i) c = told_find (slice_get c.places i) OutOfRange _ (λ p e. told_ok _ refl)

-- accepted or refused
pub read_leaves : (issue : ℕ) {e : Edit} → Reads e → (c : Content) → (edited issue e c).1 ≡ c
read_leaves issue {e} r c = told_left (λ (k : Content). k ≡ c) c (edit_rule issue e c) refl (read_told issue r c)
