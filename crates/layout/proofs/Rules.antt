-- The rule of a call on sound bytes, on bytes that are no sound book, and on bytes of a wrong length. Assumes nothing.
use mathlib.Core.Path.{◌≡◌, sym, ap, ◌∙◌}
use mathlib.Core.Bool.{true, false}
use mathlib.Core.List.{List}
use Prim.Native.Nat.{ℕ}
use mathlib.Core.Logic.{◌≢◌}
use lib.ListN.{length}
use borrow.Author.Tests.{eq-eqb, ne_eqb}
use Rattle.refusal.specs.declared.Reason.TheVariants.{WrongLength, NotSound}
use Rattle.refusal.specs.Answer.{Answer, ok, no, refused, and_then, answer_by}
use Rattle.std.specs.Prelude.{Result}
use Rattle.refusal.specs.declared.Refusal.{Refusal}
use Rattle.blocks.specs.Block.{book_length}
use Rattle.steps.specs.Book.{Book}
use Rattle.steps.specs.Calls.{Call, Value, BookAnswer, settle, book_rule}
use Rattle.steps.proofs.Leaving.{settle_refused}
use Rattle.layout.specs.Layout.{bytes_of, book_of}
use Rattle.layout.specs.Tests.{is_sound}
use Rattle.layout.specs.Rule.{bytes_rule, on_bytes, value_said, Does}
use Rattle.layout.specs.declared.Reply.{Reply}

-- the rule of a call on a book, with the bytes of the book that it leaves
unfoldable pub in_book : Value × Book → Answer (Value × List ℕ)
in_book r = ok (r.0, bytes_of r.1)

unfoldable pub in_bytes : Answer (Value × Book) → Answer (Value × List ℕ)
in_bytes r = and_then r in_book

pub rule_short : (l : List ℕ) (c : Call) → length l ≢ book_length → bytes_rule l c ≡ refused WrongLength 0
unfolding bytes_rule and_then
rule_short l c h = rw (ne_eqb (length l) book_length h)

pub rule_unsound : (l : List ℕ) (c : Call) → length l ≡ book_length → is_sound l ≡ false → bytes_rule l c ≡ refused NotSound 0
unfolding bytes_rule and_then
rule_unsound l c h e = rw (eq-eqb (length l) book_length h, e)

pub rule_sound : (l : List ℕ) (c : Call) → length l ≡ book_length → is_sound l ≡ true → bytes_rule l c ≡ in_bytes (book_rule (book_of l) c)
unfolding bytes_rule in_bytes in_book and_then
rule_sound l c h e = rw (eq-eqb (length l) book_length h, e)

-- ---- what a call says where its rule is known
pub bytes_refused : (l : List ℕ) (c : Call) (n p : ℕ) → bytes_rule l c ≡ no n p → on_bytes l c ≡ (no n p, l)
unfolding on_bytes
bytes_refused l c n p e = ap (settle l) e

pub bytes_left : (l : List ℕ) (c : Call) (v : Value) (m : List ℕ) → bytes_rule l c ≡ ok (v, m) → on_bytes l c ≡ (ok v, m)
unfolding on_bytes
bytes_left l c v m e = ap (settle l) e

module _ (l : List ℕ) (c : Call) (long : length l ≡ book_length) (sound : is_sound l ≡ true) where
  pub book_refused : (n p : ℕ) → book_rule (book_of l) c ≡ no n p → on_bytes l c ≡ (no n p, l)
  unfolding in_bytes and_then
  book_refused n p e = bytes_refused l c n p (rule_sound l c long sound ∙ ap in_bytes e)

  pub book_left : (v : Value) (b : Book) → book_rule (book_of l) c ≡ ok (v, b) → on_bytes l c ≡ (ok v, bytes_of b)
  unfolding in_bytes in_book and_then
  book_left v b e = bytes_left l c v (bytes_of b) (rule_sound l c long sound ∙ ap in_bytes e)

-- a refused call "changes no lent byte"
pub refused_bytes : (l : List ℕ) (c : Call) (n p : ℕ) → (on_bytes l c).0 ≡ no n p → (on_bytes l c).1 ≡ l
unfolding on_bytes
refused_bytes l c n p e = settle_refused l (bytes_rule l c) n p e

-- ---- the promise of a call
module _ (l m : List ℕ) (c : Call) (r : Result Reply Refusal) (a : BookAnswer) where
  does_is : on_bytes l c ≡ (a, m) → answer_by value_said r ≡ a → Does l m c r
  does_is e p =
      record { answer = p ∙ sym (ap (λ (z : BookAnswer × List ℕ). z.0) e); left = sym (ap (λ (z : BookAnswer × List ℕ). z.1) e) }

-- what its rule does
pub does_step : (l m : List ℕ) (c : Call) (r : Result Reply Refusal) → length l ≡ book_length → is_sound l ≡ true → (v : Value) (b : Book) → book_rule (book_of l) c ≡ ok (v, b)
    → answer_by value_said r ≡ ok v → m ≡ bytes_of b → Does l m c r
does_step l m c r h e v b q p z = does_is l m c r (ok v) (book_left l c h e v b q ∙ ap (λ (x : List ℕ). (ok v, x)) (sym z)) p

module _ (l : List ℕ) (c : Call) (r : Result Reply Refusal) where
  -- a refused call leaves every byte
  pub does_refused : length l ≡ book_length → is_sound l ≡ true → (n p : ℕ) → book_rule (book_of l) c ≡ no n p → answer_by value_said r ≡ no n p → Does l l c r
  does_refused h e n p q a = does_is l l c r (no n p) (book_refused l c h e n p q) a

  pub does_short : length l ≢ book_length → answer_by value_said r ≡ refused WrongLength 0 → Does l l c r
  does_short h p = does_is l l c r (refused WrongLength 0) (bytes_refused l c 1 0 (rule_short l c h)) p

  pub does_unsound : length l ≡ book_length → is_sound l ≡ false → answer_by value_said r ≡ refused NotSound 0 → Does l l c r
  does_unsound h e p = does_is l l c r (refused NotSound 0) (bytes_refused l c 12 0 (rule_unsound l c h e)) p
