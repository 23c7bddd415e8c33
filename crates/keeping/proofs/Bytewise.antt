-- What calls leave of a book's bytes: `keeps`. Assumes nothing.
use mathlib.Core.Path.{◌≡◌, refl, sym, ap, subst, ◌∙◌}
use mathlib.Core.Bool.{true, false}
use mathlib.Core.List.{List}
use Prim.Native.Nat.{ℕ}
use lib.ListN.{length}
use lib.Dec.{eqb}
use borrow.Author.Tests.{eqb-true, eqb-false}
use Rattle.laws.proofs.Tests.{by, apart}
use Rattle.blocks.specs.Block.{book_length, Bytes}
use Rattle.steps.specs.Book.{Book}
use Rattle.steps.specs.Calls.{Edit, read_purge, read_count, read_place, add, remove, set_purge, editing, Call, on, Value, BookAnswer, book_rule}
use Rattle.steps.proofs.Chains.{Told, told_ok, told_then, told_left}
use Rattle.steps.proofs.Leaving.{Reads, reads_purge, reads_count, reads_place}
use Rattle.layout.specs.Layout.{bytes_of, book_of}
use Rattle.layout.specs.Sound.{Sound}
use Rattle.layout.specs.Tests.{is_sound}
use Rattle.layout.specs.Rule.{bytes_rule, on_bytes}
use Rattle.layout.proofs.Parts.{sound_parts}
use Rattle.layout.proofs.Back.{sound_bytes}
use Rattle.layout.proofs.SoundBack.{sound_book}
use Rattle.layout.proofs.ForthSound.{bytes_sound}
use Rattle.layout.proofs.Rules.{in_book, in_bytes, rule_short, rule_unsound, rule_sound, bytes_refused, refused_bytes}
use Rattle.keeping.specs.Keeps.{is_read, Keeps}
use Rattle.keeping.proofs.Keeping.{rule_fine}
use Rattle.keeping.proofs.Reading.{reads_rule}

-- what holds of sound bytes, and of the bytes of every book that a call on them leaves, holds of the bytes after the call
on_sound : (P : List ℕ → Type 0) (Q : Book → Type 0) (l : List ℕ) (c : Call) → length l ≡ book_length → is_sound l ≡ true
    → Told (λ (z : Value × Book). Q z.1) (book_rule (book_of l) c) → P l → ((b : Book) → Q b → P (bytes_of b)) → P (on_bytes l c).1
unfolding on_bytes in_bytes in_book
on_sound P Q l c h e t p f =
    told_left P l (bytes_rule l c) p
    (subst (Told (λ (z : Value × List ℕ). P z.1)) (sym (rule_sound l c h e))
    (told_then (book_rule (book_of l) c) in_book t (λ z q. told_ok _ (f z.1 q))))

-- bytes that are refused with 1 or 12 stay as they were
on_short : (l : List ℕ) (c : Call) → eqb (length l) book_length ≡ false → (on_bytes l c).1 ≡ l
on_short l c t = ap (λ (z : BookAnswer × List ℕ). z.1) (bytes_refused l c 1 0 (rule_short l c (eqb-false (length l) book_length t)))

on_unsound : (l : List ℕ) (c : Call) → length l ≡ book_length → is_sound l ≡ false → (on_bytes l c).1 ≡ l
on_unsound l c h e = ap (λ (z : BookAnswer × List ℕ). z.1) (bytes_refused l c 12 0 (rule_unsound l c h e))

pub call_sound : (l : List ℕ) → Bytes l → is_sound l ≡ true → (c : Call) → is_sound (on_bytes l c).1 ≡ true
call_sound l y e c =
    on_sound (λ (m : List ℕ). is_sound m ≡ true) Sound l c (sound_parts l e).long e (rule_fine (book_of l) (sound_book l y e) c) e bytes_sound

-- a read leaves every byte, whatever it answers
pub read_bytes : (l : List ℕ) → Bytes l → (d s : ℕ) {x : Edit} → Reads x → (on_bytes l (on d s (editing x))).1 ≡ l
read_bytes l y d s {x} r =
    let c : Call = on d s (editing x) in
    by (eqb (length l) book_length)
    (λ t. let h : length l ≡ book_length = eqb-true (length l) book_length t in
    by (is_sound l)
    (λ e. on_sound (λ (m : List ℕ). m ≡ l) (λ (b : Book). b ≡ book_of l) l c h e (reads_rule (book_of l) d s r (sound_book l y e)) refl
    (λ b q. ap bytes_of q ∙ sound_bytes l y e))
    (λ e. on_unsound l c h e))
    (λ t. on_short l c t)

-- ---- all three together
reads_of : (e : Edit) → is_read e ≡ true → Reads e
reads_of read_purge h = reads_purge
reads_of read_count h = reads_count
reads_of (read_place i) h = reads_place i
reads_of (add p) h = apart cc
reads_of (remove p) h = apart cc
reads_of (set_purge s) h = apart cc

sound_as : (l : List ℕ) → Bytes l → (c : Call) → is_sound (on_bytes l c).1 ≡ is_sound l
sound_as l y c =
    by (is_sound l)
    (λ e. call_sound l y e c ∙ sym e)
    (λ e. by (eqb (length l) book_length)
    (λ t. ap is_sound (on_unsound l c (eqb-true (length l) book_length t) e))
    (λ t. ap is_sound (on_short l c t)))

pub keeps : (l : List ℕ) → Bytes l → Keeps l
keeps l y = record { refused = refused_bytes l; read = λ d s e h. read_bytes l y d s (reads_of e h); sound = sound_as l y }
