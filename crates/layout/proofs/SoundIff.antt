-- "A book is sound if ..", both ways: bytes pass the code's test exactly if they are the bytes of a sound book, and of one only. Assumes nothing.
use Prim.Native.Nat.{ℕ}
use mathlib.Core.Path.{◌≡◌, sym, ap, ◌∙◌}
use mathlib.Core.Bool.{true}
use mathlib.Core.List.{List}
use Rattle.blocks.specs.Block.{Bytes}
use Rattle.layout.specs.Layout.{book_of}
use Rattle.layout.specs.Sound.{BytesOfBook}
use Rattle.layout.specs.Tests.{is_sound}
use Rattle.layout.proofs.Back.{sound_bytes}
use Rattle.layout.proofs.Forth.{book_bytes}
use Rattle.layout.proofs.SoundBack.{sound_book}
use Rattle.layout.proofs.ForthSound.{bytes_sound}

pub sound_forth : (l : List ℕ) → Bytes l → is_sound l ≡ true → BytesOfBook l
sound_forth l y e = record { book = book_of l; sound = sound_book l y e; bytes = sym (sound_bytes l y e) }

pub sound_back : (l : List ℕ) → BytesOfBook l → is_sound l ≡ true
sound_back l h = ap is_sound h.bytes ∙ bytes_sound h.book h.sound

-- no two sound books have the same bytes
pub one_book : (l : List ℕ) (g h : BytesOfBook l) → g.book ≡ h.book
one_book l g h = sym (book_bytes g.book g.sound) ∙ ap book_of (sym g.bytes ∙ h.bytes) ∙ book_bytes h.book h.sound
