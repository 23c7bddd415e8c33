-- What calls on a book leave as it was.
use Rattle.std.specs.Prelude.{ℕ, ◌≡◌, Bool, true, false, List}
use Rattle.refusal.specs.Answer.{no}
use Rattle.steps.specs.Calls.{Edit, read_purge, read_count, read_place, add, remove, set_purge, editing, Call, on}
use Rattle.layout.specs.Tests.{is_sound}
use Rattle.layout.specs.Rule.{on_bytes}

-- "Read: the copy's purge, count, or place at an index from 0"
abbrev pub is_read : Edit → Bool
is_read read_purge = true
is_read read_count = true
is_read (read_place i) = true
is_read (add p) = false
is_read (remove p) = false
is_read (set_purge s) = false

-- of the bytes l that a call is lent
pub record Keeps (l : List ℕ) : Type 0 where
  -- a refusal "changes no lent byte"
  pub refused : (c : Call) (n p : ℕ) → (on_bytes l c).0 ≡ no n p → (on_bytes l c).1 ≡ l
  -- neither does a read, whatever it answers
  pub read : (d s : ℕ) (e : Edit) → is_read e ≡ true → (on_bytes l (on d s (editing e))).1 ≡ l
  -- a sound book stays sound, and what is no sound book does not become one
  pub sound : (c : Call) → is_sound (on_bytes l c).1 ≡ is_sound l
