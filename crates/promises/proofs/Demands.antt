-- Demand 3 of a book that make has made, on its bytes. Assumes nothing.
use mathlib.Core.Path.{◌≡◌, subst}
use mathlib.Core.List.{List, map}
use Prim.Native.Nat.{ℕ}
use Rattle.refusal.specs.Answer.{ok}
use Rattle.steps.specs.Book.{Book}
use Rattle.steps.specs.Calls.{Call}
use Rattle.layout.specs.Layout.{bytes_of}
use Rattle.serial.specs.Bytewise.{WholeBytes}
use Rattle.serial.proofs.Lift.{whole_bytes}
use Rattle.segments.specs.Segments.{Segment}
use Rattle.bulletin.specs.Bulletin.{read_bulletin}
use Rattle.making.specs.Make.{make_rule}
use Rattle.bulletin.proofs.Saying.{by_then, ok_one}
use Rattle.making.proofs.Sounding.{made_sound}

-- "Start from a newly made book": the book that make's rule gives for the bytes l lent to it, and any list of calls on it
pub demand_3 : (l text : List ℕ) (year month : ℕ) (b : Book) → make_rule l text year month ≡ ok b → (h : List Call) → WholeBytes (bytes_of b) h
unfolding make_rule
demand_3 l text year month b e h =
    by_then _ _ b
    (λ _ _.
    by_then (read_bulletin text year month) _ b λ r read e2.
    subst (λ (x : Book). WholeBytes (bytes_of x) h) (ok_one _ b e2)
    (whole_bytes r.issue (map (λ (g : Segment). g.content) r.segments) (made_sound text year month r read) h))
    e
