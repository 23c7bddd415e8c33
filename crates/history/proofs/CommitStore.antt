-- The moves of a commit one after another leave the book that is committed. Assumes nothing.
use mathlib.Core.Path.{◌≡◌, sym, ap, ◌∙◌, subst}
use mathlib.Core.List.{List, map}
use Prim.Native.Nat.{ℕ, zero, suc, ◌≤◌, ◌<◌}
use native.Mathlib.Omega.{arith}
use lib.ListN.{length}
use Rattle.laws.proofs.Tests.{impossible}
use Rattle.codes.specs.Block.{Content}
use Rattle.steps.specs.Book.{Copy, closed, History, Book, put}
use Rattle.steps.specs.Calls.{with_drafts, old_of, remember}
use Rattle.layout.specs.Layout.{bytes_of, part_of, held_in}
use Rattle.layout.specs.Sound.{Sound}
use Rattle.layout.specs.Lies.{Lies}
use Rattle.layout.specs.Rule.{segments_said}
use Rattle.layout.specs.declared.Changed.{Changed}
use Rattle.moves.specs.Named.{Among}
use Rattle.moves.specs.Undo.{with_history}
use Rattle.moves.proofs.StepsForgot.{Pushes}
use Rattle.moves.proofs.StepsLies.{parts_low}
use Rattle.history.specs.Changing.{changed_of, Placing, Placings, AllPlaced, Stands, Finds, with_stored, Leaves}
use Rattle.history.specs.declared.Found.{Found}
use Rattle.history.specs.declared.Found.TheVariants as found
use Rattle.history.proofs.Stores.{Replaces, finds_numbers, finds_among}

-- ---- what the moves promise of bytes l before and m after
abbrev pub Closes : List ℕ → List ℕ → ℕ → Type 0
Closes l m d = (b : Book) → Lies l b → Lies m (with_drafts b (put b.drafts d closed))

abbrev pub Seals : List ℕ → List ℕ → Type 0
Seals l m = (b : Book) → Lies l b → m ≡ bytes_of b

abbrev pub Finishes : List ℕ → List ℕ → ℕ → Type 0
Finishes l m d = (b : Book) → Lies l b → m ≡ bytes_of (with_drafts b (put b.drafts d closed))

-- ---- blocks of copies do not depend on the steps
held_history : (b : Book) (h : History) (from : ℕ) → 9 ≤ from → from < 17 → held_in b (part_of from) ≡ held_in (with_history b h) (part_of from)
held_history b h zero g k = impossible (omega arith)
held_history b h (suc n) g k = parts_low b h.kept n (omega arith)

-- the same content stands there with other steps
stands_on : (b : Book) (h : History) (s from : ℕ) (c : Content) → Placing 17 s from → Stands b s from c → Stands (with_history b h) s from c
stands_on b h s from c p st = record { one = st.one; there = st.there; held = sym (held_history b h from p.low p.high) ∙ st.held }

finds_on : (b : Book) (h : History) (f : Found) (cs : List Copy) → Placings 17 f → Finds b f cs → Finds (with_history b h) f cs
finds_on b h found.Nothing cs p e = e
finds_on b h (found.One s from) cs p e = record { content = e.content; stands = stands_on b h s from e.content p e.stands; are = e.are }
finds_on b h (found.Two s from t other) cs p e =
    record {
      content = e.content;
      content2 = e.content2;
      stands = stands_on b h s from e.content p.0 e.stands;
      stands2 = stands_on b h t other e.content2 p.1 e.stands2;
      are = e.are;
    }

-- ---- the draft closed and block 0 sealed
pub finish_done : (l l1 m : List ℕ) (d : ℕ) → Closes l l1 d → Seals l1 m → Finishes l m d
finish_done l l1 m d p q b lies = q (with_drafts b (put b.drafts d closed)) (p b lies)

-- ---- the whole commit
pub commit_found_done : (l l1 l2 m : List ℕ) (d : ℕ) (f : Found) (c : Changed) → c ≡ changed_of f → AllPlaced 17 f → Pushes l l1 c → Replaces l1 l2 f → Finishes l2 m d
    → (b : Book) → Lies l b → Sound b → (cs : List Copy) → Finds b f cs → Leaves c m b d cs
commit_found_done l l1 l2 m d f c says placed p q r b lies sound cs finds =
    let h : History = remember (map (old_of b.segments) cs) b.history in
    let named = finds_numbers b f cs finds ∙ sym (ap segments_said says) in
    let lies1 : Lies l1 (with_history b h) = p b lies cs named (subst (Among (length b.segments)) (sym says) (finds_among b f cs finds)) in
    record {
      says = sym named;
      left =
          r (with_stored (with_history b h) cs)
          (q (with_history b h) lies1 b.issue (length b.segments) sound.drafts cs (finds_on b h f cs placed.each finds));
    }
