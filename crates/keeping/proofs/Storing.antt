-- Contents that are stored, and drafts that turn stale, stay fine. Assumes nothing.
use Prim.Native.Nat.{ℕ, ◌≤◌}
use native.Mathlib.Omega.{arith}
use mathlib.Core.Path.{◌≡◌, refl, sym, ◌∙◌}
use mathlib.Core.Bool.{Bool, true, false, ◌||◌}
use mathlib.Core.List.{List, [], ◌∷◌, map}
use lib.ListN.{length}
use Rattle.steps.proofs.Agree.{touches_none}
use Rattle.laws.proofs.Tests.{apart}
use Rattle.laws.proofs.Lists.{all_each}
use Rattle.laws.specs.Lists.{All, all_nil, all_cons}
use Rattle.codes.specs.Block.{Content}
use Rattle.steps.specs.Book.{Copy, Draft, closed, working}
use Rattle.steps.specs.Calls.{touches, staled, stored}
use Rattle.layout.specs.Sound.{Fine, FineCopy, FineDraft, closed_fine, working_fine}
use Rattle.keeping.proofs.Parts.{put_length, all_put}

-- ---- storing
pub stored_length : (cs : List Copy) (segments : List Content) → length (stored cs segments) ≡ length segments
unfolding stored
stored_length [] segments = refl
stored_length (c ∷ cs) segments = put_length (stored cs segments) c.segment c.held ∙ stored_length cs segments

pub stored_fine : (issue n : ℕ) {cs : List Copy} {segments : List Content} → All (FineCopy issue n) cs → All (Fine issue) segments
    → All (Fine issue) (stored cs segments)
unfolding stored
stored_fine issue n all_nil f = f
stored_fine issue n (all_cons {x = c} h a) f = all_put c.segment c.held h.fine (stored_fine issue n a f)

-- ---- staleness
-- a draft that is stale has taken something
pub stale_taken : (cs ks : List Copy) (stale : Bool) → (stale ≡ true → 1 ≤ length ks) → (stale || touches cs ks) ≡ true → 1 ≤ length ks
stale_taken cs [] true f h = f refl
stale_taken cs [] false f h = let e : false ≡ true = sym (touches_none cs) ∙ h in apart cc
stale_taken cs (k ∷ ks) stale f h = omega arith

pub staled_fine : (issue n : ℕ) (cs : List Copy) (d : Draft) → FineDraft issue n d → FineDraft issue n (staled cs d)
staled_fine issue n cs closed f = closed_fine
staled_fine issue n cs (working ks stale) (working_fine h) =
    working_fine (record { two = h.two; copies = h.copies; distinct = h.distinct; taken = stale_taken cs ks stale h.taken })

-- all drafts of a book
pub staled_all : (issue n : ℕ) (cs : List Copy) {ds : List Draft} → All (FineDraft issue n) ds → All (FineDraft issue n) (map (staled cs) ds)
staled_all issue n cs a = all_each (staled cs) (staled_fine issue n cs) a
