-- What blocks hold is stored as the segments that were found: the same of a commit and of an undo. Assumes nothing.
use mathlib.Core.Path.{◌≡◌, sym, ap, ◌∙◌, subst}
use mathlib.Core.List.{List}
use Rattle.std.specs.Prelude.{Some}
use Prim.Native.Nat.{ℕ, zero, suc, ◌≤◌}
use native.Mathlib.Omega.{arith}
use lib.ListN.{length}
use Rattle.laws.proofs.Tests.{impossible}
use Rattle.laws.specs.Lists.{All, all_nil, all_cons}
use Rattle.codes.specs.Block.{Content}
use Rattle.blocks.specs.Block.{block_count}
use Rattle.steps.specs.Book.{Copy, Book, put}
use Rattle.steps.specs.Calls.{stored, segments_named}
use Rattle.layout.specs.Layout.{part_of, held_in}
use Rattle.layout.specs.Sound.{FineDraft}
use Rattle.layout.specs.Lies.{Lies}
use Rattle.layout.specs.Rule.{segments_said}
use Rattle.layout.specs.declared.Changed.{Changed}
use Rattle.keeping.proofs.Parts.{put_length}
use Rattle.moves.specs.Named.{Among}
use Rattle.moves.specs.Undo.{with_segments}
use Rattle.moves.proofs.DraftsStale.{Marks}
use Rattle.moves.proofs.StepsLies.{parts_high}
use Rattle.history.specs.Changing.{changed_of, Placing, Placings, AllPlaced, FindsOne, FindsTwo, Finds, with_stored}
use Rattle.history.specs.declared.Found.{Found}
use Rattle.history.specs.declared.Found.TheVariants as found

-- ---- what the moves promise of bytes l before and m after
abbrev pub Puts : List ℕ → List ℕ → ℕ → ℕ → Type 0
Puts l m from s = (b : Book) → Lies l b → (c : Content) → held_in b (part_of from) ≡ Some c → s ≤ length b.segments → Lies m (with_segments b (put b.segments s c))

abbrev pub Stores : List ℕ → List ℕ → Found → Type 0
Stores l m f = (b : Book) → Lies l b → (cs : List Copy) → Finds b f cs → Lies m (with_segments b (stored cs b.segments))

abbrev pub Replaces : List ℕ → List ℕ → Found → Type 0
Replaces l m f = (b : Book) → Lies l b → (issue n : ℕ) → All (FineDraft issue n) b.drafts → (cs : List Copy) → Finds b f cs → Lies m (with_stored b cs)

-- ---- the segments that were found
module _ (f : Found) (p : AllPlaced block_count f) where
  module _ (s from : ℕ) (is : f ≡ found.One s from) where
    pub one_placing : Placing block_count s from
    one_placing = subst (Placings block_count) is p.each

  module _ (s from t other : ℕ) (is : f ≡ found.Two s from t other) where
    both : Placing block_count s from × Placing block_count t other
    both = subst (Placings block_count) is p.each

    pub first_placing : Placing block_count s from
    first_placing = both.0

    pub second_placing : Placing block_count t other
    second_placing = both.1

-- blocks of drafts are blocks of the book
wider : {s from : ℕ} → Placing 17 s from → Placing block_count s from
wider p = let h = p.high in record { one = p.one; eight = p.eight; low = p.low; high = omega arith }

pub placed_wider : (f : Found) → AllPlaced 17 f → AllPlaced block_count f
placed_wider f p = record { each = each f p.each }
  where
    each : (f : Found) → Placings 17 f → Placings block_count f
    each found.Nothing p = p
    each (found.One s from) p = wider p
    each (found.Two s from t other) p = (wider p.0, wider p.1)

pub placed_among : (end : ℕ) (f : Found) (c : Changed) → c ≡ changed_of f → AllPlaced end f → Among 8 c
placed_among end f c says p = record { each = subst (λ (d : Changed). All (λ (s : ℕ). (1 ≤ s) × (s ≤ 8)) (segments_said d)) (sym says) (each f p.each) }
  where
    each : (f : Found) → Placings end f → All (λ (s : ℕ). (1 ≤ s) × (s ≤ 8)) (segments_said (changed_of f))
    each found.Nothing p = all_nil
    each (found.One s from) p = all_cons (p.one, p.eight) all_nil
    each (found.Two s from t other) p = all_cons (p.0.one, p.0.eight) (all_cons (p.1.one, p.1.eight) all_nil)

module _ (b : Book) where
  pub finds_numbers : (f : Found) (cs : List Copy) → Finds b f cs → segments_named cs ≡ segments_said (changed_of f)
  finds_numbers found.Nothing cs e = ap segments_named e
  finds_numbers (found.One s from) cs e = ap segments_named e.are
  finds_numbers (found.Two s from t other) cs e = ap segments_named e.are

  pub finds_among : (f : Found) (cs : List Copy) → Finds b f cs → Among (length b.segments) (changed_of f)
  finds_among found.Nothing cs e = record { each = all_nil }
  finds_among (found.One s from) cs e = record { each = all_cons (e.stands.one, e.stands.there) all_nil }
  finds_among (found.Two s from t other) cs e =
      record { each = all_cons (e.stands.one, e.stands.there) (all_cons (e.stands2.one, e.stands2.there) all_nil) }

-- ---- the stores
-- what a block behind the segments holds does not depend on them
held_segments : (b : Book) (cs : List Content) (from : ℕ) → 9 ≤ from → held_in b (part_of from) ≡ held_in (with_segments b cs) (part_of from)
held_segments b cs zero h = impossible (omega arith)
held_segments b cs (suc k) h = parts_high b cs k (omega arith)

pub put_none : (l : List ℕ) (f : Found) → f ≡ found.Nothing → Stores l l f
unfolding stored
put_none l f is b lies cs finds =
    let e = subst (λ (g : Found). Finds b g cs) is finds in
    subst (λ (ks : List Copy). Lies l (with_segments b (stored ks b.segments))) (sym e) lies

pub put_one : (l m : List ℕ) (f : Found) (s from : ℕ) → f ≡ found.One s from → Puts l m from s → Stores l m f
unfolding stored
put_one l m f s from is puts b lies cs finds =
    let e : FindsOne b s from cs = subst (λ (g : Found). Finds b g cs) is finds in
    subst (λ (ks : List Copy). Lies m (with_segments b (stored ks b.segments))) (sym e.are) (puts b lies e.content e.stands.held e.stands.there)

-- the second one first
pub put_two : (l l1 m : List ℕ) (f : Found) (s from t other : ℕ) → f ≡ found.Two s from t other → 9 ≤ from → Puts l l1 other t → Puts l1 m from s → Stores l m f
unfolding stored
put_two l l1 m f s from t other is low puts puts2 b lies cs finds =
    let e : FindsTwo b s from t other cs = subst (λ (g : Found). Finds b g cs) is finds in
    let segments : List Content = put b.segments t e.content2 in
    let there : s ≤ length segments = omega (arith, e.stands.there, put_length b.segments t e.content2) in
    subst (λ (ks : List Copy). Lies m (with_segments b (stored ks b.segments))) (sym e.are)
    (puts2 (with_segments b segments) (puts b lies e.content2 e.stands2.held e.stands2.there)
    e.content (sym (held_segments b segments from low) ∙ e.stands.held) there)

-- drafts that took one of the segments turn stale
pub replace_done : (l l1 m : List ℕ) (f : Found) (c : Changed) → c ≡ changed_of f → Stores l l1 f → Marks l1 m c → Replaces l m f
replace_done l l1 m f c says puts marks b lies issue n fine cs finds =
    marks (with_segments b (stored cs b.segments)) (puts b lies cs finds) issue n fine cs (finds_numbers b f cs finds ∙ sym (ap segments_said says))
