-- Drafts that turn stale. Assumes nothing.
use mathlib.Core.Path.{◌≡◌, refl, sym, ap, subst, ◌∙◌}
use mathlib.Core.Bool.{Bool, true, false, cond, ◌||◌, or-false, or-true}
use mathlib.Core.List.{List, [], ◌∷◌, map}
use Prim.Native.Nat.{ℕ, zero, suc, ◌+◌, ◌-◌, ◌*◌, ◌≤◌, ◌<◌}
use native.Mathlib.Omega.{arith}
use lib.ListN.{length, get_or, set}
use Rattle.std.specs.Prelude.{slice_get}
use lib.Seq.{set-get_or}
use lib.Dec.{eqb}
use borrow.Author.Tests.{ne_eqb}
use Rattle.steps.proofs.Agree.{touches_none}
use Rattle.laws.proofs.Tests.{by, impossible, apart}
use Rattle.laws.proofs.Lists.{all_map}
use Rattle.laws.specs.Lists.{All, all_nil, all_cons}
use Rattle.steps.specs.Book.{Copy, Draft, closed, working, Book}
use Rattle.steps.specs.Calls.{has, touches, staled, segments_named, with_drafts}
use Rattle.layout.specs.Layout.{segment_of, draft_bytes, copies_of}
use Rattle.layout.specs.Sound.{FineDraft, working_fine}
use Rattle.layout.specs.Lies.{Lies}
use Rattle.layout.specs.Rule.{segments_said}
use Rattle.layout.specs.declared.Changed.{Changed}
use Rattle.layout.specs.declared.Changed.TheVariants.{Nothing, One, Two}
use Rattle.moves.specs.Named.{TwoTaken, meets, marked}
use Rattle.moves.proofs.Index.{draft_read}
use Rattle.moves.proofs.StepsLies.{lies_stands}
use Rattle.moves.proofs.Drafts.{lies_byte}

-- ---- the test
has_two : (s : ℕ) (ks : List Copy) → 1 ≤ s → length ks ≤ 2 → meets s (segment_of (slice_get ks 0)) (segment_of (slice_get ks 1)) ≡ has s ks
unfolding has meets
has_two s [] h g = rw (ne_eqb s 0 (λ e. omega arith)) refl
has_two s (k ∷ []) h g = rw (ne_eqb s 0 (λ e. omega arith)) refl
has_two s (k ∷ m ∷ []) h g = ap (λ (t : Bool). eqb s k.segment || t) (sym (or-false (eqb s m.segment)))
has_two s (k ∷ m ∷ q ∷ ks) h g = impossible (omega arith)

meets_touches : (k : Copy) (ks : List Copy) → 1 ≤ k.segment → length ks ≤ 2
    → meets k.segment (segment_of (slice_get ks 0)) (segment_of (slice_get ks 1)) ≡ touches (k ∷ []) ks
unfolding touches
meets_touches k ks one two = has_two k.segment ks one two ∙ sym (or-false (has k.segment ks))

-- ---- one draft
module _ (l : List ℕ) (b : Book) (s : Lies l b) (i : ℕ) (h : i < 4) (k : Copy) (one : 1 ≤ k.segment) where
  read : (j : ℕ) → j < 4 → get_or l (8 + (i * 4 + j)) 0 ≡ get_or (draft_bytes (get_or b.drafts i closed)) j 0
  read j g = (lies_stands l b s).bytes (8 + (i * 4 + j)) (omega arith) ∙ draft_read b s.four i j h g

  -- unmarked
  kept : (x : Draft) → get_or b.drafts i closed ≡ x → Lies l (with_drafts b (set b.drafts i x))
  kept x is = subst (λ (ds : List Draft). Lies l (with_drafts b ds)) (sym (set-get_or b.drafts i closed) ∙ ap (set b.drafts i) is) s

  by_draft : (x : Draft) → get_or b.drafts i closed ≡ x → TwoTaken x
      → Lies (cond (meets k.segment (get_or (draft_bytes x) 1 0) (get_or (draft_bytes x) 2 0)) (set l (8 + (i * 4 + 3)) 1) l) (with_drafts b (set b.drafts i (staled (k ∷ []) x)))
  unfolding has
  by_draft closed is two =
      rw (meets_touches k [] one (omega arith), touches_none (k ∷ [])) (kept closed is)
  by_draft (working ks stale) is two =
      rw (meets_touches k ks one two)
      (by (touches (k ∷ []) ks)
      (λ t. rw (t, or-true) (lies_byte l b s i h 3 1 (working ks true) (omega arith) (ap (λ (x : Draft). set (draft_bytes x) 3 1) is) (ap copies_of (sym is))))
      (λ t. rw (t, or-false) (kept (working ks stale) is)))

  lies_marked : TwoTaken (get_or b.drafts i closed) → Lies (marked l (suc i) k.segment) (with_drafts b (set b.drafts i (staled (k ∷ []) (get_or b.drafts i closed))))
  unfolding marked
  lies_marked two =
      let e₁ : 5 + 4 * suc i ≡ 8 + (i * 4 + 1) = omega arith in
      let e₂ : 6 + 4 * suc i ≡ 8 + (i * 4 + 2) = omega arith in
      let e₃ : 7 + 4 * suc i ≡ 8 + (i * 4 + 3) = omega arith in
      rw (e₁, e₂, e₃, read 1 (omega arith), read 2 (omega arith)) (by_draft (get_or b.drafts i closed) refl two)

-- ---- the four of them
module _ (l : List ℕ) (b : Book) (k : Copy) (one : 1 ≤ k.segment) where
  four_marked : (ds : List Draft) → length ds ≡ 4 → All TwoTaken ds → Lies l (with_drafts b ds)
      → Lies (marked (marked (marked (marked l 1 k.segment) 2 k.segment) 3 k.segment) 4 k.segment) (with_drafts b (map (staled (k ∷ [])) ds))
  four_marked (d₁ ∷ d₂ ∷ d₃ ∷ d₄ ∷ []) e (all_cons f₁ (all_cons f₂ (all_cons f₃ (all_cons f₄ all_nil)))) s =
      let turn : Draft → Draft = staled (k ∷ []) in
      let s₁ = lies_marked l (with_drafts b (d₁ ∷ d₂ ∷ d₃ ∷ d₄ ∷ [])) s 0 (omega arith) k one f₁ in
      let s₂ = lies_marked _ (with_drafts b (turn d₁ ∷ d₂ ∷ d₃ ∷ d₄ ∷ [])) s₁ 1 (omega arith) k one f₂ in
      let s₃ = lies_marked _ (with_drafts b (turn d₁ ∷ turn d₂ ∷ d₃ ∷ d₄ ∷ [])) s₂ 2 (omega arith) k one f₃ in
      lies_marked _ (with_drafts b (turn d₁ ∷ turn d₂ ∷ turn d₃ ∷ d₄ ∷ [])) s₃ 3 (omega arith) k one f₄
  four_marked [] e f s = impossible (omega arith)
  four_marked (d₁ ∷ []) e f s = impossible (omega arith)
  four_marked (d₁ ∷ d₂ ∷ []) e f s = impossible (omega arith)
  four_marked (d₁ ∷ d₂ ∷ d₃ ∷ []) e f s = impossible (omega arith)
  four_marked (d₁ ∷ d₂ ∷ d₃ ∷ d₄ ∷ d₅ ∷ ds) e f s = impossible (omega arith)

-- draft after draft: the first n
unfoldable pub marks : ℕ → List ℕ → ℕ → List ℕ
marks zero l s = l
marks (suc n) l s = marked (marks n l s) (suc n) s

pub marks_more : (l₀ l m : List ℕ) (d s : ℕ) → 1 ≤ d → l ≡ marks (d - 1) l₀ s → m ≡ marked l d s → m ≡ marks (d + 1 - 1) l₀ s
unfolding marks
marks_more l₀ l m zero s h e f = impossible (omega arith)
marks_more l₀ l m (suc d) s h e f =
    let p : suc d - 1 ≡ d = omega arith in
    let q : suc d + 1 - 1 ≡ suc d = omega arith in
    f ∙ rw (e, p, q) refl

pub drafts_marked : (l m : List ℕ) (n s : ℕ) → 1 ≤ s → m ≡ marks (n - 1) l s → n ≤ 5 → 5 ≤ n
    → (b : Book) → Lies l b → All TwoTaken b.drafts → (k : Copy) → k.segment ≡ s → Lies m (with_drafts b (map (staled (k ∷ [])) b.drafts))
unfolding marks
drafts_marked l m n s one e low high b lies two k is =
    let four : n - 1 ≡ 4 = omega arith in
    let left : marks 4 l s ≡ m = ap (λ (i : ℕ). marks i l s) (sym four) ∙ sym e in
    subst (λ (z : List ℕ). Lies z (with_drafts b (map (staled (k ∷ [])) b.drafts)))
    (ap (λ (n : ℕ). marked (marked (marked (marked l 1 n) 2 n) 3 n) 4 n) is ∙ left)
    (four_marked l b k (omega arith) b.drafts lies.four two lies)

-- ---- no segment, one, two
staled_none : (d : Draft) → staled [] d ≡ d
unfolding touches
staled_none closed = refl
staled_none (working ks stale) = ap (working ks) (or-false stale)

pub staled_nothing : (ds : List Draft) → map (staled []) ds ≡ ds
staled_nothing [] = refl
staled_nothing (d ∷ ds) = λ i. staled_none d i ∷ staled_nothing ds i

-- one after another
staled_again : (k q : Copy) (d : Draft) → staled (q ∷ []) (staled (k ∷ []) d) ≡ staled (k ∷ q ∷ []) d
unfolding touches
staled_again k q closed = refl
staled_again k q (working ks stale) = ap (working ks) (both stale (has k.segment ks) (has q.segment ks))
  where
    both : (s x y : Bool) → ((s || (x || false)) || (y || false)) ≡ (s || (x || (y || false)))
    both true x y = refl
    both false true y = refl
    both false false y = refl

staled_two : (k q : Copy) (ds : List Draft) → map (staled (q ∷ [])) (map (staled (k ∷ [])) ds) ≡ map (staled (k ∷ q ∷ [])) ds
staled_two k q [] = refl
staled_two k q (d ∷ ds) = λ i. staled_again k q d i ∷ staled_two k q ds i

few : (issue n : ℕ) (x : Draft) → FineDraft issue n x → TwoTaken x
few issue n closed f = omega arith
few issue n (working ks stale) (working_fine t) = t.two

still_few : (cs : List Copy) (ds : List Draft) → All TwoTaken ds → All TwoTaken (map (staled cs) ds)
still_few cs [] all_nil = all_nil
still_few cs (closed ∷ ds) (all_cons f a) = all_cons f (still_few cs ds a)
still_few cs (working ks stale ∷ ds) (all_cons f a) = all_cons f (still_few cs ds a)

-- what marking for segment s promises of bytes l before and m after, and what marking for some segments does
abbrev pub MarksOne : List ℕ → List ℕ → ℕ → Type 0
MarksOne l m s = (b : Book) → Lies l b → All TwoTaken b.drafts → (k : Copy) → k.segment ≡ s → Lies m (with_drafts b (map (staled (k ∷ [])) b.drafts))

abbrev pub Marks : List ℕ → List ℕ → Changed → Type 0
Marks l m c =
    (b : Book) → Lies l b → (issue n : ℕ) → All (FineDraft issue n) b.drafts → (cs : List Copy) → segments_named cs ≡ segments_said c
    → Lies m (with_drafts b (map (staled cs) b.drafts))

pub marked_none : (l : List ℕ) (c : Changed) → c ≡ Nothing → Marks l l c
marked_none l c is b lies issue n fine cs are = none cs (are ∙ ap segments_said is)
  where
    none : (cs : List Copy) → segments_named cs ≡ [] → Lies l (with_drafts b (map (staled cs) b.drafts))
    none [] e = subst (λ (ds : List Draft). Lies l (with_drafts b ds)) (sym (staled_nothing b.drafts)) lies
    none (k ∷ ks) e = apart cc

pub marked_one : (l m : List ℕ) (c : Changed) (s : ℕ) → c ≡ One s → MarksOne l m s → Marks l m c
marked_one l m c s is marks b lies issue n fine cs are = single cs (are ∙ ap segments_said is)
  where
    single : (cs : List Copy) → segments_named cs ≡ s ∷ [] → Lies m (with_drafts b (map (staled cs) b.drafts))
    single [] e = apart cc
    single (k ∷ []) e = marks b lies (all_map (few issue n) fine) k (let f : k.segment ≡ s = cc in f)
    single (k ∷ q ∷ ks) e = apart cc

pub marked_two : (l l1 m : List ℕ) (c : Changed) (s t : ℕ) → c ≡ Two s t → MarksOne l l1 s → MarksOne l1 m t → Marks l m c
marked_two l l1 m c s t is marks marks2 b lies issue n fine cs are = double cs (are ∙ ap segments_said is)
  where
    double : (cs : List Copy) → segments_named cs ≡ s ∷ t ∷ [] → Lies m (with_drafts b (map (staled cs) b.drafts))
    double [] e = apart cc
    double (k ∷ []) e = apart cc
    double (k ∷ q ∷ []) e =
        let two : All TwoTaken b.drafts = all_map (few issue n) fine in
        let f : k.segment ≡ s = cc in
        let g : q.segment ≡ t = cc in
        let ds : List Draft = map (staled (k ∷ [])) b.drafts in
        subst (λ (z : List Draft). Lies m (with_drafts b z)) (staled_two k q b.drafts)
        (marks2 (with_drafts b ds) (marks b lies two k f) (still_few (k ∷ []) b.drafts two) q g)
    double (k ∷ q ∷ r ∷ ks) e = apart cc
