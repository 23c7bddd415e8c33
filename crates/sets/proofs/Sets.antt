-- Places in an array: moved, filled, and a run put in at once. Assumes nothing.
use Prim.Native.Nat.{ℕ, zero, suc, ◌+◌, ◌-◌, ◌*◌, ◌/◌, ◌≤◌, ◌<◌}
use native.Mathlib.Nat.{add_assoc}
use native.Mathlib.Omega.{arith}
use mathlib.Core.Path.{◌≡◌, refl, sym, ap, ap₂, ◌∙◌}
use mathlib.Core.List.{List, ◌∷◌, ◌++◌, append_assoc}
use mathlib.Core.Bool.{Bool, true, false}
use Rattle.std.specs.Prelude.{None, Some}
use lib.ListN.{length, get_or, take, drop, take-append-drop, set, length-append, length-drop}
use lib.Seq.{paste, take-add, paste-zero, length-paste, length-take-le, take-append-le, take-take, take_all, take_at, drop_at, drop-drop}
use borrow.Author.Tests.{le-leb, lt-leb}
use Rattle.laws.proofs.Tests.{by_order, impossible, apart}
use Rattle.laws.proofs.Lists.{drop_take}
use Rattle.laws.proofs.Pastes.{paste_down}
use Rattle.std.proofs.lemmas.List.Edits.{paste_more}
use Rattle.codes.specs.Places.{places_end, upward}
use Rattle.codes.specs.Serving.{First}
use Rattle.codes.specs.Block.{insert_run}
use Rattle.codes.proofs.Members.{run_split, below_take, from_drop, run_ascending}
use Rattle.sets.specs.Held.{vacant, places_in, Good}
use Rattle.sets.specs.Runs.{capped, held_by, holds_in, all_below, Grown}
use Rattle.sets.specs.declared.Places.{Places}
use Rattle.sets.specs.declared.Put.TheVariants.{Held, Over, Twice}
use Rattle.sets.proofs.Searches.{vacant_part, below_each, below_out, between_out, less_first, less_held}

-- ---- filled
upward_length : (p n : ℕ) → length (upward p n) ≡ n
unfolding upward
upward_length p zero = refl
upward_length p (suc n) = ap suc (upward_length (suc p) n)

upward_at : (p n k : ℕ) → k < n → get_or (upward p n) k 0 ≡ p + k
unfolding upward
upward_at p zero k h = impossible (omega arith)
upward_at p (suc n) zero h = omega arith
upward_at p (suc n) (suc k) h = upward_at (suc p) n k (omega arith) ∙ omega arith

-- the others than the first, which is stored when they are
pub record Filling (t₀ t : Places) (at n p k : ℕ) : Type 0 where
  pub from : 1 ≤ k
  pub left : k ≤ n
  pub same : t.count ≡ t₀.count
  pub held : t.held ≡ paste t₀.held (at + 1) (upward (p + 1) (n - 1)) (k - 1)

pub filling_start : (t : Places) (at n p : ℕ) → 1 ≤ n → Filling t t at n p 1
filling_start t at n p h = record { from = omega arith; left = h; same = refl; held = paste-zero t.held (at + 1) (upward (p + 1) (n - 1)) }

module _ (t₀ t : Places) (at n p k : ℕ) (v : Filling t₀ t at n p k) (fits : at + n ≤ length t₀.held) where
  pub filling_on : k < n → Filling t₀ (record { held = set t.held (at + k) (p + k); count = t.count }) at n p (k + 1)
  filling_on h =
      let i : ℕ = k - 1 in
      let s : List ℕ = upward (p + 1) (n - 1) in
      let e : at + k ≡ at + 1 + i = omega (arith, v.from) in
      let f : p + k ≡ get_or s i 0 = omega (arith, v.from, upward_at (p + 1) (n - 1) i (omega (arith, v.from))) in
      let g : i + 1 ≡ k + 1 - 1 = omega (arith, v.from) in
      record {
        from = omega arith;
        left = omega arith;
        same = v.same;
        held =
            ap₂ (λ (j : ℕ) (x : ℕ). set t.held j x) e f ∙ ap (λ (l : List ℕ). set l (at + 1 + i) (get_or s i 0)) v.held
            ∙ paste_more t₀.held (at + 1) s i 0 (omega (arith, v.from)) (omega (arith, v.from, upward_length (p + 1) (n - 1)))
            ∙ ap (paste t₀.held (at + 1) s) g;
      }

  pub filling_done : n ≤ k → set t.held at p ≡ paste t₀.held at (upward p n) n
  unfolding upward
  filling_done h =
      let e : n ≡ suc (n - 1) = omega (arith, v.from, v.left) in
      let f : k - 1 ≡ n - 1 = omega (arith, v.from, v.left) in
      let next : p + 1 ≡ suc p = omega arith in
      let more : n - 1 + 1 ≡ n = omega arith in
      ap (λ (x : List ℕ). set x at p) (v.held ∙ ap (paste t₀.held (at + 1) (upward (p + 1) (n - 1))) f)
      ∙ paste_down 0 t₀.held (upward (p + 1) (n - 1)) at (n - 1) p (omega arith)
      ∙ ap₂ (λ (x : ℕ) (m : ℕ). paste t₀.held at (p ∷ upward x (n - 1)) m) next more
      ∙ ap (λ (m : ℕ). paste t₀.held at (upward p m) n) (sym e)

-- ---- at most 120
pub capped_few : (l : List ℕ) → length l ≤ 120 → capped l ≡ Some l
unfolding capped
capped_few l h = rw (le-leb (length l) 120 h)

pub capped_many : (l : List ℕ) → 120 < length l → capped l ≡ None
unfolding capped
capped_many l h = rw (lt-leb (length l) 120 h)

-- what is held says how many there are, and which
module _ (over : Bool) (t : Places) (l : List ℕ) (h : held_by over t ≡ capped l) where
  pub held_many : over ≡ true → 120 < length l
  held_many o = by_order 120 (length l) (λ k. k) (λ k. let f : None ≡ Some l = rw o at h ∙ capped_few l k in apart cc)

  pub held_few : over ≡ false → length l ≤ 120
  held_few o = by_order 120 (length l) (λ k. let f : Some (places_in t) ≡ None = rw o at h ∙ capped_many l k in apart cc) (λ k. k)

  pub held_is : over ≡ false → places_in t ≡ l
  held_is o = let f : Some (places_in t) ≡ Some l = rw o at h ∙ capped_few l (held_few o) in cc

-- behind more places too there are zeros
rest_more : (held : List ℕ) (count total : ℕ) → count ≤ total → drop count held ≡ drop count vacant → drop total held ≡ drop total vacant
rest_more held count total h e =
    let n : count + (total - count) ≡ total = omega arith in
    sym (drop-drop (total - count) count held ∙ rw n) ∙ ap (drop (total - count)) e ∙ drop-drop (total - count) count vacant ∙ rw n

-- ---- moved up by whole eights
module _ (t : Places) (i n : ℕ) (g : Good t) (low : i ≤ t.count) where
  -- zeros that stand behind the places move onto zeros
  more_moved : (a m e : ℕ) → i + m ≡ t.count → a + m ≡ t.count + n → t.count + n + e ≤ 120 → paste t.held a (drop i t.held) (m + e) ≡ paste t.held a (drop i t.held) m
  more_moved a m e em ea room =
      let behind : drop m (drop i t.held) ≡ drop t.count vacant = drop-drop m i t.held ∙ rw em g.rest in
      let there : drop (a + m) t.held ≡ drop (t.count + n) vacant = rw ea (rest_more t.held t.count (t.count + n) (omega arith) g.rest) in
      let zeros : take e (drop m (drop i t.held)) ≡ take e (drop (a + m) t.held) =
      rw (behind, there) (vacant_part e t.count (omega arith) ∙ sym (vacant_part e (t.count + n) (omega arith))) in
      let end : drop (a + (m + e)) t.held ≡ drop e (drop (a + m) t.held) = sym (drop-drop e (a + m) t.held ∙ rw (add_assoc a m e)) in
      ap₂ (λ (x y : List ℕ). take a t.held ++ x ++ y) (take-add m e (drop i t.held) ∙ ap (λ (x : List ℕ). take m (drop i t.held) ++ x) zeros) end
      ∙ joined (take a t.held) (take m (drop i t.held)) (take e (drop (a + m) t.held)) (drop e (drop (a + m) t.held))
      ∙ ap (λ (x : List ℕ). take a t.held ++ take m (drop i t.held) ++ x) (take-append-drop e (drop (a + m) t.held))
    where
      joined : (a b c d : List ℕ) → a ++ (b ++ c) ++ d ≡ a ++ b ++ (c ++ d)
      joined a b c d = simp append_assoc

  pub eights_moved : i + n + (t.count - i + 7) / 8 * 8 ≤ 120 → (array : List ℕ) → array ≡ paste t.held (i + n) (drop i t.held) (i + (t.count - i + 7) / 8 * 8 - i)
      → array ≡ paste t.held (i + n) (drop i t.held) (t.count - i)
  eights_moved room array e =
      let m : ℕ = t.count - i in
      let eights : ℕ = (m + 7) / 8 * 8 in
      let same : i + eights - i ≡ m + (eights - m) = omega arith in
      e ∙ ap (paste t.held (i + n) (drop i t.held)) same ∙ more_moved (i + n) m (eights - m) (omega arith) (omega arith) (omega arith)

-- ---- a run put in at once, between those that are less than its first place and those that are not less than its end
module _ (t : Places) (p q n i : ℕ) (g : Good t) (pq : p < q) (en : n ≡ q - p) (fp : First p (take t.count t.held) i) (fq : First q (take t.count t.held) i)
    (free : holds_in p (q - 1) (take t.count t.held) ≡ false) where
  abbrev l : List ℕ
  l = take t.count t.held

  l_long : length l ≡ t.count
  l_long = length-take-le t.count t.held (omega (arith, g.long, g.few))

  i_low : i ≤ t.count
  i_low = omega (arith, fp.within, l_long)

  split : insert_run n p l ≡ take i l ++ (upward p n ++ drop i l)
  split =
      let e : p + n ≡ q = omega arith in
      run_split n p g.rising ∙ rw (e, below_take p l i fp, from_drop q l i fq)

  run_long : length (insert_run n p l) ≡ t.count + n
  run_long = rw (split, length-append, length-append, length-take-le i l fp.within, upward_length, length-drop) (omega (arith, l_long, i_low))

  same_run : insert_run (q - p) p l ≡ insert_run n p l
  same_run = ap (λ (k : ℕ). insert_run k p l) (sym en)

  run_over : 120 < t.count + n → Grown t p q t Over
  run_over h = record { good = g; twice = sym free; held = λ e. rw same_run (sym (capped_many (insert_run n p l) (omega (arith, run_long)))); left = λ e. refl }

  -- after both moves the places stand in front
  module _ (room : t.count + n ≤ 120) where
    abbrev moved : List ℕ
    moved = paste t.held (i + n) (drop i t.held) (t.count - i)

    abbrev rest : List ℕ
    rest = drop (i + n + (t.count - i)) t.held

    total : i + n + (t.count - i) ≡ t.count + n
    total = omega (arith, i_low)

    tail : drop (i + n) moved ≡ drop i l ++ rest
    tail =
        let e : take (i + n) t.held ++ (take (t.count - i) (drop i t.held) ++ rest) ≡ moved = sym (append_assoc (take (i + n) t.held) (take (t.count - i) (drop i t.held)) rest) in
        ap (drop (i + n)) (sym e)
        ∙ drop_at (take (i + n) t.held) (take (t.count - i) (drop i t.held) ++ rest) (i + n) (length-take-le (i + n) t.held (omega (arith, g.long, i_low)))
        ∙ ap (λ (x : List ℕ). x ++ rest) (sym (drop_take i t.count t.held i_low (omega (arith, g.long, g.few, i_low))))

    front : take i moved ≡ take i l
    front =
        let k : length (take (i + n) t.held) ≡ i + n = length-take-le (i + n) t.held (omega (arith, g.long, i_low)) in
        take-append-le i (take (i + n) t.held ++ take (t.count - i) (drop i t.held)) rest (omega (arith, length-append (take (i + n) t.held) (take (t.count - i) (drop i t.held)), k))
        ∙ take-append-le i (take (i + n) t.held) (take (t.count - i) (drop i t.held)) (omega (arith, k))
        ∙ take-take i (i + n) t.held (omega arith)
        ∙ sym (take-take i t.count t.held i_low)

    regroup : (a b c d : List ℕ) → a ++ b ++ (c ++ d) ≡ (a ++ (b ++ c)) ++ d
    regroup a b c d = simp append_assoc

    whole : paste moved i (upward p n) n ≡ insert_run n p l ++ rest
    whole =
        ap₂ (λ (x y : List ℕ). x ++ take n (upward p n) ++ y) front tail
        ∙ ap (λ (x : List ℕ). take i l ++ x ++ (drop i l ++ rest)) (take_all n (upward p n) (omega (arith, upward_length p n)))
        ∙ regroup (take i l) (upward p n) (drop i l) rest
        ∙ ap (λ (x : List ℕ). x ++ rest) (sym split)

    rest_in : drop (t.count + n) (paste moved i (upward p n) n) ≡ drop (t.count + n) vacant
    rest_in =
        ap (drop (t.count + n)) whole ∙ drop_at (insert_run n p l) rest (t.count + n) run_long
        ∙ ap (λ (k : ℕ). drop k t.held) total ∙ rest_more t.held t.count (t.count + n) (omega arith) g.rest

    run_in : take (t.count + n) (paste moved i (upward p n) n) ≡ insert_run n p l
    run_in = ap (take (t.count + n)) whole ∙ take_at (insert_run n p l) rest (t.count + n) run_long

    run_total : q ≤ places_end → (after : Places) → after.count ≡ t.count + n → after.held ≡ paste moved i (upward p n) n → Grown t p q after Held
    run_total e after ec eh =
        let la : length moved ≡ length t.held = length-paste t.held (i + n) (drop i t.held) (t.count - i) (omega (arith, g.long, i_low)) (omega (arith, g.few, g.long, length-drop i t.held)) in
        let lf : length after.held ≡ length moved = ap length eh ∙ length-paste moved i (upward p n) n (omega (arith, g.long, i_low)) (omega (arith, upward_length p n)) in
        let is : places_in after ≡ insert_run n p l = ap₂ (λ (k : ℕ) (x : List ℕ). take k x) ec eh ∙ run_in in
        record {
          good = record {
            long = lf ∙ la ∙ g.long;
            few = omega (arith, room);
            rising = rw is (run_ascending n p (omega arith) (omega arith) g.rising);
            rest = ap₂ (λ (k : ℕ) (x : List ℕ). drop k x) ec eh ∙ rest_in ∙ ap (λ (k : ℕ). drop k vacant) (sym ec);
          };
          twice = sym free;
          held = λ x. rw (is, same_run) (sym (capped_few (insert_run n p l) (omega (arith, run_long))));
          left = λ f. absurd (f refl);
        }

-- ---- among the places held, where the first that is not below p tells
module _ (t : Places) (p q n i : ℕ) (g : Good t) (pq : p < q) (en : n ≡ q - p) (fp : First p (places_in t) i) where
  long : t.count ≤ length t.held
  long = omega (arith, g.long, g.few)

  pub insert_twice : i < t.count → get_or t.held i 0 < q → Grown t p q t Twice
  insert_twice k h = record { good = g; twice = sym (less_held t.held t.count p q i fp long k h); held = λ e. apart cc; left = λ e. refl }

  module _ (h : i < t.count → q ≤ get_or t.held i 0) where
    fq : First q (places_in t) i
    fq = less_first t.held t.count p q i fp long pq h

    free_of : holds_in p (q - 1) (places_in t) ≡ false
    free_of = between_out p q i g.rising pq fp fq

    pub insert_over : 120 < t.count + n → Grown t p q t Over
    insert_over = run_over t p q n i g pq en fp fq free_of

    pub insert_total : t.count + n ≤ 120 → q ≤ places_end → (way after : Places) → way.held ≡ paste t.held (i + n) (drop i t.held) (t.count - i)
        → after.count ≡ t.count + n → after.held ≡ paste way.held i (upward p n) n → Grown t p q after Held
    insert_total r e way after em ec ea = run_total t p q n i g pq en fp fq free_of r e after ec (ea ∙ ap (λ (x : List ℕ). paste x i (upward p n) n) em)

-- ---- behind places that are all below p nothing has to move
module _ (t : Places) (p q n : ℕ) (g : Good t) (pq : p < q) (en : n ≡ q - p) (low : all_below p (places_in t) ≡ true) where
  at_end : (x : ℕ) → p ≤ x → First x (places_in t) t.count
  at_end x h =
      let l : length (places_in t) ≡ t.count = length-take-le t.count t.held (omega (arith, g.long, g.few)) in
      record { within = omega arith; low = λ j k. omega (arith, below_each p (places_in t) low j (omega arith)); high = λ k. impossible (omega arith) }

  pub append_over : 120 < t.count + n → Grown t p q t Over
  append_over = run_over t p q n t.count g pq en (at_end p (omega arith)) (at_end q (omega arith)) (below_out p (q - 1) (places_in t) low)

  pub append_total : q ≤ places_end → t.count + n ≤ 120 → (after : Places) → after.count ≡ t.count + n → after.held ≡ paste t.held t.count (upward p n) n → Grown t p q after Held
  append_total e h after ec ea =
      let z : 0 ≡ t.count - t.count = omega arith in
      let same : t.held ≡ paste t.held (t.count + n) (drop t.count t.held) (t.count - t.count) =
      paste-zero t.held (t.count + n) (drop t.count t.held) ∙ ap (paste t.held (t.count + n) (drop t.count t.held)) z in
      run_total t p q n t.count g pq en (at_end p (omega arith)) (at_end q (omega arith)) (below_out p (q - 1) (places_in t) low) h e after ec
      (ea ∙ ap (λ (x : List ℕ). paste x t.count (upward p n) n) same)
