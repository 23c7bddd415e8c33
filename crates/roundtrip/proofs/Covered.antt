-- A place is read exactly if some element covers it, and the places that are read are strictly ascending. Assumes nothing.
use Prim.Native.Nat.{ℕ, suc, ◌+◌, ◌-◌, ◌≤◌, ◌<◌}
use native.Mathlib.Omega.{arith}
use mathlib.Core.Path.{◌≡◌, refl, sym, ◌∙◌, subst}
use mathlib.Core.Bool.{Bool, true, false}
use mathlib.Core.List.{List, [], ◌∷◌, Memᴰ}
use Rattle.std.specs.Prelude.{Option, Some}
use mathlib.Core.Logic.{◌⊎◌, inl, inr, ⊎_elim}
use lib.ListN.{length}
use Rattle.laws.proofs.Tests.{apart}
use Rattle.calendar.specs.declared.Stamp.{Stamp}
use Rattle.codes.specs.Places.{place_of, Ascending}
use Rattle.codes.specs.Elements.{Element, Said, covers, purge, wrong, said}
use Rattle.codes.specs.Block.{insert_covered, block, wrong_at, ended, read_from, Covered, here, later}
use Rattle.codes.proofs.Members.{run_here, run_keeps, run_from_lem, run_ascending}
use Rattle.codes.proofs.Turns.{read_covers, read_purge_lem, read_wrong}
use Rattle.codes.proofs.Bounds.{Below, covers_low}

-- ---- a block that was read, element by element
pub data Told (s : Stamp) (ps : List ℕ) : Option ℕ → List ℕ → List Element → Type 0 where
  told_purge : {last : Option ℕ} {got : List ℕ} {e : Element} {es : List Element} → said last e.bytes ≡ purge s → got ≡ ps → Told s ps last got (e ∷ es)
  told_more : {last : Option ℕ} {got : List ℕ} {e : Element} {es : List Element} (p n m : ℕ) → said last e.bytes ≡ covers p n m
      → Told s ps (Some p) (insert_covered p n m got) es → Told s ps last got (e ∷ es)

module _ (stop z : ℕ) {s : Stamp} {ps : List ℕ} where
  told_end : {last : Option ℕ} {e : Element} {es : List Element} (t : Bool) (got : List ℕ) (u : Stamp) (at next : ℕ) → said last e.bytes ≡ purge u
      → ended t (block got u at) next ≡ block ps s z → Told s ps last got (e ∷ es)
  told_end {last} {e} true got u at next a q =
      let f : said last e.bytes ≡ purge s = cc in
      let g : got ≡ ps = cc in
      told_purge f g
  told_end false got u at next a q = apart cc

  pub told : (last : Option ℕ) (got : List ℕ) (es : List Element) → read_from stop last got es ≡ block ps s z → Told s ps last got es
  unfolding read_from
  told last got [] q = apart cc
  told last got (e ∷ es) q = go (λ p n m. told (Some p) (insert_covered p n m got) es) (said last e.bytes) refl
    where
      go : ((p n m : ℕ) → read_from stop (Some p) (insert_covered p n m got) es ≡ block ps s z → Told s ps (Some p) (insert_covered p n m got) es)
          → (r : Said) → said last e.bytes ≡ r → Told s ps last got (e ∷ es)
      go f (covers p n m) a = told_more p n m a (f p n m (sym (read_covers stop last got e es p n m a) ∙ q))
      go f (purge u) a = told_end e.last got u e.at (e.at + length e.bytes) a (sym (read_purge_lem stop last got e es u a) ∙ q)
      go f wrong a = let w : wrong_at e.at ≡ block ps s z = sym (read_wrong stop last got e es a) ∙ q in apart cc

module _ {s : Stamp} {ps : List ℕ} where
  -- ---- what is covered is in the list
  in_kept : (q : ℕ) {last : Option ℕ} {got : List ℕ} {es : List Element} → Told s ps last got es → Memᴰ q got → Memᴰ q ps
  in_kept q (told_purge a e) w = rw (← e) w
  in_kept q (told_more p n m a t) w = in_kept q t (run_keeps (suc m - n) (place_of p n) q w)

  pub covered_in : (q : ℕ) {last : Option ℕ} {got : List ℕ} {es : List Element} → Told s ps last got es → Covered q last es → Memᴰ q ps
  covered_in q (told_purge a e) (here p n m r f g) = apart cc
  covered_in q (told_purge a e) (later p n m r c) = apart cc
  covered_in q (told_more {got} p n m a t) (here p' n' m' r f g) =
      let ep : p' ≡ p = cc in
      let en : n' ≡ n = cc in
      let em : m' ≡ m = cc in
      in_kept q t (run_here (suc m - n) (place_of p n) q got (omega arith) (omega arith))
  covered_in q (told_more {es} p n m a t) (later p' n' m' r c) =
      let ep : p' ≡ p = cc in
      covered_in q t (subst (λ (x : ℕ). Covered q (Some x) es) ep c)

  -- ---- and nothing else
  pub in_covered : (q : ℕ) {last : Option ℕ} {got : List ℕ} {es : List Element} → Told s ps last got es → Memᴰ q ps → Memᴰ q got ⊎ Covered q last es
  in_covered q (told_purge a e) w = inl (rw e w)
  in_covered q (told_more {got} p n m a t) w =
      ⊎_elim (λ (u : Memᴰ q (insert_covered p n m got)).
      ⊎_elim (λ (o : (place_of p n ≤ q) × (q < place_of p n + (suc m - n))). inr (here p n m a o.0 (omega (arith, o.0, o.1))))
      (λ (v : Memᴰ q got). inl v)
      (run_from_lem (suc m - n) (place_of p n) q got u))
      (λ (c : Covered q (Some p) _). inr (later p n m a c))
      (in_covered q t w)

  -- ---- and it is strictly ascending
  pub told_ascending : {last : Option ℕ} {got : List ℕ} {es : List Element} → Below last → Told s ps last got es → Ascending 0 got → Ascending 0 ps
  told_ascending b (told_purge a e) g = rw (← e) g
  told_ascending b (told_more {last} {e = e} p n m a t) g =
      let l = covers_low last e.bytes p n m b a in
      told_ascending l.known t (run_ascending (suc m - n) (place_of p n) (omega arith) (omega (arith, l.known, l.number, l.order)) g)
