-- A draft's copies stay fine under every work on them. Assumes nothing.
use Prim.Native.Nat.{ℕ, suc, ◌<◌}
use native.Mathlib.Omega.{arith}
use native.Mathlib.Numerals.{add-one}
use mathlib.Core.Path.{◌≡◌, refl, sym, ap, ◌∙◌, subst}
use mathlib.Core.Bool.{Bool, true, false, not}
use mathlib.Core.List.{List, [], ◌∷◌, ◌++◌}
use Rattle.std.specs.Prelude.{Option, Some}
use lib.ListN.{length, length-append}
use lib.Dec.{ltb, eqb}
use borrow.Author.Tests.{ltb-true, eqb-false, ne_eqb, not-true}
use Rattle.steps.proofs.Agree.{has_recopy}
use Rattle.laws.proofs.Tests.{apart, either_way, or_no, choose}
use Rattle.laws.proofs.Lists.{all_append}
use Rattle.laws.specs.Lists.{All, all_nil, all_cons}
use Rattle.laws.proofs.Lookups.{some_same}
use Rattle.refusal.specs.declared.Reason.TheVariants.{NotTaken, TakenAlready, TwoTaken}
use Rattle.codes.specs.Block.{Content}
use Rattle.steps.specs.Book.{Copy}
use Rattle.steps.specs.Calls.{Work, taking, editing, Value, edit_rule, in_range, copy_of, recopy, has, work_rule}
use Rattle.steps.proofs.Chains.{Told, told_ok, told_must, told_find, told_then}
use Rattle.layout.specs.Sound.{Fine, FineCopy, Distinct, none_twice, first_once, FineTaken}
use Rattle.keeping.proofs.Editing.{edit_fine}

-- ---- another content in the copy of a segment
pub recopy_copies : (issue n s : ℕ) (c : Content) {ks : List Copy} → Fine issue c → All (FineCopy issue n) ks → All (FineCopy issue n) (recopy s c ks)
unfolding recopy
recopy_copies issue n s c f all_nil = all_nil
recopy_copies issue n s c f (all_cons {x = k} h a) =
    all_cons
    (record { from = h.from; to = h.to; fine = either_way (Fine issue) (eqb s k.segment) f h.fine })
    (recopy_copies issue n s c f a)

pub recopy_distinct : (s : ℕ) (c : Content) {ks : List Copy} → Distinct ks → Distinct (recopy s c ks)
unfolding recopy
recopy_distinct s c none_twice = none_twice
recopy_distinct s c (first_once {k} {ks} e d) = first_once (has_recopy k.segment s c ks ∙ e) (recopy_distinct s c d)

pub recopy_length : (s : ℕ) (c : Content) (ks : List Copy) → length (recopy s c ks) ≡ length ks
unfolding recopy
recopy_length s c [] = refl
recopy_length s c (k ∷ ks) = ap suc (recopy_length s c ks)

-- ---- a copy that is found is fine
pub copy_fine : (issue n s : ℕ) (ks : List Copy) (c : Content) → All (FineCopy issue n) ks → copy_of s ks ≡ Some c → Fine issue c
unfolding copy_of
copy_fine issue n s [] c a e = apart cc
copy_fine issue n s (k ∷ ks) c (all_cons h a) e =
    choose (λ (o : Option Content). o ≡ Some c → Fine issue c) (eqb s k.segment) (Some k.held) (copy_of s ks)
    (λ q g. subst (Fine issue) (some_same g) h.fine)
    (λ q g. copy_fine issue n s ks c a g)
    e

-- ---- a copy more
pub append_has : (x : ℕ) (ks : List Copy) (k : Copy) → has x ks ≡ false → (x ≡ k.segment → ⊥) → has x (ks ++ (k ∷ [])) ≡ false
unfolding has
append_has x [] k h g = rw (ne_eqb x k.segment g)
append_has x (q ∷ ks) k h g = let n = or_no (eqb x q.segment) (has x ks) h in rw n.0 (append_has x ks k n.1 g)

pub append_distinct : (k : Copy) {ks : List Copy} → Distinct ks → has k.segment ks ≡ false → Distinct (ks ++ (k ∷ []))
unfolding has
append_distinct k none_twice h = first_once refl none_twice
append_distinct k (first_once {k = q} {ks = ks} e d) h =
    let n = or_no (eqb k.segment q.segment) (has k.segment ks) h in
    first_once (append_has q.segment ks k e (λ z. eqb-false k.segment q.segment n.0 (sym z))) (append_distinct k d n.1)

-- ---- the work of one draft
module _ (issue n s : ℕ) (stale : Bool) (c : Content) (ks : List Copy) (h : FineTaken issue n ks stale) where
  take_fine : FineCopy issue n (record { segment = s; held = c }) → has s ks ≡ false → length ks < 2
      → FineTaken issue n (ks ++ (record { segment = s; held = c } ∷ [])) stale
  take_fine f g l =
      let k : Copy = record { segment = s; held = c } in
      let a : length (ks ++ (k ∷ [])) ≡ suc (length ks) = length-append ks (k ∷ []) ∙ add-one (length ks) in
      record {
        two = omega arith;
        copies = all_append h.copies (all_cons f all_nil);
        distinct = append_distinct k h.distinct g;
        taken = λ t. omega arith;
      }

  recopy_fine : (v : Content) → Fine issue v → FineTaken issue n (recopy s v ks) stale
  recopy_fine v f =
      let l : length (recopy s v ks) ≡ length ks = recopy_length s v ks in
      record {
        two = omega (arith, h.two);
        copies = recopy_copies issue n s v f h.copies;
        distinct = recopy_distinct s v h.distinct;
        taken = λ t. omega (arith, h.taken t);
      }

  -- a draft's copies are fine after its work on a segment that is there
  pub work_fine : (w : Work) → in_range w ≡ true → FineCopy issue n (record { segment = s; held = c })
      → Told (λ (z : Value × List Copy). FineTaken issue n z.1 stale) (work_rule issue s c w ks)
  unfolding work_rule
  work_fine taking r f =
      told_must (not (has s ks)) TakenAlready _ (λ t. told_must (ltb (length ks) 2) TwoTaken _
      (λ u. told_ok _ (take_fine f (not-true (has s ks) t) (ltb-true (length ks) 2 u))))
  work_fine (editing e) r f =
      told_find (copy_of s ks) NotTaken _ (λ k q. told_then (edit_rule issue e k) _ (edit_fine issue e k (copy_fine issue n s ks k h.copies q) r)
      (λ z g. told_ok _ (recopy_fine z.1 g)))
