-- The lines of what is written of a set and a purge minute: one element or more on each, whole, inert, and such as pass refusal 2. Assumes nothing.
use Prim.Native.Nat.{ℕ, zero, suc, ◌+◌, ◌/◌, ◌%◌, ◌≤◌, ◌<◌}
use native.Mathlib.Omega.{arith}
use mathlib.Core.Path.{◌≡◌, refl, sym, ap, ◌∙◌, subst}
use mathlib.Core.Bool.{true}
use mathlib.Core.List.{List, [], ◌∷◌, ◌++◌, append_assoc}
use Rattle.std.specs.Prelude.{Option, None, Some}
use lib.ListN.{length, drop}
use lib.Seq.{drop-append_seam}
use lib.Dec.{eqb, leb}
use borrow.Author.Tests.{le-leb, leb-true, ne_eqb}
use Rattle.laws.proofs.Tests.{by, apart, either_way, and_left}
use Rattle.laws.proofs.Lists.{all_append, all_map}
use Rattle.laws.specs.Lists.{All, all_nil, all_cons}
use Rattle.lines.proofs.Ends.{named_bytes}
use Rattle.lines.specs.Bytes.{lf, bytes, between, begins}
use Rattle.lines.specs.Lines.{end_bytes, ends_line, end_named, ended_by, body_of, lines_at}
use Rattle.lines.specs.declared.End.{End}
use Rattle.lines.specs.declared.End.TheVariants.{Lf, CrLf, CrCrLf, Nothing}
use Rattle.calendar.specs.Calendar.{is_time}
use Rattle.calendar.specs.declared.Stamp.{Stamp}
use Rattle.calendar.proofs.Laws.{time_true}
use Rattle.codes.specs.Places.{two_bytes, three_bytes, prefix_bytes, prefixes}
use Rattle.codes.specs.Elements.{elements_at, elements_of_body, covers, purge, wrong}
use Rattle.codes.specs.Written.{Run, new_prefix, up_to, element_of, elements_of, purge_element}
use Rattle.codes.specs.Written.{written_most, fits, Wrapped, on_line, wrap_from, wrapped, in_order, rendered}
use Rattle.roundtrip.proofs.Split.{Word, ended_lines, body_joined, line_elements, first_line}
use Rattle.roundtrip.proofs.Said.{Fine, said_element, said_purge, word_element, word_purge, element_short, purge_short}
use Rattle.roundtrip.proofs.Fit.{FitLine}
use Rattle.blocks.specs.Block.{flat}
use Rattle.rereading.proofs.WholeLines.{Whole, line_end_lem, line_more, EndsWith}
use Rattle.rereading.proofs.Inert.{Inert, InertLine, Front, said_front, front_more, front_inert}
use Rattle.rereading.proofs.Fair.{clean, Fair}

-- ---- printable bytes
abbrev pub Print : ℕ → Type 0
Print b = between 32 126 b ≡ true

print : (b : ℕ) → 32 ≤ b → b ≤ 126 → Print b
print b h k = rw (le-leb 32 b h, le-leb b 126 k)

print_three : (n : ℕ) → n < 1000 → All Print (three_bytes n)
print_three n h =
    all_cons (print (48 + n / 100) (omega arith) (omega arith))
    (all_cons (print (48 + n / 10 % 10) (omega arith) (omega arith))
    (all_cons (print (48 + n % 10) (omega arith) (omega arith)) all_nil))

print_two : (n : ℕ) → n < 100 → All Print (two_bytes n)
print_two n h = all_cons (print (48 + n / 10) (omega arith) (omega arith)) (all_cons (print (48 + n % 10) (omega arith) (omega arith)) all_nil)

print_prefix : (p : ℕ) → p < prefixes → All Print (prefix_bytes p)
print_prefix p h =
    all_cons (print (65 + p / 52) (omega arith) (omega arith))
    (all_cons (print (65 + p / 2 % 26) (omega arith) (omega arith))
    (all_cons (either_way Print (eqb (p % 2) 0) {x = 67} {y = 90} refl refl) all_nil))

print_dash : All Print (bytes "-")
print_dash = all_cons (print 45 (omega arith) (omega arith)) all_nil

print_end : (n k : ℕ) → n + k ≤ 999 → All Print (up_to n k ++ bytes "-")
print_end n zero h = print_dash
print_end n (suc k) h = all_cons (print 62 (omega arith) (omega arith)) (all_append (print_three (n + suc k) (omega arith)) print_dash)

print_heading : (last : Option ℕ) (p : ℕ) → p < prefixes → All Print (new_prefix last p)
print_heading None p h = print_prefix p h
print_heading (Some q) p h = either_way (All Print) (eqb q p) all_nil (print_prefix p h)

-- ---- an element
pub record Good (e : List ℕ) : Type 0 where
  pub word : Word e
  pub front : Front e
  pub print : All Print e

good_element : (last : Option ℕ) (r : Run) → Fine r → Good (element_of last r)
unfolding element_of
good_element last r f =
    let p : ℕ = r.first / 1000 in
    let n : ℕ = r.first % 1000 in
    let s = said_element last r f in
    record {
      word = word_element last r;
      front = said_front last (element_of last r) (λ w. let v : wrong ≡ covers p n (n + r.more) = sym w ∙ s in apart cc);
      print = all_append (print_heading last p (omega (arith, f.below))) (all_append (print_three n (omega arith)) (print_end n r.more f.within));
    }

good_purge : (s : Stamp) → is_time s ≡ true → Good (purge_element s)
unfolding purge_element
good_purge s t =
    let r = time_true s t in
    record {
      word = word_purge s;
      front = said_front None (purge_element s) (λ w. let v : wrong ≡ purge s = sym w ∙ said_purge None s t in apart cc);
      print =
          all_append (print_two s.day (omega arith))
          (all_append (print_two s.hour (omega arith)) (all_append (print_two s.minute (omega arith)) print_dash));
    }

good_elements : (s : Stamp) → is_time s ≡ true → (last : Option ℕ) {rs : List Run} → All Fine rs → All Good (elements_of last rs ++ (purge_element s ∷ []))
unfolding elements_of
good_elements s t last all_nil = all_cons (good_purge s t) all_nil
good_elements s t last (all_cons {x = r} f fs) = all_cons (good_element last r f) (good_elements s t (Some (r.first / 1000)) fs)

-- ---- the lines: one element or more on each
pub data Lined : List (List ℕ) → Type 0 where
  lined : {e : List ℕ} {l : List (List ℕ)} → Good e → All Good l → Lined (e ∷ l)

record WrapGood (w : Wrapped) : Type 0 where
  now : All Good w.line
  later : All Lined w.lines

wrap_good : (n : ℕ) {es : List (List ℕ)} → All Good es → WrapGood (wrap_from n es)
unfolding wrap_from
wrap_good n all_nil = record { now = all_nil; later = all_nil }
wrap_good n (all_cons {x = e} g gs) =
    let a = wrap_good (n + length e) gs in
    let b = wrap_good (length e) gs in
    either_way WrapGood (fits n e)
    (record { now = all_cons g a.now; later = a.later })
    (record { now = all_nil; later = all_cons (lined g b.now) b.later })

all_lined : (w : Wrapped) {e : List ℕ} (v : Wrapped) → w ≡ on_line e v → Good e → WrapGood v → All Lined (w.line ∷ w.lines)
all_lined w v q g b = subst (λ (x : Wrapped). All Lined (x.line ∷ x.lines)) (sym q) (all_cons (lined g b.now) b.later)

wrapped_lined : (e : List ℕ) (es : List (List ℕ)) → length e ≤ written_most → All Good (e ∷ es) → All Lined (wrapped (e ∷ es))
wrapped_lined e es h (all_cons g gs) = all_lined (wrap_from 0 (e ∷ es)) (wrap_from (0 + length e) es) (first_line e es h) g (wrap_good (0 + length e) gs)

-- and none is lost
abbrev pub elements_in : List (List (List ℕ)) → List (List ℕ)
elements_in ls = flat (λ (l : List (List ℕ)). l) ls

wrap_all : (n : ℕ) (es : List (List ℕ)) → (wrap_from n es).line ++ elements_in (wrap_from n es).lines ≡ es
unfolding wrap_from flat
wrap_all n [] = refl
wrap_all n (e ∷ es) =
    by (fits n e)
    (λ q. rw q (ap (λ (x : List (List ℕ)). e ∷ x) (wrap_all (n + length e) es)))
    (λ q. rw q (ap (λ (x : List (List ℕ)). e ∷ x) (wrap_all (length e) es)))

pub wrapped_all : (es : List (List ℕ)) → elements_in (wrapped es) ≡ es
unfolding flat
wrapped_all es = wrap_all 0 es

-- ---- a line with its end
lined_good : {l : List (List ℕ)} → Lined l → All Good l
lined_good (lined g gs) = all_cons g gs

lined_front : {l : List (List ℕ)} → Lined l → Front (in_order l)
unfolding in_order
lined_front (lined {l = l} g gs) = front_more g.front (in_order l)

print_joined : {l : List (List ℕ)} → All Good l → All Print (in_order l)
unfolding in_order
print_joined all_nil = all_nil
print_joined (all_cons g gs) = all_append g.print (print_joined gs)

print_high : (b : ℕ) → Print b → 32 ≤ b
print_high b p = leb-true 32 b (and_left (leb 32 b) (leb b 126) p)

-- each of the three ends is a whole line's, and its bytes are allowed
whole_end : (end : End) → ends_line end ≡ true → Whole (end_bytes end)
whole_end Lf so = line_end_lem
whole_end CrLf so = line_more refl line_end_lem
whole_end CrCrLf so = line_more refl (line_more refl line_end_lem)
whole_end Nothing so = apart cc

clean_end : (end : End) → clean (end_bytes end) ≡ true
unfolding clean begins
clean_end Lf = refl
clean_end CrLf = refl
clean_end CrCrLf = refl
clean_end Nothing = refl

module _ (end : End) where
  body_lined : {l : List (List ℕ)} → Lined l → body_of (in_order l ++ end_bytes end) ≡ in_order l
  body_lined l = body_joined end (all_map (λ e g. g.word) (lined_good l))

  pub lined_elements : {l : List (List ℕ)} → Lined l → (at : ℕ) → elements_of_body at (body_of (in_order l ++ end_bytes end)) ≡ elements_at at l
  lined_elements (lined g gs) at = line_elements end (all_map (λ e g. g.word) (all_cons g gs)) at

  -- the line ended so
  lined_ended : {l : List (List ℕ)} → Lined l → EndsWith end (in_order l ++ end_bytes end)
  unfolding ended_by
  lined_ended {l} w =
      ap (λ (x : List ℕ). end_named (drop (length x) (in_order l ++ end_bytes end))) (body_lined w)
      ∙ ap end_named (drop-append_seam (in_order l) (end_bytes end))
      ∙ named_bytes end

  pub ended_ends : {ls : List (List (List ℕ))} → All Lined ls → All (EndsWith end) (ended_lines end ls)
  unfolding ended_lines
  ended_ends all_nil = all_nil
  ended_ends (all_cons l ls) = all_cons (lined_ended l) (ended_ends ls)

  pub ended_inert : {ls : List (List (List ℕ))} → All Lined ls → All InertLine (ended_lines end ls)
  unfolding ended_lines
  ended_inert all_nil = all_nil
  ended_inert (all_cons {x} l ls) =
      all_cons (subst (λ (y : List ℕ). Inert y) (sym (body_lined l)) (front_inert (in_order x) (lined_front l))) (ended_inert ls)

  pub ended_joined : (ls : List (List (List ℕ))) → in_order (ended_lines end ls) ≡ rendered end ls
  unfolding ended_lines in_order rendered
  ended_joined [] = refl
  ended_joined (l ∷ ls) = ap (λ (x : List ℕ). (in_order l ++ end_bytes end) ++ x) (ended_joined ls) ∙ append_assoc (in_order l) (end_bytes end) (rendered end ls)

  clean_print : {x : List ℕ} → All Print x → clean (x ++ end_bytes end) ≡ true
  unfolding clean begins
  clean_print all_nil = clean_end end
  clean_print (all_cons p a) = rw p (clean_print a)

  -- where it ends at all, the line is whole
  module _ (so : ends_line end ≡ true) where
    whole_print : {x : List ℕ} → All Print x → Whole (x ++ end_bytes end)
    whole_print all_nil = whole_end end so
    whole_print (all_cons {x = b} p a) = let h = print_high b p in line_more (ne_eqb b lf (omega arith)) (whole_print a)

    pub ended_whole : {ls : List (List (List ℕ))} → All Lined ls → All Whole (ended_lines end ls)
    unfolding ended_lines
    ended_whole all_nil = all_nil
    ended_whole (all_cons l ls) = all_cons (whole_print (print_joined (lined_good l))) (ended_whole ls)

    pub ended_fair : (at : ℕ) {ls : List (List (List ℕ))} → All Lined ls → All FitLine (lines_at at (ended_lines end ls)) → All Fair (ended_lines end ls)
    unfolding ended_lines lines_at
    ended_fair at all_nil all_nil = all_nil
    ended_fair at (all_cons {x} l ls) (all_cons h hs) =
        let p = print_joined (lined_good l) in
        let s : length (body_of (in_order x ++ end_bytes end)) ≤ 132 = omega arith in
        all_cons (record { whole = whole_print p; clean = clean_print p; short = s }) (ended_fair (at + length (in_order x ++ end_bytes end)) ls hs)

-- ---- of a block
pub spans_lined : (s : Stamp) → is_time s ≡ true → {rs : List Run} → All Fine rs → All Lined (wrapped (elements_of None rs ++ (purge_element s ∷ [])))
unfolding elements_of
spans_lined s t all_nil = wrapped_lined (purge_element s) [] (purge_short s) (good_elements s t None all_nil)
spans_lined s t (all_cons {x = r} f fs) = wrapped_lined (element_of None r) _ (element_short None r) (good_elements s t None (all_cons f fs))
