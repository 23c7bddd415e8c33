-- A written block has at most 1,216 bytes. Assumes nothing.
use Prim.Native.Nat.{ℕ, zero, suc, ◌+◌, ◌*◌, ◌/◌, ◌%◌, ◌≤◌}
use native.Mathlib.Omega.{arith}
use mathlib.Core.Path.{◌≡◌, refl, ap, ◌∙◌}
use mathlib.Core.Bool.{true}
use mathlib.Core.List.{List, [], ◌∷◌, ◌++◌}
use Rattle.std.specs.Prelude.{Option, None, Some}
use lib.ListN.{length, length-append}
use lib.Dec.{eqb}
use Rattle.laws.proofs.Tests.{by, apart, either_way}
use Rattle.refusal.specs.declared.Reason.TheVariants.{OutOfRange}
use Rattle.refusal.specs.Answer.{ok, refused}
use Rattle.lines.specs.Bytes.{bytes}
use Rattle.lines.specs.Lines.{end_bytes}
use Rattle.lines.specs.declared.End.{End}
use Rattle.lines.specs.declared.End.TheVariants.{Lf, CrLf, CrCrLf, Nothing}
use Rattle.calendar.specs.Calendar.{date_of}
use Rattle.calendar.specs.declared.Date.{Date}
use Rattle.calendar.specs.declared.Stamp.{Stamp}
use Rattle.codes.specs.Places.{prefix_bytes, three_bytes, is_set}
use Rattle.codes.specs.Written.{new_prefix, up_to, Run, single, joins, join, runs_of, parted, spans_of, element_of, elements_of, purge_element, block_elements, fits, written}
use Rattle.codes.proofs.Sets.{set_true}
use Rattle.writing.specs.Ink.{ink_from}
use Rattle.writing.specs.Pen.{written_block_most}
use Rattle.writing.specs.Write.{dated_block, written_block}
use Rattle.writing.proofs.Ink.{ink_start, ink_end, ink_on, ink_next}

-- ---- an element: 7 bytes at most, `SSFnnn-`, and 11 where it is a range
headed_most : (last : Option ℕ) (p n : ℕ) (t : List ℕ) → length t ≤ n → length (new_prefix last p ++ t) ≤ 3 + n
headed_most None p n t h = omega arith
headed_most (Some q) p n t h = either_way (λ (x : List ℕ). length (x ++ t) ≤ 3 + n) (eqb q p) {x = []} {y = prefix_bytes p} (omega arith) (omega arith)

tail_most : (n k : ℕ) → length (three_bytes n ++ (up_to n k ++ bytes "-")) ≤ 8
tail_most n zero = omega arith
tail_most n (suc k) = omega arith

single_most : (last : Option ℕ) (p : ℕ) → length (element_of last (single p)) ≤ 7
unfolding element_of
single_most last p = headed_most last (p / 1000) 4 _ (omega arith)

pub element_most_lem : (last : Option ℕ) (r : Run) → length (element_of last r) ≤ 11
unfolding element_of
element_most_lem last r = headed_most last (r.first / 1000) 8 _ (tail_most (r.first % 1000) r.more)

pub purge_most : (s : Stamp) → length (purge_element s) ≤ 7
unfolding purge_element
purge_most s = omega arith

-- ---- the places of runs
unfoldable size_of : List Run → ℕ
size_of [] = 0
size_of (r ∷ rs) = suc r.more + size_of rs

join_size : (p : ℕ) (rs : List Run) → size_of (join p rs) ≡ suc (size_of rs)
unfolding size_of join
join_size p [] = refl
join_size p (r ∷ rs) = by (joins p r.first) (λ e. rw e (omega arith)) (λ e. rw e (omega arith))

runs_size : (ps : List ℕ) → size_of (runs_of ps) ≡ length ps
unfolding size_of runs_of
runs_size [] = refl
runs_size (p ∷ ps) = join_size p (runs_of ps) ∙ ap suc (runs_size ps)

-- ---- the bytes of elements, each of which may begin a line: three more for the end of the line before it
unfoldable ink_of : List (List ℕ) → ℕ
ink_of [] = 0
ink_of (e ∷ es) = length e + 3 + ink_of es

-- ten for each place at most: a range has three places or more
module _ (k : ℕ) (es : List (List ℕ)) (rs : List Run) (h : (last : Option ℕ) → ink_of (elements_of last rs ++ es) ≤ k) where
  parted_ink : (last : Option ℕ) (p n : ℕ) → ink_of (elements_of last (parted p n ++ rs) ++ es) ≤ 10 * suc n + k
  unfolding ink_of elements_of
  parted_ink last p zero = omega (arith, single_most last p, h (Some (p / 1000)))
  parted_ink last p (suc zero) = omega (arith, single_most last p, single_most (Some (p / 1000)) (suc p), h (Some (suc p / 1000)))
  parted_ink last p (suc (suc n)) = omega (arith, element_most_lem last (record { first = p; more = suc (suc n) }), h (Some (p / 1000)))

purge_ink : (s : Stamp) → ink_of (purge_element s ∷ []) ≤ 10
unfolding ink_of
purge_ink s = omega (arith, purge_most s)

spans_ink : (s : Stamp) (rs : List Run) (last : Option ℕ) → ink_of (elements_of last (spans_of rs) ++ (purge_element s ∷ [])) ≤ 10 * size_of rs + 10
unfolding spans_of elements_of size_of
spans_ink s [] last = purge_ink s
spans_ink s (r ∷ rs) last = omega (arith, parted_ink (10 * size_of rs + 10) (purge_element s ∷ []) (spans_of rs) (spans_ink s rs) last r.first r.more)

-- ---- the text, whose last line ends
end_most : (end : End) → length (end_bytes end) ≤ 3
end_most Lf = omega arith
end_most CrLf = omega arith
end_most CrCrLf = omega arith
end_most Nothing = omega arith

module _ (end : End) where
  ink_most_lem : (n : ℕ) (es : List (List ℕ)) → length (ink_from end n es) ≤ 3 + ink_of es
  unfolding ink_of
  ink_most_lem n [] = rw (ink_end end n) (omega (arith, end_most end))
  ink_most_lem n (e ∷ es) =
      by (fits n e)
      (λ q. rw (ink_on end n e es q) (omega (arith, length-append e (ink_from end (n + length e) es), ink_most_lem (n + length e) es)))
      λ q. let rest : List ℕ = e ++ ink_from end (length e) es in
      rw (ink_next end n e es q)
      (omega (arith, end_most end, length-append (end_bytes end) rest, length-append e (ink_from end (length e) es), ink_most_lem (length e) es))

  -- What is written of a segment's places has at most 1,216 bytes,
  pub written_most_lem : (ps : List ℕ) (s : Stamp) → is_set ps ≡ true → length (written end ps s) ≤ written_block_most
  unfolding written block_elements
  written_most_lem ps s e =
      let es : List (List ℕ) = elements_of None (spans_of (runs_of ps)) ++ (purge_element s ∷ []) in
      rw (ink_start end es) (omega (arith, ink_most_lem 0 es, spans_ink s (runs_of ps) None, runs_size ps, (set_true ps e).few))

  -- and so has every block that the rule of writing gives.
  pub block_most_lem : (ps : List ℕ) (minute : ℕ) (block : List ℕ) → written_block end ps minute ≡ ok block → length block ≤ written_block_most
  unfolding written_block
  block_most_lem ps minute block e = by (is_set ps) (λ q. go q (date_of minute) (rw q at e)) λ q. let f : refused OutOfRange 0 ≡ ok block = rw q at e in apart cc
    where
      go : is_set ps ≡ true → (o : Option Date) → dated_block end ps o ≡ ok block → length block ≤ written_block_most
      go q None f = apart cc
      go q (Some d) f = let g : written end ps d.stamp ≡ block = cc in rw (← g) (written_most_lem ps d.stamp q)
