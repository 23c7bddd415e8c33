-- The lines of a block that is read: they come first from its start on, each is inert, and behind them is the place after the purge's line. Assumes nothing.
use Prim.Native.Nat.{ℕ, ◌+◌, ◌≤◌, ◌<◌}
use native.Mathlib.Omega.{arith}
use mathlib.Core.Path.{◌≡◌, refl, sym, ap, ◌∙◌, subst}
use mathlib.Core.Bool.{Bool, true, false}
use mathlib.Core.List.{List, [], ◌∷◌, ◌++◌}
use Rattle.std.specs.Prelude.{Option, None, Some}
use lib.ListN.{length, drop, length-append}
use lib.Seq.{drop-append_seam}
use borrow.Author.Tests.{lt-ltb, le-ltb}
use Rattle.laws.proofs.Tests.{apart, impossible}
use Rattle.laws.specs.Lists.{All, all_nil, all_cons}
use Rattle.refusal.specs.Answer.{ok}
use Rattle.lines.specs.Bytes.{lf}
use Rattle.lines.specs.Lines.{pieces, body_of, Line, lines_at}
use Rattle.lines.proofs.Ends.{first_piece, pieces_first}
use Rattle.calendar.specs.declared.Stamp.{Stamp}
use Rattle.codes.specs.Elements.{Element, dash, null, elements_at, elements_of_body, elements_of_lines, Said, covers, purge, wrong, said}
use Rattle.codes.specs.Block.{Read, insert_covered, block, wrong_at, ended, read_from, read_block}
use Rattle.codes.specs.Written.{in_order}
use Rattle.codes.proofs.Turns.{read_covers, read_purge_lem, read_wrong}
use Rattle.reading.specs.Placed.{purge_place}
use Rattle.segments.specs.Segments.{past_purge}
use Rattle.segments.proofs.Purges.{body_short}
use Rattle.rereading.proofs.WholeLines.{joined_pieces, Whole, pieces_joined}
use Rattle.rereading.proofs.Inert.{Front, said_front, front_more, front_long, InertLine, front_inert}

-- ---- the place after the line that has the purge, whose element stands at z
abbrev pub past_in : ℕ → List Line → ℕ
past_in z [] = z
past_in z (l ∷ ls) = past_purge z l ls

-- it is in the first of these lines, or behind it
pub past_here : (z at : ℕ) (p : List ℕ) (qs : List (List ℕ)) → z < at + length p → past_in z (lines_at at (p ∷ qs)) ≡ at + length p
unfolding lines_at past_purge
past_here z at p [] h = refl
past_here z at p (q ∷ qs) h = rw (lt-ltb z (at + length p) h)

pub past_later : (z at : ℕ) (p q : List ℕ) (qs : List (List ℕ)) → at + length p ≤ z
    → past_in z (lines_at at (p ∷ q ∷ qs)) ≡ past_in z (lines_at (at + length p) (q ∷ qs))
unfolding lines_at past_purge
past_later z at p q qs h = rw (le-ltb z (at + length p) h)

-- the lines of the block that these lines start with, whose purge element stands at z
pub record BlockLines (z at : ℕ) (qs : List (List ℕ)) : Type 0 where
  pub lines : List (List ℕ)
  pub rest : List (List ℕ)
  pub are : qs ≡ lines ++ rest
  pub inert : All InertLine lines
  pub low : at ≤ z
  pub past : past_in z (lines_at at qs) ≡ at + length (in_order lines)

-- ---- elements that are read to a block: the purge is among the first of them, or those after them are read to it
module _ (stop : ℕ) (ps : List ℕ) (s : Stamp) (z : ℕ) where
  -- n bytes of elements from the place k on, and the elements after them
  data Purge (k n : ℕ) (after : List Element) : Type 0 where
    here : k ≤ z → z < k + n → Purge k n after
    later : (last : Option ℕ) (got : List ℕ) → read_from stop last got after ≡ block ps s z → Purge k n after

  on : (k m n : ℕ) (after : List Element) → Purge (k + m) n after → Purge k (m + n) after
  on k m n after (here a b) = here (omega arith) (omega arith)
  on k m n after (later last got e) = later last got e

  ended_here : (t : Bool) (got : List ℕ) (u : Stamp) (k next : ℕ) → ended t (block got u k) next ≡ block ps s z → k ≡ z
  ended_here true got u k next e = cc
  ended_here false got u k next e = apart cc

  purged : (xs : List (List ℕ)) (k : ℕ) (last : Option ℕ) (got : List ℕ) (after : List Element)
      → read_from stop last got (elements_at k xs ++ after) ≡ block ps s z → Purge k (length (in_order xs)) after
  unfolding elements_at in_order
  purged [] k last got after e = later last got e
  purged (x ∷ xs) k last got after e = go (λ l g. purged xs (k + length x) l g after) (said last x) refl
    where
      one : Element
      one = record { at = k; bytes = x; last = null xs }

      rest : List Element
      rest = elements_at (k + length x) xs ++ after

      both : length (x ++ in_order xs) ≡ length x + length (in_order xs)
      both = length-append x (in_order xs)

      go : ((l : Option ℕ) (g : List ℕ) → read_from stop l g rest ≡ block ps s z → Purge (k + length x) (length (in_order xs)) after)
          → (r : Said) → said last x ≡ r → Purge k (length (x ++ in_order xs)) after
      go f (covers p n m) a =
          subst (λ (j : ℕ). Purge k j after) (sym both)
          (on k (length x) (length (in_order xs)) after (f (Some p) (insert_covered p n m got) (sym (read_covers stop last got one rest p n m a) ∙ e)))
      go f (purge u) a =
          let q : k ≡ z = ended_here (null xs) got u k (k + length x) (sym (read_purge_lem stop last got one rest u a) ∙ e) in
          let h : 1 ≤ length x = front_long x (said_front last x (λ w. let v : wrong ≡ purge u = sym w ∙ a in apart cc)) in
          here (omega arith) (omega (arith, both))
      go f wrong a = let w : wrong_at k ≡ block ps s z = sym (read_wrong stop last got one rest a) ∙ e in apart cc

  -- the first of elements that are read to a block is not wrong
  not_wrong : (last : Option ℕ) (got : List ℕ) (e : Element) (es : List Element)
      → read_from stop last got (e ∷ es) ≡ block ps s z → said last e.bytes ≡ wrong → ⊥
  not_wrong last got e es q w = let v : wrong_at e.at ≡ block ps s z = sym (read_wrong stop last got e es w) ∙ q in apart cc

  -- ---- a line
  record OneLine (at : ℕ) (body : List ℕ) (after : List Element) : Type 0 where
    front : Front body
    tells : Purge at (length body) after

  one_line : (at : ℕ) (body : List ℕ) (last : Option ℕ) (got : List ℕ) (after : List Element)
      → read_from stop last got (elements_of_body at body ++ after) ≡ block ps s z → OneLine at body after
  unfolding elements_at in_order
  one_line at [] last got after e =
      let f : Front [] = said_front last [] (not_wrong last got _ after e) in
      impossible (omega (arith, front_long [] f))
  one_line at (b ∷ t) last got after e =
      let x : List ℕ = first_piece dash (b ∷ t) in
      let xs : List (List ℕ) = pieces dash (drop (length x) (b ∷ t)) in
      let split : pieces dash (b ∷ t) ≡ x ∷ xs = pieces_first dash b t in
      let whole : x ++ in_order xs ≡ b ∷ t = ap in_order (sym split) ∙ joined_pieces dash (b ∷ t) in
      let q : read_from stop last got (elements_at at (x ∷ xs) ++ after) ≡ block ps s z =
      ap (λ (ys : List (List ℕ)). read_from stop last got (elements_at at ys ++ after)) (sym split) ∙ e in
      record {
        front = subst Front whole (front_more (said_front last x (not_wrong last got _ _ q)) (in_order xs));
        tells = subst (λ (y : List ℕ). Purge at (length y) after) whole (purged (x ∷ xs) at last got after q);
      }

  -- ---- the block's lines
  -- what the lines after a line give
  abbrev Next : ℕ → List (List ℕ) → Type 0
  Next at qs = (last : Option ℕ) (got : List ℕ) → read_from stop last got (elements_of_lines (lines_at at qs)) ≡ block ps s z → BlockLines z at qs

  more_lines : (at : ℕ) (p : List ℕ) (qs : List (List ℕ)) → Next (at + length p) qs → Front (body_of p)
      → Purge at (length (body_of p)) (elements_of_lines (lines_at (at + length p) qs)) → BlockLines z at (p ∷ qs)
  unfolding in_order elements_of_lines lines_at read_from
  more_lines at p qs f l (here a b) =
      record {
        lines = p ∷ [];
        rest = qs;
        are = refl;
        inert = all_cons (front_inert (body_of p) l) all_nil;
        low = a;
        past = past_here z at p qs (omega (arith, body_short p)) ∙ omega (arith, length-append p []);
      }
  more_lines at p [] f l (later last got e) = apart cc
  more_lines at p (q ∷ qs) f l (later last got e) =
      let r = f last got e in
      record {
        lines = p ∷ r.lines;
        rest = r.rest;
        are = ap (λ (x : List (List ℕ)). p ∷ x) r.are;
        inert = all_cons (front_inert (body_of p) l) r.inert;
        low = omega (arith, r.low);
        past = past_later z at p q qs r.low ∙ r.past ∙ omega (arith, length-append p (in_order r.lines));
      }

  block_lines : (at : ℕ) (qs : List (List ℕ)) → Next at qs
  unfolding elements_of_lines lines_at read_from
  block_lines at [] last got e = apart cc
  block_lines at (p ∷ qs) last got e =
      let l = one_line at (body_of p) last got (elements_of_lines (lines_at (at + length p) qs)) e in
      more_lines at p qs (block_lines (at + length p) qs) l.front l.tells

-- ---- in a text that ends with whole lines, the first of which the block starts at
pub old_block : (text front : List ℕ) {qs : List (List ℕ)} → All Whole qs → text ≡ front ++ in_order qs
    → (z : ℕ) → purge_place (read_block text (length front)) ≡ ok z → BlockLines z (length front) qs
unfolding read_block
old_block text front {qs} ws t z e = read (read_block text (length front)) refl e
  where
    lines : pieces lf (drop (length front) text) ≡ qs
    lines = ap (λ (x : List ℕ). pieces lf (drop (length front) x)) t ∙ ap (pieces lf) (drop-append_seam front (in_order qs)) ∙ pieces_joined ws

    read : (r : Read) → read_block text (length front) ≡ r → purge_place r ≡ ok z → BlockLines z (length front) qs
    read (wrong_at place) q f = apart cc
    read (block ps s y) q f =
        let same : y ≡ z = cc in
        subst (λ (k : ℕ). BlockLines k (length front) qs) same
        (block_lines (length text) ps s y (length front) qs None []
        (ap (λ (x : List (List ℕ)). read_from (length text) None [] (elements_of_lines (lines_at (length front) x))) (sym lines) ∙ q))
