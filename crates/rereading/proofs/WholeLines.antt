-- Whole lines: a text is its lines in order, and a search over lines goes by the lines' bytes alone. Assumes nothing.
use Prim.Native.Nat.{ℕ, ◌+◌, ◌≤◌}
use native.Mathlib.Nat.{add-zero}
use native.Mathlib.Omega.{arith}
use mathlib.Core.Path.{◌≡◌, refl, sym, ap, ◌∙◌, subst}
use mathlib.Core.Bool.{Bool, true, false}
use mathlib.Core.List.{List, [], ◌∷◌, ◌++◌, append_assoc, append-nil}
use lib.ListN.{length, drop, length-append}
use lib.Dec.{eqb}
use borrow.Author.Tests.{eqb-true}
use Rattle.laws.proofs.Tests.{by}
use Rattle.laws.specs.Lists.{All, all_nil, all_cons}
use Rattle.lines.specs.Bytes.{lf, word, exactly}
use Rattle.lines.specs.Lines.{glue, pieces, line_end, body_of, ends_line, end_named, ended_by, Line, lines_at}
use Rattle.lines.specs.declared.End.{End}
use Rattle.lines.specs.Check.{last_ends}
use Rattle.lines.proofs.Ends.{first_piece, pieces_first}
use Rattle.codes.specs.Written.{in_order}
use Rattle.segments.specs.Search.{from_first}

-- ---- a text is its pieces, in order
joined_glue : (b : ℕ) (ps : List (List ℕ)) → in_order (glue b ps) ≡ b ∷ in_order ps
unfolding in_order
joined_glue b [] = refl
joined_glue b (p ∷ ps) = refl

pub joined_pieces : (sep : ℕ) (s : List ℕ) → in_order (pieces sep s) ≡ s
unfolding in_order pieces
joined_pieces sep [] = refl
joined_pieces sep (b ∷ s) =
    by (eqb b sep)
    (λ p. rw p (ap (λ (t : List ℕ). b ∷ t) (joined_pieces sep s)))
    λ p. rw p (joined_glue b (pieces sep s) ∙ ap (λ (t : List ℕ). b ∷ t) (joined_pieces sep s))

pub joined_append : (ps qs : List (List ℕ)) → in_order (ps ++ qs) ≡ in_order ps ++ in_order qs
unfolding in_order
joined_append [] qs = refl
joined_append (p ∷ ps) qs = ap (λ (t : List ℕ). p ++ t) (joined_append ps qs) ∙ sym (append_assoc p (in_order ps) (in_order qs))

-- ---- a whole line: its last byte is its only LF
pub data Whole : List ℕ → Type 0 where
  line_end_lem : Whole (lf ∷ [])
  line_more : {b : ℕ} {s : List ℕ} → eqb b lf ≡ false → Whole s → Whole (b ∷ s)

pub whole_long : {p : List ℕ} → Whole p → 1 ≤ length p
whole_long line_end_lem = omega arith
whole_long (line_more h w) = omega arith

pieces_whole : {p : List ℕ} → Whole p → (s : List ℕ) → pieces lf (p ++ s) ≡ p ∷ pieces lf s
unfolding pieces
pieces_whole line_end_lem s = refl
pieces_whole (line_more h w) s = rw (h, pieces_whole w s)

pieces_wholes : {ps : List (List ℕ)} → All Whole ps → (s : List ℕ) → pieces lf (in_order ps ++ s) ≡ ps ++ pieces lf s
unfolding in_order
pieces_wholes all_nil s = refl
pieces_wholes (all_cons {x = p} {xs = ps} w ws) s =
    ap (pieces lf) (append_assoc p (in_order ps) s)
    ∙ pieces_whole w (in_order ps ++ s)
    ∙ ap (λ (x : List (List ℕ)). p ∷ x) (pieces_wholes ws s)

pub pieces_joined : {ps : List (List ℕ)} → All Whole ps → pieces lf (in_order ps) ≡ ps
unfolding pieces
pieces_joined {ps} ws = ap (pieces lf) (sym (append-nil (in_order ps))) ∙ pieces_wholes ws [] ∙ append-nil ps

-- the pieces of a text whose last line ends are whole lines
glue_whole : (b : ℕ) {p : List ℕ} {ps : List (List ℕ)} → eqb b lf ≡ false → All Whole (p ∷ ps) → All Whole (glue b (p ∷ ps))
glue_whole b h (all_cons w ws) = all_cons (line_more h w) ws

one_lf : (b : ℕ) → eqb b lf ≡ true → Whole (b ∷ [])
one_lf b e = subst (λ (c : ℕ). Whole (c ∷ [])) (sym (eqb-true b lf e)) line_end_lem

pub whole_pieces : (s : List ℕ) → last_ends s ≡ true → All Whole (pieces lf s)
unfolding pieces last_ends
whole_pieces [] e = all_nil
whole_pieces (b ∷ []) e = rw e (all_cons (one_lf b e) all_nil)
whole_pieces (b ∷ (c ∷ s)) e =
    let w : All Whole (pieces lf (c ∷ s)) = whole_pieces (c ∷ s) e in
    by (eqb b lf)
    (λ h. rw h (all_cons (one_lf b h) w))
    λ h. let first : List ℕ = first_piece lf (c ∷ s) in
    let f : pieces lf (c ∷ s) ≡ first ∷ pieces lf (drop (length first) (c ∷ s)) = pieces_first lf c s in
    rw h (subst (λ (x : List (List ℕ)). All Whole (glue b x)) (sym f) (glue_whole b h (subst (All Whole) f w)))

-- and a text of whole lines ends its last line
ends_more : (b : ℕ) {s : List ℕ} → Whole s → (t : List ℕ) → last_ends (b ∷ (s ++ t)) ≡ last_ends (s ++ t)
unfolding last_ends
ends_more b line_end_lem t = refl
ends_more b (line_more h w) t = refl

ends_whole : {p : List ℕ} → Whole p → (t : List ℕ) → last_ends t ≡ true → last_ends (p ++ t) ≡ true
unfolding last_ends
ends_whole line_end_lem [] e = refl
ends_whole line_end_lem (b ∷ t) e = e
ends_whole (line_more {b} h w) t e = ends_more b w t ∙ ends_whole w t e

pub whole_ends : {ps : List (List ℕ)} → All Whole ps → last_ends (in_order ps) ≡ true
unfolding in_order last_ends
whole_ends all_nil = refl
whole_ends (all_cons {xs = ps} w ws) = ends_whole w (in_order ps) (whole_ends ws)

-- ---- how a line ended
abbrev pub EndsWith : End → List ℕ → Type 0
EndsWith end p = ended_by p ≡ end

-- a whole line ended with one of the three
named_some : (s : List ℕ) → line_end s ≡ true → ends_line (end_named s) ≡ true
unfolding line_end end_named
named_some s e =
    by (exactly (word "\n") s) (λ p. rw p)
    λ p. by (exactly (word "\r\n") s) (λ q. rw (p, q))
    λ q. rw (p, q, let r : exactly (word "\r\r\n") s ≡ true = rw (p, q) at e in r)

pub whole_ended : {p : List ℕ} → Whole p → ends_line (ended_by p) ≡ true
unfolding ended_by body_of line_end end_named exactly
whole_ended line_end_lem = refl
whole_ended (line_more {b} {s} h w) =
    by (line_end (b ∷ s)) (λ p. rw p (named_some (b ∷ s) p)) (λ p. rw p (whole_ended w))

-- what is known of each piece's end is known of each line's, and the other way
pub pieces_lines : (P : End → Type 0) (at : ℕ) {ps : List (List ℕ)} → All (λ (p : List ℕ). P (ended_by p)) ps → All (λ (l : Line). P l.ended) (lines_at at ps)
unfolding lines_at
pieces_lines P at all_nil = all_nil
pieces_lines P at (all_cons {x = p} h hs) = all_cons h (pieces_lines P (at + length p) hs)

pub lines_pieces : (P : End → Type 0) (at : ℕ) (ps : List (List ℕ)) → All (λ (l : Line). P l.ended) (lines_at at ps) → All (λ (p : List ℕ). P (ended_by p)) ps
unfolding lines_at
lines_pieces P at [] a = all_nil
lines_pieces P at (p ∷ ps) (all_cons h hs) = all_cons h (lines_pieces P (at + length p) ps hs)

-- ---- a search over lines
-- a line that does not pass the test p
abbrev pub No : (List ℕ → Bool) → List ℕ → Type 0
No p f = p (body_of f) ≡ false

-- what does not pass is passed over
pub pass : (p : List ℕ → Bool) (at : ℕ) {fs : List (List ℕ)} → All (No p) fs → (xs : List (List ℕ))
    → from_first p (lines_at at (fs ++ xs)) ≡ from_first p (lines_at (at + length (in_order fs)) xs)
unfolding from_first lines_at in_order
pass p at all_nil xs = rw add-zero
pass p at (all_cons {x = f} {xs = fs} h hs) xs =
    let e : at + length f + length (in_order fs) ≡ at + length (f ++ in_order fs) = omega (arith, length-append f (in_order fs)) in
    rw h (pass p (at + length f) hs xs ∙ ap (λ (k : ℕ). from_first p (lines_at k xs)) e)

pub pass_to : (p : List ℕ → Bool) (at k : ℕ) {fs : List (List ℕ)} → All (No p) fs → (xs : List (List ℕ)) → k ≡ at + length (in_order fs)
    → from_first p (lines_at at (fs ++ xs)) ≡ from_first p (lines_at k xs)
pass_to p at k a xs e = rw e (pass p at a xs)

pub pass_all : (p : List ℕ → Bool) (at : ℕ) {fs : List (List ℕ)} → All (No p) fs → from_first p (lines_at at fs) ≡ []
unfolding from_first lines_at
pass_all p at all_nil = refl
pass_all p at (all_cons {x = f} h hs) = rw h (pass_all p (at + length f) hs)

-- and a line that passes stops it
pub stop : (p : List ℕ → Bool) (at : ℕ) (d : List ℕ) (xs : List (List ℕ)) → p (body_of d) ≡ true
    → from_first p (lines_at at (d ∷ xs)) ≡ lines_at at (d ∷ xs)
unfolding from_first lines_at
stop p at d xs h = rw h

-- some line passes, or none does
pub data Sought (p : List ℕ → Bool) (ps : List (List ℕ)) : Type 0 where
  missing : All (No p) ps → Sought p ps
  found : (fs : List (List ℕ)) (d : List ℕ) (xs : List (List ℕ)) → ps ≡ fs ++ (d ∷ xs) → All (No p) fs → p (body_of d) ≡ true → Sought p ps

seek_more : (p : List ℕ → Bool) (f : List ℕ) {ps : List (List ℕ)} → No p f → Sought p ps → Sought p (f ∷ ps)
seek_more p f h (missing a) = missing (all_cons h a)
seek_more p f h (found fs d xs e a t) = found (f ∷ fs) d xs (ap (λ (x : List (List ℕ)). f ∷ x) e) (all_cons h a) t

pub seek : (p : List ℕ → Bool) (ps : List (List ℕ)) → Sought p ps
seek p [] = missing all_nil
seek p (f ∷ ps) = by (p (body_of f)) (λ h. found [] f ps refl all_nil h) (λ h. seek_more p f h (seek p ps))
