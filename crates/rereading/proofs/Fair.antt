-- A text passes refusal 2 exactly if it is made of lines that each pass it. Assumes nothing.
use Prim.Native.Nat.{ℕ, suc, ◌+◌, ◌≤◌}
use mathlib.Core.Path.{◌≡◌, refl, sym, ap, ◌∙◌}
use mathlib.Core.Bool.{Bool, true, false, ◌&&◌}
use mathlib.Core.List.{List, [], ◌∷◌, ◌++◌}
use Rattle.std.specs.Prelude.{Option, None, Some}
use lib.ListN.{length}
use lib.Dec.{ltb, eqb}
use borrow.Author.Tests.{ltb-false, le-ltb}
use Rattle.laws.proofs.Tests.{by, apart, and_left, and_right}
use Rattle.laws.proofs.Lists.{all_map}
use Rattle.laws.specs.Lists.{All, all_nil, all_cons}
use Rattle.refusal.specs.declared.Reason.TheVariants.{WrongText}
use Rattle.refusal.specs.Answer.{ok, refused_at}
use Rattle.lines.specs.Bytes.{lf, word, begins}
use Rattle.lines.specs.Lines.{pieces, body_of, lines_at, lines_of}
use Rattle.lines.specs.Check.{allowed, bad_byte, line_most, long_line, last_ends, unended, least, text_fault, check_text}
use Rattle.codes.specs.Written.{in_order}
use Rattle.rereading.proofs.WholeLines.{joined_pieces, Whole, line_end_lem, line_more, pieces_joined, whole_pieces, whole_ends}

-- ---- every byte is allowed
unfoldable pub clean : List ℕ → Bool
clean [] = true
clean (b ∷ s) = allowed b s && clean s

bad_clean : (at : ℕ) (s : List ℕ) → bad_byte at s ≡ None → clean s ≡ true
unfolding bad_byte clean
bad_clean at [] e = refl
bad_clean at (b ∷ s) e =
    by (allowed b s) (λ h. rw h (bad_clean (suc at) s (rw h at e)))
    λ h. let f : Some at ≡ None = rw h at e in apart cc

clean_bad : (at : ℕ) (s : List ℕ) → clean s ≡ true → bad_byte at s ≡ None
unfolding bad_byte clean
clean_bad at [] e = refl
clean_bad at (b ∷ s) e = rw (and_left (allowed b s) (clean s) e) (clean_bad (suc at) s (and_right (allowed b s) (clean s) e))

-- whether a byte of a whole line is allowed does not turn on what follows the line
begins_lf : {p : List ℕ} → Whole p → (s : List ℕ) → begins (word "\n") (p ++ s) ≡ begins (word "\n") p
unfolding begins
begins_lf line_end_lem s = refl
begins_lf (line_more h w) s = refl

begins_crlf : {p : List ℕ} → Whole p → (s : List ℕ) → begins (word "\r\n") (p ++ s) ≡ begins (word "\r\n") p
unfolding begins
begins_crlf line_end_lem s = refl
begins_crlf (line_more {b} h w) s = ap (λ (t : Bool). eqb b 13 && t) (begins_lf w s)

clean_whole : {p : List ℕ} → Whole p → (s : List ℕ) → clean (p ++ s) ≡ (clean p && clean s)
unfolding clean
clean_whole line_end_lem s = refl
clean_whole (line_more {b} {s = p} h w) s =
    rw (begins_lf w s, begins_crlf w s, clean_whole w s) (assoc (allowed b p) (clean p) (clean s))
  where
    assoc : (x y z : Bool) → (x && (y && z)) ≡ ((x && y) && z)
    assoc true y z = refl
    assoc false y z = refl

-- ---- a line that passes: it is whole, each of its bytes is allowed, and it has at most 132 bytes without its end
pub record Fair (p : List ℕ) : Type 0 where
  pub whole : Whole p
  pub clean : clean p ≡ true
  pub short : length (body_of p) ≤ line_most

pub wholes : {ps : List (List ℕ)} → All Fair ps → All Whole ps
wholes a = all_map (λ p f. f.whole) a

fair_from : (at : ℕ) {ps : List (List ℕ)} → All Whole ps → clean (in_order ps) ≡ true → long_line (lines_at at ps) ≡ None → All Fair ps
unfolding in_order long_line lines_at
fair_from at all_nil c l = all_nil
fair_from at (all_cons {x = p} {xs = ps} w ws) c l =
    let d : (clean p && clean (in_order ps)) ≡ true = sym (clean_whole w (in_order ps)) ∙ c in
    by (ltb line_most (length (body_of p)))
    (λ h. let f : Some (at + line_most) ≡ None = rw h at l in apart cc)
    λ h. let s : length (body_of p) ≤ line_most = ltb-false line_most (length (body_of p)) h in
    all_cons (record { whole = w; clean = and_left (clean p) (clean (in_order ps)) d; short = s })
    (fair_from (at + length p) ws (and_right (clean p) (clean (in_order ps)) d) (rw h at l))

fair_clean : {ps : List (List ℕ)} → All Fair ps → clean (in_order ps) ≡ true
unfolding in_order clean
fair_clean all_nil = refl
fair_clean (all_cons {xs = ps} f fs) = clean_whole f.whole (in_order ps) ∙ rw f.clean (fair_clean fs)

fair_long : (at : ℕ) {ps : List (List ℕ)} → All Fair ps → long_line (lines_at at ps) ≡ None
unfolding long_line lines_at
fair_long at all_nil = refl
fair_long at (all_cons {x = p} f fs) = rw (le-ltb line_most (length (body_of p)) f.short) (fair_long (at + length p) fs)

-- ---- the text
least_none : (a b : Option ℕ) → least a b ≡ None → (a ≡ None) × (b ≡ None)
unfolding least
least_none None b e = (refl, e)
least_none (Some m) None e = apart cc
least_none (Some m) (Some n) e = apart cc

not_refused : (o : Option ℕ) → refused_at WrongText o ≡ ok tt → o ≡ None
not_refused None e = refl
not_refused (Some m) e = apart cc

ended_true : (text : List ℕ) → unended text ≡ None → last_ends text ≡ true
unfolding unended
ended_true text e = by (last_ends text) (λ h. h) (λ h. let f : Some (length text) ≡ None = rw h at e in apart cc)

pub check_fair : (text : List ℕ) → check_text text ≡ ok tt → All Fair (pieces lf text)
unfolding check_text text_fault
check_fair text e =
    let f : text_fault text ≡ None = not_refused (text_fault text) e in
    let g = least_none (bad_byte 0 text) (least (long_line (lines_of text)) (unended text)) f in
    let h = least_none (long_line (lines_of text)) (unended text) g.1 in
    fair_from 0 (whole_pieces text (ended_true text h.1)) (ap clean (joined_pieces lf text) ∙ bad_clean 0 text g.0) h.0

pub fair_check : {ps : List (List ℕ)} → All Fair ps → check_text (in_order ps) ≡ ok tt
unfolding check_text text_fault least unended
fair_check {ps} a =
    let l : long_line (lines_of (in_order ps)) ≡ None = ap (λ (x : List (List ℕ)). long_line (lines_at 0 x)) (pieces_joined (wholes a)) ∙ fair_long 0 a in
    rw (clean_bad 0 (in_order ps) (fair_clean a), l, whole_ends (wholes a))
