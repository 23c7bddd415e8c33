-- The lines below line 2 with their blocks replaced: the same MND block but for inert lines, and the segments with the new contents. Assumes nothing.
use Prim.Native.Nat.{ℕ, ◌+◌, ◌≤◌}
use native.Mathlib.Nat.{add-zero}
use native.Mathlib.Omega.{arith}
use mathlib.Core.Path.{◌≡◌, refl, sym, ap, ◌∙◌, subst}
use mathlib.Core.Bool.{Bool, true}
use mathlib.Core.List.{List, [], ◌∷◌, ◌++◌, map, append_assoc}
use lib.ListN.{length, length-append, length-map}
use Rattle.laws.proofs.Tests.{by, apart, impossible}
use Rattle.laws.proofs.Lists.{all_append, all_left, all_right, all_head, all_tail}
use Rattle.laws.specs.Lists.{All, all_nil, all_cons}
use Rattle.refusal.specs.declared.Reason.TheVariants.{WrongBlock}
use Rattle.refusal.specs.Answer.{Answer, ok, refused, and_then}
use Rattle.lines.specs.Lines.{body_of, blank, opens, Line, lines_at}
use Rattle.lines.specs.declared.End.{End}
use Rattle.codes.specs.Block.{Content}
use Rattle.codes.specs.Written.{in_order}
use Rattle.segments.specs.Search.{from_first, lines_after, after_first, closes}
use Rattle.segments.specs.Segments.{Segment, segments_from, most}
use Rattle.bulletin.specs.Starts.{from_line3, first_lines, segments_of, one_or_more}
use Rattle.bulletin.proofs.Saying.{by_then, ok_one}
use Rattle.making.proofs.Made.{some_same}
use Rattle.forms.specs.Edited.{edited, ends_in}
use Rattle.rereading.specs.Demand.{block_text}
use Rattle.rereading.proofs.WholeLines.{joined_append, No, pass, pass_all, stop, Sought, missing, found, seek}
use Rattle.rereading.proofs.Inert.{opens_inert}
use Rattle.rereading.proofs.Fair.{Fair}
use Rattle.rereading.proofs.Alike.{Alike, both, alike_front}
use Rattle.rereading.proofs.Ordered.{Ordered}
use Rattle.rereading.proofs.Replaced.{FirstOpens, NewBlocks, Listed, Replaced}
use Rattle.rereading.proofs.Replacing.{replacing}

-- ---- one segment or more
some_is : (end : ℕ) (gs : List Segment) → 1 ≤ length gs → one_or_more end gs ≡ ok gs
some_is end [] h = impossible (omega arith)
some_is end (g ∷ gs) h = refl

-- ---- after the first line that passes a test
after_found : (p : List ℕ → Bool) (at : ℕ) {fs : List (List ℕ)} (d : List ℕ) (xs : List (List ℕ)) → All (No p) fs → p (body_of d) ≡ true
    → after_first p (lines_at at (fs ++ (d ∷ xs))) ≡ lines_at (at + length (in_order fs) + length d) xs
unfolding lines_at
after_found p at {fs} d xs a h = ap lines_after (pass p at a (d ∷ xs) ∙ stop p (at + length (in_order fs)) d xs h)

-- ---- what is below line 2
module _ (issue : ℕ) (one two : List ℕ) where
  -- the lines of a text that starts with these two
  abbrev below : List (List ℕ) → List Line
  below ps = lines_at 0 (one ∷ two ∷ ps)

  third : ℕ
  third = 0 + length one + length two

  -- "If line 3 is not blank it must open the first segment", or else the lines behind the MND block
  lines_is : (end : ℕ) (ps : List (List ℕ))
      → first_lines end (below ps) ≡ from_line3 (after_first closes (after_first blank (lines_at third ps))) end (lines_at third ps)
  unfolding first_lines lines_at third
  lines_is end ps = refl

  pub record Below (text : List ℕ) (ps : List (List ℕ)) (gs : List Segment) (ends : List End) (cs : List Content) (blocks : List (List ℕ)) : Type 0 where
    pub lines : List (List ℕ)
    pub fair : All Fair lines
    pub alike : Alike ps lines
    pub ordered : Ordered 0 gs
    pub are : edited text gs blocks ≡ in_order (one ∷ two ∷ lines)
    pub segments : List Segment
    pub listed : segments_of (in_order (one ∷ two ∷ lines)) issue (below lines) ≡ ok segments
    pub ended : ends_in segments ≡ ends
    pub contents : map (λ (g : Segment). g.content) segments ≡ cs
    pub stand : map (block_text (in_order (one ∷ two ∷ lines))) segments ≡ blocks

  -- the segments, from where they start
  listing : (text : List ℕ) (qs : List (List ℕ)) (ls : List Line) (ends : List End) (cs : List Content) (blocks : List (List ℕ)) → first_lines (length text) (below qs) ≡ ok ls
      → 1 ≤ length cs → (r : Listed most text issue ls ends cs blocks) → segments_of text issue (below qs) ≡ ok r.segments
  unfolding segments_of and_then
  listing text qs ls ends cs blocks f h r =
      let n : length r.segments ≡ length cs =
      sym (length-map r.segments (λ (g : Segment). g.content)) ∙ ap (λ (l : List Content). length l) r.contents in
      ap (λ (x : Answer (List Line)). and_then x (λ ls. and_then (segments_from most text issue ls) (one_or_more (length text)))) f
      ∙ ap (λ (x : Answer (List Segment)). and_then x (one_or_more (length text))) r.listed
      ∙ some_is (length text) r.segments (omega arith)

  module _ (text : List ℕ) (gs : List Segment) (ends : List End) (cs : List Content) (blocks : List (List ℕ)) (many : 1 ≤ length gs) (l : length cs ≡ length gs)
      (ws : NewBlocks issue ends cs blocks) where
    -- ---- from where the segments start on, behind `front`
    module _ (front : List ℕ) (xs : List (List ℕ)) (fair : All Fair xs) (a : text ≡ front ++ in_order xs)
        (e : segments_from most text issue (lines_at (length front) xs) ≡ ok gs) where
      behind : Replaced text issue most (length front) xs gs ends cs blocks
      behind = replacing text issue most front xs gs ends cs blocks fair a e l ws

      -- the lines ps, which end with xs, become qs
      whole : (ps qs : List (List ℕ)) → All Fair qs → Alike ps qs → in_order (one ∷ two ∷ qs) ≡ front ++ in_order behind.lines
          → first_lines (length (in_order (one ∷ two ∷ qs))) (below qs) ≡ ok (lines_at (length front) behind.lines) → Below text ps gs ends cs blocks
      whole ps qs f alike t first =
          let back = behind.back (in_order (one ∷ two ∷ qs)) front t in
          record {
            lines = qs;
            fair = f;
            alike = alike;
            ordered = behind.ordered 0 (omega arith);
            are = behind.cut [] front a (omega arith) ∙ sym t;
            segments = back.segments;
            listed = listing (in_order (one ∷ two ∷ qs)) qs (lines_at (length front) behind.lines) ends cs blocks first (omega arith) back;
            ended = back.ended;
            contents = back.contents;
            stand = back.stand;
          }

    -- ---- line 3 is blank, and the MND block is closed by the line d
    module _ (p : List ℕ) (fs : List (List ℕ)) (d : List ℕ) (xs : List (List ℕ)) (f : All Fair (p ∷ (fs ++ (d ∷ xs))))
        (t : text ≡ in_order (one ∷ two ∷ p ∷ (fs ++ (d ∷ xs)))) (b : blank (body_of p) ≡ true) (nf : All (No closes) fs) (nd : closes (body_of d) ≡ true) where
      front : List ℕ
      front = one ++ (two ++ (p ++ (in_order fs ++ d)))

      past : ℕ
      past = third + length p + length (in_order fs) + length d

      front_long : length front ≡ past
      unfolding front past third
      front_long =
          let four : List ℕ = in_order fs ++ d in
          omega (arith, length-append one (two ++ (p ++ four)), length-append two (p ++ four), length-append p four, length-append (in_order fs) d)

      past_mnd_lem : (ys : List (List ℕ)) → after_first closes (after_first blank (lines_at third (p ∷ (fs ++ (d ∷ ys))))) ≡ lines_at past ys
      unfolding past lines_at in_order
      past_mnd_lem ys =
          ap (after_first closes) (after_found blank third p (fs ++ (d ∷ ys)) all_nil b ∙ rw add-zero)
          ∙ after_found closes (third + length p) d ys nf nd

      blank_lines : (end : ℕ) (ys : List (List ℕ)) → first_lines end (below (p ∷ (fs ++ (d ∷ ys)))) ≡ ok (lines_at (length front) ys)
      unfolding lines_at
      blank_lines end ys = lines_is end (p ∷ (fs ++ (d ∷ ys))) ∙ rw b (ap ok (past_mnd_lem ys ∙ ap (λ (k : ℕ). lines_at k ys) (sym front_long)))

      front_joined : (ys : List (List ℕ)) → in_order (one ∷ two ∷ p ∷ (fs ++ (d ∷ ys))) ≡ front ++ in_order ys
      unfolding front in_order
      front_joined ys = simp (joined_append, append_assoc)

      blank_below : segments_from most text issue (lines_at past xs) ≡ ok gs → Below text (p ∷ (fs ++ (d ∷ xs))) gs ends cs blocks
      blank_below e =
          let kept : All Fair (d ∷ xs) = all_right fs (d ∷ xs) (all_tail f) in
          let a : text ≡ front ++ in_order xs = t ∙ front_joined xs in
          let s : segments_from most text issue (lines_at (length front) xs) ≡ ok gs =
          ap (λ (k : ℕ). segments_from most text issue (lines_at k xs)) front_long ∙ e in
          let r = behind front xs (all_tail kept) a s in
          whole front xs (all_tail kept) a s (p ∷ (fs ++ (d ∷ xs))) (p ∷ (fs ++ (d ∷ r.lines)))
          (all_cons (all_head f) (all_append (all_left fs (d ∷ xs) (all_tail f)) (all_cons (all_head kept) r.fair)))
          (both (alike_front fs (both r.alike))) (front_joined r.lines) (blank_lines _ r.lines)

    -- ---- line 3 opens the first segment
    abbrev front₂ : List ℕ
    front₂ = one ++ two

    long₂ : length front₂ ≡ third
    unfolding third
    long₂ = omega (arith, length-append one two)

    open_lines : (end : ℕ) (qs : List (List ℕ)) → FirstOpens qs → first_lines end (below qs) ≡ ok (lines_at (length front₂) qs)
    unfolding lines_at
    open_lines end [] o = impossible o
    open_lines end (q ∷ qs) o =
        lines_is end (q ∷ qs) ∙ rw ((opens_inert (body_of q) o).not_blank, o) (ap (λ (k : ℕ). ok (lines_at k (q ∷ qs))) (sym long₂))

    two_joined : (ps : List (List ℕ)) → in_order (one ∷ two ∷ ps) ≡ front₂ ++ in_order ps
    unfolding in_order
    two_joined ps = simp append_assoc

    open_below : (ps : List (List ℕ)) → All Fair ps → text ≡ in_order (one ∷ two ∷ ps) → FirstOpens ps → segments_from most text issue (lines_at third ps) ≡ ok gs
        → Below text ps gs ends cs blocks
    open_below ps f t o e =
        let a : text ≡ front₂ ++ in_order ps = t ∙ two_joined ps in
        let s : segments_from most text issue (lines_at (length front₂) ps) ≡ ok gs = ap (λ (k : ℕ). segments_from most text issue (lines_at k ps)) long₂ ∙ e in
        let r = behind front₂ ps f a s in
        whole front₂ ps f a s ps r.lines r.fair r.alike (two_joined r.lines) (open_lines _ r.lines (r.first o))

    -- ---- line 3
    -- where no line closes the MND block, no segment follows
    closed_below : (p : List ℕ) (ps : List (List ℕ)) → All Fair (p ∷ ps) → text ≡ in_order (one ∷ two ∷ p ∷ ps) → blank (body_of p) ≡ true → Sought closes ps
        → segments_from most text issue (after_first closes (lines_at (third + length p) ps)) ≡ ok gs → Below text (p ∷ ps) gs ends cs blocks
    unfolding segments_from from_first past
    closed_below p ps f t b (missing a) e =
        let n : ok [] ≡ ok gs = ap (λ (ls : List Line). segments_from most text issue (lines_after ls)) (sym (pass_all closes (third + length p) a)) ∙ e in
        let z : [] ≡ gs = ok_one [] gs n in
        impossible (omega (arith, ap (λ (x : List Segment). length x) z))
    closed_below p ps f t b (found fs d xs q nf nd) e =
        let after : after_first closes (lines_at (third + length p) ps) ≡ lines_at (third + length p + length (in_order fs) + length d) xs =
        ap (λ (x : List (List ℕ)). after_first closes (lines_at (third + length p) x)) q ∙ after_found closes (third + length p) d xs nf nd in
        subst (λ (x : List (List ℕ)). Below text (p ∷ x) gs ends cs blocks) (sym q)
        (blank_below p fs d xs (subst (λ (x : List (List ℕ)). All Fair (p ∷ x)) q f) (t ∙ ap (λ (x : List (List ℕ)). in_order (one ∷ two ∷ p ∷ x)) q) b nf nd
        (ap (segments_from most text issue) (sym after) ∙ e))

    third_below : (ps : List (List ℕ)) → All Fair ps → text ≡ in_order (one ∷ two ∷ ps) → (ls : List Line)
        → from_line3 (after_first closes (after_first blank (lines_at third ps))) (length text) (lines_at third ps) ≡ ok ls
        → segments_from most text issue ls ≡ ok gs → Below text ps gs ends cs blocks
    unfolding lines_at from_first
    third_below [] f t ls e h = apart cc
    third_below (p ∷ ps) f t ls e h =
        by (blank (body_of p))
        (λ b. closed_below p ps f t b (seek closes ps) (ap (segments_from most text issue) (ok_one _ ls (rw b at e)) ∙ h))
        λ b. by (opens (body_of p))
        (λ o. open_below (p ∷ ps) f t o (ap (segments_from most text issue) (ok_one _ ls (rw (b, o) at e)) ∙ h))
        λ o. let w : refused WrongBlock third ≡ ok ls = rw (b, o) at e in apart cc

  pub below_edited : (text : List ℕ) (ps : List (List ℕ)) (gs : List Segment) (ends : List End) (cs : List Content) (blocks : List (List ℕ)) → All Fair ps
      → text ≡ in_order (one ∷ two ∷ ps) → segments_of text issue (below ps) ≡ ok gs → length cs ≡ length gs → NewBlocks issue ends cs blocks
      → Below text ps gs ends cs blocks
  unfolding segments_of
  below_edited text ps gs ends cs blocks f t e l ws =
      by_then (first_lines (length text) (below ps)) _ gs
      (λ ls first. by_then (segments_from most text issue ls) _ gs λ hs h s.
      let b = some_same (length text) hs gs s in
      third_below text gs ends cs blocks b.one l ws ps f t ls (sym (lines_is (length text) ps) ∙ first) (h ∙ ap ok b.same))
      e
