-- Every accepted list of segments can have its blocks replaced: by induction over the segments. Assumes nothing.
use Prim.Native.Nat.{ℕ, zero, suc, ◌+◌}
use native.Mathlib.Omega.{arith}
use mathlib.Core.Path.{◌≡◌, sym, ap, ◌∙◌, subst}
use mathlib.Core.Bool.{true}
use mathlib.Core.List.{List, [], ◌∷◌, ◌++◌, append_assoc}
use lib.ListN.{length, length-append}
use Rattle.laws.proofs.Tests.{apart, impossible}
use Rattle.laws.proofs.Lists.{all_append, all_right, all_tail}
use Rattle.laws.specs.Lists.{All}
use Rattle.refusal.specs.declared.Reason.TheVariants.{NoEnd, NinthSegment}
use Rattle.refusal.specs.Answer.{ok, refused}
use Rattle.lines.specs.Lines.{body_of, ended_by, is_end, opens, Line, lines_at}
use Rattle.lines.specs.declared.End.{End}
use Rattle.codes.specs.Block.{Content}
use Rattle.codes.specs.Written.{in_order}
use Rattle.reading.specs.Placed.{placed_at}
use Rattle.reading.proofs.Placing.{placed_parts}
use Rattle.segments.specs.Search.{from_first}
use Rattle.segments.specs.Segments.{Segment, runs_to, opened, ninth, segments_from}
use Rattle.bulletin.proofs.Saying.{by_then, ok_one}
use Rattle.rereading.proofs.WholeLines.{joined_append, No, pass, pass_to, pass_all, stop, Sought, missing, found, seek}
use Rattle.rereading.proofs.Inert.{InertLine}
use Rattle.rereading.proofs.OldBlock.{past_in, old_block}
use Rattle.rereading.proofs.Fair.{Fair, wholes}
use Rattle.rereading.proofs.Replaced.{inert_no_end, NewBlocks, no_more, one_more, Replaced, replaced_none, replaced_more}

module _ (text : List ℕ) (issue : ℕ) where
  -- what these lines give, which stand behind `front`
  abbrev Replaces : ℕ → List ℕ → List (List ℕ) → Type 0
  Replaces n front ps = (gs : List Segment) (ends : List End) (cs : List Content) (blocks : List (List ℕ)) → All Fair ps → text ≡ front ++ in_order ps
      → segments_from n text issue (lines_at (length front) ps) ≡ ok gs → length cs ≡ length gs → NewBlocks issue ends cs blocks
      → Replaced text issue n (length front) ps gs ends cs blocks

  -- what the lines after a segment give
  abbrev Next : ℕ → Type 0
  Next n = (front : List ℕ) (ps : List (List ℕ)) → Replaces n front ps

  -- ---- no segment
  none_here : (n at : ℕ) (ps : List (List ℕ)) (gs : List Segment) (ends : List End) (cs : List Content) (blocks : List (List ℕ)) → All Fair ps → All (No opens) ps → [] ≡ gs
      → length cs ≡ length gs → NewBlocks issue ends cs blocks → Replaced text issue n at ps gs ends cs blocks
  none_here n at ps [] [] [] [] f a e l no_more = replaced_none text issue n at f a
  none_here n at ps [] [] [] (_ ∷ _) f a e l ws = elim ws [ ]
  none_here n at ps [] (_ ∷ _) [] blocks f a e l ws = elim ws [ ]
  none_here n at ps [] ends (c ∷ cs) blocks f a e l ws = impossible (omega arith)
  none_here n at ps (g ∷ gs) ends cs blocks f a e l ws = apart cc

  -- ---- a segment was found, its block, and the line that ends it
  module _ (n : ℕ) (go : Next n) (front : List ℕ) (fs bs ms : List (List ℕ)) (d : List ℕ) (after : List (List ℕ)) where
    abbrev old : List (List ℕ)
    old = fs ++ (bs ++ (ms ++ (d ∷ after)))

    abbrev start : ℕ
    start = length front + length (in_order fs)

    abbrev behind : ℕ
    behind = start + length (in_order bs)

    abbrev next : ℕ
    next = behind + length (in_order ms ++ d)

    one_here : (g : Segment) (gs : List Segment) (ends : List End) (cs : List Content) (blocks : List (List ℕ)) → All Fair old → text ≡ front ++ in_order old
        → All (No opens) fs → All InertLine bs → All (No is_end) ms → is_end (body_of d) ≡ true → g.start ≡ start → g.block ≡ behind
        → segments_from n text issue (lines_at next after) ≡ ok gs → length cs ≡ length (g ∷ gs) → NewBlocks issue ends cs blocks
        → Replaced text issue (suc n) (length front) old (g ∷ gs) ends cs blocks
    unfolding in_order
    one_here g gs ends cs blocks f t nf ib nm nd es eb e l no_more = impossible (omega arith)
    one_here g gs ends cs blocks f t nf ib nm nd es eb e l (one_more {end} {ends = ends'} {c} {cs = cs'} {b} {bs = blocks'} w ws) =
        let mid₂ : List ℕ = in_order ms ++ d in
        let mid₁ : List ℕ = in_order bs ++ mid₂ in
        let front₂ : List ℕ = front ++ (in_order fs ++ mid₁) in
        let l₂ : length front₂ ≡ next =
        omega (arith, length-append front (in_order fs ++ mid₁), length-append (in_order fs) mid₁, length-append (in_order bs) mid₂) in
        let a₂ : text ≡ front₂ ++ in_order after = t ∙ simp (joined_append, append_assoc) in
        let kept : All Fair (d ∷ after) = all_right ms _ (all_right bs _ (all_right fs _ f)) in
        let r : Replaced text issue n (length front₂) after gs ends' cs' blocks' =
        go front₂ after gs ends' cs' blocks' (all_tail kept) a₂ (ap (λ (k : ℕ). segments_from n text issue (lines_at k after)) l₂ ∙ e) (omega arith) ws in
        replaced_more text issue n front fs bs ms d after g gs end ends' c cs' b blocks' w
        (subst (λ (k : ℕ). Replaced text issue n k after gs ends' cs' blocks') l₂ r) f nf ib nm nd es eb

  -- ---- the lines from the first that opens a block on
  module _ (n : ℕ) (go : Next n) (front : List ℕ) (fs : List (List ℕ)) (p : List ℕ) (xs : List (List ℕ)) (f : All Fair (fs ++ (p ∷ xs)))
      (t : text ≡ front ++ in_order (fs ++ (p ∷ xs))) (nf : All (No opens) fs) (o : opens (body_of p) ≡ true)
      (gs : List Segment) (ends : List End) (cs : List Content) (blocks : List (List ℕ)) (l : length cs ≡ length gs) (ws : NewBlocks issue ends cs blocks) where
    front₁ : List ℕ
    front₁ = front ++ in_order fs

    long₁ : length front₁ ≡ length front + length (in_order fs)
    unfolding front₁
    long₁ = length-append front (in_order fs)

    text₁ : text ≡ front₁ ++ in_order (p ∷ xs)
    unfolding front₁
    text₁ = t ∙ simp (joined_append, append_assoc)

    -- its first line
    abbrev line₁ : Line
    line₁ = record { start = length front₁; body = body_of p; next = length front₁ + length p; ended = ended_by p }

    -- its end
    ended_here : (c : Content) (past : ℕ) (bs rest : List (List ℕ)) → p ∷ xs ≡ bs ++ rest → All InertLine bs
        → past ≡ length front₁ + length (in_order bs) → Sought is_end rest
        → runs_to line₁ past c (segments_from n text issue) (from_first is_end (lines_at (length front₁) (p ∷ xs))) ≡ ok gs
        → Replaced text issue (suc n) (length front) (fs ++ (p ∷ xs)) gs ends cs blocks
    unfolding lines_at in_order
    ended_here c past bs rest q ib eb (missing a) e =
        let z : from_first is_end (lines_at (length front₁) (p ∷ xs)) ≡ [] =
        ap (λ (x : List (List ℕ)). from_first is_end (lines_at (length front₁) x)) q ∙ pass_all is_end (length front₁) (all_append (inert_no_end ib) a) in
        let w : refused NoEnd (length front₁) ≡ ok gs = ap (runs_to line₁ past c (segments_from n text issue)) (sym z) ∙ e in
        apart cc
    ended_here c past bs rest q ib eb (found ms d after er nm nd) e =
        let k : ℕ = length front₁ + length (in_order bs) + length (in_order ms) in
        let g : Segment = record { start = length front₁; block = past; past = k + length d; ended = ended_by p; content = c } in
        let q₂ : p ∷ xs ≡ bs ++ (ms ++ (d ∷ after)) = q ∙ ap (λ (x : List (List ℕ)). bs ++ x) er in
        let z : from_first is_end (lines_at (length front₁) (p ∷ xs)) ≡ lines_at k (d ∷ after) =
        ap (λ (x : List (List ℕ)). from_first is_end (lines_at (length front₁) x)) q₂
        ∙ pass is_end (length front₁) (inert_no_end ib) (ms ++ (d ∷ after))
        ∙ pass is_end (length front₁ + length (in_order bs)) nm (d ∷ after)
        ∙ stop is_end k d after nd in
        let j : length front + length (in_order fs) + length (in_order bs) + length (in_order ms ++ d) ≡ k + length d =
        omega (arith, long₁, length-append (in_order ms) d) in
        by_then (segments_from n text issue (lines_at (k + length d) after)) _ gs
        (λ gs' e' e''.
        let same : g ∷ gs' ≡ gs = ok_one (g ∷ gs') gs e'' in
        subst (λ (x : List (List ℕ)). Replaced text issue (suc n) (length front) (fs ++ x) gs ends cs blocks) (sym q₂)
        (subst (λ (x : List Segment). Replaced text issue (suc n) (length front) (fs ++ (bs ++ (ms ++ (d ∷ after)))) x ends cs blocks) same
        (one_here n go front fs bs ms d after g gs' ends cs blocks
        (subst (λ (x : List (List ℕ)). All Fair (fs ++ x)) q₂ f) (t ∙ ap (λ (x : List (List ℕ)). front ++ in_order (fs ++ x)) q₂)
        nf ib nm nd long₁ (eb ∙ omega (arith, long₁))
        (ap (λ (i : ℕ). segments_from n text issue (lines_at i after)) j ∙ e') (l ∙ ap (λ (x : List Segment). length x) (sym same)) ws)))
        (ap (runs_to line₁ past c (segments_from n text issue)) (sym z) ∙ e)

    more_here : segments_from (suc n) text issue (lines_at (length front) (fs ++ (p ∷ xs))) ≡ ok gs
        → Replaced text issue (suc n) (length front) (fs ++ (p ∷ xs)) gs ends cs blocks
    unfolding segments_from lines_at
    more_here e =
        let lines : from_first opens (lines_at (length front) (fs ++ (p ∷ xs))) ≡ lines_at (length front₁) (p ∷ xs) =
        pass_to opens (length front) (length front₁) nf (p ∷ xs) long₁ ∙ stop opens (length front₁) p xs o in
        by_then (placed_at text issue (length front₁)) _ gs
        (λ c ec rest.
        let b = old_block text front₁ (wholes (all_right fs (p ∷ xs) f)) text₁ c.at (placed_parts text issue (length front₁) c ec).purge in
        ended_here c.content (past_in c.at (lines_at (length front₁) (p ∷ xs))) b.lines b.rest b.are b.inert b.past
        (seek is_end b.rest) rest)
        (ap (opened text issue (segments_from n text issue)) (sym lines) ∙ e)

  -- ---- no line is left that opens a block
  none_left : (n at : ℕ) {ps : List (List ℕ)} (gs : List Segment) → All (No opens) ps → segments_from n text issue (lines_at at ps) ≡ ok gs → [] ≡ gs
  unfolding segments_from
  none_left zero at gs a e = ok_one [] gs (ap ninth (sym (pass_all opens at a)) ∙ e)
  none_left (suc n) at gs a e = ok_one [] gs (ap (opened text issue (segments_from n text issue)) (sym (pass_all opens at a)) ∙ e)

  -- and none may be, where no segment may
  ninth_no : (at : ℕ) (fs : List (List ℕ)) (p : List ℕ) (xs : List (List ℕ)) (gs : List Segment) → All (No opens) fs → opens (body_of p) ≡ true
      → segments_from zero text issue (lines_at at (fs ++ (p ∷ xs))) ≡ ok gs → ⊥
  unfolding segments_from lines_at
  ninth_no at fs p xs gs nf o e =
      let k : ℕ = at + length (in_order fs) in
      let w : refused NinthSegment k ≡ ok gs = ap ninth (sym (pass opens at nf (p ∷ xs) ∙ stop opens k p xs o)) ∙ e in
      apart cc

  -- ---- by the first line that opens a block, if there is one
  turn : (n : ℕ) (front : List ℕ) (ps : List (List ℕ))
      → ((fs : List (List ℕ)) (p : List ℕ) (xs : List (List ℕ)) → All (No opens) fs → opens (body_of p) ≡ true → Replaces n front (fs ++ (p ∷ xs)))
      → Sought opens ps → Replaces n front ps
  turn n front ps h (missing a) gs ends cs blocks f t e l ws = none_here n (length front) ps gs ends cs blocks f a (none_left n (length front) gs a e) l ws
  turn n front ps h (found fs p xs q nf o) gs ends cs blocks f t e l ws = subst (Replaces n front) (sym q) (h fs p xs nf o) gs ends cs blocks f t e l ws

  pub replacing : (n : ℕ) → Next n
  replacing zero front ps = turn zero front ps (λ fs p xs nf o gs ends cs blocks f t e l ws. impossible (ninth_no (length front) fs p xs gs nf o e)) (seek opens ps)
  replacing (suc n) front ps =
      turn (suc n) front ps (λ fs p xs nf o gs ends cs blocks f t e l ws. more_here n (replacing n) front fs p xs f t nf o gs ends cs blocks l ws e) (seek opens ps)
