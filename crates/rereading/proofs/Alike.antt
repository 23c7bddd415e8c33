-- Two texts whose lines are the same but for inert ones: the storm is the same. Assumes nothing.
use Prim.Native.Nat.{ℕ, ◌+◌}
use mathlib.Core.Path.{◌≡◌, sym, ap, ◌∙◌}
use mathlib.Core.Bool.{true, false}
use mathlib.Core.List.{List, [], ◌∷◌, ◌++◌}
use Rattle.std.specs.Prelude.{Option}
use lib.ListN.{length}
use Rattle.laws.proofs.Tests.{by, apart}
use Rattle.laws.specs.Lists.{All, all_nil, all_cons}
use Rattle.refusal.specs.Answer.{Answer, ok}
use Rattle.lines.specs.Lines.{body_of, ended_by, blank, Line, lines_at}
use Rattle.heading.specs.Storm as storm
use Rattle.heading.specs.Storm.{is_office, StormName, StormSaid, storm_of}
use Rattle.segments.specs.Search.{from_first, up_to_first, after_first, closes}
use Rattle.bulletin.specs.Mnd.{office_storm, storm_said}
use Rattle.rereading.proofs.Inert.{InertLine, inert_open}

-- ---- the same lines, but for inert ones on either side
pub data Alike : List (List ℕ) → List (List ℕ) → Type 0 where
  nothing : Alike [] []
  both : {p : List ℕ} {ps qs : List (List ℕ)} → Alike ps qs → Alike (p ∷ ps) (p ∷ qs)
  left : {p : List ℕ} {ps qs : List (List ℕ)} → InertLine p → Alike ps qs → Alike (p ∷ ps) qs
  right : {q : List ℕ} {ps qs : List (List ℕ)} → InertLine q → Alike ps qs → Alike ps (q ∷ qs)

pub alike_self : (ps : List (List ℕ)) → Alike ps ps
alike_self [] = nothing
alike_self (p ∷ ps) = both (alike_self ps)

pub alike_front : (fs : List (List ℕ)) {ps qs : List (List ℕ)} → Alike ps qs → Alike (fs ++ ps) (fs ++ qs)
alike_front [] a = a
alike_front (f ∷ fs) a = both (alike_front fs a)

pub alike_left : {bs : List (List ℕ)} → All InertLine bs → {ps qs : List (List ℕ)} → Alike ps qs → Alike (bs ++ ps) qs
alike_left all_nil a = a
alike_left (all_cons i is) a = left i (alike_left is a)

pub alike_right : {bs : List (List ℕ)} → All InertLine bs → {ps qs : List (List ℕ)} → Alike ps qs → Alike ps (bs ++ qs)
alike_right all_nil a = a
alike_right (all_cons i is) a = right i (alike_right is a)

-- ---- the office line is the same
abbrev office : List Line → Answer (Option StormName)
office ls = office_storm (from_first is_office (up_to_first closes ls))

-- a storm that is accepted does not turn on where its line stands
said_same : (l m : Line) (x : StormSaid) (s : Option StormName) → storm_said l x ≡ ok s → storm_said m x ≡ ok s
said_same l m storm.no_storm s e = e
said_same l m (storm.storm name) s e = e
said_same l m storm.refused_storm s e = apart cc

-- a line that is no office line and closes nothing is passed over
office_on : (at : ℕ) (p : List ℕ) (ps : List (List ℕ)) → closes (body_of p) ≡ false → is_office (body_of p) ≡ false
    → office (lines_at at (p ∷ ps)) ≡ office (lines_at (at + length p) ps)
unfolding lines_at up_to_first from_first
office_on at p ps c o = rw c (rw o)

office_end : (at : ℕ) (p : List ℕ) (ps : List (List ℕ)) → closes (body_of p) ≡ true → office (lines_at at (p ∷ ps)) ≡ office_storm []
unfolding lines_at up_to_first from_first
office_end at p ps c = rw c

office_here : (at : ℕ) (p : List ℕ) (ps : List (List ℕ)) → closes (body_of p) ≡ false → is_office (body_of p) ≡ true
    → office (lines_at at (p ∷ ps)) ≡ storm_said (record { start = at; body = body_of p; next = at + length p; ended = ended_by p }) (storm_of (body_of p))
unfolding lines_at up_to_first from_first
office_here at p ps c o = rw c (rw o)

office_inert : (at : ℕ) (p : List ℕ) (ps : List (List ℕ)) → InertLine p → office (lines_at at (p ∷ ps)) ≡ office (lines_at (at + length p) ps)
office_inert at p ps i = office_on at p ps (inert_open (body_of p) i) i.not_office

office_same : (s : Option StormName) (at k : ℕ) {ps qs : List (List ℕ)} → Alike ps qs → office (lines_at at ps) ≡ ok s → office (lines_at k qs) ≡ ok s
unfolding lines_at
office_same s at k nothing e = e
office_same s at k (both {p} {ps} {qs} a) e =
    by (closes (body_of p))
    (λ c. office_end k p qs c ∙ sym (office_end at p ps c) ∙ e)
    λ c. by (is_office (body_of p))
    (λ o. office_here k p qs c o ∙ said_same (record { start = at; body = body_of p; next = at + length p; ended = ended_by p }) (record { start = k; body = body_of p; next = k + length p; ended = ended_by p }) (storm_of (body_of p)) s (sym (office_here at p ps c o) ∙ e))
    λ o. office_on k p qs c o ∙ office_same s (at + length p) (k + length p) a (sym (office_on at p ps c o) ∙ e)
office_same s at k (left {p} {ps} i a) e = office_same s (at + length p) k a (sym (office_inert at p ps i) ∙ e)
office_same s at k (right {q} {qs = qs} i a) e = office_inert k q qs i ∙ office_same s at (k + length q) a e

-- ---- below the first blank line
below_on : (at : ℕ) (p : List ℕ) (ps : List (List ℕ)) → blank (body_of p) ≡ false
    → after_first blank (lines_at at (p ∷ ps)) ≡ after_first blank (lines_at (at + length p) ps)
unfolding lines_at from_first
below_on at p ps b = rw b

below_here : (at : ℕ) (p : List ℕ) (ps : List (List ℕ)) → blank (body_of p) ≡ true → after_first blank (lines_at at (p ∷ ps)) ≡ lines_at (at + length p) ps
unfolding lines_at from_first
below_here at p ps b = rw b

pub storm_same : (s : Option StormName) (at k : ℕ) {ps qs : List (List ℕ)} → Alike ps qs
    → office (after_first blank (lines_at at ps)) ≡ ok s → office (after_first blank (lines_at k qs)) ≡ ok s
unfolding lines_at from_first
storm_same s at k nothing e = e
storm_same s at k (both {p} {ps} {qs} a) e =
    by (blank (body_of p))
    (λ b. ap office (below_here k p qs b) ∙ office_same s (at + length p) (k + length p) a (ap office (sym (below_here at p ps b)) ∙ e))
    λ b. ap office (below_on k p qs b) ∙ storm_same s (at + length p) (k + length p) a (ap office (sym (below_on at p ps b)) ∙ e)
storm_same s at k (left {p} {ps} i a) e = storm_same s (at + length p) k a (ap office (sym (below_on at p ps i.not_blank)) ∙ e)
storm_same s at k (right {q} {qs = qs} i a) e = ap office (below_on k q qs i.not_blank) ∙ storm_same s at (k + length q) a e
