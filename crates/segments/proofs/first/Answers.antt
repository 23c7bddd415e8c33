use mathlib.Core.Path.{refl}
use Rattle.segments.proofs.Seeking.{seeks_none, seeks_here, seeks_in, seeks_on, seeks_less}
use Rattle.std.proofs.lemmas.Fn.{says_at}
use Rattle.segments.proofs.first.Goals as goal
use Rattle.segments.proofs.first.Goals.{in_default, in-Some+then-is_sought}

pub search-smaller : goal.search-smaller
search-smaller g c = seeks_less _ _ _ _ c.search.invariant _ c.find_line.ensures _ c.in-Some.is

pub search-preserved : goal.search-preserved
search-preserved g c =
    seeks_on _ _ _ _ c.search.invariant _ c.find_line.ensures _ c.in-Some.is _ c.part.ensures _ (λ p k. k _ _ (says_at g.F.Fn c.is_sought.ensures refl)) c.if-is_sought.false

pub returns-clause-is : goal.returns-clause-is
returns-clause-is g c = elim c.match-find_line.branch [
  | in_default w ↦ seeks_none _ _ _ _ c.search.invariant _ c.find_line.ensures w.in_default.is _ w.found-is
  | in-Some+then-is_sought w ↦ rw w.found-is
      (seeks_here _ _ _ _ c.search.invariant _ c.find_line.ensures _ w.in-Some.is _ w.part.ensures _ (λ p k. k _ _ (says_at g.F.Fn w.is_sought.ensures refl)) w.if-is_sought.true)
]

pub returns-clause-inside : goal.returns-clause-inside
returns-clause-inside g c = elim c.match-find_line.branch [
  | in_default w ↦ rw w.found-is tt
  | in-Some+then-is_sought w ↦ rw w.found-is (seeks_in _ _ _ _ c.search.invariant _ c.find_line.ensures _ w.in-Some.is)
]
