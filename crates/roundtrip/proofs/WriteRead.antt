-- Demand 2, of the write call's rule: the block that it gives reads back to the same set and purge, also of what was read. Assumes nothing.
use Prim.Native.Nat.{ℕ}
use mathlib.Core.Path.{◌≡◌}
use mathlib.Core.List.{List}
use mathlib.Core.Bool.{true}
use Rattle.refusal.specs.Answer.{ok}
use Rattle.lines.specs.declared.End.{End}
use Rattle.calendar.specs.Purge.{is_purge}
use Rattle.calendar.proofs.Laws.{purge_own, purge_is_lem}
use Rattle.codes.specs.Places.{is_set}
use Rattle.codes.specs.Block.{Content, content_at}
use Rattle.codes.specs.Written.{written}
use Rattle.codes.proofs.Sets.{set_true, set_is}
use Rattle.writing.specs.Write.{written_block}
use Rattle.roundtrip.specs.Round.{ReadsBack, Opens}
use Rattle.lines.specs.Lines.{ends_line}
use Rattle.roundtrip.proofs.Opened.{opened_long}
use Rattle.roundtrip.proofs.RoundTrip.{content_round_trip, accepted}

-- Every set of 1 to 120 places and every minute that is a purge under an issue is written to one block, which reads back to both under that issue, whichever of the three ends its lines have.
pub write_read : (end : End) → ends_line end ≡ true → (issue : ℕ) (c : Content) → is_set c.places ≡ true → is_purge issue c.purge ≡ true → ReadsBack end issue c
unfolding written_block
write_read end so issue c s p =
    let d = purge_own issue c.purge p in
    let set = set_true c.places s in
    record {
      block = written end c.places d.date.stamp;
      given = rw (s, d.dated);
      back = λ front rest. content_round_trip end so front c.places rest issue c.purge d.date.stamp set.up set.few d.given;
    }

-- The content that is read where a block opens is a set of places and a purge minute under the issue,
pub record Writable (issue : ℕ) (c : Content) : Type 0 where
  pub set : is_set c.places ≡ true
  pub purge : is_purge issue c.purge ≡ true

pub read_writable : (text : List ℕ) (issue start : ℕ) (c : Content) → Opens text start → content_at text issue start ≡ ok c → Writable issue c
read_writable text issue start c o e =
    let a = accepted text issue start c e in
    let one = opened_long text start c.places a.stamp a.purge_at_lem o a.read in
    record { set = set_is c.places (record { one = one; few = a.few; up = a.ascending }); purge = purge_is_lem issue a.stamp c.purge a.gives }

-- and so its written block reads back to it.
pub read_again : (end : End) → ends_line end ≡ true → (text : List ℕ) (issue start : ℕ) (c : Content) → Opens text start → content_at text issue start ≡ ok c → ReadsBack end issue c
read_again end so text issue start c o e = let w = read_writable text issue start c o e in write_read end so issue c w.set w.purge
