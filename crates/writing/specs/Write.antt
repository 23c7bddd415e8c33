-- Document 01, "Write": the rule of the call on what it is handed, for each end that the lines of the block may have.
use Rattle.std.specs.Prelude.{ℕ, ◌≡◌, List, ◌++◌, cond, length, drop, leb}
use Rattle.std.specs.Prelude.{Option, None, Some, Result}
use Rattle.refusal.specs.declared.Reason.TheVariants.{OutputShort, OutOfRange}
use Rattle.refusal.specs.Answer.{Answer, ok, no, refused, and_then, answer_of}
use Rattle.refusal.specs.declared.Refusal.{Refusal}
use Rattle.lines.specs.declared.End.{End}
use Rattle.lines.specs.declared.End.TheVariants.{CrCrLf}
use Rattle.calendar.specs.Calendar.{date_of}
use Rattle.calendar.specs.declared.Date.{Date}
use Rattle.codes.specs.Places.{is_set}
use Rattle.codes.specs.Written.{written}

-- the block of these places and this purge minute, its lines ending so: 24 for what is no segment's content
abbrev pub dated_block : End → List ℕ → Option Date → Answer (List ℕ)
dated_block end ps None = refused OutOfRange 0
dated_block end ps (Some d) = ok (written end ps d.stamp)

unfoldable pub written_block : End → List ℕ → ℕ → Answer (List ℕ)
written_block end ps minute = cond (is_set ps) (dated_block end ps (date_of minute)) (refused OutOfRange 0)

-- "output shorter than the block"
unfoldable pub fitting : ℕ → List ℕ → Answer (List ℕ)
fitting room block = cond (leb (length block) room) (ok block) (refused OutputShort 0)

unfoldable pub write_rule : End → ℕ → List ℕ → ℕ → Answer (List ℕ)
write_rule end room ps minute = and_then (written_block end ps minute) (fitting room)

-- "its length is answered and later bytes stay"; a refusal "changes no lent byte"
abbrev pub length_of : Answer (List ℕ) → Answer ℕ
length_of (ok block) = ok (length block)
length_of (no number place) = no number place

abbrev pub output_of : Answer (List ℕ) → List ℕ → List ℕ
output_of (ok block) out = block ++ drop (length block) out
output_of (no number place) out = out

-- the promise of a block whose lines end so: the answer, and the output afterwards
pub record WritesEnded (end : End) (before after places : List ℕ) (minute : ℕ) (r : Result ℕ Refusal) : Type 0 where
  pub answer : answer_of r ≡ length_of (write_rule end (length before) places minute)
  pub output : after ≡ output_of (write_rule end (length before) places minute) before

-- the promise of the write call: "Lines end CR CR LF"
abbrev pub Writes : List ℕ → List ℕ → List ℕ → ℕ → Result ℕ Refusal → Type 0
Writes before after places minute r = WritesEnded CrCrLf before after places minute r
