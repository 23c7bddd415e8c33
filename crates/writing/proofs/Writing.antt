-- A block that is written: the call's answer and its output, for each way out. Assumes nothing.
use Rattle.std.specs.Prelude.{Option, None, Some}
use Prim.Native.Nat.{ℕ, ◌≤◌, ◌<◌}
use native.Mathlib.Omega.{arith}
use mathlib.Core.Path.{◌≡◌, sym, ap, ◌∙◌}
use mathlib.Core.List.{List, ◌++◌}
use Rattle.std.specs.Prelude.{Err, Ok}
use mathlib.Core.Bool.{Bool, true, false}
use lib.ListN.{length, take, drop}
use lib.Seq.{take_at}
use borrow.Author.Tests.{le-leb, lt-leb}
use Rattle.refusal.specs.declared.Reason.TheVariants.{OutputShort, OutOfRange}
use Rattle.refusal.specs.Answer.{Answer, ok, refused, refusal_for, and_then}
use Rattle.refusal.specs.declared.Reason.{Reason}
use Rattle.refusal.specs.declared.Refusal.{Refusal}
use Rattle.lines.specs.declared.End.{End}
use Rattle.calendar.specs.Calendar.{is_time, date_of}
use Rattle.calendar.specs.declared.Date.{Date}
use Rattle.calendar.proofs.Laws.{date_time}
use Rattle.codes.specs.Written.{written}
use Rattle.writing.specs.Write.{dated_block, written_block, fitting, write_rule, WritesEnded}
use Rattle.codes.specs.Places.{is_set}
use Rattle.writing.specs.Pen.{Composed}

-- a rule that refuses
refuses : (end : End) (out places : List ℕ) (minute : ℕ) (reason : Reason) → write_rule end (length out) places minute ≡ refused reason 0
    → (r : Refusal) → r ≡ refusal_for reason 0 → WritesEnded end out out places minute (Err r)
refuses end out places minute reason e r q = record { answer = rw (q, e); output = rw e }

module _ (end : End) (out places : List ℕ) (minute : ℕ) (t : Bool) (et : t ≡ is_set places) where
  pub writes_no_set : t ≡ false → (r : Refusal) → r ≡ refusal_for OutOfRange 0 → WritesEnded end out out places minute (Err r)
  unfolding write_rule written_block and_then
  writes_no_set n = refuses end out places minute OutOfRange (rw (← et, n))

  module _ (y : t ≡ true) (d : Option Date) (ed : d ≡ date_of minute) where
    block_is : written_block end places minute ≡ dated_block end places d
    unfolding written_block
    block_is = rw (← et, y, ← ed)

    pub writes_no_date : d ≡ None → (r : Refusal) → r ≡ refusal_for OutOfRange 0 → WritesEnded end out out places minute (Err r)
    unfolding write_rule and_then
    writes_no_date n = refuses end out places minute OutOfRange (ap (λ (a : Answer (List ℕ)). and_then a (fitting (length out))) (block_is ∙ ap (λ (x : Option Date). dated_block end places x) n))

    module _ (date : Date) (q : d ≡ Some date) where
      pub writes_time : is_time date.stamp ≡ true
      writes_time = date_time date minute (sym ed ∙ q)

      module _ (n : ℕ) (before block : List ℕ) (c : Composed before block (written end places date.stamp) n) where
        rule_is : write_rule end (length out) places minute ≡ fitting (length out) (written end places date.stamp)
        unfolding write_rule and_then
        rule_is = ap (λ (a : Answer (List ℕ)). and_then a (fitting (length out))) (block_is ∙ ap (λ (x : Option Date). dated_block end places x) q)

        pub writes_short : length out < n → (r : Refusal) → r ≡ refusal_for OutputShort 0 → WritesEnded end out out places minute (Err r)
        unfolding fitting
        writes_short h = refuses end out places minute OutputShort (rule_is ∙ rw (lt-leb (length (written end places date.stamp)) (length out) (omega (arith, c.long))))

        pub writes_whole : n ≤ length out → (front : List ℕ) → front ≡ take n block → WritesEnded end out (front ++ drop n out) places minute (Ok n)
        unfolding fitting
        writes_whole h front ef =
            let text : List ℕ = written end places date.stamp in
            let rule : write_rule end (length out) places minute ≡ ok text = rule_is ∙ rw (le-leb (length text) (length out) (omega (arith, c.long))) in
            let is : front ≡ text = ef ∙ ap (take n) c.bytes ∙ take_at text (drop (length text) before) n (sym c.long) in
            record { answer = rw rule (ap ok c.long); output = rw rule (rw (is, c.long)) }
