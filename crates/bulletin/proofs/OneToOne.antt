-- The promises of reading determine the answer, its array of segments and the lent numbers. Assumes nothing.
use Prim.Native.Nat.{ℕ}
use mathlib.Core.Path.{◌≡◌, sym, ◌∙◌}
use mathlib.Core.List.{List}
use Rattle.std.specs.Prelude.{Result, Ok}
use Rattle.laws.proofs.One.{Same}
use Rattle.refusal.specs.declared.Refusal.{Refusal}
use Rattle.refusal.proofs.OneToOne.{result_by_same}
use Rattle.heading.proofs.OneToOne.{heading_one, storm_one}
use Rattle.segments.specs.Seen.{segments_held}
use Rattle.segments.specs.declared.Segment.{Segment}
use Rattle.bulletin.specs.Report.{report_of, report_said, Reads}
use Rattle.bulletin.specs.Kept.{KeepsPlaces}
use Rattle.bulletin.specs.declared.Head.{Head}
use Rattle.bulletin.specs.declared.Bulletin.{Bulletin}

-- ---- two heads of which one report is given are one
head_one : (h k : Head) (gs hs : List Segment) → report_of h gs ≡ report_of k hs → h ≡ k
head_one h k gs hs p =
    let g : h.heading ≡ k.heading = heading_one h.heading k.heading (λ i. (p i).heading) in
    let w : h.storm ≡ k.storm = storm_one h.storm k.storm (λ i. (p i).storm) in
    λ i. record { heading = g i; identifier = (p i).identifier; issue = (p i).issue; storm = w i }

-- `read`
pub reads_one : (text : List ℕ) (year month : ℕ) (r q : Result Bulletin Refusal) → Reads text year month r → Reads text year month q → r ≡ q
reads_one text year month r q x y = result_by_same report_said r q same x.says y.says
  where
    same : (b c : Bulletin) → r ≡ Ok b → q ≡ Ok c → report_said b ≡ report_said c → b ≡ c
    same b c eb ec p =
        let a : b.head ≡ c.head = head_one b.head c.head (segments_held b.segments) (segments_held c.segments) p in
        let e : b.segments ≡ c.segments = x.segments b eb ∙ sym (y.segments c ec) in
        λ i. record { head = a i; segments = e i }

-- `read_keeping`
pub keeps_one : (before m n text : List ℕ) (year month : ℕ) (r q : Result Bulletin Refusal) → KeepsPlaces before m text year month r → KeepsPlaces before n text year month q → Same r q m n
keeps_one before m n text year month r q x y = record { answers = reads_one text year month r q x.answer y.answer; bytes = x.left ∙ sym y.left }

-- for `find_segment` and `view_answer` it is `result_one`, and for `view` `answer_one`
