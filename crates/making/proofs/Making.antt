-- The ways out of making a book of a bulletin. Assumes nothing.
use Prim.Native.Nat.{ℕ, suc, ◌+◌, ◌*◌, ◌≤◌, ◌<◌}
use native.Mathlib.Nat.{add-zero, zero-add}
use native.Mathlib.Omega.{arith}
use mathlib.Core.Path.{◌≡◌, refl, sym, ap, ap₂, ◌∙◌, subst}
use mathlib.Core.List.{List, [], ◌∷◌, map}
use Rattle.std.specs.Prelude.{Some}
use lib.ListN.{length, take, drop, length-map}
use Rattle.std.specs.Prelude.{slice_get}
use lib.Seq.{length-take-le}
use borrow.Author.Tests.{ne_eqb}
use Rattle.laws.proofs.Lists.{all_each}
use Rattle.laws.specs.Lists.{All}
use Rattle.refusal.specs.declared.Reason.TheVariants.{WrongLength}
use Rattle.refusal.specs.Answer.{Answer, ok, refused, refusal_for, and_then, answer_of}
use Rattle.std.specs.Prelude.{Result, Ok, Err, IfOk}
use Rattle.refusal.specs.declared.Refusal.{Refusal}
use Rattle.codes.specs.Places.{capacity}
use Rattle.codes.specs.Block.{Content, content_at}
use Rattle.segments.specs.Segments as segments
use Rattle.bulletin.specs.Bulletin as rule
use Rattle.bulletin.specs.Bulletin.{read_bulletin}
use Rattle.segments.specs.Seen.{seen, segments_held, Sized}
use Rattle.bulletin.specs.Report.{reported, report_of, Reads}
use Rattle.segments.specs.KeptAt.{keep_each}
use Rattle.bulletin.specs.Kept.{places_of, kept_places, KeepsPlaces}
use Rattle.segments.specs.declared.Segment.{Segment}
use Rattle.bulletin.specs.declared.Bulletin.{Bulletin}
use Rattle.bulletin.proofs.Saying.{contents_said, part_is, Told, told_by, refused_by}
use Rattle.blocks.specs.Block.{book_length}
use Rattle.steps.specs.Book.{Book, new_book}
use Rattle.layout.specs.Layout.{bytes_of}
use Rattle.layout.proofs.Forth.{issue_low}
use Rattle.making.specs.Make.{book_from, make_rule, made_answer, made_bytes, Makes}
use Rattle.making.specs.Fill.{contents_from, Storable, Filled, Indexed}
use Rattle.making.proofs.Filling.{content_kept}
use Rattle.making.proofs.Sounding.{made_issue}

-- ---- the segments of a bulletin
abbrev content_of : segments.Segment → Content
content_of g = g.content

contents_by : (kept : List ℕ) (i : ℕ) (gs : List segments.Segment)
    → ((k : ℕ) (g : segments.Segment) → slice_get gs k ≡ Some g → take (length g.content.places) (drop (capacity * (i + k)) kept) ≡ g.content.places)
    → contents_from i kept (map seen gs) ≡ map content_of gs
unfolding contents_from
contents_by kept i [] f = refl
contents_by kept i (g ∷ gs) f =
    let here : take (length g.content.places) (drop (capacity * i) kept) ≡ g.content.places = rw add-zero at (f 0 g refl) in
    ap₂ (λ (ps : List ℕ) (cs : List Content). record { purge = g.content.purge; places = ps } ∷ cs) here
    (contents_by kept (suc i) gs (λ k x e. let n : i + suc k ≡ suc i + k = omega arith in rw n at (f (suc k) x e)))

module _ (text : List ℕ) (issue : ℕ) (gs : List segments.Segment) (a : All (λ (g : segments.Segment). content_at text issue g.start ≡ ok g.content) gs) where
  -- a block has room for each
  storable : All Storable (map seen gs)
  storable = all_each seen (λ g e. let k = content_kept text issue g.start g.content e in record { few = k.few; low = k.low }) a

  -- the contents that are kept are theirs
  contents_kept : (ks : List ℕ) → length gs ≤ 8 → length ks ≡ 960 → contents_from 0 (keep_each places_of 0 gs ks) (map seen gs) ≡ map content_of gs
  contents_kept ks few long = contents_by (keep_each places_of 0 gs ks) 0 gs (λ k g e. rw (zero-add k) (part_is text issue gs a ks few long k g e))

-- what the rule says gives the promise
ruled : (l d text : List ℕ) (year month : ℕ) (r : Result Unit Refusal) (a : Answer Book) → make_rule l text year month ≡ a → answer_of r ≡ made_answer a → d ≡ made_bytes a l
    → Makes l d text year month r
ruled l d text year month r a e f g = record { answer = f ∙ ap made_answer (sym e); left = g ∙ ap (λ (x : Answer Book). made_bytes x l) (sym e) }

-- ---- the rule, at each way out
rule_short : (l text : List ℕ) (year month : ℕ) → (length l ≡ book_length → ⊥) → make_rule l text year month ≡ refused WrongLength 0
unfolding make_rule and_then
rule_short l text year month h = rw (ne_eqb (length l) book_length h)

rule_long : (l text : List ℕ) (year month : ℕ) → length l ≡ book_length → (a : Answer rule.Bulletin) → read_bulletin text year month ≡ a
    → make_rule l text year month ≡ and_then a (λ b. ok (book_from b))
unfolding make_rule and_then
rule_long l text year month h a e = rw (h, e)

-- ---- the ways out
module _ (l text : List ℕ) (year month : ℕ) where
  pub make_short : (length l ≡ book_length → ⊥) → (w : Refusal) → w ≡ refusal_for WrongLength 0 → Makes l l text year month (Err w)
  make_short h w e = ruled l l text year month (Err w) (refused WrongLength 0) (rule_short l text year month h) (rw e) refl

  module _ (r : Result Bulletin Refusal) (ks₀ ks : List ℕ) (kept : KeepsPlaces ks₀ ks text year month r) where
    reads : Reads text year month r
    reads = kept.answer

    module _ (w : Refusal) (q : r ≡ Err w) where
      read_no : refused w.reason w.place ≡ reported (read_bulletin text year month)
      read_no = rw q at reads.says

      pub make_refused : length l ≡ book_length → Makes l l text year month (Err w)
      unfolding and_then
      make_refused h =
          let e = refused_by text year month w (read_bulletin text year month) refl read_no in
          ruled l l text year month (Err w) (refused w.reason w.place) (rule_long l text year month h (refused w.reason w.place) e) refl refl

    module _ (b : Bulletin) (q : r ≡ Ok b) where
      read_ok : ok (report_of b.head (segments_held b.segments)) ≡ reported (read_bulletin text year month)
      read_ok = rw q at reads.says

      told : Told text year month b.head (segments_held b.segments)
      told = told_by text year month b.head (segments_held b.segments) (read_bulletin text year month) refl read_ok

      -- the issue has 32 bits
      pub make_issue : b.head.issue < 4294967296
      make_issue = let e = told.issue in omega (arith, issue_low told.said.issue (made_issue text year month told.said told.read))

      pub make_storable : All Storable (segments_held b.segments)
      make_storable = subst (All Storable) (sym told.seen_are) (storable text told.said.issue told.said.segments (contents_said text year month told.said told.read))

      module _ (is-sized : IfOk r (λ b. Sized b.segments)) where
        z : Sized b.segments
        z = rw q at is-sized

        long : length told.said.segments ≡ b.segments.count
        long =
            sym (length-map told.said.segments seen)
            ∙ ap (λ (gs : List Segment). length gs) (sym told.seen_are)
            ∙ length-take-le b.segments.count b.segments.held (omega (arith, z.long, z.few))

        contents_are : length ks₀ ≡ 960 → contents_from 0 ks (segments_held b.segments) ≡ map content_of told.said.segments
        contents_are k =
            let few : length told.said.segments ≤ 8 = omega (arith, long, z.few) in
            let f : ks ≡ keep_each places_of 0 told.said.segments ks₀ = kept.left ∙ ap (λ (x : Answer rule.Bulletin). kept_places x ks₀) told.read in
            ap₂ (λ (l : List ℕ) (gs : List Segment). contents_from 0 l gs) f told.seen_are
            ∙ contents_kept text told.said.issue told.said.segments (contents_said text year month told.said told.read) ks₀ few k

        pub make_made : length l ≡ book_length → length ks₀ ≡ 960 → (l₁ d : List ℕ) → Filled (contents_from 0 ks (segments_held b.segments)) l₁ → Indexed l₁ b.head.issue b.segments.count d → Makes l d text year month (Ok tt)
        unfolding and_then
        make_made g k l₁ d f i =
            let cs : List Content = map content_of told.said.segments in
            let filled : Filled cs l₁ = subst (λ (x : List Content). Filled x l₁) (contents_are k) f in
            ruled l d text year month (Ok tt) (ok (book_from told.said))
            (rule_long l text year month g (ok told.said) told.read) refl
            (i.whole cs (length-map told.said.segments content_of ∙ long) (omega (arith, z.few)) filled
            ∙ ap (λ (issue : ℕ). bytes_of (new_book issue cs)) told.issue)
