-- The written forms of a book's segments, one behind the other. Assumes nothing.
use Prim.Native.Nat.{ℕ, zero, suc, ◌+◌, ◌-◌, ◌*◌, ◌≤◌, ◌<◌}
use native.Mathlib.Nat.{zero-add}
use native.Mathlib.Numerals.{add-one}
use native.Mathlib.Omega.{arith}
use mathlib.Core.Path.{◌≡◌, refl, sym, ap, ap₂, ◌∙◌}
use mathlib.Core.Bool.{true}
use Rattle.std.specs.Prelude.{Option, None, Some, Result, Ok, Err}
use mathlib.Core.List.{List, [], ◌∷◌, ◌++◌, map, append_assoc, append-nil, map-append}
use lib.ListN.{length, take, drop, get_or, set, length-append, length-drop, length-map, length-set, drop_of_length-le, get_or-map}
use lib.Seq.{sets, sets-eq, take_all, take-suc, take-suc-set, length-sets, length-take-le, take-append_seam, drop-drop}
use borrow.Author.Tests.{le-leb}
use borrow.Rule.Slice.PartMut.{put_mid}
use Rattle.laws.proofs.Lookups.{get_some, some_same}
use Rattle.laws.proofs.Stores.{sets_front, sets_then}
use Rattle.laws.proofs.Tests.{by, apart}
use Rattle.refusal.specs.declared.Reason.TheVariants.{OutOfRange}
use Rattle.refusal.specs.Answer.{Answer, ok, refused, and_then, answer_of}
use Rattle.refusal.specs.declared.Refusal.{Refusal}
use Rattle.lines.specs.declared.End.{End}
use Rattle.lines.specs.declared.End.TheVariants.{CrCrLf}
use Rattle.calendar.specs.Calendar.{date_of}
use Rattle.calendar.specs.declared.Date.{Date}
use Rattle.codes.specs.Block.{Content}
use Rattle.codes.specs.Places.{capacity, is_set}
use Rattle.codes.specs.Written as form
use Rattle.codes.specs.Written.{in_order}
use Rattle.std.specs.Result.{result_unwrap_or}
use Rattle.writing.specs.Write.{dated_block, written_block, fitting, write_rule, length_of, output_of, WritesEnded}
use Rattle.writing.specs.Pen.{written_block_most}
use Rattle.writing.proofs.Bound.{block_most_lem}
use Rattle.bulletin.proofs.Saying.{by_then, ok_one}
use Rattle.blocks.specs.Block.{block_of}
use Rattle.blocks.specs.Content.{content_of}
use Rattle.blocks.specs.Held.{held_content}
use Rattle.blocks.specs.declared.Held.{Held}
use Rattle.layout.specs.Layout.{book_of}
use Rattle.layout.proofs.Parts.{sound_parts}
use Rattle.layout.proofs.Said.{segment_of_lem, segments_length}
use Rattle.segments.specs.Seen.{segments_held, Sized}
use Rattle.segments.specs.declared.Segment.{Segment}
use Rattle.segments.specs.declared.Segments.{Segments}
use Rattle.making.proofs.Writing.{segment_block_lem, rule_block, write_few}
use Rattle.forms.specs.Edited.{written_forms}
use Rattle.forms.proofs.Keeping.{held_many}
use Rattle.forms.specs.Forms.{SoundBook, RoomFor, Formed, ends_of, Laid}

-- ---- a block that is given with one line end is given with each
pub record SomeBlock (end : End) (ps : List ℕ) (minute : ℕ) : Type 0 where
  pub block : List ℕ
  pub given : written_block end ps minute ≡ ok block

pub some_block : (e f : End) (ps : List ℕ) (minute : ℕ) (block : List ℕ) → written_block e ps minute ≡ ok block → SomeBlock f ps minute
unfolding written_block
some_block e f ps minute block h =
    by (is_set ps) (λ q. dated q (date_of minute) refl (rw q at h)) (λ q. let z : refused OutOfRange 0 ≡ ok block = rw q at h in apart cc)
  where
    dated : is_set ps ≡ true → (d : Option Date) → date_of minute ≡ d → dated_block e ps d ≡ ok block → SomeBlock f ps minute
    dated q None t z = apart cc
    dated q (Some d) t z = record { block = form.written f ps d.stamp; given = rw (q, t) }

-- ---- one form
module _ (l : List ℕ) (b : SoundBook l) (i : ℕ) (low : i < get_or l 4 0) where
  pub form_block : i + 1 < 49
  form_block = omega (arith, (sound_parts l b.sound).eight)

  pub form_few : get_or (block_of (i + 1) l) 4 0 ≤ capacity
  form_few = write_few l [] (i + 1) b.long b.sound (get_or l 4 0) refl (omega arith) (omega arith)

  module _ (end : End) (q : Held) (e : held_content q ≡ content_of (block_of (i + 1) l)) (before after : List ℕ) (room : written_block_most ≤ length before) where
    abbrev content : Content
    content = content_of (block_of (suc i) l)

    made : SomeBlock end content.places content.purge
    made = some_block CrCrLf end _ _ _ (segment_block_lem l b.bytes b.sound (suc i) content (segment_of_lem l i low)).given

    short : length made.block ≤ written_block_most
    short = block_most_lem end _ _ made.block made.given

    fits : fitting (length before) made.block ≡ ok made.block
    unfolding fitting
    fits = rw (le-leb (length made.block) (length before) (omega (arith, short)))

    rule : write_rule end (length before) (take q.count q.places) q.purge ≡ ok made.block
    rule =
        ap (λ (x : Content). write_rule end (length before) x.places x.purge) (e ∙ ap (λ (k : ℕ). content_of (block_of k l)) (add-one i))
        ∙ rule_block end (length before) content made.block made.given
        ∙ fits

    module _ (x : Result ℕ Refusal) (w : WritesEnded end before after (take q.count q.places) q.purge x) where
      form_written : (r : ℕ) → x ≡ Ok r → Formed end l i before after r
      form_written r k =
          let s : r ≡ length made.block = ok_one r (length made.block) (ap answer_of (sym k) ∙ w.answer ∙ ap length_of rule) in
          record {
            form = made.block;
            given = made.given;
            size = s;
            most = omega (arith, short);
            output = w.output ∙ ap (λ (x : Answer (List ℕ)). output_of x before) rule;
          }

      -- the writer does not refuse what a sound book holds
      form_refused : (r : Refusal) → x ≡ Err r → Formed end l i before after 0
      form_refused r k = let f : refused r.reason r.place ≡ ok (length made.block) = ap answer_of (sym k) ∙ w.answer ∙ ap length_of rule in apart cc

      pub form_length : (r : ℕ) → r ≡ result_unwrap_or x 0 → Formed end l i before after r
      form_length r e = rw e (go x refl)
        where
          go : (y : Result ℕ Refusal) → x ≡ y → Formed end l i before after (result_unwrap_or y 0)
          go (Ok n) q = form_written n q
          go (Err f) q = form_refused f q

-- ---- forms, one behind the other
pub in_order_more : (bs : List (List ℕ)) (b : List ℕ) → in_order (bs ++ (b ∷ [])) ≡ in_order bs ++ b
unfolding in_order
in_order_more [] b = append-nil b
in_order_more (x ∷ bs) b = ap (λ (t : List ℕ). x ++ t) (in_order_more bs b) ∙ sym (append_assoc x (in_order bs) b)

forms_more : (es : List End) (cs : List Content) → length es ≡ length cs → (e : End) (c : Content) (bs : List (List ℕ)) (b : List ℕ)
    → written_forms es cs ≡ ok bs → written_block e c.places c.purge ≡ ok b → written_forms (es ++ (e ∷ [])) (cs ++ (c ∷ [])) ≡ ok (bs ++ (b ∷ []))
unfolding written_forms and_then
forms_more [] [] n e c bs b g f = let n : [] ≡ bs = ok_one [] bs g in rw (f, ← n)
forms_more [] (x ∷ cs) n e c bs b g f = apart cc
forms_more (d ∷ es) [] n e c bs b g f = apart cc
forms_more (d ∷ es) (x ∷ cs) n e c bs b g f =
    by_then (written_block d x.places x.purge) _ bs
    (λ block h.
    by_then (written_forms es cs) _ bs λ blocks k w.
    let n' : block ∷ blocks ≡ bs = ok_one (block ∷ blocks) bs w in
    rw (h, forms_more es cs (omega (arith, n)) e c blocks b k f, ← n'))
    g

-- there are as many forms as contents
pub forms_many : (es : List End) (cs : List Content) → length es ≡ length cs → (blocks : List (List ℕ)) → written_forms es cs ≡ ok blocks → length blocks ≡ length cs
unfolding written_forms
forms_many [] [] n blocks e = ap (λ (x : List (List ℕ)). length x) (sym (ok_one [] blocks e))
forms_many [] (c ∷ cs) n blocks e = apart cc
forms_many (d ∷ es) [] n blocks e = apart cc
forms_many (d ∷ es) (c ∷ cs) n blocks e =
    by_then (written_block d c.places c.purge) _ blocks
    (λ b _.
    by_then (written_forms es cs) _ blocks λ bs f g.
    ap (λ (x : List (List ℕ)). length x) (sym (ok_one (b ∷ bs) blocks g)) ∙ ap suc (forms_many es cs (omega (arith, n)) bs f))
    e

-- each has at most 1,216 bytes
pub forms_most : (es : List End) (cs : List Content) (blocks : List (List ℕ)) → written_forms es cs ≡ ok blocks → length (in_order blocks) ≤ written_block_most * length cs
unfolding written_forms in_order
forms_most [] [] blocks e = let n : [] ≡ blocks = ok_one [] blocks e in rw (← n) (omega arith)
forms_most (d ∷ es) [] blocks e = let n : [] ≡ blocks = ok_one [] blocks e in rw (← n) (omega arith)
forms_most [] (c ∷ cs) blocks e = let n : [] ≡ blocks = ok_one [] blocks e in rw (← n) (omega arith)
forms_most (d ∷ es) (c ∷ cs) blocks e =
    by_then (written_block d c.places c.purge) _ blocks
    (λ b g.
    by_then (written_forms es cs) _ blocks λ bs f h.
    let n : b ∷ bs ≡ blocks = ok_one (b ∷ bs) blocks h in
    rw (← n) (omega (arith, length-append b (in_order bs), block_most_lem d c.places c.purge b g, forms_most es cs bs f)))
    e

-- what stands at an index, or else what stands there
get_again : {A : Type 0} (l : List A) (i : ℕ) (z : A) → get_or l i (get_or l i z) ≡ get_or l i z
get_again [] i z = refl
get_again (x ∷ l) zero z = refl
get_again (x ∷ l) (suc i) z = get_again l i z

-- ---- the loop: the first i forms stand at the front
pub record Forming (gs : List Segment) (l forms₀ : List ℕ) (each : List ℕ) (total i : ℕ) (forms : List ℕ) : Type 0 where
  pub left : i ≤ length gs
  pub many : length gs ≡ get_or l 4 0
  pub eight : length gs ≤ 8
  pub blocks : List (List ℕ)
  pub given : written_forms (take i (ends_of gs)) (take i (book_of l).segments) ≡ ok blocks
  pub count : length blocks ≡ i
  pub bytes : forms ≡ sets forms₀ 0 (in_order blocks)
  pub sizes : take i each ≡ map (λ (b : List ℕ). length b) blocks
  pub is : total ≡ length (in_order blocks)
  pub most : total ≤ written_block_most * i
  pub room : RoomFor (length gs) forms₀
  pub wide : length each ≡ 8

pub forming_start : (gs : Segments) → Sized gs → (l forms : List ℕ) (each : List ℕ) → SoundBook l → gs.count ≡ get_or l 4 0 → RoomFor gs.count forms → length each ≡ 8
    → Forming (segments_held gs) l forms each 0 0 forms
unfolding in_order written_forms
forming_start gs z l forms each s m r w =
    let n : length (segments_held gs) ≡ gs.count = held_many gs z in
    record {
      left = omega arith;
      many = n ∙ m;
      eight = omega (arith, (sound_parts l s.sound).eight);
      blocks = [];
      given = refl;
      count = refl;
      bytes = refl;
      sizes = refl;
      is = refl;
      most = omega arith;
      room = rw n r;
      wide = w;
    }

-- bytes that went to the front of what lies behind `at`
behind_set : (at : ℕ) (l form : List ℕ) → at + length form ≤ length l
    → put_mid at (length l - at) l (form ++ drop (length form) (take (length l - at) (drop at l))) ≡ sets l at form
behind_set at l form h =
    let n : length (drop at l) ≡ length l - at = length-drop at l in
    let same : take (length l - at) (drop at l) ≡ drop at l = take_all (length l - at) (drop at l) (omega arith) in
    let None : drop (length l - at) (drop at l) ≡ [] = drop_of_length-le (drop at l) {i = length l - at} (omega arith) in
    ap₂ (λ (x y : List ℕ). take at l ++ ((form ++ drop (length form) x) ++ y)) same None
    ∙ ap (λ (x : List ℕ). take at l ++ x) (append-nil _ ∙ ap (λ (x : List ℕ). form ++ x) (drop-drop (length form) at l))
    ∙ sym (append_assoc (take at l) form (drop (at + length form) l))
    ∙ sym (sets-eq form l at h)

module _ (gs : List Segment) (l forms₀ : List ℕ) (each : List ℕ) (total i : ℕ) (forms : List ℕ) (v : Forming gs l forms₀ each total i forms) where
  abbrev es : List End
  es = ends_of gs

  ends_long : length es ≡ length gs
  ends_long = length-map gs (λ (g : Segment). g.ended)

  forming_same : length forms ≡ length forms₀
  forming_same = ap (λ (x : List ℕ). length x) v.bytes ∙ length-sets forms₀ 0 (in_order v.blocks)

  -- there is room for the form of segment i
  forming_long : i < length gs → total + written_block_most ≤ length forms
  forming_long h =
      let low : total ≤ written_block_most * i = v.most in
      let room : written_block_most * length gs ≤ length forms₀ = v.room.each in
      omega (arith, forming_same)

  pub forming_low : i < length gs → i < get_or l 4 0
  forming_low h = omega (arith, v.many)

  module _ (h : i < length gs) (z : Segment) (after : List ℕ) (r : ℕ) (f : Formed (get_or gs i z).ended l i (take (length forms - total) (drop total forms)) after r) where
    end : End
    end = (get_or gs i z).ended

    here_is : get_or es i end ≡ end
    unfolding end
    here_is = get_or-map (λ (g : Segment). g.ended) gs i (get_or gs i z) ∙ ap (λ (g : Segment). g.ended) (get_again gs i z)

    pub forming_on : Forming gs l forms₀ (set each i r) (total + r) (i + 1) (put_mid total (length forms - total) forms after)
    unfolding end
    forming_on =
        let bs = v.blocks in
        let b = f.form in
        let eight = v.eight in
        let most = v.most in
        let cs : List Content = (book_of l).segments in
        let c : Content = content_of (block_of (suc i) l) in
        let low : i < length cs = omega (arith, v.many, segments_length l) in
        let here : get_or cs i c ≡ c = some_same (sym (get_some c cs i low) ∙ segment_of_lem l i (forming_low h)) in
        let next : take (i + 1) cs ≡ take i cs ++ (c ∷ []) =
        ap (λ (k : ℕ). take k cs) (add-one i) ∙ take-suc cs i c low ∙ ap (λ (x : Content). take i cs ++ (x ∷ [])) here in
        let stored : put_mid total (length forms - total) forms after ≡ sets forms total b =
        ap (put_mid total (length forms - total) forms) f.output ∙ behind_set total forms b (omega (arith, forming_long h, f.size, f.most)) in
        let next-end : take (i + 1) es ≡ take i es ++ (end ∷ []) =
        ap (λ (k : ℕ). take k es) (add-one i) ∙ take-suc es i end (omega (arith, ends_long)) ∙ ap (λ (x : End). take i es ++ (x ∷ [])) here_is in
        let as_many : length (take i es) ≡ length (take i cs) =
        length-take-le i es (omega (arith, ends_long)) ∙ sym (length-take-le i cs (omega (arith, low))) in
        record {
          left = omega arith;
          many = v.many;
          eight = v.eight;
          blocks = bs ++ (b ∷ []);
          given = ap₂ written_forms next-end next ∙ forms_more (take i es) (take i cs) as_many end c bs b v.given f.given;
          count = length-append bs (b ∷ []) ∙ ap (λ (k : ℕ). k + 1) v.count;
          bytes =
              sets_then forms₀ 0 (in_order bs) b v.bytes (v.is ∙ sym (zero-add (length (in_order bs)))) stored
              ∙ ap (sets forms₀ 0) (sym (in_order_more bs b));
          sizes =
              ap (λ (k : ℕ). take k (set each i r)) (add-one i) ∙ take-suc-set each i r (omega (arith, v.wide))
              ∙ ap₂ (λ (x : List ℕ) (k : ℕ). x ++ (k ∷ [])) v.sizes f.size
              ∙ sym (map-append (λ (x : List ℕ). length x) bs (b ∷ []));
          is = ap₂ (λ (x y : ℕ). x + y) v.is f.size ∙ sym (ap (λ (x : List ℕ). length x) (in_order_more bs b) ∙ length-append (in_order bs) b);
          most = omega (arith, f.most);
          room = v.room;
          wide = length-set each i r ∙ v.wide;
        }

  pub forming_done : length gs ≤ i → Laid (ends_of gs) l forms (record { each = each; total = total })
  forming_done h =
      let bs = v.blocks in
      let same : i ≡ length gs = omega (arith, v.left) in
      let cs : List Content = (book_of l).segments in
      let all : take i cs ≡ cs = take_all i cs (omega (arith, v.many, segments_length l)) in
      let fits : length (in_order bs) ≤ length forms₀ = omega (arith, v.is, v.most, v.room.each) in
      let front : forms ≡ in_order bs ++ drop (length (in_order bs)) forms₀ = v.bytes ∙ sets_front forms₀ (in_order bs) fits in
      record {
        blocks = bs;
        given = ap₂ written_forms (sym (take_all i es (omega (arith, ends_long)))) (sym all) ∙ v.given;
        bytes = ap₂ (λ (k : ℕ) (x : List ℕ). take k x) v.is front ∙ take-append_seam (in_order bs) (drop (length (in_order bs)) forms₀);
        sizes = ap (λ (k : ℕ). take k each) v.count ∙ v.sizes;
        total = v.is;
        most = omega (arith, v.most, v.room.each, forming_same);
        short = omega (arith, v.room.most, forming_same);
        wide = v.wide;
      }
