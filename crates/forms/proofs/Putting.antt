-- The loop that copies the text with its new blocks. Assumes nothing.
use Prim.Native.Nat.{ℕ, ◌+◌, ◌-◌, ◌≤◌, ◌<◌}
use native.Mathlib.Nat.{zero-add}
use native.Mathlib.Omega.{arith}
use mathlib.Core.Path.{◌≡◌, sym, ap, ap₂, ◌∙◌}
use mathlib.Core.List.{List, ◌∷◌, ◌++◌, append_assoc}
use lib.ListN.{length, take, drop, get_or, length-append}
use lib.Seq.{sets, drop-drop, length-sets}
use mir.Syntax.{w64}
use mir.Val.{Fits}
use Rattle.laws.proofs.Stores.{sets_then, sets_front}
use Rattle.refusal.specs.Answer.{ok}
use Rattle.lines.specs.Spans.{part}
use Rattle.writing.specs.Pen.{Stored}
use Rattle.writing.specs.Write.{output_of}
use Rattle.segments.specs.declared.Segment.{Segment}
use Rattle.forms.specs.Forms.{forms_room, cut_into, sum_of, with_forms}
use Rattle.forms.proofs.Keeping.{part_rest, next_of, none_of}

module _ (text : List ℕ) (gs : List Segment) (forms each ns out₀ : List ℕ) where
  abbrev pub whole : List ℕ
  whole = with_forms 0 text gs (cut_into ns forms)

  -- so many bytes of it stand at the front: those up to segment i, whose form starts at `form`
  pub record Putting (i pos at form : ℕ) (out : List ℕ) : Type 0 where
    pub left : i ≤ length gs
    pub many : length ns ≡ length gs
    pub sizes : (k : ℕ) → k < length gs → get_or each k 0 ≡ get_or ns k 0
    pub short : length forms ≤ forms_room
    pub room : length whole ≤ length out₀
    pub done : List ℕ
    pub bytes : out ≡ sets out₀ 0 done
    pub here : pos ≡ length done
    pub rest : done ++ with_forms at text (drop i gs) (cut_into (drop i ns) (drop form forms)) ≡ whole
    pub low : form + sum_of (drop i ns) ≤ length forms

  module _ (i pos at form : ℕ) (out : List ℕ) (v : Putting i pos at form out) where
    long : length out ≡ length out₀
    long = ap (λ (x : List ℕ). length x) v.bytes ∙ length-sets out₀ 0 v.done

    -- the length of the next segment's form
    abbrev size : ℕ
    size = get_or each i 0

    sums : i < length gs → sum_of (drop i ns) ≡ size + sum_of (drop (i + 1) ns)
    unfolding sum_of
    sums h = ap sum_of (next_of ns i 0 (omega (arith, v.many))) ∙ ap (λ (k : ℕ). k + sum_of (drop (i + 1) ns)) (sym (v.sizes i h))

    pub putting_fits : i < length gs → Fits w64 (form + size)
    putting_fits h = omega (arith, v.low, sums h, v.short)

    module _ (h : i < length gs) (z : Segment) where
      abbrev g : Segment
      g = get_or gs i z

      kept : List ℕ
      kept = part text at g.start

      tail : List ℕ
      tail = with_forms g.block text (drop (i + 1) gs) (cut_into (drop (i + 1) ns) (drop (form + size) forms))

      block : List ℕ
      block = part forms form (form + size)

      next : v.done ++ (kept ++ (block ++ tail)) ≡ whole
      unfolding with_forms cut_into kept block tail
      next =
          let n : form + size - form ≡ size = omega arith in
          let gs-next : drop i gs ≡ g ∷ drop (i + 1) gs = next_of gs i z h in
          let ns-next : drop i ns ≡ size ∷ drop (i + 1) ns = next_of ns i 0 (omega (arith, v.many)) ∙ ap (λ (x : ℕ). x ∷ drop (i + 1) ns) (sym (v.sizes i h)) in
          let e : with_forms at text (drop i gs) (cut_into (drop i ns) (drop form forms)) ≡ kept ++ (block ++ tail) =
          ap₂ (λ (hs : List Segment) (ms : List ℕ). with_forms at text hs (cut_into ms (drop form forms))) gs-next ns-next
          ∙ ap₂ (λ (b f : List ℕ). kept ++ (b ++ with_forms g.block text (drop (i + 1) gs) (cut_into (drop (i + 1) ns) f)))
          (ap (λ (k : ℕ). take k (drop form forms)) (sym n)) (drop-drop size form forms) in
          ap (λ (x : List ℕ). v.done ++ x) (sym e) ∙ v.rest

      lengths : length v.done + (length kept + (length block + length tail)) ≡ length whole
      lengths =
          let all : length (v.done ++ (kept ++ (block ++ tail))) ≡ length whole = ap (λ (x : List ℕ). length x) next in
          omega (arith, all, length-append v.done (kept ++ (block ++ tail)), length-append kept (block ++ tail), length-append block tail)

      module _ (k : List ℕ) (is : k ≡ part text at g.start) where
        pub putting_kept : pos + length k ≤ length out
        unfolding kept
        putting_kept = rw is (omega (arith, lengths, v.here, v.room, long))

        module _ (out₁ : List ℕ) (pos₁ : ℕ) (s : Stored out out₁ pos pos₁ k) (b : List ℕ) (form-is : b ≡ part forms form (form + size)) where
          pub putting_block : pos₁ + length b ≤ length out₁
          unfolding kept block
          putting_block =
              let same : length out₁ ≡ length out = ap (λ (x : List ℕ). length x) s.bytes ∙ length-sets out pos k in
              let n : length k ≡ length kept = ap (λ (x : List ℕ). length x) is in
              let m : length b ≡ length block = ap (λ (x : List ℕ). length x) form-is in
              omega (arith, lengths, v.here, v.room, long, s.end)

          pub putting_on : (out₂ : List ℕ) (pos₂ : ℕ) → Stored out₁ out₂ pos₁ pos₂ b → Putting (i + 1) pos₂ g.block (form + size) out₂
          unfolding kept block tail
          putting_on out₂ pos₂ t =
              let d : List ℕ = v.done in
              let first : out₁ ≡ sets out₀ 0 (d ++ k) = sets_then out₀ 0 d k v.bytes (v.here ∙ sym (zero-add (length d))) s.bytes in
              let n : pos₁ ≡ length (d ++ k) = omega (arith, s.end, v.here, length-append d k) in
              record {
                left = omega arith;
                many = v.many;
                sizes = v.sizes;
                short = v.short;
                room = v.room;
                done = (d ++ k) ++ b;
                bytes = sets_then out₀ 0 (d ++ k) b first (n ∙ sym (zero-add (length (d ++ k)))) t.bytes;
                here = omega (arith, t.end, n, length-append (d ++ k) b);
                rest =
                    append_assoc (d ++ k) b tail
                    ∙ append_assoc d k (b ++ tail)
                    ∙ ap₂ (λ (x y : List ℕ). d ++ (x ++ (y ++ tail))) is form-is
                    ∙ next;
                low = omega (arith, v.low, sums h);
              }

    module _ (h : length gs ≤ i) where
      last : v.done ++ part text at (length text) ≡ whole
      unfolding with_forms
      last =
          let e : with_forms at text (drop i gs) (cut_into (drop i ns) (drop form forms)) ≡ drop at text =
          ap (λ (hs : List Segment). with_forms at text hs (cut_into (drop i ns) (drop form forms))) (none_of gs i h) in
          ap (λ (x : List ℕ). v.done ++ x) (part_rest text at ∙ sym e) ∙ v.rest

      module _ (b : List ℕ) (is : b ≡ part text at (length text)) where
        pub putting_rest : pos + length b ≤ length out
        putting_rest = rw is (omega (arith, v.here, v.room, long, ap (λ (x : List ℕ). length x) last, length-append v.done (part text at (length text))))

        module _ (out₁ : List ℕ) (pos₁ : ℕ) (s : Stored out out₁ pos pos₁ b) where
          pub putting_done : out₁ ≡ output_of (ok whole) out₀
          putting_done =
              sets_then out₀ 0 v.done b v.bytes (v.here ∙ sym (zero-add (length v.done))) s.bytes
              ∙ ap (λ (x : List ℕ). sets out₀ 0 (v.done ++ x)) is
              ∙ ap (sets out₀ 0) last
              ∙ sets_front out₀ whole v.room
