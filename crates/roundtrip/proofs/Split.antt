-- The lines and the elements of what is written are the lines and the elements that were put together. Assumes nothing.
use Prim.Native.Nat.{ℕ, ◌+◌, ◌≤◌}
use native.Mathlib.Omega.{arith}
use mathlib.Core.Path.{◌≡◌, refl, sym, ap, ◌∙◌}
use mathlib.Core.Bool.{true}
use mathlib.Core.List.{List, [], ◌∷◌, ◌++◌, append_assoc}
use lib.ListN.{length}
use borrow.Author.Tests.{ne_eqb, le-leb}
use Rattle.laws.proofs.Tests.{apart, either_way}
use Rattle.laws.specs.Lists.{All, all_nil, all_cons}
use Rattle.lines.specs.Bytes.{bytes, lf, exactly}
use Rattle.lines.specs.Lines.{end_bytes, pieces, line_end, body_of, lines_at, lines_from, ends_line}
use Rattle.lines.specs.declared.End.{End}
use Rattle.lines.specs.declared.End.TheVariants.{Lf, CrLf, CrCrLf, Nothing}
use Rattle.codes.specs.Elements.{Element, dash, elements_at, elements_of_body, elements_of_lines, elements_from}
use Rattle.codes.specs.Written.{fits, Wrapped, on_line, on_next, written_most, wrap_from, in_order, rendered, wrapped}

-- ---- an element's bytes: above `-`, and then `-`
pub data Word : List ℕ → Type 0 where
  ends : Word (bytes "-")
  byte : {b : ℕ} {s : List ℕ} → 46 ≤ b → Word s → Word (b ∷ s)

pieces_word : {e : List ℕ} → Word e → (t : List ℕ) → pieces dash (e ++ t) ≡ e ∷ pieces dash t
unfolding pieces
pieces_word ends t = refl
pieces_word (byte {b} h w) t = rw (ne_eqb b dash (omega arith), pieces_word w t)

pieces_joined : {l : List (List ℕ)} → All Word l → pieces dash (in_order l) ≡ l
unfolding pieces in_order
pieces_joined all_nil = refl
pieces_joined (all_cons {x = e} {xs = es} w ws) = pieces_word w (in_order es) ∙ ap (λ (x : List (List ℕ)). e ∷ x) (pieces_joined ws)

-- ---- bytes that end no line
abbrev High : ℕ → Type 0
High b = 14 ≤ b

word_high : {e t : List ℕ} → Word e → All High t → All High (e ++ t)
word_high ends h = all_cons {x = dash} (omega arith) h
word_high (byte {b} k w) h = all_cons {x = b} (omega arith) (word_high w h)

joined_high : {l : List (List ℕ)} → All Word l → All High (in_order l)
unfolding in_order
joined_high all_nil = all_nil
joined_high (all_cons w ws) = word_high w (joined_high ws)

-- a line of words splits into those words
line_start : (at : ℕ) {e : List ℕ} {l : List (List ℕ)} → All Word (e ∷ l) → elements_of_body at (in_order (e ∷ l)) ≡ elements_at at (pieces dash (in_order (e ∷ l)))
unfolding in_order
line_start at (all_cons ends ws) = refl
line_start at (all_cons (byte h w) ws) = refl

-- ---- wrapping: on this line or on the next
pub record WrapWords (w : Wrapped) : Type 0 where
  pub now : All Word w.line
  pub later : All (All Word) w.lines

pub wrap_words : (n : ℕ) {es : List (List ℕ)} → All Word es → WrapWords (wrap_from n es)
unfolding wrap_from
wrap_words n all_nil = record { now = all_nil; later = all_nil }
wrap_words n (all_cons {x = e} w ws) =
    let a = wrap_words (n + length e) ws in
    let b = wrap_words (length e) ws in
    either_way WrapWords (fits n e) (record { now = all_cons w a.now; later = a.later }) (record { now = all_nil; later = all_cons (all_cons w b.now) b.later })

-- an element of at most a line's bytes stands on the first line
pub first_line : (e : List ℕ) (es : List (List ℕ)) → length e ≤ written_most → wrap_from 0 (e ∷ es) ≡ on_line e (wrap_from (0 + length e) es)
unfolding wrap_from
first_line e es h = rw (le-leb (0 + length e) written_most (omega arith))

-- ---- the elements of a text begin with these words, the last of which ends its line
pub data Starts : List (List ℕ) → List Element → Type 0 where
  last_one : {b : List ℕ} {e : Element} {es : List Element} → e.bytes ≡ b → e.last ≡ true → Starts (b ∷ []) (e ∷ es)
  next_one : {b : List ℕ} {bs : List (List ℕ)} {e : Element} {es : List Element} → e.bytes ≡ b → Starts bs es → Starts (b ∷ bs) (e ∷ es)

pub starts_nothing : {es : List Element} → Starts [] es → ⊥
starts_nothing t = elim t [ ]

-- ---- the lines, each with its end
unfoldable pub ended_lines : End → List (List (List ℕ)) → List (List ℕ)
ended_lines end [] = []
ended_lines end (l ∷ ls) = (in_order l ++ end_bytes end) ∷ ended_lines end ls

-- the elements of the rest of a line and of the lines after it
abbrev seen : End → ℕ → ℕ → Wrapped → List (List ℕ) → List Element
seen end at at' w more = elements_at at w.line ++ elements_of_lines (lines_at at' (ended_lines end w.lines ++ more))

module _ (end : End) where
  body_line : {x : List ℕ} → All High x → body_of (x ++ end_bytes end) ≡ x
  unfolding body_of line_end exactly
  body_line all_nil = body_end end
    where
      body_end : (e : End) → body_of (end_bytes e) ≡ []
      body_end Lf = refl
      body_end CrLf = refl
      body_end CrCrLf = refl
      body_end Nothing = refl
  body_line (all_cons {x = b} h a) = rw (ne_eqb b 10 (omega arith), ne_eqb b 13 (omega arith), body_line a)

  pub body_joined : {l : List (List ℕ)} → All Word l → body_of (in_order l ++ end_bytes end) ≡ in_order l
  body_joined ws = body_line (joined_high ws)

  pub line_elements : {e : List ℕ} {l : List (List ℕ)} → All Word (e ∷ l) → (at : ℕ)
      → elements_of_body at (body_of (in_order (e ∷ l) ++ end_bytes end)) ≡ elements_at at (e ∷ l)
  line_elements {e} {l} ws at = ap (elements_of_body at) (body_joined ws) ∙ line_start at ws ∙ ap (elements_at at) (pieces_joined ws)

  module _ (more : List (List ℕ)) where
    after : ℕ → List ℕ → Wrapped → ℕ
    after at e w = at + length (in_order (e ∷ w.line) ++ end_bytes end)

    next_line : (at at' : ℕ) (e : List ℕ) (w : Wrapped) → All Word (e ∷ w.line) → seen end at at' (on_next e w) more ≡ seen end at' (after at' e w) (on_line e w) more
    unfolding elements_at elements_of_lines lines_at ended_lines after
    next_line at at' e w ws = ap (λ (x : List Element). x ++ elements_of_lines (lines_at (after at' e w) (ended_lines end w.lines ++ more))) (line_elements ws at')

    starts_wrapped : {e : List ℕ} {es : List (List ℕ)} → All Word (e ∷ es) → (n at at' : ℕ) → Starts (e ∷ es) (seen end at at' (wrap_from n (e ∷ es)) more)
    unfolding wrap_from elements_at
    starts_wrapped (all_cons {x = e} w all_nil) n at at' =
        either_way (λ (v : Wrapped). Starts (e ∷ []) (seen end at at' v more)) (fits n e)
        (last_one refl refl)
        (rw (next_line at at' e (record { line = []; lines = [] }) (all_cons w all_nil)) (last_one refl refl))
    starts_wrapped (all_cons {x = e} w (all_cons {x = f} {xs = es} w' ws)) n at at' =
        either_way (λ (v : Wrapped). Starts (e ∷ (f ∷ es)) (seen end at at' v more)) (fits n e)
        (next_one refl (starts_wrapped (all_cons w' ws) (n + length e) (at + length e) at'))
        (rw (next_line at at' e (wrap_from (length e) (f ∷ es)) (all_cons w (wrap_words (length e) (all_cons w' ws)).now))
        (next_one refl (starts_wrapped (all_cons w' ws) (length e) (at' + length e) (after at' e (wrap_from (length e) (f ∷ es))))))

-- ---- the whole text: lines of words, which do end, and whatever follows
pieces_end : (end : End) → ends_line end ≡ true → (r : List ℕ) → pieces lf (end_bytes end ++ r) ≡ end_bytes end ∷ pieces lf r
unfolding pieces
pieces_end Lf h r = refl
pieces_end CrLf h r = refl
pieces_end CrCrLf h r = refl
pieces_end Nothing h r = apart cc

module _ (end : End) (so : ends_line end ≡ true) where
  pieces_line : {x : List ℕ} → All High x → (r : List ℕ) → pieces lf (x ++ (end_bytes end ++ r)) ≡ (x ++ end_bytes end) ∷ pieces lf r
  unfolding pieces
  pieces_line all_nil r = pieces_end end so r
  pieces_line (all_cons {x = b} h a) r = rw (ne_eqb b lf (omega arith), pieces_line a r)

  pieces_rendered : {ls : List (List (List ℕ))} → All (All Word) ls → (rest : List ℕ) → pieces lf (rendered end ls ++ rest) ≡ ended_lines end ls ++ pieces lf rest
  unfolding ended_lines rendered
  pieces_rendered all_nil rest = refl
  pieces_rendered (all_cons {x = l} {xs = ls} w ws) rest =
      ap (pieces lf) (append_assoc (in_order l) (end_bytes end ++ rendered end ls) rest ∙ ap (λ (x : List ℕ). in_order l ++ x) (append_assoc (end_bytes end) (rendered end ls) rest))
      ∙ pieces_line (joined_high w) (rendered end ls ++ rest)
      ∙ ap (λ (x : List (List ℕ)). (in_order l ++ end_bytes end) ∷ x) (pieces_rendered ws rest)

  pub lines_rendered : (at : ℕ) (rest : List ℕ) {es : List (List ℕ)} → All Word es
      → lines_from at (rendered end (wrapped es) ++ rest) ≡ lines_at at (ended_lines end (wrapped es) ++ pieces lf rest)
  lines_rendered at rest ws = let w = wrap_words 0 ws in ap (lines_at at) (pieces_rendered (all_cons w.now w.later) rest)

  pub starts_rendered : (at : ℕ) (rest : List ℕ) {e : List ℕ} {es : List (List ℕ)} → length e ≤ written_most → All Word (e ∷ es)
      → Starts (e ∷ es) (elements_from at (rendered end (wrapped (e ∷ es)) ++ rest))
  unfolding elements_at ended_lines
  starts_rendered at rest {e} {es} fits (all_cons w ws) =
      let v = wrap_from (0 + length e) es in
      let q : wrap_from 0 (e ∷ es) ≡ on_line e v = first_line e es fits in
      let next : ℕ = after end (pieces lf rest) at e v in
      let same : elements_from at (rendered end (wrapped (e ∷ es)) ++ rest) ≡ seen end at next (wrap_from 0 (e ∷ es)) (pieces lf rest) =
      ap elements_of_lines (lines_rendered at rest (all_cons w ws))
      ∙ ap (λ (x : Wrapped). elements_of_lines (lines_at at (ended_lines end (x.line ∷ x.lines) ++ pieces lf rest))) q
      ∙ next_line end (pieces lf rest) at at e v (all_cons w (wrap_words (0 + length e) ws).now)
      ∙ sym (ap (λ (x : Wrapped). seen end at next x (pieces lf rest)) q) in
      rw same (starts_wrapped end (pieces lf rest) (all_cons w ws) 0 at next)
