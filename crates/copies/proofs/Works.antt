-- Work on a draft's copy: what the call on the book's bytes answers and leaves. Assumes nothing.
use Prim.Native.Nat.{ℕ, suc, ◌+◌, ◌*◌, ◌≤◌, ◌<◌}
use native.Mathlib.Omega.{arith}
use mathlib.Core.Path.{◌≡◌, refl, sym, ap, subst, ◌∙◌}
use mathlib.Core.List.{List}
use mathlib.Core.Bool.{Bool, true}
use Rattle.std.specs.Prelude.{None, Some}
use lib.ListN.{length, get_or, set, take-append-drop}
use Rattle.std.specs.Prelude.{slice_get}
use lib.Seq.{set-get_or}
use Rattle.laws.proofs.Tests.{apart}
use Rattle.laws.proofs.Lists.{all_get, all_found}
use Rattle.laws.proofs.Lookups.{get_low}
use Rattle.refusal.specs.declared.Reason.TheVariants.{NotTaken}
use Rattle.refusal.specs.Answer.{Answer, ok, no, refused}
use Rattle.codes.specs.Places.{capacity}
use Rattle.codes.specs.Block.{Content}
use Rattle.checks.specs.Seal.{sealed}
use Rattle.blocks.specs.Block.{block_of, put_block, Bytes}
use Rattle.blocks.specs.Content.{holding, is_content}
use Rattle.blocks.proofs.Blocks.{put_other_block}
use Rattle.blocks.proofs.Contents.{used_length}
use Rattle.steps.specs.Book.{Copy, Draft, closed, working, Book, at, draft_at}
use Rattle.steps.specs.Calls.{Edit, editing, on, Value, BookAnswer, settle, edit_rule, in_range, copy_of, recopy, with_drafts}
use Rattle.steps.proofs.Order.{on_absent, on_refused, on_edited}
use Rattle.steps.proofs.Leaving.{edited}
use Rattle.layout.specs.Layout.{held_of, held_in, copies_of, part_of, block_bytes, bytes_of, book_of}
use Rattle.layout.specs.Sound.{FineTaken, FineDraft, closed_fine, working_fine, Sound}
use Rattle.layout.specs.Tests.{is_sound}
use Rattle.layout.specs.Rule.{on_bytes}
use Rattle.layout.specs.Lies.{Lies}
use Rattle.layout.proofs.Recopied.{recopy_same}
use Rattle.layout.proofs.Rules.{book_refused, book_left}
use Rattle.layout.proofs.ForthBlocks.{lies_sealed}
use Rattle.layout.proofs.Stands.{part_copy}
use Rattle.layout.proofs.Parts.{sound_parts}
use Rattle.layout.proofs.IndexBack.{index_sealed}
use Rattle.layout.proofs.Back.{sound_lies}
use Rattle.layout.proofs.SoundBack.{sound_book}
use Rattle.layout.proofs.ForthIndex.{or_closed_lem}
use Rattle.copies.proofs.Copies.{Indexed, changed_lies}

-- ---- what is known of sound bytes
pub record Base (l : List ℕ) : Type 0 where
  pub sound : is_sound l ≡ true
  pub lies : Lies l (book_of l)
  pub fine : Sound (book_of l)
  pub seal : sealed (block_of 0 l) ≡ block_of 0 l

pub base_of : (l : List ℕ) → Bytes l → is_sound l ≡ true → Base l
base_of l y e = record { sound = e; lies = sound_lies l y e; fine = sound_book l y e; seal = index_sealed l y (sound_parts l e) }

put_own : (l : List ℕ) → put_block 0 (block_of 0 l) l ≡ l
unfolding put_block block_of
put_own l = take-append-drop 512 l

-- bytes that a book lies in, with the check of block 0
pub own_bytes : (l : List ℕ) (b : Book) → Lies l b → sealed (block_of 0 l) ≡ block_of 0 l → l ≡ bytes_of b
own_bytes l b lies e = sym (put_own l) ∙ ap (λ (z : List ℕ). put_block 0 z l) (sym e) ∙ lies_sealed l b lies

-- a draft that stays as it was
pub still : (l : List ℕ) → Base l → (k : ℕ) (x : Draft) → get_or (book_of l).drafts k closed ≡ x → bytes_of (with_drafts (book_of l) (set (book_of l).drafts k x)) ≡ l
still l base k x e =
    ap (λ (ds : List Draft). bytes_of (with_drafts (book_of l) ds)) (ap (set (book_of l).drafts k) (sym e) ∙ set-get_or (book_of l).drafts k closed)
    ∙ sym (own_bytes l (book_of l) base.lies base.seal)

-- ---- an open draft of a sound book
abbrev TakenBy : ℕ → ℕ → Draft → Type 0
TakenBy issue n closed = ⊥
TakenBy issue n (working ks stale) = FineTaken issue n ks stale

fine_taken : {issue n : ℕ} {d : Draft} {ks : List Copy} {stale : Bool} → FineDraft issue n d → d ≡ working ks stale → FineTaken issue n ks stale
fine_taken closed_fine e = apart cc
fine_taken {issue} {n} (working_fine f) e = subst (TakenBy issue n) e f

module _ (l : List ℕ) (base : Base l) (k : ℕ) (ks : List Copy) (stale : Bool) (low : k < 4) (opened : get_or (book_of l).drafts k closed ≡ working ks stale)
    (s : ℕ) (c₀ : Content) (there : at (book_of l).segments s ≡ Some c₀) where
  abbrev b : Book
  b = book_of l

  taken : FineTaken b.issue (length b.segments) ks stale
  taken = fine_taken (all_get closed k base.fine.drafts (omega (arith, base.lies.four))) opened

  pub there_at : draft_at b.drafts (suc k) ≡ working ks stale
  there_at = or_closed_lem b.drafts k ∙ opened

  same_bytes : bytes_of (with_drafts b (set b.drafts k (working ks stale))) ≡ l
  same_bytes = still l base k (working ks stale) opened

  module _ (e : Edit) (r : in_range (editing e) ≡ true) where
    -- 16
    module _ (absent : copy_of s ks ≡ None) where
      nothing : on_bytes l (on (suc k) s (editing e)) ≡ (refused NotTaken 0, l)
      nothing = book_refused l (on (suc k) s (editing e)) base.lies.long base.sound 16 0 (on_absent b (suc k) ks stale there_at s c₀ there e r absent)

      pub absent_answer : (on_bytes l (on (suc k) s (editing e))).0 ≡ refused NotTaken 0
      absent_answer = ap (λ (x : BookAnswer × List ℕ). x.0) nothing

      pub absent_bytes : (on_bytes l (on (suc k) s (editing e))).1 ≡ l
      absent_bytes = ap (λ (x : BookAnswer × List ℕ). x.1) nothing

    -- a copy
    module _ (h : Content) (copied : copy_of s ks ≡ Some h) where
      found : (q : Answer (Value × Content)) → edit_rule b.issue e h ≡ q
          → on_bytes l (on (suc k) s (editing e)) ≡ ((settle h q).0, bytes_of (with_drafts b (set b.drafts k (working (recopy s (settle h q).1 ks) stale))))
      found (ok z) q =
          book_left l (on (suc k) s (editing e)) base.lies.long base.sound z.0 (with_drafts b (set b.drafts k (working (recopy s z.1 ks) stale)))
          (on_edited b (suc k) ks stale there_at s c₀ there e r h copied z.0 z.1 q)
      found (no n p) q =
          book_refused l (on (suc k) s (editing e)) base.lies.long base.sound n p (on_refused b (suc k) ks stale there_at s c₀ there e r h copied n p q)
          ∙ ap (λ (m : List ℕ). (no n p, m))
          (sym (ap (λ (js : List Copy). bytes_of (with_drafts b (set b.drafts k (working js stale)))) (recopy_same s h ks copied taken.distinct) ∙ same_bytes))

      pub copy_answer : (on_bytes l (on (suc k) s (editing e))).0 ≡ (edited b.issue e h).0
      copy_answer = ap (λ (x : BookAnswer × List ℕ). x.0) (found (edit_rule b.issue e h) refl)

      copy_bytes : (on_bytes l (on (suc k) s (editing e))).1
          ≡ bytes_of (with_drafts b (set b.drafts k (working (recopy s (edited b.issue e h).1 ks) stale)))
      copy_bytes = ap (λ (x : BookAnswer × List ℕ). x.1) (found (edit_rule b.issue e h) refl)

      pub copy_kept : (edited b.issue e h).1 ≡ h → (on_bytes l (on (suc k) s (editing e))).1 ≡ l
      copy_kept same =
          copy_bytes
          ∙ ap (λ (ks : List Copy). bytes_of (with_drafts b (set b.drafts k (working ks stale))))
          (ap (λ (c : Content). recopy s c ks) same ∙ recopy_same s h ks copied taken.distinct)
          ∙ same_bytes

      pub copy_stored : (n : ℕ) → n < 2 → Indexed s ks n → length (edited b.issue e h).1.places ≤ capacity
          → (on_bytes l (on (suc k) s (editing e))).1 ≡ put_block (9 + 2 * k + n) (holding (Some (edited b.issue e h).1)) l
      copy_stored n two v few =
          let c : Content = (edited b.issue e h).1 in
          let new = changed_lies l b base.lies k ks stale low opened s n two v taken.distinct c few in
          let first : block_of 0 (put_block (9 + 2 * k + n) (holding (Some c)) l) ≡ block_of 0 l =
          put_other_block 49 (9 + 2 * k + n) l (holding (Some c)) (omega arith) base.lies.long (used_length c few) 0 (omega arith) (λ z. omega (arith, z)) in
          copy_bytes ∙ sym (own_bytes (put_block (9 + 2 * k + n) (holding (Some c)) l)
          (with_drafts b (set b.drafts k (working (recopy s c ks) stale))) new (ap sealed first ∙ base.seal ∙ sym first))

  -- the copy's block
  module _ (n : ℕ) (v : Indexed s ks n) where
    pub copy_two : n < 2
    copy_two = omega (arith, taken.two, get_low ks n v.here)

    pub copy_fine : is_content b.issue v.held ≡ true
    copy_fine = (all_found n taken.copies v.here).fine

    pub copy_block_lem : block_of (9 + 2 * k + n) l ≡ holding (Some v.held)
    unfolding block_bytes held_in
    copy_block_lem =
        let i : ℕ = 8 + 2 * k + n in
        let e : 9 + 2 * k + n ≡ suc (8 + 2 * k + n) = omega arith in
        ap (λ (i : ℕ). block_of i l) e ∙ base.lies.blocks (8 + 2 * k + n) (omega (arith, copy_two))
        ∙ ap (λ (i : ℕ). holding (held_in b (part_of i))) (sym e)
        ∙ ap (λ p. holding (held_in b p)) (part_copy k n low copy_two)
        ∙ ap (λ (d : Draft). holding (held_of (slice_get (copies_of d) n))) (or_closed_lem b.drafts k ∙ opened)
        ∙ ap (λ o. holding (held_of o)) v.here
