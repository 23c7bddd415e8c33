-- A block that is lent as a part of a book, by two bounds, and comes back. Assumes nothing.
use mathlib.Core.Path.{◌≡◌, ap, ◌∙◌}
use mathlib.Core.List.{List}
use Prim.Native.Nat.{ℕ, ◌+◌, ◌*◌, ◌-◌}
use native.Mathlib.Nat.{add-sub_cancel_left}
use lib.ListN.{take, drop}
use borrow.Rule.Slice.PartMut.{put_mid}
use Rattle.blocks.specs.Block.{block_of, put_block}

pub part_is : (i : ℕ) (l : List ℕ) → take (i * 512 + 512 - i * 512) (drop (i * 512) l) ≡ block_of i l
unfolding block_of
part_is i l = rw add-sub_cancel_left

pub put_is : (i : ℕ) (l b : List ℕ) → put_mid (i * 512) (i * 512 + 512 - i * 512) l b ≡ put_block i b l
unfolding put_block
put_is i l b = rw add-sub_cancel_left

pub put_part : (k : ℕ) (l b c : List ℕ) → b ≡ c → put_mid (k * 512) (k * 512 + 512 - k * 512) l b ≡ put_block k c l
put_part k l b c e = put_is k l b ∙ ap (λ (d : List ℕ). put_block k d l) e

-- what a function makes of the part
pub put_made : (f : List ℕ → List ℕ) (k : ℕ) (l b : List ℕ) → b ≡ f (take (k * 512 + 512 - k * 512) (drop (k * 512) l))
    → put_mid (k * 512) (k * 512 + 512 - k * 512) l b ≡ put_block k (f (block_of k l)) l
put_made f k l b e = put_part k l b (f (block_of k l)) (e ∙ ap f (part_is k l))

-- what is read in a part
pub part_read : {A : Type 0} (f : List ℕ → A) (k : ℕ) (l : List ℕ) (r : A)
    → r ≡ f (take (k * 512 + 512 - k * 512) (drop (k * 512) l)) → r ≡ f (block_of k l)
part_read f k l r e = e ∙ ap f (part_is k l)
