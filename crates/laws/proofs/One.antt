-- One answer for each input: two results of which a promise says the same are equal. Assumes nothing.
use Prim.Native.Nat.{ℕ}
use mathlib.Core.Path.{◌≡◌, sym, ◌∙◌}
use mathlib.Core.List.{List}

-- where the promise says what the answer is
pub answer_one : {A : Type 0} {x : A} (r s : A) → r ≡ x → s ≡ x → r ≡ s
answer_one r s a b = a ∙ sym b

-- where it says what the paper makes of the answer, and no two answers are one on paper
pub paper_one : {A B : Type 0} (f : A → B) → ((r s : A) → f r ≡ f s → r ≡ s) → {x : B} (r s : A) → f r ≡ x → f s ≡ x → r ≡ s
paper_one f one r s a b = one r s (a ∙ sym b)

-- where a call changes lent bytes: two results are one, the answers r and q and the bytes afterwards m and n
pub record Same {A : Type 0} (r q : A) (m n : List ℕ) : Type 0 where
  pub answers : r ≡ q
  pub bytes : m ≡ n
