-- The ways out of packing: what the code puts in a number is the packed answer. Assumes nothing.
use Rattle.std.specs.Prelude.{Option, None, Some, Result, Ok, Err, option_map}
use Prim.Native.Nat.{ℕ, ◌+◌, ◌*◌, ◌-◌, ◌%◌, ◌<◌}
use native.Mathlib.Omega.{arith}
use mathlib.Core.Path.{◌≡◌, refl, sym, ap, ◌∙◌}
use Rattle.refusal.specs.Answer.{answer_by, answer_of}
use Rattle.refusal.specs.declared.Refusal.{Refusal}
use Rattle.heading.specs.Paper.{paper_bbb, paper_id, paper_storm}
use Rattle.heading.specs.declared.Bbb.{Bbb}
use Rattle.heading.specs.declared.StormId.{StormId}
use Rattle.heading.specs.declared.Storm.{Storm}
use Rattle.heading.specs.declared.Storm.TheVariants as found
use Rattle.layout.specs.Rule.{segments_said}
use Rattle.layout.specs.declared.Changed.{Changed}
use Rattle.layout.specs.declared.Changed.TheVariants as changed
use Rattle.packing.specs.Packing.{cell, pack, PacksBy, spelled, rest_end, start_end, size_end, view_bits, bbb_bits, name_bits, storm_bits}

-- the number that the code builds
pub cell_is : (low rest : ℕ) → low % 256 + 256 * (rest % rest_end) ≡ cell low rest
unfolding cell
cell_is low rest = refl

-- ---- the segments that changed
module _ (c : Changed) where
  pub spell_none : c ≡ changed.Nothing → 0 ≡ spelled (segments_said c)
  unfolding spelled
  spell_none q = ap (λ (x : Changed). spelled (segments_said x)) (sym q)

  pub spell_one : (a : ℕ) → c ≡ changed.One a → a % 256 ≡ spelled (segments_said c)
  unfolding spelled
  spell_one a q = let e : a % 256 ≡ a % 256 + 256 * 0 = omega arith in e ∙ ap (λ (x : Changed). spelled (segments_said x)) (sym q)

  pub spell_two : (a b : ℕ) → c ≡ changed.Two a b → a % 256 + 256 * (b % 256) ≡ spelled (segments_said c)
  unfolding spelled
  spell_two a b q =
      let e : a % 256 + 256 * (b % 256) ≡ a % 256 + 256 * (b % 256 + 256 * 0) = omega arith in
      e ∙ ap (λ (x : Changed). spelled (segments_said x)) (sym q)

-- ---- a BBB
module _ (x : Option Bbb) where
  pub bbb_none : x ≡ None → 0 ≡ bbb_bits (option_map paper_bbb x)
  unfolding bbb_bits
  bbb_none q = ap (λ (y : Option Bbb). bbb_bits (option_map paper_bbb y)) (sym q)

  pub bbb_code : (a b c : ℕ) → x ≡ Some (record { 0 = a; 1 = b; 2 = c }) → (u v w : ℕ) → u ≡ a % 256 → v ≡ b % 256 → w ≡ c % 256
      → u + 256 * v + 65536 * w ≡ bbb_bits (option_map paper_bbb x)
  unfolding bbb_bits spelled
  bbb_code a b c q u v w eu ev ew =
      let e : u + 256 * v + 65536 * w ≡ a % 256 + 256 * (b % 256 + 256 * (c % 256 + 256 * 0)) = omega arith in
      e ∙ ap (λ (y : Option Bbb). bbb_bits (option_map paper_bbb y)) (sym q)

-- ---- a storm
module _ (s : Storm) where
  pub storm_none : s ≡ found.None → 0 ≡ storm_bits (paper_storm s)
  unfolding storm_bits
  storm_none q = ap (λ (x : Storm). storm_bits (paper_storm x)) (sym q)

  pub storm_found : (id : StormId) → s ≡ found.Found id → (r : ℕ) → r ≡ name_bits (paper_id id) → r ≡ storm_bits (paper_storm s)
  unfolding storm_bits
  storm_found id q r e = e ∙ ap (λ (x : Storm). storm_bits (paper_storm x)) (sym q)

-- ---- a view
pub view_none : (a b : ℕ) → b < a → a % start_end ≡ view_bits (record { start = a; size = b - a })
unfolding view_bits
view_none a b h =
    let z : b - a ≡ 0 = omega arith in
    let e : a % start_end ≡ a % start_end + start_end * (0 % size_end) = omega arith in
    e ∙ ap (λ (n : ℕ). a % start_end + start_end * (n % size_end)) (sym z)

pub view_some : (a b : ℕ) → a % start_end + start_end * ((b - a) % size_end) ≡ view_bits (record { start = a; size = b - a })
unfolding view_bits
view_some a b = refl

-- ---- an answer, whose value's bits are known
pub packs : {T A : Type 0} (f : A → ℕ) (said : T → A) (bits : T → ℕ → Type 0) (answer : Result T Refusal) (r : ℕ) → PacksBy bits answer r
    → ((x : T) (n : ℕ) → answer ≡ Ok x → bits x n → n ≡ f (said x)) → r ≡ pack f (answer_by said answer)
unfolding pack
packs f said bits (Ok x) r p known = p.2 ∙ ap (cell 0) (known x p.0 refl p.1)
packs f said bits (Err w) r p known = p

-- one whose value is the paper's own
pub packs_it : {A : Type 0} (f : A → ℕ) (bits : A → ℕ → Type 0) (answer : Result A Refusal) (r : ℕ) → PacksBy bits answer r
    → ((x : A) (n : ℕ) → answer ≡ Ok x → bits x n → n ≡ f x) → r ≡ pack f (answer_of answer)
unfolding pack
packs_it f bits (Ok x) r p known = p.2 ∙ ap (cell 0) (known x p.0 refl p.1)
packs_it f bits (Err w) r p known = p
