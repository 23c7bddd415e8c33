-- The readings of document 01 are one to one: what the paper says of an answer is said of no other. Assumes nothing.
use Rattle.std.specs.Prelude.{Option, None, Some, option_map, Result, Ok, Err, IfErr}
use Prim.Native.Nat.{ℕ}
use mathlib.Core.Path.{◌≡◌, refl, sym, ap, ◌∙◌}
use mathlib.Core.Bool.{cond}
use mathlib.Core.List.{List}
use lib.ListN.{get_or}
use lib.Dec.{eqb}
use Rattle.laws.proofs.Tests.{apart}
use Rattle.heading.specs.Heading as heading
use Rattle.heading.specs.Storm.{ClassName, cyclone, internal, training, disturbance, StormSaid}
use Rattle.heading.specs.Paper.{paper_bbb, paper_heading, paper_basin, paper_class, paper_id, paper_storm, paper_named}
use Rattle.heading.specs.declared.Bbb.{Bbb}
use Rattle.heading.specs.declared.Heading.{Heading}
use Rattle.heading.specs.declared.Basin.{Basin}
use Rattle.heading.specs.declared.Basin.TheVariants.{Al, Sl, Ep, Cp, Wp}
use Rattle.heading.specs.declared.Class.{Class}
use Rattle.heading.specs.declared.Class.TheVariants.{Cyclone, Internal, Training, Disturbance}
use Rattle.heading.specs.declared.StormId.{StormId}
use Rattle.heading.specs.declared.Storm.{Storm}
use Rattle.heading.specs.declared.Storm.TheVariants as found
use Rattle.refusal.specs.declared.Reason.{Reason}
use Rattle.refusal.specs.declared.Reason.TheVariants.{WrongStorm}

-- ---- line 1
bbb_one : (a b : Option Bbb) → option_map paper_bbb a ≡ option_map paper_bbb b → a ≡ b
bbb_one None None e = refl
bbb_one None (Some y) e = apart cc
bbb_one (Some x) None e = apart cc
bbb_one (Some x) (Some y) e =
    let first : x.0 ≡ y.0 = cc in
    let second : x.1 ≡ y.1 = cc in
    let third : x.2 ≡ y.2 = cc in
    λ i. Some (record { 0 = first i; 1 = second i; 2 = third i })

pub heading_one : (h k : Heading) → paper_heading h ≡ paper_heading k → h ≡ k
heading_one h k p =
    let b : h.bbb ≡ k.bbb = bbb_one h.bbb k.bbb (λ i. (p i).bbb) in
    λ i. record { stamp = (p i).stamp; bbb = b i }

two_headed : (a b : Option Heading) → option_map paper_heading a ≡ option_map paper_heading b → a ≡ b
two_headed None None e = refl
two_headed None (Some h) e = apart cc
two_headed (Some h) None e = apart cc
two_headed (Some h) (Some k) e =
    let p : paper_heading h ≡ paper_heading k = cc in
    ap Some (heading_one h k p)

pub headed_one : {x : Option heading.Heading} (r s : Option Heading) → option_map paper_heading r ≡ x → option_map paper_heading s ≡ x → r ≡ s
headed_one r s p q = two_headed r s (p ∙ sym q)

-- ---- the storm
-- the basins' first letters differ
basin_by : List ℕ → Basin
basin_by l = cond (eqb (get_or l 0 0) 65) Al (cond (eqb (get_or l 0 0) 83) Sl (cond (eqb (get_or l 0 0) 69) Ep (cond (eqb (get_or l 0 0) 67) Cp Wp)))

basin_by_lem : (b : Basin) → basin_by (paper_basin b) ≡ b
unfolding basin_by
basin_by_lem = elim [ Al ↦ refl | Sl ↦ refl | Ep ↦ refl | Cp ↦ refl | Wp ↦ refl ]

class_by : ClassName → Class
class_by cyclone = Cyclone
class_by internal = Internal
class_by training = Training
class_by disturbance = Disturbance

class_by_lem : (c : Class) → class_by (paper_class c) ≡ c
unfolding class_by
class_by_lem = elim [ Cyclone ↦ refl | Internal ↦ refl | Training ↦ refl | Disturbance ↦ refl ]

id_one : (i j : StormId) → paper_id i ≡ paper_id j → i ≡ j
id_one i j p =
    let b : i.basin ≡ j.basin = sym (basin_by_lem i.basin) ∙ ap basin_by (λ k. (p k).basin) ∙ basin_by_lem j.basin in
    let c : i.class ≡ j.class = sym (class_by_lem i.class) ∙ ap class_by (λ k. (p k).class) ∙ class_by_lem j.class in
    λ k. record { basin = b k; class = c k; number = (p k).number; year = (p k).year }

pub storm_one : (a b : Storm) → paper_storm a ≡ paper_storm b → a ≡ b
storm_one found.None found.None e = refl
storm_one found.None (found.Found j) e = apart cc
storm_one (found.Found i) found.None e = apart cc
storm_one (found.Found i) (found.Found j) e =
    let p : paper_id i ≡ paper_id j = cc in
    ap found.Found (id_one i j p)

abbrev Wrong_only : Result Storm Reason → Type 0
Wrong_only r = IfErr r (λ (w : Reason). w ≡ WrongStorm)

two_named : (a b : Result Storm Reason) → Wrong_only a → Wrong_only b → paper_named a ≡ paper_named b → a ≡ b
two_named (Ok found.None) (Ok found.None) v w e = refl
two_named (Ok found.None) (Ok (found.Found j)) v w e = apart cc
two_named (Ok found.None) (Err y) v w e = apart cc
two_named (Ok (found.Found i)) (Ok found.None) v w e = apart cc
two_named (Ok (found.Found i)) (Ok (found.Found j)) v w e =
    let p : paper_id i ≡ paper_id j = cc in
    ap (λ (id : StormId). Ok (found.Found id)) (id_one i j p)
two_named (Ok (found.Found i)) (Err y) v w e = apart cc
two_named (Err x) (Ok found.None) v w e = apart cc
two_named (Err x) (Ok (found.Found j)) v w e = apart cc
two_named (Err x) (Err y) v w e = ap Err (v ∙ sym w)

pub named_one : {x : StormSaid} (r s : Result Storm Reason) → IfErr r (λ (w : Reason). w ≡ WrongStorm) → IfErr s (λ (w : Reason). w ≡ WrongStorm)
    → paper_named r ≡ x → paper_named s ≡ x → r ≡ s
named_one r s v w p q = two_named r s v w (p ∙ sym q)
