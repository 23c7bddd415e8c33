-- The heading, the identifier and the storm: how large they are, and the places of their refusals. Assumes nothing.
use Prim.Native.Nat.{ℕ, zero, suc, ◌+◌, ◌-◌, ◌*◌, ◌≤◌, ◌<◌}
use native.Mathlib.Omega.{arith}
use mathlib.Core.Path.{◌≡◌, refl, sym, ◌∙◌, subst}
use mathlib.Core.Bool.{Bool, true, false, cond, ◌||◌}
use mathlib.Core.List.{List, [], ◌∷◌, ◌++◌}
use Rattle.std.specs.Prelude.{Option, None, Some}
use lib.ListN.{length, drop, get_or, length-append, length-drop}
use lib.Seq.{drop-drop}
use lib.Dec.{leb, eqb}
use borrow.Author.Tests.{leb-true, eqb-true}
use Rattle.laws.proofs.Tests.{by, apart, impossible, either_way, and_left, and_right}
use Rattle.laws.proofs.Lists.{all_append, all_map, all_drop}
use Rattle.laws.specs.Lists.{All, all_nil, all_cons}
use Rattle.refusal.specs.declared.Reason.TheVariants.{WrongHeading, WrongIdentifier, WrongStorm}
use Rattle.lines.specs.Bytes.{Kind, between, capital, digit, is, word, begins, exactly}
use Rattle.lines.specs.Lines.{Line, blank}
use Rattle.lines.proofs.Strings.{exactly_is}
use Rattle.calendar.specs.Calendar.{is_time}
use Rattle.codes.specs.Places.{two_of}
use Rattle.codes.specs.Elements.{stamp_of}
use Rattle.heading.specs.Heading.{Heading, times, heading_form, amendment, amended_form, is_heading, bbb_after, heading_of, is_identifier}
use Rattle.heading.specs.Storm as storms
use Rattle.heading.specs.Storm.{storm_form, names_storm, basin_of, ClassName, class_of, StormName, StormSaid, storm_of, identified, is_office}
use Rattle.heading.specs.Paper.{paper_basin}
use Rattle.heading.specs.declared.Basin.{Basin}
use Rattle.heading.specs.declared.Basin.TheVariants.{Al, Sl, Ep, Cp, Wp}
use Rattle.segments.specs.Search.{closes}
use Rattle.bulletin.specs.Mnd.{storm_said, office_storm, storm_in}
use Rattle.bulletin.specs.Bulletin.{line1, line2, headed}
use Rattle.packing.specs.Packing.{year_end}
use Rattle.packing.proofs.Kept.{Marked, unmarked, marked, Known, Small, small_none, small_some}
use Rattle.plugin.proofs.Within.{Within, later_within, from_within, up_within, Low, low_ok, low_refused}

-- ---- bytes of a form
-- capitals, digits and the space: none is 0, and none is above Z
pub record Letter (b : ℕ) : Type 0 where
  pub from : 1 ≤ b
  pub to : b ≤ 90

abbrev Safe : Kind → Type 0
Safe k = (b : ℕ) → k b ≡ true → Letter b

safe_between : (low high : ℕ) → 1 ≤ low → high ≤ 90 → Safe (between low high)
safe_between low high h k b e =
    record {
      from = omega (arith, leb-true low b (and_left (leb low b) (leb b high) e));
      to = omega (arith, leb-true b high (and_right (leb low b) (leb b high) e));
    }

safe_is : (c : ℕ) → 1 ≤ c → c ≤ 90 → Safe (is c)
safe_is c h k b e = let same : b ≡ c = eqb-true b c e in record { from = omega arith; to = omega arith }

safe_or : (j k : Kind) → Safe j → Safe k → Safe (λ (b : ℕ). j b || k b)
safe_or j k f g b e = by (j b) (λ t. f b t) (λ t. g b (rw t at e))

safe_times : (n : ℕ) (k : Kind) → Safe k → All Safe (times n k)
safe_times zero k f = all_nil
safe_times (suc n) k f = all_cons f (safe_times n k f)

safe_capital : Safe capital
safe_capital = safe_between 65 90 (omega arith) (omega arith)

safe_digit : Safe digit
safe_digit = safe_between 48 57 (omega arith) (omega arith)

safe_space : All Safe (word " ")
safe_space = all_cons (safe_is 32 (omega arith) (omega arith)) all_nil

letters : (ks : List Kind) (s : List ℕ) → All Safe ks → exactly ks s ≡ true → All Letter s
unfolding exactly
letters [] [] a e = all_nil
letters [] (b ∷ s) a e = apart cc
letters (k ∷ ks) [] a e = apart cc
letters (k ∷ ks) (b ∷ s) (all_cons f a) e = all_cons (f b (and_left (k b) (exactly ks s) e)) (letters ks s a (and_right (k b) (exactly ks s) e))

exactly_long : (ks : List Kind) (s : List ℕ) → exactly ks s ≡ true → length s ≡ length ks
exactly_long ks s e = eqb-true (length s) (length ks) (and_left (eqb (length s) (length ks)) (begins ks s) (sym (exactly_is ks s) ∙ e))

letter_at : {s : List ℕ} (i : ℕ) → All Letter s → get_or s i 0 ≤ 90
letter_at i all_nil = omega arith
letter_at zero (all_cons f a) = f.to
letter_at (suc i) (all_cons f a) = letter_at i a

-- ---- the BBB
abbrev MarkedOn : Heading → Type 0
MarkedOn h = Marked h.bbb

safe_heading : All Safe heading_form
safe_heading =
    all_append (safe_times 4 capital safe_capital)
    (all_append (safe_times 2 digit safe_digit)
    (all_append safe_space (all_append (safe_times 4 capital safe_capital) (all_append safe_space (safe_times 6 digit safe_digit)))))

safe_amendment : Safe amendment
safe_amendment = safe_or (between 65 88) (is 90) (safe_between 65 88 (omega arith) (omega arith)) (safe_is 90 (omega arith) (omega arith))

safe_amended : (w : List Kind) → All Safe w → All Safe (heading_form ++ (word " " ++ (w ++ (amendment ∷ []))))
safe_amended w a = all_append safe_heading (all_append safe_space (all_append a (all_cons safe_amendment all_nil)))

twice : (c : ℕ) → 1 ≤ c → c ≤ 90 → All Safe (is c ∷ is c ∷ [])
twice c h k = all_cons (safe_is c h k) (all_cons (safe_is c h k) all_nil)

plain_marked : (t : List ℕ) → length t ≡ 0 → Marked (bbb_after t)
plain_marked [] h = unmarked
plain_marked (b ∷ t) h = impossible (omega arith)

amended_marked : (t : List ℕ) → All Letter t → length t ≡ 4 → Marked (bbb_after t)
amended_marked [] a h = impossible (omega arith)
amended_marked (space ∷ bbb) (all_cons f a) h = marked (all_map (λ b f. record { from = f.from; below = omega (arith, f.to) }) a) (omega arith)

-- the line has one of the forms with a BBB
form_marked : (s : List ℕ) (w : List Kind) → All Safe w → length w ≡ 2 → exactly (heading_form ++ (word " " ++ (w ++ (amendment ∷ [])))) s ≡ true → Marked (bbb_after (drop 18 s))
form_marked s w a h e =
    let ks = heading_form ++ (word " " ++ (w ++ (amendment ∷ []))) in
    let long : length ks ≡ 22 = simp length-append (omega (arith, h)) in
    amended_marked (drop 18 s) (all_drop 18 (letters ks s (safe_amended w a) e)) (omega (arith, length-drop 18 s, exactly_long ks s e, long))

heading_marked : (s : List ℕ) → is_heading s ≡ true → Marked (bbb_after (drop 18 s))
unfolding is_heading
heading_marked s e =
    let t = is_time (stamp_of (drop 12 s)) in
    let p = exactly heading_form s in
    let a = exactly (amended_form "AA") s in
    let c = exactly (amended_form "CC") s in
    let r = exactly (amended_form "RR") s in
    let forms : (p || a || c || r) ≡ true = and_left (p || a || c || r) t e in
    by p (λ q. plain_marked (drop 18 s) (omega (arith, length-drop 18 s, exactly_long heading_form s q)))
    λ np. by a (λ q. form_marked s (word "AA") (twice 65 (omega arith) (omega arith)) refl q)
    λ na. by c (λ q. form_marked s (word "CC") (twice 67 (omega arith) (omega arith)) refl q)
    λ nc. form_marked s (word "RR") (twice 82 (omega arith) (omega arith)) refl (rw (np, na, nc) at forms)

headed_low : (n : ℕ) (s : List ℕ) → Low n MarkedOn (headed (heading_of s))
unfolding heading_of
headed_low n s =
    by (is_heading s)
    (λ t. rw t (low_ok _ (heading_marked s t)))
    (λ t. rw t (low_refused n MarkedOn WrongHeading 0 (omega arith)))

pub line1_low : (n : ℕ) (ls : List Line) → Low n (λ (h : Heading). Marked h.bbb) (line1 ls)
line1_low n [] = low_refused n MarkedOn WrongHeading 0 (omega arith)
line1_low n (l ∷ ls) = headed_low n l.body

-- ---- the identifier
pub line2_low : (n stop : ℕ) → stop ≤ n → {ls : List Line} → All (Within n) ls → Low n (λ (at : ℕ). at ≤ n) (line2 stop ls)
line2_low n stop h all_nil = low_refused n (λ (at : ℕ). at ≤ n) WrongIdentifier stop h
line2_low n stop h (all_cons {x = l} f a) =
    either_way (Low n (λ (at : ℕ). at ≤ n)) (is_identifier l.body) (low_ok l.start f.start) (low_refused n (λ (at : ℕ). at ≤ n) WrongIdentifier l.start f.start)

-- ---- the storm
class_most : (k : ℕ) (c : ClassName) → class_of k ≡ Some c → k ≤ 99
unfolding class_of
class_most k c e =
    by (between 1 49 k) (λ t. within 1 49 (omega arith) t)
    λ t1. by (between 50 79 k) (λ t. within 50 79 (omega arith) t)
    λ t2. by (between 80 89 k) (λ t. within 80 89 (omega arith) t)
    λ t3. by (between 90 99 k) (λ t. within 90 99 (omega arith) t)
    λ t4. let f : None ≡ Some c = rw (t1, t2, t3, t4) at e in apart cc
  where
    within : (low high : ℕ) → high ≤ 99 → between low high k ≡ true → k ≤ 99
    within low high h t = omega (arith, leb-true k high (and_right (leb low k) (leb k high) t))

two_most : (s : List ℕ) → All Letter s → two_of s ≤ 462
two_most s a = omega (arith, letter_at 0 a, letter_at 1 a)

safe_storm : All Safe storm_form
safe_storm = all_append safe_space (all_append (safe_times 2 capital safe_capital) (safe_times 6 digit safe_digit))

end_letters : (s : List ℕ) → names_storm s ≡ true → All Letter (drop (length s - 8) s)
unfolding names_storm
end_letters s e =
    let t = drop (length s - 9) s in
    let long : length t ≡ 9 = exactly_long storm_form t e in
    let k : length s - 9 + 1 ≡ length s - 8 = omega (arith, length-drop (length s - 9) s) in
    subst (λ (j : ℕ). All Letter (drop j s)) k (subst (All Letter) (drop-drop 1 (length s - 9) s) (all_drop 1 (letters storm_form t safe_storm e)))

one_known : (w : Basin) (t : Bool) (rest : Option (List ℕ)) (b : List ℕ) → cond t (Some (paper_basin w)) rest ≡ Some b → (rest ≡ Some b → Known b) → Known b
one_known w true rest b e f = record { basin = w; same = cc }
one_known w false rest b e f = f e

basin_known : (e b : List ℕ) → basin_of e ≡ Some b → Known b
unfolding basin_of
basin_known e b h =
    one_known Al (begins (word "AL") e) _ b h
    λ h1. one_known Sl (begins (word "SL") e) _ b h1
    λ h2. one_known Ep (begins (word "EP") e) _ b h2
    λ h3. one_known Cp (begins (word "CP") e) _ b h3
    λ h4. one_known Wp (begins (word "WP") e) None b h4
    λ h5. apart cc

identified_small : (d : List ℕ) (b : Option (List ℕ)) (k y : ℕ) (c : Option ClassName) (x : StormName) → basin_of d ≡ b → class_of k ≡ c → y < year_end
    → identified b c k y ≡ storms.storm x → Small (Some x)
identified_small d None k y c x p q h e = apart cc
identified_small d (Some b) k y None x p q h e = apart cc
identified_small d (Some b) k y (Some c) x p q h e =
    let same : record { basin = b; class = c; number = k; year = y } ≡ x = cc in
    subst (λ (s : StormName). Small (Some s)) same (small_some (basin_known d b p) (omega (arith, class_most k c q)) h)

storm_small : (s : List ℕ) (x : StormName) → storm_of s ≡ storms.storm x → Small (Some x)
unfolding storm_of
storm_small s x e =
    by (names_storm s)
    (λ t.
    let d = drop (length s - 8) s in
    let a : All Letter d = end_letters s t in
    let f : storms.storm_spelled d ≡ storms.storm x = rw t at e in
    identified_small d (basin_of d) (two_of (drop 2 d)) (100 * two_of (drop 4 d) + two_of (drop 6 d)) (class_of (two_of (drop 2 d))) x refl refl
    (omega (arith, two_most (drop 4 d) (all_drop 4 a), two_most (drop 6 d) (all_drop 6 a))) f)
    (λ t. let f : storms.no_storm ≡ storms.storm x = rw t at e in apart cc)

said_low : (n : ℕ) (l : Line) → Within n l → (x : StormSaid) → storm_of l.body ≡ x → Low n Small (storm_said l x)
said_low n l f storms.no_storm e = low_ok None small_none
said_low n l f (storms.storm name) e = low_ok (Some name) (storm_small l.body name e)
said_low n l f storms.refused_storm e = low_refused n Small WrongStorm (l.start + (length l.body - 8)) (omega (arith, f.start, f.end))

office_low : (n : ℕ) {ls : List Line} → All (Within n) ls → Low n Small (office_storm ls)
office_low n all_nil = low_ok None small_none
office_low n (all_cons {x = l} f a) = said_low n l f (storm_of l.body) refl

pub storm_low : (n : ℕ) {ls : List Line} → All (Within n) ls → Low n Small (storm_in ls)
unfolding storm_in
storm_low n a = office_low n (from_within is_office (up_within closes (later_within (from_within blank (later_within (later_within a))))))
