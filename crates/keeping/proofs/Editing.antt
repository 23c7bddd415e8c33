-- A content that is fine stays so under every edit in range. Assumes nothing.
use Prim.Native.Nat.{ℕ}
use mathlib.Core.Path.{◌≡◌}
use mathlib.Core.Bool.{true, not}
use lib.ListN.{length}
use Rattle.std.specs.Prelude.{slice_get}
use lib.Dec.{ltb, eqb}
use borrow.Author.Tests.{ltb-true, lt-leb, not-true}
use Rattle.laws.proofs.Tests.{and_left, and_right}
use Rattle.refusal.specs.declared.Reason.TheVariants.{WrongTime, SegmentFull, OnlyPlace, OutOfRange}
use Rattle.calendar.specs.Purge.{purge_of, is_purge}
use Rattle.calendar.proofs.Laws.{purge_is_lem}
use Rattle.codes.specs.Places.{places_end, capacity, is_set}
use Rattle.codes.specs.Block.{Content}
use Rattle.blocks.specs.Content.{is_content}
use Rattle.steps.specs.Calls.{Edit, read_purge, read_count, read_place, add, remove, set_purge, editing, Value, member, edit_rule, in_range}
use Rattle.steps.proofs.Chains.{Told, told_ok, told_must, told_find, told_cond}
use Rattle.layout.specs.Sound.{Fine}
use Rattle.keeping.proofs.Places.{insert_set, without_set}

-- a content is fine by its places and its purge
pub fine_is : (issue : ℕ) (c : Content) → is_set c.places ≡ true → is_purge issue c.purge ≡ true → Fine issue c
unfolding is_content
fine_is issue c s p = rw (s, p)

pub fine_places : (issue : ℕ) (c : Content) → Fine issue c → is_set c.places ≡ true
unfolding is_content
fine_places issue c f = and_left (is_set c.places) (is_purge issue c.purge) f

pub fine_purge : (issue : ℕ) (c : Content) → Fine issue c → is_purge issue c.purge ≡ true
unfolding is_content
fine_purge issue c f = and_right (is_set c.places) (is_purge issue c.purge) f

pub edit_fine : (issue : ℕ) (e : Edit) (c : Content) → Fine issue c → in_range (editing e) ≡ true
    → Told (λ (z : Value × Content). Fine issue z.1) (edit_rule issue e c)
unfolding edit_rule
edit_fine issue read_purge c f r = told_ok _ f
edit_fine issue read_count c f r = told_ok _ f
edit_fine issue (read_place i) c f r = told_find (slice_get c.places i) OutOfRange _ (λ p e. told_ok _ f)
edit_fine issue (add p) c f r =
    told_cond (member p c.places) _ _
    (λ t. told_ok _ f)
    (λ t. told_must (ltb (length c.places) capacity) SegmentFull _
    (λ u. told_ok _ (fine_is issue _
    (insert_set p c.places (fine_places issue c f) t
    (lt-leb capacity (length c.places) (ltb-true (length c.places) capacity u)) (ltb-true p places_end r))
    (fine_purge issue c f))))
edit_fine issue (remove p) c f r =
    told_cond (member p c.places) _ _
    (λ t. told_must (not (eqb (length c.places) 1)) OnlyPlace _
    (λ u. told_ok _ (fine_is issue _ (without_set p c.places (fine_places issue c f) t (not-true _ u)) (fine_purge issue c f))))
    (λ t. told_ok _ f)
edit_fine issue (set_purge s) c f r =
    told_find (purge_of issue s) WrongTime _ (λ m e. told_ok _ (fine_is issue _ (fine_places issue c f) (purge_is_lem issue s m e)))
