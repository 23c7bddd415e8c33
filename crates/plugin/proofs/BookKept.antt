-- No answer of a call on a book is lost in its packing. Assumes nothing.
use Prim.Native.Nat.{ℕ, zero, suc, ◌+◌, ◌≤◌, ◌<◌}
use native.Mathlib.Omega.{arith}
use mathlib.Core.Path.{◌≡◌, refl}
use mathlib.Core.Bool.{Bool, true, false, not}
use mathlib.Core.List.{List, [], ◌∷◌}
use Rattle.std.specs.Prelude.{Option, None, Some}
use lib.ListN.{length, length-map}
use Rattle.std.specs.Prelude.{slice_get}
use lib.Dec.{ltb, eqb}
use Rattle.laws.proofs.Tests.{apart}
use Rattle.laws.specs.Lists.{All, all_nil, all_cons}
use Rattle.refusal.specs.declared.Reason.{Reason}
use Rattle.refusal.specs.declared.Reason.TheVariants.{WrongLength, WrongTime, NotSound, NoDraft, AllOpen, NoSuchSegment, NotTaken, TakenAlready, TwoTaken, SegmentFull, OnlyPlace, StaleDraft, NoStep, OutOfRange}
use Rattle.refusal.specs.Answer.{Answer, refused}
use Rattle.calendar.specs.Purge.{purge_of}
use Rattle.calendar.proofs.Laws.{purge_low}
use Rattle.codes.specs.Places.{places_end, capacity, Ascending, nil, cons}
use Rattle.codes.specs.Block.{Content}
use Rattle.blocks.specs.Block.{book_length, Bytes}
use Rattle.blocks.proofs.Contents.{purge_32}
use Rattle.steps.specs.Book.{Copy, Draft, closed, working, Book, at, draft_at}
use Rattle.steps.specs.Calls.{Value, draft, done, number, was, changed, Edit, read_purge, read_count, read_place, add, remove, set_purge, Work, taking, editing, Call, opening, on, commit, drop, undo, settle, member, edit_rule, in_range, copy_of, has, work_rule, changes, segments_named, lowest, newest, open_draft, book_rule}
use Rattle.steps.proofs.Chains.{Told, told_no, told_ok, told_must, told_find, told_then, told_cond}
use Rattle.layout.specs.Layout.{book_of}
use Rattle.layout.specs.Sound.{Fine, FineCopy, Sound}
use Rattle.layout.specs.Tests.{is_sound}
use Rattle.layout.specs.Rule.{bytes_rule, on_bytes}
use Rattle.layout.proofs.SoundBack.{sound_book}
use Rattle.codes.proofs.Sets.{set_true}
use Rattle.keeping.proofs.Editing.{fine_places, fine_purge}
use Rattle.keeping.proofs.Working.{copy_fine}
use Rattle.keeping.proofs.Changing.{changes_fine, newest_fine}
use Rattle.keeping.proofs.Keeping.{draft_fine, open_fine}
use Rattle.packing.specs.Packing.{packed, unpacked, value_bits, value_of, edit_value, work_value, segments_in}
use Rattle.packing.proofs.Kept.{Kept, kept_ok, back, refused_kept, Byte, Returns, segments_back}
use Rattle.plugin.specs.Rules.{place_at}

refusal_kept : (value : ℕ → Value) (r : Reason) → Kept value_bits value (refused r 0)
refusal_kept value r = refused_kept value_bits value r 0 (omega arith)

-- a rule of which every value is found again
abbrev Back : (ℕ → Value) → {A : Type 0} → Value × A → Type 0
Back value z = Returns value_bits value z.0

settle_kept : {A : Type 0} (value : ℕ → Value) (x : A) (r : Answer (Value × A)) → Told (Back value) r → Kept value_bits value (settle x r).0
settle_kept value x _ (told_no r) = refusal_kept value r
settle_kept value x _ (told_ok z q) = kept_ok z.0 q.low q.same

-- ---- an edit of a copy
place_end : {b : ℕ} {ps : List ℕ} (i p : ℕ) → Ascending b ps → slice_get ps i ≡ Some p → p < places_end
place_end i p nil e = apart cc
place_end zero p (cons {p = q} h k a) e = let same : q ≡ p = cc in omega arith
place_end (suc i) p (cons h k a) e = place_end i p a e

-- a number below 2^32
number_back : (n : ℕ) → n < 4294967296 → Returns value_bits number (number n)
unfolding value_bits
number_back n h = record { low = omega arith; same = refl }

pub place_kept : (ps : List ℕ) (i : ℕ) → Ascending 0 ps → (o : Option ℕ) → slice_get ps i ≡ o → Kept value_bits number (place_at o)
place_kept ps i a None e = refusal_kept number OutOfRange
place_kept ps i a (Some p) e = let q = number_back p (omega (arith, place_end i p a e)) in kept_ok (number p) q.low q.same

abbrev found : ℕ → Value
found r = was (eqb r 1)

was_back : (t : Bool) → Returns value_bits found (was t)
unfolding value_bits
was_back true = record { low = omega arith; same = refl }
was_back false = record { low = omega arith; same = refl }

edit_back : (issue : ℕ) (e : Edit) (c : Content) → Fine issue c → Told (Back (edit_value e)) (edit_rule issue e c)
unfolding edit_rule
edit_back issue read_purge c f = told_ok _ (number_back c.purge (omega (arith, purge_32 issue c.purge (fine_purge issue c f))))
edit_back issue read_count c f = told_ok _ (number_back (length c.places) (omega (arith, (set_true c.places (fine_places issue c f)).few)))
edit_back issue (read_place i) c f =
    told_find (slice_get c.places i) OutOfRange _
    (λ p e. told_ok _ (number_back p (omega (arith, place_end i p (set_true c.places (fine_places issue c f)).up e))))
edit_back issue (add p) c f =
    told_cond (member p c.places) _ _
    (λ t. told_ok _ (was_back true))
    (λ t. told_must (ltb (length c.places) capacity) SegmentFull _ (λ u. told_ok _ (was_back false)))
edit_back issue (remove p) c f =
    told_cond (member p c.places) _ _
    (λ t. told_must (not (eqb (length c.places) 1)) OnlyPlace _ (λ u. told_ok _ (was_back true)))
    (λ t. told_ok _ (was_back false))
edit_back issue (set_purge s) c f = told_find (purge_of issue s) WrongTime _ (λ m e. told_ok _ (number_back m (omega (arith, purge_low issue s m e))))

-- ---- the work of a draft
abbrev finished : ℕ → Value
finished r = done

done_back : Returns value_bits finished done
unfolding value_bits
done_back = record { low = omega arith; same = refl }

work_back : (issue n s : ℕ) (c : Content) (w : Work) (ks : List Copy) → All (FineCopy issue n) ks → Told (Back (work_value w)) (work_rule issue s c w ks)
unfolding work_rule
work_back issue n s c taking ks f = told_must (not (has s ks)) TakenAlready _ (λ t. told_must (ltb (length ks) 2) TwoTaken _ (λ u. told_ok _ done_back))
work_back issue n s c (editing e) ks f =
    told_find (copy_of s ks) NotTaken _ (λ k q. told_then (edit_rule issue e k) _ (edit_back issue e k (copy_fine issue n s ks k f q)) (λ z r. told_ok _ r))

-- ---- the segments of a commit or an undo
numbers_bytes : (issue n : ℕ) {ks : List Copy} → n ≤ 8 → All (FineCopy issue n) ks → All Byte (segments_named ks)
numbers_bytes issue n h all_nil = all_nil
numbers_bytes issue n h (all_cons f a) = all_cons (record { from = f.from; below = omega (arith, f.to) }) (numbers_bytes issue n h a)

numbers_back : (issue n : ℕ) (ks : List Copy) → n ≤ 8 → All (FineCopy issue n) ks → length ks ≤ 2 → Returns value_bits segments_in (changed (segments_named ks))
numbers_back issue n ks h f two =
    let long : length (segments_named ks) ≡ length ks = length-map ks (λ (k : Copy). k.segment) in
    segments_back (segments_named ks) (numbers_bytes issue n h f) (omega arith)

-- ---- every call
lowest_end : (n d : ℕ) (ds : List Draft) → lowest n ds ≡ Some d → d < n + length ds
unfolding lowest
lowest_end n d [] e = apart cc
lowest_end n d (closed ∷ ds) e = let same : n ≡ d = cc in omega arith
lowest_end n d (working ks stale ∷ ds) e = omega (arith, lowest_end (suc n) d ds e)

draft_back : (d : ℕ) → d < 256 → Returns value_bits draft (draft d)
unfolding value_bits
draft_back d h = record { low = omega arith; same = refl }

rule_back : (b : Book) (c : Call) → Sound b → Told (Back (value_of c)) (book_rule b c)
unfolding book_rule value_of
rule_back b opening h = told_find (lowest 1 b.drafts) AllOpen _ (λ d e. told_ok _ (draft_back d (omega (arith, lowest_end 1 d b.drafts e, h.four))))
rule_back b (on d s w) h =
    told_find (open_draft (draft_at b.drafts d)) NoDraft _ (λ x e. told_must (in_range w) OutOfRange _ (λ r. told_find (at b.segments s) NoSuchSegment _
    (λ c g. told_then (work_rule b.issue s c w x.copies) _
    (work_back b.issue (length b.segments) s c w x.copies (open_fine (draft_fine b d h) e).copies) (λ z q. told_ok _ q))))
rule_back b (commit d) h =
    told_find (open_draft (draft_at b.drafts d)) NoDraft _ (λ x e. told_must (not x.stale) StaleDraft _
    (λ t. told_ok _
    (let c = changes_fine b.issue (length b.segments) b.segments x.copies x.stale (open_fine (draft_fine b d h) e) in
    numbers_back b.issue (length b.segments) (changes b.segments x.copies) h.eight c.copies c.two)))
rule_back b (drop d) h = told_find (open_draft (draft_at b.drafts d)) NoDraft _ (λ x e. told_ok _ done_back)
rule_back b undo h =
    told_find (newest b.history.kept) NoStep _ (λ cs e. told_ok _
    (let f = newest_fine b.issue (length b.segments) b.history cs h.past e in
    numbers_back b.issue (length b.segments) cs h.eight f.copies f.two))

-- ---- on bytes
bytes_back : (l : List ℕ) (c : Call) → Bytes l → Told (Back (value_of c)) (bytes_rule l c)
unfolding bytes_rule
bytes_back l c y =
    told_must (eqb (length l) book_length) WrongLength _ (λ t. told_must (is_sound l) NotSound _
    (λ e. told_then (book_rule (book_of l) c) _ (rule_back (book_of l) c (sound_book l y e)) (λ z q. told_ok _ q)))

-- every answer of every call on every book is found again in its number
pub book_back : (l : List ℕ) (c : Call) → Bytes l → unpacked c (packed (on_bytes l c).0) ≡ (on_bytes l c).0
unfolding on_bytes
book_back l c y = back value_bits (value_of c) (on_bytes l c).0 (settle_kept (value_of c) l (bytes_rule l c) (bytes_back l c y))
