-- Rows that are marked.
use Rattle.std.proofs.Common.{◌≡◌, ℕ, ◌+◌, ◌<◌, ◌≤◌, ◌≢◌, ◌⊎◌, Bool, true, false, cond, eqb, None, Some, List, length, get_or, set, length-set, refl, sym, ap, ◌∙◌, subst, arith, inl, inr}
use Rattle.std.specs.Prelude.{bit_or}
use Rattle.std.proofs.lemmas.Bool.{cases_Bool, or_parts, true≢false, or_right, ne_eqb}
use Rattle.std.proofs.lemmas.Option.{none-some}
use Rattle.std.proofs.lemmas.List.Sums.{sum_by-set}
use Rattle.ia_program.specs.declared.place.Place.{Place}
use Rattle.ia_program.specs.Places.{place_at}
use Rattle.predicate_rel.specs.Pairs.{Pairs, has_bit}
use Rattle.predicate_rel.specs.Changes.{HasAllRows}
use Rattle.predicate_rel.proofs.BitLemmas.{has_bit_all, has_bit_none, has_bit_or}
use Rattle.flow_facts.specs.Walks.{Known, known_at}
use Rattle.flow_facts.specs.Tables.{Shrinks, Joined, IsSameBut, HasCome, MarksChanges, marked, dirty_count}
use Rattle.flow_facts.proofs.Joining.{at_most_one}
use Rattle.flow_facts.proofs.Numbering.{cases_place, value_at-place_at, value_at-set_same, value_at-set_other}

-- What is known of a place is the same.
pub same_refl : (w : ℕ) (k : Known) → IsSameBut w k k
same_refl w None = tt
same_refl w (Some rows) = record { same = λ x y n. refl }

-- The word of all rows is within a word that has each of its rows.
all_within : (v w : ℕ) → ((x : ℕ) → has_bit w x ≡ false → has_bit v x ≡ false) → HasAllRows v → HasAllRows w
all_within v w within all x l = by_bit (cases_Bool (has_bit w x))
  where
    by_bit : (has_bit w x ≡ true) ⊎ (has_bit w x ≡ false) → has_bit w x ≡ true
    by_bit (inl t) = t
    by_bit (inr n) = absurd (true≢false (sym (all x l) ∙ within x n))

-- Two changes are one, of rows that are all in the second word.
pub same_trans : (v w : ℕ) (a b c : Known) → ((x : ℕ) → has_bit w x ≡ false → has_bit v x ≡ false) → IsSameBut v a b → IsSameBut w b c
    → IsSameBut w a c
same_trans v w None None c within f g = g
same_trans v w None (Some b) None within f g = absurd g
same_trans v w None (Some b) (Some c) within f g = all_within v w within f
same_trans v w (Some a) None c within f g = absurd f
same_trans v w (Some a) (Some b) None within f g = absurd g
same_trans v w (Some a) (Some b) (Some c) within f g = record { same = λ x y n. f.same x y (within x n) ∙ g.same x y n }

-- A change of some rows is a change of more rows.
pub same_within : (v w : ℕ) (a b : Known) → ((x : ℕ) → has_bit w x ≡ false → has_bit v x ≡ false) → IsSameBut v a b → IsSameBut w a b
same_within v w a b within f = same_trans v w a b b within f (same_refl w b)

-- What came to a place has come while no place knows more.
pub come_shrinks : (t t' : List Known) (to : Place) (past : Pairs → Pairs) (w : ℕ) (now : Known) → Shrinks t t' → HasCome t to past w now
    → HasCome t' to past w now
come_shrinks t t' to past w now s h = record { older = h.older; same = h.same; came = λ rows e. s.keeps to _ (h.came rows e) }

-- Nothing is to have come from where nothing was known.
pub come_unknown : (t : List Known) (to : Place) (past : Pairs → Pairs) (w : ℕ) (now : Known) → IsSameBut w None now
    → HasCome t to past w now
come_unknown t to past w now same = record { older = None; same = same; came = λ rows e. absurd (none-some rows e) }

-- The rows of a place are marked, and those of the others stay.
or_left_out : (a b x : ℕ) → has_bit (bit_or a b) x ≡ false → (has_bit a x ≡ false) × (has_bit b x ≡ false)
or_left_out a b x n = or_parts (has_bit a x) (has_bit b x) (sym (has_bit_or a b x) ∙ n)

marked_there : (d : List ℕ) (n rows : ℕ) (k : Place) → n < length d → k ≡ place_at n
    → marked (set d n (bit_or (get_or d n 0) rows)) k ≡ bit_or (marked d k) rows
marked_there d n rows k l e =
    ap (marked (set d n (bit_or (get_or d n 0) rows))) e ∙ value_at-set_same 0 (bit_or (get_or d n 0) rows) d n l
    ∙ ap (λ (m : ℕ). bit_or m rows) (sym (value_at-place_at 0 d n) ∙ ap (marked d) (sym e))

-- Each row of a place is marked.
pub all_marked : (d : List ℕ) (n : ℕ) (k : Place) → n < length d → k ≡ place_at n
    → HasAllRows (marked (set d n (bit_or (get_or d n 0) 18446744073709551615)) k)
all_marked d n k l e x m =
    ap (λ (w : ℕ). has_bit w x) (marked_there d n 18446744073709551615 k l e) ∙ has_bit_or (marked d k) 18446744073709551615 x
    ∙ (rw (has_bit_all x m) (or_right (has_bit (marked d k) x) true refl))

-- Nothing has changed.
pub no_progress : (t : List Known) (d : List ℕ) → MarksChanges t d t d
no_progress t d = record {
  shrinks = record { same_length = refl; keeps = λ k f most. most };
  same_length = refl;
  keeps = λ k x n. n;
  changed = λ k. same_refl (marked d k) (known_at t k);
}

-- One place has changed, and its rows that did are marked.
pub progress_marked : (t t' : List Known) (d : List ℕ) (to rows : ℕ) (out : Pairs) → to < length d → Joined t t' (place_at to) out
    → IsSameBut rows (known_at t (place_at to)) (known_at t' (place_at to)) → MarksChanges t d t' (set d to (bit_or (get_or d to 0) rows))
progress_marked t t' d to rows out l joined same = record {
  shrinks = joined.shrinks;
  same_length = length-set d to (bit_or (get_or d to 0) rows);
  keeps = λ k x n. keeps k x n (cases_place k (place_at to));
  changed = λ k. changed k (cases_place k (place_at to));
}
  where
    new : List ℕ
    new = set d to (bit_or (get_or d to 0) rows)

    keeps : (k : Place) (x : ℕ) → has_bit (marked new k) x ≡ false → (k ≡ place_at to) ⊎ (k ≡ place_at to → ⊥)
        → has_bit (marked d k) x ≡ false
    keeps k x n (inl e) = (or_left_out (marked d k) rows x (ap (λ (w : ℕ). has_bit w x) (sym (marked_there d to rows k l e)) ∙ n)).0
    keeps k x n (inr e) = ap (λ (w : ℕ). has_bit w x) (sym (value_at-set_other 0 (bit_or (get_or d to 0) rows) d to k e)) ∙ n

    changed : (k : Place) → (k ≡ place_at to) ⊎ (k ≡ place_at to → ⊥) → IsSameBut (marked new k) (known_at t k) (known_at t' k)
    changed k (inl e) =
        let there : IsSameBut rows (known_at t k) (known_at t' k) =
        subst (λ (q : Place). IsSameBut rows (known_at t q) (known_at t' q)) (sym e) same in
        same_within rows (marked new k) (known_at t k) (known_at t' k)
        (λ x n. (or_left_out (marked d k) rows x (ap (λ (w : ℕ). has_bit w x) (sym (marked_there d to rows k l e)) ∙ n)).1) there
    changed k (inr e) = subst (IsSameBut (marked new k) (known_at t k)) (sym (joined.others k e)) (same_refl (marked new k) (known_at t k))

-- No row of a place has changed.
pub progress_same : (t t' : List Known) (d : List ℕ) (to : ℕ) (out : Pairs) → Joined t t' (place_at to) out
    → IsSameBut 0 (known_at t (place_at to)) (known_at t' (place_at to)) → MarksChanges t d t' d
progress_same t t' d to out joined same = record {
  shrinks = joined.shrinks;
  same_length = refl;
  keeps = λ k x n. n;
  changed = λ k. changed k (cases_place k (place_at to));
}
  where
    changed : (k : Place) → (k ≡ place_at to) ⊎ (k ≡ place_at to → ⊥) → IsSameBut (marked d k) (known_at t k) (known_at t' k)
    changed k (inl e) =
        same_within 0 (marked d k) (known_at t k) (known_at t' k) (λ x n. has_bit_none x)
        (subst (λ (q : Place). IsSameBut 0 (known_at t q) (known_at t' q)) (sym e) same)
    changed k (inr e) = subst (IsSameBut (marked d k) (known_at t k)) (sym (joined.others k e)) (same_refl (marked d k) (known_at t k))

-- Two steps are one.
pub progress_twice : (a b c : List Known) (d e f : List ℕ) → MarksChanges a d b e → MarksChanges b e c f → MarksChanges a d c f
progress_twice a b c d e f g h = record {
  shrinks =
      record { same_length = h.shrinks.same_length ∙ g.shrinks.same_length; keeps = λ k f m. h.shrinks.keeps k f (g.shrinks.keeps k f m) };
  same_length = h.same_length ∙ g.same_length;
  keeps = λ k x n. g.keeps k x (h.keeps k x n);
  changed = λ k. same_trans (marked e k) (marked f k) (known_at a k) (known_at b k) (known_at c k) (h.keeps k) (g.changed k) (h.changed k);
}

-- With one place marked, at most one more is dirty.
pub dirty_count-set : (d : List ℕ) (n rows : ℕ) → n < length d → dirty_count (set d n rows) ≤ dirty_count d + 1
dirty_count-set d n rows l = omega (arith, sum_by-set (λ (w : ℕ). cond (eqb w 0) 0 1) d n rows 0 l, at_most_one (eqb rows 0))

-- With one place that is dirty cleared, one fewer is dirty.
pub dirty_count-less : (d : List ℕ) (n : ℕ) → n < length d → get_or d n 0 ≢ 0 → dirty_count (set d n 0) < dirty_count d
dirty_count-less d n l some =
    omega (
      arith,
      sum_by-set (λ (w : ℕ). cond (eqb w 0) 0 1) d n 0 0 l,
      ap {B = ℕ} (λ (b : Bool). cond b 0 1) (ne_eqb (get_or d n 0) 0 some),
    )
