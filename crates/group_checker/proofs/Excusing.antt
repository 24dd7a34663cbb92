-- When each walk through a slot excuses two accesses, and when some walk does not.
use Rattle.std.proofs.Common.{◌≡◌, ℕ, ◌<◌, ◌≤◌, ◌⊎◌, Bool, true, false, not, List, sym, ap, ◌∙◌, subst, arith, inl, inr}
use Rattle.std.specs.Prelude.{Contains}
use Rattle.std.proofs.lemmas.Bool.{cases_Bool, cases_lt, cases_eq, and_cases, and_parts, not-true, not-false, true≢false}
use Rattle.ia_program.specs.declared.place.Place.{Place}
use Rattle.ia_program.specs.Places.{IsBefore}
use Rattle.resource_sets.specs.Clashes.{may_write_guard}
use Rattle.predicate_rel.specs.Pairs.{FactRows, has_bit, in_range, truth, pairs_of}
use Rattle.predicate_rel.proofs.PairLemmas.{in_range_parts}
use Rattle.flow_facts.specs.Graphs.{Graph}
use Rattle.flow_facts.specs.Walks.{Walk, group_since}
use Rattle.group_checker.specs.declared.window.EarlierSlot.{EarlierSlot}
use Rattle.order_laws.specs.Excuses.{accesses_at, IsExcused}
use Rattle.group_checker.specs.Windows.{IsThrough, IsAt, HasWriter, HasPlace, IsWindow}
use Rattle.group_checker.specs.Findings.{excused_by}
use Rattle.order_laws.proofs.Falling.{before_trans, not_before_itself}
use Rattle.group_checker.proofs.EarlierSlots.{at_once}

-- A walk through the slot that doesn't excuse the two accesses.
pub record IsOpenOn (g : Graph) (has_stop : Place → Bool) (i j : Place) (guard other : ℕ) : Type 0 where
  pub walk : Walk
  pub through : IsThrough g has_stop i j walk
  pub stays : ¬ IsExcused g has_stop walk i guard other

-- A slot from the n-th on is passed by each walk through the n-th, and not before it.
from_on : (g : Graph) (has_stop : Place → Bool) (es : List EarlierSlot) (j : Place) (n m : ℕ) (e b : EarlierSlot) (w : Walk)
    → IsWindow g has_stop es j → IsAt es n e → IsAt es m b → n ≤ m → IsThrough g has_stop e.place j w
    → Contains (group_since has_stop w) b.place × ¬ IsBefore b.place e.place
from_on g has_stop es j n m e b w win at here late through = of (cases_eq m n)
  where
    of : (m ≡ n) ⊎ (m ≡ n → ⊥) → Contains (group_since has_stop w) b.place × ¬ IsBefore b.place e.place
    of (inl z) =
        let same : e ≡ b = at_once es n e b at (subst (λ (k : ℕ). IsAt es k b) z here) in
        let P : Place → Type 0 = λ q. Contains (group_since has_stop w) q × ¬ IsBefore q e.place in
        subst P (ap (λ (q : EarlierSlot). q.place) same) (through.inside, not_before_itself e.place)
    of (inr some) = (
      win.passes n m e b at here (omega arith) w through,
      λ before. not_before_itself b.place (before_trans b.place e.place b.place before (win.rises n m e b at here (omega arith))),
    )

-- A pair that is known is one of predicates.
below_64 : (rows : FactRows) (guard other : ℕ) → pairs_of rows guard other ≡ true → guard < 64
unfolding pairs_of
below_64 rows guard other e =
    let both = and_parts (in_range guard other) (truth rows guard other) e in (in_range_parts guard other both.0).0

-- Where the test fails, some walk doesn't excuse the two.
pub opens : (g : Graph) (has_stop : Place → Bool) (es : List EarlierSlot) (j : Place) (n : ℕ) (e : EarlierSlot) (guard other : ℕ)
    → IsWindow g has_stop es j → IsAt es n e → excused_by e guard other ≡ false → IsOpenOn g has_stop e.place j guard other
opens g has_stop es j n e guard other win at fails = elim (cases_Bool (pairs_of e.known guard other)) [
  | inl t ↦ (elim (and_cases (pairs_of e.known guard other) (not (has_bit e.written guard)) fails) [
    | inl q ↦ unknown q
    | inr q ↦ written ((win.written n e at).only guard (below_64 e.known guard other t) (not-false (has_bit e.written guard) q))
  ])
  | inr f ↦ unknown f
]
  where
    unknown : pairs_of e.known guard other ≡ false → IsOpenOn g has_stop e.place j guard other
    unknown q =
        let is = win.carried n e at in
        let (w, through, lacks) = is.known.exact guard other q in
        record { walk = w; through = through; stays = λ x. true≢false (sym x.known ∙ lacks) }

    written : HasWriter g es n guard → IsOpenOn g has_stop e.place j guard other
    written x =
        let is = win.carried n e at in
        let (w, through) = is.known.reached in
        let place = from_on g has_stop es j n x.index e x.slot w win at x.at x.late through in
        record { walk = w; through = through; stays = λ y. true≢false (sym x.writes ∙ y.unwritten x.slot.place place.0 place.1) }

-- Where the test holds, each walk excuses the two.
pub excuses : (g : Graph) (has_stop : Place → Bool) (es : List EarlierSlot) (j : Place) (n : ℕ) (e : EarlierSlot) (guard other : ℕ)
    (w : Walk) → IsWindow g has_stop es j → IsAt es n e → excused_by e guard other ≡ true → IsThrough g has_stop e.place j w
    → IsExcused g has_stop w e.place guard other
excuses g has_stop es j n e guard other w win at holds through =
    let both = and_parts (pairs_of e.known guard other) (not (has_bit e.written guard)) holds in
    let is = win.carried n e at in
    record {
      known = (is.known.sound w through).each guard other both.0;
      unwritten =
          λ k c late. unwritten (below_64 e.known guard other both.0)
          (not-true (has_bit e.written guard) both.1) k (win.all w through.there k c) late;
    }
  where
    unwritten : guard < 64 → has_bit e.written guard ≡ false → (k : Place) → HasPlace es k → ¬ IsBefore k e.place
        → may_write_guard guard (accesses_at g k) ≡ false
    unwritten small none k has late = elim (cases_lt has.index n) [
      | inl l ↦ absurd (late (subst (λ (q : Place). IsBefore q e.place) has.is (win.rises has.index n has.slot e has.at at l)))
      | inr l ↦ elim (cases_Bool (may_write_guard guard (accesses_at g k))) [
        | inl t ↦ (let writer : HasWriter g es n guard = record {
          index = has.index;
          slot = has.slot;
          late = l;
          at = has.at;
          writes = subst (λ (q : Place). may_write_guard guard (accesses_at g q) ≡ true) (sym has.is) t;
        } in
            absurd (true≢false (sym ((win.written n e at).has guard small writer) ∙ none)))
        | inr f ↦ f
      ]
    ]
