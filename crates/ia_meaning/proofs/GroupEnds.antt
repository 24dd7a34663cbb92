-- Runs under way stay so, and their groups end.
use Rattle.std.proofs.Common.{◌≡◌, ℕ, zero, suc, ◌+◌, ◌<◌, ◌≤◌, ◌⊎◌, inl, inr, Bool, true, false, [], ◌∷◌, Option, Some, None, refl, ap, ◌∙◌, arith, if◌then◌else◌}
use Rattle.std.specs.Prelude.{◌==◌}
use Rattle.ia_program.specs.declared.limits.TheConstants.{RUN_LIMIT}
use Rattle.ia_program.specs.declared.ending.End.{End}
use Rattle.ia_program.specs.declared.ending.How.{How}
use Rattle.ia_program.specs.Places.{IsPlaceOf}
use Rattle.ia_program.specs.Programs.{Program, IsProgram}
use Rattle.ia_meaning.specs.State.{State, zero_state}
use Rattle.ia_meaning.specs.Steps.{seq_step}
use Rattle.ia_meaning.specs.Progress.{Progress, begun, opened, stepped, advanced_unless, advanced, rest_by, to_group_end, group_further, groups_further}
use Rattle.ia_meaning.specs.Runs.{IsUnderWay}
use Rattle.ia_meaning.proofs.Inside.{first_is_place, stays_inside, step_continues}

-- A group that is opened or not changes neither the state nor the slots nor the range.
pub record IsOpened (m o : Progress) : Type 0 where
  pub state : o.state ≡ m.state
  pub slots : o.slots ≡ m.slots
  pub range : o.range ≡ m.range

pub opened_keeps : (m : Progress) → IsOpened m (opened m)
opened_keeps m = of (m.slots == 0)
  where
    of : (b : Bool) → IsOpened m (if b then record m { groups = m.groups + 1; first = m.state.place } else m)
    of true = record { state = refl; slots = refl; range = refl }
    of false = record { state = refl; slots = refl; range = refl }

-- A run that begins at a place of the program is under way.
pub begun_under_way : (p : Program) (s : State) → IsPlaceOf p.bundles s.place → IsUnderWay p (begun s)
begun_under_way p s is = record { place = is; before = []; stand = tt; count = refl }

-- slot 0 of bundle 0 is a place of the program.
pub zero_is_place : (p : Program) → IsProgram p → IsPlaceOf p.bundles (zero_state p).place
zero_is_place p program = let c = program.counts in first_is_place p.bundles 0 (omega (arith, c.some))

-- A run that begins at the zero state is under way.
pub begins_under_way : (p : Program) → IsProgram p → IsUnderWay p (begun (zero_state p))
begins_under_way p program = begun_under_way p (zero_state p) (zero_is_place p program)

stepped_under_way : (p : Program) (m : Progress) → IsProgram p → IsUnderWay p m → (h : Option How) → (seq_step p m.state).how ≡ h
    → IsUnderWay p (stepped (opened m) (seq_step p m.state))
stepped_under_way p m program u (Some how) e = record {
  place = stays_inside p m.state program u.place;
  before = [];
  stand = tt;
  count = rw e refl;
}
stepped_under_way p m program u None e =
    let c = step_continues p m.state u.place e in
    let o = opened_keeps m in
    record {
      place = stays_inside p m.state program u.place;
      before = m.state.place ∷ u.before;
      stand = (u.place, c.next, c.on, u.stand);
      count = rw e (omega (arith, o.slots, u.count));
    }

-- A step further.
pub advances_under_way : (p : Program) (m : Progress) → IsProgram p → IsUnderWay p m → IsUnderWay p (advanced p m)
unfolding advanced
advances_under_way p m program u = of m.end
  where
    of : (e : Option End) → IsUnderWay p (advanced_unless e p m)
    of None = stepped_under_way p m program u (seq_step p m.state).how refl
    of (Some e) = u

rest_under_way : (p : Program) (slots : ℕ) (m rest : Progress) → IsUnderWay p m → IsUnderWay p rest → IsUnderWay p (rest_by slots m rest)
rest_under_way p zero m rest u v = u
rest_under_way p (suc slots) m rest u v = v

to_end_under_way : (most : ℕ) (p : Program) (m : Progress) → IsProgram p → IsUnderWay p m → IsUnderWay p (to_group_end most p m)
to_end_under_way zero p m program u = u
to_end_under_way (suc most) p m program u =
    let v = advances_under_way p m program u in
    rest_under_way p (advanced p m).slots (advanced p m) (to_group_end most p (advanced p m)) v
    (to_end_under_way most p (advanced p m) program v)

-- A run under way stays under way, one group further.
pub group_under_way : (p : Program) (m : Progress) → IsProgram p → IsUnderWay p m → IsUnderWay p (group_further p m)
unfolding group_further
group_under_way p m program u = to_end_under_way RUN_LIMIT p m program u

-- A run under way stays under way, n groups further.
pub goes_on_under_way : (n : ℕ) (p : Program) (m : Progress) → IsProgram p → IsUnderWay p m → IsUnderWay p (groups_further n p m)
goes_on_under_way zero p m program u = u
goes_on_under_way (suc n) p m program u = goes_on_under_way n p (group_further p m) program (group_under_way p m program u)

-- The group under way has fewer than RUN_LIMIT slots so far.
pub has_few_slots : (p : Program) (m : Progress) → IsProgram p → IsUnderWay p m → m.slots < RUN_LIMIT
has_few_slots p m program u = let few = program.runs m.state.place u.place u.before u.stand in omega (arith, u.count)

-- A step that leaves the group under way.
pub record IsInGroup (m next : Progress) : Type 0 where
  pub slots : next.slots ≡ suc m.slots
  pub end : next.end ≡ None

stepped_in_group : (p : Program) (m : Progress) → IsUnderWay p m → (h : Option How) → (seq_step p m.state).how ≡ h → (k : ℕ)
    → (stepped (opened m) (seq_step p m.state)).slots ≡ suc k → IsInGroup m (stepped (opened m) (seq_step p m.state))
stepped_in_group p m u (Some how) e k s = absurd (let z : 0 ≡ suc k = rw e at s in omega arith)
stepped_in_group p m u None e k s =
    let c = step_continues p m.state u.place e in
    let o = opened_keeps m in
    record { slots = rw e (omega (arith, o.slots)); end = c.end }

in_group : (p : Program) (m : Progress) → IsUnderWay p m → m.end ≡ None → (k : ℕ) → (advanced p m).slots ≡ suc k
    → IsInGroup m (advanced p m)
unfolding advanced
in_group p m u none k s = of m.end none s
  where
    of : (e : Option End) → e ≡ None → (advanced_unless e p m).slots ≡ suc k → IsInGroup m (advanced_unless e p m)
    of None e s = stepped_in_group p m u (seq_step p m.state).how refl k s
    of (Some x) e s = absurd cc

rest_ends : (next rest : Progress) → ((k : ℕ) → next.slots ≡ suc k → rest.slots ≡ 0) → (rest_by next.slots next rest).slots ≡ 0
rest_ends next rest h = of next.slots refl
  where
    of : (k : ℕ) → next.slots ≡ k → (rest_by k next rest).slots ≡ 0
    of zero e = e
    of (suc k) e = h k e

-- With steps enough the group is over.
to_end_ends : (most : ℕ) (p : Program) (m : Progress) → IsProgram p → IsUnderWay p m → m.end ≡ None → RUN_LIMIT ≤ m.slots + most
    → (to_group_end most p m).slots ≡ 0
to_end_ends zero p m program u none enough = let few = has_few_slots p m program u in absurd (omega arith)
to_end_ends (suc most) p m program u none enough =
    rest_ends (advanced p m) (to_group_end most p (advanced p m))
    (λ k e. let g = in_group p m u none k e in to_end_ends most p (advanced p m) program (advances_under_way p m program u) g.end
    (omega (arith, g.slots)))

pub advanced_ended : (p : Program) (m : Progress) (e : End) → m.end ≡ Some e → advanced p m ≡ m
unfolding advanced
advanced_ended p m e is = rw is refl

rest_same : (slots : ℕ) (m next rest : Progress) → next ≡ m → rest ≡ m → rest_by slots next rest ≡ m
rest_same zero m next rest h k = h
rest_same (suc slots) m next rest h k = k

-- After an end nothing changes.
to_end_ended : (most : ℕ) (p : Program) (m : Progress) (e : End) → m.end ≡ Some e → to_group_end most p m ≡ m
to_end_ended zero p m e is = refl
to_end_ended (suc most) p m e is =
    let a = advanced_ended p m e is in
    rest_same (advanced p m).slots m (advanced p m) (to_group_end most p (advanced p m)) a
    (ap (to_group_end most p) a ∙ to_end_ended most p m e is)

pub group_ended : (p : Program) (m : Progress) (e : End) → m.end ≡ Some e → group_further p m ≡ m
unfolding group_further
group_ended p m e is = to_end_ended RUN_LIMIT p m e is

pub groups_ended : (n : ℕ) (p : Program) (m : Progress) (e : End) → m.end ≡ Some e → groups_further n p m ≡ m
groups_ended zero p m e is = refl
groups_ended (suc n) p m e is = ap (groups_further n p) (group_ended p m e is) ∙ groups_ended n p m e is

pub group_comes_to_end : (p : Program) (m : Progress) → IsProgram p → IsUnderWay p m → m.end ≡ None → (group_further p m).slots ≡ 0
unfolding group_further
group_comes_to_end p m program u none = to_end_ends RUN_LIMIT p m program u none (omega arith)

-- One group further no group is under way.
pub groups_end : (p : Program) (m : Progress) → IsProgram p → IsUnderWay p m → (m.end ≡ None) ⊎ (m.slots ≡ 0)
    → (group_further p m).slots ≡ 0
groups_end p m program u (inl none) = group_comes_to_end p m program u none
groups_end p m program u (inr slots) = of m.end refl
  where
    of : (e : Option End) → m.end ≡ e → (group_further p m).slots ≡ 0
    of None is = group_comes_to_end p m program u is
    of (Some e) is = ap (λ (x : Progress). x.slots) (group_ended p m e is) ∙ slots
