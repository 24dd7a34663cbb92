-- A group to its end, one slot at a time.
use Rattle.std.proofs.Common.{◌≡◌, ℕ, zero, suc, ◌+◌, ◌-◌, ◌^◌, ◌<◌, ◌≤◌, ◌⊎◌, inl, inr, true, false, refl, sym, ap, ◌∙◌, arith}
use Rattle.std.specs.Option.{is_some}
use Rattle.std.specs.Prelude.{Option, Some, None, if◌then◌else◌}
use Rattle.ia_program.specs.declared.limits.TheConstants.{RUN_LIMIT}
use Rattle.ia_program.specs.declared.ending.End.{End}
use Rattle.ia_program.specs.declared.ending.How.{How}
use Rattle.ia_program.specs.Programs.{Program, IsProgram}
use Rattle.ia_meaning.specs.Steps.{seq_step}
use Rattle.ia_meaning.specs.Progress.{Progress, opened, stepped, advanced, slots_after, rest_by, to_group_end, group_further, groups_further}
use Rattle.ia_meaning.specs.Runs.{IsUnderWay, event_by, event_to_end, event_further}
use Rattle.ia_meaning.proofs.GroupEnds.{opened_keeps, has_few_slots, groups_ended}
use Rattle.ia_meaning.proofs.GroupRests.{rest_of_group}
use Rattle.ia_meaning.proofs.WholeRuns.{opened_between, opened_within, advanced_is}

rest_none : (n : ℕ) (m rest : Progress) → n ≡ 0 → rest_by n m rest ≡ m
rest_none zero m rest e = refl
rest_none (suc n) m rest e = absurd (omega (arith, e))

slots_are : (p : Program) (m : Progress) → m.end ≡ None → (advanced p m).slots ≡ slots_after m.slots (seq_step p m.state).how
slots_are p m running =
    ap (λ n. n.slots) (advanced_is p m running) ∙ ap (λ s. slots_after s (seq_step p m.state).how) (opened_keeps m).slots

counted : (p : Program) (m next : Progress) → m.end ≡ None → next ≡ advanced p m → next.groups ≡ (opened m).groups
counted p m next running is = ap (λ n. n.groups) (is ∙ advanced_is p m running)

-- The counter has room for this many groups more, the first of which is the one under way or the next one.
abbrev pub CanCount : Progress → ℕ → Type 0
CanCount m left = (opened m).groups + left ≤ 2 ^ 64

-- Where a step ends its group, the group has come to here.
pub record IsOver (p : Program) (m next : Progress) (how : How) : Type 0 where
  pub group : next ≡ group_further p m
  pub room : (left : ℕ) → 0 < left → CanCount m left → CanCount next (left - 1)
  pub event : record { number = next.groups; first = next.first; last = m.state.place; slots = m.slots + 1; how = how } ≡ event_further p m

told : (most : ℕ) (p : Program) (m next : Progress) (how : How) → m.end ≡ None → next ≡ advanced p m → (seq_step p m.state).how ≡ Some how
    → record { number = next.groups; first = next.first; last = m.state.place; slots = m.slots + 1; how = how }
    ≡ event_to_end (suc most) p m
told most p m next how running is e =
    let on : next ≡ stepped (opened m) (seq_step p m.state) = is ∙ advanced_is p m running in
    let state = (opened_keeps m).state in
    let slots = (opened_keeps m).slots in
    let here = ap (λ w. event_by (opened m) w (event_to_end most p (advanced p m))) e in
    sym (here ∙ cc)

pub is_over : (p : Program) (m next : Progress) (how : How) → m.end ≡ None → next ≡ advanced p m → (seq_step p m.state).how ≡ Some how
    → IsOver p m next how
unfolding group_further event_further
is_over p m next how running is e =
    let none : (advanced p m).slots ≡ 0 = slots_are p m running ∙ ap (slots_after m.slots) e in
    let between : next.slots ≡ 0 = ap (λ n. n.slots) is ∙ none in
    let opens = ap (λ n. n.groups) (opened_between next between) in
    record {
      room = λ left some room. omega (arith, some, room, opens, counted p m next running is);
      group = is ∙ sym (rest_none (advanced p m).slots (advanced p m) (to_group_end (RUN_LIMIT - 1) p (advanced p m)) none);
      event = told (RUN_LIMIT - 1) p m next how running is e;
    }

-- Where a step doesn't end its group, the rest of the group comes to the same from there.
pub record HasSameRest (p : Program) (m next : Progress) : Type 0 where
  pub few : m.slots < RUN_LIMIT
  pub group : group_further p next ≡ group_further p m
  pub event : event_further p next ≡ event_further p m
  pub slots : next.slots ≡ m.slots + 1
  pub room : (left : ℕ) → CanCount m left → CanCount next left

pub is_within : (p : Program) (m next : Progress) → IsProgram p → IsUnderWay p m → m.end ≡ None → next ≡ advanced p m
    → (seq_step p m.state).how ≡ None → HasSameRest p m next
is_within p m next program u running is e =
    let more : (advanced p m).slots ≡ m.slots + 1 = slots_are p m running ∙ ap (slots_after m.slots) e in
    let rest = rest_of_group p m program u running (λ none. absurd (omega (arith, more, none))) in
    let within : (advanced p m).slots ≡ suc m.slots = omega (arith, more) in
    let opens = ap (λ n. n.groups) (opened_within (advanced p m) m.slots within) in
    rw is
    (record {
      few = has_few_slots p m program u;
      group = rest.0;
      event = rest.1;
      slots = more;
      room = λ left room. omega (arith, room, opens, counted p m (advanced p m) running refl);
    })

-- The groups that are left come to the same from the end of one group on.
pub over_groups : (p : Program) (m next : Progress) (left : ℕ) → 0 < left → next ≡ group_further p m
    → groups_further (left - 1) p next ≡ groups_further left p m
over_groups p m next zero some e = absurd (omega (arith, some))
over_groups p m next (suc n) some e = let less : suc n - 1 ≡ n = omega arith in rw less (ap (groups_further n p) e)

pub within_groups : (p : Program) (m next : Progress) (left : ℕ) → 0 < left → group_further p next ≡ group_further p m
    → groups_further left p next ≡ groups_further left p m
within_groups p m next zero some e = absurd (omega (arith, some))
within_groups p m next (suc n) some e = ap (groups_further n p) e

-- Where none is left, or the run has ended, they are no further.
pub no_further : (left : ℕ) (p : Program) (m : Progress) → (left ≡ 0) ⊎ ((e : End) × (m.end ≡ Some e)) → groups_further left p m ≡ m
no_further left p m (inl none) = rw none refl
no_further left p m (inr over) = groups_ended left p m over.0 over.1

pub none_of : {T : Type 0} (o : Option T) → is_some o ≡ false → o ≡ None
none_of None e = refl
none_of (Some x) e = absurd (cc)

pub some_of : {T : Type 0} (o : Option T) → is_some o ≡ true → (x : T) × (o ≡ Some x)
some_of None e = absurd (cc)
some_of (Some x) e = (x, refl)
