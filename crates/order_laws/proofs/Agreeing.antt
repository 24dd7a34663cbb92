-- In a program without violations each slot's view agrees with the state.
use Rattle.std.proofs.Common.{◌≡◌, ℕ, zero, suc, ◌⊎◌, inl, inr, Bool, true, false, ◌&&◌, if◌then◌else◌, List, [], ◌∷◌, Option, Some, None, refl, sym, ◌∙◌, ap, subst}
use Rattle.std.specs.Prelude.{Contains}
use Rattle.std.proofs.lemmas.Bool.{false_from_ne_true}
use Rattle.ia_insn.specs.declared.insn.Insn.{Insn}
use Rattle.ia_program.specs.declared.place.Place.{Place}
use Rattle.ia_program.specs.Places.{insn_at}
use Rattle.ia_program.specs.Programs.{Program, IsProgram}
use Rattle.ia_meaning.specs.declared.next.Next.{Next as NextWay}
use Rattle.ia_meaning.specs.declared.next.Next.TheVariants as next
use Rattle.ia_meaning.specs.State.{State}
use Rattle.ia_meaning.specs.declared.write.Write.{Write}
use Rattle.ia_meaning.specs.Writes.{apply}
use Rattle.ia_meaning.specs.Outcomes.{Outcome}
use Rattle.ia_meaning.specs.Sequence.{next_of, is_stopped}
use Rattle.ia_meaning.specs.Steps.{place_after, outcome_of, Step, step_by, seq_step}
use Rattle.resource_sets.specs.AccessLaws.{TheUnat, location}
use Rattle.ia_meaning.specs.Actions.{is_alloc, insn_action, allocates}
use Rattle.resource_sets.proofs.Members.{in_head, in_tail}
use Rattle.flow_facts.specs.Walks.{Walk, earlier_in_group}
use Rattle.order_laws.specs.Violations.{HasNoViolation}
use Rattle.order_laws.specs.Traces.{walk_after, IsKnown}
use Rattle.ia_meaning.proofs.StepHere.{insn_here}
use Rattle.ia_meaning.specs.ParallelGroups.{Gathered, gathered_from, slot_outcome, gathers}
use Rattle.order_laws.specs.Agreement.{steps_on, if_some, on_by, slots_on, Agrees, ViewsAgree}
use Rattle.ia_meaning.proofs.Codes.{permutation_has_code}
use Rattle.order_laws.proofs.Orders.{orders}
use Rattle.order_laws.proofs.Untouched.{Mem, TouchedBy, SameAt, same_apply}
use Rattle.order_laws.proofs.NoClashes.{no_alloc}
use Rattle.order_laws.proofs.GroupOrders.{state_of, IsGroupOnWalk, Joins, on_next, plain_step, plain_joins, plain_same}
use Rattle.order_laws.proofs.FirstSlots.{begun_on, alloc_step, alloc_joins, alloc_outcome}

contains_mem : {X : Type 0} (x : X) (xs : List X) → Mem x xs → Contains xs x
contains_mem x [] m = absurd m
contains_mem x (y ∷ ys) (inl e) = in_head y x ys (sym e)
contains_mem x (y ∷ ys) (inr m) = in_tail y x ys (contains_mem x ys m)

unat_of : (g : Gathered) → TouchedBy TheUnat g.writes ⊎ SameAt TheUnat (state_of g).registers (record g.base { unat = g.unat })
    → (g.unat ≡ (state_of g).registers.unat) ⊎ ((w : Write) × Contains g.writes w × (location w ≡ TheUnat))
unat_of g (inl (w, m, t)) = inr (w, contains_mem w g.writes m, t)
unat_of g (inr e) = inl (sym e)

-- Where the next slot does the same, all agrees.
agrees_here : (p : Program) (g : Gathered) (past : List Place) (w : Walk) → IsGroupOnWalk p g past w
    → ((j : Insn) → insn_at p.bundles g.place ≡ Some j → slot_outcome p g (Some j) ≡ outcome_of p (state_of g) j) → Agrees p g (state_of g)
agrees_here p g past w on same = record {
  registers = λ ws e.
      let way = on.way in
      let c = permutation_has_code g.writes ws e in
      ap (λ l. apply l (record g.base { unat = g.unat })) (sym c.1)
      ∙ orders c.0 g.writes (record g.base { unat = g.unat }) way.fits (inl way.inside);
  memory = refl;
  place = refl;
  outcome = same;
  unat = unat_of g (same_apply TheUnat g.writes (record g.base { unat = g.unat }));
}

-- What is shown of n slots further, behind the first.
abbrev RestAgrees : Program → ℕ → Type 0
RestAgrees p n =
    (g : Gathered) (past : List Place) (w : Walk) (h : Gathered) → IsGroupOnWalk p g past w → (i : Place)
    → Contains (earlier_in_group p w) i
    → slots_on n p false g ≡ Some h → Agrees p h (steps_on n p (state_of g))

-- One slot, and n behind it.
module _ (p : Program) (program : IsProgram p) (n : ℕ) (rest : RestAgrees p n) (first : Bool) (g : Gathered) (past : List Place) (w : Walk)
    (h : Gathered) (on : IsGroupOnWalk p g past w) (o : Outcome)
    (step : seq_step p (state_of g) ≡ step_by p (state_of g) o o.next) (joins : Joins p g past o (gathers first g o)) where
  abbrev To : Gathered
  To = gathers first g o (place_after g.place (next_of p.bundles g.place))

  by_way : (way : NextWay) → o.next ≡ way → if_some (on_by p first g o way) (slots_on n p false) ≡ Some h
      → Agrees p h (steps_on (suc n) p (state_of g))
  by_way (next.Breaks imm) e q = absurd (cc)
  by_way (next.Faults kind) e q = absurd (cc)
  by_way (next.Goes bundle) e q = absurd (cc)
  by_way next.Falls e q = by_stop (is_stopped p.bundles g.place) refl q
    where
      by_stop : (b : Bool) → is_stopped p.bundles g.place ≡ b → if_some (if b then None else Some To) (slots_on n p false) ≡ Some h
          → Agrees p h (steps_on (suc n) p (state_of g))
      by_stop true t q = absurd (cc)
      by_stop false t q =
          let k = on_next p program first g past w on o step joins e t in
          let same : state_of To ≡ (seq_step p (state_of g)).state =
          sym (joins.state (place_after g.place (next_of p.bundles g.place)))
          ∙ sym (ap (λ (x : Step). x.state) (step ∙ ap (step_by p (state_of g) o) e)) in
          subst (λ x. Agrees p h (steps_on n p x)) same (rest To (g.place ∷ past)
          (walk_after p (state_of g) w (seq_step p (state_of g))) h k.0 g.place k.1 q)

  pub slot_agrees : if_some (on_by p first g o o.next) (slots_on n p false) ≡ Some h → Agrees p h (steps_on (suc n) p (state_of g))
  slot_agrees q = by_way o.next refl q

-- The group with n more slots, from the next one on.
abbrev From : Program → ℕ → Bool → Gathered → Option Insn → Option Gathered
From p n begins g x = if_some (on_by p (begins && allocates x) g (slot_outcome p g x) (slot_outcome p g x).next) (slots_on n p false)

-- The next slot of a group is no `alloc`.
module _ (p : Program) (program : IsProgram p) (free : HasNoViolation p) where
  same_here : (g : Gathered) (past : List Place) (w : Walk) → IsGroupOnWalk p g past w → (i : Place) → Contains (earlier_in_group p w) i
      → (j : Insn) → insn_at p.bundles g.place ≡ Some j → slot_outcome p g (Some j) ≡ outcome_of p (state_of g) j
  same_here g past w on i c j at =
      plain_same p program free g past w on j at (false_from_ne_true (is_alloc (insn_action j))
      (no_alloc p free (state_of g) w on.known j at i c))

  rest_agrees : (n : ℕ) → RestAgrees p n
  rest_agrees zero g past w h on i c e =
      let same : g ≡ h = cc in
      subst (λ x. Agrees p x (state_of g)) same (agrees_here p g past w on (same_here g past w on i c))
  rest_agrees (suc n) g past w h on i c e = go (rest_agrees n) (insn_here p (state_of g) on.known.state.place)
    where
      go : RestAgrees p n → (j : Insn) × (insn_at p.bundles g.place ≡ Some j) → Agrees p h (steps_on (suc n) p (state_of g))
      go rest (j, at) =
          let na : is_alloc (insn_action j) ≡ false =
          false_from_ne_true (is_alloc (insn_action j)) (no_alloc p free (state_of g) w on.known j at i c) in
          slot_agrees p program n rest false g past w h on (slot_outcome p g (Some j))
          (plain_step p program free g past w on j at na) (plain_joins p program free g past w on j at na)
          (sym (ap (From p n false g) at) ∙ e)

  -- The first slot may be an `alloc`.
  first_same : (s : State) (w : Walk) → IsKnown p s w → (j : Insn) → insn_at p.bundles s.place ≡ Some j
      → slot_outcome p (gathered_from s) (Some j) ≡ outcome_of p s j
  first_same s w known j at = by_action (is_alloc (insn_action j)) refl
    where
      by_action : (b : Bool) → is_alloc (insn_action j) ≡ b → slot_outcome p (gathered_from s) (Some j) ≡ outcome_of p s j
      by_action true al = alloc_outcome p program s w known j at al
      by_action false na = plain_same p program free (gathered_from s) [] w (begun_on p s w known) j at na

  first_agrees : (n : ℕ) (s : State) (w : Walk) (h : Gathered) → IsKnown p s w → slots_on n p true (gathered_from s) ≡ Some h
      → Agrees p h (steps_on n p s)
  first_agrees zero s w h known e =
      let same : gathered_from s ≡ h = cc in
      subst (λ x. Agrees p x s) same (agrees_here p (gathered_from s) [] w (begun_on p s w known) (first_same s w known))
  first_agrees (suc n) s w h known e = go (insn_here p s known.state.place)
    where
      go : (j : Insn) × (insn_at p.bundles s.place ≡ Some j) → Agrees p h (steps_on (suc n) p s)
      go (j, at) = by_action (is_alloc (insn_action j)) refl
        where
          here : From p n true (gathered_from s) (Some j) ≡ Some h
          here = sym (ap (From p n true (gathered_from s)) at) ∙ e

          by_action : (b : Bool) → is_alloc (insn_action j) ≡ b → Agrees p h (steps_on (suc n) p s)
          by_action false na =
              slot_agrees p program n (rest_agrees n) false (gathered_from s) [] w h (begun_on p s w known)
              (slot_outcome p (gathered_from s) (Some j))
              (plain_step p program free (gathered_from s) [] w (begun_on p s w known) j at na)
              (plain_joins p program free (gathered_from s) [] w (begun_on p s w known) j at na)
              (sym (ap (λ b. if_some (on_by p b (gathered_from s) (slot_outcome p (gathered_from s) (Some j))
              (slot_outcome p (gathered_from s) (Some j)).next) (slots_on n p false)) na) ∙ here)
          by_action true al =
              slot_agrees p program n (rest_agrees n) true (gathered_from s) [] w h (begun_on p s w known) (outcome_of p s j)
              (alloc_step p program s w known j at al) (alloc_joins p program s w known j at al)
              (sym (ap (λ (o : Outcome). if_some (on_by p true (gathered_from s) o o.next) (slots_on n p false))
              (alloc_outcome p program s w known j at al))
              ∙ sym (ap (λ b. if_some (on_by p b (gathered_from s) (slot_outcome p (gathered_from s) (Some j))
              (slot_outcome p (gathered_from s) (Some j)).next) (slots_on n p false)) al) ∙ here)

pub views_agree : ViewsAgree
views_agree n p s w g program free known e = first_agrees p program free n s w g known e
