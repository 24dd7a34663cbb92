-- On a walk of a program without violations each slot is clean, and an `alloc` comes first in its group.
use Rattle.std.proofs.Common.{◌≡◌, ◌⊎◌, inl, inr, true, List, [], ◌∷◌, Some, refl, sym, ◌∙◌, ap, subst, true≢false}
use Rattle.std.specs.Prelude.{Contains}
use Rattle.ia_insn.specs.declared.insn.Insn.{Insn}
use Rattle.ia_program.specs.declared.place.Place.{Place}
use Rattle.ia_program.specs.Places.{insn_at}
use Rattle.ia_program.specs.Programs.{Program}
use Rattle.ia_meaning.specs.State.{State}
use Rattle.ia_meaning.specs.Names.{holds}
use Rattle.ia_meaning.specs.Sequence.{is_stopped}
use Rattle.resource_sets.specs.declared.access.Resource.{Resource}
use Rattle.resource_sets.specs.declared.access.Resource.TheVariants.{Cfm}
use Rattle.resource_sets.specs.declared.access.Access.{Access}
use Rattle.resource_sets.specs.declared.clashes.Rule.{Rule}
use Rattle.resource_sets.specs.declared.clashes.Rule.TheVariants.{Raw, Waw, AllocFirst}
use Rattle.resource_sets.specs.Clashes.{clash}
use Rattle.resource_sets.specs.AccessLaws.{HasAccess}
use Rattle.ia_meaning.specs.Actions.{is_alloc, allocates, insn_action}
use Rattle.resource_sets.specs.Regularity.{IsExcepted}
use Rattle.resource_sets.proofs.Regularity.{changes_clash}
use Rattle.resource_sets.proofs.Members.{not_in_none, head_in}
use Rattle.flow_facts.specs.Graphs.{over_program}
use Rattle.flow_facts.specs.Walks.{Walk, end_of, earlier_in_group}
use Rattle.order_laws.specs.Excuses.{accesses_at, IsLatest, IsExcused}
use Rattle.order_laws.specs.Violations.{ClashesUnexcused, allocates_at, Breaks}
use Rattle.order_laws.specs.Violations.{HasNoViolation}
use Rattle.order_laws.specs.Traces.{IsKnown}
use Rattle.order_laws.proofs.Untouched.{Mem}
use Rattle.order_laws.proofs.Gathering.{MayBeWrittenSince, ClashesWithNone}
use Rattle.order_laws.proofs.Advancing.{has_here}

module _ (p : Program) (free : HasNoViolation p) (s : State) (w : Walk) (known : IsKnown p s w) (j : Insn)
    (at : insn_at p.bundles s.place ≡ Some j) where
  breaks_of : (i : Place) (rule : Rule) (q : Resource) → (rule ≡ Raw) ⊎ (rule ≡ Waw)
      → ClashesUnexcused (over_program p) (is_stopped p.bundles) w i rule q → Breaks (over_program p) (is_stopped p.bundles) w i rule q
  breaks_of i rule q (inl e) c =
      subst (λ r. Breaks (over_program p) (is_stopped p.bundles) w i r q) (sym e)
      (subst (λ r. ClashesUnexcused (over_program p) (is_stopped p.bundles) w i r q) e c)
  breaks_of i rule q (inr e) c =
      subst (λ r. Breaks (over_program p) (is_stopped p.bundles) w i r q) (sym e)
      (subst (λ r. ClashesUnexcused (over_program p) (is_stopped p.bundles) w i r q) e c)

  violates : (i : Place) (a b : Access) (rule : Rule) → Contains (earlier_in_group p w) i → Contains (accesses_at (over_program p) i) a
      → HasAccess j b → a.resource ≡ b.resource → clash a b ≡ Some rule → (rule ≡ Raw) ⊎ (rule ≡ Waw)
      → ¬ IsExcused (over_program p) (is_stopped p.bundles) w i a.guard b.guard → ⊥
  violates i a b rule inside ha hb e c r stays =
      free (record { second = s.place; first = i; rule = rule; resource = a.resource })
      (record {
        walk = w;
        there = known.ends;
        inside = inside;
        breaks = breaks_of i rule a.resource r (record {
          clashes = record {
            first = a;
            second = b;
            of_first = ha;
            of_second = subst (λ q. Contains (accesses_at (over_program p) q) b) (sym known.ends.ends) (has_here p s.place j b at hb);
            first_on = refl;
            second_on = sym e;
            clash = c;
          };
          stays = stays;
        });
      })

  -- What is known is true, and what is known not to be written is not.
  unexcused : (past : List Place) (i : Place) (a b : Access) → ((k : Place) → Mem k past → Contains (earlier_in_group p w) k)
      → holds s.registers b.guard ≡ true → (holds s.registers a.guard ≡ true) ⊎ MayBeWrittenSince p past i a.guard
      → ¬ IsExcused (over_program p) (is_stopped p.bundles) w i a.guard b.guard
  unexcused past i a b inside on (inl h) x = let k = known.apart in k.apart a.guard b.guard x.known h on
  unexcused past i a b inside on (inr m) x = true≢false (sym m.writes ∙ x.unwritten m.place (inside m.place m.inside) m.since)

  pub clean_at : (past : List Place) → ((k : Place) → Mem k past → Contains (earlier_in_group p w) k) → ClashesWithNone p past j s.registers
  clean_at past inside i a b m ha hb e change strict on alt = go (changes_clash a b e change)
    where
      go : (clash a b ≡ Some Raw) ⊎ ((clash a b ≡ Some Waw) ⊎ IsExcepted a.kind b.kind) → ⊥
      go (inl c) = violates i a b Raw (inside i m) ha hb e c (inl refl) (unexcused past i a b inside on alt)
      go (inr (inl c)) = violates i a b Waw (inside i m) ha hb e c (inr refl) (unexcused past i a b inside on alt)
      go (inr (inr x)) = strict x

  pub no_alloc : (i : Place) → Contains (earlier_in_group p w) i → is_alloc (insn_action j) ≡ true → ⊥
  unfolding allocates_at
  no_alloc i c al = go (earlier_in_group p w) refl
    where
      there : allocates (insn_at p.bundles (end_of w)) ≡ true
      there =
          ap (λ (q : Place). allocates (insn_at p.bundles q)) known.ends.ends
          ∙ ap allocates at ∙ al

      go : (l : List Place) → earlier_in_group p w ≡ l → ⊥
      go [] e = not_in_none i (subst (λ l. Contains l i) e c)
      go (x ∷ xs) e =
          free (record { second = s.place; first = x; rule = AllocFirst; resource = Cfm })
          (record {
            walk = w;
            there = known.ends;
            inside = subst (λ l. Contains l x) (sym e) (head_in x xs);
            breaks = (there, subst (λ l. IsLatest l x) (sym e) refl, refl);
          })
