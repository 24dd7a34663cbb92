-- What is known on a set of walks, and past one more instruction.
use Rattle.std.proofs.Common.{◌≡◌, ℕ, false, Option, None, Some, sym, ap, ◌∙◌, subst}
use Rattle.ia_insn.specs.declared.insn.Insn.{Insn}
use Rattle.ia_program.specs.declared.place.Place.{Place}
use Rattle.predicate_rel.specs.declared.edge.Edge.TheVariants.{Falls}
use Rattle.predicate_rel.specs.Pairs.{Pairs, IsSubset}
use Rattle.predicate_rel.specs.Rules.{pairs_after}
use Rattle.predicate_rel.proofs.RuleLaws.{WhyMissing, whatever, since, why_missing, pairs_after-within}
use Rattle.predicate_rel.specs.Edges.{pairs_past_insn}
use Rattle.flow_facts.specs.Graphs.{Graph, insn_in, pairs_past_in}
use Rattle.flow_facts.specs.Walks.{Walk, EndsIn, facts_in, IsMeetIn}
use Rattle.group_checker.specs.Windows.{IsMeetOf}
use Rattle.order_laws.proofs.Falling.{past_is}

past_insn_within : (o : Option Insn) (f h : Pairs) → IsSubset f h → IsSubset (pairs_past_insn o Falls f) (pairs_past_insn o Falls h)
past_insn_within None f h w = w
past_insn_within (Some insn) f h w = pairs_after-within f h insn Falls w

-- Who knows more before an instruction knows more past it.
past_within : (g : Graph) (j : Place) (f h : Pairs) → IsSubset f h → IsSubset (pairs_past_in g j Falls f) (pairs_past_in g j Falls h)
past_within g j f h w =
    subst (λ (a : Pairs). IsSubset a (pairs_past_in g j Falls h)) (sym (past_is g j Falls f))
    (subst (IsSubset (pairs_past_insn (insn_in g j) Falls f)) (sym (past_is g j Falls h)) (past_insn_within (insn_in g j) f h w))

-- The walks of the new set are those of the old one, gone on past the slot at j.
pub record GoOn (g : Graph) (j : Place) (IsOld IsNew : Walk → Type 0) : Type 0 where
  pub on : (w : Walk) → IsOld w → (v : Walk) × IsNew v × (facts_in g v ≡ pairs_past_in g j Falls (facts_in g w))
  pub back : (v : Walk) → IsNew v → (w : Walk) × IsOld w × (facts_in g v ≡ pairs_past_in g j Falls (facts_in g w))

-- Some walk lacks the pair past the slot too.
lacks_past : (g : Graph) (o : Option Insn) (IsOld : Walk → Type 0) (f : Pairs) (x y : ℕ) → IsMeetOf g IsOld f
    → pairs_past_insn o Falls f x y ≡ false → (w : Walk) × IsOld w × (pairs_past_insn o Falls (facts_in g w) x y ≡ false)
lacks_past g None IsOld f x y meet h = meet.exact x y h
lacks_past g (Some insn) IsOld f x y meet h = by_why (why_missing f insn Falls x y h)
  where
    by_why : WhyMissing f insn Falls x y → (w : Walk) × IsOld w × (pairs_after (facts_in g w) insn Falls x y ≡ false)
    by_why (whatever all) = let (w, is) = meet.reached in (w, is, all (facts_in g w))
    by_why (since a b n more) = let (w, is, m) = meet.exact a b n in (w, is, more (facts_in g w) m)

-- What is known on all of the old walks, past the slot, is what is known on all of the new ones.
pub meet_past : (g : Graph) (j : Place) (IsOld IsNew : Walk → Type 0) (f : Pairs) → GoOn g j IsOld IsNew → IsMeetOf g IsOld f
    → IsMeetOf g IsNew (pairs_past_in g j Falls f)
meet_past g j IsOld IsNew f go meet = record {
  reached = let (w, is) = meet.reached in let (v, new, e) = go.on w is in (v, new);
  sound = λ v new. let (w, is, e) = go.back v new in
      subst (IsSubset (pairs_past_in g j Falls f)) (sym e) (past_within g j f (facts_in g w) (meet.sound w is));
  exact =
      λ x y h. let (w, is, m) = lacks_past g (insn_in g j) IsOld f x y meet (ap (λ (q : Pairs). q x y) (sym (past_is g j Falls f)) ∙ h) in
      let (v, new, e) = go.on w is in (v, new, ap (λ (q : Pairs). q x y) (e ∙ past_is g j Falls (facts_in g w)) ∙ m);
}

-- The meet at a place is that of all walks that end there.
pub meet_at : (g : Graph) (j : Place) (f : Pairs) → IsMeetIn g j f → IsMeetOf g (EndsIn g j) f
meet_at g j f meet = record { reached = meet.reached; sound = meet.sound; exact = meet.exact }
