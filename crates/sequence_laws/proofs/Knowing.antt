-- What is known in the program is known in the sequence.
use Rattle.std.proofs.Common.{◌≡◌, ℕ, ◌<◌, Bool, false, length, Some, None, refl, sym, ap, ◌∙◌, subst}
use Rattle.std.proofs.lemmas.Bool.{true≢false}
use Rattle.ia_program.specs.declared.place.Place.{Place}
use Rattle.ia_program.specs.Programs.{Program, IsProgram}
use Rattle.ia_meaning.specs.Sequence.{first_of}
use Rattle.predicate_rel.specs.Pairs.{Pairs, pairs_of, IsSubset}
use Rattle.flow_facts.specs.Graphs.{InsnSequence, over_program, over_sequence}
use Rattle.flow_facts.specs.Walks.{Walk, EndsIn, IsMeetIn, Known, facts_in}
use Rattle.group_checker.specs.Windows.{IsKnownAt}
use Rattle.sequence_laws.specs.Spreads.{IsSpread, AreStops}
use Rattle.sequence_laws.specs.Laws.{KnownInTheSequence}
use Rattle.sequence_laws.proofs.Between.{IsFirstFrom, first_at}
use Rattle.sequence_laws.proofs.Back.{HasCounterpart, back}
use Rattle.sequence_laws.proofs.Forth.{IsFollowed, forth}

-- No stop follows a place.
abbrev unstopped : Place → Bool
unstopped place = false

none_stops : (sequence : InsnSequence) (p : Program) (at : ℕ → Place) → AreStops sequence p at unstopped unstopped
none_stops sequence p at = record {
  stopped = λ n inside stop. absurd (true≢false (sym stop));
  unstopped = λ n inside none place between. refl;
}

module _ (sequence : InsnSequence) (p : Program) (at : ℕ → Place) (n : ℕ) (program : IsProgram p) (spread : IsSpread sequence p at)
    (inside : n < length sequence.insns) where
  -- The walk of the sequence for one of the program to the instruction.
  back_at : (w : Walk) → EndsIn (over_program p) (at n) w → HasCounterpart sequence p at unstopped unstopped w n
  back_at w there =
      back sequence p at unstopped unstopped program spread (none_stops sequence p at) w there.walks n
      (subst (IsFirstFrom sequence at n) (sym there.ends) (first_at sequence p at spread n inside))

  -- The walk of the program for one of the sequence to the instruction.
  forth_at : (u : Walk) → EndsIn (over_sequence sequence) (first_of n) u → IsFollowed sequence p at unstopped unstopped u n
  forth_at u there = forth sequence p at unstopped unstopped program spread (none_stops sequence p at) u there.walks n there.ends

  -- The pairs that all walks of the program know are those that all walks of the sequence know.
  meet_in_sequence : (f : Pairs) → IsMeetIn (over_program p) (at n) f → IsMeetIn (over_sequence sequence) (first_of n) f
  meet_in_sequence f meet = record {
    reached = reached;
    sound = λ u there. let w = forth_at u there in subst (IsSubset f) (sym w.facts) (meet.sound w.walk w.there);
    exact = exact;
  }
    where
      reached : (u : Walk) × EndsIn (over_sequence sequence) (first_of n) u
      reached = let (w, there) = meet.reached in let u = back_at w there in (u.walk, u.there)

      exact : (x y : ℕ) → f x y ≡ false → (u : Walk) × EndsIn (over_sequence sequence) (first_of n) u
          × (facts_in (over_sequence sequence) u x y ≡ false)
      exact x y lacks =
          let (w, there, missing) = meet.exact x y lacks in
          let u = back_at w there in
          (u.walk, u.there, ap (λ (g : Pairs). g x y) u.facts ∙ missing)

  known_at_first : (known : Known) → IsKnownAt (over_program p) (at n) known → IsKnownAt (over_sequence sequence) (first_of n) known
  known_at_first None none = λ u there. let w = forth_at u there in none w.walk w.there
  known_at_first (Some rows) meet = meet_in_sequence (pairs_of rows) meet

pub known_in_the_sequence : KnownInTheSequence
known_in_the_sequence sequence p at n known program spread inside is = known_at_first sequence p at n program spread inside known is
