-- What a packing decided at each gap, and which instructions have a stop behind them.
use Rattle.std.proofs.Common.{◌≡◌, ◌≤◌, ◌<◌, ◌+◌, ◌⊎◌, inl, inr, ℕ, zero, suc, Bool, true, false, List, [], ◌∷◌, ◌++◌, map, take, length, get_or, refl, sym, ap, ◌∙◌, subst, arith}
use Rattle.std.specs.Prelude.{Option, Some, None, is_some, slice_get}
use Rattle.std.specs.Bool.{Decides}
use Rattle.std.proofs.lemmas.Bool.{cases_lt}
use Rattle.std.proofs.lemmas.List.{length_push, take-append-le, take_at, get_or-take, get_or_append_left, get_or_past, length-take, get_or_push}
use Rattle.std.proofs.lemmas.Option.{same_Some, slice_get_within, slice_get-get_or}
use Rattle.ia_program.specs.declared.place.Place.{Place}
use Rattle.ia_program.specs.Places.{IsBefore}
use Rattle.ia_meaning.specs.Sequence.{first_of}
use Rattle.group_checker.specs.WindowLaws.{AgreeBefore}
use Rattle.loose_items.specs.declared.item.Item.{Item}
use Rattle.loose_text.specs.LooseTexts.{Loose}
use Rattle.bundling.specs.Laws.{sequence_stop}
use Rattle.bundling.proofs.Lists.{slice_get-append_left}
use Rattle.stop_placer.specs.declared.packing.Cause.{Cause}
use Rattle.stop_placer.specs.declared.packing.Cause.TheVariants.{Pair}
use Rattle.stop_placer.specs.Packings.{Packing, first_cause, or_long}
use Rattle.stop_placer.specs.Packs.{stopped_by, IsPairAt, IsPack, all_causes, all_chunks}
use Rattle.stop_placer.proofs.Steps.{IsKept, kept_of, new_cause}
use Rattle.stop_placer.proofs.PackChunks.{pack_gaps}

-- At the n-th gap the packing has this cause: none only where no pair is violated by the causes before, and a pair only
-- where one is.
pub record IsDecided (s : Loose) (causes : List (Option Cause)) (n : ℕ) (cause : Option Cause) : Type 0 where
  pub none : cause ≡ None → ¬ IsPairAt s (take n causes) (n + 1)
  pub pair : cause ≡ Some Pair → IsPairAt s (take n causes) (n + 1)

-- As the text and the test say.
decided_by : (s : Loose) (before : List (Option Cause)) (n : ℕ) (written pair long : Bool)
    → (written ≡ false → Decides pair (IsPairAt s before (n + 1)))
    → (or_long (first_cause written pair) long ≡ None → ¬ IsPairAt s before (n + 1))
    × (or_long (first_cause written pair) long ≡ Some Pair → IsPairAt s before (n + 1))
decided_by s before n true pair long right = (λ e. absurd cc, λ e. absurd cc)
decided_by s before n false true long right = (λ e. absurd cc, λ e. (right refl).0 refl)
decided_by s before n false false true right = (λ e. absurd cc, λ e. absurd cc)
decided_by s before n false false false right = (λ e x. let wrong : false ≡ true = (right refl).1 x in absurd cc, λ e. absurd cc)

abbrev AreDecided : Loose → Packing → List Item → Item → Type 0
AreDecided s k done before = (n : ℕ) (cause : Option Cause) → slice_get k.causes n ≡ Some cause → IsDecided s k.causes n cause

-- One more.
decided_more : (s : Loose) (causes : List (Option Cause)) (written pair long : Bool)
    → (written ≡ false → Decides pair (IsPairAt s causes (length causes + 1)))
    → ((n : ℕ) (cause : Option Cause) → slice_get causes n ≡ Some cause → IsDecided s causes n cause)
    → (n : ℕ) (cause : Option Cause) → slice_get (causes ++ or_long (first_cause written pair) long ∷ []) n ≡ Some cause
    → IsDecided s (causes ++ or_long (first_cause written pair) long ∷ []) n cause
decided_more s causes written pair long right decided n cause there = of (cases_lt n (length causes))
  where
    new : Option Cause
    new = or_long (first_cause written pair) long

    all : List (Option Cause)
    all = causes ++ new ∷ []

    of : (n < length causes) ⊎ (length causes ≤ n) → IsDecided s all n cause
    of (inl less) =
        let same = take-append-le n causes (new ∷ []) (omega arith) in
        let old = decided n cause (sym (slice_get-append_left causes (new ∷ []) n less) ∙ there) in
        record {
          none = λ e x. old.none e (subst (λ (l : List (Option Cause)). IsPairAt s l (n + 1)) same x);
          pair = λ e. subst (λ (l : List (Option Cause)). IsPairAt s l (n + 1)) (sym same) (old.pair e);
        }
    of (inr up) =
        let e : length causes ≡ n = omega (arith, slice_get_within all n cause there, length_push causes new) in
        let same : take n all ≡ causes = take_at causes (new ∷ []) n e in
        let number : length causes + 1 ≡ n + 1 = omega arith in
        let is : new ≡ cause = sym (get_or_push causes new new n e) ∙ at in
        let by = decided_by s causes (length causes) written pair long right in
        record {
          none =
              λ f x. by.0 (is ∙ f) (subst (IsPairAt s causes) (sym number)
              (subst (λ (l : List (Option Cause)). IsPairAt s l (n + 1)) same x));
          pair =
              λ f. subst (λ (l : List (Option Cause)). IsPairAt s l (n + 1)) (sym same) (subst (IsPairAt s causes) number (by.1 (is ∙ f)));
        }
      where
        at : get_or all n new ≡ cause
        at = same_Some (get_or all n new) cause (sym (slice_get-get_or all n new (slice_get_within all n cause there)) ∙ there)

decided_kept : (s : Loose) → IsKept s (AreDecided s)
decided_kept s k done before item pair right decided =
    let new = new_cause k before item pair in
    subst (λ (causes : List (Option Cause)). (n : ℕ) (cause : Option Cause) → slice_get causes n ≡ Some cause → IsDecided s causes n cause)
    (sym new.causes)
    (decided_more s k.causes before.written pair new.long right decided)

pub decided_at : (s : Loose) (k : Packing) (n : ℕ) (cause : Option Cause) → IsPack s k → slice_get k.causes n ≡ Some cause
    → IsDecided s k.causes n cause
decided_at s k n cause pack there =
    (kept_of s (AreDecided s) (decided_kept s) (λ item n cause there. absurd cc) s.items k pack).1 n cause there

get_or-map_default : {X Y : Type 0} (f : X → Y) (xs : List X) (n : ℕ) (d : X) → get_or (map f xs) n (f d) ≡ f (get_or xs n d)
get_or-map_default f [] n d = refl
get_or-map_default f (x ∷ xs) zero d = refl
get_or-map_default f (x ∷ xs) (suc n) d = get_or-map_default f xs n d

-- A stop is wanted behind an instruction where there is a cause.
pub sequence_stop_is : (s : Loose) (k : Packing) (place : Place) → IsPack s k
    → sequence_stop (all_chunks s k) place ≡ stopped_by (all_causes s k) place
sequence_stop_is s k place pack =
    ap (λ (l : List Bool). get_or l place.bundle false) (pack_gaps s k pack) ∙ get_or-map_default is_some (all_causes s k) place.bundle None

-- Where no stop comes at the n-th gap, stops that go on like all causes stand before the next instruction where the
-- causes before that gap have them.
pub front_agrees : (causes : List (Option Cause)) (rest : List (Option Cause)) (n : ℕ) (has_stop : Place → Bool) → n ≤ length causes
    → ((place : Place) → place.bundle < n → has_stop place ≡ stopped_by (causes ++ rest) place)
    → ((place : Place) → place.bundle ≡ n → has_stop place ≡ false)
    → AgreeBefore (first_of (n + 1)) has_stop (stopped_by (take n causes))
front_agrees causes rest n has_stop room before here place less = of (below less)
  where
    below : IsBefore place (first_of (n + 1)) → (place.bundle < n) ⊎ (place.bundle ≡ n)
    below (inl h) = grind arith
    below (inr (same, h)) = absurd (omega arith)

    of : (place.bundle < n) ⊎ (place.bundle ≡ n) → has_stop place ≡ stopped_by (take n causes) place
    of (inl h) =
        before place h
        ∙ ap is_some (get_or_append_left causes rest None place.bundle (omega arith) ∙ sym (get_or-take n causes place.bundle None h))
    of (inr e) = here place e ∙ sym (ap is_some (get_or_past (take n causes) place.bundle None (omega (arith, length-take n causes))))
