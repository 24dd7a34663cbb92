-- The entries of the ALAT that a store or a load leaves are those of the list that pass a test.
use Rattle.std.proofs.Common.{◌≡◌, ℕ, Bool, true, false, cond, not, List, [], ◌∷◌, filter, refl}
use Rattle.ia_meaning.specs.declared.state.Spot.{Spot}
use Rattle.ia_meaning.specs.declared.state.AlatEntry.{AlatEntry}
use Rattle.ia_meaning.specs.Loads.{is_spot, is_apart, invalidated, untouched}

pub untouched_is_filter : (es : List AlatEntry) (address size : ℕ) → untouched es address size ≡ filter (λ e. is_apart e address size) es
unfolding untouched
untouched_is_filter [] address size = refl
untouched_is_filter (e ∷ es) address size = simp (untouched_is_filter es address size)

cond-not : {X : Type 0} (b : Bool) (x y : X) → cond b x y ≡ cond (not b) y x
cond-not true x y = refl
cond-not false x y = refl

pub invalidated_is_filter : (es : List AlatEntry) (key : Spot) → invalidated es key ≡ filter (λ e. not (is_spot e.key key)) es
unfolding invalidated
invalidated_is_filter [] key = refl
invalidated_is_filter (e ∷ es) key = simp (invalidated_is_filter es key) (cond-not (is_spot e.key key) _ _)
