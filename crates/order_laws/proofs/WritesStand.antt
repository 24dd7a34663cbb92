-- What a write gives a general register is there after all of those that fit together with it: any of them may come last.
use Rattle.std.proofs.Common.{ℕ, ◌+◌, ◌<◌, ◌≡◌, inl, inr, List, [], ◌∷◌, ◌++◌, length, refl, sym, ◌∙◌, ap, subst}
use Rattle.std.specs.List.Sorted.{IsPermutation}
use Rattle.std.proofs.lemmas.List.{length-set, get_or-set_same}
use Rattle.std.proofs.lemmas.List.Sorted.{IsPermutation-cons, IsPermutation-to_front, IsPermutation-sym}
use Rattle.ia_meaning.specs.State.{zero_cell, Registers}
use Rattle.ia_meaning.specs.declared.write.Write.{Write}
use Rattle.ia_meaning.specs.declared.write.Write.TheVariants.{SetStatic, SetCell, SetFrame}
use Rattle.ia_meaning.specs.Writes.{put, apply}
use Rattle.ia_meaning.proofs.Codes.{permutation_has_code}
use Rattle.ia_meaning.proofs.Resizing.{length-resized}
use Rattle.ia_meaning.proofs.WriteLists.{apply_append}
use Rattle.order_laws.specs.OrderLaws.{FitTogether, IsReady}
use Rattle.order_laws.specs.Targets.{Stands}
use Rattle.order_laws.proofs.Orders.{orders}
use Rattle.order_laws.proofs.Untouched.{Mem}

-- An item of a list goes to its end.
goes_last : {X : Type 0} (x : X) (xs : List X) → Mem x xs → (us : List X) × IsPermutation xs (us ++ x ∷ [])
goes_last x [] m = absurd m
goes_last x (y ∷ ys) (inl e) =
    (ys, subst (λ z. IsPermutation (z ∷ ys) (ys ++ x ∷ [])) e (IsPermutation-sym (ys ++ x ∷ []) (x ∷ ys) (IsPermutation-to_front ys x)))
goes_last x (y ∷ ys) (inr m) = let l = goes_last x ys m in (y ∷ l.0, IsPermutation-cons y ys (l.0 ++ x ∷ []) l.1)

-- A write may be made last.
made_last : (v : Write) (ws : List Write) (r : Registers) → FitTogether ws → IsReady r ws → Mem v ws
    → (us : List Write) × (apply ws r ≡ put v (apply us r))
made_last v ws r fits ready m =
    let l = goes_last v ws m in
    let code = permutation_has_code ws (l.0 ++ v ∷ []) l.1 in
    (l.0, sym (orders code.0 ws r fits ready) ∙ ap (λ us. apply us r) code.1 ∙ apply_append l.0 (v ∷ []) r)

statics_put : (w : Write) (r : Registers) → length (put w r).statics ≡ length r.statics
statics_put (SetStatic n c) r = length-set r.statics n c
statics_put w r = refl

statics_kept : (ws : List Write) (r : Registers) → length (apply ws r).statics ≡ length r.statics
statics_kept [] r = refl
statics_kept (w ∷ ws) r = statics_kept ws (put w r) ∙ statics_put w r

-- There are as many cells as the frame has.
abbrev IsWhole : Registers → Type 0
IsWhole r = length r.cells ≡ r.frame.base + r.frame.sof

whole_put : (w : Write) (r : Registers) → IsWhole r → IsWhole (put w r)
whole_put (SetCell n c) r whole = length-set r.cells n c ∙ whole
whole_put (SetFrame cause f) r whole = length-resized (f.base + f.sof) r.cells
whole_put w r whole = whole

whole_kept : (ws : List Write) (r : Registers) → IsWhole r → IsWhole (apply ws r)
whole_kept [] r whole = whole
whole_kept (w ∷ ws) r whole = whole_kept ws (put w r) (whole_put w r whole)

-- A static register that is written is below a count.
abbrev pub IsStaticOf : ℕ → Write → Type 0
IsStaticOf n (SetStatic k c) = k < n
IsStaticOf n w = Unit {0}

last_stands : (v : Write) (r : Registers) → IsStaticOf (length r.statics) v → IsWhole r → Stands (put v r) v
last_stands (SetStatic n c) r one whole = get_or-set_same r.statics n c zero_cell one
last_stands (SetCell n c) r one whole = λ h. get_or-set_same r.cells n c zero_cell (rw whole h)
last_stands v r one whole = tt

pub writes_stand : (v : Write) (ws : List Write) (r : Registers) → FitTogether ws → IsReady r ws → IsStaticOf (length r.statics) v
    → IsWhole r → Mem v ws → Stands (apply ws r) v
writes_stand v ws r fits ready one whole m =
    let l = made_last v ws r fits ready m in
    subst (λ q. Stands q v) (sym l.1) (last_stands v (apply l.0 r) (subst (λ n. IsStaticOf n v) (sym (statics_kept l.0 r)) one)
    (whole_kept l.0 r whole))
