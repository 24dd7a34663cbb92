-- What a list of writes leaves as it was.
use Rattle.std.proofs.Common.{ℕ, suc, ◌≡◌, ◌≢◌, ◌⊎◌, false, List, [], ◌∷◌, ◌++◌, length, set, get_or, refl, sym, ◌∙◌, ap, arith, inl, inr, get_or-set_other}
use Rattle.std.specs.Prelude.{All, AllPairs}
use Rattle.std.specs.List.{AllByRecursion as Each}
use Rattle.std.proofs.lemmas.Bool.{cases_eq}
use Rattle.std.proofs.lemmas.List.{length-set}
use Rattle.ia_meaning.specs.State.{zero_cell, Registers}
use Rattle.ia_meaning.specs.declared.write.Write.{Write}
use Rattle.ia_meaning.specs.declared.write.Write.TheVariants.{SetStatic, SetCell, SetPredicate, SetBranch, SetUnat, SetPfs, SetLc, SetEc, SetFrame}
use Rattle.ia_meaning.specs.Writes.{put, apply}
use Rattle.resource_sets.specs.AccessLaws.{Location, StaticAt, CellAt, PredicateAt, BranchAt, TheUnat, ThePfs, TheLc, TheEc, TheFrame, location}
use Rattle.order_laws.specs.OrderLaws.{FitsBeside, FitTogether}

-- The same stands at a location in both registers.
abbrev pub SameAt : Location → Registers → Registers → Type 0
SameAt (StaticAt n) r s = get_or r.statics n zero_cell ≡ get_or s.statics n zero_cell
SameAt (CellAt n) r s = get_or r.cells n zero_cell ≡ get_or s.cells n zero_cell
SameAt (PredicateAt n) r s = get_or r.predicates n false ≡ get_or s.predicates n false
SameAt (BranchAt n) r s = get_or r.branches n 0 ≡ get_or s.branches n 0
SameAt TheUnat r s = r.unat ≡ s.unat
SameAt ThePfs r s = r.pfs ≡ s.pfs
SameAt TheLc r s = r.lc ≡ s.lc
SameAt TheEc r s = r.ec ≡ s.ec
SameAt TheFrame r s = r.frame ≡ s.frame

abbrev pub Mem : {X : Type 0} → X → List X → Type 0
Mem x [] = ⊥
Mem x (y ∷ ys) = (x ≡ y) ⊎ Mem x ys

pub each_mem : {X : Type 0} (P : X → Type 0) (x : X) (xs : List X) → Each P xs → Mem x xs → P x
each_mem P x [] h m = absurd m
each_mem P x (y ∷ ys) h (inl e) = rw e h.0
each_mem P x (y ∷ ys) h (inr m) = each_mem P x ys h.1 m

pub each_append : {X : Type 0} (P : X → Type 0) (xs ys : List X) → Each P xs → Each P ys → Each P (xs ++ ys)
each_append P [] ys h k = k
each_append P (x ∷ xs) ys h k = (h.0, each_append P xs ys h.1 k)

pub each_map : {X : Type 0} (P Q : X → Type 0) → ((x : X) → P x → Q x) → (xs : List X) → Each P xs → Each Q xs
each_map P Q f [] h = tt
each_map P Q f (x ∷ xs) h = (f x h.0, each_map P Q f xs h.1)

-- A write that changes what stands at a target: the target's own, and for a cell that of the frame.
abbrev pub Touches : Location → Write → Type 0
Touches (CellAt n) w = (location w ≡ CellAt n) ⊎ (location w ≡ TheFrame)
Touches t w = location w ≡ t

at_other : {X : Type 0} (l : List X) (n m : ℕ) (x d : X) → (n ≡ m) ⊎ (get_or (set l n x) m d ≡ get_or l m d)
at_other l n m x d = go (cases_eq n m)
  where
    go : (n ≡ m) ⊎ (n ≡ m → ⊥) → (n ≡ m) ⊎ (get_or (set l n x) m d ≡ get_or l m d)
    go (inl e) = inl e
    go (inr ne) = inr (get_or-set_other l n m x d (λ e. ne (sym e)))

onto : {A B C : Type 0} → A ⊎ C → (A → B) → B ⊎ C
onto (inl a) f = inl (f a)
onto (inr c) f = inr c

pub same_put : (t : Location) (w : Write) (r : Registers) → Touches t w ⊎ SameAt t (put w r) r
same_put (StaticAt n) (SetStatic m c) r = onto (at_other r.statics m n c zero_cell) (λ e. ap StaticAt e)
same_put (CellAt n) (SetCell m c) r = onto (at_other r.cells m n c zero_cell) (λ e. inl (ap CellAt e))
same_put (CellAt n) (SetFrame cause f) r = inl (inr refl)
same_put (PredicateAt n) (SetPredicate m c) r = onto (at_other r.predicates m n c false) (λ e. ap PredicateAt e)
same_put (BranchAt n) (SetBranch m c) r = onto (at_other r.branches m n c 0) (λ e. ap BranchAt e)
same_put TheUnat (SetUnat v) r = inl refl
same_put ThePfs (SetPfs v) r = inl refl
same_put TheLc (SetLc v) r = inl refl
same_put TheEc (SetEc v) r = inl refl
same_put TheFrame (SetFrame cause v) r = inl refl
same_put _ _ r = inr refl

pub same_join : (t : Location) (r s q : Registers) → SameAt t r s → SameAt t s q → SameAt t r q
same_join (StaticAt n) r s q a b = a ∙ b
same_join _ r s q a b = a ∙ b

pub same_refl : (t : Location) (r : Registers) → SameAt t r r
same_refl (StaticAt n) r = refl
same_refl _ r = refl

-- A location that some write touches, or that all of them leave.
abbrev pub TouchedBy : Location → List Write → Type 0
TouchedBy t ws = (w : Write) × Mem w ws × Touches t w

pub same_apply : (t : Location) (ws : List Write) (r : Registers) → TouchedBy t ws ⊎ SameAt t (apply ws r) r
same_apply t [] r = inr (same_refl t r)
same_apply t (w ∷ ws) r = go (same_put t w r) (same_apply t ws (put w r))
  where
    go : Touches t w ⊎ SameAt t (put w r) r → TouchedBy t ws ⊎ SameAt t (apply ws (put w r)) (put w r)
        → TouchedBy t (w ∷ ws) ⊎ SameAt t (apply ws (put w r)) r
    go (inl h) k = inl (w, inl refl, h)
    go (inr h) (inl k) = inl (k.0, inr k.1, k.2)
    go (inr h) (inr k) = inr (same_join t _ _ _ k h)

pub length_predicates : (ws : List Write) (r : Registers) → length (apply ws r).predicates ≡ length r.predicates
length_predicates [] r = refl
length_predicates (SetPredicate n b ∷ ws) r = length_predicates ws (put (SetPredicate n b) r) ∙ length-set r.predicates n b
length_predicates (w ∷ ws) r = length_predicates ws (put w r)

pub length_branches : (ws : List Write) (r : Registers) → length (apply ws r).branches ≡ length r.branches
length_branches [] r = refl
length_branches (SetBranch n b ∷ ws) r = length_branches ws (put (SetBranch n b) r) ∙ length-set r.branches n b
length_branches (w ∷ ws) r = length_branches ws (put w r)

pub each_of : {X : Type 0} (P : X → Type 0) (xs : List X) → All P xs → Each P xs
each_of P [] h = tt
each_of P (x ∷ xs) h = (h 0 x (omega arith), each_of P xs (λ k d l. h (suc k) d (omega arith)))

apart_of : (w : Write) (ws : List Write) → All (λ v. location w ≢ location v) ws → Each (FitsBeside w) ws
apart_of w [] h = tt
apart_of w (v ∷ vs) h = (inl (h 0 v (omega arith)), apart_of w vs (λ k d l. h (suc k) d (omega arith)))

pub fit_of : (ws : List Write) → AllPairs (λ v w. location v ≢ location w) ws → FitTogether ws
fit_of [] h = tt
fit_of (w ∷ ws) h = (
  apart_of w ws (λ k d l. h 0 (suc k) d (omega arith) (omega arith)),
  fit_of ws (λ i j d l m. h (suc i) (suc j) d (omega arith) (omega arith)),
)
