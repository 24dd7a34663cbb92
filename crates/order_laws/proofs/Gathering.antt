-- A group under way: what its earlier slots have written, and that a clean slot reads none of it.
use Rattle.std.proofs.Common.{ℕ, zero, suc, ◌+◌, ◌-◌, ◌≡◌, ◌⊎◌, Bool, true, false, if◌then◌else◌, List, Option, Some, None, length, get_or, refl, sym, ◌∙◌, ap, subst, inl, inr, nat_lt}
use Rattle.std.specs.Prelude.{⊤, Contains}
use Rattle.std.specs.List.{AllByRecursion as Each}
use Rattle.ia_insn.specs.declared.insn.Insn.{Insn}
use Rattle.ia_program.specs.declared.place.Place.{Place}
use Rattle.ia_program.specs.Places.{IsBefore}
use Rattle.ia_program.specs.Programs.{Program}
use Rattle.ia_meaning.specs.declared.state.FrameShape.{FrameShape}
use Rattle.ia_meaning.specs.declared.state.Spot.{Spot}
use Rattle.ia_meaning.specs.declared.state.Spot.TheVariants.{Static, Stacked}
use Rattle.ia_meaning.specs.State.{Registers, IsFrame}
use Rattle.ia_meaning.specs.declared.write.Write.{Write as RegisterWrite}
use Rattle.ia_meaning.specs.Writes.{apply}
use Rattle.ia_meaning.specs.Names.{is_stacked, is_rotating, frame_index, spot, cell_at, look, holds, predicate_index}
use Rattle.resource_sets.specs.declared.access.Resource.{Resource}
use Rattle.resource_sets.specs.declared.access.Resource.TheVariants.{Gr, Pr, Br, Unat, Pfs, Lc, Ec, Cfm}
use Rattle.resource_sets.specs.declared.access.Kind.{Kind}
use Rattle.resource_sets.specs.declared.access.Kind.TheVariants.{Read, BranchRead, Write, AllocWrite, LoopWrite, OrWrite, AndWrite, Spill, Fill}
use Rattle.resource_sets.specs.declared.access.Access.{Access}
use Rattle.resource_sets.specs.Accesses.{is_framed}
use Rattle.resource_sets.specs.Clashes.{may_write_guard}
use Rattle.resource_sets.specs.AccessLaws.{Location, StaticAt, CellAt, PredicateAt, BranchAt, TheUnat, ThePfs, TheLc, TheEc, TheFrame, location, spot_location, location_of, SameIn, MayPut, HasAccess}
use Rattle.resource_sets.specs.Regularity.{IsInRange, IsChange, IsExcepted, frame_read}
use Rattle.ia_meaning.proofs.PredicateIndexes.{holds_zero}
use Rattle.resource_sets.proofs.Dependence.{spot_same, place_same}
use Rattle.flow_facts.specs.Graphs.{over_program}
use Rattle.order_laws.specs.Excuses.{accesses_at}
use Rattle.order_laws.specs.OrderLaws.{FitTogether, IsCellBelow}
use Rattle.order_laws.proofs.Untouched.{SameAt, Mem, each_mem, Touches, TouchedBy, same_apply}
use Rattle.resource_sets.proofs.Locations.{resource_once}

-- The writes, made over the group's start with the UNAT that goes from slot to slot.
abbrev pub joined : Registers → List RegisterWrite → ℕ → Registers
joined base ws u = apply ws (record base { unat = u })

abbrev pub access_to : Resource → Kind → ℕ → Access
access_to q k g = record { resource = q; kind = k; guard = g }

-- The guard is 1 still, in a frame that names it as at the group's start.
pub record IsStillOne (base s : Registers) (g : ℕ) : Type 0 where
  pub on : holds s g ≡ true
  pub named : is_rotating g ≡ true → s.frame ≡ base.frame
  pub range : (g ≡ 0) ⊎ IsInRange (Pr g)

-- A slot of the group from i on may write the guard.
pub record MayBeWrittenSince (p : Program) (past : List Place) (i : Place) (g : ℕ) : Type 0 where
  pub place : Place
  pub inside : Mem place past
  pub since : ¬ IsBefore place i
  pub writes : may_write_guard g (accesses_at (over_program p) place) ≡ true

-- An access of an earlier slot whose guard was 1, and is so still or may have been written since.
pub record EarlierAccess (p : Program) (past : List Place) (base s : Registers) (a : Access) : Type 0 where
  pub place : Place
  pub inside : Mem place past
  pub has : Contains (accesses_at (over_program p) place) a
  pub alive : IsStillOne base s a.guard ⊎ MayBeWrittenSince p past place a.guard

-- A write of registers, that of an `alloc`'s frame apart.
abbrev pub IsPlain : Kind → Type 0
IsPlain Write = ⊤
IsPlain LoopWrite = ⊤
IsPlain OrWrite = ⊤
IsPlain AndWrite = ⊤
IsPlain k = ⊥

pub change_of : (k : Kind) → IsPlain k → IsChange k
change_of Write h = tt
change_of LoopWrite h = tt
change_of OrWrite h = tt
change_of AndWrite h = tt
change_of k h = absurd h

-- An earlier write, and the access that it lies on.
pub record EarlierWrite (p : Program) (past : List Place) (base s : Registers) (w : RegisterWrite) : Type 0 where
  pub access : Access
  pub trace : EarlierAccess p past base s access
  pub plain : IsPlain access.kind
  pub range : IsInRange access.resource
  pub names : location_of base.frame access.resource ≡ Some (location w)
  pub puts : MayPut access.kind w

-- An earlier spill.
pub record Spilled (p : Program) (past : List Place) (base s : Registers) : Type 0 where
  pub access : Access
  pub trace : EarlierAccess p past base s access
  pub kind : access.kind ≡ Spill
  pub resource : access.resource ≡ Unat

pub record IsGathering (p : Program) (past : List Place) (base : Registers) (ws : List RegisterWrite) (u : ℕ) : Type 0 where
  pub frame : IsFrame base.frame
  pub cells : length base.cells ≡ base.frame.base + base.frame.sof
  pub origins : Each (EarlierWrite p past base (joined base ws u)) ws
  pub fits : FitTogether ws
  pub inside : Each (IsCellBelow (length base.cells)) ws
  pub unat : (base.unat ≡ u) ⊎ Spilled p past base (joined base ws u)

-- The slot clashes with no earlier one, where the guards of both are 1 or that of the earlier one may have been written.
abbrev pub ClashesWithNone : Program → List Place → Insn → Registers → Type 0
ClashesWithNone p past j s =
    (i : Place) (a b : Access) → Mem i past → Contains (accesses_at (over_program p) i) a → HasAccess j b → a.resource ≡ b.resource
    → IsChange a.kind → ¬ IsExcepted a.kind b.kind → holds s b.guard ≡ true
    → (holds s a.guard ≡ true) ⊎ MayBeWrittenSince p past i a.guard → ⊥

pub no_clash : (p : Program) (past : List Place) (base s : Registers) (j : Insn) (a b : Access) → ClashesWithNone p past j s
    → EarlierAccess p past base s a → HasAccess j b → a.resource ≡ b.resource
    → IsChange a.kind → ¬ IsExcepted a.kind b.kind → holds s b.guard ≡ true → ⊥
no_clash p past base s j a b clean t h e k x g = go t.alive
  where
    go : IsStillOne base s a.guard ⊎ MayBeWrittenSince p past t.place a.guard → ⊥
    go (inl al) = clean t.place a b t.inside t.has h e k x g (inl al.on)
    go (inr m) = clean t.place a b t.inside t.has h e k x g (inr m)

-- Kinds that clash with every plain write.
abbrev pub IsStrict : Kind → Type 0
IsStrict Read = ⊤
IsStrict Fill = ⊤
IsStrict Write = ⊤
IsStrict LoopWrite = ⊤
IsStrict Spill = ⊤
IsStrict k = ⊥

pub strict_clash : (a b : Kind) → IsPlain a → IsStrict b → ¬ IsExcepted a b
strict_clash Write Read p q e = e
strict_clash Write Fill p q e = e
strict_clash Write Write p q e = e
strict_clash Write LoopWrite p q e = e
strict_clash Write Spill p q e = e
strict_clash LoopWrite Read p q e = e
strict_clash LoopWrite Fill p q e = e
strict_clash LoopWrite Write p q e = e
strict_clash LoopWrite LoopWrite p q e = e
strict_clash LoopWrite Spill p q e = e
strict_clash OrWrite Read p q e = e
strict_clash OrWrite Fill p q e = e
strict_clash OrWrite Write p q e = e
strict_clash OrWrite LoopWrite p q e = e
strict_clash OrWrite Spill p q e = e
strict_clash AndWrite Read p q e = e
strict_clash AndWrite Fill p q e = e
strict_clash AndWrite Write p q e = e
strict_clash AndWrite LoopWrite p q e = e
strict_clash AndWrite Spill p q e = e
strict_clash Read b p q e = absurd p
strict_clash BranchRead b p q e = absurd p
strict_clash AllocWrite b p q e = absurd p
strict_clash Spill b p q e = absurd p
strict_clash Fill b p q e = absurd p
strict_clash a BranchRead p q e = absurd q
strict_clash a AllocWrite p q e = absurd q
strict_clash a OrWrite p q e = absurd q
strict_clash a AndWrite p q e = absurd q

stacked_of : (f : FrameShape) (r n : ℕ) → spot f r ≡ Some (Stacked n) → is_stacked r ≡ true
unfolding spot
stacked_of f r n e = go (is_stacked r) e
  where
    go : (b : Bool) → (if b then (if nat_lt (r - 32) f.sof then Some (Stacked (f.base + frame_index f (r - 32))) else None) else Some
        (Static r)) ≡ Some (Stacked n) → b ≡ true
    go true e = refl
    go false e = absurd (cc)

module _ (p : Program) (past : List Place) (base : Registers) (ws : List RegisterWrite) (u : ℕ) (j : Insn)
    (way : IsGathering p past base ws u) (clean : ClashesWithNone p past j (joined base ws u)) where
  abbrev S : Registers
  S = joined base ws u

  -- What the slot touches by a strict access under a guard that is 1, no earlier write has touched.
  pub no_touch : (b : Access) → HasAccess j b → IsStrict b.kind → IsInRange b.resource → holds S b.guard ≡ true → (t : Location)
      → location_of base.frame b.resource ≡ Some t → (w : RegisterWrite) → Mem w ws → location w ≡ t → ⊥
  no_touch b h k r g t e w m q =
      let o : EarlierWrite p past base S w = each_mem (EarlierWrite p past base S) w ws way.origins m in
      no_clash p past base S j o.access b clean o.trace h
      (resource_once base.frame o.access.resource b.resource t way.frame o.range r (o.names ∙ ap Some q) e)
      (change_of o.access.kind o.plain) (strict_clash o.access.kind b.kind o.plain k) g

  -- A strict access under a guard that is 1 finds what the start had.
  same_plain : (b : Access) → HasAccess j b → IsStrict b.kind → IsInRange b.resource → holds S b.guard ≡ true → (t : Location)
      → location_of base.frame b.resource ≡ Some t → ((w : RegisterWrite) → Touches t w → location w ≡ t)
      → SameAt t S (record base { unat = u })
  same_plain b h k r g t e d = go (same_apply t ws (record base { unat = u }))
    where
      go : TouchedBy t ws ⊎ SameAt t S (record base { unat = u }) → SameAt t S (record base { unat = u })
      go (inl x) = absurd (no_touch b h k r g t e x.0 x.1 (d x.0 x.2))
      go (inr x) = x

  pub frame_same : (k : Kind) (g : ℕ) → HasAccess j (access_to Cfm k g) → IsStrict k → holds S g ≡ true → S.frame ≡ base.frame
  frame_same k g h i e = same_plain (access_to Cfm k g) h i tt e TheFrame refl (λ w x. x)

  cell_same : (r g : ℕ) → HasAccess j (access_to (Gr r) Read g) → holds S g ≡ true → (is_stacked r ≡ true → HasAccess j frame_read)
      → (o : Option Spot) → spot base.frame r ≡ o → cell_at base o ≡ cell_at S o
  cell_same r g h e f None q = refl
  cell_same r g h e f (Some (Static n)) q =
      ap Some (sym (same_plain (access_to (Gr r) Read g) h tt tt e (StaticAt n) (ap spot_location q) (λ w x. x)))
  cell_same r g h e f (Some (Stacked n)) q = ap Some (sym (go (same_apply (CellAt n) ws (record base { unat = u }))))
    where
      go : TouchedBy (CellAt n) ws ⊎ SameAt (CellAt n) S (record base { unat = u }) → SameAt (CellAt n) S (record base { unat = u })
      go (inr x) = x
      go (inl (w, m, inl t)) = absurd (no_touch (access_to (Gr r) Read g) h tt tt e (CellAt n) (ap spot_location q) w m t)
      go (inl (w, m, inr t)) = absurd (no_touch frame_read (f (stacked_of base.frame r n q)) tt tt (holds_zero S) TheFrame refl w m t)

  gr_same : (r g : ℕ) → HasAccess j (access_to (Gr r) Read g) → holds S g ≡ true → (is_stacked r ≡ true → HasAccess j frame_read)
      → look base r ≡ look S r
  unfolding look
  gr_same zero g h e f = refl
  gr_same (suc r) g h e f =
      cell_same (suc r) g h e f (spot base.frame (suc r)) refl
      ∙ ap (cell_at S) (spot_same base.frame S.frame (suc r) (λ q. sym (frame_same Read 0 (f q) tt (holds_zero S))))

  pub pr_same : (n g : ℕ) → HasAccess j (access_to (Pr n) Read g) → IsInRange (Pr n) → holds S g ≡ true
      → (is_rotating n ≡ true → HasAccess j frame_read) → holds base n ≡ holds S n
  unfolding holds
  pr_same zero g h i e f = refl
  pr_same (suc n) g h i e f =
      sym (same_plain (access_to (Pr (suc n)) Read g) h tt i e (PredicateAt (predicate_index base.frame (suc n))) refl (λ w x. x))
      ∙ ap (λ t. get_or S.predicates t false) (place_same base.frame S.frame (suc n) (λ q. sym (frame_same Read 0 (f q) tt (holds_zero S))))

  -- No earlier slot spilled where UNAT is read.
  unspilled : (g : ℕ) → HasAccess j (access_to Unat Read g) → holds S g ≡ true → (base.unat ≡ u) ⊎ Spilled p past base S → base.unat ≡ u
  unspilled g h e (inl x) = x
  unspilled g h e (inr x) =
      absurd (no_clash p past base S j x.access (access_to Unat Read g) clean x.trace h x.resource (subst IsChange (sym x.kind) tt)
      (λ z. subst (λ k. IsExcepted k Read) x.kind z) e)

  pub fill_same : (k : Kind) (g : ℕ) → HasAccess j (access_to Unat k g) → IsStrict k → holds S g ≡ true → u ≡ S.unat
  fill_same k g h i e = sym (same_plain (access_to Unat k g) h i tt e TheUnat refl (λ w x. x))

  -- What is read as most instructions read is as at the group's start.
  pub read_same : (q : Resource) (g : ℕ) → HasAccess j (access_to q Read g) → IsInRange q → holds S g ≡ true
      → (is_framed q ≡ true → HasAccess j frame_read) → SameIn q base S
  read_same (Gr r) g h i e f = gr_same r g h e f
  read_same (Pr n) g h i e f = pr_same n g h i e f
  read_same (Br b) g h i e f = sym (same_plain (access_to (Br b) Read g) h tt tt e (BranchAt b) refl (λ w x. x))
  read_same Unat g h i e f = unspilled g h e way.unat ∙ fill_same Read g h tt e
  read_same Pfs g h i e f = sym (same_plain (access_to Pfs Read g) h tt tt e ThePfs refl (λ w x. x))
  read_same Lc g h i e f = sym (same_plain (access_to Lc Read g) h tt tt e TheLc refl (λ w x. x))
  read_same Ec g h i e f = sym (same_plain (access_to Ec Read g) h tt tt e TheEc refl (λ w x. x))
  read_same Cfm g h i e f = sym (frame_same Read g h tt e)
