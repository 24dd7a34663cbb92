-- A clean slot's writes join those of its group.
use Rattle.std.proofs.Common.{ℕ, zero, suc, ◌+◌, ◌*◌, ◌<◌, ◌≤◌, ◌≡◌, ◌⊎◌, Bool, true, false, List, [], ◌∷◌, ◌++◌, Option, Some, None, length, get_or, refl, sym, ◌∙◌, ap, subst, arith, inl, inr, true≢false}
use Rattle.std.specs.Prelude.{Contains}
use Rattle.std.specs.List.{AllByRecursion as Each}
use Rattle.std.proofs.lemmas.Bool.{cases_eq}
use Rattle.ia_insn.specs.declared.insn.Insn.{Insn}
use Rattle.ia_program.specs.declared.place.Place.{Place}
use Rattle.ia_program.specs.Listed.{IsListed}
use Rattle.ia_program.specs.Places.{insn_at, IsBefore}
use Rattle.ia_program.specs.Programs.{Program}
use Rattle.ia_meaning.specs.declared.state.FrameShape.{FrameShape}
use Rattle.ia_meaning.specs.State.{Registers, IsFrame}
use Rattle.ia_meaning.specs.declared.write.Write.{Write as RegisterWrite}
use Rattle.ia_meaning.specs.declared.write.Write.TheVariants.{SetStatic, SetCell, SetPredicate, SetUnat}
use Rattle.ia_meaning.specs.Writes.{put, apply}
use Rattle.ia_meaning.specs.Names.{is_rotating, holds, predicate_index}
use Rattle.ia_meaning.specs.Outcomes.{Outcome}
use Rattle.ia_meaning.specs.Steps.{with_bit, spilled, registers_after}
use Rattle.resource_sets.specs.declared.access.Resource.TheVariants.{Pr, Unat, Cfm}
use Rattle.resource_sets.specs.declared.access.Kind.{Kind}
use Rattle.resource_sets.specs.declared.access.Kind.TheVariants.{Read, BranchRead, Write, AllocWrite, LoopWrite, OrWrite, AndWrite, Spill, Fill}
use Rattle.resource_sets.specs.declared.access.Access.{Access}
use Rattle.resource_sets.specs.Accesses.{accesses}
use Rattle.resource_sets.specs.Clashes.{may_write_guard}
use Rattle.resource_sets.specs.AccessLaws.{Location, StaticAt, CellAt, PredicateAt, BranchAt, TheUnat, ThePfs, TheLc, TheEc, TheFrame, location, location_of, naming_frame, writes_registers, MayPut, HasAccess, IsCovered}
use Rattle.ia_meaning.specs.Actions.{is_alloc, insn_action}
use Rattle.resource_sets.specs.Regularity.{IsInRange, IsExcepted}
use Rattle.ia_meaning.proofs.PredicateIndexes.{holds_zero}
use Rattle.resource_sets.proofs.Dependence.{place_same}
use Rattle.resource_sets.proofs.Regularity.{guards, named_accesses, accesses_listed, in_range, guards_written, guarded, alloc_writes, guards_in_range}
use Rattle.resource_sets.proofs.Coverage.{cells_inside}
use Rattle.flow_facts.specs.Graphs.{over_program}
use Rattle.order_laws.specs.Excuses.{accesses_in, accesses_at}
use Rattle.order_laws.proofs.Falling.{before_trans, not_before_itself}
use Rattle.order_laws.specs.OrderLaws.{FitsBeside, FitTogether, IsCellBelow}
use Rattle.ia_meaning.specs.ParallelGroups.{unat_after}
use Rattle.ia_meaning.proofs.WriteLists.{apply_append}
use Rattle.order_laws.proofs.Untouched.{SameAt, Mem, each_mem, each_map, each_append, TouchedBy, same_apply}
use Rattle.resource_sets.proofs.Locations.{resource_once}
use Rattle.order_laws.proofs.Gathering.{joined, access_to, IsStillOne, MayBeWrittenSince, EarlierAccess, IsPlain, change_of, EarlierWrite, Spilled, IsGathering, ClashesWithNone, no_clash, no_touch, frame_same, fill_same}

holds_at : (t : Registers) (g : ℕ) → 1 ≤ g → holds t g ≡ get_or t.predicates (predicate_index t.frame g) false
unfolding holds
holds_at t zero h = absurd (omega arith)
holds_at t (suc g) h = refl

-- Where no write is of UNAT, it may be set before or after.
unat_apply : (ws : List RegisterWrite) (r : Registers) (x : ℕ) → ((w : RegisterWrite) → Mem w ws → location w ≡ TheUnat → ⊥)
    → record (apply ws r) { unat = x } ≡ apply ws (record r { unat = x })
unat_apply [] r x h = refl
unat_apply (SetUnat v ∷ ws) r x h = absurd (h (SetUnat v) (inl refl) refl)
unat_apply (SetStatic n c ∷ ws) r x h = unat_apply ws (put (SetStatic n c) r) x (λ v m. h v (inr m))
unat_apply (w ∷ ws) r x h = unat_apply ws (put w r) x (λ v m. h v (inr m))

location_cases : (s t : Location) → (s ≡ t) ⊎ (s ≡ t → ⊥)
location_cases (StaticAt n) (StaticAt m) = elim (cases_eq n m) [ inl e ↦ inl (ap StaticAt e) | inr e ↦ inr (λ q. e (cc)) ]
location_cases (CellAt n) (CellAt m) = elim (cases_eq n m) [ inl e ↦ inl (ap CellAt e) | inr e ↦ inr (λ q. e (cc)) ]
location_cases (PredicateAt n) (PredicateAt m) = elim (cases_eq n m) [ inl e ↦ inl (ap PredicateAt e) | inr e ↦ inr (λ q. e (cc)) ]
location_cases (BranchAt n) (BranchAt m) = elim (cases_eq n m) [ inl e ↦ inl (ap BranchAt e) | inr e ↦ inr (λ q. e (cc)) ]
location_cases TheUnat TheUnat = inl refl
location_cases ThePfs ThePfs = inl refl
location_cases TheLc TheLc = inl refl
location_cases TheEc TheEc = inl refl
location_cases TheFrame TheFrame = inl refl
location_cases s t = inr (λ q. cc)

-- Two plain kinds clash but for two of or, or two of and.
plain_pairs : (a b : Kind) → IsPlain a → IsPlain b → (¬ IsExcepted a b)
    ⊎ (((a ≡ OrWrite) × (b ≡ OrWrite)) ⊎ ((a ≡ AndWrite) × (b ≡ AndWrite)))
plain_pairs OrWrite OrWrite p q = inr (inl (refl, refl))
plain_pairs AndWrite AndWrite p q = inr (inr (refl, refl))
plain_pairs Write Write p q = inl (λ e. e)
plain_pairs Write LoopWrite p q = inl (λ e. e)
plain_pairs Write OrWrite p q = inl (λ e. e)
plain_pairs Write AndWrite p q = inl (λ e. e)
plain_pairs LoopWrite Write p q = inl (λ e. e)
plain_pairs LoopWrite LoopWrite p q = inl (λ e. e)
plain_pairs LoopWrite OrWrite p q = inl (λ e. e)
plain_pairs LoopWrite AndWrite p q = inl (λ e. e)
plain_pairs OrWrite Write p q = inl (λ e. e)
plain_pairs OrWrite LoopWrite p q = inl (λ e. e)
plain_pairs OrWrite AndWrite p q = inl (λ e. e)
plain_pairs AndWrite Write p q = inl (λ e. e)
plain_pairs AndWrite LoopWrite p q = inl (λ e. e)
plain_pairs AndWrite OrWrite p q = inl (λ e. e)
plain_pairs Read b p q = absurd p
plain_pairs BranchRead b p q = absurd p
plain_pairs AllocWrite b p q = absurd p
plain_pairs Spill b p q = absurd p
plain_pairs Fill b p q = absurd p
plain_pairs a Read p q = absurd q
plain_pairs a BranchRead p q = absurd q
plain_pairs a AllocWrite p q = absurd q
plain_pairs a Spill p q = absurd q
plain_pairs a Fill p q = absurd q

same_or : (v w : RegisterWrite) → MayPut OrWrite v → MayPut OrWrite w → location v ≡ location w → FitsBeside v w
same_or (SetPredicate n b) (SetPredicate m c) p q e = let d : n ≡ m = cc in inr ((λ x. cc), cc)
same_or (SetPredicate n b) w p q e = absurd q
same_or v w p q e = absurd p

same_and : (v w : RegisterWrite) → MayPut AndWrite v → MayPut AndWrite w → location v ≡ location w → FitsBeside v w
same_and (SetPredicate n b) (SetPredicate m c) p q e = let d : n ≡ m = cc in inr ((λ x. cc), cc)
same_and (SetPredicate n b) w p q e = absurd q
same_and v w p q e = absurd p

fit_each : (w : RegisterWrite) (vs : List RegisterWrite) → ((v : RegisterWrite) → Mem v vs → FitsBeside w v) → Each (FitsBeside w) vs
fit_each w [] h = tt
fit_each w (v ∷ vs) h = (h v (inl refl), fit_each w vs (λ x m. h x (inr m)))

fit_append : (ws vs : List RegisterWrite) → FitTogether ws → FitTogether vs → ((w v : RegisterWrite) → Mem w ws → Mem v vs → FitsBeside w v)
    → FitTogether (ws ++ vs)
fit_append [] vs h k f = k
fit_append (w ∷ ws) vs h k f =
    (each_append (FitsBeside w) ws vs h.0 (fit_each w vs (λ v m. f w v (inl refl) m)), fit_append ws vs h.1 k (λ x v m n. f x v (inr m) n))

no_alloc_write : (j : Insn) (a : Access) → HasAccess j a → is_alloc (insn_action j) ≡ false → a.kind ≡ AllocWrite → ⊥
no_alloc_write j a h na k = let of = alloc_writes j a h k in true≢false (sym of.0 ∙ na)

pub plain_of : (j : Insn) (a : Access) → HasAccess j a → is_alloc (insn_action j) ≡ false → writes_registers a.kind ≡ true → IsPlain a.kind
plain_of j a h na w = go a.kind refl w
  where
    go : (k : Kind) → a.kind ≡ k → writes_registers k ≡ true → IsPlain k
    go Write e w = tt
    go LoopWrite e w = tt
    go OrWrite e w = tt
    go AndWrite e w = tt
    go AllocWrite e w = absurd (no_alloc_write j a h na e)
    go Read e w = absurd (true≢false (sym w))
    go BranchRead e w = absurd (true≢false (sym w))
    go Spill e w = absurd (true≢false (sym w))
    go Fill e w = absurd (true≢false (sym w))

-- The accesses at the place of an instruction.
pub accesses_here : (p : Program) (place : Place) (j : Insn) → insn_at p.bundles place ≡ Some j
    → accesses_at (over_program p) place ≡ accesses j
unfolding accesses_at
accesses_here p place j e = ap accesses_in e

pub has_here : (p : Program) (place : Place) (j : Insn) (a : Access) → insn_at p.bundles place ≡ Some j → HasAccess j a
    → Contains (accesses_at (over_program p) place) a
has_here p place j a e h = subst (λ l. Contains l a) (sym (accesses_here p place j e)) ((accesses_listed j a).1 h)

-- The rotating part of a frame lies in it.
pub rotating_fits : {f : FrameShape} → IsFrame f → 8 * f.sor ≤ f.sof
rotating_fits h = h.rotating

-- What the laws of accesses say of an outcome, at a view whose qualifying predicate is the state's.
pub record IsLawful (j : Insn) (base s v : Registers) (o : Outcome) : Type 0 where
  pub frame : naming_frame (insn_action j) v.frame ≡ base.frame
  pub covered : Each (IsCovered j.qp (insn_action j) v) o.writes
  pub apart : FitTogether o.writes
  pub spills : (x : ℕ × Bool) → o.spills ≡ Some x → HasAccess j (access_to Unat Spill j.qp) × (holds v j.qp ≡ true)
  pub guard : holds v j.qp ≡ holds s j.qp

module _ (p : Program) (past : List Place) (base : Registers) (ws : List RegisterWrite) (u : ℕ) (j : Insn)
    (way : IsGathering p past base ws u) (clean : ClashesWithNone p past j (joined base ws u)) (listed : IsListed j)
    (na : is_alloc (insn_action j) ≡ false)
    (here : Place) (at : insn_at p.bundles here ≡ Some j) (later : (i : Place) → Mem i past → IsBefore i here) (v : Registers) (o : Outcome)
    (law : IsLawful j base (joined base ws u) v o) where
  abbrev S : Registers
  S = joined base ws u

  abbrev S' : Registers
  S' = joined base (ws ++ o.writes) (unat_after o.spills u)

  abbrev Covered : RegisterWrite → Type 0
  Covered w = IsCovered j.qp (insn_action j) v w

  guard_now : (g : ℕ) → (g ≡ 0) ⊎ (g ≡ j.qp) → holds v g ≡ true → holds S g ≡ true
  guard_now g (inl e) h = rw e (holds_zero S)
  guard_now g (inr e) h = ap (holds S) e ∙ sym law.guard ∙ sym (ap (holds v) e) ∙ h

  guard_range : (g : ℕ) → (g ≡ 0) ⊎ (g ≡ j.qp) → (g ≡ 0) ⊎ IsInRange (Pr g)
  guard_range g (inl e) = inl e
  guard_range g (inr e) = rw e (guards_in_range j listed)

  guard_frame : (g : ℕ) → (g ≡ 0) ⊎ (g ≡ j.qp) → is_rotating g ≡ true → S.frame ≡ base.frame
  guard_frame g (inl e) r = absurd (true≢false (sym r ∙ ap is_rotating e))
  guard_frame g (inr e) r =
      let k = guards j in
      frame_same p past base ws u j way clean Read 0 (named_accesses j _ (k.framed (rw (← e) r))) tt (holds_zero S)

  alive_now : (a : Access) → HasAccess j a → holds v a.guard ≡ true → IsStillOne base S a.guard
  alive_now a h g =
      let f = guarded j a h in
      record { on = guard_now a.guard f g; named = guard_frame a.guard f; range = guard_range a.guard f }

  -- The state after the slot.
  unat_quiet : (x : ℕ × Bool) → o.spills ≡ Some x → (w : RegisterWrite) → Mem w ws → location w ≡ TheUnat → ⊥
  unat_quiet x e w m t =
      let h = law.spills x e in
      no_touch p past base ws u j way clean (access_to Unat Spill j.qp) h.0 tt tt (guard_now j.qp (inr refl) h.1) TheUnat refl w m t

  spilled_joined : (q : Option (ℕ × Bool)) → o.spills ≡ q → spilled q S ≡ joined base ws (unat_after q u)
  spilled_joined None e = refl
  spilled_joined (Some x) e =
      let h = law.spills x e in
      let q : u ≡ S.unat = fill_same p past base ws u j way clean Spill j.qp h.0 tt (guard_now j.qp (inr refl) h.1) in
      ap (λ n. record S { unat = with_bit n x.0 x.1 }) (sym q) ∙ unat_apply ws (record base { unat = u }) (with_bit u x.0 x.1)
      (unat_quiet x e)

  pub after_joined : registers_after o S ≡ S'
  after_joined =
      ap (apply o.writes) (spilled_joined o.spills refl) ∙ sym (apply_append ws o.writes (record base { unat = unat_after o.spills u }))

  cover_of : (w : RegisterWrite) → Mem w o.writes → Covered w
  cover_of w m = each_mem Covered w o.writes law.covered m

  names_of : (w : RegisterWrite) (c : Covered w) → location_of base.frame c.access.resource ≡ Some (location w)
  names_of w c = subst (λ f. location_of f c.access.resource ≡ Some (location w)) law.frame c.names

  range_of : (w : RegisterWrite) (c : Covered w) → IsInRange c.access.resource
  range_of w c = in_range j c.access listed c.has

  plain_by : (w : RegisterWrite) (c : Covered w) → IsPlain c.access.kind
  plain_by w c = plain_of j c.access c.has na c.writing

  -- A slot that writes it may write it.
  may_write : (g : ℕ) (w : RegisterWrite) (c : Covered w) → (c.access.resource ≡ Pr g)
      ⊎ ((c.access.resource ≡ Cfm) × (is_rotating g ≡ true)) → may_write_guard g (accesses j) ≡ true
  may_write g w c h = guards_written j c.access g c.has (change_of c.access.kind (plain_by w c)) h

  -- A guard that the slot may not write stays 1.
  frame_keeps : (g : ℕ) → may_write_guard g (accesses j) ≡ false → is_rotating g ≡ true → S'.frame ≡ S.frame
  frame_keeps g n r = go (same_apply TheFrame o.writes (spilled o.spills S))
    where
      bad : (w : RegisterWrite) → Covered w → location w ≡ TheFrame → ⊥
      bad w c e =
          let q : c.access.resource ≡ Cfm =
          resource_once base.frame c.access.resource Cfm TheFrame way.frame (range_of w c) tt (names_of w c ∙ ap Some e) refl in
          true≢false (sym (may_write g w c (inr (q, r))) ∙ n)

      calm : (q : Option (ℕ × Bool)) → (spilled q S).frame ≡ S.frame
      calm None = refl
      calm (Some x) = refl

      go : TouchedBy TheFrame o.writes ⊎ SameAt TheFrame (registers_after o S) (spilled o.spills S) → S'.frame ≡ S.frame
      go (inl x) = absurd (bad x.0 (cover_of x.0 x.1) x.2)
      go (inr x) = ap (λ (t : Registers). t.frame) (sym after_joined) ∙ x ∙ calm o.spills

  place_keeps : (g : ℕ) → IsInRange (Pr g) → may_write_guard g (accesses j) ≡ false
      → get_or S'.predicates (predicate_index base.frame g) false ≡ get_or S.predicates (predicate_index base.frame g) false
  place_keeps g i n = go (same_apply (PredicateAt (predicate_index base.frame g)) o.writes (spilled o.spills S))
    where
      bad : (w : RegisterWrite) → Covered w → location w ≡ PredicateAt (predicate_index base.frame g) → ⊥
      bad w c e =
          let q : c.access.resource ≡ Pr g =
          resource_once base.frame c.access.resource (Pr g) (PredicateAt (predicate_index base.frame g)) way.frame (range_of w c) i
          (names_of w c ∙ ap Some e) refl in
          true≢false (sym (may_write g w c (inl q)) ∙ n)

      calm : (q : Option (ℕ × Bool)) → get_or (spilled q S).predicates (predicate_index base.frame g) false
          ≡ get_or S.predicates (predicate_index base.frame g) false
      calm None = refl
      calm (Some x) = refl

      go : TouchedBy (PredicateAt (predicate_index base.frame g)) o.writes
          ⊎ SameAt (PredicateAt (predicate_index base.frame g)) (registers_after o S) (spilled o.spills S)
          → get_or S'.predicates (predicate_index base.frame g) false ≡ get_or S.predicates (predicate_index base.frame g) false
      go (inl x) = absurd (bad x.0 (cover_of x.0 x.1) x.2)
      go (inr x) = ap (λ (t : Registers). get_or t.predicates (predicate_index base.frame g) false) (sym after_joined) ∙ x ∙ calm o.spills

  keeps : (g : ℕ) → IsStillOne base S g → may_write_guard g (accesses j) ≡ false → IsStillOne base S' g
  keeps g a n = record { on = on a.range; named = λ r. frame_keeps g n r ∙ a.named r; range = a.range }
    where
      on : (g ≡ 0) ⊎ IsInRange (Pr g) → holds S' g ≡ true
      on (inl e) = rw e (holds_zero S')
      on (inr i) =
          holds_at S' g i.0
          ∙ ap (λ k. get_or S'.predicates k false) (place_same S'.frame base.frame g (λ r. frame_keeps g n r ∙ a.named r))
          ∙ place_keeps g i n
          ∙ ap (λ k. get_or S.predicates k false) (sym (place_same S.frame base.frame g a.named))
          ∙ sym (holds_at S g i.0)
          ∙ a.on

  abbrev Past : List Place
  Past = here ∷ past

  may_here : (g : ℕ) → may_write_guard g (accesses j) ≡ true → may_write_guard g (accesses_at (over_program p) here) ≡ true
  may_here g m = ap (may_write_guard g) (accesses_here p here j at) ∙ m

  -- A trace is one step longer.
  longer : (i : Place) (g : ℕ) → Mem i past → IsStillOne base S g ⊎ MayBeWrittenSince p past i g → (b : Bool)
      → may_write_guard g (accesses j) ≡ b → IsStillOne base S' g ⊎ MayBeWrittenSince p Past i g
  longer i g m (inr x) b e = inr (record { place = x.place; inside = inr x.inside; since = x.since; writes = x.writes })
  longer i g m (inl a) true e =
      inr (record {
        place = here;
        inside = inl refl;
        since = λ z. not_before_itself here (before_trans here i here z (later i m));
        writes = may_here g e;
      })
  longer i g m (inl a) false e = inl (keeps g a e)

  trace_on : (a : Access) → EarlierAccess p past base S a → EarlierAccess p Past base S' a
  trace_on a t =
      record {
        place = t.place;
        inside = inr t.inside;
        has = t.has;
        alive = longer t.place a.guard t.inside t.alive (may_write_guard a.guard (accesses j)) refl;
      }

  trace_new : (a : Access) → HasAccess j a → IsStillOne base S a.guard → EarlierAccess p Past base S' a
  trace_new a h al =
      record { place = here; inside = inl refl; has = has_here p here j a at h; alive = go (may_write_guard a.guard (accesses j)) refl }
    where
      go : (b : Bool) → may_write_guard a.guard (accesses j) ≡ b → IsStillOne base S' a.guard ⊎ MayBeWrittenSince p Past here a.guard
      go true e = inr (record { place = here; inside = inl refl; since = not_before_itself here; writes = may_here a.guard e })
      go false e = inl (keeps a.guard al e)

  origin_on : (w : RegisterWrite) → EarlierWrite p past base S w → EarlierWrite p Past base S' w
  origin_on w t =
      record { access = t.access; trace = trace_on t.access t.trace; plain = t.plain; range = t.range; names = t.names; puts = t.puts }

  origin_new : (w : RegisterWrite) → Covered w → EarlierWrite p Past base S' w
  origin_new w c =
      record {
        access = c.access;
        trace = trace_new c.access c.has (alive_now c.access c.has c.guarded);
        plain = plain_by w c;
        range = range_of w c;
        names = names_of w c;
        puts = c.puts;
      }

  -- Two writes of the group.
  cross : (w x : RegisterWrite) → Mem w ws → Mem x o.writes → FitsBeside w x
  cross w x m n = go (location_cases (location w) (location x))
    where
      old : EarlierWrite p past base S w
      old = each_mem (EarlierWrite p past base S) w ws way.origins m

      new : Covered x
      new = cover_of x n

      both : location w ≡ location x → (¬ IsExcepted old.access.kind new.access.kind)
          ⊎ (((old.access.kind ≡ OrWrite) × (new.access.kind ≡ OrWrite)) ⊎ ((old.access.kind ≡ AndWrite) × (new.access.kind ≡ AndWrite)))
          → FitsBeside w x
      both e (inl c) = let al = alive_now new.access new.has new.guarded in
          absurd (no_clash p past base S j old.access new.access clean old.trace new.has
          (resource_once base.frame old.access.resource new.access.resource (location x) way.frame old.range (range_of x new)
          (old.names ∙ ap Some e) (names_of x new))
          (change_of old.access.kind old.plain) c al.on)
      both e (inr (inl k)) = same_or w x (subst (λ z. MayPut z w) k.0 old.puts) (subst (λ z. MayPut z x) k.1 new.puts) e
      both e (inr (inr k)) = same_and w x (subst (λ z. MayPut z w) k.0 old.puts) (subst (λ z. MayPut z x) k.1 new.puts) e

      go : (location w ≡ location x) ⊎ (location w ≡ location x → ⊥) → FitsBeside w x
      go (inl e) = both e (plain_pairs old.access.kind new.access.kind old.plain (plain_by x new))
      go (inr e) = inl e

  inside_new : (w : RegisterWrite) → Covered w → IsCellBelow (length base.cells) w
  inside_new (SetCell n c) h =
      let i =
      cells_inside j.qp (insn_action j) v (SetCell n c) n h (subst (λ f. 8 * f.sor ≤ f.sof) (sym law.frame) (rotating_fits way.frame))
      refl in
      subst (λ k. n < k) (sym way.cells) (subst (λ f. n < f.base + f.sof) law.frame i.1)
  inside_new w h = tt

  unat_on : (q : Option (ℕ × Bool)) → o.spills ≡ q → (base.unat ≡ u) ⊎ Spilled p past base S
      → (base.unat ≡ unat_after q u) ⊎ Spilled p Past base S'
  unat_on None e (inl h) = inl h
  unat_on None e (inr h) = inr (record { access = h.access; trace = trace_on h.access h.trace; kind = h.kind; resource = h.resource })
  unat_on (Some x) e h =
      let k = law.spills x e in
      inr (record {
        access = access_to Unat Spill j.qp;
        trace = trace_new (access_to Unat Spill j.qp) k.0
            (alive_now (access_to Unat Spill j.qp) k.0 k.1);
        kind = refl;
        resource = refl;
      })

  -- The group is under way one slot further.
  pub advance : IsGathering p Past base (ws ++ o.writes) (unat_after o.spills u)
  advance = record {
    frame = way.frame;
    cells = way.cells;
    origins =
        each_append (EarlierWrite p Past base S') ws o.writes (each_map (EarlierWrite p past base S)
        (EarlierWrite p Past base S') origin_on ws way.origins) (each_map Covered (EarlierWrite p Past base S') origin_new o.writes
        law.covered);
    fits = fit_append ws o.writes way.fits law.apart cross;
    inside =
        each_append (IsCellBelow (length base.cells)) ws o.writes way.inside
        (each_map Covered (IsCellBelow (length base.cells)) inside_new o.writes law.covered);
    unat = unat_on o.spills refl way.unat;
  }
