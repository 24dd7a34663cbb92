-- What kinds of accesses there are: each row of each action is one of few kinds.
use Rattle.std.proofs.Common.{◌≡◌, ◌≢◌, Some, None, ◌⊎◌, inl, inr, ℕ, zero, suc, ◌<◌, ◌≤◌, ◌+◌, Bool, true, false, ◌&&◌, List, [], ◌∷◌, ◌++◌, Contains, take, refl, sym, ◌∙◌, ap, if◌then◌else◌, arith, true≢false, eq-eqb}
use Rattle.std.proofs.lemmas.List.Elements.{Contains-append_right, Contains-append_cases}
use Rattle.std.proofs.lemmas.Bool.{and_from, and_parts, or_left, or_right, cases_lt}
use Rattle.std.proofs.lemmas.Bool.Decides.{nat_tests}
use Rattle.std.proofs.lemmas.Nat.Bits.{bit_at_ones, bit_at-suc}
use Rattle.ia_meaning.specs.Arithmetic.{bit}
use Rattle.ia_meaning.specs.Moves.{is_masked}
use Rattle.ia_insn.specs.declared.choices.CmpKind.{CmpKind}
use Rattle.ia_insn.specs.declared.choices.CmpKind.TheVariants as cmp
use Rattle.ia_insn.specs.declared.choices.BranchKind.{BranchKind}
use Rattle.ia_insn.specs.declared.choices.BranchKind.TheVariants as branch
use Rattle.ia_insn.specs.declared.choices.Update.{Update}
use Rattle.ia_insn.specs.declared.registers.Ar.{Ar}
use Rattle.ia_insn.specs.declared.registers.Ar.TheVariants as ar
use Rattle.ia_insn.specs.declared.insn.Insn.{Insn}
use Rattle.ia_meaning.specs.declared.action.FetchSource.TheVariants as source
use Rattle.ia_meaning.specs.declared.action.CallTarget.{CallTarget}
use Rattle.ia_meaning.specs.declared.action.CallTarget.TheVariants as callee
use Rattle.ia_meaning.specs.declared.action.Condition.{Condition}
use Rattle.ia_meaning.specs.declared.action.Action.{Action}
use Rattle.ia_meaning.specs.declared.action.Action.TheVariants as action
use Rattle.ia_meaning.specs.State.{Registers}
use Rattle.ia_meaning.specs.Names.{is_stacked, is_rotating, holds}
use Rattle.ia_meaning.specs.Actions.{is_branch, is_indirect, is_alloc, insn_action}
use Rattle.ia_meaning.specs.Loads.{update_register}
use Rattle.ia_meaning.proofs.ListedNames.{HasNames, all_names}
use Rattle.resource_sets.specs.declared.access.Resource.{Resource}
use Rattle.resource_sets.specs.declared.access.Resource.TheVariants.{Pr, Unat, Cfm}
use Rattle.resource_sets.specs.declared.access.Kind.{Kind}
use Rattle.resource_sets.specs.declared.access.Kind.TheVariants.{Read, BranchRead, Write, AllocWrite, LoopWrite, OrWrite, AndWrite, Spill, Fill}
use Rattle.resource_sets.specs.declared.access.Access.{Access}
use Rattle.resource_sets.specs.declared.row.AccessRow.{AccessRow}
use Rattle.resource_sets.specs.declared.clashes.Rule.TheVariants.{Raw, Waw}
use Rattle.resource_sets.specs.Rows.{is_not_zero, access, gr, pr, listed}
use Rattle.resource_sets.specs.Accesses.{test_rows, is_updated, base_row, own_rows, other_name, application, call_rows, counting_rows, rotating_rows, loop_rows, place_rows, mask_rows, placed_rows, reads_plainly, qp_rows, is_framed, any_framed, frame_row, rows_by_name, rows, reads_as_branch}
use Rattle.resource_sets.specs.Clashes.{clash_of, clash, writes_guard, may_write_guard}
use Rattle.resource_sets.specs.AccessLaws.{AgreesOn, AgreesAtEach, AgreesByPlace, HasRow, HasAccess}
use Rattle.resource_sets.specs.Regularity.{IsLoop, IsChange, NamedAsFound, AgreeByAccesses, frame_read, HasNamedAccess, IsTarget, IsName, IsPredicate, IsCountOrFrame, GoesBy, IsRegular, AccessesAreRegular, GuardsAreRead, IsAccessByPlace, NamedAccessesAreAccesses, AccessesAreNamedOrPlaced, AccessesAreGuarded, AllocWritesAreOfAlloc, PredicatesAreRead, StaticsAreRead, ListedAreRows, AccessesAreListed, GuardsAreWritten, IsInRange, AccessesAreInRange, GuardsAreInRange, IsExcepted, AccessesClash, ChangesClash}
use Rattle.resource_sets.proofs.Listing.{has_left, has_right, mask_row}
use Rattle.resource_sets.proofs.AccessSets.{resource_itself}

-- Rows of a list that is put together.
pub has_append : (qp : ℕ) (a : Access) (front back : List AccessRow) → HasRow qp a (front ++ back)
    → HasRow qp a front ⊎ HasRow qp a back
has_append qp a [] back h = inr h
has_append qp a (row ∷ front) back (inl h) = inl (inl h)
has_append qp a (row ∷ front) back (inr h) = later (has_append qp a front back h)
  where
    later : HasRow qp a front ⊎ HasRow qp a back → HasRow qp a (row ∷ front) ⊎ HasRow qp a back
    later (inl k) = inl (inr k)
    later (inr k) = inr k

-- What holds of an access of an action, by its kind.
abbrev KindFact : ℕ → Action → Kind → Resource → ℕ → Type 0
KindFact qp f Read q g = reads_plainly f ≡ false → IsCountOrFrame q
KindFact qp f BranchRead q g =
    (reads_plainly f ≡ false → (q ≡ Pr qp) ⊎ GoesBy f q)
    × (reads_plainly f ≡ true → HasRow qp (record { resource = q; kind = Read; guard = g }) (rows_by_name qp f))
KindFact qp f Write q g = Unit {0}
KindFact qp f AllocWrite q g = (is_alloc f ≡ true) × (q ≡ Cfm)
KindFact qp f LoopWrite q g = q ≡ Pr 63
KindFact qp f OrWrite q g = IsPredicate q
KindFact qp f AndWrite q g = IsPredicate q
KindFact qp f Spill q g = (is_alloc f ≡ false) × (q ≡ Unat)
KindFact qp f Fill q g = q ≡ Unat

record RowFact (qp : ℕ) (f : Action) (row : AccessRow) : Type 0 where
  fact : row.there ≡ true → IsName qp f row.resource × KindFact qp f row.kind row.resource (access qp row).guard

abbrev RowFacts : ℕ → Action → List AccessRow → Type 0
RowFacts qp f [] = Unit {0}
RowFacts qp f (row ∷ rows) = RowFact qp f row × RowFacts qp f rows

facts_append : (qp : ℕ) (f : Action) (front back : List AccessRow) → RowFacts qp f front → RowFacts qp f back
    → RowFacts qp f (front ++ back)
facts_append qp f [] back h k = k
facts_append qp f (row ∷ front) back h k = (h.0, facts_append qp f front back h.1 k)

fact_of : (qp : ℕ) (f : Action) (a : Access) (rows : List AccessRow) → RowFacts qp f rows → HasRow qp a rows
    → IsName qp f a.resource × KindFact qp f a.kind a.resource a.guard
fact_of qp f a [] h k = absurd k
fact_of qp f a (row ∷ rows) h (inl k) = rw (← k.1) (h.0.fact k.0)
fact_of qp f a (row ∷ rows) h (inr k) = fact_of qp f a rows h.1 k

-- Of the registers and predicates that an instruction names.
some_of : (n : ℕ) → is_not_zero n ≡ true → 1 ≤ n
some_of zero h = absurd (cc)
some_of (suc n) h = omega arith

reads : {qp : ℕ} {f : Action} (r : ℕ) → reads_plainly f ≡ true → RowFact qp f (gr r Read)
reads r h = record { fact = λ t. (some_of r t, λ e. absurd (true≢false (sym h ∙ e))) }

writes : {qp : ℕ} {f : Action} (r : ℕ) → RowFact qp f (gr r Write)
writes r = record { fact = λ t. (some_of r t, tt) }

updates : {qp : ℕ} {f : Action} (u : Update) (r : ℕ) → RowFact qp f (base_row u r)
updates u r = record { fact = λ t. (some_of r (and_parts (is_updated u) (is_not_zero r) t).1, tt) }

target_row : {qp : ℕ} {f : Action} (guarded : Bool) (p : ℕ) (kind : Kind) → IsTarget f p
    → KindFact qp f kind (Pr p) (if guarded then qp else 0) → RowFact qp f (pr guarded p kind)
target_row guarded p kind h k = record { fact = λ t. ((some_of p t, inr (inl h)), k) }

targets : (qp : ℕ) (kind : CmpKind) (p1 p2 r2 r3 : ℕ) (c : Condition) → RowFacts qp (action.Test kind p1 p2 r2 r3 c) (test_rows kind p1 p2)
targets qp cmp.Normal p1 p2 r2 r3 c = (target_row _ p1 _ (inl refl) tt, (target_row _ p2 _ (inr refl) tt, tt))
targets qp _ p1 p2 r2 r3 c = (target_row _ p1 _ (inl refl) tt, (target_row _ p2 _ (inr refl) tt, tt))

-- Of the others.
row_of : {qp : ℕ} {f : Action} {row : AccessRow} → IsName qp f row.resource
    → KindFact qp f row.kind row.resource (access qp row).guard → RowFact qp f row
row_of n k = record { fact = λ t. (n, k) }

application_named : (qp : ℕ) (f : Action) (a : Ar) → IsName qp f (application a)
application_named qp f ar.Unat = tt
application_named qp f _ = tt

counts : (qp : ℕ) (f : Action) → RowFacts qp f counting_rows
counts qp f = (row_of tt (λ e. tt), (row_of tt tt, tt))

rotates : (qp : ℕ) (f : Action) → IsLoop f → RowFacts qp f rotating_rows
rotates qp f loop = (
  row_of tt (λ e. tt),
  (
    row_of tt tt,
    (
      row_of tt (λ e. tt),
      (row_of tt tt, (row_of (omega arith, inr (inr (loop, refl))) refl, tt)),
    ),
  ),
)

loops : (qp : ℕ) (f : Action) → IsLoop f → (kind : BranchKind) → RowFacts qp f (loop_rows kind)
loops qp f loop branch.Cond = tt
loops qp f loop branch.Wexit = rotates qp f loop
loops qp f loop branch.Wtop = rotates qp f loop
loops qp f loop branch.Cloop = counts qp f
loops qp f loop branch.Cexit = facts_append qp f counting_rows rotating_rows (counts qp f) (rotates qp f loop)
loops qp f loop branch.Ctop = facts_append qp f counting_rows rotating_rows (counts qp f) (rotates qp f loop)

calls : (qp b1 : ℕ) (callee : CallTarget) → RowFacts qp (action.Call b1 callee) (call_rows b1 callee)
calls qp b1 (callee.Direct disp) = (
  row_of tt (λ e. tt),
  (
    row_of tt tt,
    (
      row_of tt tt,
      (row_of tt (λ e. tt), (row_of tt tt, (row_of tt (λ e. tt), tt))),
    ),
  ),
)
calls qp b1 (callee.Indirect b2) = (
  row_of tt (λ e. tt),
  (
    row_of tt tt,
    (
      row_of tt tt,
      (row_of tt (λ e. tt), (row_of tt tt, (row_of tt (λ e. inr refl, λ e. absurd (cc)), tt))),
    ),
  ),
)

own_facts : (qp : ℕ) (f : Action) → RowFacts qp f (own_rows f)
own_facts qp (action.Compute r1 r2 r3 f) = (reads r2 refl, (reads r3 refl, (writes r1, tt)))
own_facts qp (action.Fetch r1 (source.Branch b)) = (writes r1, (row_of tt (λ e. absurd (cc)), tt))
own_facts qp (action.Fetch r1 (source.Application a)) =
    (writes r1, (row_of (application_named qp (action.Fetch r1 (source.Application a)) a) (λ e. absurd (cc)), tt))
own_facts qp (action.Fetch r1 source) = (writes r1, tt)
own_facts qp (action.Test kind p1 p2 r2 r3 c) = (reads r2 refl, (reads r3 refl, targets qp kind p1 p2 r2 r3 c))
own_facts qp (action.ToPredicates r2 mask w) = (reads r2 refl, tt)
own_facts qp (action.ToBranch b1 r2) = (reads r2 refl, (row_of tt tt, tt))
own_facts qp (action.ToApplication a r2 w) = (reads r2 refl, (row_of (application_named qp (action.ToApplication a r2 w) a) tt, tt))
own_facts qp (action.FromMemory size kind r1 r3 u) =
    (reads r3 refl, (reads (update_register u) refl, (writes r1, (updates u r3, (row_of tt refl, tt)))))
own_facts qp (action.ToMemory size kind r3 r2 u) =
    (reads r3 refl, (reads r2 refl, (updates u r3, (row_of tt (refl, refl), tt))))
own_facts qp (action.Exchange size r1 r3 r2 inc) = (reads r3 refl, (reads r2 refl, (writes r1, tt)))
own_facts qp (action.CheckNat r2 disp) = (reads r2 refl, tt)
own_facts qp (action.Allocate r1 sof sol sor) =
    (writes r1, (row_of tt (λ e. absurd (cc)), (row_of tt (λ e. tt), (row_of tt (refl, refl), tt))))
own_facts qp (action.JumpIndirect b2) = (row_of tt (λ e. inr refl, λ e. absurd (cc)), tt)
own_facts qp (action.Loop kind disp) = loops qp (action.Loop kind disp) tt kind
own_facts qp (action.Call b1 callee) = calls qp b1 callee
own_facts qp (action.Return b2) = (
  row_of tt (λ e. inr (inl refl), λ e. absurd (cc)),
  (row_of tt (λ e. inr (inr refl), λ e. absurd (cc)), (row_of tt tt, (row_of tt tt, tt))),
)
own_facts qp (action.ClearBases pred_only) = (row_of tt tt, tt)
own_facts qp _ = tt

-- Of the read of the frame, and of the qualifying predicate.
guard_facts : (qp : ℕ) (f : Action) → RowFacts qp f (frame_row qp f ∷ qp_rows qp f)
guard_facts qp f =
    let name : (b : Bool) → (is_not_zero qp && b) ≡ true → IsName qp f (Pr qp) = λ b t. (some_of qp (and_parts _ b t).0, inl refl) in (
      row_of tt (λ e. tt),
      (
        record { fact = λ t. (name _ t, λ e. absurd (true≢false (sym (and_parts (is_not_zero qp) _ t).1 ∙ e))) },
        (record { fact = λ t. (name _ t, (λ e. inl refl, λ e. inr (inl (and_from _ _ (and_parts _ _ t).0 e, refl)))) }, tt),
      ),
    )

facts : (qp : ℕ) (f : Action) → RowFacts qp f (rows_by_name qp f)
facts qp f =
    let g = guard_facts qp f in
    (g.0, (g.1.0, (g.1.1.0, own_facts qp f)))

-- The guard of a row is p0 or the qualifying predicate.
guard_of : (qp : ℕ) (a : Access) (rows : List AccessRow) → HasRow qp a rows → (a.guard ≡ 0) ⊎ (a.guard ≡ qp)
guard_of qp a [] k = absurd k
guard_of qp a (row ∷ rows) (inl k) = rw (← k.1) (by_row row.guarded)
  where
    by_row : (b : Bool) → ((if b then qp else 0) ≡ 0) ⊎ ((if b then qp else 0) ≡ qp)
    by_row true = inr refl
    by_row false = inl refl
guard_of qp a (row ∷ rows) (inr k) = guard_of qp a rows k

-- Names of the frame.
any_of : (qp : ℕ) (a : Access) (rows : List AccessRow) → HasRow qp a rows → is_framed a.resource ≡ true → any_framed rows ≡ true
any_of qp a [] h e = absurd h
any_of qp a (row ∷ rows) (inl h) e = or_left _ _ (ap (λ b. is_framed b.resource) h.1 ∙ e)
any_of qp a (row ∷ rows) (inr h) e = or_right (is_framed row.resource) _ (any_of qp a rows h e)

framed : (qp : ℕ) (f : Action) (a : Access) → HasRow qp a (rows_by_name qp f) → is_framed a.resource ≡ true
    → HasRow qp frame_read (rows_by_name qp f)
framed qp f a (inl h) e = absurd (true≢false (sym (rw (← h.1) at e)))
framed qp f a (inr (inl h)) e = inl (or_left _ _ (rw (← h.1) at e), refl)
framed qp f a (inr (inr (inl h))) e = inl (or_left _ _ (rw (← h.1) at e), refl)
framed qp f a (inr (inr (inr h))) e =
    inl (or_right (is_rotating qp) _ (or_right (is_stacked (other_name f)) _ (any_of qp a (own_rows f) h e)), refl)

-- A branch reads its qualifying predicate as branches do, and any other instruction as others do.
reads_so : (f : Action) → is_branch f ≡ false → reads_plainly f ≡ true
reads_so (action.Jump disp) b = absurd (true≢false b)
reads_so (action.JumpIndirect b2) b = absurd (true≢false b)
reads_so (action.Loop kind disp) b = absurd (true≢false b)
reads_so (action.Call b1 callee) b = absurd (true≢false b)
reads_so (action.Return b2) b = absurd (true≢false b)
reads_so _ b = refl

branches_so : (f : Action) → is_branch f ≡ true → (reads_plainly f ≡ false) × (reads_as_branch f ≡ true)
branches_so (action.Jump disp) b = (refl, refl)
branches_so (action.JumpIndirect b2) b = (refl, refl)
branches_so (action.Loop kind disp) b = (refl, refl)
branches_so (action.Call b1 callee) b = (refl, refl)
branches_so (action.Return b2) b = (refl, refl)
branches_so _ b = absurd (true≢false (sym b))

-- Each access by name is one of few kinds.
pub regular : AccessesAreRegular
regular insn a h =
    let f = insn_action insn in
    let x = fact_of insn.qp f a (rows_by_name insn.qp f) (facts insn.qp f) h in
    record {
      guard = guard_of insn.qp a (rows_by_name insn.qp f) h;
      name = x.0;
      framed = framed insn.qp f a h;
      branch_read = λ b e. (rw e at x.1) (branches_so f b).0;
      branch_goes = λ b e. (rw e at x.1).0 (branches_so f b).0;
      reads_too = λ b e. (rw e at x.1).1 (reads_so f b);
      alloc_write = λ e. rw e at x.1;
      loop_write = λ e. rw e at x.1;
      or_write = λ e. rw e at x.1;
      and_write = λ e. rw e at x.1;
      spill = λ e. rw e at x.1;
      fill = λ e. rw e at x.1;
    }

-- The qualifying predicate is read, and where it rotates the frame.
pub guards : GuardsAreRead
guards insn = record {
  plain = λ n b. inr (inl (and_from _ _ n (reads_so (insn_action insn) b), refl));
  branch = λ n b. inr (inr (inl (and_from _ _ n (branches_so (insn_action insn) b).1, refl)));
  framed = λ r. inl (or_left _ _ r, refl);
}

-- Accesses by name, and by place.
pub named_accesses : NamedAccessesAreAccesses
unfolding rows
named_accesses insn a h =
    has_left insn.qp a (rows_by_name insn.qp (insn_action insn)) (placed_rows (insn_action insn)) h

-- What kinds of accesses by place there are under a mask: those of branches are of p1 to p15.
record IsPlacedKind (f : Action) (mask : ℕ) (kind : Kind) : Type 0 where
  some : (kind ≡ Read) ⊎ ((kind ≡ BranchRead) ⊎ (kind ≡ Write))
  branch_read : kind ≡ BranchRead → (is_indirect f ≡ true) × ((p : ℕ) → is_masked mask p ≡ true → p < 16)

read_kind : (f : Action) (mask : ℕ) → IsPlacedKind f mask Read
read_kind f mask = record { some = inl refl; branch_read = λ e. absurd (cc) }

write_kind : (f : Action) (mask : ℕ) → IsPlacedKind f mask Write
write_kind f mask = record { some = inr (inr refl); branch_read = λ e. absurd (cc) }

-- The mask of p1 to p15 has no place from that of p16 on.
low_masked : (p : ℕ) → is_masked 0xfffe p ≡ true → p < 16
low_masked p e = elim (cases_lt p 16) [ inl low ↦ low | inr high ↦ absurd (grind (arith, nat_tests)) ]

branch_kind : (f : Action) → is_indirect f ≡ true → IsPlacedKind f 0xfffe BranchRead
branch_kind f e = record { some = inr (inl refl); branch_read = λ k. (e, low_masked) }

places : (insn : Insn) (a : Access) (left n mask : ℕ) (kind : Kind) → IsPlacedKind (insn_action insn) mask kind → 1 ≤ n
    → left + n ≤ 64 → HasRow insn.qp a (place_rows left n mask kind) → IsAccessByPlace insn a
places insn a zero n mask kind w h k r = absurd r
places insn a (suc left) n mask kind w h k (inl r) =
    record {
      name = n;
      some = h;
      below = omega arith;
      resource = cc;
      kind = rw (← r.1) w.some;
      branch_read = λ e. let b = w.branch_read (ap (λ (x : Access). x.kind) r.1 ∙ e) in (b.0, b.1 n r.0);
      guard = cc;
    }
places insn a (suc left) n mask kind w h k (inr r) = places insn a left (suc n) mask kind w (omega arith) (omega arith) r

masked : (insn : Insn) (a : Access) (mask : ℕ) (kind : Kind) → IsPlacedKind (insn_action insn) mask kind
    → HasRow insn.qp a (mask_rows mask kind) → IsAccessByPlace insn a
unfolding mask_rows
masked insn a mask kind w h = places insn a 63 1 mask kind w (omega arith) (omega arith) h

placed : (insn : Insn) (a : Access) (f : Action) → insn_action insn ≡ f → HasRow insn.qp a (placed_rows f) → IsAccessByPlace insn a
placed insn a (action.Fetch r1 source.Predicates) e h = masked insn a 0x1ffff Read (read_kind _ _) h
placed insn a (action.Fetch r1 source) e h = absurd h
placed insn a (action.ToPredicates r2 mask w) e h = masked insn a mask Write (write_kind _ _) h
placed insn a (action.JumpIndirect b2) e h = masked insn a 0xfffe BranchRead (branch_kind _ (ap is_indirect e)) h
placed insn a (action.Call b1 (callee.Indirect b2)) e h =
    masked insn a 0xfffe BranchRead (branch_kind _ (ap is_indirect e)) h
placed insn a (action.Return b2) e h = masked insn a 0xfffe BranchRead (branch_kind _ (ap is_indirect e)) h
placed insn a _ e h = absurd h

pub named_or_placed : AccessesAreNamedOrPlaced
unfolding rows
named_or_placed insn a h = by_part (has_append insn.qp a (rows_by_name insn.qp f) (placed_rows f) h)
  where
    f : Action
    f = insn_action insn

    by_part : HasRow insn.qp a (rows_by_name insn.qp f) ⊎ HasRow insn.qp a (placed_rows f)
        → HasNamedAccess insn a ⊎ IsAccessByPlace insn a
    by_part (inl k) = inl k
    by_part (inr k) = inr (placed insn a f refl k)

-- Each guard is p0 or the qualifying predicate.
pub guarded : AccessesAreGuarded
guarded insn a h = guard_of insn.qp a (rows insn.qp (insn_action insn)) h

-- Only an `alloc` writes as an `alloc` does.
pub alloc_writes : AllocWritesAreOfAlloc
alloc_writes insn a h e = by_part (named_or_placed insn a h)
  where
    by_kind : (a.kind ≡ Read) ⊎ ((a.kind ≡ BranchRead) ⊎ (a.kind ≡ Write)) → ⊥
    by_kind (inl k) = cc
    by_kind (inr (inl k)) = cc
    by_kind (inr (inr k)) = cc

    by_part : HasNamedAccess insn a ⊎ IsAccessByPlace insn a → (is_alloc (insn_action insn) ≡ true) × (a.resource ≡ Cfm)
    by_part (inl k) = (regular insn a k).alloc_write e
    by_part (inr k) = absurd (by_kind k.kind)

-- The mask with all bits has each place.
all_masked : (p : ℕ) → is_masked 0x1ffff p ≡ true
all_masked p = elim (cases_lt p 16) [
  | inl low ↦ let set : bit 0x1ffff p ≡ true = eq-eqb _ _ (bit_at_ones 17 p (omega arith)) in grind (arith, nat_tests)
  | inr high ↦ grind (arith, nat_tests)
]

pub predicates_read : PredicatesAreRead
unfolding rows
predicates_read insn r1 p e h k =
    let f = insn_action insn in
    let a : Access = record { resource = Pr p; kind = Read; guard = insn.qp } in
    let has = mask_row insn.qp p 0x1ffff Read h k (all_masked p) in
    has_right insn.qp a (rows_by_name insn.qp f) (placed_rows f) (rw e has)

-- The mask of p1 to p15 has each of their places.
static_masked : (p : ℕ) → 1 ≤ p → p < 16 → is_masked 0xfffe p ≡ true
static_masked zero some low = absurd (omega arith)
static_masked (suc p) some low =
    let set : bit 0xfffe (suc p) ≡ true = eq-eqb _ _ (bit_at-suc 0xfffe p ∙ bit_at_ones 15 p (omega arith)) in
    grind (arith, nat_tests)

static_row : (qp p : ℕ) (f : Action) → is_indirect f ≡ true → 1 ≤ p → p < 16
    → HasRow qp (record { resource = Pr p; kind = BranchRead; guard = qp }) (placed_rows f)
static_row qp p (action.JumpIndirect b2) e h k = mask_row qp p 0xfffe BranchRead h (omega arith) (static_masked p h k)
static_row qp p (action.Call b1 (callee.Indirect b2)) e h k =
    mask_row qp p 0xfffe BranchRead h (omega arith) (static_masked p h k)
static_row qp p (action.Return b2) e h k = mask_row qp p 0xfffe BranchRead h (omega arith) (static_masked p h k)
static_row qp p (action.Call b1 (callee.Direct disp)) e h k = absurd (true≢false (sym e))
static_row qp p _ e h k = absurd (true≢false (sym e))

-- An indirect branch reads p1 to p15.
pub statics_read : StaticsAreRead
unfolding rows
statics_read insn p e h k =
    let f = insn_action insn in
    let a : Access = record { resource = Pr p; kind = BranchRead; guard = insn.qp } in
    has_right insn.qp a (rows_by_name insn.qp f) (placed_rows f) (static_row insn.qp p f e h k)

-- The list of the accesses of rows.
has_listed : (qp : ℕ) (a : Access) (from : List AccessRow) → Contains (listed qp from) a → HasRow qp a from
has_listed qp a [] h = absurd (omega (arith, h.1))
has_listed qp a (row ∷ from) h = by_row row.there refl h (has_listed qp a from)
  where
    first : Contains (access qp row ∷ []) a → access qp row ≡ a
    first (zero, below, is) = is
    first (suc k, below, is) = absurd (omega arith)

    by_row : (b : Bool) → row.there ≡ b → Contains (if b then access qp row ∷ listed qp from else listed qp from) a
        → (Contains (listed qp from) a → HasRow qp a from) → HasRow qp a (row ∷ from)
    by_row true e h go =
        elim (Contains-append_cases (access qp row ∷ []) (listed qp from) a h) [ inl k ↦ inl (e, first k) | inr k ↦ inr (go k) ]
    by_row false e h go = inr (go h)

is_listed : (qp : ℕ) (a : Access) (from : List AccessRow) → HasRow qp a from → Contains (listed qp from) a
is_listed qp a [] h = absurd h
is_listed qp a (row ∷ from) h = by_row row.there refl h (is_listed qp a from)
  where
    by_row : (b : Bool) → row.there ≡ b → HasRow qp a (row ∷ from) → (HasRow qp a from → Contains (listed qp from) a)
        → Contains (if b then access qp row ∷ listed qp from else listed qp from) a
    by_row true e (inl h) go = (0, omega arith, h.1)
    by_row true e (inr h) go = Contains-append_right (access qp row ∷ []) (listed qp from) a (go h)
    by_row false e (inl h) go = absurd (true≢false (sym h.0 ∙ e))
    by_row false e (inr h) go = go h

pub listed_has : ListedAreRows
listed_has qp a from = (has_listed qp a from, is_listed qp a from)

pub accesses_listed : AccessesAreListed
accesses_listed insn a = listed_has insn.qp a (rows insn.qp (insn_action insn))

-- What writes a guard.
may_write : (qp : ℕ) (a : Access) (g : ℕ) (from : List AccessRow) → HasRow qp a from
    → writes_guard g a.resource a.kind ≡ true → may_write_guard g (listed qp from) ≡ true
may_write qp a g [] h e = absurd h
may_write qp a g (row ∷ from) h e = by_row row.there refl h (λ k. may_write qp a g from k e)
  where
    by_row : (b : Bool) → row.there ≡ b → HasRow qp a (row ∷ from) → (HasRow qp a from → may_write_guard g (listed qp from) ≡ true)
        → may_write_guard g (if b then access qp row ∷ listed qp from else listed qp from) ≡ true
    by_row true there (inl h) go = or_left _ _ (ap (λ b. writes_guard g b.resource b.kind) h.1 ∙ e)
    by_row true there (inr h) go = or_right (writes_guard g row.resource row.kind) _ (go h)
    by_row false there (inl h) go = absurd (true≢false (sym h.0 ∙ there))
    by_row false there (inr h) go = go h

abbrev IsGuard : ℕ → Resource → Type 0
IsGuard g q = (q ≡ Pr g) ⊎ ((q ≡ Cfm) × (is_rotating g ≡ true))

guard_write : (g : ℕ) (q : Resource) → IsGuard g q → writes_guard g q Write ≡ true
guard_write g q (inl e) = rw e (eq-eqb g g refl)
guard_write g q (inr h) = rw h.0 h.1

named_write : (insn : Insn) (a : Access) (g : ℕ) → IsRegular insn a → IsChange a.kind → IsGuard g a.resource
    → writes_guard g a.resource a.kind ≡ true
named_write insn a g r = by_kind a.kind refl
  where
    by_kind : (kind : Kind) → a.kind ≡ kind → IsChange kind → IsGuard g a.resource → writes_guard g a.resource kind ≡ true
    by_kind Write e w x = guard_write g a.resource x
    by_kind LoopWrite e w (inl q) = rw q (eq-eqb g g refl)
    by_kind LoopWrite e w (inr q) = absurd (let x = r.loop_write e in cc)
    by_kind OrWrite e w (inl q) = rw q (eq-eqb g g refl)
    by_kind OrWrite e w (inr q) = absurd (rw q.0 at r.or_write e)
    by_kind AndWrite e w (inl q) = rw q (eq-eqb g g refl)
    by_kind AndWrite e w (inr q) = absurd (rw q.0 at r.and_write e)
    by_kind Spill e w (inl q) = absurd (let x = (r.spill e).1 in cc)
    by_kind Spill e w (inr q) = absurd (let x = (r.spill e).1 in cc)
    by_kind _ e w x = absurd w

placed_write : (insn : Insn) (a : Access) (g : ℕ) → (a.kind ≡ Read) ⊎ ((a.kind ≡ BranchRead) ⊎ (a.kind ≡ Write))
    → IsChange a.kind → IsGuard g a.resource → writes_guard g a.resource a.kind ≡ true
placed_write insn a g (inl e) w x = absurd (rw e at w)
placed_write insn a g (inr (inl e)) w x = absurd (rw e at w)
placed_write insn a g (inr (inr e)) w x = rw e (guard_write g a.resource x)

pub guards_written : GuardsAreWritten
guards_written insn a g h w x =
    may_write insn.qp a g (rows insn.qp (insn_action insn)) h (by_part (named_or_placed insn a h))
  where
    by_part : HasNamedAccess insn a ⊎ IsAccessByPlace insn a → writes_guard g a.resource a.kind ≡ true
    by_part (inl k) = named_write insn a g (regular insn a k) w x
    by_part (inr k) = placed_write insn a g k.kind w x

-- The range of predicates: the qualifying predicate and the targets of tests.
target_below : (qp p : ℕ) (f : Action) → HasNames qp f → IsTarget f p → p < 64
target_below qp p f n t = grind arith

name_in_range : (qp : ℕ) (f : Action) (q : Resource) → qp < 64 → HasNames qp f → IsName qp f q → IsInRange q
name_in_range qp f (Pr p) b n h = (h.0, by_name h.1)
  where
    by_name : (p ≡ qp) ⊎ (IsTarget f p ⊎ (IsLoop f × (p ≡ 63))) → p < 64
    by_name (inl e) = rw e b
    by_name (inr (inl t)) = target_below qp p f n t
    by_name (inr (inr e)) = omega (arith, e.1)
name_in_range qp f _ b n h = tt

pub in_range : AccessesAreInRange
in_range insn a listed h = by_part (named_or_placed insn a h)
  where
    by_part : HasNamedAccess insn a ⊎ IsAccessByPlace insn a → IsInRange a.resource
    by_part (inl k) =
        let n = all_names insn.qp insn.op listed in
        name_in_range insn.qp (insn_action insn) a.resource n.0 n.1 (regular insn a k).name
    by_part (inr k) = rw k.resource (k.some, k.below)

-- The qualifying predicate is p0 or in the range.
pub guards_in_range : GuardsAreInRange
guards_in_range insn listed = by_number insn.qp (all_names insn.qp insn.op listed).0
  where
    by_number : (p : ℕ) → p < 64 → (p ≡ 0) ⊎ IsInRange (Pr p)
    by_number zero h = inl refl
    by_number (suc p) h = inr (omega arith, h)

-- Accesses that clash.

kinds_clash : (first second : Kind) → IsChange first
    → (clash_of first second ≡ Some Raw) ⊎ ((clash_of first second ≡ Some Waw) ⊎ IsExcepted first second)
unfolding clash_of
kinds_clash OrWrite OrWrite w = inr (inr tt)
kinds_clash AndWrite AndWrite w = inr (inr tt)
kinds_clash Spill Spill w = inr (inr tt)
kinds_clash Spill Fill w = inr (inr tt)
kinds_clash _ BranchRead w = inr (inr tt)
kinds_clash Read _ w = absurd w
kinds_clash BranchRead _ w = absurd w
kinds_clash AllocWrite _ w = absurd w
kinds_clash Fill _ w = absurd w
kinds_clash _ Read w = inl refl
kinds_clash _ Fill w = inl refl
kinds_clash _ _ w = inr (inl refl)

-- By which rule a change clashes with a later access.
pub changes_clash : ChangesClash
changes_clash a b same w = rw (← same) (rw (resource_itself a.resource) (kinds_clash a.kind b.kind w))

-- Which accesses clash.
pub accesses_clash : AccessesClash
accesses_clash a b same w = by_rule (changes_clash a b same w)
  where
    by_rule : (clash a b ≡ Some Raw) ⊎ ((clash a b ≡ Some Waw) ⊎ IsExcepted a.kind b.kind)
        → (clash a b ≢ None) ⊎ IsExcepted a.kind b.kind
    by_rule (inl e) = inl (λ n. cc)
    by_rule (inr (inl e)) = inl (λ n. cc)
    by_rule (inr (inr e)) = inr e

pub named_as_found : NamedAsFound
named_as_found (action.Allocate r1 sof sol sor) shape n = absurd (true≢false n)
named_as_found _ shape n = refl

-- Agreement, access by access.
agree_each : (qp : ℕ) (v w : Registers) (x y : ℕ) (from : List AccessRow)
    → ((a : Access) → HasRow qp a from → holds v a.guard ≡ true → AgreesOn v w x y a.kind a.resource)
    → AgreesAtEach qp v w x y from
agree_each qp v w x y [] h = tt
agree_each qp v w x y (row ∷ from) h =
    (λ there. h (access qp row) (inl (there, refl)), agree_each qp v w x y from (λ a k. h a (inr k)))

agree_placed : (insn : Insn) (v w : Registers) (f : Action) → insn_action insn ≡ f
    → (is_branch f ≡ false
    → ((p : ℕ) → 1 ≤ p → p < 64 → HasAccess insn (record { resource = Pr p; kind = Read; guard = insn.qp }))
    → v.predicates ≡ w.predicates)
    → (is_indirect f ≡ true
    → ((p : ℕ) → 1 ≤ p → p < 16 → HasAccess insn (record { resource = Pr p; kind = BranchRead; guard = insn.qp }))
    → take 16 v.predicates ≡ take 16 w.predicates)
    → AgreesByPlace f v w
agree_placed insn v w (action.Fetch r1 source.Predicates) e h l = h refl (λ p. predicates_read insn r1 p e)
agree_placed insn v w (action.Fetch r1 source) e h l = tt
agree_placed insn v w (action.JumpIndirect b2) e h l = l refl (λ p. statics_read insn p (ap is_indirect e))
agree_placed insn v w (action.Call b1 (callee.Indirect b2)) e h l = l refl (λ p. statics_read insn p (ap is_indirect e))
agree_placed insn v w (action.Return b2) e h l = l refl (λ p. statics_read insn p (ap is_indirect e))
agree_placed insn v w _ e h l = tt

pub agree_by : AgreeByAccesses
agree_by insn v w x y h p l = record {
  named = agree_each insn.qp v w x y (rows_by_name insn.qp (insn_action insn)) h;
  placed = λ g. agree_placed insn v w (insn_action insn) refl (λ r. p r g) (λ r. l r g);
}
