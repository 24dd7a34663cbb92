-- It is decided whether lines that declare relations have a fault, and which. Where they have none, there are no more
-- relations than a program may have, each of an entry.
use Rattle.std.proofs.Common.{◌≡◌, sym, inl, inr, ◌⊎◌, subst, ℕ, ◌+◌, ◌-◌, ◌<◌, ◌≤◌, List, [], ◌∷◌, length, drop, get_or, Contains}
use Rattle.std.specs.Prelude.{slice_get}
use Rattle.std.proofs.Math.Decide.{ℕ_discrete, dec_le, dec_lt}
use Rattle.first_fault.specs.Stages.{ArePassed, IsFirstFault}
use Rattle.first_fault.proofs.Laws.{AreDecided}
use Rattle.ia_insn.specs.declared.insn.Op.{Op}
use Rattle.ia_insn.specs.declared.insn.Op.TheVariants as op
use Rattle.ia_program.specs.declared.limits.TheConstants.{RELATION_LIMIT}
use Rattle.ia_program.specs.declared.relations.Relation.{Relation}
use Rattle.ia_program.specs.declared.bundle.Slots.{Slots}
use Rattle.ia_program.specs.declared.bundle.Slots.TheVariants as slots
use Rattle.ia_program.specs.Bundles.{Bundle}
use Rattle.ia_program.specs.Programs.{IsCall, HasCall, IsAfterCall, IsEntryOf}
use Rattle.insn_rows.proofs.Decided.{alike, both, either, some_and, contains}
use Rattle.asm_build.specs.declared.text_parts.RelationLine.{RelationLine}
use Rattle.asm_build.specs.declared.reason.TextError.{TextError}
use Rattle.asm_build.specs.declared.reason.TextError.TheVariants as error
use Rattle.asm_build.specs.Relations.{relations_among, related, all_related, relation_stages}
use Rattle.asm_build.proofs.DecidedLines.{decided}
use Rattle.asm_build.proofs.RelationSets.{from_with, between_is}
use Rattle.asm_build.proofs.Steps.{item_and_rest}

pub is_call : (x : Op) → Dec (IsCall x)
is_call (op.BrCall b1 wh many clr disp) = yes tt
is_call (op.BrCallInd b1 b2 wh many clr) = yes tt
is_call x = no (λ h. h)

has_call : (contents : Slots) → Dec (HasCall contents)
has_call (slots.Three a b c) = either (is_call a.op) (either (is_call b.op) (is_call c.op))
has_call (slots.Long first long) = either (is_call first.op) (is_call long.op)

is_after_call : (bundles : List Bundle) (n : ℕ) → Dec (IsAfterCall bundles n)
is_after_call bundles n = both (dec_le 1 n) (some_and (slice_get bundles (n - 1)) (λ b. has_call b.slots))

pub is_entry : (bundles : List Bundle) (entries : List ℕ) (n : ℕ) → Dec (IsEntryOf bundles entries n)
is_entry bundles entries n =
    alike (both (dec_lt n (length bundles)) (either (ℕ_discrete n 0) (either (contains entries n) (is_after_call bundles n))))
    (λ h. record { inside = h.0; kind = h.1 }) (λ h. (h.inside, h.kind))

pub relations_decided : (IsEntry : ℕ → Type 0) (is : (n : ℕ) → Dec (IsEntry n)) (before : List Relation) (lines : List RelationLine)
    → AreDecided (relation_stages IsEntry before lines)
relations_decided IsEntry is before [] = tt
relations_decided IsEntry is before (l ∷ ls) = (
  decided (is l.bundle),
  (
    decided (dec_le (length (related before l)) RELATION_LIMIT),
    relations_decided IsEntry is (related before l) ls,
  ),
)

-- No more than a program may have.
pub few_related : (IsEntry : ℕ → Type 0) (before : List Relation) (lines : List RelationLine) → length before ≤ RELATION_LIMIT
    → ArePassed (relation_stages IsEntry before lines)
    → length (all_related before lines) ≤ RELATION_LIMIT
few_related IsEntry before [] few passed = few
few_related IsEntry before (l ∷ ls) few passed = few_related IsEntry (related before l) ls passed.1.0 passed.1.1

-- The lines after one that has no fault.
pub line_passed : (IsEntry : ℕ → Type 0) (before : List Relation) (l : RelationLine) (ls : List RelationLine)
    → ArePassed (relation_stages IsEntry before (l ∷ []))
    → ArePassed (relation_stages IsEntry (related before l) ls) → ArePassed (relation_stages IsEntry before (l ∷ ls))
line_passed IsEntry before l ls one later = (one.0, (one.1.0, later))

pub later_fault : (IsEntry : ℕ → Type 0) (before : List Relation) (l : RelationLine) (ls : List RelationLine) (e : TextError)
    → ArePassed (relation_stages IsEntry before (l ∷ []))
    → IsFirstFault (relation_stages IsEntry (related before l) ls) e → IsFirstFault (relation_stages IsEntry before (l ∷ ls)) e
later_fault IsEntry before l ls e one fault = inr (one.0, inr (one.1.0, fault))

-- The fault of the first of them.
pub first_line_fault : (IsEntry : ℕ → Type 0) (before : List Relation) (l : RelationLine) (ls : List RelationLine) (e : TextError)
    → IsFirstFault (relation_stages IsEntry before (l ∷ [])) e
    → IsFirstFault (relation_stages IsEntry before (l ∷ ls)) e
first_line_fault IsEntry before l ls e (inl other) = inl other
first_line_fault IsEntry before l ls e (inr (entry, inl over)) = inr (entry, inl over)
first_line_fault IsEntry before l ls e (inr (entry, inr (few, never))) = absurd never

-- Each relation is of an entry.
pub related_landed : (IsEntry : ℕ → Type 0) (before : List Relation) (lines : List RelationLine)
    → ArePassed (relation_stages IsEntry before lines)
    → ((r : Relation) → Contains before r → IsEntry r.bundle) → (r : Relation) → Contains (all_related before lines) r → IsEntry r.bundle
related_landed IsEntry before [] passed all r has = all r has
related_landed IsEntry before (l ∷ ls) passed all r has =
    related_landed IsEntry (related before l) ls passed.1.1 (λ s among. by s
    (from_with before (relations_among l.bundle l.predicates) s among)) r has
  where
    by : (s : Relation) → Contains before s ⊎ Contains (relations_among l.bundle l.predicates) s → IsEntry s.bundle
    by s (inl old) = all s old
    by s (inr new) =
        let bundle : s.bundle ≡ l.bundle = (between_is l.bundle l.predicates l.predicates s new).bundle in
        rw bundle passed.0

-- Of lines whose first are taken, the fault of the next is the first of all.
pub next_fault : (IsEntry : ℕ → Type 0) (all now : List Relation) (lines : List RelationLine) (i : ℕ) (l : RelationLine)
    (first : List RelationLine) (e : TextError) → i < length lines → l ≡ get_or lines i l
    → ((f : TextError) → IsFirstFault (relation_stages IsEntry now (drop i lines)) f → IsFirstFault (relation_stages IsEntry all first) f)
    → (e ≡ error.Memory) ⊎ IsFirstFault (relation_stages IsEntry now (l ∷ [])) e
    → (e ≡ error.Memory) ⊎ IsFirstFault (relation_stages IsEntry all first) e
next_fault IsEntry all now lines i l first e less is of (inl memory) = inl memory
next_fault IsEntry all now lines i l first e less is of (inr fault) =
    let front = item_and_rest lines i l less is in
    inr (of e (subst (λ ls. IsFirstFault (relation_stages IsEntry now ls) e) (sym front)
    (first_line_fault IsEntry now l (drop (i + 1) lines) e fault)))
