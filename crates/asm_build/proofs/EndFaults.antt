-- The faults after the last line are of a line, for a reason.
use Rattle.std.proofs.Common.{◌≡◌, ◌∙◌, inl, inr, refl, sym, subst, ℕ, ◌+◌, Bool, true, false, List, [], ◌∷◌, length, Option, Some, None, Result, Ok, Err, IfSome, IfErr, nat_lt, if◌then◌else◌}
use Rattle.first_fault.specs.Stages.{IsFirstFault}
use Rattle.ia_program.specs.declared.limits.TheConstants.{ENTRY_LIMIT}
use Rattle.ia_program.specs.declared.relations.Relation.{Relation}
use Rattle.ia_program.specs.Programs.{IsEntryOf}
use Rattle.asm_build.specs.declared.text_parts.EntryLine.{EntryLine}
use Rattle.asm_build.specs.declared.text_parts.RelationLine.{RelationLine}
use Rattle.asm_build.specs.declared.reason.Reason.{Reason}
use Rattle.asm_build.specs.declared.reason.Reason.TheVariants as reason
use Rattle.asm_build.specs.declared.reason.Reason.TheVariants.{NoLabel, Limit, Misplaced, Empty, LongRun}
use Rattle.asm_build.specs.declared.reason.TextError.{TextError}
use Rattle.asm_build.specs.declared.reason.TextError.TheVariants.{Fault, Memory}
use Rattle.asm_build.specs.Names.{bundle_at, declared, declared_by, and_then, all_declared, earlier_of, no_label, earlier, unnamed_bundle, name_fault, program_of, line_at}
use Rattle.asm_build.specs.Relations.{related, relation_stages}
use Rattle.asm_build.specs.TextParts.{TextParts, Labels, address_of}
use Rattle.asm_build.specs.TextReading.{end_stages}

-- The fault is of a line, for a reason.
abbrev pub IsOfLine : TextError → Type 0
IsOfLine e = (line : ℕ) × (reason : Reason) × (e ≡ Fault line reason)

one_of : (first : Bool) (e f : TextError) → IsOfLine e → IsOfLine f → IsOfLine (if first then e else f)
one_of true e f p q = p
one_of false e f p q = q

-- Of a declared entry, and of all.
within : (over : Bool) (line : ℕ) (entries : List ℕ) → IfErr (if over then Err (Fault line Limit) else Ok entries) IsOfLine
within true line entries = (line, Limit, refl)
within false line entries = tt

of_entry : (o : Option ℕ) (line : ℕ) (entries : List ℕ) → IfErr (declared_by o line entries) IsOfLine
of_entry None line entries = (line, NoLabel, refl)
of_entry (Some n) line entries = within (nat_lt ENTRY_LIMIT (length (declared entries n))) line (declared entries n)

of_next : (r : Result (List ℕ) TextError) (next : List ℕ → Result (List ℕ) TextError) → IfErr r IsOfLine
    → ((entries : List ℕ) → IfErr (next entries) IsOfLine)
    → IfErr (and_then r next) IsOfLine
of_next (Ok entries) next is later = later entries
of_next (Err e) next is later = is

pub of_entries : (labels : Labels) (entries : List ℕ) (lines : List EntryLine) → IfErr (all_declared labels entries lines) IsOfLine
of_entries labels entries [] = tt
of_entries labels entries (e ∷ es) =
    of_next (declared_by (bundle_at (address_of labels e.name)) e.line entries) (λ more. all_declared labels more es)
    (of_entry (bundle_at (address_of labels e.name)) e.line entries) (λ more. of_entries labels more es)

-- Of the earlier of two.
of_earlier : (line : ℕ) (e : TextError) → IsOfLine e → IsOfLine (earlier_of (no_label line) e)
of_earlier line (Fault other why) is = one_of (nat_lt other line) (Fault other why) (Fault line NoLabel) is (line, NoLabel, refl)
of_earlier line Memory is = (line, NoLabel, refl)

pub of_names : (unnamed : Option ℕ) (r : Result (List ℕ) TextError) → IfErr r IsOfLine → IfSome (earlier unnamed r) IsOfLine
of_names None (Ok entries) is = tt
of_names None (Err e) is = is
of_names (Some line) (Ok entries) is = (line, NoLabel, refl)
of_names (Some line) (Err e) is = of_earlier line e is

name_of_line : (s : TextParts) → IfSome (name_fault s) IsOfLine
name_of_line s = of_names (unnamed_bundle s.labels 0 s.bundles) (all_declared s.labels [] s.entries) (of_entries s.labels [] s.entries)

-- Of relations.
pub of_relations : (IsEntry : ℕ → Type 0) (before : List Relation) (lines : List RelationLine) (e : TextError)
    → IsFirstFault (relation_stages IsEntry before lines) e → IsOfLine e
of_relations IsEntry before [] e never = absurd never
of_relations IsEntry before (l ∷ ls) e (inl (key, is, other)) = (l.line, reason.Relation, is)
of_relations IsEntry before (l ∷ ls) e (inr (entry, inl (key, is, over))) = (l.line, Limit, is)
of_relations IsEntry before (l ∷ ls) e (inr (entry, inr (few, later))) = of_relations IsEntry (related before l) ls e later

pub end_of_line : (count : ℕ) (s : TextParts) (e : TextError) → IsFirstFault (end_stages count s) e → IsOfLine e
end_of_line count s e (inl (key, is, open_still)) = (count + 1, Misplaced, is)
end_of_line count s e (inr (closed, inl (key, is, empty))) = (count + 1, Empty, is)
end_of_line count s e (inr (closed, inr (some, inl (named, is, found)))) =
    let h : IsOfLine named = subst (λ (o : Option TextError). IfSome o IsOfLine) found (name_of_line s) in
    (h.0, h.1, is ∙ h.2)
end_of_line count s e (inr (closed, inr (some, inr (none, inl (related, is, found))))) =
    subst IsOfLine (sym is) (of_relations (IsEntryOf (program_of s).bundles (program_of s).entries) [] s.relations related found)
end_of_line count s e (inr (closed, inr (some, inr (none, inr (relations, inl (place, is, long)))))) =
    (line_at s.bundles place, LongRun, is)
end_of_line count s e (inr (closed, inr (some, inr (none, inr (relations, inr (runs, never)))))) = absurd never
