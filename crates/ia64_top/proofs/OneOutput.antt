-- One output is stated for arguments, watchers and an input.
use Rattle.std.proofs.Common.{◌≡◌, ℕ, ◌+◌, inl, inr, List, [], ◌∷◌, ◌++◌, Option, None, Some, Bool, true, false, refl, sym, ap, ◌∙◌, subst}
use Rattle.std.proofs.lemmas.Option.{IfSome_then}
use Rattle.std.specs.Prelude.{◌+◌, IfSome, MatchOption, MatchBool}
use Rattle.std.specs.Io.KnownBytes.{Appends}
use Rattle.ia_program.specs.Bundles.{Bundle}
use Rattle.ia_program.specs.Programs.{Program}
use Rattle.insn_codec.specs.Laws.{OneSpelling}
use Rattle.image_form.specs.Images.{IsImage, written_version, Written}
use Rattle.image_form.specs.declared.version.Version.TheVariants.{Two}
use Rattle.image_form.specs.Laws.{OneProgram, OneImage, OneRawProgram, OneFault, OneRawFault, NoFaultWhereSpelled, NoFaultWhereRaw}
use Rattle.asm_build.specs.CanonicalText.{slots_text}
use Rattle.asm_build.specs.Laws.{OneTextProgram, OneTextFault, NoFaultWhereRead}
use Rattle.stop_placer.specs.Laws.{OnePlaced, OnePlacingFault, NoFaultWherePlaced}
use Rattle.asm_build.specs.Listing.{head_listed, IsBundleListing, AreBundleListings, IsListing}
use Rattle.group_checker.specs.Reports.{OneVerdict}
use Rattle.trial_maker.specs.Trials.{trial_program}
use Rattle.watch_seam.specs.Watchers.{WatchState}
use Rattle.ia64_top.specs.declared.arguments.Command.{Command}
use Rattle.ia64_top.specs.declared.arguments.Command.TheVariants as command
use Rattle.ia64_top.specs.declared.status.Status.{Status}
use Rattle.ia64_top.specs.declared.status.Status.TheVariants.{Done, Violated, Refused, Words, TooLong}
use Rattle.ia64_top.specs.Arguments.{command_of}
use Rattle.ia64_top.specs.Texts.{refusal_text, text_refusal_text, verdict_text}
use Rattle.ia64_top.specs.Readings.{InputReading, as_image, as_bundles, as_text, as_loose, as_either}
use Rattle.ia64_top.specs.Judgements.{IsJudgement, verdict_status}
use Rattle.ia64_top.specs.Runs.{Printing, state_after, watch_text, trace_text, IsRunAs}
use Rattle.ia64_top.specs.Trials.{IsTrialOutput}
use Rattle.ia64_top.specs.Output.{IsCanonical, IsMadeOutput, IsSilent, IsCommandOutput, IsOutput, OneOutput, GivesOutput, is_too_long}
use Rattle.ia64_top.specs.Stops.{packed_text, IsPackedText}
use Rattle.ia64_top.proofs.Outputs.{GivesOne, RefusesNone, IsTold, either_gives_one, either_refuses_none, image_refuses_none, bundles_refuse_none, text_refuses_none, loose_gives_one, loose_refuses_none}
use Rattle.ia64_top.proofs.Judging.{violated_of_judgement, told_of_check}
use Rattle.ia64_top.proofs.Running.{IsRunAnswer, told_of_run}
use Rattle.ia64_top.proofs.NumberedRuns.{IsNumberedRunAnswer, told_of_numbered_run}

-- An input is refused in one way.
abbrev pub RefusesOne : InputReading → Type 0
RefusesOne r = (input mine bytes : List ℕ) → r.Refuses input mine → r.Refuses input bytes → bytes ≡ mine

image_refuses_one : OneFault → RefusesOne as_image
image_refuses_one one input mine bytes m o = o.2 ∙ ap refusal_text (one input o.0 m.0 o.1 m.1) ∙ sym m.2

bundles_refuse_one : OneRawFault → RefusesOne as_bundles
bundles_refuse_one one input mine bytes m o = o.2 ∙ ap refusal_text (one input o.0 m.0 o.1 m.1) ∙ sym m.2

text_refuses_one : OneTextFault → RefusesOne as_text
text_refuses_one one input mine bytes m o = o.2 ∙ ap text_refusal_text (one input o.0 m.0 o.1 m.1) ∙ sym m.2

loose_refuses_one : OnePlacingFault → RefusesOne as_loose
loose_refuses_one one input mine bytes m o = o.2 ∙ ap text_refusal_text (one input o.0 m.0 o.1 m.1) ∙ sym m.2

either_refuses_one : OneFault → OneTextFault → RefusesOne as_either
either_refuses_one image text input mine bytes (inl m) (inl o) = image_refuses_one image input mine bytes m.1 o.1
either_refuses_one image text input mine bytes (inl m) (inr o) = absurd (o.0 m.0)
either_refuses_one image text input mine bytes (inr m) (inl o) = absurd (m.0 o.0)
either_refuses_one image text input mine bytes (inr m) (inr o) = text_refuses_one text input mine bytes m.1 o.1

-- An input is read as one program, or refused in one way, and not both.
pub record ReadsOne (r : InputReading) : Type 0 where
  pub gives_one : GivesOne r
  pub refuses_none : RefusesNone r
  pub refuses_one : RefusesOne r

-- One answer is told of a program.
abbrev TellsOne : (Program → List ℕ → Status → Type 0) → Type 0
TellsOne Tells =
    (p : Program) (mine bytes : List ℕ) (status other : Status) → Tells p mine status → Tells p bytes other
    → (bytes ≡ mine) × (other ≡ status)

-- At most one answer is told of an input that reads as at most one program.
one_told : (r : InputReading) (Tells : Program → List ℕ → Status → Type 0) → TellsOne Tells → ReadsOne r
    → (input mine bytes : List ℕ) (status other : Status) → IsTold r Tells input mine status → IsTold r Tells input bytes other
    → (bytes ≡ mine) × (other ≡ status)
one_told r Tells single one input mine bytes status other (inl m) (inl o) =
    single m.0 mine bytes status other m.2 (subst (λ x. Tells x bytes other) (one.gives_one input o.0 m.0 o.1 m.1) o.2)
one_told r Tells single one input mine bytes status other (inl m) (inr o) = absurd (one.refuses_none input m.0 bytes m.1 o.0)
one_told r Tells single one input mine bytes status other (inr m) (inl o) = absurd (one.refuses_none input o.0 mine o.1 m.0)
one_told r Tells single one input mine bytes status other (inr m) (inr o) = (one.refuses_one input mine bytes m.0 o.0, o.1 ∙ sym m.1)

-- One thing is made of a program.
abbrev MakesOne : (Program → List ℕ → Type 0) → Type 0
MakesOne Makes = (p : Program) (mine bytes : List ℕ) → Makes p mine → Makes p bytes → bytes ≡ mine

abbrev IsMade : (Program → List ℕ → Type 0) → Program → List ℕ → Status → Type 0
IsMade Makes p bytes status = Makes p bytes × (status ≡ Done)

told_of_made : (r : InputReading) (Makes : Program → List ℕ → Type 0) (input bytes : List ℕ) (status : Status)
    → IsMadeOutput r Makes input bytes status → IsTold r (IsMade Makes) input bytes status
told_of_made r Makes input bytes Done o = inl (o.0, o.1, (o.2, refl))
told_of_made r Makes input bytes Refused o = inr (o, refl)
told_of_made r Makes input bytes status o = absurd o

one_made : (r : InputReading) (Makes : Program → List ℕ → Type 0) → MakesOne Makes → ReadsOne r
    → (input mine bytes : List ℕ) (status other : Status) → IsMadeOutput r Makes input mine status → IsMadeOutput r Makes input bytes other
    → (bytes ≡ mine) × (other ≡ status)
one_made r Makes single one input mine bytes status other m o =
    one_told r (IsMade Makes) (λ p mine bytes status other m o. (single p mine bytes m.0 o.0, o.1 ∙ sym m.1)) one input mine bytes status
    other
    (told_of_made r Makes input mine status m) (told_of_made r Makes input bytes other o)

-- A program has one image, one canonical text and one listing.
one_image : OneImage → MakesOne Written
one_image one p mine bytes m o = one (written_version p) p bytes mine o m

one_canonical : MakesOne IsCanonical
one_canonical p mine bytes m o = o.canonical ∙ sym m.canonical

one_packed_text : OnePlaced → (input : List ℕ) → MakesOne (IsPackedText input)
one_packed_text one input p mine bytes m o = o.printed ∙ ap packed_text (one input o.packed m.packed o.placed m.placed) ∙ sym m.printed

one_bundle_listing : OneSpelling → (n : ℕ) (b : Bundle) (mine text : List ℕ) → IsBundleListing n b mine → IsBundleListing n b text
    → text ≡ mine
one_bundle_listing one n b mine text m o =
    o.2 ∙ ap (λ bytes. head_listed n bytes b.template ++ slots_text n b.template b.slots) (one b o.0 m.0 o.1 m.1) ∙ sym m.2

both : (a b c d : List ℕ) → a ≡ b → c ≡ d → a ++ c ≡ b ++ d
both a b c d e f = rw (e, f) refl

one_listing_from : OneSpelling → (n : ℕ) (bs : List Bundle) (mine text : List ℕ) → AreBundleListings n bs mine → AreBundleListings n bs text
    → text ≡ mine
one_listing_from one n [] mine text m o = o ∙ sym m
one_listing_from one n (b ∷ bs) mine text (front, rest, is, head, tail) (front', rest', is', head', tail') =
    is' ∙ both front' front rest' rest (one_bundle_listing one n b front front' head head')
    (one_listing_from one (n + 1) bs rest rest' tail tail') ∙ sym is

one_listing : OneSpelling → MakesOne IsListing
one_listing one p mine text m o = one_listing_from one 0 p.bundles mine text m o

-- A program has one verdict, and an accepted one has one run.
one_judgement : OneVerdict → TellsOne IsJudgement
one_judgement one p mine bytes status other m o =
    let same = one p o.verdict m.verdict o.exact m.exact in
    (o.printed ∙ ap verdict_text same ∙ sym m.printed, o.tells ∙ ap verdict_status same ∙ sym m.tells)

one_run : OneVerdict → (text : Printing) (groups : ℕ) → TellsOne (IsRunAnswer text groups)
one_run one text groups p mine bytes status other (inl m) (inl o) = (o.printed ∙ sym m.printed, o.ends ∙ sym m.ends)
one_run one text groups p mine bytes status other (inl m) (inr o) = absurd ((violated_of_judgement p bytes other o.0).0 o.1 m.free)
one_run one text groups p mine bytes status other (inr m) (inl o) = absurd ((violated_of_judgement p mine status m.0).0 m.1 o.free)
one_run one text groups p mine bytes status other (inr m) (inr o) = one_judgement one p mine bytes status other m.0 o.0

-- A program has one run in the order with a number.
one_numbered_run : (groups number : ℕ) → TellsOne (IsNumberedRunAnswer groups number)
one_numbered_run groups number p mine bytes status other m o = (o.printed ∙ sym m.printed, o.ends ∙ sym m.ends)

-- `trial` writes one output for its two numbers.
one_trial : OneVerdict → (seed bundles : ℕ) (mine bytes : List ℕ) (status other : Status) → IsTrialOutput seed bundles mine status
    → IsTrialOutput seed bundles bytes other → (bytes ≡ mine) × (other ≡ status)
one_trial one seed bundles mine bytes Done other m o = after_done other o
  where
    after_done : (other : Status) → IsTrialOutput seed bundles bytes other → (bytes ≡ mine) × (other ≡ Done)
    after_done Done o = (o.printed ∙ sym m.printed, refl)
    after_done Violated o = absurd ((violated_of_judgement (trial_program seed bundles) bytes Violated o).0 refl m.free)
    after_done other o = absurd o
one_trial one seed bundles mine bytes Violated other m o = after_violated other o
  where
    after_violated : (other : Status) → IsTrialOutput seed bundles bytes other → (bytes ≡ mine) × (other ≡ Violated)
    after_violated Done o = absurd ((violated_of_judgement (trial_program seed bundles) mine Violated m).0 refl o.free)
    after_violated Violated o = one_judgement one (trial_program seed bundles) mine bytes Violated Violated m o
    after_violated other o = absurd o
one_trial one seed bundles mine bytes status other m o = absurd m

-- What the laws of the layers below say.
pub record AreOne : Type 0 where
  pub image : ReadsOne as_image
  pub bundles : ReadsOne as_bundles
  pub text : ReadsOne as_text
  pub loose : ReadsOne as_loose
  pub either : ReadsOne as_either
  pub placed : OnePlaced
  pub spelled : OneImage
  pub listed : OneSpelling
  pub judged : OneVerdict

pub are_one : OneProgram → OneRawProgram → OneTextProgram → NoFaultWhereSpelled → NoFaultWhereRaw → NoFaultWhereRead → OneFault
    → OneRawFault → OneTextFault → OneImage → OneSpelling → OneVerdict → OnePlaced → OnePlacingFault → NoFaultWherePlaced → AreOne
are_one program raw_program text_program spelled raw read fault raw_fault text_fault image spelling verdict placed placing_fault unplaced =
    record {
      image = record { gives_one = program; refuses_none = image_refuses_none spelled; refuses_one = image_refuses_one fault };
      bundles = record { gives_one = raw_program; refuses_none = bundles_refuse_none raw; refuses_one = bundles_refuse_one raw_fault };
      text = record { gives_one = text_program; refuses_none = text_refuses_none read; refuses_one = text_refuses_one text_fault };
      loose =
          record {
            gives_one = loose_gives_one placed;
            refuses_none = loose_refuses_none unplaced;
            refuses_one = loose_refuses_one placing_fault;
          };
      either =
          record {
            gives_one = either_gives_one program text_program;
            refuses_none = either_refuses_none spelled read;
            refuses_one = either_refuses_one fault text_fault;
          };
      placed = placed;
      spelled = image;
      listed = spelling;
      judged = verdict;
    }

one_run_output : AreOne → (text : Printing) (groups : ℕ) (input mine bytes : List ℕ) (status other : Status)
    → IsRunAs text groups as_either input mine status → IsRunAs text groups as_either input bytes other
    → (bytes ≡ mine) × (other ≡ status)
one_run_output one text groups input mine bytes status other m o =
    one_told as_either (IsRunAnswer text groups) (one_run one.judged text groups) one.either input mine bytes status other
    (told_of_run text groups as_either input mine status m) (told_of_run text groups as_either input bytes other o)

one_command_output : AreOne → (c : Command) (ws : List WatchState) (input mine bytes : List ℕ) (status other : Status)
    → IsCommandOutput c ws input mine status → IsCommandOutput c ws input bytes other → (bytes ≡ mine) × (other ≡ status)
one_command_output one command.Build ws input mine bytes status other m o =
    one_made as_text Written (one_image one.spelled) one.text input mine bytes status other m o
one_command_output one command.Stops ws input mine bytes status other m o =
    one_made as_loose (IsPackedText input) (one_packed_text one.placed input) one.loose input mine bytes status other m o
one_command_output one command.Show ws input mine bytes status other m o =
    one_made as_image IsCanonical one_canonical one.image input mine bytes status other m o
one_command_output one command.List ws input mine bytes status other m o =
    one_made as_image IsListing (one_listing one.listed) one.image input mine bytes status other m o
one_command_output one command.Wrap ws input mine bytes status other m o =
    one_made as_bundles Written (one_image one.spelled) one.bundles input mine bytes status other m o
one_command_output one command.Lift ws input mine bytes status other m o =
    one_made as_image (IsImage Two) (λ p mine bytes m o. one.spelled Two p bytes mine o m) one.image input mine bytes status other m o
one_command_output one command.Check ws input mine bytes status other m o =
    one_told as_either IsJudgement (one_judgement one.judged) one.either input mine bytes status other
    (told_of_check as_either input mine status m) (told_of_check as_either input bytes other o)
one_command_output one (command.Run groups) ws input mine bytes status other m o =
    one_run_output one state_after groups input mine bytes status other m o
one_command_output one (command.Watch groups) ws input mine bytes status other m o =
    one_run_output one (watch_text ws) groups input mine bytes status other m o
one_command_output one (command.Trace first count) ws input mine bytes status other m o =
    one_run_output one (trace_text first count) (first + count) input mine bytes status other m o
one_command_output one (command.Groups groups number) ws input mine bytes status other m o =
    one_told as_either (IsNumberedRunAnswer groups number) (one_numbered_run groups number) one.either input mine bytes status other
    (told_of_numbered_run groups number as_either input mine status m) (told_of_numbered_run groups number as_either input bytes other o)
one_command_output one (command.Trial seed bundles) ws input mine bytes status other m o =
    one_trial one.judged seed bundles mine bytes status other m o

one_silent : (s : Status) (mine bytes : List ℕ) (status other : Status) → IsSilent s mine status → IsSilent s bytes other
    → (bytes ≡ mine) × (other ≡ status)
one_silent s mine bytes status other m o = (o.0 ∙ sym m.0, o.1 ∙ sym m.1)

pub one_output : AreOne → OneOutput
one_output one arguments ws input mine bytes status other m o = by_arguments (command_of arguments) m o
  where
    by_length : (c : Command) (long : Bool) → MatchBool long (IsSilent TooLong mine status) (IsCommandOutput c ws input mine status)
        → MatchBool long (IsSilent TooLong bytes other) (IsCommandOutput c ws input bytes other) → (bytes ≡ mine) × (other ≡ status)
    by_length c true m o = one_silent TooLong mine bytes status other m o
    by_length c false m o = one_command_output one c ws input mine bytes status other m o

    by_arguments : (k : Option Command)
        → MatchOption k (IsSilent Words mine status) (λ c. MatchBool (is_too_long c input) (IsSilent TooLong mine status)
        (IsCommandOutput c ws input mine status))
        → MatchOption k (IsSilent Words bytes other) (λ c. MatchBool (is_too_long c input) (IsSilent TooLong bytes other)
        (IsCommandOutput c ws input bytes other)) → (bytes ≡ mine) × (other ≡ status)
    by_arguments None m o = one_silent Words mine bytes status other m o
    by_arguments (Some c) m o = by_length c (is_too_long c input) m o

-- What was written is the only output.
pub only_output : OneOutput → (arguments : List (List ℕ)) (ws : List WatchState) (left old new : Option (List ℕ)) (status : Status)
    → IfSome left (λ input. GivesOutput arguments ws input old new status)
    → IfSome left (λ input. (bytes : List ℕ) (other : Status) → IsOutput arguments ws input bytes other
    → (other ≡ status) × Appends old new bytes)
only_output one arguments ws left old new status given =
    IfSome_then left given (λ input given bytes other o. let same = one arguments ws input given.0 bytes status other given.1 o in
    (same.1, subst (Appends old new) (sym same.0) given.2))
