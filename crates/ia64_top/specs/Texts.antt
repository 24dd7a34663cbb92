-- What is printed. Every line ends with a line feed.
use Rattle.std.specs.Prelude.{ℕ, List, [], ◌++◌, codes, decimal, flat_map}
use Rattle.ia_insn.specs.RegisterTexts.{gr_text, pr_text, br_text}
use Rattle.ia_program.specs.declared.place.Place.{Place}
use Rattle.ia_program.specs.Texts.{place_text}
use Rattle.ia_meaning.specs.StateText.{line}
use Rattle.resource_sets.specs.declared.access.Resource.{Resource}
use Rattle.resource_sets.specs.declared.access.Resource.TheVariants.{Gr, Pr, Br, Unat, Pfs, Lc, Ec, Cfm}
use Rattle.resource_sets.specs.declared.clashes.Rule.{Rule}
use Rattle.resource_sets.specs.declared.clashes.Rule.TheVariants.{Raw, Waw, War63, AllocFirst, ClearLast}
use Rattle.order_laws.specs.declared.violation.Violation.{Violation}
use Rattle.group_checker.specs.declared.report.Verdict.{Verdict}
use Rattle.group_checker.specs.declared.report.Verdict.TheVariants.{Accepted, Violations}
use Rattle.insn_codec.specs.declared.bundle.SlotFault.TheVariants.{ReservedTemplate, Unlisted}
use Rattle.asm_build.specs.declared.reason.TextError.{TextError}
use Rattle.asm_build.specs.declared.reason.TextError.TheVariants as error
use Rattle.asm_build.specs.Reasons.{reason_text}
use Rattle.image_form.specs.declared.fault.ImageFault.{ImageFault}
use Rattle.image_form.specs.declared.fault.ImageFault.TheVariants.{Short, Magic, Counts, Length, Entry, Bundle}
use Rattle.image_form.specs.declared.fault.ImageFault.TheVariants.{Target, LongRun, Relation, Memory}

abbrev pub rule_text : Rule → List ℕ
rule_text Raw = codes "RAW"
rule_text Waw = codes "WAW"
rule_text War63 = codes "WAR63"
rule_text AllocFirst = codes "ALLOC"
rule_text ClearLast = codes "CLEAR"

abbrev pub resource_text : Resource → List ℕ
resource_text (Gr n) = gr_text n
resource_text (Pr n) = pr_text n
resource_text (Br n) = br_text n
resource_text Unat = codes "unat"
resource_text Pfs = codes "pfs"
resource_text Lc = codes "lc"
resource_text Ec = codes "ec"
resource_text Cfm = codes "cfm"

-- The rule, the resource, and the first and the second place, parted by spaces.
abbrev pub violation_text : Violation → List ℕ
violation_text v =
    rule_text v.rule ++ codes " " ++ resource_text v.resource ++ codes " " ++ place_text v.first ++ codes " "
    ++ place_text v.second

-- The verdict is `accepted`, or how many violations there are, and a line for each that is shown.
abbrev pub verdict_text : Verdict → List ℕ
verdict_text (Accepted p) = line (codes "accepted")
verdict_text (Violations report) =
    line (codes "violations " ++ decimal report.total) ++ flat_map (λ v. line (violation_text v)) report.shown

-- The bundle and the slot of a place.
abbrev pub slot_text : Place → List ℕ
slot_text place = codes "image: bundle " ++ decimal place.bundle ++ codes " slot " ++ decimal place.slot

-- What is printed of an image's fault; of want of memory nothing is.
abbrev pub fault_text : ImageFault → List ℕ
fault_text Short = codes "image: short"
fault_text Magic = codes "image: magic"
fault_text Counts = codes "image: counts"
fault_text Length = codes "image: length"
fault_text (Entry n) = codes "image: entry " ++ decimal n
fault_text (Bundle n ReservedTemplate) = codes "image: bundle " ++ decimal n ++ codes ": template"
fault_text (Bundle n (Unlisted slot)) = slot_text (record { bundle = n; slot = slot }) ++ codes ": unlisted"
fault_text (Target place) = slot_text place ++ codes ": target"
fault_text (LongRun place) = slot_text place ++ codes ": long run"
fault_text (Relation n) = codes "image: relation " ++ decimal n
fault_text Memory = []

abbrev pub refusal_text : ImageFault → List ℕ
refusal_text fault = line (fault_text fault)

-- What is printed of a text's fault; of want of memory nothing is.
abbrev pub text_fault_text : TextError → List ℕ
text_fault_text (error.Fault n reason) = codes "line " ++ decimal n ++ codes ": " ++ reason_text reason
text_fault_text error.Memory = []

abbrev pub text_refusal_text : TextError → List ℕ
text_refusal_text e = line (text_fault_text e)
