-- The completers of a mnemonic: how they are written, what they say, and which may stand at one position (volume 3, chapter 2,
-- the completers of each instruction).
use Rattle.std.specs.Prelude.{ℕ, true, false, List, [], ◌∷◌, codes}
use Rattle.asm_forms.specs.declared.completer.Suffix.{Suffix}
use Rattle.asm_forms.specs.declared.completer.Suffix.TheVariants as s
use Rattle.asm_forms.specs.declared.completer.Said.{Said}
use Rattle.asm_forms.specs.declared.completer.Said.TheVariants.{Nothing, Flag, Small, Relation, Compare, Lane, Shift, Load, Store, Branch, Unit as InUnit, NoUnit}
use Rattle.asm_forms.specs.declared.completer.Completer.{Completer}
use Rattle.asm_forms.specs.declared.completer.CompleterSet.{CompleterSet}
use Rattle.asm_forms.specs.declared.completer.CompleterSet.TheVariants as set
use Rattle.ia_insn.specs.declared.choices.Rel.TheVariants as rel
use Rattle.ia_insn.specs.declared.choices.CmpKind.TheVariants as cmp
use Rattle.ia_insn.specs.declared.choices.LaneFn.TheVariants as lane
use Rattle.ia_insn.specs.declared.choices.ShiftFn.TheVariants as shift
use Rattle.ia_insn.specs.declared.choices.LoadKind.TheVariants as load
use Rattle.ia_insn.specs.declared.choices.StoreKind.TheVariants as store
use Rattle.ia_insn.specs.declared.choices.BranchKind.TheVariants as branch
use Rattle.ia_insn.specs.declared.choices.Unit.TheVariants as unit

-- The text of a suffix, with its dots.
abbrev pub suffix_text : Suffix → List ℕ
suffix_text s.Absent = []
suffix_text s.Eq = codes ".eq"
suffix_text s.Ne = codes ".ne"
suffix_text s.Lt = codes ".lt"
suffix_text s.Le = codes ".le"
suffix_text s.Gt = codes ".gt"
suffix_text s.Ge = codes ".ge"
suffix_text s.Ltu = codes ".ltu"
suffix_text s.Leu = codes ".leu"
suffix_text s.Gtu = codes ".gtu"
suffix_text s.Geu = codes ".geu"
suffix_text s.Unc = codes ".unc"
suffix_text s.And = codes ".and"
suffix_text s.Or = codes ".or"
suffix_text s.OrAndcm = codes ".or.andcm"
suffix_text s.U = codes ".u"
suffix_text s.Z = codes ".z"
suffix_text s.Nz = codes ".nz"
suffix_text s.S = codes ".s"
suffix_text s.A = codes ".a"
suffix_text s.Sa = codes ".sa"
suffix_text s.Nc = codes ".nc"
suffix_text s.Clr = codes ".clr"
suffix_text s.CClr = codes ".c.clr"
suffix_text s.CNc = codes ".c.nc"
suffix_text s.CClrAcq = codes ".c.clr.acq"
suffix_text s.Bias = codes ".bias"
suffix_text s.Acq = codes ".acq"
suffix_text s.Rel = codes ".rel"
suffix_text s.Fill = codes ".fill"
suffix_text s.Spill = codes ".spill"
suffix_text s.Nt1 = codes ".nt1"
suffix_text s.Nta = codes ".nta"
suffix_text s.Ret = codes ".ret"
suffix_text s.Imp = codes ".imp"
suffix_text s.E = codes ".e"
suffix_text s.Cond = codes ".cond"
suffix_text s.Wexit = codes ".wexit"
suffix_text s.Wtop = codes ".wtop"
suffix_text s.Cloop = codes ".cloop"
suffix_text s.Cexit = codes ".cexit"
suffix_text s.Ctop = codes ".ctop"
suffix_text s.Call = codes ".call"
suffix_text s.Sptk = codes ".sptk"
suffix_text s.Spnt = codes ".spnt"
suffix_text s.Dptk = codes ".dptk"
suffix_text s.Dpnt = codes ".dpnt"
suffix_text s.Few = codes ".few"
suffix_text s.Many = codes ".many"
suffix_text s.Pr = codes ".pr"
suffix_text s.M = codes ".m"
suffix_text s.I = codes ".i"
suffix_text s.F = codes ".f"
suffix_text s.B = codes ".b"
suffix_text s.X = codes ".x"

-- The text of a completer.
abbrev pub text_of : Completer → List ℕ
text_of completer = suffix_text completer.suffix

abbrev pub says : Suffix → Said → Completer
says suffix said = record { suffix = suffix; says = said }

-- The completers that may stand at a position: the first with which the name goes on is read, and the first that says it is
-- printed.
abbrev pub members : CompleterSet → List Completer
members (set.Only completer) = completer ∷ []
members set.Relation = says s.Eq (Relation rel.Eq) ∷ says s.Lt (Relation rel.Lt) ∷ says s.Ltu (Relation rel.Ltu) ∷ []
members set.RelationNe = says s.Ne (Relation rel.Eq) ∷ says s.Ge (Relation rel.Lt) ∷ says s.Geu (Relation rel.Ltu) ∷ []
members set.RelationGt = says s.Gt (Relation rel.Lt) ∷ says s.Gtu (Relation rel.Ltu) ∷ []
members set.RelationLe = says s.Le (Relation rel.Lt) ∷ says s.Leu (Relation rel.Ltu) ∷ []
members set.Le = says s.Le (Relation rel.Lt) ∷ []
members set.Gt = says s.Gt (Relation rel.Lt) ∷ []
members set.Equality = says s.Eq (Relation rel.Eq) ∷ says s.Ne (Relation rel.Ne) ∷ []
members set.Order =
    says s.Gt (Relation rel.Gt) ∷ says s.Le (Relation rel.Le) ∷ says s.Ge (Relation rel.Ge) ∷ says s.Lt (Relation rel.Lt) ∷ []
members set.LaneRelation = says s.Eq (Lane lane.PcmpEq) ∷ says s.Gt (Lane lane.PcmpGt) ∷ []
members set.Unc = says s.Unc (Compare cmp.Unc) ∷ says s.Absent (Compare cmp.Normal) ∷ []
members set.TestUnc = says s.Unc (Flag true) ∷ says s.Absent (Flag false) ∷ []
members set.Parallel = says s.And (Compare cmp.And) ∷ says s.OrAndcm (Compare cmp.OrAndcm) ∷ says s.Or (Compare cmp.Or) ∷ []
members set.ShiftU = says s.U (Shift shift.ShrU) ∷ says s.Absent (Shift shift.Shr) ∷ []
members set.U = says s.U (Flag false) ∷ says s.Absent (Flag true) ∷ []
members set.CheckUnit = says s.I (InUnit unit.I) ∷ says s.M (InUnit unit.M) ∷ says s.Absent NoUnit ∷ []
members set.Ret = says s.Ret (Flag true) ∷ says s.Absent (Flag false) ∷ []
members set.MoveWhether = says s.Sptk (Small 0) ∷ says s.Dptk (Small 2) ∷ says s.Absent (Small 1) ∷ []
members set.Imp = says s.Imp (Flag true) ∷ says s.Absent (Flag false) ∷ []
members set.UnitI = says s.I (InUnit unit.I) ∷ []
members set.UnitM = says s.M (InUnit unit.M) ∷ []
members set.LoadType =
    says s.S (Load load.S) ∷ says s.A (Load load.A) ∷ says s.Sa (Load load.Sa) ∷ says s.Bias (Load load.Bias) ∷ says s.Acq
    (Load load.Acq) ∷ says s.CClrAcq (Load load.CClrAcq) ∷ says s.CClr (Load load.CClr) ∷ says s.CNc (Load load.CNc) ∷ says s.Absent
    (Load load.Plain) ∷ []
members set.LoadTypeFill =
    says s.S (Load load.S) ∷ says s.A (Load load.A) ∷ says s.Sa (Load load.Sa) ∷ says s.Bias (Load load.Bias) ∷ says s.Acq
    (Load load.Acq) ∷ says s.CClrAcq (Load load.CClrAcq) ∷ says s.CClr (Load load.CClr) ∷ says s.CNc (Load load.CNc) ∷ says s.Fill
    (Load load.Fill) ∷ says s.Absent (Load load.Plain) ∷ []
members set.LoadHint = says s.Nt1 (Small 1) ∷ says s.Nta (Small 3) ∷ says s.Absent (Small 0) ∷ []
members set.StoreType = says s.Rel (Store store.Rel) ∷ says s.Absent (Store store.Plain) ∷ []
members set.StoreTypeSpill = says s.Rel (Store store.Rel) ∷ says s.Spill (Store store.Spill) ∷ says s.Absent (Store store.Plain) ∷ []
members set.StoreHint = says s.Nta (Small 3) ∷ says s.Absent (Small 0) ∷ []
members set.SemaphoreType = says s.Acq (Flag false) ∷ says s.Rel (Flag true) ∷ []
members set.Cond = says s.Cond Nothing ∷ says s.Absent Nothing ∷ []
members set.Loop =
    says s.Wexit (Branch branch.Wexit) ∷ says s.Wtop (Branch branch.Wtop) ∷ says s.Cloop (Branch branch.Cloop) ∷ says s.Cexit
    (Branch branch.Cexit) ∷ says s.Ctop (Branch branch.Ctop) ∷ []
members set.Whether =
    says s.Sptk (Small 0) ∷ says s.Spnt (Small 1) ∷ says s.Dptk (Small 2) ∷ says s.Dpnt (Small 3) ∷ says s.Absent (Small 0) ∷ []
members set.Prefetch = says s.Few (Flag false) ∷ says s.Many (Flag true) ∷ says s.Absent (Flag false) ∷ []
members set.DeallocClr = says s.Clr (Flag true) ∷ says s.Absent (Flag false) ∷ []
members set.AnyUnit =
    says s.M (InUnit unit.M) ∷ says s.I (InUnit unit.I) ∷ says s.F (InUnit unit.F) ∷ says s.B (InUnit unit.B) ∷ says s.X
    (InUnit unit.X) ∷ says s.Absent NoUnit ∷ []
members set.ShortUnit = says s.M (InUnit unit.M) ∷ says s.I (InUnit unit.I) ∷ says s.F (InUnit unit.F) ∷ says s.B (InUnit unit.B) ∷ []
members set.LongUnit = says s.X (InUnit unit.X) ∷ says s.Absent NoUnit ∷ []
members set.HintUnit = says s.M (InUnit unit.M) ∷ says s.I (InUnit unit.I) ∷ says s.B (InUnit unit.B) ∷ says s.Absent NoUnit ∷ []
