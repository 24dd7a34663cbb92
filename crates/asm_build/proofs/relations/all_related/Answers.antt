use Rattle.std.proofs.Common.{rules, ◌≡◌, ◌⊎◌, ◌∙◌, ◌+◌, [], ap, subst, sym, drop}
use Rattle.first_fault.specs.Stages.{ArePassed, IsFirstFault}
use Rattle.ia_program.specs.Programs.{IsEntryOf}
use Rattle.asm_build.specs.declared.reason.TextError.TheVariants as error
use Rattle.asm_build.specs.Relations.{all_related, relation_stages}
use Rattle.asm_build.proofs.RelationFaults.{line_passed, later_fault, next_fault}
use Rattle.asm_build.proofs.Steps.{item_and_rest}
use Rattle.asm_build.proofs.relations.all_related.Goals as goal

pub returns-in_err-relate_by-clause-err : goal.returns-in_err-relate_by-clause-err
returns-in_err-relate_by-clause-err c =
    let IsEntry = IsEntryOf c.args.bundles.now c.args.entries.now in
    let lines = c.args.lines.now in
    let fault : (c.in_err-relate_by.field-0.0 ≡ error.Memory) ⊎ IsFirstFault (relation_stages IsEntry [] lines)
    c.in_err-relate_by.field-0.0 =
    next_fault IsEntry [] c.loop-line.relations.keys lines c.loop-line.line-index c.line-item.result lines c.in_err-relate_by.field-0.0
    c.loop-line-test.true c.line-item.is c.loop-line.invariant.fault c.in_err-relate_by.ensures.err in
    search (rules, fault)

pub loop-line-preserved : goal.loop-line-preserved
loop-line-preserved c =
    let IsEntry = IsEntryOf c.args.bundles.now c.args.entries.now in
    let lines = c.args.lines.now in
    let now = c.loop-line.relations.keys in
    let next = c.relate_by.new.relations.keys in
    let l = c.line-item.result in
    let rest = drop (c.loop-line.line-index + 1) lines in
    let front = item_and_rest lines c.loop-line.line-index l c.loop-line-test.true c.line-item.is in
    let one = c.in_ok-relate_by.ensures.ok in
    let before = c.loop-line.invariant in
    record {
      value = ap (λ rs. all_related rs rest) one.1 ∙ sym (ap (all_related now) front) ∙ before.value;
      passed =
          λ all. before.passed (subst (λ ls. ArePassed (relation_stages IsEntry now ls)) (sym front)
          (line_passed IsEntry now l rest one.0 (subst (λ rs. ArePassed (relation_stages IsEntry rs rest)) one.1 all)));
      fault =
          λ e has. before.fault e (subst (λ ls. IsFirstFault (relation_stages IsEntry now ls) e) (sym front)
          (later_fault IsEntry now l rest e one.0 (subst (λ rs. IsFirstFault (relation_stages IsEntry rs rest) e) one.1 has)));
      good = c.in_ok-relate_by.ensures.good before.good;
    }
