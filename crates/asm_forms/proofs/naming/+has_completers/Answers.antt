use Rattle.std.proofs.Common.{length, drop, ◌-◌, arith, length-drop}
use Rattle.std.proofs.lemmas.List.{take_all}
use Rattle.asm_forms.proofs.Somes.{one_more}
use Rattle.asm_forms.proofs.naming.+has_completers.Goals as goal

pub returns-in-Some : goal.returns-in-Some
returns-in-Some t c =
    let sets = c.args.sets.now in
    let name = c.args.name.now in
    let w = c.text.result.now in
    one_more sets _ name _ c.in-Some.completer w _ _ _ c.in-len1-up.len_at_least c.members.ensures c.in-Some.ensures.value c.text.ensures
    (take_all (length sets - 1) (drop 1 sets) (omega (arith, length-drop 1 sets)))
    (take_all (length name - length w) (drop (length w) name) (omega (arith, length-drop (length w) name))) c.has_completers.ensures
