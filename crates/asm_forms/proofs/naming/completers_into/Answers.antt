use Rattle.std.proofs.Common.{◌∙◌, sym, ap, length, length-drop, arith}
use Rattle.std.proofs.lemmas.List.{drop_more}
use Rattle.asm_forms.proofs.Pushed.{turn, ended}
use Rattle.asm_forms.proofs.naming.completers_into.Goals as goal

pub loop-set-preserved : goal.loop-set-preserved
loop-set-preserved c = record {
  room = omega (arith, c.push.ensures.len, c.loop-set.invariant.room);
  within =
      omega (
        arith,
        c.in-Some.ensures.room,
        ap length c.rest_of.ensures,
        ap length c.text.ensures,
        length-drop c.loop-set.at c.args.name.now,
        c.loop-set.invariant.within,
      );
  value =
      turn _ _ _ _ c.args.name.now _ c.loop-set.at _ _ c.in-Some.completer _
      (drop_more c.args.sets.now c.loop-set.set-index _ c.loop-set-test.true) c.members.ensures c.rest_of.ensures
      (sym c.in-Some.is ∙ c.find_completer.ensures.value) c.push.ensures.items c.text.ensures
      ∙ c.loop-set.invariant.value;
}

pub returns-then-at-name-clause-others : goal.returns-then-at-name-clause-others
returns-then-at-name-clause-others c given =
    sym (ended c.args.sets.now c.loop-set.set-index c.loop-set.at c.args.name.now c.loop-set.list.items _ c.loop-set-test.false
    (omega (arith, c.loop-set.invariant.within, c.if-at-name.true)) c.loop-set.invariant.value)
