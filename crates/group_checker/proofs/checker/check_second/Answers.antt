use Rattle.std.proofs.Common.{◌≡◌, ◌+◌, ◌*◌, ℕ, length, subst, arith}
use Rattle.ia_program.specs.Places.{place_number}
use Rattle.group_checker.specs.Progress.{HasReported, IsEarlierPair, IsUpTo, pair_bound, second_bound}
use Rattle.group_checker.proofs.Reporting.{none_of_second, second_reported, bounded}
use Rattle.group_checker.proofs.checker.check_second.Goals as goal

pub loop-n-init : goal.loop-n-init
loop-n-init c = record {
  total = omega (arith, c.requires.total);
  shown = c.requires.shown;
  reports =
      λ p u before. bounded p c.args.report.now (IsEarlierPair c.args.window.now c.args.second 0) _ _ (omega arith)
      (none_of_second p c.args.report.now c.args.window.now c.args.second _ before);
}

pub check_pair-requires-clause-room : goal.check_pair-requires-clause-room
check_pair-requires-clause-room c = omega (arith, c.loop-n.invariant.total, c.requires.window, c.requires.place)

pub loop-n-preserved : goal.loop-n-preserved
loop-n-preserved c = record {
  total = omega (arith, c.loop-n.invariant.total, c.in_ok-check_pair.ensures.total);
  shown = c.in_ok-check_pair.ensures.shown;
  reports =
      λ p u before. bounded p c.check_pair.new.report (IsEarlierPair c.args.window.now c.args.second (c.loop-n.n + 1)) _ _ (omega arith)
      (c.in_ok-check_pair.ensures.reports p _ u (c.loop-n.invariant.reports p u before));
}

pub returns : goal.returns
returns c p u before =
    let done : c.loop-n.n ≡ length c.args.window.now = omega arith in
    let P : ℕ → ℕ → Type 0 = λ n b. HasReported p c.loop-n.report (IsEarlierPair c.args.window.now c.args.second n) b in
    bounded p c.loop-n.report (IsUpTo c.args.second) _ _ (omega arith)
    (second_reported p c.loop-n.report c.args.window.now c.args.second _ u.window
    (subst (λ (n : ℕ). P n (second_bound * place_number c.args.second + pair_bound * c.loop-n.n)) done
    (c.loop-n.invariant.reports p u before)))
