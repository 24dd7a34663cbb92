use Rattle.ia_meaning.proofs.Views.{view_plain}
use Rattle.order_laws.proofs.Seeing.{all_see_the_start}
use Rattle.order_laws.proofs.Agreeing.{views_agree}
use Rattle.order_laws.proofs.laws.slots_see_the_start.Goals as goal

pub returns-clause-others : goal.returns-clause-others
returns-clause-others c insn now base e = view_plain insn now base e

pub returns-clause-start : goal.returns-clause-start
returns-clause-start c insn now base = all_see_the_start insn now base

pub returns-clause-agree : goal.returns-clause-agree
returns-clause-agree c = views_agree
