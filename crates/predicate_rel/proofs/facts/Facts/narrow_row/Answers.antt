use Rattle.std.proofs.Common.{◌≡◌, ℕ, ◌<◌, ◌∙◌, sym, refl, arith, ◌&&◌, true, length}
use Rattle.predicate_rel.specs.Pairs.{pairs_of, has_bit}
use Rattle.predicate_rel.proofs.Narrowing.{row_same, row_written, row_more}
use Rattle.predicate_rel.proofs.facts.Facts.narrow_row.Goals as goal

pub returns-then-is_within-clause-narrowed : goal.returns-then-is_within-clause-narrowed
returns-then-is_within-clause-narrowed c =
    row_same c.args.self.now c.args.x c.args.row (λ y l t. c.if-is_within.ensures.within y l (c.row-old.ensures y l ∙ t))

pub returns-clause-narrowed : goal.returns-clause-narrowed
returns-clause-narrowed c =
    let sized : length c.self.inside.rows ≡ 64 = omega arith in
    let bits : (y : ℕ) → y < 64 → has_bit c.both.result y ≡ (pairs_of c.self.inside.rows c.args.x y && has_bit c.args.row y) =
    λ y l. c.both.ensures y ∙ (rw (c.row-old.ensures y l, c.self.view_is) refl) in
    rw (← c.self.view_is) (row_written c.self.inside.rows c.args.x c.both.result c.args.row sized c.requires bits)

pub returns-clause-more : goal.returns-clause-more
returns-clause-more c =
    let sized : length c.self.inside.rows ≡ 64 = omega arith in
    let bits : (y : ℕ) → y < 64 → has_bit c.both.result y ≡ (pairs_of c.self.inside.rows c.args.x y && has_bit c.args.row y) =
    λ y l. c.both.ensures y ∙ (rw (c.row-old.ensures y l, c.self.view_is) refl) in
    let found = c.if-is_within.ensures.more in
    let there : pairs_of c.self.inside.rows c.args.x found.0 ≡ true =
    rw (c.self.view_is) (sym (c.row-old.ensures found.0 found.1) ∙ found.2) in
    rw (← c.self.view_is) (row_more c.self.inside.rows c.args.x c.both.result c.args.row found.0 sized c.requires found.1 bits there
    found.3)
