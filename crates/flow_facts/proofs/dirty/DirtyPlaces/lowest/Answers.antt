use Rattle.std.proofs.Common.{◌≡◌, ℕ, ◌+◌, ◌*◌, ◌/◌, get_or, refl, sym, ap, ◌∙◌, arith, inl, inr}
use Rattle.std.proofs.lemmas.Bool.{cases_lt}
use Rattle.std.proofs.lemmas.List.{get_or_default, get_or_past}
use Rattle.predicate_rel.specs.Pairs.{has_bit}
use Rattle.flow_facts.proofs.Words.{kept_unmarked, region_clear, first_kept}
use Rattle.flow_facts.proofs.dirty.DirtyPlaces.lowest.Goals as goal
use Rattle.flow_facts.proofs.dirty.DirtyPlaces.lowest.Goals.{else-n-len-via-then-n-len+else-index-ne0, else-n-len-via-else-n-len}

pub looking-preserved : goal.looking-preserved
looking-preserved c =
    let rows = c.looking.self-inside.rows.items in
    let n = 64 * (64 * c.looking.self-inside.low + c.first.result) + c.first-in-looking.result in
    let zero : get_or rows n 0 ≡ 0 = elim c.else-n-len.branch [
      | else-n-len-via-then-n-len+else-index-ne0 w ↦ get_or_default rows n 0 w.index.result.now (omega (arith, w.if-n-len.true))
          ∙ sym w.index.ensures ∙ w.if-index-ne0.false
      | else-n-len-via-else-n-len w ↦ get_or_past rows n 0 (omega (arith, w.if-n-len.false))
    ] in
    record {
      same = c.looking.invariant.same;
      kept =
          kept_unmarked rows rows c.looking.self-inside.blocks.items c.unmark-in-looking.new.words.items c.looking.self-inside.regions.items
          c.looking.self-inside.low n
          refl (λ k far. refl) zero c.unmark-in-looking.ensures.same_length c.unmark-in-looking.ensures.marks
          c.unmark-in-looking.ensures.at_most c.looking.invariant.kept;
    }

pub returns-then-index-ne0-clause-lowest : goal.returns-then-index-ne0-clause-lowest
returns-then-index-ne0-clause-lowest c =
    let rows = c.looking.self-inside.rows.items in
    let blocks = c.looking.self-inside.blocks.items in
    let regions = c.looking.self-inside.regions.items in
    let low = c.looking.self-inside.low in
    let kept = c.looking.invariant.kept in
    let n = 64 * (64 * low + c.first.result) + c.first-in-looking.result in
    rw (← c.self.view_is, ← c.looking.invariant.same) (record {
      is =
          λ e. c.if-index-ne0.true (c.index.ensures ∙ sym (get_or_default rows n 0 c.index.result.now (omega (arith, c.if-n-len.true)))
          ∙ e);
      none_below =
          first_kept rows blocks regions low c.first.result c.first-in-looking.result kept c.first.ensures.range
          c.first-in-looking.ensures.range
          (λ y l. ap (λ (w : ℕ). has_bit w y) (get_or_default regions low 0 c.index-blocks.result.now (omega (arith, c.looking-test.true))
          ∙ sym c.index-blocks.ensures) ∙ c.first.ensures.none_below y l)
          (λ y l. ap (λ (w : ℕ). has_bit w y) (get_or_default blocks (64 * low + c.first.result) 0 c.index-places.result.now
          (omega (arith, kept.full, c.looking-test.true, c.first.ensures.range)) ∙ sym c.index-places.ensures)
          ∙ c.first-in-looking.ensures.none_below y l);
    })

pub returns-clause-lowest : goal.returns-clause-lowest
returns-clause-lowest c n =
    let rows = c.looking.self-inside.rows.items in
    let regions = c.looking.self-inside.regions.items in
    let clear : get_or regions (n / 64 / 64) 0 ≡ 0 = elim (cases_lt (n / 64 / 64) c.looking.self-inside.low) [
      | inl l ↦ c.looking.invariant.kept.below (n / 64 / 64) l
      | inr past ↦ get_or_past regions (n / 64 / 64) 0 (omega (arith, c.looking-test.false))
    ] in
    rw (← c.self.view_is, ← c.looking.invariant.same) (region_clear rows c.looking.self-inside.blocks.items regions
    c.looking.self-inside.low n c.looking.invariant.kept clear)
