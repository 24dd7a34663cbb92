use Rattle.std.proofs.Common.{rules, ◌≡◌, ◌∙◌, inl, length, vec_len, refl, arith}
use Rattle.image_form.proofs.Spelled.{one_more_read, all_read, bytes_left, first_unspelled}
use Rattle.image_form.proofs.bundles.read_bundles.Goals as goal

pub push-requires : goal.push-requires
push-requires c =
    let count : vec_len c.loop-chunk.bundles ≡ length c.loop-chunk.bundles.items = search rules in
    omega (arith, count, bytes_left _ _ _ c.loop-chunk.invariant.0, c.loop-chunk.invariant.1, c.in-Some.ensures.cases.2)

pub returns-in-Err-clause-fault : goal.returns-in-Err-clause-fault
returns-in-Err-clause-fault c other =
    let count : c.len.result ≡ length c.loop-chunk.bundles.items = search rules in
    inl (
      (c.len.result, c.in-Err.fault),
      refl,
      first_unspelled _ _ _ c.in-Some.chunk.now c.len.result c.in-Err.fault
          c.in-Some.ensures.cases.0 (omega (arith, c.in-Some.ensures.cases.2)) count c.in-Err.ensures.fault c.loop-chunk.invariant.0,
    )

pub loop-chunk-preserved : goal.loop-chunk-preserved
loop-chunk-preserved c = (
  rw c.push.ensures.items (one_more_read _ _ _ c.in-Some.chunk.now c.in-Some.after.now _ c.in-Some.ensures.cases.0 c.in-Some.ensures.cases.1
      c.in-Ok.ensures.found c.loop-chunk.invariant.0),
  c.push.ensures.capacity ∙ c.loop-chunk.invariant.1,
)

pub returns-clause-found : goal.returns-clause-found
returns-clause-found c =
    let none : length c.loop-chunk.rest.now ≡ 0 =
    omega (arith, bytes_left _ _ _ c.loop-chunk.invariant.0, c.requires.whole, c.in_default.ensures.cases) in
    all_read _ _ _ none c.loop-chunk.invariant.0
