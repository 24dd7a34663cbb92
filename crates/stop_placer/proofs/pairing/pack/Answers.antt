use Rattle.std.proofs.Common.{◌≡◌, ◌+◌, ◌-◌, ◌<◌, ◌++◌, ◌∷◌, [], ℕ, List, Option, length, length-append, vec_len, get_or, option_map, rules, refl, sym, ap, ◌∙◌, subst, arith, inr}
use Rattle.std.specs.Bool.{Decides}
use Rattle.std.proofs.lemmas.Option.{slice_get_read}
use Rattle.ia_insn.specs.declared.insn.Insn.{Insn}
use Rattle.ia_meaning.specs.Sequence.{first_of}
use Rattle.flow_facts.specs.Graphs.{over_sequence}
use Rattle.group_checker.specs.declared.window.EarlierSlot.{EarlierSlot}
use Rattle.group_checker.specs.Windows.{IsWindow}
use Rattle.group_checker.proofs.Windowing.{first_window}
use Rattle.sequence_laws.proofs.Rows.{sequence_next_is}
use Rattle.loose_items.specs.declared.item.Item.{Item}
use Rattle.bundling.specs.Bundled.{sequence_of}
use Rattle.stop_placer.specs.declared.packing.Cause.{Cause}
use Rattle.stop_placer.specs.Packings.{Packing}
use Rattle.stop_placer.specs.Packs.{stopped_by, IsPairAt}
use Rattle.stop_placer.proofs.PackFree.{sequence_length}
use Rattle.stop_placer.proofs.PackSteps.{IsPackedSo, packed_first, last_so, next_so, packed_more, past_so, next_takes_one}
use Rattle.stop_placer.proofs.Steps.{IsRight}
use Rattle.stop_placer.proofs.SequenceWindows.{sequence_under_way, open_gap, window_at_next}
use Rattle.stop_placer.proofs.pairing.pack.Goals as goal

pub loop-n-init : goal.loop-n-init
loop-n-init c =
    let s = c.args.text.now in
    let sequence = sequence_of s in
    let is : c.index-items-0.result ≡ get_or s.items 0 c.index-items-0.result =
    c.index-items-0.is ∙ ap (λ (l : List Item). get_or l 0 c.index-items-0.result) c.items-items.ensures in
    let count : length c.in_ok-insns.insns.items ≡ length sequence.insns = ap (length {A = Insn}) c.in_ok-insns.ensures in
    let rows = sequence_length s c.is_loose.ensures in
    let some = c.is_loose.ensures.some in
    let known = c.in_ok-known.ensures.known 0 (omega (arith, rows, some)) in
    let win =
    subst (λ (es : List EarlierSlot). IsWindow (over_sequence sequence) (stopped_by c.begun_with-packing.result.causes) es (first_of 0))
    (sym c.new-window.ensures) (first_window (over_sequence sequence) (stopped_by c.begun_with-packing.result.causes)) in
    let u =
    sequence_under_way sequence c.in_ok-insns.insns.items (stopped_by c.begun_with-packing.result.causes) c.new-window.result 0
    c.index.result.now c.slot_of-first.result c.accesses_for-accesses.result c.in_ok-insns.ensures (omega (arith, count, rows, some))
    c.index.ensures (open_gap c.begun_with-packing.result.causes 0
    (omega (arith, ap (λ (k : Packing). length k.causes) c.begun_with-packing.ensures))) c.slot_of-first.ensures
    c.accesses_for-accesses.ensures win in
    record {
      so = subst (IsPackedSo s 1) (sym c.begun_with-packing.ensures) (packed_first s c.index-items-0.result some is);
      room = rw c.begun_with-packing.ensures (omega arith);
      window = λ inside. c.in_ok-move_on.ensures (over_sequence sequence) (stopped_by c.begun_with-packing.result.causes) (first_of 1)
          (rw (c.at.ensures, c.sequence_place.ensures) known) (rw c.sequence_place.ensures u)
          (rw c.sequence_place.ensures (sequence_next_is sequence.insns 0 inside));
    }

pub index-requires-in-loop-n : goal.index-requires-in-loop-n
index-requires-in-loop-n c =
    let count : vec_len c.in_ok-insns.insns ≡ length c.in_ok-insns.insns.items = search rules in
    omega (
      arith,
      count,
      ap (length {A = Insn}) c.in_ok-insns.ensures,
      sequence_length c.args.text.now c.is_loose.ensures,
      ap (length {A = Item}) c.items-items.ensures,
      c.loop-n-test.true,
    )

pub at-requires-in-loop-n : goal.at-requires-in-loop-n
at-requires-in-loop-n c =
    omega (
      arith,
      c.in_ok-known.ensures.count,
      sequence_length c.args.text.now c.is_loose.ensures,
      ap (length {A = Item}) c.items-items.ensures,
      c.loop-n-test.true,
    )

pub returns-then-closed_count-eq-BUNDLE_LIMIT-clause-fault : goal.returns-then-closed_count-eq-BUNDLE_LIMIT-clause-fault
returns-then-closed_count-eq-BUNDLE_LIMIT-clause-fault c =
    let s = c.args.text.now in
    let sequence = sequence_of s in
    let n = c.loop-n.n in
    let k = c.loop-n.packing in
    let so = c.loop-n.invariant.so in
    let before = c.index-items-n.result in
    let item = c.index-items-n-in-loop-n.result in
    let rows = sequence_length s c.is_loose.ensures in
    let inside : n < length s.items = omega (arith, ap (length {A = Item}) c.items-items.ensures, c.loop-n-test.true) in
    let count : length c.in_ok-insns.insns.items ≡ length sequence.insns = ap (length {A = Insn}) c.in_ok-insns.ensures in
    let is : item ≡ get_or s.items n item = c.index-items-n-in-loop-n.is ∙ ap (λ (l : List Item). get_or l n item) c.items-items.ensures in
    let was : before ≡ get_or s.items (n - 1) before =
    c.index-items-n.is ∙ ap (λ (l : List Item). get_or l (n - 1) before) c.items-items.ensures in
    let last = last_so s n k so before (n - 1) (omega (arith, c.loop-n.auto.n)) was in
    let u =
    sequence_under_way sequence c.in_ok-insns.insns.items (stopped_by k.causes) c.loop-n.window n c.index-in-loop-n.result.now
    c.slot_of-slot.result c.accesses_for-masks.result c.in_ok-insns.ensures (omega (arith, count, rows, inside))
    c.index-in-loop-n.ensures (open_gap k.causes n (omega (arith, so.gaps))) c.slot_of-slot.ensures c.accesses_for-masks.ensures
    (c.loop-n.invariant.window (omega (arith, rows, inside))) in
    let right : IsRight s k before c.is_pair-pair.result = λ unwritten.
    subst (λ (m : ℕ). Decides c.is_pair-pair.result (IsPairAt s k.causes m)) (sym so.gaps)
    (c.is_pair-pair.ensures unwritten (over_sequence sequence) (stopped_by k.causes) (first_of n) u) in
    let full =
    ap (λ (q : Packing). length q.closed) (sym c.in_ok-next.ensures) ∙ sym c.closed_count.ensures
    ∙ c.if-closed_count-eq-BUNDLE_LIMIT.true in
    inr (record {
      n = n;
      past = past_so s n k so before item c.is_pair-pair.result last (next_so s n k so item inside is) right c.loop-n.invariant.room full;
      line = item.line;
      there = ap (option_map (λ (i : Item). i.line)) (slice_get_read s.items (length s.items) n item refl inside is);
      is = refl;
    })

pub loop-n-preserved : goal.loop-n-preserved
loop-n-preserved c =
    let s = c.args.text.now in
    let sequence = sequence_of s in
    let n = c.loop-n.n in
    let k = c.loop-n.packing in
    let so = c.loop-n.invariant.so in
    let before = c.index-items-n.result in
    let item = c.index-items-n-in-loop-n.result in
    let rows = sequence_length s c.is_loose.ensures in
    let inside : n < length s.items = omega (arith, ap (length {A = Item}) c.items-items.ensures, c.loop-n-test.true) in
    let count : length c.in_ok-insns.insns.items ≡ length sequence.insns = ap (length {A = Insn}) c.in_ok-insns.ensures in
    let is : item ≡ get_or s.items n item = c.index-items-n-in-loop-n.is ∙ ap (λ (l : List Item). get_or l n item) c.items-items.ensures in
    let was : before ≡ get_or s.items (n - 1) before =
    c.index-items-n.is ∙ ap (λ (l : List Item). get_or l (n - 1) before) c.items-items.ensures in
    let last = last_so s n k so before (n - 1) (omega (arith, c.loop-n.auto.n)) was in
    let pair = c.is_pair-pair.result in
    let new = c.next.new.self in
    let one = next_takes_one k before item pair in
    let causes : new.causes ≡ k.causes ++ one.gap ∷ [] = ap (λ (q : Packing). q.causes) c.in_ok-next.ensures ∙ one.causes in
    let gaps : length new.causes ≡ n = ap (length {A = Option Cause}) causes ∙ length-append k.causes (one.gap ∷ []) ∙ so.gaps in
    let here = c.loop-n.invariant.window (omega (arith, rows, inside)) in
    let u =
    sequence_under_way sequence c.in_ok-insns.insns.items (stopped_by k.causes) c.loop-n.window n c.index-in-loop-n.result.now
    c.slot_of-slot.result c.accesses_for-masks.result c.in_ok-insns.ensures (omega (arith, count, rows, inside))
    c.index-in-loop-n.ensures (open_gap k.causes n (omega (arith, so.gaps))) c.slot_of-slot.ensures c.accesses_for-masks.ensures here in
    let right : IsRight s k before pair = λ unwritten.
    subst (λ (m : ℕ). Decides pair (IsPairAt s k.causes m)) (sym so.gaps)
    (c.is_pair-pair.ensures unwritten (over_sequence sequence) (stopped_by k.causes) (first_of n) u) in
    let parted =
    window_at_next sequence k.causes one.gap (n - 1) n c.loop-n.window c.is_stopped.result (omega (arith, c.loop-n.auto.n))
    (omega (arith, so.gaps)) (omega (arith, rows, inside)) here
    (c.is_stopped.ensures ∙ ap (λ (l : List (Option Cause)). stopped_by l (first_of (n - 1))) causes) in
    let win =
    subst (λ (l : List (Option Cause)). IsWindow (over_sequence sequence) (stopped_by l) c.part.new.window (first_of n)) (sym causes)
    (subst (λ (es : List EarlierSlot). IsWindow (over_sequence sequence) (stopped_by (k.causes ++ one.gap ∷ [])) es (first_of n))
    (sym c.part.ensures) parted) in
    let under =
    sequence_under_way sequence c.in_ok-insns.insns.items (stopped_by new.causes) c.part.new.window n c.index-in-loop-n.result.now
    c.slot_of-slot.result c.accesses_for-masks.result c.in_ok-insns.ensures (omega (arith, count, rows, inside))
    c.index-in-loop-n.ensures (open_gap new.causes n (omega (arith, gaps))) c.slot_of-slot.ensures c.accesses_for-masks.ensures win in
    let known = c.in_ok-known.ensures.known n (omega (arith, rows, inside)) in
    record {
      so =
          subst (IsPackedSo s (n + 1)) (sym c.in_ok-next.ensures) (packed_more s n k so before item pair last
          (next_so s n k so item inside is) right);
      room =
          omega (
            arith,
            one.closed,
            ap (λ (q : Packing). length q.closed) c.in_ok-next.ensures,
            c.loop-n.invariant.room,
            c.closed_count.ensures,
            c.if-closed_count-eq-BUNDLE_LIMIT.false,
          );
      window = λ more. c.in_ok-move_on-2.ensures (over_sequence sequence) (stopped_by new.causes) (first_of (n + 1))
          (rw (c.at-in-loop-n.ensures, c.sequence_place-in-loop-n.ensures) known) (rw c.sequence_place-in-loop-n.ensures under)
          (rw c.sequence_place-in-loop-n.ensures (sequence_next_is sequence.insns n more));
    }
