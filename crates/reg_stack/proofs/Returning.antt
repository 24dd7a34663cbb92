-- A return after a call and what the callee calls.
use Rattle.std.proofs.Common.{◌≡◌, ℕ, ◌+◌, ◌-◌, ◌*◌, ◌/◌, ◌%◌, ◌^◌, ◌<◌, ◌≤◌, Bool, true, false, not, if◌then◌else◌, nat_lt, List, [], ◌∷◌, get_or, Option, Some, None, refl, ap, ◌∙◌, arith}
use Rattle.std.specs.Prelude.{IsTrue}
use Rattle.std.proofs.lemmas.List.{get_or-set_other}
use Rattle.std.proofs.lemmas.Bool.Decides.{nat_tests}
use Rattle.ia_meaning.specs.declared.state.Cell.{Cell}
use Rattle.ia_meaning.specs.declared.state.FrameShape.{FrameShape}
use Rattle.ia_meaning.specs.declared.state.Spot.{Spot}
use Rattle.ia_meaning.specs.declared.state.Spot.TheVariants.{Static, Stacked}
use Rattle.ia_meaning.specs.State.{zero_cell, IsFrame}
use Rattle.ia_meaning.specs.Names.{spot, is_stacked, frame_index}
use Rattle.ia_meaning.specs.Frames.{with_sizes, call_frame, frame_marker, marked_frame, is_frame, returned_frame}
use Rattle.ia_meaning.proofs.Starts.{frame_decides}
use Rattle.frame_shapes.specs.declared.fault.StackFault.{StackFault}
use Rattle.frame_shapes.specs.declared.fault.StackFault.TheVariants.{BadFrame, Underflow, StackLimit}
use Rattle.frame_shapes.specs.Faults.{alloc_fault_within, return_fault_within}
use Rattle.reg_stack.specs.Stacks.{StackState, with_cell, entered}
use Rattle.reg_stack.specs.Returning.{StackCall, Set, Alloc, Call, Return, Rotate, Clear, unless_refused, after_call, after_calls, StaysFrom, CallerFindsItsRegisters}
use Rattle.reg_stack.proofs.Resizing.{get_or-resized}

-- ---- a cell below each frame keeps what it holds

-- A place from cell n on, or none of the stack.
abbrev pub IsPlaceFrom : ℕ → Option Spot → Type 0
IsPlaceFrom n None = Unit {0}
IsPlaceFrom n (Some (Static k)) = Unit {0}
IsPlaceFrom n (Some (Stacked k)) = n ≤ k

by_tests : (stacked inside : Bool) (n k r : ℕ) → n ≤ k → IsPlaceFrom n
    (if stacked then (if inside then Some (Stacked k) else None) else Some (Static r))
by_tests true true n k r h = h
by_tests true false n k r h = tt
by_tests false inside n k r h = tt

spot_from : (f : FrameShape) (n r : ℕ) → n ≤ f.base → IsPlaceFrom n (spot f r)
unfolding spot
spot_from f n r h = by_tests (is_stacked r) (nat_lt (r - 32) f.sof) n (f.base + frame_index f (r - 32)) r (omega arith)

kept_by_set : (place : Option Spot) (cells : List Cell) (cell : Cell) (n c : ℕ) → IsPlaceFrom n place → c < n
    → get_or (with_cell cells place cell) c zero_cell ≡ get_or cells c zero_cell
kept_by_set None cells cell n c h k = refl
kept_by_set (Some (Static m)) cells cell n c h k = refl
kept_by_set (Some (Stacked m)) cells cell n c h k = get_or-set_other cells m c cell zero_cell (omega arith)

kept_by_frame : (fault : Option StackFault) (s : StackState) (f : FrameShape) (n c : ℕ)
    → n ≤ (unless_refused fault s (entered s f)).frame.base → c < n
    → get_or (unless_refused fault s (entered s f)).cells c zero_cell ≡ get_or s.cells c zero_cell
kept_by_frame (Some fault) s f n c h k = refl
kept_by_frame None s f n c h k = get_or-resized (f.base + f.sof) s.cells c (omega arith)

kept_by_call : (next : StackCall) (s : StackState) (n c : ℕ) → n ≤ s.frame.base → n ≤ (after_call s next).frame.base → c < n
    → get_or (after_call s next).cells c zero_cell ≡ get_or s.cells c zero_cell
kept_by_call (Set r cell) s n c h j k = kept_by_set (spot s.frame r) s.cells cell n c (spot_from s.frame n r h) k
kept_by_call (Alloc sof sol sor) s n c h j k =
    kept_by_frame (alloc_fault_within s.limit s.frame (with_sizes s.frame sof sol sor)) s (with_sizes s.frame sof sol sor) n c j k
kept_by_call Call s n c h j k = kept_by_frame None s (call_frame s.frame) n c j k
kept_by_call (Return pfm) s n c h j k =
    kept_by_frame (return_fault_within s.limit s.frame.base (marked_frame s.frame.base pfm)) s (returned_frame s.frame.base pfm) n c j k
kept_by_call Rotate s n c h j k = refl
kept_by_call (Clear pred_only) s n c h j k = refl

begins_from : (calls : List StackCall) (s : StackState) (n : ℕ) → StaysFrom n s calls → n ≤ s.frame.base
begins_from [] s n h = h
begins_from (next ∷ rest) s n h = h.0

kept_by_calls : (calls : List StackCall) (s : StackState) (n c : ℕ) → StaysFrom n s calls → c < n
    → get_or (after_calls s calls).cells c zero_cell ≡ get_or s.cells c zero_cell
kept_by_calls [] s n c h k = refl
kept_by_calls (next ∷ rest) s n c h k =
    kept_by_calls rest (after_call s next) n c h.1 k ∙ kept_by_call next s n c h.0 (begins_from rest (after_call s next) n h.1) k

-- ---- the limit stays

limit_unless : (fault : Option StackFault) (s : StackState) (f : FrameShape) → (unless_refused fault s (entered s f)).limit ≡ s.limit
limit_unless (Some fault) s f = refl
limit_unless None s f = refl

limit_after : (next : StackCall) (s : StackState) → (after_call s next).limit ≡ s.limit
limit_after (Set r cell) s = refl
limit_after (Alloc sof sol sor) s =
    limit_unless (alloc_fault_within s.limit s.frame (with_sizes s.frame sof sol sor)) s (with_sizes s.frame sof sol sor)
limit_after Call s = refl
limit_after (Return pfm) s =
    limit_unless (return_fault_within s.limit s.frame.base (marked_frame s.frame.base pfm)) s (returned_frame s.frame.base pfm)
limit_after Rotate s = refl
limit_after (Clear pred_only) s = refl

limit_stays : (calls : List StackCall) (s : StackState) → (after_calls s calls).limit ≡ s.limit
limit_stays [] s = refl
limit_stays (next ∷ rest) s = limit_stays rest (after_call s next) ∙ limit_after next s

-- ---- the frame of a marker

-- The fields of a marker, lowest first.
marker_parts : (sof sol sor gr fr pr : ℕ) → sof < 2 ^ 7 → sol < 2 ^ 7 → sor < 2 ^ 4 → gr < 2 ^ 7 → fr < 2 ^ 7 → pr < 2 ^ 6
    → let m = sof + 2 ^ 7 * sol + 2 ^ 14 * sor + 2 ^ 18 * gr + 2 ^ 25 * fr + 2 ^ 32 * pr in
    (m % 2 ^ 7 ≡ sof) × ((m / 2 ^ 7) % 2 ^ 7 ≡ sol) × ((m / 2 ^ 14) % 2 ^ 4 ≡ sor) × ((m / 2 ^ 18) % 2 ^ 7 ≡ gr)
    × ((m / 2 ^ 25) % 2 ^ 7 ≡ fr) × ((m / 2 ^ 32) % 2 ^ 6 ≡ pr)
marker_parts sof sol sor gr fr pr a b c d e f = (omega arith, omega arith, omega arith, omega arith, omega arith, omega arith)

frame_of : ℕ → ℕ → ℕ → ℕ → ℕ → ℕ → ℕ → FrameShape
frame_of base sof sol sor gr fr pr = record { base = base; sof = sof; sol = sol; sor = sor; rrbs = record { gr = gr; fr = fr; pr = pr } }

same_frame : (base : ℕ) {sof sol sor gr fr pr sof1 sol1 sor1 gr1 fr1 pr1 : ℕ} → sof ≡ sof1 → sol ≡ sol1 → sor ≡ sor1 → gr ≡ gr1 → fr ≡ fr1
    → pr ≡ pr1 → frame_of base sof sol sor gr fr pr ≡ frame_of base sof1 sol1 sor1 gr1 fr1 pr1
same_frame base a b c d e f = cc

marked_again : (base : ℕ) (f : FrameShape) → IsFrame f → marked_frame base (frame_marker f) ≡ record f { base = base }
unfolding marked_frame frame_marker frame_of
marked_again base f h =
    let size =
    h.size in let locals = h.locals in let rotating = h.rotating in let general = h.general in let floating =
    h.floating in let predicates = h.predicates in
    let parts =
    marker_parts f.sof f.sol f.sor f.rrbs.gr f.rrbs.fr f.rrbs.pr (omega arith) (omega arith) (omega arith) (omega arith) (omega arith)
    (omega arith) in
    same_frame base parts.0 parts.1 parts.2 parts.3 parts.4 parts.5

-- ---- the return

no_fault : (bad under over : Bool) → bad ≡ false → under ≡ false → over ≡ false
    → (if bad then Some BadFrame else if under then Some Underflow else if over then Some StackLimit else None) ≡ None
no_fault bad under over a b c = cc

unrefused : (limit base : ℕ) (f : FrameShape) → IsFrame f → f.sol ≤ base → base - f.sol + f.sof ≤ limit
    → return_fault_within limit base f ≡ None
unfolding return_fault_within
unrefused limit base f frame above within =
    let good : IsTrue (is_frame f) = (frame_decides f).1 frame in
    no_fault (not (is_frame f)) (nat_lt base f.sol) (nat_lt limit (base - f.sol + f.sof)) (ap not good) (grind (arith, nat_tests))
    (grind (arith, nat_tests))

at_base : (base : ℕ) (f : FrameShape) → IsFrame f → IsFrame (record f { base = base })
at_base base f h =
    record {
      size = h.size;
      locals = h.locals;
      rotating = h.rotating;
      general = h.general;
      floating = h.floating;
      predicates = h.predicates;
    }

returns_unrefused : (limit base : ℕ) (f : FrameShape) → IsFrame f → base ≡ f.base + f.sol → f.base + f.sof ≤ limit
    → return_fault_within limit base (marked_frame base (frame_marker f)) ≡ None
returns_unrefused limit base f frame is within =
    rw (marked_again base f frame) (unrefused limit base (record f { base = base }) (at_base base f frame) (omega arith) (omega arith))

returned_again : (base : ℕ) (f : FrameShape) → IsFrame f → base ≡ f.base + f.sol → returned_frame base (frame_marker f) ≡ f
returned_again base f frame is =
    let marked = marked_again base f frame in
    let below : base - (marked_frame base (frame_marker f)).sol ≡ f.base = rw marked (omega arith) in
    ap (λ b. marked_frame b (frame_marker f)) below ∙ marked_again f.base f frame

pub caller_finds : CallerFindsItsRegisters
caller_finds s calls stack stays ends =
    let called = after_call s Call in
    let t = after_calls called calls in
    let f = s.frame in
    let frame = stack.frame in
    let size = frame.size in
    let locals = frame.locals in
    let within : f.base + f.sof ≤ t.limit = rw (limit_stays calls called) stack.within in
    let free = returns_unrefused t.limit t.frame.base f frame ends within in
    let after : after_call t (Return (frame_marker f)) ≡ entered t f =
    ap (λ x. unless_refused x t (entered t (returned_frame t.frame.base (frame_marker f)))) free
    ∙ ap (λ x. entered t x) (returned_again t.frame.base f frame ends) in
    record {
      unrefused = free;
      frame = ap (λ (x : StackState). x.frame) after;
      resident = rw after (omega arith);
      cells = λ c h. ap (λ (x : StackState). get_or x.cells c zero_cell) after
          ∙ get_or-resized (f.base + f.sof) t.cells c (omega arith)
          ∙ kept_by_calls calls called (f.base + f.sol) c stays h
          ∙ kept_by_frame None s (call_frame f) (f.base + f.sol) c (omega arith) h;
    }
