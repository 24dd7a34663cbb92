-- Bundles and their bytes, sixteen a bundle, one after the other.
use Rattle.std.proofs.Common.{◌≡◌, ℕ, zero, suc, ◌+◌, ◌*◌, ◌<◌, ◌≤◌, List, [], ◌∷◌, ◌++◌, length, length-append, take, drop, append_assoc, refl, sym, ap, ◌∙◌, subst, arith}
use Rattle.std.specs.Prelude.{slice_index_or}
use Rattle.std.proofs.Math.Seq.{take-add}
use Rattle.std.proofs.lemmas.List.{append-nil, take_at, drop_at, take_more, take-append-drop, drop-drop, nil_from_length}
use Rattle.ia_program.specs.Templates.{units_of}
use Rattle.ia_program.specs.Bundles.{Bundle, AreBundles}
use Rattle.insn_codec.specs.declared.bundle.SlotFault.{SlotFault}
use Rattle.insn_codec.specs.Spelling.{IsSpelled}
use Rattle.insn_codec.specs.SlotFaults.{HasSlotFault}
use Rattle.insn_codec.specs.Laws as codec
use Rattle.insn_codec.proofs.Slots.{fit_units}
use Rattle.image_form.specs.Images.{AreSpelled}
use Rattle.image_form.specs.Faults.{chunk, IsBundleBytes, IsFirstUnspelled}

pub spelled_length : (bundles : List Bundle) (bytes : List ℕ) → AreSpelled bundles bytes → length bytes ≡ 16 * length bundles
spelled_length [] bytes none = ap length none
spelled_length (b ∷ bs) bytes (front, rest, whole, is, more) =
    let n = spelled_length bs rest more in
    ap length whole ∙ length-append front rest ∙ omega (arith, n, is.are.count)

-- The first sixteen bytes of spelled bundles, and the others.
front_is : (bytes front rest : List ℕ) → bytes ≡ front ++ rest → length front ≡ 16 → take 16 bytes ≡ front
front_is bytes front rest whole size = ap (take 16) whole ∙ take_at front rest 16 size

rest_is : (bytes front rest : List ℕ) → bytes ≡ front ++ rest → length front ≡ 16 → drop 16 bytes ≡ rest
rest_is bytes front rest whole size = ap (drop 16) whole ∙ drop_at front rest 16 size

-- The first bundle has the first sixteen bytes, and the others have the others.
pub spelled_first : (b : Bundle) (bs : List Bundle) (bytes : List ℕ) → AreSpelled (b ∷ bs) bytes
    → IsSpelled b (take 16 bytes) × AreSpelled bs (drop 16 bytes)
spelled_first b bs bytes (front, rest, whole, is, more) = (
  subst (IsSpelled b) (sym (front_is bytes front rest whole is.are.count)) is,
  subst (AreSpelled bs) (sym (rest_is bytes front rest whole is.are.count)) more,
)

-- One bundle more.
pub spelled_push : (bundles : List Bundle) (b : Bundle) (bytes next : List ℕ) → AreSpelled bundles bytes → IsSpelled b next
    → AreSpelled (bundles ++ b ∷ []) (bytes ++ next)
spelled_push [] b bytes next none is = (next, [], rw none (sym (append-nil next)), is, refl)
spelled_push (x ∷ bs) b bytes next (front, rest, whole, is, more) last =
    (front, rest ++ next, ap (λ l. l ++ next) whole ∙ append_assoc front rest next, is, spelled_push bs b rest next more last)

-- Bytes are at most one list of bundles.
pub same_bundles : codec.OneBundle → (bytes : List ℕ) (bs cs : List Bundle) → AreSpelled bs bytes → AreSpelled cs bytes → bs ≡ cs
same_bundles one bytes [] [] h k = refl
same_bundles one bytes [] (c ∷ cs) h k = absurd (let l = spelled_length (c ∷ cs) bytes k in let m = ap length h in omega arith)
same_bundles one bytes (b ∷ bs) [] h k = absurd (let l = spelled_length (b ∷ bs) bytes h in let m = ap length k in omega arith)
same_bundles one bytes (b ∷ bs) (c ∷ cs) (f, r, e, s, more) (g, q, d, t, others) =
    let front : f ≡ g = sym (front_is bytes f r e s.are.count) ∙ front_is bytes g q d t.are.count in
    let rest : r ≡ q = sym (rest_is bytes f r e s.are.count) ∙ rest_is bytes g q d t.are.count in
    let first : b ≡ c = one g b c (subst (IsSpelled b) front s) t in
    let later : bs ≡ cs = same_bundles one q bs cs (subst (AreSpelled bs) rest more) others in
    λ i. first i ∷ later i

-- A list of bundles has at most one spelling.
pub same_bytes : codec.OneSpelling → (bs : List Bundle) (x y : List ℕ) → AreSpelled bs x → AreSpelled bs y → x ≡ y
same_bytes one [] x y h k = h ∙ sym k
same_bytes one (b ∷ bs) x y (f, r, e, s, more) (g, q, d, t, others) =
    e ∙ ap (λ l. l ++ r) (one b f g s t) ∙ ap (λ l. g ++ l) (same_bytes one bs r q more others) ∙ sym d

-- Each sixteen bytes of spelled bundles are a bundle, whatever follows them.
pub spelled_chunk : (bundles : List Bundle) (bytes after : List ℕ) (n : ℕ) → AreSpelled bundles bytes → n < length bundles
    → IsBundleBytes (chunk (bytes ++ after) n)
spelled_chunk [] bytes after n none less = absurd (omega arith)
spelled_chunk (b ∷ bs) bytes after zero (front, rest, whole, is, more) less =
    let e : bytes ++ after ≡ front ++ (rest ++ after) = ap (λ l. l ++ after) whole ∙ append_assoc front rest after in
    (b, subst (IsSpelled b) (sym (front_is (bytes ++ after) front (rest ++ after) e is.are.count)) is)
spelled_chunk (b ∷ bs) bytes after (suc n) (front, rest, whole, is, more) less =
    let e : bytes ++ after ≡ front ++ (rest ++ after) = ap (λ l. l ++ after) whole ∙ append_assoc front rest after in
    let left : rest ++ after ≡ drop 16 (bytes ++ after) = sym (rest_is (bytes ++ after) front (rest ++ after) e is.are.count) in
    let same : chunk (rest ++ after) n ≡ chunk (bytes ++ after) (suc n) =
    ap (λ l. take 16 (drop (16 * n) l)) left ∙ ap (take 16) (drop-drop (16 * n) 16 (bytes ++ after)
    ∙ ap (λ k. drop k (bytes ++ after)) (omega arith)) in
    subst IsBundleBytes same (spelled_chunk bs rest after n more (omega arith))

-- Where each sixteen bytes are a bundle, all are bundles.
pub all_spelled : (bytes : List ℕ) (n : ℕ) → ((k : ℕ) → k < n → IsBundleBytes (chunk bytes k))
    → (bundles : List Bundle) × AreSpelled bundles (take (16 * n) bytes)
all_spelled bytes zero each = ([], refl)
all_spelled bytes (suc n) each =
    let before = all_spelled bytes n (λ k less. each k (omega arith)) in
    let last = each n (omega arith) in
    let whole : take (16 * n) bytes ++ chunk bytes n ≡ take (16 * suc n) bytes =
    sym (take-add (16 * n) 16 bytes) ∙ ap (λ k. take k bytes) (omega arith) in (
      before.0 ++ last.0 ∷ [],
      subst (AreSpelled (before.0 ++ last.0 ∷ [])) whole
          (spelled_push before.0 last.0 (take (16 * n) bytes) (chunk bytes n) before.1 last.1),
    )

-- The instructions of spelled bundles fit their templates.
pub spelled_fit : (bundles : List Bundle) (bytes : List ℕ) → AreSpelled bundles bytes → AreBundles bundles
spelled_fit [] bytes none n = tt
spelled_fit (b ∷ bs) bytes (front, rest, whole, is, more) zero = fit_units (units_of b.template) b.slots is.raw.slots is.slots
spelled_fit (b ∷ bs) bytes (front, rest, whole, is, more) (suc n) = spelled_fit bs rest more n

-- The bundles have been read from the front of the bytes, and the rest is left.
pub record IsReadTo (bytes : List ℕ) (bundles : List Bundle) (rest : List ℕ) : Type 0 where
  pub front : List ℕ
  pub whole : bytes ≡ front ++ rest
  pub spelled : AreSpelled bundles front

pub one_more_read : (bytes : List ℕ) (bundles : List Bundle) (rest next after : List ℕ) (b : Bundle) → next ≡ take 16 rest
    → after ≡ drop 16 rest → IsSpelled b next → IsReadTo bytes bundles rest → IsReadTo bytes (bundles ++ b ∷ []) after
one_more_read bytes bundles rest next after b front back is r = record {
  front = r.front ++ next;
  whole =
      r.whole ∙ ap (λ l. r.front ++ l) (sym (take-append-drop 16 rest) ∙ ap (λ l. l ++ drop 16 rest) (sym front)
      ∙ ap (λ l. next ++ l) (sym back)) ∙ sym (append_assoc r.front next after);
  spelled = spelled_push bundles b r.front next r.spelled is;
}

pub all_read : (bytes : List ℕ) (bundles : List Bundle) (rest : List ℕ) → length rest ≡ 0 → IsReadTo bytes bundles rest
    → AreSpelled bundles bytes
all_read bytes bundles rest none r =
    subst (AreSpelled bundles) (sym (r.whole ∙ ap (λ l. r.front ++ l) (nil_from_length rest none) ∙ append-nil r.front)) r.spelled

-- How many bytes are left.
pub bytes_left : (bytes : List ℕ) (bundles : List Bundle) (rest : List ℕ) → IsReadTo bytes bundles rest
    → length bytes ≡ 16 * length bundles + length rest
bytes_left bytes bundles rest r = ap length r.whole ∙ length-append r.front rest ∙ omega (arith, spelled_length bundles r.front r.spelled)

-- The next sixteen bytes are no bundle.
pub first_unspelled : (bytes : List ℕ) (bundles : List Bundle) (rest next : List ℕ) (n : ℕ) (why : SlotFault) → next ≡ take 16 rest
    → 16 ≤ length rest → n ≡ length bundles → HasSlotFault next why → IsReadTo bytes bundles rest → IsFirstUnspelled bytes n why
first_unspelled bytes bundles rest next n why front long count fault r =
    let size : length r.front ≡ 16 * n = spelled_length bundles r.front r.spelled ∙ omega arith in
    let left : drop (16 * n) bytes ≡ rest = ap (drop (16 * n)) r.whole ∙ drop_at r.front rest (16 * n) size in
    record {
      inside = omega (arith, bytes_left bytes bundles rest r);
      fault = subst (λ (l : List ℕ). HasSlotFault l why) (front ∙ ap (take 16) (sym left)) fault;
      first =
          λ k less. subst (λ (l : List ℕ). IsBundleBytes (chunk l k)) (sym r.whole)
          (spelled_chunk bundles r.front rest k r.spelled (omega arith));
    }

-- One bundle more has been written.
pub one_more_written : (bundles : List Bundle) (n : ℕ) (bytes next : List ℕ) (b : Bundle) → n < length bundles
    → b ≡ slice_index_or bundles n b → IsSpelled b next → AreSpelled (take n bundles) bytes
    → AreSpelled (take (n + 1) bundles) (bytes ++ next)
one_more_written bundles n bytes next b inside is spelled before =
    subst (λ (l : List Bundle). AreSpelled l (bytes ++ next)) (ap (λ x. take n bundles ++ x ∷ []) is ∙ sym (take_more bundles n b inside))
    (spelled_push (take n bundles) b bytes next before spelled)
