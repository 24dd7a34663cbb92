-- The listing of bundles, one more at a time.
use Rattle.std.proofs.Common.{◌≡◌, refl, ℕ, ◌+◌, ◌<◌, ◌≤◌, List, [], ◌∷◌, ◌++◌, length, take, drop, get_or, append_assoc, subst, arith, length-drop}
use Rattle.std.proofs.lemmas.List.{append-nil, drop_all}
use Rattle.ia_program.specs.Bundles.{Bundle}
use Rattle.insn_codec.specs.Spelling.{IsSpelled}
use Rattle.image_form.specs.Images.{AreSpelled}
use Rattle.image_form.proofs.Spelled.{spelled_length, spelled_first}
use Rattle.asm_build.specs.Listing.{IsBundleListing, AreBundleListings, IsAppended}
use Rattle.asm_build.proofs.Steps.{item_and_rest}

-- Up to the n-th bundle all is listed: what lists the rest makes the listing whole.
abbrev pub IsListedTo : List Bundle → ℕ → List ℕ → List ℕ → Type 0
IsListedTo bundles n old out =
    (rest : List ℕ) → AreBundleListings n (drop n bundles) rest → IsAppended old (out ++ rest) (AreBundleListings 0 bundles)

pub none_listed : (bundles : List Bundle) (out : List ℕ) → IsListedTo bundles 0 out out
none_listed bundles out rest listed = (rest, refl, listed)

pub one_more_listed : (bundles : List Bundle) (n : ℕ) (b : Bundle) (old out new : List ℕ) → n < length bundles → b ≡ get_or bundles n b
    → IsListedTo bundles n old out → IsAppended out new (IsBundleListing n b) → IsListedTo bundles (n + 1) old new
one_more_listed bundles n b old out new h is so (more, grown, listed) rest others =
    let whole : AreBundleListings n (b ∷ drop (n + 1) bundles) (more ++ rest) = (more, rest, refl, listed, others) in
    let there = so (more ++ rest) (rw (item_and_rest bundles n b h is) whole) in
    rw (grown, append_assoc out more rest) there

pub all_listed : (bundles : List Bundle) (n : ℕ) (old out : List ℕ) → length bundles ≤ n → IsListedTo bundles n old out
    → IsAppended old out (AreBundleListings 0 bundles)
all_listed bundles n old out h so =
    let rest : AreBundleListings n (drop n bundles) [] = rw (drop_all n bundles h) refl in
    let whole = so [] rest in
    rw (append-nil out) at whole

-- Where a bundle is left, so are its sixteen bytes.
pub bytes_left : (bundles : List Bundle) (n : ℕ) (rest : List ℕ) → n < length bundles → AreSpelled (drop n bundles) rest → 16 ≤ length rest
bytes_left bundles n rest h spelled =
    omega (arith, h, spelled_length (drop n bundles) rest spelled, length-drop n bundles)

-- The first sixteen are those of the n-th bundle, and the others those of the others.
pub next_spelled : (bundles : List Bundle) (n : ℕ) (b : Bundle) (rest : List ℕ) → n < length bundles → b ≡ get_or bundles n b
    → AreSpelled (drop n bundles) rest → IsSpelled b (take 16 rest) × AreSpelled (drop (n + 1) bundles) (drop 16 rest)
next_spelled bundles n b rest h is spelled =
    spelled_first b (drop (n + 1) bundles) rest (subst (λ (l : List Bundle). AreSpelled l rest) (item_and_rest bundles n b h is) spelled)
