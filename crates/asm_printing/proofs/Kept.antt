-- What stood before something was appended still stands.
use Rattle.std.proofs.Common.{◌≡◌, ◌∙◌, ℕ, List, ◌++◌, length, take, drop, ap, sym, append_assoc}
use Rattle.std.specs.Io.{StartsWith}
use Rattle.std.proofs.lemmas.List.{take-append-drop}
use Rattle.std.proofs.Math.Seq.{take-append_seam}

-- What starts with a longer text starts with its beginning.
pub kept_before : (after between before end : List ℕ) → between ≡ before ++ end → StartsWith after between → StartsWith after before
kept_before after between before end h k =
    let m = length between in
    let split : after ≡ before ++ (end ++ drop m after) =
    sym (take-append-drop m after) ∙ ap (λ x. x ++ drop m after) (k ∙ h) ∙ append_assoc before end (drop m after) in
    ap (take (length before)) split ∙ take-append_seam before (end ++ drop m after)
