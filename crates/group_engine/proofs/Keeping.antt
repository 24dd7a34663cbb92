-- Keeping writes: one list after another, and what they leave of the registers that steer branches.
use Rattle.std.proofs.Common.{◌≡◌, ℕ, List, [], ◌∷◌, ◌++◌, length, refl, append_assoc}
use Rattle.std.proofs.lemmas.List.{append-nil}
use Rattle.ia_meaning.specs.declared.write.Write.{Write}
use Rattle.ia_meaning.specs.declared.write.Write.TheVariants.{SetStatic, SetCell, SetPredicate, SetBranch, SetUnat, SetPfs, SetLc, SetEc, SetFrame}
use Rattle.ia_meaning.specs.State.{Registers}
use Rattle.ia_meaning.specs.Writes.{put, apply}
use Rattle.ia_meaning.specs.WriteOrders.{arranged}
use Rattle.ia_meaning.specs.NumberedRuns.{order}
use Rattle.group_engine.specs.declared.branch_inputs.BranchInputs.{BranchInputs}
use Rattle.group_engine.specs.Kept.{branch_inputs_of, branch_inputs_with, branch_inputs_after, Kept, keeping}
use Rattle.group_engine.proofs.Arranging.{unmoved}

-- What some writes leave and then more of them.
steered_on : (vs ws : List Write) (s : BranchInputs) → branch_inputs_after ws (branch_inputs_after vs s) ≡ branch_inputs_after (vs ++ ws) s
steered_on [] ws s = refl
steered_on (v ∷ vs) ws s = steered_on vs ws (branch_inputs_with v s)

-- Keeping some writes and then more of them keeps them all.
pub kept_on : (vs ws : List Write) (k : Kept) → keeping ws (keeping vs k) ≡ keeping (vs ++ ws) k
kept_on vs ws k = rw (append_assoc, steered_on vs ws k.latest) refl

-- Keeping none changes nothing.
pub kept_none : (k : Kept) → keeping [] k ≡ k
kept_none k = rw append-nil refl

-- One write.
steered_by : (w : Write) (r : Registers) → branch_inputs_with w (branch_inputs_of r) ≡ branch_inputs_of (put w r)
steered_by (SetStatic n c) r = refl
steered_by (SetCell n c) r = refl
steered_by (SetPredicate n b) r = refl
steered_by (SetBranch n v) r = refl
steered_by (SetUnat v) r = refl
steered_by (SetPfs v) r = refl
steered_by (SetLc v) r = refl
steered_by (SetEc v) r = refl
steered_by (SetFrame cause f) r = refl

steered : (ws : List Write) (r : Registers) → branch_inputs_after ws (branch_inputs_of r) ≡ branch_inputs_of (apply ws r)
steered [] r = refl
steered (w ∷ ws) r = rw (steered_by w r) (steered ws (put w r))

-- What the writes leave of the registers that steer branches is what they leave of all registers.
pub latest_kept : (ws : List Write) (k : Kept) (r : Registers) → k.latest ≡ branch_inputs_of r
    → (keeping ws k).latest ≡ branch_inputs_of (apply ws r)
latest_kept ws k r e = rw e (steered ws r)

-- Writes that are made in program order, UNAT being set first, leave of them what is kept.
pub left_in_order : (ws : List Write) (r : Registers) (unat number : ℕ) → number ≡ 0
    → branch_inputs_of (apply ws r) ≡ branch_inputs_of (apply (arranged (order number (length ws)) ws) (record r { unat = unat }))
left_in_order ws r unat number none = rw (none, unmoved ws (length ws) refl, ← steered ws r, ← steered ws (record r { unat = unat })) refl
