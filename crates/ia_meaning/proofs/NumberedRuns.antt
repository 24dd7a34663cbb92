-- Runs whose orders have numbers are runs all at once.
use Rattle.std.proofs.Common.{◌≡◌, ℕ, zero, suc, ◌+◌, ◌-◌, List, [], get_or, refl, sym, ap, ◌∙◌, arith}
use Rattle.ia_program.specs.Programs.{Program}
use Rattle.ia_meaning.specs.State.{State}
use Rattle.ia_meaning.specs.Steps.{Group, Run, event_of, run_by, run_from}
use Rattle.ia_meaning.specs.ParallelGroups.{par_group, code_of, par_run}
use Rattle.ia_meaning.specs.NumberedRuns.{numbered_code, numbered_group, numbered_run, numbered_codes}

-- A group in the order with a number is one with that order's code.
numbered_is : (number : ℕ) (p : Program) (s : State) → numbered_group number p s ≡ par_group p (numbered_code number p s) s
unfolding numbered_group
numbered_is number p s = refl

-- A run goes on in the same way by the same group and the same rest.
same_run : (g h : Group) (number : ℕ) (s : State) (rest other : Run) → g ≡ h → rest ≡ other
    → run_by g (event_of number s.place g) g.end rest ≡ run_by h (event_of number s.place h) h.end other
same_run g h number s rest other e f = rw (e, f) refl

-- From any group on, where the codes from there on are those of the number.
from_group : (n : ℕ) (p : Program) (number at : ℕ) (codes : List (List ℕ)) (s : State)
    → ((i : ℕ) → get_or codes (at + i) [] ≡ get_or (numbered_codes n number p s) i [])
    → run_from (λ each s. numbered_group number p s) (suc at) n s ≡ run_from (λ each s. par_group p (code_of codes each) s) (suc at) n s
from_group zero p number at codes s h = refl
from_group (suc n) p number at codes s h =
    let same : suc at - 1 ≡ at + 0 = omega arith in
    let code : code_of codes (suc at) ≡ numbered_code number p s = ap (λ i. get_or codes i []) same ∙ h 0 in
    let here : numbered_group number p s ≡ par_group p (code_of codes (suc at)) s =
    numbered_is number p s ∙ ap (λ c. par_group p c s) (sym code) in
    let next : (i : ℕ) → get_or codes (suc at + i) [] ≡ get_or (numbered_codes n number p (numbered_group number p s).state) i [] =
    λ i. (let on : suc at + i ≡ at + suc i = omega arith in ap (λ k. get_or codes k []) on ∙ h (suc i)) in
    let rest = from_group n p number (suc at) codes (numbered_group number p s).state next in
    same_run (numbered_group number p s) (par_group p (code_of codes (suc at)) s) (suc at) s _ _ here
    (rest ∙ ap (λ (g : Group). run_from (λ each s. par_group p (code_of codes each) s) (suc (suc at)) n g.state) here)

-- The whole run.
pub numbered_run_is_parallel : (p : Program) (n number : ℕ) (s : State)
    → numbered_run p n number s ≡ par_run p n (numbered_codes n number p s) s
numbered_run_is_parallel p n number s =
    from_group n p number 0 (numbered_codes n number p s) s
    (λ i. (let same : 0 + i ≡ i = omega arith in ap (λ k. get_or (numbered_codes n number p s) k []) same))
