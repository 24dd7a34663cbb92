-- The sum of what registers hold, one register after the other.
use Rattle.std.proofs.Common.{◌≡◌, ℕ, ◌+◌, ◌-◌, ◌%◌, ◌^◌, ◌≤◌, map, sym, ap, ◌∙◌, arith}
use Rattle.std.specs.Prelude.{sum_by}
use Rattle.std.specs.List.{range_with_len}
use Rattle.std.proofs.Math.Nat.{mod-add-mod}
use Rattle.std.proofs.lemmas.List.FromFn.{sum_by-map-range_with_len_more}
use Rattle.ia_meaning.specs.State.{Registers}
use Rattle.ia_meaning.specs.Names.{look}
use Rattle.ia64_top.specs.Trials.{value_of}

-- The sum of what n registers from r8 on hold, modulo 2 to the power of 64.
abbrev pub sum_of : Registers → ℕ → ℕ
sum_of r count = sum_by value_of (map (look r) (range_with_len 8 count)) % 2 ^ 64

pub one_register_more : (r : Registers) (n sum new : ℕ) → 8 ≤ n → sum ≡ sum_of r (n - 8) → new ≡ (sum + value_of (look r n)) % 2 ^ 64
    → new ≡ sum_of r (n + 1 - 8)
one_register_more r n sum new least before after =
    let next : n - 8 + 1 ≡ n + 1 - 8 = omega (arith, least) in
    let total : ℕ = sum_by value_of (map (look r) (range_with_len 8 (n - 8))) in
    after ∙ ap (λ (s : ℕ). (s + value_of (look r n)) % 2 ^ 64) before ∙ mod-add-mod total (2 ^ 64) (value_of (look r n))
    ∙ ap (λ (s : ℕ). s % 2 ^ 64) (sym (sum_by-map-range_with_len_more value_of (look r) 8 (n - 8) n (omega (arith, least))))
    ∙ ap (sum_of r) next
